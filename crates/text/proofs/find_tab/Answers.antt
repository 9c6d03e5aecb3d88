-- `text::find_tab` meets its contract.
use Rattle.std.proofs.Common.{◌≡◌, ◌+◌, ap, ◌∙◌, arith, drop}
use Rattle.std.proofs.lemmas.Grind.{common_steps}
use Rattle.text.proofs.Bytes.{until_tab_lem, until_past}
use Rattle.text.proofs.find_tab.Goals as goal

pub returns-in-Some : goal.returns-in-Some
returns-in-Some c =
    let rest : c.in-Some.rest.now ≡ drop c.args.from c.args.line.now = c.in-Some.ensures.lookup.0.2 ∙ grind (arith, common_steps) in
    ap (λ n. c.args.from + n) (c.unwrap_or.ensures ∙ rw (c.first_tab.ensures, rest) (until_tab_lem _))

pub returns-in-None : goal.returns-in-None
returns-in-None c = omega (arith, c.in-None.ensures.lookup.0, until_past c.args.line.now c.args.from)
