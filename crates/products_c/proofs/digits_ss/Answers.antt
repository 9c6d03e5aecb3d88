-- `products_c::digits_ss` meets its contract: that of the function it calls, with the base of b.
use mathlib.Core.Path.{sym, ◌∙◌, ap, subst}
use Rattle.digits.specs.declared.Base.{Base}
use Rattle.digits.specs.Bases.{IsBase, AllInReach}
use Rattle.digits.specs.Digits.{row_digits}
use Rattle.digits.proofs.Bases.{is_base}
use Rattle.products_c.proofs.digits_ss.Goals as goal

pub write_row-requires : goal.write_row-requires
write_row-requires c =
    let s = c in
    record {
      base = subst (λ (x : Base). IsBase x × AllInReach x.b s.args.s.now) (sym c.new.ensures) (is_base s.args.b s.requires.0 s.requires.1, s.requires.2);
      row_len = s.requires.3;
    }

pub returns : goal.returns
returns c =
    let n = c in
    let a = n.args in
    c.write_row.ensures ∙ ap (λ (x : Base). row_digits x.b a.k a.s.now) n.new.ensures
