-- `Load::next_pair` meets its contract: a leaf with one pair less after it, or nothing.
use native.Mathlib.Omega.{arith}
use Prim.Native.Nat.{ℕ, suc, ◌-◌}
use mathlib.Core.Path.{◌≡◌, ap}
use Rattle.loads.specs.Files.{pairs_text}
use Rattle.load_texts.specs.Texts.{parameters_for}
use Rattle.load_files.specs.Pending.{to_come}
use Rattle.load_files.proofs.Load.next_pair.Goals as goal

pub returns : goal.returns
unfolding to_come
returns c =
    let l = c.args.self in
    let one : suc (l.left - 1) ≡ l.left = omega (arith, c.if-self-eq0.false) in
    ap (λ (n : ℕ). pairs_text (parameters_for l.setting) n l.state) one
