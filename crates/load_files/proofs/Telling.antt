-- What is due, told: a line, or nothing.
use mathlib.Core.Path.{◌≡◌, refl, sym, ◌∙◌}
use mathlib.Core.Bool.{true}
use mathlib.Core.List.{List, [], ◌++◌}
use Prim.Native.Nat.{ℕ}
use lib.ListN.{take}
use Rattle.load_files.specs.Pending.{to_come, is_over}
use Rattle.load_files.specs.declared.Pending.{Pending}
use Rattle.load_files.specs.declared.Pending.TheVariants as Dues

pub nothing-comes : (q : Pending) → is_over q ≡ true → to_come q ≡ []
unfolding is_over to_come
nothing-comes (Dues.Refusal line number) o = cc
nothing-comes (Dues.Param l) o = cc
nothing-comes (Dues.Matrix l) o = cc
nothing-comes (Dues.First l) o = cc
nothing-comes (Dues.Leaf l) o = cc
nothing-comes (Dues.Challenge l) o = cc
nothing-comes Dues.Nothing o = refl

-- where nothing was written and nothing is due, nothing was to come
pub none_filled : (at : ℕ) (out : List ℕ) (q r : Pending) → take at out ++ to_come q ≡ to_come r → is_over q ≡ true → at ≡ 0 → to_come r ≡ []
none_filled at out q r bytes o e = sym bytes ∙ rw (e, nothing-comes q o) refl
