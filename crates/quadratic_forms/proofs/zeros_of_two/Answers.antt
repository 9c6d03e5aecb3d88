-- `quadratic_forms::zeros_of_two` meets its contract: three choices for the second coordinate.
use mathlib.Core.Path.{◌≡◌, ◌∙◌}
use Prim.Native.Nat.{◌≤◌}
use native.Mathlib.Omega.{arith}
use lib.IntN.{pos}
use lib.ListN.{length, get_or}
use mir.Syntax.{w64}
use mir.Val.{to_z, of_z}
use mir.ValLaws.{to_z-of_z}
use Rattle.integers.proofs.Words.{read_back}
use Rattle.quadratic_forms.specs.Search.{terms_of}
use Rattle.quadratic_forms.proofs.Search.{last_cong, two-left}
use Rattle.quadratic_forms.proofs.InWords.{last-small, Two, two}
use Rattle.quadratic_forms.proofs.zeros_of_two.Goals as goal
use Rattle.quadratic_forms.proofs.zeros_of_two.Goals.{After-last_zeros-above, Start}

carried : (s : Start) → Two s.args.e.now s.args.linear.now s.args.q
carried s = two s.args.e.now s.args.linear.now s.args.q s.requires.0 s.requires.1

-- there are three entries and twelve linear terms
entries : (s : Start) → 3 ≤ length s.args.e.now
entries s = s.requires.0.rows

terms : (s : Start) → 2 ≤ length s.args.linear.now
terms s = omega (arith, s.requires.0.long)

pub bounds-e-0 : goal.bounds-e-0
bounds-e-0 c = omega (arith, entries c)

pub bounds-linear-0 : goal.bounds-linear-0
bounds-linear-0 c = omega (arith, terms (goal.at.bounds-linear-0 c).Start)

pub bounds-linear-1 : goal.bounds-linear-1
bounds-linear-1 c = omega (arith, terms (goal.at.bounds-linear-1 c).Start)

pub bounds-e-2 : goal.bounds-e-2
bounds-e-2 c = omega (arith, entries (goal.at.bounds-e-2 c).Start)

pub overflow_add-squared : goal.overflow_add-squared
overflow_add-squared c = (carried (goal.at.overflow_add-squared c).Start).number.squared.fits

pub bounds-e-1 : goal.bounds-e-1
bounds-e-1 c = omega (arith, entries (goal.at.bounds-e-1 c).Start)

pub overflow_mul-beside : goal.overflow_mul-beside
overflow_mul-beside c = (carried (goal.at.overflow_mul-beside c).Start).twice.fits

pub overflow_sub-squared : goal.overflow_sub-squared
overflow_sub-squared c = (carried (goal.at.overflow_sub-squared c).Start).number.less.fits

pub overflow_sub-first : goal.overflow_sub-first
overflow_sub-first c = (carried (goal.at.overflow_sub-first c).Start).less.fits

-- what the machine lends to the last coordinate
square-read : (s : Start) → to_z w64 (of_z w64 (get_or s.args.e.now 0 (pos 0))) ≡ get_or s.args.e.now 0 (pos 0)
square-read s = read_back w64 (get_or s.args.e.now 0 (pos 0)) (omega (arith, (carried s).at.2))

first_read : (s : Start) → to_z w64 (of_z w64 (terms_of s.args.linear.now 0)) ≡ terms_of s.args.linear.now 0
first_read s = read_back w64 (terms_of s.args.linear.now 0) (omega (arith, (carried s).at.1))

pub last_zeros-below-requires : goal.last_zeros-below-requires
last_zeros-below-requires c = let s = (goal.at.last_zeros-below-requires c).Start in rw ((carried s).number.less.read, (carried s).less.read, square-read s) (carried s).below

pub last_zeros-at-requires : goal.last_zeros-at-requires
last_zeros-at-requires c = let s = (goal.at.last_zeros-at-requires c).Start in rw (to_z-of_z w64 s.args.q s.ranges.q, first_read s, square-read s) (carried s).at

pub overflow_add-squared-2 : goal.overflow_add-squared-2
overflow_add-squared-2 c = (carried (goal.at.overflow_add-squared-2 c).Start).number.more.fits

pub overflow_add-first : goal.overflow_add-first
overflow_add-first c = (carried (goal.at.overflow_add-first c).Start).more.fits

pub last_zeros-above-requires : goal.last_zeros-above-requires
last_zeros-above-requires c = let s = (goal.at.last_zeros-above-requires c).Start in rw ((carried s).number.more.read, (carried s).more.read, square-read s) (carried s).above

-- each of the three counts is at most 3
small : (c : After-last_zeros-above) → (c.last_zeros-below.result ≤ 3) × (c.last_zeros-at.result ≤ 3) × (c.last_zeros-above.result ≤ 3)
small c = (last-small _ _ _ _ c.last_zeros-below.ensures, last-small _ _ _ _ c.last_zeros-at.ensures, last-small _ _ _ _ c.last_zeros-above.ensures)

pub overflow_add-result : goal.overflow_add-result
overflow_add-result c = omega (arith, (small c).1, (small c).2)

pub overflow_add-result-2 : goal.overflow_add-result-2
overflow_add-result-2 c = omega (arith, (small c).0, (small c).1, (small c).2)

pub returns : goal.returns
returns c =
    let s = (goal.at.returns c).Start in
    let a = s.args in
    two-left a.e.now (terms_of a.linear.now) a.q _ _ _
    (c.last_zeros-below.ensures ∙ last_cong _ _ _ _ _ _ (carried s).number.less.read (carried s).less.read (square-read s))
    (c.last_zeros-at.ensures ∙ last_cong _ _ _ _ _ _ (to_z-of_z w64 a.q s.ranges.q) (first_read s) (square-read s))
    (c.last_zeros-above.ensures ∙ last_cong _ _ _ _ _ _ (carried s).number.more.read (carried s).more.read (square-read s))
