-- `digit_entries::follow_rule` meets its contract: none of the first q digits is the one that the rule never gives.
use Rattle.std.specs.List.{IsAnyAnswer}
use Rattle.std.specs.Ordering.{int_eq}
use Rattle.std.proofs.lemmas.Bool.Decides.{Decides-int_eq}
use mathlib.Core.Path.{◌≡◌, sym, ◌∙◌, ap}
use mathlib.Core.Logic.{◌≢◌}
use mathlib.Core.Bool.{Bool, true, false, not, true≢false}
use mathlib.Core.List.{List}
use Prim.Native.Nat.{ℕ, ◌/◌, ◌%◌, ◌≤◌}
use native.Mathlib.Omega.{arith}
use lib.IntN.{ℤ, pos, neg_ℤ, ◌-ℤ◌, +ℤ_idl}
use lib.ListN.{get_or}
use lib.Signed.{lt_z}
use mir.Syntax.{w64}
use mir.Val.{to_z, of_z}
use mir.ValLaws.{to_z-of_z}
use Rattle.integers.proofs.Sizes.{nat_abs_negate}
use Rattle.integers.proofs.Words.{read_back, Held, held}
use Rattle.digit_entries.specs.Entries.{Digits, entry_of, limit, follow_rule}
use Rattle.digit_entries.proofs.Clamped.{clamped-sign}
use Rattle.digit_entries.proofs.Ties.{never_of, never-below, never-above, odd_follow, even_follow, never_follow}
use Rattle.digit_entries.proofs.follow_rule.Goals as goal
use Rattle.digit_entries.proofs.follow_rule.Goals.{Joined-x-lt0, Start, then-x-lt0, else-x-lt0}

pub returns-then-b-eq1 : goal.returns-then-b-eq1
returns-then-b-eq1 c = odd_follow c.args.b c.requires.0 c.args.digits.now c.requires.2 c.if-b-eq1.true

-- half the base as the machine reads it, and negated
read-half : (s : Start) → to_z w64 (s.args.b / 2) ≡ pos (s.args.b / 2)
read-half s = read_back w64 (pos (s.args.b / 2)) (omega arith)

negated-half : (s : Start) → Held w64 (pos 0 -ℤ to_z w64 (s.args.b / 2)) (neg_ℤ (pos (s.args.b / 2)))
negated-half s = held w64 (ap (λ (z : ℤ). pos 0 -ℤ z) (read-half s) ∙ +ℤ_idl (neg_ℤ (pos (s.args.b / 2)))) (omega (arith, nat_abs_negate (pos (s.args.b / 2))))

pub overflow_sub-never : goal.overflow_sub-never
overflow_sub-never c = (negated-half (goal.at.overflow_sub-never c).Start).fits

-- the sign of x as the machine reads it is the entry's
sign_read : (s : Start) → lt_z (to_z w64 (of_z w64 s.args.x)) (pos 0) ≡ lt_z (entry_of s.args.b s.args.digits.now) (pos 0)
sign_read s =
    let e = entry_of s.args.b s.args.digits.now in
    ap (λ (z : ℤ). lt_z z (pos 0)) (to_z-of_z w64 s.args.x s.ranges.x ∙ s.requires.3) ∙ clamped-sign limit e (omega arith)

-- the digit that is looked for is the one that the rule never gives
never-is : (c : Joined-x-lt0) →
    let a = c.args in
    to_z w64 c.if-x-lt0.never-bits ≡ never_of a.b (entry_of a.b a.digits.now)
never-is c =
    let s = (goal.at.Joined-x-lt0 c).Start in
    let e = entry_of s.args.b s.args.digits.now in
    elim c.if-x-lt0.branch [
      | then-x-lt0 w ↦ w.never-is ∙ read-half s ∙ sym (never-below s.args.b e (sym (sign_read s) ∙ w.if-x-lt0.true))
      | else-x-lt0 w ↦ w.never-is ∙ (negated-half s).read ∙ sym (never-above s.args.b e (sym (sign_read s) ∙ w.if-x-lt0.false))
    ]

-- the answer to whether some digit is that one
not-among : (b : ℕ) (base : 2 ≤ b) (ds : List ℤ) (small : Digits b ds) (even : b % 2 ≢ 1) (t : ℤ) (never : t ≡ never_of b (entry_of b ds)) (some : Bool)
    → IsAnyAnswer (λ d c. int_eq d t ≡ c) ds some → not some ≡ follow_rule b ds
not-among b base ds small even t never true (q, within, found) =
    never_follow b base ds small even q within ((Decides-int_eq (get_or ds q (pos 0)) t).0 (found (pos 0)) ∙ never)
not-among b base ds small even t never false none =
    even_follow b base ds small (λ q h e. true≢false (sym ((Decides-int_eq (get_or ds q (pos 0)) t).1 (e ∙ sym never)) ∙ none q (pos 0) (omega arith) h))

pub returns : goal.returns
returns c =
    let a = c.args in
    not-among a.b c.requires.0 a.digits.now c.requires.2 c.if-b-eq1.false _ (never-is (goal.at.returns c).Joined-x-lt0) c.contains.result c.contains.ensures.cases
