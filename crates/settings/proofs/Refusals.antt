-- When each refusal of a setting is given, in document 01's words.
use mathlib.Core.Path.{◌≡◌, refl}
use mathlib.Core.Logic.Iff
use mathlib.Core.Logic.{◌≢◌, ◌↔◌}
use mathlib.Core.Bool.{Bool, true, false, not, ◌&&◌, true≢false, false≢true}
use mathlib.Core.List.{List, ◌++◌}
use Prim.Native.Nat.{ℕ, ◌≤◌, ◌<◌}
use native.Mathlib.Nat.{lt_of_not-le}
use native.Mathlib.Omega.{arith}
use lib.Dec.{T, leb}
use lib.ListN.{take, drop}
use Rattle.integers.specs.Ranges.{Range, within, In}
use Rattle.integers.proofs.Tests.{both, at_most, within_in}
use Rattle.settings.specs.Rules.{Rule, first_of}
use Rattle.settings.specs.Settings.{Parameters, Limits, limits, NOf, growth_of, width_of, setting_rules, setting_refusal}
use Rattle.settings.specs.Rules.{NoneApplies}
use Rattle.settings.proofs.Rules.{skip_all, stop-all, none-applies, none_append, first-at}

-- n, m and t are in range
pub record Sizes (l : Limits) (p : Parameters) : Type 0 where
  pub n : In l.n p.n
  pub m : In l.m p.m
  pub t : In l.t p.t

-- all five numbers are
pub record Ranges (l : Limits) (p : Parameters) : Type 0 where
  pub sizes : Sizes l p
  pub b : In l.b p.b
  pub bound : In l.bound p.bound

-- the conditions of document 01 on a setting
pub record Meets (l : Limits) (p : Parameters) : Type 0 where
  pub ranges : Ranges l p
  pub columns : NOf p ≤ l.columns
  pub growth : growth_of p ≤ p.bound
  pub width : width_of p ≤ l.width

-- "1 for n, m or t out of range; 2 for b; 3 for B; 4 for N above 512; 5 for growth; 6 for width", in order; 0 where all conditions are met
pub record Exactly (l : Limits) (p : Parameters) (refusal : ℕ) : Type 0 where
  pub one : (refusal ≡ 1) ↔ (Sizes l p → ⊥)
  pub two : (refusal ≡ 2) ↔ (Sizes l p × (In l.b p.b → ⊥))
  pub three : (refusal ≡ 3) ↔ (Sizes l p × In l.b p.b × (In l.bound p.bound → ⊥))
  pub four : (refusal ≡ 4) ↔ (Ranges l p × (l.columns < NOf p))
  pub five : (refusal ≡ 5) ↔ (Ranges l p × (NOf p ≤ l.columns) × (p.bound < growth_of p))
  pub six : (refusal ≡ 6) ↔ (Ranges l p × (NOf p ≤ l.columns) × (growth_of p ≤ p.bound) × (l.width < width_of p))
  pub none : (refusal ≡ 0) ↔ Meets l p

-- a test whose rule is passed over exactly where P holds, and applies exactly where Q does
pub record Says (c : Bool) (P Q : Type 0) : Type 0 where
  pub passed : (not c ≡ false) ↔ P
  pub applies : (not c ≡ true) ↔ Q

pub says : (c : Bool) (P Q : Type 0) → T c ↔ P → (P → ⊥) ↔ Q → Says c P Q
says true P Q e f = record { passed = (λ q. e.0 tt, λ h. refl); applies = (λ q. absurd (false≢true q), λ n. absurd (f.1 n (e.0 tt))) }
says false P Q e f = record { passed = (λ q. absurd (true≢false q), λ h. absurd (e.1 h)); applies = (λ q. f.0 e.1, λ n. refl) }

-- the tests of the rules: of a range, of a limit, and of n, m and t together
pub says_in : (r : Range) (x : ℕ) → Says (within r x) (In r x) (In r x → ⊥)
says_in r x = says (within r x) (In r x) (In r x → ⊥) (within_in r x) Iff.rfl

pub says-at-most : (a b : ℕ) → Says (leb a b) (a ≤ b) (b < a)
says-at-most a b = says (leb a b) (a ≤ b) (b < a) (at_most a b) (lt_of_not-le, λ h k. omega arith)

module _ (l : Limits) (p : Parameters) where
  pub says-sizes : Says (within l.n p.n && within l.m p.m && within l.t p.t) (Sizes l p) (Sizes l p → ⊥)
  says-sizes =
      let n = within l.n p.n in
      let m = within l.m p.m in
      let e = both (n && m) (within l.t p.t) _ _ (both n m _ _ (within_in l.n p.n) (within_in l.m p.m)) (within_in l.t p.t) in
      says _ _ _ (λ x. let h = e.0 x in record { n = h.0.0; m = h.0.1; t = h.1 }, λ s. e.1 ((s.n, s.m), s.t)) Iff.rfl

  -- rules 1 to 3, and as many of those after them as wanted
  split : (i : ℕ) → NoneApplies (take 3 (setting_rules l p) ++ take i (drop 3 (setting_rules l p))) ↔ (Ranges l p × NoneApplies (take i (drop 3 (setting_rules l p))))
  split i =
      let e = none_append (take 3 (setting_rules l p)) (take i (drop 3 (setting_rules l p))) in
      let s = says-sizes.passed in
      let b = (says_in l.b p.b).passed in
      let B = (says_in l.bound p.bound).passed in (
        λ f. let (r, rest) = e.0 f in (record { sizes = s.0 r.0; b = b.0 r.1.0; bound = B.0 r.1.1.0 }, rest),
        λ h. let r = h.0 in e.1 ((s.1 r.sizes, (b.1 r.b, (B.1 r.bound, tt))), h.1),
      )

  -- the first rule that applies gives the refusal: each number by the law of `first_of`
  pub exactly : Exactly l p (first_of (setting_rules l p))
  exactly =
      let rules = setting_rules l p in
      let sizes = says-sizes in
      let base = says_in l.b p.b in
      let bound = says_in l.bound p.bound in
      let columns = says-at-most (NOf p) l.columns in
      let growth = says-at-most (growth_of p) p.bound in
      let width = says-at-most (width_of p) l.width in
      let rule1 = first-at rules 0 (omega arith) tt tt in
      let rule2 = first-at rules 1 (omega arith) tt tt in
      let rule3 = first-at rules 2 (omega arith) tt tt in
      let rule4 = first-at rules 3 (omega arith) tt tt in
      let rule5 = first-at rules 4 (omega arith) tt tt in
      let rule6 = first-at rules 5 (omega arith) tt tt in
      let no-rule = none-applies rules tt in
      record {
        one = (
          λ q. sizes.applies.0 (rule1.0 q).1,
          λ h. rule1.1 (tt, sizes.applies.1 h),
        );
        two = (
          λ q. let (f, g) = rule2.0 q in (sizes.passed.0 f.0, base.applies.0 g),
          λ h. rule2.1 ((sizes.passed.1 h.0, tt), base.applies.1 h.1),
        );
        three = (
          λ q. let (f, g) = rule3.0 q in (sizes.passed.0 f.0, base.passed.0 f.1.0, bound.applies.0 g),
          λ h. rule3.1 ((sizes.passed.1 h.0, (base.passed.1 h.1, tt)), bound.applies.1 h.2),
        );
        four = (
          λ q. let (f, g) = rule4.0 q in (((split 0).0 f).0, columns.applies.0 g),
          λ h. rule4.1 ((split 0).1 (h.0, tt), columns.applies.1 h.1),
        );
        five = (
          λ q. let (f, g) = rule5.0 q in let (r, f) = (split 1).0 f in (r, columns.passed.0 f.0, growth.applies.0 g),
          λ h. rule5.1 ((split 1).1 (h.0, (columns.passed.1 h.1, tt)), growth.applies.1 h.2),
        );
        six = (
          λ q. let (f, g) = rule6.0 q in let (r, f) = (split 2).0 f in (r, columns.passed.0 f.0, growth.passed.0 f.1.0, width.applies.0 g),
          λ h. rule6.1 ((split 2).1 (h.0, (columns.passed.1 h.1, (growth.passed.1 h.2, tt))), width.applies.1 h.3),
        );
        none = (
          λ q. let (r, f) = (split 3).0 (no-rule.0 q) in record { ranges = r; columns = columns.passed.0 f.0; growth = growth.passed.0 f.1.0; width = width.passed.0 f.1.1.0 },
          λ h. no-rule.1 ((split 3).1 (h.ranges, (columns.passed.1 h.columns, (growth.passed.1 h.growth, (width.passed.1 h.width, tt))))),
        );
      }

-- the same at document 01's limits
pub refusal-exactly : (p : Parameters) → Exactly limits p (setting_refusal p)
unfolding setting_refusal
refusal-exactly p = exactly limits p

-- rules after a setting's: they decide where the setting is accepted, and only there
pub setting-passes : (p : Parameters) (rs : List Rule) → setting_refusal p ≡ 0 → first_of (setting_rules limits p ++ rs) ≡ first_of rs
unfolding setting_refusal
setting-passes p rs e = skip_all (setting_rules limits p) rs ((none-applies (setting_rules limits p) tt).0 e)

pub setting-stops : (p : Parameters) (rs : List Rule) → setting_refusal p ≢ 0 → first_of (setting_rules limits p ++ rs) ≡ setting_refusal p
unfolding setting_refusal
setting-stops p rs ne = stop-all (setting_rules limits p) rs ne
