-- Document 01, "Setting": the five numbers, what they fix, and when they are refused.
use Rattle.std.specs.Prelude.{Bool, not, cond, ◌&&◌, List, [], ◌∷◌, ℕ, zero, suc, ◌+◌, ◌*◌, ◌-◌, ◌/◌, ◌^◌, leb, ltb, eqb, Result, Ok, Err}
use Rattle.integers.specs.Lists.{build}
use Rattle.integers.specs.Ranges.{Range, ◌to◌, within}
use Rattle.settings.specs.Rules.{Rule, ◌gives◌, first_of}
use Rattle.settings.specs.declared.Setting.{Setting}

-- the five numbers n, m, t, b and B
pub record Parameters : Type 0 where
  pub n : ℕ
  pub m : ℕ
  pub t : ℕ
  pub b : ℕ
  pub bound : ℕ

-- the limits of a setting: the ranges of the five numbers, the most columns, the greatest width
pub record Limits : Type 0 where
  pub n : Range
  pub m : Range
  pub t : Range
  pub b : Range
  pub bound : Range
  pub columns : ℕ
  pub width : ℕ

-- document 01's limits
abbrev pub limits : Limits
limits = record { n = 1 to 64; m = 1 to 4096; t = 1 to 16; b = 2 to 65535; bound = 1 to 2 ^ 62; columns = 512; width = 2 ^ 62 }

-- how many powers a setting record has place for
abbrev pub places : ℕ
places = 33

-- the greatest number from 0 to n that passes the test; 0 where none does
unfoldable pub greatest : ℕ → (ℕ → Bool) → ℕ
greatest zero P = 0
greatest (suc n) P = cond (P (suc n)) (suc n) (greatest n P)

-- L, the greatest whole number with b^(2L) ≤ B: b ≥ 2 and B ≤ 2^62 leave none above 31
unfoldable pub LOf : Parameters → ℕ
LOf p = greatest (places - 2) (λ l. leb (p.b ^ (2 * l)) p.bound)

-- k = L + 2, the number of digits of an entry
abbrev pub k_of : Parameters → ℕ
k_of p = LOf p + 2

-- h, b/2 rounded down: the largest size of a digit
abbrev pub h_of : Parameters → ℕ
h_of p = p.b / 2

-- H = h² × m: the largest size of an honest entry of D~
abbrev pub HOf : Parameters → ℕ
HOf p = h_of p * h_of p * p.m

-- N = 2kt, the number of columns of a digit witness
abbrev pub NOf : Parameters → ℕ
NOf p = 2 * k_of p * p.t

-- growth: (N × h)² × m
abbrev pub growth_of : Parameters → ℕ
growth_of p = NOf p * h_of p * (NOf p * h_of p) * p.m

-- 1 + b + … + b^(k − 1), as document 01 writes it: (b^k − 1)/(b − 1)
unfoldable pub repunit : ℕ → ℕ → ℕ
repunit b k = (b ^ k - 1) / (b - 1)

-- width: H × ((b^k − 1)/(b − 1))²
abbrev pub width_of : Parameters → ℕ
width_of p = HOf p * (repunit p.b (k_of p) * repunit p.b (k_of p))

-- the refusals 1 to 6, in order
abbrev pub setting_rules : Limits → Parameters → List Rule
setting_rules l p =
    (not (within l.n p.n && within l.m p.m && within l.t p.t) gives 1)
    ∷ (not (within l.b p.b) gives 2)
    ∷ (not (within l.bound p.bound) gives 3)
    ∷ (not (leb (NOf p) l.columns) gives 4)
    ∷ (not (leb (growth_of p) p.bound) gives 5)
    ∷ (not (leb (width_of p) l.width) gives 6)
    ∷ []

-- the first of 1 to 6 that applies; 0 where the setting is accepted
unfoldable pub setting_refusal : Parameters → ℕ
setting_refusal p = first_of (setting_rules limits p)

-- the powers of b: b^p in place p below k, zero from there on
abbrev pub powers_of : ℕ → ℕ → List ℕ
powers_of b k = build places (λ p. cond (ltb p k) (b ^ p) 0)

-- the record of a setting: the five numbers, k, N and the powers
abbrev pub setting_of : Parameters → Setting
setting_of p = record {
  n = p.n;
  m = p.m;
  t = p.t;
  b = p.b;
  bound = p.bound;
  k = k_of p;
  columns = NOf p;
  powers = powers_of p.b (k_of p);
}

-- the five numbers of a lent record; its k, N and powers are not looked at
abbrev pub parameters_of : Setting → Parameters
parameters_of s = record { n = s.n; m = s.m; t = s.t; b = s.b; bound = s.bound }

-- the answer for five numbers: the first refusal that applies, or the setting
unfoldable pub checked_of : Parameters → Result Setting ℕ
checked_of p = cond (eqb (setting_refusal p) 0) (Ok (setting_of p)) (Err (setting_refusal p))
