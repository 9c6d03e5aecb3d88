-- What an accepted setting has, and how the constructor's answer is read.
use mathlib.Core.Path.{◌≡◌, refl, sym, ap, subst, ◌∙◌}
use mathlib.Core.Logic.{◌≢◌}
use Rattle.std.specs.Prelude.{Ok, Err}
use Prim.Native.Nat.{ℕ, zero, suc, ◌+◌, ◌-◌, ◌*◌, ◌^◌, ◌≤◌, ◌<◌}
use native.Mathlib.Omega.{arith, by_contra}
use native.Mathlib.Decide.{ℕ_discrete}
use native.Mathlib.Nat.{le_refl, mul-le-mul, mul-le-mul_left, mul-le-mul_right, pow-le-pow_right, add_assoc}
use lib.Pow.{pow-add}
use borrow.Author.Tests.{eq-eqb, ne_eqb}
use Rattle.settings.specs.Settings.{Parameters, limits, LOf, k_of, h_of, HOf, NOf, growth_of, repunit, width_of, setting_refusal, setting_of, parameters_of, checked_of}
use Rattle.settings.specs.declared.Setting.{Setting}
use Rattle.settings.specs.declared.refused.Refusal.{Refusal}
use Rattle.settings.specs.Refusals.{number_of}
use Rattle.settings.proofs.Numbers.{numbered-some}
use Rattle.settings.proofs.Refusals.{Meets, refusal-exactly}
use Rattle.settings.proofs.PowerSteps.{pow_two}
use Rattle.settings.proofs.Levels.{L_above}
use Rattle.settings.proofs.Levels as Levels
use Rattle.settings.proofs.Powers.{repunit-reaches}

-- all that the operations need of an accepted setting
pub record Accepted (p : Parameters) : Type 0 where
  pub n-low : 1 ≤ p.n
  pub n-high : p.n ≤ 64
  pub m-low : 1 ≤ p.m
  pub m-high : p.m ≤ 4096
  pub t-low : 1 ≤ p.t
  pub t-high : p.t ≤ 16
  pub b-low : 2 ≤ p.b
  pub b-high : p.b ≤ 65535
  pub bound-low : 1 ≤ p.bound
  pub bound-high : p.bound ≤ 2 ^ 62
  pub columns : NOf p ≤ 512
  pub growth : growth_of p ≤ p.bound
  pub width : width_of p ≤ 2 ^ 62
  -- B < b^(2(k − 1)): k digits are enough
  pub above : p.bound < p.b ^ (2 * (k_of p - 1))
  pub k-low : 2 ≤ k_of p
  pub k-high : k_of p ≤ 33
  pub powers_fit : p.b ^ k_of p < 2 ^ 63
  pub N-low : 4 ≤ NOf p
  pub h-low : 1 ≤ h_of p
  pub H_low : 1 ≤ HOf p
  -- digits are small, and so are N H and N N H
  pub digits-small : h_of p ≤ 1024
  pub products-small : NOf p * HOf p ≤ 2 ^ 31
  pub folds-small : NOf p * (NOf p * HOf p) ≤ p.bound
  -- an entry of a column within B is small beside b
  pub sizes-small : (w : ℕ) → w * w ≤ p.bound → w * p.b < 2 ^ 33

square_le : (x y : ℕ) → x * x ≤ y * y → x ≤ y
square_le x y h = by_contra x y (λ l. omega (arith, mul-le-mul l l))

-- width, growth and B < x² give (N H)² ≤ 2^62, where x is at most the repunit
products-by : (N h m x r bound : ℕ) → h * h * m * (r * r) ≤ 2 ^ 62 → x ≤ r → N * h * (N * h) * m ≤ bound → bound < x * x → N * (h * h * m) ≤ 2 ^ 31
products-by N h m x r bound width reach growth above =
    let low : N * h * (N * h) * m ≤ x * x = omega arith in
    square_le (N * (h * h * m)) (2 ^ 31) (omega (arith, mul-le-mul_left (h * h * m) (mul-le-mul reach reach), mul-le-mul_right (h * h * m) low))

-- L = 0 does not pass growth
no_level : (N h m b bound : ℕ) → 4 ≤ N → 1 ≤ h → 1 ≤ m → b ≤ 2 * h + 1 → N * h * (N * h) * m ≤ bound → bound < b * b → ⊥
no_level N h m b bound four h-low m-low half growth above =
    let q : 4 * h ≤ N * h = mul-le-mul_right h four in
    let r : 4 * h * (4 * h) * 1 ≤ N * h * (N * h) * m = mul-le-mul (mul-le-mul q q) m-low in
    omega (arith, r, mul-le-mul half half, mul-le-mul h-low (le_refl h))

-- and with L ≥ 1 a larger h does not pass width
digits-by : (h m x r : ℕ) → 1 ≤ m → h * h * m * (r * r) ≤ 2 ^ 62 → x ≤ r → 4 * (h * h) ≤ x → h ≤ 1024
digits-by h m x r m-low width reach large = by_contra h 1024 (λ l.
    let a : 1025 * 1025 ≤ h * h = mul-le-mul l l in
    let g : 4202500 ≤ r = omega arith in
    let b : 1025 * 1025 * 1 ≤ h * h * m = mul-le-mul a m-low in
    omega (arith, mul-le-mul b (mul-le-mul g g)))

-- width gives h r ≤ 2^31, and a size within B < x² is at most the repunit r
sizes-by : (w h m b x r bound : ℕ) → 1 ≤ h → 1 ≤ m → b ≤ 2 * h + 1 → h * h * m * (r * r) ≤ 2 ^ 62 → x ≤ r → bound < x * x → w * w ≤ bound → w * b < 2 ^ 33
sizes-by w h m b x r bound h-low m-low half width reach above within =
    let size : w ≤ r = square_le w r (omega (arith, mul-le-mul reach reach)) in
    let wide : h * r ≤ 2 ^ 31 = square_le (h * r) (2 ^ 31) (omega (arith, mul-le-mul_left (h * h * (r * r)) m-low)) in
    omega (arith, mul-le-mul size half, mul-le-mul_right r h-low)

module _ (p : Parameters) (ok : Meets limits p) where
  b-low : 2 ≤ p.b
  b-low = ok.ranges.b.0

  B_low : 1 ≤ p.bound
  B_low = ok.ranges.bound.0

  B_high : p.bound ≤ 2 ^ 62
  B_high = ok.ranges.bound.1

  -- the highest power, b^(k − 1)
  abbrev top : ℕ
  top = p.b ^ (LOf p + 1)

  reach : top ≤ repunit p.b (k_of p)
  reach = subst (λ (k : ℕ). top ≤ repunit p.b k) (add_assoc (LOf p) 1 1) (repunit-reaches p.b (LOf p + 1) b-low)

  squared : p.b ^ (2 * (k_of p - 1)) ≡ top * top
  squared = ap (λ (k : ℕ). p.b ^ k) (omega arith) ∙ pow-add p.b (LOf p + 1) (LOf p + 1)

  bound-above : p.bound < p.b ^ (2 * (k_of p - 1))
  bound-above = subst (λ (e : ℕ). p.bound < p.b ^ e) (omega arith) (L_above p b-low B_low B_high)

  below : p.bound < top * top
  below = subst (λ (y : ℕ). p.bound < y) squared bound-above

  halves : (2 * h_of p ≤ p.b) × (p.b ≤ 2 * h_of p + 1)
  halves = (omega arith, omega arith)

  half-low : 1 ≤ h_of p
  half-low = omega (arith, b-low)

  four : 4 ≤ NOf p
  four =
      let two : 2 ≤ k_of p = omega arith in
      omega (arith, mul-le-mul {n₁ = 2} {m₁ = 1} {n₂ = k_of p} {m₂ = p.t} two ok.ranges.sizes.t.0)

  small : h_of p ≤ 1024
  small = by_level (LOf p) refl
    where
      by_level : (l : ℕ) → LOf p ≡ l → h_of p ≤ 1024
      by_level zero e = absurd (no_level (NOf p) (h_of p) p.m p.b p.bound four half-low ok.ranges.sizes.m.0 halves.1 ok.growth
          (rw (← pow_two p.b) (subst (λ (l : ℕ). p.bound < p.b ^ (2 * (l + 1))) e (L_above p b-low B_low B_high))))
      by_level (suc l) e = digits-by (h_of p) p.m top (repunit p.b (k_of p)) ok.ranges.sizes.m.0 ok.width reach
          (omega (arith, pow_two p.b, mul-le-mul halves.0 halves.0, pow-le-pow_right {n = p.b} (omega (arith, b-low)) {i = 2} {j = LOf p + 1} (omega arith)))

-- a setting that meets the conditions has all this
pub meets_accepted : (p : Parameters) → Meets limits p → Accepted p
meets_accepted p ok =
    record {
      n-low = ok.ranges.sizes.n.0;
      n-high = ok.ranges.sizes.n.1;
      m-low = ok.ranges.sizes.m.0;
      m-high = ok.ranges.sizes.m.1;
      t-low = ok.ranges.sizes.t.0;
      t-high = ok.ranges.sizes.t.1;
      b-low = ok.ranges.b.0;
      b-high = ok.ranges.b.1;
      bound-low = ok.ranges.bound.0;
      bound-high = ok.ranges.bound.1;
      columns = ok.columns;
      growth = ok.growth;
      width = ok.width;
      above = bound-above p ok;
      k-low = omega arith;
      k-high = Levels.k-high p;
      powers_fit = Levels.powers_fit p ok.ranges.b.0 ok.ranges.bound.0 ok.ranges.bound.1 ok.ranges.b.1;
      N-low = four p ok;
      h-low = half-low p ok;
      H_low = mul-le-mul (mul-le-mul (half-low p ok) (half-low p ok)) ok.ranges.sizes.m.0;
      digits-small = small p ok;
      products-small = products-by (NOf p) (h_of p) p.m (top p ok) (repunit p.b (k_of p)) p.bound ok.width (reach p ok) ok.growth (below p ok);
      folds-small = omega (arith, ok.growth);
      sizes-small = λ w within. sizes-by w (h_of p) p.m p.b (top p ok) (repunit p.b (k_of p)) p.bound (half-low p ok) ok.ranges.sizes.m.0 (halves p ok).1 ok.width (reach p ok) (below p ok) within;
    }

-- every operation starts from here
pub accepted : (p : Parameters) → setting_refusal p ≡ 0 → Accepted p
accepted p e = meets_accepted p ((refusal-exactly p).none.0 e)

-- the constructor's answer for an accepted setting, and for a refused one
pub checked_accepted : (p : Parameters) → setting_refusal p ≡ 0 → checked_of p ≡ Ok (setting_of p)
unfolding checked_of
checked_accepted p e = rw (eq-eqb (setting_refusal p) 0 e) refl

pub checked_refused : (p : Parameters) → setting_refusal p ≢ 0 → checked_of p ≡ Err (setting_refusal p)
unfolding checked_of
checked_refused p ne = rw (ne_eqb (setting_refusal p) 0 ne) refl

-- the answer for a refusal
pub refusal-checked : (p : Parameters) (r : Refusal) → number_of r ≡ setting_refusal p → Err (number_of r) ≡ checked_of p
refusal-checked p r e = rw e (sym (checked_refused p (λ z. numbered-some r (e ∙ z))))

-- a setting in the answer is that of the five numbers, which are accepted
pub from_ok : (p : Parameters) (s : Setting) → Ok s ≡ checked_of p → (setting_refusal p ≡ 0) × (s ≡ setting_of p)
from_ok p s is = go (ℕ_discrete (setting_refusal p) 0)
  where
    go : Dec (setting_refusal p ≡ 0) → (setting_refusal p ≡ 0) × (s ≡ setting_of p)
    go (yes e) = let both : Ok s ≡ Ok (setting_of p) = is ∙ checked_accepted p e in (e, grind arith)
    go (no ne) = let both : Ok s ≡ Err (setting_refusal p) = is ∙ checked_refused p ne in absurd (grind arith)

pub ok_accepted : (p : Parameters) (s : Setting) → Ok s ≡ checked_of p → (setting_refusal (parameters_of s) ≡ 0) × (s ≡ setting_of (parameters_of s))
ok_accepted p s is =
    let e = from_ok p s is in
    subst (λ (s : Setting). (setting_refusal (parameters_of s) ≡ 0) × (s ≡ setting_of (parameters_of s))) (sym e.1) (e.0, refl)

-- and a number is that of the first refusal that applies
pub from_err : (p : Parameters) (r : ℕ) → Err r ≡ checked_of p → (setting_refusal p ≢ 0) × (r ≡ setting_refusal p)
from_err p r is = go (ℕ_discrete (setting_refusal p) 0)
  where
    go : Dec (setting_refusal p ≡ 0) → (setting_refusal p ≢ 0) × (r ≡ setting_refusal p)
    go (yes e) = let both : Err r ≡ Ok (setting_of p) = is ∙ checked_accepted p e in absurd (grind arith)
    go (no ne) = let both : Err r ≡ Err (setting_refusal p) = is ∙ checked_refused p ne in (ne, grind arith)
