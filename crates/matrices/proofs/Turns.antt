-- A call of `matrices::add_product` as the machine makes it: u is what it has for the number a, and x and y fit signed words.
use Rattle.std.proofs.Common.{◌≡◌, ℕ, ◌+◌, ◌^◌, ◌<◌, ℤ, ◌+ℤ◌, ◌*ℤ◌, nat_abs, ◌∙◌, ap₂, arith, w64, SFits, to_z, of_z}
use mir.ValLaws.{to_z-of_z}
use Rattle.integers.specs.Sums.{sum, sum_ℕ}
use Rattle.integers.proofs.Sums.{nat_abs-sum, sum_ℕ-step, sum_ℕ_mono}

module _ {u : ℤ} (a x y : ℤ) (holds : u ≡ a) (fx : SFits w64 x) (fy : SFits w64 y) where
  -- what it asks
  pub room : nat_abs a + nat_abs (x *ℤ y) < 2 ^ 63 → nat_abs u + nat_abs (to_z w64 (of_z w64 x) *ℤ to_z w64 (of_z w64 y)) < 2 ^ 63
  room h = rw (holds, to_z-of_z w64 x fx, to_z-of_z w64 y fy) h

  -- what it gives
  pub added : {r : ℤ} → r ≡ u +ℤ to_z w64 (of_z w64 x) *ℤ to_z w64 (of_z w64 y) → r ≡ a +ℤ x *ℤ y
  added e = e ∙ ap₂ ◌+ℤ◌ holds (ap₂ ◌*ℤ◌ (to_z-of_z w64 x fx) (to_z-of_z w64 y fy))

  -- and what is read of it
  pub read-added : {r : ℤ} → r ≡ u +ℤ to_z w64 (of_z w64 x) *ℤ to_z w64 (of_z w64 y) → SFits w64 r → to_z w64 (of_z w64 r) ≡ a +ℤ x *ℤ y
  read-added {r} e f = to_z-of_z w64 r f ∙ added e

-- where the sizes of N terms sum to less than M, there is room for each of them beside those before it
pub sum_room : (N M : ℕ) (f : ℕ → ℤ) → sum_ℕ N (λ i. nat_abs (f i)) < M → (q : ℕ) → q < N → nat_abs (sum q f) + nat_abs (f q) < M
sum_room N M f small q h = omega (arith, nat_abs-sum q f, sum_ℕ-step q (λ i. nat_abs (f i)), sum_ℕ_mono (q + 1) N (λ i. nat_abs (f i)) (omega arith))
