-- `signed_numerals::negative` meets its contract.
use Rattle.std.proofs.Common.{◌≡◌, ℕ, zero, suc, ◌-◌, ◌^◌, ◌<◌, pos, negsuc, ◌-ℤ◌, sym, refl, ap, ◌∙◌, arith, w64, SFits, to_z, of_z}
use Rattle.std.specs.Prelude.{Some}
use mir.ValLaws.{to_z-of_z, to_z_pos}
use Rattle.numerals.specs.Numerals.{with_minus, fit_signed}
use Rattle.numerals.proofs.Signs.{negative-zero, negative_fits, negative_large}
use Rattle.signed_numerals.proofs.negative.Goals as goal

pub returns-then-n-eq0 : goal.returns-then-n-eq0
returns-then-n-eq0 c = negative-zero _ c.if-n-eq0.true

-- the word that n - 1 is cast to
cast : (k : ℕ) → k < 2 ^ 63 → to_z w64 k ≡ to_z w64 (of_z w64 (pos k))
cast k h = to_z_pos w64 k h ∙ sym (to_z-of_z w64 (pos k) (record { sfits = h }))

minus-one-less : (k : ℕ) → negsuc 0 -ℤ pos k ≡ negsuc k
minus-one-less zero = refl
minus-one-less (suc k) = ap negsuc (omega arith)

less-fits : (k : ℕ) → k < 2 ^ 63 → SFits w64 (negsuc 0 -ℤ to_z w64 k)
less-fits k h = rw (to_z_pos w64 k h, minus-one-less k) (record { sfits = h })

pub overflow_sub-result : goal.overflow_sub-result
overflow_sub-result c = less-fits (c.args.n - 1) (omega arith)

less : (n : ℕ) → 0 < n → n - 1 < 2 ^ 63 → Some (to_z w64 (of_z w64 (negsuc 0 -ℤ to_z w64 (n - 1)))) ≡ fit_signed (with_minus (Some n))
less n g h = rw (cast (n - 1) h) (negative_fits n g h)

pub returns : goal.returns
returns c = less c.args.n (omega arith) (omega arith)

pub returns-then-k-gt-BELOW : goal.returns-then-k-gt-BELOW
returns-then-k-gt-BELOW c = negative_large c.args.n (omega arith) (λ f. omega (arith, f.sfits))
