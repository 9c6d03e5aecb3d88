-- The product of two words modulo 2^64, by halves.
use Rattle.std.proofs.Common.{◌≡◌, ℕ, ◌+◌, ◌*◌, ◌/◌, ◌%◌, ◌^◌, ◌<◌, sym, ap, ◌∙◌, mul-le-mul, div-add-mod', arith, w64, Fits}
use native.Mathlib.Nat.{mod-add-mod, mul-add-mod_self_right}

-- two numbers of 32 bits: their product is one of 64
pub half_product : (a b : ℕ) → a < 2 ^ 32 → b < 2 ^ 32 → Fits w64 (a * b)
half_product a b h k = omega (arith, mul-le-mul {n₁ = a} {m₁ = b} {n₂ = 4294967295} {m₂ = 4294967295} (omega arith) (omega arith))

expand : (x y xh xl yh yl t c : ℕ) → xh * 4294967296 + xl ≡ x → yh * 4294967296 + yl ≡ y → t * 2 ^ 64 + c ≡ xl * yh + yl * xh
    → (xh * 4294967296 + xl) * (yh * 4294967296 + yl) ≡ (xh * yh + t * 4294967296) * 2 ^ 64 + (c * 4294967296 + xl * yl)
expand x y xh xl yh yl t c e f h = omega arith

pub product : (x y : ℕ) →
    (((x % 4294967296) * (y / 4294967296) + (y % 4294967296) * (x / 4294967296)) % 2 ^ 64 * 2 ^ 32 % 2 ^ 64 + (x % 4294967296) * (y % 4294967296)) % 2 ^ 64
    ≡ x * y % 2 ^ 64
product x y =
    let xl = x % 4294967296 in
    let xh = x / 4294967296 in
    let yl = y % 4294967296 in
    let yh = y / 4294967296 in
    let s = xl * yh + yl * xh in
    mod-add-mod (s % 2 ^ 64 * 2 ^ 32) (2 ^ 64) (xl * yl)
    ∙ sym (mul-add-mod_self_right (xh * yh + s / 2 ^ 64 * 4294967296) (2 ^ 64) (s % 2 ^ 64 * 2 ^ 32 + xl * yl))
    ∙ ap (λ (n : ℕ). n % 2 ^ 64) (sym (expand x y xh xl yh yl (s / 2 ^ 64) (s % 2 ^ 64) (div-add-mod' x 4294967296) (div-add-mod' y 4294967296) (div-add-mod' s (2 ^ 64))))
    ∙ ap (λ (n : ℕ). n * (yh * 4294967296 + yl) % 2 ^ 64) (div-add-mod' x 4294967296)
    ∙ ap (λ (n : ℕ). x * n % 2 ^ 64) (div-add-mod' y 4294967296)
