-- Where the groups stand before a group g, in rising order from 8 to 1.
use mathlib.Core.Path.{◌≡◌, sym, ap, subst}
use mathlib.Core.Logic.{◌≢◌, ◌⊎◌, inl, inr, ⊎_elim}
use mathlib.Core.List.{List}
use Prim.Native.Nat.{ℕ, zero, suc, ◌+◌, ◌-◌, ◌%◌, ◌≤◌, ◌<◌}
use native.Mathlib.Omega.{arith}
use native.Mathlib.Nat.{le_refl}
use Rattle.integers.specs.Sums.{sum_ℕ}
use Rattle.integers.proofs.Tests.{le_or_lt}
use Rattle.groups.specs.Groups.{Group, ◌of◌}
use Rattle.turns.specs.Turns.{after}
use Rattle.turns.specs.Calls.{others}

-- how many groups stand between x and g, going up from x
abbrev pub ahead : ℕ → ℕ → ℕ
ahead g x = (g + 7 - x) % 8

-- the group that has c groups between itself and g
abbrev back : ℕ → ℕ → ℕ
back g c = (g + 6 - c) % 8 + 1

unequal : (a b : ℕ) → a ≢ b → (a < b) ⊎ (b < a)
unequal a b ne = ⊎_elim
    (λ (l : a ≤ b). ⊎_elim (λ (k : b ≤ a). absurd (ne (omega arith))) (λ (k : a < b). inl k) (le_or_lt b a))
    (λ (l : b < a). inr l)
    (le_or_lt a b)

pub after-group : (x : ℕ) → Group (after x)
after-group x = (omega arith, omega arith)

-- one group up, there is one less between, unless this is g
pub ahead_after : (g x : ℕ) → Group g → Group x → after x ≢ g → ahead g x ≡ suc (ahead g (after x))
ahead_after g x gg gx ne = ⊎_elim (λ (l : after x < g). below g x gg gx l) (λ (l : g < after x). above g x gg gx l) (unequal (after x) g ne)
  where
    below : (g x : ℕ) → Group g → Group x → after x < g → ahead g x ≡ suc (ahead g (after x))
    below g x gg gx l = omega (arith, gg.0, gg.1, gx.0, gx.1, l)

    above : (g x : ℕ) → Group g → Group x → g < after x → ahead g x ≡ suc (ahead g (after x))
    above g x gg gx l = omega (arith, gg.0, gg.1, gx.0, gx.1, l)

back-ahead : (g x : ℕ) → Group g → Group x → back g (ahead g x) ≡ x
back-ahead g x gg gx = omega (arith, gg.0, gg.1, gx.0, gx.1)

pub ahead_own : (g : ℕ) → ahead g g ≡ 7
ahead_own g = omega arith

pub ahead-other : (g x : ℕ) → Group g → Group x → x ≢ g → ahead g x ≤ 6
ahead-other g x gg gx ne = ⊎_elim (λ (l : x < g). omega (arith, gg.1, gx.0, l)) (λ (l : g < x). omega (arith, gg.0, gx.1, l)) (unequal x g ne)

-- the weights of the c groups right before g
unfoldable pub before : List ℕ → ℕ → ℕ → ℕ
before w g zero = 0
before w g (suc c) = w of (back g c) + before w g c

-- a group's weight and those between it and g
pub before-from : (w : List ℕ) (g x : ℕ) → Group g → Group x → before w g (suc (ahead g x)) ≡ w of x + before w g (ahead g x)
unfolding before
before-from w g x gg gx = ap (λ (y : ℕ). w of y + before w g (ahead g x)) (back-ahead g x gg gx)

pub before_mono : (w : List ℕ) (g c d : ℕ) → c ≤ d → before w g c ≤ before w g d
unfolding before
before_mono w g c zero h = subst (λ (z : ℕ). before w g z ≤ 0) (sym (zero_only c h)) (le_refl 0)
  where
    zero_only : (c : ℕ) → c ≤ 0 → c ≡ 0
    zero_only c h = omega arith
before_mono w g c (suc d) h = ⊎_elim
    (λ (l : c ≤ d). omega (arith, before_mono w g c d l))
    (λ (l : d < c). let e : c ≡ suc d = omega arith in rw e (le_refl _))
    (le_or_lt c d)

-- the seven groups before g are the others
pub before-others : (w : List ℕ) (g : ℕ) → Group g → before w g 7 ≡ others w g
unfolding before sum_ℕ
before-others w zero gg = absurd (omega (arith, gg.0))
before-others w (suc zero) gg = omega arith
before-others w (suc (suc zero)) gg = omega arith
before-others w (suc (suc (suc zero))) gg = omega arith
before-others w (suc (suc (suc (suc zero)))) gg = omega arith
before-others w (suc (suc (suc (suc (suc zero))))) gg = omega arith
before-others w (suc (suc (suc (suc (suc (suc zero)))))) gg = omega arith
before-others w (suc (suc (suc (suc (suc (suc (suc zero))))))) gg = omega arith
before-others w (suc (suc (suc (suc (suc (suc (suc (suc zero)))))))) gg = omega arith
before-others w (suc (suc (suc (suc (suc (suc (suc (suc (suc g))))))))) gg = absurd (omega (arith, gg.1))
