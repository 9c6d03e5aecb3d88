-- A multiple of a row, written into a row from its first number up, or added to one from its last down: one product.
use mathlib.Core.Path.{◌≡◌, refl, sym, ◌∙◌, ap}
use mathlib.Core.List.{List}
use Prim.Native.Nat.{ℕ, ◌+◌, ◌-◌, ◌^◌, ◌<◌, ◌≤◌}
use native.Mathlib.Omega.{arith}
use lib.IntN.{ℤ, pos, nat_abs, ◌+ℤ◌, ◌*ℤ◌, +ℤ_idl}
use lib.ListN.{length, get_or, set}
use mir.Syntax.{w64}
use mir.Val.{SFits, to_z, of_z}
use mir.ValLaws.{to_z-of_z}
use Rattle.integers.specs.Lists.{build}
use Rattle.integers.proofs.Words.{read_back}
use Rattle.integers.proofs.Lists.{Filled, filled_more, filled-all, build_cong}
use Rattle.matrices.specs.Elements.{exactly, Added}
use Rattle.matrices.proofs.Elements.{added-two-down}
use Rattle.matrices.proofs.Turns.{room, read-added}
use Rattle.cross_products.specs.Rows.{RowRoom}

-- what is written into number i of the row, or added to it: x, as the machine has it, times number i of y
abbrev pub multiple_of : ℤ → List ℤ → ℕ → ℤ
multiple_of x y i = to_z w64 (of_z w64 x) *ℤ get_or y i (pos 0)

-- a product that is written, as the sum of 0 and it: what it asks, and what it gives
module _ (x : ℤ) (y : List ℤ) (i : ℕ) (fx : SFits w64 x) (fy : SFits w64 (get_or y i (pos 0))) where
  pub write-asks : nat_abs (x *ℤ get_or y i (pos 0)) ≤ 2 ^ 62
      → nat_abs (pos 0) + nat_abs (to_z w64 (of_z w64 x) *ℤ to_z w64 (of_z w64 (get_or y i (pos 0)))) < 2 ^ 63
  write-asks h = room (pos 0) x (get_or y i (pos 0)) refl fx fy (omega arith)

  pub write-more : {r : ℤ} (n : ℕ) (row : List ℤ) → i < n
      → r ≡ pos 0 +ℤ to_z w64 (of_z w64 x) *ℤ to_z w64 (of_z w64 (get_or y i (pos 0))) → SFits w64 r
      → Filled n (multiple_of x y) (pos 0) i row
      → Filled n (multiple_of x y) (pos 0) (i + 1) (set row i (to_z w64 (of_z w64 r)))
  write-more n row h e fr w =
      let b = get_or y i (pos 0) in
      let v = read-added (pos 0) x b refl fx fy e fr ∙ +ℤ_idl (x *ℤ b)
      ∙ ap (λ (z : ℤ). z *ℤ b) (sym (to_z-of_z w64 x fx)) in
      filled_more n (multiple_of x y) (pos 0) i row _ h v w

-- a row in which all of them are written
pub write-all : (x : ℤ) (y : List ℤ) (n p : ℕ) (row : List ℤ) → SFits w64 x → n ≤ p
    → Filled n (multiple_of x y) (pos 0) p row → row ≡ build n (λ j. x *ℤ get_or y j (pos 0))
write-all x y n p row fx h w =
    filled-all n (multiple_of x y) (pos 0) p row h w
    ∙ build_cong n _ _ (λ j l. ap (λ (z : ℤ). z *ℤ get_or y j (pos 0)) (to_z-of_z w64 x fx))

module _ (x : ℤ) (y before row : List ℤ) (j : ℕ) (fx : SFits w64 x) (w : Added exactly (multiple_of x y) j (length before) before row) where
  -- a product for a number that nothing is added to yet: what it asks, and what it gives
  module _ (i : ℕ) (h : i < j) (fy : SFits w64 (get_or y i (pos 0))) where
    pub asks : RowRoom (length before) before (λ i. nat_abs (x *ℤ get_or y i (pos 0)))
        → nat_abs (to_z w64 (of_z w64 (get_or row i (pos 0)))) + nat_abs (to_z w64 (of_z w64 x) *ℤ to_z w64 (of_z w64 (get_or y i (pos 0)))) < 2 ^ 63
    asks small =
        let b = get_or row i (pos 0) in
        let s : nat_abs b + nat_abs (x *ℤ get_or y i (pos 0)) ≤ 2 ^ 62 = rw (w.below i h) (small i (omega (arith, w.within))) in
        room b x (get_or y i (pos 0)) (read_back w64 b (omega arith)) fx fy (omega arith)

    pub gives : {r : ℤ} → SFits w64 (get_or row i (pos 0))
        → r ≡ to_z w64 (of_z w64 (get_or row i (pos 0))) +ℤ to_z w64 (of_z w64 x) *ℤ to_z w64 (of_z w64 (get_or y i (pos 0))) → SFits w64 r
        → to_z w64 (of_z w64 r) ≡ get_or row i (pos 0) +ℤ multiple_of x y i
    gives fb e fr =
        let b = get_or row i (pos 0) in
        read-added b x (get_or y i (pos 0)) (to_z-of_z w64 b fb) fx fy e fr ∙ ap (λ (z : ℤ). b +ℤ z *ℤ get_or y i (pos 0)) (sym (to_z-of_z w64 x fx))

-- a pair of numbers more at the start, from place p on
pub pair_down : (f : ℕ → ℤ) (p to : ℕ) (before after : List ℤ) (u v : ℤ) → Added exactly f (p + 2) to before after → p + 2 ≤ length after
    → u ≡ get_or after (p + 1) (pos 0) +ℤ f (p + 1) → v ≡ get_or after p (pos 0) +ℤ f p → Added exactly f p to before (set (set after (p + 1) u) p v)
pair_down f p to before after u v w room first second =
    let one : p + 2 - 1 ≡ p + 1 = omega arith in
    let two : p + 2 - 2 ≡ p = omega arith in
    rw (one, two) at (added-two-down exactly f (p + 2) to before after u v w (omega arith) room (rw one first) (rw two second))
