-- A slice whose first k elements are lent, and the slice after they came back as ys; what a refused node leaves.
use mathlib.Core.Path.{◌≡◌, refl, sym, ◌∙◌, ap}
use mathlib.Core.List.{List, ◌++◌}
use Prim.Native.Nat.{ℕ, ◌+◌, ◌*◌, ◌≤◌}
use native.Mathlib.Omega.{arith}
use lib.IntN.{ℤ}
use lib.ListN.{length, take, drop, length-append, length-drop}
use lib.Seq.{take_at, length-take-le}
use Rattle.settings.specs.Settings.{Parameters}
use Rattle.lova.specs.Stored.{matrix_T, matrix_S, matrix_D}
use Rattle.chain.specs.Limits.{largest}
use Rattle.chain.specs.Nodes.{node_of}
use Rattle.states.specs.Held.{part_node}

pub record Part {A : Type 0} (k : ℕ) (xs ys : List A) : Type 0 where
  pub fits : k ≤ length (ys ++ drop k xs)
  pub long : length (take k (ys ++ drop k xs)) ≡ k
  pub same : take k (ys ++ drop k xs) ≡ ys
  pub count : length (ys ++ drop k xs) ≡ length xs

module _ {A : Type 0} (k n : ℕ) (xs : List A) (h : k ≤ n) (l : length xs ≡ n) where
  pub room : k ≤ length xs
  room = omega arith

  -- as many are lent
  pub lent : k ≡ length (take k xs)
  lent = sym (length-take-le k xs room)

  pub part : (ys : List A) → length ys ≡ length (take k xs) → Part k xs ys
  part ys e =
      let size : length ys ≡ k = e ∙ sym lent in
      let same = take_at ys (drop k xs) k size in
      record {
        fits = simp length-append (omega arith);
        long = ap length same ∙ size;
        same = same;
        count = simp (length-append, length-drop) (omega arith);
      }

-- with any leaf count
module _ (p : Parameters) (T₀ : List ℕ) (D₀ S₀ : List ℤ) (T : List ℕ) (D S : List ℤ) (leaves : ℕ) where
  -- a node that came back stands at the beginning of its slices
  pub node_back : Part (matrix_T p).size T₀ T → Part (matrix_D p).size D₀ D → Part (matrix_S p).size S₀ S
      → part_node p (T ++ drop (matrix_T p).size T₀) (D ++ drop (matrix_D p).size D₀) leaves (S ++ drop (matrix_S p).size S₀) ≡ node_of T D leaves S
  node_back t d s = rw (t.same, d.same, s.same) refl

-- a line with T and D has room in the output buffer
pub line-room : (t d n t' d' : ℕ) → t ≡ t' → t' ≤ (matrix_T largest).size → d ≡ d' → d' ≤ (matrix_D largest).size → n ≡ 512 → 64 + 21 * t + 21 * d ≤ n
line-room t d n t' d' et ht ed hd en = omega arith
