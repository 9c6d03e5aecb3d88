-- The columns of a decoded challenge times the rows of a lower triangle.
use mathlib.Core.Path.{◌≡◌, sym, ◌∙◌, ap, ap₂}
use mathlib.Core.List.{List, ◌++◌}
use Prim.Native.Nat.{ℕ, ◌+◌, ◌-◌, ◌*◌, ◌^◌, ◌<◌, ◌≤◌}
use native.Mathlib.Omega.{arith}
use borrow.Author.Count.{below_more}
use lib.ListN.{length, get_or, set, take, drop, length-set, length-take, get_or-append}
use lib.Seq.{get_or-take, get_or-drop, get_or-set_same, get_or-set_other, length-take-le, length_front}
use lib.IntN.{ℤ, pos, nat_abs, ◌+ℤ◌, ◌*ℤ◌, +ℤ_idl, *ℤ-zero}
use Rattle.integers.specs.Lists.{build}
use Rattle.integers.proofs.Lists.{Filled, length-build, get_or-build}
use Rattle.integers.proofs.Sums.{sum_cong, sum_step, sum-none}
use Rattle.matrices.specs.Matrices.{product, transposed}
use Rattle.matrices.specs.Elements.{exactly, Added}
use Rattle.matrices.specs.Triangles.{triangular}
use Rattle.small_rows.specs.Small.{Within}
use Rattle.small_rows.specs.Columns.{by_columns}
use Rattle.small_rows.proofs.Small.{within_list}
use Rattle.challenges.specs.Rows.{row_times}
use Rattle.fold_gram.specs.Halves.{below_twice}
use Rattle.fold_gram.proofs.Halves.{below-low, below_on, below-high, doubled_by, left-bound}

-- row i of C transposed times the triangle, of the first k rows of both
abbrev pub left : List ℤ → List ℤ → ℕ → ℕ → ℕ → ℤ
left d q i k = product k (transposed (by_columns q)) (below_twice d) i

module _ (d q : List ℤ) (n i : ℕ) where
  -- one row of the triangle more: its k entries below the diagonal were lent as a part of d, the first k numbers of e have come
  -- back as ys, and number k is v
  module _ (k from : ℕ) (e ys : List ℤ) (v : ℤ) (l : k < n) (start : from ≡ triangular k) (w : Filled n (left d q i k) (pos 0) k e)
      (r : Added exactly (λ x. by_columns q k i *ℤ (pos 2 *ℤ get_or (take (from + k - from) (drop from d)) x (pos 0))) 0 (length (take k e)) (take k e) ys)
      (is : v ≡ by_columns q k i *ℤ get_or d (from + k) (pos 0)) where
    size : length (take k e) ≡ k
    size = length-take-le k e (omega (arith, w.long))

    long : length (ys ++ drop k e) ≡ n
    long = length_front e ys k r.long ∙ w.long

    next : (x : ℕ) → left d q i (k + 1) x ≡ left d q i k x +ℤ by_columns q k i *ℤ below_twice d k x
    next x = sum_step k (λ a. transposed (by_columns q) i a *ℤ below_twice d a x)

    below : (x : ℕ) → x < k → get_or (ys ++ drop k e) x (pos 0) ≡ left d q i (k + 1) x
    below x h =
        get_or-append ys (drop k e) (pos 0) x (omega (arith, r.long, size))
        ∙ r.done x (omega arith) (omega (arith, size))
        ∙ ap₂ (λ (y z : ℤ). y +ℤ by_columns q k i *ℤ z) (get_or-take k e x (pos 0) h ∙ w.right x h) (
        ap (λ (z : ℤ). pos 2 *ℤ z) (
        get_or-take (from + k - from) (drop from d) x (pos 0) (omega arith)
        ∙ get_or-drop from d x (pos 0)
        ∙ ap (λ (y : ℕ). get_or d (y + x) (pos 0)) start)
        ∙ sym (below-low d k x h))
        ∙ sym (next x)

    on : v ≡ left d q i (k + 1) k
    on =
        is
        ∙ sym (+ℤ_idl (by_columns q k i *ℤ get_or d (from + k) (pos 0)))
        ∙ ap₂ (λ (y z : ℤ). y +ℤ by_columns q k i *ℤ z)
        (sym (sum-none k (λ a. transposed (by_columns q) i a *ℤ below_twice d a k) (λ a h. ap (λ (z : ℤ). by_columns q a i *ℤ z) (below-high d a k h) ∙ *ℤ-zero (by_columns q a i))))
        (ap (λ (y : ℕ). get_or d (y + k) (pos 0)) start ∙ sym (below_on d k))
        ∙ sym (next k)

    pub left-more : Filled n (left d q i (k + 1)) (pos 0) (k + 1) (set (ys ++ drop k e) k v)
    left-more = record {
      within = omega arith;
      long = length-set (ys ++ drop k e) k v ∙ long;
      right = below_more (λ x. get_or (set (ys ++ drop k e) k v) x (pos 0) ≡ left d q i (k + 1) x) k
          (λ x h. get_or-set_other (ys ++ drop k e) k x v (pos 0) (λ q. omega arith) ∙ below x h)
          (get_or-set_same (ys ++ drop k e) k v (pos 0) (omega (arith, long)) ∙ on);
    }

  -- the whole row: e times C is then row i of N
  pub record Row (e : List ℤ) : Type 0 where
    pub long : length e ≡ n
    pub small : Within (2 ^ 45) e
    pub times : (j : ℕ) → row_times e (by_columns q) j ≡ doubled_by n (by_columns q) d i j

  module _ (few : n ≤ 512) (bounded : Within (2 ^ 31) d) (factors : Within 16 q) where
    left-within : (k x : ℕ) → k ≤ n → nat_abs (left d q i k x) ≤ 2 ^ 45
    left-within k x h = left-bound n (by_columns q) d few bounded (λ a j. factors (j * 512 + a)) k i x h

    pub left-size : (k : ℕ) (e : List ℤ) → Filled n (left d q i k) (pos 0) k e → Within (2 ^ 45) (take k e)
    left-size k e w = within_list (2 ^ 45) (take k e) (λ x l.
        let h : x < k = omega (arith, length-take k e) in
        rw (get_or-take k e x (pos 0) h, w.right x h) (left-within k x w.within))

    pub row_of : (e : List ℤ) → e ≡ build n (left d q i n) → Row e
    row_of e h = record {
      long = size;
      small = within_list (2 ^ 45) e (λ x l. rw (entries x (omega (arith, size))) (left-within n x (omega arith)));
      times = λ j. rw size (sum_cong n _ _ (λ k l. ap (λ (z : ℤ). z *ℤ by_columns q k j) (entries k l)));
    }
      where
        size : length e ≡ n
        size = ap length h ∙ length-build n (left d q i n)

        entries : (k : ℕ) → k < n → get_or e k (pos 0) ≡ left d q i n k
        entries k l = ap (λ (xs : List ℤ). get_or xs k (pos 0)) h ∙ get_or-build n (left d q i n) k (pos 0) l
