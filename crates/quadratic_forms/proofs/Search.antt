-- The search: the count by the choices for the last coordinate.
use mathlib.Core.Path.{◌≡◌, refl, sym, ap, ap₂, ◌∙◌}
use mathlib.Core.List.{List}
use Prim.Native.Nat.{ℕ, zero, suc, ◌+◌, ◌*◌, ◌<◌}
use native.Mathlib.Omega.{arith}
use native.Mathlib.Numerals.{add-one}
use lib.IntN.{ℤ, pos, negsuc, neg_ℤ, ◌+ℤ◌, ◌-ℤ◌, ◌*ℤ◌}
use lib.ListN.{get_or}
use Rattle.integers.specs.Sums.{sum}
use Rattle.integers.proofs.Sums.{sum_cong, sum_add, sum_mul_left, sum-none}
use Rattle.integers.proofs.Ring.{ring, diff_eq, diff-of-negsuc, as_diff}
use Rattle.matrices.specs.Triangles.{triangular, mirrored}
use Rattle.matrices.proofs.Triangles.{mirrored-low, mirrored-symmetric}
use Rattle.lova.specs.Tests.{eq_Z}
use Rattle.quadratic_forms.specs.Forms.{Vector, vectors, tally, count_of, form, zeros_of, zeros}
use Rattle.quadratic_forms.specs.Search.{linear, value_at, last_zeros, terms_of, after_choice, Holds}
use Rattle.quadratic_forms.proofs.Counts.{zeros_cong}
use Rattle.quadratic_forms.proofs.Last.{Last, by_last}
use Rattle.quadratic_forms.proofs.Forms.{linear-put, cross, form-last, zero-times}

-- the number, the linear terms and the form apart
apart-minus : (q a g s t x : ℤ) → ((q +ℤ (a +ℤ g)) +ℤ s) -ℤ (t +ℤ x) ≡ ((q +ℤ s) -ℤ t) +ℤ ((a +ℤ negsuc 0 *ℤ x) +ℤ g)
apart-minus q a g s t x = rw (as_diff q, as_diff a, as_diff g, as_diff s, as_diff t, as_diff x, diff-of-negsuc 0) (simp ring (diff_eq _ _ _ _ (omega arith)))

apart-plus : (q a g s t x : ℤ) → ((q +ℤ (a +ℤ g)) +ℤ s) +ℤ (t +ℤ x) ≡ ((q +ℤ s) +ℤ t) +ℤ ((a +ℤ pos 1 *ℤ x) +ℤ g)
apart-plus q a g s t x = rw (as_diff q, as_diff a, as_diff g, as_diff s, as_diff t, as_diff x) (simp ring (diff_eq _ _ _ _ (omega arith)))

module _ (e : List ℤ) (r : ℕ) (l : ℕ → ℤ) (q : ℤ) where
  -- the linear terms of a choice
  linear_chosen : (c : ℤ) (v : Vector) → linear r (after_choice e r c l) v ≡ linear r l v +ℤ c *ℤ cross r (mirrored e) v
  linear_chosen c v =
      sum_cong r _ _ (λ j h. ap (λ (z : ℤ). (l j +ℤ c *ℤ z) *ℤ v j) (doubled (mirrored e r j) ∙ ap (λ (z : ℤ). mirrored e r j +ℤ z) (mirrored-symmetric e r j))
      ∙ spread (l j) c (mirrored e r j +ℤ mirrored e j r) (v j))
      ∙ sum_add r _ _
      ∙ ap (λ (z : ℤ). linear r l v +ℤ z) (sym (sum_mul_left r c _))
    where
      doubled : (x : ℤ) → pos 2 *ℤ x ≡ x +ℤ x
      doubled x = rw (as_diff x) (simp ring (diff_eq _ _ _ _ (omega arith)))

      spread : (a c x y : ℤ) → (a +ℤ c *ℤ x) *ℤ y ≡ a *ℤ y +ℤ c *ℤ (x *ℤ y)
      spread a c x y = rw (as_diff a, as_diff c, as_diff x, as_diff y) (simp ring (diff_eq _ _ _ _ (omega arith)))

  -- the value by the last coordinate
  value-last : Last r (value_at (suc r) (mirrored e) l q) (value_at r (mirrored e) l q) (λ v. l r +ℤ cross r (mirrored e) v) (mirrored e r r)
  value-last c v =
      ap₂ (λ (a b : ℤ). q +ℤ (a +ℤ b)) (linear-put r l c v) (form-last r (mirrored e) c v)
      ∙ regroup q (linear r l v) (l r) c (form r (mirrored e) v) (cross r (mirrored e) v) (mirrored e r r *ℤ (c *ℤ c))
    where
      regroup : (q a t c g x s : ℤ) → q +ℤ ((a +ℤ t *ℤ c) +ℤ (g +ℤ (x *ℤ c +ℤ s))) ≡ (q +ℤ (a +ℤ g)) +ℤ ((t +ℤ x) *ℤ c +ℤ s)
      regroup q a t c g x s =
          rw (as_diff q, as_diff a, as_diff t, as_diff c, as_diff g, as_diff x, as_diff s) (simp ring (diff_eq _ _ _ _ (omega arith)))

  abbrev squared : ℤ
  squared = q +ℤ mirrored e r r

  -- the number and the linear terms that the three choices leave
  minus-value : (v : Vector) → (value_at r (mirrored e) l q v +ℤ mirrored e r r) -ℤ (l r +ℤ cross r (mirrored e) v)
      ≡ value_at r (mirrored e) (after_choice e r (negsuc 0) l) (squared -ℤ l r) v
  minus-value v =
      apart-minus q (linear r l v) (form r (mirrored e) v) (mirrored e r r) (l r) (cross r (mirrored e) v)
      ∙ ap (λ (a : ℤ). (squared -ℤ l r) +ℤ (a +ℤ form r (mirrored e) v)) (sym (linear_chosen (negsuc 0) v))

  plus-value : (v : Vector) → (value_at r (mirrored e) l q v +ℤ mirrored e r r) +ℤ (l r +ℤ cross r (mirrored e) v)
      ≡ value_at r (mirrored e) (after_choice e r (pos 1) l) (squared +ℤ l r) v
  plus-value v =
      apart-plus q (linear r l v) (form r (mirrored e) v) (mirrored e r r) (l r) (cross r (mirrored e) v)
      ∙ ap (λ (a : ℤ). (squared +ℤ l r) +ℤ (a +ℤ form r (mirrored e) v)) (sym (linear_chosen (pos 1) v))

  -- the count by the three choices
  pub by_choices : zeros_of (suc r) (value_at (suc r) (mirrored e) l q)
      ≡ zeros_of r (value_at r (mirrored e) (after_choice e r (negsuc 0) l) (squared -ℤ l r))
      + (zeros_of r (value_at r (mirrored e) l q) + zeros_of r (value_at r (mirrored e) (after_choice e r (pos 1) l) (squared +ℤ l r)))
  by_choices =
      by_last r (value_at (suc r) (mirrored e) l q) (value_at r (mirrored e) l q) (λ v. l r +ℤ cross r (mirrored e) v) (mirrored e r r) value-last
      ∙ ap₂ (λ (a b : ℕ). a + (zeros_of r (value_at r (mirrored e) l q) + b)) (zeros_cong r _ _ minus-value) (zeros_cong r _ _ plus-value)

-- where no coordinate is left the value is the number
pub none_left : (e : List ℤ) (l : ℕ → ℤ) (q : ℤ) → zeros_of 0 (value_at 0 (mirrored e) l q) ≡ tally (eq_Z q (pos 0))
unfolding zeros_of count_of vectors sum
none_left e l q = ap (λ (z : ℤ). tally (eq_Z z (pos 0)) + 0) (nothing q) ∙ omega arith
  where
    nothing : (q : ℤ) → q +ℤ (pos 0 +ℤ pos 0) ≡ q
    nothing q = rw (as_diff q) (simp ring (diff_eq _ _ _ _ (omega arith)))

-- what the terms are counts below i alone
pub terms_cong : (e : List ℤ) (i : ℕ) (l l' : ℕ → ℤ) (q : ℤ) → ((j : ℕ) → j < i → l j ≡ l' j)
    → zeros_of i (value_at i (mirrored e) l q) ≡ zeros_of i (value_at i (mirrored e) l' q)
terms_cong e i l l' q h =
    zeros_cong i _ _ (λ v. ap (λ (z : ℤ). q +ℤ (z +ℤ form i (mirrored e) v)) (sum_cong i _ _ (λ j k. ap (λ (z : ℤ). z *ℤ v j) (h j k))))

-- the three counts make the count: minus and plus are the numbers, down and up the linear terms of the choices −1 and 1
module _ (e : List ℤ) (i r : ℕ) (next : suc r ≡ i) (l : ℕ → ℤ) (q minus plus : ℤ) where
  abbrev square : ℤ
  square = q +ℤ get_or e (triangular r + r) (pos 0)

  pub three-counts : minus ≡ square -ℤ l r → plus ≡ square +ℤ l r
      → (down up : ℕ → ℤ) → ((j : ℕ) → j < r → down j ≡ after_choice e r (negsuc 0) l j) → ((j : ℕ) → j < r → up j ≡ after_choice e r (pos 1) l j)
      → (x y z : ℕ) → x ≡ zeros_of r (value_at r (mirrored e) down minus) → y ≡ zeros_of r (value_at r (mirrored e) l q)
      → z ≡ zeros_of r (value_at r (mirrored e) up plus) → x + (y + z) ≡ zeros_of i (value_at i (mirrored e) l q)
  three-counts below above down up d u x y z hx hy hz =
      ap₂ (λ (a b : ℕ). a + b) (hx ∙ terms_cong e r down _ minus d ∙ ap (counted (negsuc 0)) (below ∙ ap (λ (w : ℤ). w -ℤ l r) diagonal))
      (ap₂ (λ (a b : ℕ). a + b) hy (hz ∙ terms_cong e r up _ plus u ∙ ap (counted (pos 1)) (above ∙ ap (λ (w : ℤ). w +ℤ l r) diagonal)))
      ∙ sym (by_choices e r l q)
      ∙ ap (λ (n : ℕ). zeros_of n (value_at n (mirrored e) l q)) next
    where
      diagonal : square ≡ q +ℤ mirrored e r r
      diagonal = ap (λ (w : ℤ). q +ℤ w) (sym (mirrored-low e r r (omega arith)))

      counted : ℤ → ℤ → ℕ
      counted c m = zeros_of r (value_at r (mirrored e) (after_choice e r c l) m)

-- the same choices, said otherwise
pub last_cong : (q q' t t' s s' : ℤ) → q ≡ q' → t ≡ t' → s ≡ s' → last_zeros q t s ≡ last_zeros q' t' s'
last_cong q q' t t' s s' a b c = ap₂ (λ (x y : ℤ). last_zeros x y s) a b ∙ ap (last_zeros q' t') c

-- one coordinate: its choices are tested
pub one_left : (e : List ℤ) (l : ℕ → ℤ) (q : ℤ) → last_zeros q (l 0) (get_or e 0 (pos 0)) ≡ zeros_of 1 (value_at 1 (mirrored e) l q)
unfolding last_zeros
one_left e l q =
    three-counts e 1 0 refl l q _ _ refl refl l l (λ j h. absurd (omega arith)) (λ j h. absurd (omega arith)) _ _ _
    (sym (none_left e l _)) (sym (none_left e l q)) (sym (none_left e l _))

-- two: the linear term of the first is less or more by twice the entry beside
module _ (e : List ℤ) (l : ℕ → ℤ) (q : ℤ) where
  abbrev beside : ℤ
  beside = pos 2 *ℤ get_or e 1 (pos 0)

  less-is : (j : ℕ) → j < 1 → l 0 -ℤ beside ≡ after_choice e 1 (negsuc 0) l j
  less-is zero h = rw (mirrored-low e 1 0 (omega arith)) (taken (l 0) beside)
    where
      taken : (a b : ℤ) → a -ℤ b ≡ a +ℤ negsuc 0 *ℤ b
      taken a b = rw (as_diff a, as_diff b, diff-of-negsuc 0) (simp ring (diff_eq _ _ _ _ (omega arith)))
  less-is (suc j) h = absurd (omega arith)

  more-is : (j : ℕ) → j < 1 → l 0 +ℤ beside ≡ after_choice e 1 (pos 1) l j
  more-is zero h = rw (mirrored-low e 1 0 (omega arith)) (added (l 0) beside)
    where
      added : (a b : ℤ) → a +ℤ b ≡ a +ℤ pos 1 *ℤ b
      added a b = rw (as_diff a, as_diff b) (simp ring (diff_eq _ _ _ _ (omega arith)))
  more-is (suc j) h = absurd (omega arith)

  abbrev last : ℤ → ℤ → ℕ
  last m t = last_zeros m t (get_or e 0 (pos 0))

  pub two-left : (x y z : ℕ) → x ≡ last ((q +ℤ get_or e 2 (pos 0)) -ℤ l 1) (l 0 -ℤ beside) → y ≡ last q (l 0)
      → z ≡ last ((q +ℤ get_or e 2 (pos 0)) +ℤ l 1) (l 0 +ℤ beside) → x + (y + z) ≡ zeros_of 2 (value_at 2 (mirrored e) l q)
  two-left x y z hx hy hz =
      three-counts e 2 1 refl l q _ _ refl refl (λ j. l 0 -ℤ beside) (λ j. l 0 +ℤ beside) less-is more-is x y z
      (hx ∙ one_left e (λ j. l 0 -ℤ beside) ((q +ℤ get_or e 2 (pos 0)) -ℤ l 1)) (hy ∙ one_left e l q)
      (hz ∙ one_left e (λ j. l 0 +ℤ beside) ((q +ℤ get_or e 2 (pos 0)) +ℤ l 1))

-- ---- c and −c

-- the linear terms with their signs turned
abbrev turned : (ℕ → ℤ) → ℕ → ℤ
turned l j = neg_ℤ (l j)

turned_choice : (e : List ℤ) (r : ℕ) (c : ℤ) (l : ℕ → ℤ) (j : ℕ) → after_choice e r (neg_ℤ c) (turned l) j ≡ turned (after_choice e r c l) j
turned_choice e r c l j = sign (l j) c (pos 2 *ℤ mirrored e r j)
  where
    sign : (a c x : ℤ) → neg_ℤ a +ℤ neg_ℤ c *ℤ x ≡ neg_ℤ (a +ℤ c *ℤ x)
    sign a c x = rw (as_diff a, as_diff c, as_diff x) (simp ring (diff_eq _ _ _ _ (omega arith)))

less-turned : (z a : ℤ) → z -ℤ neg_ℤ a ≡ z +ℤ a
less-turned z a = rw (as_diff z, as_diff a) (simp ring (diff_eq _ _ _ _ (omega arith)))

-- as many vectors c make q + l c + c-transposed E c zero as q − l c + c-transposed E c
pub opposite : (e : List ℤ) (i : ℕ) (l : ℕ → ℤ) (q : ℤ) → zeros_of i (value_at i (mirrored e) (turned l) q) ≡ zeros_of i (value_at i (mirrored e) l q)
opposite e zero l q = none_left e (turned l) q ∙ sym (none_left e l q)
opposite e (suc r) l q =
    let m = q +ℤ mirrored e r r in
    let counted : (ℕ → ℤ) → ℤ → ℕ = λ t z. zeros_of r (value_at r (mirrored e) t z) in
    let turn : (c d : ℤ) → d ≡ neg_ℤ c → (z z' : ℤ) → z ≡ z' → counted (after_choice e r d (turned l)) z ≡ counted (after_choice e r c l) z' =
    λ c d s z z' h.
    terms_cong e r _ _ z (λ j k. ap (λ (x : ℤ). after_choice e r x (turned l) j) s ∙ turned_choice e r c l j)
    ∙ opposite e r (after_choice e r c l) z ∙ ap (counted (after_choice e r c l)) h in
    omega (
      arith,
      by_choices e r (turned l) q,
      by_choices e r l q,
      opposite e r l q,
      turn (pos 1) (negsuc 0) refl (m -ℤ neg_ℤ (l r)) (m +ℤ l r) (less-turned m (l r)),
      turn (negsuc 0) (pos 1) refl (m +ℤ neg_ℤ (l r)) (m -ℤ l r) refl,
    )

-- with no linear terms and the number 0 it is the form's count
none_carried : (N : ℕ) (e : List ℤ) → zeros_of N (value_at N (mirrored e) (λ j. pos 0) (pos 0)) ≡ zeros N (mirrored e)
none_carried N e = zeros_cong N _ _ (λ v.
    ap (λ (z : ℤ). pos 0 +ℤ (z +ℤ form N (mirrored e) v)) (sum-none N _ (λ j h. zero-times (v j))) ∙ nothing (form N (mirrored e) v))
  where
    nothing : (z : ℤ) → pos 0 +ℤ (pos 0 +ℤ z) ≡ z
    nothing z = rw (as_diff z) (simp ring (diff_eq _ _ _ _ (omega arith)))

-- one row more: the vectors that end with 0, and twice those that end with 1
module _ (e : List ℤ) (r : ℕ) where
  abbrev none : ℕ → ℤ
  none j = pos 0

  abbrev half : ℕ
  half = zeros_of r (value_at r (mirrored e) (after_choice e r (pos 1) none) (get_or e (triangular r + r) (pos 0)))

  pub one-row-more : zeros (suc r) (mirrored e) ≡ zeros r (mirrored e) + 2 * half
  one-row-more =
      let counted : ℤ → ℤ → ℕ = λ c z. zeros_of r (value_at r (mirrored e) (after_choice e r c none) z) in
      let d = mirrored e r r in
      let plus : counted (pos 1) ((pos 0 +ℤ d) +ℤ pos 0) ≡ half = ap (counted (pos 1)) (nothing d ∙ mirrored-low e r r (omega arith)) in
      let minus : counted (negsuc 0) ((pos 0 +ℤ d) -ℤ pos 0) ≡ half =
      terms_cong e r (after_choice e r (negsuc 0) none) (turned (after_choice e r (pos 1) none)) ((pos 0 +ℤ d) -ℤ pos 0) (λ j h. turned_choice e r (pos 1) none j)
      ∙ opposite e r (after_choice e r (pos 1) none) ((pos 0 +ℤ d) -ℤ pos 0) ∙ ap (counted (pos 1)) (nothing' d ∙ mirrored-low e r r (omega arith)) in
      omega (arith, none_carried (suc r) e, none_carried r e, by_choices e r none (pos 0), plus, minus)
    where
      nothing : (z : ℤ) → (pos 0 +ℤ z) +ℤ pos 0 ≡ z
      nothing z = rw (as_diff z) (simp ring (diff_eq _ _ _ _ (omega arith)))

      nothing' : (z : ℤ) → (pos 0 +ℤ z) -ℤ pos 0 ≡ z
      nothing' z = rw (as_diff z) (simp ring (diff_eq _ _ _ _ (omega arith)))

  -- as the code has it
  pub row-added : (total x : ℕ) (l up : List ℤ) (m : ℤ) → total ≡ zeros r (mirrored e) → m ≡ get_or e (triangular r + r) (pos 0)
      → ((j : ℕ) → j < r → terms_of l j ≡ pos 0) → Holds r (after_choice e r (pos 1) (terms_of l)) up
      → x ≡ zeros_of r (value_at r (mirrored e) (terms_of up) m) → total + 2 * x ≡ zeros (r + 1) (mirrored e)
  row-added total x l up m before is empty holds counted =
      let half_is : x ≡ half = counted
      ∙ terms_cong e r (terms_of up) (after_choice e r (pos 1) none) m (λ j h. holds j h ∙ ap (λ (z : ℤ). z +ℤ pos 1 *ℤ (pos 2 *ℤ mirrored e r j)) (empty j h))
      ∙ ap (λ (z : ℤ). zeros_of r (value_at r (mirrored e) (after_choice e r (pos 1) none) z)) is in
      rw (add-one r) (omega (arith, before, half_is, one-row-more))

-- no row: the one vector without entries counts
no_row : (e : List ℤ) → zeros 0 (mirrored e) ≡ 1
unfolding zeros_of count_of vectors tally sum eq_Z
no_row e = refl

-- the first row
pub one-row : (e : List ℤ) (x : ℕ) → x ≡ tally (eq_Z (get_or e 0 (pos 0)) (pos 0)) → 1 + 2 * x ≡ zeros 1 (mirrored e)
one-row e x h = omega (arith, h, one-row-more e 0, no_row e, none_left e (after_choice e 0 (pos 1) (λ j. pos 0)) (get_or e 0 (pos 0)))

-- c = 0 counts, and every other vector with its opposite: the count is odd
pub odd : (e : List ℤ) (N : ℕ) → (k : ℕ) × (zeros N (mirrored e) ≡ 1 + 2 * k)
odd e zero = (0, no_row e)
odd e (suc r) = let (k, h) = odd e r in (k + half e r, omega (arith, h, one-row-more e r))
