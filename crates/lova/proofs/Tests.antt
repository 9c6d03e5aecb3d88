-- What the tests of the rules and of the verdict say.
use mathlib.Core.Path.{◌≡◌, ap}
use mathlib.Core.Logic.{◌↔◌, ◌⊎◌, inl, inr, ⊎_elim}
use mathlib.Core.Bool.{Bool, not, ◌&&◌}
use mathlib.Core.List.{List}
use Prim.Native.Nat.{ℕ, zero, suc, ◌+◌, ◌*◌, ◌/◌, ◌%◌, ◌<◌, ◌≤◌}
use native.Mathlib.Omega.{arith}
use native.Mathlib.Nat.{div-add-mod', div-lt_iff_lt-mul, mod-lt}
use lib.Dec.{T, not_T, eqb, leb, leb→le, le→leb, lt→ltb, nleb→lt, eqb→eq, eqb_refl}
use lib.IntN.{ℤ, pos, negsuc, nat_abs}
use lib.ListN.{length, get_or}
use lib.Signed.{le_z, ◌<ℤ◌, clash_ℤ}
use Rattle.integers.proofs.Lists.{everywhere}
use Rattle.integers.proofs.Tests.{and_fst, and_snd, and_both, one-fails, same_test, all_true, all_elim, all-fails}
use Rattle.integers.specs.Residues.{word}
use Rattle.integers.specs.Tests.{all}
use Rattle.matrices.specs.Matrices.{Matrix, Agree}
use Rattle.matrices.specs.Tables.{entry, signed}
use Rattle.matrices.specs.Triangles.{triangular, mirrored}
use Rattle.matrices.proofs.Triangles.{mirrored_bounds}
use Rattle.settings.specs.Settings.{Parameters, NOf}
use Rattle.lova.specs.declared.Profile.{Profile}
use Rattle.lova.specs.Stored.{Instance, most_leaves, right_of, columns_of}
use Rattle.lova.specs.Tests.{every, eq_Z, equal, equal_words, short_right, diagonal_within, are_ternary, counts_join, bounded}
use Rattle.lova.specs.Calls.{ShortRight, DiagonalWithin, DiagonalLong, Ternary, CountsJoin, Bounded, ShortRecomposed, FollowsRule}
use Rattle.lova.specs.Recompose.{short_recomposed, follows_rule}
use Rattle.lova.specs.Verdict.{Diagonals, diagonals_hold}

-- each entry passes
pub every_iff : (rows cols : ℕ) (P : ℕ → ℕ → Bool) → T (every rows cols P) ↔ ((i j : ℕ) → i < rows → j < cols → T (P i j))
unfolding every
every_iff rows cols P = (
  (λ h i j hi hj. all_elim cols (λ j. P i j) (all_elim rows _ h i hi) j hj),
  (λ h. all_true rows _ (λ i hi. all_true cols _ (λ j hj. h i j hi hj))),
)

-- tests of equality
pub eqb_iff : (a c : ℕ) → T (eqb a c) ↔ (a ≡ c)
eqb_iff a c = (eqb→eq a c, λ e. rw (← e) (eqb_refl a))

eq_Z_elim : (x y : ℤ) → T (eq_Z x y) → x ≡ y
unfolding eq_Z
eq_Z_elim (pos a) (pos c) h = ap pos (eqb→eq a c h)
eq_Z_elim (pos a) (negsuc c) h = absurd h
eq_Z_elim (negsuc a) (pos c) h = absurd h
eq_Z_elim (negsuc a) (negsuc c) h = ap negsuc (eqb→eq a c h)

eq_Z-same : (x : ℤ) → T (eq_Z x x)
unfolding eq_Z
eq_Z-same (pos a) = eqb_refl a
eq_Z-same (negsuc a) = eqb_refl a

pub eq_Z_iff : (x y : ℤ) → T (eq_Z x y) ↔ (x ≡ y)
eq_Z_iff x y = (eq_Z_elim x y, λ e. rw (← e) (eq_Z-same x))

-- two matrices are equal
pub equal_iff : (rows cols : ℕ) (X Y : Matrix) → T (equal rows cols X Y) ↔ Agree rows cols X Y
equal_iff rows cols X Y = (
  (λ h i j hi hj. (eq_Z_iff (X i j) (Y i j)).0 ((every_iff rows cols _).0 h i j hi hj)),
  (λ h. (every_iff rows cols _).1 (λ i j hi hj. (eq_Z_iff (X i j) (Y i j)).1 (h i j hi hj))),
)

-- two matrices are equal modulo 2^64
pub equal-words_iff : (rows cols : ℕ) (X Y : Matrix) → T (equal_words rows cols X Y) ↔ Agree rows cols (λ i j. word (X i j)) (λ i j. word (Y i j))
equal-words_iff rows cols X Y = (
  (λ h i j hi hj. eqb→eq _ _ ((every_iff rows cols _).0 h i j hi hj)),
  (λ h. (every_iff rows cols _).1 (λ i j hi hj. (eqb_iff _ _).1 (h i j hi hj))),
)

-- each entry is at most M in size
pub bounded_iff : (rows cols M : ℕ) (X : Matrix) → T (bounded rows cols M X) ↔ Bounded rows cols M X
bounded_iff rows cols M X = (
  (λ h i j hi hj. leb→le _ _ ((every_iff rows cols _).0 h i j hi hj)),
  (λ h. (every_iff rows cols _).1 (λ i j hi hj. le→leb _ _ (h i j hi hj))),
)

-- two leaf counts can be joined
pub counts_iff : (a b : ℕ) → T (counts_join a b) ↔ CountsJoin a b
unfolding counts_join
counts_iff a b =
    let none = leb 1 a && leb 1 b in
    let most = leb (a + b) most_leaves in (
      (λ h. let x = and_fst none most h in
          (leb→le 1 a (and_fst (leb 1 a) (leb 1 b) x), leb→le 1 b (and_snd (leb 1 a) (leb 1 b) x), leb→le (a + b) most_leaves (and_snd none most h))),
      (λ h. and_both none most (and_both (leb 1 a) (leb 1 b) (le→leb 1 a h.0) (le→leb 1 b h.1)) (le→leb (a + b) most_leaves h.2)),
    )

-- a number that is not at most B exceeds it
beyond : (z : ℤ) (B : ℕ) → T (not (le_z z (pos B))) → pos B <ℤ z
beyond (pos a) B h = record { lt = lt→ltb B a (nleb→lt a B h) }
beyond (negsuc a) B h = absurd h

module _ (p : Parameters) where
  pub short_iff : (f : Profile) (S : List ℤ) → T (short_right p f S) ↔ ShortRight p f S
  unfolding short_right
  short_iff f S = ((λ h j hj. leb→le _ _ (all_elim (right_of p f) _ h j hj)), (λ h. all_true (right_of p f) _ (λ j hj. le→leb _ _ (h j hj))))

  pub recomposed_iff : (f : Profile) (S~ : List ℤ) → T (short_recomposed p f S~) ↔ ShortRecomposed p f S~
  unfolding short_recomposed
  recomposed_iff f S~ = ((λ h j hj. leb→le _ _ (all_elim (p.t + right_of p f) _ h j hj)), (λ h. all_true (p.t + right_of p f) _ (λ j hj. le→leb _ _ (h j hj))))

  pub rule_iff : (f : Profile) (S~ : List ℤ) → T (follows_rule p f S~) ↔ FollowsRule p f S~
  unfolding follows_rule
  rule_iff f S~ = equal_iff p.m (columns_of p f) _ _

  diagonal_iff : (D : List ℤ) → T (diagonal_within p D) ↔ DiagonalWithin p D
  unfolding diagonal_within
  diagonal_iff D = ((λ h i hi. record { le = all_elim p.t _ h i hi }), (λ h. all_true p.t _ (λ i hi. (h i hi).le)))

  pub diagonals_iff : (I₁ I₂ : Instance) → T (diagonals_hold p I₁ I₂) ↔ Diagonals p I₁ I₂
  unfolding diagonals_hold
  diagonals_iff I₁ I₂ =
      let a = diagonal_within p I₁.D in
      let b = diagonal_within p I₂.D in (
        (λ h. ((diagonal_iff I₁.D).0 (and_fst a b h), (diagonal_iff I₂.D).0 (and_snd a b h))),
        (λ h. and_both a b ((diagonal_iff I₁.D).1 h.0) ((diagonal_iff I₂.D).1 h.1)),
      )

  -- where they are not within B, an entry exceeds it
  long-entry : (D : List ℤ) → T (not (diagonal_within p D)) → DiagonalLong p D
  unfolding diagonal_within
  long-entry D h = let r = all-fails p.t _ h in (r.0, r.1, beyond _ p.bound r.2)

  pub long_iff : (I₁ I₂ : Instance) → (Diagonals p I₁ I₂ → ⊥) ↔ (DiagonalLong p I₁.D ⊎ DiagonalLong p I₂.D)
  unfolding diagonals_hold
  long_iff I₁ I₂ = (
    (λ h. ⊎_elim
        (λ (u : T (not (diagonal_within p I₁.D))). inl (long-entry I₁.D u))
        (λ (u : T (not (diagonal_within p I₂.D))). inr (long-entry I₂.D u))
        (one-fails (diagonal_within p I₁.D) (diagonal_within p I₂.D) (not_T (diagonals_hold p I₁ I₂) (λ t. h ((diagonals_iff I₁ I₂).0 t))))),
    (λ l h. ⊎_elim
        (λ (e : DiagonalLong p I₁.D). clash_ℤ e.2 (h.0 e.0 e.1))
        (λ (e : DiagonalLong p I₂.D). clash_ℤ e.2 (h.1 e.0 e.1))
        l),
  )

  pub ternary_iff : (C : List ℕ) → T (are_ternary p C) ↔ Ternary p C
  unfolding are_ternary
  ternary_iff C = (
    (λ h i j hi hj. leb→le _ _ ((every_iff (NOf p) p.t _).0 h i j hi hj)),
    (λ h. (every_iff (NOf p) p.t _).1 (λ i j hi hj. le→leb _ _ (h i j hi hj))),
  )

-- what holds of each entry holds of each element of the list
pub entries-everywhere : {E : Type 0} (d : E) (rows cols : ℕ) (P : E → Type 0) (xs : List E) → ((i j : ℕ) → i < rows → j < cols → P (entry d cols xs i j)) → (k : ℕ) → k < rows * cols → P (get_or xs k d)
entries-everywhere d rows zero P xs h k l = absurd (omega arith)
entries-everywhere d rows (suc c) P xs h k l = rw (div-add-mod' k (suc c)) at (h (k / suc c) (k % suc c) ((div-lt_iff_lt-mul (omega arith)).1 l) (mod-lt k (omega arith)))

-- and past the list's end too where it holds of 0
pub wholes-everywhere : (rows cols : ℕ) (P : ℤ → Type 0) (xs : List ℤ) → P (pos 0) → length xs ≡ rows * cols → ((i j : ℕ) → i < rows → j < cols → P (signed cols xs i j)) → (k : ℕ) → P (get_or xs k (pos 0))
wholes-everywhere rows cols P xs zero-too long h = everywhere P (pos 0) xs zero-too (λ k l. entries-everywhere (pos 0) rows cols P xs h k (omega arith))

-- as a bound does
pub bounded-everywhere : (rows cols M : ℕ) (xs : List ℤ) → length xs ≡ rows * cols → Bounded rows cols M (signed cols xs) → (k : ℕ) → nat_abs (get_or xs k (pos 0)) ≤ M
bounded-everywhere rows cols M xs long h = wholes-everywhere rows cols (λ z. nat_abs z ≤ M) xs (omega arith) long h

-- two matrices of which one is bounded where the other is pass 10 or 11 alike
pub same-bound : (rows cols rows' cols' M : ℕ) (X X' : Matrix) → Bounded rows' cols' M X' ↔ Bounded rows cols M X → bounded rows cols M X ≡ bounded rows' cols' M X'
same-bound rows cols rows' cols' M X X' b =
    let f = bounded_iff rows cols M X in
    let g = bounded_iff rows' cols' M X' in
    same_test (bounded rows cols M X) (bounded rows' cols' M X') (λ h. g.1 (b.1 (f.0 h))) (λ h. f.1 (b.0 (g.0 h)))

-- a bound of a matrix stored as its lower triangle holds past the list's end too
pub mirrored-everywhere : (n M : ℕ) (xs : List ℤ) → length xs ≡ triangular n → Bounded n n M (mirrored xs) → (k : ℕ) → nat_abs (get_or xs k (pos 0)) ≤ M
mirrored-everywhere n M xs long h = everywhere (λ z. nat_abs z ≤ M) (pos 0) xs (omega arith) (λ k l. (mirrored_bounds n M xs).0 h k (rw long at l))

-- and the test of its entries is one of the list's elements
pub mirrored-test : (n M : ℕ) (xs : List ℤ) → bounded n n M (mirrored xs) ≡ all (triangular n) (λ k. leb (nat_abs (get_or xs k (pos 0))) M)
mirrored-test n M xs =
    let b = mirrored_bounds n M xs in
    let g = bounded_iff n n M (mirrored xs) in
    same_test (bounded n n M (mirrored xs)) (all (triangular n) (λ k. leb (nat_abs (get_or xs k (pos 0))) M))
    (λ h. all_true (triangular n) _ (λ k l. le→leb _ _ (b.0 (g.0 h) k l)))
    (λ h. g.1 (b.1 (λ k l. leb→le _ _ (all_elim (triangular n) _ h k l))))
