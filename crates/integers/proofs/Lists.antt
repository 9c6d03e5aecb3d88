-- The laws of lists over an index.
use Rattle.std.proofs.Common.{◌≡◌, ℕ, zero, suc, ◌+◌, ◌-◌, ◌<◌, ◌≤◌, Bool, T, List, [], ◌∷◌, ◌++◌, map, length, get_or, take, drop, set, replicate, sym, refl, ap, ◌∙◌, subst, ap₂, ⊎_elim, append-nil, le_of_suc-le-suc, arith, length-append, length-drop, length-set, drop_of_length-le, length-take, length-take-le, get_or-drop, get_or-set_other, get_or-take, get_or-set_same, take_at, get_or-append-add, ext_get_or, drop_at, below_more}
use lib.ListN.{length-replicate, get_or-replicate, get_or-append, get_or-eq_default}
use Rattle.integers.proofs.Tests.{le_or_lt, and_fst, and_snd}
use Rattle.integers.specs.Lists.{build, every}

module _ {A : Type 0} where
  pub length-build : (n : ℕ) (f : ℕ → A) → length (build n f) ≡ n
  unfolding build
  length-build zero f = refl
  length-build (suc n) f = ap suc (length-build n (λ i. f (suc i)))

  pub get_or-build : (n : ℕ) (f : ℕ → A) (i : ℕ) (d : A) → i < n → get_or (build n f) i d ≡ f i
  unfolding build
  get_or-build zero f i d h = absurd (omega arith)
  get_or-build (suc n) f zero d h = refl
  get_or-build (suc n) f (suc i) d h = get_or-build n (λ i. f (suc i)) i d (le_of_suc-le-suc h)

  -- a list whose elements are f's is the list that f builds
  pub is-build : (n : ℕ) (f : ℕ → A) (d : A) (xs : List A) → length xs ≡ n → ((i : ℕ) → i < n → get_or xs i d ≡ f i) → xs ≡ build n f
  is-build n f d xs h g =
      ext_get_or d xs (build n f) (h ∙ sym (length-build n f)) (λ i l. let k : i < n = omega arith in g i k ∙ sym (get_or-build n f i d k))

  -- functions that agree build the same list
  pub build_cong : (n : ℕ) (f g : ℕ → A) → ((i : ℕ) → i < n → f i ≡ g i) → build n f ≡ build n g
  unfolding build
  build_cong zero f g h = refl
  build_cong (suc n) f g h = ap₂ ◌∷◌ (h 0 (omega arith)) (build_cong n (λ i. f (suc i)) (λ i. g (suc i)) (λ i l. h (suc i) (omega arith)))

  -- what every element passes, each element passes
  pub every-at : (P : A → Bool) (d : A) (xs : List A) → T (every P xs) → (i : ℕ) → i < length xs → T (P (get_or xs i d))
  every-at P d [] t i h = absurd (omega arith)
  every-at P d (x ∷ xs) t zero h = and_fst (P x) (every P xs) t
  every-at P d (x ∷ xs) t (suc i) h = every-at P d xs (and_snd (P x) (every P xs) t) i (le_of_suc-le-suc h)

  -- what holds of each element holds of whatever is read, where it holds of what stands past the end
  pub everywhere : (P : A → Type 0) (d : A) (xs : List A) → P d → ((i : ℕ) → i < length xs → P (get_or xs i d)) → (i : ℕ) → P (get_or xs i d)
  everywhere P d xs past h i = ⊎_elim
      (λ (l : length xs ≤ i). subst P (sym (get_or-eq_default xs d l)) past)
      (λ (l : i < length xs). h i l)
      (le_or_lt (length xs) i)

  -- and of whatever is read of a part
  pub part-everywhere : (P : A → Type 0) (d : A) (a k : ℕ) (xs : List A) → P d → ((i : ℕ) → P (get_or xs i d)) → (i : ℕ) → P (get_or (take k (drop a xs)) i d)
  part-everywhere P d a k xs past h = everywhere P d (take k (drop a xs)) past (λ i l.
      let within : i < k = omega (arith, length-take k (drop a xs)) in
      subst P (sym (get_or-take k (drop a xs) i d within ∙ get_or-drop a xs i d)) (h (a + i)))

-- element i of a mapped list, whatever stands for the elements beyond the end
pub get_d_map : {A B : Type 0} (f : A → B) (xs : List A) (i : ℕ) (d : B) (e : A) → i < length xs → get_or (map f xs) i d ≡ f (get_or xs i e)
get_d_map f [] i d e h = absurd (omega arith)
get_d_map f (x ∷ xs) zero d e h = refl
get_d_map f (x ∷ xs) (suc i) d e h = get_d_map f xs i d e (le_of_suc-le-suc h)

-- a list whose part of k elements from a on has come back as ys: its length, and what stands in that part, before it and after it
module _ {A : Type 0} (a k : ℕ) (xs ys : List A) (d : A) (h : a + k ≤ length xs) (e : length ys ≡ k) where
  start : length (take a xs) ≡ a
  start = length-take-le a xs (omega arith)

  pub part-long : length (take a xs ++ (ys ++ drop k (drop a xs))) ≡ length xs
  part-long = simp (length-append, length-take, length-drop) (omega arith)

  pub part_in : (i : ℕ) → i < k → get_or (take a xs ++ (ys ++ drop k (drop a xs))) (a + i) d ≡ get_or ys i d
  part_in i l =
      let j : a + i ≡ length (take a xs) + i = omega (arith, start) in
      ap (λ (x : ℕ). get_or (take a xs ++ (ys ++ drop k (drop a xs))) x d) j
      ∙ get_or-append-add (take a xs) (ys ++ drop k (drop a xs)) i d
      ∙ get_or-append ys (drop k (drop a xs)) d i (omega arith)

  pub part-before : (i : ℕ) → i < a → get_or (take a xs ++ (ys ++ drop k (drop a xs))) i d ≡ get_or xs i d
  part-before i l = get_or-append (take a xs) (ys ++ drop k (drop a xs)) d i (omega (arith, start)) ∙ get_or-take a xs i d l

  pub part-after : (i : ℕ) → a + k ≤ i → get_or (take a xs ++ (ys ++ drop k (drop a xs))) i d ≡ get_or xs i d
  part-after i l =
      let j : i ≡ length (take a xs) + (length ys + (i - a - k)) = omega (arith, start) in
      let q : a + (k + (i - a - k)) ≡ i = omega arith in
      ap (λ (x : ℕ). get_or (take a xs ++ (ys ++ drop k (drop a xs))) x d) j
      ∙ get_or-append-add (take a xs) (ys ++ drop k (drop a xs)) (length ys + (i - a - k)) d
      ∙ get_or-append-add ys (drop k (drop a xs)) (i - a - k) d
      ∙ get_or-drop k (drop a xs) (i - a - k) d
      ∙ get_or-drop a xs (k + (i - a - k)) d
      ∙ ap (λ (x : ℕ). get_or xs x d) q

-- a list of n elements that is being filled with f 0, f 1, …: the first p of them are f's
pub record Filled {A : Type 0} (n : ℕ) (f : ℕ → A) (d : A) (p : ℕ) (xs : List A) : Type 0 where
  pub within : p ≤ n
  pub long : length xs ≡ n
  pub right : (i : ℕ) → i < p → get_or xs i d ≡ f i

module _ {A : Type 0} (n : ℕ) (f : ℕ → A) (d : A) where
  pub filled_none : (xs : List A) → length xs ≡ n → Filled n f d 0 xs
  filled_none xs h = record { within = omega arith; long = h; right = λ i l. absurd (omega arith) }

  -- one element more
  pub filled_more : (p : ℕ) (xs : List A) (v : A) → p < n → v ≡ f p → Filled n f d p xs → Filled n f d (p + 1) (set xs p v)
  filled_more p xs v h e r = record {
    within = omega arith;
    long = length-set xs p v ∙ r.long;
    right = below_more (λ i. get_or (set xs p v) i d ≡ f i) p
        (λ i l. get_or-set_other xs p i v d (λ q. omega arith) ∙ r.right i l)
        (get_or-set_same xs p v d (omega arith) ∙ e);
  }

  -- a part of k elements more, which has come back as ys
  pub filled-part : (p k : ℕ) (xs ys : List A) → p + k ≤ n → length ys ≡ k → ((i : ℕ) → i < k → get_or ys i d ≡ f (p + i))
      → Filled n f d p xs → Filled n f d (p + k) (take p xs ++ (ys ++ drop k (drop p xs)))
  filled-part p k xs ys h e g r = record {
    within = h;
    long = part-long p k xs ys d fits e ∙ r.long;
    right = λ i l. ⊎_elim (λ (m : p ≤ i). new i m l) (λ (m : i < p). part-before p k xs ys d fits e i m ∙ r.right i m) (le_or_lt p i);
  }
    where
      fits : p + k ≤ length xs
      fits = omega (arith, r.long)

      new : (i : ℕ) → p ≤ i → i < p + k → get_or (take p xs ++ (ys ++ drop k (drop p xs))) i d ≡ f i
      new i m l =
          let q : p + (i - p) ≡ i = omega arith in
          rw (← q) (part_in p k xs ys d fits e (i - p) (omega arith) ∙ g (i - p) (omega arith))

  -- all of them
  pub filled-all : (p : ℕ) (xs : List A) → n ≤ p → Filled n f d p xs → xs ≡ build n f
  filled-all p xs h r = is-build n f d xs r.long (λ i l. r.right i (omega arith))

-- a constant builds a repeat
pub build_constant : {A : Type 0} (n : ℕ) (v : A) → build n (λ i. v) ≡ replicate n v
build_constant n v = sym (is-build n (λ i. v) v (replicate n v) (length-replicate n v) (λ i h. get_or-replicate n i v v h))

-- a list whose first a elements have come back as ys, and then all from a on as zs
pub two-parts : {A : Type 0} (a : ℕ) (xs ys zs : List A) → length ys ≡ a
    → take a (ys ++ drop a xs) ++ (zs ++ drop (length (ys ++ drop a xs) - a) (drop a (ys ++ drop a xs))) ≡ ys ++ zs
two-parts a xs ys zs e =
    let end : length (drop a xs) ≤ length (ys ++ drop a xs) - a = omega (arith, length-append ys (drop a xs)) in
    rw (take_at ys (drop a xs) a e, drop_at ys (drop a xs) a e, drop_of_length-le (drop a xs) end, append-nil zs) refl
