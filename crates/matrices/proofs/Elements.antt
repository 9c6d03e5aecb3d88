-- Sums of products, over the elements that hold them: one turn of a loop, and what loops add to a row.
use Rattle.std.proofs.Common.{◌≡◌, ℕ, ◌+◌, ◌-◌, ◌<◌, ◌≤◌, List, length, get_or, set, ℤ, ◌+ℤ◌, sym, refl, ap, ◌∙◌, subst, ap₂, ⊎_elim, arith, length-set, get_or-set_other, get_or-set_same}
use lib.IntN.{+ℤ_assoc, +ℤ_comm, +ℤ_idl}
use Rattle.integers.specs.Lists.{build}
use Rattle.integers.specs.Sums.{sum}
use Rattle.integers.proofs.Lists.{length-build, get_or-build, is-build}
use Rattle.integers.proofs.Sums.{sum_cong, sum_step, sum-split}
use Rattle.integers.proofs.Residues.{word_on}
use Rattle.integers.proofs.Tests.{le_or_lt}
use Rattle.matrices.specs.Elements.{Element, exactly, modulo, Added}

-- what is added to a stored number might as well be added to the number
abbrev pub Sums : {A : Type 0} → Element A → Type 0
Sums e = (x y : ℤ) → e.stored (e.value (e.stored x) +ℤ y) ≡ e.stored (x +ℤ y)

pub exactly-sums : Sums exactly
exactly-sums x y = refl

pub modulo-sums : Sums modulo
modulo-sums = word_on

-- the terms from number k - 1 on are the first of them and those from number k on
first-last : (c k : ℕ) (f : ℕ → ℤ) → 0 < k → k ≤ c → sum (c - (k - 1)) (λ r. f (k - 1 + r)) ≡ sum (c - k) (λ r. f (k + r)) +ℤ f (k - 1)
unfolding sum
first-last c k f some fits =
    let n : c - (k - 1) ≡ 1 + (c - k) = omega arith in
    let z : k - 1 + 0 ≡ k - 1 = omega arith in
    ap (λ (n : ℕ). sum n (λ r. f (k - 1 + r))) n
    ∙ sum-split 1 (c - k) (λ r. f (k - 1 + r))
    ∙ ap₂ ◌+ℤ◌ (+ℤ_idl (f (k - 1 + 0)) ∙ ap f z) (sum_cong (c - k) _ _ (λ r h. let s : k - 1 + (1 + r) ≡ k + r = omega arith in ap f s))
    ∙ +ℤ_comm (f (k - 1)) (sum (c - k) (λ r. f (k + r)))

module _ {A : Type 0} (e : Element A) (sums : Sums e) where
  -- a turn: p holds what was summed before, a term is added to it, and q holds what is summed then
  pub turn : (before term : ℤ) {after : ℤ} {p q : A} → after ≡ before +ℤ term → p ≡ e.stored before → q ≡ e.stored (e.value p +ℤ term) → q ≡ e.stored after
  turn before term next holds adds = adds ∙ ap (λ (x : A). e.stored (e.value x +ℤ term)) holds ∙ sums before term ∙ ap e.stored (sym next)

  -- the same of a sum, which has one term more, and of a sum that is added to b
  pub sum-on : (n : ℕ) (f : ℕ → ℤ) {p q : A} → p ≡ e.stored (sum n f) → q ≡ e.stored (e.value p +ℤ f n) → q ≡ e.stored (sum (n + 1) f)
  sum-on n f = turn (sum n f) (f n) (sum_step n f)

  pub next-on : (b : ℤ) (n : ℕ) (f : ℕ → ℤ) {p q : A} → p ≡ e.stored (b +ℤ sum n f) → q ≡ e.stored (e.value p +ℤ f n) → q ≡ e.stored (b +ℤ sum (n + 1) f)
  next-on b n f = turn (b +ℤ sum n f) (f n) (ap (λ (z : ℤ). b +ℤ z) (sum_step n f) ∙ sym (+ℤ_assoc b (sum n f) (f n)))

  -- the same from the last term down: q holds those from number k - 1 on
  pub sum-down : (c k : ℕ) (f : ℕ → ℤ) {p q : A} → 0 < k → k ≤ c → p ≡ e.stored (sum (c - k) (λ r. f (k + r))) → q ≡ e.stored (e.value p +ℤ f (k - 1))
      → q ≡ e.stored (sum (c - (k - 1)) (λ r. f (k - 1 + r)))
  sum-down c k f some fits = turn (sum (c - k) (λ r. f (k + r))) (f (k - 1)) (first-last c k f some fits)

  -- f is added, and g to what that left: h, which is f + g, is added
  pub added-both : (f g h : ℕ → ℤ) (from to end : ℕ) (first second third : List A) → end ≡ to → Added e f from to first second → Added e g from end second third
      → ((j : ℕ) → j < to → h j ≡ f j +ℤ g j) → Added e h from to first third
  added-both f g h from to end first second third same v w k = record {
    within = v.within;
    long = w.long ∙ v.long;
    done = λ j l m. turn (e.value (get_or first j e.none) +ℤ f j) (g j)
        (ap (λ (z : ℤ). e.value (get_or first j e.none) +ℤ z) (k j m) ∙ sym (+ℤ_assoc (e.value (get_or first j e.none)) (f j) (g j)))
        (v.done j l m) (w.done j l (omega arith));
    below = λ j l. w.below j l ∙ v.below j l;
    above = λ j l. w.above j (omega arith) ∙ v.above j l;
  }

  -- a row that held g holds h once f is added, where h is g + f
  pub added-on : (n to : ℕ) (g f h : ℕ → ℤ) (before after : List A) → to ≡ n → before ≡ build n (λ j. e.stored (g j)) → Added e f 0 to before after
      → ((j : ℕ) → j < n → h j ≡ g j +ℤ f j) → after ≡ build n (λ j. e.stored (h j))
  added-on n to g f h before after s holds w k = is-build n (λ j. e.stored (h j)) e.none after (w.long ∙ ap length holds ∙ length-build n (λ j. e.stored (g j)))
      (λ j l. turn (g j) (f j) (k j l) (ap (λ (xs : List A). get_or xs j e.none) holds ∙ get_or-build n (λ j. e.stored (g j)) j e.none l) (w.done j (omega arith) (omega arith)))

module _ {A : Type 0} (e : Element A) (f : ℕ → ℤ) where
  -- before the first element, whichever way a loop goes
  pub added_none : (n : ℕ) (xs : List A) → Added e f n n xs xs
  added_none n xs = record { within = omega arith; long = refl; done = λ j h l. absurd (omega arith); below = λ j h. refl; above = λ j h. refl }

  -- nothing is added where f adds nothing
  pub added-nothing : (from to : ℕ) (xs : List A) → from ≤ to
      → ((j : ℕ) → j < to → e.stored (e.value (get_or xs j e.none) +ℤ f j) ≡ get_or xs j e.none) → Added e f from to xs xs
  added-nothing from to xs h none = record { within = h; long = refl; done = λ j l m. sym (none j m); below = λ j h. refl; above = λ j h. refl }

  -- f and g are the same
  pub added-same : (g : ℕ → ℤ) (from to : ℕ) (before after : List A) → ((j : ℕ) → j < to → f j ≡ g j) → Added e f from to before after → Added e g from to before after
  added-same g from to before after same w = record {
    within = w.within;
    long = w.long;
    done = λ j l m. w.done j l m ∙ ap (λ (z : ℤ). e.stored (e.value (get_or before j e.none) +ℤ z)) (same j m);
    below = w.below;
    above = w.above;
  }

  module _ (from to : ℕ) (before after : List A) (v : A) (w : Added e f from to before after) where
    -- one element more at the end
    pub added-up : to < length after → v ≡ e.stored (e.value (get_or after to e.none) +ℤ f to) → Added e f from (to + 1) before (set after to v)
    added-up room is = record {
      within = omega (arith, w.within);
      long = length-set after to v ∙ w.long;
      done = λ j l m. ⊎_elim
          (λ (k : to ≤ j). let q : j ≡ to = omega arith in rw q (
          get_or-set_same after to v e.none room ∙ is ∙ ap (λ (x : A). e.stored (e.value x +ℤ f to)) (w.above to (omega arith))))
          (λ (k : j < to). get_or-set_other after to j v e.none (λ q. omega arith) ∙ w.done j l k)
          (le_or_lt to j);
      below = λ j l. get_or-set_other after to j v e.none (λ q. omega (arith, w.within)) ∙ w.below j l;
      above = λ j l. get_or-set_other after to j v e.none (λ q. omega arith) ∙ w.above j (omega arith);
    }

    -- one element more at the start
    pub added-down : 0 < from → from ≤ length after → v ≡ e.stored (e.value (get_or after (from - 1) e.none) +ℤ f (from - 1))
        → Added e f (from - 1) to before (set after (from - 1) v)
    added-down some room is = record {
      within = omega (arith, w.within);
      long = length-set after (from - 1) v ∙ w.long;
      done = λ j l m. ⊎_elim
          (λ (k : from ≤ j). get_or-set_other after (from - 1) j v e.none (λ q. omega arith) ∙ w.done j k m)
          (λ (k : j < from). let q : j ≡ from - 1 = omega arith in rw q (
          get_or-set_same after (from - 1) v e.none (omega arith) ∙ is ∙ ap (λ (x : A). e.stored (e.value x +ℤ f (from - 1))) (w.below (from - 1) (omega arith))))
          (le_or_lt from j);
      below = λ j l. get_or-set_other after (from - 1) j v e.none (λ q. omega arith) ∙ w.below j (omega arith);
      above = λ j l. get_or-set_other after (from - 1) j v e.none (λ q. omega (arith, w.within)) ∙ w.above j l;
    }

  -- two elements more at the start
  pub added-two-down : (from to : ℕ) (before after : List A) (u v : A) → Added e f from to before after → 1 < from → from ≤ length after
      → u ≡ e.stored (e.value (get_or after (from - 1) e.none) +ℤ f (from - 1)) → v ≡ e.stored (e.value (get_or after (from - 2) e.none) +ℤ f (from - 2))
      → Added e f (from - 2) to before (set (set after (from - 1) u) (from - 2) v)
  added-two-down from to before after u v w some room first second =
      let q : from - 1 - 1 ≡ from - 2 = omega arith in
      let one = added-down from to before after u w (omega arith) room first in
      subst (λ (n : ℕ). v ≡ e.stored (e.value (get_or after n e.none) +ℤ f n) → Added e f n to before (set (set after (from - 1) u) n v)) q
      (λ (s : v ≡ e.stored (e.value (get_or after (from - 1 - 1) e.none) +ℤ f (from - 1 - 1))).
      added-down (from - 1) to before (set after (from - 1) u) v one (omega arith) (omega (arith, length-set after (from - 1) u))
      (s ∙ ap (λ (x : A). e.stored (e.value x +ℤ f (from - 1 - 1))) (sym (get_or-set_other after (from - 1) (from - 1 - 1) u e.none (λ z. omega arith)))))
      second
