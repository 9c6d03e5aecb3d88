-- What each answer means.
use mathlib.Core.Path.{◌≡◌, refl, sym, ap, ◌∙◌}
use mathlib.Core.Logic.{◌≢◌, ◌↔◌, ◌⊎◌, inl, inr, ⊎_elim}
use mathlib.Core.Bool.{Bool, true, false, and-false}
use mathlib.Core.List.{List}
use Prim.Native.Nat.{ℕ, zero, suc, ◌+◌, ◌≤◌, ◌<◌}
use native.Mathlib.Omega.{arith}
use lib.Dec.{ltb}
use borrow.Author.Tests.{lt-ltb, le-ltb}
use Rattle.integers.proofs.Tests.{true-is, le_or_lt}
use Rattle.groups.specs.Groups.{groups, Group, ◌of◌}
use Rattle.turns.specs.declared.Turn.{Turn}
use Rattle.turns.specs.Turns.{turn, is_proper, after, next_waiting, goes_on, next_turn, Meaning, named, none, refused, counts_after, one_less, returns, next_fold}
use Rattle.turns.specs.Calls.{Proper, TurnedAway, NobodyWaits, further}
use Rattle.turns.proofs.Order.{after-group}
use Rattle.turns.proofs.Finding.{proper_intro, proper_elim, away_elim, away_intro, search_none, search_by, turn_on, turn-over, says-refused, says-group, says_none, counted, Ways, finding, nobody, ways, kind, apart}
use Rattle.turns.proofs.Fair.{waiting-named}

-- the search where nobody waits
search_nobody : (W : List ℕ) → NobodyWaits W → (n x : ℕ) → next_waiting n W x ≡ 0
search_nobody W idle zero x = search_none W x
search_nobody W idle (suc n) x =
    search_by n W x false (le-ltb 0 (W of (after x)) (omega (arith, idle (after x) (after-group x)))) ∙ search_nobody W idle n (after x)

-- and where the group n places on is the first that waits
search_first : (W : List ℕ) (n m x : ℕ) → n < m → 0 < W of (further (suc n) x) → ((i : ℕ) → i < n → W of (further (suc i) x) ≡ 0) → next_waiting m W x ≡ further (suc n) x
unfolding further
search_first W n zero x l waiting idle = absurd (omega arith)
search_first W zero (suc m) x l waiting idle = search_by m W x true (lt-ltb 0 (W of (after x)) waiting)
search_first W (suc n) (suc m) x l waiting idle =
    search_by m W x false (le-ltb 0 (W of (after x)) (omega (arith, idle 0 (omega arith))))
    ∙ search_first W n m (after x) (omega arith) waiting (λ i k. idle (suc i) (omega arith))

further-group : (n x : ℕ) → Group x → Group (further n x)
unfolding further
further-group zero x gx = gx
further-group (suc n) x gx = further-group n (after x) (after-group x)

-- a turn that is over
is-over : (w W : List ℕ) (t : Turn) → (w of t.group ≤ t.used) ⊎ (W of t.group ≡ 0) → goes_on w W t ≡ false
unfolding goes_on
is-over w W t (inl l) = rw (le-ltb t.used (w of t.group) l) refl
is-over w W t (inr z) = rw (le-ltb 0 (W of t.group) (omega (arith, z))) (and-false (ltb t.used (w of t.group)))

module _ (w W : List ℕ) (t : Turn) where
  -- what a call that is not proper returns
  away-returns : is_proper w t ≡ false → returns (refused 20) t W ≡ next_fold w W t
  unfolding counts_after
  away-returns e = counted w W t (refused 20) t W (says-refused w W t e) refl

  answer-of : (a : Meaning) (next : Turn) (left : List ℕ) → returns a next left ≡ next_fold w W t → (next_fold w W t).answer ≡ a
  answer-of a next left e = sym (ap (λ o. o.answer) e)

  module _ (p : Proper w t) where
    is-proper : is_proper w t ≡ true
    is-proper = true-is _ (proper_intro w t p)

    none-returns : goes_on w W t ≡ false → next_waiting groups W t.group ≡ 0 → returns none t W ≡ next_fold w W t
    unfolding counts_after
    none-returns o z = counted w W t none t W (says_none w W t is-proper o z) refl

    group-returns : (h used : ℕ) → next_turn w W t ≡ turn h used → 1 ≤ h → returns (named h) (turn h used) (one_less W h) ≡ next_fold w W t
    unfolding counts_after
    group-returns h used e low =
        counted w W t (named h) (turn h used) (one_less W h) (says-group w W t h used is-proper e (λ z. absurd (omega (arith, z, low)))) refl

    pub goes_on_lem : t.used < w of t.group → 0 < W of t.group
        → next_fold w W t ≡ returns (named t.group) (turn t.group (t.used + 1)) (one_less W t.group)
    unfolding goes_on
    goes_on_lem below waiting =
        sym (group-returns t.group (t.used + 1) (turn_on w W t (rw (lt-ltb t.used (w of t.group) below, lt-ltb 0 (W of t.group) waiting) refl)) p.group.0)

    pub passes_on : (w of t.group ≤ t.used) ⊎ (W of t.group ≡ 0)
        → (n : ℕ) → n < groups → 0 < W of (further (suc n) t.group) → ((i : ℕ) → i < n → W of (further (suc i) t.group) ≡ 0)
        → next_fold w W t ≡ returns (named (further (suc n) t.group)) (turn (further (suc n) t.group) 1) (one_less W (further (suc n) t.group))
    passes_on ends n l waiting idle =
        let h = further (suc n) t.group in
        let first = search_first W n groups t.group l waiting idle in
        sym (group-returns h 1 (turn-over w W t (is-over w W t ends) ∙ ap (λ (x : ℕ). turn x 1) first) (further-group (suc n) t.group p.group).0)

    pub nobody-none : NobodyWaits W → (next_fold w W t).answer ≡ none
    nobody-none idle = answer-of none t W (none-returns (is-over w W t (inr (idle t.group p.group))) (search_nobody W idle groups t.group))

    -- a proper call is not refused
    never-refused : (r : ℕ) → (next_fold w W t).answer ≢ refused r
    unfolding kind
    never-refused r e = go (ways w W t p)
      where
        go : Ways w W t → ⊥
        go (finding h used f) = apart (named h) (refused r) (sym (answer-of _ _ _ (group-returns h used f.next f.group.0)) ∙ e) (λ k. absurd (omega (arith, k)))
        go (nobody o z) = apart none (refused r) (sym (answer-of _ _ _ (none-returns o z)) ∙ e) (λ k. absurd (omega (arith, k)))

  -- ---- for every call, proper or not

  by-test : {A : Type 0} → (is_proper w t ≡ false → A) → (Proper w t → A) → A
  by-test {A} f g = go (is_proper w t) refl
    where
      go : (c : Bool) → is_proper w t ≡ c → A
      go true e = g (proper_elim w t (rw e tt))
      go false e = f e

  pub refused_keeps : (r : ℕ) → (next_fold w W t).answer ≡ refused r → next_fold w W t ≡ returns (refused 20) t W
  refused_keeps r e = by-test (λ f. sym (away-returns f)) (λ p. absurd (never-refused p r e))

  pub refused_20 : ((next_fold w W t).answer ≡ refused 20) ↔ TurnedAway w t
  refused_20 = (
    (λ e. by-test (λ f. away_elim w t (rw f tt)) (λ p. absurd (never-refused p 20 e))),
    (λ a. by-test (λ f. answer-of _ _ _ (away-returns f)) (λ p. absurd (away_intro w t a p))),
  )

  pub none_keeps : (next_fold w W t).answer ≡ none → NobodyWaits W × (next_fold w W t ≡ returns none t W)
  unfolding kind
  none_keeps e = by-test
      (λ f. absurd (apart (refused 20) none (sym (answer-of _ _ _ (away-returns f)) ∙ e) (λ k. absurd (omega (arith, k)))))
      (λ p. (idle p, same p (ways w W t p)))
    where
      idle : Proper w t → NobodyWaits W
      idle p g one = ⊎_elim
          (λ (l : W of g ≤ 0). omega arith)
          (λ (l : 0 < W of g). let n = waiting-named w g one W t p l in absurd (apart (named n.0) none (sym n.1 ∙ e) (λ k. absurd (omega (arith, k)))))
          (le_or_lt (W of g) 0)

      same : Proper w t → Ways w W t → next_fold w W t ≡ returns none t W
      same p (finding h used f) = absurd (apart (named h) none (sym (answer-of (named h) (turn h used) (one_less W h) (group-returns p h used f.next f.group.0)) ∙ e) (λ k. absurd (omega (arith, k))))
      same p (nobody o z) = sym (none-returns p o z)
