-- Which calls are proper, and whose fold is next.
use mathlib.Core.Path.{◌≡◌, refl, sym, ap, subst, ◌∙◌}
use mathlib.Core.Logic.{◌≢◌, inl, inr, ⊎_elim}
use mathlib.Core.Bool.{Bool, true, false, not, cond, ◌&&◌}
use mathlib.Core.List.{List}
use Prim.Native.Nat.{ℕ, zero, suc, ◌+◌, ◌-◌, ◌%◌, ◌≤◌, ◌<◌}
use native.Mathlib.Omega.{arith}
use native.Mathlib.Decide.{ℕ_discrete}
use native.Mathlib.Numerals.{add-one}
use Rattle.std.specs.Prelude.{Some, None, Ok, Err}
use lib.Dec.{T, T_not, leb, ltb, leb→le, le→leb, ltb→lt, nleb→lt}
use lib.ListN.{get_or}
use borrow.Author.Tests.{ne_eqb, lt-ltb, le-ltb}
use Rattle.integers.specs.Ranges.{◌to◌, within}
use Rattle.integers.proofs.Tests.{and_fst, and_snd, and_both, one-fails, true-is, all_true, all_elim, all-fails, within_in}
use Rattle.settings.specs.Rules.{first_of}
use Rattle.groups.specs.Groups.{groups, is_group, Group, ◌of◌}
use Rattle.turns.specs.declared.Turn.{Turn}
use Rattle.turns.specs.Turns.{turn, weight_range, weights_inside, is_proper, turn_refusal, waits, after, next_waiting, if_any, goes_on, next_turn, Meaning, named, none, refused, Found, finds, found_by, found, counts_after, returns, next_fold}
use Rattle.turns.specs.Calls.{Proper, TurnedAway}
use Rattle.turns.proofs.Order.{after-group}

-- ---- the test of 20

module _ (w : List ℕ) (t : Turn) where
  abbrev weights : Bool
  weights = weights_inside w

  abbrev group : Bool
  group = is_group t.group

  abbrev used : Bool
  used = leb t.used (w of t.group)

  pub proper_elim : T (is_proper w t) → Proper w t
  proper_elim h =
      let both = and_fst (weights && group) used h in
      record {
        weights = λ i l. (within_in weight_range (get_or w i 0)).0 (all_elim groups _ (and_fst weights group both) i l);
        group = (within_in (1 to groups) t.group).0 (and_snd weights group both);
        used = leb→le t.used (w of t.group) (and_snd (weights && group) used h);
      }

  pub proper_intro : Proper w t → T (is_proper w t)
  proper_intro p =
      and_both (weights && group) used
      (and_both weights group (all_true groups _ (λ i l. (within_in weight_range (get_or w i 0)).1 (p.weights i l))) ((within_in (1 to groups) t.group).1 p.group))
      (le→leb t.used (w of t.group) p.used)

  -- where it fails one of its three parts does
  pub away_elim : T (not (is_proper w t)) → TurnedAway w t
  away_elim h = ⊎_elim
      (λ (both : T (not (weights && group))). ⊎_elim
      (λ (f : T (not weights)). let r = all-fails groups (λ i. within weight_range (get_or w i 0)) f in inl (r.0, r.1, λ i. T_not (within weight_range (get_or w r.0 0)) r.2 ((within_in weight_range (get_or w r.0 0)).1 i)))
      (λ (f : T (not group)). inr (inl (λ i. T_not group f ((within_in (1 to groups) t.group).1 i))))
      (one-fails weights group both))
      (λ (f : T (not used)). inr (inr (nleb→lt t.used (w of t.group) f)))
      (one-fails (weights && group) used h)

  pub away_intro : TurnedAway w t → Proper w t → ⊥
  away_intro (inl r) p = r.2 (p.weights r.0 r.1)
  away_intro (inr (inl f)) p = f p.group
  away_intro (inr (inr l)) p = omega (arith, p.used, l)

  by-proper : (c : Bool) → ◌≡◌ {A = ℕ} (cond (not c) 20 0) 0 → T c
  by-proper true e = tt
  by-proper false e = absurd (omega (arith, e))

  -- no refusal exactly for proper calls
  pub accepted-proper : turn_refusal w t ≡ 0 → Proper w t
  unfolding turn_refusal first_of
  accepted-proper e = proper_elim (by-proper (is_proper w t) e)

  pub proper-accepted : Proper w t → turn_refusal w t ≡ 0
  unfolding turn_refusal first_of
  proper-accepted p = ap {B = ℕ} (λ (c : Bool). cond (not c) 20 0) (true-is (is_proper w t) (proper_intro p))

-- ---- the search

pub search_none : (W : List ℕ) (x : ℕ) → next_waiting 0 W x ≡ 0
unfolding next_waiting
search_none W x = refl

-- at the code's n + 1
pub search_here : (n : ℕ) (W : List ℕ) (x : ℕ) → 0 < W of (after x) → next_waiting (n + 1) W x ≡ after x
unfolding next_waiting
search_here n W x l = rw (add-one n, lt-ltb 0 (W of (after x)) l) refl

pub search_on : (n : ℕ) (W : List ℕ) (x : ℕ) → W of (after x) ≤ 0 → next_waiting (n + 1) W x ≡ next_waiting n W (after x)
unfolding next_waiting
search_on n W x l = rw (add-one n, le-ltb 0 (W of (after x)) l) refl

-- by what the test of the next group says
pub search_by : (n : ℕ) (W : List ℕ) (x : ℕ) (c : Bool) → waits W (after x) ≡ c → next_waiting (suc n) W x ≡ cond c (after x) (next_waiting n W (after x))
unfolding next_waiting
search_by n W x c e = rw e refl

-- what the code answers
pub if_some : (n g : ℕ) → Some g ≡ if_any n → (n ≡ g) × (g ≢ 0)
if_some zero g e = cc
if_some (suc n) g e = let same : suc n ≡ g = cc in (same, λ z. omega (arith, same, z))

pub if_none : (n : ℕ) → None ≡ if_any n → n ≡ 0
if_none zero e = refl
if_none (suc n) e = cc

pub after-some : (g : ℕ) → Some (after g) ≡ if_any (after g)
after-some g = rw (add-one (g % groups)) refl

-- one of the eight groups, which waits
pub record Waiting (W : List ℕ) (h : ℕ) : Type 0 where
  pub group : Group h
  pub waiting : 0 < W of h

-- what the search finds is one
pub search_found : (n : ℕ) (W : List ℕ) (x : ℕ) → next_waiting n W x ≢ 0 → Waiting W (next_waiting n W x)
search_found zero W x ne = absurd (ne (search_none W x))
search_found (suc n) W x ne = go (waits W (after x)) refl (search_found n W (after x))
  where
    go : (c : Bool) → waits W (after x) ≡ c → (next_waiting n W (after x) ≢ 0 → Waiting W (next_waiting n W (after x))) → Waiting W (next_waiting (suc n) W x)
    go true e more = subst (Waiting W) (sym (search_by n W x true e)) (record { group = after-group x; waiting = ltb→lt 0 (W of (after x)) (rw e tt) })
    go false e more = subst (Waiting W) (sym (search_by n W x false e)) (more (λ z. ne (search_by n W x false e ∙ z)))

-- ---- what each way through a call comes to

pub on-facts : (w W : List ℕ) (t : Turn) → goes_on w W t ≡ true → (t.used < w of t.group) × (0 < W of t.group)
unfolding goes_on
on-facts w W t e =
    let h : T (ltb t.used (w of t.group) && waits W t.group) = rw e tt in (
      ltb→lt t.used (w of t.group) (and_fst (ltb t.used (w of t.group)) (waits W t.group) h),
      ltb→lt 0 (W of t.group) (and_snd (ltb t.used (w of t.group)) (waits W t.group) h),
    )

module _ (w W : List ℕ) (t : Turn) where
  pub says-refused : is_proper w t ≡ false → finds (refused 20) t ≡ found w W t
  unfolding found turn_refusal first_of
  says-refused e = rw e refl

  -- a proper call finds what the next turn says
  pub proper-found : is_proper w t ≡ true → found w W t ≡ found_by t (next_turn w W t)
  unfolding found turn_refusal first_of
  proper-found e = rw e refl

  pub turn_on : goes_on w W t ≡ true → next_turn w W t ≡ turn t.group (t.used + 1)
  unfolding next_turn
  turn_on e = rw e refl

  pub turn-over : goes_on w W t ≡ false → next_turn w W t ≡ turn (next_waiting groups W t.group) 1
  unfolding next_turn
  turn-over e = rw e refl

  by_turn : (next : Turn) → is_proper w t ≡ true → next_turn w W t ≡ next → found w W t ≡ found_by t next
  by_turn next p e = proper-found p ∙ ap (found_by t) e

  pub says-group : (h used : ℕ) → is_proper w t ≡ true → next_turn w W t ≡ turn h used → h ≢ 0 → finds (named h) (turn h used) ≡ found w W t
  unfolding found_by
  says-group h used p e ne = sym (by_turn (turn h used) p e ∙ rw (ne_eqb h 0 ne) refl)

  pub says_none : is_proper w t ≡ true → goes_on w W t ≡ false → next_waiting groups W t.group ≡ 0 → finds none t ≡ found w W t
  unfolding found_by
  says_none p f z = sym (by_turn (turn 0 1) p (turn-over f ∙ ap (λ (h : ℕ). turn h 1) z))

  -- with the counts after the answer it is what the call returns
  pub counted : (a : Meaning) (next : Turn) (left : List ℕ) → finds a next ≡ found w W t → left ≡ counts_after a W → returns a next left ≡ next_fold w W t
  counted a next left f e = rw e (ap (λ (x : Found). returns x.answer x.turn (counts_after x.answer W)) f)

-- a turn that a proper call may return
pub record Finds (w W : List ℕ) (t : Turn) (h used : ℕ) : Type 0 where
  pub next : next_turn w W t ≡ turn h used
  pub group : Group h
  pub waiting : 0 < W of h
  pub most : used ≤ w of h

-- a proper call finds a group that waits, or none
pub data Ways (w W : List ℕ) (t : Turn) : Type 0 where
  finding : (h used : ℕ) → Finds w W t h used → Ways w W t
  nobody : goes_on w W t ≡ false → next_waiting groups W t.group ≡ 0 → Ways w W t

pub ways : (w W : List ℕ) (t : Turn) → Proper w t → Ways w W t
ways w W t p = go (goes_on w W t) refl (ℕ_discrete (next_waiting groups W t.group) 0)
  where
    go : (c : Bool) → goes_on w W t ≡ c → Dec (next_waiting groups W t.group ≡ 0) → Ways w W t
    go true e d =
        let f = on-facts w W t e in
        finding t.group (t.used + 1) (record { next = turn_on w W t e; group = p.group; waiting = f.1; most = omega (arith, f.0) })
    go false e (yes z) = nobody e z
    go false e (no ne) =
        let h = next_waiting groups W t.group in
        let f = search_found groups W t.group ne in
        let least = (p.weights (h - 1) (omega (arith, f.group.0, f.group.1))).0 in
        finding h 1 (record { next = turn-over w W t e; group = f.group; waiting = f.waiting; most = least })

-- a kind of answer for each
unfoldable pub kind : Meaning → ℕ
kind (Ok (Some g)) = 0
kind (Ok None) = 1
kind (Err r) = 2

pub apart : (a b : Meaning) → a ≡ b → kind a ≢ kind b → ⊥
apart a b e ne = ne (ap kind e)

pub named_inj : (g h : ℕ) → named g ≡ named h → g ≡ h
named_inj g h e = ap number e
  where
    number : Meaning → ℕ
    number (Ok (Some g)) = g
    number (Ok None) = 0
    number (Err r) = 0

-- so is a group that is named
pub found-named : (w W : List ℕ) (t : Turn) (g : ℕ) → (found w W t).answer ≡ named g → Waiting W g
unfolding kind
found-named w W t g e = go (is_proper w t) refl
  where
    by : Proper w t → is_proper w t ≡ true → Ways w W t → Waiting W g
    by p is (finding h used f) =
        let same : h ≡ g = named_inj h g (ap (λ (x : Found). x.answer) (says-group w W t h used is f.next (λ z. absurd (omega (arith, z, f.group.0)))) ∙ e) in
        subst (Waiting W) same (record { group = f.group; waiting = f.waiting })
    by p is (nobody o z) = absurd (apart none (named g) (ap (λ (x : Found). x.answer) (says_none w W t is o z) ∙ e) (λ k. absurd (omega (arith, k))))

    go : (c : Bool) → is_proper w t ≡ c → Waiting W g
    go true is = let p = proper_elim w t (rw is tt) in by p is (ways w W t p)
    go false is = absurd (apart (refused 20) (named g) (ap (λ (x : Found). x.answer) (says-refused w W t is) ∙ e) (λ k. absurd (omega (arith, k))))
