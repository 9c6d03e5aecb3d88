-- A group that keeps waiting sees at most the sum of the others' weights served before it.
use mathlib.Core.Path.{◌≡◌, refl, sym, ap, subst, ◌∙◌}
use mathlib.Core.Logic.{◌≢◌, ◌⊎◌, inl, inr, ⊎_elim}
use mathlib.Core.Bool.{Bool, true, false, cond}
use mathlib.Core.List.{List, [], ◌∷◌}
use Prim.Native.Nat.{ℕ, zero, suc, ◌+◌, ◌-◌, ◌≤◌, ◌<◌}
use native.Mathlib.Omega.{arith}
use native.Mathlib.Decide.{ℕ_discrete}
use native.Mathlib.Nat.{le_refl}
use lib.ListN.{length, get_or}
use lib.Seq.{get_or-set_other}
use borrow.Author.Tests.{eq-eqb, ne_eqb, lt-ltb}
use Rattle.std.specs.Prelude.{Some, None, Ok, Err}
use Rattle.integers.proofs.Tests.{true-is}
use Rattle.groups.specs.Groups.{Group, ◌of◌}
use Rattle.turns.specs.declared.Turn.{Turn}
use Rattle.turns.specs.Turns.{turn, waits, after, next_waiting, goes_on, next_turn, Meaning, named, Found, counts_after, next_fold}
use Rattle.turns.specs.Calls.{Proper, others, answers, served_before, Names, KeepsWaiting, arrived, counts}
use Rattle.turns.proofs.Order.{ahead, after-group, ahead_after, ahead_own, ahead-other, before, before-from, before_mono, before-others}
use Rattle.turns.proofs.Finding.{proper_intro, on-facts, search_by, turn_on, turn-over, says-group, says_none, Ways, finding, nobody, ways, named_inj, found-named}

-- ---- the search from x finds g, or a group before g

-- a group other than g that stands after x and before g, with the weights from it on
pub record Between (w : List ℕ) (g x h : ℕ) : Type 0 where
  pub group : Group h
  pub other : h ≢ g
  pub rest : w of h + before w g (ahead g h) ≤ before w g (ahead g x)

module _ (w W : List ℕ) (g : ℕ) (gg : Group g) (waiting : 0 < W of g) where
  abbrev Reached : ℕ → ℕ → Type 0
  Reached x h = (h ≡ g) ⊎ Between w g x h

  step : (x : ℕ) → Group x → after x ≢ g → before w g (ahead g x) ≡ w of (after x) + before w g (ahead g (after x))
  step x gx ne = ap (before w g) (ahead_after g x gg gx ne) ∙ before-from w g (after x) gg (after-group x)

  -- from the next group on, if that is not g
  farther : (x h : ℕ) → Group x → after x ≢ g → Reached (after x) h → Reached x h
  farther x h gx ne (inl e) = inl e
  farther x h gx ne (inr b) = inr (record { group = b.group; other = b.other; rest = omega (arith, b.rest, step x gx ne) })

  reach_step : (n x : ℕ) → Group x → (after x ≢ g → Reached (after x) (next_waiting n W (after x)))
      → (c : Bool) → waits W (after x) ≡ c → Dec (after x ≡ g) → Reached x (next_waiting (suc n) W x)
  reach_step n x gx more true e (yes is) = inl (search_by n W x true e ∙ is)
  reach_step n x gx more true e (no ne) =
      subst (Reached x) (sym (search_by n W x true e)) (inr (record { group = after-group x; other = ne; rest = omega (arith, step x gx ne) }))
  reach_step n x gx more false e (yes is) =
      let k : ◌≡◌ {A = ℕ} 1 0 = ap (λ (b : Bool). cond b 1 0) (sym (lt-ltb 0 (W of g) waiting) ∙ subst (λ (y : ℕ). waits W y ≡ false) is e) in
      absurd (omega (arith, k))
  reach_step n x gx more false e (no ne) =
      subst (Reached x) (sym (search_by n W x false e)) (farther x (next_waiting n W (after x)) gx ne (more ne))

  reach : (n x : ℕ) → Group x → ahead g x < n → Reached x (next_waiting n W x)
  reach zero x gx l = absurd (omega arith)
  reach (suc n) x gx l = reach_step n x gx
      (λ ne. reach n (after x) (after-group x) (omega (arith, ahead_after g x gg gx ne)))
      (waits W (after x)) refl (ℕ_discrete (after x) g)

-- ---- one call while g waits

-- g is named, or the same turn goes on, or it passes to a group before g
data Way (w W : List ℕ) (g : ℕ) (t : Turn) : Type 0 where
  reached : (used : ℕ) → next_turn w W t ≡ turn g used → Way w W g t
  on : next_turn w W t ≡ turn t.group (t.used + 1) → t.used < w of t.group → Way w W g t
  passes : (h : ℕ) → next_turn w W t ≡ turn h 1 → Between w g t.group h → Way w W g t

way : (w W : List ℕ) (g : ℕ) (t : Turn) → Group g → 0 < W of g → Group t.group → Way w W g t
way w W g t gg waiting gx = go (goes_on w W t) refl
  where
    go : (c : Bool) → goes_on w W t ≡ c → Way w W g t
    go true e = on (turn_on w W t e) (on-facts w W t e).0
    go false e =
        let over = turn-over w W t e in ⊎_elim
        (λ (is : next_waiting 8 W t.group ≡ g). reached 1 (over ∙ ap (λ (h : ℕ). turn h 1) is))
        (λ (b : Between w g t.group (next_waiting 8 W t.group)). passes (next_waiting 8 W t.group) over b)
        (reach w W g gg waiting 8 t.group gx (omega arith))

-- a proper call whose next turn is known: what it answers, and the turn that it returns
module _ (w W : List ℕ) (t : Turn) (p : Proper w t) (h used : ℕ) (e : next_turn w W t ≡ turn h used) (low : 1 ≤ h) where
  names : (next_fold w W t).answer ≡ named h
  names = sym (ap (λ (x : Found). x.answer) (says-group w W t h used (true-is _ (proper_intro w t p)) e (λ z. absurd (omega (arith, z, low)))))

  turn_is : (next_fold w W t).turn ≡ turn h used
  turn_is = sym (ap (λ (x : Found). x.turn) (says-group w W t h used (true-is _ (proper_intro w t p)) e (λ z. absurd (omega (arith, z, low)))))

-- ---- the folds of others before the first of g

here : (g : ℕ) (a : Meaning) (rest : List Meaning) → a ≡ named g → served_before g (a ∷ rest) ≡ 0
unfolding served_before
here g a rest e = rw (e, eq-eqb g g refl) refl

other : (g h : ℕ) (a : Meaning) (rest : List Meaning) → a ≡ named h → h ≢ g → served_before g (a ∷ rest) ≡ suc (served_before g rest)
unfolding served_before
other g h a rest e ne = rw (e, ne_eqb h g ne) refl

-- with a turn of another group: its own folds that are left, and the weights of those before g
abbrev Left : List ℕ → ℕ → ℕ → Turn → Type 0
Left w g n t = n + t.used ≤ w of t.group + before w g (ahead g t.group)

-- one call more, before the answers `rest`
module _ (w W : List ℕ) (g : ℕ) (t : Turn) (gg : Group g) (p : Proper w t) (rest : List Meaning)
    (later : (next_fold w W t).answer ≢ named g → (next : Turn) → (next_fold w W t).turn ≡ next → next.group ≢ g → Left w g (served_before g rest) next) where
  abbrev seen : ℕ
  seen = served_before g ((next_fold w W t).answer ∷ rest)

  -- it is of another group h
  module _ (h used : ℕ) (e : next_turn w W t ≡ turn h used) (low : 1 ≤ h) (ne : h ≢ g) where
    one_more : seen ≡ suc (served_before g rest)
    one_more = other g h _ rest (names w W t p h used e low) ne

    left_later : Left w g (served_before g rest) (turn h used)
    left_later = later (λ is. ne (named_inj h g (sym (names w W t p h used e low) ∙ is))) (turn h used) (turn_is w W t p h used e low) ne

  other_step : t.group ≢ g → Way w W g t → Left w g seen t
  other_step ne (reached used e) = omega (arith, here g _ rest (names w W t p g used e gg.0), p.used)
  other_step ne (on e l) =
      omega (arith, one_more t.group (t.used + 1) e p.group.0 ne, left_later t.group (t.used + 1) e p.group.0 ne)
  other_step ne (passes h e b) =
      omega (arith, one_more h 1 e b.group.0 b.other, left_later h 1 e b.group.0 b.other, b.rest, p.used)

  own-step : t.group ≡ g → Way w W g t → seen ≤ before w g 7
  own-step is (reached used e) = omega (arith, here g _ rest (names w W t p g used e gg.0))
  own-step is (on e l) = omega (arith, here g _ rest (names w W t p t.group (t.used + 1) e p.group.0 ∙ ap named is))
  own-step is (passes h e b) =
      let all : before w g (ahead g t.group) ≡ before w g 7 = ap (λ (x : ℕ). before w g (ahead g x)) is ∙ ap (before w g) (ahead_own g) in
      omega (arith, one_more h 1 e b.group.0 b.other, left_later h 1 e b.group.0 b.other, b.rest, all)

-- the turn that a proper call returns is that of a proper call
pub turn-proper : (w W : List ℕ) (t : Turn) → Proper w t → Proper w (next_fold w W t).turn
turn-proper w W t p = go (ways w W t p)
  where
    go : Ways w W t → Proper w (next_fold w W t).turn
    go (finding h used f) = subst (Proper w) (sym (turn_is w W t p h used f.next f.group.0)) (record { weights = p.weights; group = f.group; used = f.most })
    go (nobody o z) = subst (Proper w) (ap (λ (x : Found). x.turn) (says_none w W t (true-is _ (proper_intro w t p)) o z)) p

-- what a turn of another group leaves: after a call, and after all of them
module _ (w : List ℕ) (g : ℕ) (gg : Group g) where
  others-fair : (Ws : List (List ℕ)) (t : Turn) → Proper w t → t.group ≢ g → KeepsWaiting w t g Ws → Left w g (served_before g (answers w t Ws)) t
  unfolding answers served_before
  others-fair [] t p ne keeps = omega (arith, p.used)
  others-fair (W ∷ Ws) t p ne keeps =
      other_step w W g t gg p (answers w (next_fold w W t).turn Ws)
      (λ never next e away. subst (Left w g (served_before g (answers w (next_fold w W t).turn Ws))) e (others-fair Ws (next_fold w W t).turn (turn-proper w W t p) (λ is. away (sym (ap (λ (x : Turn). x.group) e) ∙ is)) (keeps.1 never)))
      ne (way w W g t gg keeps.0 p.group)

  own-fair : (Ws : List (List ℕ)) (t : Turn) → Proper w t → t.group ≡ g → KeepsWaiting w t g Ws → served_before g (answers w t Ws) ≤ before w g 7
  unfolding answers served_before
  own-fair [] t p is keeps = omega arith
  own-fair (W ∷ Ws) t p is keeps =
      own-step w W g t gg p (answers w (next_fold w W t).turn Ws)
      (λ never next e away. subst (Left w g (served_before g (answers w (next_fold w W t).turn Ws))) e (others-fair Ws (next_fold w W t).turn (turn-proper w W t p) (λ is. away (sym (ap (λ (x : Turn). x.group) e) ∙ is)) (keeps.1 never)))
      is (way w W g t gg keeps.0 p.group)

  pub all_fair : (Ws : List (List ℕ)) (t : Turn) → Proper w t → KeepsWaiting w t g Ws → served_before g (answers w t Ws) ≤ others w g
  all_fair Ws t p keeps = go (ℕ_discrete t.group g)
    where
      go : Dec (t.group ≡ g) → served_before g (answers w t Ws) ≤ others w g
      go (yes is) = omega (arith, own-fair Ws t p is keeps, before-others w g gg)
      go (no ne) =
          let own = before-from w g t.group gg p.group in
          let seven = before_mono w g (suc (ahead g t.group)) 7 (omega (arith, ahead-other g t.group gg p.group ne)) in
          omega (arith, others-fair Ws t p ne keeps, own, seven, before-others w g gg)

-- ---- a group that keeps waiting is named, unless all calls served others

module _ (w : List ℕ) (g : ℕ) (gg : Group g) where
  -- while g waits a call names a group
  pub waiting-named : (W : List ℕ) (t : Turn) → Proper w t → 0 < W of g → (h : ℕ) × ((next_fold w W t).answer ≡ named h)
  waiting-named W t p waiting = go (way w W g t gg waiting p.group)
    where
      go : Way w W g t → (h : ℕ) × ((next_fold w W t).answer ≡ named h)
      go (reached used e) = (g, names w W t p g used e gg.0)
      go (on e l) = (t.group, names w W t p t.group (t.used + 1) e p.group.0)
      go (passes h e b) = (h, names w W t p h 1 e b.group.0)

  pub named_or_all : (Ws : List (List ℕ)) (t : Turn) → Proper w t → KeepsWaiting w t g Ws → Names g (answers w t Ws) ⊎ (served_before g (answers w t Ws) ≡ length Ws)
  unfolding answers served_before
  named_or_all [] t p keeps = inr refl
  named_or_all (W ∷ Ws) t p keeps =
      let n = waiting-named W t p keeps.0 in
      go n.0 n.1 (ℕ_discrete n.0 g) (λ never. named_or_all Ws (next_fold w W t).turn (turn-proper w W t p) (keeps.1 never))
    where
      go : (h : ℕ) → (next_fold w W t).answer ≡ named h → Dec (h ≡ g)
          → ((next_fold w W t).answer ≢ named g → Names g (answers w (next_fold w W t).turn Ws) ⊎ (served_before g (answers w (next_fold w W t).turn Ws) ≡ length Ws))
          → Names g (answers w t (W ∷ Ws)) ⊎ (served_before g (answers w t (W ∷ Ws)) ≡ suc (length Ws))
      go h e (yes is) more = inl (inl (e ∙ ap named is))
      go h e (no ne) more = ⊎_elim
          (λ (i : Names g (answers w (next_fold w W t).turn Ws)). inl (inr i))
          (λ (l : served_before g (answers w (next_fold w W t).turn Ws) ≡ length Ws). inr (other g h (next_fold w W t).answer (answers w (next_fold w W t).turn Ws) e ne ∙ ap suc l))
          (more (λ is. ne (named_inj h g (sym e ∙ is))))

-- ---- with arrivals between calls a group that waits keeps waiting until it is named

arrived-le : (xs more : List ℕ) (i : ℕ) → get_or xs i 0 ≤ get_or (arrived xs more) i 0
unfolding arrived
arrived-le [] more i = le_refl _
arrived-le (x ∷ xs) [] i = le_refl _
arrived-le (x ∷ xs) (a ∷ more) zero = omega arith
arrived-le (x ∷ xs) (a ∷ more) (suc i) = arrived-le xs more i

-- an answer that does not name g takes nothing from it
kept : (w W : List ℕ) (t : Turn) (g : ℕ) → Group g → (next_fold w W t).answer ≢ named g → (next_fold w W t).waiting of g ≡ W of g
unfolding counts_after
kept w W t g gg never = go (next_fold w W t).answer refl never
  where
    go : (a : Meaning) → (next_fold w W t).answer ≡ a → a ≢ named g → (counts_after a W) of g ≡ W of g
    go (Ok (Some h)) e ne =
        let n = found-named w W t h e in
        get_or-set_other W (h - 1) (g - 1) (W of h - 1) 0 (λ z. ne (ap named (omega (arith, z, gg.0, n.group.0))))
    go (Ok None) e ne = refl
    go (Err r) e ne = refl

pub keeps_waiting : (w : List ℕ) (g : ℕ) → Group g → (later : List (List ℕ)) (W : List ℕ) (t : Turn) → 0 < W of g → KeepsWaiting w t g (counts w t W later)
unfolding counts
keeps_waiting w g gg [] W t waiting = (waiting, λ never. tt)
keeps_waiting w g gg (x ∷ later) W t waiting = (
  waiting,
  λ never. keeps_waiting w g gg later (arrived (next_fold w W t).waiting x) (next_fold w W t).turn
      (omega (arith, arrived-le (next_fold w W t).waiting x (g - 1), kept w W t g gg never, waiting)),
)
