-- The number of the first rule that applies: its law, and what proofs about lists of rules cite.
use mathlib.Core.Path.{◌≡◌, refl, sym, ◌∙◌, ap, subst}
use mathlib.Core.Logic.{◌≢◌, ◌↔◌}
use mathlib.Core.Bool.{Bool, true, false, not, cond, ◌&&◌}
use mathlib.Core.List.{List, [], ◌∷◌, ◌++◌}
use Prim.Native.Nat.{ℕ, zero, suc, ◌<◌}
use native.Mathlib.Nat.{le_of_suc-le-suc}
use native.Mathlib.Decide.{ℕ_discrete}
use native.Mathlib.Omega.{arith}
use lib.Dec.{T, eqb, T_not, eqb_refl}
use lib.ListN.{length, get_or, take, length-append}
use lib.Seq.{take-append_seam, get_or-append_seam}
use borrow.Author.Tests.{eq-eqb, ne_eqb}
use Rattle.integers.specs.Lists.{every}
use Rattle.integers.proofs.Tests.{and_fst, and_snd}
use Rattle.settings.specs.Rules.{Rule, ◌gives◌, first_of, NoneApplies, First}

-- no rule of the list has this number
abbrev pub lacks : ℕ → List Rule → Bool
lacks n rs = every (λ (r : Rule). not (eqb r.number n)) rs

-- no rule of the list has the number 0, which stands for no refusal
abbrev pub Numbered : List Rule → Type 0
Numbered rs = T (lacks 0 rs)

-- no two rules of the list have the same number
abbrev pub distinct : List Rule → Bool
distinct [] = true
distinct (r ∷ rs) = lacks r.number rs && distinct rs

-- beyond the end of a list of rules
abbrev pub never : Rule
never = false gives 0

-- rule i applies and no rule before it does
abbrev pub FirstAt : List Rule → ℕ → Type 0
FirstAt rs i = NoneApplies (take i rs) × ((get_or rs i never).applies ≡ true)

-- a rule that does not apply is passed over
pub skip : (r : Rule) (rs : List Rule) → r.applies ≡ false → first_of (r ∷ rs) ≡ first_of rs
unfolding first_of
skip r rs e = rw e refl

-- a rule that applies decides
pub stop : (r : Rule) (rs : List Rule) → r.applies ≡ true → first_of (r ∷ rs) ≡ r.number
unfolding first_of
stop r rs e = rw e refl

-- rules of which none applies are passed over
pub skip_all : (xs ys : List Rule) → NoneApplies xs → first_of (xs ++ ys) ≡ first_of ys
skip_all [] ys h = refl
skip_all (x ∷ xs) ys h = skip x (xs ++ ys) h.0 ∙ skip_all xs ys h.1

find : (rs : List Rule) (n : ℕ) → n ≢ 0 → first_of rs ≡ n → First rs n
unfolding first_of
find [] n ne e = absurd (ne (sym e))
find (r ∷ rs) n ne e = go r.applies refl (λ f. find rs n ne f)
  where
    go : (u : Bool) → r.applies ≡ u → (first_of rs ≡ n → First rs n) → First (r ∷ rs) n
    go true a f = record { before = []; rule = r; after = rs; splits = refl; none_before = tt; applies = a; numbered = sym (stop r rs a) ∙ e }
    go false a f =
        let g = f (sym (skip r rs a) ∙ e) in
        record {
          before = r ∷ g.before;
          rule = g.rule;
          after = g.after;
          splits = ap (λ (l : List Rule). r ∷ l) g.splits;
          none_before = (a, g.none_before);
          applies = g.applies;
          numbered = g.numbered;
        }

-- the law of `first_of`: a number comes out exactly if it is that of a rule that applies and no rule before it does
pub first-applies : (rs : List Rule) (n : ℕ) → n ≢ 0 → (first_of rs ≡ n) ↔ First rs n
first-applies rs n ne = (
  find rs n ne,
  λ f. ap first_of f.splits ∙ skip_all f.before (f.rule ∷ f.after) f.none_before ∙ stop f.rule f.after f.applies ∙ f.numbered,
)

lacks-head : (n : ℕ) (r : Rule) (rs : List Rule) → T (lacks n (r ∷ rs)) → r.number ≢ n
lacks-head n r rs h e = T_not (eqb r.number n) (and_fst (not (eqb r.number n)) (lacks n rs) h) (rw e (eqb_refl n))

lacks-tail : (n : ℕ) (r : Rule) (rs : List Rule) → T (lacks n (r ∷ rs)) → T (lacks n rs)
lacks-tail n r rs h = and_snd (not (eqb r.number n)) (lacks n rs) h

lacks-at : (n : ℕ) (rs : List Rule) → T (lacks n rs) → (i : ℕ) → i < length rs → (get_or rs i never).number ≢ n
lacks-at n [] h i l = absurd (omega arith)
lacks-at n (r ∷ rs) h zero l = lacks-head n r rs h
lacks-at n (r ∷ rs) h (suc i) l = lacks-at n rs (lacks-tail n r rs h) i (le_of_suc-le-suc l)

first-lacks : (rs : List Rule) (n : ℕ) → n ≢ 0 → T (lacks n rs) → first_of rs ≢ n
unfolding first_of
first-lacks [] n ne h e = ne (sym e)
first-lacks (r ∷ rs) n ne h e = go r.applies refl (first-lacks rs n ne (lacks-tail n r rs h))
  where
    go : (u : Bool) → r.applies ≡ u → first_of rs ≢ n → ⊥
    go true a f = lacks-head n r rs h (sym (stop r rs a) ∙ e)
    go false a f = f (sym (skip r rs a) ∙ e)

-- 0 comes out exactly if no rule applies
pub none-applies : (rs : List Rule) → Numbered rs → (first_of rs ≡ 0) ↔ NoneApplies rs
unfolding first_of
none-applies [] h = (λ e. tt, λ f. refl)
none-applies (r ∷ rs) h =
    let rest = none-applies rs (lacks-tail 0 r rs h) in
    (λ e. go r.applies refl e rest.0, λ f. skip r rs f.0 ∙ rest.1 f.1)
  where
    go : (u : Bool) → r.applies ≡ u → first_of (r ∷ rs) ≡ 0 → (first_of rs ≡ 0 → NoneApplies rs) → NoneApplies (r ∷ rs)
    go true a e f = absurd (lacks-head 0 r rs h (sym (stop r rs a) ∙ e))
    go false a e f = (a, f (sym (skip r rs a) ∙ e))

-- where the numbers differ, the number of rule i comes out exactly if rule i applies and no rule before it does
pub first-at : (rs : List Rule) (i : ℕ) → i < length rs → Numbered rs → T (distinct rs) → (first_of rs ≡ (get_or rs i never).number) ↔ FirstAt rs i
first-at [] i h n d = absurd (omega arith)
first-at (r ∷ rs) zero h n d = (λ e. (tt, go r.applies refl e), λ f. stop r rs f.1)
  where
    go : (u : Bool) → r.applies ≡ u → first_of (r ∷ rs) ≡ r.number → r.applies ≡ true
    go true a e = a
    go false a e = absurd (first-lacks rs r.number (lacks-head 0 r rs n) (and_fst (lacks r.number rs) (distinct rs) d) (sym (skip r rs a) ∙ e))
first-at (r ∷ rs) (suc i) h n d =
    let rest = first-at rs i (le_of_suc-le-suc h) (lacks-tail 0 r rs n) (and_snd (lacks r.number rs) (distinct rs) d) in
    (λ e. go r.applies refl e rest.0, λ f. skip r rs f.0.0 ∙ rest.1 (f.0.1, f.1))
  where
    go : (u : Bool) → r.applies ≡ u → first_of (r ∷ rs) ≡ (get_or rs i never).number → (first_of rs ≡ (get_or rs i never).number → FirstAt rs i) → FirstAt (r ∷ rs) (suc i)
    go true a e f = absurd (lacks-at r.number rs (and_fst (lacks r.number rs) (distinct rs) d) i (le_of_suc-le-suc h) (sym e ∙ stop r rs a))
    go false a e f = let g = f (sym (skip r rs a) ∙ e) in ((a, g.0), g.1)

-- rules that refuse decide, whatever rules follow
pub stop-all : (xs ys : List Rule) → first_of xs ≢ 0 → first_of (xs ++ ys) ≡ first_of xs
unfolding first_of
stop-all [] ys ne = absurd (ne refl)
stop-all (x ∷ xs) ys ne = go x.applies refl (λ f. stop-all xs ys f)
  where
    go : (u : Bool) → x.applies ≡ u → (first_of xs ≢ 0 → first_of (xs ++ ys) ≡ first_of xs) → first_of (x ∷ (xs ++ ys)) ≡ first_of (x ∷ xs)
    go true a f = stop x (xs ++ ys) a ∙ sym (stop x xs a)
    go false a f = skip x (xs ++ ys) a ∙ f (λ e. ne (skip x xs a ∙ e)) ∙ sym (skip x xs a)

-- one list of rules before another: its number where it refuses, else that of the other
pub first_append : (xs ys : List Rule) → Numbered xs → first_of (xs ++ ys) ≡ cond (eqb (first_of xs) 0) (first_of ys) (first_of xs)
first_append xs ys h = go (ℕ_discrete (first_of xs) 0)
  where
    go : Dec (first_of xs ≡ 0) → first_of (xs ++ ys) ≡ cond (eqb (first_of xs) 0) (first_of ys) (first_of xs)
    go (yes e) = rw (eq-eqb (first_of xs) 0 e) (skip_all xs ys ((none-applies xs h).0 e))
    go (no ne) = rw (ne_eqb (first_of xs) 0 ne) (stop-all xs ys ne)

-- of two lists no rule applies exactly if none of either does
pub none_append : (xs ys : List Rule) → NoneApplies (xs ++ ys) ↔ (NoneApplies xs × NoneApplies ys)
none_append [] ys = (λ f. (tt, f), λ f. f.1)
none_append (x ∷ xs) ys =
    let rest = none_append xs ys in
    (λ f. let g = rest.0 f.1 in ((f.0, g.0), g.1), λ f. (f.0.0, rest.1 (f.0.1, f.1)))

-- a number that the first list lacks comes out exactly if the first list passes and the second gives it
pub first_later : (xs ys : List Rule) (n : ℕ) → n ≢ 0 → Numbered xs → T (lacks n xs) → (first_of (xs ++ ys) ≡ n) ↔ ((first_of xs ≡ 0) × (first_of ys ≡ n))
first_later xs ys n ne h k = (λ e. go (ℕ_discrete (first_of xs) 0) e, λ f. skip_all xs ys ((none-applies xs h).0 f.0) ∙ f.1)
  where
    go : Dec (first_of xs ≡ 0) → first_of (xs ++ ys) ≡ n → (first_of xs ≡ 0) × (first_of ys ≡ n)
    go (yes z) e = (z, sym (skip_all xs ys ((none-applies xs h).0 z)) ∙ e)
    go (no f) e = absurd (first-lacks xs n ne k (sym (stop-all xs ys f) ∙ e))

-- a number that the second list lacks comes out exactly if the first list gives it
pub first_earlier : (xs ys : List Rule) (n : ℕ) → n ≢ 0 → Numbered xs → T (lacks n ys) → (first_of (xs ++ ys) ≡ n) ↔ (first_of xs ≡ n)
first_earlier xs ys n ne h k = (λ e. go (ℕ_discrete (first_of xs) 0) e, λ f. stop-all xs ys (λ z. ne (sym f ∙ z)) ∙ f)
  where
    go : Dec (first_of xs ≡ 0) → first_of (xs ++ ys) ≡ n → first_of xs ≡ n
    go (yes z) e = absurd (first-lacks ys n ne k (sym (skip_all xs ys ((none-applies xs h).0 z)) ∙ e))
    go (no f) e = sym (stop-all xs ys f) ∙ e

-- where the numbers differ, the number of a rule comes out exactly if it applies and no rule before it does
pub rule-first : (xs : List Rule) (r : Rule) (ys : List Rule) → Numbered (xs ++ (r ∷ ys)) → T (distinct (xs ++ (r ∷ ys))) → (first_of (xs ++ (r ∷ ys)) ≡ r.number) ↔ (NoneApplies xs × (r.applies ≡ true))
rule-first xs r ys n d =
    let at : length xs < length (xs ++ (r ∷ ys)) = simp length-append (omega arith) in
    let here : get_or (xs ++ (r ∷ ys)) (length xs) never ≡ r = get_or-append_seam xs r ys never in
    let f = first-at (xs ++ (r ∷ ys)) (length xs) at n d in (
      (λ e. let x = f.0 (e ∙ ap (λ (s : Rule). s.number) (sym here)) in (subst NoneApplies (take-append_seam xs (r ∷ ys)) x.0, ap (λ (s : Rule). s.applies) (sym here) ∙ x.1)),
      (λ h. f.1 (subst NoneApplies (sym (take-append_seam xs (r ∷ ys))) h.0, ap (λ (s : Rule). s.applies) here ∙ h.1) ∙ ap (λ (s : Rule). s.number) here),
    )
