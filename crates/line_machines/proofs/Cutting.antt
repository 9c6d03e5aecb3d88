-- A chunk that is read up to the end of a line: the loop that reads it, and what its bytes come to.
use borrow.Author.Tests.{eq-eqb, ne_eqb, lt-ltb, le-ltb}
use mathlib.Core.Path.{◌≡◌, refl, sym, ◌∙◌, ap, ap₂, subst}
use mathlib.Core.Bool.{Bool, true, false, cond, true≢false}
use mathlib.Core.List.{List, [], ◌∷◌, ◌++◌, append-nil}
use Prim.Native.Nat.{ℕ, suc, ◌+◌, ◌≤◌, ◌<◌}
use native.Mathlib.Omega.{arith}
use native.Mathlib.Numerals.{add-one}
use native.Mathlib.Nat.{zero-add}
use lib.Dec.{T, ltb, eqb, ltb→lt}
use lib.ListN.{length, get_or, take, drop, set, length-set, length-append, take-append-drop, drop_of_length-le}
use lib.Seq.{drop-cons, take-suc-set, length-take-le}
use Rattle.line_machines.specs.Machines.{Machine, Feeding, Fed, ended, longest_line, line_step, last_output, feed_byte, feed_all, feed_output, bytewise}
use Rattle.line_machines.specs.Cuts.{CutTo, cut_to, cut_of}
use Rattle.line_machines.proofs.Bytes.{bytewise_append}

-- n bytes were read before
abbrev pub further : ℕ → CutTo → CutTo
further n c = cut_to (n + c.used) c.pending c.ended

-- the loop after `used` bytes of the chunk: the answer is that of the bytes still to come
pub record Cutting (chunk first : List ℕ) (from : ℕ) (line : List ℕ) (n used : ℕ) : Type 0 where
  pub within : used ≤ length chunk
  pub short : n ≤ longest_line
  pub long : length line ≡ longest_line + 1
  pub answer : cut_of (take from first) chunk ≡ further used (cut_of (take n line) (drop used chunk))

pub cutting_start : (chunk first : List ℕ) (from : ℕ) → from ≤ longest_line → length first ≡ longest_line + 1 → Cutting chunk first from first from 0
cutting_start chunk first from h l = record {
  within = omega arith;
  short = h;
  long = l;
  answer = ap (λ (k : ℕ). cut_to k (cut_of (take from first) chunk).pending (cut_of (take from first) chunk).ended) (sym (zero-add (cut_of (take from first) chunk).used));
}

module _ (chunk first : List ℕ) (from : ℕ) (line : List ℕ) (n used : ℕ) (r : Cutting chunk first from line n used) where
  pub cutting_end : length chunk ≤ used → cut_to used (take n line) false ≡ cut_of (take from first) chunk
  unfolding cut_of
  cutting_end h = sym (r.answer ∙ rw (drop_of_length-le chunk h) (ap (λ (k : ℕ). cut_to k (take n line) false) (omega arith)))

  module _ (b : ℕ) (h : used < length chunk) (e : b ≡ get_or chunk used 0) where
    -- what comes: the byte b and the others
    comes : drop used chunk ≡ b ∷ drop (suc used) chunk
    comes = drop-cons chunk used 0 h ∙ ap (λ (x : ℕ). x ∷ drop (suc used) chunk) (sym e)

    long_now : length (take n line) ≡ n
    long_now = length-take-le n line (omega (arith, r.long, r.short))

    line_now : take (n + 1) (set line n b) ≡ take n line ++ (b ∷ [])
    line_now = ap (λ (k : ℕ). take k (set line n b)) (add-one n) ∙ take-suc-set line n b (omega (arith, r.long, r.short))

    -- a line feed
    pub cutting_feed : b ≡ 10 → cut_to (used + 1) (take n line) true ≡ cut_of (take from first) chunk
    unfolding cut_of
    cutting_feed f = sym (r.answer ∙ rw (comes, eq-eqb b 10 f) refl)

    -- a byte too many
    pub cutting_long : (b ≡ 10 → ⊥) → longest_line < n + 1 → cut_to (used + 1) (take (n + 1) (set line n b)) true ≡ cut_of (take from first) chunk
    unfolding cut_of
    cutting_long f g =
        let full : ltb (length (take n line)) longest_line ≡ false = le-ltb (length (take n line)) longest_line (omega (arith, long_now)) in
        ap (λ (l : List ℕ). cut_to (used + 1) l true) line_now ∙ sym (r.answer ∙ rw (comes, ne_eqb b 10 f, full) refl)

    next : (b ≡ 10 → ⊥) → n + 1 ≤ longest_line → further used (cut_of (take n line) (drop used chunk)) ≡ further (used + 1) (cut_of (take (n + 1) (set line n b)) (drop (used + 1) chunk))
    unfolding cut_of
    next f g =
        let open' : ltb (length (take n line)) longest_line ≡ true = lt-ltb (length (take n line)) longest_line (omega (arith, long_now)) in
        let more = cut_of (take n line ++ (b ∷ [])) (drop (suc used) chunk) in
        let sum : used + suc more.used ≡ used + 1 + more.used = omega arith in
        rw (comes, ne_eqb b 10 f, open', line_now, add-one used) (ap (λ (k : ℕ). cut_to k more.pending more.ended) (sum ∙ ap (λ (k : ℕ). k + more.used) (add-one used)))

    -- a byte of the line
    pub cutting_more : (b ≡ 10 → ⊥) → n + 1 ≤ longest_line → Cutting chunk first from (set line n b) (n + 1) (used + 1)
    cutting_more f g = record { within = omega arith; short = g; long = length-set line n b ∙ r.long; answer = r.answer ∙ next f g }

-- ---- how much is read

-- a step of `cut_of`, by its two tests
abbrev one_cut : List ℕ → ℕ → CutTo → Bool → Bool → CutTo
one_cut pending b more x y = cond x (cut_to 1 pending true) (cond y (cut_to (suc more.used) more.pending more.ended) (cut_to 1 (pending ++ (b ∷ [])) true))

-- a line that has not ended: all was read
cut_all : (pending bs : List ℕ) → (cut_of pending bs).ended ≡ false → (cut_of pending bs).used ≡ length bs
unfolding cut_of
cut_all pending [] e = refl
cut_all pending (b ∷ bs) e = by (eqb b 10) (ltb (length pending) longest_line) e (cut_all (pending ++ (b ∷ [])) bs)
  where
    more : CutTo
    more = cut_of (pending ++ (b ∷ [])) bs

    by : (x y : Bool) → (one_cut pending b more x y).ended ≡ false → (more.ended ≡ false → more.used ≡ length bs) → (one_cut pending b more x y).used ≡ suc (length bs)
    by true y f rec = absurd (true≢false f)
    by false true f rec = ap suc (rec f)
    by false false f rec = absurd (true≢false f)

-- a line that has ended: what comes after it was not looked at
pub cut-same : (pending xs ys : List ℕ) → (cut_of pending xs).ended ≡ true → cut_of pending (xs ++ ys) ≡ cut_of pending xs
unfolding cut_of
cut-same pending [] ys e = absurd (true≢false (sym e))
cut-same pending (b ∷ xs) ys e = by (eqb b 10) (ltb (length pending) longest_line) e (cut-same (pending ++ (b ∷ [])) xs ys)
  where
    more : CutTo
    more = cut_of (pending ++ (b ∷ [])) xs

    further-more : CutTo
    further-more = cut_of (pending ++ (b ∷ [])) (xs ++ ys)

    by : (x y : Bool) → (one_cut pending b more x y).ended ≡ true → (more.ended ≡ true → further-more ≡ more) → one_cut pending b further-more x y ≡ one_cut pending b more x y
    by true y f rec = refl
    by false true f rec = ap (λ (c : CutTo). cut_to (suc c.used) c.pending c.ended) (rec f)
    by false false f rec = refl

-- with a byte too many at the least, the line ends, and not after that byte
pub cut-ends : (bs pending : List ℕ) → length pending ≤ longest_line → longest_line < length pending + length bs
    → ((cut_of pending bs).ended ≡ true) × (length pending + (cut_of pending bs).used ≤ longest_line + 1)
unfolding cut_of
cut-ends [] pending h l = absurd (omega arith)
cut-ends (b ∷ bs) pending h l = by (eqb b 10) (ltb (length pending) longest_line) refl (cut-ends bs (pending ++ (b ∷ [])))
  where
    more : CutTo
    more = cut_of (pending ++ (b ∷ [])) bs

    long : length (pending ++ (b ∷ [])) ≡ length pending + 1
    long = length-append pending (b ∷ [])

    by : (x y : Bool) → ltb (length pending) longest_line ≡ y
        → (length (pending ++ (b ∷ [])) ≤ longest_line → longest_line < length (pending ++ (b ∷ [])) + length bs → (more.ended ≡ true) × (length (pending ++ (b ∷ [])) + more.used ≤ longest_line + 1))
        → ((one_cut pending b more x y).ended ≡ true) × (length pending + (one_cut pending b more x y).used ≤ longest_line + 1)
    by true y e rec = (refl, omega arith)
    by false true e rec =
        let room : length pending < longest_line = ltb→lt (length pending) longest_line (subst T (sym e) tt) in
        let r = rec (omega (arith, long)) (omega (arith, long)) in
        (r.0, omega (arith, r.1, long))
    by false false e rec = (refl, omega arith)

-- ---- what the bytes come to

module _ {S : Type 0} (M : Machine S) where
  -- what comes of a chunk that was read up to there
  abbrev pub after_cut : S → CutTo → Fed S
  after_cut s c = cond c.ended (ended (line_step M s c.pending)) (record { feeding = record { state = s; pending = c.pending }; output = [] })

  -- the bytes up to there, one by one
  abbrev pub Feeds : S → List ℕ → List ℕ → CutTo → Type 0
  Feeds s pending chunk c =
      let f : Feeding S = record { state = s; pending = pending } in
      (feed_all M f (take c.used chunk) ≡ (after_cut s c).feeding) × (feed_output M f (take c.used chunk) ≡ (after_cut s c).output)

  cut_byte : (s : S) (pending : List ℕ) (b : ℕ) (bs : List ℕ) (x y : Bool) (more : CutTo)
      → feed_byte M (record { state = s; pending = pending }) b ≡ cond x (ended (line_step M s pending))
      (cond y (record { feeding = record { state = s; pending = pending ++ (b ∷ []) }; output = [] }) (ended (line_step M s (pending ++ (b ∷ [])))))
      → Feeds s (pending ++ (b ∷ [])) bs more
      → Feeds s pending (b ∷ bs) (cond x (cut_to 1 pending true) (cond y (cut_to (suc more.used) more.pending more.ended) (cut_to 1 (pending ++ (b ∷ [])) true)))
  unfolding feed_all feed_output
  cut_byte s pending b bs true y more e h = (ap (λ (r : Fed S). r.feeding) e, ap (λ (r : Fed S). r.output ++ []) e ∙ append-nil (line_step M s pending).output)
  cut_byte s pending b bs false true more e h =
      (ap (λ (r : Fed S). feed_all M r.feeding (take more.used bs)) e ∙ h.0, ap (λ (r : Fed S). r.output ++ feed_output M r.feeding (take more.used bs)) e ∙ h.1)
  cut_byte s pending b bs false false more e h = (ap (λ (r : Fed S). r.feeding) e, ap (λ (r : Fed S). r.output ++ []) e ∙ append-nil (line_step M s (pending ++ (b ∷ []))).output)

  -- reading up to the end of a line is feeding the bytes up to there
  pub cut_feeds : (s : S) (chunk pending : List ℕ) → Feeds s pending chunk (cut_of pending chunk)
  unfolding cut_of feed_all feed_output feed_byte
  cut_feeds s [] pending = (refl, refl)
  cut_feeds s (b ∷ bs) pending =
      cut_byte s pending b bs (eqb b 10) (ltb (length pending) longest_line) (cut_of (pending ++ (b ∷ [])) bs) refl (cut_feeds s bs (pending ++ (b ∷ [])))

  -- an input, from the beginning of a line on, that was read up to there: the line is taken, and the bytes after it come; or the
  -- line has not ended, and all was read
  module _ (s : S) (input : List ℕ) (c : CutTo) (e : c ≡ cut_of [] input) where
    fed : Feeds s [] input c
    fed = subst (Feeds s [] input) (sym e) (cut_feeds s input [])

    split : bytewise M (record { state = s; pending = [] }) input ≡ (after_cut s c).output ++ bytewise M (after_cut s c).feeding (drop c.used input)
    split =
        let f : Feeding S = record { state = s; pending = [] } in
        ap (bytewise M f) (sym (take-append-drop c.used input))
        ∙ bytewise_append M f (take c.used input) (drop c.used input)
        ∙ ap₂ (λ (o : List ℕ) (g : Feeding S). o ++ bytewise M g (drop c.used input)) fed.1 fed.0

    -- what comes of it, by whether the line has ended
    abbrev after : Bool → Fed S
    after b = cond b (ended (line_step M s c.pending)) (record { feeding = record { state = s; pending = c.pending }; output = [] })

    pub line-cut : c.ended ≡ true
        → bytewise M (record { state = s; pending = [] }) input
        ≡ (line_step M s c.pending).output ++ bytewise M (record { state = (line_step M s c.pending).state; pending = [] }) (drop c.used input)
    line-cut t = split ∙ ap (λ (b : Bool). (after b).output ++ bytewise M (after b).feeding (drop c.used input)) t

    pub line_open : c.ended ≡ false → bytewise M (record { state = s; pending = [] }) input ≡ last_output M s c.pending
    unfolding feed_output feed_all
    line_open t =
        let all : c.used ≡ length input = ap (λ (x : CutTo). x.used) e ∙ cut_all [] input (ap (λ (x : CutTo). x.ended) (sym e) ∙ t) in
        let past : length input ≤ c.used = omega (arith, all) in
        let none : drop c.used input ≡ [] = drop_of_length-le input past in
        split
        ∙ ap (λ (b : Bool). (after b).output ++ bytewise M (after b).feeding (drop c.used input)) t
        ∙ ap (bytewise M (record { state = s; pending = c.pending })) none
