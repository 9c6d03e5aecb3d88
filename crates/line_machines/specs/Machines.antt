-- Programs that read lines of text: what such a program prints for an input, line by line, byte by byte, and in chunks.
use Rattle.std.specs.Prelude.{◌≡◌, Bool, true, cond, List, [], ◌∷◌, ◌++◌, ℕ, leb, ltb, eqb, length}
use Rattle.text.specs.Fields.{cut_at}

-- a line has at most 4096 bytes with its line feed
abbrev pub longest_line : ℕ
longest_line = 4095

-- what comes of a line: the state after it, and the bytes that are printed
pub record Step (S : Type 0) : Type 0 where
  pub state : S
  pub output : List ℕ

-- a program that reads lines, by its state: before the first line; a line that is not too long; a bad line, which is too long or has
-- no line feed; the end of the input; whether it has stopped
pub record Machine (S : Type 0) : Type 0 where
  pub start : S
  pub on_line : S → List ℕ → Step S
  pub on_bad : S → Step S
  pub on_end : S → List ℕ
  pub stopped : S → Bool

-- a bad line stops it; once it has stopped, it takes nothing more and prints nothing more
pub record Stops {S : Type 0} (M : Machine S) : Type 0 where
  pub by_bad : (s : S) → M.stopped (M.on_bad s).state ≡ true
  pub no_line : (s : S) (line : List ℕ) → M.stopped s ≡ true → M.on_line s line ≡ record { state = s; output = [] }
  pub no_bad : (s : S) → M.stopped s ≡ true → M.on_bad s ≡ record { state = s; output = [] }
  pub no_end : (s : S) → M.stopped s ≡ true → M.on_end s ≡ []

-- the lines of an input: it is cut at each line feed (byte 10); the last part is what stands after the last of them
abbrev pub lines : List ℕ → List (List ℕ)
lines input = cut_at 10 input

-- the run state, and the bytes of the line that is under way
pub record Feeding (S : Type 0) : Type 0 where
  pub state : S
  pub pending : List ℕ

-- what comes of a byte
pub record Fed (S : Type 0) : Type 0 where
  pub feeding : Feeding S
  pub output : List ℕ

-- a line that has ended
abbrev pub ended : {S : Type 0} → Step S → Fed S
ended s = record { feeding = record { state = s.state; pending = [] }; output = s.output }

module _ {S : Type 0} (M : Machine S) where
  -- one line, without its line feed
  unfoldable pub line_step : S → List ℕ → Step S
  line_step s line = cond (leb (length line) longest_line) (M.on_line s line) (M.on_bad s)

  -- the end of the input, with what stands after the last line feed: a line without its line feed is bad
  unfoldable pub last_output : S → List ℕ → List ℕ
  last_output s [] = M.on_end s
  last_output s (x ∷ rest) = (M.on_bad s).output

  -- what is printed for the parts of an input
  unfoldable pub printed : S → List (List ℕ) → List ℕ
  printed s [] = []
  printed s (rest ∷ []) = last_output s rest
  printed s (line ∷ (more ∷ parts)) = (line_step s line).output ++ printed (line_step s line).state (more ∷ parts)

  -- the program: from input to output
  unfoldable pub output_of : List ℕ → List ℕ
  output_of input = printed M.start (lines input)

  -- the state after some lines
  unfoldable pub state_after : S → List (List ℕ) → S
  state_after s [] = s
  state_after s (line ∷ more) = state_after (line_step s line).state more

  -- ---- byte by byte, as the input is read

  -- before the first byte
  abbrev pub unfed : Feeding S
  unfed = record { state = M.start; pending = [] }

  -- one byte: a line feed ends the line, and so does the first byte too many
  unfoldable pub feed_byte : Feeding S → ℕ → Fed S
  feed_byte f b =
      cond (eqb b 10)
      (ended (line_step f.state f.pending))
      (cond (ltb (length f.pending) longest_line)
      (record { feeding = record { state = f.state; pending = f.pending ++ (b ∷ []) }; output = [] })
      (ended (line_step f.state (f.pending ++ (b ∷ [])))))

  -- where some bytes lead
  unfoldable pub feed_all : Feeding S → List ℕ → Feeding S
  feed_all f [] = f
  feed_all f (b ∷ bs) = feed_all (feed_byte f b).feeding bs

  -- what is printed meanwhile
  unfoldable pub feed_output : Feeding S → List ℕ → List ℕ
  feed_output f [] = []
  feed_output f (b ∷ bs) = (feed_byte f b).output ++ feed_output (feed_byte f b).feeding bs

  -- what is printed at the end of the input
  abbrev pub feed_end : Feeding S → List ℕ
  feed_end f = last_output f.state f.pending

  -- all that is printed from there on, where these are the bytes still to come
  abbrev pub bytewise : Feeding S → List ℕ → List ℕ
  bytewise f bs = feed_output f bs ++ feed_end (feed_all f bs)

  -- chunks of input, one after the other: what is printed for each, and at the end
  unfoldable pub chunked : Feeding S → List (List ℕ) → List ℕ
  chunked f [] = feed_end f
  chunked f (c ∷ cs) = feed_output f c ++ chunked (feed_all f c) cs

-- the chunks as one input
unfoldable pub whole : List (List ℕ) → List ℕ
whole [] = []
whole (c ∷ cs) = c ++ whole cs
