-- The lines of a chain file: each is read back as what was drawn.
use mathlib.Core.Path.{◌≡◌, refl, sym, subst}
use mathlib.Core.Bool.{Bool, true, false, cond}
use mathlib.Core.List.{List, [], ◌∷◌, map}
use Rattle.std.specs.Prelude.{Option, Some}
use Prim.Native.Nat.{ℕ, ◌+◌, ◌*◌, ◌^◌, ◌≤◌, ◌<◌}
use native.Mathlib.Omega.{arith}
use lib.Dec.{eqb}
use lib.IntN.{ℤ}
use lib.ListN.{length}
use mir.Syntax.{w64}
use mir.Val.{SFits}
use Rattle.settings.specs.Settings.{Parameters}
use Rattle.numerals.specs.Bytes.{lacks}
use Rattle.numerals.specs.Numerals.{decimal, decimal_Z}
use Rattle.numerals.proofs.Writing.{length_u64, length_i64, decimal-lacks, decimal_Z-lacks}
use Rattle.text.specs.Fields.{record_of, read_u64, read_i64, read_ternary}
use Rattle.text.specs.Lines.{joined, ternary_numeral}
use Rattle.text.proofs.Records.{Each, each_holds, ternary-lacks, u64s_back, i64s_back, ternaries_back}
use Rattle.text.proofs.Joined.{record_lacks, record_length}
use Rattle.line_machines.specs.Machines.{longest_line}
use Rattle.lova.specs.Stored.{matrix_A, matrix_S, size_C}
use Rattle.chain.specs.Params.{param_word}
use Rattle.chain.specs.Reports.{leaf_word}
use Rattle.chain.specs.Chain.{a_word, c_word}
use Rattle.loads.specs.Files.{drawn_A, drawn_S, drawn_c}
use Rattle.loads.proofs.Settings.{Usable}
use Rattle.loads.proofs.Drawn.{A-fits, A-words, S-fits, S-words, C-fits, C-bytes}

-- the line of a word and values, without its line feed: it is read as a record of these values, it is not too long, and it is one line
pub record ReadBack {A : Type 0} (read : List ℕ → Option A) (show : A → List ℕ) (word : List ℕ) (n : ℕ) (vs : List A) : Type 0 where
  pub back : record_of read word n (joined (word ∷ map show vs)) ≡ Some vs
  pub short : length (joined (word ∷ map show vs)) ≤ longest_line
  pub one : lacks 10 (joined (word ∷ map show vs)) ≡ true

-- values of a kind P, each shown by at most k bytes and without a line feed
module _ {A : Type 0} (read : List ℕ → Option A) (show : A → List ℕ) (P : A → Type 0) (k : ℕ)
    (small : (v : A) → P v → length (show v) ≤ k) (bare : (v : A) → P v → lacks 10 (show v) ≡ true) where
  back_by : (word : List ℕ) (n : ℕ) (vs : List A) → Each P vs → length vs ≡ n → length word + (k + 1) * n ≤ longest_line → lacks 10 word ≡ true
      → record_of read word (length vs) (joined (word ∷ map show vs)) ≡ Some vs → ReadBack read show word n vs
  back_by word n vs each long room word-one back = record {
    back = subst (λ (m : ℕ). record_of read word m (joined (word ∷ map show vs)) ≡ Some vs) long back;
    short =
        let within : length (joined (word ∷ map show vs)) ≤ length word + (k + 1) * length vs
        = record_length show k word vs (each_holds P (λ v. length (show v) ≤ k) small vs each) in
        let same : length word + (k + 1) * length vs ≤ longest_line = subst (λ (m : ℕ). length word + (k + 1) * m ≤ longest_line) (sym long) room in
        omega (arith, within, same);
    one = record_lacks show 10 word vs (λ e. omega (arith, e)) word-one (each_holds P (λ v. lacks 10 (show v) ≡ true) bare vs each);
  }

-- unsigned words, signed words, bytes of a challenge
pub words_back : (word : List ℕ) (n : ℕ) (vs : List ℕ) → Each (λ v. v < 2 ^ 64) vs → length vs ≡ n → length word + 21 * n ≤ longest_line → lacks 9 word ≡ true → lacks 10 word ≡ true
    → ReadBack read_u64 decimal word n vs
words_back word n vs each long room tab one =
    back_by read_u64 decimal (λ v. v < 2 ^ 64) 20 length_u64 (λ v h. decimal-lacks 10 v (omega arith)) word n vs each long room one (u64s_back word vs tab each)

wholes-back : (word : List ℕ) (n : ℕ) (vs : List ℤ) → Each (SFits w64) vs → length vs ≡ n → length word + 21 * n ≤ longest_line → lacks 9 word ≡ true → lacks 10 word ≡ true
    → ReadBack read_i64 decimal_Z word n vs
wholes-back word n vs each long room tab one =
    back_by read_i64 decimal_Z (SFits w64) 20 length_i64 (λ v h. decimal_Z-lacks 10 v (omega arith)) word n vs each long room one (i64s_back word vs tab each)

ternary-length : (x : ℕ) → length (ternary_numeral x) ≤ 2
unfolding ternary_numeral
ternary-length x = go (eqb x 0) (eqb x 1)
  where
    go : (a b : Bool) → length {A = ℕ} (cond a (48 ∷ []) (cond b (49 ∷ []) (45 ∷ 49 ∷ []))) ≤ 2
    go true b = omega arith
    go false true = omega arith
    go false false = omega arith

bytes_back : (word : List ℕ) (n : ℕ) (vs : List ℕ) → Each (λ x. x ≤ 2) vs → length vs ≡ n → length word + 3 * n ≤ longest_line → lacks 9 word ≡ true → lacks 10 word ≡ true
    → ReadBack read_ternary ternary_numeral word n vs
bytes_back word n vs each long room tab one =
    back_by read_ternary ternary_numeral (λ x. x ≤ 2) 2 (λ x h. ternary-length x) (λ x h. ternary-lacks 10 x (omega arith)) word n vs each long room one (ternaries_back word vs tab each)

-- the five numbers of a setting
abbrev pub five : Parameters → List ℕ
five p = p.n ∷ p.m ∷ p.t ∷ p.b ∷ p.bound ∷ []

-- the four kinds of lines
module _ (p : Parameters) (u : Usable p) where
  five-words : Each (λ v. v < 2 ^ 64) (five p)
  five-words =
      let r = u.ranges in
      (omega (arith, r.n-high), (omega (arith, r.m-high), (omega (arith, r.t-high), (omega (arith, r.b-high), (omega (arith, r.bound-high), tt)))))

  pub param-back : ReadBack read_u64 decimal param_word 5 (five p)
  unfolding lacks
  param-back = words_back param_word 5 (five p) five-words refl (omega arith) refl refl

  pub matrix-back : (s : ℕ) → ReadBack read_u64 decimal a_word (matrix_A p).size (drawn_A p s)
  unfolding lacks
  matrix-back s = words_back a_word (matrix_A p).size (drawn_A p s) (A-words p s) (A-fits p s) (omega (arith, u.sizes.A-high)) refl refl

  pub witness-back : (s : ℕ) → ReadBack read_i64 decimal_Z leaf_word (matrix_S p).size (drawn_S p s)
  unfolding lacks
  witness-back s = wholes-back leaf_word (matrix_S p).size (drawn_S p s) (S-words p u.ranges.m-low u.ranges.bound-high s) (S-fits p s) (omega (arith, u.sizes.S-high)) refl refl

  pub challenge-back : (s : ℕ) → ReadBack read_ternary ternary_numeral c_word (size_C p) (drawn_c p s)
  unfolding lacks
  challenge-back s = bytes_back c_word (size_C p) (drawn_c p s) (C-bytes p s) (C-fits p s) (omega (arith, u.sizes.C-high)) refl refl
