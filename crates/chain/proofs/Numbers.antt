-- The numbers that a stored matrix prints.
use mathlib.Core.Path.{◌≡◌, refl, sym, ap}
use mathlib.Core.List.{List}
use Prim.Native.Nat.{ℕ, ◌*◌}
use lib.IntN.{ℤ, pos}
use lib.ListN.{length}
use Rattle.matrices.specs.Tables.{signed}
use Rattle.matrices.proofs.Tables.{table_of}
use Rattle.settings.specs.Settings.{Parameters}
use Rattle.lova.specs.Answers.{Meaning}
use Rattle.lova.specs.Stored.{Counted, wholes, matrix_D}
use Rattle.lova.specs.Calls.{Fits}
use Rattle.chain.specs.Reports.{numbers_of, leaf_text, fold_text, leaf_line, fold_line}

-- a matrix that is stored as whole numbers by rows prints its elements
pub numbers-are : (rows cols : ℕ) (xs : List ℤ) → length xs ≡ rows * cols → numbers_of (wholes rows cols) rows cols xs ≡ xs
unfolding numbers_of
numbers-are rows cols xs e = sym (table_of (pos 0) rows cols (signed cols xs) xs e (λ i j hi hj. refl))

-- so the line of an instance has the elements of its D
module _ (p : Parameters) (number : ℕ) (J : Counted) (h : Fits (matrix_D p) J.instance.D) where
  abbrev T : List ℕ
  T = J.instance.T

  abbrev D : List ℤ
  D = J.instance.D

  pub leaf-prints : leaf_text number T D J.leaves ≡ leaf_line p number J
  leaf-prints = ap (λ (x : List ℤ). leaf_text number T x J.leaves) (sym (numbers-are p.t p.t D h))

  pub fold-prints : (answer : Meaning) → fold_text number answer T D J.leaves ≡ fold_line p number answer J
  fold-prints answer = ap (λ (x : List ℤ). fold_text number answer T x J.leaves) (sym (numbers-are p.t p.t D h))
