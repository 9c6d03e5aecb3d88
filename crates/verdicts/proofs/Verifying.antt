-- The verdict: what the fold of T~ and D~ by the challenge asks once no rule applies, and what it leaves.
use mathlib.Core.Path.{◌≡◌, ◌∙◌, ap₂}
use mathlib.Core.List.{List}
use Prim.Native.Nat.{ℕ, ◌+◌, ◌*◌, ◌^◌, ◌≤◌}
use native.Mathlib.Omega.{arith}
use native.Mathlib.Nat.{le_trans, mul-le-mul_right}
use lib.IntN.{ℤ, pos, nat_abs}
use lib.ListN.{get_or}
use Rattle.matrices.specs.Matrices.{Matrix, product, both_sides, contracted}
use Rattle.matrices.specs.Tables.{table, residues, unsigned, challenge}
use Rattle.matrices.specs.Triangles.{mirrored}
use Rattle.settings.specs.declared.Setting.{Setting}
use Rattle.settings.specs.Settings.{Parameters, HOf, parameters_of}
use Rattle.lova.specs.declared.Profile.{Profile}
use Rattle.lova.specs.Stored.{right_for, copies_for, columns_of, matrix_T, matrix_D, sent_T~, sent_D~}
use Rattle.lova.specs.Repeats.{challenge_in}
use Rattle.lova.specs.Calls.{Rebuilt, Fits, Bounded}
use Rattle.lova.proofs.Tests.{mirrored-everywhere}
use Rattle.lova.proofs.Rebuilding.{rebuilt-accepted}
use Rattle.lova.proofs.Widths.{parts_are, challenge-is}

module _ (s : Setting) (whole : Rebuilt s) (f : Profile) where
  abbrev q : Parameters
  q = parameters_of s

  H_small : HOf q ≤ 2 ^ 31
  H_small = let acc = rebuilt-accepted s whole in omega (arith, acc.products-small, mul-le-mul_right (HOf q) acc.N-low)

  -- D~ within H is small enough for the fold
  pub small-enough : (D~ : List ℤ) → Fits (sent_D~ q f) D~ → Bounded (columns_of q f) (columns_of q f) (HOf q) ((sent_D~ q f).read D~)
      → (x : ℕ) → nat_abs (get_or D~ x (pos 0)) ≤ 2 ^ 31
  small-enough D~ fits small x = le_trans (mirrored-everywhere (columns_of q f) (HOf q) D~ fits small x) H_small

  -- T' and D' by the parts of the columns are those by all columns
  module _ (right : ℕ) (right_is : right ≡ right_for s.t f) (copies : ℕ) (copies-is : copies ≡ copies_for s.t f) (C : List ℕ) where
    abbrev wide : ℕ
    wide = s.t * s.k + right * s.k

    abbrev K : Matrix
    K = contracted (s.t * s.k) (right * s.k) copies (challenge s.t C)

    pub T-folded : (T~ written : List ℕ) → written ≡ residues s.n s.t (product wide (unsigned wide T~) K)
        → written ≡ (matrix_T q).write (product (columns_of q f) ((sent_T~ q f).read T~) (challenge_in q f C))
    T-folded T~ written e = e ∙ ap₂ (λ (n : ℕ) (X : Matrix). residues s.n s.t (product n (unsigned n T~) X))
        (parts_are s whole f right right_is) (challenge-is s whole f right right_is copies copies-is C)

    pub D-folded : (D~ written : List ℤ) → written ≡ table s.t s.t (both_sides wide K (mirrored D~))
        → written ≡ (matrix_D q).write (both_sides (columns_of q f) (challenge_in q f C) ((sent_D~ q f).read D~))
    D-folded D~ written e = e ∙ ap₂ (λ (n : ℕ) (X : Matrix). table s.t s.t (both_sides n X (mirrored D~)))
        (parts_are s whole f right right_is) (challenge-is s whole f right right_is copies copies-is C)
