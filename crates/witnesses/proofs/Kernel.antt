-- The folded witness: what the fold by the challenge asks of a proper call, and what it leaves.
use mathlib.Core.Path.{◌≡◌, sym, ◌∙◌, ap₂}
use mathlib.Core.List.{List}
use Prim.Native.Nat.{ℕ, ◌+◌, ◌*◌, ◌≤◌}
use native.Mathlib.Omega.{arith}
use native.Mathlib.Nat.{le_trans}
use lib.IntN.{ℤ}
use lib.ListN.{length}
use Rattle.matrices.specs.Matrices.{Matrix, product, contracted}
use Rattle.matrices.specs.Tables.{table, signed, challenge}
use Rattle.settings.specs.declared.Setting.{Setting}
use Rattle.settings.specs.declared.acceptance.AcceptedSetting.{AcceptedSetting}
use Rattle.settings.specs.Accepted.{parameters_in}
use Rattle.settings.specs.Settings.{Parameters, h_of}
use Rattle.small_rows.specs.Small.{SmallMatrix}
use Rattle.lova.specs.declared.Profile.{Profile}
use Rattle.lova.specs.Stored.{right_for, copies_for, columns_of, matrix_S~, size_C}
use Rattle.lova.specs.Repeats.{repeated_S~}
use Rattle.lova.specs.Calls.{Rebuilt, ProperWitness}
use Rattle.lova.specs.Witness.{folded_witness}
use Rattle.lova.proofs.Tests.{bounded-everywhere}
use Rattle.lova.proofs.Rebuilding.{rebuilt-accepted, rebuilt-is}
use Rattle.lova.proofs.Widths.{wide_high, parts_are, copies_are, copies_some, copies_few, challenge-is}
use Rattle.lova.proofs.Computed.{witness-once}

module _ (accepted : AcceptedSetting) (f : Profile) (right : ℕ) (right_is : right ≡ right_for accepted.setting.t f)
    (copies : ℕ) (copies-is : copies ≡ copies_for accepted.setting.t f) (S~ : List ℤ) (C : List ℕ) where
  abbrev s : Setting
  s = accepted.setting

  whole : Rebuilt s
  whole = rebuilt-is accepted

  abbrev q : Parameters
  q = parameters_in accepted

  abbrev left : ℕ
  left = s.t * s.k

  abbrev block : ℕ
  block = right * s.k

  wide : left + block ≡ columns_of q f
  wide = parts_are s whole f right right_is

  -- the challenge has as many bytes as its blocks, and few copies
  pub challenge-whole : length C ≡ size_C q → (length C ≡ (left + copies * block) * s.t) × (1 ≤ copies) × (copies ≤ 16)
  challenge-whole l = (
    rw (copies_are s whole f right right_is copies copies-is) l,
    copies_some s whole f right right_is copies copies-is,
    copies_few s whole f right right_is copies copies-is,
  )

  -- a digit witness of few columns and small entries, and lengths
  pub fold_asks : (out : List ℤ) → ProperWitness q f S~ C out
      → SmallMatrix 32767 s.m (left + block) S~ × (s.t ≤ 16) × (length out ≡ s.m * s.t)
  fold_asks out proper =
      let l = proper.lengths in (
        record {
          long = rw wide l.0;
          few = rw wide (wide_high s whole f);
          small = λ i. le_trans (bounded-everywhere s.m (columns_of q f) (h_of q) S~ l.0 proper.entries i) (omega (arith, (rebuilt-accepted s whole).digits-small));
        },
        (rebuilt-accepted s whole).t-high,
        l.2,
      )

  pub folded-is : (written : List ℤ) → written ≡ table s.m s.t (product (left + block) (signed (left + block) S~) (contracted left block copies (challenge s.t C)))
      → written ≡ folded_witness q ((matrix_S~ q).read (repeated_S~ q f S~)) C
  folded-is written e =
      e
      ∙ ap₂ (λ (n : ℕ) (X : Matrix). table s.m s.t (product n (signed n S~) X)) wide (challenge-is s whole f right right_is copies copies-is C)
      ∙ sym (witness-once q f S~ C)
