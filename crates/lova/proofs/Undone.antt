-- Recomposition undoes message, and is done on nothing else.
use mathlib.Core.Path.{◌≡◌, refl, sym, ◌∙◌, ap, subst}
use mathlib.Core.Logic.{◌↔◌}
use mathlib.Core.List.{List}
use Prim.Native.Nat.{ℕ}
use lib.IntN.{ℤ, pos}
use Rattle.matrices.proofs.Tables.{length-table, entry-table}
use Rattle.settings.specs.Settings.{Parameters, h_of}
use Rattle.settings.proofs.Accepted.{accepted}
use Rattle.lova.specs.Answers.{Meaning, done, Outcome, ends}
use Rattle.lova.specs.declared.Profile.{Profile}
use Rattle.lova.specs.Stored.{Prepared, Witnesses, matrix_A, matrix_S, right_of, columns_of, right_S, sent_S~}
use Rattle.lova.specs.Calls.{Fits, FitsPrepared, Bounded, RecomposeLengths, ProperMessage, ProperRecompose}
use Rattle.lova.specs.Fold.{digit_witness}
use Rattle.lova.specs.Message.{prepared_as, prepared_in, message_in}
use Rattle.lova.specs.Recompose.{witnesses_of, recompose_in}
use Rattle.lova.proofs.Gadget.{digit_size}
use Rattle.lova.proofs.Refusals.{Ended, done-ended, ends_so, none-refused, message-proper, recompose-proper}
use Rattle.lova.proofs.Recomposing.{W, stored, given_back, short-again, rule_followed, short-left, short-right, made_again}

-- an answer that is done is no refusal
done-is : (a : Meaning) → a ≡ done → Ended a
done-is a e r g = done-ended r (sym e ∙ g)

module _ (p : Parameters) (f : Profile) where
  -- a proper call is done, and a call that is done is proper
  message-done : (A : List ℕ) (S₁ S₂ : List ℤ) (before : Prepared) → ProperMessage p f A S₁ S₂ before → message_in p f A S₁ S₂ before ≡ ends done (prepared_in p f A S₁ S₂)
  unfolding message_in
  message-done A S₁ S₂ before proper = ends_so before _ _ ((message-proper p f A S₁ S₂ before).1 proper)

  done-message : (A : List ℕ) (S₁ S₂ : List ℤ) (before : Prepared) → (message_in p f A S₁ S₂ before).answer ≡ done → ProperMessage p f A S₁ S₂ before
  unfolding message_in
  done-message A S₁ S₂ before e = (message-proper p f A S₁ S₂ before).0 (none-refused before (ends done (prepared_in p f A S₁ S₂)) _ (done-is _ e))

  recompose-done : (S~ : List ℤ) (out : Witnesses) → ProperRecompose p f S~ out → recompose_in p f S~ out ≡ ends done (witnesses_of p f S~)
  unfolding recompose_in
  recompose-done S~ out proper = ends_so out _ _ ((recompose-proper p f S~ out).1 proper)

  done-recompose : (S~ : List ℤ) (out : Witnesses) → (recompose_in p f S~ out).answer ≡ done → ProperRecompose p f S~ out
  unfolding recompose_in
  done-recompose S~ out e = (recompose-proper p f S~ out).0 (none-refused out (ends done (witnesses_of p f S~)) _ (done-is _ e))

  -- message writes the digit witness
  digits-written : (A : List ℕ) (S₁ S₂ : List ℤ) → (prepared_in p f A S₁ S₂).S~ ≡ stored p f S₁ S₂
  unfolding prepared_as
  digits-written A S₁ S₂ = refl

  -- of the digit witness of two witnesses that message takes, recomposition is done
  module _ (A : List ℕ) (S₁ S₂ : List ℤ) (before : Prepared) (out : Witnesses) (proper : ProperMessage p f A S₁ S₂ before) where
    said : (message_in p f A S₁ S₂ before).outputs.S~ ≡ stored p f S₁ S₂
    said = ap (λ (o : Outcome Prepared). o.outputs.S~) (message-done A S₁ S₂ before proper) ∙ digits-written A S₁ S₂

    within : Bounded p.m (columns_of p f) (h_of p) ((sent_S~ p f).read (stored p f S₁ S₂))
    within i c hi hc = rw (entry-table (pos 0) p.m (columns_of p f) (digit_witness p (W p f S₁ S₂)) i c hi hc)
        (digit_size p (W p f S₁ S₂) i c (accepted p proper.setting).b-low)

    proper-again : RecomposeLengths p f (stored p f S₁ S₂) out → ProperRecompose p f (stored p f S₁ S₂) out
    proper-again lengths =
        let acc = accepted p proper.setting in
        record {
          setting = proper.setting;
          lengths = lengths;
          entries = within;
          columns = short-again p f S₁ S₂ acc proper.columns.0 proper.columns.1;
          digits = rule_followed p f S₁ S₂ acc proper.columns.0 proper.columns.1;
        }

    pub undoes : RecomposeLengths p f (message_in p f A S₁ S₂ before).outputs.S~ out
        → recompose_in p f (message_in p f A S₁ S₂ before).outputs.S~ out ≡ ends done (record { S₁ = S₁; S₂ = S₂ })
    undoes lengths =
        let sizes = proper.lengths in
        ap (λ (xs : List ℤ). recompose_in p f xs out) said
        ∙ recompose-done (stored p f S₁ S₂) out (proper-again (subst (λ (xs : List ℤ). RecomposeLengths p f xs out) said lengths))
        ∙ ap (ends done) (given_back p f S₁ S₂ (accepted p proper.setting) proper.columns.0 proper.columns.1 sizes.1 sizes.2)

  module _ (A : List ℕ) (S~ : List ℤ) (out : Witnesses) (before : Prepared) where
    -- the two witnesses that S~ stands for
    abbrev written : Witnesses
    written = witnesses_of p f S~

    written-fits : Fits (matrix_S p) written.S₁ × Fits (right_S p f) written.S₂
    unfolding witnesses_of
    written-fits = (length-table p.m p.t _, length-table p.m (right_of p f) _)

    module _ (size_A : Fits (matrix_A p) A) (fits : FitsPrepared p f before) where
      -- message takes what recomposition writes, and gives S~ again
      taken : ProperRecompose p f S~ out → ProperMessage p f A written.S₁ written.S₂ before
      taken proper = record {
        setting = proper.setting;
        lengths = (size_A, written-fits.0, written-fits.1, fits);
        columns = (short-left p f S~ proper.columns, short-right p f S~ proper.columns);
      }

      pub returns : ProperRecompose p f S~ out → (message_in p f A written.S₁ written.S₂ before).outputs.S~ ≡ S~
      returns proper = said A written.S₁ written.S₂ before out (taken proper) ∙ sym (made_again p f S~ proper.lengths.0 proper.digits)

    pub exactly : RecomposeLengths p f S~ out → Fits (matrix_A p) A → FitsPrepared p f before
        → ((recompose_in p f S~ out).answer ≡ done)
        ↔ ((S₁ : List ℤ) × (S₂ : List ℤ) × ((message_in p f A S₁ S₂ before).answer ≡ done) × ((message_in p f A S₁ S₂ before).outputs.S~ ≡ S~))
    exactly lengths size_A fits = (
      (λ e. let proper = done-recompose S~ out e in
          (written.S₁, written.S₂, ap (λ (o : Outcome Prepared). o.answer) (message-done A written.S₁ written.S₂ before (taken size_A fits proper)), returns size_A fits proper)),
      (λ m. let same = m.3 in
          let back = undoes A m.0 m.1 before out (done-message A m.0 m.1 before m.2) (subst (λ (xs : List ℤ). RecomposeLengths p f xs out) (sym same) lengths) in
          ap (λ (xs : List ℤ). (recompose_in p f xs out).answer) (sym same) ∙ ap (λ (o : Outcome Witnesses). o.answer) back),
    )
