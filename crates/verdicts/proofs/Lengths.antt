-- What the passed test of a verdict's lengths says of the slices that the next tests read.
use mathlib.Core.Path.{◌≡◌, sym, subst}
use mathlib.Core.Bool.{Bool, true, ◌&&◌}
use mathlib.Core.List.{List}
use Prim.Native.Nat.{ℕ}
use lib.Dec.{T}
use Rattle.integers.proofs.Tests.{and_fst, and_snd}
use Rattle.settings.specs.Settings.{Parameters}
use Rattle.lova.specs.declared.Profile.{Profile}
use Rattle.lova.specs.Stored.{Instance, Message, sent_V, sent_T~, sent_D~}
use Rattle.lova.specs.Calls.{Fits, FitsC}
use Rattle.lova.specs.Tests.{fits, fits_instance, fits_right, fits_message, fits_C}
use Rattle.lova.proofs.Tests.{eqb_iff}

module _ (p : Parameters) (f : Profile) (I₁ I₂ : Instance) (M : Message) (C : List ℕ) (out : Instance) where
  -- the rule's test
  abbrev pub lengths_fit : Bool
  lengths_fit = fits_instance p I₁ && fits_right p f I₂ && fits_message p f M && fits_C p C && fits_instance p out

  abbrev up_to_message : Bool
  up_to_message = fits_instance p I₁ && fits_right p f I₂ && fits_message p f M

  module _ (passed : lengths_fit ≡ true) where
    inputs : T (up_to_message && fits_C p C)
    inputs = and_fst (up_to_message && fits_C p C) (fits_instance p out) (subst T (sym passed) tt)

    -- C has its length, and so has D~
    pub C-length : FitsC p C
    C-length = (eqb_iff _ _).0 (and_snd up_to_message (fits_C p C) inputs)

    pub D~-length : Fits (sent_D~ p f) M.D~
    D~-length = (eqb_iff _ _).0 (and_snd (fits (sent_V p f) M.«V» && fits (sent_T~ p f) M.T~) (fits (sent_D~ p f) M.D~)
        (and_snd (fits_instance p I₁ && fits_right p f I₂) (fits_message p f M) (and_fst up_to_message (fits_C p C) inputs)))
