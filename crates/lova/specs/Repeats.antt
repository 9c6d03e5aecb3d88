-- All that is fresh, repeated t times.
use Rattle.std.specs.Prelude.{cond, List, ℕ, ◌+◌, ◌*◌, ◌%◌, ltb, ℤ, pos}
use Rattle.matrices.specs.Matrices.{Matrix, contracted}
use Rattle.matrices.specs.Tables.{table, entry}
use Rattle.settings.specs.Settings.{Parameters, k_of, NOf}
use Rattle.lova.specs.declared.Profile.{Profile}
use Rattle.lova.specs.declared.Profile.TheVariants.{General, Fresh}
use Rattle.lova.specs.Answers.{Outcome, ends}
use Rattle.lova.specs.Stored.{Stored, Instance, Counted, counted, Message, Prepared, Witnesses, right_of, copies_for, columns_of, matrix_V, matrix_T~, matrix_D~, sent_V, sent_T~, sent_D~, read_C}

-- the column of a fresh S~, T~ or D~ that stands in column c of the general one: the k columns of v's digits stand there t times
unfoldable pub place_of : ℕ → ℕ → ℕ → ℕ
place_of t k c = cond (ltb c (t * k)) c (t * k + c % k)

-- the challenge for these columns: the rows that meet the same column, added up
abbrev pub challenge_in : Parameters → Profile → List ℕ → Matrix
challenge_in p f C = contracted (p.t * k_of p) (right_of p f * k_of p) (copies_for p.t f) (read_C p C)

-- a general call's witness, instance, message and digit witness are as they are; a fresh call's are repeated
module _ (p : Parameters) where
  abbrev pub repeated_S : Profile → List ℤ → List ℤ
  repeated_S General S = S
  repeated_S Fresh v = table p.m p.t (λ i j. entry (pos 0) 1 v i 0)

  abbrev pub repeated_instance : Profile → Instance → Instance
  repeated_instance General I = I
  repeated_instance Fresh I = record {
    T = table p.n p.t (λ i j. entry 0 1 I.T i 0);
    D = table p.t p.t (λ i j. entry (pos 0) 1 I.D 0 0);
  }

  abbrev pub repeated_counted : Profile → Counted → Counted
  repeated_counted f J = counted (repeated_instance f J.instance) J.leaves

  abbrev pub repeated_V : Profile → List ℤ → List ℤ
  repeated_V General «V» = «V»
  repeated_V Fresh «V» = table p.t p.t (λ i j. entry (pos 0) 1 «V» i 0)

  abbrev pub repeated_message : Profile → Message → Message
  repeated_message General M = M
  repeated_message Fresh M =
      let place = place_of p.t (k_of p) in
      let columns = columns_of p Fresh in
      record {
        «V» = repeated_V Fresh M.«V»;
        T~ = table p.n (NOf p) (λ i c. entry 0 columns M.T~ i (place c));
        D~ = (matrix_D~ p).write (λ a c. (sent_D~ p Fresh).read M.D~ (place a) (place c));
      }

  abbrev pub repeated_S~ : Profile → List ℤ → List ℤ
  repeated_S~ General S~ = S~
  repeated_S~ Fresh S~ = table p.m (NOf p) (λ i c. entry (pos 0) (columns_of p Fresh) S~ i (place_of p.t (k_of p) c))

  abbrev pub repeated_witnesses : Profile → Witnesses → Witnesses
  repeated_witnesses f o = record { S₁ = o.S₁; S₂ = repeated_S f o.S₂ }

  abbrev pub repeated_prepared : Profile → Prepared → Prepared
  repeated_prepared f o = record { message = repeated_message f o.message; S~ = repeated_S~ f o.S~ }

-- V, T~ and D~ as the matrices of a general fold
pub record Matrices : Type 0 where
  pub «V» : Matrix
  pub T~ : Matrix
  pub D~ : Matrix

module _ (p : Parameters) where
  -- the matrices that a message stands for, with D~ stored in this form and all that is fresh repeated
  abbrev pub meant_as : Profile → Stored ℤ → Message → Matrices
  meant_as General form M = record { «V» = (matrix_V p).read M.«V»; T~ = (matrix_T~ p).read M.T~; D~ = form.read M.D~ }
  meant_as Fresh form M =
      let place = place_of p.t (k_of p) in
      record {
        «V» = λ i j. (sent_V p Fresh).read M.«V» i 0;
        T~ = λ i c. (sent_T~ p Fresh).read M.T~ i (place c);
        D~ = λ a c. form.read M.D~ (place a) (place c);
      }

  abbrev pub meant : Profile → Message → Matrices
  meant f M = meant_as f (sent_D~ p f) M

-- the outcome with its outputs made anew
abbrev pub expanded : {X Y : Type 0} → (X → Y) → Outcome X → Outcome Y
expanded g o = ends o.answer (g o.outputs)
