-- What lent slices stand for: each slice is named by the list that it holds, before a call or after it.
use Rattle.std.specs.Prelude.{List, ℕ, ℤ}
use Rattle.lova.specs.declared.Instance as Lent
use Rattle.lova.specs.declared.Message as Sent
use Rattle.lova.specs.Stored.{Instance, Counted, counted, Message, Prepared, Witnesses}

-- the instance in two slices: T and D
abbrev pub as_instance : List ℕ → List ℤ → Instance
as_instance t d = record { T = t; D = d }

-- the message in three: V, T~ and D~
abbrev pub as_message : List ℤ → List ℕ → List ℤ → Message
as_message v tt dd = record { «V» = v; T~ = tt; D~ = dd }

-- what the message operation writes, in four: V, T~, D~ and S~
abbrev pub as_prepared : List ℤ → List ℕ → List ℤ → List ℤ → Prepared
as_prepared v tt dd ss = record { message = as_message v tt dd; S~ = ss }

-- what recomposition writes, in two: S1, and S2 or v
abbrev pub as_witnesses : List ℤ → List ℤ → Witnesses
as_witnesses s₁ s₂ = record { S₁ = s₁; S₂ = s₂ }

-- an instance that is lent with its leaf count, and a message
abbrev pub lent_instance : Lent.Instance → Counted
lent_instance i = counted (as_instance i.t.now i.d.now) i.leaves

abbrev pub lent_message : Sent.Message → Message
lent_message m = as_message m.v.now m.tt.now m.dd.now
