-- The codes that the C functions return, and what a C call leaves.
use Rattle.std.specs.Prelude.{cond, ℕ, eqb}
use Rattle.lova.specs.Answers.{Meaning, done, «yes», norm, commitment, long, products, member, refused, count_after, Outcome, ends}
use Rattle.lova.specs.Stored.{Counted, counted}

-- 0 for done, yes and member; a refusal's own number, 1 to 12, 15 and 16; 100 to 103 for the other words
unfoldable pub code_of : Meaning → ℕ
code_of done = 0
code_of «yes» = 0
code_of member = 0
code_of (refused r) = r
code_of norm = 100
code_of commitment = 101
code_of long = 102
code_of products = 103

-- the answer that a code stands for; 0 stands for the function's own word, done, yes or member
unfoldable pub meaning_of : Meaning → ℕ → Meaning
meaning_of word c =
    cond (eqb c 0) word
    (cond (eqb c 100) norm (cond (eqb c 101) commitment (cond (eqb c 102) long (cond (eqb c 103) products (refused c)))))

-- what a C call leaves: the code that it returns, and what its lent outputs hold
pub record Returned (X : Type 0) : Type 0 where
  pub code : ℕ
  pub outputs : X

abbrev pub returned : {X : Type 0} → ℕ → X → Returned X
returned c x = record { code = c; outputs = x }

-- what an operation leaves, with its answer as a code
abbrev pub coded : {X : Type 0} → Outcome X → Returned X
coded o = returned (code_of o.answer) o.outputs

-- the same where the leaf count has a place of its own, which held this: a refusal leaves it
abbrev pub placed : ℕ → Outcome Counted → Outcome Counted
placed before o = ends o.answer (counted o.outputs.instance (count_after o.answer o.outputs.leaves before))
