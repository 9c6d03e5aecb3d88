-- What a run state and the matrices that are held stand for.
use Rattle.std.specs.Prelude.{List, ℕ, ◌+◌, ◌≤◌, ℤ, take}
use Rattle.settings.specs.Settings.{Parameters}
use Rattle.lova.specs.Stored.{matrix_A, matrix_T, matrix_S, matrix_D}
use Rattle.chain.specs.Small.{numbers_in}
use Rattle.chain.specs.Nodes.{Node, node_of}
use Rattle.chain.specs.Chain.{Stage, param, matrix, first, leaf, challenge, stopped, Counts, tally, State, Step, take_due}
use Rattle.states.specs.declared.Due.{Due}
use Rattle.states.specs.declared.Due.TheVariants as Dues
use Rattle.states.specs.declared.runs.Run.{Run}
use Rattle.states.specs.declared.stores.Slot.{Slot}
use Rattle.states.specs.declared.stores.Store.{Store}

-- a statement that holds whatever the store holds
abbrev pub Whatever : (Store → Type 0) → Type 0
Whatever P = (m : Store) → P m

-- the same store with this A
abbrev pub with_A : List ℕ → Store → Store
with_A A m = record m { a = A }

-- A is the beginning of its array
abbrev pub part_A : Parameters → List ℕ → List ℕ
part_A p A = take (matrix_A p).size A

-- a node is the beginning of its three arrays, with this leaf count
abbrev pub part_node : Parameters → List ℕ → List ℤ → ℕ → List ℤ → Node
part_node p T D leaves S = node_of (take (matrix_T p).size T) (take (matrix_D p).size D) leaves (take (matrix_S p).size S)

abbrev pub node_in : Parameters → Slot → ℕ → Node
node_in p z leaves = part_node p z.t z.d leaves z.s

-- what is due, with the matrices that it needs, and so many leaves under the accumulated node; a new leaf is one
unfoldable pub stage_of : Due → ℕ → Store → Stage
stage_of Dues.Param under m = param
stage_of (Dues.Matrix s) under m = matrix (numbers_in s)
stage_of (Dues.First s) under m = let p = numbers_in s in first p (part_A p m.a)
stage_of (Dues.Leaf s) under m = let p = numbers_in s in leaf p (part_A p m.a) (node_in p m.first under)
stage_of (Dues.Challenge s) under m =
    let p = numbers_in s in challenge p (part_A p m.a) (node_in p m.first under) (node_in p m.second 1)
stage_of Dues.Nothing under m = stopped

-- the counts of a run state
abbrev pub counts_of : Run → Counts
counts_of r = tally r.line r.leaves r.folds

abbrev pub state_of : Run → Store → State
state_of r m = record { counts = counts_of r; stage = stage_of r.due r.under m }

-- what a line comes to: the run state after it, and the output
abbrev pub step_of : Run → Store → List ℕ → Step
step_of r m output = record { state = state_of r m; output = output }

-- what a line that is not too long comes to where this record is due
abbrev pub line_due : Due → Run → Store → List ℕ → Step
line_due due r m line = take_due (counts_of r) (stage_of due r.under m) line

-- what a run keeps when it has taken a line, and how long the output is
abbrev pub Safe : Run → Run → ℕ → Type 0
Safe before after length = (after.line ≤ before.line + 1) × (length ≤ 512)
