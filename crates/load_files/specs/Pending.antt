-- What a load has still to print.
use Rattle.std.specs.Prelude.{◌≡◌, Bool, true, false, List, [], ◌++◌, ℕ, suc, ◌≤◌, ◌<◌, length, take}
use Rattle.chain.specs.Reports.{refused_line}
use Rattle.loads.specs.Files.{matrix_text, challenge_text, pairs_text, leaves_text, chain_file, after_A, after_C}
use Rattle.load_texts.specs.Texts.{parameters_for}
use Rattle.load_files.specs.declared.Pending.{Pending}
use Rattle.load_files.specs.declared.Pending.TheVariants as Dues

-- the bytes from the line that is due on
unfoldable pub to_come : Pending → List ℕ
to_come (Dues.Refusal line number) = refused_line line number
to_come (Dues.Param l) = chain_file (parameters_for l.setting) (suc l.left) l.state
to_come (Dues.Matrix l) = matrix_text (parameters_for l.setting) l.state ++ leaves_text (parameters_for l.setting) l.left (after_A (parameters_for l.setting) l.state)
to_come (Dues.First l) = leaves_text (parameters_for l.setting) l.left l.state
to_come (Dues.Leaf l) = pairs_text (parameters_for l.setting) (suc l.left) l.state
to_come (Dues.Challenge l) = challenge_text (parameters_for l.setting) l.state ++ pairs_text (parameters_for l.setting) l.left (after_C (parameters_for l.setting) l.state)
to_come Dues.Nothing = []

-- whether no line is due
unfoldable pub is_over : Pending → Bool
is_over (Dues.Refusal line number) = false
is_over (Dues.Param l) = false
is_over (Dues.Matrix l) = false
is_over (Dues.First l) = false
is_over (Dues.Leaf l) = false
is_over (Dues.Challenge l) = false
is_over Dues.Nothing = true

-- the line that was due in q is written to the buffer d from `at` on, which is e then, up to `to`, and r is still to come
pub record Puts (q r : Pending) (at to : ℕ) (d e : List ℕ) : Type 0 where
  -- what stands up to there, and what is still to come, is what stood and was to come
  pub bytes : take to e ++ to_come r ≡ take at d ++ to_come q
  pub within : to ≤ length e
  pub further : is_over q ≡ false → at < to
