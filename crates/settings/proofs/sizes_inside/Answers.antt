-- `settings::sizes_inside` meets its contract: it asks for the three ranges one after another.
use mathlib.Core.Path.{◌≡◌, refl, sym, ◌∙◌}
use mathlib.Core.Bool.{◌&&◌}
use Rattle.integers.specs.Ranges.{within, ◌to◌}
use Rattle.settings.proofs.sizes_inside.Goals as goal
use Rattle.settings.proofs.sizes_inside.Goals.{Joined-inside, then-inside, else-inside}

-- the first two of the three
two : (c : Joined-inside) → c.if-inside.value ≡ (within (1 to 64) c.args.n && within (1 to 4096) c.args.m)
two c = elim c.if-inside.branch [
  | then-inside w ↦ w.value-is ∙ w.inside-then-inside.ensures ∙ rw (sym c.inside.ensures ∙ w.if-inside.true) refl
  | else-inside w ↦ w.value-is ∙ w.if-inside.false ∙ rw (sym c.inside.ensures ∙ w.if-inside.false) refl
]

pub returns-then-inside-2 : goal.returns-then-inside-2
returns-then-inside-2 c = c.inside-then-inside-2.ensures ∙ rw (sym (two c.before.before) ∙ c.if-inside-2.true) refl

pub returns-else-inside-2 : goal.returns-else-inside-2
returns-else-inside-2 c = c.if-inside-2.false ∙ rw (sym (two c.before) ∙ c.if-inside-2.false) refl
