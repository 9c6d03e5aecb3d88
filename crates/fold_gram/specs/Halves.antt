-- D' from the lower triangle of D~: what is summed, and what is made of it.
use Rattle.std.specs.Prelude.{cond, ◌&&◌, List, ℕ, ltb, ℤ, pos, ◌+ℤ◌, ◌*ℤ◌}
use Rattle.std.specs.Int.Signed.{quot_z}
use Rattle.matrices.specs.Matrices.{Matrix}
use Rattle.matrices.specs.Triangles.{lower_part}

-- L: a lower triangle's entries below the diagonal twice, those on it once, and zeros above it
unfoldable pub below_twice : List ℤ → Matrix
below_twice d a b = cond (ltb b a) (pos 2 *ℤ lower_part d a b) (lower_part d a b)

-- half of X + X transposed
abbrev pub mean : Matrix → Matrix
mean X i j = quot_z (X i j +ℤ X j i) (pos 2)

-- Y in the first i rows and columns, and X in the others
unfoldable pub corner : ℕ → Matrix → Matrix → Matrix
corner i Y X r c = cond (ltb r i && ltb c i) (Y r c) (X r c)
