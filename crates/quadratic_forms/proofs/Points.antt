-- Every point of the table holds: by computing, the vectors listed.
use mathlib.Core.Path.{◌≡◌, refl}
use mathlib.Core.List.{map}
use Rattle.integers.specs.Sums.{sum}
use Rattle.integers.specs.Tests.{all}
use Rattle.matrices.specs.Triangles.{mirrored}
use Rattle.settings.specs.Rules.{first_of}
use Rattle.lova.specs.Tests.{eq_Z}
use Rattle.quadratic_forms.specs.Forms.{put, vectors, tally, count_of, zeros_of}
use Rattle.quadratic_forms.specs.Counts.{count_refusal, answer, count_zeros}
use Rattle.quadratic_forms.specs.Points.{Point, points}

pub every-point : map (λ (p : Point). count_zeros p.rows p.triangle) points ≡ map (λ (p : Point). p.answer) points
unfolding sum all mirrored first_of eq_Z put vectors tally count_of zeros_of count_refusal answer
every-point = refl
