-- What the two equations compare, by the parts of the joined instance and the message.
use Rattle.std.specs.Prelude.{ℕ, ◌+◌}
use Rattle.matrices.specs.Matrices.{Matrix, product, both_sides}
use Rattle.settings.specs.Settings.{Parameters, HOf}
use Rattle.settings.specs.Accepted.{parameters_in}
use Rattle.lova.specs.Stored.{columns_of, matrix_T, matrix_D, right_T, right_D, sent_V, sent_T~, sent_D~}
use Rattle.lova.specs.Calls.{Fits, Bounded}
use Rattle.lova.specs.Fold.{beside, blocks, gadget}
use Rattle.equations.specs.declared.parts.Parts.{Parts}

-- the columns of the joined matrices
abbrev pub across : Parts → ℕ
across x = x.accepted.now.setting.t + x.right

abbrev pub numbers : Parts → Parameters
numbers x = parameters_in x.accepted.now

-- the parts of T, and T~, have the lengths of their matrices
abbrev pub FitsT : Parts → Type 0
FitsT x =
    Fits (matrix_T (numbers x)) x.first.t.now × Fits (right_T (numbers x) x.profile) x.second.t.now
    × Fits (sent_T~ (numbers x) x.profile) x.message.tt.now

-- so have the parts of D, and D~, whose entries are within H
abbrev pub FitsD : Parts → Type 0
FitsD x =
    Fits (matrix_D (numbers x)) x.first.d.now × Fits (sent_V (numbers x) x.profile) x.message.v.now
    × Fits (right_D (numbers x) x.profile) x.second.d.now × Fits (sent_D~ (numbers x) x.profile) x.message.dd.now
    × Bounded (columns_of (numbers x) x.profile) (columns_of (numbers x) x.profile) (HOf (numbers x))
    ((sent_D~ (numbers x) x.profile).read x.message.dd.now)

-- the joined T and D
abbrev pub joined_T : Parts → Matrix
joined_T x = beside (numbers x).t ((matrix_T (numbers x)).read x.first.t.now) ((right_T (numbers x) x.profile).read x.second.t.now)

abbrev pub joined_D : Parts → Matrix
joined_D x =
    blocks (numbers x).t ((matrix_D (numbers x)).read x.first.d.now) ((sent_V (numbers x) x.profile).read x.message.v.now)
    ((right_D (numbers x) x.profile).read x.second.d.now)

-- T~ G and G-transposed D~ G
abbrev pub summed_T : Parts → Matrix
summed_T x = product (columns_of (numbers x) x.profile) ((sent_T~ (numbers x) x.profile).read x.message.tt.now) (gadget (numbers x))

abbrev pub summed_D : Parts → Matrix
summed_D x = both_sides (columns_of (numbers x) x.profile) (gadget (numbers x)) ((sent_D~ (numbers x) x.profile).read x.message.dd.now)
