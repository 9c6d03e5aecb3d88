-- The right half of a joined matrix: the columns of the second part, or its one column t times.
use Rattle.std.specs.Prelude.{ℕ, ◌-◌, cond, ltb}
use Rattle.matrices.specs.Matrices.{Matrix}
use Rattle.lova.specs.declared.Profile.{Profile}
use Rattle.lova.specs.declared.Profile.TheVariants.{General, Fresh}

-- the column of the second part that stands in column j there
abbrev pub column_of : Profile → ℕ → ℕ
column_of General j = j
column_of Fresh j = 0

-- a part with its columns so
abbrev pub spread : Profile → Matrix → Matrix
spread f X i j = X i (column_of f j)

-- and with its rows so as well
abbrev pub spread_both : Profile → Matrix → Matrix
spread_both f X i j = X (column_of f i) (column_of f j)

-- [X Y], where X has t columns and those of Y are spread
abbrev pub halves : {A : Type 0} → Profile → ℕ → (ℕ → ℕ → A) → (ℕ → ℕ → A) → ℕ → ℕ → A
halves f t X Y i j = cond (ltb j t) (X i j) (Y i (column_of f (j - t)))
