-- Lists over an index.
use Rattle.std.specs.Prelude.{ℕ, zero, suc, Bool, true, ◌&&◌, List, [], ◌∷◌}

-- f 0, …, f (n − 1)
unfoldable pub build : {A : Type 0} → ℕ → (ℕ → A) → List A
build zero f = []
build (suc n) f = f 0 ∷ build n (λ i. f (suc i))

-- whether every element passes the test
abbrev pub every : {A : Type 0} → (A → Bool) → List A → Bool
every P [] = true
every P (x ∷ xs) = P x && every P xs
