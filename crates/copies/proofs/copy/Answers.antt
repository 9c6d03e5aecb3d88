-- `copies::copy` meets its contract: the first i elements are copied.
use mathlib.Core.Path.{◌≡◌, refl, ◌∙◌}
use mathlib.Core.List.{List, [], ◌∷◌}
use Prim.Native.Nat.{ℕ, ◌<◌}
use native.Mathlib.Omega.{arith}
use lib.ListN.{length, get_or}
use lib.Seq.{ext_get_or}
use Rattle.std.proofs.lemmas.List.{get_or_default}
use Rattle.integers.proofs.Lists.{filled_more}
use Rattle.copies.proofs.copy.Goals as goal

-- lists of one length with the same elements are equal
same : {A : Type 0} (xs ys : List A) → length xs ≡ length ys → ((d : A) (i : ℕ) → i < length ys → get_or xs i d ≡ get_or ys i d) → xs ≡ ys
same [] [] e h = refl
same (x ∷ xs) [] e h = absurd (omega arith)
same xs (y ∷ ys) e h = ext_get_or y xs (y ∷ ys) e (λ i l. h y i (omega arith))

pub loop-i-preserved : goal.loop-i-preserved
loop-i-preserved g c d =
    let a = c.args in
    let l = c.loop-i in
    let read = c.index-from-i in
    filled_more (length a.to.now) (λ i. get_or a.from.now i d) d l.i l.to read.result (omega arith)
    (read.is ∙ get_or_default a.from.now l.i read.result d (omega arith)) (l.invariant d)

pub returns : goal.returns
returns g c =
    let l = c.loop-i in
    same l.to c.args.from.now (omega arith) (λ d i h. (l.invariant d).right i (omega arith))
