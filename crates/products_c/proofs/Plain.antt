-- Products by a challenge whose rows all stand first, so that nothing is added up, are those by the challenge.
use Rattle.std.proofs.Common.{◌≡◌, ℕ, List, ℤ, pos, refl, ◌∙◌}
use Rattle.matrices.specs.Matrices.{Matrix, product, both_sides}
use Rattle.matrices.specs.Tables.{table, signed}
use Rattle.matrices.specs.Triangles.{mirrored}
use Rattle.matrices.proofs.Matrices.{product_cong, both_sides_cong}
use Rattle.matrices.proofs.Tables.{table_cong}

module _ (n t : ℕ) (F C : Matrix) (same : (i j : ℕ) → F i j ≡ C i j) (X out : List ℤ) where
  pub product-plain : (m : ℕ) → out ≡ table m t (product n (signed n X) F) → out ≡ table m t (product n (signed n X) C)
  product-plain m is =
      is ∙ table_cong (pos 0) m t _ _ (λ i j hi hj. product_cong n (signed n X) (signed n X) F C i j (λ k h. refl) (λ k h. same k j))

  pub gram-plain : out ≡ table t t (both_sides n F (mirrored X)) → out ≡ table t t (both_sides n C (mirrored X))
  gram-plain is =
      is ∙ table_cong (pos 0) t t _ _ (λ i j hi hj.
      both_sides_cong n F C (mirrored X) (mirrored X) i j (λ k h. same k i) (λ k h. same k j) (λ x y hx hy. refl))
