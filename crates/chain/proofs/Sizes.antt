-- How large the numbers and the matrices of a small setting are.
use mathlib.Core.Path.{◌≡◌, subst, sym}
use mathlib.Core.Bool.{true, ◌&&◌}
use Prim.Native.Nat.{◌≤◌}
use native.Mathlib.Omega.{arith}
use native.Mathlib.Nat.{mul-le-mul}
use lib.Dec.{T, leb, leb→le}
use Rattle.integers.proofs.Tests.{and_fst, and_snd}
use Rattle.matrices.proofs.Triangles.{triangular_mono}
use Rattle.settings.specs.Settings.{Parameters, k_of, NOf}
use Rattle.lova.specs.Stored.{matrix_A, matrix_T, matrix_S, matrix_D, matrix_V, matrix_S~, matrix_T~, matrix_D~, size_C}
use Rattle.chain.specs.Limits.{small, program_limits, largest}

pub record Sizes (p : Parameters) : Type 0 where
  pub n-high : p.n ≤ 8
  pub m-high : p.m ≤ 16
  pub t-high : p.t ≤ 2
  pub k-high : k_of p ≤ 8
  pub N-high : NOf p ≤ 32
  pub A-high : (matrix_A p).size ≤ (matrix_A largest).size
  pub T-high : (matrix_T p).size ≤ (matrix_T largest).size
  pub D-high : (matrix_D p).size ≤ (matrix_D largest).size
  pub V_high : (matrix_V p).size ≤ (matrix_V largest).size
  pub S-high : (matrix_S p).size ≤ (matrix_S largest).size
  pub T~-high : (matrix_T~ p).size ≤ 256
  pub D~-high : (matrix_D~ p).size ≤ 528
  pub S~-high : (matrix_S~ p).size ≤ 512
  pub C-high : size_C p ≤ 64

by-four : (p : Parameters) → p.n ≤ 8 → p.m ≤ 16 → p.t ≤ 2 → k_of p ≤ 8 → Sizes p
by-four p n m t k =
    let N : NOf p ≤ 32 = mul-le-mul (mul-le-mul {n₁ = 2} {n₂ = 2} (omega arith) k) t in
    record {
      n-high = n;
      m-high = m;
      t-high = t;
      k-high = k;
      N-high = N;
      A-high = mul-le-mul n m;
      T-high = mul-le-mul n t;
      D-high = mul-le-mul t t;
      V_high = mul-le-mul t t;
      S-high = mul-le-mul m t;
      T~-high = mul-le-mul n N;
      D~-high = triangular_mono (NOf p) 32 N;
      S~-high = mul-le-mul m N;
      C-high = mul-le-mul N t;
    }

pub sizes : (p : Parameters) → small program_limits p ≡ true → Sizes p
unfolding small
sizes p e =
    let all : T (leb p.n 8 && leb p.m 16 && leb p.t 2 && leb (k_of p) 8) = subst T (sym e) tt in
    let three = and_fst (leb p.n 8 && leb p.m 16 && leb p.t 2) (leb (k_of p) 8) all in
    let two = and_fst (leb p.n 8 && leb p.m 16) (leb p.t 2) three in
    by-four p
    (leb→le _ _ (and_fst (leb p.n 8) (leb p.m 16) two))
    (leb→le _ _ (and_snd (leb p.n 8) (leb p.m 16) two))
    (leb→le _ _ (and_snd (leb p.n 8 && leb p.m 16) (leb p.t 2) three))
    (leb→le _ _ (and_snd (leb p.n 8 && leb p.m 16 && leb p.t 2) (leb (k_of p) 8) all))
