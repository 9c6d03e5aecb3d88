-- Document 01's points on settings, with the borders of each rule: one table, and one theorem over its rows, by computation.
use mathlib.Core.Path.{◌≡◌}
use mathlib.Core.Bool.{Bool}
use mathlib.Core.List.{List, [], ◌∷◌}
use Prim.Native.Nat.{ℕ, ◌+◌, ◌-◌, ◌^◌, ◌<◌}
use lib.Dec.{T, eqb, eqb→eq}
use lib.ListN.{length, get_or}
use Rattle.integers.specs.Lists.{every}
use Rattle.integers.proofs.Lists.{every-at}
use Rattle.settings.specs.Rules.{first_of}
use Rattle.settings.specs.Settings.{Parameters, greatest, LOf, k_of, h_of, NOf, growth_of, repunit, width_of, setting_refusal}
use Rattle.settings.specs.HouseList.{parameters}

-- a term of document 01 and its value
pub record Claim : Type 0 where
  pub term : Parameters → ℕ
  pub value : ℕ

infix 70 ◌is◌
abbrev ◌is◌ : (Parameters → ℕ) → ℕ → Claim
◌is◌ f x = record { term = f; value = x }

-- a setting and what holds of it
pub record Point : Type 0 where
  pub setting : Parameters
  pub claims : List Claim

infix 60 ◌has◌
abbrev ◌has◌ : Parameters → List Claim → Point
◌has◌ p cs = record { setting = p; claims = cs }

abbrev pub points : List Point
points =
    -- document 01's points
    (parameters 1 1 1 2 100 has (setting_refusal is 0 ∷ k_of is 5 ∷ NOf is 10 ∷ growth_of is 100 ∷ []))
    ∷ (parameters 1 1 1 2 99 has (setting_refusal is 5 ∷ []))
    ∷ (parameters 1 4096 1 2 (4 ^ 24 - 1) has (setting_refusal is 0 ∷ k_of is 25 ∷ []))
    ∷ (parameters 1 4096 1 2 (4 ^ 24) has (setting_refusal is 6 ∷ []))
    ∷ (parameters 1 1 16 2 (4 ^ 15) has (setting_refusal is 4 ∷ []))
    ∷ (parameters 16 256 2 128 268435456 has (growth_of is 268435456 ∷ setting_refusal is 6 ∷ []))
    -- rows 2 to 4 of the house list
    ∷ (parameters 4 16 2 32 1048576 has (setting_refusal is 0 ∷ k_of is 4 ∷ NOf is 16 ∷ growth_of is 1048576 ∷ []))
    ∷ (parameters 8 64 4 128 268435456 has (setting_refusal is 0 ∷ k_of is 4 ∷ NOf is 32 ∷ growth_of is 268435456 ∷ []))
    ∷ (parameters 16 256 1 64 16777216 has (setting_refusal is 0 ∷ k_of is 4 ∷ NOf is 8 ∷ growth_of is 16777216 ∷ []))
    -- L and h: B below b² and at b², an odd b
    ∷ (parameters 1 1 1 3 8 has (LOf is 0 ∷ k_of is 2 ∷ h_of is 1 ∷ []))
    ∷ (parameters 1 1 1 3 9 has (LOf is 1 ∷ k_of is 3 ∷ []))
    -- the borders of n, m and t
    ∷ (parameters 0 1 1 2 100 has (setting_refusal is 1 ∷ []))
    ∷ (parameters 64 1 1 2 100 has (setting_refusal is 0 ∷ []))
    ∷ (parameters 65 1 1 2 100 has (setting_refusal is 1 ∷ []))
    ∷ (parameters (2 ^ 64 - 1) 1 1 2 100 has (setting_refusal is 1 ∷ []))
    ∷ (parameters 1 0 1 2 100 has (setting_refusal is 1 ∷ []))
    ∷ (parameters 1 4097 1 2 (4 ^ 24 - 1) has (setting_refusal is 1 ∷ []))
    ∷ (parameters 1 1 0 2 100 has (setting_refusal is 1 ∷ []))
    ∷ (parameters 1 1 16 2 (4 ^ 15 - 1) has (setting_refusal is 0 ∷ NOf is 512 ∷ []))
    ∷ (parameters 1 1 17 2 (4 ^ 15 - 1) has (setting_refusal is 1 ∷ []))
    -- those of b
    ∷ (parameters 1 1 1 0 100 has (setting_refusal is 2 ∷ []))
    ∷ (parameters 1 1 1 1 100 has (setting_refusal is 2 ∷ []))
    ∷ (parameters 1 1 1 65535 (2 ^ 62) has (setting_refusal is 6 ∷ []))
    ∷ (parameters 1 1 1 65536 (2 ^ 62) has (setting_refusal is 2 ∷ []))
    -- those of B
    ∷ (parameters 1 1 1 2 0 has (setting_refusal is 3 ∷ []))
    ∷ (parameters 1 1 1 2 1 has (setting_refusal is 5 ∷ []))
    ∷ (parameters 1 1 1 2 (2 ^ 62) has (setting_refusal is 6 ∷ k_of is 33 ∷ []))
    ∷ (parameters 1 1 1 2 (2 ^ 62 + 1) has (setting_refusal is 3 ∷ []))
    -- a width of 134 bits
    ∷ (parameters 1 4096 1 46340 (2 ^ 62) has (setting_refusal is 6 ∷ width_of is 21775439853070861949361590757137698406400 ∷ []))
    -- the first that applies, of 1, 2 and 3; of 2 and 3; of 3, 4 and 6; of 4 and 5; of 5 and 6
    ∷ (parameters 0 1 1 0 0 has (setting_refusal is 1 ∷ []))
    ∷ (parameters 1 1 1 0 0 has (setting_refusal is 2 ∷ []))
    ∷ (parameters 1 1 16 2 (2 ^ 62 + 1) has (setting_refusal is 3 ∷ []))
    ∷ (parameters 1 4096 16 2 (4 ^ 15) has (setting_refusal is 4 ∷ []))
    ∷ (parameters 1 4096 1 65535 1 has (setting_refusal is 5 ∷ []))
    ∷ []

abbrev holds : Point → Bool
holds p = every (λ (c : Claim). eqb (c.term p.setting) c.value) p.claims

all_hold : T (every holds points)
unfolding setting_refusal first_of LOf greatest repunit
all_hold = tt

-- beyond the ends of the table and of a row
abbrev pub no_claim : Claim
no_claim = LOf is 0

abbrev pub no_point : Point
no_point = parameters 0 0 0 0 0 has []

-- every claim of every row holds
pub points_hold : (i : ℕ) → i < length points → (j : ℕ) → j < length (get_or points i no_point).claims
    → (get_or (get_or points i no_point).claims j no_claim).term (get_or points i no_point).setting ≡ (get_or (get_or points i no_point).claims j no_claim).value
points_hold i h j l =
    let p = get_or points i no_point in
    eqb→eq _ _ (every-at (λ (c : Claim). eqb (c.term p.setting) c.value) no_claim p.claims (every-at holds no_point points all_hold i h) j l)
