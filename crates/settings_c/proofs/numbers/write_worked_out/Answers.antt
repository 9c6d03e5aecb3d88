-- `settings_c::numbers::write_worked_out` meets its contract: two numbers at the head, and the powers in all places behind them.
use mathlib.Core.Path.{◌≡◌, ◌∙◌, ap}
use mathlib.Core.List.{List, [], ◌∷◌, ◌++◌}
use Prim.Native.Nat.{ℕ, ◌-◌}
use native.Mathlib.Omega.{arith}
use lib.ListN.{length, set, take, drop}
use Rattle.std.proofs.lemmas.List.{append-nil, drop_all}
use Rattle.settings_c.proofs.numbers.write_worked_out.Goals as goal

laid : (k N : ℕ) (xs powers : List ℕ) → length xs ≡ 35
    → let ys = set (set xs 0 k) 1 N in take 2 ys ++ (powers ++ drop (length ys - 2) (drop 2 ys)) ≡ k ∷ N ∷ powers
laid k N [] powers h = absurd (omega (arith, h))
laid k N (x ∷ []) powers h = absurd (omega (arith, h))
laid k N (x ∷ y ∷ xs) powers h = ap (λ (zs : List ℕ). k ∷ N ∷ zs) (ap (λ (zs : List ℕ). powers ++ zs) (drop_all _ xs (omega arith)) ∙ append-nil powers)

pub returns : goal.returns
returns c = rw c.copy_from_slice.ensures.after (laid _ _ c.args.out.now c.args.setting.now.powers c.requires.out_len)
