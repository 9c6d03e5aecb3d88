-- `verdicts::write_folded` meets its contract: what the fold by the challenge asks, and what it leaves.
use native.Mathlib.Omega.{arith}
use Rattle.lova.proofs.Rebuilding.{rebuilt-accepted, rebuilt-is}
use Rattle.lova.proofs.Widths.{wide_high, left-few, parts_are, copies_are, copies_some, copies_few}
use Rattle.verdicts.proofs.Verifying.{small-enough, T-folded, D-folded}
use Rattle.verdicts.proofs.write_folded.Goals as goal

pub overflow_mul-challenge : goal.overflow_mul-challenge
overflow_mul-challenge c =
    let s = c in
    omega (arith, left-few s.args.accepted.now.setting (rebuilt-is s.args.accepted.now) s.args.profile)

pub overflow_mul-challenge-2 : goal.overflow_mul-challenge-2
overflow_mul-challenge-2 c =
    let s = c in
    let a = s.args in
    omega (arith, parts_are a.accepted.now.setting (rebuilt-is s.args.accepted.now) a.profile c.right.result c.right.ensures, wide_high a.accepted.now.setting (rebuilt-is s.args.accepted.now) a.profile)

pub invariant_of-challenge : goal.invariant_of-challenge
invariant_of-challenge c =
    let a = c.args in
    let s = a.accepted.now.setting in
    let r = rebuilt-is a.accepted.now in
    record {
      whole = rw (copies_are s r a.profile c.right.result c.right.ensures c.copies.result c.copies.ensures) c.requires.fits.2;
      some = copies_some s r a.profile c.right.result c.right.ensures c.copies.result c.copies.ensures;
      few = copies_few s r a.profile c.right.result c.right.ensures c.copies.result c.copies.ensures;
    }

pub fold_instance-requires : goal.fold_instance-requires
fold_instance-requires c =
    let a = c.args in
    let s = a.accepted.now.setting in
    let r = rebuilt-is a.accepted.now in
    let l = c.requires.fits in
    let wide = parts_are s r a.profile c.right.result c.right.ensures in (
      rw wide l.0,
      rw wide l.1,
      small-enough s r a.profile a.message.dd.now l.1 c.requires.bounded,
      rw wide (wide_high s r a.profile),
      (rebuilt-accepted s r).t-high,
      l.3,
      l.4,
    )

pub returns : goal.returns
returns c =
    let a = c.args in
    let s = a.accepted.now.setting in
    let r = rebuilt-is a.accepted.now in
    let folded = c.fold_instance.ensures in
    record {
      t_after = T-folded s r a.profile c.right.result c.right.ensures c.copies.result c.copies.ensures a.c.now a.message.tt.now _ folded.t_after;
      d_after = D-folded s r a.profile c.right.result c.right.ensures c.copies.result c.copies.ensures a.c.now a.message.dd.now _ folded.d_after;
    }
