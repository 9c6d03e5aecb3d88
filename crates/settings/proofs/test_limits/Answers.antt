-- `settings::test_limits` meets its contract: each test is document 01's, and the tests come in order.
use mathlib.Core.Path.{◌≡◌, sym, ap, ◌∙◌}
use mathlib.Core.Bool.{not}
use Prim.Native.Nat.{ℕ, ◌+◌, ◌*◌, ◌≤◌, ◌^◌, ◌/◌}
use native.Mathlib.Omega.{arith}
use native.Mathlib.Nat.{mul-le-mul}
use lib.Dec.{leb}
use Rattle.integers.specs.Ranges.{In}
use Rattle.settings.specs.Settings.{Parameters, limits, LOf, k_of, NOf, growth_of, width_of, repunit}
use Rattle.settings.specs.HouseList.{parameters}
use Rattle.settings.proofs.Refusals.{Sizes, Ranges, says_in, says-at-most, says-sizes, refusal-exactly}
use Rattle.settings.proofs.Levels.{L_is, k-high, powers_fit}
use Rattle.settings.proofs.Powers.{repunit-by, repunit-low}
use Rattle.settings.proofs.test_limits.Goals as goal
use Rattle.settings.proofs.test_limits.Goals.{After-grows_within, After-level-k, After-repunit_of, After-wide_within, Else-columns-gt-MAX_COLUMNS, Else-not-grows_within, Else-not-inside, Else-not-inside-2, Else-not-sizes_inside, Start}

-- the five numbers
abbrev five : Start → Parameters
five s = parameters s.args.n s.args.m s.args.t s.args.b s.args.bound

-- the function's start, from the place after each rule
abbrev at1 : Else-not-sizes_inside → Start
at1 c = c.before.before

abbrev at3 : Else-not-inside-2 → Start
at3 c = at1 c.before.before.before.before

abbrev at5 : Else-not-grows_within → Start
at5 c = at3 c.before.before.before.before

-- n, m and t are in range after rule 1, all five numbers after rule 3
sizes : (c : Else-not-sizes_inside) → Sizes limits (five (at1 c))
sizes c = (says-sizes limits (five (at1 c))).passed.0 (ap not (sym c.sizes_inside.ensures) ∙ ap not c.if-not-sizes_inside.false)

base : (c : Else-not-inside) → In limits.b (at1 c.before.before).args.b
base c = (says_in limits.b (at1 c.before.before).args.b).passed.0 (ap not (sym c.inside.ensures) ∙ ap not c.if-not-inside.false)

ranges : (c : Else-not-inside-2) → Ranges limits (five (at3 c))
ranges c =
    let e = c.before.before in
    record {
      sizes = sizes e.before.before;
      b = base e;
      bound = (says_in limits.bound (at3 c).args.bound).passed.0 (ap not (sym c.inside-2.ensures) ∙ ap not c.if-not-inside-2.false);
    }

-- k and N as the code computes them
level-is : (c : After-level-k) → c.level-k.result ≡ LOf (five (at3 c.before))
level-is c =
    let r = ranges c.before in
    L_is (five (at3 c.before)) r.b.0 r.bound.0 r.bound.1 c.level-k.result c.level-k.ensures.0 c.level-k.ensures.1

columns-is : (c : After-level-k) → 2 * (c.level-k.result + 2) * (at3 c.before).args.t ≡ NOf (five (at3 c.before))
columns-is c = ap (λ (l : ℕ). 2 * (l + 2) * (at3 c.before).args.t) (level-is c)

k-small : (c : After-level-k) → c.level-k.result + 2 ≤ 33
k-small c = omega (arith, level-is c, k-high (five (at3 c.before)))

columns : (c : Else-columns-gt-MAX_COLUMNS) → NOf (five (at3 c.before.before)) ≤ 512
columns c = omega (arith, columns-is c.before)

-- growth and width as the code computes them
growth-is : (c : After-grows_within) → c.grows_within.result ≡ leb (growth_of (five (at3 c.before.before.before))) (at3 c.before.before.before).args.bound
growth-is c =
    let a = (at3 c.before.before.before).args in
    c.grows_within.ensures ∙ ap (λ (x : ℕ). leb (x * (a.b / 2) * (x * (a.b / 2)) * a.m) a.bound) (columns-is c.before.before)

growth : (c : Else-not-grows_within) → growth_of (five (at5 c)) ≤ (at5 c).args.bound
growth c = (says-at-most (growth_of (five (at5 c))) (at5 c).args.bound).passed.0 (ap not (sym (growth-is c.before)) ∙ ap not c.if-not-grows_within.false)

repunit-is : (c : After-repunit_of) → c.repunit_of.result ≡ repunit (at5 c.before).args.b (k_of (five (at5 c.before)))
repunit-is c =
    let l = c.before.before.before.before in
    let b = (at5 c.before).args.b in
    repunit-by b (l.level-k.result + 2) c.repunit_of.result (ranges l.before).b.0 c.repunit_of.ensures
    ∙ ap (λ (x : ℕ). repunit b (x + 2)) (level-is l)

width_is : (c : After-wide_within) → c.wide_within.result ≡ leb (width_of (five (at5 c.before.before))) (2 ^ 62)
width_is c =
    let a = (at5 c.before.before).args in
    c.wide_within.ensures ∙ ap (λ (x : ℕ). leb (a.b / 2 * (a.b / 2) * a.m * (x * x)) (2 ^ 62)) (repunit-is c.before)

pub returns-then-not-sizes_inside : goal.returns-then-not-sizes_inside
returns-then-not-sizes_inside c =
    let p = five c.before.before in
    sym ((refusal-exactly p).one.1 ((says-sizes limits p).applies.0 (ap not (sym c.sizes_inside.ensures) ∙ ap not c.if-not-sizes_inside.true)))

pub returns-then-not-inside : goal.returns-then-not-inside
returns-then-not-inside c =
    let p = five (at1 c.before.before) in
    sym ((refusal-exactly p).two.1 (sizes c.before.before, (says_in limits.b p.b).applies.0 (ap not (sym c.inside.ensures) ∙ ap not c.if-not-inside.true)))

pub returns-then-not-inside-2 : goal.returns-then-not-inside-2
returns-then-not-inside-2 c =
    let e = c.before.before in
    let p = five (at1 e.before.before) in
    sym ((refusal-exactly p).three.1 (sizes e.before.before, base e, (says_in limits.bound p.bound).applies.0 (ap not (sym c.inside-2.ensures) ∙ ap not c.if-not-inside-2.true)))

pub level-k-requires : goal.level-k-requires
level-k-requires c = let r = ranges c in (r.b.0, r.b.1, r.bound.0, r.bound.1)

pub overflow_add-k : goal.overflow_add-k
overflow_add-k c = omega (arith, k-small c)

pub overflow_mul-columns : goal.overflow_mul-columns
overflow_mul-columns c = omega (arith, k-small c)

pub overflow_mul-columns-2 : goal.overflow_mul-columns-2
overflow_mul-columns-2 c =
    let two-k : 2 * (c.level-k.result + 2) ≤ 66 = omega (arith, k-small c) in
    omega (arith, mul-le-mul two-k (ranges c.before).sizes.t.1)

pub returns-then-columns-gt-MAX_COLUMNS : goal.returns-then-columns-gt-MAX_COLUMNS
returns-then-columns-gt-MAX_COLUMNS c =
    let p = five (at3 c.before.before) in
    sym ((refusal-exactly p).four.1 (ranges c.before.before, omega (arith, columns-is c.before)))

pub grows_within-requires : goal.grows_within-requires
grows_within-requires c = let r = ranges c.before.before in (c.if-columns-gt-MAX_COLUMNS.false, omega (arith, r.b.1), r.sizes.m.1)

pub returns-then-not-grows_within : goal.returns-then-not-grows_within
returns-then-not-grows_within c =
    let e = c.before.before in
    let p = five (at3 e.before.before) in
    sym ((refusal-exactly p).five.1 (ranges e.before.before, columns e, (says-at-most (growth_of p) p.bound).applies.0 (ap not (sym (growth-is c.before)) ∙ ap not c.if-not-grows_within.true)))

pub repunit_of-requires : goal.repunit_of-requires
repunit_of-requires c =
    let l = c.before.before.before in
    let r = ranges l.before in
    let p = five (at5 c) in
    (r.b.0, k-small l, omega (arith, ap (λ (x : ℕ). p.b ^ (x + 2)) (level-is l), powers_fit p r.b.0 r.bound.0 r.bound.1 r.b.1))

pub wide_within-requires : goal.wide_within-requires
wide_within-requires c =
    let r = ranges c.before.before.before.before.before in (
      omega (arith, r.b.0),
      omega (arith, r.b.1),
      r.sizes.m.0,
      r.sizes.m.1,
      rw (repunit-is c) (repunit-low (at5 c.before).args.b (k_of (five (at5 c.before))) r.b.0 (omega arith)),
    )

pub returns-then-not-wide_within : goal.returns-then-not-wide_within
returns-then-not-wide_within c =
    let e = c.before.before.before in
    let p = five (at5 e) in
    sym ((refusal-exactly p).six.1
    (ranges e.before.before.before.before, columns e.before.before, growth e, (says-at-most (width_of p) (2 ^ 62)).applies.0 (ap not (sym (width_is c.before)) ∙ ap not c.if-not-wide_within.true)))

pub returns : goal.returns
returns c =
    let e = c.before.before.before in
    let p = five (at5 e) in
    sym ((refusal-exactly p).none.1 (record {
      ranges = ranges e.before.before.before.before;
      columns = columns e.before.before;
      growth = growth e;
      width = (says-at-most (width_of p) (2 ^ 62)).passed.0 (ap not (sym (width_is c.before)) ∙ ap not c.if-not-wide_within.false);
    }))
