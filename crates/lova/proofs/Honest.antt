-- Every honest tree of folds: no call is refused, every verdict is yes, and the root is the plain tree's.
use mathlib.Core.Path.{◌≡◌, refl, sym, ◌∙◌, ap, ap₂}
use mathlib.Core.Bool.{Bool, true, false}
use mathlib.Core.List.{List}
use Prim.Native.Nat.{ℕ, ◌+◌, ◌≤◌}
use native.Mathlib.Omega.{arith}
use lib.Dec.{T, le→leb}
use lib.IntN.{ℤ, pos}
use lib.ListN.{replicate, length-replicate}
use Rattle.integers.specs.Residues.{word}
use Rattle.matrices.proofs.Bounds.{gram-diagonal}
use Rattle.settings.specs.Rules.{first_of}
use Rattle.settings.specs.Settings.{Parameters, setting_refusal}
use Rattle.settings.proofs.Accepted.{Accepted, accepted}
use Rattle.lova.specs.Answers.{after_setting, done, «yes», Outcome, ends}
use Rattle.lova.specs.declared.Profile.{Profile}
use Rattle.lova.specs.declared.Profile.TheVariants.{General, Fresh}
use Rattle.lova.specs.Stored.{Instance, Counted, counted, most_leaves, Prepared, matrix_A, matrix_T, matrix_S, matrix_D, matrix_S~, right_S, right_T, right_D, sent_V, sent_S~, sent_T~, sent_D~, joined_T, joined_D}
use Rattle.lova.specs.Calls.{CountsJoin, JoinLengths, VerdictLengths, Fits, FitsInstance, FitsRight, FitsC, Short, ShortRight, Ternary, DiagonalWithin}
use Rattle.lova.specs.Fold.{beside_S, digit_witness}
use Rattle.lova.specs.Repeats.{repeated_S, repeated_counted, Matrices, meant}
use Rattle.lova.specs.Commit.{commit_in, instance_in, instance_of}
use Rattle.lova.specs.Relation.{Related}
use Rattle.lova.specs.Join.{join_in, joined_instance}
use Rattle.lova.specs.Message.{message_in, message, prepared_in, prepared_of}
use Rattle.lova.specs.Verdict.{verdict_as, verdict_in, judged, verdict, verdict_rules, verdict_by, diagonals_hold, first_holds, second_holds, folded_instance}
use Rattle.lova.specs.Witness.{witness_in, witness, folded_witness}
use Rattle.lova.specs.Trees.{Tree, leaf, fold, fold_fresh, plain, leaves_of, Proper, Before, Held, FitsBefore, HeldFits, left_witness, seen, prepares, prepares_fresh, view_of, join_of, FoldAccepted, FoldBeyond, AllAccepted, Honest}
use Rattle.lova.proofs.Tests.{equal_iff, equal-words_iff, diagonals_iff}
use Rattle.lova.proofs.Refusals.{ends_so, done-ended, refused-by, commit-proper, join-proper, join_15, message-proper, verdict-proper, verdict_15, witness-proper}
use Rattle.lova.proofs.Exact.{verdict-ended}
use Rattle.lova.proofs.Judged.{judged-same}
use Rattle.lova.proofs.BothProfiles.{right-fits, sent-fits, instance_repeats, message_means, V_repeats, witness_repeats, sent-S~-bounded, sent-D~-bounded, repeated-short}
use Rattle.lova.proofs.OneFold.{word-word, instance-fits, T-entry, D-entry, join_is, witness-is, witness-fits, instance-is, witness-short, norm-holds, commitment-holds}

-- a tree has a leaf
leaves-low : (t : Tree) → 1 ≤ leaves_of t
unfolding leaves_of
leaves-low (leaf S) = omega arith
leaves-low (fold left right C) = omega (arith, leaves-low left)
leaves-low (fold_fresh left v C) = omega arith

module _ (p : Parameters) (A : List ℕ) (ok : setting_refusal p ≡ 0) (size_A : Fits (matrix_A p) A) where
  acc : Accepted p
  acc = accepted p ok

  -- the diagonal of a short witness's products is within B
  diagonal-own : (S : List ℤ) → Short p S → DiagonalWithin p (instance_of p A S).D
  diagonal-own S short i hi = rw (D-entry p A S i i hi hi, gram-diagonal p.m ((matrix_S p).read S) i) (record { le = le→leb _ _ (short i hi) })

  -- the calls of a leaf and of a fold
  commit-ends : (f : Profile) (S : List ℤ) (out : Instance) → Fits (right_S p f) S → ShortRight p f S → FitsRight p f out → commit_in p f A S out ≡ ends done (counted (instance_in p f A S) 1)
  unfolding commit_in
  commit-ends f S out size short fits = ends_so (counted out 0) _ _ ((commit-proper p f A S out).1 (record { setting = ok; lengths = (size_A, size, fits); columns = short }))

  -- what a fold is given: two short witnesses, a challenge and lent outputs
  pub record Given (f : Profile) (S₁ S₂ : List ℤ) (C : List ℕ) (before : Before) : Type 0 where
    pub size₁ : Fits (matrix_S p) S₁
    pub size₂ : Fits (right_S p f) S₂
    pub short₁ : Short p S₁
    pub short₂ : ShortRight p f S₂
    pub size_C : FitsC p C
    pub ternary : Ternary p C
    pub fits : FitsBefore p f before

  module _ (f : Profile) (S₁ S₂ : List ℤ) (n₁ n₂ : ℕ) (C : List ℕ) (before : Before) (g : Given f S₁ S₂ C before) where
    -- the second witness as the plain tree has it, and its instance
    abbrev R₂ : List ℤ
    R₂ = repeated_S p f S₂

    abbrev I₁ : Instance
    I₁ = instance_of p A S₁

    abbrev I₂ : Instance
    I₂ = instance_in p f A S₂

    abbrev J₁ : Counted
    J₁ = counted I₁ n₁

    abbrev J₂ : Counted
    J₂ = counted I₂ n₂

    abbrev said : Prepared
    said = prepared_in p f A S₁ S₂

    abbrev S' : List ℤ
    S' = folded_witness p (digit_witness p (beside_S p S₁ R₂)) C

    short_R : Short p R₂
    short_R = repeated-short p acc f S₂ g.short₂

    message-ends : message_in p f A S₁ S₂ before.message ≡ ends done said
    unfolding message_in
    message-ends = ends_so before.message _ _ ((message-proper p f A S₁ S₂ before.message).1 (record { setting = ok; lengths = (size_A, g.size₁, g.size₂, g.fits.0); columns = (g.short₁, g.short₂) }))

    witness-ends : witness_in p f said.S~ C before.witness ≡ ends done S'
    unfolding witness_in
    witness-ends =
        ends_so before.witness _ _ ((witness-proper p f said.S~ C before.witness).1
        (record { setting = ok; lengths = ((sent-fits p A f S₁ S₂).1, g.size_C, g.fits.3); bytes = g.ternary; entries = sent-S~-bounded p A f S₁ S₂ acc }))
        ∙ ap (λ (x : List ℤ). ends done (folded_witness p ((matrix_S~ p).read x) C)) (witness_repeats p A f S₁ S₂)
        ∙ ap (λ (x : List ℤ). ends done x) (witness-is p A S₁ R₂ C)

    join-lengths : JoinLengths p f I₁ I₂ said.message.«V» before.join
    join-lengths = (instance-fits p A S₁, right-fits p A f S₂, (sent-fits p A f S₁ S₂).0.0, g.fits.1)

    verdict-lengths : VerdictLengths p f I₁ I₂ said.message C before.verdict
    verdict-lengths = (instance-fits p A S₁, right-fits p A f S₂, (sent-fits p A f S₁ S₂).0, g.size_C, g.fits.2)

    -- counts that cannot be joined: join and verdict are refused with 15, and nothing else is
    pub too_many : (CountsJoin n₁ n₂ → ⊥) → FoldBeyond p f A J₁ J₂ S₁ S₂ C before said
    unfolding join_in verdict_in verdict_as
    too_many beyond = record {
      messages = ap (λ (o : Outcome Prepared). o.answer) message-ends;
      joins = (refused-by (counted before.join 0) _ done-ended _ 15 (λ z. omega arith)).1 ((join_15 p f J₁ J₂ said.message.«V» before.join).1 (ok, join-lengths, beyond));
      judges = (refused-by (counted before.verdict 0) _ (verdict-ended p f J₁ J₂ said.message C before.verdict) _ 15 (λ z. omega arith)).1
          ((verdict_15 p f J₁ J₂ said.message C before.verdict).1 (ok, verdict-lengths, beyond));
      folds = ap (λ (o : Outcome (List ℤ)). o.answer) witness-ends;
    }

    module _ (counts : CountsJoin n₁ n₂) where
      join-ends : join_in p f J₁ J₂ said.message.«V» before.join ≡ ends done (counted (join_of p A S₁ R₂) (n₁ + n₂))
      unfolding join_in
      join-ends =
          ends_so (counted before.join 0) _ _ ((join-proper p f J₁ J₂ said.message.«V» before.join).1
          (record { setting = ok; lengths = join-lengths; counts = counts }))
          ∙ ap₂ (λ (I : Instance) («V» : List ℤ). ends done (counted (joined_instance p I₁ I «V») (n₁ + n₂))) (instance_repeats p A f S₂) (V_repeats p A f S₁ S₂)
          ∙ ap (λ (x : Instance). ends done (counted x (n₁ + n₂))) (join_is p A S₁ R₂)

      verdict_proceeds : first_of (after_setting p (verdict_rules p f J₁ J₂ said.message C before.verdict)) ≡ 0
      verdict_proceeds = (verdict-proper p f J₁ J₂ said.message C before.verdict).1 (record {
        setting = ok;
        lengths = verdict-lengths;
        counts = counts;
        bytes = g.ternary;
        entries = sent-D~-bounded p A f S₁ S₂ acc;
      })

      yes_by : (within first second : Bool) (x y : Counted) → T within → T first → T second → verdict_by within first second x y ≡ ends «yes» y
      unfolding verdict_by
      yes_by true true true x y w f s = refl
      yes_by true true false x y w f s = absurd s
      yes_by true false second x y w f s = absurd f
      yes_by false first second x y w f s = absurd w

      -- what is judged is the general message of S1 and of the second witness, repeated
      abbrev X : Matrices
      X = meant p General (prepared_of p A S₁ R₂).message

      judged_general : judged p J₁ (repeated_counted p f J₂) (meant p f said.message) C before.verdict ≡ judged p J₁ (counted (instance_of p A R₂) n₂) X C before.verdict
      judged_general =
          sym (judged-same p X (meant p f said.message) (message_means p A f S₁ S₂) J₁ (repeated_counted p f J₂) C before.verdict)
          ∙ ap (λ (I : Instance). judged p J₁ (counted I n₂) X C before.verdict) (instance_repeats p A f S₂)

      -- the diagonals of two honest instances are within B
      within : T (diagonals_hold p I₁ (instance_of p A R₂))
      within = (diagonals_iff p I₁ (instance_of p A R₂)).1 (diagonal-own S₁ g.short₁, diagonal-own R₂ short_R)

      general_yes : judged p J₁ (counted (instance_of p A R₂) n₂) X C before.verdict ≡ ends «yes» (counted (instance_of p A S') (n₁ + n₂))
      unfolding judged first_holds second_holds
      general_yes =
          yes_by _ _ _ (counted before.verdict 0) (counted (folded_instance p X C) (n₁ + n₂)) within
          ((equal_iff _ _ _ _).1 (norm-holds p A S₁ R₂ acc g.short₁ short_R)) ((equal-words_iff _ _ _ _).1 (commitment-holds p A S₁ R₂ acc g.short₁ short_R))
          ∙ ap (λ (x : Instance). ends «yes» (counted x (n₁ + n₂))) (instance-is p A S₁ R₂ C)

      verdict-ends : verdict_in p f J₁ J₂ said.message C before.verdict ≡ ends «yes» (counted (instance_of p A S') (n₁ + n₂))
      unfolding verdict_in verdict_as
      verdict-ends = ends_so (counted before.verdict 0) _ _ verdict_proceeds ∙ judged_general ∙ general_yes

      -- the four calls together
      fold-accepts : FoldAccepted p f A J₁ J₂ S₁ S₂ C before said
      fold-accepts = record {
        messages = ap (λ (o : Outcome Prepared). o.answer) message-ends;
        joins = ap (λ (o : Outcome Counted). o.answer) join-ends;
        joined = ap (λ (o : Outcome Counted). o.outputs) join-ends;
        agrees = ap (λ (o : Outcome Counted). o.answer) verdict-ends;
        folds = ap (λ (o : Outcome (List ℤ)). o.answer) witness-ends;
      }

  -- ---- the induction over the tree

  record Inside (t : Tree) (held : Held t) : Type 0 where
    calls : AllAccepted p A t held
    root : left_witness p A t held ≡ plain p t
    view : seen p (view_of p A t held) ≡ counted (instance_of p A (plain p t)) (leaves_of t)
    size : Fits (matrix_S p) (plain p t)
    short : Short p (plain p t)

  inside-leaf : (S : List ℤ) (out : Instance) → Fits (matrix_S p) S → Short p S → FitsInstance p out → Inside (leaf S) out
  unfolding AllAccepted left_witness plain leaves_of view_of seen
  inside-leaf S out size short fits =
      let e = commit-ends General S out size short fits in
      record { calls = ap (λ (o : Outcome Counted). o.answer) e; root = refl; view = ap (λ (o : Outcome Counted). o.outputs) e; size = size; short = short }

  -- a fold's calls, where what they are given is what the plain tree made
  fold-calls : (f : Profile) (S₁ S₂ : List ℤ) (n₁ n₂ : ℕ) (X₁ X₂ : List ℤ) (J₁ J₂ : Counted) (C : List ℕ) (before : Before) (given : Prepared)
      → X₁ ≡ S₁ → X₂ ≡ S₂ → J₁ ≡ counted (instance_of p A S₁) n₁ → J₂ ≡ counted (instance_in p f A S₂) n₂ → given ≡ prepared_in p f A S₁ S₂
      → FoldAccepted p f A (counted (instance_of p A S₁) n₁) (counted (instance_in p f A S₂) n₂) S₁ S₂ C before (prepared_in p f A S₁ S₂) → FoldAccepted p f A J₁ J₂ X₁ X₂ C before given
  fold-calls f S₁ S₂ n₁ n₂ X₁ X₂ J₁ J₂ C before given a b c d e g = rw (a, b, c, d, e) g

  inside-fold : (left right : Tree) (C : List ℕ) (h₁ : Held left) (h₂ : Held right) (before : Before) → Inside left h₁ → Inside right h₂
      → Given General (plain p left) (plain p right) C before → CountsJoin (leaves_of left) (leaves_of right) → Inside (fold left right C) (h₁, h₂, before)
  unfolding AllAccepted left_witness plain leaves_of view_of seen prepares
  inside-fold left right C h₁ h₂ before l r g counts =
      let S₁ = plain p left in
      let S₂ = plain p right in
      let n₁ = leaves_of left in
      let n₂ = leaves_of right in
      let m = message-ends General S₁ S₂ n₁ n₂ C before g in
      let v = verdict-ends General S₁ S₂ n₁ n₂ C before g counts in
      let w = witness-ends General S₁ S₂ n₁ n₂ C before g in
      let prepared : (message p A (left_witness p A left h₁) (left_witness p A right h₂) before.message).outputs ≡ prepared_of p A S₁ S₂ =
      ap₂ (λ (x y : List ℤ). (message p A x y before.message).outputs) l.root r.root ∙ ap (λ (o : Outcome Prepared). o.outputs) m in
      record {
        calls = (l.calls, r.calls, fold-calls General S₁ S₂ n₁ n₂ _ _ _ _ C before _ l.root r.root l.view r.view prepared (fold-accepts General S₁ S₂ n₁ n₂ C before g counts));
        root = ap (λ (x : Prepared). (witness p x.S~ C before.witness).outputs) prepared ∙ ap (λ (o : Outcome (List ℤ)). o.outputs) w;
        view = ap (λ (x : Prepared). (verdict p (seen p (view_of p A left h₁)) (seen p (view_of p A right h₂)) x.message C before.verdict).outputs) prepared
            ∙ ap₂ (λ (x y : Counted). (verdict p x y (prepared_of p A S₁ S₂).message C before.verdict).outputs) l.view r.view
            ∙ ap (λ (o : Outcome Counted). o.outputs) v;
        size = witness-fits p A S₁ S₂ C;
        short = witness-short p A S₁ S₂ acc C;
      }

  inside_fresh : (left : Tree) (u : List ℤ) (C : List ℕ) (h₁ : Held left) (out : Instance) (before : Before) → Inside left h₁ → FitsRight p Fresh out
      → Given Fresh (plain p left) u C before → CountsJoin (leaves_of left) 1 → Inside (fold_fresh left u C) (h₁, out, before)
  unfolding AllAccepted left_witness plain leaves_of view_of seen prepares_fresh
  inside_fresh left u C h₁ out before l fitsOut g counts =
      let S₁ = plain p left in
      let n₁ = leaves_of left in
      let c = commit-ends Fresh u out g.size₂ g.short₂ fitsOut in
      let made : (commit_in p Fresh A u out).outputs ≡ counted (instance_in p Fresh A u) 1 = ap (λ (o : Outcome Counted). o.outputs) c in
      let m = message-ends Fresh S₁ u n₁ 1 C before g in
      let v = verdict-ends Fresh S₁ u n₁ 1 C before g counts in
      let w = witness-ends Fresh S₁ u n₁ 1 C before g in
      let prepared : (message_in p Fresh A (left_witness p A left h₁) u before.message).outputs ≡ prepared_in p Fresh A S₁ u =
      ap (λ (x : List ℤ). (message_in p Fresh A x u before.message).outputs) l.root ∙ ap (λ (o : Outcome Prepared). o.outputs) m in
      record {
        calls = (
          l.calls,
          ap (λ (o : Outcome Counted). o.answer) c,
          fold-calls Fresh S₁ u n₁ 1 _ _ _ _ C before _ l.root refl l.view made prepared (fold-accepts Fresh S₁ u n₁ 1 C before g counts),
        );
        root = ap (λ (x : Prepared). (witness_in p Fresh x.S~ C before.witness).outputs) prepared ∙ ap (λ (o : Outcome (List ℤ)). o.outputs) w;
        view = ap (λ (x : Prepared). (verdict_in p Fresh (seen p (view_of p A left h₁)) (commit_in p Fresh A u out).outputs x.message C before.verdict).outputs) prepared
            ∙ ap₂ (λ (x y : Counted). (verdict_in p Fresh x y (prepared_in p Fresh A S₁ u).message C before.verdict).outputs) l.view made
            ∙ ap (λ (o : Outcome Counted). o.outputs) v;
        size = witness-fits p A S₁ (repeated_S p Fresh u) C;
        short = witness-short p A S₁ (repeated_S p Fresh u) acc C;
      }

  inside : (t : Tree) (held : Held t) → Proper p t → leaves_of t ≤ most_leaves → HeldFits p t held → Inside t held
  unfolding Proper HeldFits leaves_of
  inside (leaf S) out proper few fits = inside-leaf S out proper.0 proper.1 fits
  inside (fold left right C) held proper few fits =
      let l = inside left held.0 proper.0 (omega (arith, few)) fits.0 in
      let r = inside right held.1 proper.1 (omega (arith, few)) fits.1 in
      inside-fold left right C held.0 held.1 held.2 l r (record {
        size₁ = l.size;
        size₂ = r.size;
        short₁ = l.short;
        short₂ = r.short;
        size_C = proper.2.0;
        ternary = proper.2.1;
        fits = fits.2;
      }) (leaves-low left, leaves-low right, few)
  inside (fold_fresh left u C) held proper few fits =
      let l = inside left held.0 proper.0 (omega (arith, few)) fits.0 in
      inside_fresh left u C held.0 held.1 held.2 l fits.1 (record {
        size₁ = l.size;
        size₂ = proper.1.0;
        short₁ = l.short;
        short₂ = proper.1.1;
        size_C = proper.2.0;
        ternary = proper.2.1;
        fits = fits.2;
      }) (leaves-low left, omega arith, few)

  -- a short witness is in relation (1) with its own instance
  pub related-own : (S : List ℤ) → Short p S → Related p A (instance_of p A S) S
  related-own S short = record {
    commitment = λ i j hi hj. sym (ap word (T-entry p A S i j hi hj) ∙ word-word _);
    products = λ i j hi hj. D-entry p A S i j hi hj;
    norm = diagonal-own S short;
  }

  honest-inside : (t : Tree) (held : Held t) → Inside t held → Honest p A t held
  honest-inside t held i = record {
    accepted = i.calls;
    witness = i.root;
    verifier = i.view;
    related = rw i.view (related-own (plain p t) i.short);
    columns = i.short;
  }

  pub honest : (t : Tree) (held : Held t) → Proper p t → leaves_of t ≤ most_leaves → HeldFits p t held → Honest p A t held
  honest t held proper few fits = honest-inside t held (inside t held proper few fits)

-- outputs of the stated lengths, all zero
zero_instance : (rows : ℕ) (cells : ℕ) → Instance
zero_instance rows cells = record { T = replicate rows 0; D = replicate cells (pos 0) }

-- of a fold's four calls
zero_before : Parameters → Profile → Before
zero_before p f = record {
  message = record { message = record { «V» = replicate (sent_V p f).size (pos 0); T~ = replicate (sent_T~ p f).size 0; D~ = replicate (sent_D~ p f).size (pos 0) }; S~ = replicate (sent_S~ p f).size (pos 0) };
  join = zero_instance (joined_T p).size (joined_D p).size;
  verdict = zero_instance (matrix_T p).size (matrix_D p).size;
  witness = replicate (matrix_S p).size (pos 0);
}

zero-fits : (p : Parameters) (f : Profile) → FitsBefore p f (zero_before p f)
unfolding zero_before zero_instance
zero-fits p f = (
  ((length-replicate _ (pos 0), length-replicate _ 0, length-replicate _ (pos 0)), length-replicate _ (pos 0)),
  (length-replicate _ 0, length-replicate _ (pos 0)),
  (length-replicate _ 0, length-replicate _ (pos 0)),
  length-replicate _ (pos 0),
)

pub lent : (p : Parameters) (t : Tree) → (held : Held t) × HeldFits p t held
unfolding HeldFits zero_instance
lent p (leaf S) = (zero_instance (matrix_T p).size (matrix_D p).size, (length-replicate _ 0, length-replicate _ (pos 0)))
lent p (fold left right C) =
    let l = lent p left in
    let r = lent p right in
    ((l.0, r.0, zero_before p General), (l.1, r.1, zero-fits p General))
lent p (fold_fresh left v C) =
    let l = lent p left in
    ((l.0, zero_instance (right_T p Fresh).size (right_D p Fresh).size, zero_before p Fresh), (l.1, (length-replicate _ 0, length-replicate _ (pos 0)), zero-fits p Fresh))
