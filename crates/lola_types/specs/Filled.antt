-- A specification with its kinds filled in.
use Rattle.std.specs.Prelude.{ℕ, ◌≡◌, List, [], ◌∷◌, ◌||◌, Option, Some, None, drop, slice_get, unwrap_or, Result, Ok, Err}
use Rattle.lola_value.specs.declared.front.FrontEnd.{FrontEnd}
use Rattle.lola_value.specs.declared.front.FrontEnd.TheVariants as front_end
use Rattle.lola_value.specs.declared.value.Kind.{Kind}
use Rattle.lola_value.specs.declared.value.Kind.TheVariants as kind
use Rattle.lola_model.specs.Refusals.{first_of}
use Rattle.lola_model.specs.declared.expr.Place.{Place}
use Rattle.lola_model.specs.declared.expr.Expr.{Expr}
use Rattle.lola_model.specs.declared.expr.Expr.TheVariants.{Literal, Parameter, Read, Window, Defaults', Unary', Both', Choice'}
use Rattle.lola_model.specs.declared.expr.Arguments.{Arguments}
use Rattle.lola_model.specs.declared.expr.Arguments.TheVariants.{End, More'}
use Rattle.lola_model.specs.declared.spec.Formula.{Formula}
use Rattle.lola_model.specs.declared.spec.Formula.TheVariants.{Input, And', Or'}
use Rattle.lola_model.specs.declared.spec.Pace.{Pace}
use Rattle.lola_model.specs.declared.spec.Pace.TheVariants as pace
use Rattle.lola_model.specs.declared.spec.Clause.{Clause}
use Rattle.lola_model.specs.declared.spec.Stream.{Stream}
use Rattle.lola_model.specs.declared.spec.Spec.{Spec}
use Rattle.lola_types.specs.Found.{Setting, found, found_all, joint, literal_part, parameters_at, window_parameters}
use Rattle.lola_types.specs.Refused.{taken, operand_kind, number_kind, with_parameters, kind_refusals}
use Rattle.lola_types.specs.LeftOut.{setting_of, kinds_of}
use Rattle.lola_types.specs.declared.found.Found.{Found}
use Rattle.lola_types.specs.declared.found.Found.TheVariants.{Of, Free, Unknown, Broken}

-- notes a kind
abbrev pub note : Place → Kind → Place
note place k = record { at = place.at; kind = Some k }

-- notes the kind of a part, if it has one of its own
abbrev pub note_part : Place → Found → Place
note_part place (Of k c) = note place k
note_part place Free = place
note_part place Unknown = place
note_part place Broken = place

-- a free part, and the free parts in it, with the kind that it takes
abbrev pub given_kind : Kind → Expr → Expr
given_kind k (Literal place v) = Literal (note place k) v
given_kind k (Parameter place i) = Parameter place i
given_kind k (Read place n how args) = Read place n how args
given_kind k (Window place w args) = Window place w args
given_kind k (Defaults' place u a v b) = Defaults' (note place k) u (given_kind k a) v (given_kind k b)
given_kind k (Unary' place operator u a) = Unary' (note place k) operator u (given_kind k a)
given_kind k (Both' place operator u a v b) = Both' (note place k) operator u (given_kind k a) v (given_kind k b)
given_kind k (Choice' place u t v a w b) = Choice' (note place k) u t v (given_kind k a) w (given_kind k b)

-- an operand, with the kind that it takes, if there is one and it is free
abbrev pub filled_if_free : Option Kind → Found → Expr → Expr
filled_if_free None p e = e
filled_if_free (Some k) (Of l c) e = e
filled_if_free (Some k) Free e = given_kind k e
filled_if_free (Some k) Unknown e = e
filled_if_free (Some k) Broken e = e

module _ (s : Setting) where
  abbrev mutual
    -- an expression with the kinds of all its parts, but those of a free part that nothing in it gives its kind
    pub filled : Expr → Expr
    filled (Literal place v) = Literal (note_part place (found s (Literal place v))) v
    filled (Parameter place i) = Parameter (note_part place (found s (Parameter place i))) i
    filled (Read place n how args) = Read (note_part place (found s (Read place n how args))) n how (filled_all (parameters_at s n) args)
    filled (Window place w args) = Window (note_part place (found s (Window place w args))) w (filled_all (window_parameters s (slice_get s.windows w)) args)
    filled (Defaults' place u a v b) =
        Defaults' (note_part place (found s (Defaults' place u a v b)))
        u (filled_if_free (taken (found s (Defaults' place u a v b))) (found s a) (filled a))
        v (filled_if_free (taken (found s (Defaults' place u a v b))) (found s b) (filled b))
    filled (Unary' place operator u a) =
        Unary' (note_part place (found s (Unary' place operator u a))) operator u (filled_if_free (taken (found s (Unary' place operator u a))) (found s a) (filled a))
    filled (Both' place operator u a v b) =
        Both' (note_part place (found s (Both' place operator u a v b))) operator
        u (filled_if_free (operand_kind operator (found s (Both' place operator u a v b)) (joint (found s a) (found s b))) (found s a) (filled a))
        v (filled_if_free (operand_kind operator (found s (Both' place operator u a v b)) (joint (found s a) (found s b))) (found s b) (filled b))
    filled (Choice' place u t v a w b) =
        Choice' (note_part place (found s (Choice' place u t v a w b))) u (filled t)
        v (filled_if_free (taken (found s (Choice' place u t v a w b))) (found s a) (filled a))
        w (filled_if_free (taken (found s (Choice' place u t v a w b))) (found s b) (filled b))

    -- arguments, which take the kinds of the parameters
    pub filled_all : List Kind → Arguments → Arguments
    filled_all ks End = End
    filled_all ks (More' u a v rest) = More' u (filled_if_free (slice_get ks 0) (found s a) (filled a)) v (filled_all (drop 1 ks) rest)

-- two expressions that differ in the addresses of their boxes alone
abbrev mutual
  pub SameTree : Expr → Expr → Type 0
  SameTree (Literal p v) (Literal q w) = (p ≡ q) × (v ≡ w)
  SameTree (Parameter p i) (Parameter q j) = (p ≡ q) × (i ≡ j)
  SameTree (Read p n how args) (Read q m why brgs) = (p ≡ q) × (n ≡ m) × (how ≡ why) × SameArguments args brgs
  SameTree (Window p n args) (Window q m brgs) = (p ≡ q) × (n ≡ m) × SameArguments args brgs
  SameTree (Defaults' p u a v b) (Defaults' q x c y d) = (p ≡ q) × SameTree a c × SameTree b d
  SameTree (Unary' p s u a) (Unary' q r x c) = (p ≡ q) × (s ≡ r) × SameTree a c
  SameTree (Both' p s u a v b) (Both' q r x c y d) = (p ≡ q) × (s ≡ r) × SameTree a c × SameTree b d
  SameTree (Choice' p u a v b w e) (Choice' q x c y d z f) = (p ≡ q) × SameTree a c × SameTree b d × SameTree e f
  SameTree _ _ = ⊥

  pub SameArguments : Arguments → Arguments → Type 0
  SameArguments End End = Unit {0}
  SameArguments (More' u a v rest) (More' x c y more) = SameTree a c × SameArguments rest more
  SameArguments _ _ = ⊥

-- the same formula, but for its boxes
abbrev pub SameFormula : Formula → Formula → Type 0
SameFormula (Input i) (Input j) = i ≡ j
SameFormula (And' u a v b) (And' x c y d) = SameFormula a c × SameFormula b d
SameFormula (Or' u a v b) (Or' x c y d) = SameFormula a c × SameFormula b d
SameFormula _ _ = ⊥

-- the same pacing
abbrev pub SamePace : Option Pace → Option Pace → Type 0
SamePace None None = Unit {0}
SamePace (Some (pace.Event p f)) (Some (pace.Event q g)) = (p ≡ q) × SameFormula f g
SamePace (Some (pace.Rate p r)) (Some (pace.Rate q t)) = (p ≡ q) × (r ≡ t)
SamePace (Some (pace.Global p r)) (Some (pace.Global q t)) = (p ≡ q) × (r ≡ t)
SamePace (Some (pace.Local p r)) (Some (pace.Local q t)) = (p ≡ q) × (r ≡ t)
SamePace _ _ = ⊥

-- a whole expression that has to be of this kind, with the kinds of all its parts
abbrev pub filled_whole : Setting → Kind → Expr → Expr
filled_whole s want e = filled_if_free (number_kind want) (found s e) (filled s e)

-- a condition, filled in
abbrev pub FilledWhen : Setting → Option Expr → Option Expr → Type 0
FilledWhen s None None = Unit {0}
FilledWhen s (Some e) (Some f) = SameTree (filled_whole s kind.Bool e) f
FilledWhen s _ _ = ⊥

-- expressions that have to be of these kinds, filled in
abbrev pub FilledWith : Setting → List Kind → List Expr → List Expr → Type 0
FilledWith s wants [] [] = Unit {0}
FilledWith s wants (e ∷ es) (f ∷ fs) = SameTree (filled_whole s (unwrap_or (slice_get wants 0) kind.Int64) e) f × FilledWith s (drop 1 wants) es fs
FilledWith s wants _ _ = ⊥

-- a clause, filled in; nothing else of it changes
pub record FilledClause (s : Setting) (wants : List Kind) (c d : Clause) : Type 0 where
  pub place : c.place ≡ d.place
  pub pacing : SamePace c.pace d.pace
  pub condition : FilledWhen s c.when d.when
  pub condition_place : c.when_at ≡ d.when_at
  pub expressions : FilledWith s wants c.with d.with
  pub places : c.with_at ≡ d.with_at

abbrev pub FilledClauses : Setting → List Kind → Option Clause → Option Clause → Type 0
FilledClauses s wants None None = Unit {0}
FilledClauses s wants (Some c) (Some d) = FilledClause s wants c d
FilledClauses s wants _ _ = ⊥

-- a stream of this kind, filled in; nothing else of it changes
pub record FilledStream (s : Setting) (k : Kind) (a b : Stream) : Type 0 where
  pub name : a.name ≡ b.name
  pub place : a.place ≡ b.place
  pub sort : a.sort ≡ b.sort
  pub message : a.message ≡ b.message
  pub kind : b.kind ≡ Some k
  pub parameters : a.parameters ≡ b.parameters
  pub spawn : FilledClauses (with_parameters s []) a.parameters a.spawn b.spawn
  pub eval : FilledClauses (with_parameters s a.parameters) (k ∷ []) a.eval b.eval
  pub close : FilledClauses (with_parameters s a.parameters) [] a.close b.close

-- streams of these kinds, filled in; one whose kind is not found is of Int64
abbrev pub FilledStreams : Setting → List (Option Kind) → List Stream → List Stream → Type 0
FilledStreams s kinds [] [] = Unit {0}
FilledStreams s kinds (a ∷ as') (b ∷ bs) = FilledStream s (unwrap_or (unwrap_or (slice_get kinds 0) None) kind.Int64) a b × FilledStreams s (drop 1 kinds) as' bs
FilledStreams s kinds _ _ = ⊥

-- the second specification is the first with every kind filled in, where its streams are of these kinds
pub record IsFilledBy (spec : Spec) (kinds : List (Option Kind)) (full : Spec) : Type 0 where
  pub streams : FilledStreams (setting_of spec kinds []) kinds spec.streams full.streams
  pub constants : full.constants ≡ spec.constants
  pub windows : full.windows ≡ spec.windows
  pub texts : full.texts ≡ spec.texts
  pub refused : full.refused ≡ spec.refused

-- .. of those that are declared or found
abbrev pub IsFilled : Spec → Spec → Type 0
IsFilled spec full = IsFilledBy spec (kinds_of spec) full

-- what the check of kinds answers
abbrev pub Checked : Spec → Result Spec FrontEnd → Type 0
Checked spec (Ok full) = (kind_refusals spec ≡ []) × IsFilled spec full
Checked spec (Err (front_end.Refused r)) = first_of (kind_refusals spec) ≡ Some r
Checked spec (Err front_end.Memory) = Unit {0}
