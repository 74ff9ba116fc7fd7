-- Clauses and streams whose names are resolved.
use Rattle.std.specs.Prelude.{ℕ, ◌≡◌, List, [], ◌∷◌, ◌++◌, Option, Some, None, map, codes, decimal}
use Rattle.lola_value.specs.declared.value.Kind.{Kind}
use Rattle.lola_value.specs.declared.value.Kind.TheVariants as kind
use Rattle.lola_parser_grammar.specs.declared.literals.Name.{Name}
use Rattle.lola_parser_grammar.specs.declared.literals.Typed.{Typed}
use Rattle.lola_parser_grammar.specs.declared.literals.Quantity.{Quantity}
use Rattle.lola_parser_grammar.specs.declared.pacing.Formula.{Formula as TreeFormula, more_of-Formula, end_of-Formula}
use Rattle.lola_parser_grammar.specs.declared.pacing.Formula.TheVariants as f
use Rattle.lola_parser_grammar.specs.declared.pacing.Rhythm.{Rhythm}
use Rattle.lola_parser_grammar.specs.declared.pacing.Rhythm.TheVariants as r
use Rattle.lola_parser_grammar.specs.declared.pacing.Pacing.{Pacing}
use Rattle.lola_parser_grammar.specs.declared.clauses.Part.{Part as TreePart}
use Rattle.lola_parser_grammar.specs.declared.clauses.Spawn.{Spawn}
use Rattle.lola_parser_grammar.specs.declared.clauses.Eval.{Eval}
use Rattle.lola_parser_grammar.specs.declared.clauses.Close.{Close}
use Rattle.lola_parser_grammar.specs.declared.declarations.Declaration.{Declaration}
use Rattle.lola_parser_grammar.specs.declared.declarations.Output.{Output}
use Rattle.lola_parser_grammar.specs.declared.declarations.Trigger.{Trigger}
use Rattle.lola_model.specs.declared.expr.Expr.{Expr}
use Rattle.lola_model.specs.declared.spec.Formula.{Formula}
use Rattle.lola_model.specs.declared.spec.Formula.TheVariants.{Input, And', Or'}
use Rattle.lola_model.specs.declared.spec.WrittenRate.{WrittenRate}
use Rattle.lola_model.specs.declared.spec.Pace.{Pace}
use Rattle.lola_model.specs.declared.spec.Pace.TheVariants as pace
use Rattle.lola_model.specs.declared.spec.Part.TheVariants as part
use Rattle.lola_model.specs.declared.spec.Clause.{Clause}
use Rattle.lola_model.specs.declared.spec.Sort.TheVariants as sort
use Rattle.lola_model.specs.declared.spec.Stream.{Stream}
use Rattle.lola_model.specs.declared.spec.WindowSpec.{WindowSpec}
use Rattle.lola_names_refused.specs.Quantities.{fraction_of, IsWrittenAs}
use Rattle.lola_names_refused.specs.Table.{meaning_in}
use Rattle.lola_names.specs.Targets.{Targets, parameter_targets}
use Rattle.lola_names.specs.Resolved.{Standing, IsResolved, kind_spelled}
use Rattle.lola_names.specs.declared.targets.Target.{Target}
use Rattle.lola_names.specs.declared.targets.Target.TheVariants as target

-- a quantity, as a rate
abbrev pub IsRateOf : Quantity → WrittenRate → Type 0
IsRateOf q w = IsWrittenAs (fraction_of q).num (fraction_of q).den w

-- the input that a name stands for; one that names none, which is refused, stands for the first
abbrev pub input_of : Option Target → ℕ
input_of (Some (target.Input s i)) = i
input_of _ = 0

abbrev pub IsFormula : Targets → TreeFormula → Formula → Type 0
IsFormula targets (f.Input n) (Input i) = i ≡ input_of (meaning_in targets n.text)
IsFormula targets (f.Both' at h (more_of-Formula x end_of-Formula) i (more_of-Formula y end_of-Formula)) (And' u s v t) =
    IsFormula targets x s × IsFormula targets y t
IsFormula targets (f.Either' at h (more_of-Formula x end_of-Formula) i (more_of-Formula y end_of-Formula)) (Or' u s v t) =
    IsFormula targets x s × IsFormula targets y t
IsFormula targets _ _ = ⊥

abbrev pub IsPace : Targets → ℕ → Rhythm → Pace → Type 0
IsPace targets at (r.Rate q) (pace.Rate place w) = (place ≡ at) × IsRateOf q w
IsPace targets at (r.Formula x) (pace.Event place s) = (place ≡ at) × IsFormula targets x s
IsPace targets at (r.Global q) (pace.Global place w) = (place ≡ at) × IsRateOf q w
IsPace targets at (r.Local q) (pace.Local place w) = (place ≡ at) × IsRateOf q w
IsPace targets at _ _ = ⊥

-- what may be left out is there where it is written, and so
abbrev pub IsOptional : {A B : Type 0} → (A → B → Type 0) → Option A → Option B → Type 0
IsOptional R None None = Unit {0}
IsOptional R (Some x) (Some y) = R x y
IsOptional R _ _ = ⊥

abbrev pub IsPacing : Targets → Option Pacing → Option Pace → Type 0
IsPacing targets x y = IsOptional (λ (p : Pacing) (q : Pace). IsPace targets p.at p.rhythm q) x y

-- the place of the token before a condition, 0 where there is none
abbrev pub place_before : Option TreePart → ℕ
place_before None = 0
place_before (Some x) = x.at

-- the kind of a stream; none where it is left out
abbrev pub kind_written : Option Name → Option Kind
kind_written None = None
kind_written (Some n) = Some (kind_spelled n)

module _ (declarations : List Declaration) (targets : Targets) (texts : List (List ℕ)) (windows : List WindowSpec) where
  abbrev pub IsPart : Standing → TreePart → Expr → Type 0
  IsPart here x s = IsResolved declarations targets texts windows here x.expr s

  abbrev pub ArePartsOf : Standing → List TreePart → List Expr → Type 0
  ArePartsOf here [] [] = Unit {0}
  ArePartsOf here (x ∷ xs) (s ∷ ss) = IsPart here x s × ArePartsOf here xs ss
  ArePartsOf here _ _ = ⊥

  pub record IsSpawn (here : Standing) (x : Spawn) (c : Clause) : Type 0 where
    pub place : c.place ≡ x.at
    pub pacing : IsPacing targets x.pacing c.pace
    pub condition : IsOptional (IsPart here) x.when c.when
    pub before : c.when_at ≡ place_before x.when
    pub parameters : ArePartsOf here x.with c.with
    pub places : c.with_at ≡ map (λ (q : TreePart). q.at) x.with

  pub record IsEval (here : Standing) (x : Eval) (c : Clause) : Type 0 where
    pub place : c.place ≡ x.at
    pub pacing : IsPacing targets x.pacing c.pace
    pub condition : IsOptional (IsPart here) x.when c.when
    pub before : c.when_at ≡ place_before x.when
    pub result : ArePartsOf here (x.with ∷ []) c.with
    pub places : c.with_at ≡ x.with.at ∷ []

  pub record IsClose (here : Standing) (x : Close) (c : Clause) : Type 0 where
    pub place : c.place ≡ x.at
    pub pacing : IsPacing targets x.pacing c.pace
    pub condition : IsOptional (IsPart here) (Some x.when) c.when
    pub before : c.when_at ≡ x.when.at
    pub parameters : c.with ≡ []
    pub places : c.with_at ≡ []

  -- a spawn clause has no parameters in its scope
  pub record IsOutput (n : ℕ) (x : Output) (s : Stream) : Type 0 where
    pub name : s.name ≡ x.name.text
    pub place : s.place ≡ x.name.at
    pub sort : s.sort ≡ sort.Output
    pub message : s.message ≡ []
    pub kind : s.kind ≡ kind_written x.kind
    pub parameters : s.parameters ≡ map (λ (t : Typed). kind_spelled t.kind) x.parameters
    pub spawn : IsOptional (IsSpawn (record { stream = n; clause = part.Spawn; parameters = [] })) x.spawn s.spawn
    pub eval : IsOptional (IsEval (record { stream = n; clause = part.Eval; parameters = parameter_targets 0 x.parameters })) (Some x.eval) s.eval
    pub close : IsOptional (IsClose (record { stream = n; clause = part.Close; parameters = parameter_targets 0 x.parameters })) x.close s.close

  -- the eval clause of a trigger begins at its keyword
  pub record IsTriggerClause (here : Standing) (x : Trigger) (c : Clause) : Type 0 where
    pub place : c.place ≡ x.when.at
    pub pacing : IsPacing targets x.pacing c.pace
    pub condition : c.when ≡ None
    pub before : c.when_at ≡ 0
    pub result : ArePartsOf here (x.when ∷ []) c.with
    pub places : c.with_at ≡ x.when.at ∷ []

  -- the k-th trigger
  pub record IsTrigger (n k : ℕ) (x : Trigger) (s : Stream) : Type 0 where
    pub name : s.name ≡ codes "trigger_" ++ decimal k
    pub place : s.place ≡ x.when.at
    pub sort : s.sort ≡ sort.Trigger
    pub message : s.message ≡ x.message
    pub kind : s.kind ≡ Some kind.Bool
    pub parameters : s.parameters ≡ []
    pub spawn : s.spawn ≡ None
    pub eval : IsOptional (IsTriggerClause (record { stream = n; clause = part.Eval; parameters = [] })) (Some x) s.eval
    pub close : s.close ≡ None

-- an input is one stream
abbrev pub input_stream : Typed → Stream
input_stream t =
    record { name = t.name.text; place = t.name.at; sort = sort.Input; message = []; kind = Some (kind_spelled t.kind); parameters = []; spawn = None; eval = None; close = None }
