-- Clauses and streams that are made while texts and windows grow.
use Rattle.std.specs.Prelude.{ℕ, ◌≡◌, ◌+◌, List, [], ◌∷◌, ◌++◌, Option, length, map}
use Rattle.lola_parser_grammar.specs.declared.literals.Typed.{Typed}
use Rattle.lola_parser_grammar.specs.declared.pacing.Pacing.{Pacing}
use Rattle.lola_parser_grammar.specs.declared.clauses.Part.{Part as TreePart}
use Rattle.lola_parser_grammar.specs.declared.clauses.Spawn.{Spawn}
use Rattle.lola_parser_grammar.specs.declared.clauses.Eval.{Eval}
use Rattle.lola_parser_grammar.specs.declared.clauses.Close.{Close}
use Rattle.lola_parser_grammar.specs.declared.declarations.Declaration.{Declaration}
use Rattle.lola_parser_grammar.specs.declared.declarations.Declaration.TheVariants as d
use Rattle.lola_parser_grammar.specs.declared.declarations.Output.{Output}
use Rattle.lola_parser_grammar.specs.declared.declarations.Trigger.{Trigger}
use Rattle.lola_model.specs.Parts.{listed_when, listed_with, listed_clause, listed_stream, listed_streams}
use Rattle.lola_model.specs.Named.{counted, window_number, literal_text}
use Rattle.lola_model.specs.declared.expr.Expr.{Expr}
use Rattle.lola_model.specs.declared.spec.Clause.{Clause}
use Rattle.lola_model.specs.declared.spec.Constant.{Constant}
use Rattle.lola_model.specs.declared.spec.Part.TheVariants as part
use Rattle.lola_model.specs.declared.spec.Stream.{Stream}
use Rattle.lola_model.specs.declared.spec.WindowSpec.{WindowSpec}
use Rattle.lola_names.specs.Numbered.{IsInOrder}
use Rattle.lola_names.specs.Targets.{Targets, targets_of, parameter_targets}
use Rattle.lola_names.specs.Resolved.{Standing}
use Rattle.lola_names.specs.Clauses.{IsPacing, IsOptional, IsPart, ArePartsOf, IsSpawn, IsEval, IsClose, IsTriggerClause, IsOutput, IsTrigger, input_stream, place_before}
use Rattle.lola_names.specs.Specification.{AreStreams, AreConstants, constants_in}
use Rattle.lola_names.specs.Made.{Grows, FromNowOn, IsScope, standing_in}
use Rattle.lola_names.specs.declared.made.Made.{Made}
use Rattle.lola_names.specs.declared.scope.Scope.{Scope}

-- ---- parts of clauses

-- in a scope, by whatever lists its tables stand for, and whatever is made later
abbrev pub InScope : Scope → Made → (Targets → Standing → List (List ℕ) → List WindowSpec → Type 0) → Type 0
InScope scope made P = (targets parameters : Targets) → IsScope scope targets parameters → FromNowOn made (P targets (standing_in scope parameters))

abbrev pub WhenIn : Scope → Made → Option TreePart → Option Expr → Type 0
WhenIn scope made x r =
    InScope scope made (λ targets here texts windows. IsOptional (IsPart scope.declarations.now targets texts windows here) x r)

abbrev pub PartsIn : Scope → Made → List TreePart → List Expr → Type 0
PartsIn scope made xs rs = InScope scope made (λ targets here texts windows. ArePartsOf scope.declarations.now targets texts windows here xs rs)

-- what is resolved of others and put behind these is what is resolved of all
abbrev pub PartsBegun : Scope → Made → List TreePart → List TreePart → List Expr → Type 0
PartsBegun scope made all others rs =
    InScope scope made (λ targets here texts windows.
    (rest : List Expr) → ArePartsOf scope.declarations.now targets texts windows here others rest
    → ArePartsOf scope.declarations.now targets texts windows here all (rs ++ rest))

-- the texts and windows grew by what is in that condition, in those expressions, in that clause
abbrev pub GrowsByWhen : Made → Made → Option Expr → Type 0
GrowsByWhen old new r = Grows old new (listed_when window_number r) (listed_when literal_text r)

abbrev pub GrowsByWith : Made → Made → List Expr → Type 0
GrowsByWith old new rs = Grows old new (listed_with window_number rs) (listed_with literal_text rs)

abbrev pub GrowsByClause : Made → Made → Option Clause → Type 0
GrowsByClause old new c = Grows old new (listed_clause window_number c) (listed_clause literal_text c)

abbrev pub GrowsByStream : Made → Made → Stream → Type 0
GrowsByStream old new s = Grows old new (listed_stream window_number s) (listed_stream literal_text s)

abbrev pub GrowsByStreams : Made → Made → List Stream → Type 0
GrowsByStreams old new ss = Grows old new (listed_streams window_number ss) (listed_streams literal_text ss)

-- ---- clauses

-- a clause of these parts, whichever of a stream's clauses it is
module _ (declarations : List Declaration) (targets : Targets) (here : Standing) (texts : List (List ℕ)) (windows : List WindowSpec) where
  pub record IsOfParts (at : ℕ) (x : Option Pacing) (condition_written : Option TreePart) (parts_written : List TreePart) (c : Clause) : Type 0 where
    pub place : c.place ≡ at
    pub pacing : IsPacing targets x c.pace
    pub condition : IsOptional (IsPart declarations targets texts windows here) condition_written c.when
    pub before : c.when_at ≡ place_before condition_written
    pub parts : ArePartsOf declarations targets texts windows here parts_written c.with
    pub places : c.with_at ≡ map (λ (q : TreePart). q.at) parts_written

abbrev pub OfPartsIn : Scope → Made → ℕ → Option Pacing → Option TreePart → List TreePart → Clause → Type 0
OfPartsIn scope made at x condition_written parts_written c =
    InScope scope made (λ targets here texts windows. IsOfParts scope.declarations.now targets here texts windows at x condition_written parts_written c)

abbrev pub SpawnIn : Scope → Made → Option Spawn → Option Clause → Type 0
SpawnIn scope made x c = InScope scope made (λ targets here texts windows. IsOptional (IsSpawn scope.declarations.now targets texts windows here) x c)

abbrev pub EvalIn : Scope → Made → Eval → Clause → Type 0
EvalIn scope made x c = InScope scope made (λ targets here texts windows. IsEval scope.declarations.now targets texts windows here x c)

abbrev pub CloseIn : Scope → Made → Option Close → Option Clause → Type 0
CloseIn scope made x c = InScope scope made (λ targets here texts windows. IsOptional (IsClose scope.declarations.now targets texts windows here) x c)

abbrev pub TriggerIn : Scope → Made → Trigger → Clause → Type 0
TriggerIn scope made x c = InScope scope made (λ targets here texts windows. IsTriggerClause scope.declarations.now targets texts windows here x c)

-- ---- streams

-- where the clauses of stream n stand
abbrev pub at_spawn : ℕ → Standing
at_spawn n = record { stream = n; clause = part.Spawn; parameters = [] }

abbrev pub at_eval : ℕ → List Typed → Standing
at_eval n ps = record { stream = n; clause = part.Eval; parameters = parameter_targets 0 ps }

abbrev pub at_close : ℕ → List Typed → Standing
at_close n ps = record { stream = n; clause = part.Close; parameters = parameter_targets 0 ps }

-- over all names of the specification, whatever is made later
module _ (declarations : List Declaration) (made : Made) where
  abbrev pub SpawnOf : ℕ → Option Spawn → Option Clause → Type 0
  SpawnOf n x c = FromNowOn made (λ texts windows. IsOptional (IsSpawn declarations (targets_of declarations) texts windows (at_spawn n)) x c)

  abbrev pub EvalOf : ℕ → Output → Clause → Type 0
  EvalOf n x c = FromNowOn made (λ texts windows. IsEval declarations (targets_of declarations) texts windows (at_eval n x.parameters) x.eval c)

  abbrev pub CloseOf : ℕ → Output → Option Clause → Type 0
  CloseOf n x c =
      FromNowOn made (λ texts windows. IsOptional (IsClose declarations (targets_of declarations) texts windows (at_close n x.parameters)) x.close c)

  abbrev pub TriggerClauseOf : ℕ → Trigger → Clause → Type 0
  TriggerClauseOf n x c = FromNowOn made (λ texts windows. IsTriggerClause declarations (targets_of declarations) texts windows (at_eval n []) x c)

  abbrev pub OutputOf : ℕ → Output → Stream → Type 0
  OutputOf n x s = FromNowOn made (λ texts windows. IsOutput declarations (targets_of declarations) texts windows n x s)

  abbrev pub TriggerOf : ℕ → ℕ → Trigger → Stream → Type 0
  TriggerOf n k x s = FromNowOn made (λ texts windows. IsTrigger declarations (targets_of declarations) texts windows n k x s)

  abbrev pub AreStreamsOf : List Stream → Type 0
  AreStreamsOf ss = FromNowOn made (λ texts windows. AreStreams declarations (targets_of declarations) texts windows 0 0 declarations ss)

-- one stream, of which this holds
abbrev pub IsOnly : (Stream → Type 0) → List Stream → Type 0
IsOnly P [] = ⊥
IsOnly P (s ∷ []) = P s
IsOnly P (s ∷ t ∷ ss) = ⊥

-- the streams of one declaration, from stream n on and behind k triggers
abbrev pub AreDeclared : List Declaration → List (List ℕ) → List WindowSpec → ℕ → ℕ → Declaration → List Stream → Type 0
AreDeclared declarations texts windows n k (d.Inputs x) ss = ss ≡ map input_stream x.inputs
AreDeclared declarations texts windows n k (d.Constant x) ss = ss ≡ []
AreDeclared declarations texts windows n k (d.Output x) ss = IsOnly (IsOutput declarations (targets_of declarations) texts windows n x) ss
AreDeclared declarations texts windows n k (d.Trigger x) ss = IsOnly (IsTrigger declarations (targets_of declarations) texts windows n (k + 1) x) ss

-- how many triggers stand behind a declaration
abbrev pub triggers_behind : ℕ → Declaration → ℕ
triggers_behind k (d.Trigger x) = k + 1
triggers_behind k _ = k

-- the streams of a declaration are put behind others
pub record Puts (declarations : List Declaration) (x : Declaration) (k l : ℕ) (old new : List Stream) (from to : Made) : Type 0 where
  pub more : List Stream
  pub streams : new ≡ old ++ more
  pub triggers : l ≡ triggers_behind k x
  pub resolved : FromNowOn to (λ texts windows. AreDeclared declarations texts windows (length old) k x more)
  pub grown : GrowsByStreams from to more

-- the streams of the others, from stream n on and behind k triggers, are those of all with these before them
abbrev pub AreBegun : List Declaration → Made → ℕ → List Declaration → List Stream → Type 0
AreBegun declarations made k others ss =
    FromNowOn made (λ texts windows.
    (rest : List Stream) → AreStreams declarations (targets_of declarations) texts windows (length ss) k others rest
    → AreStreams declarations (targets_of declarations) texts windows 0 0 declarations (ss ++ rest))

-- ---- constants

-- the constants of a declaration are put behind others
pub record PutsConstants (texts : List (List ℕ)) (x : Declaration) (old new : List Constant) : Type 0 where
  pub more : List Constant
  pub constants : new ≡ old ++ more
  pub are : AreConstants texts (constants_in x) more

-- ---- the whole

pub record IsNothing (made : Made) : Type 0 where
  pub texts : made.texts ≡ []
  pub windows : made.windows ≡ []

-- the windows and texts made are those of the streams
pub record IsGrown (made : Made) (ss : List Stream) : Type 0 where
  pub numbers : listed_streams window_number ss ≡ counted 0 (length made.windows)
  pub in_order : IsInOrder 0 (listed_streams literal_text ss) (length made.texts)
