-- What a text means as a specification: its plan, or the refusal by which it has none. A plan is made in phases, each over what the
-- one before gave; the first phase that refuses anything decides, and in it the first refusal.
use Rattle.std.specs.Prelude.{ℕ, ◌≡◌, ◌⊎◌, List, [], Some, Option, Result, Ok, Err, length, slice_get}
use Rattle.lola_value.specs.declared.front.Code.TheVariants as code
use Rattle.lola_value.specs.declared.front.Refusal.{Refusal}
use Rattle.lola_value.specs.declared.front.FrontEnd.{FrontEnd}
use Rattle.lola_value.specs.declared.front.FrontEnd.TheVariants as front_end
use Rattle.lola_lexer.specs.Tokens.{tokens_of}
use Rattle.lola_lexer.specs.declared.token.Token.{Token}
use Rattle.lola_parser_grammar.specs.Cursor.{lexemes}
use Rattle.lola_parser.specs.Places.{Answers, Refuses}
use Rattle.lola_parser_grammar.specs.declared.declarations.Declaration.{Declaration}
use Rattle.lola_names_refused.specs.Refused as names
use Rattle.lola_names.specs.Specification.{Resolves}
use Rattle.lola_types.specs.Refused.{kind_refusals}
use Rattle.lola_types.specs.Filled.{IsFilled}
use Rattle.lola_graph.specs.Cycle.{IsLeastOnCycle}
use Rattle.lola_bounds.specs.Bounds.{AreBounds}
use Rattle.lola_model.specs.Acceptance.{IsAccepted}
use Rattle.lola_model.specs.Accepted.{IsAcyclic}
use Rattle.lola_model.specs.Graph.{IsLayer, edges_of, layer_of}
use Rattle.lola_model.specs.Named.{IsNamed}
use Rattle.lola_model.specs.Nodes.{node_count}
use Rattle.lola_model.specs.Typed.{IsTyped}
use Rattle.lola_model.specs.Pacings.{ArePacings, IsRefused}
use Rattle.lola_model.specs.Refusals.{IsFirstIn, first_of}
use Rattle.lola_model.specs.declared.pacing.ClausePacings.{ClausePacings}
use Rattle.lola_model.specs.declared.plan.Plan.{Plan}
use Rattle.lola_model.specs.declared.spec.Spec.{Spec}
use Rattle.lola_model.specs.declared.spec.Stream.{Stream}
use Rattle.lola_front.specs.declared.compiling.Parts.{Parts}

-- the tokens of a text
pub record IsCut (bytes : List ℕ) (tokens : List Token) : Type 0 where
  pub are : tokens_of bytes ≡ Ok tokens

-- the declarations that its tokens spell, and that the reading of the grammar gives, which lets no expression and no formula have
-- more nestings than may come
pub record IsRead (bytes : List ℕ) (ds : List Declaration) : Type 0 where
  pub tokens : List Token
  pub cut : IsCut bytes tokens
  pub read : Refuses (lexemes bytes tokens) (length bytes) (Ok ds)
  pub exact : Answers (lexemes bytes tokens) (length bytes) (Ok ds)

-- the specification whose names they resolve to
pub record IsResolved (bytes : List ℕ) (spec : Spec) : Type 0 where
  pub declarations : List Declaration
  pub read : IsRead bytes declarations
  pub names : names.refusals_of declarations ≡ []
  pub resolves : Resolves declarations spec

-- the specification with its kinds filled in
pub record IsFull (bytes : List ℕ) (full : Spec) : Type 0 where
  pub spec : Spec
  pub resolved : IsResolved bytes spec
  pub kinds : kind_refusals spec ≡ []
  pub filled : IsFilled spec full

-- the plan: the specification with its kinds filled in, accepted, with the pacings, layers, kept values and panes of the language
pub record IsPlanOf (bytes : List ℕ) (plan : Plan) : Type 0 where
  pub full : IsFull bytes plan.spec
  pub accepted : IsAccepted plan

-- ---- refusals, phase by phase

-- the text is too long, or something in it is no token
abbrev pub IsTokenRefusal : List ℕ → Refusal → Type 0
IsTokenRefusal bytes r = tokens_of bytes ≡ Err r

-- its tokens spell no specification, or one that is too deep: whichever ends the reading of the grammar, which counts nestings and
-- goes from left to right
pub record IsSyntaxRefusal (bytes : List ℕ) (r : Refusal) : Type 0 where
  pub tokens : List Token
  pub cut : IsCut bytes tokens
  pub refused : Refuses (lexemes bytes tokens) (length bytes) (Err (front_end.Refused r))
  pub exact : Answers (lexemes bytes tokens) (length bytes) (Err (front_end.Refused r))

-- the first refusal of names
pub record IsNameRefusal (bytes : List ℕ) (r : Refusal) : Type 0 where
  pub declarations : List Declaration
  pub read : IsRead bytes declarations
  pub refused : IsFirstIn (names.refusals_of declarations) r

-- the first refusal of kinds and literals
pub record IsKindRefusal (bytes : List ℕ) (r : Refusal) : Type 0 where
  pub spec : Spec
  pub resolved : IsResolved bytes spec
  pub refused : first_of (kind_refusals spec) ≡ Some r

-- the first refusal of pacings
pub record IsPacingRefusal (bytes : List ℕ) (r : Refusal) : Type 0 where
  pub full : Spec
  pub is_full : IsFull bytes full
  pub refused : IsRefused full r

-- the place of a stream, where there is such a stream
abbrev pub IsPlaceOf : Option Stream → ℕ → Type 0
IsPlaceOf s at = (stream : Stream) × (s ≡ Some stream) × (at ≡ stream.place)

-- the least stream with a node on a closed walk of weight 0, refused at its place
pub record IsOnCycleAt (full : Spec) (r : Refusal) : Type 0 where
  pub stream : ℕ
  pub least : IsLeastOnCycle (edges_of full) (Some stream)
  pub is_cycle : r.code ≡ code.ZeroCycle
  pub place : IsPlaceOf (slice_get full.streams stream) r.at

-- nothing is refused of the pacings, and a closed walk has weight 0
pub record IsPacedCycle (full : Spec) (r : Refusal) : Type 0 where
  pub pacings : List ClausePacings
  pub paced : ArePacings full pacings
  pub cycle : IsOnCycleAt full r

-- a closed walk has weight 0: the least stream on such a walk is refused
pub record IsCycleRefusal (bytes : List ℕ) (r : Refusal) : Type 0 where
  pub full : Spec
  pub is_full : IsFull bytes full
  pub cycle : IsPacedCycle full r

-- the refusal of a text
abbrev pub IsRefusalOf : List ℕ → Refusal → Type 0
IsRefusalOf bytes r =
    IsTokenRefusal bytes r
    ⊎ (IsSyntaxRefusal bytes r
    ⊎ (IsNameRefusal bytes r
    ⊎ (IsKindRefusal bytes r
    ⊎ (IsPacingRefusal bytes r ⊎ IsCycleRefusal bytes r))))

-- what compiling answers: the plan, or the refusal, unless memory runs out
abbrev pub Compiles : List ℕ → Result Plan FrontEnd → Type 0
Compiles bytes (Ok plan) = IsPlanOf bytes plan
Compiles bytes (Err (front_end.Refused r)) = IsRefusalOf bytes r
Compiles bytes (Err front_end.Memory) = Unit {0}

-- ---- what each phase of the compiler answers

abbrev pub Reads : List ℕ → Result (List Declaration) FrontEnd → Type 0
Reads bytes (Ok ds) = IsRead bytes ds
Reads bytes (Err (front_end.Refused r)) = IsTokenRefusal bytes r ⊎ IsSyntaxRefusal bytes r
Reads bytes (Err front_end.Memory) = Unit {0}

abbrev pub ResolvesText : List ℕ → Result Spec FrontEnd → Type 0
ResolvesText bytes (Ok spec) = IsResolved bytes spec
ResolvesText bytes (Err (front_end.Refused r)) = IsRefusalOf bytes r
ResolvesText bytes (Err front_end.Memory) = Unit {0}

abbrev pub Fills : List ℕ → Result Spec FrontEnd → Type 0
Fills bytes (Ok full) = IsFull bytes full × IsNamed full × IsTyped full
Fills bytes (Err (front_end.Refused r)) = IsRefusalOf bytes r
Fills bytes (Err front_end.Memory) = Unit {0}

-- no closed walk has weight 0, and these are the layers
pub record AreLayers (full : Spec) (layers : List ℕ) : Type 0 where
  pub acyclic : IsAcyclic full
  pub each : (n : ℕ) → IsLayer (edges_of full) n (layer_of layers n)
  pub count : length layers ≡ node_count (edges_of full)

-- the layers of a specification, or the refusal of the least stream on a closed walk of weight 0
abbrev pub AnswersLayers : Spec → Result (List ℕ) FrontEnd → Type 0
AnswersLayers full (Ok layers) = AreLayers full layers
AnswersLayers full (Err (front_end.Refused r)) = IsOnCycleAt full r
AnswersLayers full (Err front_end.Memory) = Unit {0}

-- what a plan has beside its specification
pub record AreParts (full : Spec) (parts : Parts) : Type 0 where
  pub paced : ArePacings full parts.pacings
  pub layers : AreLayers full parts.layers
  pub bounds : AreBounds full parts.pacings parts.kept parts.panes

-- all that, or the first refusal of pacings, or the refusal of a cycle
abbrev pub AnswersParts : Spec → Result Parts FrontEnd → Type 0
AnswersParts full (Ok parts) = AreParts full parts
AnswersParts full (Err (front_end.Refused r)) = IsRefused full r ⊎ IsPacedCycle full r
AnswersParts full (Err front_end.Memory) = Unit {0}
