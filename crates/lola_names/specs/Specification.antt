-- A specification whose names are resolved.
use Rattle.std.specs.Prelude.{ℕ, ◌≡◌, ◌+◌, ◌<◌, List, [], ◌∷◌, ◌++◌, Option, Some, None, Result, Ok, Err, if◌then◌else◌, nat_eq, length, map, drop, slice_get, IsTrue, Contains}
use Rattle.std.specs.List.{flat_map}
use Rattle.lola_value.specs.declared.front.FrontEnd.{FrontEnd}
use Rattle.lola_value.specs.declared.front.FrontEnd.TheVariants as front_end
use Rattle.lola_value.specs.declared.value.Value.{Value}
use Rattle.lola_value.specs.declared.value.Value.TheVariants as value
use Rattle.lola_parser_grammar.specs.declared.literals.Value.{Value as Written}
use Rattle.lola_parser_grammar.specs.declared.literals.Value.TheVariants as written
use Rattle.lola_parser_grammar.specs.declared.expressions.Access.{Access as TreeAccess}
use Rattle.lola_parser_grammar.specs.declared.expressions.Access.TheVariants as a
use Rattle.lola_parser_grammar.specs.declared.expressions.Expr.{Expr as TreeExpr, Row_of-Expr, more_of-Expr, end_of-Expr}
use Rattle.lola_parser_grammar.specs.declared.expressions.Expr.TheVariants as e
use Rattle.lola_parser_grammar.specs.declared.pacing.Rhythm.{Rhythm}
use Rattle.lola_parser_grammar.specs.declared.pacing.Rhythm.TheVariants as r
use Rattle.lola_parser_grammar.specs.declared.pacing.Pacing.{Pacing}
use Rattle.lola_parser_grammar.specs.declared.clauses.Part.{Part as TreePart}
use Rattle.lola_parser_grammar.specs.declared.clauses.Spawn.{Spawn}
use Rattle.lola_parser_grammar.specs.declared.clauses.Eval.{Eval}
use Rattle.lola_parser_grammar.specs.declared.clauses.Close.{Close}
use Rattle.lola_parser_grammar.specs.declared.declarations.Constant.{Constant as TreeConstant}
use Rattle.lola_parser_grammar.specs.declared.declarations.Output.{Output}
use Rattle.lola_parser_grammar.specs.declared.declarations.Trigger.{Trigger}
use Rattle.lola_parser_grammar.specs.declared.declarations.Declaration.{Declaration}
use Rattle.lola_parser_grammar.specs.declared.declarations.Declaration.TheVariants as d
use Rattle.lola_model.specs.Refusals.{IsFirstIn}
use Rattle.lola_model.specs.Parts.{listed_spec}
use Rattle.lola_model.specs.Named.{are_distinct, counted, window_number, literal_text}
use Rattle.lola_model.specs.declared.spec.WrittenRate.TheVariants as rate
use Rattle.lola_model.specs.declared.spec.Pace.{Pace}
use Rattle.lola_model.specs.declared.spec.Pace.TheVariants as pace
use Rattle.lola_model.specs.declared.spec.Clause.{Clause}
use Rattle.lola_model.specs.declared.spec.Constant.{Constant}
use Rattle.lola_model.specs.declared.spec.Stream.{Stream}
use Rattle.lola_model.specs.declared.spec.WindowSpec.{WindowSpec}
use Rattle.lola_model.specs.declared.spec.Spec.{Spec}
use Rattle.lola_names_refused.specs.Quantities.{span_of}
use Rattle.lola_names_refused.specs.Refused.{refusals_of}
use Rattle.lola_names.specs.Targets.{Targets, targets_of}
use Rattle.lola_names.specs.Numbered.{IsInOrder}
use Rattle.lola_names.specs.Resolved.{kind_spelled, IsValue}
use Rattle.lola_names.specs.Clauses.{IsOutput, IsTrigger, input_stream}

-- ---- streams and constants

module _ (declarations : List Declaration) (targets : Targets) (texts : List (List ℕ)) (windows : List WindowSpec) where
  -- the streams of declarations, of which the first is stream n, behind k triggers
  abbrev pub AreStreams : ℕ → ℕ → List Declaration → List Stream → Type 0
  AreStreams n k [] ss = ss ≡ []
  AreStreams n k (d.Inputs x ∷ ds) ss = (rest : List Stream) × (ss ≡ map input_stream x.inputs ++ rest) × AreStreams (n + length x.inputs) k ds rest
  AreStreams n k (d.Constant x ∷ ds) ss = AreStreams n k ds ss
  AreStreams n k (d.Output x ∷ ds) [] = ⊥
  AreStreams n k (d.Output x ∷ ds) (s ∷ ss) = IsOutput declarations targets texts windows n x s × AreStreams (n + 1) k ds ss
  AreStreams n k (d.Trigger x ∷ ds) [] = ⊥
  AreStreams n k (d.Trigger x ∷ ds) (s ∷ ss) = IsTrigger declarations targets texts windows n (k + 1) x s × AreStreams (n + 1) (k + 1) ds ss

abbrev pub constants_in : Declaration → List TreeConstant
constants_in (d.Constant x) = x ∷ []
constants_in _ = []

abbrev pub constants_of : List Declaration → List TreeConstant
constants_of ds = flat_map constants_in ds

-- a text that is not listed has the number behind the last
abbrev pub IsListedOrLast : List (List ℕ) → List ℕ → Value → Type 0
IsListedOrLast texts t (value.Text id) = ((i : ℕ) → slice_get texts i ≡ Some t → i ≡ id.0) × (id.0 < length texts → slice_get texts id.0 ≡ Some t) × (id.0 < length texts + 1)
IsListedOrLast texts t _ = ⊥

-- a constant's text need not be listed, since the constant need not be used
abbrev pub IsConstantValue : List (List ℕ) → Written → Value → Type 0
IsConstantValue texts (written.Text t) v = IsListedOrLast texts t v
IsConstantValue texts w v = IsValue texts w v

pub record IsConstant (texts : List (List ℕ)) (x : TreeConstant) (c : Constant) : Type 0 where
  pub kind : c.kind ≡ kind_spelled x.kind
  pub literal : IsConstantValue texts x.literal.value c.literal
  pub place : c.place ≡ x.literal.at
  pub before : c.before ≡ x.before

abbrev pub AreConstants : List (List ℕ) → List TreeConstant → List Constant → Type 0
AreConstants texts [] [] = Unit {0}
AreConstants texts (x ∷ xs) (c ∷ cs) = IsConstant texts x c × AreConstants texts xs cs
AreConstants texts _ _ = ⊥

-- ---- the places of quantities and offsets that are out of range

abbrev pub access_ranges : TreeAccess → List ℕ
access_ranges (a.Offset point k at) = if nat_eq k 0 then at ∷ [] else []
access_ranges (a.Window point exactly over using) = if nat_eq (span_of over) 0 then over.at ∷ [] else []
access_ranges _ = []

abbrev mutual
  pub expr_ranges : TreeExpr → List ℕ
  expr_ranges (e.Literal l) = []
  expr_ranges (e.Reference' n bracket shape row how) = access_ranges how ++ argument_ranges row
  expr_ranges (e.Defaults' at h (more_of-Expr x end_of-Expr) i (more_of-Expr y end_of-Expr)) = expr_ranges x ++ expr_ranges y
  expr_ranges (e.Prefix' operator at h (more_of-Expr x end_of-Expr)) = expr_ranges x
  expr_ranges (e.Binary' operator at h (more_of-Expr x end_of-Expr) i (more_of-Expr y end_of-Expr)) = expr_ranges x ++ expr_ranges y
  expr_ranges (e.If' at h (more_of-Expr x end_of-Expr) i (more_of-Expr y end_of-Expr) j (more_of-Expr z end_of-Expr)) =
      expr_ranges x ++ (expr_ranges y ++ expr_ranges z)

  pub argument_ranges : {n : _} → Row_of-Expr n → List ℕ
  argument_ranges end_of-Expr = []
  argument_ranges (more_of-Expr x rest) = expr_ranges x ++ argument_ranges rest

abbrev pub part_ranges : TreePart → List ℕ
part_ranges x = expr_ranges x.expr

-- a pacing's quantity, by what it is resolved to
abbrev pub rhythm_ranges : Rhythm → Pace → List ℕ
rhythm_ranges (r.Rate q) (pace.Rate at rate.OutOfRange) = q.at ∷ []
rhythm_ranges (r.Global q) (pace.Global at rate.OutOfRange) = q.at ∷ []
rhythm_ranges (r.Local q) (pace.Local at rate.OutOfRange) = q.at ∷ []
rhythm_ranges _ _ = []

abbrev pub pacing_ranges : Option Pacing → Option Pace → List ℕ
pacing_ranges (Some x) (Some y) = rhythm_ranges x.rhythm y
pacing_ranges _ _ = []

abbrev pub of_option : {A : Type 0} → (A → List ℕ) → Option A → List ℕ
of_option f None = []
of_option f (Some x) = f x

abbrev pub pace_in : Option Clause → Option Pace
pace_in None = None
pace_in (Some c) = c.pace

abbrev pub spawn_ranges : Option Clause → Spawn → List ℕ
spawn_ranges c x = pacing_ranges x.pacing (pace_in c) ++ (of_option part_ranges x.when ++ flat_map part_ranges x.with)

abbrev pub eval_ranges : Option Clause → Eval → List ℕ
eval_ranges c x = pacing_ranges x.pacing (pace_in c) ++ (of_option part_ranges x.when ++ part_ranges x.with)

abbrev pub close_ranges : Option Clause → Close → List ℕ
close_ranges c x = pacing_ranges x.pacing (pace_in c) ++ part_ranges x.when

abbrev pub output_ranges : Output → Stream → List ℕ
output_ranges x s = of_option (spawn_ranges s.spawn) x.spawn ++ (eval_ranges s.eval x.eval ++ of_option (close_ranges s.close) x.close)

abbrev pub trigger_ranges : Trigger → Stream → List ℕ
trigger_ranges x s = pacing_ranges x.pacing (pace_in s.eval) ++ part_ranges x.when

-- of declarations, with the streams that they are resolved to
abbrev pub ranges_of : List Declaration → List Stream → List ℕ
ranges_of [] ss = []
ranges_of (d.Inputs x ∷ ds) ss = ranges_of ds (drop (length x.inputs) ss)
ranges_of (d.Constant x ∷ ds) ss = ranges_of ds ss
ranges_of (d.Output x ∷ ds) [] = []
ranges_of (d.Output x ∷ ds) (s ∷ ss) = output_ranges x s ++ ranges_of ds ss
ranges_of (d.Trigger x ∷ ds) [] = []
ranges_of (d.Trigger x ∷ ds) (s ∷ ss) = trigger_ranges x s ++ ranges_of ds ss

-- ---- the whole

-- The declarations are resolved to this specification: its streams and constants in the order of the text, its windows numbered in
-- the order in which they stand there, its text literals each once, each used and numbered in the order of their first uses, and
-- the places of what is out of range.
pub record Resolves (ds : List Declaration) (spec : Spec) : Type 0 where
  pub streams : AreStreams ds (targets_of ds) spec.texts spec.windows 0 0 ds spec.streams
  pub constants : AreConstants spec.texts (constants_of ds) spec.constants
  pub refused : spec.refused ≡ ranges_of ds spec.streams
  pub window_numbers : listed_spec window_number spec ≡ counted 0 (length spec.windows)
  pub texts : IsTrue (are_distinct spec.texts)
  pub texts_used : (i : ℕ) → i < length spec.texts → Contains (listed_spec literal_text spec) i
  pub texts_in_order : IsInOrder 0 (listed_spec literal_text spec) (length spec.texts)

-- what resolving answers: the specification where nothing of the names is refused, else the first refusal
abbrev pub AnswersNames : List Declaration → Result Spec FrontEnd → Type 0
AnswersNames ds (Ok spec) = (refusals_of ds ≡ []) × Resolves ds spec
AnswersNames ds (Err (front_end.Refused refusal)) = IsFirstIn (refusals_of ds) refusal
AnswersNames ds (Err front_end.Memory) = Unit {0}
