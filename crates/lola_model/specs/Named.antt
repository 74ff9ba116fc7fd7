-- What is known of a specification whose names are resolved.
use Rattle.std.specs.Prelude.{ℕ, ◌+◌, ◌≡◌, ◌<◌, ◌≤◌, List, [], ◌∷◌, Option, Some, None, Bool, true, false, not, ◌&&◌, ◌||◌, if◌then◌else◌, nat_eq, nat_le, nat_lt, zero, suc, length, filter, slice_get, IsTrue, Contains}
use Rattle.lola_value.specs.Arithmetic.{bytes_equal}
use Rattle.lola_value.specs.declared.value.Kind.{Kind}
use Rattle.lola_value.specs.declared.value.Kind.TheVariants as kind
use Rattle.lola_value.specs.declared.value.Value.{Value}
use Rattle.lola_value.specs.declared.value.Value.TheVariants as value
use Rattle.lola_model.specs.Accepted.{IsSpecInRange}
use Rattle.lola_model.specs.Bounds.{offset_by}
use Rattle.lola_model.specs.Formulas.{AreOverInputs}
use Rattle.lola_model.specs.Model.{is_input}
use Rattle.lola_model.specs.Parts.{listed, listed_spec}
use Rattle.lola_model.specs.Typing.{each_part, count_of}
use Rattle.lola_model.specs.Wholes.{Whole, wholes_of, all_wholes}
use Rattle.lola_model.specs.declared.expr.Expr.{Expr}
use Rattle.lola_model.specs.declared.expr.Expr.TheVariants.{Literal, Parameter, Read, Window}
use Rattle.lola_model.specs.declared.spec.Spec.{Spec}
use Rattle.lola_model.specs.declared.spec.Stream.{Stream}
use Rattle.lola_model.specs.declared.spec.Clause.{Clause}
use Rattle.lola_model.specs.declared.spec.Pace.{Pace}
use Rattle.lola_model.specs.declared.spec.Pace.TheVariants as pace
use Rattle.lola_model.specs.declared.spec.Sort.TheVariants as sort
use Rattle.lola_model.specs.declared.spec.WrittenRate.{WrittenRate}
use Rattle.lola_model.specs.declared.spec.WrittenRate.TheVariants as rate
use Rattle.lola_model.specs.declared.spec.Part.{Part}
use Rattle.lola_model.specs.declared.spec.Part.TheVariants as part
use Rattle.lola_model.specs.declared.spec.WindowSpec.{WindowSpec}

-- shapes of streams

abbrev pub has_clause : Option Clause → Bool
has_clause None = false
has_clause (Some c) = true

abbrev pub count_with : Option Clause → ℕ
count_with None = 0
count_with (Some c) = length c.with

abbrev pub is_condition : Option Expr → Bool
is_condition None = false
is_condition (Some e) = true

abbrev pub has_when : Option Clause → Bool
has_when None = false
has_when (Some c) = is_condition c.when

abbrev pub has_kind : Option Kind → Bool
has_kind None = false
has_kind (Some k) = true

abbrev pub is_of_bool : Option Kind → Bool
is_of_bool (Some kind.Bool) = true
is_of_bool _ = false

-- an input has a kind and no clause
abbrev pub is_input_shape : Stream → Bool
is_input_shape s = has_kind s.kind && (nat_eq (length s.parameters) 0 && (not (has_clause s.spawn) && (not (has_clause s.eval) && not (has_clause s.close))))

-- an output evaluates one expression, and has as many parameters as its spawn clause names; a close clause has a condition and no
-- more, and stands only with a spawn clause
abbrev pub is_output_shape : Stream → Bool
is_output_shape s =
    nat_eq (count_with s.eval) 1 && (nat_eq (count_with s.spawn) (length s.parameters)
    && ((not (has_clause s.close) || (has_when s.close && has_clause s.spawn)) && nat_eq (count_with s.close) 0))

-- a trigger evaluates one expression, which is a truth value
abbrev pub is_trigger_shape : Stream → Bool
is_trigger_shape s =
    is_of_bool s.kind && (nat_eq (count_with s.eval) 1 && (not (has_when s.eval) && (nat_eq (length s.parameters) 0 && (not (has_clause s.spawn) && not (has_clause s.close)))))

abbrev pub is_well_shaped : Stream → Bool
is_well_shaped s = elim s.sort [ sort.Input ↦ is_input_shape s | sort.Output ↦ is_output_shape s | sort.Trigger ↦ is_trigger_shape s ]

abbrev pub has_few_parameters : Stream → Bool
has_few_parameters s = nat_le (length s.parameters) 4

-- all streams pass a test
abbrev pub all_streams : (Stream → Bool) → List Stream → Bool
all_streams f [] = true
all_streams f (s ∷ ss) = f s && all_streams f ss

-- names

abbrev pub is_trigger : Stream → Bool
is_trigger s = elim s.sort [ sort.Input ↦ false | sort.Output ↦ false | sort.Trigger ↦ true ]

abbrev pub is_listed : List ℕ → List (List ℕ) → Bool
is_listed t [] = false
is_listed t (u ∷ us) = bytes_equal t u || is_listed t us

-- no text stands twice
abbrev pub are_distinct : List (List ℕ) → Bool
are_distinct [] = true
are_distinct (t ∷ ts) = not (is_listed t ts) && are_distinct ts

-- the names of inputs and outputs
abbrev pub declared_names : List Stream → List (List ℕ)
declared_names [] = []
declared_names (s ∷ ss) = if is_trigger s then declared_names ss else s.name ∷ declared_names ss

-- a reference names a stream that is no trigger, with as many arguments as it has parameters
abbrev pub is_read_of : Option Stream → ℕ → Bool
is_read_of None arguments = false
is_read_of (Some s) arguments = not (is_trigger s) && nat_eq arguments (length s.parameters)

abbrev pub is_window_onto : List Stream → Option WindowSpec → ℕ → Bool
is_window_onto ss None arguments = false
is_window_onto ss (Some w) arguments = is_read_of (slice_get ss w.target) arguments

-- a part of an expression in whose scope so many parameters are
abbrev pub is_resolved : Spec → ℕ → Expr → Bool
is_resolved spec parameters (Parameter place i) = nat_lt i parameters
is_resolved spec parameters (Read place n how args) = is_read_of (slice_get spec.streams n) (count_of args)
is_resolved spec parameters (Window place w args) = is_window_onto spec.streams (slice_get spec.windows w) (count_of args)
is_resolved spec parameters _ = true

abbrev pub whole_is_resolved : Spec → Whole → Bool
whole_is_resolved spec w = each_part (is_resolved spec (length w.parameters)) w.expr

-- offsets are at most 4,096
abbrev pub all_numbers : (ℕ → Bool) → List ℕ → Bool
all_numbers f [] = true
all_numbers f (n ∷ ns) = f n && all_numbers f ns

abbrev pub offset_in : Expr → List ℕ
offset_in (Read place n how args) = offset_by how
offset_in _ = []

-- windows

abbrev pub window_number : Expr → List ℕ
window_number (Window place w args) = w ∷ []
window_number _ = []

-- so many numbers, in order
abbrev pub counted : ℕ → ℕ → List ℕ
counted from zero = []
counted from (suc n) = from ∷ counted (from + 1) n

abbrev pub same_part : Part → Part → Bool
same_part part.Spawn part.Spawn = true
same_part part.Eval part.Eval = true
same_part part.Close part.Close = true
same_part _ _ = false

abbrev pub is_window_of : ℕ → Part → Option WindowSpec → Bool
is_window_of n p None = false
is_window_of n p (Some w) = nat_eq w.stream n && same_part w.part p

-- a whole expression's windows say that they stand in its clause
abbrev pub windows_stand_here : List WindowSpec → Whole → Bool
windows_stand_here ws w = all_numbers (λ i. is_window_of w.stream w.clause (slice_get ws i)) (listed window_number w.expr)

-- text literals

abbrev pub text_number : Value → List ℕ
text_number (value.Text id) = id.0 ∷ []
text_number _ = []

abbrev pub literal_text : Expr → List ℕ
literal_text (Literal place v) = text_number v
literal_text _ = []

-- quantities

abbrev pub is_rate_in_range : WrittenRate → Bool
is_rate_in_range rate.OutOfRange = false
is_rate_in_range rate.TooFast = true
is_rate_in_range (rate.Of r) = true

abbrev pub is_pace_in_range : Option Pace → Bool
is_pace_in_range None = true
is_pace_in_range (Some (pace.Event at f)) = true
is_pace_in_range (Some (pace.Rate at r)) = is_rate_in_range r
is_pace_in_range (Some (pace.Global at r)) = is_rate_in_range r
is_pace_in_range (Some (pace.Local at r)) = is_rate_in_range r

abbrev pub is_clause_paced_in_range : Option Clause → Bool
is_clause_paced_in_range None = true
is_clause_paced_in_range (Some c) = is_pace_in_range c.pace

abbrev pub is_stream_paced_in_range : Stream → Bool
is_stream_paced_in_range s = is_clause_paced_in_range s.spawn && (is_clause_paced_in_range s.eval && is_clause_paced_in_range s.close)

-- a length of time that a window may have, in nanoseconds
abbrev pub is_span : WindowSpec → Bool
is_span w = nat_le 1 w.over && nat_le w.over 4000000000000000000

abbrev pub all_windows : (WindowSpec → Bool) → List WindowSpec → Bool
all_windows f [] = true
all_windows f (w ∷ ws) = f w && all_windows f ws

-- rates, lengths of windows and offsets are in their ranges
pub record IsRanged (spec : Spec) : Type 0 where
  pub rates : IsTrue (all_streams is_stream_paced_in_range spec.streams)
  pub offsets : IsTrue (all_numbers (λ k. nat_le 1 k) (listed_spec offset_in spec))
  pub window_spans : IsTrue (all_windows is_span spec.windows)

-- the names of a specification are resolved, within the limits of the language
pub record IsNamed (spec : Spec) : Type 0 where
  pub few_streams : length spec.streams ≤ 1024
  pub few_inputs : length (filter is_input spec.streams) ≤ 64
  pub few_parameters : IsTrue (all_streams has_few_parameters spec.streams)
  pub shapes : IsTrue (all_streams is_well_shaped spec.streams)
  pub names : IsTrue (are_distinct (declared_names spec.streams))
  pub numbers : IsSpecInRange spec
  pub resolved : IsTrue (all_wholes (whole_is_resolved spec) (wholes_of spec))
  pub offsets : IsTrue (all_numbers (λ k. nat_le k 4096) (listed_spec offset_in spec))
  pub window_numbers : listed_spec window_number spec ≡ counted 0 (length spec.windows)
  pub window_places : IsTrue (all_wholes (windows_stand_here spec.windows) (wholes_of spec))
  pub texts : IsTrue (are_distinct spec.texts)
  pub text_numbers : IsTrue (all_numbers (λ i. nat_lt i (length spec.texts)) (listed_spec literal_text spec))
  pub texts_used : (i : ℕ) → i < length spec.texts → Contains (listed_spec literal_text spec) i
  pub ranges : spec.refused ≡ [] → IsRanged spec
  pub formulas : AreOverInputs spec.streams
