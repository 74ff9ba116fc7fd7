-- The laws.
use Rattle.std.proofs.Common.{◌≡◌, ◌≤◌, ℕ, Some, sym, ◌∙◌, subst, Bool, true, List, [], ◌++◌, Option, slice_get, length, nat_le, nat_lt}
use Rattle.std.specs.List.{flat_map}
use Rattle.lola_parser_grammar.specs.declared.declarations.Declaration.{Declaration}
use Rattle.lola_value.specs.declared.front.Refusal.{Refusal}
use Rattle.lola_model.specs.Named.{IsNamed, IsRanged, is_resolved, is_well_shaped, has_few_parameters, all_streams, is_stream_paced_in_range, is_window_of, windows_stand_here, all_numbers, all_windows, offset_in, window_number, literal_text}
use Rattle.lola_model.specs.Parts.{listed_spec}
use Rattle.lola_model.specs.Typing.{each_part}
use Rattle.lola_model.specs.Wholes.{noted_kinds, wholes_of, all_wholes}
use Rattle.lola_model.specs.declared.expr.Expr.{Expr}
use Rattle.lola_model.specs.declared.spec.Part.{Part}
use Rattle.lola_model.specs.declared.spec.Spec.{Spec}
use Rattle.lola_model.specs.declared.spec.Stream.{Stream}
use Rattle.lola_model.specs.declared.spec.WindowSpec.{WindowSpec}
use Rattle.lola_names_refused.specs.Known.{names_of}
use Rattle.lola_names_refused.specs.Refused.{all_repeats, too_many, input_places, stream_places, declaration_uses, refusals_of}
use Rattle.lola_model.specs.Constants.{literal_is_known, NotesConstants}
use Rattle.lola_names.specs.Targets.{targets_of}
use Rattle.lola_names.specs.Specification.{Resolves}
use Rattle.lola_names.specs.Meant.{ClosesAreSpawned}
use Rattle.lola_names.proofs.Basics.{none_left, none_right}
use Rattle.lola_names.proofs.Formulas.{streams_over}
use Rattle.lola_names.proofs.Listed.{wholes_weaker, each_listed, streams_listed, clauses_range, windows_pass, targets_range}
use Rattle.lola_names.proofs.Names.{new_names}
use Rattle.lola_names.proofs.Shapes.{IsStreamTest, few_places, streams_count, inputs_count, streams_all, few_test, shape_test, rate_test}
use Rattle.lola_names.proofs.TargetsNamed.{fits_declared}
use Rattle.lola_names.proofs.Tests.{is_span_if, has_target_if, resolved_test, offset_test, place_test, target_test, text_test, constant_test, low_offset_test, span_test}
use Rattle.lola_names.proofs.Wholes.{IsPassingEverywhere, is_passed, streams_pass}

module _ (ds : List Declaration) (spec : Spec) (closes : ClosesAreSpawned ds) (none : refusals_of ds ≡ []) (r : Resolves ds spec) where
  abbrev repeats : List Refusal
  repeats = all_repeats [] ds

  abbrev inputs_beyond : List Refusal
  inputs_beyond = too_many 64 (flat_map input_places ds)

  abbrev streams_beyond : List Refusal
  streams_beyond = too_many 1024 (flat_map stream_places ds)

  abbrev all_uses : List Refusal
  all_uses = flat_map (declaration_uses (names_of ds)) ds

  no_repeats : repeats ≡ []
  no_repeats = none_left repeats (inputs_beyond ++ (streams_beyond ++ all_uses)) none

  not_many : inputs_beyond ++ (streams_beyond ++ all_uses) ≡ []
  not_many = none_right repeats (inputs_beyond ++ (streams_beyond ++ all_uses)) none

  few_inputs : length (flat_map input_places ds) ≤ 64
  few_inputs = few_places 64 (flat_map input_places ds) (none_left inputs_beyond (streams_beyond ++ all_uses) not_many)

  few_streams : length (flat_map stream_places ds) ≤ 1024
  few_streams = few_places 1024 (flat_map stream_places ds) (none_left streams_beyond all_uses (none_right inputs_beyond (streams_beyond ++ all_uses) not_many))

  no_uses : all_uses ≡ []
  no_uses = none_right streams_beyond all_uses (none_right inputs_beyond (streams_beyond ++ all_uses) not_many)

  -- tests of wholes

  module _ (G : Type 0) (ranged : G → spec.refused ≡ []) where
    wholes_pass : (t : ℕ → Part → ℕ → Expr → Bool) → IsPassingEverywhere ds spec.streams 64 spec.texts spec.windows G t
        → all_wholes (is_passed ds spec.streams 64 spec.texts spec.windows G t) (wholes_of spec) ≡ true
    wholes_pass t passing =
        streams_pass ds spec.streams 64 spec.texts spec.windows G t passing r.streams few_inputs 0 0 ds spec.streams (noted_kinds spec.streams) no_uses (λ g. sym r.refused ∙ ranged g) r.streams

    listed_pass : (f : ℕ → Bool) (g : Expr → List ℕ) → IsPassingEverywhere ds spec.streams 64 spec.texts spec.windows G (λ n p k e. all_numbers f (g e)) → all_numbers f (listed_spec g spec) ≡ true
    listed_pass f g passing = streams_listed f g 0 spec.streams (noted_kinds spec.streams) (wholes_pass (λ n p k e. all_numbers f (g e)) passing)

    all_windows_pass : (f : Option WindowSpec → Bool) → IsPassingEverywhere ds spec.streams 64 spec.texts spec.windows G (λ n p k e. all_numbers (λ i. f (slice_get spec.windows i)) (window_number e))
        → all_windows (λ w. f (Some w)) spec.windows ≡ true
    all_windows_pass f passing = windows_pass f spec.windows (listed_spec window_number spec) r.window_numbers (listed_pass (λ i. f (slice_get spec.windows i)) window_number passing)

    streams_pass_test : (f : Stream → Bool) → IsStreamTest ds (targets_of ds) spec.texts spec.windows (names_of ds) G f → all_streams f spec.streams ≡ true
    streams_pass_test f test = streams_all ds (targets_of ds) spec.texts spec.windows (names_of ds) G f test 0 0 ds spec.streams no_uses closes (λ g. sym r.refused ∙ ranged g) r.streams

  never_ranged : ⊥ → spec.refused ≡ []
  never_ranged h = absurd h

  resolved : all_wholes (λ w. each_part (is_resolved spec (length w.parameters)) w.expr) (wholes_of spec) ≡ true
  resolved = wholes_pass ⊥ never_ranged (λ n p k. is_resolved spec k) (resolved_test ds 64 spec ⊥)

  in_ranges : spec.refused ≡ [] → IsRanged spec
  in_ranges e = record {
    rates = streams_pass_test (Unit {0}) (λ g. e) is_stream_paced_in_range (rate_test ds (targets_of ds) spec.texts spec.windows (names_of ds));
    offsets = listed_pass (Unit {0}) (λ g. e) (λ k. nat_le 1 k) offset_in (low_offset_test ds 64 spec (Unit {0}) tt);
    window_spans = all_windows_pass (Unit {0}) (λ g. e) is_span_if (span_test ds 64 spec (Unit {0}) tt);
  }

  pub resolved_named : IsNamed spec
  resolved_named = record {
    few_streams = subst (λ m. m ≤ 1024) (sym (streams_count ds (targets_of ds) spec.texts spec.windows 0 0 ds spec.streams r.streams)) few_streams;
    few_inputs = subst (λ m. m ≤ 64) (sym (inputs_count ds (targets_of ds) spec.texts spec.windows 0 0 ds spec.streams r.streams)) few_inputs;
    few_parameters = streams_pass_test ⊥ never_ranged has_few_parameters (few_test ds (targets_of ds) spec.texts spec.windows (names_of ds) ⊥);
    shapes = streams_pass_test ⊥ never_ranged is_well_shaped (shape_test ds (targets_of ds) spec.texts spec.windows (names_of ds) ⊥);
    names = (new_names ds (targets_of ds) spec.texts spec.windows [] 0 0 ds spec.streams no_repeats r.streams).distinct;
    numbers = record {
      clauses = clauses_range spec 0 spec.streams (noted_kinds spec.streams) resolved;
      targets = targets_range (length spec.streams) (length spec.windows) spec.windows (all_windows_pass ⊥ never_ranged (has_target_if (length spec.streams)) (target_test ds 64 spec ⊥));
    };
    resolved = resolved;
    offsets = listed_pass ⊥ never_ranged (λ k. nat_le k 4096) offset_in (offset_test ds 64 spec ⊥);
    window_numbers = r.window_numbers;
    window_places =
        wholes_weaker (is_passed ds spec.streams 64 spec.texts spec.windows ⊥ (λ n p k e. all_numbers (λ i. is_window_of n p (slice_get spec.windows i)) (window_number e))) (windows_stand_here spec.windows)
        (λ w. each_listed (λ i. is_window_of w.stream w.clause (slice_get spec.windows i)) window_number w.expr) (wholes_of spec)
        (wholes_pass ⊥ never_ranged (λ n p k e. all_numbers (λ i. is_window_of n p (slice_get spec.windows i)) (window_number e)) (place_test ds 64 spec ⊥));
    texts = r.texts;
    text_numbers = listed_pass ⊥ never_ranged (λ i. nat_lt i (length spec.texts)) literal_text (text_test ds 64 spec ⊥);
    texts_used = r.texts_used;
    ranges = in_ranges;
    formulas =
        streams_over ds spec.streams (targets_of ds) spec.texts spec.windows (names_of ds)
        (fits_declared (record { declarations = ds; streams = spec.streams; inputs = 64; parameters = 0 }) (targets_of ds) spec.texts spec.windows 0 r.streams few_inputs)
        0 0 ds spec.streams no_uses r.streams;
  }

  pub resolved_notes : NotesConstants spec
  resolved_notes = wholes_pass ⊥ never_ranged (λ n p k. literal_is_known spec.constants) (constant_test ds 64 spec ⊥ r.constants)
