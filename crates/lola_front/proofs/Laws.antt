-- A specification whose kinds are filled in is named, and typed where nothing of it is refused.
use Rattle.std.proofs.Common.{◌≡◌, ◌<◌, ◌≤◌, ℕ, refl, ap, sym, ◌∙◌, subst, true, List, [], ◌∷◌, ◌++◌, Option, nat_lt, nat_le, length, slice_get, flat_map}
use Rattle.std.specs.List.{Contains}
use Rattle.lola_value.specs.declared.value.Kind.{Kind}
use Rattle.lola_model.specs.Accepted.{AreClausesInRange, AreTargetsInRange, IsSpecInRange}
use Rattle.lola_model.specs.Named.{IsNamed, IsRanged, are_distinct, is_resolved, whole_is_resolved, all_numbers, offset_in, window_number, is_window_of, windows_stand_here, literal_text, counted, is_span, all_windows}
use Rattle.lola_model.specs.Parts.{listed, listed_spec}
use Rattle.lola_model.specs.Store.{layouts_from}
use Rattle.lola_model.specs.Typed.{IsTyped, all_constants, constant_is_typed}
use Rattle.lola_model.specs.Typing.{is_kind_at, is_whole}
use Rattle.lola_model.specs.Wholes.{wholes_from, noted_kinds, wholes_of, all_wholes}
use Rattle.lola_model.specs.declared.expr.Expr.{Expr}
use Rattle.lola_model.specs.declared.spec.Part.{Part}
use Rattle.lola_model.specs.declared.spec.Spec.{Spec}
use Rattle.lola_types.specs.Found.{Setting}
use Rattle.lola_types.specs.LeftOut.{kinds_of, setting_of}
use Rattle.lola_types.specs.Refused.{constant_refusals, refusals_of_whole, range_refusals, kind_refusals}
use Rattle.lola_types.specs.Filled.{IsFilled}
use Rattle.lola_types.proofs.RoundLemmas.{all_found}
use Rattle.lola_model.specs.Constants.{whole_is_known, NotesConstants}
use Rattle.lola_front.proofs.Bools.{none_left, none_right}
use Rattle.lola_front.proofs.Alike.{Any, alike_each, alike_resolved, alike_offset, alike_window, alike_text}
use Rattle.lola_front.proofs.Kept.{IsKept, kept_listed, listed_streams_kept, wholes_kept, streams_range}
use Rattle.lola_front.proofs.Streams.{kinds_keep, shapes_kept, few_parameters_kept, rates_kept, length_kept, inputs_kept, names_kept, reads_kept, over_inputs_kept, kinds_noted}
use Rattle.lola_front.proofs.Typed.{wholes_both, constants_typed, constant_fits, agreeing, streams_typed}

none_in_range : (ats : List ℕ) → range_refusals ats ≡ [] → ats ≡ []
none_in_range [] h = refl
none_in_range (a ∷ ats) h = absurd (cc)

module _ (spec full : Spec) (h : IsFilled spec full) where
  abbrev kinds : List (Option Kind)
  kinds = kinds_of spec

  abbrev base : Setting
  base = setting_of spec kinds []

  offsets_same : listed_spec offset_in spec ≡ listed_spec offset_in full
  offsets_same = listed_streams_kept ℕ offset_in (alike_offset Any) base kinds spec.streams full.streams h.streams

  windows_same : listed_spec window_number spec ≡ listed_spec window_number full
  windows_same = listed_streams_kept ℕ window_number (alike_window Any) base kinds spec.streams full.streams h.streams

  texts_same : listed_spec literal_text spec ≡ listed_spec literal_text full
  texts_same = listed_streams_kept ℕ literal_text (alike_text Any) base kinds spec.streams full.streams h.streams

  as_many : length spec.streams ≡ length full.streams
  as_many = length_kept base kinds spec.streams full.streams h.streams

  as_many_windows : length spec.windows ≡ length full.windows
  as_many_windows = ap length (sym h.windows)

  resolved_same : all_wholes (whole_is_resolved spec) (wholes_of spec) ≡ all_wholes (whole_is_resolved full) (wholes_of full)
  resolved_same = wholes_kept (whole_is_resolved spec) (whole_is_resolved full) same base 0 kinds (noted_kinds spec.streams) (noted_kinds full.streams) spec.streams full.streams h.streams
    where
      same : (n : ℕ) (p : Part) (ks : List Kind) (k l : Kind) (at bt : ℕ) (e d : Expr) → IsKept e d
          → whole_is_resolved spec (record { stream = n; clause = p; parameters = ks; want = k; before = at; expr = e }) ≡ whole_is_resolved full (record { stream = n; clause = p; parameters = ks; want = l; before = bt; expr = d })
      same n p ks k l at bt e d m =
          alike_each Any (is_resolved spec (length ks)) (is_resolved spec (length ks)) (alike_resolved Any spec spec (length ks) (λ i c. refl) refl) e m.0 m.1
          ∙ alike_each Any (is_resolved spec (length ks)) (is_resolved full (length ks)) (alike_resolved Any spec full (length ks) (reads_kept base kinds spec.streams full.streams h.streams) (sym h.windows)) m.0 d m.2

  places_same : all_wholes (windows_stand_here spec.windows) (wholes_of spec) ≡ all_wholes (windows_stand_here full.windows) (wholes_of full)
  places_same = wholes_kept (windows_stand_here spec.windows) (windows_stand_here full.windows) same base 0 kinds (noted_kinds spec.streams) (noted_kinds full.streams) spec.streams full.streams h.streams
    where
      same : (n : ℕ) (p : Part) (ks : List Kind) (k l : Kind) (at bt : ℕ) (e d : Expr) → IsKept e d
          → windows_stand_here spec.windows (record { stream = n; clause = p; parameters = ks; want = k; before = at; expr = e }) ≡ windows_stand_here full.windows (record { stream = n; clause = p; parameters = ks; want = l; before = bt; expr = d })
      same n p ks k l at bt e d m =
          ap (λ x. all_numbers (λ i. is_window_of n p (slice_get spec.windows i)) x) (kept_listed ℕ window_number (alike_window Any) e d m)
          ∙ ap (λ ws. all_numbers (λ i. is_window_of n p (slice_get ws i)) (listed window_number d)) (sym h.windows)

  ranged_kept : IsRanged spec → IsRanged full
  ranged_kept r = record {
    rates = sym (rates_kept base kinds spec.streams full.streams h.streams) ∙ r.rates;
    offsets = subst (λ x. all_numbers (λ k. nat_le 1 k) x ≡ true) offsets_same r.offsets;
    window_spans = subst (λ ws. all_windows is_span ws ≡ true) (sym h.windows) r.window_spans;
  }

  numbers_kept : IsSpecInRange spec → IsSpecInRange full
  numbers_kept r = record {
    clauses = subst (λ w. AreClausesInRange (length full.streams) w full.streams) as_many_windows
        (subst (λ n. AreClausesInRange n (length spec.windows) full.streams) as_many
        (streams_range (length spec.streams) (length spec.windows) base kinds spec.streams full.streams h.streams r.clauses));
    targets = subst (λ ws. AreTargetsInRange (length full.streams) (length ws) ws) (sym h.windows)
        (subst (λ n. AreTargetsInRange n (length spec.windows) spec.windows) as_many r.targets);
  }

  pub filled_named : IsNamed spec → IsNamed full
  filled_named n = record {
    few_streams = subst (λ x. x ≤ 1024) as_many n.few_streams;
    few_inputs = subst (λ x. x ≤ 64) (inputs_kept base kinds spec.streams full.streams h.streams) n.few_inputs;
    few_parameters = sym (few_parameters_kept base kinds spec.streams full.streams h.streams) ∙ n.few_parameters;
    shapes = shapes_kept base kinds spec.streams full.streams (kinds_keep spec) h.streams n.shapes;
    names = subst (λ x. are_distinct x ≡ true) (names_kept base kinds spec.streams full.streams h.streams) n.names;
    numbers = numbers_kept n.numbers;
    resolved = sym resolved_same ∙ n.resolved;
    offsets = subst (λ x. all_numbers (λ k. nat_le k 4096) x ≡ true) offsets_same n.offsets;
    window_numbers = sym windows_same ∙ (n.window_numbers ∙ ap (counted 0) as_many_windows);
    window_places = sym places_same ∙ n.window_places;
    texts = subst (λ t. are_distinct t ≡ true) (sym h.texts) n.texts;
    text_numbers = subst (λ t. all_numbers (λ i. nat_lt i (length t)) (listed_spec literal_text full) ≡ true) (sym h.texts)
        (subst (λ x. all_numbers (λ i. nat_lt i (length spec.texts)) x ≡ true) texts_same n.text_numbers);
    texts_used = λ i lt. subst (λ x. Contains x i) texts_same (n.texts_used i (subst (λ t. i < length t) h.texts lt));
    ranges = λ e. ranged_kept (n.ranges (sym h.refused ∙ e));
    formulas = over_inputs_kept base kinds spec.streams full.streams h.streams n.formulas;
  }

  pub filled_typed : IsNamed spec → NotesConstants spec → kind_refusals spec ≡ [] → IsTyped full
  filled_typed n c r =
      let of_constants = flat_map constant_refusals spec.constants in
      let of_wholes = flat_map (refusals_of_whole base) (wholes_from 0 spec.streams kinds) in
      let constants_fit = constants_typed spec.constants (none_left of_constants (of_wholes ++ range_refusals spec.refused) r) in
      let r2 : of_wholes ++ range_refusals spec.refused ≡ [] = none_right of_constants (of_wholes ++ range_refusals spec.refused) r in
      let none : spec.refused ≡ [] = none_in_range spec.refused (none_right of_wholes (range_refusals spec.refused) r2) in
      let typed = streams_typed spec kinds (layouts_from full.streams [] []) (agreeing base kinds spec.streams full.streams h.streams (all_found spec)) (constant_fits spec.constants constants_fit)
      0 kinds (noted_kinds spec.streams) spec.streams full.streams h.streams (none_left of_wholes (range_refusals spec.refused) r2)
      (wholes_both (whole_is_resolved spec) (whole_is_known spec) (wholes_of spec) n.resolved c) in
      record {
        kinds = kinds_noted base kinds spec.streams full.streams h.streams;
        typed = subst (λ ws. all_wholes (λ w. is_whole (record { streams = layouts_from full.streams [] []; windows = ws; has_parameter = is_kind_at w.parameters }) w.want w.expr) (wholes_of full) ≡ true) (sym h.windows) typed;
        constants = subst (λ cs. all_constants constant_is_typed cs ≡ true) (sym h.constants) constants_fit;
        ranges = h.refused ∙ none;
        ranged = ranged_kept (n.ranges none);
      }
