-- The streams that declarations are resolved to: how many there are, their shapes and the ranges of their rates.
use Rattle.std.proofs.Common.{◌≡◌, ◌≤◌, ◌+◌, ℕ, suc, arith, refl, sym, ap, ◌∙◌, subst, Bool, true, false, not, ◌&&◌, ◌||◌, List, [], ◌∷◌, ◌++◌, Option, Some, None, IsSome, slice_get, length, map, drop, nat_eq, nat_le, length-append}
use Rattle.std.specs.Prelude.{filter}
use Rattle.std.specs.List.{flat_map}
use Rattle.std.proofs.lemmas.Bool.Decides.{nat_tests}
use Rattle.std.proofs.lemmas.Bool.{and_from}
use Rattle.lola_value.specs.declared.value.Kind.{Kind}
use Rattle.lola_value.specs.declared.front.Code.TheVariants as code
use Rattle.lola_parser_grammar.specs.declared.literals.Typed.{Typed}
use Rattle.lola_parser_grammar.specs.declared.pacing.Rhythm.{Rhythm}
use Rattle.lola_parser_grammar.specs.declared.pacing.Rhythm.TheVariants as r
use Rattle.lola_parser_grammar.specs.declared.pacing.Pacing.{Pacing}
use Rattle.lola_parser_grammar.specs.declared.clauses.Part.{Part as TreePart}
use Rattle.lola_parser_grammar.specs.declared.clauses.Spawn.{Spawn}
use Rattle.lola_parser_grammar.specs.declared.clauses.Eval.{Eval}
use Rattle.lola_parser_grammar.specs.declared.clauses.Close.{Close}
use Rattle.lola_parser_grammar.specs.declared.declarations.Output.{Output}
use Rattle.lola_parser_grammar.specs.declared.declarations.Trigger.{Trigger}
use Rattle.lola_parser_grammar.specs.declared.declarations.Declaration.{Declaration}
use Rattle.lola_parser_grammar.specs.declared.declarations.Declaration.TheVariants as d
use Rattle.lola_model.specs.Model.{is_input}
use Rattle.lola_model.specs.Named.{has_clause, count_with, is_condition, has_when, is_of_bool, is_well_shaped, is_output_shape, is_trigger_shape, has_few_parameters, all_streams, is_pace_in_range, is_clause_paced_in_range, is_stream_paced_in_range}
use Rattle.lola_model.specs.declared.expr.Expr.{Expr}
use Rattle.lola_model.specs.declared.spec.WrittenRate.TheVariants as rate
use Rattle.lola_model.specs.declared.spec.Pace.{Pace}
use Rattle.lola_model.specs.declared.spec.Pace.TheVariants as pace
use Rattle.lola_model.specs.declared.spec.Clause.{Clause}
use Rattle.lola_model.specs.declared.spec.Stream.{Stream}
use Rattle.lola_model.specs.declared.spec.WindowSpec.{WindowSpec}
use Rattle.lola_names_refused.specs.Known.{Known, with_names, parameters_of}
use Rattle.lola_names_refused.specs.Refused.{of_option, beyond, too_many, places_of, input_places, stream_places, kind_use, kind_uses, count_spawned, unless, head_uses, clause_uses, declaration_uses}
use Rattle.lola_names.specs.Targets.{Targets}
use Rattle.lola_names.specs.Resolved.{Standing, kind_spelled}
use Rattle.lola_names.specs.Clauses.{IsOptional, IsPart, ArePartsOf, IsPace, IsPacing, IsSpawn, IsEval, IsClose, IsTriggerClause, IsOutput, IsTrigger, input_stream}
use Rattle.lola_names.specs.Specification.{AreStreams, part_ranges, rhythm_ranges, pacing_ranges, pace_in, spawn_ranges, eval_ranges, close_ranges, output_ranges, trigger_ranges, ranges_of}
use Rattle.lola_names.specs.Specification as specification
use Rattle.lola_names.specs.Meant.{ClosesSpawned, ClosesAreSpawned}
use Rattle.lola_names.proofs.Basics.{none_left, none_right, some_none, slice_short, length_mapped, drop_behind}
use Rattle.lola_names.proofs.ExpressionsNamed.{unless_none}

-- no more than the most that there may be
pub few_places : (most : ℕ) (places : List ℕ) → too_many most places ≡ [] → length places ≤ most
few_places most places h = slice_short places most (none_beyond (slice_get places most) h)
  where
    none_beyond : (o : Option ℕ) → beyond o ≡ [] → o ≡ None
    none_beyond None h = refl
    none_beyond (Some at) h = some_none (record { code = code.TooMany; at = at }) [] h

module _ (ds : List Declaration) (targets : Targets) (texts : List (List ℕ)) (windows : List WindowSpec) where
  -- how many streams and inputs there are

  pub streams_count : (n j : ℕ) (xs : List Declaration) (rest : List Stream) → AreStreams ds targets texts windows n j xs rest → length rest ≡ length (flat_map stream_places xs)
  streams_count n j [] rest is = ap length is
  streams_count n j (d.Inputs x ∷ xs) rest is =
      ap length is.1
      ∙ (length-append (map input_stream x.inputs) is.0
      ∙ (ap (λ m. m + length is.0) (length_mapped input_stream x.inputs ∙ sym (length_mapped (λ (t : Typed). t.name.at) x.inputs))
      ∙ (ap (λ m. length (places_of x.inputs) + m) (streams_count (n + length x.inputs) j xs is.0 is.2) ∙ sym (length-append (places_of x.inputs) (flat_map stream_places xs)))))
  streams_count n j (d.Constant x ∷ xs) rest is = streams_count n j xs rest is
  streams_count n j (d.Output x ∷ xs) [] is = absurd is
  streams_count n j (d.Output x ∷ xs) (s ∷ rest) is = ap suc (streams_count (n + 1) j xs rest is.1)
  streams_count n j (d.Trigger x ∷ xs) [] is = absurd is
  streams_count n j (d.Trigger x ∷ xs) (s ∷ rest) is = ap suc (streams_count (n + 1) (j + 1) xs rest is.1)

  inputs_before : (ts : List Typed) (rest : List Stream) → length (filter is_input (map input_stream ts ++ rest)) ≡ length (places_of ts) + length (filter is_input rest)
  inputs_before [] rest = omega arith
  inputs_before (t ∷ ts) rest = let h = inputs_before ts rest in omega (arith, h)

  pub inputs_count : (n j : ℕ) (xs : List Declaration) (rest : List Stream) → AreStreams ds targets texts windows n j xs rest → length (filter is_input rest) ≡ length (flat_map input_places xs)
  inputs_count n j [] rest is = ap (λ l. length (filter is_input l)) is
  inputs_count n j (d.Inputs x ∷ xs) rest is =
      ap (λ l. length (filter is_input l)) is.1
      ∙ (inputs_before x.inputs is.0
      ∙ (ap (λ m. length (places_of x.inputs) + m) (inputs_count (n + length x.inputs) j xs is.0 is.2) ∙ sym (length-append (places_of x.inputs) (flat_map input_places xs))))
  inputs_count n j (d.Constant x ∷ xs) rest is = inputs_count n j xs rest is
  inputs_count n j (d.Output x ∷ xs) [] is = absurd is
  inputs_count n j (d.Output x ∷ xs) (s ∷ rest) is = rw (is.0.sort) (inputs_count (n + 1) j xs rest is.1)
  inputs_count n j (d.Trigger x ∷ xs) [] is = absurd is
  inputs_count n j (d.Trigger x ∷ xs) (s ∷ rest) is = rw (is.0.sort) (inputs_count (n + 1) (j + 1) xs rest is.1)

  -- a test of streams

  module _ (names : Known) (G : Type 0) where
    pub record IsStreamTest (f : Stream → Bool) : Type 0 where
      pub input : (t : Typed) → f (input_stream t) ≡ true
      pub output : (n : ℕ) (x : Output) (s : Stream) → head_uses x ≡ [] → ClosesSpawned x.spawn x.close → (G → output_ranges x s ≡ []) → IsOutput ds targets texts windows n x s → f s ≡ true
      pub trigger : (n j : ℕ) (x : Trigger) (s : Stream) → (G → trigger_ranges x s ≡ []) → IsTrigger ds targets texts windows n j x s → f s ≡ true

    module _ (f : Stream → Bool) (test : IsStreamTest f) where
      inputs_all : (ts : List Typed) (rest : List Stream) → all_streams f rest ≡ true → all_streams f (map input_stream ts ++ rest) ≡ true
      inputs_all [] rest h = h
      inputs_all (t ∷ ts) rest h = and_from (f (input_stream t)) (all_streams f (map input_stream ts ++ rest)) (test.input t) (inputs_all ts rest h)

      pub streams_all : (n j : ℕ) (xs : List Declaration) (rest : List Stream) → flat_map (declaration_uses names) xs ≡ [] → ClosesAreSpawned xs → (G → ranges_of xs rest ≡ [])
          → AreStreams ds targets texts windows n j xs rest → all_streams f rest ≡ true
      streams_all n j [] rest none closes ranged is = subst (λ l. all_streams f l ≡ true) (sym is) refl
      streams_all n j (d.Inputs x ∷ xs) rest none closes ranged is =
          let same : drop (length x.inputs) rest ≡ is.0 =
          ap (drop (length x.inputs)) is.1 ∙ (ap (λ m. drop m (map input_stream x.inputs ++ is.0)) (sym (length_mapped input_stream x.inputs)) ∙ drop_behind (map input_stream x.inputs) is.0) in
          subst (λ l. all_streams f l ≡ true) (sym is.1)
          (inputs_all x.inputs is.0
          (streams_all (n + length x.inputs) j xs is.0 (none_right (declaration_uses names (d.Inputs x)) (flat_map (declaration_uses names) xs) none) closes (λ g. ap (ranges_of xs) (sym same) ∙ ranged g) is.2))
      streams_all n j (d.Constant x ∷ xs) rest none closes ranged is =
          streams_all n j xs rest (none_right (declaration_uses names (d.Constant x)) (flat_map (declaration_uses names) xs) none) closes ranged is
      streams_all n j (d.Output x ∷ xs) [] none closes ranged is = absurd is
      streams_all n j (d.Output x ∷ xs) (s ∷ rest) none closes ranged is =
          and_from (f s) (all_streams f rest)
          (test.output n x s
          (none_left (head_uses x) (clause_uses (with_names [] (parameters_of x.parameters)) names x) (none_left (declaration_uses names (d.Output x)) (flat_map (declaration_uses names) xs) none))
          closes.0 (λ g. none_left (output_ranges x s) (ranges_of xs rest) (ranged g)) is.0)
          (streams_all (n + 1) j xs rest (none_right (declaration_uses names (d.Output x)) (flat_map (declaration_uses names) xs) none) closes.1 (λ g. none_right (output_ranges x s) (ranges_of xs rest) (ranged g)) is.1)
      streams_all n j (d.Trigger x ∷ xs) [] none closes ranged is = absurd is
      streams_all n j (d.Trigger x ∷ xs) (s ∷ rest) none closes ranged is =
          and_from (f s) (all_streams f rest)
          (test.trigger n (j + 1) x s (λ g. none_left (trigger_ranges x s) (ranges_of xs rest) (ranged g)) is.0)
          (streams_all (n + 1) (j + 1) xs rest (none_right (declaration_uses names (d.Trigger x)) (flat_map (declaration_uses names) xs) none) closes (λ g. none_right (trigger_ranges x s) (ranges_of xs rest) (ranged g)) is.1)

    -- parameters are few

    pub few_test : IsStreamTest has_few_parameters
    few_test = record {
      input = λ t. refl;
      output = λ n x s none closes ranged is.
          let few = few_places 4 (places_of x.parameters) (none_left (too_many 4 (places_of x.parameters))
          (kind_uses x.parameters ++ (of_option kind_use x.kind ++ unless (nat_eq (count_spawned x.spawn) (length x.parameters)) code.BadArity x.name.at)) none) in
          few_numbers (length s.parameters)
          (subst (λ m. m ≤ 4) (length_mapped (λ (t : Typed). t.name.at) x.parameters ∙ sym (ap length is.parameters ∙ length_mapped (λ (t : Typed). kind_spelled t.kind) x.parameters)) few);
      trigger = λ n j x s ranged is. rw (is.parameters) refl;
    }
      where
        few_numbers : (m : ℕ) → m ≤ 4 → nat_le m 4 ≡ true
        few_numbers m h = grind (arith, nat_tests)

    -- shapes

    parts_count : (here : Standing) (xs : List TreePart) (rs : List Expr) → ArePartsOf ds targets texts windows here xs rs → length rs ≡ length xs
    parts_count here [] [] h = refl
    parts_count here (x ∷ xs) (q ∷ rs) h = ap suc (parts_count here xs rs h.1)
    parts_count here [] (q ∷ rs) h = absurd h
    parts_count here (x ∷ xs) [] h = absurd h

    eval_count : (here : Standing) (x : Eval) (o : Option Clause) → IsOptional (IsEval ds targets texts windows here) (Some x) o → count_with o ≡ 1
    eval_count here x None h = absurd h
    eval_count here x (Some c) h = parts_count here (x.with ∷ []) c.with h.result

    trigger_count : (here : Standing) (x : Trigger) (o : Option Clause) → IsOptional (IsTriggerClause ds targets texts windows here) (Some x) o → count_with o ≡ 1
    trigger_count here x None h = absurd h
    trigger_count here x (Some c) h = parts_count here (x.when ∷ []) c.with h.result

    trigger_when : (here : Standing) (x : Trigger) (o : Option Clause) → IsOptional (IsTriggerClause ds targets texts windows here) (Some x) o → has_when o ≡ false
    trigger_when here x None h = absurd h
    trigger_when here x (Some c) h = ap is_condition h.condition

    spawn_count : (here : Standing) (x : Option Spawn) (o : Option Clause) → IsOptional (IsSpawn ds targets texts windows here) x o → count_with o ≡ count_spawned x
    spawn_count here None None h = refl
    spawn_count here (Some x) (Some c) h = parts_count here x.with c.with h.parameters
    spawn_count here None (Some c) h = absurd h
    spawn_count here (Some x) None h = absurd h

    spawn_has : (here : Standing) (x : Option Spawn) (o : Option Clause) → IsOptional (IsSpawn ds targets texts windows here) x o → IsSome x → has_clause o ≡ true
    spawn_has here None o h some = absurd (cc)
    spawn_has here (Some x) (Some c) h some = refl
    spawn_has here (Some x) None h some = absurd h

    close_shape : (here there : Standing) (x : Option Close) (o : Option Clause) (y : Option Spawn) (q : Option Clause) → IsOptional (IsClose ds targets texts windows here) x o
        → IsOptional (IsSpawn ds targets texts windows there) y q → ClosesSpawned y x
        → ((not (has_clause o) || (has_when o && has_clause q)) && nat_eq (count_with o) 0) ≡ true
    close_shape here there None None y q h k c = refl
    close_shape here there None (Some o) y q h k c = absurd h
    close_shape here there (Some x) None y q h k c = absurd h
    close_shape here there (Some x) (Some o) y q h k c =
        and_from (has_when (Some o) && has_clause q) (nat_eq (length o.with) 0)
        (and_from (has_when (Some o)) (has_clause q) (when_there o.when h.condition) (spawn_has there y q k c))
        (ap (λ (l : List Expr). nat_eq (length l) 0) h.parameters)
      where
        when_there : (w : Option Expr) → IsOptional (IsPart ds targets texts windows here) (Some x.when) w → is_condition w ≡ true
        when_there None h = absurd h
        when_there (Some e) h = refl

    pub shape_test : IsStreamTest is_well_shaped
    shape_test = record {
      input = λ t. refl;
      output = λ n x s none closes ranged is. rw (is.sort) (output_shape n x s none closes is);
      trigger = λ n j x s ranged is. rw (is.sort) (trigger_shape n j x s is);
    }
      where
        output_shape : (n : ℕ) (x : Output) (s : Stream) → head_uses x ≡ [] → ClosesSpawned x.spawn x.close → IsOutput ds targets texts windows n x s → is_output_shape s ≡ true
        output_shape n x s none closes is =
            let many : length s.parameters ≡ length x.parameters = ap length is.parameters ∙ length_mapped (λ (t : Typed). kind_spelled t.kind) x.parameters in
            let arity = unless (nat_eq (count_spawned x.spawn) (length x.parameters)) code.BadArity x.name.at in
            let as_many : nat_eq (count_spawned x.spawn) (length x.parameters) ≡ true =
            unless_none (nat_eq (count_spawned x.spawn) (length x.parameters)) code.BadArity x.name.at
            (none_right (of_option kind_use x.kind) arity (none_right (kind_uses x.parameters) (of_option kind_use x.kind ++ arity)
            (none_right (too_many 4 (places_of x.parameters)) (kind_uses x.parameters ++ (of_option kind_use x.kind ++ arity)) none))) in
            and_from (nat_eq (count_with s.eval) 1) _ (ap (λ m. nat_eq m 1) (eval_count _ x.eval s.eval is.eval))
            (and_from (nat_eq (count_with s.spawn) (length s.parameters)) _ (rw (spawn_count _ x.spawn s.spawn is.spawn) (rw many as_many))
            (close_shape _ _ x.close s.close x.spawn s.spawn is.close is.spawn closes))

        trigger_shape : (n j : ℕ) (x : Trigger) (s : Stream) → IsTrigger ds targets texts windows n j x s → is_trigger_shape s ≡ true
        trigger_shape n j x s is =
            and_from (is_of_bool s.kind) _ (ap is_of_bool is.kind)
            (and_from (nat_eq (count_with s.eval) 1) _ (ap (λ m. nat_eq m 1) (trigger_count _ x s.eval is.eval))
            (and_from (not (has_when s.eval)) _ (ap not (trigger_when _ x s.eval is.eval))
            (and_from (nat_eq (length s.parameters) 0) _ (ap (λ (l : List Kind). nat_eq (length l) 0) is.parameters)
            (and_from (not (has_clause s.spawn)) _ (ap (λ o. not (has_clause o)) is.spawn) (ap (λ o. not (has_clause o)) is.close)))))

  -- rates

  pace_ranged : (at : ℕ) (x : Rhythm) (y : Pace) → IsPace targets at x y → rhythm_ranges x y ≡ [] → is_pace_in_range (Some y) ≡ true
  pace_ranged at (r.Rate q) (pace.Rate p rate.OutOfRange) h none = some_none q.at [] none
  pace_ranged at (r.Rate q) (pace.Rate p rate.TooFast) h none = refl
  pace_ranged at (r.Rate q) (pace.Rate p (rate.Of w)) h none = refl
  pace_ranged at (r.Global q) (pace.Global p rate.OutOfRange) h none = some_none q.at [] none
  pace_ranged at (r.Global q) (pace.Global p rate.TooFast) h none = refl
  pace_ranged at (r.Global q) (pace.Global p (rate.Of w)) h none = refl
  pace_ranged at (r.Local q) (pace.Local p rate.OutOfRange) h none = some_none q.at [] none
  pace_ranged at (r.Local q) (pace.Local p rate.TooFast) h none = refl
  pace_ranged at (r.Local q) (pace.Local p (rate.Of w)) h none = refl
  pace_ranged at (r.Formula f) (pace.Event p s) h none = refl
  pace_ranged at _ _ h none = absurd h

  pacing_ranged : (x : Option Pacing) (y : Option Pace) → IsPacing targets x y → pacing_ranges x y ≡ [] → is_pace_in_range y ≡ true
  pacing_ranged None None h none = refl
  pacing_ranged (Some x) (Some y) h none = pace_ranged x.at x.rhythm y h none
  pacing_ranged None (Some y) h none = absurd h
  pacing_ranged (Some x) None h none = absurd h

  spawn_ranged : (here : Standing) (x : Option Spawn) (o : Option Clause) → IsOptional (IsSpawn ds targets texts windows here) x o → specification.of_option (spawn_ranges o) x ≡ [] → is_clause_paced_in_range o ≡ true
  spawn_ranged here None None h none = refl
  spawn_ranged here (Some x) (Some c) h none = pacing_ranged x.pacing c.pace h.pacing (none_left (pacing_ranges x.pacing c.pace) (specification.of_option part_ranges x.when ++ flat_map part_ranges x.with) none)
  spawn_ranged here None (Some c) h none = absurd h
  spawn_ranged here (Some x) None h none = absurd h

  eval_ranged : (here : Standing) (x : Eval) (o : Option Clause) → IsOptional (IsEval ds targets texts windows here) (Some x) o → eval_ranges o x ≡ [] → is_clause_paced_in_range o ≡ true
  eval_ranged here x None h none = absurd h
  eval_ranged here x (Some c) h none = pacing_ranged x.pacing c.pace h.pacing (none_left (pacing_ranges x.pacing c.pace) (specification.of_option part_ranges x.when ++ part_ranges x.with) none)

  close_ranged : (here : Standing) (x : Option Close) (o : Option Clause) → IsOptional (IsClose ds targets texts windows here) x o → specification.of_option (close_ranges o) x ≡ [] → is_clause_paced_in_range o ≡ true
  close_ranged here None None h none = refl
  close_ranged here (Some x) (Some c) h none = pacing_ranged x.pacing c.pace h.pacing (none_left (pacing_ranges x.pacing c.pace) (part_ranges x.when) none)
  close_ranged here None (Some c) h none = absurd h
  close_ranged here (Some x) None h none = absurd h

  trigger_ranged : (here : Standing) (x : Trigger) (o : Option Clause) → IsOptional (IsTriggerClause ds targets texts windows here) (Some x) o → pacing_ranges x.pacing (pace_in o) ++ part_ranges x.when ≡ [] → is_clause_paced_in_range o ≡ true
  trigger_ranged here x None h none = absurd h
  trigger_ranged here x (Some c) h none = pacing_ranged x.pacing c.pace h.pacing (none_left (pacing_ranges x.pacing c.pace) (part_ranges x.when) none)

  pub rate_test : (names : Known) → IsStreamTest names (Unit {0}) is_stream_paced_in_range
  rate_test names = record {
    input = λ t. refl;
    output = λ n x s none closes ranged is.
        let rs = specification.of_option (spawn_ranges s.spawn) x.spawn in
        let re = eval_ranges s.eval x.eval in
        let rc = specification.of_option (close_ranges s.close) x.close in
        and_from (is_clause_paced_in_range s.spawn) (is_clause_paced_in_range s.eval && is_clause_paced_in_range s.close)
        (spawn_ranged _ x.spawn s.spawn is.spawn (none_left rs (re ++ rc) (ranged tt)))
        (and_from (is_clause_paced_in_range s.eval) (is_clause_paced_in_range s.close)
        (eval_ranged _ x.eval s.eval is.eval (none_left re rc (none_right rs (re ++ rc) (ranged tt))))
        (close_ranged _ x.close s.close is.close (none_right re rc (none_right rs (re ++ rc) (ranged tt)))));
    trigger = λ n j x s ranged is.
        and_from (is_clause_paced_in_range s.spawn) (is_clause_paced_in_range s.eval && is_clause_paced_in_range s.close)
        (ap is_clause_paced_in_range is.spawn)
        (and_from (is_clause_paced_in_range s.eval) (is_clause_paced_in_range s.close) (trigger_ranged _ x s.eval is.eval (ranged tt)) (ap is_clause_paced_in_range is.close));
  }
