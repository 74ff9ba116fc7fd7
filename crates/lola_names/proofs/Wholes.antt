-- A test that passes what names and literals are resolved to passes every part of a specification that is resolved.
use Rattle.std.proofs.Common.{◌≡◌, ◌≤◌, ◌+◌, ℕ, arith, refl, sym, ap, ◌∙◌, subst, Bool, true, List, [], ◌∷◌, ◌++◌, Option, Some, None, slice_get, unwrap_or, length, map, drop}
use Rattle.std.specs.List.{flat_map}
use Rattle.std.proofs.lemmas.Bool.{and_from}
use Rattle.lola_value.specs.declared.value.Kind.{Kind}
use Rattle.lola_value.specs.declared.value.Kind.TheVariants as kind
use Rattle.lola_parser_grammar.specs.declared.literals.Typed.{Typed}
use Rattle.lola_parser_grammar.specs.declared.expressions.Expr.{Expr as TreeExpr}
use Rattle.lola_parser_grammar.specs.declared.clauses.Part.{Part as TreePart}
use Rattle.lola_parser_grammar.specs.declared.clauses.Spawn.{Spawn}
use Rattle.lola_parser_grammar.specs.declared.clauses.Eval.{Eval}
use Rattle.lola_parser_grammar.specs.declared.clauses.Close.{Close}
use Rattle.lola_parser_grammar.specs.declared.declarations.Output.{Output}
use Rattle.lola_parser_grammar.specs.declared.declarations.Trigger.{Trigger}
use Rattle.lola_parser_grammar.specs.declared.declarations.Declaration.{Declaration}
use Rattle.lola_parser_grammar.specs.declared.declarations.Declaration.TheVariants as d
use Rattle.lola_model.specs.Typing.{each_part}
use Rattle.lola_model.specs.Wholes.{Whole, condition_wholes, with_wholes, clause_wholes, stream_wholes, wholes_from, all_wholes}
use Rattle.lola_model.specs.declared.expr.Expr.{Expr}
use Rattle.lola_model.specs.declared.spec.Clause.{Clause}
use Rattle.lola_model.specs.declared.spec.Part.{Part}
use Rattle.lola_model.specs.declared.spec.Part.TheVariants as part
use Rattle.lola_model.specs.declared.spec.Stream.{Stream}
use Rattle.lola_model.specs.declared.spec.WindowSpec.{WindowSpec}
use Rattle.lola_names_refused.specs.Table.{meaning_in}
use Rattle.lola_names_refused.specs.Known.{Known, names_of, parameters_of, with_names}
use Rattle.lola_names_refused.specs.Refused.{of_option, input_places, uses, when_uses, with_uses, pacing_uses, spawn_uses, eval_uses, close_uses, head_uses, output_uses, declaration_uses}
use Rattle.lola_names.specs.Targets.{Targets, targets_of, parameter_targets}
use Rattle.lola_names.specs.Resolved.{Standing, IsResolved, kind_spelled}
use Rattle.lola_names.specs.Clauses.{IsOptional, IsPart, ArePartsOf, IsSpawn, IsEval, IsClose, IsTriggerClause, IsOutput, IsTrigger, input_stream}
use Rattle.lola_names.specs.Specification.{AreStreams, expr_ranges, part_ranges, pacing_ranges, pace_in, spawn_ranges, eval_ranges, close_ranges, output_ranges, trigger_ranges, ranges_of}
use Rattle.lola_names.specs.Specification as specification
use Rattle.lola_names.proofs.Basics.{left_of, right_of, none_left, none_right, length_mapped, drop_behind}
use Rattle.lola_names.proofs.TargetsNamed.{Around, fits_hidden, fits_parameters, fits_declared}
use Rattle.lola_names.proofs.ExpressionsNamed.{IsPassing, resolved_passes}

pub wholes_both : (f : Whole → Bool) (xs ys : List Whole) → all_wholes f xs ≡ true → all_wholes f ys ≡ true → all_wholes f (xs ++ ys) ≡ true
wholes_both f [] ys h k = k
wholes_both f (x ∷ xs) ys h k = and_from (f x) (all_wholes f (xs ++ ys)) (left_of (f x) (all_wholes f xs) h) (wholes_both f xs ys (right_of (f x) (all_wholes f xs) h) k)

abbrev standing : ℕ → Part → Targets → Standing
standing n p ps = record { stream = n; clause = p; parameters = ps }

abbrev around : List Declaration → List Stream → ℕ → ℕ → Around
around ds ss inputs k = record { declarations = ds; streams = ss; inputs = inputs; parameters = k }

module _ (ds : List Declaration) (ss : List Stream) (inputs : ℕ) (texts : List (List ℕ)) (windows : List WindowSpec) (G : Type 0) (t : ℕ → Part → ℕ → Expr → Bool) where
  -- the test of a part of a clause with so many parameters in its scope passes what is resolved there
  abbrev pub IsPassingEverywhere : Type 0
  IsPassingEverywhere = (n : ℕ) (p : Part) (k : ℕ) (ps : Targets) → IsPassing (around ds ss inputs k) texts windows (standing n p ps) G (t n p k)

  abbrev pub is_passed : Whole → Bool
  is_passed w = each_part (t w.stream w.clause (length w.parameters)) w.expr

  module _ (passing : IsPassingEverywhere) (are : AreStreams ds (targets_of ds) texts windows 0 0 ds ss) (few : length (flat_map input_places ds) ≤ inputs) where
    -- in a clause in whose scope these parameters are
    module _ (n : ℕ) (p : Part) (ks : List Kind) (ps : List Typed) (many : length ks ≡ length ps) where
      abbrev here : Standing
      here = standing n p (parameter_targets 0 ps)

      abbrev known : Known
      known = with_names [] (parameters_of ps)

      expr_passes : (x : TreeExpr) (r : Expr) → uses known (names_of ds) x ≡ [] → (G → expr_ranges x ≡ []) → IsResolved ds (targets_of ds) texts windows here x r → each_part (t n p (length ks)) r ≡ true
      expr_passes x r none ranged is =
          let within : length ps ≤ length ks = omega (arith, many) in
          resolved_passes (around ds ss inputs (length ks)) texts windows here G (t n p (length ks)) (targets_of ds) known (names_of ds) (passing n p (length ks) (parameter_targets 0 ps))
          (λ q.
          fits_hidden (around ds ss inputs (length ks)) (meaning_in known q) (meaning_in (names_of ds) q) (meaning_in (parameter_targets 0 ps) q) (meaning_in (targets_of ds) q)
          (fits_parameters (around ds ss inputs (length ks)) ps q within)
          (fits_declared (around ds ss inputs (length ks)) (targets_of ds) texts windows 0 are few q))
          x r none ranged is

      when_passes : (at : ℕ) (x : Option TreePart) (o : Option Expr) → when_uses known (names_of ds) x ≡ [] → (G → specification.of_option part_ranges x ≡ [])
          → IsOptional (IsPart ds (targets_of ds) texts windows here) x o → all_wholes is_passed (condition_wholes n p ks at o) ≡ true
      when_passes at None None none ranged is = refl
      when_passes at (Some x) (Some r) none ranged is = and_from (each_part (t n p (length ks)) r) true (expr_passes x.expr r none ranged is) refl
      when_passes at None (Some r) none ranged is = absurd is
      when_passes at (Some x) None none ranged is = absurd is

      with_passes : (xs : List TreePart) (rs : List Expr) (wants : List Kind) (ats : List ℕ) → with_uses known (names_of ds) xs ≡ [] → (G → flat_map part_ranges xs ≡ [])
          → ArePartsOf ds (targets_of ds) texts windows here xs rs → all_wholes is_passed (with_wholes n p ks wants ats rs) ≡ true
      with_passes [] [] wants ats none ranged is = refl
      with_passes (x ∷ xs) (r ∷ rs) wants ats none ranged is =
          and_from (each_part (t n p (length ks)) r) (all_wholes is_passed (with_wholes n p ks (drop 1 wants) (drop 1 ats) rs))
          (expr_passes x.expr r (none_left (uses known (names_of ds) x.expr) (with_uses known (names_of ds) xs) none) (λ g. none_left (part_ranges x) (flat_map part_ranges xs) (ranged g)) is.0)
          (with_passes xs rs (drop 1 wants) (drop 1 ats) (none_right (uses known (names_of ds) x.expr) (with_uses known (names_of ds) xs) none) (λ g. none_right (part_ranges x) (flat_map part_ranges xs) (ranged g)) is.1)
      with_passes [] (r ∷ rs) wants ats none ranged is = absurd is
      with_passes (x ∷ xs) [] wants ats none ranged is = absurd is

      clause_passes : (wants : List Kind) (c : Clause) (x : Option TreePart) (xs : List TreePart) → when_uses known (names_of ds) x ++ with_uses known (names_of ds) xs ≡ []
          → (G → specification.of_option part_ranges x ++ flat_map part_ranges xs ≡ [])
          → IsOptional (IsPart ds (targets_of ds) texts windows here) x c.when → ArePartsOf ds (targets_of ds) texts windows here xs c.with
          → all_wholes is_passed (clause_wholes n p ks wants (Some c)) ≡ true
      clause_passes wants c x xs none ranged condition parts =
          wholes_both is_passed (condition_wholes n p ks c.when_at c.when) (with_wholes n p ks wants c.with_at c.with)
          (when_passes c.when_at x c.when (none_left (when_uses known (names_of ds) x) (with_uses known (names_of ds) xs) none) (λ g. none_left (specification.of_option part_ranges x) (flat_map part_ranges xs) (ranged g)) condition)
          (with_passes xs c.with wants c.with_at (none_right (when_uses known (names_of ds) x) (with_uses known (names_of ds) xs) none) (λ g. none_right (specification.of_option part_ranges x) (flat_map part_ranges xs) (ranged g)) parts)

      single : {X : Type 0} (xs ys : List X) → xs ++ ys ≡ [] → xs ++ (ys ++ []) ≡ []
      single xs [] h = h
      single [] (y ∷ ys) h = absurd (cc)
      single (x ∷ xs) (y ∷ ys) h = absurd (cc)

      eval_passes : (wants : List Kind) (x : Eval) (o : Option Clause) → eval_uses known (names_of ds) x ≡ [] → (G → eval_ranges o x ≡ [])
          → IsOptional (IsEval ds (targets_of ds) texts windows here) (Some x) o → all_wholes is_passed (clause_wholes n p ks wants o) ≡ true
      eval_passes wants x None none ranged is = absurd is
      eval_passes wants x (Some c) none ranged is =
          clause_passes wants c x.when (x.with ∷ [])
          (single (when_uses known (names_of ds) x.when) (uses known (names_of ds) x.with.expr) (none_right (pacing_uses (names_of ds) x.pacing) (when_uses known (names_of ds) x.when ++ uses known (names_of ds) x.with.expr) none))
          (λ g. single (specification.of_option part_ranges x.when) (part_ranges x.with) (none_right (pacing_ranges x.pacing c.pace) (specification.of_option part_ranges x.when ++ part_ranges x.with) (ranged g)))
          is.condition is.result

      close_passes : (wants : List Kind) (x : Option Close) (o : Option Clause) → of_option (close_uses known (names_of ds)) x ≡ [] → (G → specification.of_option (close_ranges o) x ≡ [])
          → IsOptional (IsClose ds (targets_of ds) texts windows here) x o → all_wholes is_passed (clause_wholes n p ks wants o) ≡ true
      close_passes wants None None none ranged is = refl
      close_passes wants None (Some c) none ranged is = absurd is
      close_passes wants (Some x) None none ranged is = absurd is
      close_passes wants (Some x) (Some c) none ranged is =
          wholes_both is_passed (condition_wholes n p ks c.when_at c.when) (with_wholes n p ks wants c.with_at c.with)
          (when_passes c.when_at (Some x.when) c.when (none_right (pacing_uses (names_of ds) x.pacing) (uses known (names_of ds) x.when.expr) none) (λ g. none_right (pacing_ranges x.pacing c.pace) (part_ranges x.when) (ranged g)) is.condition)
          (subst (λ rs. all_wholes is_passed (with_wholes n p ks wants c.with_at rs) ≡ true) (sym is.parameters) refl)

      spawn_passes : (wants : List Kind) (x : Option Spawn) (o : Option Clause) → of_option (λ s. pacing_uses (names_of ds) s.pacing ++ (when_uses known (names_of ds) s.when ++ with_uses known (names_of ds) s.with)) x ≡ []
          → (G → specification.of_option (spawn_ranges o) x ≡ [])
          → IsOptional (IsSpawn ds (targets_of ds) texts windows here) x o → all_wholes is_passed (clause_wholes n p ks wants o) ≡ true
      spawn_passes wants None None none ranged is = refl
      spawn_passes wants None (Some c) none ranged is = absurd is
      spawn_passes wants (Some x) None none ranged is = absurd is
      spawn_passes wants (Some x) (Some c) none ranged is =
          clause_passes wants c x.when x.with
          (none_right (pacing_uses (names_of ds) x.pacing) (when_uses known (names_of ds) x.when ++ with_uses known (names_of ds) x.with) none)
          (λ g. none_right (pacing_ranges x.pacing c.pace) (specification.of_option part_ranges x.when ++ flat_map part_ranges x.with) (ranged g))
          is.condition is.parameters

      trigger_passes : (wants : List Kind) (x : Trigger) (o : Option Clause) → uses known (names_of ds) x.when.expr ≡ [] → (G → part_ranges x.when ≡ [])
          → IsOptional (IsTriggerClause ds (targets_of ds) texts windows here) (Some x) o → all_wholes is_passed (clause_wholes n p ks wants o) ≡ true
      trigger_passes wants x None none ranged is = absurd is
      trigger_passes wants x (Some c) none ranged is =
          wholes_both is_passed (condition_wholes n p ks c.when_at c.when) (with_wholes n p ks wants c.with_at c.with)
          (subst (λ o. all_wholes is_passed (condition_wholes n p ks c.when_at o) ≡ true) (sym is.condition) refl)
          (with_passes (x.when ∷ []) c.with wants c.with_at (single [] (uses known (names_of ds) x.when.expr) none) (λ g. single [] (part_ranges x.when) (ranged g)) is.result)

    output_passes : (n : ℕ) (k : Kind) (x : Output) (s : Stream) → output_uses (names_of ds) x ≡ [] → (G → output_ranges x s ≡ []) → IsOutput ds (targets_of ds) texts windows n x s
        → all_wholes is_passed (stream_wholes n s k) ≡ true
    output_passes n k x s none ranged is =
        let own = with_names [] (parameters_of x.parameters) in
        let ofs = of_option (spawn_uses (names_of ds)) x.spawn in
        let ofe = eval_uses own (names_of ds) x.eval in
        let ofc = of_option (close_uses own (names_of ds)) x.close in
        let rs = specification.of_option (spawn_ranges s.spawn) x.spawn in
        let re = eval_ranges s.eval x.eval in
        let rc = specification.of_option (close_ranges s.close) x.close in
        let clauses : ofs ++ (ofe ++ ofc) ≡ [] = none_right (head_uses x) (ofs ++ (ofe ++ ofc)) none in
        let others : ofe ++ ofc ≡ [] = none_right ofs (ofe ++ ofc) clauses in
        let many : length s.parameters ≡ length x.parameters = ap length is.parameters ∙ length_mapped (λ (q : Typed). kind_spelled q.kind) x.parameters in
        wholes_both is_passed (clause_wholes n part.Spawn [] s.parameters s.spawn) (clause_wholes n part.Eval s.parameters (k ∷ []) s.eval ++ clause_wholes n part.Close s.parameters [] s.close)
        (spawn_passes n part.Spawn [] [] refl s.parameters x.spawn s.spawn (none_left ofs (ofe ++ ofc) clauses) (λ g. none_left rs (re ++ rc) (ranged g)) is.spawn)
        (wholes_both is_passed (clause_wholes n part.Eval s.parameters (k ∷ []) s.eval) (clause_wholes n part.Close s.parameters [] s.close)
        (eval_passes n part.Eval s.parameters x.parameters many (k ∷ []) x.eval s.eval (none_left ofe ofc others) (λ g. none_left re rc (none_right rs (re ++ rc) (ranged g))) is.eval)
        (close_passes n part.Close s.parameters x.parameters many [] x.close s.close (none_right ofe ofc others) (λ g. none_right re rc (none_right rs (re ++ rc) (ranged g))) is.close))

    trigger_wholes : (n j : ℕ) (k : Kind) (x : Trigger) (s : Stream) → declaration_uses (names_of ds) (d.Trigger x) ≡ [] → (G → trigger_ranges x s ≡ []) → IsTrigger ds (targets_of ds) texts windows n j x s
        → all_wholes is_passed (stream_wholes n s k) ≡ true
    trigger_wholes n j k x s none ranged is =
        wholes_both is_passed (clause_wholes n part.Spawn [] s.parameters s.spawn) (clause_wholes n part.Eval s.parameters (k ∷ []) s.eval ++ clause_wholes n part.Close s.parameters [] s.close)
        (subst (λ o. all_wholes is_passed (clause_wholes n part.Spawn [] s.parameters o) ≡ true) (sym is.spawn) refl)
        (wholes_both is_passed (clause_wholes n part.Eval s.parameters (k ∷ []) s.eval) (clause_wholes n part.Close s.parameters [] s.close)
        (trigger_passes n part.Eval s.parameters [] (ap length is.parameters) (k ∷ []) x s.eval (none_right (pacing_uses (names_of ds) x.pacing) (uses [] (names_of ds) x.when.expr) none)
        (λ g. none_right (pacing_ranges x.pacing (pace_in s.eval)) (part_ranges x.when) (ranged g)) is.eval)
        (subst (λ o. all_wholes is_passed (clause_wholes n part.Close s.parameters [] o) ≡ true) (sym is.close) refl))

    inputs_pass : (n : ℕ) (ts : List Typed) (rest : List Stream) (kinds : List (Option Kind)) → ((others : List (Option Kind)) → all_wholes is_passed (wholes_from (n + length ts) rest others) ≡ true)
        → all_wholes is_passed (wholes_from n (map input_stream ts ++ rest) kinds) ≡ true
    inputs_pass n [] rest kinds h = let e : n + 0 ≡ n = omega arith in subst (λ m. all_wholes is_passed (wholes_from m rest kinds) ≡ true) e (h kinds)
    inputs_pass n (q ∷ ts) rest kinds h =
        let e : n + length (q ∷ ts) ≡ (n + 1) + length ts = omega arith in
        inputs_pass (n + 1) ts rest (drop 1 kinds) (λ others. subst (λ m. all_wholes is_passed (wholes_from m rest others) ≡ true) e (h others))

    pub streams_pass : (n j : ℕ) (xs : List Declaration) (rest : List Stream) (kinds : List (Option Kind)) → flat_map (declaration_uses (names_of ds)) xs ≡ [] → (G → ranges_of xs rest ≡ [])
        → AreStreams ds (targets_of ds) texts windows n j xs rest → all_wholes is_passed (wholes_from n rest kinds) ≡ true
    streams_pass n j [] rest kinds none ranged is = subst (λ ss. all_wholes is_passed (wholes_from n ss kinds) ≡ true) (sym is) refl
    streams_pass n j (d.Inputs x ∷ xs) rest kinds none ranged is =
        let same : drop (length x.inputs) rest ≡ is.0 =
        ap (drop (length x.inputs)) is.1 ∙ (ap (λ m. drop m (map input_stream x.inputs ++ is.0)) (sym (length_mapped input_stream x.inputs)) ∙ drop_behind (map input_stream x.inputs) is.0) in
        subst (λ ss. all_wholes is_passed (wholes_from n ss kinds) ≡ true) (sym is.1)
        (inputs_pass n x.inputs is.0 kinds
        (λ others.
        streams_pass (n + length x.inputs) j xs is.0 others (none_right (declaration_uses (names_of ds) (d.Inputs x)) (flat_map (declaration_uses (names_of ds)) xs) none)
        (λ g. ap (ranges_of xs) (sym same) ∙ ranged g) is.2))
    streams_pass n j (d.Constant x ∷ xs) rest kinds none ranged is =
        streams_pass n j xs rest kinds (none_right (declaration_uses (names_of ds) (d.Constant x)) (flat_map (declaration_uses (names_of ds)) xs) none) ranged is
    streams_pass n j (d.Output x ∷ xs) [] kinds none ranged is = absurd is
    streams_pass n j (d.Output x ∷ xs) (s ∷ rest) kinds none ranged is =
        let k = unwrap_or (unwrap_or (slice_get kinds 0) None) kind.Int64 in
        wholes_both is_passed (stream_wholes n s k) (wholes_from (n + 1) rest (drop 1 kinds))
        (output_passes n k x s (none_left (declaration_uses (names_of ds) (d.Output x)) (flat_map (declaration_uses (names_of ds)) xs) none) (λ g. none_left (output_ranges x s) (ranges_of xs rest) (ranged g)) is.0)
        (streams_pass (n + 1) j xs rest (drop 1 kinds) (none_right (declaration_uses (names_of ds) (d.Output x)) (flat_map (declaration_uses (names_of ds)) xs) none)
        (λ g. none_right (output_ranges x s) (ranges_of xs rest) (ranged g)) is.1)
    streams_pass n j (d.Trigger x ∷ xs) [] kinds none ranged is = absurd is
    streams_pass n j (d.Trigger x ∷ xs) (s ∷ rest) kinds none ranged is =
        let k = unwrap_or (unwrap_or (slice_get kinds 0) None) kind.Int64 in
        wholes_both is_passed (stream_wholes n s k) (wholes_from (n + 1) rest (drop 1 kinds))
        (trigger_wholes n (j + 1) k x s (none_left (declaration_uses (names_of ds) (d.Trigger x)) (flat_map (declaration_uses (names_of ds)) xs) none) (λ g. none_left (trigger_ranges x s) (ranges_of xs rest) (ranged g)) is.0)
        (streams_pass (n + 1) (j + 1) xs rest (drop 1 kinds) (none_right (declaration_uses (names_of ds) (d.Trigger x)) (flat_map (declaration_uses (names_of ds)) xs) none)
        (λ g. none_right (trigger_ranges x s) (ranges_of xs rest) (ranged g)) is.1)
