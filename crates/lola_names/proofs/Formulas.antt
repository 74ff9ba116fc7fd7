-- Formulas in pacings name inputs of the specification.
use Rattle.std.proofs.Common.{◌≡◌, ◌<◌, ◌+◌, ℕ, sym, subst, true, List, [], ◌∷◌, ◌++◌, Option, Some, None, length, map}
use Rattle.std.specs.List.{flat_map}
use Rattle.lola_value.specs.declared.front.Code.TheVariants as code
use Rattle.lola_parser_grammar.specs.declared.literals.Typed.{Typed}
use Rattle.lola_parser_grammar.specs.declared.pacing.Formula.{Formula as TreeFormula, more_of-Formula, end_of-Formula}
use Rattle.lola_parser_grammar.specs.declared.pacing.Formula.TheVariants as f
use Rattle.lola_parser_grammar.specs.declared.pacing.Rhythm.{Rhythm}
use Rattle.lola_parser_grammar.specs.declared.pacing.Rhythm.TheVariants as r
use Rattle.lola_parser_grammar.specs.declared.pacing.Pacing.{Pacing}
use Rattle.lola_parser_grammar.specs.declared.clauses.Spawn.{Spawn}
use Rattle.lola_parser_grammar.specs.declared.clauses.Eval.{Eval}
use Rattle.lola_parser_grammar.specs.declared.clauses.Close.{Close}
use Rattle.lola_parser_grammar.specs.declared.declarations.Trigger.{Trigger}
use Rattle.lola_parser_grammar.specs.declared.declarations.Declaration.{Declaration}
use Rattle.lola_parser_grammar.specs.declared.declarations.Declaration.TheVariants as d
use Rattle.lola_model.specs.Formulas.{IsOverInputs, IsPaceOverInputs, IsClauseOverInputs, AreOverInputs}
use Rattle.lola_model.specs.NormalForms.{HasInputsBelow}
use Rattle.lola_model.specs.declared.spec.Formula.{Formula}
use Rattle.lola_model.specs.declared.spec.Formula.TheVariants.{Input, And', Or'}
use Rattle.lola_model.specs.declared.spec.Pace.{Pace}
use Rattle.lola_model.specs.declared.spec.Pace.TheVariants as pace
use Rattle.lola_model.specs.declared.spec.Clause.{Clause}
use Rattle.lola_model.specs.declared.spec.Stream.{Stream}
use Rattle.lola_model.specs.declared.spec.WindowSpec.{WindowSpec}
use Rattle.lola_names_refused.specs.declared.names.Meaning.{Meaning}
use Rattle.lola_names_refused.specs.declared.names.Meaning.TheVariants as meaning
use Rattle.lola_names_refused.specs.Table.{meaning_in}
use Rattle.lola_names_refused.specs.Known.{Known, with_names, parameters_of}
use Rattle.lola_names_refused.specs.Refused.{of_option, is_input_name, formula_uses, rhythm_uses, pacing_uses, when_uses, with_uses, uses, spawn_uses, eval_uses, close_uses, head_uses, declaration_uses}
use Rattle.lola_names.specs.declared.targets.Target.{Target}
use Rattle.lola_names.specs.declared.targets.Target.TheVariants as target
use Rattle.lola_names.specs.Targets.{Targets}
use Rattle.lola_names.specs.Resolved.{Standing}
use Rattle.lola_names.specs.Clauses.{IsFormula, IsPace, IsPacing, IsOptional, IsSpawn, IsEval, IsClose, IsTriggerClause, input_of, input_stream}
use Rattle.lola_names.specs.Specification.{AreStreams}
use Rattle.lola_names.proofs.Basics.{none_left, none_right, never_back}
use Rattle.lola_names.proofs.ExpressionsNamed.{unless_none}
use Rattle.lola_names.proofs.TargetsNamed.{Around, FitsIf}

-- a name that means an input stands for one of the inputs
input_below : (u : Around) (m : Option Meaning) (o : Option Target) → FitsIf u m o → is_input_name m ≡ true → input_of o < u.inputs
input_below u None o h e = never_back e
input_below u (Some meaning.Input) (Some (target.Input s i)) h e = h.1
input_below u (Some meaning.Input) None h e = absurd h
input_below u (Some meaning.Input) (Some _) h e = absurd h
input_below u (Some _) o h e = never_back e

module _ (ds : List Declaration) (ss : List Stream) (targets : Targets) (texts : List (List ℕ)) (windows : List WindowSpec) (names : Known) where
  abbrev around : Around
  around = record { declarations = ds; streams = ss; inputs = 64; parameters = 0 }

  module _ (fits : (q : List ℕ) → FitsIf around (meaning_in names q) (meaning_in targets q)) where
    formula_below : (x : TreeFormula) (s : Formula) → formula_uses names x ≡ [] → IsFormula targets x s → HasInputsBelow 64 s
    formula_below (f.Input n) (Input i) none is =
        subst (λ k. k < 64) (sym is)
        (input_below around (meaning_in names n.text) (meaning_in targets n.text) (fits n.text) (unless_none (is_input_name (meaning_in names n.text)) code.Unknown n.at none))
    formula_below (f.Both' at h (more_of-Formula x end_of-Formula) i (more_of-Formula y end_of-Formula)) (And' u s v t) none is =
        (formula_below x s (none_left (formula_uses names x) (formula_uses names y) none) is.0, formula_below y t (none_right (formula_uses names x) (formula_uses names y) none) is.1)
    formula_below (f.Either' at h (more_of-Formula x end_of-Formula) i (more_of-Formula y end_of-Formula)) (Or' u s v t) none is =
        (formula_below x s (none_left (formula_uses names x) (formula_uses names y) none) is.0, formula_below y t (none_right (formula_uses names x) (formula_uses names y) none) is.1)
    formula_below _ _ none is = absurd is

    pace_over : (at : ℕ) (x : Rhythm) (y : Pace) → rhythm_uses names x ≡ [] → IsPace targets at x y → IsOverInputs y
    pace_over at (r.Formula x) (pace.Event p s) none is = formula_below x s none is.1
    pace_over at (r.Rate q) (pace.Rate p w) none is = tt
    pace_over at (r.Global q) (pace.Global p w) none is = tt
    pace_over at (r.Local q) (pace.Local p w) none is = tt
    pace_over at _ _ none is = absurd is

    pacing_over : (x : Option Pacing) (y : Option Pace) → pacing_uses names x ≡ [] → IsPacing targets x y → IsPaceOverInputs y
    pacing_over None None none is = tt
    pacing_over (Some x) (Some y) none is = pace_over x.at x.rhythm y none is
    pacing_over None (Some y) none is = absurd is
    pacing_over (Some x) None none is = absurd is

    spawn_over : (here : Standing) (x : Option Spawn) (o : Option Clause) → of_option (spawn_uses names) x ≡ [] → IsOptional (IsSpawn ds targets texts windows here) x o → IsClauseOverInputs o
    spawn_over here None None none is = tt
    spawn_over here (Some x) (Some c) none is = pacing_over x.pacing c.pace (none_left (pacing_uses names x.pacing) (when_uses [] names x.when ++ with_uses [] names x.with) none) is.pacing
    spawn_over here None (Some c) none is = absurd is
    spawn_over here (Some x) None none is = absurd is

    eval_over : (own : Known) (here : Standing) (x : Eval) (o : Option Clause) → eval_uses own names x ≡ [] → IsOptional (IsEval ds targets texts windows here) (Some x) o → IsClauseOverInputs o
    eval_over own here x None none is = absurd is
    eval_over own here x (Some c) none is = pacing_over x.pacing c.pace (none_left (pacing_uses names x.pacing) (when_uses own names x.when ++ uses own names x.with.expr) none) is.pacing

    close_over : (own : Known) (here : Standing) (x : Option Close) (o : Option Clause) → of_option (close_uses own names) x ≡ [] → IsOptional (IsClose ds targets texts windows here) x o → IsClauseOverInputs o
    close_over own here None None none is = tt
    close_over own here (Some x) (Some c) none is = pacing_over x.pacing c.pace (none_left (pacing_uses names x.pacing) (uses own names x.when.expr) none) is.pacing
    close_over own here None (Some c) none is = absurd is
    close_over own here (Some x) None none is = absurd is

    trigger_over : (here : Standing) (x : Trigger) (o : Option Clause) → pacing_uses names x.pacing ≡ [] → IsOptional (IsTriggerClause ds targets texts windows here) (Some x) o → IsClauseOverInputs o
    trigger_over here x None none is = absurd is
    trigger_over here x (Some c) none is = pacing_over x.pacing c.pace none is.pacing

    inputs_over : (ts : List Typed) (rest : List Stream) → AreOverInputs rest → AreOverInputs (map input_stream ts ++ rest)
    inputs_over [] rest h = h
    inputs_over (t ∷ ts) rest h = (tt, tt, tt, inputs_over ts rest h)

    pub streams_over : (n j : ℕ) (xs : List Declaration) (rest : List Stream) → flat_map (declaration_uses names) xs ≡ [] → AreStreams ds targets texts windows n j xs rest → AreOverInputs rest
    streams_over n j [] rest none is = subst AreOverInputs (sym is) tt
    streams_over n j (d.Inputs x ∷ xs) rest none is =
        subst AreOverInputs (sym is.1)
        (inputs_over x.inputs is.0 (streams_over (n + length x.inputs) j xs is.0 (none_right (declaration_uses names (d.Inputs x)) (flat_map (declaration_uses names) xs) none) is.2))
    streams_over n j (d.Constant x ∷ xs) rest none is = streams_over n j xs rest (none_right (declaration_uses names (d.Constant x)) (flat_map (declaration_uses names) xs) none) is
    streams_over n j (d.Output x ∷ xs) [] none is = absurd is
    streams_over n j (d.Output x ∷ xs) (s ∷ rest) none is =
        let own = with_names [] (parameters_of x.parameters) in
        let ofs = of_option (spawn_uses names) x.spawn in
        let ofe = eval_uses own names x.eval in
        let ofc = of_option (close_uses own names) x.close in
        let clauses : ofs ++ (ofe ++ ofc) ≡ [] = none_right (head_uses x) (ofs ++ (ofe ++ ofc)) (none_left (declaration_uses names (d.Output x)) (flat_map (declaration_uses names) xs) none) in
        let others : ofe ++ ofc ≡ [] = none_right ofs (ofe ++ ofc) clauses in (
          spawn_over _ x.spawn s.spawn (none_left ofs (ofe ++ ofc) clauses) is.0.spawn,
          eval_over own _ x.eval s.eval (none_left ofe ofc others) is.0.eval,
          close_over own _ x.close s.close (none_right ofe ofc others) is.0.close,
          streams_over (n + 1) j xs rest (none_right (declaration_uses names (d.Output x)) (flat_map (declaration_uses names) xs) none) is.1,
        )
    streams_over n j (d.Trigger x ∷ xs) [] none is = absurd is
    streams_over n j (d.Trigger x ∷ xs) (s ∷ rest) none is = (
      subst IsClauseOverInputs (sym is.0.spawn) tt,
      trigger_over _ x s.eval (none_left (pacing_uses names x.pacing) (uses [] names x.when.expr) (none_left (declaration_uses names (d.Trigger x)) (flat_map (declaration_uses names) xs) none)) is.0.eval,
      subst IsClauseOverInputs (sym is.0.close) tt,
      streams_over (n + 1) (j + 1) xs rest (none_right (declaration_uses names (d.Trigger x)) (flat_map (declaration_uses names) xs) none) is.1,
    )
