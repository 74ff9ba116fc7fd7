-- Clauses and streams resolved.
use Rattle.std.proofs.Common.{◌≡◌, ℕ, ◌+◌, List, [], ◌∷◌, ◌++◌, Option, Some, None, length, map, refl, sym, codes, decimal, append-nil}
use Rattle.lola_value.specs.declared.value.Kind.TheVariants as kind
use Rattle.lola_parser_grammar.specs.declared.literals.Typed.{Typed}
use Rattle.lola_parser_grammar.specs.declared.clauses.Part.{Part as TreePart}
use Rattle.lola_parser_grammar.specs.declared.clauses.Spawn.{Spawn}
use Rattle.lola_parser_grammar.specs.declared.clauses.Eval.{Eval}
use Rattle.lola_parser_grammar.specs.declared.clauses.Close.{Close}
use Rattle.lola_parser_grammar.specs.declared.declarations.Declaration.{Declaration}
use Rattle.lola_parser_grammar.specs.declared.declarations.Declaration.TheVariants as d
use Rattle.lola_parser_grammar.specs.declared.declarations.Output.{Output}
use Rattle.lola_parser_grammar.specs.declared.declarations.Trigger.{Trigger}
use Rattle.lola_model.specs.Parts.{listed_when, listed_with, listed_clause, listed_stream, listed_streams}
use Rattle.lola_model.specs.Named.{window_number, literal_text}
use Rattle.lola_model.specs.declared.expr.Expr.{Expr}
use Rattle.lola_model.specs.declared.spec.Clause.{Clause}
use Rattle.lola_model.specs.declared.spec.Part.TheVariants as part
use Rattle.lola_model.specs.declared.spec.Sort.TheVariants as sort
use Rattle.lola_model.specs.declared.spec.Stream.{Stream}
use Rattle.lola_names.specs.Targets.{Targets, parameter_targets, targets_of}
use Rattle.lola_names.specs.Resolved.{Standing, kind_spelled}
use Rattle.lola_names.specs.Clauses.{IsPart, ArePartsOf, IsOptional, IsSpawn, IsEval, IsClose, IsOutput, IsTriggerClause, IsTrigger, input_stream, kind_written, place_before}
use Rattle.lola_names.specs.Made.{NamesConstants}
use Rattle.lola_names.specs.Specification.{AreStreams}
use Rattle.lola_names.proofs.Scopes.{names_constants}
use Rattle.lola_names.proofs.Makers.{Maker, made_of, mapped, paired}
use Rattle.lola_names.proofs.TreesMade.{expression_of, pacing_of}

-- ---- clauses

module _ (declarations : List Declaration) (targets : Targets) (here : Standing) (names : NamesConstants declarations here.parameters targets) where
  when_of : (x : Option TreePart) → Maker (Option Expr) (listed_when window_number) (listed_when literal_text) (λ texts windows r. IsOptional (IsPart declarations targets texts windows here) x r)
  when_of None = made_of None refl refl (λ texts windows. tt)
  when_of (Some x) = mapped (λ r. Some r) (λ r. refl) (λ r. refl) (λ texts windows r is. is) (expression_of declarations targets here names x.expr)

  with_of : (xs : List TreePart) → Maker (List Expr) (listed_with window_number) (listed_with literal_text) (λ texts windows rs. ArePartsOf declarations targets texts windows here xs rs)
  with_of [] = made_of [] refl refl (λ texts windows. tt)
  with_of (x ∷ xs) = mapped (λ p. p.0 ∷ p.1) (λ p. refl) (λ p. refl) (λ texts windows p are. are) (paired (expression_of declarations targets here names x.expr) (with_of xs))

  spawn_of : (x : Option Spawn) → Maker (Option Clause) (listed_clause window_number) (listed_clause literal_text) (λ texts windows c. IsOptional (IsSpawn declarations targets texts windows here) x c)
  spawn_of None = made_of None refl refl (λ texts windows. tt)
  spawn_of (Some x) =
      let pace = pacing_of targets x.pacing in
      mapped
      (λ p. Some (record { place = x.at; pace = pace.0; when = p.0; when_at = place_before x.when; with = p.1; with_at = map (λ (q : TreePart). q.at) x.with }))
      (λ p. refl) (λ p. refl)
      (λ texts windows p are. record { place = refl; pacing = pace.1; condition = are.0; before = refl; parameters = are.1; places = refl })
      (paired (when_of x.when) (with_of x.with))

  eval_of : (x : Eval) → Maker (Option Clause) (listed_clause window_number) (listed_clause literal_text) (λ texts windows c. IsOptional (IsEval declarations targets texts windows here) (Some x) c)
  eval_of x =
      let pace = pacing_of targets x.pacing in
      mapped
      (λ p. Some (record { place = x.at; pace = pace.0; when = p.0; when_at = place_before x.when; with = p.1; with_at = x.with.at ∷ [] }))
      (λ p. refl) (λ p. refl)
      (λ texts windows p are. record { place = refl; pacing = pace.1; condition = are.0; before = refl; result = are.1; places = refl })
      (paired (when_of x.when) (with_of (x.with ∷ [])))

  close_of : (x : Option Close) → Maker (Option Clause) (listed_clause window_number) (listed_clause literal_text) (λ texts windows c. IsOptional (IsClose declarations targets texts windows here) x c)
  close_of None = made_of None refl refl (λ texts windows. tt)
  close_of (Some x) =
      let pace = pacing_of targets x.pacing in
      mapped
      (λ p. Some (record { place = x.at; pace = pace.0; when = p.0; when_at = x.when.at; with = p.1; with_at = [] }))
      (λ p. refl) (λ p. refl)
      (λ texts windows p are. record { place = refl; pacing = pace.1; condition = are.0; before = refl; parameters = are.1; places = refl })
      (paired (when_of (Some x.when)) (made_of {ws = listed_with window_number} {ts = listed_with literal_text} {P = λ texts windows rs. rs ≡ []} [] refl refl (λ texts windows. refl)))

  trigger_of : (x : Trigger) → Maker (Option Clause) (listed_clause window_number) (listed_clause literal_text) (λ texts windows c. IsOptional (IsTriggerClause declarations targets texts windows here) (Some x) c)
  trigger_of x =
      let pace = pacing_of targets x.pacing in
      mapped
      (λ rs. Some (record { place = x.when.at; pace = pace.0; when = None; when_at = 0; with = rs; with_at = x.when.at ∷ [] }))
      (λ rs. refl) (λ rs. refl)
      (λ texts windows rs are. record { place = refl; pacing = pace.1; condition = refl; before = refl; result = are; places = refl })
      (with_of (x.when ∷ []))

-- ---- streams

no_more : {A : Type 0} (f : Expr → List A) (xs : List Typed) (ss : List Stream) → listed_streams f ss ≡ listed_streams f (map input_stream xs ++ ss)
no_more f [] ss = refl
no_more f (x ∷ xs) ss = no_more f xs ss

module _ (declarations : List Declaration) where
  abbrev Streaming : ℕ → ℕ → List Declaration → Type 0
  Streaming n k xs =
      Maker (List Stream) (listed_streams window_number) (listed_streams literal_text) (λ texts windows ss. AreStreams declarations (targets_of declarations) texts windows n k xs ss)

  abbrev at_spawn : ℕ → Standing
  at_spawn n = record { stream = n; clause = part.Spawn; parameters = parameter_targets 0 [] }

  abbrev at_eval : ℕ → List Typed → Standing
  at_eval n ps = record { stream = n; clause = part.Eval; parameters = parameter_targets 0 ps }

  abbrev at_close : ℕ → List Typed → Standing
  at_close n ps = record { stream = n; clause = part.Close; parameters = parameter_targets 0 ps }

  output_of : (n : ℕ) (x : Output) → Maker Stream (listed_stream window_number) (listed_stream literal_text) (λ texts windows s. IsOutput declarations (targets_of declarations) texts windows n x s)
  output_of n x =
      let names : (ps : List Typed) → NamesConstants declarations (parameter_targets 0 ps) (targets_of declarations) = names_constants declarations in
      mapped
      (λ p. record {
        name = x.name.text;
        place = x.name.at;
        sort = sort.Output;
        message = [];
        kind = kind_written x.kind;
        parameters = map (λ (t : Typed). kind_spelled t.kind) x.parameters;
        spawn = p.0;
        eval = p.1.0;
        close = p.1.1;
      })
      (λ p. refl) (λ p. refl)
      (λ texts windows p are. record {
        name = refl;
        place = refl;
        sort = refl;
        message = refl;
        kind = refl;
        parameters = refl;
        spawn = are.0;
        eval = are.1.0;
        close = are.1.1;
      })
      (paired (spawn_of declarations (targets_of declarations) (at_spawn n) (names []) x.spawn)
      (paired (eval_of declarations (targets_of declarations) (at_eval n x.parameters) (names x.parameters) x.eval)
      (close_of declarations (targets_of declarations) (at_close n x.parameters) (names x.parameters) x.close)))

  trigger_stream_of : (n k : ℕ) (x : Trigger) → Maker Stream (listed_stream window_number) (listed_stream literal_text) (λ texts windows s. IsTrigger declarations (targets_of declarations) texts windows n k x s)
  trigger_stream_of n k x =
      mapped
      (λ c. record {
        name = codes "trigger_" ++ decimal k;
        place = x.when.at;
        sort = sort.Trigger;
        message = x.message;
        kind = Some kind.Bool;
        parameters = [];
        spawn = None;
        eval = c;
        close = None;
      })
      (λ c. sym (append-nil (listed_clause window_number c))) (λ c. sym (append-nil (listed_clause literal_text c)))
      (λ texts windows c is. record {
        name = refl;
        place = refl;
        sort = refl;
        message = refl;
        kind = refl;
        parameters = refl;
        spawn = refl;
        eval = is;
        close = refl;
      })
      (trigger_of declarations (targets_of declarations) (at_eval n []) (names_constants declarations []) x)

  -- of declarations, of which the first is stream n, behind k triggers
  pub streams_of : (n k : ℕ) (xs : List Declaration) → Streaming n k xs
  streams_of n k [] = made_of [] refl refl (λ texts windows. refl)
  streams_of n k (d.Inputs x ∷ xs) =
      mapped (λ ss. map input_stream x.inputs ++ ss) (no_more window_number x.inputs) (no_more literal_text x.inputs) (λ texts windows ss are. (ss, refl, are)) (streams_of (n + length x.inputs) k xs)
  streams_of n k (d.Constant x ∷ xs) = mapped (λ ss. ss) (λ ss. refl) (λ ss. refl) (λ texts windows ss are. are) (streams_of n k xs)
  streams_of n k (d.Output x ∷ xs) = mapped (λ p. p.0 ∷ p.1) (λ p. refl) (λ p. refl) (λ texts windows p are. are) (paired (output_of n x) (streams_of (n + 1) k xs))
  streams_of n k (d.Trigger x ∷ xs) =
      mapped (λ p. p.0 ∷ p.1) (λ p. refl) (λ p. refl) (λ texts windows p are. are) (paired (trigger_stream_of n (k + 1) x) (streams_of (n + 1) (k + 1) xs))
