-- Declarations are resolved to streams that are alike.
use Rattle.std.proofs.Common.{◌≡◌, refl, sym, ap, subst, ◌∙◌, ℕ, zero, suc, ◌+◌, List, [], ◌∷◌, ◌++◌, Option, Some, None, map, length, slice_get}
use Rattle.lola_value.specs.declared.value.Kind.{Kind}
use Rattle.lola_parser_grammar.specs.declared.literals.Typed.{Typed}
use Rattle.lola_parser_grammar.specs.declared.clauses.Part.{Part as TreePart}
use Rattle.lola_parser_grammar.specs.declared.clauses.Spawn.{Spawn}
use Rattle.lola_parser_grammar.specs.declared.clauses.Eval.{Eval}
use Rattle.lola_parser_grammar.specs.declared.clauses.Close.{Close}
use Rattle.lola_parser_grammar.specs.declared.declarations.Output.{Output}
use Rattle.lola_parser_grammar.specs.declared.declarations.Trigger.{Trigger}
use Rattle.lola_parser_grammar.specs.declared.declarations.Declaration.{Declaration}
use Rattle.lola_parser_grammar.specs.declared.declarations.Declaration.TheVariants as d
use Rattle.lola_model.specs.declared.expr.Expr.{Expr}
use Rattle.lola_model.specs.declared.spec.Clause.{Clause}
use Rattle.lola_model.specs.declared.spec.Part.TheVariants as part
use Rattle.lola_model.specs.declared.spec.Stream.{Stream}
use Rattle.lola_model.specs.declared.spec.WindowSpec.{WindowSpec}
use Rattle.lola_types.specs.Filled.{SamePace}
use Rattle.lola_types.specs.Found.{stream_parameters}
use Rattle.lola_types.specs.LeftOut.{declared_kinds}
use Rattle.lola_names.specs.Targets.{Targets, parameter_targets}
use Rattle.lola_names.specs.Resolved.{Standing}
use Rattle.lola_names.specs.Clauses.{IsOptional, IsPart, ArePartsOf, IsSpawn, IsEval, IsClose, IsOutput, IsTriggerClause, IsTrigger, input_stream}
use Rattle.lola_names.specs.Specification.{AreStreams}
use Rattle.lola_front_law.proofs.AlikeTrees.{AlikeBy, AnyNumbers, AreTied, any_tied, resolved_alike}
use Rattle.lola_front_law.proofs.WrittenAlike.{pacing_alike}

-- Expressions whose numbers of texts are related by T, over these windows.
module _ (T : ℕ → ℕ → Type 0) (ws vs : List WindowSpec) where
  abbrev pub AlikeWhenBy : Option Expr → Option Expr → Type 0
  AlikeWhenBy None None = Unit {0}
  AlikeWhenBy (Some e) (Some f) = AlikeBy T ws vs e f
  AlikeWhenBy _ _ = ⊥

  abbrev pub AlikeWithBy : List Expr → List Expr → Type 0
  AlikeWithBy [] [] = Unit {0}
  AlikeWithBy (e ∷ es) (f ∷ fs) = AlikeBy T ws vs e f × AlikeWithBy es fs
  AlikeWithBy _ _ = ⊥

  -- clauses whose expressions are alike
  pub record AlikeClause (c d : Clause) : Type 0 where
    pub place : c.place ≡ d.place
    pub pacing : SamePace c.pace d.pace
    pub condition : AlikeWhenBy c.when d.when
    pub before : c.when_at ≡ d.when_at
    pub expressions : AlikeWithBy c.with d.with
    pub places : c.with_at ≡ d.with_at

  abbrev pub AlikeClausesBy : Option Clause → Option Clause → Type 0
  AlikeClausesBy None None = Unit {0}
  AlikeClausesBy (Some c) (Some d) = AlikeClause c d
  AlikeClausesBy _ _ = ⊥

  pub record AlikeStreamBy (a b : Stream) : Type 0 where
    pub name : a.name ≡ b.name
    pub place : a.place ≡ b.place
    pub sort : a.sort ≡ b.sort
    pub message : a.message ≡ b.message
    pub kind : a.kind ≡ b.kind
    pub parameters : a.parameters ≡ b.parameters
    pub spawn : AlikeClausesBy a.spawn b.spawn
    pub eval : AlikeClausesBy a.eval b.eval
    pub close : AlikeClausesBy a.close b.close

  abbrev pub AlikeStreamsBy : List Stream → List Stream → Type 0
  AlikeStreamsBy [] [] = Unit {0}
  AlikeStreamsBy (a ∷ as') (b ∷ bs) = AlikeStreamBy a b × AlikeStreamsBy as' bs
  AlikeStreamsBy _ _ = ⊥

  both_streams : (as' bs cs ds : List Stream) → AlikeStreamsBy as' bs → AlikeStreamsBy cs ds → AlikeStreamsBy (as' ++ cs) (bs ++ ds)
  both_streams [] [] cs ds h k = k
  both_streams [] (b ∷ bs) cs ds h k = absurd h
  both_streams (a ∷ as') [] cs ds h k = absurd h
  both_streams (a ∷ as') (b ∷ bs) cs ds h k = (h.0, both_streams as' bs cs ds h.1 k)

  inputs_alike : (ts : List Typed) → AlikeStreamsBy (map input_stream ts) (map input_stream ts)
  inputs_alike [] = tt
  inputs_alike (t ∷ ts) =
      (record { name = refl; place = refl; sort = refl; message = refl; kind = refl; parameters = refl; spawn = tt; eval = tt; close = tt }, inputs_alike ts)

  when_none : (a b : Option Expr) → a ≡ None → b ≡ None → AlikeWhenBy a b
  when_none a b h k = subst (λ (x : Option Expr). AlikeWhenBy x b) (sym h) (subst (λ (y : Option Expr). AlikeWhenBy None y) (sym k) tt)

  with_none : (a b : List Expr) → a ≡ [] → b ≡ [] → AlikeWithBy a b
  with_none a b h k = subst (λ (x : List Expr). AlikeWithBy x b) (sym h) (subst (λ (y : List Expr). AlikeWithBy [] y) (sym k) tt)

  clauses_none : (a b : Option Clause) → a ≡ None → b ≡ None → AlikeClausesBy a b
  clauses_none a b h k = subst (λ (x : Option Clause). AlikeClausesBy x b) (sym h) (subst (λ (y : Option Clause). AlikeClausesBy None y) (sym k) tt)

  optional_clauses : {A : Type 0} (R Q : A → Clause → Type 0) → ((x : A) (c d : Clause) → R x c → Q x d → AlikeClause c d)
      → (o : Option A) (c d : Option Clause) → IsOptional R o c → IsOptional Q o d → AlikeClausesBy c d
  optional_clauses R Q f None None None h k = tt
  optional_clauses R Q f None None (Some d) h k = absurd k
  optional_clauses R Q f None (Some c) d h k = absurd h
  optional_clauses R Q f (Some x) (Some c) (Some d) h k = f x c d h k
  optional_clauses R Q f (Some x) (Some c) None h k = absurd k
  optional_clauses R Q f (Some x) None d h k = absurd h

-- whatever numbers texts have
abbrev pub AlikeWhen : List WindowSpec → List WindowSpec → Option Expr → Option Expr → Type 0
AlikeWhen ws vs a b = AlikeWhenBy AnyNumbers ws vs a b

abbrev pub AlikeWith : List WindowSpec → List WindowSpec → List Expr → List Expr → Type 0
AlikeWith ws vs a b = AlikeWithBy AnyNumbers ws vs a b

abbrev pub AlikeClauses : List WindowSpec → List WindowSpec → Option Clause → Option Clause → Type 0
AlikeClauses ws vs c d = AlikeClausesBy AnyNumbers ws vs c d

abbrev pub AlikeStream : List WindowSpec → List WindowSpec → Stream → Stream → Type 0
AlikeStream ws vs a b = AlikeStreamBy AnyNumbers ws vs a b

abbrev pub AlikeStreams : List WindowSpec → List WindowSpec → List Stream → List Stream → Type 0
AlikeStreams ws vs as' bs = AlikeStreamsBy AnyNumbers ws vs as' bs

module _ (ws vs : List WindowSpec) where
  -- what kinds ask of streams

  pub same_kinds : (as' bs : List Stream) → AlikeStreams ws vs as' bs → declared_kinds as' ≡ declared_kinds bs
  same_kinds [] [] h = refl
  same_kinds [] (b ∷ bs) h = absurd h
  same_kinds (a ∷ as') [] h = absurd h
  same_kinds (a ∷ as') (b ∷ bs) h =
      ap (λ (k : Option Kind). k ∷ declared_kinds as') h.0.kind ∙ ap (λ (ks : List (Option Kind)). b.kind ∷ ks) (same_kinds as' bs h.1)

  pub same_length : (as' bs : List Stream) → AlikeStreams ws vs as' bs → length as' ≡ length bs
  same_length [] [] h = refl
  same_length [] (b ∷ bs) h = absurd h
  same_length (a ∷ as') [] h = absurd h
  same_length (a ∷ as') (b ∷ bs) h = ap suc (same_length as' bs h.1)

  pub same_parameters : (as' bs : List Stream) (n : ℕ) → AlikeStreams ws vs as' bs → stream_parameters (slice_get as' n) ≡ stream_parameters (slice_get bs n)
  same_parameters [] [] n h = refl
  same_parameters [] (b ∷ bs) n h = absurd h
  same_parameters (a ∷ as') [] n h = absurd h
  same_parameters (a ∷ as') (b ∷ bs) zero h = h.0.parameters
  same_parameters (a ∷ as') (b ∷ bs) (suc n) h = same_parameters as' bs n h.1

module _ (T : ℕ → ℕ → Type 0) (declarations : List Declaration) (targets : Targets) (ts us : List (List ℕ)) (tied : AreTied T ts us) (ws vs : List WindowSpec) where
  module _ (here : Standing) where
    when_alike : (o : Option TreePart) (a b : Option Expr) → IsOptional (IsPart declarations targets ts ws here) o a → IsOptional (IsPart declarations targets us vs here) o b → AlikeWhenBy T ws vs a b
    when_alike None None None h k = tt
    when_alike None None (Some f) h k = absurd k
    when_alike None (Some e) b h k = absurd h
    when_alike (Some x) (Some e) (Some f) h k = resolved_alike T declarations targets ts us tied ws vs here x.expr e f h k
    when_alike (Some x) (Some e) None h k = absurd k
    when_alike (Some x) None b h k = absurd h

    with_alike : (xs : List TreePart) (as' bs : List Expr) → ArePartsOf declarations targets ts ws here xs as' → ArePartsOf declarations targets us vs here xs bs → AlikeWithBy T ws vs as' bs
    with_alike [] [] [] h k = tt
    with_alike [] [] (f ∷ fs) h k = absurd k
    with_alike [] (e ∷ es) bs h k = absurd h
    with_alike (x ∷ xs) (e ∷ es) (f ∷ fs) h k = (resolved_alike T declarations targets ts us tied ws vs here x.expr e f h.0 k.0, with_alike xs es fs h.1 k.1)
    with_alike (x ∷ xs) (e ∷ es) [] h k = absurd k
    with_alike (x ∷ xs) [] bs h k = absurd h

    spawn_alike : (x : Spawn) (c d : Clause) → IsSpawn declarations targets ts ws here x c → IsSpawn declarations targets us vs here x d → AlikeClause T ws vs c d
    spawn_alike x c d h k = record {
      place = h.place ∙ sym k.place;
      pacing = pacing_alike targets x.pacing c.pace d.pace h.pacing k.pacing;
      condition = when_alike x.when c.when d.when h.condition k.condition;
      before = h.before ∙ sym k.before;
      expressions = with_alike x.with c.with d.with h.parameters k.parameters;
      places = h.places ∙ sym k.places;
    }

    eval_alike : (x : Eval) (c d : Clause) → IsEval declarations targets ts ws here x c → IsEval declarations targets us vs here x d → AlikeClause T ws vs c d
    eval_alike x c d h k = record {
      place = h.place ∙ sym k.place;
      pacing = pacing_alike targets x.pacing c.pace d.pace h.pacing k.pacing;
      condition = when_alike x.when c.when d.when h.condition k.condition;
      before = h.before ∙ sym k.before;
      expressions = with_alike (x.with ∷ []) c.with d.with h.result k.result;
      places = h.places ∙ sym k.places;
    }

    close_alike : (x : Close) (c d : Clause) → IsClose declarations targets ts ws here x c → IsClose declarations targets us vs here x d → AlikeClause T ws vs c d
    close_alike x c d h k = record {
      place = h.place ∙ sym k.place;
      pacing = pacing_alike targets x.pacing c.pace d.pace h.pacing k.pacing;
      condition = when_alike (Some x.when) c.when d.when h.condition k.condition;
      before = h.before ∙ sym k.before;
      expressions = with_none T ws vs c.with d.with h.parameters k.parameters;
      places = h.places ∙ sym k.places;
    }

    trigger_clause_alike : (x : Trigger) (c d : Clause) → IsTriggerClause declarations targets ts ws here x c → IsTriggerClause declarations targets us vs here x d → AlikeClause T ws vs c d
    trigger_clause_alike x c d h k = record {
      place = h.place ∙ sym k.place;
      pacing = pacing_alike targets x.pacing c.pace d.pace h.pacing k.pacing;
      condition = when_none T ws vs c.when d.when h.condition k.condition;
      before = h.before ∙ sym k.before;
      expressions = with_alike (x.when ∷ []) c.with d.with h.result k.result;
      places = h.places ∙ sym k.places;
    }

  output_alike : (n : ℕ) (x : Output) (a b : Stream) → IsOutput declarations targets ts ws n x a → IsOutput declarations targets us vs n x b → AlikeStreamBy T ws vs a b
  output_alike n x a b h k =
      let spawning : Standing = record { stream = n; clause = part.Spawn; parameters = [] } in
      let evaluating : Standing = record { stream = n; clause = part.Eval; parameters = parameter_targets 0 x.parameters } in
      let closing : Standing = record { stream = n; clause = part.Close; parameters = parameter_targets 0 x.parameters } in
      record {
        name = h.name ∙ sym k.name;
        place = h.place ∙ sym k.place;
        sort = h.sort ∙ sym k.sort;
        message = h.message ∙ sym k.message;
        kind = h.kind ∙ sym k.kind;
        parameters = h.parameters ∙ sym k.parameters;
        spawn = optional_clauses T ws vs (IsSpawn declarations targets ts ws spawning) (IsSpawn declarations targets us vs spawning) (spawn_alike spawning) x.spawn a.spawn b.spawn h.spawn k.spawn;
        eval = optional_clauses T ws vs (IsEval declarations targets ts ws evaluating) (IsEval declarations targets us vs evaluating) (eval_alike evaluating) (Some x.eval) a.eval b.eval h.eval k.eval;
        close = optional_clauses T ws vs (IsClose declarations targets ts ws closing) (IsClose declarations targets us vs closing) (close_alike closing) x.close a.close b.close h.close k.close;
      }

  trigger_alike : (n m : ℕ) (x : Trigger) (a b : Stream) → IsTrigger declarations targets ts ws n m x a → IsTrigger declarations targets us vs n m x b → AlikeStreamBy T ws vs a b
  trigger_alike n m x a b h k =
      let here : Standing = record { stream = n; clause = part.Eval; parameters = [] } in
      record {
        name = h.name ∙ sym k.name;
        place = h.place ∙ sym k.place;
        sort = h.sort ∙ sym k.sort;
        message = h.message ∙ sym k.message;
        kind = h.kind ∙ sym k.kind;
        parameters = h.parameters ∙ sym k.parameters;
        spawn = clauses_none T ws vs a.spawn b.spawn h.spawn k.spawn;
        eval = optional_clauses T ws vs (IsTriggerClause declarations targets ts ws here) (IsTriggerClause declarations targets us vs here) (trigger_clause_alike here) (Some x) a.eval b.eval h.eval k.eval;
        close = clauses_none T ws vs a.close b.close h.close k.close;
      }

  pub streams_alike_by : (n m : ℕ) (ds : List Declaration) (as' bs : List Stream) → AreStreams declarations targets ts ws n m ds as' → AreStreams declarations targets us vs n m ds bs → AlikeStreamsBy T ws vs as' bs
  streams_alike_by n m [] as' bs h k =
      subst (λ (x : List Stream). AlikeStreamsBy T ws vs x bs) (sym h) (subst (λ (y : List Stream). AlikeStreamsBy T ws vs [] y) (sym k) tt)
  streams_alike_by n m (d.Inputs x ∷ ds) as' bs h k =
      let front = map input_stream x.inputs in
      let all = both_streams T ws vs front front h.0 k.0 (inputs_alike T ws vs x.inputs) (streams_alike_by (n + length x.inputs) m ds h.0 k.0 h.2 k.2) in
      subst (λ (z : List Stream). AlikeStreamsBy T ws vs z bs) (sym h.1) (subst (λ (y : List Stream). AlikeStreamsBy T ws vs (front ++ h.0) y) (sym k.1) all)
  streams_alike_by n m (d.Constant x ∷ ds) as' bs h k = streams_alike_by n m ds as' bs h k
  streams_alike_by n m (d.Output x ∷ ds) [] bs h k = absurd h
  streams_alike_by n m (d.Output x ∷ ds) (a ∷ as') [] h k = absurd k
  streams_alike_by n m (d.Output x ∷ ds) (a ∷ as') (b ∷ bs) h k = (output_alike n x a b h.0 k.0, streams_alike_by (n + 1) m ds as' bs h.1 k.1)
  streams_alike_by n m (d.Trigger x ∷ ds) [] bs h k = absurd h
  streams_alike_by n m (d.Trigger x ∷ ds) (a ∷ as') [] h k = absurd k
  streams_alike_by n m (d.Trigger x ∷ ds) (a ∷ as') (b ∷ bs) h k = (trigger_alike n (m + 1) x a b h.0 k.0, streams_alike_by (n + 1) (m + 1) ds as' bs h.1 k.1)

pub streams_alike : (declarations : List Declaration) (targets : Targets) (ts us : List (List ℕ)) (ws vs : List WindowSpec) (n m : ℕ) (ds : List Declaration) (as' bs : List Stream)
    → AreStreams declarations targets ts ws n m ds as' → AreStreams declarations targets us vs n m ds bs → AlikeStreams ws vs as' bs
streams_alike declarations targets ts us ws vs n m ds as' bs h k = streams_alike_by AnyNumbers declarations targets ts us (any_tied ts us) ws vs n m ds as' bs h k
