-- What is printed of declarations spells them.
use Rattle.std.proofs.Common.{◌≡◌, ℕ, suc, ◌<◌, true, false, List, [], ◌∷◌, ◌++◌, map, length, Option, Some, None, refl, sym, subst, append-nil, arith, inl, inr}
use Rattle.lola_lexer.specs.declared.shape.TokenShape.TheVariants as is
use Rattle.lola_parser_grammar.specs.declared.literals.Name.{Name}
use Rattle.lola_parser_grammar.specs.declared.literals.Typed.{Typed}
use Rattle.lola_parser_grammar.specs.declared.literals.Value.{Value}
use Rattle.lola_parser_grammar.specs.declared.literals.Value.TheVariants as value
use Rattle.lola_parser_grammar.specs.declared.pacing.Pacing.{Pacing}
use Rattle.lola_parser_grammar.specs.declared.clauses.Part.{Part}
use Rattle.lola_parser_grammar.specs.declared.clauses.Spawn.{Spawn}
use Rattle.lola_parser_grammar.specs.declared.clauses.Eval.{Eval}
use Rattle.lola_parser_grammar.specs.declared.clauses.Close.{Close}
use Rattle.lola_parser_grammar.specs.declared.declarations.Constant.{Constant}
use Rattle.lola_parser_grammar.specs.declared.declarations.Output.{Output}
use Rattle.lola_parser_grammar.specs.declared.declarations.Trigger.{Trigger}
use Rattle.lola_parser_grammar.specs.declared.declarations.Declaration.{Declaration}
use Rattle.lola_parser_grammar.specs.declared.declarations.Declaration.TheVariants as d
use Rattle.lola_parser_grammar.specs.Syntax.{Lexeme, Then, Maybe, Many, Spells}
use Rattle.lola_parser_grammar.specs.Grammar as g
use Rattle.lola_parser_grammar.specs.Grammar.{token, nesting, ◌*>◌, ◌<*◌}
use Rattle.lola_parser_print.specs.Print as out
use Rattle.lola_parser_print.specs.Print.{lex, bare}
use Rattle.lola_parser_law.specs.Erased as erased
use Rattle.lola_parser_law.specs.Fitting.{Perhaps, PacingFits, PartFits, SpawnFits, EvalFits, CloseFits, BodyFits, MessageReads, DeclarationFits, AllDeclarationsFit}
use Rattle.lola_parser_law.specs.Erased.{TextReads, ValueReads}
use Rattle.lola_parser_law.proofs.Single.{token_spelled, name_spelled, after, before, both, mapped}
use Rattle.lola_parser_law.proofs.Operands.{integer_spelled, text_spelled}
use Rattle.lola_parser_law.proofs.PrintedClauses.{pacing_spelled, maybe_spelled, whole_spelled, part_spelled, some_parts, parts_spelled}

-- ---- clauses

module _ (n : ℕ) where
  maybe_pacing : (o : Option Pacing) → Perhaps (PacingFits n) o → Spells (Maybe (g.pacing (suc n))) (out.maybe out.pacing o) (erased.perhaps erased.pacing o)
  maybe_pacing o h = maybe_spelled (g.pacing (suc n)) out.pacing erased.pacing (PacingFits n) (λ p k. pacing_spelled n p k) o h

  maybe_when : (o : Option Part) → Perhaps (PartFits n) o → Spells (Maybe (g.part_behind (suc n) is.When)) (out.maybe (out.part is.When) o) (erased.perhaps erased.part o)
  maybe_when o h = maybe_spelled (g.part_behind (suc n) is.When) (out.part is.When) erased.part (PartFits n) (λ p k. part_spelled n is.When p k) o h

  pub parts_are : (ps : List Part) → g.parts_or_none (some_parts ps) ≡ map erased.part ps
  parts_are [] = refl
  parts_are (p ∷ ps) = refl

  spawn_spelled : (s : Spawn) → SpawnFits n s → Spells (g.spawn (suc n)) (out.spawn s) (erased.spawn s)
  unfolding g.spawn
  spawn_spelled s h =
      subst (λ (ps : List Part). Spells (g.spawn (suc n)) (out.spawn s) (record { at = 0; pacing = erased.perhaps erased.pacing s.pacing; when = erased.perhaps erased.part s.when; with = ps })) (parts_are s.with)
      (mapped _ _ (out.spawn s) (0, (erased.perhaps erased.pacing s.pacing, (erased.perhaps erased.part s.when, some_parts s.with)))
      (both (token is.Spawn) _ (lex is.Spawn ∷ []) _ 0 _ (token_spelled is.Spawn)
      (both (Maybe (g.pacing (suc n))) _ (out.maybe out.pacing s.pacing) _ (erased.perhaps erased.pacing s.pacing) _ (maybe_pacing s.pacing h.pacing)
      (both (Maybe (g.part_behind (suc n) is.When)) (Maybe (g.with_parts (suc n))) (out.maybe (out.part is.When) s.when) (out.with_parts s.with) (erased.perhaps erased.part s.when) (some_parts s.with)
      (maybe_when s.when h.when) (parts_spelled n s.with h.with)))))

  eval_spelled : (x : Eval) → EvalFits n x → Spells (g.eval (suc n)) (out.eval x) (erased.eval x)
  unfolding g.eval
  eval_spelled x h =
      mapped _ _ (out.eval x) (0, (erased.perhaps erased.pacing x.pacing, (erased.perhaps erased.part x.when, erased.part x.with)))
      (both (token is.Eval) _ (lex is.Eval ∷ []) _ 0 _ (token_spelled is.Eval)
      (both (Maybe (g.pacing (suc n))) _ (out.maybe out.pacing x.pacing) _ (erased.perhaps erased.pacing x.pacing) _ (maybe_pacing x.pacing h.pacing)
      (both (Maybe (g.part_behind (suc n) is.When)) (g.part_behind (suc n) is.With) (out.maybe (out.part is.When) x.when) (out.part is.With x.with) (erased.perhaps erased.part x.when) (erased.part x.with)
      (maybe_when x.when h.when) (part_spelled n is.With x.with h.with))))

  close_spelled : (c : Close) → CloseFits n c → Spells (g.close (suc n)) (out.close c) (erased.close c)
  unfolding g.close
  close_spelled c h =
      mapped _ _ (out.close c) (0, (erased.perhaps erased.pacing c.pacing, erased.part c.when))
      (both (token is.Close) _ (lex is.Close ∷ []) _ 0 _ (token_spelled is.Close)
      (both (Maybe (g.pacing (suc n))) (g.part_behind (suc n) is.When) (out.maybe out.pacing c.pacing) (out.part is.When c.when) (erased.perhaps erased.pacing c.pacing) (erased.part c.when)
      (maybe_pacing c.pacing h.pacing) (part_spelled n is.When c.when h.when)))

  short_spelled : (at : ℕ) (p : Option Pacing) (q : Part) → Perhaps (PacingFits n) p → PartFits n q
      → Spells (g.short_eval (suc n)) (out.short_eval (record { at = at; pacing = p; when = None; with = q })) (erased.eval (record { at = at; pacing = p; when = None; with = q }))
  unfolding g.short_eval
  short_spelled at p q h k =
      mapped _ _ (out.maybe out.pacing p ++ out.part is.Define q) (erased.perhaps erased.pacing p, erased.part q)
      (both (Maybe (g.pacing (suc n))) (g.part_behind (suc n) is.Define) (out.maybe out.pacing p) (out.part is.Define q) (erased.perhaps erased.pacing p) (erased.part q)
      (maybe_pacing p h) (part_spelled n is.Define q k))

  abbrev Body : Option Spawn → Eval → Option Close → Type 0
  Body s x c = Spells (g.body (suc n)) (out.body s x c) (erased.perhaps erased.spawn s, erased.eval x, erased.perhaps erased.close c)

  alone_spelled : (at : ℕ) (p : Option Pacing) (w : Option Part) (q : Part) → EvalFits n (record { at = at; pacing = p; when = w; with = q }) → Body None (record { at = at; pacing = p; when = w; with = q }) None
  unfolding Spells g.body
  alone_spelled at p None q h = inl (erased.eval (record { at = at; pacing = p; when = None; with = q }), refl, short_spelled at p q h.pacing h.with)
  alone_spelled at p (Some w) q h =
      let x : Eval = record { at = at; pacing = p; when = Some w; with = q } in
      inr (inl (erased.eval x, refl, subst (λ (l : List Lexeme). Spells (g.eval (suc n)) l (erased.eval x)) (sym (append-nil (out.eval x))) (eval_spelled x h)))

  body_spelled : (s : Option Spawn) (x : Eval) (c : Option Close) → BodyFits n s x c → Body s x c
  unfolding Spells g.body
  body_spelled None x None h = alone_spelled x.at x.pacing x.when x.with h.eval
  body_spelled None x (Some c) h = absurd (clash (h.alone refl))
    where
      clash : Some c ≡ None → ⊥
      clash e = cc
  body_spelled (Some s) x c h =
      inr (inr (
        (erased.spawn s, (erased.eval x, erased.perhaps erased.close c)),
        refl,
        (
          out.spawn s,
          out.eval x ++ out.maybe out.close c,
          refl,
          spawn_spelled s h.spawn,
          (out.eval x, out.maybe out.close c, refl, eval_spelled x h.eval, maybe_spelled (g.close (suc n)) out.close erased.close (CloseFits n) (λ c k. close_spelled c k) c h.close),
        ),
      ))

-- ---- names with kinds

typed_spelled : (t : Typed) → Spells g.typed (out.typed t) (erased.typed t)
unfolding g.typed
typed_spelled t =
    mapped _ _ (out.typed t) (erased.name t.name, erased.name t.kind)
    (both g.name (token is.Colon *> g.name) (out.name t.name ∷ []) (lex is.Colon ∷ out.name t.kind ∷ []) (erased.name t.name) (erased.name t.kind) (name_spelled t.name)
    (after (token is.Colon) g.name (lex is.Colon ∷ []) (out.name t.kind ∷ []) 0 (erased.name t.kind) (token_spelled is.Colon) (name_spelled t.kind)))

comma_typed : (t : Typed) → Spells (g.further g.typed) (out.behind_comma t) (erased.typed t)
comma_typed t = after (token is.Comma) g.typed (lex is.Comma ∷ []) (out.typed t) 0 (erased.typed t) (token_spelled is.Comma) (typed_spelled t)

further_spelled : (ts : List Typed) → Spells (Many (g.further g.typed)) (out.further_typed ts) (map erased.typed ts)
unfolding Spells
further_spelled [] = refl
further_spelled (t ∷ ts) = (out.behind_comma t, out.further_typed ts, refl, comma_typed t, further_spelled ts)

listed_spelled : (t : Typed) (ts : List Typed) → Spells (g.listed g.typed) (out.listed (t ∷ ts)) (map erased.typed (t ∷ ts))
listed_spelled t ts =
    mapped _ _ (out.listed (t ∷ ts)) (erased.typed t, map erased.typed ts)
    (both g.typed (Many (g.further g.typed)) (out.typed t) (out.further_typed ts) (erased.typed t) (map erased.typed ts) (typed_spelled t) (further_spelled ts))

abbrev pub bracketed_typed : List Typed → Option g.Bracketed
bracketed_typed [] = None
bracketed_typed (t ∷ ts) = Some (0, map erased.typed (t ∷ ts))

pub parameters_spelled : (ts : List Typed) → Spells (Maybe g.parameters) (out.parameters ts) (bracketed_typed ts)
unfolding Spells g.parameters
parameters_spelled [] = refl
parameters_spelled (t ∷ ts) = (
  lex is.Open ∷ [],
  out.listed (t ∷ ts) ++ lex is.Shut ∷ [],
  refl,
  token_spelled is.Open,
  before (g.listed g.typed) (token is.Shut) (out.listed (t ∷ ts)) (lex is.Shut ∷ []) (map erased.typed (t ∷ ts)) 0 (listed_spelled t ts) (token_spelled is.Shut),
)

pub kind_spelled : (o : Option Name) → Spells (Maybe g.kind) (out.kind o) (erased.perhaps erased.name o)
unfolding Spells g.kind
kind_spelled None = refl
kind_spelled (Some m) = after (token is.Colon) g.name (lex is.Colon ∷ []) (out.name m ∷ []) 0 (erased.name m) (token_spelled is.Colon) (name_spelled m)

-- ---- literals and messages

literal_spelled : (v : Value) → ValueReads v → Spells g.literal (out.literal v) (record { value = v; at = 0 })
unfolding Spells g.literal g.word_literal
literal_spelled (value.Integer false m) h = inl ((m, 0), refl, integer_spelled m h)
literal_spelled (value.Integer true m) h = inr (inl ((0, (m, 0)), refl, (lex is.Minus ∷ [], out.integer m ∷ [], refl, token_spelled is.Minus, integer_spelled m h)))
literal_spelled (value.Truth true) h = inr (inr (inl (0, refl, token_spelled is.True)))
literal_spelled (value.Truth false) h = inr (inr (inr (inl (0, refl, token_spelled is.False))))
literal_spelled (value.Text z) h = inr (inr (inr (inr ((z, 0), refl, text_spelled z h))))

pub message_spelled : (z : List ℕ) → MessageReads z → Spells g.message (out.message z) z
unfolding Spells g.message
message_spelled [] h = (None, refl, refl)
message_spelled (b ∷ z) h = (Some (b ∷ z, 0), refl, text_spelled (b ∷ z) h)

-- ---- declarations

pub inputs_spelled : (at : ℕ) (ts : List Typed) → 0 < length ts → Spells g.inputs (lex is.Input ∷ out.listed ts) (d.Inputs (record { at = 0; inputs = map erased.typed ts }))
unfolding g.inputs
inputs_spelled at [] h = absurd (omega (arith, h))
inputs_spelled at (t ∷ ts) h =
    mapped _ _ (lex is.Input ∷ out.listed (t ∷ ts)) (0, map erased.typed (t ∷ ts))
    (both (token is.Input) (g.listed g.typed) (lex is.Input ∷ []) (out.listed (t ∷ ts)) 0 (map erased.typed (t ∷ ts)) (token_spelled is.Input) (listed_spelled t ts))

pub constant_spelled : (c : Constant) → ValueReads c.literal.value → Spells g.constant (lex is.Constant ∷ out.constant c) (erased.declaration (d.Constant c))
unfolding g.constant
constant_spelled c h =
    mapped _ _ (lex is.Constant ∷ out.constant c) (0, (erased.name c.name, (erased.name c.kind, (0, erased.literal c.literal))))
    (both (token is.Constant) _ (lex is.Constant ∷ []) (out.constant c) 0 _ (token_spelled is.Constant)
    (both g.name _ (out.name c.name ∷ []) _ (erased.name c.name) _ (name_spelled c.name)
    (both (token is.Colon *> g.name) (Then (token is.Define) g.literal) (lex is.Colon ∷ out.name c.kind ∷ []) (lex is.Define ∷ out.literal c.literal.value) (erased.name c.kind) (0, erased.literal c.literal)
    (after (token is.Colon) g.name (lex is.Colon ∷ []) (out.name c.kind ∷ []) 0 (erased.name c.kind) (token_spelled is.Colon) (name_spelled c.kind))
    (both (token is.Define) g.literal (lex is.Define ∷ []) (out.literal c.literal.value) 0 (erased.literal c.literal) (token_spelled is.Define) (literal_spelled c.literal.value h)))))

pub bracket_is : (ts : List Typed) → g.bracket_of (bracketed_typed ts) ≡ erased.parameters_bracket ts
bracket_is [] = refl
bracket_is (t ∷ ts) = refl

pub parameters_are : (ts : List Typed) → g.parameters_of (bracketed_typed ts) ≡ map erased.typed ts
parameters_are [] = refl
parameters_are (t ∷ ts) = refl

output_spelled : (n : ℕ) (o : Output) → BodyFits n o.spawn o.eval o.close → Spells (g.output (suc n)) (out.output o) (erased.declaration (d.Output o))
unfolding g.output
output_spelled n o h =
    let ps = bracketed_typed o.parameters in
    let k = erased.perhaps erased.name o.kind in
    let b : g.Body = (erased.perhaps erased.spawn o.spawn, erased.eval o.eval, erased.perhaps erased.close o.close) in
    let family : Option ℕ → List Typed → Type 0 = λ w ts. Spells (g.output (suc n)) (out.output o)
    (d.Output (record { at = 0; name = erased.name o.name; bracket = w; parameters = ts; kind = k; spawn = b.0; eval = b.1; close = b.2 })) in
    subst (λ (w : Option ℕ). family w (map erased.typed o.parameters)) (bracket_is o.parameters)
    (subst (λ (ts : List Typed). family (g.bracket_of ps) ts) (parameters_are o.parameters)
    (mapped _ _ (out.output o) (0, (erased.name o.name, (ps, (k, b))))
    (both (token is.Output) _ (lex is.Output ∷ []) (out.name o.name ∷ (out.parameters o.parameters ++ (out.kind o.kind ++ out.body o.spawn o.eval o.close))) 0 _ (token_spelled is.Output)
    (both g.name _ (out.name o.name ∷ []) _ (erased.name o.name) _ (name_spelled o.name)
    (both (Maybe g.parameters) _ (out.parameters o.parameters) (out.kind o.kind ++ out.body o.spawn o.eval o.close) ps _ (parameters_spelled o.parameters)
    (both (Maybe g.kind) (g.body (suc n)) (out.kind o.kind) (out.body o.spawn o.eval o.close) k b (kind_spelled o.kind) (body_spelled n o.spawn o.eval o.close h)))))))

trigger_spelled : (n : ℕ) (t : Trigger) → DeclarationFits n (d.Trigger t) → Spells (g.trigger (suc n)) (lex is.Trigger ∷ out.trigger t) (erased.declaration (d.Trigger t))
unfolding g.trigger
trigger_spelled n t h =
    let p = erased.perhaps erased.pacing t.pacing in
    mapped _ _ (lex is.Trigger ∷ out.trigger t) (0, (p, (erased.expr t.when.expr, t.message)))
    (both (token is.Trigger) _ (lex is.Trigger ∷ []) (out.trigger t) 0 _ (token_spelled is.Trigger)
    (both (Maybe (g.pacing (suc n))) _ (out.maybe out.pacing t.pacing) (bare t.when.expr ++ out.message t.message) p _ (maybe_pacing n t.pacing h.0)
    (both (g.whole (suc n)) g.message (bare t.when.expr) (out.message t.message) (erased.expr t.when.expr) t.message (whole_spelled n t.when.expr h.1) (message_spelled t.message h.2))))

declaration_spelled : (n : ℕ) (x : Declaration) → DeclarationFits n x → Spells (g.declaration (suc n)) (out.declaration x) (erased.declaration x)
unfolding Spells g.declaration
declaration_spelled n (d.Inputs i) h = inl (inputs_spelled i.at i.inputs h)
declaration_spelled n (d.Constant c) h = inr (inl (constant_spelled c h))
declaration_spelled n (d.Output o) h = inr (inr (inl (output_spelled n o h)))
declaration_spelled n (d.Trigger t) h = inr (inr (inr (trigger_spelled n t h)))

-- what is printed spells the specification, places left aside
pub specification_spelled : (n : ℕ) (xs : List Declaration) → AllDeclarationsFit n xs → Spells (g.specification (suc n)) (out.specification xs) (map erased.declaration xs)
unfolding Spells g.specification
specification_spelled n [] h = refl
specification_spelled n (x ∷ xs) h = (out.declaration x, out.specification xs, refl, declaration_spelled n x h.0, specification_spelled n xs h.1)
