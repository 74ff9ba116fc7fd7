-- The texts of the streams that declarations are resolved to are in UTF-8, where what is printed of the declarations are tokens.
use Rattle.std.proofs.Common.{◌≡◌, ℕ, ◌+◌, List, [], ◌∷◌, ◌++◌, refl, sym, subst, ap, Bool, true, false, ◌&&◌, not, Option, Some, None, length, map, slice_get}
use Rattle.std.specs.Prelude.{if◌then◌else◌, is_some}
use Rattle.std.proofs.lemmas.Bool.{and_parts}
use Rattle.lola_lexer.specs.declared.shape.TokenShape.{TokenShape}
use Rattle.lola_lexer.specs.declared.shape.TokenShape.TheVariants as is
use Rattle.lola_parser_grammar.specs.declared.literals.Typed.{Typed}
use Rattle.lola_parser_grammar.specs.declared.clauses.Part.{Part as TreePart}
use Rattle.lola_parser_grammar.specs.declared.clauses.Spawn.{Spawn}
use Rattle.lola_parser_grammar.specs.declared.clauses.Eval.{Eval}
use Rattle.lola_parser_grammar.specs.declared.clauses.Close.{Close}
use Rattle.lola_parser_grammar.specs.declared.declarations.Constant.{Constant as TreeConstant}
use Rattle.lola_parser_grammar.specs.declared.declarations.Output.{Output}
use Rattle.lola_parser_grammar.specs.declared.declarations.Trigger.{Trigger}
use Rattle.lola_parser_grammar.specs.declared.declarations.Declaration.{Declaration}
use Rattle.lola_parser_grammar.specs.declared.declarations.Declaration.TheVariants as d
use Rattle.lola_parser_print.specs.Print as out
use Rattle.lola_parser_print.specs.Print.{lex, bare}
use Rattle.lola_parser_law.specs.Places.{AreLexed}
use Rattle.lola_parser_law.proofs.Leaves.{lexed_front, lexed_back}
use Rattle.lola_model.specs.Named.{literal_text}
use Rattle.lola_model.specs.Parts.{listed, listed_when, listed_with, listed_clause, listed_stream, listed_streams}
use Rattle.lola_model.specs.declared.expr.Expr.{Expr}
use Rattle.lola_model.specs.declared.spec.Clause.{Clause}
use Rattle.lola_model.specs.declared.spec.Stream.{Stream}
use Rattle.lola_model.specs.declared.spec.WindowSpec.{WindowSpec}
use Rattle.lola_names.specs.Targets.{Targets}
use Rattle.lola_names.specs.Resolved.{Standing}
use Rattle.lola_names.specs.Clauses.{IsOptional, IsPart, ArePartsOf, IsSpawn, IsEval, IsClose, IsOutput, IsTriggerClause, IsTrigger, input_stream}
use Rattle.lola_names.specs.Specification.{AreStreams}
use Rattle.lola_front_law.proofs.ExpressionTexts.{AreKnown, known-none, known-both, expression-known, printed-of}

-- the expressions of parts are tokens
abbrev ArePrinted : List TreePart → Type 0
ArePrinted [] = Unit {0}
ArePrinted (x ∷ xs) = AreLexed (bare x.expr) × ArePrinted xs

further-printed : (ps : List TreePart) → AreLexed (out.further_parts ps) → ArePrinted ps
further-printed [] h = tt
further-printed (p ∷ ps) h = ((lexed_front (out.part is.Comma p) (out.further_parts ps) h).1, further-printed ps (lexed_back (out.part is.Comma p) (out.further_parts ps) h))

with-printed : (ps : List TreePart) → AreLexed (out.with_parts ps) → ArePrinted ps
with-printed [] h = tt
with-printed (p ∷ []) h = (h.1, tt)
with-printed (p ∷ q ∷ ps) h =
    let behind = out.further_parts (q ∷ ps) ++ lex is.Shut ∷ [] in (
      (lexed_front (out.part is.Open p) behind h.1).1,
      further-printed (q ∷ ps) (lexed_front (out.further_parts (q ∷ ps)) (lex is.Shut ∷ []) (lexed_back (out.part is.Open p) behind h.1)),
    )

-- a part that may be left out
abbrev IsPartPrinted : Option TreePart → Type 0
IsPartPrinted None = Unit {0}
IsPartPrinted (Some x) = AreLexed (bare x.expr)

maybe-printed : (s : TokenShape) (o : Option TreePart) → AreLexed (out.maybe (out.part s) o) → IsPartPrinted o
maybe-printed s None h = tt
maybe-printed s (Some x) h = h.1

module _ (declarations : List Declaration) (targets : Targets) (texts : List (List ℕ)) (windows : List WindowSpec) (constants : (c : ℕ) (k : TreeConstant) → slice_get declarations c ≡ Some (d.Constant k) → AreLexed (out.literal k.literal.value)) where
  module _ (here : Standing) where
    part-known : (x : TreePart) (s : Expr) → AreLexed (bare x.expr) → IsPart declarations targets texts windows here x s → AreKnown texts (listed literal_text s)
    part-known x s p h = expression-known declarations targets texts windows constants here x.expr s (printed-of x.expr p) h

    parts-known : (xs : List TreePart) (ss : List Expr) → ArePrinted xs → ArePartsOf declarations targets texts windows here xs ss → AreKnown texts (listed_with literal_text ss)
    parts-known [] [] p h = known-none texts
    parts-known [] (s ∷ ss) p h = absurd h
    parts-known (x ∷ xs) [] p h = absurd h
    parts-known (x ∷ xs) (s ∷ ss) p h = known-both texts (listed literal_text s) (listed_with literal_text ss) (part-known x s p.0 h.0) (parts-known xs ss p.1 h.1)

    when-known : (o : Option TreePart) (r : Option Expr) → IsPartPrinted o → IsOptional (IsPart declarations targets texts windows here) o r → AreKnown texts (listed_when literal_text r)
    when-known None None p h = known-none texts
    when-known None (Some s) p h = absurd h
    when-known (Some x) None p h = absurd h
    when-known (Some x) (Some s) p h = part-known x s p h

    spawn-known : (x : Spawn) (c : Clause) → AreLexed (out.spawn x) → IsSpawn declarations targets texts windows here x c → AreKnown texts (listed_clause literal_text (Some c))
    spawn-known x c p h =
        let others = out.maybe (out.part is.When) x.when ++ out.with_parts x.with in
        let behind = lexed_back (out.maybe out.pacing x.pacing) others p.1 in
        known-both texts (listed_when literal_text c.when) (listed_with literal_text c.with)
        (when-known x.when c.when (maybe-printed is.When x.when (lexed_front (out.maybe (out.part is.When) x.when) (out.with_parts x.with) behind)) h.condition)
        (parts-known x.with c.with (with-printed x.with (lexed_back (out.maybe (out.part is.When) x.when) (out.with_parts x.with) behind)) h.parameters)

    eval-known : (x : Eval) (c : Clause) → IsPartPrinted x.when → AreLexed (bare x.with.expr) → IsEval declarations targets texts windows here x c → AreKnown texts (listed_clause literal_text (Some c))
    eval-known x c w p h =
        known-both texts (listed_when literal_text c.when) (listed_with literal_text c.with)
        (when-known x.when c.when w h.condition) (parts-known (x.with ∷ []) c.with (p, tt) h.result)

    close-known : (x : Close) (c : Clause) → AreLexed (out.close x) → IsClose declarations targets texts windows here x c → AreKnown texts (listed_clause literal_text (Some c))
    close-known x c p h =
        let behind = lexed_back (out.maybe out.pacing x.pacing) (out.part is.When x.when) p.1 in
        known-both texts (listed_when literal_text c.when) (listed_with literal_text c.with)
        (when-known (Some x.when) c.when behind.1 h.condition)
        (subst (λ (ss : List Expr). AreKnown texts (listed_with literal_text ss)) (sym h.parameters) (known-none texts))

  spawn-optional : (here : Standing) (o : Option Spawn) (r : Option Clause) → AreLexed (out.maybe out.spawn o) → IsOptional (IsSpawn declarations targets texts windows here) o r → AreKnown texts (listed_clause literal_text r)
  spawn-optional here None None p h = known-none texts
  spawn-optional here None (Some c) p h = absurd h
  spawn-optional here (Some x) None p h = absurd h
  spawn-optional here (Some x) (Some c) p h = spawn-known here x c p h

  close-optional : (here : Standing) (o : Option Close) (r : Option Clause) → AreLexed (out.maybe out.close o) → IsOptional (IsClose declarations targets texts windows here) o r → AreKnown texts (listed_clause literal_text r)
  close-optional here None None p h = known-none texts
  close-optional here None (Some c) p h = absurd h
  close-optional here (Some x) None p h = absurd h
  close-optional here (Some x) (Some c) p h = close-known here x c p h

  eval-optional : (here : Standing) (x : Eval) (r : Option Clause) → IsPartPrinted x.when → AreLexed (bare x.with.expr) → IsOptional (IsEval declarations targets texts windows here) (Some x) r → AreKnown texts (listed_clause literal_text r)
  eval-optional here x None w p h = absurd h
  eval-optional here x (Some c) w p h = eval-known here x c w p h

  -- what is printed of a body, in its short form or not
  pub record IsBodyPrinted (s : Option Spawn) (x : Eval) (c : Option Close) : Type 0 where
    pub spawn : AreLexed (out.maybe out.spawn s)
    pub when : IsPartPrinted x.when
    pub with : AreLexed (bare x.with.expr)
    pub close : AreLexed (out.maybe out.close c)

  eval-behind : (x : Eval) → AreLexed (out.eval x) → IsPartPrinted x.when × AreLexed (bare x.with.expr)
  eval-behind x h =
      let others = out.maybe (out.part is.When) x.when ++ out.part is.With x.with in
      let behind = lexed_back (out.maybe out.pacing x.pacing) others h.1 in (
        maybe-printed is.When x.when (lexed_front (out.maybe (out.part is.When) x.when) (out.part is.With x.with) behind),
        (lexed_back (out.maybe (out.part is.When) x.when) (out.part is.With x.with) behind).1,
      )

  long-printed : (s : Option Spawn) (x : Eval) (c : Option Close) → AreLexed (out.maybe out.spawn s ++ (out.eval x ++ out.maybe out.close c)) → IsBodyPrinted s x c
  long-printed s x c h =
      let behind = lexed_back (out.maybe out.spawn s) (out.eval x ++ out.maybe out.close c) h in
      let e = eval-behind x (lexed_front (out.eval x) (out.maybe out.close c) behind) in
      record {
        spawn = lexed_front (out.maybe out.spawn s) (out.eval x ++ out.maybe out.close c) h;
        when = e.0;
        with = e.1;
        close = lexed_back (out.eval x) (out.maybe out.close c) behind;
      }

  short-printed : (s : Option Spawn) (x : Eval) (o : Option TreePart) (c : Option Close) → x.when ≡ o → out.is_short s x c ≡ true → AreLexed (out.short_eval x) → IsBodyPrinted s x c
  short-printed None x None None e q h = record {
    spawn = tt;
    when = subst IsPartPrinted (sym e) tt;
    with = (lexed_back (out.maybe out.pacing x.pacing) (out.part is.Define x.with) h).1;
    close = tt;
  }
  short-printed None x (Some w) None e q h = absurd (let z = ap (λ (o : Option TreePart). not (is_some o) && true) e in cc)
  short-printed None x o (Some c) e q h = absurd (let z = and_parts (not (is_some x.when)) false q in let y = z.1 in cc)
  short-printed (Some s) x o c e q h = absurd (cc)

  body-printed : (s : Option Spawn) (x : Eval) (c : Option Close) → AreLexed (out.body s x c) → IsBodyPrinted s x c
  body-printed s x c h = by (out.is_short s x c) refl h
    where
      by : (b : Bool) → out.is_short s x c ≡ b → AreLexed (if b then out.short_eval x else out.maybe out.spawn s ++ (out.eval x ++ out.maybe out.close c)) → IsBodyPrinted s x c
      by true q g = short-printed s x x.when c refl q g
      by false q g = long-printed s x c g

  output-known : (n : ℕ) (x : Output) (s : Stream) → AreLexed (out.output x) → IsOutput declarations targets texts windows n x s → AreKnown texts (listed_stream literal_text s)
  output-known n x s p h =
      let b = body-printed x.spawn x.eval x.close (lexed_back (out.kind x.kind) (out.body x.spawn x.eval x.close) (lexed_back (lex is.Output ∷ out.name x.name ∷ out.parameters x.parameters) (out.kind x.kind ++ out.body x.spawn x.eval x.close) p)) in
      known-both texts (listed_clause literal_text s.spawn) (listed_clause literal_text s.eval ++ listed_clause literal_text s.close)
      (spawn-optional _ x.spawn s.spawn b.spawn h.spawn)
      (known-both texts (listed_clause literal_text s.eval) (listed_clause literal_text s.close)
      (eval-optional _ x.eval s.eval b.when b.with h.eval) (close-optional _ x.close s.close b.close h.close))

  trigger-clause : (here : Standing) (x : Trigger) (r : Option Clause) → AreLexed (bare x.when.expr) → IsOptional (IsTriggerClause declarations targets texts windows here) (Some x) r → AreKnown texts (listed_clause literal_text r)
  trigger-clause here x None p h = absurd h
  trigger-clause here x (Some c) p h =
      known-both texts (listed_when literal_text c.when) (listed_with literal_text c.with)
      (subst (λ (o : Option Expr). AreKnown texts (listed_when literal_text o)) (sym h.condition) (known-none texts))
      (parts-known here (x.when ∷ []) c.with (p, tt) h.result)

  trigger-known : (n k : ℕ) (x : Trigger) (s : Stream) → AreLexed (out.trigger x) → IsTrigger declarations targets texts windows n k x s → AreKnown texts (listed_stream literal_text s)
  trigger-known n k x s p h =
      let behind = lexed_back (out.maybe out.pacing x.pacing) (bare x.when.expr ++ out.message x.message) p in
      known-both texts (listed_clause literal_text s.spawn) (listed_clause literal_text s.eval ++ listed_clause literal_text s.close)
      (subst (λ (o : Option Clause). AreKnown texts (listed_clause literal_text o)) (sym h.spawn) (known-none texts))
      (known-both texts (listed_clause literal_text s.eval) (listed_clause literal_text s.close)
      (trigger-clause _ x s.eval (lexed_front (bare x.when.expr) (out.message x.message) behind) h.eval)
      (subst (λ (o : Option Clause). AreKnown texts (listed_clause literal_text o)) (sym h.close) (known-none texts)))

  inputs-known : (ts : List Typed) (rest : List Stream) → AreKnown texts (listed_streams literal_text rest) → AreKnown texts (listed_streams literal_text (map input_stream ts ++ rest))
  inputs-known [] rest h = h
  inputs-known (t ∷ ts) rest h = inputs-known ts rest h

  -- the streams of declarations
  pub streams-known : (n k : ℕ) (ds : List Declaration) (ss : List Stream) → AreLexed (out.specification ds) → AreStreams declarations targets texts windows n k ds ss → AreKnown texts (listed_streams literal_text ss)
  streams-known n k [] ss p h = subst (λ (rs : List Stream). AreKnown texts (listed_streams literal_text rs)) (sym h) (known-none texts)
  streams-known n k (d.Inputs x ∷ ds) ss p h =
      subst (λ (rs : List Stream). AreKnown texts (listed_streams literal_text rs)) (sym h.1)
      (inputs-known x.inputs h.0 (streams-known (n + length x.inputs) k ds h.0 (lexed_back (out.declaration (d.Inputs x)) (out.specification ds) p) h.2))
  streams-known n k (d.Constant x ∷ ds) ss p h = streams-known n k ds ss (lexed_back (out.declaration (d.Constant x)) (out.specification ds) p) h
  streams-known n k (d.Output x ∷ ds) [] p h = absurd h
  streams-known n k (d.Output x ∷ ds) (s ∷ ss) p h =
      known-both texts (listed_stream literal_text s) (listed_streams literal_text ss)
      (output-known n x s (lexed_front (out.output x) (out.specification ds) p) h.0)
      (streams-known (n + 1) k ds ss (lexed_back (out.output x) (out.specification ds) p) h.1)
  streams-known n k (d.Trigger x ∷ ds) [] p h = absurd h
  streams-known n k (d.Trigger x ∷ ds) (s ∷ ss) p h =
      known-both texts (listed_stream literal_text s) (listed_streams literal_text ss)
      (trigger-known n (k + 1) x s (lexed_front (out.declaration (d.Trigger x)) (out.specification ds) p).1 h.0)
      (streams-known (n + 1) (k + 1) ds ss (lexed_back (out.declaration (d.Trigger x)) (out.specification ds) p) h.1)
