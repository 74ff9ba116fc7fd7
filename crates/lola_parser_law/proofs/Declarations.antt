-- Declarations at other places, by the grammar.
use Rattle.std.proofs.Common.{◌≡◌, ℕ, ◌<◌, List, [], ◌∷◌, ◌++◌, map, length, Option, Some, None, refl, ap, ◌∙◌, arith}
use Rattle.lola_lexer.specs.declared.shape.TokenShape.TheVariants as is
use Rattle.lola_parser_grammar.specs.declared.literals.Name.{Name}
use Rattle.lola_parser_grammar.specs.declared.literals.Typed.{Typed}
use Rattle.lola_parser_grammar.specs.declared.literals.Literal.{Literal}
use Rattle.lola_parser_grammar.specs.declared.expressions.Expr.{Expr}
use Rattle.lola_parser_grammar.specs.declared.pacing.Pacing.{Pacing}
use Rattle.lola_parser_grammar.specs.declared.clauses.Part.{Part}
use Rattle.lola_parser_grammar.specs.declared.clauses.Spawn.{Spawn}
use Rattle.lola_parser_grammar.specs.declared.clauses.Eval.{Eval}
use Rattle.lola_parser_grammar.specs.declared.clauses.Close.{Close}
use Rattle.lola_parser_grammar.specs.declared.declarations.Output.{Output}
use Rattle.lola_parser_grammar.specs.declared.declarations.Trigger.{Trigger}
use Rattle.lola_parser_grammar.specs.declared.declarations.Declaration.{Declaration}
use Rattle.lola_parser_grammar.specs.declared.declarations.Declaration.TheVariants as d
use Rattle.lola_parser_grammar.specs.Syntax.{Then, Maybe}
use Rattle.lola_parser_grammar.specs.Grammar as g
use Rattle.lola_parser_grammar.specs.Grammar.{token, nesting, word, ◌*>◌, ◌<*◌, ◌|>◌, all_nestings}
use Rattle.lola_parser_print.specs.Print as out
use Rattle.lola_parser_print.specs.Print.{lex, bare, print_formula}
use Rattle.lola_parser_law.specs.Erased as erased
use Rattle.lola_parser_law.specs.Erased.{formula_need, QuantityReads, TextReads, ValueReads}
use Rattle.lola_parser_law.specs.Fitting.{Perhaps, PacingFits, PartFits, MessageReads, DeclarationFits, AllDeclarationsFit}
use Rattle.lola_parser_law.specs.Places.{IsLexed, AreLexed}
use Rattle.lola_parser_law.specs.Round.{Eventually}
use Rattle.lola_parser_law.proofs.Carried.{Carries, Any, Both, Opt, Each, Some_each, then_carried, map_carried, either_carried, maybe_carried, many_carried, token_any, behind_token, before_token, listed_carried}
use Rattle.lola_parser_law.proofs.Texts.{text_read}
use Rattle.lola_parser_law.proofs.Leaves.{lexed-append, lexed_bracketed, SameName, erased_name, name_carried, SameText, text_carried, SameLiteral, erased_literal, literal_carried}
use Rattle.lola_parser_law.proofs.Forms.{SameExpr}
use Rattle.lola_parser_law.proofs.InStep.{eventually_both, erased_perhaps, erased_each, perhaps_fits, maybe_lexed}
use Rattle.lola_parser_law.proofs.Pacings.{SamePacing, erased_pacing, pacing_carried, pacing_fits, pacing_lexed}
use Rattle.lola_parser_law.proofs.Clauses.{SameBody, SameClose, SamePart, SameSpawn, body_carried, body_fits, body_lexed, erased_close, erased_eval, erased_part, erased_spawn, same_part_fits, whole_expr_carried}

module _ (W : Type 0) where
  abbrev RE : Expr → Expr → Type 0
  RE = SameExpr W

  -- ---- names with kinds

  record SameTyped (s t : Typed) : Type 0 where
    pub name : SameName W s.name t.name
    pub kind : SameName W s.kind t.kind

  erased_typed : (s t : Typed) → SameTyped s t → erased.typed s ≡ erased.typed t
  erased_typed s t h =
      ap (λ (n : Name). record { name = n; kind = erased.name s.kind }) (erased_name W s.name t.name h.name)
      ∙ ap (λ (n : Name). record { name = erased.name t.name; kind = n }) (erased_name W s.kind t.kind h.kind)

  kind_carried : Carries W (SameName W) g.kind
  unfolding g.kind
  kind_carried = behind_token W (SameName W) is.Colon g.name (name_carried W)

  typed_carried : Carries W SameTyped g.typed
  unfolding g.typed
  typed_carried =
      map_carried W (Both (SameName W) (SameName W)) SameTyped (λ p. record { name = p.0; kind = p.1 }) (Then g.name (token is.Colon *> g.name))
      (λ x y k. record { name = k.0; kind = k.1 })
      (then_carried W (SameName W) (SameName W) g.name (token is.Colon *> g.name) (name_carried W) (behind_token W (SameName W) is.Colon g.name (name_carried W)))

  typed_lexed : W → (s t : Typed) → SameTyped s t → AreLexed (out.typed s)
  typed_lexed w s t h = (h.name.lexed w, (refl, (h.kind.lexed w, tt)))

  further_typed_lexed : W → (xs ys : List Typed) → Each SameTyped xs ys → AreLexed (out.further_typed xs)
  further_typed_lexed w [] ys h = tt
  further_typed_lexed w (x ∷ xs) [] h = absurd h
  further_typed_lexed w (x ∷ xs) (y ∷ ys) h = lexed-append (out.behind_comma x) (out.further_typed xs) (refl, typed_lexed w x y h.0) (further_typed_lexed w xs ys h.1)

  listed_lexed : W → (xs ys : List Typed) → Each SameTyped xs ys → AreLexed (out.listed xs)
  listed_lexed w [] ys h = tt
  listed_lexed w (x ∷ xs) [] h = absurd h
  listed_lexed w (x ∷ xs) (y ∷ ys) h = lexed-append (out.typed x) (out.further_typed xs) (typed_lexed w x y h.0) (further_typed_lexed w xs ys h.1)

  some_each : {A : Type 0} (R : A → A → Type 0) (xs ys : List A) → Some_each W R xs ys → Each R xs ys
  some_each R [] ys h = absurd h
  some_each R (x ∷ xs) ys h = h

  some_there : {A : Type 0} (R : A → A → Type 0) (xs ys : List A) → Some_each W R xs ys → 0 < length xs
  some_there R [] ys h = absurd h
  some_there R (x ∷ xs) ys h = omega arith

  -- ---- declarations

  pub record DeclarationIs (x : Declaration) : Type 0 where
    pub fits : Eventually (λ n. DeclarationFits n x)
    pub lexed : AreLexed (out.declaration x)

  pub record SameDeclaration (x y : Declaration) : Type 0 where
    pub erased : erased.declaration x ≡ erased.declaration y
    pub known : W → DeclarationIs x

  same_inputs : (m n : ℕ) (xs ys : List Typed) → Some_each W SameTyped xs ys → SameDeclaration (d.Inputs (record { at = m; inputs = xs })) (d.Inputs (record { at = n; inputs = ys }))
  same_inputs m n xs ys h =
      let l = some_each SameTyped xs ys h in
      record {
        erased = ap (λ (z : List Typed). d.Inputs (record { at = 0; inputs = z })) (erased_each SameTyped erased.typed erased_typed xs ys l);
        known = λ w. record { fits = (0, λ k le. some_there SameTyped xs ys h); lexed = (refl, listed_lexed w xs ys l) };
      }

  inputs_carried : Carries W SameDeclaration g.inputs
  unfolding g.inputs
  inputs_carried =
      map_carried W (Both Any (Some_each W SameTyped)) SameDeclaration (λ p. d.Inputs (record { at = p.0; inputs = p.1 })) (Then (token is.Input) (g.listed g.typed))
      (λ x y k. same_inputs x.0 y.0 x.1 y.1 k.1)
      (then_carried W Any (Some_each W SameTyped) (token is.Input) (g.listed g.typed) (token_any W is.Input) (listed_carried W SameTyped g.typed typed_carried))

  same_constant : (m m' : ℕ) (n n' k k' : Name) (b b' : ℕ) (l l' : Literal) → SameName W n n' → SameName W k k' → SameLiteral W l l'
      → SameDeclaration (d.Constant (record { at = m; name = n; kind = k; before = b; literal = l })) (d.Constant (record { at = m'; name = n'; kind = k'; before = b'; literal = l' }))
  same_constant m m' n n' k k' b b' l l' h i j =
      record {
        erased = ap (λ (z : Name). d.Constant (record { at = 0; name = z; kind = erased.name k; before = 0; literal = erased.literal l })) (erased_name W n n' h)
            ∙ ap (λ (z : Name). d.Constant (record { at = 0; name = erased.name n'; kind = z; before = 0; literal = erased.literal l })) (erased_name W k k' i)
            ∙ ap (λ (z : Literal). d.Constant (record { at = 0; name = erased.name n'; kind = erased.name k'; before = 0; literal = z })) (erased_literal W l l' j);
        known = λ w. record { fits = (0, λ n le. (j.known w).0); lexed = (refl, (h.lexed w, (refl, (i.lexed w, (refl, (j.known w).1))))) };
      }

  constant_carried : Carries W SameDeclaration g.constant
  unfolding g.constant
  constant_carried =
      let N = SameName W in
      let L = SameLiteral W in
      map_carried W (Both Any (Both N (Both N (Both Any L)))) SameDeclaration (λ p. d.Constant (record { at = p.0; name = p.1.0; kind = p.1.1.0; before = p.1.1.1.0; literal = p.1.1.1.1 })) _
      (λ x y k. same_constant x.0 y.0 x.1.0 y.1.0 x.1.1.0 y.1.1.0 x.1.1.1.0 y.1.1.1.0 x.1.1.1.1 y.1.1.1.1 k.1.0 k.1.1.0 k.1.1.1.1)
      (then_carried W Any (Both N (Both N (Both Any L))) (token is.Constant) _ (token_any W is.Constant)
      (then_carried W N (Both N (Both Any L)) g.name _ (name_carried W)
      (then_carried W N (Both Any L) (token is.Colon *> g.name) (Then (token is.Define) g.literal) (behind_token W N is.Colon g.name (name_carried W))
      (then_carried W Any L (token is.Define) g.literal (token_any W is.Define) (literal_carried W)))))

  abbrev SameBracketed : g.Bracketed → g.Bracketed → Type 0
  SameBracketed = Both Any (Some_each W SameTyped)

  parameters_carried : Carries W SameBracketed g.parameters
  unfolding g.parameters
  parameters_carried =
      then_carried W Any (Some_each W SameTyped) (token is.Open) (g.listed g.typed <* token is.Shut) (token_any W is.Open)
      (before_token W (Some_each W SameTyped) is.Shut (g.listed g.typed) (listed_carried W SameTyped g.typed typed_carried))

  parameters_each : (o p : Option g.Bracketed) → Opt SameBracketed o p → Each SameTyped (g.parameters_of o) (g.parameters_of p)
  parameters_each None None h = tt
  parameters_each None (Some y) h = absurd h
  parameters_each (Some x) None h = absurd h
  parameters_each (Some x) (Some y) h = some_each SameTyped x.1 y.1 h.1

  parameters_lexed : W → (xs ys : List Typed) → Each SameTyped xs ys → AreLexed (out.parameters xs)
  parameters_lexed w [] ys h = tt
  parameters_lexed w (x ∷ xs) ys h = lexed_bracketed (out.listed (x ∷ xs)) (listed_lexed w (x ∷ xs) ys h)

  kind_lexed : W → (o p : Option Name) → Opt (SameName W) o p → AreLexed (out.kind o)
  kind_lexed w None p h = tt
  kind_lexed w (Some n) None h = absurd h
  kind_lexed w (Some n) (Some m) h = (refl, (h.lexed w, tt))

  record SameOutput (x y : Output) : Type 0 where
    pub name : SameName W x.name y.name
    pub parameters : Each SameTyped x.parameters y.parameters
    pub kind : Opt (SameName W) x.kind y.kind
    pub body : SameBody W (x.spawn, x.eval, x.close) (y.spawn, y.eval, y.close)

  erased_output : (x y : Output) → SameOutput x y → erased.declaration (d.Output x) ≡ erased.declaration (d.Output y)
  erased_output x y h =
      let ps = erased_each SameTyped erased.typed erased_typed x.parameters y.parameters h.parameters in
      let bs = bracket_same x.parameters y.parameters h.parameters in
      let ks = erased_perhaps (SameName W) erased.name (erased_name W) x.kind y.kind h.kind in
      let ss = erased_perhaps (SameSpawn W) erased.spawn (erased_spawn W) x.spawn y.spawn h.body.spawn in
      let vs = erased_eval W x.eval y.eval h.body.eval in
      let cs = erased_perhaps (SameClose W) erased.close (erased_close W) x.close y.close h.body.close in
      ap (λ (z : Name). made z (erased.parameters_bracket x.parameters) (map erased.typed x.parameters) (erased.perhaps erased.name x.kind) (erased.perhaps erased.spawn x.spawn) (erased.eval x.eval) (erased.perhaps erased.close x.close)) (erased_name W x.name y.name h.name)
      ∙ ap (λ (z : Option ℕ). made (erased.name y.name) z (map erased.typed x.parameters) (erased.perhaps erased.name x.kind) (erased.perhaps erased.spawn x.spawn) (erased.eval x.eval) (erased.perhaps erased.close x.close)) bs
      ∙ ap (λ (z : List Typed). made (erased.name y.name) (erased.parameters_bracket y.parameters) z (erased.perhaps erased.name x.kind) (erased.perhaps erased.spawn x.spawn) (erased.eval x.eval) (erased.perhaps erased.close x.close)) ps
      ∙ ap (λ (z : Option Name). made (erased.name y.name) (erased.parameters_bracket y.parameters) (map erased.typed y.parameters) z (erased.perhaps erased.spawn x.spawn) (erased.eval x.eval) (erased.perhaps erased.close x.close)) ks
      ∙ ap (λ (z : Option Spawn). made (erased.name y.name) (erased.parameters_bracket y.parameters) (map erased.typed y.parameters) (erased.perhaps erased.name y.kind) z (erased.eval x.eval) (erased.perhaps erased.close x.close)) ss
      ∙ ap (λ (z : Eval). made (erased.name y.name) (erased.parameters_bracket y.parameters) (map erased.typed y.parameters) (erased.perhaps erased.name y.kind) (erased.perhaps erased.spawn y.spawn) z (erased.perhaps erased.close x.close)) vs
      ∙ ap (λ (z : Option Close). made (erased.name y.name) (erased.parameters_bracket y.parameters) (map erased.typed y.parameters) (erased.perhaps erased.name y.kind) (erased.perhaps erased.spawn y.spawn) (erased.eval y.eval) z) cs
    where
      bracket_same : (xs ys : List Typed) → Each SameTyped xs ys → erased.parameters_bracket xs ≡ erased.parameters_bracket ys
      bracket_same [] [] k = refl
      bracket_same [] (t ∷ ts) k = absurd k
      bracket_same (s ∷ ss) [] k = absurd k
      bracket_same (s ∷ ss) (t ∷ ts) k = refl

      made : Name → Option ℕ → List Typed → Option Name → Option Spawn → Eval → Option Close → Declaration
      made n b ps k s v c = d.Output (record { at = 0; name = n; bracket = b; parameters = ps; kind = k; spawn = s; eval = v; close = c })

  output_lexed : W → (x y : Output) → SameOutput x y → AreLexed (out.output x)
  output_lexed w x y h =
      lexed-append (lex is.Output ∷ out.name x.name ∷ out.parameters x.parameters) (out.kind x.kind ++ out.body x.spawn x.eval x.close)
      (refl, (h.name.lexed w, parameters_lexed w x.parameters y.parameters h.parameters))
      (lexed-append (out.kind x.kind) (out.body x.spawn x.eval x.close) (kind_lexed w x.kind y.kind h.kind) (body_lexed W w (x.spawn, x.eval, x.close) (y.spawn, y.eval, y.close) h.body))

  same_output : (x y : Output) → SameOutput x y → SameDeclaration (d.Output x) (d.Output y)
  same_output x y h =
      record {
        erased = erased_output x y h;
        known = λ w. record { fits = body_fits W w (x.spawn, x.eval, x.close) (y.spawn, y.eval, y.close) h.body; lexed = output_lexed w x y h };
      }

  output_carried : (n : ℕ) → Carries W SameDeclaration (g.output n)
  unfolding g.output
  output_carried n =
      let N = SameName W in
      let K = Both (Opt N) (SameBody W) in
      let P = Both (Opt SameBracketed) K in
      map_carried W (Both Any (Both N P)) SameDeclaration
      (λ p. d.Output (record { at = p.0; name = p.1.0; bracket = g.bracket_of p.1.1.0; parameters = g.parameters_of p.1.1.0; kind = p.1.1.1.0; spawn = p.1.1.1.1.0; eval = p.1.1.1.1.1; close = p.1.1.1.1.2 })) _
      (λ x y k. same_output (made x) (made y)
      (record { name = k.1.0; parameters = parameters_each x.1.1.0 y.1.1.0 k.1.1.0; kind = k.1.1.1.0; body = k.1.1.1.1 }))
      (then_carried W Any (Both N P) (token is.Output) _ (token_any W is.Output)
      (then_carried W N P g.name _ (name_carried W)
      (then_carried W (Opt SameBracketed) K (Maybe g.parameters) _ (maybe_carried W SameBracketed g.parameters parameters_carried)
      (then_carried W (Opt N) (SameBody W) (Maybe g.kind) (g.body n) (maybe_carried W N g.kind kind_carried) (body_carried W n)))))
    where
      made : ℕ × (Name × (Option g.Bracketed × (Option Name × g.Body))) → Output
      made p = record { at = p.0; name = p.1.0; bracket = g.bracket_of p.1.1.0; parameters = g.parameters_of p.1.1.0; kind = p.1.1.1.0; spawn = p.1.1.1.1.0; eval = p.1.1.1.1.1; close = p.1.1.1.1.2 }

  -- ---- triggers

  record SameMessage (x y : List ℕ) : Type 0 where
    pub is : x ≡ y
    pub lexed : W → AreLexed (out.message x)

  message_text : (z : List ℕ) → IsLexed (out.text z) → AreLexed (out.message z)
  message_text [] h = tt
  message_text (b ∷ z) h = (h, tt)

  message_reads : (z : List ℕ) → MessageReads z
  message_reads [] = tt
  message_reads (b ∷ z) = text_read (b ∷ z)

  same_message : (o p : Option (List ℕ × ℕ)) → Opt (SameText W) o p → SameMessage (g.message_of o) (g.message_of p)
  same_message None None h = record { is = refl; lexed = λ w. tt }
  same_message None (Some y) h = absurd h
  same_message (Some x) None h = absurd h
  same_message (Some x) (Some y) h = record { is = h.text; lexed = λ w. message_text x.0 (h.lexed w) }

  message_carried : Carries W SameMessage g.message
  unfolding g.message
  message_carried = map_carried W (Opt (SameText W)) SameMessage g.message_of (Maybe g.text) (λ x y k. same_message x y k) (maybe_carried W (SameText W) g.text (text_carried W))

  same_trigger : (x y : Trigger) → Opt (SamePacing W) x.pacing y.pacing → SamePart W x.when y.when → SameMessage x.message y.message → SameDeclaration (d.Trigger x) (d.Trigger y)
  same_trigger x y h i j =
      record {
        erased = ap (λ (z : Option Pacing). d.Trigger (record { pacing = z; when = erased.part x.when; message = x.message })) (erased_perhaps (SamePacing W) erased.pacing (erased_pacing W) x.pacing y.pacing h)
            ∙ ap (λ (z : Part). d.Trigger (record { pacing = erased.perhaps erased.pacing y.pacing; when = z; message = x.message })) (erased_part W x.when y.when i)
            ∙ ap (λ (z : List ℕ). d.Trigger (record { pacing = erased.perhaps erased.pacing y.pacing; when = erased.part y.when; message = z })) j.is;
        known = λ w. record {
          fits = eventually_both (λ n. Perhaps (PacingFits n) x.pacing) (λ n. PartFits n x.when) (λ n. DeclarationFits n (d.Trigger x)) (λ n a b. (a, b, message_reads x.message))
              (perhaps_fits (SamePacing W) PacingFits (pacing_fits W w) x.pacing y.pacing h) (same_part_fits W w x.when y.when i);
          lexed = (
            refl,
            lexed-append (out.maybe out.pacing x.pacing) (bare x.when.expr ++ out.message x.message) (maybe_lexed (SamePacing W) out.pacing (pacing_lexed W w) x.pacing y.pacing h)
                (lexed-append (bare x.when.expr) (out.message x.message) (i.expr.known w).lexed (j.lexed w)),
          );
        };
      }

  trigger_carried : (n : ℕ) → Carries W SameDeclaration (g.trigger n)
  unfolding g.trigger
  trigger_carried n =
      let K = Both RE SameMessage in
      let P = Both (Opt (SamePacing W)) K in
      map_carried W (Both Any P) SameDeclaration (λ p. d.Trigger (record { pacing = p.1.0; when = g.part p.0 p.1.1.0; message = p.1.1.1 })) _
      (λ x y k. same_trigger (record { pacing = x.1.0; when = g.part x.0 x.1.1.0; message = x.1.1.1 }) (record { pacing = y.1.0; when = g.part y.0 y.1.1.0; message = y.1.1.1 })
      k.1.0 (record { expr = k.1.1.0 }) k.1.1.1)
      (then_carried W Any P (token is.Trigger) _ (token_any W is.Trigger)
      (then_carried W (Opt (SamePacing W)) K (Maybe (g.pacing n)) _ (maybe_carried W (SamePacing W) (g.pacing n) (pacing_carried W n))
      (then_carried W RE SameMessage (g.whole n) g.message (whole_expr_carried W n) message_carried)))

  declaration_carried : (n : ℕ) → Carries W SameDeclaration (g.declaration n)
  unfolding g.declaration
  declaration_carried n =
      either_carried W SameDeclaration g.inputs _ inputs_carried (either_carried W SameDeclaration g.constant _ constant_carried
      (either_carried W SameDeclaration (g.output n) (g.trigger n) (output_carried n) (trigger_carried n)))

  pub specification_carried : (n : ℕ) → Carries W (Each SameDeclaration) (g.specification n)
  unfolding g.specification
  specification_carried n = many_carried W SameDeclaration (g.declaration n) (declaration_carried n)

  -- ---- what that says of a whole specification

  pub same_erased : (xs ys : List Declaration) → Each SameDeclaration xs ys → map erased.declaration xs ≡ map erased.declaration ys
  same_erased xs ys h = erased_each SameDeclaration erased.declaration (λ x y k. k.erased) xs ys h

  pub same_fit : W → (xs ys : List Declaration) → Each SameDeclaration xs ys → Eventually (λ n. AllDeclarationsFit n xs)
  same_fit w [] ys h = (0, λ n le. tt)
  same_fit w (x ∷ xs) [] h = absurd h
  same_fit w (x ∷ xs) (y ∷ ys) h =
      eventually_both (λ n. DeclarationFits n x) (λ n. AllDeclarationsFit n xs) (λ n. AllDeclarationsFit n (x ∷ xs)) (λ n a b. (a, b)) (h.0.known w).fits (same_fit w xs ys h.1)

  pub same_lexed : W → (xs ys : List Declaration) → Each SameDeclaration xs ys → AreLexed (out.specification xs)
  same_lexed w [] ys h = tt
  same_lexed w (x ∷ xs) [] h = absurd h
  same_lexed w (x ∷ xs) (y ∷ ys) h = lexed-append (out.declaration x) (out.specification xs) (h.0.known w).lexed (same_lexed w xs ys h.1)
