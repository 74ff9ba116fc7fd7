-- Clauses at other places, by the grammar.
use Rattle.std.proofs.Common.{◌≡◌, ℕ, ◌+◌, Bool, true, false, List, [], ◌∷◌, ◌++◌, map, Option, Some, None, refl, ap, ◌∙◌, arith}
use Rattle.std.specs.Bool.{if◌then◌else◌}
use Rattle.lola_lexer.specs.declared.shape.TokenShape.{TokenShape}
use Rattle.lola_lexer.specs.declared.shape.TokenShape.TheVariants as is
use Rattle.lola_parser_grammar.specs.declared.expressions.Expr.{Expr}
use Rattle.lola_parser_grammar.specs.declared.pacing.Pacing.{Pacing}
use Rattle.lola_parser_grammar.specs.declared.clauses.Part.{Part}
use Rattle.lola_parser_grammar.specs.declared.clauses.Spawn.{Spawn}
use Rattle.lola_parser_grammar.specs.declared.clauses.Eval.{Eval}
use Rattle.lola_parser_grammar.specs.declared.clauses.Close.{Close}
use Rattle.lola_parser_grammar.specs.Syntax.{Syntax, Then, Map, Either, Maybe, Many, Known, Of}
use Rattle.lola_parser_grammar.specs.Grammar as g
use Rattle.lola_parser_grammar.specs.Grammar.{token, nesting, word, ◌*>◌, ◌<*◌, ◌|>◌, all_nestings}
use Rattle.lola_parser_print.specs.Print as out
use Rattle.lola_parser_print.specs.Print.{lex, bare, print_formula}
use Rattle.lola_parser_law.specs.Erased as erased
use Rattle.lola_parser_law.specs.Erased.{formula_need, QuantityReads, TextReads, ValueReads}
use Rattle.lola_parser_law.specs.Fitting.{need, AllFit, PacingFits, PartFits, SpawnFits, EvalFits, CloseFits, BodyFits}
use Rattle.lola_parser_law.specs.Places.{IsLexed, AreLexed}
use Rattle.lola_parser_law.specs.Round.{Eventually}
use Rattle.lola_parser_law.proofs.Carried.{Carries, Any, Both, Opt, Each, Fun, then_carried, map_carried, either_carried, maybe_carried, many_carried, known_carried, whole_carried, fork_carried, token_any, before_token}
use Rattle.lola_parser_law.proofs.Leaves.{lexed-append}
use Rattle.lola_parser_law.proofs.Forms.{ExprIs, SameExpr}
use Rattle.lola_parser_law.proofs.Expressions.{expr_in_carried, other_in_carried, open_expr_carried, closed_carried}
use Rattle.lola_parser_law.proofs.InStep.{eventually_both, erased_perhaps, erased_each, perhaps_fits, maybe_lexed}
use Rattle.lola_parser_law.proofs.Pacings.{SamePacing, erased_pacing, pacing_carried, pacing_fits, pacing_lexed}

part_fits : (p : Part) → ExprIs p.expr → Eventually (λ n. PartFits n p)
part_fits p h = (need p.expr, λ n le. record { need = le; reads = h.reads })

module _ (W : Type 0) where
  abbrev RE : Expr → Expr → Type 0
  RE = SameExpr W

  -- ---- parts

  pub record SamePart (p q : Part) : Type 0 where
    pub expr : SameExpr W p.expr q.expr

  pub erased_part : (p q : Part) → SamePart p q → erased.part p ≡ erased.part q
  erased_part p q h = ap (λ (x : Expr). record { at = 0; expr = x }) h.expr.erased

  pub whole_expr_carried : (n : ℕ) → Carries W RE (g.whole n)
  unfolding g.whole
  whole_expr_carried n = whole_carried W RE (g.expr_in n) (expr_in_carried W n)

  part_carried : (n : ℕ) (s : TokenShape) → Carries W SamePart (g.part_behind n s)
  unfolding g.part_behind
  part_carried n s =
      map_carried W (Both Any RE) SamePart (λ p. g.part p.0 p.1) (Then (token s) (g.whole n)) (λ x y k. record { expr = k.1 })
      (then_carried W Any RE (token s) (g.whole n) (token_any W s) (whole_expr_carried n))

  -- lists of parts by the expression behind a bracket, and their places
  abbrev SameParts : g.Parts → g.Parts → Type 0
  SameParts p q = (x y : Expr) → RE x y → (m m' n n' : ℕ) → Each SamePart (p x m n) (q y m' n')

  more_parts_carried : (n : ℕ) → Carries W SameParts (g.more_parts n)
  unfolding g.more_parts
  more_parts_carried n =
      let P = g.part_behind n is.Comma in
      let h = part_carried n is.Comma in
      map_carried W (Both SamePart (Each SamePart)) SameParts (λ p x bracket at. g.part bracket x ∷ p.0 ∷ p.1) (Then P (Many P) <* token is.Shut)
      (λ p q k x y l m m' i j. (record { expr = l }, k))
      (before_token W (Both SamePart (Each SamePart)) is.Shut (Then P (Many P)) (then_carried W SamePart (Each SamePart) P (Many P) h (many_carried W SamePart P h)))

  one_part_carried : (n : ℕ) → Carries W SameParts (g.one_part n)
  unfolding g.one_part
  one_part_carried n =
      let C = g.closed (g.expr_in n) (g.other_in n) in
      let f : (Expr → Expr) → g.Parts = λ k x bracket at. g.part at (k x) ∷ [] in
      known_carried W SameParts (Of is.Shut ∷ []) g.expr_goes_on (Map f C)
      (map_carried W (Fun RE RE) SameParts f C (λ p q k x y l m m' i j. (record { expr = k x y l }, tt))
      (closed_carried W (g.expr_in n) (g.other_in n) (expr_in_carried W n) (other_in_carried W n)))

  forked_carried : (n : ℕ) → Carries W (Both RE SameParts) (g.forked n)
  unfolding g.forked
  forked_carried n =
      fork_carried W RE SameParts all_nestings (g.expr_in n) (g.more_parts n) (g.one_part n) (expr_in_carried W n) (more_parts_carried n) (one_part_carried n)

  -- lists of parts by the place of their `with`
  abbrev SamePlaced : (ℕ → List Part) → (ℕ → List Part) → Type 0
  SamePlaced = Fun Any (Each SamePart)

  unbracketed_carried : (n : ℕ) → Carries W RE (g.whole_unbracketed n)
  unfolding g.whole_unbracketed g.unbracketed
  unbracketed_carried n =
      let U = g.open_expr (g.expr_in n) (g.other_in n) in
      whole_carried W RE (Known g.open_begins g.expr_goes_on U)
      (known_carried W RE g.open_begins g.expr_goes_on U (open_expr_carried W (g.expr_in n) (g.other_in n) (expr_in_carried W n) (other_in_carried W n)))

  parts_carried : (n : ℕ) → Carries W SamePlaced (g.parts n)
  unfolding g.parts
  parts_carried n =
      let A : Syntax (ℕ → List Part) = Map (λ p at. g.placed p.0 at p.1) (Then (token is.Open) (g.forked n)) in
      let B : Syntax (ℕ → List Part) = Map (λ x at. g.part at x ∷ []) (g.whole_unbracketed n) in
      known_carried W SamePlaced g.expr_begins g.expr_goes_on (Either A B)
      (either_carried W SamePlaced A B
      (map_carried W (Both Any (Both RE SameParts)) SamePlaced (λ p at. g.placed p.0 at p.1) (Then (token is.Open) (g.forked n))
      (λ x y k m m' t. k.1.1 x.1.0 y.1.0 k.1.0 x.0 y.0 m m') (then_carried W Any (Both RE SameParts) (token is.Open) (g.forked n) (token_any W is.Open) (forked_carried n)))
      (map_carried W RE SamePlaced (λ x at. g.part at x ∷ []) (g.whole_unbracketed n) (λ x y k m m' t. (record { expr = k }, tt)) (unbracketed_carried n)))

  with_parts_carried : (n : ℕ) → Carries W (Each SamePart) (g.with_parts n)
  unfolding g.with_parts
  with_parts_carried n =
      map_carried W (Both Any SamePlaced) (Each SamePart) (λ p. p.1 p.0) (Then (token is.With) (g.parts n)) (λ x y k. k.1 x.0 y.0 tt)
      (then_carried W Any SamePlaced (token is.With) (g.parts n) (token_any W is.With) (parts_carried n))

  -- ---- clauses

  pub same_part_fits : W → (p q : Part) → SamePart p q → Eventually (λ n. PartFits n p)
  same_part_fits w p q h = part_fits p (h.expr.known w)

  part_lexed : W → (s : TokenShape) → IsLexed (lex s) → (p q : Part) → SamePart p q → AreLexed (out.part s p)
  part_lexed w s k p q h = (k, (h.expr.known w).lexed)

  all_fit : W → (ps qs : List Part) → Each SamePart ps qs → Eventually (λ n. AllFit n ps)
  all_fit w [] qs h = (0, λ n le. tt)
  all_fit w (p ∷ ps) [] h = absurd h
  all_fit w (p ∷ ps) (q ∷ qs) h =
      eventually_both (λ n. PartFits n p) (λ n. AllFit n ps) (λ n. AllFit n (p ∷ ps)) (λ n a b. (a, b)) (same_part_fits w p q h.0) (all_fit w ps qs h.1)

  further_lexed : W → (ps qs : List Part) → Each SamePart ps qs → AreLexed (out.further_parts ps)
  further_lexed w [] qs h = tt
  further_lexed w (p ∷ ps) [] h = absurd h
  further_lexed w (p ∷ ps) (q ∷ qs) h = lexed-append (out.part is.Comma p) (out.further_parts ps) (part_lexed w is.Comma refl p q h.0) (further_lexed w ps qs h.1)

  with_lexed : W → (ps qs : List Part) → Each SamePart ps qs → AreLexed (out.with_parts ps)
  with_lexed w [] qs h = tt
  with_lexed w (p ∷ []) [] h = absurd h
  with_lexed w (p ∷ []) (q ∷ qs) h = part_lexed w is.With refl p q h.0
  with_lexed w (p ∷ p' ∷ ps) [] h = absurd h
  with_lexed w (p ∷ p' ∷ ps) (q ∷ qs) h = (
    refl,
    lexed-append (out.part is.Open p) (out.further_parts (p' ∷ ps) ++ lex is.Shut ∷ []) (part_lexed w is.Open refl p q h.0)
        (lexed-append (out.further_parts (p' ∷ ps)) (lex is.Shut ∷ []) (further_lexed w (p' ∷ ps) qs h.1) (refl, tt)),
  )

  pub record SameSpawn (s t : Spawn) : Type 0 where
    pub pacing : Opt (SamePacing W) s.pacing t.pacing
    pub when : Opt SamePart s.when t.when
    pub with : Each SamePart s.with t.with

  pub erased_spawn : (s t : Spawn) → SameSpawn s t → erased.spawn s ≡ erased.spawn t
  erased_spawn s t h =
      let p = erased_perhaps (SamePacing W) erased.pacing (erased_pacing W) s.pacing t.pacing h.pacing in
      let w = erased_perhaps SamePart erased.part erased_part s.when t.when h.when in
      let l = erased_each SamePart erased.part erased_part s.with t.with h.with in
      ap (λ (x : Option Pacing). record { at = 0; pacing = x; when = erased.perhaps erased.part s.when; with = map erased.part s.with }) p
      ∙ ap (λ (x : Option Part). record { at = 0; pacing = erased.perhaps erased.pacing t.pacing; when = x; with = map erased.part s.with }) w
      ∙ ap (λ (x : List Part). record { at = 0; pacing = erased.perhaps erased.pacing t.pacing; when = erased.perhaps erased.part t.when; with = x }) l

  spawn_fits : W → (s t : Spawn) → SameSpawn s t → Eventually (λ n. SpawnFits n s)
  spawn_fits w s t h =
      let p = perhaps_fits (SamePacing W) PacingFits (pacing_fits W w) s.pacing t.pacing h.pacing in
      let c = perhaps_fits SamePart PartFits (same_part_fits w) s.when t.when h.when in
      let l = all_fit w s.with t.with h.with in (
        p.0 + c.0 + l.0,
        λ n le. record { pacing = p.1 n (omega (arith, le)); when = c.1 n (omega (arith, le)); with = l.1 n (omega (arith, le)) },
      )

  spawn_lexed : W → (s t : Spawn) → SameSpawn s t → AreLexed (out.spawn s)
  spawn_lexed w s t h = (
    refl,
    lexed-append (out.maybe out.pacing s.pacing) _ (maybe_lexed (SamePacing W) out.pacing (pacing_lexed W w) s.pacing t.pacing h.pacing)
        (lexed-append (out.maybe (out.part is.When) s.when) (out.with_parts s.with) (maybe_lexed SamePart (out.part is.When) (part_lexed w is.When refl) s.when t.when h.when)
        (with_lexed w s.with t.with h.with)),
  )

  parts_or_none : (o p : Option (List Part)) → Opt (Each SamePart) o p → Each SamePart (g.parts_or_none o) (g.parts_or_none p)
  parts_or_none None None h = tt
  parts_or_none None (Some y) h = absurd h
  parts_or_none (Some x) None h = absurd h
  parts_or_none (Some x) (Some y) h = h

  spawn_carried : (n : ℕ) → Carries W SameSpawn (g.spawn n)
  unfolding g.spawn
  spawn_carried n =
      let Q = Both (Opt SamePart) (Opt (Each SamePart)) in
      let R = Both (Opt (SamePacing W)) Q in
      map_carried W (Both Any R) SameSpawn (λ p. record { at = p.0; pacing = p.1.0; when = p.1.1.0; with = g.parts_or_none p.1.1.1 }) _
      (λ x y k. record { pacing = k.1.0; when = k.1.1.0; with = parts_or_none x.1.1.1 y.1.1.1 k.1.1.1 })
      (then_carried W Any R (token is.Spawn) _ (token_any W is.Spawn)
      (then_carried W (Opt (SamePacing W)) Q (Maybe (g.pacing n)) _ (maybe_carried W (SamePacing W) (g.pacing n) (pacing_carried W n))
      (then_carried W (Opt SamePart) (Opt (Each SamePart)) (Maybe (g.part_behind n is.When)) (Maybe (g.with_parts n))
      (maybe_carried W SamePart (g.part_behind n is.When) (part_carried n is.When)) (maybe_carried W (Each SamePart) (g.with_parts n) (with_parts_carried n)))))

  pub record SameEval (s t : Eval) : Type 0 where
    pub pacing : Opt (SamePacing W) s.pacing t.pacing
    pub when : Opt SamePart s.when t.when
    pub with : SamePart s.with t.with

  pub erased_eval : (s t : Eval) → SameEval s t → erased.eval s ≡ erased.eval t
  erased_eval s t h =
      let p = erased_perhaps (SamePacing W) erased.pacing (erased_pacing W) s.pacing t.pacing h.pacing in
      let w = erased_perhaps SamePart erased.part erased_part s.when t.when h.when in
      ap (λ (x : Option Pacing). record { at = 0; pacing = x; when = erased.perhaps erased.part s.when; with = erased.part s.with }) p
      ∙ ap (λ (x : Option Part). record { at = 0; pacing = erased.perhaps erased.pacing t.pacing; when = x; with = erased.part s.with }) w
      ∙ ap (λ (x : Part). record { at = 0; pacing = erased.perhaps erased.pacing t.pacing; when = erased.perhaps erased.part t.when; with = x }) (erased_part s.with t.with h.with)

  eval_fits : W → (s t : Eval) → SameEval s t → Eventually (λ n. EvalFits n s)
  eval_fits w s t h =
      let p = perhaps_fits (SamePacing W) PacingFits (pacing_fits W w) s.pacing t.pacing h.pacing in
      let c = perhaps_fits SamePart PartFits (same_part_fits w) s.when t.when h.when in
      let l = same_part_fits w s.with t.with h.with in (
        p.0 + c.0 + l.0,
        λ n le. record { pacing = p.1 n (omega (arith, le)); when = c.1 n (omega (arith, le)); with = l.1 n (omega (arith, le)) },
      )

  eval_lexed : W → (s t : Eval) → SameEval s t → AreLexed (out.eval s)
  eval_lexed w s t h = (
    refl,
    lexed-append (out.maybe out.pacing s.pacing) _ (maybe_lexed (SamePacing W) out.pacing (pacing_lexed W w) s.pacing t.pacing h.pacing)
        (lexed-append (out.maybe (out.part is.When) s.when) (out.part is.With s.with) (maybe_lexed SamePart (out.part is.When) (part_lexed w is.When refl) s.when t.when h.when)
        (part_lexed w is.With refl s.with t.with h.with)),
  )

  short_lexed : W → (s t : Eval) → SameEval s t → AreLexed (out.short_eval s)
  short_lexed w s t h =
      lexed-append (out.maybe out.pacing s.pacing) (out.part is.Define s.with) (maybe_lexed (SamePacing W) out.pacing (pacing_lexed W w) s.pacing t.pacing h.pacing)
      (part_lexed w is.Define refl s.with t.with h.with)

  eval_carried : (n : ℕ) → Carries W SameEval (g.eval n)
  unfolding g.eval
  eval_carried n =
      let Q = Both (Opt SamePart) SamePart in
      let R = Both (Opt (SamePacing W)) Q in
      map_carried W (Both Any R) SameEval (λ p. record { at = p.0; pacing = p.1.0; when = p.1.1.0; with = p.1.1.1 }) _
      (λ x y k. record { pacing = k.1.0; when = k.1.1.0; with = k.1.1.1 })
      (then_carried W Any R (token is.Eval) _ (token_any W is.Eval)
      (then_carried W (Opt (SamePacing W)) Q (Maybe (g.pacing n)) _ (maybe_carried W (SamePacing W) (g.pacing n) (pacing_carried W n))
      (then_carried W (Opt SamePart) SamePart (Maybe (g.part_behind n is.When)) (g.part_behind n is.With)
      (maybe_carried W SamePart (g.part_behind n is.When) (part_carried n is.When)) (part_carried n is.With))))

  short_carried : (n : ℕ) → Carries W SameEval (g.short_eval n)
  unfolding g.short_eval
  short_carried n =
      map_carried W (Both (Opt (SamePacing W)) SamePart) SameEval (λ p. record { at = p.1.at; pacing = p.0; when = None; with = p.1 }) (Then (Maybe (g.pacing n)) (g.part_behind n is.Define))
      (λ x y k. record { pacing = k.0; when = tt; with = k.1 })
      (then_carried W (Opt (SamePacing W)) SamePart (Maybe (g.pacing n)) (g.part_behind n is.Define) (maybe_carried W (SamePacing W) (g.pacing n) (pacing_carried W n)) (part_carried n is.Define))

  pub record SameClose (s t : Close) : Type 0 where
    pub pacing : Opt (SamePacing W) s.pacing t.pacing
    pub when : SamePart s.when t.when

  pub erased_close : (s t : Close) → SameClose s t → erased.close s ≡ erased.close t
  erased_close s t h =
      ap (λ (x : Option Pacing). record { at = 0; pacing = x; when = erased.part s.when }) (erased_perhaps (SamePacing W) erased.pacing (erased_pacing W) s.pacing t.pacing h.pacing)
      ∙ ap (λ (x : Part). record { at = 0; pacing = erased.perhaps erased.pacing t.pacing; when = x }) (erased_part s.when t.when h.when)

  close_fits : W → (s t : Close) → SameClose s t → Eventually (λ n. CloseFits n s)
  close_fits w s t h =
      let p = perhaps_fits (SamePacing W) PacingFits (pacing_fits W w) s.pacing t.pacing h.pacing in
      let c = same_part_fits w s.when t.when h.when in
      (p.0 + c.0, λ n le. record { pacing = p.1 n (omega (arith, le)); when = c.1 n (omega (arith, le)) })

  close_lexed : W → (s t : Close) → SameClose s t → AreLexed (out.close s)
  close_lexed w s t h = (
    refl,
    lexed-append (out.maybe out.pacing s.pacing) (out.part is.When s.when) (maybe_lexed (SamePacing W) out.pacing (pacing_lexed W w) s.pacing t.pacing h.pacing)
        (part_lexed w is.When refl s.when t.when h.when),
  )

  close_carried : (n : ℕ) → Carries W SameClose (g.close n)
  unfolding g.close
  close_carried n =
      map_carried W (Both Any (Both (Opt (SamePacing W)) SamePart)) SameClose (λ p. record { at = p.0; pacing = p.1.0; when = p.1.1 }) _
      (λ x y k. record { pacing = k.1.0; when = k.1.1 })
      (then_carried W Any (Both (Opt (SamePacing W)) SamePart) (token is.Close) _ (token_any W is.Close)
      (then_carried W (Opt (SamePacing W)) SamePart (Maybe (g.pacing n)) (g.part_behind n is.When) (maybe_carried W (SamePacing W) (g.pacing n) (pacing_carried W n)) (part_carried n is.When)))

  -- ---- the clauses of a stream

  pub record SameBody (x y : g.Body) : Type 0 where
    pub spawn : Opt SameSpawn x.0 y.0
    pub eval : SameEval x.1 y.1
    pub close : Opt SameClose x.2 y.2
    pub alone : x.0 ≡ None → x.2 ≡ None

  some_not_none : {A : Type 0} (x : A) (P : Type 0) → Some x ≡ None → P
  some_not_none x P h = absurd cc

  pub body_carried : (n : ℕ) → Carries W SameBody (g.body n)
  unfolding g.body
  body_carried n =
      let B : Syntax g.Body = Map (λ p. (Some p.0, p.1.0, p.1.1)) (Then (g.spawn n) (Then (g.eval n) (Maybe (g.close n)))) in
      let A : Syntax g.Body = Map (λ x. (None, x, None)) (g.eval n) in
      let S : Syntax g.Body = Map (λ x. (None, x, None)) (g.short_eval n) in
      let Q = Both SameEval (Opt SameClose) in
      either_carried W SameBody S (Either A B)
      (map_carried W SameEval SameBody (λ x. (None, x, None)) (g.short_eval n) (λ x y k. record { spawn = tt; eval = k; close = tt; alone = λ e. refl }) (short_carried n))
      (either_carried W SameBody A B
      (map_carried W SameEval SameBody (λ x. (None, x, None)) (g.eval n) (λ x y k. record { spawn = tt; eval = k; close = tt; alone = λ e. refl }) (eval_carried n))
      (map_carried W (Both SameSpawn Q) SameBody (λ p. (Some p.0, p.1.0, p.1.1)) (Then (g.spawn n) (Then (g.eval n) (Maybe (g.close n))))
      (λ x y k. record { spawn = k.0; eval = k.1.0; close = k.1.1; alone = λ e. some_not_none x.0 (x.1.1 ≡ None) e })
      (then_carried W SameSpawn Q (g.spawn n) (Then (g.eval n) (Maybe (g.close n))) (spawn_carried n)
      (then_carried W SameEval (Opt SameClose) (g.eval n) (Maybe (g.close n)) (eval_carried n) (maybe_carried W SameClose (g.close n) (close_carried n))))))

  pub body_fits : W → (x y : g.Body) → SameBody x y → Eventually (λ n. BodyFits n x.0 x.1 x.2)
  body_fits w x y h =
      let s = perhaps_fits SameSpawn SpawnFits (spawn_fits w) x.0 y.0 h.spawn in
      let v = eval_fits w x.1 y.1 h.eval in
      let c = perhaps_fits SameClose CloseFits (close_fits w) x.2 y.2 h.close in (
        s.0 + v.0 + c.0,
        λ n le. record { spawn = s.1 n (omega (arith, le)); eval = v.1 n (omega (arith, le)); close = c.1 n (omega (arith, le)); alone = h.alone },
      )

  body_by : (b : Bool) (s : Option Spawn) (x : Eval) (c : Option Close) → AreLexed (out.short_eval x)
      → AreLexed (out.maybe out.spawn s ++ (out.eval x ++ out.maybe out.close c))
      → AreLexed (if b then out.short_eval x else (out.maybe out.spawn s ++ (out.eval x ++ out.maybe out.close c)))
  body_by true s x c h k = h
  body_by false s x c h k = k

  pub body_lexed : W → (x y : g.Body) → SameBody x y → AreLexed (out.body x.0 x.1 x.2)
  body_lexed w x y h =
      body_by (out.is_short x.0 x.1 x.2) x.0 x.1 x.2 (short_lexed w x.1 y.1 h.eval)
      (lexed-append (out.maybe out.spawn x.0) (out.eval x.1 ++ out.maybe out.close x.2) (maybe_lexed SameSpawn out.spawn (spawn_lexed w) x.0 y.0 h.spawn)
      (lexed-append (out.eval x.1) (out.maybe out.close x.2) (eval_lexed w x.1 y.1 h.eval) (maybe_lexed SameClose out.close (close_lexed w) x.2 y.2 h.close)))
