-- What is printed keeps the limit of nestings in each whole expression and formula, where the trees need no more.
use Rattle.std.proofs.Common.{◌≡◌, ℕ, suc, ◌+◌, ◌≤◌, Bool, true, false, ◌&&◌, List, [], ◌∷◌, ◌++◌, map, Option, Some, None, refl, sym, ap, subst, ◌∙◌, append-nil, arith, inl, inr, ◌⊎◌}
use Rattle.std.specs.Prelude.{codes}
use Rattle.std.proofs.lemmas.Bool.{and_parts}
use Rattle.lola_lexer.specs.declared.shape.TokenShape.{TokenShape}
use Rattle.lola_lexer.specs.declared.shape.TokenShape.TheVariants as is
use Rattle.lola_parser_grammar.specs.declared.literals.Name.{Name}
use Rattle.lola_parser_grammar.specs.declared.literals.Typed.{Typed}
use Rattle.lola_parser_grammar.specs.declared.literals.Quantity.{Quantity}
use Rattle.lola_parser_grammar.specs.declared.expressions.Expr.{Expr}
use Rattle.lola_parser_grammar.specs.declared.pacing.Formula.{Formula}
use Rattle.lola_parser_grammar.specs.declared.pacing.Formula.TheVariants as f
use Rattle.lola_parser_grammar.specs.declared.pacing.Rhythm.{Rhythm}
use Rattle.lola_parser_grammar.specs.declared.pacing.Rhythm.TheVariants as r
use Rattle.lola_parser_grammar.specs.declared.pacing.Pacing.{Pacing}
use Rattle.lola_parser_grammar.specs.declared.clauses.Part.{Part}
use Rattle.lola_parser_grammar.specs.declared.clauses.Spawn.{Spawn}
use Rattle.lola_parser_grammar.specs.declared.clauses.Eval.{Eval}
use Rattle.lola_parser_grammar.specs.declared.clauses.Close.{Close}
use Rattle.lola_parser_grammar.specs.declared.declarations.Output.{Output}
use Rattle.lola_parser_grammar.specs.declared.declarations.Trigger.{Trigger}
use Rattle.lola_parser_grammar.specs.declared.declarations.Declaration.{Declaration}
use Rattle.lola_parser_grammar.specs.declared.declarations.Declaration.TheVariants as d
use Rattle.lola_parser_grammar.specs.Syntax.{Lexeme, Syntax, Past, Token, Nesting, Whole, Known, Then, Map, Either, Maybe, Many, Fork, Repeats, Spells, max_nestings}
use Rattle.lola_parser_grammar.specs.Nestings as nestings
use Rattle.lola_parser_grammar.specs.Nestings.{nestings_in}
use Rattle.lola_parser_grammar.specs.Grammar as g
use Rattle.lola_parser_grammar.specs.Grammar.{all_nestings, token, nesting, word, expr_in, other_in, formula_in, ◌*>◌, ◌<*◌}
use Rattle.lola_parser_print.specs.Print as out
use Rattle.lola_parser_print.specs.Print.{lex, bare, bare_formula}
use Rattle.lola_parser_law.specs.Erased as erased
use Rattle.lola_parser_law.specs.Erased.{QuantityReads, formula_need}
use Rattle.lola_parser_law.specs.Fitting.{RhythmFits, Perhaps, Fits, AllFit, PacingFits, PartFits, SpawnFits, EvalFits, CloseFits, BodyFits, DeclarationFits, AllDeclarationsFit}
use Rattle.lola_parser_law.proofs.Single.{token_spelled, name_spelled}
use Rattle.lola_parser_law.proofs.Operands.{quantity_spelled}
use Rattle.lola_parser_law.proofs.PrintedFormulas.{formula_printed, formula_whole}
use Rattle.lola_parser_law.proofs.PrintedClauses.{other_spelled, clock_call, whole_spelled, whole_level, Opened, open_or, some_parts}
use Rattle.lola_parser_law.proofs.PrintedDeclarations.{inputs_spelled, constant_spelled, parameters_spelled, bracketed_typed, kind_spelled, message_spelled, bracket_is, parameters_are, parts_are}
use Rattle.lola_parser_law.proofs.Counts.{count, count_is, count-append, is-Open, name_free, count-nil}
use Rattle.lola_parser_law.proofs.Costs.{with_nestings}
use Rattle.lola_parser_law.proofs.Limits.{Small, SmallRhythm, IfSome, Each, SmallPacing, SmallPart, SmallSpawn, SmallEval, SmallClose, SmallBody, SmallDeclaration}

-- the tokens are a sentence of it, with this value, within the limit
abbrev Keeps : {A : Type 0} → Syntax A → List Lexeme → A → Type 0
Keeps s ts x = nestings.Fits all_nestings s ts x

-- ---- parts without whole expressions

unfoldable is_plain : {A : Type 0} → Syntax A → Bool
is_plain (Past a) = is_plain a
is_plain (Token k) = true
is_plain (Nesting k) = true
is_plain (Whole a) = false
is_plain (Known fs ms a) = is_plain a
is_plain (Then a b) = is_plain a && is_plain b
is_plain (Map f a) = is_plain a
is_plain (Either a b) = is_plain a && is_plain b
is_plain (Maybe a) = is_plain a
is_plain (Many a) = is_plain a
is_plain (Fork ks a b c) = false

repeats_all : {A : Type 0} (P Q : List Lexeme → A → Type 0) → ((ts : List Lexeme) (x : A) → P ts x → Q ts x) → (ts : List Lexeme) (xs : List A) → Repeats P ts xs → Repeats Q ts xs
repeats_all P Q each ts [] h = h
repeats_all P Q each ts (x ∷ xs) h = (h.0, h.1, h.2, each h.0 x h.3, repeats_all P Q each h.1 xs h.4)

plain : {A : Type 0} (s : Syntax A) → is_plain s ≡ true → (ts : List Lexeme) (x : A) → Spells s ts x → Keeps s ts x
unfolding Spells nestings.Fits is_plain
plain (Past a) p ts x h = plain a p ts x h
plain (Token k) p ts x h = h
plain (Nesting k) p ts x h = h
plain (Whole a) p ts x h = absurd cc
plain (Known fs ms a) p ts x h = plain a p ts x h
plain (Then a b) p ts x h = let q = and_parts (is_plain a) (is_plain b) p in (h.0, h.1, h.2, plain a q.0 h.0 x.0 h.3, plain b q.1 h.1 x.1 h.4)
plain (Map f a) p ts x h = (h.0, h.1, plain a p ts h.0 h.2)
plain (Either a b) p ts x (inl h) = inl (plain a (and_parts (is_plain a) (is_plain b) p).0 ts x h)
plain (Either a b) p ts x (inr h) = inr (plain b (and_parts (is_plain a) (is_plain b) p).1 ts x h)
plain (Maybe a) p ts None h = h
plain (Maybe a) p ts (Some x) h = plain a p ts x h
plain (Many a) p ts xs h = repeats_all (Spells a) (Keeps a) (plain a p) ts xs h
plain (Fork ks a b c) p ts x h = absurd cc

-- ---- one after the other

after : {A B : Type 0} (a : Syntax A) (b : Syntax B) (u v : List Lexeme) (x : A) (y : B) → Keeps a u x → Keeps b v y → Keeps (a *> b) (u ++ v) y
unfolding nestings.Fits
after a b u v x y h k = ((x, y), refl, (u, v, refl, h, k))

before : {A B : Type 0} (a : Syntax A) (b : Syntax B) (u v : List Lexeme) (x : A) (y : B) → Keeps a u x → Keeps b v y → Keeps (a <* b) (u ++ v) x
unfolding nestings.Fits
before a b u v x y h k = ((x, y), refl, (u, v, refl, h, k))

both : {A B : Type 0} (a : Syntax A) (b : Syntax B) (u v : List Lexeme) (x : A) (y : B) → Keeps a u x → Keeps b v y → Keeps (Then a b) (u ++ v) (x, y)
unfolding nestings.Fits
both a b u v x y h k = (u, v, refl, h, k)

mapped : {A B : Type 0} (f : A → B) (a : Syntax A) (u : List Lexeme) (x : A) → Keeps a u x → Keeps (Map f a) u (f x)
unfolding nestings.Fits
mapped f a u x h = (x, refl, h)

token_kept : (s : TokenShape) → Keeps (token s) (lex s ∷ []) 0
unfolding nestings.Fits token is_plain
token_kept s = plain (token s) refl (lex s ∷ []) 0 (token_spelled s)

-- a whole expression or formula that needs no more nestings
within : {A : Type 0} (s : Syntax A) (ts : List Lexeme) (x : A) → Spells s ts x → count ts ≤ max_nestings → Keeps (Whole s) ts x
unfolding nestings.Fits
within s ts x h few = (h, omega (arith, count_is ts, few))

-- ---- pacings

enclosed_kept : {A : Type 0} (s : Syntax A) (u : List Lexeme) (x : A) → Keeps s u x → Keeps (g.enclosed s) (out.bracketed u) x
enclosed_kept s u x h =
    after (token is.Open) (s <* token is.Shut) (lex is.Open ∷ []) (u ++ lex is.Shut ∷ []) 0 x (token_kept is.Open)
    (before s (token is.Shut) u (lex is.Shut ∷ []) x 0 h (token_kept is.Shut))

formula_kept : (n : ℕ) (x : Formula) → formula_need x ≤ n → count (bare_formula x) ≤ max_nestings → Keeps (g.rhythm (suc n)) (out.bracketed (bare_formula x)) (r.Formula (erased.formula x))
unfolding nestings.Fits g.rhythm g.whole_formula
formula_kept n x le few =
    inr (inr (inl (
      erased.formula x,
      refl,
      enclosed_kept (Whole (formula_in (suc n))) (bare_formula x) (erased.formula x) (within (formula_in (suc n)) (bare_formula x) (erased.formula x) (formula_whole x n (formula_printed x n le)) few),
    )))

input_kept : (n : ℕ) (nm : Name) (b : Bool) → out.is_clock nm.text ≡ b → Keeps (g.rhythm (suc n)) (out.bracketed_if b (out.name nm ∷ [])) (r.Formula (f.Input (erased.name nm)))
unfolding nestings.Fits g.rhythm g.other_name is_plain
input_kept n nm true h = formula_kept n (f.Input nm) (omega arith) (omega (arith, name_free nm.text [], count-nil))
input_kept n nm false h = inr (inl (erased.name nm, refl, plain (g.other_name g.clock_words) refl (out.name nm ∷ []) (erased.name nm) (other_spelled nm h)))

event_kept : (n : ℕ) (x : Formula) → formula_need x ≤ n → count (bare_formula x) ≤ max_nestings → Keeps (g.rhythm (suc n)) (out.event x) (r.Formula (erased.formula x))
event_kept n (f.Input nm) le few = input_kept n nm (out.is_clock nm.text) refl
event_kept n x le few = formula_kept n x le few

quantity_kept : (q : Quantity) → QuantityReads q → Keeps g.quantity (out.quantity q ∷ []) (erased.quantity q)
unfolding g.quantity is_plain
quantity_kept q h = plain g.quantity refl (out.quantity q ∷ []) (erased.quantity q) (quantity_spelled q h)

clock_kept : (w : List ℕ) (q : Quantity) → QuantityReads q → Keeps (word w *> g.enclosed g.quantity) (out.word w ∷ out.bracketed (out.quantity q ∷ [])) (erased.quantity q)
unfolding word token g.quantity is_plain
clock_kept w q h = plain (word w *> g.enclosed g.quantity) refl (out.word w ∷ out.bracketed (out.quantity q ∷ [])) (erased.quantity q) (clock_call w q h)

rhythm_kept : (n : ℕ) (x : Rhythm) → RhythmFits n x → SmallRhythm x → Keeps (g.rhythm (suc n)) (out.rhythm x) (erased.rhythm x)
unfolding nestings.Fits g.rhythm g.clock
rhythm_kept n (r.Rate q) h k = inl (erased.quantity q, refl, quantity_kept q h)
rhythm_kept n (r.Formula x) h k = event_kept n x h k
rhythm_kept n (r.Global q) h k = inr (inr (inr (inl (erased.quantity q, refl, clock_kept (codes "Global") q h))))
rhythm_kept n (r.Local q) h k = inr (inr (inr (inr (erased.quantity q, refl, clock_kept (codes "Local") q h))))

pacing_kept : (n : ℕ) (p : Pacing) → PacingFits n p → SmallPacing p → Keeps (g.pacing (suc n)) (out.pacing p) (erased.pacing p)
unfolding g.pacing
pacing_kept n p h k = mapped _ _ (out.pacing p) (0, erased.rhythm p.rhythm) (both (token is.At) (g.rhythm (suc n)) (lex is.At ∷ []) (out.rhythm p.rhythm) 0 (erased.rhythm p.rhythm) (token_kept is.At) (rhythm_kept n p.rhythm h k))

maybe_kept : {A : Type 0} (s : Syntax A) (f : A → List Lexeme) (e : A → A) (P Q : A → Type 0) → ((x : A) → P x → Q x → Keeps s (f x) (e x))
    → (o : Option A) → Perhaps P o → IfSome Q o → Keeps (Maybe s) (out.maybe f o) (erased.perhaps e o)
unfolding nestings.Fits
maybe_kept s f e P Q each None h k = refl
maybe_kept s f e P Q each (Some x) h k = each x h k

-- ---- parts

spelled_expr : (n : ℕ) (x : Expr) → Fits n x → Spells (expr_in (suc n)) (bare x) (erased.expr x)
unfolding Spells g.whole
spelled_expr n x h = whole_spelled n x h

whole_kept : (n : ℕ) (x : Expr) → Fits n x → Small x → Keeps (g.whole (suc n)) (bare x) (erased.expr x)
unfolding g.whole
whole_kept n x h k = within (expr_in (suc n)) (bare x) (erased.expr x) (spelled_expr n x h) k

part_kept : (n : ℕ) (s : TokenShape) (p : Part) → PartFits n p → SmallPart p → Keeps (g.part_behind (suc n) s) (out.part s p) (erased.part p)
unfolding g.part_behind
part_kept n s p h k = mapped _ _ (out.part s p) (0, erased.expr p.expr) (both (token s) (g.whole (suc n)) (lex s ∷ []) (bare p.expr) 0 (erased.expr p.expr) (token_kept s) (whole_kept n p.expr h k))

-- ---- what stands behind `with`

one_open : (u : List Lexeme) (x : ℕ) → Spells (token is.Open) u x → 1 ≤ count u
unfolding Spells token nesting
one_open u x h = with_nestings is.Open is-Open u x h

-- one expression
module _ (n : ℕ) where
  abbrev Placed : List Lexeme → List Part → Type 0
  Placed u ps = (v : ℕ → List Part) × Keeps (g.parts n) u v × (v 0 ≡ ps)

  unbracketed_part : (u : List Lexeme) (x : Expr) → count u ≤ max_nestings → Spells (g.open_expr (expr_in n) (other_in n)) u x → Placed u (g.part 0 x ∷ [])
  unfolding Spells nestings.Fits g.parts g.whole_unbracketed g.unbracketed
  unbracketed_part u x few h = ((λ at. g.part at x ∷ []), inr (x, refl, (h, omega (arith, count_is u, few))), refl)

  bracketed_part : (u : List Lexeme) (x : Expr) → count u ≤ max_nestings → Opened (expr_in n) (other_in n) u x → Placed u (g.part 0 x ∷ [])
  unfolding Spells nestings.Fits g.parts g.forked g.one_part token
  bracketed_part u x few h =
      let all : count u ≡ count h.bracket + (count h.inner + count h.rest) = ap count h.joins ∙ omega (arith, count-append h.bracket (h.inner ++ h.rest), count-append h.inner h.rest) in
      let limit : suc (nestings_in all_nestings h.inner + nestings_in all_nestings h.rest) ≤ max_nestings = omega (arith, count_is h.inner, count_is h.rest, all, few, one_open h.bracket h.place h.opens) in (
        (λ at. g.part at (h.goes_on h.value) ∷ []),
        inl (
          (h.place, (h.value, λ y bracket at. g.part at (h.goes_on y) ∷ [])),
          refl,
          (h.bracket, h.inner ++ h.rest, h.joins, h.opens, (h.inner, h.rest, refl, h.spelled, inr (limit, (h.goes_on, refl, h.closed)))),
        ),
        ap (λ (z : Expr). g.part 0 z ∷ []) (sym h.whole),
      )

  one_by : (u : List Lexeme) (x : Expr) → count u ≤ max_nestings → Spells (g.open_expr (expr_in n) (other_in n)) u x ⊎ Opened (expr_in n) (other_in n) u x → Placed u (g.part 0 x ∷ [])
  one_by u x few (inl h) = unbracketed_part u x few h
  one_by u x few (inr h) = bracketed_part u x few h

  -- several behind a bracket
  more_by : (u w : List Lexeme) (x : Expr) (q : Part) (qs : List Part) → count u ≤ max_nestings → Spells (expr_in n) u x → Keeps (Then (g.part_behind n is.Comma) (Many (g.part_behind n is.Comma))) w (q, qs)
      → Placed (lex is.Open ∷ (u ++ (w ++ lex is.Shut ∷ []))) (g.part 0 x ∷ q ∷ qs)
  unfolding nestings.Fits g.parts g.forked g.more_parts
  more_by u w x q qs few h k = (
    (λ at. g.part 0 x ∷ q ∷ qs),
    inl (
      (0, (x, λ y bracket at. g.part bracket y ∷ q ∷ qs)),
      refl,
      (
        lex is.Open ∷ [],
        u ++ (w ++ lex is.Shut ∷ []),
        refl,
        token_kept is.Open,
        (
          u,
          w ++ lex is.Shut ∷ [],
          refl,
          h,
          inl (
            omega (arith, count_is u, few),
            ((q, qs), refl, before (Then (g.part_behind n is.Comma) (Many (g.part_behind n is.Comma))) (token is.Shut) w (lex is.Shut ∷ []) (q, qs) 0 k (token_kept is.Shut)),
          ),
        ),
      ),
    ),
    refl,
  )

  with_by : (u : List Lexeme) (ps : List Part) → Placed u ps → Keeps (g.with_parts n) (lex is.With ∷ u) ps
  unfolding nestings.Fits g.with_parts
  with_by u ps (v, h, e) = ((0, v), sym e, (lex is.With ∷ [], u, refl, token_kept is.With, h))

commas_kept : (n : ℕ) (ps : List Part) → AllFit n ps → Each SmallPart ps → Keeps (Many (g.part_behind (suc n) is.Comma)) (out.further_parts ps) (map erased.part ps)
unfolding nestings.Fits
commas_kept n [] h k = refl
commas_kept n (p ∷ ps) h k = (out.part is.Comma p, out.further_parts ps, refl, part_kept n is.Comma p h.0 k.0, commas_kept n ps h.1 k.1)

comma_list : (n : ℕ) (p : Part) (ps : List Part) → PartFits n p → SmallPart p → AllFit n ps → Each SmallPart ps
    → Keeps (Then (g.part_behind (suc n) is.Comma) (Many (g.part_behind (suc n) is.Comma))) (out.further_parts (p ∷ ps)) (erased.part p, map erased.part ps)
comma_list n p ps h few hs fews =
    both (g.part_behind (suc n) is.Comma) (Many (g.part_behind (suc n) is.Comma)) (out.part is.Comma p) (out.further_parts ps) (erased.part p) (map erased.part ps) (part_kept n is.Comma p h few) (commas_kept n ps hs fews)

parts_kept : (n : ℕ) (ps : List Part) → AllFit n ps → Each SmallPart ps → Keeps (Maybe (g.with_parts (suc n))) (out.with_parts ps) (some_parts ps)
unfolding nestings.Fits
parts_kept n [] h k = refl
parts_kept n (p ∷ []) h k =
    with_by (suc n) (bare p.expr) (erased.part p ∷ [])
    (one_by (suc n) (bare p.expr) (erased.expr p.expr) k.0 (open_or (expr_in (suc n)) (other_in (suc n)) (bare p.expr) (erased.expr p.expr) (whole_level n p.expr h.0)))
parts_kept n (p ∷ q ∷ ps) h k =
    with_by (suc n) (out.part is.Open p ++ (out.further_parts (q ∷ ps) ++ lex is.Shut ∷ [])) (erased.part p ∷ erased.part q ∷ map erased.part ps)
    (more_by (suc n) (bare p.expr) (out.further_parts (q ∷ ps)) (erased.expr p.expr) (erased.part q) (map erased.part ps) k.0 (spelled_expr n p.expr h.0) (comma_list n q ps h.1.0 k.1.0 h.1.1 k.1.1))

-- ---- clauses

module _ (n : ℕ) where
  maybe_pacing : (o : Option Pacing) → Perhaps (PacingFits n) o → IfSome SmallPacing o → Keeps (Maybe (g.pacing (suc n))) (out.maybe out.pacing o) (erased.perhaps erased.pacing o)
  maybe_pacing o h k = maybe_kept (g.pacing (suc n)) out.pacing erased.pacing (PacingFits n) SmallPacing (pacing_kept n) o h k

  maybe_when : (o : Option Part) → Perhaps (PartFits n) o → IfSome SmallPart o → Keeps (Maybe (g.part_behind (suc n) is.When)) (out.maybe (out.part is.When) o) (erased.perhaps erased.part o)
  maybe_when o h k = maybe_kept (g.part_behind (suc n) is.When) (out.part is.When) erased.part (PartFits n) SmallPart (part_kept n is.When) o h k

  spawn_kept : (s : Spawn) → SpawnFits n s → SmallSpawn s → Keeps (g.spawn (suc n)) (out.spawn s) (erased.spawn s)
  unfolding g.spawn
  spawn_kept s h k =
      subst (λ (ps : List Part). Keeps (g.spawn (suc n)) (out.spawn s) (record { at = 0; pacing = erased.perhaps erased.pacing s.pacing; when = erased.perhaps erased.part s.when; with = ps })) (parts_are n s.with)
      (mapped _ _ (out.spawn s) (0, (erased.perhaps erased.pacing s.pacing, (erased.perhaps erased.part s.when, some_parts s.with)))
      (both (token is.Spawn) _ (lex is.Spawn ∷ []) _ 0 _ (token_kept is.Spawn)
      (both (Maybe (g.pacing (suc n))) _ (out.maybe out.pacing s.pacing) _ (erased.perhaps erased.pacing s.pacing) _ (maybe_pacing s.pacing h.pacing k.pacing)
      (both (Maybe (g.part_behind (suc n) is.When)) (Maybe (g.with_parts (suc n))) (out.maybe (out.part is.When) s.when) (out.with_parts s.with) (erased.perhaps erased.part s.when) (some_parts s.with)
      (maybe_when s.when h.when k.when) (parts_kept n s.with h.with k.with)))))

  eval_kept : (x : Eval) → EvalFits n x → SmallEval x → Keeps (g.eval (suc n)) (out.eval x) (erased.eval x)
  unfolding g.eval
  eval_kept x h k =
      mapped _ _ (out.eval x) (0, (erased.perhaps erased.pacing x.pacing, (erased.perhaps erased.part x.when, erased.part x.with)))
      (both (token is.Eval) _ (lex is.Eval ∷ []) _ 0 _ (token_kept is.Eval)
      (both (Maybe (g.pacing (suc n))) _ (out.maybe out.pacing x.pacing) _ (erased.perhaps erased.pacing x.pacing) _ (maybe_pacing x.pacing h.pacing k.pacing)
      (both (Maybe (g.part_behind (suc n) is.When)) (g.part_behind (suc n) is.With) (out.maybe (out.part is.When) x.when) (out.part is.With x.with) (erased.perhaps erased.part x.when) (erased.part x.with)
      (maybe_when x.when h.when k.when) (part_kept n is.With x.with h.with k.with))))

  close_kept : (c : Close) → CloseFits n c → SmallClose c → Keeps (g.close (suc n)) (out.close c) (erased.close c)
  unfolding g.close
  close_kept c h k =
      mapped _ _ (out.close c) (0, (erased.perhaps erased.pacing c.pacing, erased.part c.when))
      (both (token is.Close) _ (lex is.Close ∷ []) _ 0 _ (token_kept is.Close)
      (both (Maybe (g.pacing (suc n))) (g.part_behind (suc n) is.When) (out.maybe out.pacing c.pacing) (out.part is.When c.when) (erased.perhaps erased.pacing c.pacing) (erased.part c.when)
      (maybe_pacing c.pacing h.pacing k.pacing) (part_kept n is.When c.when h.when k.when)))

  short_kept : (at : ℕ) (p : Option Pacing) (q : Part) → Perhaps (PacingFits n) p → IfSome SmallPacing p → PartFits n q → SmallPart q
      → Keeps (g.short_eval (suc n)) (out.short_eval (record { at = at; pacing = p; when = None; with = q })) (erased.eval (record { at = at; pacing = p; when = None; with = q }))
  unfolding g.short_eval
  short_kept at p q h few i small =
      mapped _ _ (out.maybe out.pacing p ++ out.part is.Define q) (erased.perhaps erased.pacing p, erased.part q)
      (both (Maybe (g.pacing (suc n))) (g.part_behind (suc n) is.Define) (out.maybe out.pacing p) (out.part is.Define q) (erased.perhaps erased.pacing p) (erased.part q)
      (maybe_pacing p h few) (part_kept n is.Define q i small))

  abbrev Body : Option Spawn → Eval → Option Close → Type 0
  Body s x c = Keeps (g.body (suc n)) (out.body s x c) (erased.perhaps erased.spawn s, erased.eval x, erased.perhaps erased.close c)

  alone_kept : (at : ℕ) (p : Option Pacing) (w : Option Part) (q : Part) → EvalFits n (record { at = at; pacing = p; when = w; with = q }) → SmallEval (record { at = at; pacing = p; when = w; with = q })
      → Body None (record { at = at; pacing = p; when = w; with = q }) None
  unfolding nestings.Fits g.body
  alone_kept at p None q h k = inl (erased.eval (record { at = at; pacing = p; when = None; with = q }), refl, short_kept at p q h.pacing k.pacing h.with k.with)
  alone_kept at p (Some w) q h k =
      let x : Eval = record { at = at; pacing = p; when = Some w; with = q } in
      inr (inl (erased.eval x, refl, subst (λ (l : List Lexeme). Keeps (g.eval (suc n)) l (erased.eval x)) (sym (append-nil (out.eval x))) (eval_kept x h k)))

  body_kept : (s : Option Spawn) (x : Eval) (c : Option Close) → BodyFits n s x c → SmallBody s x c → Body s x c
  unfolding nestings.Fits g.body
  body_kept None x None h k = alone_kept x.at x.pacing x.when x.with h.eval k.eval
  body_kept None x (Some c) h k = absurd (clash (h.alone refl))
    where
      clash : Some c ≡ None → ⊥
      clash e = cc
  body_kept (Some s) x c h k =
      inr (inr (
        (erased.spawn s, (erased.eval x, erased.perhaps erased.close c)),
        refl,
        (
          out.spawn s,
          out.eval x ++ out.maybe out.close c,
          refl,
          spawn_kept s h.spawn k.spawn,
          (out.eval x, out.maybe out.close c, refl, eval_kept x h.eval k.eval, maybe_kept (g.close (suc n)) out.close erased.close (CloseFits n) SmallClose close_kept c h.close k.close),
        ),
      ))

-- ---- declarations

name_kept : (m : Name) → Keeps g.name (out.name m ∷ []) (erased.name m)
unfolding g.name is_plain
name_kept m = plain g.name refl (out.name m ∷ []) (erased.name m) (name_spelled m)

parameters_kept : (ts : List Typed) → Keeps (Maybe g.parameters) (out.parameters ts) (bracketed_typed ts)
unfolding g.parameters g.typed g.name token is_plain
parameters_kept ts = plain (Maybe g.parameters) refl (out.parameters ts) (bracketed_typed ts) (parameters_spelled ts)

kind_kept : (o : Option Name) → Keeps (Maybe g.kind) (out.kind o) (erased.perhaps erased.name o)
unfolding g.kind g.name token is_plain
kind_kept o = plain (Maybe g.kind) refl (out.kind o) (erased.perhaps erased.name o) (kind_spelled o)

inputs_plain : is_plain g.inputs ≡ true
unfolding g.inputs g.typed g.name token is_plain
inputs_plain = refl

constant_plain : is_plain g.constant ≡ true
unfolding g.constant g.literal g.word_literal g.integer g.text g.name token is_plain
constant_plain = refl

message_plain : is_plain g.message ≡ true
unfolding g.message g.text is_plain
message_plain = refl

output_kept : (n : ℕ) (o : Output) → BodyFits n o.spawn o.eval o.close → SmallBody o.spawn o.eval o.close → Keeps (g.output (suc n)) (out.output o) (erased.declaration (d.Output o))
unfolding g.output
output_kept n o h few =
    let ps = bracketed_typed o.parameters in
    let k = erased.perhaps erased.name o.kind in
    let b : g.Body = (erased.perhaps erased.spawn o.spawn, erased.eval o.eval, erased.perhaps erased.close o.close) in
    let family : Option ℕ → List Typed → Type 0 = λ w ts. Keeps (g.output (suc n)) (out.output o)
    (d.Output (record { at = 0; name = erased.name o.name; bracket = w; parameters = ts; kind = k; spawn = b.0; eval = b.1; close = b.2 })) in
    subst (λ (w : Option ℕ). family w (map erased.typed o.parameters)) (bracket_is o.parameters)
    (subst (λ (ts : List Typed). family (g.bracket_of ps) ts) (parameters_are o.parameters)
    (mapped _ _ (out.output o) (0, (erased.name o.name, (ps, (k, b))))
    (both (token is.Output) _ (lex is.Output ∷ []) (out.name o.name ∷ (out.parameters o.parameters ++ (out.kind o.kind ++ out.body o.spawn o.eval o.close))) 0 _ (token_kept is.Output)
    (both g.name _ (out.name o.name ∷ []) _ (erased.name o.name) _ (name_kept o.name)
    (both (Maybe g.parameters) _ (out.parameters o.parameters) (out.kind o.kind ++ out.body o.spawn o.eval o.close) ps _ (parameters_kept o.parameters)
    (both (Maybe g.kind) (g.body (suc n)) (out.kind o.kind) (out.body o.spawn o.eval o.close) k b (kind_kept o.kind) (body_kept n o.spawn o.eval o.close h few)))))))

trigger_kept : (n : ℕ) (t : Trigger) → DeclarationFits n (d.Trigger t) → SmallDeclaration (d.Trigger t) → Keeps (g.trigger (suc n)) (lex is.Trigger ∷ out.trigger t) (erased.declaration (d.Trigger t))
unfolding g.trigger
trigger_kept n t h k =
    let p = erased.perhaps erased.pacing t.pacing in
    mapped _ _ (lex is.Trigger ∷ out.trigger t) (0, (p, (erased.expr t.when.expr, t.message)))
    (both (token is.Trigger) _ (lex is.Trigger ∷ []) (out.trigger t) 0 _ (token_kept is.Trigger)
    (both (Maybe (g.pacing (suc n))) _ (out.maybe out.pacing t.pacing) (bare t.when.expr ++ out.message t.message) p _ (maybe_pacing n t.pacing h.0 k.0)
    (both (g.whole (suc n)) g.message (bare t.when.expr) (out.message t.message) (erased.expr t.when.expr) t.message (whole_kept n t.when.expr h.1 k.1)
    (plain g.message message_plain (out.message t.message) t.message (message_spelled t.message h.2)))))

declaration_kept : (n : ℕ) (x : Declaration) → DeclarationFits n x → SmallDeclaration x → Keeps (g.declaration (suc n)) (out.declaration x) (erased.declaration x)
unfolding nestings.Fits g.declaration
declaration_kept n (d.Inputs i) h k = inl (plain g.inputs inputs_plain (out.declaration (d.Inputs i)) (erased.declaration (d.Inputs i)) (inputs_spelled i.at i.inputs h))
declaration_kept n (d.Constant c) h k = inr (inl (plain g.constant constant_plain (out.declaration (d.Constant c)) (erased.declaration (d.Constant c)) (constant_spelled c h)))
declaration_kept n (d.Output o) h k = inr (inr (inl (output_kept n o h k)))
declaration_kept n (d.Trigger t) h k = inr (inr (inr (trigger_kept n t h k)))

pub specification_kept : (n : ℕ) (xs : List Declaration) → AllDeclarationsFit n xs → Each SmallDeclaration xs → nestings.Fits all_nestings (g.specification (suc n)) (out.specification xs) (map erased.declaration xs)
unfolding nestings.Fits g.specification
specification_kept n [] h k = refl
specification_kept n (x ∷ xs) h k = (out.declaration x, out.specification xs, refl, declaration_kept n x h.0 k.0, specification_kept n xs h.1 k.1)
