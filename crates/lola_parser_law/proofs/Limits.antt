-- Where a spelling of a specification keeps the limit of nestings, the trees of its whole expressions and formulas need no more.
use Rattle.std.proofs.Common.{ℕ, suc, ◌+◌, ◌≤◌, List, [], ◌∷◌, Option, Some, None, sym, ap, subst, arith, inl, inr}
use Rattle.lola_lexer.specs.declared.shape.TokenShape.{TokenShape}
use Rattle.lola_lexer.specs.declared.shape.TokenShape.TheVariants as is
use Rattle.lola_parser_grammar.specs.declared.expressions.Expr.{Expr}
use Rattle.lola_parser_grammar.specs.declared.pacing.Formula.TheVariants as f
use Rattle.lola_parser_grammar.specs.declared.pacing.Rhythm.{Rhythm}
use Rattle.lola_parser_grammar.specs.declared.pacing.Rhythm.TheVariants as r
use Rattle.lola_parser_grammar.specs.declared.pacing.Pacing.{Pacing}
use Rattle.lola_parser_grammar.specs.declared.clauses.Part.{Part}
use Rattle.lola_parser_grammar.specs.declared.clauses.Spawn.{Spawn}
use Rattle.lola_parser_grammar.specs.declared.clauses.Eval.{Eval}
use Rattle.lola_parser_grammar.specs.declared.clauses.Close.{Close}
use Rattle.lola_parser_grammar.specs.declared.declarations.Declaration.{Declaration}
use Rattle.lola_parser_grammar.specs.declared.declarations.Declaration.TheVariants as d
use Rattle.lola_parser_grammar.specs.Syntax.{Lexeme, Terminal, Syntax, Whole, Known, Then, Map, Either, Maybe, Many, Spells, max_nestings}
use Rattle.lola_parser_grammar.specs.Nestings.{Fits}
use Rattle.lola_parser_grammar.specs.Grammar as g
use Rattle.lola_parser_grammar.specs.Grammar.{all_nestings, token, expr_in, other_in, formula_in, ◌*>◌, ◌<*◌}
use Rattle.lola_parser_print.specs.Print.{bare, bare_formula}
use Rattle.lola_parser_law.proofs.Counts.{count, count_is, alone, name_free, count-nil}
use Rattle.lola_parser_law.proofs.Costs as costs
use Rattle.lola_parser_law.proofs.Costs.{Costs}
use Rattle.lola_parser_law.proofs.FewestExpressions.{expr_in_costs, other_in_costs, open_expr_costs, closed_add}
use Rattle.lola_parser_law.proofs.Formulas as formulas

-- ---- what needs no more nestings than may come

abbrev pub Small : Expr → Type 0
Small x = count (bare x) ≤ max_nestings

abbrev pub SmallRhythm : Rhythm → Type 0
SmallRhythm (r.Formula x) = count (bare_formula x) ≤ max_nestings
SmallRhythm _ = Unit {0}

abbrev pub IfSome : {A : Type 0} → (A → Type 0) → Option A → Type 0
IfSome P None = Unit {0}
IfSome P (Some x) = P x

abbrev pub Each : {A : Type 0} → (A → Type 0) → List A → Type 0
Each P [] = Unit {0}
Each P (x ∷ xs) = P x × Each P xs

abbrev pub SmallPacing : Pacing → Type 0
SmallPacing p = SmallRhythm p.rhythm

abbrev pub SmallPart : Part → Type 0
SmallPart p = Small p.expr

pub record SmallSpawn (s : Spawn) : Type 0 where
  pub pacing : IfSome SmallPacing s.pacing
  pub when : IfSome SmallPart s.when
  pub with : Each SmallPart s.with

pub record SmallEval (x : Eval) : Type 0 where
  pub pacing : IfSome SmallPacing x.pacing
  pub when : IfSome SmallPart x.when
  pub with : SmallPart x.with

pub record SmallClose (c : Close) : Type 0 where
  pub pacing : IfSome SmallPacing c.pacing
  pub when : SmallPart c.when

pub record SmallBody (s : Option Spawn) (x : Eval) (c : Option Close) : Type 0 where
  pub spawn : IfSome SmallSpawn s
  pub eval : SmallEval x
  pub close : IfSome SmallClose c

abbrev pub SmallDeclaration : Declaration → Type 0
SmallDeclaration (d.Inputs i) = Unit {0}
SmallDeclaration (d.Constant c) = Unit {0}
SmallDeclaration (d.Output o) = SmallBody o.spawn o.eval o.close
SmallDeclaration (d.Trigger t) = IfSome SmallPacing t.pacing × SmallPart t.when

-- ---- what the sentences of a part leave

abbrev Leaves : {A : Type 0} → Syntax A → (A → Type 0) → Type 0
Leaves {A} s P = (ts : List Lexeme) (x : A) → Fits all_nestings s ts x → P x

whatever : {A : Type 0} (s : Syntax A) → Leaves s (λ _. Unit {0})
whatever s ts x h = tt

mapped : {A B : Type 0} (f : A → B) (s : Syntax A) (P : B → Type 0) → Leaves s (λ x. P (f x)) → Leaves (Map f s) P
unfolding Fits
mapped f s P p ts y h = subst P (sym h.1) (p ts h.0 h.2)

known : {A : Type 0} (fs ms : List Terminal) (s : Syntax A) (P : A → Type 0) → Leaves s P → Leaves (Known fs ms s) P
unfolding Fits
known fs ms s P p ts x h = p ts x h

both : {A B : Type 0} (a : Syntax A) (b : Syntax B) (P : A → Type 0) (Q : B → Type 0) → Leaves a P → Leaves b Q → Leaves (Then a b) (λ p. P p.0 × Q p.1)
unfolding Fits
both a b P Q p q ts x h = (p h.0 x.0 h.3, q h.1 x.1 h.4)

second : {A B : Type 0} (a : Syntax A) (b : Syntax B) (Q : B → Type 0) → Leaves b Q → Leaves (Then a b) (λ p. Q p.1)
unfolding Fits
second a b Q q ts x h = q h.1 x.1 h.4

first : {A B : Type 0} (a : Syntax A) (b : Syntax B) (P : A → Type 0) → Leaves a P → Leaves (Then a b) (λ p. P p.0)
unfolding Fits
first a b P p ts x h = p h.0 x.0 h.3

either : {A : Type 0} (a b : Syntax A) (P : A → Type 0) → Leaves a P → Leaves b P → Leaves (Either a b) P
unfolding Fits
either a b P p q ts x (inl h) = p ts x h
either a b P p q ts x (inr h) = q ts x h

perhaps : {A : Type 0} (s : Syntax A) (P : A → Type 0) → Leaves s P → Leaves (Maybe s) (IfSome P)
unfolding Fits
perhaps s P p ts None h = tt
perhaps s P p ts (Some x) h = p ts x h

each : {A : Type 0} (s : Syntax A) (P : A → Type 0) → Leaves s P → Leaves (Many s) (Each P)
unfolding Fits
each s P p ts [] h = tt
each s P p ts (x ∷ xs) h = (p h.0 x h.3, each s P p h.1 xs h.4)

limited : {A : Type 0} (s : Syntax A) (c : A → ℕ) → Costs s c → Leaves (Whole s) (λ x. c x ≤ max_nestings)
unfolding Fits
limited s c p ts x h = omega (arith, p ts x h.0, count_is ts, h.1)

-- ---- clauses

clock_small : Leaves g.clock SmallRhythm
unfolding g.clock
clock_small = either _ _ SmallRhythm (mapped (λ q. r.Global q) _ SmallRhythm (λ ts q h. tt)) (mapped (λ q. r.Local q) _ SmallRhythm (λ ts q h. tt))

module _ (n : ℕ) where
  whole_small : Leaves (g.whole n) Small
  unfolding g.whole
  whole_small = limited (expr_in n) alone (expr_in_costs n)

  rhythm_small : Leaves (g.rhythm n) SmallRhythm
  unfolding g.rhythm g.whole_formula
  rhythm_small =
      either _ _ SmallRhythm (mapped (λ q. r.Rate q) g.quantity SmallRhythm (λ ts q h. tt))
      (either _ _ SmallRhythm (mapped (λ m. r.Formula (f.Input m)) (g.other_name g.clock_words) SmallRhythm (λ ts m h. omega (arith, name_free m.text [], count-nil)))
      (either _ _ SmallRhythm
      (mapped (λ x. r.Formula x) (g.enclosed (Whole (formula_in n))) SmallRhythm
      (mapped (λ p. p.1) (Then (token is.Open) (Whole (formula_in n) <* token is.Shut)) (λ x. SmallRhythm (r.Formula x))
      (second (token is.Open) (Whole (formula_in n) <* token is.Shut) (λ x. SmallRhythm (r.Formula x))
      (mapped (λ p. p.0) (Then (Whole (formula_in n)) (token is.Shut)) (λ x. SmallRhythm (r.Formula x))
      (first (Whole (formula_in n)) (token is.Shut) (λ x. SmallRhythm (r.Formula x)) (limited (formula_in n) formulas.alone (formulas.formula_in_costs n)))))))
      clock_small))

  pacing_small : Leaves (g.pacing n) SmallPacing
  unfolding g.pacing
  pacing_small = mapped _ (Then (token is.At) (g.rhythm n)) SmallPacing (second (token is.At) (g.rhythm n) SmallRhythm rhythm_small)

  part_small : (s : TokenShape) → Leaves (g.part_behind n s) SmallPart
  unfolding g.part_behind
  part_small s = mapped _ (Then (token s) (g.whole n)) SmallPart (second (token s) (g.whole n) Small whole_small)

  -- behind `with`
  more_small : (ts : List Lexeme) (ps : g.Parts) → Fits all_nestings (g.more_parts n) ts ps → (x : Expr) (bracket at : ℕ) → Small x → Each SmallPart (ps x bracket at)
  unfolding Fits g.more_parts
  more_small ts ps h x bracket at small =
      let inner = h.2 in
      let list = inner.2.3 in
      subst (λ (m : g.Parts). Each SmallPart (m x bracket at)) (sym h.1) (
        small,
        (
          subst SmallPart (ap (λ (p : Part × List Part). p.0) (sym inner.1)) (part_small is.Comma list.0 inner.0.0.0 list.3),
          subst (Each SmallPart) (ap (λ (p : Part × List Part). p.1) (sym inner.1)) (each (g.part_behind n is.Comma) SmallPart (part_small is.Comma) list.1 inner.0.0.1 list.4),
        ),
      )

  one_small : (u v : List Lexeme) (ps : g.Parts) (x : Expr) → Spells (expr_in n) u x → Spells (g.one_part n) v ps → suc (count u + count v) ≤ max_nestings → (bracket at : ℕ) → Each SmallPart (ps x bracket at)
  unfolding Spells g.one_part
  one_small u v ps x h k few bracket at =
      let value : count (bare (k.0 x)) ≤ suc (alone x) + count v = closed_add (expr_in n) (other_in n) (expr_in_costs n) (other_in_costs n) v k.0 k.2 x in
      let small : Small (k.0 x) = omega (arith, value, expr_in_costs n u x h, few) in
      subst (λ (m : g.Parts). Each SmallPart (m x bracket at)) (sym k.1) (small, tt)

  forked_small : (ts : List Lexeme) (p : Expr × g.Parts) → Fits all_nestings (g.forked n) ts p → (bracket at : ℕ) → Each SmallPart (g.placed bracket at p)
  unfolding Fits g.forked
  forked_small ts p (u, v, is, h, inl k) bracket at = more_small v p.1 k.1 p.0 bracket at (omega (arith, expr_in_costs n u p.0 h, count_is u, k.0))
  forked_small ts p (u, v, is, h, inr k) bracket at = one_small u v p.1 p.0 h k.1 (omega (arith, count_is u, count_is v, k.0)) bracket at

  unbracketed_costs : Costs (g.unbracketed n) alone
  unfolding g.unbracketed
  unbracketed_costs = costs.known _ _ (g.open_expr (expr_in n) (other_in n)) alone (open_expr_costs (expr_in n) (other_in n) (expr_in_costs n) (other_in_costs n))

  parts_small : Leaves (g.parts n) (λ m. (at : ℕ) → Each SmallPart (m at))
  unfolding g.parts g.whole_unbracketed
  parts_small =
      known _ _ _ (λ m. (at : ℕ) → Each SmallPart (m at))
      (either _ _ (λ m. (at : ℕ) → Each SmallPart (m at))
      (mapped _ (Then (token is.Open) (g.forked n)) (λ m. (at : ℕ) → Each SmallPart (m at)) (λ ts p h at. second (token is.Open) (g.forked n) (λ q. (bracket at : ℕ) → Each SmallPart (g.placed bracket at q)) forked_small ts p h p.0 at))
      (mapped _ _ (λ m. (at : ℕ) → Each SmallPart (m at)) (λ ts x h at. (limited (g.unbracketed n) alone unbracketed_costs ts x h, tt))))

  with_small : Leaves (g.with_parts n) (Each SmallPart)
  unfolding g.with_parts
  with_small = mapped _ (Then (token is.With) (g.parts n)) (Each SmallPart) (λ ts p h. second (token is.With) (g.parts n) (λ m. (at : ℕ) → Each SmallPart (m at)) parts_small ts p h p.0)

  maybe_parts : (o : Option (List Part)) → IfSome (Each SmallPart) o → Each SmallPart (g.parts_or_none o)
  maybe_parts None h = tt
  maybe_parts (Some ps) h = h

  pacing_perhaps : Leaves (Maybe (g.pacing n)) (IfSome SmallPacing)
  pacing_perhaps = perhaps (g.pacing n) SmallPacing pacing_small

  when_perhaps : Leaves (Maybe (g.part_behind n is.When)) (IfSome SmallPart)
  when_perhaps = perhaps (g.part_behind n is.When) SmallPart (part_small is.When)

  spawn_small : Leaves (g.spawn n) SmallSpawn
  unfolding g.spawn
  spawn_small =
      mapped _ _ SmallSpawn
      (λ ts p h.
      let all = second (token is.Spawn) _ (λ q. IfSome SmallPacing q.0 × (IfSome SmallPart q.1.0 × IfSome (Each SmallPart) q.1.1))
      (both (Maybe (g.pacing n)) _ (IfSome SmallPacing) (λ q. IfSome SmallPart q.0 × IfSome (Each SmallPart) q.1) pacing_perhaps
      (both (Maybe (g.part_behind n is.When)) (Maybe (g.with_parts n)) (IfSome SmallPart) (IfSome (Each SmallPart)) when_perhaps (perhaps (g.with_parts n) (Each SmallPart) with_small))) ts p h in
      record { pacing = all.0; when = all.1.0; with = maybe_parts p.1.1.1 all.1.1 })

  eval_small : Leaves (g.eval n) SmallEval
  unfolding g.eval
  eval_small =
      mapped _ _ SmallEval
      (λ ts p h.
      let all = second (token is.Eval) _ (λ q. IfSome SmallPacing q.0 × (IfSome SmallPart q.1.0 × SmallPart q.1.1))
      (both (Maybe (g.pacing n)) _ (IfSome SmallPacing) (λ q. IfSome SmallPart q.0 × SmallPart q.1) pacing_perhaps
      (both (Maybe (g.part_behind n is.When)) (g.part_behind n is.With) (IfSome SmallPart) SmallPart when_perhaps (part_small is.With))) ts p h in
      record { pacing = all.0; when = all.1.0; with = all.1.1 })

  close_small : Leaves (g.close n) SmallClose
  unfolding g.close
  close_small =
      mapped _ _ SmallClose
      (λ ts p h.
      let all = second (token is.Close) _ (λ q. IfSome SmallPacing q.0 × SmallPart q.1)
      (both (Maybe (g.pacing n)) (g.part_behind n is.When) (IfSome SmallPacing) SmallPart pacing_perhaps (part_small is.When)) ts p h in
      record { pacing = all.0; when = all.1 })

  short_small : Leaves (g.short_eval n) SmallEval
  unfolding g.short_eval
  short_small =
      mapped _ _ SmallEval
      (λ ts p h.
      let all = both (Maybe (g.pacing n)) (g.part_behind n is.Define) (IfSome SmallPacing) SmallPart pacing_perhaps (part_small is.Define) ts p h in
      record { pacing = all.0; when = tt; with = all.1 })

  abbrev OfBody : g.Body → Type 0
  OfBody b = SmallBody b.0 b.1 b.2

  body_small : Leaves (g.body n) OfBody
  unfolding g.body
  body_small =
      either _ _ OfBody (mapped _ (g.short_eval n) OfBody (λ ts x h. record { spawn = tt; eval = short_small ts x h; close = tt }))
      (either _ _ OfBody (mapped _ (g.eval n) OfBody (λ ts x h. record { spawn = tt; eval = eval_small ts x h; close = tt }))
      (mapped _ _ OfBody
      (λ ts p h.
      let all = both (g.spawn n) _ SmallSpawn (λ q. SmallEval q.0 × IfSome SmallClose q.1) spawn_small
      (both (g.eval n) (Maybe (g.close n)) SmallEval (IfSome SmallClose) eval_small (perhaps (g.close n) SmallClose close_small)) ts p h in
      record { spawn = all.0; eval = all.1.0; close = all.1.1 })))

  -- ---- declarations

  output_small : Leaves (g.output n) SmallDeclaration
  unfolding g.output
  output_small =
      mapped _ _ SmallDeclaration
      (λ ts p h.
      second (token is.Output) _ (λ q. OfBody q.1.1.1)
      (second g.name _ (λ q. OfBody q.1.1) (second (Maybe g.parameters) _ (λ q. OfBody q.1) (second (Maybe g.kind) (g.body n) OfBody body_small))) ts p h)

  trigger_small : Leaves (g.trigger n) SmallDeclaration
  unfolding g.trigger
  trigger_small =
      mapped _ _ SmallDeclaration
      (λ ts p h.
      second (token is.Trigger) _ (λ q. IfSome SmallPacing q.0 × Small q.1.0)
      (both (Maybe (g.pacing n)) _ (IfSome SmallPacing) (λ q. Small q.0) pacing_perhaps (first (g.whole n) g.message Small whole_small)) ts p h)

  inputs_small : Leaves g.inputs SmallDeclaration
  unfolding g.inputs
  inputs_small = mapped _ _ SmallDeclaration (λ ts p h. tt)

  constant_small : Leaves g.constant SmallDeclaration
  unfolding g.constant
  constant_small = mapped _ _ SmallDeclaration (λ ts p h. tt)

  declaration_small : Leaves (g.declaration n) SmallDeclaration
  unfolding g.declaration
  declaration_small = either _ _ SmallDeclaration inputs_small (either _ _ SmallDeclaration constant_small (either _ _ SmallDeclaration output_small trigger_small))

  pub specification_small : (ts : List Lexeme) (xs : List Declaration) → Fits all_nestings (g.specification n) ts xs → Each SmallDeclaration xs
  unfolding g.specification
  specification_small = each (g.declaration n) SmallDeclaration declaration_small
