-- What is printed of clauses spells them.
use Rattle.std.proofs.Common.{◌≡◌, ℕ, suc, ◌≤◌, Bool, true, false, true≢false, List, [], ◌∷◌, ◌++◌, map, Option, Some, None, refl, sym, ap, ◌∙◌, append_assoc, arith, inl, inr, ◌⊎◌}
use Rattle.std.specs.Prelude.{codes}
use Rattle.std.specs.Str.{bytes_eq}
use Rattle.std.proofs.lemmas.Slice.Eq.{bytes_eq-Decides}
use Rattle.std.proofs.lemmas.Bool.{or_parts}
use Rattle.lola_lexer.specs.declared.shape.TokenShape.{TokenShape}
use Rattle.lola_lexer.specs.declared.shape.TokenShape.TheVariants as is
use Rattle.lola_parser_grammar.specs.declared.literals.Name.{Name}
use Rattle.lola_parser_grammar.specs.declared.literals.Quantity.{Quantity}
use Rattle.lola_parser_grammar.specs.declared.expressions.Expr.{Expr}
use Rattle.lola_parser_grammar.specs.declared.pacing.Formula.{Formula}
use Rattle.lola_parser_grammar.specs.declared.pacing.Formula.TheVariants as f
use Rattle.lola_parser_grammar.specs.declared.pacing.Rhythm.{Rhythm}
use Rattle.lola_parser_grammar.specs.declared.pacing.Rhythm.TheVariants as r
use Rattle.lola_parser_grammar.specs.declared.pacing.Pacing.{Pacing}
use Rattle.lola_parser_grammar.specs.declared.clauses.Part.{Part}
use Rattle.lola_parser_grammar.specs.Syntax.{Lexeme, fits, Syntax, Then, Maybe, Many, Spells}
use Rattle.lola_parser_grammar.proofs.Tests.{shapes_same}
use Rattle.lola_parser_grammar.specs.Grammar as g
use Rattle.lola_parser_grammar.specs.Grammar.{token, nesting, word, expr_in, other_in, formula_in, ◌*>◌, ◌<*◌}
use Rattle.lola_parser_print.specs.Print as out
use Rattle.lola_parser_print.specs.Print.{lex, bare}
use Rattle.lola_parser_law.specs.Erased as erased
use Rattle.lola_parser_law.specs.Fitting.{RhythmFits, Perhaps, Fits, AllFit}
use Rattle.lola_parser_law.specs.Erased.{QuantityReads, formula_need}
use Rattle.lola_parser_law.proofs.Single.{token_spelled, word_spelled, after, before, both}
use Rattle.lola_parser_law.proofs.Operands.{quantity_spelled}
use Rattle.lola_parser_law.proofs.PrintedExpressions.{printed, whole_in, level_whole}
use Rattle.lola_parser_law.proofs.PrintedFormulas.{formula_printed, formula_whole}

-- ---- pacings

enclosed_spelled : {A : Type 0} (s : Syntax A) (u : List Lexeme) (x : A) → Spells s u x → Spells (g.enclosed s) (out.bracketed u) x
enclosed_spelled s u x h =
    after (token is.Open) (s <* token is.Shut) (lex is.Open ∷ []) (u ++ lex is.Shut ∷ []) 0 x (token_spelled is.Open)
    (before s (token is.Shut) u (lex is.Shut ∷ []) x 0 h (token_spelled is.Shut))

-- a name that is no clock
pub other_spelled : (n : Name) → out.is_clock n.text ≡ false → Spells (g.other_name g.clock_words) (out.name n ∷ []) (erased.name n)
unfolding Spells g.other_name fits
other_spelled n h =
    let parts = or_parts (bytes_eq n.text (codes "Global")) (bytes_eq n.text (codes "Local")) h in
    (out.name n, refl, (refl, rw (shapes_same is.Name is.Name refl, flipped n.text (codes "Global") parts.0, flipped n.text (codes "Local") parts.1) refl))
  where
    flip_by : (b : Bool) (v w : List ℕ) → bytes_eq w v ≡ b → bytes_eq v w ≡ false → b ≡ false
    flip_by true v w e h = absurd (true≢false (sym ((bytes_eq-Decides v w).1 (sym ((bytes_eq-Decides w v).0 e))) ∙ h))
    flip_by false v w e h = refl

    flipped : (v w : List ℕ) → bytes_eq v w ≡ false → bytes_eq w v ≡ false
    flipped v w h = flip_by (bytes_eq w v) v w refl h

input_event : (n : ℕ) (nm : Name) (b : Bool) → out.is_clock nm.text ≡ b → Spells (g.rhythm (suc n)) (out.bracketed_if b (out.name nm ∷ [])) (r.Formula (f.Input (erased.name nm)))
unfolding Spells g.rhythm g.whole_formula
input_event n nm true h =
    inr (inr (inl (
      f.Input (erased.name nm),
      refl,
      enclosed_spelled (formula_in (suc n)) (out.name nm ∷ []) (f.Input (erased.name nm)) (formula_whole (f.Input nm) n (formula_printed (f.Input nm) n (omega arith))),
    )))
input_event n nm false h = inr (inl (erased.name nm, refl, other_spelled nm h))

formula_event : (n : ℕ) (x : Formula) → formula_need x ≤ n → Spells (g.rhythm (suc n)) (out.bracketed (out.bare_formula x)) (r.Formula (erased.formula x))
unfolding Spells g.rhythm g.whole_formula
formula_event n x le =
    inr (inr (inl (
      erased.formula x,
      refl,
      enclosed_spelled (formula_in (suc n)) (out.bare_formula x) (erased.formula x) (formula_whole x n (formula_printed x n le)),
    )))

event_spelled : (n : ℕ) (x : Formula) → formula_need x ≤ n → Spells (g.rhythm (suc n)) (out.event x) (r.Formula (erased.formula x))
event_spelled n (f.Input nm) le = input_event n nm (out.is_clock nm.text) refl
event_spelled n x le = formula_event n x le

pub clock_call : (w : List ℕ) (q : Quantity) → QuantityReads q → Spells (word w *> g.enclosed g.quantity) (out.word w ∷ out.bracketed (out.quantity q ∷ [])) (erased.quantity q)
clock_call w q h =
    after (word w) (g.enclosed g.quantity) (out.word w ∷ []) (out.bracketed (out.quantity q ∷ [])) 0 (erased.quantity q) (word_spelled w)
    (enclosed_spelled g.quantity (out.quantity q ∷ []) (erased.quantity q) (quantity_spelled q h))

pub rhythm_spelled : (n : ℕ) (x : Rhythm) → RhythmFits n x → Spells (g.rhythm (suc n)) (out.rhythm x) (erased.rhythm x)
unfolding Spells g.rhythm g.clock
rhythm_spelled n (r.Rate q) h = inl (erased.quantity q, refl, quantity_spelled q h)
rhythm_spelled n (r.Formula x) h = event_spelled n x h
rhythm_spelled n (r.Global q) h = inr (inr (inr (inl (erased.quantity q, refl, clock_call (codes "Global") q h))))
rhythm_spelled n (r.Local q) h = inr (inr (inr (inr (erased.quantity q, refl, clock_call (codes "Local") q h))))

pub pacing_spelled : (n : ℕ) (p : Pacing) → RhythmFits n p.rhythm → Spells (g.pacing (suc n)) (out.pacing p) (erased.pacing p)
unfolding Spells g.pacing
pacing_spelled n p h = ((0, erased.rhythm p.rhythm), refl, (lex is.At ∷ [], out.rhythm p.rhythm, refl, token_spelled is.At, rhythm_spelled n p.rhythm h))

pub maybe_spelled : {A : Type 0} (s : Syntax A) (f : A → List Lexeme) (e : A → A) (P : A → Type 0) → ((x : A) → P x → Spells s (f x) (e x))
    → (o : Option A) → Perhaps P o → Spells (Maybe s) (out.maybe f o) (erased.perhaps e o)
unfolding Spells
maybe_spelled s f e P each None h = refl
maybe_spelled s f e P each (Some x) h = each x h

-- ---- parts

pub whole_spelled : (n : ℕ) (x : Expr) → Fits n x → Spells (g.whole (suc n)) (bare x) (erased.expr x)
unfolding Spells g.whole
whole_spelled n x h = whole_in x n (printed x n h.need h.reads)

pub part_spelled : (n : ℕ) (s : TokenShape) (p : Part) → Fits n p.expr → Spells (g.part_behind (suc n) s) (out.part s p) (erased.part p)
unfolding Spells g.part_behind
part_spelled n s p h = ((0, erased.expr p.expr), refl, (lex s ∷ [], bare p.expr, refl, token_spelled s, whole_spelled n p.expr h))

-- ---- what stands behind `with`

-- An expression that begins with a bracket, which is closed further on.
pub record Opened (E O : Syntax Expr) (u : List Lexeme) (x : Expr) : Type 0 where
  pub bracket : List Lexeme
  pub place : ℕ
  pub inner : List Lexeme
  pub rest : List Lexeme
  pub value : Expr
  pub goes_on : Expr → Expr
  pub joins : u ≡ bracket ++ (inner ++ rest)
  pub opens : Spells (token is.Open) bracket place
  pub spelled : Spells E inner value
  pub closed : Spells (g.closed E O) rest goes_on
  pub whole : x ≡ goes_on value

regrouped : (o i c b w : List Lexeme) → ((o ++ (i ++ c)) ++ b) ++ w ≡ o ++ (i ++ (c ++ (b ++ w)))
regrouped o i c b w = simp append_assoc

module _ (E O : Syntax Expr) where
  of_bracket : (u v w : List Lexeme) (x y : Expr) (tail : Expr → Expr) → u ≡ v ++ w → x ≡ tail y → Spells (g.bracketed E O) v y → Spells (g.disjunctions E O) w tail → Opened E O u x
  unfolding Spells g.bracketed g.closed token nesting
  of_bracket u v w x y tail eu ex h hw =
      let outer = h.2 in
      let opened = outer.3.2 in
      let shut = opened.4.2 in
      record {
        bracket = opened.0;
        place = outer.3.0.0;
        inner = shut.0;
        rest = shut.1 ++ (outer.1 ++ w);
        value = opened.4.0.0;
        goes_on = λ left. tail (h.0.1 left);
        joins = eu ∙ ap (λ (l : List Lexeme). l ++ w) (outer.2 ∙ ap (λ (l : List Lexeme). l ++ outer.1) (opened.2 ∙ ap (λ (l : List Lexeme). opened.0 ++ l) shut.2))
            ∙ regrouped opened.0 shut.0 shut.1 outer.1 w;
        opens = opened.3;
        spelled = shut.3;
        closed = ((opened.4.0.1, λ left. tail (h.0.1 left)), refl, (shut.1, outer.1 ++ w, refl, shut.4, ((h.0.1, tail), refl, (outer.1, w, refl, outer.4, hw))));
        whole = ex ∙ ap tail (h.1 ∙ ap h.0.1 (outer.3.1 ∙ opened.4.1));
      }

  pub open_or : (u : List Lexeme) (x : Expr) → Spells (g.expr_with E O) u x → Spells (g.open_expr E O) u x ⊎ Opened E O u x
  unfolding Spells g.expr_with g.open_expr g.open_operand g.unary g.other_with
  open_or u x (inl h) = inl (inl h)
  open_or u x (inr (p, e, (v, w, eu, inl h, hw))) = inl (inr (p, e, (v, w, eu, inl h, hw)))
  open_or u x (inr (p, e, (v, w, eu, inr (inl h), hw))) = inr (of_bracket u v w x p.0 p.1 eu e h hw)
  open_or u x (inr (p, e, (v, w, eu, inr (inr h), hw))) = inl (inr (p, e, (v, w, eu, inr h, hw)))

-- one expression behind `with`
module _ (n : ℕ) where
  unbracketed_part : (u : List Lexeme) (x : Expr) → Spells (g.open_expr (expr_in n) (other_in n)) u x → (v : ℕ → List Part) × Spells (g.parts n) u v × (v 0 ≡ g.part 0 x ∷ [])
  unfolding Spells g.parts g.whole_unbracketed g.unbracketed
  unbracketed_part u x h = ((λ at. g.part at x ∷ []), inr (x, refl, h), refl)

  bracketed_part : (u : List Lexeme) (x : Expr) → Opened (expr_in n) (other_in n) u x → (v : ℕ → List Part) × Spells (g.parts n) u v × (v 0 ≡ g.part 0 x ∷ [])
  unfolding Spells g.parts g.forked g.one_part
  bracketed_part u x h = (
    (λ at. g.part at (h.goes_on h.value) ∷ []),
    inl (
      (h.place, (h.value, λ y bracket at. g.part at (h.goes_on y) ∷ [])),
      refl,
      (h.bracket, h.inner ++ h.rest, h.joins, h.opens, (h.inner, h.rest, refl, h.spelled, inr (h.goes_on, refl, h.closed))),
    ),
    ap (λ (z : Expr). g.part 0 z ∷ []) (sym h.whole),
  )

  one_by : (u : List Lexeme) (x : Expr) → Spells (g.open_expr (expr_in n) (other_in n)) u x ⊎ Opened (expr_in n) (other_in n) u x
      → (v : ℕ → List Part) × Spells (g.parts n) u v × (v 0 ≡ g.part 0 x ∷ [])
  one_by u x (inl h) = unbracketed_part u x h
  one_by u x (inr h) = bracketed_part u x h

  -- several behind a bracket
  more_by : (u w : List Lexeme) (x : Expr) (q : Part) (qs : List Part) → Spells (expr_in n) u x → Spells (Then (g.part_behind n is.Comma) (Many (g.part_behind n is.Comma))) w (q, qs)
      → (v : ℕ → List Part) × Spells (g.parts n) (lex is.Open ∷ (u ++ (w ++ lex is.Shut ∷ []))) v × (v 0 ≡ g.part 0 x ∷ q ∷ qs)
  unfolding Spells g.parts g.forked g.more_parts
  more_by u w x q qs h k = (
    (λ at. g.part 0 x ∷ q ∷ qs),
    inl (
      (0, (x, λ y bracket at. g.part bracket y ∷ q ∷ qs)),
      refl,
      (
        lex is.Open ∷ [],
        u ++ (w ++ lex is.Shut ∷ []),
        refl,
        token_spelled is.Open,
        (u, w ++ lex is.Shut ∷ [], refl, h, inl ((q, qs), refl, before (Then (g.part_behind n is.Comma) (Many (g.part_behind n is.Comma))) (token is.Shut) w (lex is.Shut ∷ []) (q, qs) 0 k (token_spelled is.Shut))),
      ),
    ),
    refl,
  )

  with_by : (u : List Lexeme) (ps : List Part) → ((v : ℕ → List Part) × Spells (g.parts n) u v × (v 0 ≡ ps)) → Spells (g.with_parts n) (lex is.With ∷ u) ps
  unfolding Spells g.with_parts
  with_by u ps (v, h, e) = ((0, v), sym e, (lex is.With ∷ [], u, refl, token_spelled is.With, h))

-- ---- clauses

commas_spelled : (n : ℕ) (ps : List Part) → AllFit n ps → Spells (Many (g.part_behind (suc n) is.Comma)) (out.further_parts ps) (map erased.part ps)
unfolding Spells
commas_spelled n [] h = refl
commas_spelled n (p ∷ ps) h = (out.part is.Comma p, out.further_parts ps, refl, part_spelled n is.Comma p h.0, commas_spelled n ps h.1)

comma_list : (n : ℕ) (p : Part) (ps : List Part) → Fits n p.expr → AllFit n ps
    → Spells (Then (g.part_behind (suc n) is.Comma) (Many (g.part_behind (suc n) is.Comma))) (out.further_parts (p ∷ ps)) (erased.part p, map erased.part ps)
comma_list n p ps h k = both (g.part_behind (suc n) is.Comma) (Many (g.part_behind (suc n) is.Comma)) (out.part is.Comma p) (out.further_parts ps) (erased.part p) (map erased.part ps) (part_spelled n is.Comma p h) (commas_spelled n ps k)

-- an expression where brackets are looked for: one level less is needed
pub whole_level : (n : ℕ) (x : Expr) → Fits n x → Spells (g.expr_with (expr_in (suc n)) (other_in (suc n))) (bare x) (erased.expr x)
whole_level n x h = level_whole x (suc n) (printed x (suc n) (omega (arith, h.need)) h.reads)

abbrev pub some_parts : List Part → Option (List Part)
some_parts [] = None
some_parts (p ∷ ps) = Some (map erased.part (p ∷ ps))

pub parts_spelled : (n : ℕ) (ps : List Part) → AllFit n ps → Spells (Maybe (g.with_parts (suc n))) (out.with_parts ps) (some_parts ps)
unfolding Spells
parts_spelled n [] h = refl
parts_spelled n (p ∷ []) h =
    with_by (suc n) (bare p.expr) (erased.part p ∷ []) (one_by (suc n) (bare p.expr) (erased.expr p.expr) (open_or (expr_in (suc n)) (other_in (suc n)) (bare p.expr) (erased.expr p.expr) (whole_level n p.expr h.0)))
parts_spelled n (p ∷ q ∷ ps) h =
    with_by (suc n) (out.part is.Open p ++ (out.further_parts (q ∷ ps) ++ lex is.Shut ∷ [])) (erased.part p ∷ erased.part q ∷ map erased.part ps)
    (more_by (suc n) (bare p.expr) (out.further_parts (q ∷ ps)) (erased.expr p.expr) (erased.part q) (map erased.part ps) (whole_in p.expr n (printed p.expr n h.0.need h.0.reads)) (comma_list n q ps h.1.0 h.1.1))
