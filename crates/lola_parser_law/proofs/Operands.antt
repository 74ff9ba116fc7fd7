-- Operands without prefix operators.
use Rattle.std.proofs.Common.{◌≡◌, ℕ, Bool, true, false, List, [], ◌∷◌, ◌++◌, Option, Some, None, refl, sym, ap, subst, ◌∙◌, append_assoc, append-nil, inl, inr, eqb-true}
use Rattle.std.specs.Bool.{if◌then◌else◌}
use Rattle.std.specs.Prelude.{fold, codes, ◌==◌}
use Rattle.lola_lexer.specs.declared.shape.TokenShape.TheVariants as is
use Rattle.lola_parser_grammar.specs.declared.literals.Name.{Name}
use Rattle.lola_parser_grammar.specs.declared.literals.Value.TheVariants as value
use Rattle.lola_parser_grammar.specs.declared.literals.Quantity.{Quantity}
use Rattle.lola_parser_grammar.specs.declared.expressions.Access.{Access}
use Rattle.lola_parser_grammar.specs.declared.expressions.Access.TheVariants as a
use Rattle.lola_parser_grammar.specs.declared.expressions.Expr.{Expr}
use Rattle.lola_parser_grammar.specs.declared.expressions.Expr.TheVariants as e
use Rattle.lola_parser_grammar.specs.Syntax.{Lexeme, Syntax, Then, Map, Maybe, Spells}
use Rattle.lola_parser_grammar.specs.Grammar as g
use Rattle.lola_parser_grammar.specs.Grammar.{token, nesting, word, whole_number, truth_at, text_at, with_default, reference, ◌*>◌, ◌<*◌, ◌|>◌, ◌>>◌}
use Rattle.lola_parser_print.specs.Print as out
use Rattle.lola_parser_print.specs.Print.{lex}
use Rattle.lola_parser_law.specs.Erased as erased
use Rattle.lola_parser_law.specs.Erased.{IntegerReads, TextReads, QuantityReads, ValueReads, AccessReads}
use Rattle.lola_parser_law.proofs.Single.{token_spelled, nesting_spelled, shape_spelled, word_spelled, name_spelled, after, before, both, mapped, joined_none, joined_more, repeats_snoc, fold_snoc}

-- ---- literals

pub integer_spelled : (n : ℕ) → IntegerReads n → Spells g.integer (out.integer n ∷ []) (n, 0)
unfolding Spells g.integer
integer_spelled n reads = (out.integer n, ap (λ (m : ℕ). (m, 0)) (sym reads), shape_spelled is.Integer (out.integer n).text)

pub text_spelled : (z : List ℕ) → TextReads z → Spells g.text (out.text z ∷ []) (z, 0)
unfolding Spells g.text
text_spelled z reads = (out.text z, ap (λ (m : List ℕ). (m, 0)) (sym reads), shape_spelled is.Text (out.text z).text)

pub quantity_spelled : (q : Quantity) → QuantityReads q → Spells g.quantity (out.quantity q ∷ []) (erased.quantity q)
unfolding Spells g.quantity
quantity_spelled q reads = (out.quantity q, sym reads, shape_spelled is.Quantity (out.quantity q).text)

module _ (E O : Syntax Expr) where
  -- ---- defaults

  default_body : (w : List Lexeme) (b : Expr) → Spells E w b
      → Spells (g.default E O) (out.word (codes "defaults") ∷ lex is.Open ∷ out.word (codes "to") ∷ lex is.Colon ∷ (w ++ lex is.Shut ∷ [])) b
  unfolding g.default
  default_body w b h =
      after (word (codes "defaults")) _ (out.word (codes "defaults") ∷ []) _ _ b (word_spelled (codes "defaults"))
      (after (nesting is.Open) _ (lex is.Open ∷ []) _ _ b (nesting_spelled is.Open)
      (after (word (codes "to")) _ (out.word (codes "to") ∷ []) _ _ b (word_spelled (codes "to"))
      (after (token is.Colon) _ (lex is.Colon ∷ []) _ _ b (token_spelled is.Colon)
      (before E (token is.Shut) w (lex is.Shut ∷ []) b _ h (token_spelled is.Shut)))))

  pub default_spelled : (w : List Lexeme) (b : Expr) → Spells E w b → Spells (g.dotted_default E O) (out.default_tail w) (0, b)
  unfolding g.dotted_default
  default_spelled w b h = both (nesting is.Dot) (g.default E O) (lex is.Dot ∷ []) _ 0 b (nesting_spelled is.Dot) (default_body w b h)

  -- something, with no default behind it and with one more
  module _ (start : Syntax Expr) where
    pub start_none : (u : List Lexeme) (x : Expr) → Spells start u x → Spells (start |> g.defaults E O) u x
    unfolding g.defaults
    start_none u x h = joined_none with_default start (g.dotted_default E O) u x h

    pub start_more : (u w : List Lexeme) (x b : Expr) → Spells (start |> g.defaults E O) u x → Spells E w b
        → Spells (start |> g.defaults E O) (u ++ out.default_tail w) (e.Defaults 0 x b)
    unfolding g.defaults
    start_more u w x b h k = joined_more with_default start (g.dotted_default E O) u (out.default_tail w) x (0, b) h (default_spelled w b k)

  -- ---- integers

  pub number_only : (n : ℕ) → IntegerReads n → Spells (g.number E O) (out.integer n ∷ []) (e.Literal (whole_number false n 0))
  unfolding g.number
  number_only n reads = start_none (Map (λ p. e.Literal (whole_number false p.0 p.1)) g.integer) (out.integer n ∷ []) _ (mapped (λ p. e.Literal (whole_number false p.0 p.1)) g.integer (out.integer n ∷ []) (n, 0) (integer_spelled n reads))

  pub number_more : (u w : List Lexeme) (x b : Expr) → Spells (g.number E O) u x → Spells E w b → Spells (g.number E O) (u ++ out.default_tail w) (e.Defaults 0 x b)
  unfolding g.number
  number_more u w x b h k = start_more (Map (λ p. e.Literal (whole_number false p.0 p.1)) g.integer) u w x b h k

  -- ---- words and texts

  pub truth_spelled : (b : Bool) → Spells (g.worded E O) (out.literal (value.Truth b)) (e.Literal (truth_at b 0))
  unfolding Spells g.worded g.word_literal
  truth_spelled true = start_none (Map (λ l. e.Literal l) g.word_literal) (lex is.True ∷ []) (e.Literal (truth_at true 0)) (truth_at true 0, refl, inl (0, refl, token_spelled is.True))
  truth_spelled false = start_none (Map (λ l. e.Literal l) g.word_literal) (lex is.False ∷ []) (e.Literal (truth_at false 0)) (truth_at false 0, refl, inr (inl (0, refl, token_spelled is.False)))

  pub text_literal_spelled : (z : List ℕ) → TextReads z → Spells (g.worded E O) (out.text z ∷ []) (e.Literal (text_at (z, 0)))
  unfolding Spells g.worded g.word_literal
  text_literal_spelled z reads =
      start_none (Map (λ l. e.Literal l) g.word_literal) (out.text z ∷ []) (e.Literal (text_at (z, 0))) (text_at (z, 0), refl, inr (inr ((z, 0), refl, text_spelled z reads)))

  pub worded_more : (u w : List Lexeme) (x b : Expr) → Spells (g.worded E O) u x → Spells E w b → Spells (g.worded E O) (u ++ out.default_tail w) (e.Defaults 0 x b)
  unfolding g.worded
  worded_more u w x b h k = start_more (Map (λ l. e.Literal l) g.word_literal) u w x b h k

  -- ---- brackets

  pub in_brackets : (u : List Lexeme) (x : Expr) → Spells E u x → Spells (g.bracketed E O) (out.bracketed u) x
  unfolding g.bracketed
  in_brackets u x h =
      start_none (nesting is.Open *> E <* token is.Shut) (out.bracketed u) x
      (after (nesting is.Open) (E <* token is.Shut) (lex is.Open ∷ []) (u ++ lex is.Shut ∷ []) 0 x (nesting_spelled is.Open)
      (before E (token is.Shut) u (lex is.Shut ∷ []) x 0 h (token_spelled is.Shut)))

  pub bracketed_more : (u w : List Lexeme) (x b : Expr) → Spells (g.bracketed E O) u x → Spells E w b → Spells (g.bracketed E O) (u ++ out.default_tail w) (e.Defaults 0 x b)
  unfolding g.bracketed
  bracketed_more u w x b h k = start_more (nesting is.Open *> E <* token is.Shut) u w x b h k

  -- ---- negative literals: a `-` and then these

  -- one default more behind those that there are
  pub defaults_more : (u w : List Lexeme) (f : Expr → Expr) (b : Expr) → Spells (g.defaults E O) u f → Spells E w b
      → (f' : Expr → Expr) × Spells (g.defaults E O) (u ++ out.default_tail w) f' × ((x : Expr) → f' x ≡ e.Defaults 0 (f x) b)
  unfolding Spells g.defaults
  defaults_more u w f b h k = (
    (λ left. fold with_default left (h.0 ++ (0, b) ∷ [])),
    (h.0 ++ (0, b) ∷ [], refl, repeats_snoc (Spells (g.dotted_default E O)) u (out.default_tail w) h.0 (0, b) h.2 (default_spelled w b k)),
    λ x. fold_snoc with_default x h.0 (0, b) ∙ ap (λ (m : Expr → Expr). e.Defaults 0 (m x) b) (sym h.1),
  )

  no_defaults : Spells (g.defaults E O) [] (λ x. x)
  unfolding Spells g.defaults
  no_defaults = ([], refl, refl)

  pub record Negative (u : List Lexeme) (x : Expr) : Type 0 where
    pub behind : List Lexeme
    pub value : ℕ → Expr
    pub is : u ≡ lex is.Minus ∷ behind
    pub spelled : Spells (g.negative E O) behind value
    pub at_zero : x ≡ value 0

  pub negative_only : (n : ℕ) → IntegerReads n → Negative (out.literal (value.Integer true n)) (e.Literal (whole_number true n 0))
  unfolding Spells g.negative
  negative_only n reads =
      record {
        behind = out.integer n ∷ [];
        value = λ at. e.Literal (whole_number true n at);
        is = refl;
        spelled = (((n, 0), λ x. x), refl, (out.integer n ∷ [], [], refl, integer_spelled n reads, no_defaults));
        at_zero = refl;
      }

  pub negative_more : (u w : List Lexeme) (x b : Expr) → Negative u x → Spells E w b → Negative (u ++ out.default_tail w) (e.Defaults 0 x b)
  unfolding Spells g.negative
  negative_more u w x b h k =
      let s = h.spelled in
      let p = s.2 in
      let more = defaults_more p.1 w s.0.1 b p.4 k in
      record {
        behind = h.behind ++ out.default_tail w;
        value = λ at. more.0 (e.Literal (whole_number true s.0.0.0 at));
        is = ap (λ (l : List Lexeme). l ++ out.default_tail w) h.is;
        spelled = (
          (s.0.0, more.0),
          refl,
          (p.0, p.1 ++ out.default_tail w, ap (λ (l : List Lexeme). l ++ out.default_tail w) p.2 ∙ append_assoc p.0 p.1 (out.default_tail w), p.3, more.1),
        );
        at_zero = ap (λ z. e.Defaults 0 z b) (h.at_zero ∙ ap (λ (m : ℕ → Expr). m 0) s.1) ∙ sym (more.2 (e.Literal (whole_number true s.0.0.0 0)));
      }

  pub negative_spelled : (u : List Lexeme) (x : Expr) → Negative u x → Spells (g.minus E O) u x
  unfolding Spells g.minus
  negative_spelled u x h = ((0, h.value), h.at_zero, (lex is.Minus ∷ [], h.behind, h.is, nesting_spelled is.Minus, inl h.spelled))

  -- ---- what stands behind the point after a name

  -- a reading, by what it is where the point's place is 0
  pub record Reads (u : List Lexeme) (how : Access) (b : Option Expr) : Type 0 where
    pub value : ℕ → g.Reading
    pub spelled : Spells (g.reading E O) u value
    pub at_zero : value 0 ≡ (how, b)

  -- in brackets, nothing or what stands in
  stand_none : Spells (g.stand_in E O) (out.bracketed []) None
  unfolding Spells g.stand_in
  stand_none =
      after (nesting is.Open) (Maybe (word (codes "or") *> token is.Colon *> E) <* token is.Shut) (lex is.Open ∷ []) (lex is.Shut ∷ []) 0 None (nesting_spelled is.Open)
      (before (Maybe (word (codes "or") *> token is.Colon *> E)) (token is.Shut) [] (lex is.Shut ∷ []) None 0 refl (token_spelled is.Shut))

  stand_some : (w : List Lexeme) (b : Expr) → Spells E w b → Spells (g.stand_in E O) (out.bracketed (out.labelled (codes "or") w)) (Some b)
  unfolding Spells g.stand_in
  stand_some w b h =
      after (nesting is.Open) (Maybe (word (codes "or") *> token is.Colon *> E) <* token is.Shut) (lex is.Open ∷ []) (out.labelled (codes "or") w ++ lex is.Shut ∷ []) 0 (Some b) (nesting_spelled is.Open)
      (before (Maybe (word (codes "or") *> token is.Colon *> E)) (token is.Shut) (out.labelled (codes "or") w) (lex is.Shut ∷ []) (Some b) 0
      (after (word (codes "or")) (token is.Colon *> E) (out.word (codes "or") ∷ []) (lex is.Colon ∷ w) 0 b (word_spelled (codes "or"))
      (after (token is.Colon) E (lex is.Colon ∷ []) w 0 b (token_spelled is.Colon) h))
      (token_spelled is.Shut))

  pub hold_reads : (ts : List Lexeme) (b : Option Expr) → Spells (g.stand_in E O) (out.bracketed ts) b → Reads (out.word (codes "hold") ∷ out.bracketed ts) (a.Hold 0) b
  unfolding Spells g.reading g.hold
  hold_reads ts b h =
      record {
        value = λ dot. (a.Hold dot, b);
        spelled = inr (inl (b, refl, after (word (codes "hold")) (g.stand_in E O) (out.word (codes "hold") ∷ []) (out.bracketed ts) 0 b (word_spelled (codes "hold")) h));
        at_zero = refl;
      }

  pub get_reads : (ts : List Lexeme) (b : Option Expr) → Spells (g.stand_in E O) (out.bracketed ts) b → Reads (out.word (codes "get") ∷ out.bracketed ts) (a.Get 0) b
  unfolding Spells g.reading g.get
  get_reads ts b h =
      record {
        value = λ dot. (a.Get dot, b);
        spelled = inr (inr (inl (b, refl, after (word (codes "get")) (g.stand_in E O) (out.word (codes "get") ∷ []) (out.bracketed ts) 0 b (word_spelled (codes "get")) h)));
        at_zero = refl;
      }

  pub last_reads : (ts : List Lexeme) (b : Option Expr) → Spells (g.stand_in E O) (out.bracketed ts) b → Reads (out.word (codes "last") ∷ out.bracketed ts) (a.Offset 0 1 0) b
  unfolding Spells g.reading g.last
  last_reads ts b h =
      record {
        value = λ dot. (a.Offset dot 1 0, b);
        spelled = inr (inr (inr (inl ((0, b), refl, both (word (codes "last")) (g.stand_in E O) (out.word (codes "last") ∷ []) (out.bracketed ts) 0 b (word_spelled (codes "last")) h))));
        at_zero = refl;
      }

  offset_body : (k : ℕ) → IntegerReads k
      → Spells (word (codes "offset") *> nesting is.Open *> word (codes "by") *> token is.Colon *> nesting is.Minus *> g.integer <* token is.Shut)
      (out.word (codes "offset") ∷ lex is.Open ∷ out.word (codes "by") ∷ lex is.Colon ∷ lex is.Minus ∷ (out.integer k ∷ [] ++ lex is.Shut ∷ [])) (k, 0)
  offset_body k reads =
      let v : ℕ × ℕ = (k, 0) in
      after (word (codes "offset")) _ (out.word (codes "offset") ∷ []) _ 0 v (word_spelled (codes "offset"))
      (after (nesting is.Open) _ (lex is.Open ∷ []) _ 0 v (nesting_spelled is.Open)
      (after (word (codes "by")) _ (out.word (codes "by") ∷ []) _ 0 v (word_spelled (codes "by"))
      (after (token is.Colon) _ (lex is.Colon ∷ []) _ 0 v (token_spelled is.Colon)
      (after (nesting is.Minus) _ (lex is.Minus ∷ []) _ 0 v (nesting_spelled is.Minus)
      (before g.integer (token is.Shut) (out.integer k ∷ []) (lex is.Shut ∷ []) v 0 (integer_spelled k reads) (token_spelled is.Shut))))))

  pub offset_reads : (k : ℕ) → IntegerReads k
      → Reads (out.word (codes "offset") ∷ out.bracketed (out.labelled (codes "by") (lex is.Minus ∷ out.integer k ∷ []))) (a.Offset 0 k 0) None
  unfolding Spells g.reading g.offset
  offset_reads k reads =
      record { value = λ dot. (a.Offset dot k 0, None); spelled = inl ((k, 0), refl, offset_body k reads); at_zero = refl }

  over_spelled : (exactly : Bool) → Spells g.over (out.word (out.over_word exactly) ∷ []) exactly
  unfolding Spells g.over
  over_spelled true = inr (0, refl, word_spelled (codes "over_exactly"))
  over_spelled false = inl (0, refl, word_spelled (codes "over"))

  using_body : (q : Quantity) (n : Name) → QuantityReads q
      → Spells (Then (token is.Colon *> g.quantity) (token is.Comma *> word (codes "using") *> token is.Colon *> g.name))
      ((lex is.Colon ∷ out.quantity q ∷ []) ++ (lex is.Comma ∷ out.word (codes "using") ∷ lex is.Colon ∷ out.name n ∷ [])) (erased.quantity q, erased.name n)
  using_body q n reads =
      both (token is.Colon *> g.quantity) (token is.Comma *> word (codes "using") *> token is.Colon *> g.name) (lex is.Colon ∷ out.quantity q ∷ []) _ (erased.quantity q) (erased.name n)
      (after (token is.Colon) g.quantity (lex is.Colon ∷ []) (out.quantity q ∷ []) 0 (erased.quantity q) (token_spelled is.Colon) (quantity_spelled q reads))
      (after (token is.Comma) _ (lex is.Comma ∷ []) _ 0 (erased.name n) (token_spelled is.Comma)
      (after (word (codes "using")) _ (out.word (codes "using") ∷ []) _ 0 (erased.name n) (word_spelled (codes "using"))
      (after (token is.Colon) g.name (lex is.Colon ∷ []) (out.name n ∷ []) 0 (erased.name n) (token_spelled is.Colon) (name_spelled n))))

  window_body : (exactly : Bool) (q : Quantity) (n : Name) → QuantityReads q
      → Spells (Then g.over (Then (token is.Colon *> g.quantity) (token is.Comma *> word (codes "using") *> token is.Colon *> g.name)))
      ((out.word (out.over_word exactly) ∷ []) ++ ((lex is.Colon ∷ out.quantity q ∷ []) ++ (lex is.Comma ∷ out.word (codes "using") ∷ lex is.Colon ∷ out.name n ∷ []))) (exactly, (erased.quantity q, erased.name n))
  window_body exactly q n reads =
      let v : Quantity × Name = (erased.quantity q, erased.name n) in
      both g.over (Then (token is.Colon *> g.quantity) (token is.Comma *> word (codes "using") *> token is.Colon *> g.name)) (out.word (out.over_word exactly) ∷ []) _ exactly v (over_spelled exactly) (using_body q n reads)

  window_call : (exactly : Bool) (q : Quantity) (n : Name) → QuantityReads q
      → Spells (word (codes "aggregate") *> nesting is.Open *> Then g.over (Then (token is.Colon *> g.quantity) (token is.Comma *> word (codes "using") *> token is.Colon *> g.name)) <* token is.Shut)
      (out.word (codes "aggregate") ∷ out.bracketed (out.labelled (out.over_word exactly) (out.quantity q ∷ lex is.Comma ∷ out.labelled (codes "using") (out.name n ∷ []))))
      (exactly, (erased.quantity q, erased.name n))
  window_call exactly q n reads =
      let v : Bool × (Quantity × Name) = (exactly, (erased.quantity q, erased.name n)) in
      after (word (codes "aggregate")) _ (out.word (codes "aggregate") ∷ []) _ 0 v (word_spelled (codes "aggregate"))
      (after (nesting is.Open) _ (lex is.Open ∷ []) _ 0 v (nesting_spelled is.Open)
      (before (Then g.over (Then (token is.Colon *> g.quantity) (token is.Comma *> word (codes "using") *> token is.Colon *> g.name))) (token is.Shut) _ (lex is.Shut ∷ []) v 0
      (window_body exactly q n reads) (token_spelled is.Shut)))

  pub window_reads : (exactly : Bool) (q : Quantity) (n : Name) → QuantityReads q
      → Reads (out.word (codes "aggregate") ∷ out.bracketed (out.labelled (out.over_word exactly) (out.quantity q ∷ lex is.Comma ∷ out.labelled (codes "using") (out.name n ∷ []))))
      (a.Window 0 exactly (erased.quantity q) (erased.name n)) None
  unfolding Spells g.reading g.window
  window_reads exactly q n reads =
      record {
        value = λ dot. (a.Window dot exactly (erased.quantity q) (erased.name n), None);
        spelled = inr (inr (inr (inr (inl ((exactly, (erased.quantity q, erased.name n)), refl, window_call exactly q n reads)))));
        at_zero = refl;
      }

  pub default_reads : (w : List Lexeme) (b : Expr) → Spells E w b
      → Reads (out.word (codes "defaults") ∷ out.bracketed (out.labelled (codes "to") w)) a.Direct (Some b)
  unfolding Spells g.reading
  default_reads w b h =
      record {
        value = λ dot. (a.Direct, Some b);
        spelled = inr (inr (inr (inr (inr (b, refl, default_body w b h)))));
        at_zero = refl;
      }

  -- ---- what is read of a name

  abbrev pub AfterName : List Lexeme → List Lexeme → Option g.Arguments → Type 0
  AfterName u args p = (u ≡ args) × Spells (Maybe (g.arguments E O)) args p

  -- a suffix, by what it makes of a name
  pub record Suffixed (u : List Lexeme) (named : Access → Expr) (x : Expr) : Type 0 where
    pub value : g.Suffix
    pub spelled : Spells (g.suffix E O) u value
    pub is : x ≡ value named

  pub suffix_only : (u : List Lexeme) (how : Access) (b : Option Expr) (named : Access → Expr) → Reads u how b
      → Suffixed (lex is.Dot ∷ u) named (g.or_else 0 (named how) b)
  unfolding Spells g.suffix g.dotted
  suffix_only u how b named h =
      record {
        value = λ m. g.read_by 0 (h.value 0) m;
        spelled = (
          (λ m. g.read_by 0 (h.value 0) m, λ x. x),
          refl,
          (lex is.Dot ∷ u, [], ap (λ l. lex is.Dot ∷ l) (sym (append-nil u)), ((0, h.value), refl, (lex is.Dot ∷ [], u, refl, nesting_spelled is.Dot, h.spelled)), no_defaults),
        );
        is = ap (λ (r : g.Reading). g.read_by 0 r named) (sym h.at_zero);
      }

  pub suffix_more : (u w : List Lexeme) (named : Access → Expr) (x b : Expr) → Suffixed u named x → Spells E w b → Suffixed (u ++ out.default_tail w) named (e.Defaults 0 x b)
  unfolding Spells g.suffix
  suffix_more u w named x b h k =
      let s = h.spelled in
      let p = s.2 in
      let more = defaults_more p.1 w s.0.1 b p.4 k in
      record {
        value = λ m. more.0 (s.0.0 m);
        spelled = (
          (s.0.0, more.0),
          refl,
          (p.0, p.1 ++ out.default_tail w, ap (λ (l : List Lexeme). l ++ out.default_tail w) p.2 ∙ append_assoc p.0 p.1 (out.default_tail w), p.3, more.1),
        );
        is = ap (λ z. e.Defaults 0 z b) (h.is ∙ ap (λ (m : g.Suffix). m named) s.1) ∙ sym (more.2 (s.0.0 named));
      }

  -- a name, its arguments, and a suffix
  pub record Named (u : List Lexeme) (x : Expr) : Type 0 where
    pub name : Name
    pub arguments : Option g.Arguments
    pub args : List Lexeme
    pub dots : List Lexeme
    pub is : u ≡ out.name name ∷ (args ++ dots)
    pub spelled : Spells (Maybe (g.arguments E O)) args arguments
    pub suffix : Suffixed dots (reference (erased.name name) arguments) x

  pub named_spelled : (u : List Lexeme) (x : Expr) → Named u x → Spells (g.named E O) u x
  unfolding Spells g.named
  named_spelled u x h = (
    (erased.name h.name, (h.arguments, Some h.suffix.value)),
    h.suffix.is,
    (out.name h.name ∷ [], h.args ++ h.dots, h.is, name_spelled h.name, (h.args, h.dots, refl, h.spelled, h.suffix.spelled)),
  )

  pub named_more : (u w : List Lexeme) (x b : Expr) → Named u x → Spells E w b → Named (u ++ out.default_tail w) (e.Defaults 0 x b)
  named_more u w x b h k =
      record {
        name = h.name;
        arguments = h.arguments;
        args = h.args;
        dots = h.dots ++ out.default_tail w;
        is = ap (λ (l : List Lexeme). l ++ out.default_tail w) h.is ∙ ap (λ l. out.name h.name ∷ l) (append_assoc h.args h.dots (out.default_tail w));
        spelled = h.spelled;
        suffix = suffix_more h.dots w (reference (erased.name h.name) h.arguments) x b h.suffix k;
      }

  -- without a suffix
  pub bare_name : (n : Name) (p : Option g.Arguments) (args : List Lexeme) → Spells (Maybe (g.arguments E O)) args p
      → Spells (g.named E O) (out.name n ∷ (args ++ [])) (reference (erased.name n) p a.Direct)
  unfolding Spells g.named
  bare_name n p args h = ((erased.name n, (p, None)), refl, (out.name n ∷ [], args ++ [], refl, name_spelled n, (args, [], refl, h, refl)))

  -- how a name is read, alone and with what stands in

  offset_suffixed : (k : ℕ) (named : Access → Expr) → IntegerReads k → (b : Bool) → (k == 1) ≡ b
      → Suffixed (if b then out.call (codes "last") [] else out.call (codes "offset") (out.labelled (codes "by") (lex is.Minus ∷ out.integer k ∷ []))) named (named (a.Offset 0 k 0))
  offset_suffixed k named reads true h =
      subst (λ (m : ℕ). Suffixed (out.call (codes "last") []) named (named (a.Offset 0 m 0))) (sym (eqb-true k 1 h))
      (suffix_only (out.word (codes "last") ∷ out.bracketed []) (a.Offset 0 1 0) None named (last_reads [] None stand_none))
  offset_suffixed k named reads false h = suffix_only _ (a.Offset 0 k 0) None named (offset_reads k reads)

  pub access_suffixed : (how : Access) (named : Access → Expr) → AccessReads how → (how ≡ a.Direct → ⊥) → Suffixed (out.access how) named (named (erased.access how))
  access_suffixed a.Direct named reads other = absurd (other refl)
  access_suffixed (a.Offset dot k at) named reads other = offset_suffixed k named reads (k == 1) refl
  access_suffixed (a.Hold dot) named reads other = suffix_only (out.word (codes "hold") ∷ out.bracketed []) (a.Hold 0) None named (hold_reads [] None stand_none)
  access_suffixed (a.Get dot) named reads other = suffix_only (out.word (codes "get") ∷ out.bracketed []) (a.Get 0) None named (get_reads [] None stand_none)
  access_suffixed (a.Window dot exactly q n) named reads other = suffix_only _ (a.Window 0 exactly (erased.quantity q) (erased.name n)) None named (window_reads exactly q n reads)

  offset_or : (k : ℕ) (named : Access → Expr) (w : List Lexeme) (x : Expr) → IntegerReads k → Spells E w x → (b : Bool) → (k == 1) ≡ b
      → Suffixed (if b then out.call (codes "last") (out.labelled (codes "or") w) else out.call (codes "offset") (out.labelled (codes "by") (lex is.Minus ∷ out.integer k ∷ [])) ++ out.default_tail w)
      named (e.Defaults 0 (named (a.Offset 0 k 0)) x)
  offset_or k named w x reads h true c =
      subst (λ (m : ℕ). Suffixed (out.call (codes "last") (out.labelled (codes "or") w)) named (e.Defaults 0 (named (a.Offset 0 m 0)) x)) (sym (eqb-true k 1 c))
      (suffix_only (out.word (codes "last") ∷ out.bracketed (out.labelled (codes "or") w)) (a.Offset 0 1 0) (Some x) named (last_reads (out.labelled (codes "or") w) (Some x) (stand_some w x h)))
  offset_or k named w x reads h false c =
      suffix_more _ w named (named (a.Offset 0 k 0)) x (suffix_only _ (a.Offset 0 k 0) None named (offset_reads k reads)) h

  pub access_or_suffixed : (how : Access) (named : Access → Expr) (w : List Lexeme) (x : Expr) → AccessReads how → Spells E w x
      → Suffixed (out.access_or how w) named (e.Defaults 0 (named (erased.access how)) x)
  access_or_suffixed a.Direct named w x reads h =
      suffix_only (out.word (codes "defaults") ∷ out.bracketed (out.labelled (codes "to") w)) a.Direct (Some x) named (default_reads w x h)
  access_or_suffixed (a.Offset dot k at) named w x reads h = offset_or k named w x reads h (k == 1) refl
  access_or_suffixed (a.Hold dot) named w x reads h =
      suffix_only (out.word (codes "hold") ∷ out.bracketed (out.labelled (codes "or") w)) (a.Hold 0) (Some x) named (hold_reads (out.labelled (codes "or") w) (Some x) (stand_some w x h))
  access_or_suffixed (a.Get dot) named w x reads h =
      suffix_only (out.word (codes "get") ∷ out.bracketed (out.labelled (codes "or") w)) (a.Get 0) (Some x) named (get_reads (out.labelled (codes "or") w) (Some x) (stand_some w x h))
  access_or_suffixed (a.Window dot exactly q n) named w x reads h =
      suffix_more _ w named (named (a.Window 0 exactly (erased.quantity q) (erased.name n))) x
      (suffix_only _ (a.Window 0 exactly (erased.quantity q) (erased.name n)) None named (window_reads exactly q n reads)) h
