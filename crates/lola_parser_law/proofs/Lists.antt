-- Behind `with`, an expression or a list of them.
use Rattle.std.proofs.Common.{◌≡◌, inl, inr, ℕ, suc, ◌+◌, true, List, [], ◌∷◌, ◌++◌, refl, ap, ◌∙◌, arith}
use Rattle.lola_lexer.specs.declared.shape.TokenShape.TheVariants as is
use Rattle.lola_parser_grammar.specs.declared.expressions.Expr.{Expr}
use Rattle.lola_parser_grammar.specs.declared.clauses.Part.{Part}
use Rattle.lola_parser_grammar.specs.Syntax.{Lexeme, Of, fits, Syntax, Whole, Then, Map, Many, Spells}
use Rattle.lola_parser_grammar.specs.Nestings.{Fits, nestings_in}
use Rattle.lola_parser_grammar.proofs.Within.{nestings-append}
use Rattle.lola_parser_grammar.specs.Grammar as g
use Rattle.lola_parser_grammar.specs.Grammar.{token, ◌<*◌, part, all_nestings}
use Rattle.lola_parser_law.specs.Plain.{◌∣◌}
use Rattle.lola_parser_law.proofs.Fitting.{Fitting}
use Rattle.lola_parser_law.proofs.Turns.{regroup, four}
use Rattle.lola_parser_law.proofs.PlainExpressions.{Bracketed, apart_at_bracket, with_bracket, without_bracket}

module _ (n : ℕ) where
  abbrev E : Syntax Expr
  E = g.expr_in n

  abbrev O : Syntax Expr
  O = g.other_in n

  abbrev comma : Syntax Part
  comma = g.part_behind n is.Comma

  -- the parts behind a bracket and commas
  abbrev pub in_brackets : Syntax (ℕ → List Part)
  in_brackets = Map (λ p at. p.0 ∷ p.1.0 ∷ p.1.1) (Then (g.part_behind n is.Open) (Then comma (Many comma)) <* token is.Shut)

  abbrev pub one : Syntax (ℕ → List Part)
  one = Map (λ x at. part at x ∷ []) (Whole (g.expr_with E O))

  abbrev Y : Type 0
  Y = ℕ → List Part

  abbrev all_of : Part × (Part × List Part) → Y
  all_of r at = r.0 ∷ r.1.0 ∷ r.1.1

  abbrev led_by : Part × List Part → Part → Y
  led_by rest r at = r ∷ rest.0 ∷ rest.1

  abbrev only : Expr → Y
  only x at = part at x ∷ []

  abbrev given : ℕ → Expr → (Expr → ℕ → ℕ → List Part) → Y
  given bracket x h at = h x bracket at

  list_read : (ts : List Lexeme) (y : Y) → Spells in_brackets ts y → Spells (g.parts n) ts y
  unfolding Spells g.parts g.forked g.more_parts g.part_behind g.whole
  list_read ts y (p, e, (q, d, (u, v, c, (w, z, i, (a, f, (k, l, j, opener, inside)), more), shut))) =
      inl (
        (a.0, (a.1, λ x bracket at. part bracket x ∷ q.0.1.0 ∷ q.0.1.1)),
        e ∙ ap all_of d ∙ ap (led_by q.0.1) f,
        (
          k,
          l ++ (z ++ v),
          c ∙ ap (λ (x : List Lexeme). x ++ v) (i ∙ ap (λ (x : List Lexeme). x ++ z) j) ∙ four k l z v,
          opener,
          (l, z ++ v, refl, inside, inl (q.0.1, refl, ((q.0.1, q.1), refl, (z, v, refl, more, shut)))),
        ),
      )

  one_read : (ts : List Lexeme) (y : Y) → Spells one ts y → Spells (g.parts n) ts y
  unfolding Spells g.parts g.forked g.one_part g.whole_unbracketed g.unbracketed
  one_read ts y (x, e, s) = elim (apart_at_bracket E O ts x s) [
    | inl h ↦ inr (x, e, h)
    | inr b ↦ inl (
      (b.bracket, (b.inside, λ x bracket at. part at (b.rest x) ∷ [])),
      e ∙ ap only b.value,
      (b.front, b.behind, b.cut, b.opens, (b.inner, b.end, b.cut_behind, b.reads, inr (b.rest, refl, b.closes))),
    )
  ]

  parts_to : (ts : List Lexeme) (y : Y) → Spells (one ∣ in_brackets) ts y → Spells (g.parts n) ts y
  unfolding Spells
  parts_to ts y (inl h) = one_read ts y h
  parts_to ts y (inr h) = list_read ts y h

  parts_back : (ts : List Lexeme) (y : Y) → Spells (g.parts n) ts y → Spells (one ∣ in_brackets) ts y
  unfolding Spells g.parts g.forked g.more_parts g.one_part g.part_behind g.whole g.whole_unbracketed g.unbracketed
  parts_back ts y (inl (p, e, (k, w, i, opener, (l, m, j, inside, inl (q, f, (r, d, (u, v, c, more, shut))))))) =
      inr (
        (part p.0 p.1.0, q),
        e ∙ ap (given p.0 p.1.0) f,
        (
          ((part p.0 p.1.0, r.0), r.1),
          ap (λ (z : Part × List Part). (part p.0 p.1.0, z)) d,
          (
            (k ++ l) ++ u,
            v,
            regroup ts (k ++ l) m u v (regroup ts k w l m i j) c,
            (k ++ l, u, refl, ((p.0, p.1.0), refl, (k, l, refl, opener, inside)), more),
            shut,
          ),
        ),
      )
  parts_back ts y (inl (p, e, (k, w, i, opener, (l, m, j, inside, inr (h, f, closes))))) =
      inl (
        h p.1.0,
        e ∙ ap (given p.0 p.1.0) f,
        with_bracket E O ts (h p.1.0) (record {
          bracket = p.0;
          inside = p.1.0;
          rest = h;
          value = refl;
          front = k;
          behind = w;
          inner = l;
          end = m;
          cut = i;
          opens = opener;
          cut_behind = j;
          reads = inside;
          closes = closes;
        }),
      )
  parts_back ts y (inr (x, e, h)) = inl (x, e, without_bracket E O ts x h)

  -- ---- within the limit of nestings

  abbrev nestings : List Lexeme → ℕ
  nestings ts = nestings_in all_nestings ts

  bracket_nesting : (t : Lexeme) → fits (Of is.Open) t ≡ true → nestings (t ∷ []) ≡ 1
  bracket_nesting t h = rw h refl

  one_bracket : (front : List Lexeme) (at : ℕ) → Spells (token is.Open) front at → nestings front ≡ 1
  unfolding Spells token
  one_bracket front at (t, e, (h, k)) = ap nestings h ∙ bracket_nesting t k

  -- the bracket is a nesting
  counted : (ts : List Lexeme) (x : Expr) (b : Bracketed E O ts x) → nestings ts ≡ suc (nestings b.inner + nestings b.end)
  counted ts x b =
      let front = one_bracket b.front b.bracket b.opens in
      let outer = ap nestings b.cut ∙ nestings-append all_nestings b.front b.behind in
      let inner = ap nestings b.cut_behind ∙ nestings-append all_nestings b.inner b.end in
      omega (arith, front, outer, inner)

  list_fits : (ts : List Lexeme) (y : Y) → Fits all_nestings in_brackets ts y → Fits all_nestings (g.parts n) ts y
  unfolding Spells Fits g.parts g.forked g.more_parts g.part_behind g.whole
  list_fits ts y (p, e, (q, d, (u, v, c, (w, z, i, (a, f, (k, l, j, opener, inside)), more), shut))) =
      inl (
        (a.0, (a.1, λ x bracket at. part bracket x ∷ q.0.1.0 ∷ q.0.1.1)),
        e ∙ ap all_of d ∙ ap (led_by q.0.1) f,
        (
          k,
          l ++ (z ++ v),
          c ∙ ap (λ (x : List Lexeme). x ++ v) (i ∙ ap (λ (x : List Lexeme). x ++ z) j) ∙ four k l z v,
          opener,
          (l, z ++ v, refl, inside.0, inl (inside.1, (q.0.1, refl, ((q.0.1, q.1), refl, (z, v, refl, more, shut))))),
        ),
      )

  one_fits : (ts : List Lexeme) (y : Y) → Fits all_nestings one ts y → Fits all_nestings (g.parts n) ts y
  unfolding Spells Fits g.parts g.forked g.one_part g.whole_unbracketed g.unbracketed token
  one_fits ts y (x, e, (s, le)) = elim (apart_at_bracket E O ts x s) [
    | inl h ↦ inr (x, e, (h, le))
    | inr b ↦ (let all = counted ts x b in
        inl (
          (b.bracket, (b.inside, λ x bracket at. part at (b.rest x) ∷ [])),
          e ∙ ap only b.value,
          (b.front, b.behind, b.cut, b.opens, (b.inner, b.end, b.cut_behind, b.reads, inr (omega (arith, all, le), (b.rest, refl, b.closes)))),
        ))
  ]

  fits_to : (ts : List Lexeme) (y : Y) → Fits all_nestings (one ∣ in_brackets) ts y → Fits all_nestings (g.parts n) ts y
  unfolding Fits
  fits_to ts y (inl h) = one_fits ts y h
  fits_to ts y (inr h) = list_fits ts y h

  fits_back : (ts : List Lexeme) (y : Y) → Fits all_nestings (g.parts n) ts y → Fits all_nestings (one ∣ in_brackets) ts y
  unfolding Spells Fits g.parts g.forked g.more_parts g.one_part g.part_behind g.whole g.whole_unbracketed g.unbracketed token
  fits_back ts y (inl (p, e, (k, w, i, opener, (l, m, j, inside, inl (le, (q, f, (r, d, (u, v, c, more, shut)))))))) =
      inr (
        (part p.0 p.1.0, q),
        e ∙ ap (given p.0 p.1.0) f,
        (
          ((part p.0 p.1.0, r.0), r.1),
          ap (λ (z : Part × List Part). (part p.0 p.1.0, z)) d,
          (
            (k ++ l) ++ u,
            v,
            regroup ts (k ++ l) m u v (regroup ts k w l m i j) c,
            (k ++ l, u, refl, ((p.0, p.1.0), refl, (k, l, refl, opener, (inside, le))), more),
            shut,
          ),
        ),
      )
  fits_back ts y (inl (p, e, (k, w, i, opener, (l, m, j, inside, inr (le, (h, f, closes)))))) =
      let b : Bracketed E O ts (h p.1.0) = record {
        bracket = p.0;
        inside = p.1.0;
        rest = h;
        value = refl;
        front = k;
        behind = w;
        inner = l;
        end = m;
        cut = i;
        opens = opener;
        cut_behind = j;
        reads = inside;
        closes = closes;
      } in
      let all = counted ts (h p.1.0) b in
      inl (h p.1.0, e ∙ ap (given p.0 p.1.0) f, (with_bracket E O ts (h p.1.0) b, omega (arith, all, le)))
  fits_back ts y (inr (x, e, h)) = inl (x, e, (without_bracket E O ts x h.0, h.1))

  pub parts_read : Fitting (one ∣ in_brackets) (g.parts n)
  parts_read = record { spells = parts_to; fits = fits_to }

  pub parts_plain : Fitting (g.parts n) (one ∣ in_brackets)
  parts_plain = record { spells = parts_back; fits = fits_back }
