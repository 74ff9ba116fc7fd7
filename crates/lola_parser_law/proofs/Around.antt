-- In a sentence with a `with` of a spawn clause and a bracket behind it: what stands behind the bracket, and what may stand there.
use Rattle.std.proofs.Common.{◌≡◌, ℕ, Bool, true, false, List, [], ◌∷◌, ◌++◌, Option, Some, None, refl, sym, ap, subst, ◌∙◌, append_assoc, inl, inr}
use Rattle.std.proofs.lemmas.List.{append-nil}
use Rattle.std.proofs.lemmas.Bool.{false_from_ne_true}
use Rattle.lola_lexer.specs.declared.shape.TokenShape.TheVariants as is
use Rattle.lola_parser_grammar.specs.declared.expressions.Expr.{Expr}
use Rattle.lola_parser_grammar.specs.declared.clauses.Part.{Part}
use Rattle.lola_parser_grammar.specs.declared.pacing.Pacing.{Pacing}
use Rattle.lola_parser_grammar.specs.Syntax.{Lexeme, Terminal, Of, any_fits, fits, apart, same_shape, within, Syntax, Then, Map, Either, Maybe, Many, Spells, nullable}
use Rattle.lola_parser_grammar.proofs.Tests.{apart_excludes}
use Rattle.lola_parser_grammar.proofs.Complete.{begins, full_is}
use Rattle.lola_parser.specs.Late.{IsNextBehindBracket}
use Rattle.lola_parser.proofs.Placed.{fronts}
use Rattle.lola_parser_grammar.specs.Grammar as g
use Rattle.lola_parser_grammar.specs.Grammar.{all_nestings, expr_in, specification}
use Rattle.lola_parser_grammar.proofs.Fine.{unbracketed_first, unbracketed_fine}
use Rattle.lola_parser.specs.Places.{Cut, cut_at, cut_last, clause_words}
use Rattle.lola_parser.proofs.Lacks.{lacks, words, cut_more, cut_here, front_none, none_append, none_in, not_here, fewer, level_lacks, expr_lacks, pacing_lacks, when_lacks}

abbrev Withs : List Terminal
Withs = Of is.With ∷ []

with_there : (k : Terminal) (t : Lexeme) → fits k t ≡ true → any_fits (k ∷ []) t ≡ true
with_there k t h = rw h refl

cut_some : (t : Lexeme) (o : Cut) (u : List Lexeme) → cut_at t o true u ≡ None → ⊥
cut_some t (Some c) u h = absurd cc
cut_some t None u h = absurd cc

cut_none : (t : Lexeme) (o : Cut) (b : Bool) (u : List Lexeme) → cut_at t o b u ≡ None → o ≡ None
cut_none t (Some c) b u h = absurd cc
cut_none t None b u h = refl

has_with : (pre : List Lexeme) (wt : Lexeme) (rest : List Lexeme) → fits (Of is.With) wt ≡ true → cut_last Withs (pre ++ wt ∷ rest) ≡ None → ⊥
has_with [] wt rest f h = cut_some wt (cut_last Withs rest) rest (ap (λ (b : Bool). cut_at wt (cut_last Withs rest) b rest) (sym (with_there (Of is.With) wt f)) ∙ h)
has_with (s ∷ pre) wt rest f h = has_with pre wt rest f (cut_none s (cut_last Withs (pre ++ wt ∷ rest)) (any_fits Withs s) (pre ++ wt ∷ rest) h)

-- the last word of a clause is not `eval`
abbrev pub NotEval : List Lexeme → Type 0
NotEval pre = (a : List Lexeme) (k : Lexeme) (b : List Lexeme) → cut_last clause_words pre ≡ Some (a, k, b) → fits (Of is.Eval) k ≡ true → ⊥

not_eval_less : (z pre : List Lexeme) → NotEval (z ++ pre) → NotEval pre
not_eval_less z pre h a k b e = h (z ++ a) k b (cut_more clause_words z pre a k b e)

-- what comes next is a bracket
abbrev pub OpensNext : List Lexeme → Type 0
OpensNext rest = (o : Lexeme) (r : List Lexeme) → rest ≡ o ∷ r → fits (Of is.Open) o ≡ true

module _ (n : ℕ) where
  abbrev pub IsAround : {A : Type 0} → Syntax A → List Lexeme → List Lexeme → Lexeme → A → Type 0
  IsAround {A} s z pre wt x =
      (o : Lexeme) × (inside : List Lexeme) × (tail : List Lexeme) × (y : Expr × g.Parts) × (z ≡ pre ++ wt ∷ (o ∷ (inside ++ tail))) × Spells (g.forked n) inside y
      × ((other : List Lexeme) (y' : Expr × g.Parts) → Spells (g.forked n) other y' → (x' : A) × Spells s (pre ++ wt ∷ (o ∷ (other ++ tail))) x')
      × ((u : List Lexeme) (t : Lexeme) (v : List Lexeme) → IsNextBehindBracket all_nestings (g.forked n) u t v y → IsNextBehindBracket all_nestings s (pre ++ wt ∷ (o ∷ u)) t (v ++ tail) x)

  abbrev pub Around : {A : Type 0} → Syntax A → Type 0
  Around {A} s = (z : List Lexeme) (x : A) → Spells s z x → (pre : List Lexeme) (wt : Lexeme) (rest : List Lexeme) → z ≡ pre ++ wt ∷ rest → fits (Of is.With) wt ≡ true → OpensNext rest → NotEval pre → IsAround s z pre wt x

  none_around : {A : Type 0} (s : Syntax A) → ((z : List Lexeme) (x : A) → Spells s z x → cut_last Withs z ≡ None) → Around s
  none_around s f z x h pre wt rest e w op last = absurd (has_with pre wt rest w (ap (cut_last Withs) (sym e) ∙ f z x h))

  lacks_around : {A : Type 0} (s : Syntax A) → lacks Withs s ≡ true → Around s
  lacks_around s l = none_around s (none_in Withs s l)

  with_within : within Withs words ≡ true
  unfolding same_shape
  with_within = refl

  words_around : {A : Type 0} (s : Syntax A) → lacks words s ≡ true → Around s
  words_around s l = none_around s (λ z x h. fewer Withs words with_within z (none_in words s l z x h))

  around_then : {A B : Type 0} (a : Syntax A) (b : Syntax B) → Around a → Around b → Around (Then a b)
  unfolding Spells IsNextBehindBracket
  around_then a b one two z x h pre wt rest e w op last =
      elim (fronts h.0 h.1 pre (wt ∷ rest) (sym h.2 ∙ e)) [
        | inl k ↦
            let r = two h.1 x.1 h.4 k.0 wt rest k.2 w op (not_eval_less h.0 k.0 (subst NotEval k.1 last)) in
            let group : (y : List Lexeme) → h.0 ++ (k.0 ++ wt ∷ (r.0 ∷ y)) ≡ pre ++ wt ∷ (r.0 ∷ y) = λ y. sym (append_assoc h.0 k.0 (wt ∷ (r.0 ∷ y))) ∙ ap (λ (p : List Lexeme). p ++ wt ∷ (r.0 ∷ y)) (sym k.1) in (
              r.0,
              r.1,
              r.2,
              r.3,
              h.2 ∙ ap (λ (y : List Lexeme). h.0 ++ y) r.4 ∙ group (r.1 ++ r.2),
              r.5,
              λ other y' s. let q = r.6 other y' s in ((x.0, q.0), (h.0, k.0 ++ wt ∷ (r.0 ∷ (other ++ r.2)), sym (group (other ++ r.2)), h.3, q.1)),
              λ u t v s. inr (h.0, k.0 ++ wt ∷ (r.0 ∷ u), sym (group u), h.3, r.7 u t v s),
            )
        | inr k ↦
            let token : k.0 ≡ wt = (let q = k.3 in cc) in
            let tail : rest ≡ k.1 ++ h.1 = (let q = k.3 in cc) in
            let r = one h.0 x.0 h.3 pre wt k.1 (k.2 ∙ ap (λ (s : Lexeme). pre ++ s ∷ k.1) token) w (λ o y f. op o (y ++ h.1) (tail ∙ ap (λ (p : List Lexeme). p ++ h.1) f)) last in
            let group : (y : List Lexeme) → (pre ++ wt ∷ (r.0 ∷ (y ++ r.2))) ++ h.1 ≡ pre ++ wt ∷ (r.0 ∷ (y ++ (r.2 ++ h.1))) = λ y. append_assoc pre (wt ∷ (r.0 ∷ (y ++ r.2))) h.1 ∙ ap (λ (p : List Lexeme). pre ++ wt ∷ (r.0 ∷ p)) (append_assoc y r.2 h.1) in (
              r.0,
              r.1,
              r.2 ++ h.1,
              r.3,
              h.2 ∙ ap (λ (y : List Lexeme). y ++ h.1) r.4 ∙ group r.1,
              r.5,
              λ other y' s. let q = r.6 other y' s in ((q.0, x.1), (pre ++ wt ∷ (r.0 ∷ (other ++ r.2)), h.1, sym (group other), q.1, h.4)),
              λ u t v s. inl (v ++ r.2, h.1, sym (append_assoc v r.2 h.1), r.7 u t v s, h.4),
            )
      ]

  around_map : {A B : Type 0} (f : A → B) (a : Syntax A) → Around a → Around (Map f a)
  unfolding Spells IsNextBehindBracket
  around_map f a one z x h pre wt rest e w op last =
      let r = one z h.0 h.2 pre wt rest e w op last in
      (r.0, r.1, r.2, r.3, r.4, r.5, λ other y s. (let q = r.6 other y s in (f q.0, (q.0, refl, q.1))), λ u t v s. (h.0, h.1, r.7 u t v s))

  around_either : {A : Type 0} (a b : Syntax A) → Around a → Around b → Around (Either a b)
  unfolding Spells IsNextBehindBracket
  around_either a b one two z x (inl h) pre wt rest e w op last =
      let r = one z x h pre wt rest e w op last in
      (r.0, r.1, r.2, r.3, r.4, r.5, λ other y s. (let q = r.6 other y s in (q.0, inl q.1)), λ u t v s. inl (r.7 u t v s))
  around_either a b one two z x (inr h) pre wt rest e w op last =
      let r = two z x h pre wt rest e w op last in
      (r.0, r.1, r.2, r.3, r.4, r.5, λ other y s. (let q = r.6 other y s in (q.0, inr q.1)), λ u t v s. inr (r.7 u t v s))

  around_maybe : {A : Type 0} (a : Syntax A) → Around a → Around (Maybe a)
  unfolding Spells IsNextBehindBracket
  around_maybe a one z None h pre wt rest e w op last = absurd (has_with pre wt rest w (ap (cut_last Withs) (sym e ∙ h)))
  around_maybe a one z (Some x) h pre wt rest e w op last =
      let r = one z x h pre wt rest e w op last in
      (r.0, r.1, r.2, r.3, r.4, r.5, λ other y s. (let q = r.6 other y s in (Some q.0, q.1)), λ u t v s. r.7 u t v s)

  around_many : {A : Type 0} (a : Syntax A) → Around a → Around (Many a)
  unfolding Spells IsNextBehindBracket
  around_many a one z [] h pre wt rest e w op last = absurd (has_with pre wt rest w (ap (cut_last Withs) (sym e ∙ h)))
  around_many a one z (x ∷ xs) h pre wt rest e w op last =
      elim (fronts h.0 h.1 pre (wt ∷ rest) (sym h.2 ∙ e)) [
        | inl k ↦
            let r = around_many a one h.1 xs h.4 k.0 wt rest k.2 w op (not_eval_less h.0 k.0 (subst NotEval k.1 last)) in
            let group : (y : List Lexeme) → h.0 ++ (k.0 ++ wt ∷ (r.0 ∷ y)) ≡ pre ++ wt ∷ (r.0 ∷ y) = λ y. sym (append_assoc h.0 k.0 (wt ∷ (r.0 ∷ y))) ∙ ap (λ (p : List Lexeme). p ++ wt ∷ (r.0 ∷ y)) (sym k.1) in (
              r.0,
              r.1,
              r.2,
              r.3,
              h.2 ∙ ap (λ (y : List Lexeme). h.0 ++ y) r.4 ∙ group (r.1 ++ r.2),
              r.5,
              λ other y' s. let q = r.6 other y' s in (x ∷ q.0, (h.0, k.0 ++ wt ∷ (r.0 ∷ (other ++ r.2)), sym (group (other ++ r.2)), h.3, q.1)),
              λ u t v s. inr (h.0, k.0 ++ wt ∷ (r.0 ∷ u), sym (group u), h.3, r.7 u t v s),
            )
        | inr k ↦
            let token : k.0 ≡ wt = (let q = k.3 in cc) in
            let tail : rest ≡ k.1 ++ h.1 = (let q = k.3 in cc) in
            let r = one h.0 x h.3 pre wt k.1 (k.2 ∙ ap (λ (s : Lexeme). pre ++ s ∷ k.1) token) w (λ o y f. op o (y ++ h.1) (tail ∙ ap (λ (p : List Lexeme). p ++ h.1) f)) last in
            let group : (y : List Lexeme) → (pre ++ wt ∷ (r.0 ∷ (y ++ r.2))) ++ h.1 ≡ pre ++ wt ∷ (r.0 ∷ (y ++ (r.2 ++ h.1))) = λ y. append_assoc pre (wt ∷ (r.0 ∷ (y ++ r.2))) h.1 ∙ ap (λ (p : List Lexeme). pre ++ wt ∷ (r.0 ∷ p)) (append_assoc y r.2 h.1) in (
              r.0,
              r.1,
              r.2 ++ h.1,
              r.3,
              h.2 ∙ ap (λ (y : List Lexeme). y ++ h.1) r.4 ∙ group r.1,
              r.5,
              λ other y' s. let q = r.6 other y' s in (q.0 ∷ xs, (pre ++ wt ∷ (r.0 ∷ (other ++ r.2)), h.1, sym (group other), q.1, h.4)),
              λ u t v s. inl (v ++ r.2, h.1, sym (append_assoc v r.2 h.1), r.7 u t v s, h.4),
            )
      ]

  -- ---- each part

  parts_lack : lacks words (g.parts n) ≡ true
  unfolding lacks same_shape g.parts g.forked g.more_parts g.one_part g.closed g.unbracketed g.whole_unbracketed g.open_expr g.open_operand g.part_behind g.whole g.token g.nesting g.word g.name g.other_name g.integer g.text g.quantity g.operator g.product_operators g.sum_operators g.comparison_operators g.and_operators g.or_operators g.word_literal g.offset g.over g.window g.arguments g.stand_in g.hold g.get g.last g.default g.reading g.dotted_default g.defaults g.dotted g.suffix g.named g.number g.worded g.bracketed g.operand g.negation g.negative g.minus g.plain g.other_with g.unary g.products g.product g.sums g.sum g.comparisons g.comparison g.conjunctions g.conjunction g.disjunctions g.conditional g.expr_with
  parts_lack = rw (level_lacks true n, level_lacks false n) refl

  open_apart : apart (Of is.Open ∷ []) g.open_begins ≡ true
  unfolding same_shape
  open_apart = refl

  no_bracket : (z : List Lexeme) (x : Expr) → Spells (g.unbracketed n) z x → OpensNext z → ⊥
  unfolding g.unbracketed nullable
  no_bracket [] x h op = full_is (g.unbracketed n) (unbracketed_fine n) refl x h
  no_bracket (o ∷ r) x h op = apart_excludes (Of is.Open ∷ []) g.open_begins o open_apart (with_there (Of is.Open) o (op o r refl)) (subst (λ (ks : List Terminal). any_fits ks o ≡ true) (unbracketed_first n) (begins (g.unbracketed n) (unbracketed_fine n) o r x h))

  -- behind the `with` itself
  at_bracket : (z : List Lexeme) (x : _) (h : Spells (g.with_parts n) z x) (wt : Lexeme) (rest : List Lexeme) → z ≡ wt ∷ rest → OpensNext rest → IsAround (g.with_parts n) z [] wt x
  unfolding g.with_parts g.parts g.whole_unbracketed g.token Spells IsNextBehindBracket
  at_bracket z x (p, e0, (a, b, e1, k, inr f)) wt rest e op =
      let whole : k.0 ∷ b ≡ wt ∷ rest = sym (e1 ∙ ap (λ (y : List Lexeme). y ++ b) k.2.0) ∙ e in
      let back : b ≡ rest = cc in
      absurd (no_bracket b f.0 f.2 (subst OpensNext (sym back) op))
  at_bracket z x (p, e0, (a, b, e1, k, inl f)) wt rest e op =
      let whole : k.0 ∷ b ≡ wt ∷ rest = sym (e1 ∙ ap (λ (y : List Lexeme). y ++ b) k.2.0) ∙ e in
      let back : b ≡ rest = cc in
      let token : k.0 ≡ wt = cc in
      let o = f.2.3.0 in (
        o,
        f.2.1,
        [],
        f.0.1,
        e ∙ ap (λ (y : List Lexeme). wt ∷ y) (sym back ∙ f.2.2 ∙ ap (λ (y : List Lexeme). y ++ f.2.1) f.2.3.2.0 ∙ ap (λ (y : List Lexeme). o ∷ y) (sym (append-nil f.2.1))),
        f.2.4,
        λ other y s. (
          g.placed f.0.0 p.0 y,
          (
            (p.0, λ at. g.placed f.0.0 at y),
            refl,
            (
              wt ∷ [],
              o ∷ (other ++ []),
              refl,
              (k.0, k.1, (ap (λ (t : Lexeme). t ∷ []) (sym token), k.2.1)),
              inl ((f.0.0, y), refl, (o ∷ [], other ++ [], refl, (o, f.2.3.1, (refl, f.2.3.2.1)), subst (λ (w : List Lexeme). Spells (g.forked n) w y) (sym (append-nil other)) s)),
            ),
          ),
        ),
        λ u t v s. (
          p,
          e0,
          inr (
            wt ∷ [],
            o ∷ u,
            refl,
            (k.0, k.1, (ap (λ (t : Lexeme). t ∷ []) (sym token), k.2.1)),
            inl (f.0, f.1, inr (o ∷ [], u, refl, (o, f.2.3.1, (refl, f.2.3.2.1)), subst (λ (w : List Lexeme). IsNextBehindBracket all_nestings (g.forked n) u t w f.0.1) (sym (append-nil v)) s)),
          ),
        ),
      )

  no_other_with : (z : List Lexeme) (x : _) (h : Spells (g.with_parts n) z x) (s : Lexeme) (pre : List Lexeme) (wt : Lexeme) (rest : List Lexeme) → z ≡ s ∷ (pre ++ wt ∷ rest) → fits (Of is.With) wt ≡ true → ⊥
  unfolding g.with_parts g.token Spells
  no_other_with z x (p, e0, (a, b, e1, k, f)) s pre wt rest e w =
      let whole : k.0 ∷ b ≡ s ∷ (pre ++ wt ∷ rest) = sym (e1 ∙ ap (λ (y : List Lexeme). y ++ b) k.2.0) ∙ e in
      let back : b ≡ pre ++ wt ∷ rest = cc in
      has_with pre wt rest w (ap (cut_last Withs) (sym back) ∙ fewer Withs words with_within b (none_in words (g.parts n) parts_lack b p.1 f))

  around_with : Around (g.with_parts n)
  around_with z x h [] wt rest e w op last = at_bracket z x h wt rest e op
  around_with z x h (s ∷ pre) wt rest e w op last = absurd (no_other_with z x h s pre wt rest e w)

  spawn_lacks : lacks Withs (g.token is.Spawn) ≡ true
  unfolding lacks same_shape g.token
  spawn_lacks = refl

  pacing_around : Around (Maybe (g.pacing n))
  pacing_around = words_around (Maybe (g.pacing n)) (pacing_lacks n)

  when_around : Around (Maybe (g.part_behind n is.When))
  when_around = words_around (Maybe (g.part_behind n is.When)) (when_lacks n)

  around_spawn : Around (g.spawn n)
  unfolding g.spawn
  around_spawn = around_map _ _ (around_then (g.token is.Spawn) _ (lacks_around (g.token is.Spawn) spawn_lacks) (around_then (Maybe (g.pacing n)) _ pacing_around (around_then (Maybe (g.part_behind n is.When)) (Maybe (g.with_parts n)) when_around (around_maybe (g.with_parts n) around_with))))

  -- ---- no `with` of an `eval` clause

  clause_within : within clause_words words ≡ true
  unfolding same_shape
  clause_within = refl

  no_clause : {A : Type 0} (s : Syntax A) → lacks words s ≡ true → (z : List Lexeme) (x : A) → Spells s z x → cut_last clause_words z ≡ None
  no_clause s l z x h = fewer clause_words words clause_within z (none_in words s l z x h)

  with_no_clause : apart (Of is.With ∷ []) clause_words ≡ true
  unfolding same_shape
  with_no_clause = refl

  with_no_eval : apart (Of is.With ∷ []) (Of is.Eval ∷ []) ≡ true
  unfolding same_shape
  with_no_eval = refl

  eval_there : (t : Lexeme) → fits (Of is.Eval) t ≡ true → any_fits clause_words t ≡ true
  eval_there t h = by (fits (Of is.Spawn) t) refl
    where
      by : (b : Bool) → fits (Of is.Spawn) t ≡ b → any_fits clause_words t ≡ true
      by true e = rw e refl
      by false e = rw (e, h) refl

  behind_clause : (z : List Lexeme) (x : _) → Spells (g.part_behind n is.With) z x → cut_last clause_words z ≡ None
  unfolding g.part_behind g.whole g.token Spells
  behind_clause z x h =
      let k = h.2 in
      let t = k.3.0 in
      ap (cut_last clause_words) (k.2 ∙ ap (λ (y : List Lexeme). y ++ k.1) k.3.2.0)
      ∙ not_here clause_words t k.1 (false_from_ne_true (any_fits clause_words t) (λ m. apart_excludes (Of is.With ∷ []) clause_words t with_no_clause (with_there (Of is.With) t k.3.2.1) m)) (no_clause (expr_in n) (expr_lacks n) k.1 h.0.1 k.4)

  abbrev EvalRest : Syntax (Option Pacing × (Option Part × Part))
  EvalRest = Then (Maybe (g.pacing n)) (Then (Maybe (g.part_behind n is.When)) (g.part_behind n is.With))

  rest_clause : (z : List Lexeme) (x : _) → Spells EvalRest z x → cut_last clause_words z ≡ None
  unfolding Spells
  rest_clause z x h =
      let k = h.4 in
      ap (cut_last clause_words) h.2 ∙ none_append clause_words h.0 h.1 (no_clause (Maybe (g.pacing n)) (pacing_lacks n) h.0 x.0 h.3)
      (ap (cut_last clause_words) k.2 ∙ none_append clause_words k.0 k.1 (no_clause (Maybe (g.part_behind n is.When)) (when_lacks n) k.0 x.1.0 k.3) (behind_clause k.1 x.1.1 k.4))

  eval_excludes : (ev : Lexeme) (r : List Lexeme) → fits (Of is.Eval) ev ≡ true → cut_last clause_words r ≡ None → (pre : List Lexeme) (wt : Lexeme) (rest : List Lexeme) → ev ∷ r ≡ pre ++ wt ∷ rest → fits (Of is.With) wt ≡ true → NotEval pre → ⊥
  eval_excludes ev r f none [] wt rest e w last =
      let same : ev ≡ wt = cc in
      apart_excludes (Of is.With ∷ []) (Of is.Eval ∷ []) wt with_no_eval (with_there (Of is.With) wt w) (with_there (Of is.Eval) wt (subst (λ (t : Lexeme). fits (Of is.Eval) t ≡ true) same f))
  eval_excludes ev r f none (s ∷ pre) wt rest e w last =
      let same : ev ≡ s = cc in
      let back : r ≡ pre ++ wt ∷ rest = cc in
      let f' : fits (Of is.Eval) s ≡ true = subst (λ (t : Lexeme). fits (Of is.Eval) t ≡ true) same f in
      last [] s pre (cut_here clause_words s pre (eval_there s f') (front_none clause_words pre (wt ∷ rest) (ap (cut_last clause_words) (sym back) ∙ none))) f'

  around_eval : Around (g.eval n)
  unfolding g.eval g.token Spells
  around_eval z x h pre wt rest e w op last =
      let k = h.2 in
      absurd (eval_excludes k.3.0 k.1 k.3.2.1 (rest_clause k.1 h.0.1 k.4) pre wt rest (sym (k.2 ∙ ap (λ (y : List Lexeme). y ++ k.1) k.3.2.0) ∙ e) w last)

  -- ---- declarations

  close_lacks : lacks words (g.close n) ≡ true
  unfolding lacks same_shape g.close g.token
  close_lacks = let p : lacks words (g.pacing n) ≡ true = pacing_lacks n in let w : lacks words (g.part_behind n is.When) ≡ true = when_lacks n in rw (p, w) refl

  short_lacks : lacks words (g.short_eval n) ≡ true
  unfolding lacks same_shape g.short_eval g.part_behind g.whole g.token
  short_lacks = let p : lacks words (g.pacing n) ≡ true = pacing_lacks n in rw (p, level_lacks true n) refl

  trigger_lacks : lacks words (g.trigger n) ≡ true
  unfolding lacks same_shape g.trigger g.whole g.token g.message g.text
  trigger_lacks = let p : lacks words (g.pacing n) ≡ true = pacing_lacks n in rw (p, level_lacks true n) refl

  output_lacks : lacks Withs (g.token is.Output) ≡ true
  unfolding lacks same_shape g.token
  output_lacks = refl

  name_lacks : lacks Withs g.name ≡ true
  unfolding lacks same_shape g.name
  name_lacks = refl

  parameters_lack : lacks Withs (Maybe g.parameters) ≡ true
  unfolding lacks same_shape g.parameters g.typed g.token g.name
  parameters_lack = refl

  kind_lacks : lacks Withs (Maybe g.kind) ≡ true
  unfolding lacks same_shape g.kind g.token g.name
  kind_lacks = refl

  inputs_lack : lacks Withs g.inputs ≡ true
  unfolding lacks same_shape g.inputs g.typed g.token g.name
  inputs_lack = refl

  constant_lacks : lacks Withs g.constant ≡ true
  unfolding lacks same_shape g.constant g.token g.name g.literal g.integer g.word_literal g.text
  constant_lacks = refl

  around_body : Around (g.body n)
  unfolding g.body
  around_body =
      around_either _ _ (around_map _ (g.short_eval n) (words_around (g.short_eval n) short_lacks)) (around_either _ _ (around_map _ (g.eval n) around_eval)
      (around_map _ _ (around_then (g.spawn n) _ around_spawn (around_then (g.eval n) (Maybe (g.close n)) around_eval (around_maybe (g.close n) (words_around (g.close n) close_lacks))))))

  around_output : Around (g.output n)
  unfolding g.output
  around_output =
      around_map _ _ (around_then (g.token is.Output) _ (lacks_around (g.token is.Output) output_lacks) (around_then g.name _ (lacks_around g.name name_lacks) (around_then (Maybe g.parameters) _ (lacks_around (Maybe g.parameters) parameters_lack)
      (around_then (Maybe g.kind) (g.body n) (lacks_around (Maybe g.kind) kind_lacks) around_body))))

  around_declaration : Around (g.declaration n)
  unfolding g.declaration
  around_declaration =
      around_either _ _ (lacks_around g.inputs inputs_lack) (around_either _ _ (lacks_around g.constant constant_lacks) (around_either (g.output n) (g.trigger n) around_output (words_around (g.trigger n) trigger_lacks)))

  pub around_specification : Around (specification n)
  unfolding g.specification
  around_specification = around_many (g.declaration n) around_declaration
