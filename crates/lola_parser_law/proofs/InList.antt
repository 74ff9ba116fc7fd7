-- Where the bracketed expression does not end at a bracket, the nesting at which reading ends is the place of the rule.
use Rattle.std.proofs.Common.{◌≡◌, ℕ, zero, suc, ◌+◌, ◌-◌, ◌<◌, ◌≤◌, Bool, true, false, cond, List, [], ◌∷◌, ◌++◌, length, Some, None, Err, refl, sym, ap, subst, ◌∙◌, append_assoc, arith, inl, inr}
use Rattle.std.proofs.lemmas.List.{append-nil, length-append}
use Rattle.std.proofs.lemmas.Bool.{lt-ltb, false_from_ne_true}
use Rattle.lola_lexer.specs.declared.shape.TokenShape.TheVariants as is
use Rattle.lola_parser_grammar.specs.declared.expressions.Expr.{Expr}
use Rattle.lola_parser_grammar.specs.declared.declarations.Declaration.{Declaration}
use Rattle.lola_parser_grammar.specs.Syntax.{Lexeme, Terminal, Of, any_fits, fits, apart, same_shape, starts, TooDeep, Spells, max_nestings, read_all}
use Rattle.lola_parser_grammar.specs.Nestings.{nestings_in}
use Rattle.lola_parser_grammar.proofs.Tests.{apart_excludes}
use Rattle.lola_parser_grammar.proofs.Within.{nestings-append}
use Rattle.lola_parser.specs.Late.{IsNextBehindBracket, IsLateInEvery, NoneIsLate, IsDeepPlace}
use Rattle.lola_parser.specs.Fronts.{IsLongestFront}
use Rattle.lola_parser.proofs.Levels.{counted_at}
use Rattle.lola_parser.proofs.Open.{specification_open}
use Rattle.lola_parser.proofs.Placed.{fronts}
use Rattle.lola_parser_grammar.specs.Grammar.{expr_in, expr_goes_on, all_nestings, specification}
use Rattle.lola_parser_grammar.specs.Whole.{most_levels}
use Rattle.lola_parser_grammar.proofs.Fine.{specification_fine}
use Rattle.lola_parser.specs.Turns.{shape}
use Rattle.lola_parser.specs.Skims.{skim}
use Rattle.lola_parser.specs.Places.{cut_last, clause_words, is_spawn, behind_with, behind_bracket, ends_within, is_enclosed}
use Rattle.lola_parser.proofs.Deeper.{expr_deeper}
use Rattle.lola_parser.proofs.Sentences.{skims_sentence}
use Rattle.lola_parser.proofs.Lacks.{words, cut_more, cut_here, not_here, fewer}
use Rattle.lola_parser.proofs.Forking.{next_is_behind}
use Rattle.lola_parser_law.specs.Law.{IsEnclosedBehind}
use Rattle.lola_parser.proofs.First.{IsBehindLast}
use Rattle.lola_parser.proofs.Last.{IsFirstOrLast, deep_is_first}
use Rattle.lola_parser.proofs.Place.{next_nesting}
use Rattle.lola_parser_law.proofs.Listed.{IsLow, Led, IsListed, walk_specification}

-- ---- an expression that ends at a bracket

pub deeper : (k n l : ℕ) (ts : List Lexeme) → l ≡ k + n → length ts < n → skim (expr_in n) ts ≡ skim (expr_in l) ts
deeper zero n l ts e less = let same : n ≡ l = omega (arith, e) in ap (λ (i : ℕ). skim (expr_in i) ts) same
deeper (suc k) n zero ts e less = absurd (omega (arith, e))
deeper (suc k) n (suc l) ts e less = deeper k n l ts (omega (arith, e)) less ∙ expr_deeper l ts (omega (arith, e, less))

shut_apart : apart (Of is.Shut ∷ []) expr_goes_on ≡ true
unfolding same_shape
shut_apart = refl

pub shut_stops : (y : List Lexeme) → starts (Of is.Shut ∷ []) y ≡ true → starts expr_goes_on y ≡ false
shut_stops [] h = absurd cc
shut_stops (t ∷ y) h = false_from_ne_true (any_fits expr_goes_on t) (λ m. apart_excludes (Of is.Shut ∷ []) expr_goes_on t shut_apart h m)

ends : (k : ℕ) (y : List Lexeme) → length y < k → starts (Of is.Shut ∷ []) y ≡ true → ends_within k (Some y) ≡ true
ends k y less h = rw (lt-ltb (length y) k less, h) refl

enclosed : (n : ℕ) (head : List Lexeme) (t : Lexeme) (w y d : List Lexeme) (e : Expr) → Spells (expr_in n) (head ++ t ∷ w) e → starts (Of is.Shut ∷ []) y ≡ true → d ≡ t ∷ (w ++ y) → length (head ++ d) < n → is_enclosed head d ≡ true
enclosed n head t w y d e h shut back less =
    let whole : head ++ d ≡ (head ++ t ∷ w) ++ y = ap (λ (z : List Lexeme). head ++ z) back ∙ sym (append_assoc head (t ∷ w) y) in
    let short : length (head ++ t ∷ w) < n = omega (arith, less, ap length whole, length-append (head ++ t ∷ w) y) in
    let left : skim (expr_in n) (head ++ d) ≡ Some y = ap (skim (expr_in n)) whole ∙ skims_sentence n (head ++ t ∷ w) y e short h (shut_stops y shut) in
    let k = suc (length (head ++ d)) in
    let same : skim (expr_in k) (head ++ d) ≡ Some y = deeper (n - k) k n (head ++ d) (omega (arith, less)) (omega arith) ∙ left in
    ap (ends_within (length d)) same ∙ ends (length d) y (omega (arith, ap length back, length-append w y)) shut

-- ---- the bracket

with_there : (k : Terminal) (t : Lexeme) → fits k t ≡ true → any_fits (k ∷ []) t ≡ true
with_there k t h = rw h refl

open_no_with : (o : Lexeme) → fits (Of is.Open) o ≡ true → any_fits (Of is.With ∷ []) o ≡ false
unfolding same_shape
open_no_with o h = false_from_ne_true (any_fits (Of is.With ∷ []) o) (λ m. apart_excludes (Of is.Open ∷ []) (Of is.With ∷ []) o refl (with_there (Of is.Open) o h) m)

with_within : (u : List Lexeme) → cut_last words u ≡ None → cut_last (Of is.With ∷ []) u ≡ None
unfolding same_shape
with_within u h = fewer (Of is.With ∷ []) words refl u h

what_opens : (b : Bool) (o : Lexeme) (head other : List Lexeme) → fits (Of is.Open) o ≡ true → cond b (shape is.Open (o ∷ head)) None ≡ Some other → cond b (shape is.Open (o ∷ head)) None ≡ Some head
what_opens true o head other op h = rw op refl
what_opens false o head other op h = absurd cc

bracket_there : (u pre head other : List Lexeme) → u ≡ pre ++ head → (n : ℕ) → Led n pre → cut_last words head ≡ None → behind_bracket u ≡ Some other → behind_bracket u ≡ Some head
bracket_there u pre head other e n l none h =
    let tail : cut_last (Of is.With ∷ []) (l.2 ∷ head) ≡ None = not_here (Of is.With ∷ []) l.2 head (open_no_with l.2 l.5) (with_within head none) in
    let cut = cut_more (Of is.With ∷ []) l.0 (l.1 ∷ (l.2 ∷ head)) [] l.1 (l.2 ∷ head) (cut_here (Of is.With ∷ []) l.1 (l.2 ∷ head) (with_there (Of is.With) l.1 l.4) tail) in
    let whole : u ≡ l.0 ++ l.1 ∷ (l.2 ∷ head) = e ∙ ap (λ (z : List Lexeme). z ++ head) l.3 ∙ append_assoc l.0 (l.1 ∷ (l.2 ∷ [])) head in
    let there : behind_bracket u ≡ cond (is_spawn (cut_last clause_words (l.0 ++ []))) (shape is.Open (l.2 ∷ head)) None = ap behind_bracket whole ∙ ap behind_with cut in
    there ∙ what_opens (is_spawn (cut_last clause_words (l.0 ++ []))) l.2 head other l.5 (sym there ∙ h)

-- ---- what stands before the last nesting

low_before : (u a : List Lexeme) (m : Lexeme) (b : List Lexeme) → u ≡ a ++ m ∷ b → nestings_in all_nestings b ≡ 0 → IsLow u (length a)
low_before u a m b whole none front head e many =
    elim (fronts front head a (m ∷ b) (sym e ∙ whole)) [
      | inl k ↦ omega (arith, ap length k.1, length-append front k.0)
      | inr k ↦
          let rest : b ≡ k.1 ++ head = (let q = k.3 in cc) in
          absurd (omega (arith, ap (nestings_in all_nestings) rest, nestings-append all_nestings k.1 head, none, many))
    ]

with_more : (p q u w : List Lexeme) (t : Lexeme) → p ≡ u ++ t ∷ w → p ++ q ≡ u ++ t ∷ (w ++ q)
with_more p q u w t e = ap (λ (y : List Lexeme). y ++ q) e ∙ append_assoc u (t ∷ w) q

-- ---- a sentence that has an expression behind the bracket

module _ (n : ℕ) (ts d rest u : List Lexeme) (t : Lexeme) (w : List Lexeme) (less : length ts < n) (text : ts ≡ u ++ d) (back : d ≡ t ∷ (w ++ rest)) (v : List Lexeme) (x : List Declaration) (next : IsNextBehindBracket all_nestings (specification n) u t v x) where
  listed_encloses : (r : IsListed n (Led n) (specification n) u t v) → (s : Lexeme) (y : List Lexeme) → w ≡ r.2 ++ s ∷ y → starts (Of is.Shut ∷ []) (s ∷ y) ≡ true → IsEnclosedBehind u d
  listed_encloses r s y e shut =
      let split : d ≡ t ∷ (r.2 ++ s ∷ (y ++ rest)) = back ∙ ap (λ (z : List Lexeme). t ∷ z) (ap (λ (z : List Lexeme). z ++ rest) e ∙ append_assoc r.2 (s ∷ y) rest) in
      let parts : ts ≡ r.0 ++ (r.1 ++ d) = text ∙ ap (λ (z : List Lexeme). z ++ d) r.7 ∙ append_assoc r.0 r.1 d in
      let short : length (r.1 ++ d) < n = omega (arith, less, ap length parts, length-append r.0 (r.1 ++ d)) in
      let b = next_is_behind n u t v x next in
      (r.1, bracket_there u r.0 r.1 b.0 r.7 n r.8 r.13 b.1, r.12, enclosed n r.1 t r.2 (s ∷ (y ++ rest)) d r.6 r.11 shut split short)

-- in this sentence t is the next nesting behind the first too many, and none before that one is
abbrev pub NextIn : (n : ℕ) → List Lexeme → Lexeme → List Lexeme → List Declaration → Type 0
NextIn n u t v x = IsBehindLast all_nestings (λ u t v. IsNextBehindBracket all_nestings (specification n) u t v x) (λ l. NoneIsLate all_nestings (specification n) l (u ++ t ∷ v) x) u t v

module _ (n : ℕ) (u : List Lexeme) (t : Lexeme) (v : List Lexeme) (x : List Declaration) where
  listed_past : NextIn n u t v x → IsListed n (Led n) (specification n) u t v
  listed_past b = walk_specification n (specification_fine n) u t v x (length b.1) b.0 b.7 (low_before u b.1 b.2 b.3 b.4 b.5)

  -- a whole sentence has the bracket that ends it
  pub next_is_enclosed : length (u ++ t ∷ v) < n → NextIn n u t v x → IsEnclosedBehind u (t ∷ v)
  next_is_enclosed less b = let r = listed_past b in by r r.3 r.9 r.10
    where
      by : (r : IsListed n (Led n) (specification n) u t v) → (y : List Lexeme) → v ≡ r.2 ++ y → starts (Of is.Shut ∷ []) y ≡ true → IsEnclosedBehind u (t ∷ v)
      by r [] e shut = absurd cc
      by r (s ∷ y) e shut = listed_encloses n (u ++ t ∷ v) (t ∷ v) [] u t v less refl (ap (λ (z : List Lexeme). t ∷ z) (sym (append-nil v))) v x b.0 r s y e shut

-- ---- the place

module _ (n : ℕ) (ts d p rest u : List Lexeme) (t : Lexeme) (w : List Lexeme) (less : length ts < n) (text : ts ≡ p ++ rest) (e : p ≡ u ++ t ∷ w) (back : d ≡ t ∷ (w ++ rest))
    (none : IsEnclosedBehind u d → ⊥) (u' : List Lexeme) (t' : Lexeme) (w' : List Lexeme) (same : u ++ t ∷ w ≡ u' ++ t' ∷ w') (before : length u' < length u) (late : IsLateInEvery all_nestings (specification n) u' t' w') where
  -- no sentence that begins so keeps the limit before t
  none_keeps : (q : List Lexeme) (x : List Declaration) → Spells (specification n) (u ++ t ∷ (w ++ q)) x → NoneIsLate all_nestings (specification n) (length u) (u ++ t ∷ (w ++ q)) x → ⊥
  none_keeps q x g few =
      let whole : u ++ t ∷ (w ++ q) ≡ u' ++ t' ∷ (w' ++ q) = sym (with_more p q u w t e) ∙ with_more p q u' w' t' (e ∙ same) in
      let l = late q x (subst (λ (y : List Lexeme). Spells (specification n) y x) whole g) in
      let low = few l.0 u' t' (w' ++ q) whole before l.2 in
      omega (arith, low, l.1)

  not_enclosed : (q : List Lexeme) (x : List Declaration) → IsNextBehindBracket all_nestings (specification n) u t (w ++ q) x → IsListed n (Led n) (specification n) u t (w ++ q) → ⊥
  not_enclosed q x next r =
      elim (fronts w q r.2 r.3 r.9) [
        | inl k ↦
            let new : u ++ t ∷ (r.2 ++ r.4) ≡ u ++ t ∷ (w ++ (k.0 ++ r.4)) = ap (λ (y : List Lexeme). u ++ t ∷ y) (ap (λ (y : List Lexeme). y ++ r.4) k.1 ∙ append_assoc w k.0 r.4) in
            none_keeps (k.0 ++ r.4) r.5 (subst (λ (y : List Lexeme). Spells (specification n) y r.5) new r.14) (subst (λ (y : List Lexeme). NoneIsLate all_nestings (specification n) (length u) y r.5) new r.15)
        | inr k ↦
            let parts : ts ≡ u ++ d = text ∙ ap (λ (z : List Lexeme). z ++ rest) e ∙ append_assoc u (t ∷ w) rest ∙ ap (λ (z : List Lexeme). u ++ z) (sym back) in
            none (listed_encloses n ts d rest u t w less parts back (w ++ q) x next r k.0 k.1 k.2 (sym (ap (starts (Of is.Shut ∷ [])) k.3) ∙ r.10))
      ]

  not_before : (q : List Lexeme) (x : List Declaration) → Spells (specification n) (u ++ t ∷ (w ++ q)) x → IsFirstOrLast all_nestings (specification n) u t (w ++ q) x → ⊥
  not_before q x g (inl f) = none_keeps q x g f.1
  not_before q x g (inr b) = not_enclosed q x b.0 (listed_past n u t (w ++ q) x b)

pub list_is_deep : (n : ℕ) (ts d p rest u : List Lexeme) (t : Lexeme) (w : List Lexeme) → length ts < n → IsLongestFront (specification n) ts p rest → p ≡ u ++ t ∷ w → d ≡ t ∷ (w ++ rest)
    → ((q : List Lexeme) (x : List Declaration) → Spells (specification n) (u ++ t ∷ (w ++ q)) x → IsFirstOrLast all_nestings (specification n) u t (w ++ q) x) → (IsEnclosedBehind u d → ⊥) → IsDeepPlace all_nestings (specification n) u t w
list_is_deep n ts d p rest u t w less l e back each none = (
  λ q x g.
      elim (each q x g) [
        | inl a ↦ (max_nestings, omega arith, a.0)
        | inr b ↦ (suc max_nestings, omega arith, next_nesting all_nestings (specification n) u t (w ++ q) x b.0)
      ],
  λ u' t' w' same before late.
      let g = subst (λ (y : List Lexeme). Spells (specification n) y l.1.1) (with_more p l.1.0 u w t e) l.1.2 in
      not_before n ts d p rest u t w less l.0 e back none u' t' w' same before late l.1.0 l.1.1 g (each l.1.0 l.1.1 g),
)

pub in_list : (n : ℕ) → most_levels ≤ n → (ts d p rest : List Lexeme) → length ts < n → read_all (specification n) ts ≡ Err (TooDeep d) → IsLongestFront (specification n) ts p rest
    → (u : List Lexeme) × (t : Lexeme) × (w : List Lexeme) × (p ≡ u ++ t ∷ w) × (d ≡ t ∷ (w ++ rest)) × ((IsEnclosedBehind u d → ⊥) → IsDeepPlace all_nestings (specification n) u t w)
in_list n le ts d p rest less h l =
    let f = deep_is_first all_nestings (specification n) (specification_fine n) (counted_at n le) (specification_open n) ts d p rest h l in (
      f.0,
      f.1,
      f.2,
      f.3,
      f.4,
      λ none. list_is_deep n ts d p rest f.0 f.1 f.2 less l f.3 f.4 f.5 none,
    )
