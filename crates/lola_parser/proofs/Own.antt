-- Where no bracket of a spawn clause stands before it, the nesting at which reading ended is the place of the rule.
use Rattle.std.proofs.Common.{◌≡◌, ℕ, ◌≤◌, List, ◌∷◌, ◌++◌, Some, None, Result, Ok, Err, refl, sym, ap, subst, ◌∙◌, append_assoc, arith, inl, inr, ◌⊎◌}
use Rattle.lola_parser_grammar.specs.declared.declarations.Declaration.{Declaration}
use Rattle.lola_parser_grammar.specs.Syntax.{Lexeme, TooDeep, Spells, max_nestings, read_all}
use Rattle.lola_parser.specs.Late.{IsNextBehindBracket, IsFirstLate, IsDeepPlace}
use Rattle.lola_parser.specs.Fronts.{IsLongestFront}
use Rattle.lola_parser.proofs.Levels.{counted_at}
use Rattle.lola_parser.proofs.Open.{specification_open}
use Rattle.lola_parser.proofs.Place.{deep_is_first}
use Rattle.lola_parser_grammar.specs.Grammar.{specification, all_nestings}
use Rattle.lola_parser_grammar.specs.Whole.{most_levels}
use Rattle.lola_parser_grammar.proofs.Fine.{specification_fine}
use Rattle.std.proofs.lemmas.List.{append_cancel_right}
use Rattle.lola_value.specs.declared.front.FrontEnd.{FrontEnd}
use Rattle.lola_value.specs.declared.front.FrontEnd.TheVariants as front_end
use Rattle.lola_parser_grammar.proofs.Levels.{read_alike}
use Rattle.lola_parser.specs.Turns.{Left}
use Rattle.lola_parser.specs.Places.{behind_bracket, place_too_deep, IsPlacedAt, Answers}
use Rattle.lola_parser.specs.Exact.{IsExactAt, PlacesExactly}
use Rattle.lola_parser.proofs.Cuts.{own_place, other_count}
use Rattle.lola_parser.specs.Law.{IsBehind}
use Rattle.lola_parser.proofs.Forking.{next_is_behind}

with_more : (p q u w : List Lexeme) (t : Lexeme) → p ≡ u ++ t ∷ w → p ++ q ≡ u ++ t ∷ (w ++ q)
with_more p q u w t e = ap (λ (y : List Lexeme). y ++ q) e ∙ append_assoc u (t ∷ w) q

module _ (n : ℕ) (p u : List Lexeme) (t : Lexeme) (w : List Lexeme) (e : p ≡ u ++ t ∷ w)
    (each : (q : List Lexeme) (x : List Declaration) → Spells (specification n) (u ++ t ∷ (w ++ q)) x → IsFirstLate all_nestings (specification n) u t (w ++ q) x ⊎ IsNextBehindBracket all_nestings (specification n) u t (w ++ q) x)
    (none : IsBehind u → ⊥) where
  only_first : (q : List Lexeme) (x : List Declaration) → Spells (specification n) (u ++ t ∷ (w ++ q)) x → IsFirstLate all_nestings (specification n) u t (w ++ q) x
  only_first q x h = elim (each q x h) [ inl f ↦ f | inr f ↦ absurd (none (next_is_behind n u t (w ++ q) x f)) ]

  first_is_deep : (q : List Lexeme) (x : List Declaration) → Spells (specification n) (p ++ q) x → IsDeepPlace all_nestings (specification n) u t w
  first_is_deep q x h = (
    λ q x g. (max_nestings, omega arith, (only_first q x g).0),
    λ u' t' w' same less late.
        let o = with_more p q u w t e in
        let g = subst (λ (y : List Lexeme). Spells (specification n) y x) o h in
        let f = only_first q x g in
        let whole = sym o ∙ with_more p q u' w' t' (e ∙ same) in
        let l = late q x (subst (λ (y : List Lexeme). Spells (specification n) y x) whole g) in
        let low = f.1 l.0 u' t' (w' ++ q) whole less l.2 in
        omega (arith, low, l.1),
  )

pub own_is_deep : (n : ℕ) → most_levels ≤ n → (ts d p rest : List Lexeme) → read_all (specification n) ts ≡ Err (TooDeep d) → IsLongestFront (specification n) ts p rest
    → (u : List Lexeme) × (t : Lexeme) × (w : List Lexeme) × (p ≡ u ++ t ∷ w) × (d ≡ t ∷ (w ++ rest)) × ((IsBehind u → ⊥) → IsDeepPlace all_nestings (specification n) u t w)
own_is_deep n le ts d p rest h l =
    let f = deep_is_first all_nestings (specification n) (specification_fine n) (counted_at n le) (specification_open n) ts d p rest h l in
    (f.0, f.1, f.2, f.3, f.4, λ none. first_is_deep n p f.0 f.1 f.2 f.3 f.5 none l.1.0 l.1.1 l.1.2)

-- ---- the place that is answered

own_at : (u d : List Lexeme) (at : ℕ) → (IsBehind u → ⊥) → place_too_deep u d at ≡ at
own_at u d at none = by (behind_bracket u) refl
  where
    by : (o : Left) → behind_bracket u ≡ o → place_too_deep u d at ≡ at
    by None e = own_place u d at e
    by (Some head) e = other_count u d head at e (λ m. none (head, e, m))

exact_at : (ts : List Lexeme) (at : ℕ) → IsPlacedAt ts at → IsExactAt ts at
exact_at ts at h n le p rest l =
    let d = h.1 ∷ h.2 in
    let r : read_all (specification n) ts ≡ Err (TooDeep d) = read_alike n most_levels (omega (arith, le)) (omega arith) ts ∙ h.4 in
    let f = own_is_deep n le ts d p rest r l in
    let token : h.1 ≡ f.1 = (let k = f.4 in cc) in
    let whole : h.0 ++ d ≡ f.0 ++ d =
    sym h.3 ∙ l.0 ∙ ap (λ (y : List Lexeme). y ++ rest) f.3 ∙ append_assoc f.0 (f.1 ∷ f.2) rest ∙ ap (λ (y : List Lexeme). f.0 ++ y) (sym f.4) in
    let front : h.0 ≡ f.0 = append_cancel_right h.0 f.0 d whole in
    (f.0, f.1, f.2, f.3, λ none. (h.5 ∙ own_at h.0 d h.1.from (λ b. none (subst IsBehind front b)) ∙ ap (λ (x : Lexeme). x.from) token, f.5 none))

pub places_exactly : (ts : List Lexeme) (end : ℕ) (r : Result (List Declaration) FrontEnd) → Answers ts end r → PlacesExactly ts r
places_exactly ts end (Ok v) h = tt
places_exactly ts end (Err front_end.Memory) h = tt
places_exactly ts end (Err (front_end.Refused r)) (inl h) = λ e. absurd (let a = h.0 in cc)
places_exactly ts end (Err (front_end.Refused r)) (inr h) = λ e. exact_at ts r.at h.1
