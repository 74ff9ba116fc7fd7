-- The place that is answered is that of the rule.
use Rattle.std.proofs.Common.{◌≡◌, ℕ, ◌<◌, ◌≤◌, Bool, true, false, nat_eq, List, ◌∷◌, ◌++◌, length, Some, None, Err, refl, sym, ap, subst, ◌∙◌, append_assoc, arith, inl, inr, ◌⊎◌}
use Rattle.std.proofs.lemmas.List.{append_cancel_right}
use Rattle.std.proofs.lemmas.Bool.{eq-eqb, eqb-true}
use Rattle.lola_parser_grammar.specs.declared.declarations.Declaration.{Declaration}
use Rattle.lola_parser_grammar.specs.Syntax.{Lexeme, TooDeep, Spells, max_nestings, read_all}
use Rattle.lola_parser_grammar.specs.Nestings.{nestings_in}
use Rattle.lola_parser.specs.Late.{IsDeepPlace}
use Rattle.lola_parser.specs.Fronts.{IsLongestFront}
use Rattle.lola_parser.proofs.Levels.{counted_at}
use Rattle.lola_parser.proofs.Open.{specification_open}
use Rattle.lola_parser_grammar.specs.Grammar.{all_nestings, specification}
use Rattle.lola_parser_grammar.specs.Whole.{most_levels}
use Rattle.lola_parser_grammar.proofs.Fine.{specification_fine}
use Rattle.lola_parser_grammar.proofs.Levels.{read_alike}
use Rattle.lola_parser.specs.Turns.{Left}
use Rattle.lola_parser.specs.Places.{Cut, cut_last, behind_bracket, is_enclosed, nesting_or, place_behind, place_too_deep, IsPlacedAt}
use Rattle.lola_parser.proofs.Cuts.{own_place, other_count, nesting_before}
use Rattle.lola_parser_law.specs.Law.{IsEnclosedBehind, IsRulePlace}
use Rattle.lola_parser.proofs.Last.{IsFirstOrLast, deep_is_first}
use Rattle.lola_parser_law.proofs.InList.{list_is_deep}
use Rattle.lola_parser_law.proofs.WithNestings.{next_is_deep}
use Rattle.lola_parser_law.proofs.Enclosed.{next_in_every}

same_head : (a b : List Lexeme) → ◌≡◌ {A = Left} (Some a) (Some b) → a ≡ b
same_head a b h = cc

abbrev pub Decided : List Lexeme → List Lexeme → Type 0
Decided u d = (IsEnclosedBehind u d × ((at : ℕ) → place_too_deep u d at ≡ nesting_or (cut_last all_nestings u) at)) ⊎ ((IsEnclosedBehind u d → ⊥) × ((at : ℕ) → place_too_deep u d at ≡ at))

some_decided : (u d head : List Lexeme) → behind_bracket u ≡ Some head → (b c : Bool) → nat_eq (nestings_in all_nestings head) max_nestings ≡ b → is_enclosed head d ≡ c → Decided u d
some_decided u d head e true true m i = let many = eqb-true (nestings_in all_nestings head) max_nestings m in inl ((head, e, many, i), λ at. nesting_before u d head at e many i)
some_decided u d head e true false m i =
    inr (
      λ k.
          let same : head ≡ k.0 = same_head head k.0 (sym e ∙ k.1) in
          let other : is_enclosed head d ≡ true = ap (λ (y : List Lexeme). is_enclosed y d) same ∙ k.3 in
          absurd cc,
      λ at. ap (λ (h : Left). place_behind h u d at) e ∙ rw (m, i) refl,
    )
some_decided u d head e false c m i =
    let few : nestings_in all_nestings head ≡ 512 → ⊥ = λ many. (let k = eq-eqb (nestings_in all_nestings head) max_nestings many in absurd cc) in
    inr (
      λ k. let same : head ≡ k.0 = same_head head k.0 (sym e ∙ k.1) in few (ap (nestings_in all_nestings) same ∙ k.2),
      λ at. other_count u d head at e few,
    )

pub decided : (u d : List Lexeme) → Decided u d
decided u d = by (behind_bracket u) refl
  where
    by : (o : Left) → behind_bracket u ≡ o → Decided u d
    by None e = inr (λ k. (let q : ◌≡◌ {A = Left} None (Some k.0) = sym e ∙ k.1 in absurd cc), λ at. own_place u d at e)
    by (Some head) e = some_decided u d head e (nat_eq (nestings_in all_nestings head) max_nestings) (is_enclosed head d) refl refl

module _ (n : ℕ) (ts p rest u : List Lexeme) (t : Lexeme) (w : List Lexeme) (less : length ts < n) (l : IsLongestFront (specification n) ts p rest) (e : p ≡ u ++ t ∷ w)
    (each : (q : List Lexeme) (x : List Declaration) → Spells (specification n) (u ++ t ∷ (w ++ q)) x → IsFirstOrLast all_nestings (specification n) u t (w ++ q) x) where
  behind_is_deep : IsEnclosedBehind u (t ∷ (w ++ rest)) → (a : List Lexeme) × (m : Lexeme) × (b : List Lexeme) × (cut_last all_nestings u ≡ Some (a, m, b)) × (u ≡ a ++ m ∷ b) × IsDeepPlace all_nestings (specification n) a m (b ++ t ∷ w)
  behind_is_deep h = next_is_deep n ts p rest u t w l e each (next_in_every n ts p rest u t w less l e h each)

  is_the_place : (at : ℕ) → at ≡ place_too_deep u (t ∷ (w ++ rest)) t.from → IsRulePlace n p at
  is_the_place at is = by (decided u (t ∷ (w ++ rest)))
    where
      by : Decided u (t ∷ (w ++ rest)) → IsRulePlace n p at
      by (inl k) =
          let c = behind_is_deep k.0 in
          (c.0, c.1, c.2 ++ t ∷ w, e ∙ ap (λ (y : List Lexeme). y ++ t ∷ w) c.4 ∙ append_assoc c.0 (c.1 ∷ c.2) (t ∷ w), is ∙ k.1 t.from ∙ ap (λ (y : Cut). nesting_or y t.from) c.3, c.5)
      by (inr k) = (u, t, w, e, is ∙ k.1 t.from, list_is_deep n ts (t ∷ (w ++ rest)) p rest u t w less l e refl each k.0)

pub behind : (n : ℕ) → most_levels ≤ n → (ts d p rest : List Lexeme) → length ts < n → read_all (specification n) ts ≡ Err (TooDeep d) → IsLongestFront (specification n) ts p rest
    → (u : List Lexeme) × (t : Lexeme) × (w : List Lexeme) × (p ≡ u ++ t ∷ w) × (d ≡ t ∷ (w ++ rest))
    × (IsEnclosedBehind u d → (a : List Lexeme) × (m : Lexeme) × (b : List Lexeme) × (cut_last all_nestings u ≡ Some (a, m, b)) × IsDeepPlace all_nestings (specification n) a m (b ++ t ∷ w))
behind n le ts d p rest less h l =
    let f = deep_is_first all_nestings (specification n) (specification_fine n) (counted_at n le) (specification_open n) ts d p rest h l in (
      f.0,
      f.1,
      f.2,
      f.3,
      f.4,
      λ enclosed. let c = behind_is_deep n ts p rest f.0 f.1 f.2 less l f.3 f.5 (subst (IsEnclosedBehind f.0) f.4 enclosed) in (c.0, c.1, c.2, c.3, c.5),
    )

pub place_is : (n : ℕ) → most_levels ≤ n → (ts : List Lexeme) (at : ℕ) → length ts < n → IsPlacedAt ts at → (p rest : List Lexeme) → IsLongestFront (specification n) ts p rest → IsRulePlace n p at
place_is n le ts at less h p rest l =
    let d = h.1 ∷ h.2 in
    let r : read_all (specification n) ts ≡ Err (TooDeep d) = read_alike n most_levels (omega (arith, le)) (omega arith) ts ∙ h.4 in
    let f = deep_is_first all_nestings (specification n) (specification_fine n) (counted_at n le) (specification_open n) ts d p rest r l in
    let token : h.1 ≡ f.1 = (let k = f.4 in cc) in
    let whole : h.0 ++ d ≡ f.0 ++ d =
    sym h.3 ∙ l.0 ∙ ap (λ (y : List Lexeme). y ++ rest) f.3 ∙ append_assoc f.0 (f.1 ∷ f.2) rest ∙ ap (λ (y : List Lexeme). f.0 ++ y) (sym f.4) in
    let front : h.0 ≡ f.0 = append_cancel_right h.0 f.0 d whole in
    let there : at ≡ place_too_deep f.0 (f.1 ∷ (f.2 ++ rest)) f.1.from =
    h.5 ∙ ap (λ (y : List Lexeme). place_too_deep y d h.1.from) front ∙ ap (λ (y : List Lexeme). place_too_deep f.0 y h.1.from) f.4 ∙ ap (λ (y : Lexeme). place_too_deep f.0 (f.1 ∷ (f.2 ++ rest)) y.from) token in
    is_the_place n ts p rest f.0 f.1 f.2 less l f.3 f.5 at there
