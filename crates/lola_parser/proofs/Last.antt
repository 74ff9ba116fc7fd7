-- Where a text is refused as too deep: at the first nesting too many, or behind a bracket that is a nesting at the next one, and then no
-- nesting before the last one is too many.
use Rattle.std.proofs.Common.{◌≡◌, true, List, [], ◌∷◌, ◌++◌, length, Err, refl, sym, ap, subst, ◌∙◌, append_assoc, inl, inr, ◌⊎◌}
use Rattle.std.proofs.lemmas.List.{append-nil, append_cancel_right}
use Rattle.lola_parser_grammar.specs.Syntax.{Lexeme, Terminal, Syntax, Spells, is_fine, TooDeep, max_nestings, read, read_all}
use Rattle.lola_parser_grammar.specs.Nestings.{is_counted}
use Rattle.lola_parser.specs.Late.{IsNextBehindBracket, NoneIsLate, IsFirstLate}
use Rattle.lola_parser.specs.Fronts.{IsLongestFront}
use Rattle.lola_parser.proofs.Opening.{forks_open}
use Rattle.lola_parser.proofs.Placed.{in_front, decided_all}
use Rattle.lola_parser.proofs.First.{IsBehindLast, first_late}

-- what is said of a place is said of an equal one
pub moved : (R : List Lexeme → Lexeme → List Lexeme → Type 0) (u u' : List Lexeme) (t t' : Lexeme) (v v' : List Lexeme) → u ≡ u' → t ≡ t' → v ≡ v' → R u t v → R u' t' v'
moved R u u' t t' v v' e f g h = subst (λ (w : List Lexeme). R u' t' w) g (subst (λ (y : Lexeme). R u' y v) f (subst (λ (w : List Lexeme). R w t v) e h))

module _ (nestings : List Terminal) where
  abbrev pub IsFirstOrLast : {A : Type 0} → Syntax A → List Lexeme → Lexeme → List Lexeme → A → Type 0
  IsFirstOrLast s u t v x = IsFirstLate nestings s u t v x ⊎ IsBehindLast nestings (λ u t v. IsNextBehindBracket nestings s u t v x) (λ n. NoneIsLate nestings s n (u ++ t ∷ v) x) u t v

  -- in a sentence, of which reading ends there
  pub ends_first : {A : Type 0} (s : Syntax A) → is_fine s ≡ true → is_counted nestings s ≡ true → (u : List Lexeme) (t : Lexeme) (v : List Lexeme) (x : A) → Spells s (u ++ t ∷ v) x → read s max_nestings (u ++ t ∷ v) ≡ Err (TooDeep (t ∷ v)) → IsFirstOrLast s u t v x
  ends_first s fine count u t v x h e =
      let z = u ++ t ∷ v in
      let p = first_late nestings s fine count max_nestings z x [] (t ∷ v) h refl (ap (λ (w : List Lexeme). read s max_nestings w) (append-nil z) ∙ e) in
      let there : t ∷ v ≡ p.1 ∷ p.2 = p.4 ∙ ap (λ (w : List Lexeme). p.1 ∷ w) (append-nil p.2) in
      let front : p.0 ≡ u = append_cancel_right p.0 u (t ∷ v) (ap (λ (w : List Lexeme). p.0 ++ w) there ∙ sym p.3) in
      let token : p.1 ≡ t = cc in
      let behind : p.2 ≡ v = cc in
      moved (λ u t v. IsFirstOrLast s u t v x) p.0 u p.1 t p.2 v front token behind
      (elim p.5 [
        | inl q ↦ inl (q.0, subst (λ (w : List Lexeme). NoneIsLate nestings s (length p.0) w x) p.3 q.1)
        | inr q ↦ inr (q.0, q.1, q.2, q.3, q.4, q.5, q.6, subst (λ (w : List Lexeme). NoneIsLate nestings s (length q.1) w x) p.3 q.7)
      ])

  pub deep_is_first : {A : Type 0} (s : Syntax A) → is_fine s ≡ true → is_counted nestings s ≡ true → forks_open s ≡ true → (ts d p rest : List Lexeme) → read_all s ts ≡ Err (TooDeep d) → IsLongestFront s ts p rest
      → (u : List Lexeme) × (t : Lexeme) × (w : List Lexeme) × (p ≡ u ++ t ∷ w) × (d ≡ t ∷ (w ++ rest)) × ((q : List Lexeme) (x : A) → Spells s (u ++ t ∷ (w ++ q)) x → IsFirstOrLast s u t (w ++ q) x)
  deep_is_first s fine count opens ts d p rest h l =
      let c = decided_all nestings s fine count opens ts d h in
      let z = c.0 ++ c.1 ∷ c.2 in
      let whole : ts ≡ z ++ c.3 = c.4 ∙ sym (append_assoc c.0 (c.1 ∷ c.2) c.3) in
      let f = in_front s z c.3 p rest c.7 (sym whole ∙ l.0, l.1, l.2) in (
        c.0,
        c.1,
        c.2 ++ f.0,
        f.1 ∙ append_assoc c.0 (c.1 ∷ c.2) f.0,
        c.5 ∙ ap (λ (w : List Lexeme). c.1 ∷ w) (ap (λ (w : List Lexeme). c.2 ++ w) f.2 ∙ sym (append_assoc c.2 f.0 rest)),
        λ q x g.
            let regroup : (c.2 ++ f.0) ++ q ≡ c.2 ++ (f.0 ++ q) = append_assoc c.2 f.0 q in
            let g' : Spells s (c.0 ++ c.1 ∷ (c.2 ++ (f.0 ++ q))) x = subst (λ (w : List Lexeme). Spells s (c.0 ++ c.1 ∷ w) x) regroup g in
            subst (λ (w : List Lexeme). IsFirstOrLast s c.0 c.1 w x) (sym regroup) (ends_first s fine count c.0 c.1 (c.2 ++ (f.0 ++ q)) x g' (c.6 (f.0 ++ q))),
      )
