-- One outcome of reading tokens.
use Rattle.std.proofs.Common.{◌≡◌, refl, sym, ap, ◌∙◌, ℕ, List, ◌∷◌, ◌++◌, Result, Ok, Err, ◌⊎◌, inl, inr}
use Rattle.std.proofs.lemmas.List.{append_cancel_right}
use Rattle.lola_value.specs.declared.front.Code.{Code}
use Rattle.lola_value.specs.declared.front.Code.TheVariants as code
use Rattle.lola_value.specs.declared.front.Refusal.{Refusal}
use Rattle.lola_value.specs.declared.front.FrontEnd.TheVariants as front_end
use Rattle.lola_parser_grammar.specs.declared.declarations.Declaration.{Declaration}
use Rattle.lola_parser_grammar.specs.Syntax.{Lexeme, read_all}
use Rattle.lola_parser_grammar.specs.Syntax as reading
use Rattle.lola_parser_grammar.specs.Cursor.{place_of}
use Rattle.lola_parser_grammar.specs.Grammar.{specification}
use Rattle.lola_parser_grammar.specs.Whole.{most_levels}
use Rattle.lola_parser.specs.Places.{Answers, place_too_deep}
use Rattle.lola_parser.proofs.Deep.{deep_parts}

abbrev refusal : Code → ℕ → Refusal
refusal c at = record { code = c; at = at }

same_refusal : (r q : Refusal) → r.code ≡ q.code → r.at ≡ q.at → r ≡ q
same_refusal r q e f = ap (λ (c : Code). refusal c r.at) e ∙ ap (λ (at : ℕ). refusal q.code at) f

-- reading ends in one way
abbrev pub Outcome : Type 0
Outcome = Result (List Declaration) reading.Refusal

same_ok : (o : Outcome) (v w : List Declaration) → o ≡ Ok v → o ≡ Ok w → v ≡ w
same_ok o v w a b = cc

ok_err : (o : Outcome) (v : List Declaration) (d : reading.Refusal) → o ≡ Ok v → o ≡ Err d → ⊥
ok_err o v d a b = cc

same_rest : (o : Outcome) (s t : List Lexeme) → o ≡ Err (reading.Unexpected s) → o ≡ Err (reading.Unexpected t) → s ≡ t
same_rest o s t a b = let e : reading.Unexpected s ≡ reading.Unexpected t = cc in cc

same_deep : (o : Outcome) (s t : List Lexeme) → o ≡ Err (reading.TooDeep s) → o ≡ Err (reading.TooDeep t) → s ≡ t
same_deep o s t a b = let e : reading.TooDeep s ≡ reading.TooDeep t = cc in cc

never_both : (o : Outcome) (s t : List Lexeme) → o ≡ Err (reading.Unexpected s) → o ≡ Err (reading.TooDeep t) → ⊥
never_both o s t a b = let e : reading.Unexpected s ≡ reading.TooDeep t = cc in cc

-- .. and so at one place
one_place : (ts u v : List Lexeme) (t s : Lexeme) (w z : List Lexeme) → ts ≡ u ++ t ∷ w → ts ≡ v ++ s ∷ z → t ∷ w ≡ s ∷ z
    → place_too_deep u (t ∷ w) t.from ≡ place_too_deep v (s ∷ z) s.from
one_place ts u v t s w z a b same =
    let first : t ≡ s = cc in
    let others : w ≡ z = cc in
    let front : u ≡ v = append_cancel_right u v (t ∷ w) (sym a ∙ b ∙ ap (λ (d : List Lexeme). v ++ d) (sym same)) in
    ap (λ (x : List Lexeme). place_too_deep x (t ∷ w) t.from) front
    ∙ (ap (λ (x : Lexeme). place_too_deep v (x ∷ w) x.from) first
    ∙ ap (λ (x : List Lexeme). place_too_deep v (s ∷ x) s.from) others)

module _ (ts : List Lexeme) (end : ℕ) where
  abbrev outcome : Outcome
  outcome = read_all (specification most_levels) ts

  pub one_tree : (v w : List Declaration) → Answers ts end (Ok v) → Answers ts end (Ok w) → v ≡ w
  one_tree v w a b = same_ok outcome v w a b

  pub tree_or_refusal : (v : List Declaration) (r : Refusal) → Answers ts end (Ok v) → Answers ts end (Err (front_end.Refused r)) → ⊥
  tree_or_refusal v r a (inl h) = ok_err outcome v (reading.Unexpected h.1.0) a h.1.2
  tree_or_refusal v r a (inr h) = ok_err outcome v (reading.TooDeep (h.1.1 ∷ h.1.2)) a h.1.4

  pub one_refusal : (r q : Refusal) → Answers ts end (Err (front_end.Refused r)) → Answers ts end (Err (front_end.Refused q)) → r ≡ q
  one_refusal r q (inl a) (inl b) =
      let rest = same_rest outcome a.1.0 b.1.0 a.1.2 b.1.2 in
      same_refusal r q (a.0 ∙ sym b.0) (a.1.1 ∙ ap (λ (d : List Lexeme). place_of d end) rest ∙ sym b.1.1)
  one_refusal r q (inl a) (inr b) = absurd (never_both outcome a.1.0 (b.1.1 ∷ b.1.2) a.1.2 b.1.4)
  one_refusal r q (inr a) (inl b) = absurd (never_both outcome b.1.0 (a.1.1 ∷ a.1.2) b.1.2 a.1.4)
  one_refusal r q (inr a) (inr b) =
      let same = same_deep outcome (a.1.1 ∷ a.1.2) (b.1.1 ∷ b.1.2) a.1.4 b.1.4 in
      same_refusal r q (a.0 ∙ sym b.0) (a.1.5 ∙ one_place ts a.1.0 b.1.0 a.1.1 b.1.1 a.1.2 b.1.2 a.1.3 b.1.3 same ∙ sym b.1.5)

  -- there is a tree or a refusal
  abbrev Ends : Type 0
  Ends = ((v : List Declaration) × Answers ts end (Ok v)) ⊎ ((r : Refusal) × Answers ts end (Err (front_end.Refused r)))

  ends_so : (o : Outcome) → read_all (specification most_levels) ts ≡ o → Ends
  ends_so (Ok v) e = inl (v, e)
  ends_so (Err (reading.Unexpected rest)) e = inr (record { code = code.Unexpected; at = place_of rest end }, inl (refl, (rest, refl, e)))
  ends_so (Err (reading.TooDeep d)) e =
      let p = deep_parts ts d e in
      inr (record { code = code.TooDeep; at = place_too_deep p.0 (p.1 ∷ p.2) p.1.from }, inr (refl, (p.0, p.1, p.2, p.3, e ∙ ap (λ (x : List Lexeme). Err (reading.TooDeep x)) p.4, refl)))

  pub ends : Ends
  ends = ends_so outcome refl
