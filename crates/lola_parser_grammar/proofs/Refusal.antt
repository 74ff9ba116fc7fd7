-- Where a text is no sentence.
use Rattle.std.proofs.Common.{◌≡◌, true, List, [], ◌∷◌, ◌++◌, Ok, Err, refl, sym, ap, subst, ◌∙◌, append_assoc, inl, inr, ◌⊎◌}
use Rattle.std.proofs.lemmas.List.{append-nil, append_cancel_right}
use Rattle.lola_parser_grammar.specs.Syntax.{Lexeme, Syntax, Spells, is_fine, Unexpected, TooDeep, Outcome, max_nestings, read, all_read, read_all, Begins, IsFirstMisfit}
use Rattle.lola_parser_grammar.proofs.Laws.{sound}
use Rattle.lola_parser_grammar.proofs.Complete.{complete, OkOrDeep}
use Rattle.lola_parser_grammar.proofs.Local.{Read, Stopped, local}
use Rattle.lola_parser_grammar.proofs.Viable.{viable}

-- what is read is spelled so
pub read_is_spelled : {A : Type 0} (s : Syntax A) (ts : List Lexeme) (x : A) → read_all s ts ≡ Ok x → Spells s ts x
unfolding read_all
read_is_spelled {A} s ts x e = by (read s max_nestings ts) refl e
  where
    by : (o : Outcome A) → read s max_nestings ts ≡ o → all_read o ≡ Ok x → Spells s ts x
    by (Ok (y, m, [])) is h =
        let p = sound s max_nestings ts y m [] is in
        let q : y ≡ x = cc in
        let whole : p.0 ≡ ts = sym (append-nil p.0) ∙ sym p.1 in
        subst (λ (w : List Lexeme). Spells s w x) whole (subst (Spells s p.0) q p.2)
    by (Ok (y, m, (t ∷ rest))) is h = absurd cc
    by (Err d) is h = absurd cc

-- what is spelled so is read, unless it is too deep
pub spelled_is_read : {A : Type 0} (s : Syntax A) → is_fine s ≡ true → (ts : List Lexeme) (x : A) → Spells s ts x → (read_all s ts ≡ Ok x) ⊎ ((d : List Lexeme) × (read_all s ts ≡ Err (TooDeep d)))
unfolding read_all
spelled_is_read s fine ts x h =
    let o : OkOrDeep (read s max_nestings ts) x [] = subst (λ (w : List Lexeme). OkOrDeep (read s max_nestings w) x []) (append-nil ts) (complete s fine max_nestings ts x [] h refl) in
    elim o [ inl e ↦ inl (rw e.1 refl) | inr e ↦ inr (e.0, rw e.1 refl) ]

-- no sentence begins with what reading stopped at
stops : {A : Type 0} (s : Syntax A) → is_fine s ≡ true → (u : List Lexeme) (t : Lexeme) → ((other : List Lexeme) → read_all s (u ++ t ∷ other) ≡ Err (Unexpected (t ∷ other))) → Begins s (u ++ t ∷ []) → ⊥
stops s fine u t h b =
    let same : (u ++ t ∷ []) ++ b.0 ≡ u ++ t ∷ b.0 = append_assoc u (t ∷ []) b.0 in
    let g : Spells s (u ++ t ∷ b.0) b.1 = subst (λ (w : List Lexeme). Spells s w b.1) same b.2 in
    let there = h b.0 in
    elim (spelled_is_read s fine (u ++ t ∷ b.0) b.1 g) [
      | inl e ↦ absurd cc
      | inr e ↦ (let d = e.1 in let q : TooDeep e.0 ≡ Unexpected (t ∷ b.0) = cc in absurd cc)
    ]

pub refused_at : {A : Type 0} (s : Syntax A) → is_fine s ≡ true → (ts rest : List Lexeme) → read_all s ts ≡ Err (Unexpected rest) → IsFirstMisfit s ts rest
unfolding read_all
refused_at {A} s fine ts rest e = by (read s max_nestings ts) refl rest e
  where
    by : (o : Outcome A) → read s max_nestings ts ≡ o → (rest : List Lexeme) → all_read o ≡ Err (Unexpected rest) → IsFirstMisfit s ts rest
    by (Ok (y, m, [])) is rest h = absurd cc
    by (Ok (y, m, (t ∷ after))) is [] h = absurd (let q : Unexpected (t ∷ after) ≡ Unexpected [] = cc in cc)
    by (Ok (y, m, (t ∷ after))) is (r ∷ rest) h =
        let same : t ∷ after ≡ r ∷ rest = (let q : Unexpected (t ∷ after) ≡ Unexpected (r ∷ rest) = cc in cc) in
        let is' : read s max_nestings ts ≡ Ok (y, m, r ∷ rest) = is ∙ ap (λ (w : List Lexeme). Ok (y, m, w)) same in
        let p = local s fine max_nestings ts (Read y m) r rest is' in
        let q = sound s max_nestings (p.0 ++ r ∷ rest) y m (r ∷ rest) (p.2 rest) in
        let front : q.0 ≡ p.0 = append_cancel_right q.0 p.0 (r ∷ rest) (sym q.1) in
        let begun : Begins s p.0 = ([], y, rw append-nil (subst (λ (w : List Lexeme). Spells s w y) front q.2)) in
        (p.0, p.1, begun, stops s fine p.0 r (λ other. rw (p.2 other) refl))
    by (Err d) is [] h =
        let d_is : d ≡ Unexpected [] = cc in
        let is' : read s max_nestings ts ≡ Err (Unexpected []) = is ∙ ap (λ c. Err c) d_is in
        let v = viable s max_nestings ts [] is' in
        let whole : v.0 ≡ ts = sym (append-nil v.0) ∙ sym v.1 in (
          (v.2, v.3, subst (λ (w : List Lexeme). Spells s (w ++ v.2) v.3) whole v.4),
          λ x g. elim (spelled_is_read s fine ts x g) [
            | inl c ↦ (let k = c in absurd (let z = by_err is' k in z))
            | inr c ↦ (let k = c.1 in absurd (let z = by_deep is' c.0 k in z))
          ],
        )
      where
        by_err : {x : A} → read s max_nestings ts ≡ Err (Unexpected []) → all_read (read s max_nestings ts) ≡ Ok x → ⊥
        by_err a b = let q : all_read (read s max_nestings ts) ≡ Err (Unexpected []) = rw a refl in absurd cc

        by_deep : read s max_nestings ts ≡ Err (Unexpected []) → (f : List Lexeme) → all_read (read s max_nestings ts) ≡ Err (TooDeep f) → ⊥
        by_deep a f b = let q : all_read (read s max_nestings ts) ≡ Err (Unexpected []) = rw a refl in let z : TooDeep f ≡ Unexpected [] = cc in absurd cc
    by (Err d) is (r ∷ rest) h =
        let d_is : d ≡ Unexpected (r ∷ rest) = cc in
        let is' : read s max_nestings ts ≡ Err (Unexpected (r ∷ rest)) = is ∙ ap (λ c. Err c) d_is in
        let p = local s fine max_nestings ts Stopped r rest is' in
        let v = viable s max_nestings (p.0 ++ r ∷ rest) (r ∷ rest) (p.2 rest) in
        let front : v.0 ≡ p.0 = append_cancel_right v.0 p.0 (r ∷ rest) (sym v.1) in
        let begun : Begins s p.0 = (v.2, v.3, subst (λ (w : List Lexeme). Spells s (w ++ v.2) v.3) front v.4) in
        (p.0, p.1, begun, stops s fine p.0 r (λ other. rw (p.2 other) refl))
