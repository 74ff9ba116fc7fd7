-- What is read is spelled within the limit of nestings.
use Rattle.std.proofs.Common.{◌≡◌, ℕ, zero, suc, ◌-◌, true, List, [], ◌∷◌, ◌++◌, length, Some, None, Ok, Err, refl, sym, ap, subst, ◌∙◌, append_assoc, append-nil, arith, inl, inr, ◌⊎◌}
use Rattle.std.proofs.lemmas.Bool.{and_parts}
use Rattle.lola_parser_grammar.specs.Syntax.{Lexeme, Terminal, fits, Syntax, Past, Token, Nesting, Whole, Known, Then, Map, Either, Maybe, Many, Fork, charged, either_rest, last_nesting, Repeats, Perhaps, starts, first, Outcome, Reader, max_nestings, repeated, read, all_read, read_all}
use Rattle.lola_parser_grammar.specs.Nestings.{tallies, guards, is_counted, Fits}
use Rattle.lola_parser_grammar.proofs.Laws.{bind_ok, done_is, chosen, IsSound}
use Rattle.lola_parser_grammar.proofs.Over.{counts, fork_counted}

module _ (nestings : List Terminal) where
  repeated_fits : {A : Type 0} (r : Reader A) (P : List Lexeme → A → Type 0) (ks : List Terminal) (n : ℕ) → IsSound r P → IsSound (repeated r ks n) (Repeats P)
  repeated_fits r P ks zero each m ts xs i rest e =
      let q = done_is [] xs m i ts rest e in
      ([], q.2, subst (Repeats P []) q.0 refl)
  repeated_fits {A} r P ks (suc n) each m ts xs i rest e =
      elim (chosen (starts ks ts) _ _ _ e) [
        | inl c ↦
            let a = bind_ok (r m ts) _ xs i rest c.1 in
            let b = bind_ok (repeated r ks n a.1 a.2) _ xs i rest a.4 in
            let q = done_is (a.0 ∷ b.0) xs b.1 i b.2 rest b.4 in
            let t = each m ts a.0 a.1 a.2 a.3 in
            let u = repeated_fits r P ks n each a.1 a.2 b.0 b.1 b.2 b.3 in
            let parts : ts ≡ (t.0 ++ u.0) ++ rest = t.1 ∙ ap (λ (w : List Lexeme). t.0 ++ w) (u.1 ∙ ap (λ (w : List Lexeme). u.0 ++ w) q.2) ∙ sym (append_assoc t.0 u.0 rest) in
            (t.0 ++ u.0, parts, subst (Repeats P (t.0 ++ u.0)) q.0 (t.0, u.0, refl, t.2, u.2))
        | inr c ↦ let q = done_is [] xs m i ts rest c.1 in ([], q.2, subst (Repeats P []) q.0 refl)
      ]

  charged_ok : {A : Type 0} (deep : List Lexeme) (r : Reader A) (i : ℕ) (ts : List Lexeme) (x : A) (j : ℕ) (rest : List Lexeme) → charged deep r i ts ≡ Ok (x, j, rest)
      → (k : ℕ) × (i ≡ suc k) × (r k ts ≡ Ok (x, j, rest))
  charged_ok deep r zero ts x j rest e = absurd cc
  charged_ok deep r (suc k) ts x j rest e = (k, refl, e)

  -- which of two rests was read
  rest_is : {A : Type 0} (fs gs : List Terminal) (r s : Reader A) (deep : List Lexeme) (i : ℕ) (ts : List Lexeme) (x : A) (j : ℕ) (rest : List Lexeme)
      → either_rest fs r gs (charged deep s) i ts ≡ Ok (x, j, rest) → (r i ts ≡ Ok (x, j, rest)) ⊎ ((k : ℕ) × (i ≡ suc k) × (s k ts ≡ Ok (x, j, rest)))
  rest_is fs gs r s deep i ts x j rest e =
      elim (chosen (starts fs ts) _ _ _ e) [
        | inl c ↦ inl c.1
        | inr c ↦ elim (chosen (starts gs ts) _ _ _ c.1) [ inl d ↦ inr (charged_ok deep s i ts x j rest d.1) | inr d ↦ absurd (let w = d.1 in cc) ]
      ]

  -- it took a sentence, and no whole expression of it has too many nestings
  read_fits : {A : Type 0} (s : Syntax A) → is_counted nestings s ≡ true → IsSound (read s) (Fits nestings s)
  unfolding read Fits is_counted
  read_fits (Past a) count m ts x i rest e = absurd cc
  read_fits (Token k) count m [] x i rest e = absurd cc
  read_fits (Token k) count m (t ∷ ts) x i rest e =
      elim (chosen (fits k t) _ _ _ e) [
        | inl c ↦
            let q = done_is t x m i ts rest c.1 in
            (t ∷ [], ap (λ (w : List Lexeme). t ∷ w) q.2, (ap (λ (w : Lexeme). w ∷ []) q.0, subst (λ w. fits k w ≡ true) q.0 c.0))
        | inr c ↦ absurd cc
      ]
  read_fits (Nesting k) count m ts x i rest e = absurd cc
  read_fits (Whole a) count m ts x i rest e =
      let c = and_parts (tallies nestings a) (guards (suc max_nestings) a) count in
      let t = counts nestings a c.0 max_nestings ts x i rest e in
      (t.0, t.1, (t.2, omega (arith, t.3)))
  read_fits (Known fs ms a) count m ts x i rest e = read_fits a count m ts x i rest e
  read_fits (Then a b) count m ts x i rest e =
      let c = and_parts (is_counted nestings a) (is_counted nestings b) count in
      let p = bind_ok (read a m ts) _ x i rest e in
      let q = bind_ok (read b p.1 p.2) _ x i rest p.4 in
      let d = done_is (p.0, q.0) x q.1 i q.2 rest q.4 in
      let t = read_fits a c.0 m ts p.0 p.1 p.2 p.3 in
      let u = read_fits b c.1 p.1 p.2 q.0 q.1 q.2 q.3 in
      let parts : ts ≡ (t.0 ++ u.0) ++ rest = t.1 ∙ ap (λ (w : List Lexeme). t.0 ++ w) (u.1 ∙ ap (λ (w : List Lexeme). u.0 ++ w) d.2) ∙ sym (append_assoc t.0 u.0 rest) in
      (t.0 ++ u.0, parts, subst (Fits nestings (Then a b) (t.0 ++ u.0)) d.0 (t.0, u.0, refl, t.2, u.2))
  read_fits (Map f a) count m ts x i rest e =
      let p = bind_ok (read a m ts) _ x i rest e in
      let d = done_is (f p.0) x p.1 i p.2 rest p.4 in
      let t = read_fits a count m ts p.0 p.1 p.2 p.3 in
      (t.0, t.1 ∙ ap (λ (w : List Lexeme). t.0 ++ w) d.2, (p.0, sym d.0, t.2))
  read_fits (Either a b) count m ts x i rest e =
      let c = and_parts (is_counted nestings a) (is_counted nestings b) count in
      elim (chosen (starts (first a) ts) _ _ _ e) [
        | inl d ↦ let t = read_fits a c.0 m ts x i rest d.1 in (t.0, t.1, inl t.2)
        | inr d ↦ let t = read_fits b c.1 m ts x i rest d.1 in (t.0, t.1, inr t.2)
      ]
  read_fits (Maybe a) count m ts x i rest e =
      elim (chosen (starts (first a) ts) _ _ _ e) [
        | inl c ↦
            let p = bind_ok (read a m ts) _ x i rest c.1 in
            let d = done_is (Some p.0) x p.1 i p.2 rest p.4 in
            let t = read_fits a count m ts p.0 p.1 p.2 p.3 in
            (t.0, t.1 ∙ ap (λ (w : List Lexeme). t.0 ++ w) d.2, subst (Perhaps (Fits nestings a) t.0) d.0 t.2)
        | inr c ↦ let d = done_is None x m i ts rest c.1 in ([], d.2, subst (Perhaps (Fits nestings a) []) d.0 refl)
      ]
  read_fits (Many a) count m ts x i rest e = repeated_fits (read a) (Fits nestings a) (first a) (length ts) (read_fits a count) m ts x i rest e
  read_fits (Fork ks a b c) count m ts x i rest e =
      let g = fork_counted nestings ks a b c count in
      let p = bind_ok (read a max_nestings ts) _ x i rest e in
      let deep = last_nesting ks (length ts - length p.2) p.2 ts in
      let r = either_rest (first b) (read b) (first c) (charged deep (read c)) in
      let q = bind_ok (r p.1 p.2) _ x i rest p.4 in
      let f = done_is (p.0, q.0) x q.1 i q.2 rest q.4 in
      let t = counts nestings a g.head max_nestings ts p.0 p.1 p.2 p.3 in
      elim (rest_is (first b) (first c) (read b) (read c) deep p.1 p.2 q.0 q.1 q.2 q.3) [
        | inl d ↦
            let u = read_fits b g.one p.1 p.2 q.0 q.1 q.2 d in
            let parts : ts ≡ (t.0 ++ u.0) ++ rest = t.1 ∙ ap (λ (w : List Lexeme). t.0 ++ w) (u.1 ∙ ap (λ (w : List Lexeme). u.0 ++ w) f.2) ∙ sym (append_assoc t.0 u.0 rest) in
            (t.0 ++ u.0, parts, subst (Fits nestings (Fork ks a b c) (t.0 ++ u.0)) f.0 (t.0, u.0, refl, t.2, inl (omega (arith, t.3), u.2)))
        | inr o ↦
            let u = counts nestings c g.two o.0 p.2 q.0 q.1 q.2 o.2 in
            let parts : ts ≡ (t.0 ++ u.0) ++ rest = t.1 ∙ ap (λ (w : List Lexeme). t.0 ++ w) (u.1 ∙ ap (λ (w : List Lexeme). u.0 ++ w) f.2) ∙ sym (append_assoc t.0 u.0 rest) in
            (t.0 ++ u.0, parts, subst (Fits nestings (Fork ks a b c) (t.0 ++ u.0)) f.0 (t.0, u.0, refl, t.2, inr (omega (arith, t.3, o.1, u.3), u.2)))
      ]

  -- what is read of a whole text is spelled by it within the limit
  pub read_is_within : {A : Type 0} (s : Syntax A) → is_counted nestings s ≡ true → (ts : List Lexeme) (x : A) → read_all s ts ≡ Ok x → Fits nestings s ts x
  unfolding read_all
  read_is_within {A} s count ts x e = by (read s max_nestings ts) refl e
    where
      by : (o : Outcome A) → read s max_nestings ts ≡ o → all_read o ≡ Ok x → Fits nestings s ts x
      by (Ok (y, m, [])) is h =
          let p = read_fits s count max_nestings ts y m [] is in
          let q : y ≡ x = cc in
          let whole : p.0 ≡ ts = sym (append-nil p.0) ∙ sym p.1 in
          subst (λ (w : List Lexeme). Fits nestings s w x) whole (subst (Fits nestings s p.0) q p.2)
      by (Ok (y, m, (t ∷ rest))) is h = absurd cc
      by (Err d) is h = absurd cc
