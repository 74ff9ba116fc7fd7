-- What is read has no nesting too many, and where reading stops at a token that does not fit, what stands before it begins a
-- sentence in which none of these tokens is a nesting too many.
use Rattle.std.proofs.Common.{◌≡◌, ℕ, zero, suc, ◌-◌, true, not, List, [], ◌∷◌, ◌++◌, length, Some, None, Ok, refl, sym, ap, subst, ◌∙◌, append_assoc, arith, inl, inr, ◌⊎◌}
use Rattle.std.proofs.lemmas.Bool.{and_parts}
use Rattle.lola_parser_grammar.specs.Syntax.{Lexeme, Terminal, apart, within, Syntax, Past, Token, Nesting, Whole, Known, Then, Map, Either, Maybe, Many, Fork, charged, either_rest, last_nesting, Repeats, Spells, starts, first, nullable, more, is_fine, Reader, max_nestings, repeated, read}
use Rattle.lola_parser_grammar.specs.Nestings.{guards, nestings_in, tallies, is_counted}
use Rattle.lola_parser_grammar.proofs.Laws.{chosen, done_is, bind_ok, sound}
use Rattle.lola_parser_grammar.proofs.Complete.{and_three, choice_parts, known_parts, fork_is}
use Rattle.lola_parser_grammar.proofs.Over.{counts, fork_counted}
use Rattle.lola_parser.specs.Late.{IsNestingBehind}
use Rattle.lola_parser.proofs.Keeps.{Keeps, KeepsAmong, few_all, keeps_whole, keeps_then, keeps_left, keeps_right, keeps_map, keeps_some, keeps_nil, keeps_cons, keeps_list, keeps_bracket}

module _ (nestings : List Terminal) where
  -- ---- what is read

  -- it took a sentence, and none of its tokens is a nesting too many
  abbrev pub IsKept : {A : Type 0} → Syntax A → List Lexeme → A → List Lexeme → Type 0
  IsKept s ts x rest = (u : List Lexeme) × (ts ≡ u ++ rest) × Spells s u x × ((n : ℕ) → Keeps nestings max_nestings s n u x)

  abbrev IsKeptAmong : {A : Type 0} → Syntax A → List Lexeme → List A → List Lexeme → Type 0
  IsKeptAmong a ts xs rest = (u : List Lexeme) × (ts ≡ u ++ rest) × Repeats (Spells a) u xs × ((n : ℕ) → KeepsAmong nestings max_nestings a n u xs)

  repeated_kept : {A : Type 0} (a : Syntax A) → is_fine a ≡ true → apart (more a) (first a) ≡ true → ((m : ℕ) (ts : List Lexeme) (x : A) (i : ℕ) (rest : List Lexeme) → read a m ts ≡ Ok (x, i, rest) → IsKept a ts x rest)
      → (n m : ℕ) (ts : List Lexeme) (xs : List A) (i : ℕ) (rest : List Lexeme) → repeated (read a) (first a) n m ts ≡ Ok (xs, i, rest) → IsKeptAmong a ts xs rest
  repeated_kept {A} a fine away each zero m ts xs i rest e =
      let q = done_is {A = List A} [] xs m i ts rest e in
      ([], q.2, subst (Repeats (Spells a) []) q.0 refl, λ n. subst (KeepsAmong nestings max_nestings a n []) q.0 (keeps_nil nestings max_nestings a n []))
  repeated_kept {A} a fine away each (suc l) m ts xs i rest e =
      elim (chosen (starts (first a) ts) _ _ _ e) [
        | inl c ↦
            let p = bind_ok (read a m ts) _ xs i rest c.1 in
            let b = bind_ok (repeated (read a) (first a) l p.1 p.2) _ xs i rest p.4 in
            let q = done_is (p.0 ∷ b.0) xs b.1 i b.2 rest b.4 in
            let t = each m ts p.0 p.1 p.2 p.3 in
            let u = repeated_kept a fine away each l p.1 p.2 b.0 b.1 b.2 b.3 in
            let parts : ts ≡ (t.0 ++ u.0) ++ rest = t.1 ∙ ap (λ (w : List Lexeme). t.0 ++ w) (u.1 ∙ ap (λ (w : List Lexeme). u.0 ++ w) q.2) ∙ sym (append_assoc t.0 u.0 rest) in (
              t.0 ++ u.0,
              parts,
              subst (Repeats (Spells a) (t.0 ++ u.0)) q.0 (t.0, u.0, refl, t.2, u.2),
              λ n. subst (KeepsAmong nestings max_nestings a n (t.0 ++ u.0)) q.0 (keeps_cons nestings max_nestings a fine away n n t.0 u.0 [] p.0 b.0 t.2 u.2 refl (t.3 n) (u.3 n) (omega arith)),
            )
        | inr c ↦
            let q = done_is {A = List A} [] xs m i ts rest c.1 in
            ([], q.2, subst (Repeats (Spells a) []) q.0 refl, λ n. subst (KeepsAmong nestings max_nestings a n []) q.0 (keeps_nil nestings max_nestings a n []))
      ]

  charged_read : {B : Type 0} (r : Reader B) (deep mid : List Lexeme) (i : ℕ) (y : B) (k : ℕ) (rest : List Lexeme) → charged deep r i mid ≡ Ok (y, k, rest) → (j : ℕ) × (i ≡ suc j) × (r j mid ≡ Ok (y, k, rest))
  charged_read r deep mid zero y k rest h = absurd cc
  charged_read r deep mid (suc j) y k rest h = (j, refl, h)

  either_read : {B : Type 0} (fs gs : List Terminal) (r s : Reader B) (i : ℕ) (mid : List Lexeme) (y : B) (k : ℕ) (rest : List Lexeme) → either_rest fs r gs s i mid ≡ Ok (y, k, rest) → (r i mid ≡ Ok (y, k, rest)) ⊎ (s i mid ≡ Ok (y, k, rest))
  either_read fs gs r s i mid y k rest h =
      elim (chosen (starts fs mid) _ _ _ h) [
        | inl c ↦ inl c.1
        | inr c ↦ elim (chosen (starts gs mid) _ _ _ c.1) [ inl d ↦ inr d.1 | inr d ↦ absurd (let w = d.1 in cc) ]
      ]

  nothing_kept : {A : Type 0} (n : ℕ) (s : Syntax A) (x : A) → Keeps nestings max_nestings s n [] x
  nothing_kept n s x k [] t v parts low h = absurd cc
  nothing_kept n s x k (y ∷ u) t v parts low h = absurd cc

  pub read_kept : {A : Type 0} (s : Syntax A) → is_fine s ≡ true → is_counted nestings s ≡ true → (m : ℕ) (ts : List Lexeme) (x : A) (i : ℕ) (rest : List Lexeme) → read s m ts ≡ Ok (x, i, rest) → IsKept s ts x rest
  unfolding read Spells is_fine is_counted IsNestingBehind
  read_kept (Past a) fine count m ts x i rest e = absurd cc
  read_kept (Token k) fine count m ts x i rest e = let t = sound (Token k) m ts x i rest e in (t.0, t.1, t.2, λ n j u s v parts low h. absurd h)
  read_kept (Nesting k) fine count m ts x i rest e = absurd (let c = count in cc)
  read_kept (Whole a) fine count m ts x i rest e =
      let c = and_parts (tallies nestings a) (guards (suc max_nestings) a) count in
      let t = counts nestings a c.0 max_nestings ts x i rest e in
      (t.0, t.1, t.2, λ n. keeps_whole nestings max_nestings a n t.0 x (few_all nestings max_nestings 0 n t.0 (omega (arith, t.3))))
  read_kept (Known fs ms a) fine count m ts x i rest e =
      let f = known_parts (is_fine a) (nullable a) (within (first a) fs) (within (more a) ms) fine in
      read_kept a f.0 count m ts x i rest e
  read_kept (Then a b) fine count m ts x i rest e =
      let f = and_three (is_fine a) (is_fine b) (apart (more a) (first b)) fine in
      let c = and_parts (is_counted nestings a) (is_counted nestings b) count in
      let p = bind_ok (read a m ts) _ x i rest e in
      let q = bind_ok (read b p.1 p.2) _ x i rest p.4 in
      let d = done_is (p.0, q.0) x q.1 i q.2 rest q.4 in
      let t = read_kept a f.0 c.0 m ts p.0 p.1 p.2 p.3 in
      let u = read_kept b f.1 c.1 p.1 p.2 q.0 q.1 q.2 q.3 in
      let parts : ts ≡ (t.0 ++ u.0) ++ rest = t.1 ∙ ap (λ (w : List Lexeme). t.0 ++ w) (u.1 ∙ ap (λ (w : List Lexeme). u.0 ++ w) d.2) ∙ sym (append_assoc t.0 u.0 rest) in (
        t.0 ++ u.0,
        parts,
        subst (Spells (Then a b) (t.0 ++ u.0)) d.0 (t.0, u.0, refl, t.2, u.2),
        λ n. subst (Keeps nestings max_nestings (Then a b) n (t.0 ++ u.0)) d.0 (keeps_then nestings max_nestings a b f.0 f.1 f.2 n n t.0 u.0 [] (p.0, q.0) t.2 u.2 refl (t.3 n) (u.3 n) (omega arith)),
      )
  read_kept (Map g a) fine count m ts x i rest e =
      let p = bind_ok (read a m ts) _ x i rest e in
      let d = done_is (g p.0) x p.1 i p.2 rest p.4 in
      let t = read_kept a fine count m ts p.0 p.1 p.2 p.3 in
      (t.0, t.1 ∙ ap (λ (w : List Lexeme). t.0 ++ w) d.2, (p.0, sym d.0, t.2), λ n. subst (Keeps nestings max_nestings (Map g a) n t.0) d.0 (keeps_map nestings max_nestings g a fine n t.0 p.0 t.2 (t.3 n)))
  read_kept (Either a b) fine count m ts x i rest e =
      let f = choice_parts (is_fine a) (is_fine b) (nullable a) (nullable b) (apart (first a) (first b)) fine in
      let c = and_parts (is_counted nestings a) (is_counted nestings b) count in
      elim (chosen (starts (first a) ts) _ _ _ e) [
        | inl k ↦ let t = read_kept a f.0 c.0 m ts x i rest k.1 in (t.0, t.1, inl t.2, λ n. keeps_left nestings max_nestings a b f.0 f.1 f.4 n t.0 x t.2 (t.3 n))
        | inr k ↦ let t = read_kept b f.1 c.1 m ts x i rest k.1 in (t.0, t.1, inr t.2, λ n. keeps_right nestings max_nestings a b f.0 f.1 f.4 n t.0 x t.2 (t.3 n))
      ]
  read_kept (Maybe a) fine count m ts x i rest e =
      let f = and_parts (is_fine a) (not (nullable a)) fine in
      elim (chosen (starts (first a) ts) _ _ _ e) [
        | inl k ↦
            let p = bind_ok (read a m ts) _ x i rest k.1 in
            let d = done_is (Some p.0) x p.1 i p.2 rest p.4 in
            let t = read_kept a f.0 count m ts p.0 p.1 p.2 p.3 in (
              t.0,
              t.1 ∙ ap (λ (w : List Lexeme). t.0 ++ w) d.2,
              subst (Spells (Maybe a) t.0) d.0 t.2,
              λ n. subst (Keeps nestings max_nestings (Maybe a) n t.0) d.0 (keeps_some nestings max_nestings a n t.0 p.0 (t.3 n)),
            )
        | inr k ↦ let d = done_is None x m i ts rest k.1 in ([], d.2, subst (Spells (Maybe a) []) d.0 refl, λ n. nothing_kept n (Maybe a) x)
      ]
  read_kept (Many a) fine count m ts x i rest e =
      let f = and_three (is_fine a) (not (nullable a)) (apart (more a) (first a)) fine in
      repeated_kept a f.0 f.2 (read_kept a f.0 count) (length ts) m ts x i rest e
  read_kept (Fork ks a b c) fine count m ts x i rest e =
      let f = fork_is ks a b c fine in
      let g = fork_counted nestings ks a b c count in
      let p = bind_ok (read a max_nestings ts) _ x i rest e in
      let deep = last_nesting ks (length ts - length p.2) p.2 ts in
      let q = bind_ok (either_rest (first b) (read b) (first c) (charged deep (read c)) p.1 p.2) _ x i rest p.4 in
      let d = done_is (p.0, q.0) x q.1 i q.2 rest q.4 in
      let t = counts nestings a g.head max_nestings ts p.0 p.1 p.2 p.3 in
      elim (either_read (first b) (first c) (read b) (charged deep (read c)) p.1 p.2 q.0 q.1 q.2 q.3) [
        | inl k ↦
            let u = read_kept b f.one.0 g.one p.1 p.2 q.0 q.1 q.2 k in
            let parts : ts ≡ (t.0 ++ u.0) ++ rest = t.1 ∙ ap (λ (w : List Lexeme). t.0 ++ w) (u.1 ∙ ap (λ (w : List Lexeme). u.0 ++ w) d.2) ∙ sym (append_assoc t.0 u.0 rest) in (
              t.0 ++ u.0,
              parts,
              subst (Spells (Fork ks a b c) (t.0 ++ u.0)) d.0 (t.0, u.0, refl, t.2, inl u.2),
              λ n. subst (Keeps nestings max_nestings (Fork ks a b c) n (t.0 ++ u.0)) d.0 (keeps_list nestings max_nestings ks a b c f n n t.0 u.0 (p.0, q.0) t.2 u.2 (few_all nestings max_nestings 0 n t.0 (omega (arith, t.3))) (u.3 n) (omega arith)),
            )
        | inr k ↦
            let j = charged_read (read c) deep p.2 p.1 q.0 q.1 q.2 k in
            let u = counts nestings c g.two j.0 p.2 q.0 q.1 q.2 j.2 in
            let parts : ts ≡ (t.0 ++ u.0) ++ rest = t.1 ∙ ap (λ (w : List Lexeme). t.0 ++ w) (u.1 ∙ ap (λ (w : List Lexeme). u.0 ++ w) d.2) ∙ sym (append_assoc t.0 u.0 rest) in (
              t.0 ++ u.0,
              parts,
              subst (Spells (Fork ks a b c) (t.0 ++ u.0)) d.0 (t.0, u.0, refl, t.2, inr u.2),
              λ n. subst (Keeps nestings max_nestings (Fork ks a b c) n (t.0 ++ u.0)) d.0
                  (keeps_bracket nestings max_nestings ks a b c f n n t.0 u.0 (p.0, q.0) t.2 u.2 (few_all nestings max_nestings 1 n t.0 (omega (arith, t.3, j.1))) (few_all nestings max_nestings (suc (nestings_in nestings t.0)) n u.0 (omega (arith, t.3, j.1, u.3))) (omega arith)),
            )
      ]
