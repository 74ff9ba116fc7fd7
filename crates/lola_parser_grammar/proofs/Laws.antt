-- What is read is spelled so.
use Rattle.std.proofs.Common.{◌≡◌, ℕ, zero, suc, ◌-◌, Bool, true, false, cond, List, [], ◌∷◌, ◌++◌, length, Some, None, Ok, Err, refl, sym, ap, subst, ◌∙◌, append_assoc, inl, inr, ◌⊎◌}
use Rattle.lola_parser_grammar.specs.Syntax.{Lexeme, Terminal, fits, Syntax, Past, Token, Nesting, Whole, Known, Then, Map, Either, Maybe, Many, Fork, charged, either_rest, last_nesting, Repeats, Perhaps, Spells, starts, first, Outcome, Reader, ◌>>=◌, counted, max_nestings, repeated, read}

-- a step that did not fail
pub bind_ok : {A B : Type 0} (r : Outcome A) (f : A → Reader B) (y : B) (j : ℕ) (end : List Lexeme) → (r >>= f) ≡ Ok (y, j, end)
    → (x : A) × (i : ℕ) × (rest : List Lexeme) × (r ≡ Ok (x, i, rest)) × (f x i rest ≡ Ok (y, j, end))
bind_ok (Ok p) f y j end e = (p.0, p.1, p.2, refl, e)
bind_ok (Err d) f y j end e = absurd cc

abbrev pub done : {A : Type 0} → A → ℕ → List Lexeme → Outcome A
done x i rest = Ok (x, i, rest)

pub done_is : {A : Type 0} (x y : A) (i j : ℕ) (u v : List Lexeme) → done x i u ≡ done y j v → (x ≡ y) × (i ≡ j) × (u ≡ v)
done_is x y i j u v e =
    let p : (x, i, u) ≡ (y, j, v) = cc in
    (ap (λ (q : _ × ℕ × List Lexeme). q.0) p, ap (λ (q : _ × ℕ × List Lexeme). q.1) p, ap (λ (q : _ × ℕ × List Lexeme). q.2) p)

-- the test that chose
pub chosen : {A : Type 0} (b : Bool) (x y z : A) → cond b x y ≡ z → ((b ≡ true) × (x ≡ z)) ⊎ ((b ≡ false) × (y ≡ z))
chosen true x y z e = inl (refl, e)
chosen false x y z e = inr (refl, e)

-- it took a sentence from the front
abbrev pub Takes : {A : Type 0} → (List Lexeme → A → Type 0) → List Lexeme → A → List Lexeme → Type 0
Takes P ts x rest = (u : List Lexeme) × (ts ≡ u ++ rest) × P u x

abbrev pub IsSound : {A : Type 0} → Reader A → (List Lexeme → A → Type 0) → Type 0
IsSound {A} r P = (m : ℕ) (ts : List Lexeme) (x : A) (i : ℕ) (rest : List Lexeme) → r m ts ≡ Ok (x, i, rest) → Takes P ts x rest

repeated_sound : {A : Type 0} (r : Reader A) (P : List Lexeme → A → Type 0) (ks : List Terminal) (n : ℕ) → IsSound r P → IsSound (repeated r ks n) (Repeats P)
repeated_sound r P ks zero each m ts xs i rest e =
    let q = done_is [] xs m i ts rest e in
    ([], q.2, subst (Repeats P []) q.0 refl)
repeated_sound {A} r P ks (suc n) each m ts xs i rest e =
    elim (chosen (starts ks ts) _ _ _ e) [
      | inl c ↦
          let a = bind_ok (r m ts) _ xs i rest c.1 in
          let b = bind_ok (repeated r ks n a.1 a.2) _ xs i rest a.4 in
          let q = done_is (a.0 ∷ b.0) xs b.1 i b.2 rest b.4 in
          let t = each m ts a.0 a.1 a.2 a.3 in
          let u = repeated_sound r P ks n each a.1 a.2 b.0 b.1 b.2 b.3 in
          let parts : ts ≡ (t.0 ++ u.0) ++ rest = t.1 ∙ ap (λ (w : List Lexeme). t.0 ++ w) (u.1 ∙ ap (λ (w : List Lexeme). u.0 ++ w) q.2) ∙ sym (append_assoc t.0 u.0 rest) in
          (t.0 ++ u.0, parts, subst (Repeats P (t.0 ++ u.0)) q.0 (t.0, u.0, refl, t.2, u.2))
      | inr c ↦ let q = done_is [] xs m i ts rest c.1 in ([], q.2, subst (Repeats P []) q.0 refl)
    ]

one_taken : (k : Terminal) (t : Lexeme) (ts : List Lexeme) (x : Lexeme) (m i : ℕ) (rest : List Lexeme) → fits k t ≡ true → done t m ts ≡ done x i rest → Takes (λ u y. (u ≡ y ∷ []) × (fits k y ≡ true)) (t ∷ ts) x rest
one_taken k t ts x m i rest h e =
    let q = done_is t x m i ts rest e in
    (t ∷ [], ap (λ (w : List Lexeme). t ∷ w) q.2, (ap (λ (w : Lexeme). w ∷ []) q.0, subst (λ w. fits k w ≡ true) q.0 h))

pub counted_ok : (t : Lexeme) (m : ℕ) (ts : List Lexeme) (x : Lexeme) (i : ℕ) (rest : List Lexeme) → counted t m ts ≡ Ok (x, i, rest) → (j : ℕ) × (done t j ts ≡ done x i rest)
counted_ok t zero ts x i rest e = absurd cc
counted_ok t (suc m) ts x i rest e = (m, e)

charged_sound : {A : Type 0} (deep : List Lexeme) (r : Reader A) (P : List Lexeme → A → Type 0) → IsSound r P → IsSound (charged deep r) P
charged_sound deep r P one zero ts x i rest e = absurd cc
charged_sound deep r P one (suc m) ts x i rest e = one m ts x i rest e

rest_sound : {A : Type 0} (fs gs : List Terminal) (r s : Reader A) (P Q : List Lexeme → A → Type 0) → IsSound r P → IsSound s Q → IsSound (either_rest fs r gs s) (λ u x. P u x ⊎ Q u x)
rest_sound fs gs r s P Q one two m ts x i rest e =
    elim (chosen (starts fs ts) _ _ _ e) [
      | inl c ↦ let t = one m ts x i rest c.1 in (t.0, t.1, inl t.2)
      | inr c ↦ elim (chosen (starts gs ts) _ _ _ c.1) [ inl d ↦ let t = two m ts x i rest d.1 in (t.0, t.1, inr t.2) | inr d ↦ absurd (let w = d.1 in cc) ]
    ]

pub sound : {A : Type 0} (s : Syntax A) → IsSound (read s) (Spells s)
unfolding read Spells
sound (Past a) m ts x i rest e = absurd cc
sound (Token k) m [] x i rest e = absurd cc
sound (Token k) m (t ∷ ts) x i rest e =
    elim (chosen (fits k t) _ _ _ e) [ inl c ↦ one_taken k t ts x m i rest c.0 c.1 | inr c ↦ absurd cc ]
sound (Nesting k) m [] x i rest e = absurd cc
sound (Nesting k) m (t ∷ ts) x i rest e =
    elim (chosen (fits k t) _ _ _ e) [ inl c ↦ let d = counted_ok t m ts x i rest c.1 in one_taken k t ts x d.0 i rest c.0 d.1 | inr c ↦ absurd cc ]
sound (Whole a) m ts x i rest e = sound a max_nestings ts x i rest e
sound (Known fs ms a) m ts x i rest e = sound a m ts x i rest e
sound (Then a b) m ts x i rest e =
    let p = bind_ok (read a m ts) _ x i rest e in
    let q = bind_ok (read b p.1 p.2) _ x i rest p.4 in
    let d = done_is (p.0, q.0) x q.1 i q.2 rest q.4 in
    let t = sound a m ts p.0 p.1 p.2 p.3 in
    let u = sound b p.1 p.2 q.0 q.1 q.2 q.3 in
    let parts : ts ≡ (t.0 ++ u.0) ++ rest = t.1 ∙ ap (λ (w : List Lexeme). t.0 ++ w) (u.1 ∙ ap (λ (w : List Lexeme). u.0 ++ w) d.2) ∙ sym (append_assoc t.0 u.0 rest) in
    (t.0 ++ u.0, parts, subst (Spells (Then a b) (t.0 ++ u.0)) d.0 (t.0, u.0, refl, t.2, u.2))
sound (Map f a) m ts x i rest e =
    let p = bind_ok (read a m ts) _ x i rest e in
    let d = done_is (f p.0) x p.1 i p.2 rest p.4 in
    let t = sound a m ts p.0 p.1 p.2 p.3 in
    (t.0, t.1 ∙ ap (λ (w : List Lexeme). t.0 ++ w) d.2, (p.0, sym d.0, t.2))
sound (Either a b) m ts x i rest e =
    elim (chosen (starts (first a) ts) _ _ _ e) [
      | inl c ↦ let t = sound a m ts x i rest c.1 in (t.0, t.1, inl t.2)
      | inr c ↦ let t = sound b m ts x i rest c.1 in (t.0, t.1, inr t.2)
    ]
sound (Maybe a) m ts x i rest e =
    elim (chosen (starts (first a) ts) _ _ _ e) [
      | inl c ↦
          let p = bind_ok (read a m ts) _ x i rest c.1 in
          let d = done_is (Some p.0) x p.1 i p.2 rest p.4 in
          let t = sound a m ts p.0 p.1 p.2 p.3 in
          (t.0, t.1 ∙ ap (λ (w : List Lexeme). t.0 ++ w) d.2, subst (Perhaps (Spells a) t.0) d.0 t.2)
      | inr c ↦ let d = done_is None x m i ts rest c.1 in ([], d.2, subst (Perhaps (Spells a) []) d.0 refl)
    ]
sound (Many a) m ts x i rest e = repeated_sound (read a) (Spells a) (first a) (length ts) (sound a) m ts x i rest e
sound (Fork ks a b c) m ts x i rest e =
    let p = bind_ok (read a max_nestings ts) _ x i rest e in
    let d = last_nesting ks (length ts - length p.2) p.2 ts in
    let r = either_rest (first b) (read b) (first c) (charged d (read c)) in
    let q = bind_ok (r p.1 p.2) _ x i rest p.4 in
    let f = done_is (p.0, q.0) x q.1 i q.2 rest q.4 in
    let t = sound a max_nestings ts p.0 p.1 p.2 p.3 in
    let u = rest_sound (first b) (first c) (read b) (charged d (read c)) (Spells b) (Spells c) (sound b) (charged_sound d (read c) (Spells c) (sound c)) p.1 p.2 q.0 q.1 q.2 q.3 in
    let parts : ts ≡ (t.0 ++ u.0) ++ rest = t.1 ∙ ap (λ (w : List Lexeme). t.0 ++ w) (u.1 ∙ ap (λ (w : List Lexeme). u.0 ++ w) f.2) ∙ sym (append_assoc t.0 u.0 rest) in
    (t.0 ++ u.0, parts, subst (Spells (Fork ks a b c) (t.0 ++ u.0)) f.0 (t.0, u.0, refl, t.2, u.2))
