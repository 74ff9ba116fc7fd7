-- What was read before the token that does not fit begins a sentence.
use Rattle.std.proofs.Common.{◌≡◌, ℕ, zero, suc, ◌+◌, ◌-◌, ◌≤◌, true, false, not, arith, List, [], ◌∷◌, ◌++◌, length, Some, None, Ok, Err, refl, sym, ap, ◌∙◌, append_assoc, inl, inr, ◌⊎◌}
use Rattle.std.proofs.lemmas.List.{append-nil}
use Rattle.std.specs.Str.{bytes_eq}
use Rattle.std.proofs.lemmas.Slice.Eq.{bytes_eq-Decides}
use Rattle.std.proofs.lemmas.Bool.{or_cases, false_from_ne_true}
use Rattle.lola_lexer.specs.declared.shape.TokenShape.TheVariants as is
use Rattle.lola_parser_grammar.specs.Syntax.{Lexeme, Terminal, Of, Word, Other, is_among, fits, Syntax, Past, Token, Nesting, Whole, Known, Then, Map, Either, Maybe, Many, Fork, charged, either_rest, last_nesting, Repeats, Spells, starts, first, Refusal, Unexpected, TooDeep, Outcome, Reader, ◌>>=◌, counted, max_nestings, repeated, read}
use Rattle.lola_parser_grammar.proofs.Laws.{chosen, IsSound, sound}
use Rattle.lola_parser_grammar.proofs.Tests.{shapes_same}

-- each part has a sentence
abbrev pub Sample : {A : Type 0} → Syntax A → Type 0
Sample {A} s = (w : List Lexeme) × (x : A) × Spells s w x

-- a name that is none of some words: one that is longer than all of them together
total : List (List ℕ) → ℕ
total [] = 0
total (w ∷ ws) = length w + total ws

short_of : (w : List ℕ) (ws : List (List ℕ)) → is_among w ws ≡ true → length w ≤ total ws
unfolding total
short_of w [] h = absurd cc
short_of w (v ∷ vs) h =
    elim (or_cases (bytes_eq v w) (is_among w vs) h) [
      | inl e ↦ omega (arith, ap length ((bytes_eq-Decides v w).0 e))
      | inr e ↦ omega (arith, short_of w vs e)
    ]

zeros : ℕ → List ℕ
zeros zero = []
zeros (suc n) = 0 ∷ zeros n

length-zeros : (n : ℕ) → length (zeros n) ≡ n
unfolding zeros
length-zeros zero = refl
length-zeros (suc n) = omega (arith, length-zeros n)

fresh_is : (ws : List (List ℕ)) → not (is_among (zeros (suc (total ws))) ws) ≡ true
fresh_is ws =
    let none : is_among (zeros (suc (total ws))) ws ≡ false = false_from_ne_true (is_among (zeros (suc (total ws))) ws) (λ e. omega (arith, short_of (zeros (suc (total ws))) ws e, length-zeros (suc (total ws)))) in
    rw none refl

one_token : (k : Terminal) → (t : Lexeme) × (fits k t ≡ true)
unfolding fits
one_token (Of s) = (record { shape = s; text = []; from = 0; to = 0 }, shapes_same s s refl)
one_token (Word w) = (record { shape = is.Name; text = w; from = 0; to = 0 }, rw (shapes_same is.Name is.Name refl) ((bytes_eq-Decides w w).1 refl))
one_token (Other ws) = (record { shape = is.Name; text = zeros (suc (total ws)); from = 0; to = 0 }, rw (shapes_same is.Name is.Name refl) (fresh_is ws))

pub sample : {A : Type 0} (s : Syntax A) → Sample s
unfolding Spells
sample (Past a) = sample a
sample (Token k) = let p = one_token k in (p.0 ∷ [], p.0, (refl, p.1))
sample (Nesting k) = let p = one_token k in (p.0 ∷ [], p.0, (refl, p.1))
sample (Whole a) = sample a
sample (Known fs ms a) = sample a
sample (Then a b) = let p = sample a in let q = sample b in (p.0 ++ q.0, (p.1, q.1), (p.0, q.0, refl, p.2, q.2))
sample (Map f a) = let p = sample a in (p.0, f p.1, (p.1, refl, p.2))
sample (Either a b) = let p = sample a in (p.0, p.1, inl p.2)
sample (Maybe a) = ([], None, refl)
sample (Many a) = ([], [], refl)
sample (Fork ks a b c) = let p = sample a in let q = sample b in (p.0 ++ q.0, (p.1, q.1), (p.0, q.0, refl, p.2, inl q.2))

abbrev pub IsViable : {A : Type 0} → (List Lexeme → A → Type 0) → List Lexeme → List Lexeme → Type 0
IsViable {A} P ts rest = (u : List Lexeme) × (ts ≡ u ++ rest) × (v : List Lexeme) × (x : A) × P (u ++ v) x

abbrev GoesOn : {A : Type 0} → Reader A → (List Lexeme → A → Type 0) → Type 0
GoesOn r P = (m : ℕ) (ts rest : List Lexeme) → r m ts ≡ Err (Unexpected rest) → IsViable P ts rest

-- a step that failed
pub bind_err : {A B : Type 0} (o : Outcome A) (f : A → Reader B) (d : Refusal) → (o >>= f) ≡ Err d → (o ≡ Err d) ⊎ ((x : A) × (i : ℕ) × (mid : List Lexeme) × (o ≡ Ok (x, i, mid)) × (f x i mid ≡ Err d))
bind_err (Ok p) f d h = inr (p.0, p.1, p.2, refl, h)
bind_err (Err c) f d h = inl (let e : c ≡ d = cc in ap (λ x. Err x) e)

repeated_viable : {A : Type 0} (r : Reader A) (P : List Lexeme → A → Type 0) (ks : List Terminal) → IsSound r P → GoesOn r P → (n : ℕ) → GoesOn (repeated r ks n) (Repeats P)
repeated_viable r P ks sure goes zero m ts rest h = absurd cc
repeated_viable {A} r P ks sure goes (suc n) m ts rest h =
    elim (chosen (starts ks ts) _ _ _ h) [
      | inl c ↦
          elim (bind_err (r m ts) _ (Unexpected rest) c.1) [
            | inl e ↦
                let p = goes m ts rest e in
                (p.0, p.1, p.2, p.3 ∷ [], (p.0 ++ p.2, [], sym (append-nil (p.0 ++ p.2)), p.4, refl))
            | inr q ↦
                elim (bind_err (repeated r ks n q.1 q.2) _ (Unexpected rest) q.4) [
                  | inl e ↦
                      let p = repeated_viable r P ks sure goes n q.1 q.2 rest e in
                      let t = sure m ts q.0 q.1 q.2 q.3 in
                      let parts : ts ≡ (t.0 ++ p.0) ++ rest = t.1 ∙ ap (λ (w : List Lexeme). t.0 ++ w) p.1 ∙ sym (append_assoc t.0 p.0 rest) in
                      (t.0 ++ p.0, parts, p.2, q.0 ∷ p.3, (t.0, p.0 ++ p.2, append_assoc t.0 p.0 p.2, t.2, p.4))
                  | inr z ↦ absurd (let d = z.4 in cc)
                ]
          ]
      | inr c ↦ absurd (let d = c.1 in cc)
    ]

counted_goes : (t : Lexeme) (m : ℕ) (ts rest : List Lexeme) → counted t m ts ≡ Err (Unexpected rest) → ⊥
counted_goes t zero ts rest h = let e : TooDeep (t ∷ ts) ≡ Unexpected rest = cc in absurd cc
counted_goes t (suc m) ts rest h = absurd cc

charged_viable : {A : Type 0} (deep : List Lexeme) (r : Reader A) (P : List Lexeme → A → Type 0) → GoesOn r P → GoesOn (charged deep r) P
charged_viable deep r P goes zero ts rest h = absurd (let e : TooDeep deep ≡ Unexpected rest = cc in cc)
charged_viable deep r P goes (suc m) ts rest h = goes m ts rest h

rest_viable : {A : Type 0} (fs gs : List Terminal) (r s : Reader A) (P Q : List Lexeme → A → Type 0) → GoesOn r P → GoesOn s Q → ((w : List Lexeme) × (x : A) × P w x) → GoesOn (either_rest fs r gs s) (λ u x. P u x ⊎ Q u x)
rest_viable fs gs r s P Q one two any m ts rest h =
    elim (chosen (starts fs ts) _ _ _ h) [
      | inl c ↦ let p = one m ts rest c.1 in (p.0, p.1, p.2, p.3, inl p.4)
      | inr c ↦
          elim (chosen (starts gs ts) _ _ _ c.1) [
            | inl d ↦ let p = two m ts rest d.1 in (p.0, p.1, p.2, p.3, inr p.4)
            | inr d ↦ let e : ts ≡ rest = (let w = d.1 in let v : Unexpected ts ≡ Unexpected rest = cc in cc) in ([], e, any.0, any.1, inl any.2)
          ]
    ]

pub viable : {A : Type 0} (s : Syntax A) → GoesOn (read s) (Spells s)
unfolding read Spells
viable (Past a) m ts rest h = absurd (let e : TooDeep ts ≡ Unexpected rest = cc in cc)
viable (Token k) m [] rest h = let e : [] ≡ rest = (let d : Unexpected [] ≡ Unexpected rest = cc in cc) in let p = one_token k in ([], e, p.0 ∷ [], p.0, (refl, p.1))
viable (Token k) m (t ∷ ts) rest h =
    elim (chosen (fits k t) _ _ _ h) [
      | inl c ↦ absurd (let d = c.1 in cc)
      | inr c ↦ let e : t ∷ ts ≡ rest = (let d = c.1 in cc) in let p = one_token k in ([], e, p.0 ∷ [], p.0, (refl, p.1))
    ]
viable (Nesting k) m [] rest h = let e : [] ≡ rest = (let d : Unexpected [] ≡ Unexpected rest = cc in cc) in let p = one_token k in ([], e, p.0 ∷ [], p.0, (refl, p.1))
viable (Nesting k) m (t ∷ ts) rest h =
    elim (chosen (fits k t) _ _ _ h) [
      | inl c ↦ absurd (counted_goes t m ts rest c.1)
      | inr c ↦ let e : t ∷ ts ≡ rest = (let d = c.1 in cc) in let p = one_token k in ([], e, p.0 ∷ [], p.0, (refl, p.1))
    ]
viable (Whole a) m ts rest h = viable a max_nestings ts rest h
viable (Known fs ms a) m ts rest h = viable a m ts rest h
viable (Then a b) m ts rest h =
    elim (bind_err (read a m ts) _ (Unexpected rest) h) [
      | inl e ↦
          let p = viable a m ts rest e in
          let q = sample b in
          (p.0, p.1, p.2 ++ q.0, (p.3, q.1), (p.0 ++ p.2, q.0, sym (append_assoc p.0 p.2 q.0), p.4, q.2))
      | inr q ↦
          elim (bind_err (read b q.1 q.2) _ (Unexpected rest) q.4) [
            | inl e ↦
                let p = viable b q.1 q.2 rest e in
                let t = sound a m ts q.0 q.1 q.2 q.3 in
                let parts : ts ≡ (t.0 ++ p.0) ++ rest = t.1 ∙ ap (λ (w : List Lexeme). t.0 ++ w) p.1 ∙ sym (append_assoc t.0 p.0 rest) in
                (t.0 ++ p.0, parts, p.2, (q.0, p.3), (t.0, p.0 ++ p.2, append_assoc t.0 p.0 p.2, t.2, p.4))
            | inr z ↦ absurd (let d = z.4 in cc)
          ]
    ]
viable (Map f a) m ts rest h =
    elim (bind_err (read a m ts) _ (Unexpected rest) h) [
      | inl e ↦ let p = viable a m ts rest e in (p.0, p.1, p.2, f p.3, (p.3, refl, p.4))
      | inr z ↦ absurd (let d = z.4 in cc)
    ]
viable (Either a b) m ts rest h =
    elim (chosen (starts (first a) ts) _ _ _ h) [
      | inl c ↦ let p = viable a m ts rest c.1 in (p.0, p.1, p.2, p.3, inl p.4)
      | inr c ↦ let p = viable b m ts rest c.1 in (p.0, p.1, p.2, p.3, inr p.4)
    ]
viable (Maybe a) m ts rest h =
    elim (chosen (starts (first a) ts) _ _ _ h) [
      | inl c ↦
          elim (bind_err (read a m ts) _ (Unexpected rest) c.1) [
            | inl e ↦ let p = viable a m ts rest e in (p.0, p.1, p.2, Some p.3, p.4)
            | inr z ↦ absurd (let d = z.4 in cc)
          ]
      | inr c ↦ absurd (let d = c.1 in cc)
    ]
viable (Many a) m ts rest h = repeated_viable (read a) (Spells a) (first a) (sound a) (viable a) (length ts) m ts rest h
viable (Fork ks a b c) m ts rest h =
    elim (bind_err (read a max_nestings ts) _ (Unexpected rest) h) [
      | inl e ↦
          let p = viable a max_nestings ts rest e in
          let q = sample b in
          (p.0, p.1, p.2 ++ q.0, (p.3, q.1), (p.0 ++ p.2, q.0, sym (append_assoc p.0 p.2 q.0), p.4, inl q.2))
      | inr q ↦
          let d = last_nesting ks (length ts - length q.2) q.2 ts in
          elim (bind_err (either_rest (first b) (read b) (first c) (charged d (read c)) q.1 q.2) _ (Unexpected rest) q.4) [
            | inl e ↦
                let p = rest_viable (first b) (first c) (read b) (charged d (read c)) (Spells b) (Spells c) (viable b) (charged_viable d (read c) (Spells c) (viable c)) (sample b) q.1 q.2 rest e in
                let t = sound a max_nestings ts q.0 q.1 q.2 q.3 in
                let parts : ts ≡ (t.0 ++ p.0) ++ rest = t.1 ∙ ap (λ (w : List Lexeme). t.0 ++ w) p.1 ∙ sym (append_assoc t.0 p.0 rest) in
                (t.0 ++ p.0, parts, p.2, (q.0, p.3), (t.0, p.0 ++ p.2, append_assoc t.0 p.0 p.2, t.2, p.4))
            | inr z ↦ absurd (let w = z.4 in cc)
          ]
    ]
