-- Each byte of a text between quotes is spelled in one way.
use Rattle.std.proofs.Common.{◌≡◌, ◌≢◌, ℕ, ◌<◌, List, [], ◌∷◌, ◌++◌, Option, Some, None, refl, sym, ap, ◌∙◌, arith, append_assoc, append-nil, flat_map, length}
use Rattle.std.proofs.lemmas.Grind.{flat_map-append}
use Rattle.lola_model.specs.Texts.{escaped, letter_of, quoted}
use Rattle.lola_save_text.proofs.Quotes.{quoted-same}

-- the spelling of a byte, where a letter stands for it or none does
abbrev spelled : ℕ → Option ℕ → List ℕ
spelled b None = b ∷ []
spelled b (Some c) = 92 ∷ c ∷ []

as-spelled : (b : ℕ) (o : Option ℕ) → letter_of b ≡ o → escaped b ≡ spelled b o
as-spelled b None e = ap (λ (o : Option ℕ). elim o [ None ↦ b ∷ [] | Some c ↦ 92 ∷ c ∷ [] ]) e
as-spelled b (Some c) e = ap (λ (o : Option ℕ). elim o [ None ↦ b ∷ [] | Some c ↦ 92 ∷ c ∷ [] ]) e

-- a byte that stands for itself is no quote and no backslash
no-quote : (b : ℕ) → letter_of b ≡ None → b ≡ 34 → ⊥
no-quote b e f = let g : None ≡ Some 34 = sym e ∙ ap letter_of f in cc g

no-backslash : (b : ℕ) → letter_of b ≡ None → b ≡ 92 → ⊥
no-backslash b e f = let g : None ≡ Some 92 = sym e ∙ ap letter_of f in cc g

pub same-byte : (b c : ℕ) → escaped b ≡ escaped c → b ≡ c
same-byte b c e =
    let f : quoted (b ∷ []) ++ [] ≡ quoted (c ∷ []) ++ [] = ap (λ (l : List ℕ). (34 ∷ ((l ++ []) ++ (34 ∷ []))) ++ []) e in
    let g = (quoted-same (b ∷ []) (c ∷ []) [] [] f).0 in
    cc g

pub no-quote-first : (b : ℕ) (u v : List ℕ) → escaped b ++ u ≡ 34 ∷ v → ⊥
no-quote-first b u v e = by (letter_of b) refl
  where
    by : (o : Option ℕ) → letter_of b ≡ o → ⊥
    by None f =
        let g : b ∷ u ≡ 34 ∷ v = sym (ap (λ (t : List ℕ). t ++ u) (as-spelled b None f)) ∙ e in
        let h : b ≡ 34 = cc g in
        no-quote b f h
    by (Some c) f =
        let g : 92 ∷ c ∷ u ≡ 34 ∷ v = sym (ap (λ (t : List ℕ). t ++ u) (as-spelled b (Some c) f)) ∙ e in
        let h : ◌≡◌ {A = ℕ} 92 34 = cc g in
        omega (arith, h)

-- spellings with what stands behind them
pub escaped-cut : (b c : ℕ) (u v : List ℕ) → escaped b ++ u ≡ escaped c ++ v → (b ≡ c) × (u ≡ v)
escaped-cut b c u v e = by (letter_of b) (letter_of c) refl refl
  where
    by : (o p : Option ℕ) → letter_of b ≡ o → letter_of c ≡ p → (b ≡ c) × (u ≡ v)
    by o p f g = cases o p f g (sym (ap (λ (t : List ℕ). t ++ u) (as-spelled b o f)) ∙ e ∙ ap (λ (t : List ℕ). t ++ v) (as-spelled c p g))
      where
        cases : (o p : Option ℕ) → letter_of b ≡ o → letter_of c ≡ p → spelled b o ++ u ≡ spelled c p ++ v → (b ≡ c) × (u ≡ v)
        cases None None f g h = let x : b ≡ c = cc h in let y : u ≡ v = cc h in (x, y)
        cases None (Some y) f g h = let x : b ≡ 92 = cc h in absurd (no-backslash b f x)
        cases (Some x) None f g h = let y : 92 ≡ c = cc h in absurd (no-backslash c g (sym y))
        cases (Some x) (Some y) f g h =
            let z : x ≡ y = cc h in
            let w : u ≡ v = cc h in
            (same-byte b c (as-spelled b (Some x) f ∙ ap (λ n. 92 ∷ n ∷ []) z ∙ sym (as-spelled c (Some y) g)), w)

-- one step of a reader

pub no-letter : (letter : ℕ) (rest : List ℕ) → ((b : ℕ) → escaped b ≢ 92 ∷ letter ∷ []) → (b : ℕ) (u : List ℕ) → 92 ∷ letter ∷ rest ≡ escaped b ++ u → ⊥
no-letter letter rest never b u e = by (letter_of b) refl
  where
    by : (o : Option ℕ) → letter_of b ≡ o → ⊥
    by None f =
        let g : 92 ∷ letter ∷ rest ≡ b ∷ u = e ∙ ap (λ (t : List ℕ). t ++ u) (as-spelled b None f) in
        let h : 92 ≡ b = cc g in
        no-backslash b f (sym h)
    by (Some c) f =
        let g : 92 ∷ letter ∷ rest ≡ 92 ∷ c ∷ u = e ∙ ap (λ (t : List ℕ). t ++ u) (as-spelled b (Some c) f) in
        let h : letter ≡ c = cc g in
        never b (as-spelled b (Some c) f ∙ ap (λ n. 92 ∷ n ∷ []) (sym h))

pub backslash-alone : (b : ℕ) (u : List ℕ) → 92 ∷ [] ≡ escaped b ++ u → ⊥
backslash-alone b u e = by (letter_of b) refl
  where
    by : (o : Option ℕ) → letter_of b ≡ o → ⊥
    by None f =
        let g : 92 ∷ [] ≡ b ∷ u = e ∙ ap (λ (t : List ℕ). t ++ u) (as-spelled b None f) in
        let h : 92 ≡ b = cc g in
        no-backslash b f (sym h)
    by (Some c) f =
        let g : 92 ∷ [] ≡ 92 ∷ c ∷ u = e ∙ ap (λ (t : List ℕ). t ++ u) (as-spelled b (Some c) f) in
        cc g

pub no-plain : (byte : ℕ) (rest : List ℕ) → (byte ≡ 92 → ⊥) → (escaped byte ≡ byte ∷ [] → ⊥) → (b : ℕ) (u : List ℕ) → byte ∷ rest ≡ escaped b ++ u → ⊥
no-plain byte rest slash never b u e = by (letter_of b) refl
  where
    by : (o : Option ℕ) → letter_of b ≡ o → ⊥
    by None f =
        let g : byte ∷ rest ≡ b ∷ u = e ∙ ap (λ (t : List ℕ). t ++ u) (as-spelled b None f) in
        let h : byte ≡ b = cc g in
        never (ap escaped h ∙ as-spelled b None f ∙ ap (λ n. n ∷ []) (sym h))
    by (Some c) f =
        let g : byte ∷ rest ≡ 92 ∷ c ∷ u = e ∙ ap (λ (t : List ℕ). t ++ u) (as-spelled b (Some c) f) in
        let h : byte ≡ 92 = cc g in
        slash h

pub no-bytes : (b : ℕ) (u : List ℕ) → [] ≡ escaped b ++ u → ⊥
no-bytes b u e = by (letter_of b) refl
  where
    by : (o : Option ℕ) → letter_of b ≡ o → ⊥
    by None f = let g : [] ≡ b ∷ u = e ∙ ap (λ (t : List ℕ). t ++ u) (as-spelled b None f) in cc g
    by (Some c) f = let g : [] ≡ 92 ∷ c ∷ u = e ∙ ap (λ (t : List ℕ). t ++ u) (as-spelled b (Some c) f) in cc g

pub is-shorter : (b : ℕ) (left rest : List ℕ) → left ≡ escaped b ++ rest → length rest < length left
is-shorter b left rest e = by (letter_of b) refl
  where
    by : (o : Option ℕ) → letter_of b ≡ o → length rest < length left
    by None f = let g : left ≡ b ∷ rest = e ∙ ap (λ (t : List ℕ). t ++ rest) (as-spelled b None f) in let h = ap length g in omega (arith, h)
    by (Some c) f = let g : left ≡ 92 ∷ c ∷ rest = e ∙ ap (λ (t : List ℕ). t ++ rest) (as-spelled b (Some c) f) in let h = ap length g in omega (arith, h)

-- a text up to its closing quote

pub text-goes : (r t left u : List ℕ) → flat_map escaped r ++ left ≡ flat_map escaped t ++ (34 ∷ u) → (more : List ℕ) × (left ≡ flat_map escaped more ++ (34 ∷ u))
text-goes [] t left u e = (t, e)
text-goes (x ∷ r) [] left u e = absurd (no-quote-first x (flat_map escaped r ++ left) u (sym (append_assoc (escaped x) (flat_map escaped r) left) ∙ e))
text-goes (x ∷ r) (y ∷ t) left u e =
    let f = sym (append_assoc (escaped x) (flat_map escaped r) left) ∙ e ∙ append_assoc (escaped y) (flat_map escaped t) (34 ∷ u) in
    text-goes r t left u (escaped-cut x y (flat_map escaped r ++ left) (flat_map escaped t ++ (34 ∷ u)) f).1

pub no-text : (bytes room left : List ℕ) → bytes ≡ flat_map escaped room ++ left → ((rest : List ℕ) → left ≢ 34 ∷ rest) → ((b : ℕ) (rest : List ℕ) → left ≢ escaped b ++ rest)
    → (text rest : List ℕ) → bytes ≢ flat_map escaped text ++ (34 ∷ rest)
no-text bytes room left e quote byte text rest f = by g.0 g.1
  where
    g : (more : List ℕ) × (left ≡ flat_map escaped more ++ (34 ∷ rest))
    g = text-goes room text left rest (sym e ∙ f)

    by : (more : List ℕ) → left ≡ flat_map escaped more ++ (34 ∷ rest) → ⊥
    by [] h = quote rest h
    by (m ∷ more) h = byte m (flat_map escaped more ++ (34 ∷ rest)) (h ∙ append_assoc (escaped m) (flat_map escaped more) (34 ∷ rest))

pub one-more : (bytes room left rest : List ℕ) (b : ℕ) → bytes ≡ flat_map escaped room ++ left → left ≡ escaped b ++ rest → bytes ≡ flat_map escaped (room ++ (b ∷ [])) ++ rest
one-more bytes room left rest b e f =
    e ∙ ap (λ (t : List ℕ). flat_map escaped room ++ t) f ∙ sym (append_assoc (flat_map escaped room) (escaped b) rest)
    ∙ ap (λ (t : List ℕ). (flat_map escaped room ++ t) ++ rest) (sym (append-nil (escaped b))) ∙ ap (λ (t : List ℕ). t ++ rest) (sym (flat_map-append escaped room (b ∷ [])))

-- a text between quotes
pub quoted-split : (text rest : List ℕ) → quoted text ++ rest ≡ 34 ∷ (flat_map escaped text ++ (34 ∷ rest))
quoted-split text rest = ap (λ (t : List ℕ). 34 ∷ t) (append_assoc (flat_map escaped text) (34 ∷ []) rest)
