-- Words are cut in one way.
use Rattle.std.proofs.Common.{◌≡◌, ◌≢◌, ℕ, zero, suc, ◌<◌, List, [], ◌∷◌, ◌++◌, Bool, true, not, Option, refl, sym, ap, subst, ◌∙◌, arith, append-nil, length, drop, get_or, decimal}
use Rattle.std.specs.Prelude.{nat_eq, nat_lt, IsTrue, ◌↔◌}
use Rattle.std.specs.List.{list_all}
use Rattle.std.proofs.lemmas.Bool.{and_from, and_parts, eqb-true, ltb-true, ne_eqb}
use Rattle.lola_value.specs.declared.text.Field.{Field}
use Rattle.lola_report.proofs.Mild.{decimal_mild, is_mild}
use Rattle.lola_panes.specs.declared.partial.Partial.{Partial}
use Rattle.lola_save_text.specs.Lines.{partials_text, time_or_dash, values_text, word}
use Rattle.lola_save_text.proofs.SameCuts.{Stops, cut-same}
use Rattle.lola_save_text.proofs.SameLines.{dash-mild}
use Rattle.lola_save_read.specs.Words.{IsBehindName, IsBehindNumber, IsNextWord, IsWordCut, IsWordEnd, is_no_space}

mild-byte : (b : ℕ) → is_mild b ≡ true → is_no_space b ≡ true
mild-byte b e =
    let high : 34 < b = ltb-true 34 b (and_parts (nat_lt 34 b) (not (nat_eq b 44)) e).0 in
    ap not (ne_eqb b 32 (λ f. absurd (omega (arith, high, f))))

pub no-space : (t : List ℕ) → list_all is_mild t ≡ true → list_all is_no_space t ≡ true
no-space [] e = refl
no-space (b ∷ t) e =
    let p = and_parts (is_mild b) (list_all is_mild t) e in
    and_from (is_no_space b) (list_all is_no_space t) (mild-byte b p.0) (no-space t p.1)

pub end-stop : (u : List ℕ) → IsWordEnd u → Stops is_no_space u
end-stop [] e = tt
end-stop (b ∷ bs) e = ap is_no_space e

pub end-mild : (u : List ℕ) → IsWordEnd u → Stops is_mild u
end-mild [] e = tt
end-mild (b ∷ bs) e = ap is_mild e

pub values-end : (vs : List Field) → IsWordEnd (values_text vs)
values-end [] = tt
values-end (v ∷ vs) = refl

pub partials-end : (qs : List Partial) → IsWordEnd (partials_text qs)
partials-end [] = tt
partials-end (q ∷ qs) = refl

pub word-same : (w v u s : List ℕ) → list_all is_no_space w ≡ true → list_all is_no_space v ≡ true → IsWordEnd u → IsWordEnd s → w ++ u ≡ v ++ s → (w ≡ v) × (u ≡ s)
word-same w v u s a b x y e = cut-same is_no_space w v u s a b (end-stop u x) (end-stop s y) e

-- where a space stands
pub end-at : (xs : List ℕ) (i : ℕ) → i < length xs → get_or xs i 0 ≡ 32 → IsWordEnd (drop i xs)
end-at [] i l e = absurd (omega arith)
end-at (x ∷ xs) zero l e = e
end-at (x ∷ xs) (suc i) l e = end-at xs i (omega arith) e

-- the next word

pub next-there : (bytes left front rest : List ℕ) → bytes ≡ 32 ∷ left → IsWordCut left front rest → IsNextWord bytes front rest
next-there bytes left front rest e c = record { whole = e ∙ ap (λ (t : List ℕ). 32 ∷ t) c.whole; plain = c.plain; ends = c.ends }

pub next-none : (bytes : List ℕ) → ((rest : List ℕ) → bytes ≢ 32 ∷ rest) → (front rest : List ℕ) → IsNextWord bytes front rest → ⊥
next-none bytes never front rest n = never (front ++ rest) n.whole

pub next-same : (bytes w r v s : List ℕ) → IsNextWord bytes w r → IsNextWord bytes v s → (w ≡ v) × (r ≡ s)
next-same bytes w r v s a b =
    let f : 32 ∷ (w ++ r) ≡ 32 ∷ (v ++ s) = sym a.whole ∙ b.whole in
    let g : w ++ r ≡ v ++ s = cc f in
    word-same w v r s a.plain b.plain a.ends b.ends g

-- the end of a word

pub end-first : (bytes : List ℕ) (first : ℕ) (rest : List ℕ) (r : Bool) → bytes ≡ first ∷ rest → r ≡ nat_eq first 32 → IsTrue r ↔ IsWordEnd bytes
end-first bytes first rest r e f =
    (λ t. subst IsWordEnd (sym e) (eqb-true first 32 (sym f ∙ t)), λ w. let h : first ≡ 32 = subst IsWordEnd e w in f ∙ ap (λ n. nat_eq n 32) h)

pub end-none : (bytes : List ℕ) → bytes ≡ [] → IsTrue true ↔ IsWordEnd bytes
end-none bytes e = (λ _. subst IsWordEnd (sym e) tt, λ _. refl)

-- the name of a line

pub name-there : (name body w rest : List ℕ) → IsWordCut body w rest → w ≡ name → IsBehindName name body rest
name-there name body w rest c e = record { whole = c.whole ∙ ap (λ (t : List ℕ). t ++ rest) e; ends = c.ends }

pub name-other : (name body w left : List ℕ) → list_all is_no_space name ≡ true → IsWordCut body w left → (w ≡ name → ⊥) → (rest : List ℕ) → IsBehindName name body rest → ⊥
name-other name body w left plain c never rest b = never (word-same w name left rest c.plain plain c.ends b.ends (sym c.whole ∙ b.whole)).0

pub name-same : (name body r s : List ℕ) → list_all is_no_space name ≡ true → IsBehindName name body r → IsBehindName name body s → r ≡ s
name-same name body r s plain a b = (word-same name name r s plain plain a.ends b.ends (sym a.whole ∙ b.whole)).1

-- a number

pub digits-plain : (n : ℕ) → list_all is_no_space (decimal n) ≡ true
digits-plain n = no-space (decimal n) (decimal_mild n)

pub dash-plain : (o : Option ℕ) → list_all is_no_space (time_or_dash o) ≡ true
dash-plain o = no-space (time_or_dash o) (dash-mild o)

number-next : (n : ℕ) (bytes rest : List ℕ) → IsBehindNumber n bytes rest → IsNextWord bytes (decimal n) rest
number-next n bytes rest b = record { whole = b.whole; plain = digits-plain n; ends = b.ends }

pub number-none : (n : ℕ) (bytes : List ℕ) → ((front rest : List ℕ) → IsNextWord bytes front rest → ⊥) → (rest : List ℕ) → IsBehindNumber n bytes rest → ⊥
number-none n bytes never rest b = never (decimal n) rest (number-next n bytes rest b)

pub number-other : (n : ℕ) (bytes w left : List ℕ) → IsNextWord bytes w left → (w ≡ decimal n → ⊥) → (rest : List ℕ) → IsBehindNumber n bytes rest → ⊥
number-other n bytes w left a never rest b = never (next-same bytes w left (decimal n) rest a (number-next n bytes rest b)).0

pub number-there : (n : ℕ) (bytes w left : List ℕ) → IsNextWord bytes w left → w ≡ decimal n → IsBehindNumber n bytes left
number-there n bytes w left a e = record { whole = a.whole ∙ ap (λ (t : List ℕ). 32 ∷ (t ++ left)) e; ends = a.ends }

pub number-same : (n : ℕ) (bytes r s : List ℕ) → IsBehindNumber n bytes r → IsBehindNumber n bytes s → r ≡ s
number-same n bytes r s a b = (next-same bytes (decimal n) r (decimal n) s (number-next n bytes r a) (number-next n bytes s b)).1

-- a number alone

alone-next : (n : ℕ) (bytes : List ℕ) → bytes ≡ word (decimal n) → IsNextWord bytes (decimal n) []
alone-next n bytes e = record { whole = e ∙ ap (λ (t : List ℕ). 32 ∷ t) (sym (append-nil (decimal n))); plain = digits-plain n; ends = tt }

pub alone-none : (n : ℕ) (bytes : List ℕ) → ((front rest : List ℕ) → IsNextWord bytes front rest → ⊥) → bytes ≢ word (decimal n)
alone-none n bytes never e = never (decimal n) [] (alone-next n bytes e)

pub alone-more : (n : ℕ) (bytes w left : List ℕ) → IsNextWord bytes w left → (left ≡ [] → ⊥) → bytes ≢ word (decimal n)
alone-more n bytes w left a some e = some (next-same bytes w left (decimal n) [] a (alone-next n bytes e)).1

pub alone-same : (n : ℕ) (bytes w left : List ℕ) → IsNextWord bytes w left → bytes ≡ word (decimal n) → w ≡ decimal n
alone-same n bytes w left a e = (next-same bytes w left (decimal n) [] a (alone-next n bytes e)).0

pub alone-there : (n : ℕ) (bytes w left : List ℕ) → IsNextWord bytes w left → left ≡ [] → w ≡ decimal n → bytes ≡ word (decimal n)
alone-there n bytes w left a e f = a.whole ∙ ap (λ (t : List ℕ). 32 ∷ (w ++ t)) e ∙ ap (λ (t : List ℕ). 32 ∷ t) (append-nil w ∙ f)
