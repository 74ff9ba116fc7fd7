-- The texts that are held and their numbers, as texts come and go.
use Rattle.std.proofs.Common.{◌≡◌, ℕ, ◌+◌, ◌≤◌, Bool, true, false, List, [], ◌∷◌, ◌++◌, Option, Some, None, option_map, filter, nat_eq, refl, sym, ap, ◌∙◌, arith, inl, inr, ◌⊎◌}
use Rattle.std.specs.Cmp.Lexicographic.{pointwise}
use Rattle.std.specs.Map.{lookup}
use Rattle.std.proofs.lemmas.Bool.{cases_Bool, eqb-true, eq-eqb, ne_eqb}
use Rattle.lola_value.specs.Arithmetic.{bytes_equal}
use Rattle.lola_value.specs.Naming.{IsNaming, Naming, text_at}
use Rattle.lola_text.specs.Flags.{Entry, RiseFrom, naming_of}
use Rattle.lola_text.specs.Texts.{AreBetween, Gives, Interns, IsTable, Texts, number_in, with_text}

equal-self : (xs : List ℕ) → bytes_equal xs xs ≡ true
equal-self [] = refl
equal-self (x ∷ xs) = rw (eq-eqb x x refl, equal-self xs) refl

equal-same : (xs ys : List ℕ) → xs ≡ ys → bytes_equal xs ys ≡ true
equal-same xs ys is = ap (bytes_equal xs) (sym is) ∙ equal-self xs

-- a look-up by the text gives its number
pub number-looked_up : (es : List Entry) (text : List ℕ) → number_in (naming_of es) text ≡ option_map (λ h. h.number) (lookup (λ k. pointwise nat_eq text k) es)
number-looked_up [] text = refl
number-looked_up (e ∷ es) text = elim (cases_Bool (bytes_equal text e.0)) [
  | inl hit ↦ rw hit refl
  | inr miss ↦ rw miss (number-looked_up es text)
]

-- entries under numbers that rise
pub rise-of : (low high : ℕ) (es : List Entry) → AreBetween low (naming_of es) high → RiseFrom low es
rise-of low high [] all = tt
rise-of low high (e ∷ es) all = (all.0, rise-of (e.1.number + 1) high es all.1)

-- a text that is held stands under a number that was given
at-least : (low high : ℕ) (names : Naming) (id : ℕ) (t : List ℕ) → AreBetween low names high → text_at names id ≡ Some t → low ≤ id
at-least low high [] id t all is = absurd (cc is)
at-least low high (e ∷ es) id t all is = elim (cases_Bool (nat_eq e.0 id)) [
  | inl hit ↦ let same = eqb-true e.0 id hit in omega (arith, all.0)
  | inr miss ↦ let is' = rw miss at is in let more = at-least (e.0 + 1) high es id t all.1 is' in omega (arith, all.0)
]

-- one number more
pub between-more : (low high : ℕ) (names : Naming) (text : List ℕ) → AreBetween low names high → AreBetween low (names ++ (high, text) ∷ []) (high + 1)
between-more low high [] text all = (all, omega arith)
between-more low high (e ∷ es) text all = (all.0, between-more (e.0 + 1) high es text all.1)

between-lower : (low low' high : ℕ) (names : Naming) → low ≤ low' → AreBetween low' names high → AreBetween low names high
between-lower low low' high [] le all = omega arith
between-lower low low' high (e ∷ es) le all = (omega (arith, all.0), all.1)

-- fewer numbers
pub between-fewer : (p : ℕ × List ℕ → Bool) (low high : ℕ) (names : Naming) → AreBetween low names high → AreBetween low (filter p names) high
between-fewer p low high [] all = all
between-fewer p low high (e ∷ es) all =
    let more = between-fewer p (e.0 + 1) high es all.1 in
    elim (cases_Bool (p e)) [
      | inl hit ↦ rw hit (all.0, more)
      | inr miss ↦ rw miss (between-lower low (e.0 + 1) high (filter p es) (omega (arith, all.0)) more)
    ]

-- a text that is not held stands under no number
absent : (names : Naming) (text : List ℕ) (id : ℕ) → number_in names text ≡ None → text_at names id ≡ Some text → ⊥
absent [] text id none is = cc is
absent (e ∷ es) text id none is = elim (cases_Bool (bytes_equal text e.1)) [
  | inl hit ↦ let none' = rw hit at none in cc none'
  | inr miss ↦
      let none' = rw miss at none in
      elim (cases_Bool (nat_eq e.0 id)) [
        | inl here ↦
            let is' = rw here at is in
            let same : text ≡ e.1 = cc in
            let hit = equal-same text e.1 same in
            cc
        | inr there ↦ let is' = rw there at is in absent es text id none' is'
      ]
]

-- a text under one number more was there, or is the new one
found-more : (names : Naming) (given : ℕ) (text : List ℕ) (id : ℕ) (t : List ℕ) → text_at (names ++ (given, text) ∷ []) id ≡ Some t → (text_at names id ≡ Some t) ⊎ ((given ≡ id) × (text ≡ t))
found-more [] given text id t is = elim (cases_Bool (nat_eq given id)) [
  | inl hit ↦ let is' = rw hit at is in inr (eqb-true given id hit, cc is')
  | inr miss ↦ let is' = rw miss at is in absurd (cc is')
]
found-more (e ∷ es) given text id t is = elim (cases_Bool (nat_eq e.0 id)) [
  | inl hit ↦ let is' = rw hit at is in inl (rw hit is')
  | inr miss ↦ let is' = rw miss at is in elim (found-more es given text id t is') [ inl old ↦ inl (rw miss old) | inr new ↦ inr new ]
]

pub naming-more : (names : Naming) (given : ℕ) (text : List ℕ) → IsNaming names → number_in names text ≡ None → IsNaming (names ++ (given, text) ∷ [])
naming-more names given text naming none = record {
  one_text = λ id id' t first second.
      elim (found-more names given text id t first) [
        | inl old ↦ elim (found-more names given text id' t second) [
          | inl old' ↦ naming.one_text id id' t old old'
          | inr new' ↦ absurd (absent names text id none (old ∙ ap Some (sym new'.1)))
        ]
        | inr new ↦ elim (found-more names given text id' t second) [
          | inl old' ↦ absurd (absent names text id' none (old' ∙ ap Some (sym new.1)))
          | inr new' ↦ sym new.0 ∙ new'.0
        ]
      ];
}

-- a text that is still held was held under its number
pub still-held : (p : ℕ × List ℕ → Bool) (low high : ℕ) (names : Naming) (id : ℕ) (t : List ℕ) → AreBetween low names high → text_at (filter p names) id ≡ Some t → text_at names id ≡ Some t
still-held p low high [] id t all is = is
still-held p low high (e ∷ es) id t all is = elim (cases_Bool (p e)) [
  | inl hit ↦
      let is' = rw hit at is in
      elim (cases_Bool (nat_eq e.0 id)) [
        | inl here ↦ let is2 = rw here at is' in rw here is2
        | inr there ↦ let is2 = rw there at is' in rw there (still-held p (e.0 + 1) high es id t all.1 is2)
      ]
  | inr miss ↦
      let is' = rw miss at is in
      let was = still-held p (e.0 + 1) high es id t all.1 is' in
      let above = at-least (e.0 + 1) high es id t all.1 was in
      let there : nat_eq e.0 id ≡ false = ne_eqb e.0 id (λ same. absurd (omega (arith, same))) in
      rw there was
]

pub naming-fewer : (p : ℕ × List ℕ → Bool) (low high : ℕ) (names : Naming) → AreBetween low names high → IsNaming names → IsNaming (filter p names)
naming-fewer p low high names all naming = record {
  one_text = λ id id' t first second. naming.one_text id id' t (still-held p low high names id t all first) (still-held p low high names id' t all second);
}

pub table-more : (t : Texts) (text : List ℕ) → IsTable t → number_in t.held text ≡ None → IsTable (with_text t text)
table-more t text table none = record {
  naming = naming-more t.held t.given text table.naming none;
  numbers = between-more 0 t.given t.held text table.numbers;
}

pub table-fewer : (p : ℕ × List ℕ → Bool) (t : Texts) → IsTable t → IsTable (record { held = filter p t.held; given = t.given })
table-fewer p t table = record {
  naming = naming-fewer p 0 t.given t.held table.numbers table.naming;
  numbers = between-fewer p 0 t.given t.held table.numbers;
}

pub naming-pushed : (es : List Entry) (e : Entry) → naming_of (es ++ e ∷ []) ≡ naming_of es ++ (e.1.number, e.0) ∷ []
naming-pushed [] e = refl
naming-pushed (x ∷ xs) e = ap (λ (l : Naming). (x.1.number, x.0) ∷ l) (naming-pushed xs e)

-- texts that pass for equal are one
equal-means : (xs ys : List ℕ) → bytes_equal xs ys ≡ true → xs ≡ ys
equal-means [] [] is = refl
equal-means [] (y ∷ ys) is = absurd (cc is)
equal-means (x ∷ xs) [] is = absurd (cc is)
equal-means (x ∷ xs) (y ∷ ys) is = elim (cases_Bool (nat_eq x y)) [
  | inl hit ↦
      let is' = rw hit at is in
      let first = eqb-true x y hit in
      ap (λ z. z ∷ xs) first ∙ ap (λ zs. y ∷ zs) (equal-means xs ys is')
  | inr miss ↦ let is' = rw miss at is in absurd (cc is')
]

-- the number of a text that is held is one at which that text stands
number-has : (low high : ℕ) (names : Naming) (text : List ℕ) (number : ℕ) → AreBetween low names high → number_in names text ≡ Some number → text_at names number ≡ Some text
number-has low high [] text number all is = absurd (cc is)
number-has low high (e ∷ es) text number all is = elim (cases_Bool (bytes_equal text e.1)) [
  | inl hit ↦
      let is' = rw hit at is in
      let same : e.0 ≡ number = cc is' in
      rw (eq-eqb e.0 number same) (ap Some (sym (equal-means text e.1 hit)))
  | inr miss ↦
      let is' = rw miss at is in
      let there = number-has (e.0 + 1) high es text number all.1 is' in
      let above = at-least (e.0 + 1) high es number text all.1 there in
      rw (ne_eqb e.0 number (λ same. absurd (omega (arith, same, above)))) there
]

-- asked for a text that stands at a number, a table stays, and that number is the answer
pub again : (t : Texts) (text : List ℕ) (id : ℕ) → IsTable t → text_at t.held id ≡ Some text → Interns text id t t
again t text id table there = by (number_in t.held text) refl
  where
    by : (o : Option ℕ) → number_in t.held text ≡ o → Gives o text id t t
    by None none = absurd (absent t.held text id none there)
    by (Some number) some = (table.naming.one_text id number text there (number-has 0 t.given t.held text number table.numbers some), refl)
