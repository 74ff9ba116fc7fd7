-- Texts with their numbers.
use Rattle.std.proofs.Common.{◌≡◌, ℕ, zero, suc, ◌+◌, ◌<◌, ◌≤◌, Bool, true, false, not, List, [], ◌∷◌, ◌++◌, Some, None, length, nat_eq, refl, sym, ap, subst, inl, inr, ◌∙◌, arith, append-nil, length-append}
use Rattle.std.specs.Prelude.{Vec, IsTrue, slice_get, nat_lt}
use Rattle.std.specs.List.{position, position_or_len, list_any}
use Rattle.std.specs.Cmp.Lexicographic.{pointwise}
use Rattle.std.specs.declared.alloc.Global.{Global}
use Rattle.std.proofs.lemmas.Bool.{cases_Bool, ltb-true, ltb-false, and_parts, not-true}
use Rattle.lola_value.specs.Arithmetic.{bytes_equal}
use Rattle.lola_model.specs.Named.{is_listed, are_distinct}
use Rattle.lola_model.proofs.Lookups.{bytes_equal-true, bytes_equal-same}
use Rattle.lola_names.specs.Entries.{texts_in}
use Rattle.lola_names.specs.Numbered.{NumbersText}
use Rattle.lola_names.proofs.Growth.{got-seam}

abbrev Key : Type 0
Key = Vec ℕ Global

-- a test for a text
abbrev pub is_text : List ℕ → Key → Bool
is_text text k = pointwise nat_eq text k.items

-- the first key of a text holds it
pub placed : (text : List ℕ) (ks : List Key) → position_or_len (is_text text) ks < length ks → slice_get (texts_in ks) (position_or_len (is_text text) ks) ≡ Some text
placed text [] within = absurd (omega arith)
placed text (k ∷ ks) within = elim (cases_Bool (is_text text k)) [
  | inl hit ↦ let same = bytes_equal-true text k.items hit in rw hit (ap Some (sym same))
  | inr miss ↦
      let below = rw miss at within in
      let less : position_or_len (is_text text) ks < length ks = omega arith in
      let step : 1 + position_or_len (is_text text) ks ≡ suc (position_or_len (is_text text) ks) = omega arith in
      rw miss (ap (slice_get (texts_in (k ∷ ks))) step ∙ placed text ks less)
]

-- a text of no key stands nowhere
pub unplaced : (text : List ℕ) (ks : List Key) → length ks ≤ position_or_len (is_text text) ks → (i : ℕ) → slice_get (texts_in ks) i ≡ Some text → ⊥
unplaced text [] past i is = cc is
unplaced text (k ∷ ks) past zero is =
    let same : k.items ≡ text = cc is in
    let hit : is_text text k ≡ true = ap (λ t. bytes_equal t k.items) (sym same) ∙ bytes_equal-same k.items in
    let none = rw hit at past in
    omega arith
unplaced text (k ∷ ks) past (suc i) is = elim (cases_Bool (is_text text k)) [
  | inl hit ↦ let none = rw hit at past in omega arith
  | inr miss ↦
      let above = rw miss at past in
      let more : length ks ≤ position_or_len (is_text text) ks = omega arith in
      unplaced text ks more i is
]

-- a text that stands nowhere is that of no key
pub no_key : (text : List ℕ) (ks : List Key) → ((i : ℕ) → slice_get (texts_in ks) i ≡ Some text → ⊥) → list_any (is_text text) ks ≡ false
no_key text [] nowhere = refl
no_key text (k ∷ ks) nowhere = elim (cases_Bool (is_text text k)) [
  | inl hit ↦ absurd (nowhere 0 (ap Some (sym (bytes_equal-true text k.items hit))))
  | inr miss ↦ rw miss (no_key text ks (λ i is. nowhere (suc i) is))
]

-- a text that stands somewhere is listed
listed_at : (ts : List (List ℕ)) (t : List ℕ) (i : ℕ) → slice_get ts i ≡ Some t → is_listed t ts ≡ true
listed_at [] t i is = absurd (cc is)
listed_at (u ∷ ts) t zero is = let same : u ≡ t = cc is in let hit : bytes_equal t u ≡ true = ap (bytes_equal t) same ∙ bytes_equal-same t in rw hit refl
listed_at (u ∷ ts) t (suc i) is = elim (cases_Bool (bytes_equal t u)) [ inl hit ↦ rw hit refl | inr miss ↦ rw miss (listed_at ts t i is) ]

-- among distinct texts each stands at one place
pub one_place : (ts : List (List ℕ)) (t : List ℕ) (i j : ℕ) → IsTrue (are_distinct ts) → slice_get ts i ≡ Some t → slice_get ts j ≡ Some t → i ≡ j
one_place [] t i j apart at other = absurd (cc at)
one_place (u ∷ ts) t zero zero apart at other = refl
one_place (u ∷ ts) t zero (suc j) apart at other =
    let same : u ≡ t = cc at in
    let not_there : is_listed u ts ≡ false = not-true _ (and_parts (not (is_listed u ts)) (are_distinct ts) apart).0 in
    let there : is_listed u ts ≡ true = ap (λ x. is_listed x ts) same ∙ listed_at ts t j other in
    absurd (cc (not_there, there))
one_place (u ∷ ts) t (suc i) zero apart at other =
    let same : u ≡ t = cc other in
    let not_there : is_listed u ts ≡ false = not-true _ (and_parts (not (is_listed u ts)) (are_distinct ts) apart).0 in
    let there : is_listed u ts ≡ true = ap (λ x. is_listed x ts) same ∙ listed_at ts t i at in
    absurd (cc (not_there, there))
one_place (u ∷ ts) t (suc i) (suc j) apart at other =
    ap suc (one_place ts t i j (and_parts (not (is_listed u ts)) (are_distinct ts) apart).1 at other)

-- a new text behind distinct ones
unlisted-pushed : (ts : List (List ℕ)) (u t : List ℕ) → is_listed u ts ≡ false → bytes_equal u t ≡ false → is_listed u (ts ++ t ∷ []) ≡ false
unlisted-pushed [] u t none other = rw other refl
unlisted-pushed (v ∷ ts) u t none other = elim (cases_Bool (bytes_equal u v)) [
  | inl hit ↦ let none' = rw hit at none in absurd (cc none')
  | inr miss ↦ let none' = rw miss at none in rw miss (unlisted-pushed ts u t none' other)
]

pub distinct-pushed : (ts : List (List ℕ)) (t : List ℕ) → IsTrue (are_distinct ts) → ((i : ℕ) → slice_get ts i ≡ Some t → ⊥) → IsTrue (are_distinct (ts ++ t ∷ []))
distinct-pushed [] t apart nowhere = refl
distinct-pushed (u ∷ ts) t apart nowhere =
    let both = and_parts (not (is_listed u ts)) (are_distinct ts) apart in
    let others : are_distinct (ts ++ t ∷ []) ≡ true = distinct-pushed ts t both.1 (λ i is. nowhere (suc i) is) in
    elim (cases_Bool (bytes_equal u t)) [
      | inl hit ↦ absurd (nowhere 0 (ap Some (bytes_equal-true u t hit)))
      | inr miss ↦ rw (unlisted-pushed ts u t (not-true _ both.0) miss) others
    ]

-- a new text is numbered
pub numbers_new : (ts : List (List ℕ)) (t : List ℕ) → NumbersText t (length ts) ts (ts ++ t ∷ [])
numbers_new ts t = record {
  there = got-seam ts t [];
  more = t ∷ [];
  grown = refl;
  in_order = let all = length-append ts (t ∷ []) in inr (refl, omega arith);
}

-- a text that stands somewhere stands within the list
got-within : (ts : List (List ℕ)) (t : List ℕ) (i : ℕ) → slice_get ts i ≡ Some t → i < length ts
got-within [] t i is = absurd (cc is)
got-within (u ∷ ts) t zero is = omega arith
got-within (u ∷ ts) t (suc i) is = let less = got-within ts t i is in omega arith

-- a text keeps its number
pub numbers_known : (ts : List (List ℕ)) (t : List ℕ) (id : ℕ) → slice_get ts id ≡ Some t → NumbersText t id ts ts
numbers_known ts t id at = record {
  there = at;
  more = [];
  grown = sym (append-nil ts);
  in_order = inl (got-within ts t id at, refl);
}

pub texts-pushed : (ks : List Key) (k : Key) → texts_in (ks ++ k ∷ []) ≡ texts_in ks ++ k.items ∷ []
texts-pushed [] k = refl
texts-pushed (x ∷ ks) k = ap (λ l. x.items ∷ l) (texts-pushed ks k)

pub texts-length : (ks : List Key) → length (texts_in ks) ≡ length ks
texts-length [] = refl
texts-length (k ∷ ks) = ap suc (texts-length ks)

-- what a look-up of the place says
pub place_some : (text : List ℕ) (ks : List Key) (i : ℕ) → position (is_text text) ks ≡ Some i → slice_get (texts_in ks) i ≡ Some text
place_some text ks i is = elim (cases_Bool (nat_lt (position_or_len (is_text text) ks) (length ks))) [
  | inl hit ↦
      let is' = rw hit at is in
      let same : position_or_len (is_text text) ks ≡ i = cc is' in
      ap (slice_get (texts_in ks)) (sym same) ∙ placed text ks (ltb-true (position_or_len (is_text text) ks) (length ks) hit)
  | inr miss ↦ let is' = rw miss at is in absurd (cc is')
]

pub place_none : (text : List ℕ) (ks : List Key) → position (is_text text) ks ≡ None → (i : ℕ) → slice_get (texts_in ks) i ≡ Some text → ⊥
place_none text ks is = elim (cases_Bool (nat_lt (position_or_len (is_text text) ks) (length ks))) [
  | inl hit ↦ let is' = rw hit at is in absurd (cc is')
  | inr miss ↦ unplaced text ks (ltb-false (position_or_len (is_text text) ks) (length ks) miss)
]

-- as a list of texts has it
pub found_in : (ts : List (List ℕ)) (text : List ℕ) (ks : List Key) (i : ℕ) → texts_in ks ≡ ts → IsTrue (are_distinct (texts_in ks)) → position (is_text text) ks ≡ Some i
    → (slice_get ts i ≡ Some text) × ((j : ℕ) → slice_get ts j ≡ Some text → j ≡ i)
found_in ts text ks i same apart is =
    let there : slice_get (texts_in ks) i ≡ Some text = place_some text ks i is in
    subst (λ (l : List (List ℕ)). (slice_get l i ≡ Some text) × ((j : ℕ) → slice_get l j ≡ Some text → j ≡ i)) same
    (there, λ j at. one_place (texts_in ks) text j i apart at there)

pub not_in : (ts : List (List ℕ)) (text : List ℕ) (ks : List Key) → texts_in ks ≡ ts → position (is_text text) ks ≡ None → (j : ℕ) → slice_get ts j ≡ Some text → ⊥
not_in ts text ks same is = subst (λ (l : List (List ℕ)). (j : ℕ) → slice_get l j ≡ Some text → ⊥) same (place_none text ks is)
