-- What the flags of a sweep leave.
use Rattle.std.proofs.Common.{◌≡◌, ℕ, zero, suc, ◌+◌, ◌<◌, Bool, true, false, not, ◌||◌, List, [], ◌∷◌, ◌++◌, length, drop, filter, map, nat_eq, get_or, slice_get, Some, refl, sym, ap, ◌∙◌, arith, inl, inr}
use Rattle.std.specs.List.{list_any}
use Rattle.std.proofs.lemmas.Bool.{cases_Bool, eq-eqb, eqb-true, ne_eqb, or_parts}
use Rattle.std.proofs.lemmas.List.{drop_more}
use Rattle.lola_value.specs.Naming.{Naming}
use Rattle.lola_value.specs.declared.value.TextId.{TextId}
use Rattle.indexmap.specs.Layout.{set_value_at}
use Rattle.std.specs.Map.{values_of}
use Rattle.lola_text.specs.declared.search.Held.{Held}
use Rattle.lola_text.specs.Flags.{AreFlagged, Entry, IsPlaceOf, NumbersRise, RiseFrom, has_number, is_flagged, is_same, flagged_all, flagged_at, naming_of}
use Rattle.lola_text.specs.Texts.{is_among}
use Rattle.lola_text.proofs.Finding.{rise-least}

pub flagged-nowhere : (number : ℕ) (flag : Bool) (es : List Entry) → list_any (has_number number) es ≡ false → map (flagged_at number flag) es ≡ es
flagged-nowhere number flag [] none = refl
flagged-nowhere number flag (e ∷ es) none =
    let two = or_parts (has_number number e) (list_any (has_number number) es) none in
    rw two.0 (ap (λ (l : List Entry). e ∷ l) (flagged-nowhere number flag es two.1))

-- no later entry has a number of before
none-later : (low number : ℕ) (es : List Entry) → RiseFrom low es → number < low → list_any (has_number number) es ≡ false
none-later low number [] rise under = refl
none-later low number (e ∷ es) rise under =
    let other : nat_eq e.1.number number ≡ false = ne_eqb e.1.number number (λ same. absurd (omega (arith, same, rise.0))) in
    rw other (none-later (e.1.number + 1) number es rise.1 (omega (arith, rise.0)))

pub flagged-there : (low number : ℕ) (flag : Bool) (es : List Entry) (i : ℕ) (d : Entry) → RiseFrom low es → i < length es → (get_or es i d).1.number ≡ number
    → set_value_at es i (record { number = number; flag = flag }) ≡ map (flagged_at number flag) es
flagged-there low number flag [] i d rise within is = absurd (omega arith)
flagged-there low number flag (e ∷ es) zero d rise within is =
    let later = flagged-nowhere number flag es (none-later (e.1.number + 1) number es rise.1 (omega arith)) in
    let here : nat_eq e.1.number number ≡ true = eq-eqb e.1.number number is in
    rw (here, later, is) refl
flagged-there low number flag (e ∷ es) (suc i) d rise within is =
    let above = rise-least (e.1.number + 1) es i d rise.1 (omega arith) in
    let other : nat_eq e.1.number number ≡ false = ne_eqb e.1.number number (λ same. absurd (omega (arith, same, is, above))) in
    rw other (ap (λ (l : List Entry). e ∷ l) (flagged-there (e.1.number + 1) number flag es i d rise.1 (omega arith) is))

number-kept : (number : ℕ) (flag : Bool) (e : Entry) → (flagged_at number flag e).1.number ≡ e.1.number
number-kept number flag e = elim (cases_Bool (has_number number e)) [ inl hit ↦ rw hit refl | inr miss ↦ rw miss refl ]

text-kept : (number : ℕ) (flag : Bool) (e : Entry) → (flagged_at number flag e).0 ≡ e.0
text-kept number flag e = elim (cases_Bool (has_number number e)) [ inl hit ↦ rw hit refl | inr miss ↦ rw miss refl ]

-- flags change no number
pub rise-flagged : (low number : ℕ) (flag : Bool) (es : List Entry) → RiseFrom low es → RiseFrom low (map (flagged_at number flag) es)
rise-flagged low number flag [] rise = tt
rise-flagged low number flag (e ∷ es) rise = rw (number-kept number flag e) (rise.0, rise-flagged (e.1.number + 1) number flag es rise.1)

-- an entry after all flags
one_flagged : List TextId → Bool → Entry → Entry
one_flagged [] flag e = e
one_flagged (id ∷ ids) flag e = one_flagged ids flag (flagged_at id.0 flag e)

all-nil : (ids : List TextId) (flag : Bool) → flagged_all ids flag [] ≡ []
all-nil [] flag = refl
all-nil (id ∷ ids) flag = all-nil ids flag

all-cons : (ids : List TextId) (flag : Bool) (e : Entry) (es : List Entry) → flagged_all ids flag (e ∷ es) ≡ one_flagged ids flag e ∷ flagged_all ids flag es
unfolding one_flagged
all-cons [] flag e es = refl
all-cons (id ∷ ids) flag e es = all-cons ids flag (flagged_at id.0 flag e) (map (flagged_at id.0 flag) es)

one-number : (ids : List TextId) (flag : Bool) (e : Entry) → (one_flagged ids flag e).1.number ≡ e.1.number
unfolding one_flagged
one-number [] flag e = refl
one-number (id ∷ ids) flag e = one-number ids flag (flagged_at id.0 flag e) ∙ number-kept id.0 flag e

one-text : (ids : List TextId) (flag : Bool) (e : Entry) → (one_flagged ids flag e).0 ≡ e.0
unfolding one_flagged
one-text [] flag e = refl
one-text (id ∷ ids) flag e = one-text ids flag (flagged_at id.0 flag e) ∙ text-kept id.0 flag e

same-self : (b : Bool) → is_same b b ≡ true
same-self true = refl
same-self false = refl

same-not : (b : Bool) → is_same (not b) b ≡ false
same-not true = refl
same-not false = refl

same-means : (a b : Bool) → is_same a b ≡ true → a ≡ b
same-means true b is = sym is
same-means false true is = absurd (cc is)
same-means false false is = refl

or-true : (b : Bool) → (b || true) ≡ true
or-true true = refl
or-true false = refl

eq-swap : (a b : ℕ) → nat_eq a b ≡ nat_eq b a
eq-swap a b = elim (cases_Bool (nat_eq b a)) [
  | inl hit ↦ rw hit (eq-eqb a b (sym (eqb-true b a hit)))
  | inr miss ↦ rw miss (ne_eqb a b (λ same. let hit = eq-eqb b a (sym same) in absurd (cc)))
]

-- it is flagged where its number is among these, or it was
one-flag : (ids : List TextId) (flag : Bool) (e : Entry) → is_flagged flag (one_flagged ids flag e) ≡ (is_among ids e.1.number || is_flagged flag e)
unfolding one_flagged
one-flag [] flag e = refl
one-flag (id ∷ ids) flag e = elim (cases_Bool (has_number id.0 e)) [
  | inl hit ↦
      let hit' : nat_eq id.0 e.1.number ≡ true = eq-swap id.0 e.1.number ∙ hit in
      one-flag ids flag (flagged_at id.0 flag e) ∙ (rw (hit, hit', same-self flag, or-true (is_among ids e.1.number)) refl)
  | inr miss ↦
      let miss' : nat_eq id.0 e.1.number ≡ false = eq-swap id.0 e.1.number ∙ miss in
      one-flag ids flag (flagged_at id.0 flag e) ∙ (rw (miss, miss') refl)
]

pub not-not : (b : Bool) → not (not b) ≡ b
not-not true = refl
not-not false = refl

or-false : (b : Bool) → (b || false) ≡ b
or-false true = refl
or-false false = refl

-- those with the new flag are those whose numbers are listed
pub kept-names : (ids : List TextId) (flag : Bool) (es : List Entry) → AreFlagged (not flag) es
    → naming_of (filter (is_flagged flag) (flagged_all ids flag es)) ≡ filter (λ e. is_among ids e.0) (naming_of es)
kept-names ids flag [] all = ap (λ (l : List Entry). naming_of (filter (is_flagged flag) l)) (all-nil ids flag)
kept-names ids flag (e ∷ es) all =
    let was : is_flagged flag e ≡ false = ap (λ b. is_same b flag) all.0 ∙ same-not flag in
    let now : is_flagged flag (one_flagged ids flag e) ≡ is_among ids e.1.number = one-flag ids flag e ∙ ap (λ b. is_among ids e.1.number || b) was ∙ or-false (is_among ids e.1.number) in
    let more = kept-names ids flag es all.1 in
    ap (λ (l : List Entry). naming_of (filter (is_flagged flag) l)) (all-cons ids flag e es)
    ∙ elim (cases_Bool (is_among ids e.1.number)) [
      | inl hit ↦
          let hit' = now ∙ hit in
          rw (hit, hit', one-number ids flag e, one-text ids flag e) (ap (λ (l : Naming). (e.1.number, e.0) ∷ l) more)
      | inr miss ↦ let miss' = now ∙ miss in rw (miss, miss') more
    ]

-- and have that flag
pub kept-flagged : (flag : Bool) (es : List Entry) → AreFlagged flag (filter (is_flagged flag) es)
kept-flagged flag [] = tt
kept-flagged flag (e ∷ es) = elim (cases_Bool (is_flagged flag e)) [
  | inl hit ↦ rw hit (same-means e.1.flag flag hit, kept-flagged flag es)
  | inr miss ↦ rw miss (kept-flagged flag es)
]

pub flagged-pushed : (flag : Bool) (es : List Entry) (e : Entry) → AreFlagged flag es → e.1.flag ≡ flag → AreFlagged flag (es ++ e ∷ [])
flagged-pushed flag [] e all is = (is, tt)
flagged-pushed flag (x ∷ xs) e all is = (all.0, flagged-pushed flag xs e all.1 is)

-- the next flag of a list
pub flagged-next : (ids : List TextId) (i : ℕ) (d : TextId) (flag : Bool) (es : List Entry) → i < length ids → flagged_all (drop i ids) flag es ≡ flagged_all (drop (i + 1) ids) flag (map (flagged_at (get_or ids i d).0 flag) es)
flagged-next ids i d flag es within = ap (λ (l : List TextId). flagged_all l flag es) (drop_more ids i d within)

held-at : (es : List Entry) (i : ℕ) (d : Entry) (h : Held) → slice_get (values_of es) i ≡ Some h → (get_or es i d).1 ≡ h
held-at [] i d h is = absurd (cc is)
held-at (x ∷ xs) zero d h is = cc is
held-at (x ∷ xs) (suc i) d h is = held-at xs i d h is

-- a flag at the place of a number
pub flagged-place : (es : List Entry) (number i : ℕ) (flag : Bool) (h : Held) → NumbersRise es → IsPlaceOf number es (Some i) → slice_get (values_of es) i ≡ Some h
    → set_value_at es i (record { number = h.number; flag = flag }) ≡ map (flagged_at number flag) es
flagged-place [] number i flag h rise place is = absurd (omega (arith, place.0))
flagged-place (e ∷ es) number i flag h rise place is =
    let same : (get_or (e ∷ es) i e).1 ≡ h = held-at (e ∷ es) i e h is in
    let numbered : h.number ≡ number = sym (ap (λ (x : Held). x.number) same) ∙ place.1 e in
    ap (λ n. set_value_at (e ∷ es) i (record { number = n; flag = flag })) numbered ∙ flagged-there 0 number flag (e ∷ es) i e rise place.0 (place.1 e)
