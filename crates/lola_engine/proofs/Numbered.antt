-- Distinct texts get the numbers of their places.
use Rattle.std.proofs.Common.{◌≡◌, ℕ, zero, suc, ◌+◌, ◌<◌, ◌≤◌, true, false, not, List, [], ◌∷◌, ◌++◌, Option, Some, None, length, take, get_or, refl, sym, ap, subst, ◌∙◌, arith, inl, inr}
use Rattle.std.specs.Prelude.{slice_get}
use Rattle.std.proofs.lemmas.Bool.{cases_Bool, eq-eqb, ne_eqb, and_parts, not-true}
use Rattle.std.proofs.lemmas.List.{take_more, take_all, length-take-le}
use Rattle.lola_value.specs.Arithmetic.{bytes_equal}
use Rattle.lola_value.specs.Naming.{Naming, text_at}
use Rattle.lola_model.specs.Named.{are_distinct, is_listed}
use Rattle.lola_model.proofs.Lookups.{bytes_equal-true, bytes_equal-same}
use Rattle.lola_step_contents.specs.Ready.{HasTexts}
use Rattle.lola_text.specs.Texts.{Gives, Interns, IsTable, Texts, no_texts, number_in, with_text}
use Rattle.lola_engine.specs.Read.{numbered}

-- a text that stands somewhere is listed
listed-at : (ts : List (List ℕ)) (t d : List ℕ) (i : ℕ) → i < length ts → t ≡ get_or ts i d → is_listed t ts ≡ true
listed-at [] t d i within is = absurd (omega arith)
listed-at (u ∷ ts) t d zero within is =
    let hit : bytes_equal t u ≡ true = ap (bytes_equal t) (sym is) ∙ bytes_equal-same t in rw hit refl
listed-at (u ∷ ts) t d (suc i) within is = elim (cases_Bool (bytes_equal t u)) [
  | inl hit ↦ rw hit refl
  | inr miss ↦ rw miss (listed-at ts t d i (omega arith) is)
]

-- among distinct texts none stands before its place
unlisted-before : (ts : List (List ℕ)) (t d : List ℕ) (i : ℕ) → are_distinct ts ≡ true → i < length ts → t ≡ get_or ts i d → is_listed t (take i ts) ≡ false
unlisted-before [] t d i apart within is = absurd (omega arith)
unlisted-before (u ∷ ts) t d zero apart within is = refl
unlisted-before (u ∷ ts) t d (suc i) apart within is =
    let both = and_parts (not (is_listed u ts)) (are_distinct ts) apart in
    elim (cases_Bool (bytes_equal t u)) [
      | inl hit ↦
          let same : u ≡ t = sym (bytes_equal-true t u hit) in
          let there : is_listed u ts ≡ true = ap (λ x. is_listed x ts) same ∙ listed-at ts t d i (omega arith) is in
          let not_there = not-true (is_listed u ts) both.0 in
          absurd (cc)
      | inr miss ↦ rw miss (unlisted-before ts t d i both.1 (omega arith) is)
    ]

-- a text that is not listed has no number
unnumbered : (n : ℕ) (ts : List (List ℕ)) (t : List ℕ) → is_listed t ts ≡ false → number_in (numbered n ts) t ≡ None
unnumbered n [] t none = refl
unnumbered n (u ∷ ts) t none = elim (cases_Bool (bytes_equal t u)) [
  | inl hit ↦ let none' = rw hit at none in absurd (cc none')
  | inr miss ↦ let none' = rw miss at none in rw miss (unnumbered (n + 1) ts t none')
]

numbered-pushed : (n m : ℕ) (ts : List (List ℕ)) (t : List ℕ) → n + length ts ≡ m → numbered n (ts ++ t ∷ []) ≡ numbered n ts ++ (m, t) ∷ []
numbered-pushed n m [] t is = let same : n ≡ m = omega arith in ap (λ (k : ℕ). let e : Naming = (k, t) ∷ [] in e) same
numbered-pushed n m (u ∷ ts) t is = ap (λ (l : Naming). (n, u) ∷ l) (numbered-pushed (n + 1) m ts t (omega arith))

-- the table once so many texts have their numbers
abbrev pub table-at : ℕ → List (List ℕ) → Texts
table-at i ts = record { held = numbered 0 (take i ts); given = i }

gives-by : (o : Option ℕ) (t : List ℕ) (id : ℕ) (old new : Texts) → o ≡ None → Gives o t id old new → new ≡ with_text old t
gives-by None t id old new is gives = gives.1
gives-by (Some k) t id old new is gives = absurd (cc is)

-- one text more
pub one-numbered : (ts : List (List ℕ)) (i : ℕ) (t : List ℕ) (id : ℕ) (old new : Texts) → are_distinct ts ≡ true → i < length ts → t ≡ get_or ts i t → old ≡ table-at i ts → Interns t id old new → new ≡ table-at (i + 1) ts
one-numbered ts i t id old new apart within is was gives =
    let none : number_in old.held t ≡ None = ap (λ (x : Texts). number_in x.held t) was ∙ unnumbered 0 (take i ts) t (unlisted-before ts t t i apart within is) in
    let front : take (i + 1) ts ≡ take i ts ++ t ∷ [] = take_more ts i t within ∙ ap (λ (u : List ℕ). take i ts ++ u ∷ []) (sym is) in
    let long : 0 + length (take i ts) ≡ i = omega (arith, length-take-le i ts (omega arith)) in
    let named : numbered 0 (take i ts) ++ (i, t) ∷ [] ≡ numbered 0 (take (i + 1) ts) = sym (ap (numbered 0) front ∙ numbered-pushed 0 i (take i ts) t long) in
    gives-by (number_in old.held t) t id old new none gives
    ∙ ap (λ (x : Texts). with_text x t) was
    ∙ ap (λ (l : Naming). let x : Texts = record { held = l; given = i + 1 } in x) named

-- texts that are numbered are found by their places
numbered-at : (n : ℕ) (ts : List (List ℕ)) (i : ℕ) → text_at (numbered n ts) (n + i) ≡ slice_get ts i
numbered-at n [] i = refl
numbered-at n (t ∷ ts) zero = rw (eq-eqb n (n + 0) (omega arith)) refl
numbered-at n (t ∷ ts) (suc i) =
    let other = ne_eqb n (n + suc i) (λ same. absurd (omega (arith, same))) in
    let next : n + suc i ≡ (n + 1) + i = omega arith in
    rw other (ap (text_at (numbered (n + 1) ts)) next ∙ numbered-at (n + 1) ts i)

-- once all have theirs, they are those of their places
pub all-numbered : (ts : List (List ℕ)) (i : ℕ) (now : Texts) → length ts ≤ i → now ≡ table-at i ts → HasTexts now.held ts
all-numbered ts i now all was j within =
    ap (λ (x : Texts). text_at x.held j) was
    ∙ ap (λ l. text_at (numbered 0 l) j) (take_all i ts all)
    ∙ (let same : j ≡ 0 + j = omega arith in ap (text_at (numbered 0 ts)) same)
    ∙ numbered-at 0 ts j

-- and there is no other
pub as-numbered : (ts : List (List ℕ)) (i : ℕ) (now : Texts) → length ts ≤ i → now ≡ table-at i ts → now.held ≡ numbered 0 ts
as-numbered ts i now all was = ap (λ (x : Texts). x.held) was ∙ ap (λ l. numbered 0 l) (take_all i ts all)

-- a table that holds nothing
pub none-is-table : IsTable no_texts
none-is-table = record { naming = record { one_text = λ id id' t first second. absurd (cc first) }; numbers = omega arith }

-- a text of a list that is these texts
pub text-here : (xs ts : List (List ℕ)) (i : ℕ) (t u : List ℕ) → xs ≡ ts → u ≡ get_or xs i u → t ≡ u → t ≡ get_or ts i t
text-here xs ts i t u all is same =
    let here : u ≡ get_or ts i u = is ∙ ap (λ l. get_or l i u) all in
    subst (λ (x : List ℕ). x ≡ get_or ts i x) (sym same) here
