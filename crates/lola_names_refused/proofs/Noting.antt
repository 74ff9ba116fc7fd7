-- Refusals that are found one after another, and loops over what is left of a list.
use Rattle.std.proofs.Common.{◌≡◌, ℕ, ◌+◌, ◌<◌, ◌≤◌, List, [], ◌∷◌, ◌++◌, Option, Some, None, Result, Ok, Err, OnOk, length, get_or, drop, refl, sym, ap, ◌∙◌}
use Rattle.std.specs.List.{flat_map}
use Rattle.std.proofs.lemmas.List.{at_drop_more, at_drop_all}
use Rattle.lola_value.specs.declared.front.Refusal.{Refusal}
use Rattle.lola_model.specs.Refusals.{earlier, first_of}
use Rattle.lola_model.proofs.FirstRefusal.{grouped}
use Rattle.lola_names_refused.specs.Noted.{noted, Finds}

pub noted-append : (o : Option Refusal) (a b : List Refusal) → noted o (a ++ b) ≡ noted (noted o a) b
noted-append o [] b = refl
noted-append o (r ∷ a) b = noted-append (earlier o (Some r)) a b

-- first these, then those
pub finds_more : (old mid new : Option Refusal) (a b : List Refusal) → Finds a old mid → Finds b mid new → Finds (a ++ b) old new
finds_more old mid new a b h k = k ∙ ap (λ o. noted o b) h ∙ sym (noted-append old a b)

-- a loop over what is left: one step
pub turn : {S A R : Type 0} (F : S → List A → R) (step : S → A → S) → ((s : S) (x : A) (rest : List A) → F s (x ∷ rest) ≡ F (step s x) rest)
    → (xs : List A) (i : ℕ) (x : A) (old new : S) (whole : R) → i < length xs → x ≡ get_or xs i x → new ≡ step old x → F old (drop i xs) ≡ whole
    → F new (drop (i + 1) xs) ≡ whole
turn F step law xs i x old new whole within is stepped so_far =
    ap (λ s. F s (drop (i + 1) xs)) (stepped ∙ ap (step old) is) ∙ sym (law old (get_or xs i x) (drop (i + 1) xs)) ∙ sym (at_drop_more (F old) xs i x within) ∙ so_far

-- and its end
pub end : {S A R : Type 0} (F : S → List A → R) (xs : List A) (i : ℕ) (s : S) (whole : R) → length xs ≤ i → F s (drop i xs) ≡ whole → F s [] ≡ whole
end F xs i s whole all so_far = sym (at_drop_all (F s) xs i all) ∙ so_far

-- what each item brings is found
abbrev pub found_in : {A : Type 0} → (A → List Refusal) → Option Refusal → List A → Option Refusal
found_in f o l = noted o (flat_map f l)

pub find_turn : {A : Type 0} (f : A → List Refusal) (xs : List A) (i : ℕ) (x : A) (old new whole : Option Refusal) → i < length xs → x ≡ get_or xs i x
    → Finds (f x) old new → noted old (flat_map f (drop i xs)) ≡ whole → noted new (flat_map f (drop (i + 1) xs)) ≡ whole
find_turn f xs i x old new whole within is found so_far =
    turn (found_in f) (λ o y. noted o (f y)) (λ o y rest. noted-append o (f y) (flat_map f rest)) xs i x old new whole within is found so_far

pub find_end : {A : Type 0} (f : A → List Refusal) (xs : List A) (i : ℕ) (o whole : Option Refusal) → length xs ≤ i → noted o (flat_map f (drop i xs)) ≡ whole → o ≡ whole
find_end f xs i o whole all so_far = end (found_in f) xs i o whole all so_far

pub ok_then : {A B : Type 0} (r : Result A B) (P Q : Type 0) → (P → Q) → OnOk r P → OnOk r Q
ok_then (Ok a) P Q f h = f h
ok_then (Err b) P Q f h = h

pub ok_of : {A B : Type 0} (r : Result A B) (Q : Type 0) → Q → OnOk r Q
ok_of (Ok a) Q q = q
ok_of (Err b) Q q = tt

-- what is noted of a list is the first of it, behind what was noted
pub noted-first : (o : Option Refusal) (rs : List Refusal) → noted o rs ≡ earlier o (first_of rs)
noted-first None [] = refl
noted-first (Some q) [] = refl
noted-first o (r ∷ rs) = noted-first (earlier o (Some r)) rs ∙ grouped o (Some r) (first_of rs)

pub first_noted : (rs : List Refusal) → noted None rs ≡ first_of rs
first_noted rs = noted-first None rs ∙ none_first (first_of rs)
  where
    none_first : (o : Option Refusal) → earlier None o ≡ o
    none_first o = refl
