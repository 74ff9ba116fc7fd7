-- Texts of the items of a list, appended one after another.
use Rattle.std.proofs.Common.{Result, Ok, Err, OnErr, ◌≡◌, List, [], ◌∷◌, ◌++◌, ℕ, ◌+◌, ◌<◌, length, get_or, take, drop, refl, sym, ap, ◌∙◌, subst, append-nil, flat_map, take-append-drop}
use Rattle.std.proofs.lemmas.List.{take_more, flat_map_more}
use Rattle.std.proofs.lemmas.List.Concat.{flat_map-append}
use Rattle.lola_value.specs.declared.text.Field.{Field}
use Rattle.lola_value.specs.Appending.{AppendsPart}
use Rattle.lola_model.specs.Texts.{value_text, commas}
use Rattle.lola_value.proofs.AppendingLemmas.{in_first, in_second}

-- a fact that holds, whatever a call answered
pub on_err : {T E P : Type 0} (r : Result T E) → P → OnErr r P
on_err (Ok _) p = tt
on_err (Err _) p = p

-- the texts of a list, cut at an index
cut_at : {X : Type 0} (f : X → List ℕ) (xs : List X) (n : ℕ) → flat_map f xs ≡ flat_map f (take n xs) ++ flat_map f (drop n xs)
cut_at f xs n = ap (flat_map f) (sym (take-append-drop n xs)) ∙ flat_map-append f (take n xs) (drop n xs)

-- the texts up to an index, and then the text of the item there
pub one_more : {X : Type 0} (f : X → List ℕ) (xs : List X) (i : ℕ) (x d : X) (old mid new : List ℕ)
    → i < length xs → x ≡ get_or xs i d → mid ≡ old ++ flat_map f (take i xs) → new ≡ mid ++ f x → new ≡ old ++ flat_map f (take (i + 1) xs)
one_more f xs i x d old mid new within is before after =
    after ∙ ap (λ (l : List ℕ). l ++ f x) before
    ∙ flat_map_more f old (take i xs) x
    ∙ ap (λ (l : List _). old ++ flat_map f l) (ap (λ y. take i xs ++ y ∷ []) is ∙ sym (take_more xs i d within))

-- the texts up to an index are a part of all
pub part_at : {X : Type 0} (f : X → List ℕ) (xs : List X) (n : ℕ) (old new : List ℕ) → new ≡ old ++ flat_map f (take n xs) → AppendsPart old new (flat_map f xs)
part_at f xs n old new is = record {
  part = flat_map f (take n xs);
  rest = flat_map f (drop n xs);
  joined = cut_at f xs n;
  appended = is;
}

-- the texts up to an index, and a part of the text of the item there, are a part of all
pub part_within : {X : Type 0} (f : X → List ℕ) (xs : List X) (i : ℕ) (x d : X) (old mid new : List ℕ)
    → i < length xs → x ≡ get_or xs i d → mid ≡ old ++ flat_map f (take i xs) → AppendsPart mid new (f x) → AppendsPart old new (flat_map f xs)
part_within f xs i x d old mid new within is before part =
    let up_to = in_second old mid new (flat_map f (take i xs)) (f x) before part in
    let all = in_first old new (flat_map f (take i xs) ++ f x) (flat_map f (drop (i + 1) xs)) up_to in
    let texts : flat_map f xs ≡ (flat_map f (take i xs) ++ f x) ++ flat_map f (drop (i + 1) xs) =
    cut_at f xs (i + 1) ∙ ap (λ (l : List ℕ). l ++ flat_map f (drop (i + 1) xs)) (sym (one_more f xs i x d [] (flat_map f (take i xs)) _ within is refl refl)) in
    subst (λ (l : List ℕ). AppendsPart old new l) (sym texts) all

-- values behind the first, each behind a comma
pub more_commas : (p : Field) (ps : List Field) → commas (p ∷ ps) ≡ value_text p ++ flat_map (λ v. 44 ∷ value_text v) ps
more_commas p [] = sym (append-nil (value_text p))
more_commas p (q ∷ ps) = ap (λ (l : List ℕ). value_text p ++ (44 ∷ l)) (more_commas q ps)

-- what follows from what holds where a call finds no memory
pub on_err_by : {T E P Q : Type 0} (r : Result T E) → OnErr r P → (P → Q) → OnErr r Q
on_err_by (Ok _) p f = tt
on_err_by (Err _) p f = f p
