-- The item of a list at an index, and the items before and behind it.
use Rattle.std.proofs.Common.{◌≡◌, ◌∷◌, ℕ, suc, ◌+◌, ◌<◌, ◌++◌, List, [], sym, ap, ◌∙◌, arith, drop, drop-cons, get_or, length, take, take-append-drop}
use Rattle.std.proofs.lemmas.List.{take_more}

pub item-drop : {X : Type 0} (xs : List X) (i : ℕ) (x d : X) → i < length xs → x ≡ get_or xs i d → drop i xs ≡ x ∷ drop (i + 1) xs
item-drop xs i x d lt e =
    drop-cons xs i d lt ∙ ap (λ (n : ℕ). get_or xs i d ∷ drop n xs) (let f : suc i ≡ i + 1 = omega arith in f) ∙ ap (λ y. y ∷ drop (i + 1) xs) (sym e)

pub item-take : {X : Type 0} (xs : List X) (i : ℕ) (x d : X) → i < length xs → x ≡ get_or xs i d → take (i + 1) xs ≡ take i xs ++ x ∷ []
item-take xs i x d lt e = take_more xs i d lt ∙ ap (λ y. take i xs ++ y ∷ []) (sym e)

pub item-split : {X : Type 0} (xs : List X) (i : ℕ) (x d : X) → i < length xs → x ≡ get_or xs i d → xs ≡ take i xs ++ x ∷ drop (i + 1) xs
item-split xs i x d lt e = sym (take-append-drop i xs) ∙ ap (λ l. take i xs ++ l) (item-drop xs i x d lt e)
