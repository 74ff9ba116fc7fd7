-- Truth values and lists, taken apart.
use Rattle.std.proofs.Common.{◌≡◌, refl, ap, ◌∙◌, ◌||◌, Bool, true, false, ◌&&◌, if◌then◌else◌, List, [], ◌∷◌, ◌++◌}

pub left_of : (a b : Bool) → (a && b) ≡ true → a ≡ true
left_of true b h = refl
left_of false b h = absurd (cc)

pub right_of : (a b : Bool) → (a && b) ≡ true → b ≡ true
right_of true b h = h
right_of false b h = absurd (cc)

pub and_same : (a b c d : Bool) → a ≡ c → b ≡ d → (a && b) ≡ (c && d)
and_same a b c d p q = ap (λ x. x && b) p ∙ ap (λ x. c && x) q

pub or_same : (a b c d : Bool) → a ≡ c → b ≡ d → (a || b) ≡ (c || d)
or_same a b c d p q = ap (λ x. x || b) p ∙ ap (λ x. c || x) q

pub never : {X : Type 0} → true ≡ false → X
never h = absurd (cc)

pub never_back : {X : Type 0} → false ≡ true → X
never_back h = absurd (cc)

-- two lists in turn that list nothing
pub none_left : {X : Type 0} (xs ys : List X) → xs ++ ys ≡ [] → xs ≡ []
none_left [] ys h = refl
none_left (x ∷ xs) ys h = absurd (cc)

pub none_right : {X : Type 0} (xs ys : List X) → xs ++ ys ≡ [] → ys ≡ []
none_right [] ys h = h
none_right (x ∷ xs) ys h = absurd (cc)

pub taken_where : {X : Type 0} (b : Bool) (x : X) (xs : List X) → (if b then [] else x ∷ xs) ≡ [] → b ≡ true
taken_where true x xs h = refl
taken_where false x xs h = absurd (cc)

-- two lists that are the same, each after another
pub append_same : {X : Type 0} (a b c d : List X) → a ≡ c → b ≡ d → (a ++ b) ≡ (c ++ d)
append_same a b c d p q = ap (λ x. x ++ b) p ∙ ap (λ x. c ++ x) q
