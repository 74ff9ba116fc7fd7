-- Lists that are looked up by place.
use Rattle.std.proofs.Common.{◌≡◌, ℕ, zero, suc, List, [], ◌∷◌, ◌++◌, Some, All, map, length, reverse, refl, sym, ap, ◌∙◌, subst, arith}
use Rattle.std.proofs.lemmas.List.Elements.{All-append, All-cons, All-head, All-nil, All-tail, AllZip-push}
use Rattle.std.proofs.lemmas.List.{reverse-append}
use Rattle.std.specs.Prelude.{slice_get}
use Rattle.std.specs.List.{AllZip}
use Rattle.lola_monitor_run.proofs.Lists.{some_is, some_not}

-- what holds of all holds at each place
pub all_at : {A : Type 0} (P : A → Type 0) (xs : List A) (k : ℕ) (x : A) → All P xs → slice_get xs k ≡ Some x → P x
all_at P [] k x all is = absurd (some_not (sym is))
all_at P (y ∷ xs) zero x all is = subst P (some_is is) (All-head P y xs all)
all_at P (y ∷ xs) (suc k) x all is = all_at P xs k x (All-tail P y xs all) is

-- and what holds at each place holds of all
pub all_from : {A : Type 0} (P : A → Type 0) (xs : List A) → ((k : ℕ) (x : A) → slice_get xs k ≡ Some x → P x) → All P xs
all_from P [] each = All-nil P
all_from P (x ∷ xs) each = All-cons P x xs (each 0 x refl) (all_from P xs (λ k y is. each (suc k) y is))

-- of a list with something in front
pub all_behind : {A : Type 0} (P : A → Type 0) (xs ys : List A) → All P (xs ++ ys) → All P ys
all_behind P [] ys all = all
all_behind P (x ∷ xs) ys all = all_behind P xs ys (All-tail P x (xs ++ ys) all)

-- what holds place by place
pub zip_at : {A B : Type 0} (R : A → B → Type 0) (xs : List A) (ys : List B) (k : ℕ) (x : A) (y : B) → AllZip R xs ys → slice_get xs k ≡ Some x → slice_get ys k ≡ Some y → R x y
zip_at R [] ys k x y all was is = absurd (some_not (sym was))
zip_at R (a ∷ xs) [] k x y all was is = absurd (some_not (sym is))
zip_at R (a ∷ xs) (b ∷ ys) zero x y all was is = subst (λ a. R a y) (some_is was) (subst (R a) (some_is is) all.0)
zip_at R (a ∷ xs) (b ∷ ys) (suc k) x y all was is = zip_at R xs ys k x y all.1 was is

pub zip_from : {A B : Type 0} (R : A → B → Type 0) (xs : List A) (ys : List B) → length ys ≡ length xs → ((k : ℕ) (x : A) (y : B) → slice_get xs k ≡ Some x → slice_get ys k ≡ Some y → R x y) → AllZip R xs ys
zip_from R [] [] many each = tt
zip_from R [] (y ∷ ys) many each = absurd (omega arith)
zip_from R (x ∷ xs) [] many each = absurd (omega arith)
zip_from R (x ∷ xs) (y ∷ ys) many each = (each 0 x y refl refl, zip_from R xs ys (omega arith) (λ k a b was is. each (suc k) a b was is))

pub zip_long : {A B : Type 0} (R : A → B → Type 0) (xs : List A) (ys : List B) → AllZip R xs ys → length ys ≡ length xs
zip_long R [] [] all = refl
zip_long R [] (y ∷ ys) all = absurd all
zip_long R (x ∷ xs) [] all = absurd all
zip_long R (x ∷ xs) (y ∷ ys) all = ap suc (zip_long R xs ys all.1)

-- with one more at the end of each
pub zip_last : {A B : Type 0} (R : A → B → Type 0) (xs : List A) (ys : List B) (x : A) (y : B) → AllZip R (xs ++ x ∷ []) (ys ++ y ∷ []) → AllZip R xs ys × R x y
zip_last R [] [] x y all = (tt, all.0)
zip_last R [] (b ∷ []) x y all = absurd all.1
zip_last R [] (b ∷ c ∷ ys) x y all = absurd all.1
zip_last R (a ∷ []) [] x y all = absurd all.1
zip_last R (a ∷ c ∷ xs) [] x y all = absurd all.1
zip_last R (a ∷ xs) (b ∷ ys) x y all = let rest = zip_last R xs ys x y all.1 in ((all.0, rest.0), rest.1)

-- a list with something in it is not empty
pub not_none : {A : Type 0} (xs : List A) (x : A) → xs ++ x ∷ [] ≡ [] → ⊥
not_none [] x e = absurd (cc e)
not_none (y ∷ xs) x e = absurd (cc e)

-- lists that are alike place by place
pub mapped_alike : {A B : Type 0} (f : A → B) (xs ys : List A) → length ys ≡ length xs → ((k : ℕ) (x y : A) → slice_get xs k ≡ Some x → slice_get ys k ≡ Some y → f y ≡ f x) → map f ys ≡ map f xs
mapped_alike f [] [] many each = refl
mapped_alike f [] (y ∷ ys) many each = absurd (omega arith)
mapped_alike f (x ∷ xs) [] many each = absurd (omega arith)
mapped_alike f (x ∷ xs) (y ∷ ys) many each = ap (λ a. a ∷ map f ys) (each 0 x y refl refl) ∙ ap (λ l. f x ∷ l) (mapped_alike f xs ys (omega arith) (λ k a b was is. each (suc k) a b was is))

-- in reverse

reversed : {A : Type 0} (x : A) (xs : List A) → reverse (x ∷ xs) ≡ reverse xs ++ x ∷ []
reversed x xs = reverse-append (x ∷ []) xs

pub reverse_all : {A : Type 0} (P : A → Type 0) (xs : List A) → All P xs → All P (reverse xs)
reverse_all P [] all = all
reverse_all P (x ∷ xs) all = subst (All P) (sym (reversed x xs)) (All-append P (reverse xs) (x ∷ []) (reverse_all P xs (All-tail P x xs all)) (All-cons P x [] (All-head P x xs all) (All-nil P)))

pub reverse_zip : {A : Type 0} (R : A → A → Type 0) (xs ys : List A) → AllZip R xs ys → AllZip R (reverse xs) (reverse ys)
reverse_zip R [] [] all = tt
reverse_zip R [] (y ∷ ys) all = absurd all
reverse_zip R (x ∷ xs) [] all = absurd all
reverse_zip R (x ∷ xs) (y ∷ ys) all = subst (λ l. AllZip R l (reverse (y ∷ ys))) (sym (reversed x xs)) (subst (AllZip R (reverse xs ++ x ∷ [])) (sym (reversed y ys)) (AllZip-push R (reverse xs) (reverse ys) x y (reverse_zip R xs ys all.1) all.0))

pub last_first : {A : Type 0} (xs : List A) (x : A) → reverse (xs ++ x ∷ []) ≡ x ∷ reverse xs
last_first xs x = reverse-append xs (x ∷ [])
