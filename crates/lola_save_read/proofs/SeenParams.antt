-- Parameters are among those of some instances.
use Rattle.std.proofs.Common.{◌≡◌, ◌∷◌, ℕ, ◌+◌, ◌<◌, ◌++◌, List, [], Bool, true, false, refl, sym, ap, ◌∙◌, length, take, drop, get_or}
use Rattle.std.specs.Prelude.{◌||◌}
use Rattle.lola_value.specs.declared.text.Field.{Field}
use Rattle.lola_value.specs.Arithmetic.{all_equal, bytes_equal}
use Rattle.lola_save_text.specs.Fitting.{is_among}
use Rattle.lola_save_text.specs.declared.state.SavedInstance.{SavedInstance}
use Rattle.lola_save_read.specs.Turns.{low_after, seen_after}
use Rattle.lola_save_read.proofs.Items.{item-split, item-take}
use Rattle.lola_save_text.specs.Fitting.{time_or}
use Rattle.std.specs.Prelude.{nat_eq, ◌&&◌}
use Rattle.std.proofs.lemmas.Bool.{and_parts, eqb-true, eq-eqb}

pub seen-more : (seen : List (List Field)) (is : List SavedInstance) (i : SavedInstance) → seen_after seen (is ++ i ∷ []) ≡ i.params ∷ seen_after seen is
seen-more seen [] i = refl
seen-more seen (x ∷ is) i = seen-more (x.params ∷ seen) is i

pub low-more : (low : ℕ) (is : List SavedInstance) (i : SavedInstance) → low_after low (is ++ i ∷ []) ≡ time_or (low_after low is) i.born
low-more low [] i = refl
low-more low (x ∷ is) i = low-more (time_or low x.born) is i

or-true : (b : Bool) → (b || true) ≡ true
or-true true = refl
or-true false = refl

among-later : (p : List Field) (seen : List (List Field)) (is : List SavedInstance) → is_among p seen ≡ true → is_among p (seen_after seen is) ≡ true
among-later p seen [] e = e
among-later p seen (i ∷ is) e = among-later p (i.params ∷ seen) is (ap (λ b. all_equal p i.params || b) e ∙ or-true (all_equal p i.params))

seen-split : (seen : List (List Field)) (xs ys : List SavedInstance) → seen_after seen (xs ++ ys) ≡ seen_after (seen_after seen xs) ys
seen-split seen [] ys = refl
seen-split seen (x ∷ xs) ys = seen-split (x.params ∷ seen) xs ys

pub among-there : (p : List Field) (xs ys : List SavedInstance) (i : SavedInstance) → all_equal p i.params ≡ true → is_among p (seen_after [] (xs ++ i ∷ ys)) ≡ true
among-there p xs ys i e =
    ap (is_among p) (seen-split [] xs (i ∷ ys)) ∙ among-later p (i.params ∷ seen_after [] xs) ys (ap (λ b. b || is_among p (seen_after [] xs)) e)

pub among-not-yet : (p : List Field) (xs : List SavedInstance) (i : SavedInstance) → is_among p (seen_after [] xs) ≡ false → all_equal p i.params ≡ false → is_among p (seen_after [] (xs ++ i ∷ [])) ≡ false
among-not-yet p xs i e f = ap (is_among p) (seen-more [] xs i) ∙ ap (λ b. b || is_among p (seen_after [] xs)) f ∙ e

pub bytes-same : (a b : List ℕ) → bytes_equal a b ≡ true → a ≡ b
bytes-same [] [] e = refl
bytes-same [] (y ∷ b) e = absurd (cc)
bytes-same (x ∷ a) [] e = absurd (cc)
bytes-same (x ∷ a) (y ∷ b) e =
    let p = and_parts (nat_eq x y) (bytes_equal a b) e in
    let h : x ≡ y = eqb-true x y p.0 in
    let g = bytes-same a b p.1 in
    λ i. h i ∷ g i

pub same-bytes : (a : List ℕ) → bytes_equal a a ≡ true
same-bytes [] = refl
same-bytes (x ∷ a) = ap (λ t. t && bytes_equal a a) (eq-eqb x x refl) ∙ same-bytes a

pub is-bytes-equal : (a b : List ℕ) (r : Bool) → (r ≡ true → a ≡ b) → (a ≡ b → r ≡ true) → r ≡ bytes_equal a b
is-bytes-equal a b true f g = sym (ap (bytes_equal a) (sym (f refl)) ∙ same-bytes a)
is-bytes-equal a b false f g = by (bytes_equal a b) refl
  where
    by : (t : Bool) → bytes_equal a b ≡ t → false ≡ bytes_equal a b
    by true e = let x : false ≡ true = g (bytes-same a b e) in absurd (cc x)
    by false e = sym e

-- at an index

pub among-at : (p : List Field) (xs : List SavedInstance) (i : ℕ) (x d : SavedInstance) → i < length xs → x ≡ get_or xs i d → all_equal p x.params ≡ true → is_among p (seen_after [] xs) ≡ true
among-at p xs i x d lt e f = ap (λ (l : List SavedInstance). is_among p (seen_after [] l)) (item-split xs i x d lt e) ∙ among-there p (take i xs) (drop (i + 1) xs) x f

pub among-not-at : (p : List Field) (xs : List SavedInstance) (i : ℕ) (x d : SavedInstance) → i < length xs → x ≡ get_or xs i d → is_among p (seen_after [] (take i xs)) ≡ false → all_equal p x.params ≡ false
    → is_among p (seen_after [] (take (i + 1) xs)) ≡ false
among-not-at p xs i x d lt e f g = ap (λ (l : List SavedInstance). is_among p (seen_after [] l)) (item-take xs i x d lt e) ∙ among-not-yet p (take i xs) x f g
