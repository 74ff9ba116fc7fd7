-- Steps over spaces and tabs.
use Rattle.std.specs.Prelude.{◌==◌}
use Rattle.std.proofs.Common.{◌≡◌, ◌∷◌, ◌++◌, ◌∙◌, [], ℕ, List, refl, sym, ap, true, false, drop, take, length, get_or, ◌+◌, ◌-◌, ◌<◌, ◌≤◌, arith}
use Rattle.std.proofs.lemmas.Bool.{ne_eqb}
use Rattle.std.proofs.lemmas.List.{drop_all, drop_more, length-take, take_all, take_more}
use Rattle.lola_rows.specs.Blanks.{after_blanks, is_blank_byte, kept_length}

pub blanks-step : (xs : List ℕ) (i : ℕ) → i < length xs → is_blank_byte (get_or xs i 0) ≡ true → after_blanks (drop i xs) ≡ after_blanks (drop (i + 1) xs)
unfolding after_blanks
blanks-step xs i lt h = rw (drop_more xs i 0 lt, h) refl

pub blanks-stop : (xs : List ℕ) (i : ℕ) → i < length xs → is_blank_byte (get_or xs i 0) ≡ false → after_blanks (drop i xs) ≡ drop i xs
unfolding after_blanks
blanks-stop xs i lt h = rw (drop_more xs i 0 lt, h) refl

pub blanks-end : (xs : List ℕ) (i : ℕ) → length xs ≤ i → after_blanks (drop i xs) ≡ drop i xs
unfolding after_blanks
blanks-end xs i h = rw (drop_all i xs h) refl

kept-blank : (xs : List ℕ) (c : ℕ) → is_blank_byte c ≡ true → kept_length (xs ++ (c ∷ [])) ≡ kept_length xs
unfolding kept_length
kept-blank [] c h = rw h refl
kept-blank (x ∷ xs) c h = rw (kept-blank xs c h) refl

kept-other : (xs : List ℕ) (c : ℕ) → is_blank_byte c ≡ false → kept_length (xs ++ (c ∷ [])) ≡ length xs + 1
unfolding kept_length
kept-other [] c h = rw h refl
kept-other (x ∷ xs) c h =
    let z : (length xs + 1 == 0) ≡ false = ne_eqb (length xs + 1) 0 (λ e. absurd (omega (arith, e))) in
    rw (kept-other xs c h, z) (omega arith)

pub kept-step : (xs : List ℕ) (i : ℕ) → i < length xs → is_blank_byte (get_or xs i 0) ≡ true → kept_length (take (i + 1) xs) ≡ kept_length (take i xs)
kept-step xs i lt h = rw (take_more xs i 0 lt) (kept-blank (take i xs) (get_or xs i 0) h)

pub kept-stop : (xs : List ℕ) (i : ℕ) → i < length xs → is_blank_byte (get_or xs i 0) ≡ false → kept_length (take (i + 1) xs) ≡ i + 1
kept-stop xs i lt h =
    let n = length-take i xs in
    let m : length (take i xs) ≡ i = omega arith in
    rw (take_more xs i 0 lt) (kept-other (take i xs) (get_or xs i 0) h ∙ ap (λ (k : ℕ). k + 1) m)

pub blanks-all : (xs : List ℕ) (i : ℕ) → length xs ≤ i → after_blanks xs ≡ after_blanks (drop i xs) → drop (length xs) xs ≡ after_blanks xs
blanks-all xs i h e =
    let end : length xs ≤ length xs = omega arith in
    drop_all (length xs) xs end ∙ sym (drop_all i xs h) ∙ sym (blanks-end xs i h) ∙ sym e

pub kept-before : (xs : List ℕ) (e : ℕ) → 0 < e → e ≤ length xs → is_blank_byte (get_or xs (e - 1) 0) ≡ true → kept_length (take e xs) ≡ kept_length (take (e - 1) xs)
kept-before xs e some le h =
    let s : e - 1 + 1 ≡ e = omega arith in
    let lt : e - 1 < length xs = omega arith in
    ap (λ (k : ℕ). kept_length (take k xs)) (sym s) ∙ kept-step xs (e - 1) lt h

pub kept-all : (xs : List ℕ) (e : ℕ) → 0 < e → e ≤ length xs → is_blank_byte (get_or xs (e - 1) 0) ≡ false → kept_length (take e xs) ≡ e
kept-all xs e some le h =
    let s : e - 1 + 1 ≡ e = omega arith in
    let lt : e - 1 < length xs = omega arith in
    ap (λ (k : ℕ). kept_length (take k xs)) (sym s) ∙ kept-stop xs (e - 1) lt h ∙ s

pub kept-whole : (xs : List ℕ) → kept_length xs ≡ kept_length (take (length xs) xs)
kept-whole xs = let end : length xs ≤ length xs = omega arith in ap kept_length (sym (take_all (length xs) xs end))

pub kept-none : (xs : List ℕ) (e : ℕ) → e ≤ 0 → kept_length (take e xs) ≡ 0
unfolding kept_length
kept-none xs e h = let z : e ≡ 0 = omega arith in rw z refl
