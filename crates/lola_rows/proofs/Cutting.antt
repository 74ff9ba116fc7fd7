-- Bytes cut at line ends, of which only a front is held.
use Rattle.std.proofs.Common.{◌≡◌, ℕ, ◌+◌, ◌<◌, ◌≤◌, Bool, true, false, List, [], ◌∷◌, ◌++◌, Some, length, take, drop, nat_lt, position, refl, ap, ◌∙◌, arith, inl, inr, add-one}
use Rattle.std.specs.List.{list_any, position_or_len, onto_first, slice_split}
use Rattle.std.proofs.lemmas.Bool.{cases_Bool, cases_lt, or_parts, le-ltb, lt-ltb}
use Rattle.std.proofs.lemmas.List.{take-append-le, drop-append-le, length-append}
use Rattle.std.proofs.lemmas.List.Splits.{slice_split_first, slice_split-cons_no}
use Rattle.std.proofs.Math.Seq.{take-nil}
use Rattle.lola_rows.specs.Lines.{is_line_end}

-- the parts of bytes between line feeds
abbrev pub parts : List ℕ → List (List ℕ)
parts bytes = slice_split is_line_end bytes

-- a first place, where there is one
pub record IsFirstPlace (p : ℕ → Bool) (xs : List ℕ) (n : ℕ) : Type 0 where
  pub place : position_or_len p xs ≡ n
  pub within : n < length xs

pub first-place : (p : ℕ → Bool) (xs : List ℕ) (n : ℕ) → position p xs ≡ Some n → IsFirstPlace p xs n
first-place p xs n is = elim (cases_lt (position_or_len p xs) (length xs)) [
  | inl inside ↦
      let b : nat_lt (position_or_len p xs) (length xs) ≡ true = lt-ltb _ _ inside in
      let is' = rw b at is in
      let e : position_or_len p xs ≡ n = cc in
      record { place = e; within = omega (arith, e, inside) }
  | inr past ↦
      let b : nat_lt (position_or_len p xs) (length xs) ≡ false = le-ltb _ _ past in
      let is' = rw b at is in absurd (cc is')
]

-- more bytes behind it do not move it
position-front : (p : ℕ → Bool) (xs ys : List ℕ) → position_or_len p xs < length xs → position_or_len p (xs ++ ys) ≡ position_or_len p xs
position-front p [] ys within = absurd (omega arith)
position-front p (x ∷ xs) ys within = elim (cases_Bool (p x)) [
  | inl hit ↦ rw hit refl
  | inr miss ↦ let within' = rw miss at within in let more = position-front p xs ys (omega (arith, within')) in rw (miss, more) refl
]

-- a line that is held whole is the first part
pub parts-line : (held bytes : List ℕ) (n : ℕ) → position is_line_end held ≡ Some n → parts (held ++ bytes) ≡ take n held ∷ parts (drop (n + 1) held ++ bytes)
parts-line held bytes n is =
    let first = first-place is_line_end held n is in
    let front = position-front is_line_end held bytes (omega (arith, first.place, first.within)) ∙ first.place in
    let long = length-append held bytes in
    let within : n < length held = first.within in
    slice_split_first is_line_end (held ++ bytes) 0 (omega (arith, front, long, within))
    ∙ (rw (front, take-append-le n held bytes (omega arith), drop-append-le (n + 1) held bytes (omega arith)) refl)

-- bytes without a line end are one part
pub parts-last : (held : List ℕ) → list_any is_line_end held ≡ false → parts held ≡ held ∷ []
parts-last [] none = refl
parts-last (x ∷ xs) none =
    let two = or_parts (is_line_end x) (list_any is_line_end xs) none in
    rw (two.0, parts-last xs two.1) refl

-- there is always a part
pub record HasParts (bytes : List ℕ) (long : ℕ) : Type 0 where
  pub first : List ℕ
  pub others : List (List ℕ)
  pub parts_are : parts bytes ≡ first ∷ others
  pub at_least : long ≤ length first

pub some-parts : (bytes : List ℕ) → HasParts bytes 0
some-parts [] = record { first = []; others = []; parts_are = refl; at_least = omega arith }
some-parts (x ∷ xs) = elim (cases_Bool (is_line_end x)) [
  | inl hit ↦ record { first = []; others = parts xs; parts_are = rw hit refl; at_least = omega arith }
  | inr miss ↦ let more = some-parts xs in record { first = x ∷ more.first; others = more.others; parts_are = rw (miss, more.parts_are) refl; at_least = omega arith }
]

-- the first part is as long as the bytes held without a line end, and longer
pub parts-long : (held bytes : List ℕ) → list_any is_line_end held ≡ false → HasParts (held ++ bytes) (length held)
parts-long [] bytes none = some-parts bytes
parts-long (x ∷ xs) bytes none =
    let two = or_parts (is_line_end x) (list_any is_line_end xs) none in
    let more = parts-long xs bytes two.1 in
    record {
      first = x ∷ more.first;
      others = more.others;
      parts_are = slice_split-cons_no is_line_end x (xs ++ bytes) two.0 ∙ ap (onto_first x) more.parts_are;
      at_least = omega (arith, more.at_least);
    }

-- there is no line feed before the first
pub none-before : (p : ℕ → Bool) (xs : List ℕ) (n : ℕ) → position_or_len p xs ≡ n → list_any p (take n xs) ≡ false
none-before p [] n is = ap (list_any p) (take-nil n)
none-before p (x ∷ xs) n is = elim (cases_Bool (p x)) [
  | inl hit ↦ let is' = rw hit at is in let zero : n ≡ 0 = omega (arith, is') in rw zero refl
  | inr miss ↦
      let is' = rw miss at is in
      let some : n ≡ position_or_len p xs + 1 = omega (arith, is') in
      let more = none-before p xs (position_or_len p xs) refl in
      rw (some, add-one) (rw (miss, more) refl)
]
