-- Parts of a buffer, and the first line end in them.
use Rattle.std.proofs.Common.{◌≡◌, ℕ, ◌+◌, ◌-◌, ◌<◌, ◌≤◌, Bool, true, false, List, [], ◌∷◌, ◌++◌, Option, Some, None, option_map, length, take, drop, slice_range, position, nat_lt, refl, sym, ap, subst, ◌∙◌, arith, inl, inr}
use Rattle.std.specs.List.{list_any, position_or_len}
use Rattle.std.proofs.lemmas.Bool.{or_parts, cases_lt, lt-ltb, le-ltb, cases_Bool, false_from_ne_true}
use Rattle.std.proofs.lemmas.List.{take_at, drop_at, take-append-le, take-take, drop-append-le, drop-take, drop-drop, length-take-le, length-drop, length-take, length-append}
use Rattle.std.proofs.lemmas.List.Sums.{position_or_len_is}
use Rattle.std.proofs.lemmas.List.Edits.{length-between}
use borrow.Rule.Slice.PartMut.{put_mid, post_of}
use lib.Seq.{take-add}
use Rattle.memchr.specs.Find.{IsFirstByte, is_byte}
use Rattle.lola_rows.specs.Lines.{is_line_end}

-- a part in two parts
pub joined : (xs : List ℕ) (a b c : ℕ) → a ≤ b → b ≤ c → slice_range xs a c ≡ slice_range xs a b ++ slice_range xs b c
joined xs a b c ab bc =
    let whole : c - a ≡ (b - a) + (c - b) = omega arith in
    let there : a + (b - a) ≡ b = omega arith in
    ap (λ j. take j (drop a xs)) whole ∙ take-add (b - a) (c - b) (drop a xs)
    ∙ ap (λ (l : List ℕ). take (b - a) (drop a xs) ++ take (c - b) l) (drop-drop (b - a) a xs ∙ ap (λ j. drop j xs) there)

-- a write behind a part adds to it
pub grown : (xs ys : List ℕ) (start end k n : ℕ) → start ≤ end → end ≤ length xs → n ≤ length ys
    → slice_range (put_mid end k xs ys) start (end + n) ≡ slice_range xs start end ++ take n ys
grown xs ys start end k n ordered within fits =
    let front = length-take-le end xs within in
    let held = drop start (take end xs) in
    let len : length held ≡ end - start = omega (arith, length-drop start (take end xs)) in
    let sum : end + n - start ≡ (end - start) + n = omega arith in
    let parts : end ≡ start + (end - start) = omega arith in
    let same : held ≡ take (end - start) (drop start xs) = ap (λ j. drop start (take j xs)) parts ∙ drop-take start (end - start) xs in
    let after = ys ++ post_of end k xs in
    ap (take (end + n - start)) (drop-append-le start (take end xs) after (omega arith))
    ∙ ap (λ j. take j (held ++ after)) sum ∙ take-add (end - start) n (held ++ after)
    ∙ (rw (take_at held after _ len, drop_at held after _ len, take-append-le n ys (post_of end k xs) fits, same) refl)

-- a write behind a part leaves it
pub kept : (xs ys : List ℕ) (start end stop k : ℕ) → start ≤ stop → stop ≤ end → end ≤ length xs
    → slice_range (put_mid end k xs ys) start stop ≡ slice_range xs start stop
kept xs ys start end stop k ordered before within =
    let front = length-take-le end xs within in
    let parts : stop ≡ start + (stop - start) = omega arith in
    let turn = λ (zs : List ℕ). sym (drop-take start (stop - start) zs) ∙ ap (λ j. drop start (take j zs)) (sym parts) in
    let first : take stop (put_mid end k xs ys) ≡ take stop (take end xs) = take-append-le stop (take end xs) (ys ++ post_of end k xs) (omega arith) in
    turn (put_mid end k xs ys) ∙ ap (drop start) first ∙ ap (drop start) (take-take stop end xs before) ∙ sym (turn xs)

-- a part without its first bytes
pub consumed : (xs : List ℕ) (start end count : ℕ) → start + count ≤ end → slice_range xs (start + count) end ≡ drop count (slice_range xs start end)
consumed xs start end count inside =
    let parts : end - start ≡ count + (end - (start + count)) = omega arith in
    sym (ap (λ j. drop count (take j (drop start xs))) parts ∙ drop-take count _ (drop start xs)
    ∙ ap (take (end - (start + count))) (drop-drop count start xs))

-- the first place where a test passes lies behind a front where it passes nowhere
pub position-behind : (p : ℕ → Bool) (xs ys : List ℕ) → list_any p xs ≡ false → position_or_len p (xs ++ ys) ≡ length xs + position_or_len p ys
position-behind p [] ys none = omega arith
position-behind p (x ∷ xs) ys none =
    let parts = or_parts (p x) (list_any p xs) none in
    rw parts.0 (omega (arith, position-behind p xs ys parts.1))

bound : (p : ℕ → Bool) (xs : List ℕ) → position_or_len p xs ≤ length xs
bound p [] = omega arith
bound p (x ∷ xs) = elim (cases_Bool (p x)) [ inl hit ↦ rw hit (omega arith) | inr miss ↦ rw miss (omega (arith, bound p xs)) ]

-- a test passes nowhere where its first place is the length
pub nowhere : (p : ℕ → Bool) (xs : List ℕ) → position_or_len p xs ≡ length xs → list_any p xs ≡ false
nowhere p [] is = refl
nowhere p (x ∷ xs) is = elim (cases_Bool (p x)) [
  | inl hit ↦ let is' = rw hit at is in absurd (omega (arith, is'))
  | inr miss ↦ let is' = rw miss at is in rw miss (nowhere p xs (omega (arith, is')))
]

-- what a search for line ends found is the first one
pub first-line-end : (xs : List ℕ) (r : Option ℕ) → IsFirstByte (is_byte 10) xs r → r ≡ position is_line_end xs
first-line-end xs None none =
    let at_end : position_or_len is_line_end xs ≡ length xs =
    position_or_len_is is_line_end xs (length xs) 0 (omega arith) (λ k lt. false_from_ne_true _ (none k (omega arith) lt)) (λ lt. absurd (omega (arith, lt))) in
    rw (at_end, le-ltb (length xs) (length xs) (omega arith)) refl
first-line-end xs (Some k) some =
    let high : k < length xs = some.0.high in
    let is : position_or_len is_line_end xs ≡ k =
    position_or_len_is is_line_end xs k 0 (omega arith) (λ j lt. false_from_ne_true _ (some.0.before j (omega arith) lt)) (λ lt. some.1) in
    rw (is, lt-ltb k (length xs) high) refl

-- the first place behind a front
pub place-behind : (p : ℕ → Bool) (front xs : List ℕ) → list_any p front ≡ false → position p (front ++ xs) ≡ option_map (λ k. length front + k) (position p xs)
place-behind p front xs none =
    let long = length-append front xs in
    let at = position-behind p front xs none in
    elim (cases_lt (position_or_len p xs) (length xs)) [
      | inl inside ↦
          let a : nat_lt (position_or_len p (front ++ xs)) (length (front ++ xs)) ≡ true = lt-ltb _ _ (omega arith) in
          let b : nat_lt (position_or_len p xs) (length xs) ≡ true = lt-ltb _ _ inside in
          rw (a, b, at) refl
      | inr past ↦
          let a : nat_lt (position_or_len p (front ++ xs)) (length (front ++ xs)) ≡ false = le-ltb _ _ (omega arith) in
          let b : nat_lt (position_or_len p xs) (length xs) ≡ false = le-ltb _ _ past in
          rw (a, b) refl
    ]

-- a search behind a front without a line end
pub find-behind : (front xs : List ℕ) (r : Option ℕ) → list_any is_line_end front ≡ false → IsFirstByte (is_byte 10) xs r
    → position is_line_end (front ++ xs) ≡ option_map (λ k. length front + k) r
find-behind front xs r none first =
    place-behind is_line_end front xs none ∙ ap (option_map (λ k. length front + k)) (sym (first-line-end xs r first))

-- no place was found: there is none
pub none-found : (p : ℕ → Bool) (xs : List ℕ) → position p xs ≡ None → list_any p xs ≡ false
none-found p xs none = elim (cases_lt (position_or_len p xs) (length xs)) [
  | inl inside ↦ let b : nat_lt (position_or_len p xs) (length xs) ≡ true = lt-ltb _ _ inside in let none' = rw b at none in absurd (cc none')
  | inr past ↦ nowhere p xs (omega (arith, bound p xs))
]

-- a search of the part that was not searched yet
pub found : (xs ys : List ℕ) (start scanned end : ℕ) (r : Option ℕ) → ys ≡ xs → start + scanned ≤ end → end ≤ length xs
    → list_any is_line_end (slice_range xs start (start + scanned)) ≡ false → IsFirstByte (is_byte 10) (slice_range ys (start + scanned) end) r
    → position is_line_end (slice_range xs start end) ≡ option_map (λ k. scanned + k) r
found xs ys start scanned end r same ordered within none first =
    let long : length (slice_range xs start (start + scanned)) ≡ scanned = omega (arith, length-between xs start (start + scanned) (omega arith)) in
    ap (position is_line_end) (joined xs start (start + scanned) end (omega arith) ordered)
    ∙ find-behind _ _ r none (subst (λ (zs : List ℕ). IsFirstByte (is_byte 10) (slice_range zs (start + scanned) end) r) same first)
    ∙ ap (λ n. option_map (λ k. n + k) r) long

-- nothing was found: the whole part has no line end
pub not-found : (xs ys : List ℕ) (start scanned end : ℕ) (r : Option ℕ) → ys ≡ xs → start + scanned ≤ end → end ≤ length xs
    → list_any is_line_end (slice_range xs start (start + scanned)) ≡ false → IsFirstByte (is_byte 10) (slice_range ys (start + scanned) end) r → r ≡ None
    → list_any is_line_end (slice_range xs start (start + (end - start))) ≡ false
not-found xs ys start scanned end r same ordered within none first is =
    let there : start + (end - start) ≡ end = omega arith in
    ap (λ n. list_any is_line_end (slice_range xs start n)) there
    ∙ none-found is_line_end (slice_range xs start end) (found xs ys start scanned end r same ordered within none first ∙ ap (option_map (λ k. scanned + k)) is)

-- a write of the rest of a buffer keeps its length
pub length-put : (xs ys : List ℕ) (end : ℕ) → end ≤ length xs → length ys ≡ length xs - end → length (put_mid end (length xs - end) xs ys) ≡ length xs
length-put xs ys end within long =
    omega (arith, length-take end xs, length-append ys (post_of end (length xs - end) xs), length-append (take end xs) (ys ++ post_of end (length xs - end) xs), length-drop (length xs - end) (drop end xs), length-drop end xs)

-- it leaves a front without a line end
pub still-unended : (xs ys : List ℕ) (start end scanned k : ℕ) → start + scanned ≤ end → end ≤ length xs
    → list_any is_line_end (slice_range xs start (start + scanned)) ≡ false → list_any is_line_end (slice_range (put_mid end k xs ys) start (start + scanned)) ≡ false
still-unended xs ys start end scanned k ordered within none = ap (list_any is_line_end) (kept xs ys start end (start + scanned) k (omega arith) ordered within) ∙ none

-- what a read adds to a part of a buffer
pub put-grown : (bytes xs ys zs : List ℕ) (start end n : ℕ) → xs ≡ bytes → zs ≡ put_mid end (length xs - end) xs ys → start ≤ end → end ≤ length xs → n ≤ length ys
    → slice_range zs start (end + n) ≡ slice_range bytes start end ++ take n ys
put-grown bytes xs ys zs start end n same is ordered within fits =
    ap (λ (l : List ℕ). slice_range l start (end + n)) is ∙ grown xs ys start end (length xs - end) n ordered within fits ∙ ap (λ (l : List ℕ). slice_range l start end ++ take n ys) same

-- and what it leaves
pub put-unended : (bytes xs ys zs : List ℕ) (start end scanned : ℕ) → xs ≡ bytes → zs ≡ put_mid end (length xs - end) xs ys → start + scanned ≤ end → end ≤ length xs
    → list_any is_line_end (slice_range bytes start (start + scanned)) ≡ false → list_any is_line_end (slice_range zs start (start + scanned)) ≡ false
put-unended bytes xs ys zs start end scanned same is ordered within none =
    ap (λ (l : List ℕ). list_any is_line_end (slice_range l start (start + scanned))) is
    ∙ still-unended xs ys start end scanned (length xs - end) ordered within (ap (λ (l : List ℕ). list_any is_line_end (slice_range l start (start + scanned))) same ∙ none)
