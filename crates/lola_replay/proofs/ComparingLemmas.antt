-- What a comparison of lines tells of a text.
use Rattle.std.proofs.Common.{◌≡◌, ◌≢◌, ◌∙◌, refl, sym, ap, subst, ℕ, suc, ◌+◌, ◌<◌, List, [], ◌∷◌, ◌++◌, Option, Some, None, Bool, true, false, if◌then◌else◌, ◌&&◌, arith, append_assoc, append-nil, drop, length, nat_eq, nat_lt, slice_get, take}
use Rattle.std.specs.Prelude.{◌==◌}
use Rattle.std.proofs.lemmas.Bool.{and_parts, eqb-true, lt-ltb}
use Rattle.std.proofs.lemmas.List.{length-append}
use Rattle.lola_model.proofs.Growing.{slice_get-append}
use Rattle.lola_model.proofs.Lookups.{bytes_equal-same, bytes_equal-true}
use Rattle.lola_value.specs.Arithmetic.{bytes_equal}
use Rattle.lola_replay.specs.Comparing.{Comparison, IsCompared, IsFirstOther, after_line, after_lines, compared_if, is_first_line, line_long, uncompared}
use Rattle.lola_replay.specs.LinesOf.{in_front, lines_of}
use Rattle.lola_replay.proofs.RightLines.{seam}

-- the first line of a text, and those behind it

with-front : (b : ℕ) (bs : List ℕ) (k : ℕ) → in_front b (lines_of bs) ≡ (b ∷ take k bs) ∷ lines_of (drop k bs) → in_front b (lines_of bs) ≡ take (k + 1) (b ∷ bs) ∷ lines_of (drop (k + 1) (b ∷ bs))
with-front b bs k e = let next : suc k ≡ k + 1 = omega arith in e ∙ ap (λ n. take n (b ∷ bs) ∷ lines_of (drop n (b ∷ bs))) next

by-lf : (b : ℕ) (bs : List ℕ) (t : Bool) → in_front b (lines_of bs) ≡ take (line_long bs + 1) (b ∷ bs) ∷ lines_of (drop (line_long bs + 1) (b ∷ bs))
    → (if t then (b ∷ []) ∷ lines_of bs else in_front b (lines_of bs))
    ≡ take (if t then 1 else line_long bs + 1) (b ∷ bs) ∷ lines_of (drop (if t then 1 else line_long bs + 1) (b ∷ bs))
by-lf b bs true more = refl
by-lf b bs false more = more

pub lines-first : (b : ℕ) (bs : List ℕ) → lines_of (b ∷ bs) ≡ take (line_long (b ∷ bs)) (b ∷ bs) ∷ lines_of (drop (line_long (b ∷ bs)) (b ∷ bs))
lines-first b [] = by-lf b [] (nat_eq b 10) (with-front b [] 0 refl)
lines-first b (x ∷ xs) = by-lf b (x ∷ xs) (nat_eq b 10) (with-front b (x ∷ xs) (line_long (x ∷ xs)) (ap (in_front b) (lines-first x xs)))

other-more : (lines shown more : List (List ℕ)) (n : ℕ) → IsFirstOther lines shown n → IsFirstOther lines (shown ++ more) n
other-more lines shown more n is =
    let long = length-append shown more in
    record {
      place = is.place;
      number = is.number;
      within = (let w = is.within in omega (arith, w, long));
      same = λ k low. (let w = is.within in is.same k low ∙ sym (slice_get-append shown more k (omega (arith, low, w))));
      other = λ e. is.other (e ∙ slice_get-append shown more is.place is.within);
    }

-- at the front of a list, and at the place behind it
front-same : (xs ys zs : List (List ℕ)) (k : ℕ) → k < length xs → slice_get (xs ++ ys) k ≡ slice_get (xs ++ zs) k
front-same xs ys zs k low = slice_get-append xs ys k low ∙ sym (slice_get-append xs zs k low)

at-behind : (xs ys : List (List ℕ)) → slice_get (xs ++ ys) (length xs) ≡ slice_get ys 0
at-behind [] ys = refl
at-behind (x ∷ xs) ys = at-behind xs ys

-- what the test of a first line tells

line-hit : (line rest : List ℕ) → is_first_line line rest ≡ true → lines_of rest ≡ line ∷ lines_of (drop (line_long rest) rest)
line-hit line [] hit = absurd (cc hit)
line-hit line (b ∷ bs) hit =
    let first = take (line_long (b ∷ bs)) (b ∷ bs) in
    let parts = and_parts (nat_lt 0 (length (b ∷ bs))) (bytes_equal first line) hit in
    lines-first b bs ∙ ap (λ l. l ∷ lines_of (drop (line_long (b ∷ bs)) (b ∷ bs))) (bytes_equal-true first line parts.1)

line-miss : (line rest : List ℕ) → is_first_line line rest ≡ false → slice_get (lines_of rest) 0 ≢ Some line
line-miss line [] miss e = absurd (cc e)
line-miss line (b ∷ bs) miss e =
    let first = take (line_long (b ∷ bs)) (b ∷ bs) in
    let both : Some first ≡ Some line = sym (ap (λ (ls : List (List ℕ)). slice_get ls 0) (lines-first b bs)) ∙ e in
    let same : first ≡ line = cc both in
    let there : nat_lt 0 (length (b ∷ bs)) ≡ true = lt-ltb 0 (length (b ∷ bs)) (omega arith) in
    let hit : is_first_line line (b ∷ bs) ≡ true =
    ap (λ t. t && bytes_equal first line) there ∙ ap (λ l. bytes_equal l line) same ∙ bytes_equal-same line in
    let clash : true ≡ false = sym hit ∙ miss in
    absurd (cc clash)

module _ (text : List ℕ) (shown : List (List ℕ)) (line : List ℕ) where
  -- another line is found here
  other-here : (others : List (List ℕ)) → lines_of text ≡ shown ++ others → slice_get others 0 ≢ Some line → IsFirstOther (lines_of text) (shown ++ line ∷ []) (length shown + 1)
  other-here others whole off =
      let long = length-append shown (line ∷ []) in
      record {
        place = length shown;
        number = refl;
        within = omega (arith, long);
        same = λ k low. ap (λ (ls : List (List ℕ)). slice_get ls k) whole ∙ front-same shown others (line ∷ []) k low;
        other = λ e.
            off (sym (at-behind shown others) ∙ ap (λ (ls : List (List ℕ)). slice_get ls (length shown)) (sym whole) ∙ e ∙ seam shown line []);
      }

  one-more : (c : Comparison) → lines_of text ≡ shown ++ lines_of c.rest → c.lines ≡ length shown
      → (same : Bool) → (same ≡ true → lines_of c.rest ≡ line ∷ lines_of (drop (line_long c.rest) c.rest)) → (same ≡ false → slice_get (lines_of c.rest) 0 ≢ Some line)
      → IsCompared text (shown ++ line ∷ []) (compared_if same c) (compared_if same c).other
  one-more c whole count true hit miss =
      let long = length-append shown (line ∷ []) in (
        whole ∙ ap (λ (ls : List (List ℕ)). shown ++ ls) (hit refl) ∙ sym (append_assoc shown (line ∷ []) (lines_of (drop (line_long c.rest) c.rest))),
        omega (arith, count, long),
      )
  one-more c whole count false hit miss =
      subst (λ m. IsFirstOther (lines_of text) (shown ++ line ∷ []) (m + 1)) (sym count) (other-here (lines_of c.rest) whole (miss refl))

  pub compared-one : (c : Comparison) → IsCompared text shown c c.other → IsCompared text (shown ++ line ∷ []) (after_line c line) (after_line c line).other
  compared-one c is = go c.other refl is
    where
      go : (o : Option ℕ) → c.other ≡ o → IsCompared text shown c o
          → let d = elim o as (λ _. Comparison) [ None ↦ compared_if (is_first_line line c.rest) c | Some n ↦ c ] in IsCompared text (shown ++ line ∷ []) d d.other
      go None e is = one-more c is.0 is.1 (is_first_line line c.rest) (line-hit line c.rest) (line-miss line c.rest)
      go (Some n) e is = subst (λ o. IsCompared text (shown ++ line ∷ []) c o) (sym e) (other-more (lines_of text) shown (line ∷ []) n is)

-- after all lines
pub compared-all : (text : List ℕ) (shown more : List (List ℕ)) (c : Comparison) → IsCompared text shown c c.other
    → IsCompared text (shown ++ more) (after_lines c more) (after_lines c more).other
compared-all text shown [] c is = subst (λ (ls : List (List ℕ)). IsCompared text ls c c.other) (sym (append-nil shown)) is
compared-all text shown (line ∷ lines) c is =
    subst (λ (ls : List (List ℕ)). IsCompared text ls (after_lines (after_line c line) lines) (after_lines (after_line c line) lines).other) (append_assoc shown (line ∷ []) lines)
    (compared-all text (shown ++ line ∷ []) lines (after_line c line) (compared-one text shown line c is))

pub compared-none : (text : List ℕ) → IsCompared text [] (uncompared text) None
compared-none text = (refl, refl)

pub after_append : (c : Comparison) (xs ys : List (List ℕ)) → after_lines c (xs ++ ys) ≡ after_lines (after_lines c xs) ys
after_append c [] ys = refl
after_append c (x ∷ xs) ys = after_append (after_line c x) xs ys

-- whether bytes are left

pub not-empty : (bytes : List ℕ) → false ≡ (length bytes == 0) → bytes ≢ []
not-empty bytes h e = cc (rw e at h)

pub empty-is : (bytes : List ℕ) → true ≡ (length bytes == 0) → bytes ≡ []
empty-is [] h = refl
empty-is (b ∷ bs) h = let none : suc (length bs) ≡ 0 = eqb-true (suc (length bs)) 0 (sym h) in absurd (omega (arith, none))

-- a line is not empty
pub line-some : (bytes : List ℕ) → bytes ≢ [] → (n : ℕ) → n ≡ line_long bytes → 0 < n
line-some [] some n is = absurd (some refl)
line-some (b ∷ bs) some n is = go (nat_eq b 10) is
  where
    go : (t : Bool) → n ≡ (if t then 1 else line_long bs + 1) → 0 < n
    go true e = omega (arith, e)
    go false e = omega (arith, e)
