-- The token that is found at the front of a text is the longest one there.
use Rattle.std.proofs.Common.{◌≡◌, ℕ, ◌+◌, ◌≤◌, ◌<◌, Bool, true, false, ◌&&◌, ◌||◌, ◌==◌, ◌⊎◌, [], ◌∷◌, ◌++◌, length, take, drop, refl, sym, ap, ◌∙◌, true≢false, inl, inr, arith, eqb-true, get_or-take, append-nil, length-take, Option, Some, None}
use Rattle.std.specs.List.{prefix_len, slice_index, list_all}
use Rattle.std.specs.Prelude.{codes}
use Rattle.std.specs.Char.{is_ascii_digit}
use Rattle.std.specs.Str.{is_utf8}
use Rattle.std.specs.Bool.{if◌then◌else◌}
use Rattle.std.proofs.lemmas.List.{get_or_past, length-take-le, take-take}
use Rattle.std.proofs.lemmas.List.Elements.{All-more}
use Rattle.std.proofs.lemmas.List.Sums.{AllPass-from_list_all}
use Rattle.std.proofs.lemmas.Bool.Decides.{leb_tells}
use Rattle.std.proofs.lemmas.Bool.{false_from_ne_true, or_parts}
use Rattle.lola_lexer.specs.declared.shape.TokenShape.{TokenShape}
use Rattle.lola_lexer.specs.declared.shape.TokenShape.TheVariants as is
use Rattle.lola_lexer.specs.declared.scan.thing.Thing.TheVariants as thing
use Rattle.lola_lexer.specs.Spelling.{Bytes, begins_name, in_name, in_line, spelling, IsWord, IsToken}
use Rattle.lola_lexer.specs.Lexical.{shape_of_word, thing_at, comment_end, commented, line_comment, block_comment}
use Rattle.lola_lexer.specs.Longest.{goes_on, NumberEnds, BeginsComment, IsLongest, StandsAt}
use Rattle.lola_lexer.proofs.Words.{word_shape}
use Rattle.lola_lexer.proofs.Fixed.{some_bytes}
use Rattle.lola_lexer.proofs.WholeTexts.{front_line, front_block}
use Rattle.lola_lexer.proofs.Complete.{complete, token_some, stands_found, found_stands}

-- ---- what is found is the longest

-- nothing behind it makes a token longer
goes_nowhere : (s : TokenShape) → goes_on s 0 0 ≡ false
goes_nowhere is.Input = refl
goes_nowhere is.Output = refl
goes_nowhere is.Constant = refl
goes_nowhere is.Trigger = refl
goes_nowhere is.Spawn = refl
goes_nowhere is.Eval = refl
goes_nowhere is.Close = refl
goes_nowhere is.With = refl
goes_nowhere is.When = refl
goes_nowhere is.If = refl
goes_nowhere is.Then = refl
goes_nowhere is.Else = refl
goes_nowhere is.True = refl
goes_nowhere is.False = refl
goes_nowhere is.Name = refl
goes_nowhere is.Integer = refl
goes_nowhere is.Quantity = refl
goes_nowhere is.Text = refl
goes_nowhere is.Define = refl
goes_nowhere is.Colon = refl
goes_nowhere is.Comma = refl
goes_nowhere is.Open = refl
goes_nowhere is.Shut = refl
goes_nowhere is.Dot = refl
goes_nowhere is.At = refl
goes_nowhere is.Plus = refl
goes_nowhere is.Minus = refl
goes_nowhere is.Star = refl
goes_nowhere is.Slash = refl
goes_nowhere is.Percent = refl
goes_nowhere is.Not = refl
goes_nowhere is.And = refl
goes_nowhere is.Or = refl
goes_nowhere is.Equal = refl
goes_nowhere is.Unequal = refl
goes_nowhere is.Less = refl
goes_nowhere is.LessEqual = refl
goes_nowhere is.Greater = refl
goes_nowhere is.GreaterEqual = refl

no_digit : (x y : Bool) → (x && y) ≡ false → (x && false) ≡ false
no_digit true y h = refl
no_digit false y h = refl

-- a second byte less makes no token longer
goes_less : (s : TokenShape) (c d : ℕ) → goes_on s c d ≡ false → goes_on s c 0 ≡ false
goes_less is.Integer c d h =
    let p = or_parts (in_name c) (c == 46 && is_ascii_digit d) h in
    rw (p.0) (no_digit (c == 46) (is_ascii_digit d) p.1)
goes_less is.Input c d h = h
goes_less is.Output c d h = h
goes_less is.Constant c d h = h
goes_less is.Trigger c d h = h
goes_less is.Spawn c d h = h
goes_less is.Eval c d h = h
goes_less is.Close c d h = h
goes_less is.With c d h = h
goes_less is.When c d h = h
goes_less is.If c d h = h
goes_less is.Then c d h = h
goes_less is.Else c d h = h
goes_less is.True c d h = h
goes_less is.False c d h = h
goes_less is.Name c d h = h
goes_less is.Quantity c d h = h
goes_less is.Text c d h = h
goes_less is.Define c d h = h
goes_less is.Colon c d h = h
goes_less is.Comma c d h = h
goes_less is.Open c d h = h
goes_less is.Shut c d h = h
goes_less is.Dot c d h = h
goes_less is.At c d h = h
goes_less is.Plus c d h = h
goes_less is.Minus c d h = h
goes_less is.Star c d h = h
goes_less is.Slash c d h = h
goes_less is.Percent c d h = h
goes_less is.Not c d h = h
goes_less is.And c d h = h
goes_less is.Or c d h = h
goes_less is.Equal c d h = h
goes_less is.Unequal c d h = h
goes_less is.Less c d h = h
goes_less is.LessEqual c d h = h
goes_less is.Greater c d h = h
goes_less is.GreaterEqual c d h = h

-- the byte at a place, or none
cut_byte : (z : Bytes) (m k : ℕ) → (slice_index (take m z) k ≡ slice_index z k) ⊎ (slice_index (take m z) k ≡ 0)
cut_byte z m k =
    elim (leb_tells m k) as (λ _. (slice_index (take m z) k ≡ slice_index z k) ⊎ (slice_index (take m z) k ≡ 0)) [
      | inl p ↦ inr (get_or_past (take m z) k 0 (take_short z m k p.1))
      | inr p ↦ inl (get_or-take m z k 0 p.1)
    ]
  where
    take_short : (z : Bytes) (m k : ℕ) → m ≤ k → length (take m z) ≤ k
    take_short z m k h = omega (arith, length-take m z)

cut_goes : (s : TokenShape) (z : Bytes) (n m : ℕ) → n < m → goes_on s (slice_index z n) (slice_index z (n + 1)) ≡ false
    → goes_on s (slice_index (take m z) n) (slice_index (take m z) (n + 1)) ≡ false
cut_goes s z n m h ends =
    let first : slice_index (take m z) n ≡ slice_index z n = get_or-take m z n 0 h in
    rw first
    (elim (cut_byte z m (n + 1)) as (λ _. goes_on s (slice_index z n) (slice_index (take m z) (n + 1)) ≡ false) [
      | inl e ↦ rw e ends
      | inr e ↦ rw e (goes_less s (slice_index z n) (slice_index z (n + 1)) ends)
    ])

-- a token stays one where the text is cut further on
pub stands_in_cut : (z : Bytes) (s : TokenShape) (n m : ℕ) → n < m → m ≤ length z → StandsAt z s n → StandsAt (take m z) s n
stands_in_cut z s n m low high h =
    let front : take n (take m z) ≡ take n z = take-take n m z (omega (arith, low)) in
    record {
      fits = omega (arith, length-take-le m z high);
      some = h.some;
      token = rw front h.token;
      ends = cut_goes s z n m low h.ends;
    }

whole_found : (s : TokenShape) (w : Bytes) → IsToken s w → thing_at w ≡ thing.Token s (length w)
whole_found s w h = ap thing_at (sym (append-nil w)) ∙ complete s w [] h (goes_nowhere s)

no_longer : (z : Bytes) (s : TokenShape) (n : ℕ) → StandsAt z s n → (m : ℕ) (other : TokenShape) → n < m → m ≤ length z → IsToken other (take m z) → ⊥
no_longer z s n h m other low high token =
    let one = stands_found (take m z) s n (stands_in_cut z s n m low high h) in
    let two = whole_found other (take m z) token ∙ ap (λ k. thing.Token other k) (length-take-le m z high) in
    let same : n ≡ m = cc in
    absurd (omega (arith, same, low))

no_gap : (x : Bool) (n k : ℕ) (s : TokenShape) → (if x then thing.Gap k else thing.Bad) ≡ thing.Token s n → ⊥
no_gap true n k s h = cc
no_gap false n k s h = cc

no_line_token : (z : Bytes) (s : TokenShape) (n : ℕ) → line_comment z ≡ thing.Token s n → ⊥
unfolding line_comment
no_line_token z s n h = no_gap (is_utf8 (take (prefix_len in_line z) z)) n (prefix_len in_line z) s h

no_commented_token : (z : Bytes) (o : Option ℕ) (s : TokenShape) (n : ℕ) → commented z o ≡ thing.Token s n → ⊥
no_commented_token z None s n h = cc
no_commented_token z (Some end) s n h = no_gap (is_utf8 (take end z)) n end s h

no_block_token : (z : Bytes) (s : TokenShape) (n : ℕ) → block_comment z ≡ thing.Token s n → ⊥
unfolding block_comment
no_block_token z s n h = no_commented_token z (comment_end false 2 (drop 2 z)) s n h

comment_is_none : (z : Bytes) (s : TokenShape) (n : ℕ) → thing_at z ≡ thing.Token s n → BeginsComment z → ⊥
comment_is_none z s n h (inl (v, is)) = no_line_token (codes "//" ++ v) s n (sym (front_line v) ∙ ap thing_at (sym is) ∙ h)
comment_is_none z s n h (inr (v, is)) = no_block_token (codes "/*" ++ v) s n (sym (front_block v) ∙ ap thing_at (sym is) ∙ h)

number_ends : (s : TokenShape) (c d : ℕ) → goes_on s c d ≡ false → NumberEnds s c d
number_ends is.Integer c d h = or_parts (in_name c) (c == 46 && is_ascii_digit d) h
number_ends is.Quantity c d h = h
number_ends _ c d h = tt

pub found_longest : (z : Bytes) (s : TokenShape) (n : ℕ) → thing_at z ≡ thing.Token s n → IsLongest z s n
found_longest z s n h =
    let stands = found_stands z s n h in
    record {
      fits = stands.fits;
      token = stands.token;
      longest = no_longer z s n stands;
      no_comment = comment_is_none z s n h;
      number = number_ends s (slice_index z n) (slice_index z (n + 1)) stands.ends;
    }

-- ---- the longest is found

-- a word and one more byte of a name
longer_word : (z : Bytes) (n : ℕ) → n ≤ length z → IsWord (take n z) → in_name (slice_index z n) ≡ true
    → (n < length z) × IsWord (take (n + 1) z)
longer_word z n fits word goes =
    let inner : n < length z =
    elim (leb_tells (length z) n) as (λ _. n < length z) [
      | inl p ↦ absurd (true≢false (sym goes ∙ ap in_name (get_or_past z n 0 p.1)))
      | inr p ↦ p.1
    ] in
    let some : 0 < length (take n z) = some_bytes begins_name (take n z) word.0 refl in
    let long : length (take n z) ≡ n = length-take-le n z fits in
    let first : slice_index (take (n + 1) z) 0 ≡ slice_index (take n z) 0 =
    get_or-take (n + 1) z 0 0 (omega arith) ∙ sym (get_or-take n z 0 0 (omega (arith, some, long))) in
    (inner, (ap begins_name first ∙ word.0, All-more (λ b. in_name b ≡ true) z n 0 inner word.1 goes))

word_ends : (z : Bytes) (s : TokenShape) (n : ℕ) → IsLongest z s n → IsWord (take n z) → in_name (slice_index z n) ≡ false
word_ends z s n h word =
    false_from_ne_true (in_name (slice_index z n)) (λ goes.
    let longer = longer_word z n h.fits word goes in
    h.longest (n + 1) (shape_of_word (take (n + 1) z)) (omega arith) (omega (arith, longer.0)) (word_shape (take (n + 1) z) longer.1).0)

reserved_is_word : (w : Bytes) (s : TokenShape) → w ≡ spelling s → begins_name (slice_index (spelling s) 0) ≡ true → list_all in_name (spelling s) ≡ true → IsWord w
reserved_is_word w s is first all = rw is (first, AllPass-from_list_all in_name (spelling s) all)

-- two bytes at the front
two_of : (z : Bytes) (a b : ℕ) → (0 == b) ≡ false → take 1 z ≡ a ∷ [] → (slice_index z 1 == b) ≡ true → (v : Bytes) × (z ≡ a ∷ b ∷ v)
two_of [] a b some is h = cc
two_of (x ∷ []) a b some is h = absurd (true≢false (sym h ∙ some))
two_of (x ∷ y ∷ v) a b some is h =
    let second : y ≡ b = eqb-true y b h in
    (v, cc)

two_bytes : (z : Bytes) (n a b : ℕ) → n ≤ length z → (0 == b) ≡ false → take n z ≡ a ∷ [] → (slice_index z n == b) ≡ true
    → (n ≡ 1) × ((v : Bytes) × (z ≡ a ∷ b ∷ v))
two_bytes z n a b fits some is h =
    let one : n ≡ 1 = sym (length-take-le n z fits) ∙ ap length is in
    (one, two_of z a b some (rw one at is) (rw one at h))

longer_sign : (z : Bytes) (s other : TokenShape) (n a b : ℕ) → IsLongest z s n → (0 == b) ≡ false → take n z ≡ a ∷ []
    → ((w : Bytes) → w ≡ a ∷ b ∷ [] → IsToken other w) → (slice_index z n == b) ≡ false
longer_sign z s other n a b h some is longer =
    false_from_ne_true (slice_index z n == b) (λ e.
    let p = two_bytes z n a b h.fits some is e in
    let front : take 2 z ≡ a ∷ b ∷ [] = rw (p.1.1) refl in
    let fits : 2 ≤ length z = rw (p.1.1) (omega arith) in
    h.longest 2 other (omega (arith, p.0)) fits (longer (take 2 z) front))

slash_alone : (z : Bytes) (n : ℕ) → IsLongest z is.Slash n → (slice_index z n == 47 || slice_index z n == 42) ≡ false
slash_alone z n h =
    let no_line : (slice_index z n == 47) ≡ false =
    false_from_ne_true (slice_index z n == 47) (λ e. h.no_comment (inl (two_bytes z n 47 47 h.fits refl h.token e).1)) in
    let no_block : (slice_index z n == 42) ≡ false =
    false_from_ne_true (slice_index z n == 42) (λ e. h.no_comment (inr (two_bytes z n 47 42 h.fits refl h.token e).1)) in
    rw (no_line, no_block) refl

longest_ends : (z : Bytes) (n : ℕ) (s : TokenShape) → IsLongest z s n → goes_on s (slice_index z n) (slice_index z (n + 1)) ≡ false
longest_ends z n is.Input h = word_ends z is.Input n h (reserved_is_word (take n z) is.Input h.token refl refl)
longest_ends z n is.Output h = word_ends z is.Output n h (reserved_is_word (take n z) is.Output h.token refl refl)
longest_ends z n is.Constant h = word_ends z is.Constant n h (reserved_is_word (take n z) is.Constant h.token refl refl)
longest_ends z n is.Trigger h = word_ends z is.Trigger n h (reserved_is_word (take n z) is.Trigger h.token refl refl)
longest_ends z n is.Spawn h = word_ends z is.Spawn n h (reserved_is_word (take n z) is.Spawn h.token refl refl)
longest_ends z n is.Eval h = word_ends z is.Eval n h (reserved_is_word (take n z) is.Eval h.token refl refl)
longest_ends z n is.Close h = word_ends z is.Close n h (reserved_is_word (take n z) is.Close h.token refl refl)
longest_ends z n is.With h = word_ends z is.With n h (reserved_is_word (take n z) is.With h.token refl refl)
longest_ends z n is.When h = word_ends z is.When n h (reserved_is_word (take n z) is.When h.token refl refl)
longest_ends z n is.If h = word_ends z is.If n h (reserved_is_word (take n z) is.If h.token refl refl)
longest_ends z n is.Then h = word_ends z is.Then n h (reserved_is_word (take n z) is.Then h.token refl refl)
longest_ends z n is.Else h = word_ends z is.Else n h (reserved_is_word (take n z) is.Else h.token refl refl)
longest_ends z n is.True h = word_ends z is.True n h (reserved_is_word (take n z) is.True h.token refl refl)
longest_ends z n is.False h = word_ends z is.False n h (reserved_is_word (take n z) is.False h.token refl refl)
longest_ends z n is.Name h = word_ends z is.Name n h h.token.0
longest_ends z n is.Integer h = rw (h.number.0, h.number.1) refl
longest_ends z n is.Quantity h = h.number
longest_ends z n is.Text h = refl
longest_ends z n is.Define h = refl
longest_ends z n is.Colon h = longer_sign z is.Colon is.Define n 58 61 h refl h.token (λ w e. e)
longest_ends z n is.Comma h = refl
longest_ends z n is.Open h = refl
longest_ends z n is.Shut h = refl
longest_ends z n is.Dot h = refl
longest_ends z n is.At h = refl
longest_ends z n is.Plus h = refl
longest_ends z n is.Minus h = refl
longest_ends z n is.Star h = refl
longest_ends z n is.Slash h = slash_alone z n h
longest_ends z n is.Percent h = refl
longest_ends z n is.Not h = longer_sign z is.Not is.Unequal n 33 61 h refl h.token (λ w e. e)
longest_ends z n is.And h = refl
longest_ends z n is.Or h = refl
longest_ends z n is.Equal h = refl
longest_ends z n is.Unequal h = refl
longest_ends z n is.Less h = longer_sign z is.Less is.LessEqual n 60 61 h refl h.token (λ w e. e)
longest_ends z n is.LessEqual h = refl
longest_ends z n is.Greater h = longer_sign z is.Greater is.GreaterEqual n 62 61 h refl h.token (λ w e. e)
longest_ends z n is.GreaterEqual h = refl

pub longest_found : (z : Bytes) (s : TokenShape) (n : ℕ) → IsLongest z s n → thing_at z ≡ thing.Token s n
longest_found z s n h =
    stands_found z s n (record {
      fits = h.fits;
      some = omega (arith, token_some s (take n z) h.token, length-take-le n z h.fits);
      token = h.token;
      ends = longest_ends z n s h;
    })
