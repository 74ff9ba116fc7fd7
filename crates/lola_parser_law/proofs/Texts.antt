-- Texts are printed and read back.
use Rattle.std.specs.Bool.{if◌then◌else◌}
use Rattle.std.proofs.Common.{◌≡◌, ℕ, zero, suc, ◌+◌, ◌-◌, ◌≤◌, ◌<◌, ◌⊎◌, inl, inr, Bool, true, false, ◌&&◌, ◌==◌, List, [], ◌∷◌, ◌++◌, length, take, map, refl, sym, ap, subst, ◌∙◌, append-nil, arith, length-append, eqb-true, ltb-true, lt-ltb, ◌/◌}
use Rattle.std.specs.List.{All, concat, flat_map, slice_index}
use Rattle.std.specs.Str.{IsUtf8}
use lib.Utf8.{scalar, scalars, encode, encodes, next}
use lib.Dec.{ltb}
use Rattle.std.proofs.lemmas.Bool.Decides.{nat_tests}
use Rattle.std.proofs.lemmas.List.{take_at}
use Rattle.std.proofs.lemmas.List.Elements.{All-nil, All-cons}
use Rattle.std.proofs.lemmas.Str.{IsUtf8-append, IsUtf8-from_ascii, IsUtf8-take, IsUtf8-past_char, IsCharBoundary-at_seam}
use Rattle.std.proofs.lemmas.Bool.{and_parts, false_from_ne_true}
use Rattle.lola_lexer.specs.Spelling.{is_plain, is_escape, IsPiece, IsText}
use Rattle.lola_parser_grammar.specs.Literals.{escaped, unescaped, text_of_literal}
use Rattle.lola_parser_print.specs.Print as out
use Rattle.lola_parser_print.specs.Print.{escape}
use Rattle.lola_parser_law.specs.Erased.{TextReads}

-- ---- a byte as it is written

record IsItself (b : ℕ) : Type 0 where
  pub is : escape b ≡ b ∷ []
  pub plain : is_plain b ≡ true
  pub other : (b == 92) ≡ false

record IsBehind (b e : ℕ) : Type 0 where
  pub is : escape b ≡ 92 ∷ e ∷ []
  pub escape : is_escape e ≡ true
  pub back : escaped e ≡ b
  pub low : e < 128

abbrev IsWritten : ℕ → Type 0
IsWritten b = IsItself b ⊎ ((e : ℕ) × IsBehind b e)

by_tests : (b : ℕ) (p q r s t : Bool) → (b == 34) ≡ p → (b == 92) ≡ q → (b == 10) ≡ r → (b == 13) ≡ s → (b == 9) ≡ t → IsWritten b
by_tests b true q r s t h i j k l = inr (34, record { is = rw h refl; escape = refl; back = sym (eqb-true b 34 h); low = omega arith })
by_tests b false true r s t h i j k l = inr (92, record { is = rw (h, i) refl; escape = refl; back = sym (eqb-true b 92 i); low = omega arith })
by_tests b false false true s t h i j k l = inr (110, record { is = rw (h, i, j) refl; escape = refl; back = sym (eqb-true b 10 j); low = omega arith })
by_tests b false false false true t h i j k l = inr (114, record { is = rw (h, i, j, k) refl; escape = refl; back = sym (eqb-true b 13 k); low = omega arith })
by_tests b false false false false true h i j k l = inr (116, record { is = rw (h, i, j, k, l) refl; escape = refl; back = sym (eqb-true b 9 l); low = omega arith })
by_tests b false false false false false h i j k l = inl (record { is = rw (h, i, j, k, l) refl; plain = rw (h, i, j, k) refl; other = i })

is_written : (b : ℕ) → IsWritten b
is_written b = by_tests b (b == 34) (b == 92) (b == 10) (b == 13) (b == 9) refl refl refl refl refl

-- ---- a text is read back

byte_back : (b : ℕ) (z : List ℕ) → unescaped false (escape b ++ z) ≡ b ∷ unescaped false z
byte_back b z = by (is_written b)
  where
    by : IsWritten b → unescaped false (escape b ++ z) ≡ b ∷ unescaped false z
    by (inl k) = ap (λ l. unescaped false (l ++ z)) k.is ∙ ap (λ x. if x then unescaped true z else b ∷ unescaped false z) k.other
    by (inr (e, k)) = ap (λ l. unescaped false (l ++ z)) k.is ∙ ap (λ x. x ∷ unescaped false z) k.back

pub bytes_back : (z : List ℕ) → unescaped false (flat_map escape z) ≡ z
bytes_back [] = refl
bytes_back (b ∷ z) = byte_back b (flat_map escape z) ∙ ap (λ l. b ∷ l) (bytes_back z)

-- what stands between the quotes
pub between : (w : List ℕ) → text_of_literal (34 ∷ (w ++ 34 ∷ [])) ≡ unescaped false w
between w =
    let long : length (34 ∷ (w ++ 34 ∷ [])) - 2 ≡ length w = omega (arith, length-append w (34 ∷ [])) in
    ap (λ n. unescaped false (take n (w ++ 34 ∷ []))) long ∙ ap (unescaped false) (take_at w (34 ∷ []) (length w) refl)

pub text_read : (z : List ℕ) → TextReads z
text_read z = between (flat_map escape z) ∙ bytes_back z

-- ---- it is written in pieces

piece : (b : ℕ) → IsPiece (escape b)
piece b = by (is_written b)
  where
    by : IsWritten b → IsPiece (escape b)
    by (inl k) = inl (b, k.is, k.plain)
    by (inr (e, k)) = inr (e, k.is, k.escape)

pieces : (z : List ℕ) → All IsPiece (map escape z)
pieces [] = All-nil IsPiece
pieces (b ∷ z) = All-cons IsPiece (escape b) (map escape z) (piece b) (pieces z)

pieces_are : (z : List ℕ) → flat_map escape z ≡ concat (map escape z)
pieces_are [] = refl
pieces_are (b ∷ z) = ap (λ l. escape b ++ l) (pieces_are z)

-- ---- UTF-8

order : (m n : ℕ) → (m < n) ⊎ (n ≤ m)
order m n = by (ltb m n) refl
  where
    by : (x : Bool) → ltb m n ≡ x → (m < n) ⊎ (n ≤ m)
    by true e = inl (ltb-true m n e)
    by false e = inr (grind (arith, nat_tests))

not_below : (m n : ℕ) → n ≤ m → ltb m n ≡ false
not_below m n h = false_from_ne_true (ltb m n) (λ e. absurd (omega (arith, ltb-true m n e)))

one : (c : ℕ) → c < 128 → encode c ≡ c ∷ []
unfolding encode
one c h = rw (lt-ltb c 128 h) refl

two : (c : ℕ) → 128 ≤ c → c < 2048 → encode c ≡ (192 + c / 64) ∷ next c ∷ []
unfolding encode
two c l h = rw (not_below c 128 l, lt-ltb c 2048 h) refl

three : (c : ℕ) → 2048 ≤ c → c < 65536 → encode c ≡ (224 + c / 4096) ∷ next (c / 64) ∷ next c ∷ []
unfolding encode
three c l h = rw (not_below c 128 (omega arith), not_below c 2048 l, lt-ltb c 65536 h) refl

four : (c : ℕ) → 65536 ≤ c → encode c ≡ (240 + c / 262144) ∷ next (c / 4096) ∷ next (c / 64) ∷ next c ∷ []
unfolding encode
four c l = rw (not_below c 128 (omega arith), not_below c 2048 (omega arith), not_below c 65536 l) refl

low_utf8 : (b : ℕ) → b < 128 → IsUtf8 (b ∷ [])
low_utf8 b h = IsUtf8-from_ascii (b ∷ []) (λ i. at i)
  where
    at : (i : ℕ) → slice_index (b ∷ []) i < 128
    at zero = h
    at (suc i) = omega arith

char_utf8 : (c : ℕ) → scalar c ≡ true → IsUtf8 (encode c)
char_utf8 c h = (c ∷ [], (ap (λ x. x && true) h, append-nil (encode c)))

abbrev High : List ℕ → Type 0
High [] = Unit {0}
High (b ∷ w) = (128 ≤ b) × High w

abbrev HasBytes : List ℕ → Type 0
HasBytes [] = ⊥
HasBytes (b ∷ w) = Unit {0}

high : (c : ℕ) → 128 ≤ c → High (encode c) × HasBytes (encode c)
high c h = by (order c 2048) (order c 65536)
  where
    by : (c < 2048) ⊎ (2048 ≤ c) → (c < 65536) ⊎ (65536 ≤ c) → High (encode c) × HasBytes (encode c)
    by (inl l) _ = subst (λ (w : List ℕ). High w × HasBytes w) (sym (two c h l)) ((omega arith, (omega arith, tt)), tt)
    by (inr g) (inl l) = subst (λ (w : List ℕ). High w × HasBytes w) (sym (three c g l)) ((omega arith, (omega arith, (omega arith, tt))), tt)
    by (inr _) (inr g) = subst (λ (w : List ℕ). High w × HasBytes w) (sym (four c g)) ((omega arith, (omega arith, (omega arith, (omega arith, tt)))), tt)

differs : (b k : ℕ) → 128 ≤ b → k < 128 → (b == k) ≡ false
differs b k h l = false_from_ne_true (b == k) (λ e. absurd (omega (arith, eqb-true b k e)))

high_itself : (b : ℕ) → 128 ≤ b → escape b ≡ b ∷ []
high_itself b h =
    rw (differs b 34 h (omega arith), differs b 92 h (omega arith), differs b 10 h (omega arith), differs b 13 h (omega arith), differs b 9 h (omega arith)) refl

high_written : (w z : List ℕ) → High w → flat_map escape (w ++ z) ≡ w ++ flat_map escape z
high_written [] z h = refl
high_written (b ∷ w) z h = ap (λ l. l ++ flat_map escape (w ++ z)) (high_itself b h.0) ∙ ap (λ l. b ∷ l) (high_written w z h.1)

escape_utf8 : (b : ℕ) → b < 128 → IsUtf8 (escape b)
escape_utf8 b h = by (is_written b)
  where
    by : IsWritten b → IsUtf8 (escape b)
    by (inl k) = subst IsUtf8 (sym k.is) (low_utf8 b h)
    by (inr (e, k)) = subst IsUtf8 (sym k.is) (IsUtf8-append (92 ∷ []) (e ∷ []) (low_utf8 92 (omega arith)) (low_utf8 e k.low))

chars_written : (cs : List ℕ) → scalars cs ≡ true → IsUtf8 (flat_map escape (encodes cs))
chars_written [] h = ([], (refl, refl))
chars_written (c ∷ cs) h = by (chars_written cs (and_parts (scalar c) (scalars cs) h).1) (order c 128)
  where
    by : IsUtf8 (flat_map escape (encodes cs)) → (c < 128) ⊎ (128 ≤ c) → IsUtf8 (flat_map escape (encode c ++ encodes cs))
    by rest (inl l) = subst (λ (w : List ℕ). IsUtf8 (flat_map escape (w ++ encodes cs))) (sym (one c l)) (IsUtf8-append (escape c) (flat_map escape (encodes cs)) (escape_utf8 c l) rest)
    by rest (inr g) =
        subst IsUtf8 (sym (high_written (encode c) (encodes cs) (high c g).0))
        (IsUtf8-append (encode c) (flat_map escape (encodes cs)) (char_utf8 c (and_parts (scalar c) (scalars cs) h).0) rest)

written_utf8 : (z : List ℕ) → IsUtf8 z → IsUtf8 (flat_map escape z)
written_utf8 z (cs, h) = subst (λ (w : List ℕ). IsUtf8 (flat_map escape w)) h.1 (chars_written cs h.0)

-- what is read of UTF-8 is UTF-8

high_read : (w z : List ℕ) → High w → unescaped false (w ++ z) ≡ w ++ unescaped false z
high_read [] z h = refl
high_read (b ∷ w) z h = ap (λ x. if x then unescaped true (w ++ z) else b ∷ unescaped false (w ++ z)) (differs b 92 h.0 (omega arith)) ∙ ap (λ l. b ∷ l) (high_read w z h.1)

high_escaped : (b : ℕ) → 128 ≤ b → escaped b ≡ b
high_escaped b h = rw (differs b 110 h (omega arith), differs b 114 h (omega arith), differs b 116 h (omega arith)) refl

high_behind : (w z : List ℕ) → High w → HasBytes w → unescaped true (w ++ z) ≡ w ++ unescaped false z
high_behind [] z h some = absurd some
high_behind (b ∷ w) z h some = ap (λ x. x ∷ unescaped false (w ++ z)) (high_escaped b h.0) ∙ ap (λ l. b ∷ l) (high_read w z h.1)

low_escaped : (b : ℕ) → b < 128 → escaped b < 128
low_escaped b h = by (b == 110) (b == 114) (b == 116)
  where
    by : (x y z : Bool) → (if x then 10 else (if y then 13 else (if z then 9 else b))) < 128
    by true y z = omega arith
    by false true z = omega arith
    by false false true = omega arith
    by false false false = h

after_char : (w z : List ℕ) (flag : Bool) → High w → HasBytes w → unescaped flag (w ++ z) ≡ w ++ unescaped false z
after_char w z true h some = high_behind w z h some
after_char w z false h some = high_read w z h

front_utf8 : (b : ℕ) (z : List ℕ) → b < 128 → IsUtf8 z → IsUtf8 (b ∷ z)
front_utf8 b z h k = IsUtf8-append (b ∷ []) z (low_utf8 b h) k

chars_read : (flag : Bool) (cs : List ℕ) → scalars cs ≡ true → IsUtf8 (unescaped flag (encodes cs))
chars_read flag [] h = ([], (refl, refl))
chars_read flag (c ∷ cs) h = by (λ next. chars_read next cs (and_parts (scalar c) (scalars cs) h).1) (order c 128)
  where
    here : ((next : Bool) → IsUtf8 (unescaped next (encodes cs))) → (x : Bool) → c < 128 → IsUtf8 (if x then unescaped true (encodes cs) else c ∷ unescaped false (encodes cs))
    here rest true l = rest true
    here rest false l = front_utf8 c (unescaped false (encodes cs)) l (rest false)

    low : ((next : Bool) → IsUtf8 (unescaped next (encodes cs))) → (next : Bool) → c < 128 → IsUtf8 (unescaped next (c ∷ encodes cs))
    low rest true l = front_utf8 (escaped c) (unescaped false (encodes cs)) (low_escaped c l) (rest false)
    low rest false l = here rest (c == 92) l

    by : ((next : Bool) → IsUtf8 (unescaped next (encodes cs))) → (c < 128) ⊎ (128 ≤ c) → IsUtf8 (unescaped flag (encode c ++ encodes cs))
    by rest (inl l) = subst (λ (w : List ℕ). IsUtf8 (unescaped flag (w ++ encodes cs))) (sym (one c l)) (low rest flag l)
    by rest (inr g) =
        subst IsUtf8 (sym (after_char (encode c) (encodes cs) flag (high c g).0 (high c g).1))
        (IsUtf8-append (encode c) (unescaped false (encodes cs)) (char_utf8 c (and_parts (scalar c) (scalars cs) h).0) (rest false))

read_utf8 : (z : List ℕ) → IsUtf8 z → IsUtf8 (unescaped false z)
read_utf8 z (cs, h) = subst (λ (w : List ℕ). IsUtf8 (unescaped false w)) h.1 (chars_read false cs h.0)

-- ---- a text that is read is printed as a token

inner_utf8 : (w : List ℕ) → IsUtf8 (34 ∷ (w ++ 34 ∷ [])) → IsUtf8 w
inner_utf8 w h =
    let behind : IsUtf8 (w ++ 34 ∷ []) = IsUtf8-past_char (34 ∷ (w ++ 34 ∷ [])) (w ++ 34 ∷ []) 34 h (ap (λ l. l ++ (w ++ 34 ∷ [])) (sym (one 34 (omega arith)))) in
    subst IsUtf8 (take_at w (34 ∷ []) (length w) refl)
    (IsUtf8-take (w ++ 34 ∷ []) (length w) behind (IsCharBoundary-at_seam (w ++ 34 ∷ []) w (34 ∷ []) refl (low_utf8 34 (omega arith))))

quoted_utf8 : (w : List ℕ) → IsUtf8 w → IsUtf8 (34 ∷ (w ++ 34 ∷ []))
quoted_utf8 w h = front_utf8 34 (w ++ 34 ∷ []) (omega arith) (IsUtf8-append w (34 ∷ []) h (low_utf8 34 (omega arith)))

pub text_token : (w : List ℕ) → IsText w → IsText (out.text (text_of_literal w)).text
text_token w t =
    let inner : IsUtf8 (concat t.pieces) = inner_utf8 (concat t.pieces) (subst IsUtf8 t.spelled t.utf8) in
    let z = text_of_literal w in
    let utf8 : IsUtf8 z = subst IsUtf8 (sym (ap text_of_literal t.spelled ∙ between (concat t.pieces))) (read_utf8 (concat t.pieces) inner) in
    record {
      pieces = map escape z;
      spelled = ap (λ l. 34 ∷ (l ++ 34 ∷ [])) (pieces_are z);
      each = pieces z;
      utf8 = quoted_utf8 (flat_map escape z) (written_utf8 z utf8);
    }

-- a text whose token is in UTF-8 is so itself
pub text_utf8 : (z : List ℕ) → IsText (out.text z).text → IsUtf8 z
text_utf8 z t = subst IsUtf8 (bytes_back z) (read_utf8 (flat_map escape z) (inner_utf8 (flat_map escape z) t.utf8))
