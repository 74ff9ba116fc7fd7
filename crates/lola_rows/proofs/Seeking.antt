-- The next line, as it is cut from the bytes that are held.
use Rattle.std.proofs.Common.{◌≡◌, ℕ, zero, suc, ◌+◌, ◌<◌, ◌≤◌, true, false, List, [], ◌∷◌, ◌++◌, Option, Some, None, option_map, length, take, drop, get_or, position, nat_eq, if◌then◌else◌, refl, sym, ap, subst, ◌∙◌, arith, inl, inr}
use Rattle.std.specs.List.{list_any}
use Rattle.std.specs.Io.KnownBytes.{IsAtEnd, prepend_known}
use Rattle.std.proofs.lemmas.Bool.{cases_Bool, eq-eqb, eqb-true, ne_eqb}
use Rattle.std.proofs.lemmas.List.{append-nil, length-drop, length-take-le, take-take, take_all, drop_all}
use Rattle.lola_rows.proofs.LineFacts.{any-take}
use Rattle.lola_port.specs.States.{ReadBroke, Rose, SourceState}
use Rattle.lola_rows.specs.Filling.{BeginsTooLong, Brought, Failed, Finds, IsFront, LastFound, Lost, Sought}
use Rattle.lola_rows.specs.Lines.{Line, ended_line, is_empty, is_line_end, is_return, last_line, line_before, lines_between, lines_of, longest_line, without_return}
use Rattle.lola_rows.specs.declared.seek.Extent.{Extent}
use Rattle.lola_rows.specs.declared.seek.Found.{Found}
use Rattle.lola_rows.specs.declared.seek.Found.TheVariants as found
use Rattle.lola_rows.proofs.Cutting.{first-place, none-before, parts, parts-last, parts-line, parts-long, some-parts}

pub at-end : (left : Option (List ℕ)) (bytes : List ℕ) → IsAtEnd left → left ≡ Some bytes → bytes ≡ []
at-end None bytes end is = absurd (cc is)
at-end (Some xs) bytes end is = let same : xs ≡ bytes = cc in sym same ∙ end

-- a line with its line feed
pub lines-line : (held bytes : List ℕ) (n : ℕ) → position is_line_end held ≡ Some n → lines_of (held ++ bytes) ≡ line_before (ended_line (take n held)) (lines_of (drop (n + 1) held ++ bytes))
lines-line held bytes n is =
    let rest = some-parts (drop (n + 1) held ++ bytes) in
    ap lines_between (parts-line held bytes n is ∙ ap (λ (l : List (List ℕ)). take n held ∷ l) rest.parts_are)
    ∙ ap (λ (l : List (List ℕ)). line_before (ended_line (take n held)) (lines_between l)) (sym rest.parts_are)

-- bytes without a line feed, as the last line
pub lines-last : (held : List ℕ) → list_any is_line_end held ≡ false → lines_of held ≡ line_before (last_line held) []
lines-last held none = ap lines_between (parts-last held none)

full : (line : Line) (lines : List Line) → 0 < length line.text → line_before line lines ≡ line ∷ lines
full line lines some = go line.text some
  where
    go : (text : List ℕ) → 0 < length text → (if is_empty text then lines else line ∷ lines) ≡ line ∷ lines
    go [] some = absurd (omega arith)
    go (b ∷ bs) some = refl

-- without a carriage return at the end
pub return-most : (xs : List ℕ) → length xs ≤ length (without_return xs) + 1
return-most [] = omega arith
return-most (x ∷ []) = omega arith
return-most (x ∷ y ∷ xs) = omega (arith, return-most (y ∷ xs))

pub return-least : (xs : List ℕ) → length (without_return xs) ≤ length xs
return-least [] = omega arith
return-least (x ∷ []) = elim (cases_Bool (is_return x)) [ inl hit ↦ rw hit (omega arith) | inr miss ↦ rw miss (omega arith) ]
return-least (x ∷ y ∷ xs) = omega (arith, return-least (y ∷ xs))

pub return-front : (xs : List ℕ) → take (length (without_return xs)) xs ≡ without_return xs
return-front [] = refl
return-front (x ∷ []) = elim (cases_Bool (is_return x)) [ inl hit ↦ rw hit refl | inr miss ↦ rw miss refl ]
return-front (x ∷ y ∷ xs) = ap (λ (l : List ℕ). x ∷ l) (return-front (y ∷ xs))

-- by the last byte
pub return-there : (xs : List ℕ) (last : ℕ) → last + 1 ≡ length xs → get_or xs last 0 ≡ 13 → last ≡ length (without_return xs)
return-there [] last long is = absurd (omega arith)
return-there (x ∷ []) zero long is = let hit : is_return x ≡ true = eq-eqb x 13 is in rw hit refl
return-there (x ∷ []) (suc last) long is = absurd (omega arith)
return-there (x ∷ y ∷ xs) zero long is = absurd (omega arith)
return-there (x ∷ y ∷ xs) (suc last) long is = let more = return-there (y ∷ xs) last (omega arith) is in omega (arith, more)

pub return-none : (xs : List ℕ) (last : ℕ) → last + 1 ≡ length xs → (get_or xs last 0 ≡ 13 → ⊥) → length xs ≡ length (without_return xs)
return-none [] last long is = absurd (omega arith)
return-none (x ∷ []) zero long is = let miss : is_return x ≡ false = ne_eqb x 13 is in rw miss refl
return-none (x ∷ []) (suc last) long is = absurd (omega arith)
return-none (x ∷ y ∷ xs) zero long is = absurd (omega arith)
return-none (x ∷ y ∷ xs) (suc last) long is = let more = return-none (y ∷ xs) last (omega arith) is in omega (arith, more)

-- a line too long
pub lines-long : (held bytes : List ℕ) → list_any is_line_end held ≡ false → longest_line + 3 < length held → BeginsTooLong (lines_of (held ++ bytes))
lines-long held bytes none long =
    let cut = parts-long held bytes none in
    go cut.first cut.others cut.parts_are (omega (arith, cut.at_least))
  where
    go : (first : List ℕ) (others : List (List ℕ)) → parts (held ++ bytes) ≡ first ∷ others → longest_line + 3 < length first → BeginsTooLong (lines_of (held ++ bytes))
    go first [] is long = record {
      line = last_line first;
      others = [];
      lines_are = ap lines_between is ∙ full (last_line first) [] (omega arith);
      long = omega arith;
    }
    go first (next ∷ others) is long = record {
      line = ended_line first;
      others = lines_between (next ∷ others);
      lines_are = ap lines_between is ∙ full (ended_line first) (lines_between (next ∷ others)) (omega (arith, return-most first));
      long = omega arith;
    }

-- the line at the front
pub front-line : (held : List ℕ) (left : Option (List ℕ)) (n text : ℕ) → position is_line_end held ≡ Some n → text ≡ length (without_return (take n held)) → 0 < text
    → IsFront (record { size = n; text = text; whole = n + 1 }) held left
front-line held left n text is text_is some =
    let first = first-place is_line_end held n is in
    let sized : length (take n held) ≡ n = length-take-le n held (omega (arith, first.within)) in
    let least = return-least (take n held) in
    let cut : take text held ≡ without_return (take n held) = sym (take-take text n held (omega (arith, least))) ∙ ap (λ m. take m (take n held)) text_is ∙ return-front (take n held) in
    record {
      some = omega arith;
      inside = omega (arith, first.within);
      short = omega (arith, least);
      unended = ap (list_any is_line_end) (sym (take-take text n held (omega (arith, least)))) ∙ any-take is_line_end text (take n held) (none-before is_line_end held n first.place);
      lines = λ bytes told.
          lines-line held bytes n is ∙ full (ended_line (take n held)) (lines_of (drop (n + 1) held ++ bytes)) (omega (arith, ap length cut, text_is))
          ∙ ap (λ (l : Line). l ∷ lines_of (drop (n + 1) held ++ bytes)) (ap (λ m. record { size = m; text = without_return (take n held) }) sized ∙ ap (λ t. record { size = n; text = t }) (sym cut));
      last = λ is. absurd (omega (arith, eqb-true (n + 1) n is));
    }

-- the last line
pub front-last : (held : List ℕ) (left : Option (List ℕ)) → 0 < length held → list_any is_line_end held ≡ false → IsAtEnd left
    → IsFront (record { size = length held; text = length held; whole = length held }) held left
front-last held left some none end =
    let all : take (length held) held ≡ held = take_all (length held) held (omega arith) in
    record {
      some = some;
      inside = omega arith;
      short = omega arith;
      unended = ap (list_any is_line_end) all ∙ none;
      lines = λ bytes told.
          let nothing = at-end left bytes end told in
          ap (λ (l : List ℕ). lines_of (held ++ l)) nothing ∙ ap lines_of (append-nil held) ∙ lines-last held none ∙ full (last_line held) [] some
          ∙ ap (λ (t : List ℕ). record { size = length held; text = t } ∷ []) (sym all)
          ∙ ap (λ (l : List Line). record { size = length held; text = take (length held) held } ∷ l) (sym (ap (λ (l : List ℕ). lines_of (l ++ bytes)) (drop_all (length held) held (omega arith)) ∙ ap lines_of nothing));
      last = λ is bytes told. ap (λ (l : List ℕ). lines_of (l ++ bytes)) (drop_all (length held) held (omega arith)) ∙ ap lines_of (at-end left bytes end told);
    }

-- bytes that came in leave the lines
pub brought-sought : (h0 h1 h2 : List ℕ) (a b c : SourceState) → Sought h0 h1 a b → Brought h1 h2 b c → Sought h0 h2 a c
brought-sought h0 h1 h2 a b c sought brought = record {
  lines = ap (option_map lines_of) brought.content ∙ sought.lines;
  size = omega (arith, sought.size, brought.size);
  count = brought.count ∙ sought.count;
  place = brought.place ∙ sought.place;
}

same-lines : (left : Option (List ℕ)) (held0 held1 : List ℕ) → ((bytes : List ℕ) → lines_of (held1 ++ bytes) ≡ lines_of (held0 ++ bytes)) → option_map lines_of (prepend_known held1 left) ≡ option_map lines_of (prepend_known held0 left)
same-lines None held0 held1 same = refl
same-lines (Some bytes) held0 held1 same = ap Some (same bytes)

-- an empty line was taken
pub skipped : (h0 h1 h2 : List ℕ) (a b : SourceState) (n : ℕ) → Sought h0 h1 a b → position is_line_end h1 ≡ Some n → length (without_return (take n h1)) ≤ 0 → h2 ≡ drop (n + 1) h1 → Sought h0 h2 a b
skipped h0 h1 h2 a b n sought is empty taken =
    let first = first-place is_line_end h1 n is in
    record {
      lines = same-lines b.left h1 h2 (λ bytes. ap (λ (l : List ℕ). lines_of (l ++ bytes)) taken ∙ sym (lines-line h1 bytes n is ∙ none (without_return (take n h1)) (lines_of (drop (n + 1) h1 ++ bytes)) (length (take n h1)) empty)) ∙ sought.lines;
      size = omega (arith, sought.size, ap length taken, length-drop (n + 1) h1);
      count = sought.count;
      place = sought.place;
    }
  where
    none : (text : List ℕ) (lines : List Line) (size : ℕ) → length text ≤ 0 → line_before (record { size = size; text = text }) lines ≡ lines
    none [] lines size empty = refl
    none (t ∷ ts) lines size empty = absurd (omega arith)

pub some-bytes : (xs : List ℕ) → false ≡ nat_eq (length xs) 0 → 0 < length xs
some-bytes [] h = absurd (cc h)
some-bytes (x ∷ xs) h = omega arith

-- the bytes behind the last line feed, if there are any
pub finds-last : (h0 held : List ℕ) (old new : SourceState) (r : Found) → Sought h0 held old new → list_any is_line_end held ≡ false → IsAtEnd new.left → LastFound r held → Finds r h0 held old new
finds-last h0 held old new (found.Line e) sought none end last =
    (sought, subst (λ (x : Extent). IsFront x held new.left) (sym last.1) (front-last held new.left last.0 none end))
finds-last h0 held old new found.TooLong sought none end last = absurd last
finds-last h0 held old new found.Nothing sought none end last =
    (sought, λ bytes told. ap (λ (l : List ℕ). lines_of (l ++ bytes)) last ∙ ap lines_of (at-end new.left bytes end told))
finds-last h0 held old new found.ReadFailed sought none end last = absurd last

-- a read failed
pub lost-after : (h0 h1 h2 : List ℕ) (a b c : SourceState) → Sought h0 h1 a b → Failed h1 h2 b c → Lost h0 h2 a c
lost-after h0 h1 h2 a b c sought failed = record {
  lines = ap (option_map lines_of) failed.content ∙ sought.lines;
  unended = failed.unended;
  later = omega (arith, failed.later, sought.count);
  rose = subst (λ n. Rose n c.count) sought.count failed.rose;
  place = failed.place ∙ sought.place;
}

pub failed-read : (h0 h1 h2 : List ℕ) (a b c : SourceState) → Brought h0 h1 a b → h2 ≡ h1 → list_any is_line_end h1 ≡ false → ReadBroke b c → Failed h0 h2 a c
failed-read h0 h1 h2 a b c brought kept none broke = record {
  content = ap (λ (l : List ℕ). prepend_known l c.left) kept ∙ ap (prepend_known h1) broke.left ∙ brought.content;
  unended = ap (list_any is_line_end) kept ∙ none;
  size = omega (arith, ap length kept, broke.bound, brought.size);
  later = omega (arith, broke.later, brought.count);
  rose = subst (λ n. Rose n c.count) brought.count broke.rose;
  place = broke.place ∙ brought.place;
}
