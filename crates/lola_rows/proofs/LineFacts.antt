-- What `csv` reads of one line.
use Rattle.std.specs.Prelude.{◌||◌, ◌==◌}
use Rattle.std.proofs.Common.{◌≡◌, ◌≢◌, ◌∷◌, ◌++◌, ◌∙◌, [], ℕ, List, Bool, Some, refl, sym, ap, subst, true, false, append_assoc, inl, inr, take, drop, length, get_or, ◌+◌, ◌-◌, ◌<◌, ◌≤◌, arith, take-append-drop, drop-drop}
use Rattle.std.specs.List.{list_any, slice_split, onto_first}
use Rattle.std.proofs.lemmas.Bool.{cases_Bool, eqb-true}
use Rattle.std.proofs.lemmas.List.{append-nil, drop_more, drop_all}
use Rattle.std.proofs.lemmas.Bool.{cases_lt}
use Rattle.std.proofs.Math.Seq.{take-nil}
use Rattle.std.proofs.lemmas.List.Splits.{slice_split-cons_yes, slice_split-cons_no}
use Rattle.csv.specs.Machine.{next_record}
use Rattle.csv.specs.Reading.{default_config}
use Rattle.csv.specs.declared.parser.State.TheVariants as st
use Rattle.csv.proofs.RoundTrip.{after-quote-same, record-same, start-same}
use Rattle.csv.proofs.WriteFacts.{run-more, slice-run}
use Rattle.csv.specs.declared.parser.State.{State}
use Rattle.lola_rows.specs.Line.{IsField, ends_line, fields_of_line, fields_read, has_line_end, has_quote, is_comma, is_quote}

pub or-left : (a b : Bool) → (a || b) ≡ false → a ≡ false
or-left false b e = refl
or-left true b e = cc e

pub or-right : (a b : Bool) → (a || b) ≡ false → b ≡ false
or-right false b e = e
or-right true b e = cc e

-- parts, the first with these bytes before it
abbrev pub with_front : List ℕ → List (List ℕ) → List (List ℕ)
with_front field [] = field ∷ []
with_front field (part ∷ parts) = (field ++ part) ∷ parts

front-more : (field : List ℕ) (c : ℕ) (parts : List (List ℕ)) → with_front (field ++ (c ∷ [])) parts ≡ with_front field (onto_first c parts)
front-more field c [] = refl
front-more field c (part ∷ parts) = ap (λ (p : List ℕ). p ∷ parts) (append_assoc field (c ∷ []) part)

front-onto : (c : ℕ) (parts : List (List ℕ)) → with_front [] (onto_first c parts) ≡ onto_first c parts
front-onto c [] = refl
front-onto c (part ∷ parts) = refl

front-nil : (line : List ℕ) → with_front [] (slice_split is_comma line) ≡ slice_split is_comma line
front-nil [] = refl
front-nil (c ∷ rest) = elim (cases_Bool (is_comma c)) [
  | inl hit ↦ rw (slice_split-cons_yes is_comma c rest hit) refl
  | inr miss ↦ rw (slice_split-cons_no is_comma c rest miss) (front-onto c (slice_split is_comma rest))
]

-- a byte that is no comma and ends no line joins the field at hand
pub joins-field : (fields : List (List ℕ)) (field : List ℕ) (c : ℕ) (rest : List ℕ) → is_comma c ≡ false → ends_line c ≡ false
    → next_record default_config st.InField fields field (c ∷ rest) ≡ next_record default_config st.InField fields (field ++ (c ∷ [])) rest
unfolding next_record
joins-field fields field c rest n e =
    let r : (c == 13) ≡ false = or-left _ _ e in
    let l : (c == 10) ≡ false = or-right _ _ e in
    rw (n, r, l) refl

-- a comma ends the field at hand
pub ends-field : (fields : List (List ℕ)) (field rest : List ℕ)
    → next_record default_config st.InField fields field (44 ∷ rest) ≡ next_record default_config st.StartField (fields ++ (field ∷ [])) [] rest
unfolding next_record
ends-field fields field rest = refl

-- a field that starts with no quote is read as any bytes of a field are
pub starts-plain : (fields : List (List ℕ)) (rest : List ℕ) → has_quote rest ≡ false
    → next_record default_config st.StartField fields [] rest ≡ next_record default_config st.InField fields [] rest
unfolding next_record
starts-plain fields [] q = refl
starts-plain fields (c ∷ rest) q = start-same fields [] c rest (or-left _ _ q)

-- the rest of a line with no quote, from a field at hand
pub rest-splits : (fields : List (List ℕ)) (field line : List ℕ) → has_quote line ≡ false → has_line_end line ≡ false
    → next_record default_config st.InField fields field line ≡ Some (fields ++ with_front field (slice_split is_comma line), st.StartRecord, [])
unfolding next_record
rest-splits fields field [] q e = rw (append-nil field) refl
rest-splits fields field (c ∷ rest) q e =
    let q2 = or-right _ _ q in
    let e1 = or-left _ _ e in
    let e2 = or-right _ _ e in
    elim (cases_Bool (is_comma c)) [
      | inl hit ↦
          let is : c ≡ 44 = eqb-true c 44 hit in
          let more : next_record default_config st.InField (fields ++ (field ∷ [])) [] rest ≡ Some ((fields ++ (field ∷ [])) ++ slice_split is_comma rest, st.StartRecord, []) =
          rest-splits (fields ++ (field ∷ [])) [] rest q2 e2 ∙ ap (λ (p : List (List ℕ)). Some ((fields ++ (field ∷ [])) ++ p, st.StartRecord, [])) (front-nil rest) in
          rw (slice_split-cons_yes is_comma c rest hit, is) (ends-field fields field rest ∙ starts-plain (fields ++ (field ∷ [])) rest q2 ∙ more ∙ rw (append_assoc fields (field ∷ []) (slice_split is_comma rest), append-nil field) refl)
      | inr miss ↦
          rw (slice_split-cons_no is_comma c rest miss) (joins-field fields field c rest miss e1 ∙ rest-splits fields (field ++ (c ∷ [])) rest q2 e2
          ∙ ap (λ (p : List (List ℕ)). Some (fields ++ p, st.StartRecord, [])) (front-more field c (slice_split is_comma rest)))
    ]

-- a line that is not empty starts as a field does
pub line-starts : (c : ℕ) (rest : List ℕ) → has_line_end (c ∷ rest) ≡ false
    → next_record default_config st.StartRecord [] [] (c ∷ rest) ≡ next_record default_config st.StartField [] [] (c ∷ rest)
line-starts c rest e = let e1 = or-left _ _ e in record-same [] [] c rest (or-left _ _ e1) (or-right _ _ e1)

-- a line with no double quote is cut at its commas
pub plain-line : (line : List ℕ) → line ≢ [] → has_quote line ≡ false → has_line_end line ≡ false → fields_of_line line ≡ slice_split is_comma line
plain-line [] n q e = absurd (n refl)
plain-line (c ∷ rest) n q e =
    let all = line-starts c rest e ∙ starts-plain [] (c ∷ rest) q ∙ rest-splits [] [] (c ∷ rest) q e in
    rw all (front-nil (c ∷ rest))

-- an empty line has no fields
pub empty-line : fields_of_line [] ≡ []
unfolding next_record
empty-line = refl

-- a run of bytes from a place, and one more
pub run-step : (p : ℕ → Bool) (xs : List ℕ) (s i : ℕ) → s ≤ i → i < length xs → list_any p (take (i - s) (drop s xs)) ≡ false
    → p (get_or xs i 0) ≡ false → list_any p (take (i + 1 - s) (drop s xs)) ≡ false
run-step p xs s i a b h e =
    let more : s ≤ i + 1 = omega arith in
    let old = rw (slice-run xs s i a) at h in
    rw (slice-run xs s (i + 1) more) (run-more p xs s i a b old e)

-- a run of no bytes
pub run-none : (p : ℕ → Bool) (xs : List ℕ) (s : ℕ) → list_any p (take (s - s) (drop s xs)) ≡ false
run-none p xs s = let e : s - s ≡ 0 = omega arith in rw e refl

-- a part of a line ends no line
any-append-left : (p : ℕ → Bool) (xs ys : List ℕ) → list_any p (xs ++ ys) ≡ false → list_any p xs ≡ false
any-append-left p [] ys h = refl
any-append-left p (x ∷ xs) ys h =
    let first : p x ≡ false = or-left _ _ h in
    let rest : list_any p xs ≡ false = any-append-left p xs ys (or-right _ _ h) in
    rw (first, rest) refl

any-append-right : (p : ℕ → Bool) (xs ys : List ℕ) → list_any p (xs ++ ys) ≡ false → list_any p ys ≡ false
any-append-right p [] ys h = h
any-append-right p (x ∷ xs) ys h = any-append-right p xs ys (or-right _ _ h)

pub any-drop : (p : ℕ → Bool) (n : ℕ) (xs : List ℕ) → list_any p xs ≡ false → list_any p (drop n xs) ≡ false
any-drop p n xs h = any-append-right p (take n xs) (drop n xs) (subst (λ (t : List ℕ). list_any p t ≡ false) (sym (take-append-drop n xs)) h)

pub any-take : (p : ℕ → Bool) (n : ℕ) (xs : List ℕ) → list_any p xs ≡ false → list_any p (take n xs) ≡ false
any-take p n xs h = any-append-left p (take n xs) (drop n xs) (subst (λ (t : List ℕ). list_any p t ≡ false) (sym (take-append-drop n xs)) h)

pub any-at : (p : ℕ → Bool) (xs : List ℕ) (i : ℕ) → i < length xs → list_any p xs ≡ false → p (get_or xs i 0) ≡ false
any-at p xs i lt h = let d = any-drop p i xs h in or-left _ _ (rw (drop_more xs i 0 lt) at d)

-- a run of bytes that are no commas and end no line joins the field at hand
pub joins-run : (fields : List (List ℕ)) (field x tail : List ℕ) → list_any is_comma x ≡ false → has_line_end x ≡ false
    → next_record default_config st.InField fields field (x ++ tail) ≡ next_record default_config st.InField fields (field ++ x) tail
joins-run fields field [] tail n e = rw (append-nil field) refl
joins-run fields field (c ∷ rest) tail n e =
    joins-field fields field c (rest ++ tail) (or-left _ _ n) (or-left _ _ e)
    ∙ joins-run fields (field ++ (c ∷ [])) rest tail (or-right _ _ n) (or-right _ _ e)
    ∙ ap (λ (f : List ℕ). next_record default_config st.InField fields f tail) (append_assoc field (c ∷ []) rest)

-- the same, of a part of a line
pub joins-part : (fields : List (List ℕ)) (field line : List ℕ) (s e : ℕ) → s ≤ e → list_any is_comma (take (e - s) (drop s line)) ≡ false → has_line_end line ≡ false
    → next_record default_config st.InField fields field (drop s line) ≡ next_record default_config st.InField fields (field ++ take (e - s) (drop s line)) (drop e line)
joins-part fields field line s e le n h =
    let whole = sym (take-append-drop (e - s) (drop s line)) in
    let sum : s + (e - s) ≡ e = omega arith in
    let rest = rw sum at (drop-drop (e - s) s line) in
    ap (next_record default_config st.InField fields field) whole
    ∙ joins-run fields field (take (e - s) (drop s line)) (drop (e - s) (drop s line)) n (any-take ends_line (e - s) (drop s line) (any-drop ends_line s line h))
    ∙ ap (next_record default_config st.InField fields (field ++ take (e - s) (drop s line))) rest

-- a field that starts with no quote, or has nothing after it
pub plain-field : (line : List ℕ) (s e : ℕ) → s ≤ e → s ≤ length line → (s < length line → is_quote (get_or line s 0) ≡ false)
    → list_any is_comma (take (e - s) (drop s line)) ≡ false → has_line_end line ≡ false → IsField (drop s line) (take (e - s) (drop s line)) (drop e line)
unfolding next_record
plain-field line s e le within q n h fields =
    elim (cases_lt s (length line)) [
      | inl lt ↦
          let first = start-same fields [] (get_or line s 0) (drop (s + 1) line) (q lt) in
          let here = drop_more line s 0 lt in
          ap (next_record default_config st.StartField fields []) here ∙ first ∙ sym (ap (next_record default_config st.InField fields []) here)
          ∙ joins-part fields [] line s e le n h
      | inr over ↦
          let none = drop_all s line over in
          let none2 = drop_all e line (omega arith) in
          rw (none, none2, take-nil (e - s)) refl
    ]

-- the state inside a field that is in quotes, or after a quote in it
abbrev pub quote_state : Bool → State
quote_state true = st.InQuoted
quote_state false = st.AfterQuote

abbrev pub IsQuoting : List ℕ → ℕ → ℕ → Bool → List ℕ → Type 0
IsQuoting line s at inside field = (fields : List (List ℕ)) →
    next_record default_config st.StartField fields [] (drop s line) ≡ next_record default_config (quote_state inside) fields field (drop at line)

-- a step between quotes, by the byte there
quote-step : (line field more : List ℕ) (s at : ℕ) (a b : Bool) → at < length line → IsQuoting line s at a field
    → ((fields : List (List ℕ)) → next_record default_config (quote_state a) fields field (get_or line at 0 ∷ drop (at + 1) line) ≡ next_record default_config (quote_state b) fields more (drop (at + 1) line))
    → IsQuoting line s (at + 1) b more
quote-step line field more s at a b lt old step fields =
    old fields ∙ ap (next_record default_config (quote_state a) fields field) (drop_more line at 0 lt) ∙ step fields

pub quoting-start : (line : List ℕ) (s : ℕ) → s < length line → get_or line s 0 ≡ 34 → IsQuoting line s (s + 1) true []
unfolding next_record
quoting-start line s lt is fields =
    ap (next_record default_config st.StartField fields []) (drop_more line s 0 lt ∙ ap (λ (c : ℕ). c ∷ drop (s + 1) line) is)

pub quoting-quote : (line field : List ℕ) (s at : ℕ) → at < length line → get_or line at 0 ≡ 34 → IsQuoting line s at true field → IsQuoting line s (at + 1) false field
unfolding next_record
quoting-quote line field s at lt is old = quote-step line field field s at true false lt old (λ fields. rw is refl)

pub quoting-double : (line field : List ℕ) (s at : ℕ) → at < length line → get_or line at 0 ≡ 34 → IsQuoting line s at false field → IsQuoting line s (at + 1) true (field ++ (get_or line at 0 ∷ []))
unfolding next_record
quoting-double line field s at lt is old = quote-step line field (field ++ (get_or line at 0 ∷ [])) s at false true lt old (λ fields. rw is refl)

pub quoting-more : (line field : List ℕ) (s at : ℕ) → at < length line → is_quote (get_or line at 0) ≡ false → IsQuoting line s at true field → IsQuoting line s (at + 1) true (field ++ (get_or line at 0 ∷ []))
unfolding next_record
quoting-more line field s at lt is old = quote-step line field (field ++ (get_or line at 0 ∷ [])) s at true true lt old (λ fields. rw is refl)

at-end : (fields : List (List ℕ)) (field : List ℕ) (inside : Bool) → next_record default_config (quote_state inside) fields field [] ≡ next_record default_config st.InField fields field []
unfolding next_record
at-end fields field true = refl
at-end fields field false = refl

-- after the last quote of a field, or at the end of a line in a field whose quote never closes
pub quoting-end : (line field : List ℕ) (s at e : ℕ) (inside : Bool) → at ≤ length line → (at < length line → (inside ≡ false) × (is_quote (get_or line at 0) ≡ false))
    → IsQuoting line s at inside field → at ≤ e → list_any is_comma (take (e - at) (drop at line)) ≡ false → has_line_end line ≡ false
    → IsField (drop s line) (field ++ take (e - at) (drop at line)) (drop e line)
unfolding next_record
quoting-end line field s at e inside within out old le n h fields =
    elim (cases_lt at (length line)) [
      | inl lt ↦
          let q = out lt in
          let old2 = subst (λ (b : Bool). IsQuoting line s at b field) q.0 old in
          let here = drop_more line at 0 lt in
          old2 fields ∙ ap (next_record default_config st.AfterQuote fields field) here ∙ after-quote-same fields field (get_or line at 0) (drop (at + 1) line) q.1
          ∙ sym (ap (next_record default_config st.InField fields field) here) ∙ joins-part fields field line at e le n h
      | inr over ↦
          let none = drop_all at line over in
          let none2 = drop_all e line (omega arith) in
          old fields ∙ rw (none, none2, take-nil (e - at), append-nil field) (at-end fields field inside)
    ]

pub quoting-as : (line : List ℕ) (s at : ℕ) (a b : Bool) (x y : List ℕ) → b ≡ a → y ≡ x → IsQuoting line s at a x → IsQuoting line s at b y
quoting-as line s at a b x y e f h = rw (e, f) h

-- the last field of a line
pub last-field : (line field : List ℕ) (fields : List (List ℕ)) (s e : ℕ) → length line ≤ e
    → next_record default_config st.StartRecord [] [] line ≡ next_record default_config st.StartField fields [] (drop s line)
    → IsField (drop s line) field (drop e line) → fields_of_line line ≡ fields ++ (field ∷ [])
unfolding next_record
last-field line field fields s e end reads is =
    let none = drop_all e line end in
    ap fields_read (reads ∙ is fields ∙ ap (next_record default_config st.InField fields field) none)

-- a field with a comma after it
pub next-field : (line field : List ℕ) (fields : List (List ℕ)) (s e : ℕ) → e < length line → get_or line e 0 ≡ 44
    → next_record default_config st.StartRecord [] [] line ≡ next_record default_config st.StartField fields [] (drop s line)
    → IsField (drop s line) field (drop e line)
    → next_record default_config st.StartRecord [] [] line ≡ next_record default_config st.StartField (fields ++ (field ∷ [])) [] (drop (e + 1) line)
next-field line field fields s e lt comma reads is =
    reads ∙ is fields ∙ ap (next_record default_config st.InField fields field) (drop_more line e 0 lt ∙ ap (λ (c : ℕ). c ∷ drop (e + 1) line) comma) ∙ ends-field fields field (drop (e + 1) line)

pub line-begins : (line : List ℕ) → line ≢ [] → has_line_end line ≡ false
    → next_record default_config st.StartRecord [] [] line ≡ next_record default_config st.StartField [] [] line
line-begins [] n e = absurd (n refl)
line-begins (c ∷ rest) n e = line-starts c rest e

pub none-of-empty : (line : List ℕ) → true ≡ (length line == 0) → fields_of_line line ≡ []
none-of-empty line h =
    let z : length line ≡ 0 = eqb-true (length line) 0 (sym h) in
    let e : line ≡ [] = drop_all 0 line (omega arith) in
    rw e empty-line

pub not-empty : (line : List ℕ) → false ≡ (length line == 0) → line ≢ []
not-empty line h e = cc (rw e at h)

-- bytes with no double quote, between quotes, to the end of the line
open-run : (fields : List (List ℕ)) (field x : List ℕ) → has_quote x ≡ false
    → next_record default_config st.InQuoted fields field x ≡ Some (fields ++ ((field ++ x) ∷ []), st.StartRecord, [])
unfolding next_record
open-run fields field [] q = rw (append-nil field) refl
open-run fields field (c ∷ rest) q =
    let miss : (c == 34) ≡ false = or-left _ _ q in
    rw miss (open-run fields (field ++ (c ∷ [])) rest (or-right _ _ q) ∙ ap (λ (f : List ℕ). Some (fields ++ (f ∷ []), st.StartRecord, [])) (append_assoc field (c ∷ []) rest))

-- a quote that never closes lasts to the line's end
pub open-quote : (x : List ℕ) → has_quote x ≡ false → fields_of_line (34 ∷ x) ≡ x ∷ []
unfolding next_record
open-quote x q = ap fields_read (open-run [] [] x q)
