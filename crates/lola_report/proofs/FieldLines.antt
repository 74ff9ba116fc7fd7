-- The fields of the line of an entry, as they are read of the line.
use Rattle.std.proofs.Common.{◌≡◌, ◌≢◌, ℕ, List, [], ◌∷◌, ◌++◌, ◌∙◌, false, Some, map, refl, ap, append_assoc, append-nil, decimal, inl, inr}
use Rattle.std.specs.Prelude.{nat_eq}
use Rattle.std.specs.List.{AllByRecursion, AllZip, list_any}
use Rattle.std.proofs.lemmas.Bool.{cases_Bool, or_from, or_parts}
use Rattle.csv.specs.Machine.{next_record}
use Rattle.csv.specs.Reading.{default_config}
use Rattle.csv.specs.Writing.{default_writer, escaped, field_text, fields_text, is_blank, needs_byte, needs_quotes, row_body}
use Rattle.csv.specs.declared.parser.State.TheVariants as st
use Rattle.csv.proofs.RoundTrip.{field-run, plain-run, quoted-run, start-same}
use Rattle.lola_value.specs.declared.text.Field.{Field}
use Rattle.lola_value.specs.declared.text.Field.TheVariants as field
use Rattle.lola_value.specs.declared.value.Kind.{Kind}
use Rattle.lola_value.specs.Times.{time_text}
use Rattle.lola_model.specs.declared.journal.Entry.{Entry}
use Rattle.lola_model.specs.Trace.{IsFieldOf, IsTraceableText, entry_fields, field_bytes, mark_text, trace_line}
use Rattle.lola_rows.specs.Line.{fields_of_line, fields_read, has_line_end}
use Rattle.lola_rows.proofs.LineFacts.{ends-field, line-begins}
use Rattle.lola_report.proofs.Mild.{bool_mild, decimal_mild, integer_mild, mark_mild, mild_unquoted, time_mild}
use Rattle.lola_report.proofs.Bytes.{line-append, mild-one-line, none-from}

-- the line of an entry without its LF
abbrev pub content : Entry → List ℕ
content e = row_body default_writer (entry_fields e)

pub line-content : (e : Entry) → trace_line e ≡ content e ++ (10 ∷ [])
unfolding is_blank
line-content e = refl

-- texts that end no line

-- a text of a field
pub text-one-line : (t : List ℕ) → IsTraceableText t → has_line_end t ≡ false
text-one-line t traceable = both t (none-from 13 t traceable.one_line.0) (none-from 10 t traceable.one_line.1)
  where
    both : (xs : List ℕ) → list_any (λ b. nat_eq b 13) xs ≡ false → list_any (λ b. nat_eq b 10) xs ≡ false → has_line_end xs ≡ false
    both [] a b = refl
    both (x ∷ xs) a b =
        let p = or_parts _ _ a in
        let q = or_parts _ _ b in
        or_from _ _ (or_from _ _ p.0 q.0) (both xs p.1 q.1)

abbrev AreOneLine : List (List ℕ) → Type 0
AreOneLine ts = AllByRecursion (λ (t : List ℕ). has_line_end t ≡ false) ts

-- a field of a kind
field-one-line : (k : Kind) (f : Field) → IsFieldOf k f → has_line_end (field_bytes f) ≡ false
field-one-line k field.Absent is = refl
field-one-line k (field.Bool b) is = mild-one-line (field_bytes (field.Bool b)) (bool_mild b)
field-one-line k (field.Int z) is = mild-one-line (field_bytes (field.Int z)) (integer_mild z)
field-one-line k (field.Text t) is = text-one-line t is.1

fields-one-line : (ks : List Kind) (fs : List Field) → AllZip IsFieldOf ks fs → AreOneLine (map field_bytes fs)
fields-one-line [] [] fit = tt
fields-one-line [] (f ∷ fs) fit = absurd fit
fields-one-line (k ∷ ks) [] fit = absurd fit
fields-one-line (k ∷ ks) (f ∷ fs) fit = (field-one-line k f fit.0, fields-one-line ks fs fit.1)

-- what is known of the parts of an entry
pub record HasParts (ks : List Kind) (e : Entry) : Type 0 where
  pub source : decimal e.row.source ≢ []
  pub fields : AllZip IsFieldOf ks e.row.fields

entry-one-line : (ks : List Kind) (e : Entry) → HasParts ks e → AreOneLine (entry_fields e)
entry-one-line ks e parts = (
  mild-one-line (decimal e.row.source) (decimal_mild e.row.source),
  (
    mild-one-line (decimal e.row.number) (decimal_mild e.row.number),
    (
      mild-one-line (time_text e.row.stamp) (time_mild e.row.stamp),
      (mild-one-line (mark_text e.mark) (mark_mild e.mark), fields-one-line ks e.row.fields parts.fields),
    ),
  ),
)

-- a field in a row, in quotes or not
inside-one-line : (t : List ℕ) → has_line_end t ≡ false → has_line_end (escaped default_writer t) ≡ false
unfolding escaped
inside-one-line [] one = refl
inside-one-line (b ∷ t) one =
    let p = or_parts _ _ one in
    let more = inside-one-line t p.1 in
    elim (cases_Bool (nat_eq b 34)) [
      | inl hit ↦ rw hit (or_from _ _ p.0 more)
      | inr miss ↦ rw miss (or_from _ _ p.0 more)
    ]

written-one-line : (t : List ℕ) → has_line_end t ≡ false → has_line_end (field_text default_writer t) ≡ false
written-one-line t one = elim (cases_Bool (needs_quotes default_writer t)) [
  | inl quoted ↦ rw quoted (line-append (escaped default_writer t) (34 ∷ []) (inside-one-line t one) refl)
  | inr plain ↦ rw plain one
]

others-one-line : (ts : List (List ℕ)) → AreOneLine ts → has_line_end (fields_text default_writer ts) ≡ false
unfolding fields_text
others-one-line [] all = refl
others-one-line (t ∷ ts) all = line-append (field_text default_writer t) (fields_text default_writer ts) (written-one-line t all.0) (others-one-line ts all.1)

row-one-line : (ts : List (List ℕ)) → AreOneLine ts → has_line_end (row_body default_writer ts) ≡ false
row-one-line [] all = refl
row-one-line (t ∷ ts) all = line-append (field_text default_writer t) (fields_text default_writer ts) (written-one-line t all.0) (others-one-line ts all.1)

pub content-one-line : (ks : List Kind) (e : Entry) → HasParts ks e → has_line_end (content e) ≡ false
content-one-line ks e parts = row-one-line (entry_fields e) (entry-one-line ks e parts)

-- fields that are read of a row without its LF

-- the last field
opens : (fields : List (List ℕ)) (rest : List ℕ) → next_record default_config st.StartField fields [] (34 ∷ rest) ≡ next_record default_config st.InQuoted fields [] rest
unfolding next_record
opens fields rest = refl

closes : (fields : List (List ℕ)) (x : List ℕ) → next_record default_config st.AfterQuote fields x [] ≡ next_record default_config st.InField fields x []
unfolding next_record
closes fields x = refl

no-quote : (b : ℕ) → needs_byte default_writer b ≡ false → nat_eq b 34 ≡ false
no-quote b none =
    let p = or_parts _ _ none in
    let q = or_parts _ _ p.0 in
    let r = or_parts _ _ q.0 in
    (or_parts _ _ r.0).1

plain-last : (fields : List (List ℕ)) (x : List ℕ) → needs_quotes default_writer x ≡ false
    → next_record default_config st.StartField fields [] (x ++ []) ≡ next_record default_config st.InField fields x []
unfolding next_record
plain-last fields [] none = refl
plain-last fields (b ∷ x) none =
    let p = or_parts _ _ none in
    start-same fields [] b (x ++ []) (no-quote b p.0) ∙ plain-run fields [] (b ∷ x) [] none

last-run : (fields : List (List ℕ)) (x : List ℕ) → next_record default_config st.StartField fields [] (field_text default_writer x ++ []) ≡ next_record default_config st.InField fields x []
last-run fields x = elim (cases_Bool (needs_quotes default_writer x)) [
  | inl quoted ↦
      let text : field_text default_writer x ++ [] ≡ 34 ∷ (escaped default_writer x ++ (34 ∷ [])) = append-nil (field_text default_writer x) ∙ rw quoted refl in
      ap (next_record default_config st.StartField fields []) text ∙ opens fields _ ∙ quoted-run fields [] x [] ∙ closes fields x
  | inr plain ↦
      let text : field_text default_writer x ≡ x = rw plain refl in
      ap (λ (l : List ℕ). next_record default_config st.StartField fields [] (l ++ [])) text ∙ plain-last fields x plain
]

-- a field, and those behind it
one-run : (fields : List (List ℕ)) (x : List ℕ) (ts : List (List ℕ))
    → next_record default_config st.StartField fields [] (field_text default_writer x ++ fields_text default_writer ts) ≡ next_record default_config st.InField fields x (fields_text default_writer ts)
unfolding fields_text
one-run fields x [] = last-run fields x
one-run fields x (t ∷ ts) = field-run fields x 44 (field_text default_writer t ++ fields_text default_writer ts) refl

-- the fields behind one that was read
others-run : (fields : List (List ℕ)) (x : List ℕ) (ts : List (List ℕ))
    → next_record default_config st.InField fields x (fields_text default_writer ts) ≡ Some (fields ++ (x ∷ ts), st.StartRecord, [])
unfolding next_record fields_text
others-run fields x [] = refl
others-run fields x (t ∷ ts) =
    ends-field fields x (field_text default_writer t ++ fields_text default_writer ts)
    ∙ one-run (fields ++ (x ∷ [])) t ts
    ∙ others-run (fields ++ (x ∷ [])) t ts
    ∙ ap (λ (l : List (List ℕ)). Some (l, st.StartRecord, [])) (append_assoc fields (x ∷ []) (t ∷ ts))

not-empty : (xs ys : List ℕ) → xs ≢ [] → xs ++ ys ≢ []
not-empty [] ys some e = some refl
not-empty (x ∷ xs) ys some e = cc e

content-some : (ks : List Kind) (e : Entry) → HasParts ks e → content e ≢ []
content-some ks e parts =
    let s = decimal e.row.source in
    let plain : field_text default_writer s ≡ s = rw (mild_unquoted s (decimal_mild e.row.source)) refl in
    not-empty (field_text default_writer s) _ (λ none. parts.source (rw plain at none))

pub content-fields : (ks : List Kind) (e : Entry) → HasParts ks e → fields_of_line (content e) ≡ entry_fields e
content-fields ks e parts =
    let others = decimal e.row.number ∷ time_text e.row.stamp ∷ mark_text e.mark ∷ map field_bytes e.row.fields in
    ap fields_read
    (line-begins (content e) (content-some ks e parts) (content-one-line ks e parts)
    ∙ one-run [] (decimal e.row.source) others ∙ others-run [] (decimal e.row.source) others)
