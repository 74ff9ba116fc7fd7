-- The row of a line, by its parts.
use Rattle.std.proofs.Common.{◌≡◌, ℕ, zero, suc, ◌+◌, ◌<◌, ◌≤◌, true, false, List, [], ◌∷◌, ◌++◌, Option, Some, None, option_map, length, drop, get_or, slice_get, refl, sym, ap, ◌∙◌, append_assoc, Result, Ok, Err, MatchResult, IfOk, nat_lt, is_ok, inl, inr}
use Rattle.std.specs.List.{list_any}
use Rattle.std.proofs.lemmas.List.{append-nil, drop_all, drop_more}
use Rattle.std.proofs.lemmas.Bool.{cases_Bool, ltb-false, or_parts}
use Rattle.std.proofs.lemmas.Str.{IsUtf8-from_is_utf8, is_utf8-from_IsUtf8}
use Rattle.std.specs.Str.{IsUtf8, is_utf8}
use Rattle.csv.specs.Records.{field_at}
use Rattle.lola_value.specs.declared.text.Field.{Field}
use Rattle.lola_value.specs.declared.text.Field.TheVariants as field
use Rattle.lola_value.specs.declared.text.Memory.{Memory}
use Rattle.lola_value.specs.declared.value.Kind.{Kind}
use Rattle.lola_value.specs.Times.{read_time}
use Rattle.lola_model.specs.declared.source.MalformedKind.{MalformedKind}
use Rattle.lola_rows.specs.Blanks.{trimmed}
use Rattle.lola_rows.specs.Values.{and_then, read_value}
use Rattle.lola_rows.specs.Line.{has_line_end}
use Rattle.lola_rows.specs.Steps.{Pushes, Tells}
use Rattle.lola_rows.specs.Lines.{Line, is_line_end, is_return, longest_line}
use Rattle.lola_rows.specs.Rows.{flaw_of_line, time_of, value_at, value_of, values_of}
use Rattle.lola_rows.specs.declared.columns.Column.{Column}

pub field-get : (fields : List (List ℕ)) (i : ℕ) → field_at fields i ≡ slice_get fields i
unfolding field_at
field-get [] i = refl
field-get (f ∷ fs) zero = refl
field-get (f ∷ fs) (suc i) = field-get fs i

-- values, and further ones
abbrev pub led_values : List Field → Option (List Field) → Option (List Field)
led_values front more = option_map (λ vs. front ++ vs) more

-- a line is one for csv
pub one-line : (text : List ℕ) → list_any is_line_end text ≡ false → list_any is_return text ≡ false → has_line_end text ≡ false
one-line [] a b = refl
one-line (t ∷ ts) a b =
    let x = or_parts (is_line_end t) (list_any is_line_end ts) a in
    let y = or_parts (is_return t) (list_any is_return ts) b in
    rw (y.0, x.0, one-line ts x.1 y.1) refl

-- a test for UTF-8
pub utf8-by : {S E : Type 0} (bytes : List ℕ) (r : Result S E) (P : S → Type 0) (Q : E → Type 0) → MatchResult r (λ s. P s × IsUtf8 bytes) (λ e. (IsUtf8 bytes → ⊥) × Q e) → is_ok r ≡ is_utf8 bytes
utf8-by bytes (Ok s) P Q is = sym (is_utf8-from_IsUtf8 bytes is.1)
utf8-by bytes (Err e) P Q is = elim (cases_Bool (is_utf8 bytes)) [
  | inl hit ↦ absurd (is.0 (IsUtf8-from_is_utf8 bytes hit))
  | inr miss ↦ sym miss
]

-- the time of a row
pub time-there : (fields : List (List ℕ)) (place : ℕ) (text : List ℕ) → Some text ≡ field_at fields place → read_time (trimmed text) ≡ time_of fields place
time-there fields place text is = ap (λ o. and_then o (λ t. read_time (trimmed t))) (is ∙ field-get fields place)

pub time-none : (fields : List (List ℕ)) (place : ℕ) → None ≡ field_at fields place → None ≡ time_of fields place
time-none fields place is = ap (λ (o : Option (List ℕ)). and_then o (λ t. read_time (trimmed t))) (is ∙ field-get fields place)

-- the value at a place
pub value-made : (fields : List (List ℕ)) (kind : Kind) (place : ℕ) (text : List ℕ) (r : Result (Option Field) Memory) → Some text ≡ field_at fields place
    → IfOk r (λ v. v ≡ read_value kind text) → IfOk r (λ v. v ≡ value_at kind (slice_get fields place))
value-made fields kind place text (Ok v) is made = made ∙ ap (value_at kind) (is ∙ field-get fields place)
value-made fields kind place text (Err e) is made = made

pub value-none : (fields : List (List ℕ)) (kind : Kind) (place : ℕ) → None ≡ field_at fields place → Some field.Absent ≡ value_at kind (slice_get fields place)
value-none fields kind place is = ap (value_at kind) (is ∙ field-get fields place)

-- a line of which nothing is wrong has no carriage return, and is UTF-8
pub record IsSound (line : Line) : Type 0 where
  pub returns : list_any is_return line.text ≡ false
  pub short : line.size ≤ longest_line
  pub utf8 : IsUtf8 line.text

pub sound : (line : Line) → flaw_of_line line ≡ None → IsSound line
sound line none = elim (cases_Bool (nat_lt longest_line line.size)) [
  | inl long ↦ let none' = rw long at none in absurd (cc none')
  | inr short ↦
      let none' = rw short at none in
      elim (cases_Bool (list_any is_return line.text)) [
        | inl there ↦ let none2 = rw there at none' in absurd (cc none2)
        | inr clear ↦
            let none2 = rw clear at none' in
            elim (cases_Bool (is_utf8 line.text)) [
              | inl text ↦ record { returns = clear; short = ltb-false _ _ short; utf8 = IsUtf8-from_is_utf8 line.text text }
              | inr bad ↦ let none3 = rw bad at none2 in absurd (cc none3)
            ]
      ]
]

pub unflawed : (size : ℕ) (text : List ℕ) (r : Result (Unit {0}) MalformedKind) → Tells r (flaw_of_line (record { size = size; text = text })) → ((k : MalformedKind) → r ≡ Err k → ⊥) → list_any is_return text ≡ false
unflawed size text (Ok done) tells never = (sound (record { size = size; text = text }) tells).returns
unflawed size text (Err k) tells never = absurd (never k refl)

-- one value more
led-more : (front : List Field) (v : Field) (o : Option (List Field)) → led_values (front ++ v ∷ []) o ≡ led_values front (option_map (λ vs. v ∷ vs) o)
led-more front v None = refl
led-more front v (Some vs) = ap (λ (l : List Field). Some l) (append_assoc front (v ∷ []) vs)

abbrev next_values : List (List ℕ) → List Field → List Column → Option Field → Option (List Field)
next_values fields front later o = led_values front (and_then o (λ v. option_map (λ vs. v ∷ vs) (values_of fields later)))

pub values-more : (fields : List (List ℕ)) (columns : List Column) (i : ℕ) (d : Column) (front new : List Field) → i < length columns → Pushes true (value_of fields (get_or columns i d)) front new
    → led_values front (values_of fields (drop i columns)) ≡ values_of fields columns → led_values new (values_of fields (drop (i + 1) columns)) ≡ values_of fields columns
values-more fields columns i d front new within (v, is, pushed) so_far =
    ap (λ l. led_values l (values_of fields (drop (i + 1) columns))) pushed
    ∙ led-more front v (values_of fields (drop (i + 1) columns)) ∙ ap (next_values fields front (drop (i + 1) columns)) (sym is)
    ∙ sym (ap (λ l. led_values front (values_of fields l)) (drop_more columns i d within)) ∙ so_far

pub values-fail : (fields : List (List ℕ)) (columns : List Column) (i : ℕ) (d : Column) (front : List Field) → i < length columns → value_of fields (get_or columns i d) ≡ None
    → led_values front (values_of fields (drop i columns)) ≡ values_of fields columns → None ≡ values_of fields columns
values-fail fields columns i d front within is so_far =
    ap (next_values fields front (drop (i + 1) columns)) (sym is) ∙ sym (ap (λ l. led_values front (values_of fields l)) (drop_more columns i d within)) ∙ so_far

pub values-done : (fields : List (List ℕ)) (columns : List Column) (i : ℕ) (front : List Field) → length columns ≤ i → led_values front (values_of fields (drop i columns)) ≡ values_of fields columns → Some front ≡ values_of fields columns
values-done fields columns i front past so_far =
    ap (λ (l : List Field). Some l) (sym (append-nil front)) ∙ sym (ap (λ l. led_values front (values_of fields l)) (drop_all i columns past)) ∙ so_far
