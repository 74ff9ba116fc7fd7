-- The row of a line fits: each field is absent or of its input's kind.
use Rattle.std.specs.Prelude.{◌||◌, codes, filter}
use Rattle.std.proofs.Common.{◌≡◌, ℕ, zero, suc, ◌+◌, ◌≤◌, Bool, true, false, not, List, [], ◌∷◌, Option, Some, None, option_map, Result, Ok, Err, length, map, slice_get, get_or, nat_eq, nat_lt, nat_le, if◌then◌else◌, Contains, refl, sym, ap, subst, ◌∙◌, arith, inl, inr}
use Rattle.std.specs.List.{AllZip, after_first, before_first, list_any, position_or_len}
use Rattle.std.specs.Str.{IsUtf8}
use Rattle.std.proofs.lemmas.Bool.{cases_Bool, leb-true, ltb-false, or_parts}
use Rattle.std.proofs.lemmas.List.{get_or_default}
use Rattle.std.proofs.lemmas.Option.{cond_some}
use Rattle.lola_value.specs.declared.text.Field.{Field}
use Rattle.lola_value.specs.declared.text.Field.TheVariants as field
use Rattle.lola_value.specs.declared.value.Kind.{Kind}
use Rattle.lola_value.specs.declared.value.Kind.TheVariants as kind
use Rattle.lola_value.specs.Arithmetic.{bytes_equal, is_within}
use Rattle.lola_value.specs.Kinds.{is_bool, is_integer, is_text}
use Rattle.lola_value.specs.Times.{is_point, is_time, latest, nanoseconds, read_time, up_to_latest}
use Rattle.lola_model.specs.Trace.{IsFieldOf, IsTraceableText}
use Rattle.lola_model.specs.declared.journal.Row.{Row}
use Rattle.lola_model.specs.declared.source.MalformedKind.{MalformedKind}
use Rattle.lola_model.specs.declared.source.MalformedKind.TheVariants as malformed
use Rattle.lola_rows.specs.Blanks.{trimmed}
use Rattle.lola_rows.specs.Line.{begins_with_mark, ends_line, fields_of_line, has_line_end}
use Rattle.lola_rows.specs.Values.{and_then, in_range, is_absent, read_integer, read_number, read_plain, read_truth, read_value}
use Rattle.lola_rows.proofs.LineFacts.{any-at}
use Rattle.lola_rows.proofs.CleanFacts.{AreWithin, fields-of-line-within}
use Rattle.lola_rows.proofs.Utf8Facts.{AreTexts, fields-are-texts}
use Rattle.lola_rows.specs.Lines.{Line, is_line_end}
use Rattle.lola_rows.specs.Columns.{Columns, column_of, columns_of, is_time_name, is_twice, titles_of}
use Rattle.lola_rows.specs.declared.columns.Input.{Input}
use Rattle.lola_rows.specs.Reading.{IsRowOf, Shape}
use Rattle.lola_rows.specs.Rows.{columns_of_line, flaw_if, flaw_of_line, or_else_flaw, row_of_fields, row_of_line, row_with, then_value, time_of, unless, value_at, value_in, value_of, values_of}
use Rattle.lola_rows.specs.declared.columns.Column.{Column}
use Rattle.lola_rows.proofs.RowFacts.{one-line, sound}

pub unless-ok : {X : Type 0} (f : Option MalformedKind) (r : Result X MalformedKind) (x : X) → unless f r ≡ Ok x → (f ≡ None) × (r ≡ Ok x)
unless-ok None r x is = (refl, is)
unless-ok (Some k) r x is = absurd (cc is)

pub flaw-none : (b : Bool) (k : MalformedKind) → flaw_if b k ≡ None → b ≡ false
flaw-none true k is = absurd (cc is)
flaw-none false k is = refl

then-ok : {X Y : Type 0} (r : Result X MalformedKind) (f : X → Result Y MalformedKind) (y : Y) → then_value r f ≡ Ok y → (x : X) × (r ≡ Ok x) × (f x ≡ Ok y)
then-ok (Ok x) f y is = (x, refl, is)
then-ok (Err k) f y is = absurd (cc is)

pub else-ok : {X : Type 0} (o : Option X) (k : MalformedKind) (x : X) → or_else_flaw o k ≡ Ok x → o ≡ Some x
else-ok None k x is = absurd (cc is)
else-ok (Some y) k x is = let same : y ≡ x = cc in ap (λ z. Some z) same

and-then-some : {X Y : Type 0} (o : Option X) (f : X → Option Y) (y : Y) → and_then o f ≡ Some y → (x : X) × (o ≡ Some x) × (f x ≡ Some y)
and-then-some None f y is = absurd (cc is)
and-then-some (Some x) f y is = (x, refl, is)

map-some : {X Y : Type 0} (o : Option X) (f : X → Y) (y : Y) → option_map f o ≡ Some y → (x : X) × (o ≡ Some x) × (f x ≡ y)
map-some None f y is = absurd (cc is)
map-some (Some x) f y is = (x, refl, cc is)

-- a text without line ends has none
no-byte : (text : List ℕ) (b : ℕ) → ends_line b ≡ true → has_line_end text ≡ false → Contains text b → ⊥
no-byte text b ends none has =
    let here = any-at ends_line text has.0 has.1 none in
    let same : get_or text has.0 0 ≡ b = get_or_default text has.0 0 b has.1 ∙ has.2 in
    let hit : ends_line (get_or text has.0 0) ≡ true = ap ends_line same ∙ ends in
    cc (here, hit)

-- a kind of neither texts nor truth values is one of numbers
number-kind : (k : Kind) → is_text k ≡ false → is_bool k ≡ false → is_integer k ≡ true
number-kind kind.Bool t b = absurd (cc b)
number-kind kind.Text t b = absurd (cc t)
number-kind kind.Int8 t b = refl
number-kind kind.Int16 t b = refl
number-kind kind.Int32 t b = refl
number-kind kind.Int64 t b = refl
number-kind kind.UInt8 t b = refl
number-kind kind.UInt16 t b = refl
number-kind kind.UInt32 t b = refl
number-kind kind.UInt64 t b = refl

-- a text that is not absent can be told
told-text : (text : List ℕ) → is_absent text ≡ false → IsUtf8 text → has_line_end text ≡ false → IsTraceableText text
told-text text there utf8 clean =
    let two = or_parts (bytes_equal text []) (bytes_equal text (codes "#")) there in
    record {
      utf8 = utf8;
      some = λ is. let hit : bytes_equal text [] ≡ true = ap (λ (t : List ℕ). bytes_equal t []) is in absurd (cc (hit, two.0));
      present = λ is. let hit : bytes_equal text (codes "#") ≡ true = ap (λ (t : List ℕ). bytes_equal t (codes "#")) is in absurd (cc (hit, two.1));
      one_line = (λ has. no-byte text 13 refl clean has, λ has. no-byte text 10 refl clean has);
    }

plain-fits : (k : Kind) (text : List ℕ) (f : Field) → is_text k ≡ false → read_plain k text ≡ Some f → IsFieldOf k f
plain-fits k text f no_text is = elim (cases_Bool (is_bool k)) [
  | inl truth ↦
      let is' = rw truth at is in
      let b = map-some (read_truth text) (λ x. field.Bool x) f is' in
      subst (IsFieldOf k) b.2 truth
  | inr number ↦
      let is' = rw number at is in
      let n = map-some (read_number k text) (λ z. field.Int z) f is' in
      let z = and-then-some (read_integer text) (in_range k) n.0 n.1 in
      let in_kind = cond_some (is_within k z.0) z.0 n.0 z.2 in
      subst (IsFieldOf k) n.2 (record { integer = number-kind k no_text number; within = ap (is_within k) (sym in_kind.1) ∙ in_kind.0 })
]

read-fits : (k : Kind) (text : List ℕ) (f : Field) → IsUtf8 text → has_line_end text ≡ false → read_value k text ≡ Some f → IsFieldOf k f
read-fits k text f utf8 clean is = elim (cases_Bool (is_text k)) [
  | inl hit ↦
      let is' = rw hit at is in
      elim (cases_Bool (is_absent text)) [
        | inl none ↦ let is2 = rw none at is' in let same : field.Absent ≡ f = cc in subst (IsFieldOf k) same tt
        | inr there ↦ let is2 = rw there at is' in let same : field.Text text ≡ f = cc in subst (IsFieldOf k) same (hit, told-text text there utf8 clean)
      ]
  | inr miss ↦
      let is' = rw miss at is in
      elim (cases_Bool (is_absent (trimmed text))) [
        | inl none ↦ let is2 = rw none at is' in let same : field.Absent ≡ f = cc in subst (IsFieldOf k) same tt
        | inr there ↦ let is2 = rw there at is' in plain-fits k (trimmed text) f miss is2
      ]
]

-- a field of a line
field-text : (fields : List (List ℕ)) (place : ℕ) (text : List ℕ) → AreTexts fields → AreWithin fields → slice_get fields place ≡ Some text → IsUtf8 text × (has_line_end text ≡ false)
field-text [] place text texts clean is = absurd (cc is)
field-text (f ∷ fs) zero text texts clean is = let same : f ≡ text = cc in (subst IsUtf8 same texts.0, ap has_line_end (sym same) ∙ clean.0)
field-text (f ∷ fs) (suc place) text texts clean is = field-text fs place text texts.1 clean.1 is

at-fits : (k : Kind) (fields : List (List ℕ)) (place : ℕ) (o : Option (List ℕ)) (f : Field) → AreTexts fields → AreWithin fields → slice_get fields place ≡ o → value_at k o ≡ Some f → IsFieldOf k f
at-fits k fields place None f texts clean here is = let same : field.Absent ≡ f = cc in subst (IsFieldOf k) same tt
at-fits k fields place (Some text) f texts clean here is = let two = field-text fields place text texts clean here in read-fits k text f two.0 two.1 is

in-fits : (k : Kind) (fields : List (List ℕ)) (place : Option ℕ) (f : Field) → AreTexts fields → AreWithin fields → value_in fields k place ≡ Some f → IsFieldOf k f
in-fits k fields None f texts clean is = let same : field.Absent ≡ f = cc in subst (IsFieldOf k) same tt
in-fits k fields (Some place) f texts clean is = at-fits k fields place (slice_get fields place) f texts clean refl is

values-fit : (fields : List (List ℕ)) (columns : List Column) (fs : List Field) → AreTexts fields → AreWithin fields → values_of fields columns ≡ Some fs → AllZip IsFieldOf (map (λ c. c.kind) columns) fs
values-fit fields [] fs texts clean is = let same : [] ≡ fs = cc in subst (AllZip IsFieldOf []) same tt
values-fit fields (c ∷ cs) fs texts clean is =
    let a = and-then-some (value_of fields c) (λ v. option_map (λ vs. v ∷ vs) (values_of fields cs)) fs is in
    let b = map-some (values_of fields cs) (λ vs. a.0 ∷ vs) fs a.2 in
    subst (AllZip IsFieldOf (map (λ x. x.kind) (c ∷ cs))) b.2 (in-fits c.kind fields c.place a.0 texts clean a.1, values-fit fields cs b.0 texts clean b.1)

-- a time that was read is not too late
if-some : {X : Type 0} (b : Bool) (o : Option X) (x : X) → (if b then o else None) ≡ Some x → (b ≡ true) × (o ≡ Some x)
if-some true o x is = (refl, is)
if-some false o x is = absurd (cc is)

time-within : (text : List ℕ) (stamp : ℕ) → read_time text ≡ Some stamp → stamp ≤ latest
time-within text stamp is =
    let whole = before_first is_point text in
    let decimals = after_first is_point text in
    let a = if-some (is_time whole decimals) (up_to_latest (nanoseconds whole decimals)) stamp is in
    let b = cond_some (nat_le (nanoseconds whole decimals) latest) (nanoseconds whole decimals) stamp a.1 in
    let under = leb-true (nanoseconds whole decimals) latest b.0 in
    let same = b.1 in
    omega arith

-- what the row of a line is
pub row-facts : (shape : Shape) (columns : Columns) (given : ℕ) (line : Line) (row : Row) → map (λ c. c.kind) columns.inputs ≡ map (λ i. i.kind) shape.inputs → list_any is_line_end line.text ≡ false
    → row_of_line shape.index shape.most columns (given + 1) line ≡ Ok row → IsRowOf shape given row
row-facts shape columns given line row kinds one is =
    let number = given + 1 in
    let fields = fields_of_line line.text in
    let third = unless (flaw_if (nat_lt shape.most number) malformed.TooManyRows) (row_of_fields shape.index shape.most columns number fields) in
    let second = unless (flaw_if (begins_with_mark line.text) malformed.BadText) third in
    let a = unless-ok (flaw_of_line line) second row is in
    let ok = sound line a.0 in
    let b = unless-ok (flaw_if (begins_with_mark line.text) malformed.BadText) third row a.1 in
    let c = unless-ok (flaw_if (nat_lt shape.most number) malformed.TooManyRows) (row_of_fields shape.index shape.most columns number fields) row b.1 in
    let few = ltb-false shape.most number (flaw-none (nat_lt shape.most number) malformed.TooManyRows c.0) in
    let timely = then_value (or_else_flaw (time_of fields columns.time) malformed.BadTime) (λ stamp. then_value (or_else_flaw (values_of fields columns.inputs) malformed.BadValue) (λ values. Ok (row_with shape.index number stamp values))) in
    let d = unless-ok (flaw_if (not (nat_eq (length fields) columns.width)) malformed.FieldCount) timely row c.1 in
    let e = then-ok (or_else_flaw (time_of fields columns.time) malformed.BadTime) (λ stamp. then_value (or_else_flaw (values_of fields columns.inputs) malformed.BadValue) (λ values. Ok (row_with shape.index number stamp values))) row d.1 in
    let f = then-ok (or_else_flaw (values_of fields columns.inputs) malformed.BadValue) (λ values. Ok (row_with shape.index number e.0 values)) row e.2 in
    let time = else-ok (time_of fields columns.time) malformed.BadTime e.0 e.1 in
    let values = else-ok (values_of fields columns.inputs) malformed.BadValue f.0 f.1 in
    let timed = and-then-some (slice_get fields columns.time) (λ text. read_time (trimmed text)) e.0 time in
    let in_time = time-within (trimmed timed.0) e.0 timed.2 in
    let made : row_with shape.index number e.0 f.0 ≡ row = let m = f.2 in cc in
    let stamped : e.0 ≡ row.stamp = ap (λ (r : Row). r.stamp) made in
    let numbered : number ≡ row.number = ap (λ (r : Row). r.number) made in
    let fit = values-fit fields columns.inputs f.0 (fields-are-texts line.text ok.utf8) (fields-of-line-within line.text (one-line line.text one ok.returns)) values in
    record {
      source = sym (ap (λ (r : Row). r.source) made);
      number = sym numbered;
      within = omega (arith, few, numbered);
      stamp = omega (arith, in_time, stamped);
      fields = subst (λ ks. AllZip IsFieldOf ks row.fields) kinds (subst (AllZip IsFieldOf (map (λ x. x.kind) columns.inputs)) (ap (λ (r : Row). r.fields) made) fit);
    }

-- the columns of a heading are those of the inputs
columns-kinds : (inputs : List Input) (titles : List (List ℕ)) → map (λ (c : Column). c.kind) (map (column_of titles) inputs) ≡ map (λ i. i.kind) inputs
columns-kinds [] titles = refl
columns-kinds (i ∷ is) titles = ap (λ ks. i.kind ∷ ks) (columns-kinds is titles)

pub heading-kinds : (inputs : List Input) (line : Line) (columns : Columns) → columns_of_line inputs line ≡ Ok columns → map (λ c. c.kind) columns.inputs ≡ map (λ i. i.kind) inputs
heading-kinds inputs line columns is =
    let a = unless-ok (flaw_of_line line) (or_else_flaw (columns_of inputs line.text) malformed.BadHeading) columns is in
    let b = else-ok (columns_of inputs line.text) malformed.BadHeading columns a.1 in
    elim (cases_Bool (begins_with_mark line.text)) [
      | inl mark ↦ let b' = rw mark at b in absurd (cc b')
      | inr none ↦
          let b' = rw none at b in
          let titles = titles_of line.text in
          elim (cases_Bool (not (nat_eq (length (filter is_time_name titles)) 1) || list_any (is_twice titles) inputs)) [
            | inl bad ↦ let b2 = rw bad at b' in absurd (cc b2)
            | inr good ↦
                let b2 = rw good at b' in
                let same : record { width = length titles; time = position_or_len is_time_name titles; inputs = map (column_of titles) inputs } ≡ columns = cc in
                ap (λ (x : Columns). map (λ (c : Column). c.kind) x.inputs) (sym same) ∙ columns-kinds inputs titles
          ]
    ]
