-- The entry of a line is read back from the line, and every entry that is read of a line is one that a trace can tell.
use Rattle.std.proofs.Common.{◌≡◌, ◌≢◌, ◌<◌, ◌≤◌, ◌+◌, ◌^◌, ℕ, ℤ, pos, negsuc, List, [], ◌∷◌, ◌++◌, ◌∙◌, Bool, true, false, not, if◌then◌else◌, Option, Some, None, option_map, map, refl, sym, ap, subst, arith, append_assoc, length, decimal, codes, inl, inr}
use Rattle.std.specs.Prelude.{nat_eq, nat_le}
use Rattle.std.specs.List.{AllZip, after_first, before_first, list_all}
use Rattle.std.proofs.Math.Seq.{get_or-append_seam}
use Rattle.std.proofs.lemmas.Bool.{and_from, and_parts, cases_Bool, leb-true, lt-ltb, ltb-true, ne_eqb, not-true}
use Rattle.std.proofs.lemmas.Int.{ints}
use Rattle.std.proofs.lemmas.List.{append_cancel_right, length-append}
use Rattle.std.proofs.lemmas.Option.{unwrap_or-slice_get}
use Rattle.std.proofs.lemmas.Str.{IsUtf8-from_is_utf8, is_utf8-from_IsUtf8}
use Rattle.lola_value.specs.declared.text.Field.{Field}
use Rattle.lola_value.specs.declared.text.Field.TheVariants as field
use Rattle.lola_value.specs.declared.value.Kind.{Kind}
use Rattle.lola_value.specs.declared.value.Kind.TheVariants as kind
use Rattle.lola_value.specs.Arithmetic.{bytes_equal, is_within}
use Rattle.lola_value.specs.Kinds.{is_bool, is_integer, is_text}
use Rattle.lola_value.specs.Numbers.{integer_text}
use Rattle.lola_value.specs.Times.{is_digit, is_point, is_time, latest, nanoseconds, read_time, time_text, up_to_latest}
use Rattle.lola_model.specs.declared.journal.Entry.{Entry}
use Rattle.lola_model.specs.declared.journal.Mark.{Mark}
use Rattle.lola_model.specs.declared.journal.Mark.TheVariants as mark
use Rattle.lola_model.specs.declared.plan.Plan.{Plan}
use Rattle.lola_model.specs.Trace.{IsFieldOf, IsMarkInTime, IsTraceable, IsTraceableText, entry_fields, field_bytes, input_kinds, mark_text, trace_line}
use Rattle.lola_model.proofs.Lookups.{bytes_equal-true}
use Rattle.lola_rows.specs.Line.{fields_of_line, has_line_end}
use Rattle.lola_rows.specs.Values.{and_then, in_range, read_number}
use Rattle.lola_rows.specs.Values as csv
use Rattle.lola_report.specs.declared.candidate.Head.{Head}
use Rattle.lola_report.specs.Candidates.{candidate_of, entry_with, is_field_text, natural, read_entry, read_field, read_fields, read_head, read_integer, read_mark, read_natural, read_text, text_at}
use Rattle.lola_report.proofs.Bytes.{absent-from, line-no-cr, line-no-lf}
use Rattle.lola_report.proofs.Decimals.{decimal-some, decimal-spells, natural-back, number-back, number-within, pos-fits, source-within, time-back}
use Rattle.lola_report.proofs.FieldLines.{HasParts, content, content-fields, content-one-line, line-content, text-one-line}

-- complete: what is written is read back

text-there : (front rest : List (List ℕ)) (x : List ℕ) → text_at (front ++ (x ∷ rest)) (length front) ≡ x
text-there front rest x = unwrap_or-slice_get (front ++ (x ∷ rest)) (length front) [] ∙ get_or-append_seam front x rest []

number-kind : (k : Kind) → is_integer k ≡ true → (is_bool k ≡ false) × (is_text k ≡ false)
number-kind kind.Bool e = absurd (cc e)
number-kind kind.Text e = absurd (cc e)
number-kind _ e = (refl, refl)

text-kind : (k : Kind) → is_text k ≡ true → is_bool k ≡ false
text-kind kind.Bool e = absurd (cc e)
text-kind _ e = refl

other-kind : (k : Kind) → is_bool k ≡ false → is_text k ≡ false → is_integer k ≡ true
other-kind kind.Bool a b = absurd (cc a)
other-kind kind.Text a b = absurd (cc b)
other-kind _ a b = refl

digits-no-sign : (xs : List ℕ) → list_all is_digit xs ≡ true → bytes_equal xs (codes "#") ≡ false
digits-no-sign [] h = refl
digits-no-sign (x ∷ xs) h =
    let p = and_parts _ _ h in
    let q = and_parts _ _ p.0 in
    let low : 48 ≤ x = leb-true 48 x q.0 in
    let miss : nat_eq x 35 ≡ false = ne_eqb x 35 (λ e. absurd (omega (arith, e))) in
    rw miss refl

integer-no-sign : (k : Kind) (z : ℤ) → is_within k z ≡ true → bytes_equal (integer_text z) (codes "#") ≡ false
integer-no-sign k (pos n) within = digits-no-sign (decimal n) (decimal-spells n (pos-fits k n within)).all
integer-no-sign k (negsuc n) within = refl

text-no-sign : (t : List ℕ) → IsTraceableText t → bytes_equal t (codes "#") ≡ false
text-no-sign t is = elim (cases_Bool (bytes_equal t (codes "#"))) [
  | inl hit ↦ absurd (is.present (bytes_equal-true t (codes "#") hit))
  | inr miss ↦ miss
]

some-bytes : (t : List ℕ) → t ≢ [] → 0 < length t
some-bytes [] some = absurd (some refl)
some-bytes (b ∷ t) some = omega arith

field-text-yes : (t : List ℕ) → IsTraceableText t → is_field_text t ≡ true
field-text-yes t is =
    and_from _ _ (is_utf8-from_IsUtf8 t is.utf8) (and_from _ _ (lt-ltb 0 (length t) (some-bytes t is.some)) (ap not (text-one-line t is)))

-- the choice of what a field is
abbrev choice : Bool → Bool → Bool → List ℕ → Kind → Option Field
choice sign truth text t k = if sign then Some field.Absent else if truth then Some (field.Bool (bytes_equal t (codes "true"))) else if text then read_text t else read_integer k t

field-back : (k : Kind) (f : Field) → IsFieldOf k f → read_field k (field_bytes f) ≡ Some f
field-back k field.Absent is = refl
field-back k (field.Bool true) is = ap (λ b. choice false b (is_text k) (codes "true") k) is
field-back k (field.Bool false) is = ap (λ b. choice false b (is_text k) (codes "false") k) is
field-back k (field.Int z) is =
    let other = number-kind k is.integer in
    ap (λ b. choice b (is_bool k) (is_text k) (integer_text z) k) (integer-no-sign k z is.within)
    ∙ ap (λ b. choice false b (is_text k) (integer_text z) k) other.0
    ∙ ap (λ b. choice false false b (integer_text z) k) other.1
    ∙ ap (option_map (λ y. field.Int y)) (number-back k z is.within)
field-back k (field.Text t) is =
    ap (λ b. choice b (is_bool k) (is_text k) t k) (text-no-sign t is.1)
    ∙ ap (λ b. choice false b (is_text k) t k) (text-kind k is.0)
    ∙ ap (λ b. choice false false b t k) is.0
    ∙ rw (field-text-yes t is.1) refl

fields-back : (all front : List (List ℕ)) (place : ℕ) (ks : List Kind) (fs : List Field) → AllZip IsFieldOf ks fs → all ≡ front ++ map field_bytes fs → place ≡ length front
    → read_fields all place ks ≡ Some fs
fields-back all front place [] [] fit is there = refl
fields-back all front place [] (f ∷ fs) fit is there = absurd fit
fields-back all front place (k ∷ ks) [] fit is there = absurd fit
fields-back all front place (k ∷ ks) (f ∷ fs) fit is there =
    let rest = map field_bytes fs in
    let here : text_at all place ≡ field_bytes f =
    ap (λ (a : List (List ℕ)). text_at a place) is ∙ ap (text_at (front ++ (field_bytes f ∷ rest))) there ∙ text-there front rest (field_bytes f) in
    let next : all ≡ (front ++ (field_bytes f ∷ [])) ++ rest = is ∙ sym (append_assoc front (field_bytes f ∷ []) rest) in
    let long = length-append front (field_bytes f ∷ []) in
    let more = fields-back all (front ++ (field_bytes f ∷ [])) (place + 1) ks fs fit.1 next (omega (arith, there, long)) in
    ap (λ o. and_then o (λ g. option_map (λ gs. g ∷ gs) (read_fields all (place + 1) ks))) (ap (read_field k) here ∙ field-back k f fit.0)
    ∙ ap (option_map (λ gs. f ∷ gs)) more

mark-back : (m : Mark) → IsMarkInTime m → read_mark (mark_text m) ≡ Some m
mark-back mark.Accepted is = refl
mark-back (mark.Late t) is = ap (option_map (λ u. mark.Late u)) (time-back t is)

-- a head from its parts
head-with : (a b c : Option ℕ) (d : Option Mark) (s n t : ℕ) (m : Mark) → a ≡ Some s → b ≡ Some n → c ≡ Some t → d ≡ Some m
    → and_then a (λ source. and_then b (λ number. and_then c (λ stamp. option_map (λ u. let h : Head = record { source = source; number = number; stamp = stamp; mark = u } in h) d)))
    ≡ Some (record { source = s; number = n; stamp = t; mark = m })
head-with a b c d s n t m is is2 is3 is4 = rw (is, is2, is3, is4) refl

-- the numbers and times of an entry are in their ranges
pub record InRange (e : Entry) : Type 0 where
  pub source : e.row.source < 2 ^ 32
  pub number : e.row.number < 2 ^ 64
  pub stamp : e.row.stamp ≤ latest
  pub mark : IsMarkInTime e.mark

abbrev head_in : Entry → Head
head_in e = record { source = e.row.source; number = e.row.number; stamp = e.row.stamp; mark = e.mark }

head-back : (e : Entry) → InRange e → read_head (entry_fields e) ≡ Some (head_in e)
head-back e is =
    head-with _ _ _ _ e.row.source e.row.number e.row.stamp e.mark
    (natural-back kind.UInt32 e.row.source (source-within e.row.source is.source))
    (natural-back kind.UInt64 e.row.number (number-within e.row.number is.number))
    (time-back e.row.stamp is.stamp)
    (mark-back e.mark is.mark)

entry-back : (ks : List Kind) (e : Entry) → InRange e → AllZip IsFieldOf ks e.row.fields → read_entry ks (entry_fields e) ≡ Some e
entry-back ks e is fit =
    let front : List (List ℕ) = decimal e.row.source ∷ decimal e.row.number ∷ time_text e.row.stamp ∷ mark_text e.mark ∷ [] in
    ap (λ o. and_then o (λ head. option_map (entry_with head) (read_fields (entry_fields e) 4 ks))) (head-back e is)
    ∙ ap (option_map (entry_with (head_in e))) (fields-back (entry_fields e) front 4 ks e.row.fields fit refl refl)

module _ (plan : Plan) where
  abbrev kinds : List Kind
  kinds = input_kinds plan.spec.streams

  in-range : (e : Entry) → IsTraceable plan e → InRange e
  in-range e is = record { source = is.source; number = is.number; stamp = is.stamp; mark = is.mark }

  pub parts-of : (e : Entry) → IsTraceable plan e → HasParts (input_kinds plan.spec.streams) e
  parts-of e is = record { source = let small = is.source in decimal-some e.row.source (omega arith); fields = is.fields }

  -- an entry that a trace can tell is the one that its line is taken for
  pub complete : (e : Entry) (body : List ℕ) → IsTraceable plan e → trace_line e ≡ body ++ (10 ∷ []) → candidate_of (input_kinds plan.spec.streams) body ≡ Some e
  complete e body is written =
      let ks = input_kinds plan.spec.streams in
      let parts = parts-of e is in
      let same : content e ≡ body = append_cancel_right (content e) body (10 ∷ []) (sym (line-content e) ∙ written) in
      ap (candidate_of (input_kinds plan.spec.streams)) (sym same)
      ∙ ap (λ b. if b then None else read_entry (input_kinds plan.spec.streams) (fields_of_line (content e))) (content-one-line (input_kinds plan.spec.streams) e parts)
      ∙ ap (read_entry (input_kinds plan.spec.streams)) (content-fields (input_kinds plan.spec.streams) e parts)
      ∙ entry-back (input_kinds plan.spec.streams) e (in-range e is) is.fields

  -- so two of them have different lines
  pub one-entry : (d e : Entry) → IsTraceable plan d → IsTraceable plan e → trace_line d ≡ trace_line e → d ≡ e
  one-entry d e is is2 same =
      let first = complete d (content e) is (same ∙ line-content e) in
      let second = complete e (content e) is2 (line-content e) in
      let both : Some d ≡ Some e = sym first ∙ second in
      cc both

-- sound: what is read can be told

pub then-parts : {X Y : Type 0} (o : Option X) (f : X → Option Y) (y : Y) → and_then o f ≡ Some y → (x : X) × (o ≡ Some x) × (f x ≡ Some y)
then-parts None f y h = absurd (cc h)
then-parts (Some x) f y h = (x, refl, h)

pub map-parts : {X Y : Type 0} (o : Option X) (f : X → Y) (y : Y) → option_map f o ≡ Some y → (x : X) × (o ≡ Some x) × (f x ≡ y)
map-parts None f y h = absurd (cc h)
map-parts (Some x) f y h = (x, refl, cc h)

pub if-parts : {X : Type 0} (b : Bool) (o : Option X) (x : X) → (if b then o else None) ≡ Some x → (b ≡ true) × (o ≡ Some x)
if-parts true o x h = (refl, h)
if-parts false o x h = absurd (cc h)

pub unless-parts : {X : Type 0} (b : Bool) (o : Option X) (x : X) → (if b then None else o) ≡ Some x → o ≡ Some x
unless-parts true o x h = absurd (cc h)
unless-parts false o x h = h

ranged : (k : Kind) (y z : ℤ) → in_range k y ≡ Some z → is_within k z ≡ true
ranged k y z h = let (hit, e) = if-parts (is_within k y) (Some y) z h in let same : y ≡ z = cc e in subst (λ x. is_within k x ≡ true) same hit

number-ranged : (k : Kind) (t : List ℕ) (z : ℤ) → read_number k t ≡ Some z → is_within k z ≡ true
number-ranged k t z h = let (y, is, rest) = then-parts (csv.read_integer t) (in_range k) z h in ranged k y z rest

natural-is : (z : ℤ) (n : ℕ) → natural z ≡ Some n → z ≡ pos n
natural-is (pos m) n h = let e : m ≡ n = cc h in ap pos e
natural-is (negsuc m) n h = absurd (cc h)

natural-ranged : (k : Kind) (t : List ℕ) (n : ℕ) → read_natural k t ≡ Some n → is_within k (pos n) ≡ true
natural-ranged k t n h =
    let (z, is, rest) = then-parts (read_number k t) natural n h in
    subst (λ x. is_within k x ≡ true) (natural-is z n rest) (number-ranged k t z is)

source-small : (n : ℕ) → is_within kind.UInt32 (pos n) ≡ true → n < 2 ^ 32
source-small n h = grind (arith, ints)

latest-of : (x n : ℕ) → up_to_latest x ≡ Some n → n ≤ latest
latest-of x n h =
    let (under, e) = if-parts (nat_le x latest) (Some x) n h in
    let same : x ≡ n = cc e in
    leb-true n latest (subst (λ y. nat_le y latest ≡ true) same under)

time-ranged : (t : List ℕ) (n : ℕ) → read_time t ≡ Some n → n ≤ latest
time-ranged t n h =
    let (a, made) = if-parts (is_time (before_first is_point t) (after_first is_point t)) (up_to_latest (nanoseconds (before_first is_point t) (after_first is_point t))) n h in
    latest-of (nanoseconds (before_first is_point t) (after_first is_point t)) n made

mark-ranged : (t : List ℕ) (m : Mark) → read_mark t ≡ Some m → IsMarkInTime m
mark-ranged [] m h = let e : mark.Accepted ≡ m = cc h in subst IsMarkInTime e tt
mark-ranged (b ∷ bs) m h = elim (cases_Bool (nat_eq b 76)) [
  | inl late ↦
      let (t, is, e) = map-parts (read_time bs) (λ u. mark.Late u) m (rw late at h) in
      subst IsMarkInTime e (time-ranged bs t is)
  | inr other ↦ let e : mark.Accepted ≡ m = cc (rw other at h) in subst IsMarkInTime e tt
]

text-fits : (t : List ℕ) → bytes_equal t (codes "#") ≡ false → is_field_text t ≡ true → IsTraceableText t
text-fits t sign h =
    let p = and_parts _ _ h in
    let q = and_parts _ _ p.1 in
    record {
      utf8 = IsUtf8-from_is_utf8 t p.0;
      some = λ e. let lt = ltb-true 0 (length t) q.0 in absurd (omega (arith, lt, ap length e));
      present = λ e. let hit : bytes_equal t (codes "#") ≡ true = ap (λ (l : List ℕ). bytes_equal l (codes "#")) e in absurd (cc);
      one_line = (absent-from 13 t (line-no-cr t (not-true (has_line_end t) q.1)), absent-from 10 t (line-no-lf t (not-true (has_line_end t) q.1)));
    }

choice-fits : (k : Kind) (t : List ℕ) (f : Field) (sign truth text : Bool) → bytes_equal t (codes "#") ≡ sign → is_bool k ≡ truth → is_text k ≡ text → choice sign truth text t k ≡ Some f → IsFieldOf k f
choice-fits k t f true truth text a b c h = let e : field.Absent ≡ f = cc h in subst (IsFieldOf k) e tt
choice-fits k t f false true text a b c h = let e : field.Bool (bytes_equal t (codes "true")) ≡ f = cc h in subst (IsFieldOf k) e b
choice-fits k t f false false true a b c h =
    let (fits, e) = if-parts (is_field_text t) (Some (field.Text t)) f h in
    let same : field.Text t ≡ f = cc e in
    subst (IsFieldOf k) same (c, text-fits t a fits)
choice-fits k t f false false false a b c h =
    let (z, is, e) = map-parts (read_number k t) (λ y. field.Int y) f h in
    subst (IsFieldOf k) e (record { integer = other-kind k b c; within = number-ranged k t z is })

field-fits : (k : Kind) (t : List ℕ) (f : Field) → read_field k t ≡ Some f → IsFieldOf k f
field-fits k t f h = choice-fits k t f _ _ _ refl refl refl h

fields-fit : (all : List (List ℕ)) (place : ℕ) (ks : List Kind) (fs : List Field) → read_fields all place ks ≡ Some fs → AllZip IsFieldOf ks fs
fields-fit all place [] fs h = let e : [] ≡ fs = cc h in subst (AllZip IsFieldOf []) e tt
fields-fit all place (k ∷ ks) fs h =
    let (f, one, rest) = then-parts (read_field k (text_at all place)) (λ g. option_map (λ gs. g ∷ gs) (read_fields all (place + 1) ks)) fs h in
    let (gs, more, e) = map-parts (read_fields all (place + 1) ks) (λ hs. f ∷ hs) fs rest in
    subst (AllZip IsFieldOf (k ∷ ks)) e (field-fits k (text_at all place) f one, fields-fit all (place + 1) ks gs more)

-- the numbers and times of a head are in their ranges
record HeadInRange (head : Head) : Type 0 where
  source : head.source < 2 ^ 32
  number : head.number < 2 ^ 64
  stamp : head.stamp ≤ latest
  mark : IsMarkInTime head.mark

number-small : (n : ℕ) → is_within kind.UInt64 (pos n) ≡ true → n < 2 ^ 64
number-small n h = grind (arith, ints)

head-fits : (fields : List (List ℕ)) (head : Head) → read_head fields ≡ Some head → HeadInRange head
head-fits fields head h =
    let (s, s-is, a) = then-parts (read_natural kind.UInt32 (text_at fields 0)) _ head h in
    let (n, n-is, b) = then-parts (read_natural kind.UInt64 (text_at fields 1)) _ head a in
    let (t, t-is, c) = then-parts (read_time (text_at fields 2)) _ head b in
    let (m, m-is, e) = map-parts (read_mark (text_at fields 3)) _ head c in
    subst HeadInRange e (record {
      source = source-small s (natural-ranged kind.UInt32 (text_at fields 0) s s-is);
      number = number-small n (natural-ranged kind.UInt64 (text_at fields 1) n n-is);
      stamp = time-ranged (text_at fields 2) t t-is;
      mark = mark-ranged (text_at fields 3) m m-is;
    })

entry-fits : (plan : Plan) (fields : List (List ℕ)) (e : Entry) → read_entry (input_kinds plan.spec.streams) fields ≡ Some e → IsTraceable plan e
entry-fits plan fields e h =
    let (head, head-is, rest) = then-parts (read_head fields) (λ g. option_map (entry_with g) (read_fields fields 4 (input_kinds plan.spec.streams))) e h in
    let (values, values-are, same) = map-parts (read_fields fields 4 (input_kinds plan.spec.streams)) (entry_with head) e rest in
    let ranges = head-fits fields head head-is in
    subst (IsTraceable plan) same (record {
      fields = fields-fit fields 4 (input_kinds plan.spec.streams) values values-are;
      source = ranges.source;
      number = ranges.number;
      stamp = ranges.stamp;
      mark = ranges.mark;
    })

-- an entry that a line is taken for can be told
pub sound : (plan : Plan) (body : List ℕ) (e : Entry) → candidate_of (input_kinds plan.spec.streams) body ≡ Some e → IsTraceable plan e
sound plan body e h = entry-fits plan (fields_of_line body) e (unless-parts (has_line_end body) (read_entry (input_kinds plan.spec.streams) (fields_of_line body)) e h)
