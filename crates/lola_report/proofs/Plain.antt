-- Texts without LF, and the lines that they make.
use Rattle.std.proofs.Common.{◌≡◌, ℕ, ℤ, List, [], ◌∷◌, ◌++◌, Bool, true, cond, Option, Some, None, codes, refl, sym, ap, ◌∙◌, append_assoc, flat_map, map}
use Rattle.std.specs.Prelude.{nat_eq, not, IsTrue}
use Rattle.std.specs.List.{list_all}
use Rattle.std.specs.Fmt.{decimal}
use Rattle.std.proofs.lemmas.Bool.{and_from, and_parts, cond_both}
use Rattle.std.proofs.lemmas.List.Folds.{list_all-append}
use Rattle.csv.specs.Writing.{default_writer}
use Rattle.csv.specs.Writing as csv
use Rattle.lola_value.specs.declared.text.Field.{Field}
use Rattle.lola_value.specs.declared.text.Field.TheVariants as field
use Rattle.lola_value.specs.Numbers.{integer_text}
use Rattle.lola_value.specs.Times.{time_text}
use Rattle.lola_model.specs.declared.journal.Entry.{Entry}
use Rattle.lola_model.specs.declared.journal.Mark.{Mark}
use Rattle.lola_model.specs.Texts.{escaped, quoted, value_text, commas, params_text}
use Rattle.lola_model.specs.Trace.{entry_fields, field_bytes, mark_text}
use Rattle.lola_report.specs.Lines.{is_not_lf, has_no_lf, IsLine, is_plain}
use Rattle.lola_report.proofs.Mild.{mild_plain, decimal_mild, time_mild, integer_mild, bool_mild, mark_mild}

-- a text without LF
abbrev pub Plain : List ℕ → Type 0
Plain t = IsTrue (has_no_lf t)

-- of two texts
pub both : (s t : List ℕ) → Plain s → Plain t → Plain (s ++ t)
both s t p q = list_all-append is_not_lf s t ∙ and_from (has_no_lf s) (has_no_lf t) p q

-- of a byte and a text
pub byte_and : (b : ℕ) (t : List ℕ) → is_not_lf b ≡ true → Plain t → Plain (b ∷ t)
byte_and b t p q = and_from (is_not_lf b) (has_no_lf t) p q

-- numbers, times and truth values
pub decimal_plain : (n : ℕ) → Plain (decimal n)
decimal_plain n = mild_plain (decimal n) (decimal_mild n)

pub time_plain : (t : ℕ) → Plain (time_text t)
time_plain t = mild_plain (time_text t) (time_mild t)

pub integer_plain : (z : ℤ) → Plain (integer_text z)
integer_plain z = mild_plain (integer_text z) (integer_mild z)

bool_plain : (b : Bool) → Plain (cond b (codes "true") (codes "false"))
bool_plain b = mild_plain (cond b (codes "true") (codes "false")) (bool_mild b)

-- a line feed is spelled by other bytes
escaped_plain : (b : ℕ) → Plain (escaped b)
escaped_plain b =
    let P : Option ℕ → Type 0 = λ (o : Option ℕ). Plain (elim o [ None ↦ b ∷ [] | Some c ↦ 92 ∷ c ∷ [] ]) in
    cond_both (nat_eq b 34) _ _ P (λ _. refl) (λ _.
    cond_both (nat_eq b 92) _ _ P (λ _. refl) (λ _.
    cond_both (nat_eq b 10) _ _ P (λ _. refl) (λ other.
    cond_both (nat_eq b 13) _ _ P (λ _. refl) (λ _.
    cond_both (nat_eq b 9) _ _ P (λ _. refl) (λ _. byte_and b [] (ap not other) refl)))))

escapes_plain : (t : List ℕ) → Plain (flat_map escaped t)
escapes_plain [] = refl
escapes_plain (b ∷ t) = both (escaped b) (flat_map escaped t) (escaped_plain b) (escapes_plain t)

pub quoted_plain : (t : List ℕ) → Plain (quoted t)
quoted_plain t = byte_and 34 (flat_map escaped t ++ 34 ∷ []) refl (both (flat_map escaped t) (34 ∷ []) (escapes_plain t) refl)

pub value_plain : (v : Field) → Plain (value_text v)
value_plain field.Absent = refl
value_plain (field.Bool b) = bool_plain b
value_plain (field.Int z) = integer_plain z
value_plain (field.Text t) = quoted_plain t

commas_plain : (p : Field) (ps : List Field) → Plain (commas (p ∷ ps))
commas_plain p [] = value_plain p
commas_plain p (q ∷ ps) = both (value_text p) (44 ∷ commas (q ∷ ps)) (value_plain p) (byte_and 44 (commas (q ∷ ps)) refl (commas_plain q ps))

pub params_plain : (ps : List Field) → Plain (params_text ps)
params_plain [] = refl
params_plain (p ∷ ps) = byte_and 40 (commas (p ∷ ps) ++ 41 ∷ []) refl (both (commas (p ∷ ps)) (41 ∷ []) (commas_plain p ps) refl)

-- between quotes a double quote stands twice
inside_plain : (t : List ℕ) → Plain t → Plain (csv.escaped default_writer t)
unfolding csv.escaped
inside_plain [] p = refl
inside_plain (b ∷ t) p =
    let parts = and_parts (is_not_lf b) (has_no_lf t) p in
    let rest = inside_plain t parts.1 in
    let once = byte_and b (csv.escaped default_writer t) parts.0 rest in
    cond_both (nat_eq b 34) (34 ∷ b ∷ csv.escaped default_writer t) (b ∷ csv.escaped default_writer t) Plain
    (λ _. byte_and 34 (b ∷ csv.escaped default_writer t) refl once) (λ _. once)

-- a field of a row, in quotes or not
field_plain : (t : List ℕ) → Plain t → Plain (csv.field_text default_writer t)
field_plain t p =
    let inside = both (csv.escaped default_writer t) (34 ∷ []) (inside_plain t p) refl in
    cond_both (csv.needs_quotes default_writer t) (34 ∷ (csv.escaped default_writer t ++ 34 ∷ [])) t Plain
    (λ _. byte_and 34 (csv.escaped default_writer t ++ 34 ∷ []) refl inside) (λ _. p)

fields_plain : (ts : List (List ℕ)) → list_all has_no_lf ts ≡ true → Plain (csv.fields_text default_writer ts)
unfolding csv.fields_text
fields_plain [] p = refl
fields_plain (t ∷ ts) p =
    let parts = and_parts (has_no_lf t) (list_all has_no_lf ts) p in
    byte_and 44 (csv.field_text default_writer t ++ csv.fields_text default_writer ts) refl
    (both (csv.field_text default_writer t) (csv.fields_text default_writer ts) (field_plain t parts.0) (fields_plain ts parts.1))

-- a row without its end
pub row_plain : (ts : List (List ℕ)) → list_all has_no_lf ts ≡ true → Plain (csv.row_body default_writer ts)
row_plain [] p = refl
row_plain (t ∷ ts) p =
    let parts = and_parts (has_no_lf t) (list_all has_no_lf ts) p in
    both (csv.field_text default_writer t) (csv.fields_text default_writer ts) (field_plain t parts.0) (fields_plain ts parts.1)

-- the fields of an entry
bytes_plain : (f : Field) → is_plain f ≡ true → Plain (field_bytes f)
bytes_plain field.Absent p = refl
bytes_plain (field.Bool b) p = bool_plain b
bytes_plain (field.Int z) p = integer_plain z
bytes_plain (field.Text t) p = p

each_plain : (fs : List Field) → list_all is_plain fs ≡ true → list_all has_no_lf (map field_bytes fs) ≡ true
each_plain [] p = refl
each_plain (f ∷ fs) p =
    let parts = and_parts (is_plain f) (list_all is_plain fs) p in
    and_from (has_no_lf (field_bytes f)) (list_all has_no_lf (map field_bytes fs)) (bytes_plain f parts.0) (each_plain fs parts.1)

mark_plain : (m : Mark) → Plain (mark_text m)
mark_plain m = mild_plain (mark_text m) (mark_mild m)

pub entry_plain : (e : Entry) → list_all is_plain e.row.fields ≡ true → list_all has_no_lf (entry_fields e) ≡ true
entry_plain e p =
    and_from _ _ (decimal_plain e.row.source)
    (and_from _ _ (decimal_plain e.row.number)
    (and_from _ _ (time_plain e.row.stamp)
    (and_from _ _ (mark_plain e.mark) (each_plain e.row.fields p))))

-- a text without LF, and LF
pub ended : (t : List ℕ) → Plain t → IsLine (t ++ 10 ∷ [])
ended t p = record { body = t; ended = refl; plain = p }

-- a text without LF before a line
pub before : (t u : List ℕ) → Plain t → IsLine u → IsLine (t ++ u)
before t u p line = record {
  body = t ++ line.body;
  ended = ap (λ (l : List ℕ). t ++ l) line.ended ∙ sym (append_assoc t line.body (10 ∷ []));
  plain = both t line.body p line.plain;
}

-- a byte before a line
pub byte_before : (b : ℕ) (u : List ℕ) → is_not_lf b ≡ true → IsLine u → IsLine (b ∷ u)
byte_before b u p line = record {
  body = b ∷ line.body;
  ended = ap (λ (l : List ℕ). b ∷ l) line.ended;
  plain = byte_and b line.body p line.plain;
}
