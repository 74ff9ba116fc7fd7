-- What a writer of csv has written of a row, field by field.
use Rattle.std.proofs.Common.{◌≡◌, ◌==◌, ◌||◌, ◌+◌, ◌-◌, ◌^◌, ℕ, zero, suc, List, [], ◌∷◌, ◌++◌, Bool, true, false, refl, sym, ap, ◌∙◌, arith, length, length-append}
use Rattle.std.specs.Prelude.{if◌then◌else◌, not, min}
use Rattle.std.proofs.lemmas.Bool.{ne_eqb}
use Rattle.csv.specs.Writing.{default_writer, field_text, fields_written, has_written, next_sep, row_text, tail_text, writer_setup}
use Rattle.csv.proofs.WriteFacts.{blank-more, row-more}
use Rattle.lola_report.specs.Rows.{HasFields, RowWriter, counted, written}

-- that a count has an upper end cannot be seen of none and of one
none_counted : (n : ℕ) → (counted n == 0) ≡ (n == 0)
none_counted zero = refl
none_counted (suc n) = ne_eqb (counted (suc n)) 0 (λ e. absurd (omega arith)) ∙ sym (ne_eqb (suc n) 0 (λ e. absurd (omega arith)))

one_counted : (n : ℕ) → (counted n == 1) ≡ (n == 1)
one_counted zero = refl
one_counted (suc zero) = refl
one_counted (suc (suc n)) = ne_eqb (counted (suc (suc n))) 1 (λ e. absurd (omega arith)) ∙ sym (ne_eqb (suc (suc n)) 1 (λ e. absurd (omega arith)))

sep_counted : (n : ℕ) → next_sep default_writer (counted n) ≡ next_sep default_writer n
sep_counted n = ap (λ (b : Bool). if b then [] else 44 ∷ []) (none_counted n)

few_counted : (n : ℕ) → ((counted n == 0) || (counted n == 1)) ≡ ((n == 0) || (n == 1))
few_counted n = ap (λ b. b || (counted n == 1)) (none_counted n) ∙ ap (λ b. (n == 0) || b) (one_counted n)

-- one field more
pub field_more : (v w : RowWriter) (fields : List (List ℕ)) (bytes : List ℕ) → HasFields v fields
    → writer_setup w ≡ writer_setup v
    → written w ≡ written v ++ (next_sep (writer_setup v) (fields_written v) ++ field_text (writer_setup v) bytes)
    → fields_written w ≡ min (fields_written v + 1) (2 ^ 64 - 1)
    → (has_written v ≡ false → has_written w ≡ not (length (field_text (writer_setup v) bytes) == 0))
    → (has_written v ≡ true → has_written w ≡ true)
    → HasFields w (fields ++ bytes ∷ [])
field_more v w fields bytes has same text count wrote stays =
    let size : length (fields ++ bytes ∷ []) ≡ length fields + 1 = length-append fields (bytes ∷ []) in
    record {
      setup = same ∙ has.setup;
      text = text ∙ rw (has.setup, has.text, has.count, sep_counted (length fields)) (sym (row-more default_writer fields bytes));
      count = count ∙ rw (has.count, size) (omega arith);
      blank = rw size (blank-more default_writer fields bytes (has_written v) (has_written w) has.blank (rw has.setup at wrote) stays);
    }

-- the end of the row
pub row_ended : (v w : RowWriter) (fields : List (List ℕ)) → HasFields v fields
    → written w ≡ written v ++ tail_text (writer_setup v) (has_written v) (fields_written v)
    → written w ≡ row_text default_writer fields
row_ended v w fields has text = text ∙ rw (has.setup, has.text, has.count, few_counted (length fields), has.blank) refl
