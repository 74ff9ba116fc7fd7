-- The steps of a worker.
use Rattle.std.proofs.Common.{◌≡◌, ◌-◌, [], ◌∷◌, Option, Some, None, Result, Ok, Err, option_map, option_to_list, length, refl, sym, ap, subst, arith}
use Rattle.lola_model.specs.declared.journal.Row.{Row}
use Rattle.lola_rows.specs.Reading.{Answers, GaveRow, IsRowOf, Passes, Reading, rest_of}
use Rattle.lola_rows.specs.Rows.{SourceRows}
use Rattle.lola_rows.specs.declared.answer.Ending.TheVariants as ending
use Rattle.lola_rows.specs.declared.answer.RowAnswer.{RowAnswer}
use Rattle.lola_rows.specs.declared.answer.RowAnswer.TheVariants as answer
use Rattle.lola_feed.specs.Feeding.{IsNext, NextRow, Working, led_by, row_or_end, without}
use Rattle.lola_feed.specs.declared.worker.SourceEnd.{SourceEnd}

-- with no row in front they are the same
led-none : (rest : Option SourceRows) → option_map (led_by None) rest ≡ rest
led-none None = refl
led-none (Some rows) = refl

-- the row in front comes first
led-passes : (row : Row) (rest : Option SourceRows) → Passes (option_map (led_by (Some row)) rest) rest (row ∷ [])
led-passes row None before is = absurd (cc is)
led-passes row (Some rest) before is =
    let e : led_by (Some row) rest ≡ before = cc in
    record { rest = rest; left_is = refl; rows_are = sym (ap (λ (r : SourceRows). r.rows) e); end_is = sym (ap (λ (r : SourceRows). r.end) e) }

-- a row that waits is next, and nothing is read for it
pub waits-next : (old : Working) (row : Row) → old.kept ≡ Some row → IsRowOf old.reader.shape (old.reader.given - 1) row → old.reader.given ≡ row.number → IsNext row old old.reader
waits-next old row kept is given = record {
  is_row = subst (λ (k : Option Row). IsRowOf old.reader.shape (without k old.reader.given) row) (sym kept) is;
  passes = subst (λ (k : Option Row). Passes (option_map (led_by k) (rest_of old.reader)) (rest_of old.reader) (row ∷ [])) (sym kept) (led-passes row (rest_of old.reader));
  given = given;
  less = let one = ap (λ (k : Option Row). length (option_to_list k)) kept in omega (arith, one);
  count = refl;
}

-- where none waits, what the reader gave is next
pub gave-next : (old : Working) (row : Row) (reader : Reading) → old.kept ≡ None → GaveRow row old.reader reader → IsNext row old reader
gave-next old row reader none gave = record {
  is_row = subst (λ (k : Option Row). IsRowOf old.reader.shape (without k old.reader.given) row) (sym none) gave.is_row;
  passes = subst (λ (k : Option Row). Passes (option_map (led_by k) (rest_of old.reader)) (rest_of reader) (row ∷ [])) (sym none)
      (subst (λ (rest : Option SourceRows). Passes rest (rest_of reader) (row ∷ [])) (sym (led-none (rest_of old.reader))) gave.passes);
  given = gave.given;
  less = let less = gave.less in omega (arith, less);
  count = gave.count;
}

-- a reader's answer is a worker's next row, or its end
abbrev pub Answered : Working → Reading → Result Row SourceEnd → Type 0
Answered old reader (Ok row) = IsNext row old reader × (reader.ended ≡ None)
Answered old reader (Err end) = NextRow (Err end) old record { reader = reader; kept = None; end = Some end }

pub answered : (old : Working) (a : RowAnswer) (reader : Reading) → old.kept ≡ None → Answers a old.reader reader → Answered old reader (row_or_end a)
answered old (answer.Row row) reader none a = (gave-next old row reader none a.0, a.1)
answered old answer.End reader none a = (ending.End, refl, none, a.0, refl, refl)
answered old (answer.Malformed kind row) reader none a = (ending.Malformed kind row, refl, none, a.0, refl, refl)
answered old answer.ReadFailed reader none a = (ending.ReadFailed, refl, none, a.0, refl, refl)
answered old answer.Memory reader none a = (ending.Memory, refl, none, a.0, refl, refl)
