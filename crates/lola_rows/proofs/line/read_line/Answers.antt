use Rattle.std.proofs.Common.{arith, ◌<◌, sym, ◌∙◌, length}
use Rattle.csv.specs.Records.{fields_of}
use Rattle.lola_rows.proofs.LineFacts.{last-field, line-begins, next-field, none-of-empty, not-empty}
use Rattle.lola_rows.proofs.line.read_line.Goals as goal

pub returns-then-is_empty : goal.returns-then-is_empty
returns-then-is_empty c = c.clear.ensures.fields ∙ sym (none-of-empty c.args.line.now c.if-is_empty.ensures)

pub loop-end-init : goal.loop-end-init
loop-end-init c = record {
  within = omega arith;
  fresh = c.clear.ensures.partial;
  reads = rw c.clear.ensures.fields (line-begins c.args.line.now (not-empty c.args.line.now c.if-is_empty.ensures) c.requires);
}

pub returns-then-end-line : goal.returns-then-end-line
returns-then-end-line c =
    let (field, more, is) = c.in_ok-end.ensures.field in
    more ∙ sym (last-field c.args.line.now field (fields_of c.loop-end.fields) c.loop-end.start c.in_ok-end.end (omega arith) c.loop-end.invariant.reads is)

pub loop-end-preserved : goal.loop-end-preserved
loop-end-preserved c =
    let (field, more, is) = c.in_ok-end.ensures.field in
    let bounds = c.in_ok-end.ensures.bounds in
    let lt : c.in_ok-end.end < length c.args.line.now = omega arith in
    record {
      within = omega arith;
      fresh = c.in_ok-end.ensures.fresh;
      reads = rw more (next-field c.args.line.now field (fields_of c.loop-end.fields) c.loop-end.start c.in_ok-end.end lt (c.in_ok-end.ensures.comma lt) c.loop-end.invariant.reads is);
    }
