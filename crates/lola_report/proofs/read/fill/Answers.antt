use Rattle.std.proofs.Common.{◌+◌, arith, sym, subst, take, length, length-append, length-drop, ◌∷◌, [], ap}
use Rattle.lola_report.specs.Journals.{ReadsLine}
use Rattle.lola_report.proofs.Lines.{cut-at, taken-all, taken-bad, taken-more}
use Rattle.lola_report.proofs.read.fill.Goals as goal

pub entry_of_line-requires : goal.entry_of_line-requires
entry_of_line-requires c = (cut-at c.loop-place.rest.now c.in-Some.place (sym c.in-Some.ensures)).line

pub returns-in_default-2 : goal.returns-in_default-2
returns-in_default-2 c plan inputs =
    taken-bad plan c.args.bytes.now c.loop-place.journal c.loop-place.rest.now c.in-Some.place c.loop-place.number (c.loop-place.invariant.taken plan inputs) (sym c.in-Some.ensures)
    (subst (ReadsLine plan (take (c.in-Some.place + 1) c.loop-place.rest.now)) c.in_default-2.is (c.in_ok-entry.ensures plan inputs)) c.loop-place.invariant.number

pub loop-place-preserved : goal.loop-place-preserved
loop-place-preserved c =
    let pushed = c.in_ok-push.ensures.ok in
    let rest = c.behind-rest.ensures in
    let lt = (cut-at c.loop-place.rest.now c.in-Some.place (sym c.in-Some.ensures)).within in
    record {
      number = omega (arith, c.loop-place.invariant.number, ap length pushed, length-append c.loop-place.journal (c.in-Some-2.entry ∷ []));
      left = omega (arith, c.loop-place.invariant.left, ap length rest, length-drop (c.in-Some.place + 1) c.loop-place.rest.now, lt);
      taken = λ plan inputs.
          let told = subst (ReadsLine plan (take (c.in-Some.place + 1) c.loop-place.rest.now)) c.in-Some-2.is (c.in_ok-entry.ensures plan inputs) in
          let more = taken-more plan c.args.bytes.now c.loop-place.journal c.loop-place.rest.now c.in-Some.place c.in-Some-2.entry (c.loop-place.invariant.taken plan inputs) told in
          rw (pushed, rest) more;
    }

pub returns : goal.returns
returns c plan inputs = taken-all plan c.args.bytes.now c.loop-place.journal c.loop-place.rest.now (c.loop-place.invariant.taken plan inputs) (sym c.in_default.ensures)
