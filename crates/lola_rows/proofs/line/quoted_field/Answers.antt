use Rattle.std.proofs.Common.{arith, ◌≡◌, ◌<◌, ◌+◌, length, false, true, not, get_or, sym, ap, ◌∙◌, ◌++◌, ◌∷◌, [], refl, ◌-◌, take, drop}
use Rattle.std.proofs.lemmas.Bool.{ne_eqb}
use Rattle.lola_rows.specs.Line.{is_quote}
use Rattle.lola_rows.proofs.LineFacts.{quoting-as, quoting-start, quoting-quote, quoting-double, quoting-end}
use Rattle.lola_rows.proofs.Searches.{quoting-to}
use Rattle.lola_rows.proofs.line.quoted_field.Goals.{then-not-inside+in_ok-push, else-not-inside, else-loop-at-test, then-loop-at-test+else-byte-eq34+else-inside}
use Rattle.lola_rows.proofs.line.quoted_field.Goals as goal

pub loop-at-init : goal.loop-at-init
loop-at-init c = record {
  within = omega arith;
  past = omega arith;
  reads = quoting-as c.args.line.now c.args.start (c.args.start + 1) true true [] c.clear.new.self.items refl c.clear.ensures.items (quoting-start c.args.line.now c.args.start c.requires.within c.requires.quote);
}

pub loop-at-preserved-then-byte-eq34 : goal.loop-at-preserved-then-byte-eq34
loop-at-preserved-then-byte-eq34 c =
    let line = c.args.line.now in
    let s = c.args.start in
    let at = c.loop-at.at in
    let field = c.loop-at.field.items in
    let reads = c.loop-at.invariant.reads in
    record {
      within = omega arith;
      past = omega arith;
      reads = elim c.if-not-inside.branch [
        | then-not-inside+in_ok-push v ↦
            quoting-as line s (at + 1) true (not c.loop-at.inside) (field ++ (get_or line at 0 ∷ [])) c.if-not-inside.field.items (ap not v.if-not-inside.true) (ap (λ f. f.items) v.field-is ∙ v.in_ok-push.ensures.items)
            (quoting-double line field s at c.loop-at-test.true c.if-byte-eq34.true (quoting-as line s at c.loop-at.inside false field field (sym v.if-not-inside.true) refl reads))
        | else-not-inside v ↦
            quoting-as line s (at + 1) false (not c.loop-at.inside) field c.if-not-inside.field.items (ap not v.if-not-inside.false) (ap (λ f. f.items) v.field-is)
            (quoting-quote line field s at c.loop-at-test.true c.if-byte-eq34.true (quoting-as line s at c.loop-at.inside true field field (sym v.if-not-inside.false) refl reads))
      ];
    }

pub loop-at-preserved : goal.loop-at-preserved
loop-at-preserved c =
    let line = c.args.line.now in
    let s = c.args.start in
    let at = c.loop-at.at in
    let end = c.in_ok-at.at in
    let field = c.loop-at.field.items in
    let bounds = c.in_ok-at.ensures.bounds in
    let before = quoting-as line s at c.loop-at.inside true field field (sym c.if-inside.true) refl c.loop-at.invariant.reads in
    record {
      within = bounds.1;
      past = omega (arith, bounds.0);
      reads = quoting-as line s end true c.loop-at.inside (field ++ take (end - at) (drop at line)) c.copy_run.new.field.items c.if-inside.true c.in_ok-at.ensures.field
          (quoting-to line field s at end (omega (arith, bounds.0)) bounds.1 c.in_ok-at.ensures.run before);
    }

pub returns-clause-field : goal.returns-clause-field
returns-clause-field c =
    let out : c.loop-at.at < length c.args.line.now → (c.loop-at.inside ≡ false) × (is_quote (get_or c.args.line.now c.loop-at.at 0) ≡ false) =
    elim c.loop-at-test.branch [
      | else-loop-at-test w ↦ λ lt. absurd (omega arith)
      | then-loop-at-test+else-byte-eq34+else-inside w ↦ λ lt. (w.if-inside.false, ne_eqb _ _ w.if-byte-eq34.false)
    ] in
    rw c.in_ok-extend_from_slice.ensures.items (quoting-end c.args.line.now c.loop-at.field.items c.args.start c.loop-at.at c.comma_from-end.result c.loop-at.inside c.loop-at.invariant.within out
    c.loop-at.invariant.reads c.comma_from-end.ensures.bounds.0 c.comma_from-end.ensures.run c.requires.one)
