-- One field more, and then all.
use Rattle.std.proofs.Common.{◌≡◌, ◌∙◌, ◌+◌, ap, sym, length, take, arith}
use Rattle.std.proofs.lemmas.List.{take_all}
use Rattle.lola_engine.proofs.Interned.{held-on}
use Rattle.lola_engine.proofs.RowsRead.{of-inputs, one-read, read-as}
use Rattle.lola_engine.proofs.Sweeping.{one_adds}
use Rattle.lola_engine.proofs.fields.read_fields.Goals as goal

pub loop-place-preserved : goal.loop-place-preserved
loop-place-preserved c =
    let put = c.in_ok-read_field.ensures.ok in
    record {
      read = one-read c.loop-place.texts.held c.read_field.new.texts.held (take c.loop-place.place c.loop-place.inputs.items) (take (c.loop-place.place + 1) c.read_field.new.inputs.items) c.args.fields.now c.loop-place.place put.outcome c.index-fields-place.result
          (omega arith) c.index-fields-place.is put.pushed c.in_ok-read_field.ensures.held c.loop-place.invariant.read put.is;
      there = c.in_ok-read_field.ensures.there;
      adds = one_adds c.args.fields.now c.loop-place.place c.index-fields-place.result c.args.texts.now.held c.loop-place.texts.held c.read_field.new.texts.held
          (omega arith) c.index-fields-place.is c.loop-place.invariant.adds c.in_ok-read_field.ensures.adds;
      table = c.in_ok-read_field.ensures.table;
      held = held-on c.args.texts.now.held c.loop-place.texts.held c.read_field.new.texts.held c.loop-place.invariant.held c.in_ok-read_field.ensures.held;
      given = omega (arith, c.in_ok-read_field.ensures.given);
    }

pub returns-clause-ok : goal.returns-clause-ok
returns-clause-ok c =
    let all = take_all c.loop-place.place c.args.fields.now (omega arith) in
    let end : c.loop-place.place ≡ length c.args.fields.now = omega arith in
    let front : c.truncate.new.self.items ≡ take c.loop-place.place c.loop-place.inputs.items = c.truncate.ensures.items ∙ ap (λ n. take n c.loop-place.inputs.items) (sym end) in
    rw front (read-as c.loop-place.texts.held (take c.loop-place.place c.loop-place.inputs.items) c.args.fields.now (rw all at c.loop-place.invariant.read))

pub returns-clause-kinds : goal.returns-clause-kinds
returns-clause-kinds c =
    let all = take_all c.loop-place.place c.args.fields.now (omega arith) in
    let end : c.loop-place.place ≡ length c.args.fields.now = omega arith in
    let front : c.truncate.new.self.items ≡ take c.loop-place.place c.loop-place.inputs.items = c.truncate.ensures.items ∙ ap (λ n. take n c.loop-place.inputs.items) (sym end) in
    rw front (of-inputs c.loop-place.texts.held c.args.plan.now.spec.streams (take c.loop-place.place c.loop-place.inputs.items) c.args.fields.now c.requires.kinds (rw all at c.loop-place.invariant.read))

pub returns-clause-adds : goal.returns-clause-adds
returns-clause-adds c =
    let all = take_all c.loop-place.place c.args.fields.now (omega arith) in
    rw all at c.loop-place.invariant.adds
