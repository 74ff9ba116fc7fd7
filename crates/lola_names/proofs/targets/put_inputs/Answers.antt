use Rattle.std.proofs.Common.{refl, arith, ap₂, ◌∙◌, ◌+◌, ◌++◌, ℕ, drop}
use Rattle.lola_names_refused.specs.Table.{meaning_in}
use Rattle.lola_names.specs.Targets.{input_targets}
use Rattle.lola_names.specs.declared.targets.Target.TheVariants as target
use Rattle.lola_names.proofs.TableLemmas.{puts_name, inputs_turn, puts_end, puts_start}
use Rattle.lola_names.proofs.targets.put_inputs.Goals as goal

pub loop-input-init : goal.loop-input-init
loop-input-init c = record {
  table = puts_start c.args.table.now (input_targets c.args.counts.streams c.args.counts.inputs c.args.inputs.now);
  streams = omega arith;
  numbers = omega arith;
}

pub loop-input-preserved : goal.loop-input-preserved
loop-input-preserved c =
    let l = c.loop-input in
    let turn =
    inputs_turn l.table c.put.new.self (c.args.table.now ++ input_targets c.args.counts.streams c.args.counts.inputs c.args.inputs.now) l.stream l.number l.input-index c.args.inputs.now c.input-item.result
    c.loop-input-test.true c.input-item.is (puts_name l.table c.put.new.self c.input-item.result.name (target.Input l.stream l.number) c.in_ok-put.ensures) l.invariant.table in
    record {
      table =
          λ rest text. ap₂
          (λ (s : ℕ) (n : ℕ). meaning_in (c.put.new.self ++ (input_targets s n (drop (l.input-index + 1) c.args.inputs.now) ++ rest)) text)
          c.in_ok-stream.ensures c.in_ok-number.ensures
          ∙ turn rest text;
      streams = omega (arith, c.in_ok-stream.ensures);
      numbers = omega (arith, c.in_ok-number.ensures);
    }

pub returns-clause-table : goal.returns-clause-table
returns-clause-table c =
    puts_end (input_targets c.loop-input.stream c.loop-input.number) c.args.inputs.now c.loop-input.input-index c.loop-input.table c.args.table.now
    (input_targets c.args.counts.streams c.args.counts.inputs c.args.inputs.now) refl c.loop-input-test.false c.loop-input.invariant.table
