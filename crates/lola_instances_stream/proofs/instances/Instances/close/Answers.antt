use Rattle.std.proofs.Common.{◌∙◌, ap, sym, remove, arith}
use Rattle.lola_instances_one.specs.Holdings.{Holdings}
use Rattle.lola_instances_one.specs.Dues.{is_timed}
use Rattle.lola_instances_stream.specs.Births.{births_of}
use Rattle.lola_instances_stream.specs.Cells.{Line}
use Rattle.lola_instances_stream.proofs.Lists.{remove_map}
use Rattle.lola_instances_stream.proofs.instances.Instances.close.Goals as goal

pub invariant_of-self : goal.invariant_of-self
invariant_of-self c =
    let dated = c.self.invariant.2 in
    let i = c.args.index in
    let items = ap (λ (l : Line). l.items) c.remove.ensures.rest in (
      c.self.invariant.0,
      λ kept.
          let room = c.self.invariant.1 (sym (ap (λ (l : Line). l.is_kept) c.remove.ensures.rest) ∙ kept) in
          omega (arith, c.remove.ensures.room),
      record {
        births = λ timed.
            let was = ap is_timed (sym c.remove-2.ensures.rates) ∙ timed in
            c.remove-2.ensures.births was
            ∙ ap (λ bs. remove bs i) (dated.births was)
            ∙ sym (remove_map (λ (s : Holdings). s.born) c.self.inside.slots.items i)
            ∙ ap births_of (sym items);
        room = λ timed.
            let room = dated.room (ap is_timed (sym c.remove-2.ensures.rates) ∙ timed) in
            omega (arith, c.remove-2.ensures.room);
      },
    )
