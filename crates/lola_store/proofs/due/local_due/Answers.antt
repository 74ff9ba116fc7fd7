use Rattle.std.proofs.Common.{◌∙◌, ap, sym}
use Rattle.lola_store.specs.Dues.{if_time, due_of_streams}
use Rattle.lola_store.proofs.Dues.{streams_due}
use Rattle.lola_store.proofs.due.local_due.Goals as goal

pub returns : goal.returns
returns c =
    let s = c.args.s.now in
    c.due_in.ensures ∙ (ap (λ ls. if_time (due_of_streams c.args.from ls)) c.as_slice.ensures.value ∙ sym (ap if_time (streams_due c.args.from s.step s.streams.items)))
