use Rattle.lola_pacing.proofs.FlagLemmas.{flags_one}
use Rattle.lola_pacing.proofs.search.flag_one.Goals as goal

pub returns : goal.returns
returns c = rw c.in_ok-push.ensures.items (flags_one c.args.own c.args.flags.now c.args.stream c.args.noted.now.items c.if-stream-own.false c.requires c.if-flags-stream.false)
