use Rattle.std.proofs.Common.{◌<◌, arith, length}
use Rattle.std.specs.List.{slice_index_or}
use Rattle.std.proofs.lemmas.Grind.{get_or_default_zero}
use Rattle.lola_pacing.proofs.FlagLemmas.{item_in, flags_more}
use Rattle.lola_pacing.proofs.search.flag.Goals as goal

pub flag_one-requires : goal.flag_one-requires
flag_one-requires c =
    let within : c.loop-stream.stream-index < length c.args.streams.now = omega arith in
    let low = c.requires (slice_index_or c.args.streams.now c.loop-stream.stream-index 0) (item_in c.args.streams.now c.loop-stream.stream-index within) in
    omega (arith, low, c.loop-stream.auto.flags)

pub loop-stream-preserved : goal.loop-stream-preserved
loop-stream-preserved c =
    let streams = c.args.streams.now in
    let i = c.loop-stream.stream-index in
    let within : i < length streams = omega arith in
    flags_more c.args.own streams i (slice_index_or streams i 0) c.args.flags.now c.loop-stream.flags c.flag_one.new.flags c.args.noted.now.items c.loop-stream.noted.items c.flag_one.new.noted.items within
    (get_or_default_zero streams i (slice_index_or streams i 0) within) c.loop-stream.invariant c.in_ok-flag_one.ensures
