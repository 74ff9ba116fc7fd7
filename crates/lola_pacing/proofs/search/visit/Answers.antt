use Rattle.std.proofs.Common.{arith}
use Rattle.std.specs.List.{Contains}
use Rattle.lola_pacing.proofs.FlagLemmas.{flagged_low, search_begun, search_more, search_ended, nothing_left}
use Rattle.std.proofs.lemmas.List.Elements.{Contains-push}
use Rattle.lola_pacing.proofs.search.visit.Goals as goal

pub flag-requires : goal.flag-requires
flag-requires c n h = omega (arith, c.requires.first n h, c.requires.flags)

pub loop-stream-init : goal.loop-stream-init
loop-stream-init c =
    search_begun c.args.lists.now c.args.own c.args.first.now c.args.flags.now c.flag.new.flags c.flag.new.noted.items c.requires.blank (rw c.requires.noted at c.in_ok-flag.ensures)

pub flag_behind-requires-clause-stream : goal.flag_behind-requires-clause-stream
flag_behind-requires-clause-stream c =
    let listed : Contains c.loop-stream.noted.items c.in-Some.stream = rw c.in-Some.ensures.items (Contains-push c.pop.new.self.items c.in-Some.stream) in
    let low = flagged_low c.loop-stream.flags c.in-Some.stream (c.loop-stream.invariant.listed c.in-Some.stream listed) in
    omega (arith, low, c.requires.flags, c.loop-stream.auto.flags)

pub flag_behind-requires-clause-within : goal.flag_behind-requires-clause-within
flag_behind-requires-clause-within c n h = omega (arith, c.requires.within c.in-Some.stream n h, c.requires.flags, c.loop-stream.auto.flags)

pub loop-stream-preserved : goal.loop-stream-preserved
loop-stream-preserved c =
    search_more c.args.lists.now c.args.own c.args.first.now c.loop-stream.flags c.flag_behind.new.flags c.pop.new.self.items c.flag_behind.new.noted.items c.in-Some.stream
    (rw c.in-Some.ensures.items at c.loop-stream.invariant) c.in_ok-flag_behind.ensures

pub returns : goal.returns
returns c =
    let none = c.in_default.ensures in
    let left = nothing_left c.loop-stream.noted.items c.pop.new.self.items _ none.variant.1 none.items none.rest in
    search_ended c.args.lists.now c.args.own c.args.first.now c.loop-stream.flags (rw left at c.loop-stream.invariant)
