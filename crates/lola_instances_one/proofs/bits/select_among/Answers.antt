-- What is passed counts something, so the places of its part are there; and what is before it is what is before these.
use Rattle.std.proofs.Common.{arith}
use Rattle.lola_instances_one.specs.Bits.{bit}
use Rattle.lola_instances_one.proofs.Parts.{before, inside, whole}
use Rattle.lola_instances_one.proofs.bits.select_among.Goals as goal

pub place_past-top-requires-clause-enough : goal.place_past-top-requires-clause-enough
place_past-top-requires-clause-enough c =
    let a = whole (λ n. n) 64 c.args.tops.now c.args.counts.now c.requires.counts.of_counts in
    let b = whole bit 64 c.args.counts.now c.args.bits.now c.requires.counts.of_bits in
    omega (arith, c.requires.before)

pub first_of-requires : goal.first_of-requires
first_of-requires c =
    let top = c.place_past-top.result.0 in
    let there = inside (λ n. n) 64 c.args.tops.now c.args.counts.now c.requires.counts.of_counts top (omega (arith, c.place_past-top.ensures.rest)) in
    omega arith

pub place_past-part-requires-clause-from : goal.place_past-part-requires-clause-from
place_past-part-requires-clause-from c =
    let top = c.place_past-top.result.0 in
    let there = inside (λ n. n) 64 c.args.tops.now c.args.counts.now c.requires.counts.of_counts top (omega (arith, c.place_past-top.ensures.rest)) in
    omega arith

pub place_past-part-requires-clause-enough : goal.place_past-part-requires-clause-enough
place_past-part-requires-clause-enough c =
    let top = c.place_past-top.result.0 in
    let front = before (λ n. n) 64 c.args.tops.now c.args.counts.now c.requires.counts.of_counts top c.first_of.result c.first_of.ensures in
    let b = whole bit 64 c.args.counts.now c.args.bits.now c.requires.counts.of_bits in
    omega (arith, c.place_past-top.ensures.before, c.requires.before)

pub first_of-requires-2 : goal.first_of-requires-2
first_of-requires-2 c =
    let part = c.place_past-part.result.0 in
    let there = inside bit 64 c.args.counts.now c.args.bits.now c.requires.counts.of_bits part (omega (arith, c.place_past-part.ensures.rest)) in
    omega arith

pub bit_past-requires-clause-from : goal.bit_past-requires-clause-from
bit_past-requires-clause-from c =
    let part = c.place_past-part.result.0 in
    let there = inside bit 64 c.args.counts.now c.args.bits.now c.requires.counts.of_bits part (omega (arith, c.place_past-part.ensures.rest)) in
    omega arith

pub bit_past-requires-clause-enough : goal.bit_past-requires-clause-enough
bit_past-requires-clause-enough c =
    let top = c.place_past-top.result.0 in
    let part = c.place_past-part.result.0 in
    let front = before (λ n. n) 64 c.args.tops.now c.args.counts.now c.requires.counts.of_counts top c.first_of.result c.first_of.ensures in
    let front' = before bit 64 c.args.counts.now c.args.bits.now c.requires.counts.of_bits part c.first_of-2.result c.first_of-2.ensures in
    omega (arith, c.place_past-top.ensures.before, c.place_past-part.ensures.before, c.requires.before)

pub returns-clause-rank : goal.returns-clause-rank
returns-clause-rank c =
    let top = c.place_past-top.result.0 in
    let part = c.place_past-part.result.0 in
    let front = before (λ n. n) 64 c.args.tops.now c.args.counts.now c.requires.counts.of_counts top c.first_of.result c.first_of.ensures in
    let front' = before bit 64 c.args.counts.now c.args.bits.now c.requires.counts.of_bits part c.first_of-2.result c.first_of-2.ensures in
    omega (arith, c.place_past-top.ensures.before, c.place_past-part.ensures.before, c.bit_past.ensures.before)
