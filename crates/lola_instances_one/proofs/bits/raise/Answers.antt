-- The bit, its count and the count of its counts change by one.
use Rattle.std.proofs.Common.{◌+◌, ◌-◌, ◌*◌, ◌/◌, true, false, ap, arith}
use Rattle.std.proofs.lemmas.List.{get_or_read}
use Rattle.lola_instances_one.specs.Bits.{bit}
use Rattle.lola_instances_one.proofs.Parts.{bit_small, changed, counts_small, covered, small}
use Rattle.lola_instances_one.proofs.bits.raise.Goals as goal

pub index_mut-requires-2 : goal.index_mut-requires-2
index_mut-requires-2 c =
    let bits = covered bit 64 c.args.counts.now.items c.args.bits.now.items c.requires.counts.of_bits in
    let place = c.requires.place in
    omega arith

pub overflow_add-index_mut : goal.overflow_add-index_mut
overflow_add-index_mut c =
    let bits = c.args.bits.now.items in
    let counts = c.args.counts.now.items in
    let part = c.args.place / 64 in
    let there = covered bit 64 counts bits c.requires.counts.of_bits in
    let place = c.requires.place in
    let is = get_or_read counts part c.index_mut-2.result.now (omega arith) c.index_mut-2.ensures.value 0 in
    let few = small bit 1 64 counts bits c.requires.counts.of_bits (bit_small bits) part in
    omega arith

pub index_mut-requires-3 : goal.index_mut-requires-3
index_mut-requires-3 c =
    let bits = covered bit 64 c.args.counts.now.items c.args.bits.now.items c.requires.counts.of_bits in
    let counts = covered (λ n. n) 64 c.args.tops.now.items c.args.counts.now.items c.requires.counts.of_counts in
    let place = c.requires.place in
    omega arith

pub overflow_add-index_mut-2 : goal.overflow_add-index_mut-2
overflow_add-index_mut-2 c =
    let bits = c.args.bits.now.items in
    let counts = c.args.counts.now.items in
    let tops = c.args.tops.now.items in
    let part = c.args.place / 64 in
    let there = covered bit 64 counts bits c.requires.counts.of_bits in
    let there' = covered (λ n. n) 64 tops counts c.requires.counts.of_counts in
    let place = c.requires.place in
    let is = get_or_read tops (part / 64) c.index_mut-3.result.now (omega arith) c.index_mut-3.ensures.value 0 in
    let few = small bit 1 64 counts bits c.requires.counts.of_bits (bit_small bits) in
    let many = small (λ n. n) 64 64 tops counts c.requires.counts.of_counts (counts_small counts few) (part / 64) in
    omega arith

pub returns-clause-counts : goal.returns-clause-counts
returns-clause-counts c =
    let bits = c.args.bits.now.items in
    let counts = c.args.counts.now.items in
    let tops = c.args.tops.now.items in
    let place = c.args.place in
    let part = place / 64 in
    let top = part / 64 in
    let there = covered bit 64 counts bits c.requires.counts.of_bits in
    let there' = covered (λ n. n) 64 tops counts c.requires.counts.of_counts in
    let within = c.requires.place in
    let is = get_or_read counts part c.index_mut-2.result.now (omega arith) c.index_mut-2.ensures.value 0 in
    let is' = get_or_read tops top c.index_mut-3.result.now (omega arith) c.index_mut-3.ensures.value 0 in
    let was = ap bit c.requires.clear in
    let some = c.requires.counts in
    record {
      of_bits = changed bit 64 counts bits c.requires.counts.of_bits part (place - 64 * part) place (c.index_mut-2.result.now + 1) true false (omega arith) (omega arith) within (omega arith);
      of_counts = changed (λ n. n) 64 tops counts c.requires.counts.of_counts top (part - 64 * top) part (c.index_mut-3.result.now + 1) (c.index_mut-2.result.now + 1) 0 (omega arith) (omega arith) (omega arith) (omega arith);
    }
