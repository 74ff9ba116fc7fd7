-- The sums of tops, of counts and of bits, each from where the one before ends.
use Rattle.std.proofs.Common.{◌*◌, ◌/◌, refl, arith}
use Rattle.lola_instances_one.specs.Bits.{bit}
use Rattle.lola_instances_one.proofs.Parts.{before, before_later, covered, rank_small}
use Rattle.lola_instances_one.proofs.bits.rank_among.Goals as goal

pub sum_between-in_tops-requires-clause-within : goal.sum_between-in_tops-requires-clause-within
sum_between-in_tops-requires-clause-within c =
    let bits = covered bit 64 c.args.counts.now c.args.bits.now c.requires.counts.of_bits in
    let counts = covered (λ n. n) 64 c.args.tops.now c.args.counts.now c.requires.counts.of_counts in
    let place = c.requires.place in
    omega arith

pub sum_between-in_tops-requires-clause-fits : goal.sum_between-in_tops-requires-clause-fits
sum_between-in_tops-requires-clause-fits c =
    let part = c.args.place / 64 in
    let top = part / 64 in
    let a = before (λ n. n) 64 c.args.tops.now c.args.counts.now c.requires.counts.of_counts top (64 * top) refl in
    let b = before_later (λ n. n) 64 c.args.counts.now (64 * top) part (omega arith) in
    let d = before bit 64 c.args.counts.now c.args.bits.now c.requires.counts.of_bits part (64 * part) refl in
    let e = before_later bit 64 c.args.bits.now (64 * part) c.args.place (omega arith) in
    let f = rank_small c.args.bits.now c.args.place c.requires.place in
    let g = c.ranges.place.fits in
    omega arith

pub sum_between-in_counts-requires-clause-within : goal.sum_between-in_counts-requires-clause-within
sum_between-in_counts-requires-clause-within c =
    let bits = covered bit 64 c.args.counts.now c.args.bits.now c.requires.counts.of_bits in
    let place = c.requires.place in
    omega arith

pub sum_between-in_counts-requires-clause-fits : goal.sum_between-in_counts-requires-clause-fits
sum_between-in_counts-requires-clause-fits c =
    let part = c.args.place / 64 in
    let d = before bit 64 c.args.counts.now c.args.bits.now c.requires.counts.of_bits part (64 * part) refl in
    let e = before_later bit 64 c.args.bits.now (64 * part) c.args.place (omega arith) in
    let f = rank_small c.args.bits.now c.args.place c.requires.place in
    let g = c.ranges.place.fits in
    omega arith

pub count_between-in_bits-requires-clause-fits : goal.count_between-in_bits-requires-clause-fits
count_between-in_bits-requires-clause-fits c =
    let f = rank_small c.args.bits.now c.args.place c.requires.place in
    let g = c.ranges.place.fits in
    omega arith

pub overflow_add-result : goal.overflow_add-result
overflow_add-result c =
    let part = c.args.place / 64 in
    let top = part / 64 in
    let a = before (λ n. n) 64 c.args.tops.now c.args.counts.now c.requires.counts.of_counts top (top * 64) (omega arith) in
    let d = before bit 64 c.args.counts.now c.args.bits.now c.requires.counts.of_bits part (64 * part) refl in
    let e = before_later bit 64 c.args.bits.now (64 * part) c.args.place (omega arith) in
    let f = rank_small c.args.bits.now c.args.place c.requires.place in
    let g = c.ranges.place.fits in
    omega (arith, c.sum_between-in_tops.ensures, c.sum_between-in_counts.ensures)

pub overflow_add-result-2 : goal.overflow_add-result-2
overflow_add-result-2 c =
    let part = c.args.place / 64 in
    let top = part / 64 in
    let a = before (λ n. n) 64 c.args.tops.now c.args.counts.now c.requires.counts.of_counts top (top * 64) (omega arith) in
    let d = before bit 64 c.args.counts.now c.args.bits.now c.requires.counts.of_bits part (part * 64) (omega arith) in
    let f = rank_small c.args.bits.now c.args.place c.requires.place in
    let g = c.ranges.place.fits in
    omega (arith, c.sum_between-in_tops.ensures, c.sum_between-in_counts.ensures, c.count_between-in_bits.ensures)

pub returns : goal.returns
returns c =
    let part = c.args.place / 64 in
    let top = part / 64 in
    let a = before (λ n. n) 64 c.args.tops.now c.args.counts.now c.requires.counts.of_counts top (top * 64) (omega arith) in
    let d = before bit 64 c.args.counts.now c.args.bits.now c.requires.counts.of_bits part (part * 64) (omega arith) in
    omega (arith, c.sum_between-in_tops.ensures, c.sum_between-in_counts.ensures, c.count_between-in_bits.ensures)
