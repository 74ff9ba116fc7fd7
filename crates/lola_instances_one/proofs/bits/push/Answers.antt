-- Each layer is covered before the one below it grows.
use Rattle.std.proofs.Common.{sym, subst, refl, arith, false}
use Rattle.lola_instances_one.specs.Bits.{AreSums, bit}
use Rattle.lola_instances_one.proofs.Parts.{covered, more, still, wider}
use Rattle.lola_instances_one.proofs.bits.push.Goals as goal

pub cover-requires : goal.cover-requires
cover-requires c =
    let k = covered (λ n. n) 64 c.args.tops.now.items c.args.counts.now.items c.requires.of_counts in
    omega arith

pub cover-requires-in-Ok : goal.cover-requires-in-Ok
cover-requires-in-Ok c =
    let k = covered bit 64 c.args.counts.now.items c.args.bits.now.items c.requires.of_bits in
    omega arith

pub returns-in-Err-clause-counts : goal.returns-in-Err-clause-counts
returns-in-Err-clause-counts c = record {
  of_bits = c.requires.of_bits;
  of_counts = still (λ n. n) 64 c.args.tops.now.items c.cover.new.sums.items c.args.counts.now.items c.in-Err.ensures.longer c.requires.of_counts;
}

pub returns-in-Err-cover-clause-counts : goal.returns-in-Err-cover-clause-counts
returns-in-Err-cover-clause-counts c =
    let tops = still (λ n. n) 64 c.args.tops.now.items c.cover.new.sums.items c.args.counts.now.items c.cover.ensures.longer c.requires.of_counts in record {
      of_bits = still bit 64 c.args.counts.now.items c.cover-in-Ok.new.sums.items c.args.bits.now.items c.cover-in-Ok.ensures.longer c.requires.of_bits;
      of_counts = wider 64 c.cover.new.sums.items c.args.counts.now.items c.cover-in-Ok.new.sums.items c.cover-in-Ok.ensures.longer tops (omega (arith, c.in-Ok.ensures.ok));
    }

pub returns-in-Ok-push-clause-counts : goal.returns-in-Ok-push-clause-counts
returns-in-Ok-push-clause-counts c =
    let tops = still (λ n. n) 64 c.args.tops.now.items c.cover.new.sums.items c.args.counts.now.items c.cover.ensures.longer c.requires.of_counts in
    let counts = still bit 64 c.args.counts.now.items c.cover-in-Ok.new.sums.items c.args.bits.now.items c.cover-in-Ok.ensures.longer c.requires.of_bits in record {
      of_bits = subst (AreSums bit 64 c.cover-in-Ok.new.sums.items) (sym c.in-Ok-push.ensures.items) (more bit 64 c.cover-in-Ok.new.sums.items c.args.bits.now.items false counts (omega (arith, c.in-Ok-cover.ensures.ok)) refl);
      of_counts = wider 64 c.cover.new.sums.items c.args.counts.now.items c.cover-in-Ok.new.sums.items c.cover-in-Ok.ensures.longer tops (omega (arith, c.in-Ok.ensures.ok));
    }

pub returns-in-Err-push-clause-counts : goal.returns-in-Err-push-clause-counts
returns-in-Err-push-clause-counts c =
    let tops = still (λ n. n) 64 c.args.tops.now.items c.cover.new.sums.items c.args.counts.now.items c.cover.ensures.longer c.requires.of_counts in
    let counts = still bit 64 c.args.counts.now.items c.cover-in-Ok.new.sums.items c.args.bits.now.items c.cover-in-Ok.ensures.longer c.requires.of_bits in record {
      of_bits = subst (AreSums bit 64 c.cover-in-Ok.new.sums.items) (sym c.in-Err-push.ensures.items) counts;
      of_counts = wider 64 c.cover.new.sums.items c.args.counts.now.items c.cover-in-Ok.new.sums.items c.cover-in-Ok.ensures.longer tops (omega (arith, c.in-Ok.ensures.ok));
    }
