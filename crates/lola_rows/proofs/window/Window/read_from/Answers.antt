use Rattle.std.proofs.Common.{◌≡◌, ◌≤◌, ◌-◌, length, take, sym, ap, ◌∙◌, arith}
use Rattle.std.proofs.lemmas.List.{with_items_is}
use borrow.Rule.Slice.PartMut.{put_mid}
use Rattle.lola_rows.proofs.Pieces.{length-put, put-grown, put-unended}
use Rattle.lola_rows.proofs.window.Window.read_from.Goals as goal

pub invariant_of-self : goal.invariant_of-self
invariant_of-self g c =
    let w = c.args.self.now in
    let xs = c.deref_mut.result.now in
    let ys = c.read.new.buf in
    let same : xs ≡ w.bytes.items = c.deref_mut.ensures.value in
    let long : length xs ≡ 131072 = ap length same ∙ w.whole in
    let put = length-put xs ys w.end (omega arith) (omega (arith, c.read.auto.buf)) in
    let is = with_items_is w.bytes (put_mid w.end (length xs - w.end) xs ys) (omega arith) in
    record {
      whole = ap length is ∙ put ∙ long;
      ordered = w.ordered;
      within = w.within;
      unended = put-unended w.bytes.items xs ys _ w.start w.end w.scanned same is w.ordered (omega arith) w.unended;
    }

pub invariant_of-self-2 : goal.invariant_of-self-2
invariant_of-self-2 g c =
    let w = c.args.self.now in
    let xs = c.deref_mut.result.now in
    let ys = c.read.new.buf in
    let same : xs ≡ w.bytes.items = c.deref_mut.ensures.value in
    let long : length xs ≡ 131072 = ap length same ∙ w.whole in
    let put = length-put xs ys w.end (omega arith) (omega (arith, c.read.auto.buf)) in
    let is = with_items_is w.bytes (put_mid w.end (length xs - w.end) xs ys) (omega arith) in
    let fits : c.in_ok-count.count ≤ length ys = c.in_ok-count.ensures.within.0 in
    record {
      whole = ap length is ∙ put ∙ long;
      ordered = omega arith;
      within = omega (arith, c.read.auto.buf);
      unended = put-unended w.bytes.items xs ys _ w.start w.end w.scanned same is w.ordered (omega arith) w.unended;
    }

pub returns-clause-took : goal.returns-clause-took
returns-clause-took g c =
    let w = c.args.self.now in
    let xs = c.deref_mut.result.now in
    let ys = c.read.new.buf in
    let n = c.in_ok-count.count in
    let same : xs ≡ w.bytes.items = c.deref_mut.ensures.value in
    let long : length xs ≡ 131072 = ap length same ∙ w.whole in
    let put = length-put xs ys w.end (omega arith) (omega (arith, c.read.auto.buf)) in
    let is = with_items_is w.bytes (put_mid w.end (length xs - w.end) xs ys) (omega arith) in
    record {
      bytes = take n ys;
      joined = put-grown w.bytes.items xs ys _ w.start w.end n same is (omega arith) (omega arith) c.in_ok-count.ensures.within.0;
      count_is = sym c.in_ok-count.ensures.within.1;
      moved = c.in_ok-count.ensures.moved;
    }
