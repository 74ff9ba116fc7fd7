use Rattle.std.proofs.Common.{◌≡◌, ◌∙◌, ap, length, arith}
use Rattle.lola_model.specs.Leaves.{followed_in}
use Rattle.lola_pacing.proofs.LeafLemmas.{low_clause, low_lists, length-lists, ends_are_leaves}
use Rattle.lola_pacing.proofs.leaves.found.Goals as goal

pub visit-requires-clause-within : goal.visit-requires-clause-within
visit-requires-clause-within c n m h =
    let streams = c.args.spec.now.streams in
    let low = low_lists (length streams) (length c.args.spec.now.windows) streams c.requires.numbers.clauses n m (rw c.requires.lists at h) in
    let same : length c.args.lists.now ≡ length streams = ap length c.requires.lists ∙ length-lists streams in
    omega (arith, low, same)

pub visit-requires-clause-first : goal.visit-requires-clause-first
visit-requires-clause-first c n h =
    let streams = c.args.spec.now.streams in
    let first : c.as_slice.result.now ≡ followed_in c.args.clause.now = c.as_slice.ensures ∙ c.in_ok-first.ensures in
    let low = low_clause (length streams) (length c.args.spec.now.windows) c.args.clause.now c.requires.clause n (rw first at h) in
    let same : length c.args.lists.now ≡ length streams = ap length c.requires.lists ∙ length-lists streams in
    omega (arith, low, same)

pub returns : goal.returns
returns c =
    let streams = c.args.spec.now.streams in
    let first : c.as_slice.result.now ≡ followed_in c.args.clause.now = c.as_slice.ensures ∙ c.in_ok-first.ensures in
    ends_are_leaves streams c.args.own c.args.clause.now c.visit.new.flags c.in_ok-leaves.leaves (rw (c.requires.lists, first) at c.in_ok-visit.ensures) (rw c.as_slice-2.ensures at c.in_ok-leaves.ensures)
