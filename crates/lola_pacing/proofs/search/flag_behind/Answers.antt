use Rattle.lola_pacing.proofs.FlagLemmas.{read_at}
use Rattle.lola_pacing.proofs.search.flag_behind.Goals as goal

pub flag-requires : goal.flag-requires
flag-requires c n h =
    let at = read_at c.args.lists.now c.args.stream c.index-lists-stream.result c.requires.stream c.index-lists-stream.is in
    c.requires.within n (rw (at, ← c.as_slice.ensures) h)

pub returns : goal.returns
returns c =
    let at = read_at c.args.lists.now c.args.stream c.index-lists-stream.result c.requires.stream c.index-lists-stream.is in
    rw (at, ← c.as_slice.ensures) c.flag.ensures
