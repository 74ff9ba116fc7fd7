use Rattle.std.proofs.Common.{[], sym, ◌∙◌}
use Rattle.lola_save_read.specs.Turns.{seen_after}
use Rattle.lola_save_read.proofs.SpelledParams.{new-words, spelled-more}
use Rattle.lola_save_read.proofs.seen.is_new.Goals as goal

pub returns-then-fresh-clause-answer : goal.returns-then-fresh-clause-answer
returns-then-fresh-clause-answer c =
    new-words c.args.spelled.now c.args.words.now c.args.params.now (seen_after [] c.args.seen.now) c.requires.spelling c.requires.others (sym c.in_ok-fresh.ensures.fresh ∙ c.if-fresh.true)

pub returns-then-fresh-clause-noted : goal.returns-then-fresh-clause-noted
returns-then-fresh-clause-noted c =
    rw c.in_ok-fresh.ensures.words (spelled-more c.args.spelled.now c.args.words.now c.args.params.now (seen_after [] c.args.seen.now) c.requires.spelling c.requires.others)

pub returns-clause-noted : goal.returns-clause-noted
returns-clause-noted c =
    rw c.in_ok-fresh.ensures.words (spelled-more c.args.spelled.now c.args.words.now c.args.params.now (seen_after [] c.args.seen.now) c.requires.spelling c.requires.others)
