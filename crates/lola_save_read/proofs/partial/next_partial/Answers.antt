use Rattle.std.proofs.Common.{sym, ◌∙◌}
use Rattle.lola_save_read.proofs.PartWords.{no-part, no-word, other-part}
use Rattle.lola_save_read.proofs.partial.next_partial.Goals as goal

pub returns-in-None : goal.returns-in-None
returns-in-None c = no-word c.args.how c.args.kind c.args.counts c.args.totals c.args.bytes.now c.in-None.ensures

pub returns-in-None-partial_word : goal.returns-in-None-partial_word
returns-in-None-partial_word c =
    no-part c.args.how c.args.kind c.args.counts c.args.totals c.args.bytes.now c.in-Some.word.now c.in-Some.rest.now c.requires.few c.requires.small c.in-Some.ensures c.in-None-partial_word.ensures

pub returns-else-fits : goal.returns-else-fits
returns-else-fits c =
    other-part c.args.how c.args.kind c.args.counts c.args.totals c.args.bytes.now c.in-Some.word.now c.in-Some.rest.now c.in-Some-partial_word.partial c.requires.few c.requires.small c.in-Some.ensures
    c.in-Some-partial_word.ensures.0 c.in-Some-partial_word.ensures.1 c.in-Some-partial_word.ensures.2 (sym c.fits.ensures ∙ c.if-fits.false)
