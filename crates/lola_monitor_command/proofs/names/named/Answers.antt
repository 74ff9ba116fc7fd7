use Rattle.std.proofs.Common.{sym, subst, IsCharBoundary}
use Rattle.lola_monitor_command.proofs.Borders.{state_border}
use Rattle.lola_monitor_command.proofs.names.named.Goals as goal

pub range_from-requires : goal.range_from-requires
range_from-requires c = λ some. subst (λ w. IsCharBoundary w c.args.place.from) (sym c.word_at.ensures) (state_border c.args.words.now c.args.place c.requires some)
