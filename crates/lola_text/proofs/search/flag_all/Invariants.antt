use Rattle.std.proofs.Common.{◌≡◌, drop}
use Rattle.lola_text.specs.Flags.{NumbersRise, flagged_all}
use Rattle.lola_text.proofs.search.flag_all.Given as goal

abbrev pub invariant-loop-id : goal.invariant-loop-id
invariant-loop-id l = record {
  rise : NumbersRise l.texts.entries;
  flags : flagged_all (drop l.id-index l.ids) l.flag l.texts.entries ≡ flagged_all l.ids l.flag l.fn.texts.entries;
}
