use Rattle.std.proofs.Common.{subst, sym, ap, ◌∙◌, ◌+◌, drop, List}
use Rattle.lola_text.specs.Flags.{Entry, NumbersRise, flagged_all}
use Rattle.lola_text.proofs.Flagging.{flagged-next, rise-flagged}
use Rattle.lola_text.proofs.search.flag_all.Goals as goal

pub loop-id-preserved : goal.loop-id-preserved
loop-id-preserved c =
    let ids = c.args.ids.now in
    let i = c.loop-id.id-index in
    record {
      rise = subst NumbersRise (sym c.flag_one.ensures) (rise-flagged 0 _ _ c.loop-id.texts.entries c.loop-id.invariant.rise);
      flags = ap (λ (l : List Entry). flagged_all (drop (i + 1) ids) c.args.flag l) c.flag_one.ensures ∙ sym (flagged-next ids i _ c.args.flag c.loop-id.texts.entries c.loop-id-test.true) ∙ c.loop-id.invariant.flags;
    }
