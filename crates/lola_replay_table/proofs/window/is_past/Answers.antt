use Rattle.std.proofs.Common.{◌∙◌, ◌+◌, ℕ, ap, length, nat_lt, refl, sym}
use Rattle.lola_value.specs.declared.text.Field.{Field}
use Rattle.std.proofs.lemmas.Option.{slice_get_read}
use Rattle.lola_replay_table.proofs.TimesLemmas.{within-past}
use Rattle.lola_replay_table.proofs.window.is_past.Goals as goal

pub returns-then-in_order : goal.returns-then-in_order
returns-then-in_order c =
    λ past. within-past c.args.over c.args.time c.args.earlier.now c.args.place c.index-earlier-place.result (c.requires.order c.if-in_order.true)
    (slice_get_read c.args.earlier.now (length c.args.earlier.now) c.args.place c.index-earlier-place.result refl c.requires.there c.index-earlier-place.is)
    c.is_within.result (c.is_within.ensures ∙ ap (λ (u : ℕ × Field). nat_lt c.args.time (u.0 + c.args.over)) (sym c.index-earlier-place.is)) past
