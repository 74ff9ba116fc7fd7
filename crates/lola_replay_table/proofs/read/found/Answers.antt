use Rattle.std.proofs.Common.{◌∙◌, ap, arith, length, map, refl, sym}
use Rattle.std.proofs.lemmas.Option.{slice_get_read}
use Rattle.lola_value.specs.Arithmetic.{all_equal}
use Rattle.lola_replay_table.specs.Answers.{the_field}
use Rattle.lola_replay_table.proofs.FoundLemmas.{found-here}
use Rattle.lola_replay_table.proofs.read.found.Goals as goal

pub returns-then-are_same : goal.returns-then-are_same
returns-then-are_same c =
    found-here (map the_field c.args.params.now) c.loop-place.place c.args.lives.now c.index-lives-place.result
    (slice_get_read c.args.lives.now (length c.args.lives.now) c.loop-place.place c.index-lives-place.result refl (omega arith) c.index-lives-place.is)
    (ap (all_equal (map the_field c.args.params.now)) (sym c.as_slice.ensures) ∙ sym c.are_same.ensures ∙ c.if-are_same.true)
    c.loop-place.invariant
