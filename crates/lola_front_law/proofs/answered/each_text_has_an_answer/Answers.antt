-- The law.
use Rattle.lola_front_law.proofs.Phases.{answered}
use Rattle.lola_front_law.proofs.answered.each_text_has_an_answer.Goals as goal

pub returns : goal.returns
returns c bytes =
    answered (record {
      decided = c.names_are_decided.ensures;
      resolved = c.each_list_is_resolved.ensures;
      spawned = c.spelled_closes_are_spawned.ensures;
      named = c.resolved_is_named.ensures;
      noted = c.resolved_notes_constants.ensures;
      kinds = c.kinds_are_one.ensures;
      full_named = c.filled_is_named.ensures;
      full_typed = c.filled_is_typed.ensures;
      paced = c.each_is_paced.ensures;
      windows = c.each_window_is_paced.ensures;
      layered = c.each_graph_is_layered.ensures;
      bounded = c.each_is_bounded.ensures;
    }) bytes
