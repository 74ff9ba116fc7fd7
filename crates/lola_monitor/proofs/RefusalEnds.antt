-- The last line of a run that goes on from a state, or of a snapshot, that took no row: a text that is asked for first was not read or is refused.
use Rattle.std.proofs.Common.{ℕ, List}
use Rattle.lola_port.specs.States.{SinkState}
use Rattle.lola_value.specs.declared.front.Refusal.{Refusal}
use Rattle.lola_report.specs.Ends.{end_text}
use Rattle.lola_report.specs.declared.end.EndLine.TheVariants.{Refused}
use Rattle.lola_save.specs.StateEnds.{state_end_text}
use Rattle.lola_save.specs.declared.end.StateEnd.{StateEnd}
use Rattle.lola_monitor.specs.Monitor.{Call, Outside, Wrote, call}
use Rattle.lola_monitor.specs.Pasts.{IsRefusedNamed, IsStateRefused, IsUnreadAt}
use Rattle.lola_monitor.specs.Refusals.{StoodRefused, StoodStateRefused, StoodUnread}
use Rattle.lola_monitor.proofs.Ends.{wrote_same}

module _ (words : List (List ℕ)) (before after : Outside) (last : SinkState) where
  abbrev here : Call
  here = call words before (record after { out = last })

  pub refused : (r : Refusal) (name : List ℕ) → Wrote after.out last (end_text (Refused r)) → StoodRefused r name before after → IsRefusedNamed name here
  refused r name wrote w = record {
    refusal = r;
    cause = w.cause;
    asks = w.asks;
    count = w.count;
    trace = w.early.trace;
    out = wrote_same before.out after.out last (end_text (Refused r)) w.early.out wrote;
  }

  pub unread : (place : ℕ) (line : List ℕ) → Wrote after.out last line → StoodUnread place before after → IsUnreadAt place line here
  unread place line wrote w = record { has_failed = w.has_failed; rose = w.rose; trace = w.early.trace; out = wrote_same before.out after.out last line w.early.out wrote }

  pub state_refused : (end : StateEnd) (specification state : List ℕ) → Wrote after.out last (state_end_text end) → StoodStateRefused end specification state before after → IsStateRefused specification state here
  state_refused end specification state wrote w = record {
    plan = w.plan;
    is_plan = w.is_plan;
    end = end;
    cause = w.cause;
    asks = w.asks;
    count = w.count;
    trace = w.early.trace;
    out = wrote_same before.out after.out last (state_end_text end) w.early.out wrote;
  }
