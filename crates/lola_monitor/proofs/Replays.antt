-- A replay, after its specification was read.
use Rattle.std.proofs.Common.{◌≡◌, ℕ, ◌+◌, List, [], ◌∷◌, ◌++◌, None, Some, Bool, inl, refl, ap, if◌then◌else◌, ◌∙◌, subst, append_assoc}
use Rattle.std.specs.Option.{option_map}
use Rattle.lola_port.specs.Asks.{given_ask}
use Rattle.lola_port.specs.States.{Rose, ShelfState}
use Rattle.lola_port.specs.declared.traits.Ask.{Ask}
use Rattle.lola_model.specs.declared.plan.Plan.{Plan}
use Rattle.lola_replay.specs.declared.end.ReplayEnd.TheVariants.{Found, UnreadableTrace, UnreadableVerdicts}
use Rattle.lola_monitor.specs.Command.{ReplayNames, replay_of}
use Rattle.lola_monitor.specs.Monitor.{Outside, asks_between, first_failed_ask}
use Rattle.lola_monitor.specs.Outcomes.{AreUntouched, Grew, ReadPlan, Stopped, Works, noted}
use Rattle.lola_monitor.specs.Replaying.{IsText, OfReplay, told_by}
use Rattle.lola_monitor.specs.ReplayOutcomes.{Judges, ReplaysTexts}
use Rattle.lola_monitor.specs.declared.call_end.CallEnd.{CallEnd}
use Rattle.lola_monitor.specs.declared.call_end.CallEnd.TheVariants.{Line, Drilled, Report, Replayed, Stated, CutFault, Put, Memory}
use Rattle.lola_monitor.proofs.Calls.{between, grew_noted, grew_stopped, grew_twice}

module _ (plan : Plan) (names : ReplayNames) (before : ShelfState) where
  abbrev mid : ShelfState
  mid = noted before names.trace

  -- no memory, for the trace or for the verdicts
  pub stopped_at_trace : (after : ShelfState) → Stopped names.trace before after → Grew (names.trace ∷ names.verdicts ∷ []) before after
  stopped_at_trace after stopped = grew_stopped names.trace (names.verdicts ∷ []) before after stopped

  pub stopped_at_verdicts : (after : ShelfState) → Stopped names.verdicts mid after → Grew (names.trace ∷ names.verdicts ∷ []) before after
  stopped_at_verdicts after stopped = grew_twice names.trace (names.verdicts ∷ []) before mid after refl (grew_stopped names.verdicts [] mid after stopped)

  -- both were read
  module _ (after : ShelfState) (trace verdicts : List ℕ) (is_trace : IsText (before.told names.trace) trace) (are_verdicts : IsText (before.told names.verdicts) verdicts) (read : after ≡ noted mid names.verdicts) where
    pub replays_texts : (outcome : CallEnd) → Judges outcome (told_by names plan trace verdicts) → ReplaysTexts outcome plan names before after
    replays_texts (Line line) judged = absurd judged
    replays_texts (Drilled line) judged = absurd judged
    replays_texts (Report text) judged = absurd judged
    replays_texts (Replayed (Found finding)) judged = record { trace = trace; is_trace = is_trace; verdicts = verdicts; are_verdicts = are_verdicts; shelf = read; finds = judged }
    replays_texts (Replayed UnreadableTrace) judged = absurd judged
    replays_texts (Replayed UnreadableVerdicts) judged = absurd judged
    replays_texts (Stated end) judged = absurd judged
    replays_texts CutFault judged = absurd judged
    replays_texts Put judged = absurd judged
    replays_texts Memory judged = grew_twice names.trace (names.verdicts ∷ []) before mid after refl (grew_noted names.verdicts [] mid after read)

-- three asks behind others
three : (asks : List Ask) (a b c : Ask) → ((asks ++ a ∷ []) ++ b ∷ []) ++ c ∷ [] ≡ asks ++ a ∷ b ∷ c ∷ []
three asks a b c = append_assoc (asks ++ a ∷ []) (b ∷ []) (c ∷ []) ∙ append_assoc asks (a ∷ []) (b ∷ c ∷ [])

module _ (words : List (List ℕ)) (names : ReplayNames) (plan : Plan) (before after : Outside) (mid : ShelfState) (early : AreUntouched before after)
    (is_command : replay_of words ≡ Some names) (p : ReadPlan plan names.specification before.shelf mid) where
  abbrev of : OfReplay words before.shelf
  of = record { names = names; is_command = is_command; plan = plan; is_plan = p.is_plan; accepted = p.accepted; one_model = p.one_model }

  text_so : (name bytes : List ℕ) → IsText (mid.told name) bytes → IsText (before.shelf.told name) bytes
  text_so name bytes is = subst (λ t. IsText t bytes) (ap (λ s. s.told name) p.shelf) is

  rose_so : Rose mid.count after.shelf.count → Rose before.shelf.count after.shelf.count
  rose_so rose = subst (λ n. Rose n after.shelf.count) (ap (λ s. s.count) p.shelf) rose

  asks_of_two : (ask : Ask) → after.shelf.asks ≡ mid.asks ++ ask ∷ [] → asks_between before.shelf after.shelf ≡ given_ask names.specification ∷ ask ∷ []
  asks_of_two ask is =
      between before.shelf after.shelf (given_ask names.specification ∷ ask ∷ []) (is ∙ ap (λ (s : ShelfState). s.asks ++ ask ∷ []) p.shelf ∙ append_assoc before.shelf.asks (given_ask names.specification ∷ []) (ask ∷ []))

  asks_of_three : (ask : Ask) → after.shelf.asks ≡ (mid.asks ++ given_ask names.trace ∷ []) ++ ask ∷ [] → asks_between before.shelf after.shelf ≡ given_ask names.specification ∷ given_ask names.trace ∷ ask ∷ []
  asks_of_three ask is =
      between before.shelf after.shelf (given_ask names.specification ∷ given_ask names.trace ∷ ask ∷ [])
      (is ∙ ap (λ (s : ShelfState). (s.asks ++ given_ask names.trace ∷ []) ++ ask ∷ []) p.shelf ∙ three before.shelf.asks (given_ask names.specification) (given_ask names.trace) ask)

  pub works_replayed : (outcome : CallEnd) → ReplaysTexts outcome plan names mid after.shelf → Works outcome words before after
  works_replayed (Line line) r = absurd r
  works_replayed (Drilled line) r = absurd r
  works_replayed (Report text) r = absurd r
  works_replayed (Replayed (Found finding)) r = record {
    replay = record {
      of = of;
      trace = r.trace;
      is_trace = text_so names.trace r.trace r.is_trace;
      verdicts = r.verdicts;
      are_verdicts = text_so names.verdicts r.verdicts r.are_verdicts;
      asks = asks_of_three (given_ask names.verdicts) (ap (λ s. s.asks) r.shelf);
      count = ap (λ s. s.count) r.shelf ∙ ap (λ s. s.count) p.shelf;
      finds = r.finds;
    };
    early = early;
  }
  works_replayed (Replayed UnreadableTrace) r = record {
    unread = record {
      of = of;
      place = 1;
      is_place = refl;
      has_failed = ap first_failed_ask (asks_of_two r.ask r.asks) ∙ ap (λ (b : Bool). option_map (λ n. n + 1) (if b then Some 0 else option_map (λ n. n + 1) None)) r.has_failed;
      rose = rose_so r.rose;
    };
    early = early;
  }
  works_replayed (Replayed UnreadableVerdicts) r = record {
    unread = record {
      of = of;
      place = 2;
      is_place = refl;
      has_failed = ap first_failed_ask (asks_of_three r.ask r.asks) ∙ ap (λ (b : Bool). option_map (λ n. n + 1) (option_map (λ n. n + 1) (if b then Some 0 else option_map (λ n. n + 1) None))) r.has_failed;
      rose = rose_so r.rose;
    };
    early = early;
  }
  works_replayed (Stated end) r = absurd r
  works_replayed CutFault r = absurd r
  works_replayed Put r = absurd r
  works_replayed Memory r = inl (record { trace = early.trace; out = early.out })
