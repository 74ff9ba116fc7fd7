-- A run over an engine that was made from a saved state.
use Rattle.std.proofs.Common.{◌≡◌, ℕ, ◌+◌, List, [], ◌∷◌, ◌++◌, Option, map, refl, sym, ap, ◌∙◌, subst, append_assoc, arith}
use Rattle.lola_port.specs.States.{ShelfState}
use Rattle.lola_port.specs.declared.traits.Ask.{Ask}
use Rattle.lola_model.specs.Journal.{opening_time}
use Rattle.lola_model.specs.declared.journal.Entry.{Entry}
use Rattle.lola_model.specs.declared.journal.Show.{Show}
use Rattle.lola_model.specs.declared.plan.Plan.{Plan}
use Rattle.lola_engine.specs.Resuming.{merge_start, times_of}
use Rattle.lola_engine.specs.declared.engine.EngineState.{EngineState}
use Rattle.lola_engine.specs.declared.times.RunTimes.{RunTimes}
use Rattle.lola_instances.specs.declared.store.BoundedStore.{BoundedStore}
use Rattle.lola_save.specs.declared.end.StateEnd.TheVariants as state_end
use Rattle.lola_monitor_run.specs.Behind.{IsBehind}
use Rattle.lola_monitor_run.specs.Running.{Keeping}
use Rattle.lola_monitor.specs.Outcomes.{Grew}
use Rattle.lola_monitor.specs.Pasts.{IsSavedAs}
use Rattle.lola_monitor.specs.ResumedOutcomes.{RunRead}
use Rattle.lola_monitor.specs.Stating.{EngineRead, NoEngine}
use Rattle.lola_monitor.specs.declared.call_end.Unloaded.{Unloaded}
use Rattle.lola_monitor.specs.declared.call_end.Unloaded.TheVariants as unloaded
use Rattle.lola_monitor.proofs.Calls.{grew_marred, grew_noted}

module _ (specification : List ℕ) (plan : Plan) (show : Show) (name : List ℕ) (e : EngineState) (store : BoundedStore) (before after : ShelfState) (read : EngineRead specification plan show name e store before after) where
  -- what a run of it keeps that has taken nothing
  abbrev pub fresh_run : Keeping
  fresh_run = record { state = e; store = store; accepted = 0; late = 0 }

  stands : (start : Option ℕ) (front : List Entry) → IsSavedAs specification plan read.bytes start front → IsBehind front front fresh_run
  stands start front saved = record { legal = (read.start start front saved).1; engine = read.loaded.stands start front saved.of saved.fine saved.text }

  -- it counts its steps from those of the state
  begun : e.behind ≡ read.loaded.state.steps
  begun = let so_far : e.behind + e.steps ≡ read.loaded.state.steps = ap (λ (t : RunTimes). t.steps) read.loaded.on.times_are in let none = read.loaded.on.no_steps in omega (arith, so_far, none)

  first_read : (merge : Option ℕ) → merge ≡ merge_start (times_of e) → RunRead specification plan show name fresh_run merge before after
  first_read merge is = record {
    bytes = read.bytes;
    is_text = read.is_text;
    is_state = record { state = read.loaded.state; saved = read.loaded.saved; written = read.loaded.written };
    steps_before = begun;
    none = record { going = read.loaded.on.engine; accepted = refl; late = refl; rows = read.loaded.on.few_rows };
    merged = ap opening_time (is ∙ ap merge_start read.loaded.on.times_are) ∙ sym read.loaded.on.merged;
    plan_is = read.loaded.on.plan_is;
    show_is = read.loaded.on.show_is;
    start_is = λ start front saved. (read.start start front saved).0;
    stands = stands;
    shelf = read.shelf;
  }

  pub run_read : (kept : Keeping) (merge : Option ℕ) → kept ≡ fresh_run → merge ≡ merge_start (times_of e) → RunRead specification plan show name kept merge before after
  run_read kept merge is from = subst (λ (k : Keeping). RunRead specification plan show name k merge before after) (sym is) (first_read merge from)

-- fewer names were asked for
pub grew_more : (names more : List (List ℕ)) (before after : ShelfState) → Grew names before after → Grew (names ++ more) before after
grew_more names more before after grew = record {
  asks = grew.asks;
  appended = grew.appended;
  front = (grew.front.0 ++ more, ap (λ (l : List (List ℕ)). l ++ more) grew.front.1 ∙ append_assoc (map (λ (ask : Ask). ask.name) grew.asks) grew.front.0 more);
  home = grew.home;
}

-- a state of which there is no engine
pub grew_unloaded : (end : Unloaded) (specification : List ℕ) (plan : Plan) (name : List ℕ) (names : List (List ℕ)) (before after : ShelfState) → NoEngine end specification plan name before after → Grew (name ∷ names) before after
grew_unloaded (unloaded.Stated state_end.Unreadable) specification plan name names before after marred = grew_marred name names before after marred
grew_unloaded (unloaded.Stated (state_end.Damaged line)) specification plan name names before after refused = grew_noted name names before after refused.shelf
grew_unloaded (unloaded.Stated state_end.OtherSpecification) specification plan name names before after refused = grew_noted name names before after refused.shelf
grew_unloaded (unloaded.Stated state_end.TooManySteps) specification plan name names before after bad = absurd bad
grew_unloaded unloaded.Memory specification plan name names before after grew = grew_more (name ∷ []) names before after grew
