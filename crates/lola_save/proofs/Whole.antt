-- What is taken of an engine is the state of whatever journal it stands for.
use Rattle.std.proofs.Common.{◌≡◌, ℕ, ◌<◌, List, [], length, refl, subst, ap, sym, ◌∙◌, map, Option, inl, inr}
use Rattle.lola_model.specs.Journal.{accepted}
use Rattle.lola_model.specs.Model.{made}
use Rattle.lola_model.specs.NextStep.{most_steps, next_settled}
use Rattle.lola_model.specs.Runs.{content_after, rested_stream, run_start, settled_model, streams_after}
use Rattle.lola_model.specs.Steps.{start_of}
use Rattle.lola_model.specs.Store.{Memories, Seen, instances_seen, layout_of, new_seen}
use Rattle.lola_model.specs.Table.{TableRow}
use Rattle.lola_model.specs.declared.journal.Entry.{Entry}
use Rattle.lola_model.specs.declared.journal.Row.{Row}
use Rattle.lola_model.specs.declared.plan.Plan.{Plan}
use Rattle.lola_engine.specs.Behind.{StandsBehind}
use Rattle.lola_engine.specs.Engines.{IsUnderWay, IsWaiting}
use Rattle.lola_engine.specs.Resuming.{HasReached}
use Rattle.lola_engine.specs.declared.engine.EngineState.{EngineState}
use Rattle.lola_engine.specs.declared.times.RunTimes.{RunTimes}
use Rattle.lola_save_text.specs.Forms.{forms_of}
use Rattle.lola_save_text.specs.declared.state.SavedInstance.{SavedInstance}
use Rattle.lola_save_text.specs.declared.state.SavedState.{SavedState}
use Rattle.lola_save_text.specs.JournalStates.{saved_streams, state_of}
use Rattle.lola_save.specs.Fitting.{AreStreamsOf}
use Rattle.lola_save.specs.Taken.{AreStreamsTaken}
use Rattle.lola_save.proofs.Lives.{streams-taken}
use Rattle.lola_save.proofs.NewStores.{taken-new}

-- the settled model of accepted rows
abbrev settled_of : Plan → Option ℕ → List Row → List TableRow
settled_of plan given_start rows = made plan (start_of given_start rows) (next_settled plan (start_of given_start rows) rows) (most_steps 0 0 rows) []

settled-of : (plan : Plan) (given_start : Option ℕ) (journal : List Entry) → settled_model plan given_start journal ≡ settled_of plan given_start (accepted journal)
unfolding settled_model
settled-of plan given_start journal = refl

none-settled : (plan : Plan) (given_start : Option ℕ) (journal : List Entry) → accepted journal ≡ [] → settled_model plan given_start journal ≡ []
none-settled plan given_start journal e = settled-of plan given_start journal ∙ ap (settled_of plan given_start) e

module _ (e : EngineState) (s : Seen) (remembers : Memories) (laid : s.layout ≡ layout_of e.plan) (fit : AreStreamsOf (layout_of e.plan) 0 (forms_of e.plan)) (yss : List (List SavedInstance))
    (taken : AreStreamsTaken s remembers e.texts.held 0 (forms_of e.plan) s.streams yss) (journal : List Entry) where
  abbrev start : ℕ
  start = run_start e.plan e.given_start journal

  abbrev rows : List TableRow
  rows = settled_model e.plan e.given_start journal

  abbrev AreOfJournal : Type 0
  AreOfJournal = yss ≡ saved_streams start (forms_of e.plan) (content_after e.plan start rows).streams

  waiting : IsWaiting e s remembers journal → AreOfJournal
  waiting w =
      let t : AreStreamsTaken (new_seen (layout_of e.plan)) remembers e.texts.held 0 (forms_of e.plan) (new_seen (layout_of e.plan)).streams yss =
      subst (λ (z : Seen). AreStreamsTaken z remembers e.texts.held 0 (forms_of e.plan) z.streams yss) w.new taken in
      let new = taken-new e.plan remembers e.texts.held (λ n i lt. w.past e.texts.held n i (subst (λ (z : Seen). i < length (instances_seen z n)) (sym w.new) lt)) yss t in
      let at : start ≡ 0 = λ i. start_of (w.without i) (w.none i) in
      let none = none-settled e.plan e.given_start journal w.none in
      new ∙ sym (λ i. saved_streams (at i) (forms_of e.plan) (streams_after (none i) 0 e.plan.spec.streams))

  under-way : IsUnderWay e s remembers journal → AreOfJournal
  under-way u =
      let whole = u.stands.0 in
      let stands = u.stands.1 in
      let is = u.stands.2 in
      streams-taken s remembers e.texts.held s.layout 0 (forms_of e.plan) s.streams yss whole.streams (subst (λ l. AreStreamsOf l 0 (forms_of e.plan)) (sym laid) fit) taken stands.streams
      ∙ (λ i. saved_streams (stands.start i) (forms_of e.plan) (map (rested_stream (stands.time i)) whole.streams))
      ∙ (λ i. saved_streams (is i).start (forms_of e.plan) (is i).streams)

  streams-are : (before : List Entry) → StandsBehind e s remembers before journal → AreOfJournal
  streams-are before h = elim h.state [ inl w ↦ waiting w | inr u ↦ under-way u ]

  -- with how far the engine has come
  pub state-is : (times : RunTimes) (y : SavedState) (before : List Entry) → StandsBehind e s remembers before journal → HasReached e.plan e.given_start journal times
      → y.start ≡ times.start → y.last ≡ times.last → y.steps ≡ times.steps → y.streams ≡ yss → y ≡ state_of e.plan e.given_start journal
  state-is times y before h reached a b c d =
      let start_is = a ∙ reached.start in
      let last_is = b ∙ reached.last in
      let steps_are = c ∙ reached.steps in
      let streams_are' = d ∙ streams-are before h in
      λ i. record { start = start_is i; last = last_is i; steps = steps_are i; streams = streams_are' i }
