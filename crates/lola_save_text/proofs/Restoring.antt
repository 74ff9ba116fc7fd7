-- A store that was restored from the state of a journal stands for what the journal comes to.
use Rattle.std.proofs.Common.{◌≡◌, ℕ, ◌+◌, List, refl, sym, subst, ap, ◌∙◌, arith, true, Option, Some, None, length, slice_get}
use Rattle.std.specs.Prelude.{unwrap_or}
use Rattle.std.specs.List.{list_all}
use Rattle.std.specs.Str.{is_utf8}
use Rattle.lola_value.specs.Naming.{Naming}
use Rattle.lola_model.specs.Acceptance.{IsAccepted}
use Rattle.lola_model.specs.Content.{Content, StreamContent}
use Rattle.lola_model.specs.Journal.{accepted, known_start, last_accepted}
use Rattle.lola_model.specs.Runs.{content_after, rested, run_start, settled_fault, settled_model, streams_after}
use Rattle.lola_model.specs.Standing.{StandsBetween}
use Rattle.lola_model.specs.Store.{Layout, Memories, Seen, StandForStreams, start_seen, time_seen}
use Rattle.lola_model.specs.Table.{TableRow}
use Rattle.lola_model.specs.declared.journal.Entry.{Entry}
use Rattle.lola_model.specs.declared.journal.Row.{Row}
use Rattle.lola_model.specs.declared.plan.Plan.{Plan}
use Rattle.lola_save_text.specs.Fitting.{time_or}
use Rattle.lola_save_text.specs.Forms.{forms_of}
use Rattle.lola_save_text.specs.declared.state.SavedState.{SavedState}
use Rattle.lola_save_text.specs.declared.state.Times.{Times}
use Rattle.lola_save_text.specs.JournalStates.{IsJournalOf, saved_streams, state_of}
use Rattle.lola_save_text.specs.Restored.{IsRestoredFrom, StandsForJournals, StreamsAreRestored}
use Rattle.lola_save_text.proofs.AcceptedForms.{accepted-storable}
use Rattle.lola_save_text.proofs.Assembly.{IsKnownTable}
use Rattle.lola_save_text.proofs.StatesSaved.{known, start-is}
use Rattle.lola_save_text.proofs.LastTimes.{last-time}
use Rattle.lola_save_text.proofs.Standing.{as_bad, streams-rested, streams-stand}

-- the start that is known is that of the run
pub known-begins : (plan : Plan) (start : Option ℕ) (journal : List Entry) (t : ℕ) → known_start start (accepted journal) ≡ Some t → run_start plan start journal ≡ t
known-begins plan start journal t e = sym (start-is start (accepted journal)) ∙ ap (λ (o : Option ℕ). time_or 0 o) e

module _ (plan : Plan) (accepted_plan : IsAccepted plan) (texts : list_all is_utf8 plan.spec.texts ≡ true) (names : Naming) (remembers : Memories) (s : Seen)
    (start : Option ℕ) (journal : List Entry) (taken : IsJournalOf plan start journal) (fine : settled_fault plan start journal ≡ None)
    (h : IsRestoredFrom plan (state_of plan start journal) names remembers s) where
  abbrev rows : List Row
  rows = accepted journal

  abbrev table : List TableRow
  table = settled_model plan start journal

  abbrev begin : ℕ
  begin = run_start plan start journal

  abbrev times : Times
  times = record { start = known_start start rows; last = last_accepted rows; steps = length table }

  table-known : IsKnownTable plan times table
  table-known = known plan accepted_plan texts start journal taken

  begins : begin ≡ start_seen s
  begins = known-begins plan start journal (start_seen s) h.start

  streams : StreamsAreRestored times names remembers 0 (forms_of plan) s.streams (saved_streams (time_or 0 times.start) (forms_of plan) (streams_after table 0 plan.spec.streams))
  streams =
      subst (λ (t : ℕ). StreamsAreRestored times names remembers 0 (forms_of plan) s.streams (saved_streams t (forms_of plan) (streams_after table 0 plan.spec.streams))) (sym (start-is start rows)) h.streams

  -- the content with this store's bad streams
  abbrev whole : Content
  whole = record { start = start_seen s; time = time_seen s; streams = as_bad s.streams (streams_after table 0 plan.spec.streams) }

  same-number : {X : Type 0} (xs : List X) (j : ℕ) (x : X) → slice_get xs j ≡ Some x → slice_get xs (0 + j) ≡ Some x
  same-number {X} xs j x e = subst (λ (m : ℕ). slice_get xs m ≡ Some x) (let z : j ≡ 0 + j = omega arith in z) e

  all-stand : StandForStreams s.layout.streams names remembers 0 s.streams whole.streams
  all-stand =
      streams-stand plan times table table-known names remembers s.layout.streams 0 plan.spec.streams plan.kept plan.pacings s.streams
      (λ j t e. same-number plan.spec.streams j t e)
      (λ j t e. same-number s.layout.streams j t (ap (λ (l : Layout). slice_get l.streams j) h.layout ∙ e))
      (accepted-storable plan accepted_plan) streams

  same-time : time_seen s ≡ (content_after plan begin table).time
  same-time = sym h.time ∙ (ap (λ (t : ℕ). unwrap_or (last_accepted rows) t) (sym begins) ∙ sym (last-time plan accepted_plan start journal fine))

  is-rested : rested whole ≡ content_after plan begin table
  is-rested =
      ap (λ (cs : List StreamContent). let c : Content = record { start = start_seen s; time = time_seen s; streams = cs } in c)
      (streams-rested plan times table table-known names remembers 0 (time_seen s) plan.spec.streams plan.kept plan.pacings s.streams streams)
      ∙ (ap (λ (t : ℕ). let c : Content = record { start = t; time = time_seen s; streams = streams_after table 0 plan.spec.streams } in c) (sym begins)
      ∙ ap (λ (t : ℕ). let c : Content = record { start = begin; time = t; streams = streams_after table 0 plan.spec.streams } in c) same-time)

  stands : StandsBetween names remembers s (content_after plan begin table)
  stands = (whole, record { start = refl; time = refl; streams = all-stand }, is-rested)

pub restored-stands : (plan : Plan) → IsAccepted plan → list_all is_utf8 plan.spec.texts ≡ true → (state : SavedState) (names : Naming) (remembers : Memories) (s : Seen)
    → IsRestoredFrom plan state names remembers s → StandsForJournals plan state names remembers s
restored-stands plan accepted_plan texts state names remembers s h start journal taken fine is =
    stands plan accepted_plan texts names remembers s start journal taken fine (subst (λ (x : SavedState). IsRestoredFrom plan x names remembers s) is h)
