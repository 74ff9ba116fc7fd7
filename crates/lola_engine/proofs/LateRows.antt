-- Late rows: an engine stands for a journal with one as it stood for it without.
use Rattle.std.proofs.Common.{◌≡◌, ◌⊎◌, inl, inr, ℕ, ◌-◌, List, [], ◌∷◌, ◌++◌, Some, max, sym, ap, ◌∙◌, subst, length}
use Rattle.lola_model.specs.Journal.{opening_time}
use Rattle.lola_model.specs.Runs.{content_after, run_start, settled_model}
use Rattle.lola_model.specs.Standing.{StandsBetween}
use Rattle.lola_model.specs.Store.{Memories, Seen}
use Rattle.lola_model.specs.Table.{TableRow}
use Rattle.lola_model.specs.declared.journal.Entry.{Entry}
use Rattle.lola_model.specs.declared.journal.Mark.TheVariants as mark
use Rattle.lola_model.proofs.Journals.{accepted-append_late, merged_from-append_late, run_start-append_late, settled_fault-append_late, settled_lines-append_late, settled_model-append_late}
use Rattle.lola_step.specs.Progress.{IsRun}
use Rattle.lola_engine.specs.Engines.{IsUnderWay, IsWaiting, StandsFor}
use Rattle.lola_engine.specs.declared.engine.EngineState.{EngineState}

-- whether it waits for a first row or is under way
pub late_state : (e : EngineState) (seen : Seen) (remembers : Memories) (journal : List Entry) (late : Entry) (t : ℕ) → late.mark ≡ mark.Late t
    → IsWaiting e seen remembers journal ⊎ IsUnderWay e seen remembers journal → IsWaiting e seen remembers (journal ++ late ∷ []) ⊎ IsUnderWay e seen remembers (journal ++ late ∷ [])
late_state e seen remembers journal late t is (inl w) = inl (record { without = w.without; none = accepted-append_late journal late t is ∙ w.none; new = w.new; past = w.past; clock = w.clock })
late_state e seen remembers journal late t is (inr u) =
    let model = sym (settled_model-append_late e.plan e.given_start journal late t is) in
    let start = sym (run_start-append_late e.plan e.given_start journal late t is) in
    inr (record {
      begun = λ none. u.begun (sym (accepted-append_late journal late t is) ∙ none);
      run = subst (λ (rows : List TableRow). IsRun e.plan e.texts.held rows) model u.run;
      stands = subst (λ (n : ℕ). StandsBetween e.texts.held remembers seen (content_after e.plan n (settled_model e.plan e.given_start (journal ++ late ∷ [])))) start
          (subst (λ (rows : List TableRow). StandsBetween e.texts.held remembers seen (content_after e.plan (run_start e.plan e.given_start journal) rows)) model u.stands);
      clock = u.clock ∙ ap Some start;
      passed = u.passed ∙ ap (λ n. max n (e.merged - 1)) start;
    })

-- and in all that it stands for
pub late_stands : (e : EngineState) (seen : Seen) (remembers : Memories) (journal : List Entry) (late : Entry) (t : ℕ) → late.mark ≡ mark.Late t → StandsFor e seen remembers journal → StandsFor e seen remembers (journal ++ late ∷ [])
late_stands e seen remembers journal late t is s = record {
  going = s.going;
  fine = settled_fault-append_late e.plan e.given_start journal late t is ∙ s.fine;
  merged = s.merged ∙ sym (merged_from-append_late (opening_time e.given_start) journal late t is);
  steps = s.steps ∙ ap length (sym (settled_model-append_late e.plan e.given_start journal late t is));
  lines = s.lines ∙ ap length (sym (settled_lines-append_late e.plan e.given_start journal late t is e.show));
  rows = s.rows ∙ ap length (sym (accepted-append_late journal late t is));
  state = late_state e seen remembers journal late t is s.state;
}
