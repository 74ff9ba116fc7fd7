-- What an engine stands for whatever it counts, and what it counts: all of a journal, or what came since others left off.
use Rattle.std.proofs.Common.{◌≡◌, refl, ap, sym, ◌∙◌, ℕ, ◌+◌, ◌⊎◌, List, [], ◌∷◌, ◌++◌, Option, None, Result, Ok, Err, length, length-append, append_assoc, arith}
use Rattle.lola_model.specs.Journal.{accepted, merged_from, opening_time}
use Rattle.lola_model.specs.Runs.{final_lines, first_fault, settled_fault, settled_lines, settled_model, whole_model}
use Rattle.lola_model.specs.Store.{Memories, Seen}
use Rattle.lola_model.specs.Texts.{text_of}
use Rattle.lola_model.specs.declared.journal.Entry.{Entry}
use Rattle.lola_model.specs.declared.journal.Row.{Row}
use Rattle.lola_model.specs.declared.journal.Show.{Show}
use Rattle.lola_model.specs.declared.plan.Plan.{Plan}
use Rattle.lola_model.proofs.Journals.{accepted-append, accepted-append_accepted}
use Rattle.lola_engine.specs.Behind.{AcceptsBehind, FinishesBehind, RunsOutBehind, RunsRowBehind, StandsBehind}
use Rattle.lola_engine.specs.Engines.{Accepts, Brings, Completes, CutsOut, CutsRow, FaultAtEnd, FaultInRow, Finishes, IsUnderWay, IsWaiting, RunsOut, RunsRow, StandsFor, accepted_entry}
use Rattle.lola_engine.specs.declared.engine.EngineState.{EngineState}
use Rattle.lola_engine.specs.declared.end.EngineEnd.{EngineEnd}
use Rattle.lola_engine.specs.declared.end.EngineEnd.TheVariants.{Fault, Memory}

pub nothing_of : {A : Type 0} (xs : List A) → length xs ≡ 0 → xs ≡ []
nothing_of [] k = refl
nothing_of (x ∷ xs) k = absurd (omega arith)

-- an engine stands for a journal, whatever it counts; it has a row exactly where one was accepted
pub record IsAt (e : EngineState) (s : Seen) (m : Memories) (journal : List Entry) : Type 0 where
  pub going : e.ended ≡ None
  pub fine : settled_fault e.plan e.given_start journal ≡ None
  pub merged : e.merged ≡ merged_from (opening_time e.given_start) journal
  pub none : e.rows ≡ 0 → accepted journal ≡ []
  pub some : accepted journal ≡ [] → e.rows ≡ 0
  pub state : IsWaiting e s m journal ⊎ IsUnderWay e s m journal

pub at_for : (e : EngineState) (s : Seen) (m : Memories) (journal : List Entry) → StandsFor e s m journal → IsAt e s m journal
at_for e s m journal h = record {
  going = h.going;
  fine = h.fine;
  merged = h.merged;
  none = λ q. nothing_of (accepted journal) (sym h.rows ∙ q);
  some = λ q. h.rows ∙ ap length q;
  state = h.state;
}

-- the rows of a journal are those of its front and those since
split_rows : (before since journal : List Entry) → journal ≡ before ++ since → length (accepted journal) ≡ length (accepted before) + length (accepted since)
split_rows before since journal split = ap (λ (j : List Entry). length (accepted j)) split ∙ (ap length (accepted-append before since) ∙ length-append (accepted before) (accepted since))

pub at_behind : (e : EngineState) (s : Seen) (m : Memories) (before journal : List Entry) → StandsBehind e s m before journal → IsAt e s m journal
at_behind e s m before journal h =
    let both = split_rows before h.since journal h.split in
    record {
      going = h.going;
      fine = h.fine;
      merged = h.merged;
      none = λ q. nothing_of (accepted journal) (omega (arith, q, h.rows, both));
      some = λ q. let empty : length (accepted journal) ≡ 0 = ap length q in omega (arith, h.rows, empty);
      state = h.state;
    }

-- engines that were made for the same have the same models
module _ (d e : EngineState) (plan : d.plan ≡ e.plan) (given_start : d.given_start ≡ e.given_start) where
  pub same_model : (journal : List Entry) → settled_model d.plan d.given_start journal ≡ settled_model e.plan e.given_start journal
  same_model journal = ap (λ (p : Plan). settled_model p d.given_start journal) plan ∙ ap (λ (o : Option ℕ). settled_model e.plan o journal) given_start

  pub same_lines : d.show ≡ e.show → (journal : List Entry) → settled_lines d.plan d.given_start journal d.show ≡ settled_lines e.plan e.given_start journal e.show
  same_lines show journal =
      ap (λ (p : Plan). settled_lines p d.given_start journal d.show) plan
      ∙ (ap (λ (o : Option ℕ). settled_lines e.plan o journal d.show) given_start ∙ ap (λ (w : Show). settled_lines e.plan e.given_start journal w) show)

-- a row was run: where the engine is then, the lines, and what is counted more
pub record RunsRowAt (row : Row) (journal : List Entry) (old new : EngineState) (s : Seen) (m : Memories) (text0 text1 : List ℕ) : Type 0 where
  pub plan : new.plan ≡ old.plan
  pub given_start : new.given_start ≡ old.given_start
  pub show : new.show ≡ old.show
  pub behind : new.behind ≡ old.behind
  pub lines : List (List ℕ)
  pub brings : Brings old journal (accepted_entry row) lines
  pub text : text1 ≡ text0 ++ text_of lines
  pub at : IsAt new s m (journal ++ accepted_entry row ∷ [])
  pub steps_more : new.steps + length (settled_model old.plan old.given_start journal) ≡ old.steps + length (settled_model old.plan old.given_start (journal ++ accepted_entry row ∷ []))
  pub lines_more : new.lines ≡ old.lines + length lines
  pub rows_more : new.rows ≡ old.rows + 1

module _ (e : EngineState) (s : Seen) (m : Memories) (row : Row) (journal : List Entry) (new : EngineState) (s' : Seen) (m' : Memories) (x0 x1 : List ℕ) (r : RunsRowAt row journal e new s' m' x0 x1) where
  abbrev longer : List Entry
  longer = journal ++ accepted_entry row ∷ []

  steps_longer : length (settled_model new.plan new.given_start longer) ≡ length (settled_model e.plan e.given_start longer)
  steps_longer = ap length (same_model new e r.plan r.given_start longer)

  lines_longer : length (settled_lines new.plan new.given_start longer new.show) ≡ length (settled_lines e.plan e.given_start journal e.show) + length r.lines
  lines_longer = ap length (same_lines new e r.plan r.given_start r.show longer) ∙ (ap length r.brings ∙ length-append (settled_lines e.plan e.given_start journal e.show) r.lines)

  rows_longer : length (accepted longer) ≡ length (accepted journal) + 1
  rows_longer = ap length (accepted-append_accepted journal (accepted_entry row) refl) ∙ length-append (accepted journal) (row ∷ [])

  pub runs_for : StandsFor e s m journal → RunsRow row journal e new s' m' x0 x1
  runs_for h = record {
    lines = r.lines;
    brings = r.brings;
    text = r.text;
    stands = record {
      going = r.at.going;
      fine = r.at.fine;
      merged = r.at.merged;
      steps = omega (arith, h.steps, r.steps_more, steps_longer);
      lines = omega (arith, h.lines, r.lines_more, lines_longer);
      rows = omega (arith, h.rows, r.rows_more, rows_longer);
      state = r.at.state;
    };
  }

  pub runs_behind : (before : List Entry) → StandsBehind e s m before journal → RunsRowBehind row before journal e new s' m' x0 x1
  runs_behind before h =
      let front = ap length (same_lines new e r.plan r.given_start r.show before) in
      record {
        lines = r.lines;
        brings = r.brings;
        text = r.text;
        stands = record {
          since = h.since ++ accepted_entry row ∷ [];
          split = ap (λ (j : List Entry). j ++ accepted_entry row ∷ []) h.split ∙ append_assoc before h.since (accepted_entry row ∷ []);
          going = r.at.going;
          fine = r.at.fine;
          merged = r.at.merged;
          behind = r.behind ∙ (h.behind ∙ ap length (sym (same_model new e r.plan r.given_start before)));
          steps = omega (arith, h.steps, r.behind, r.steps_more, steps_longer);
          lines = omega (arith, h.lines, front, r.lines_more, lines_longer);
          rows = omega (arith, h.rows, r.rows_more, rows_longer);
          state = r.at.state;
        };
      }

-- how a row ends a run
abbrev pub EndsRow : EngineEnd → Row → List Entry → EngineState → List ℕ → List ℕ → Type 0
EndsRow (Fault stream kind time) row journal old text0 text1 = FaultInRow row (record { stream = stream; kind = kind; time = time }) journal old text0 text1
EndsRow Memory row journal old text0 text1 = CutsRow row journal old text0 text1

-- what comes of a row whatever is counted comes of it by either count
module _ (row : Row) (e : EngineState) (s : Seen) (m : Memories) (new : EngineState) (s' : Seen) (m' : Memories) (x0 x1 : List ℕ) where
  abbrev pub AcceptsBoth : Result (Unit {0}) EngineEnd → Type 0
  AcceptsBoth result = Accepts result row e s m new s' m' x0 x1 × AcceptsBehind result row e s m new s' m' x0 x1

  pub both_run : ((journal : List Entry) → IsAt e s m journal → RunsRowAt row journal e new s' m' x0 x1) → AcceptsBoth (Ok tt)
  both_run runs = (
    λ journal h. runs_for e s m row journal new s' m' x0 x1 (runs journal (at_for e s m journal h)) h,
    λ before journal h. runs_behind e s m row journal new s' m' x0 x1 (runs journal (at_behind e s m before journal h)) before h,
  )

  pub both_end : (end : EngineEnd) → ((journal : List Entry) → IsAt e s m journal → EndsRow end row journal e x0 x1) → AcceptsBoth (Err end)
  both_end (Fault stream kind time) ends = (λ journal h. ends journal (at_for e s m journal h), λ before journal h. ends journal (at_behind e s m before journal h))
  both_end Memory ends = (λ journal h. ends journal (at_for e s m journal h), λ before journal h. ends journal (at_behind e s m before journal h))

-- the deadlines at the last stamp were run
pub record RunsOutAt (journal : List Entry) (old new : EngineState) (text0 text1 : List ℕ) : Type 0 where
  pub fine : first_fault old.plan old.given_start journal ≡ None
  pub lines : List (List ℕ)
  pub completes : Completes old journal lines
  pub text : text1 ≡ text0 ++ text_of lines
  pub steps_more : new.steps + length (settled_model old.plan old.given_start journal) ≡ old.steps + length (whole_model old.plan old.given_start journal)
  pub lines_more : new.lines ≡ old.lines + length lines

abbrev pub EndsOut : EngineEnd → List Entry → EngineState → List ℕ → List ℕ → Type 0
EndsOut (Fault stream kind time) journal old text0 text1 = FaultAtEnd (record { stream = stream; kind = kind; time = time }) journal old text0 text1
EndsOut Memory journal old text0 text1 = CutsOut journal old text0 text1

module _ (e : EngineState) (s : Seen) (m : Memories) (new : EngineState) (x0 x1 : List ℕ) where
  module _ (journal : List Entry) (r : RunsOutAt journal e new x0 x1) where
    all_lines : length (final_lines e.plan e.given_start journal e.show) ≡ length (settled_lines e.plan e.given_start journal e.show) + length r.lines
    all_lines = ap length r.completes ∙ length-append (settled_lines e.plan e.given_start journal e.show) r.lines

    out_for : StandsFor e s m journal → RunsOut journal e new x0 x1
    out_for h = record {
      fine = r.fine;
      lines = r.lines;
      completes = r.completes;
      text = r.text;
      steps = omega (arith, h.steps, r.steps_more);
      counted = omega (arith, h.lines, r.lines_more, all_lines);
    }

    out_behind : (before : List Entry) → StandsBehind e s m before journal → RunsOutBehind before journal e new x0 x1
    out_behind before h = record {
      fine = r.fine;
      lines = r.lines;
      completes = r.completes;
      text = r.text;
      steps = omega (arith, h.behind, h.steps, r.steps_more);
      counted = omega (arith, h.lines, r.lines_more, all_lines);
    }

  abbrev pub FinishesBoth : Result (Unit {0}) EngineEnd → Type 0
  FinishesBoth result = Finishes result e s m new x0 x1 × FinishesBehind result e s m new x0 x1

  pub both_run_out : ((journal : List Entry) → IsAt e s m journal → RunsOutAt journal e new x0 x1) → FinishesBoth (Ok tt)
  both_run_out runs = (
    λ journal h. out_for journal (runs journal (at_for e s m journal h)) h,
    λ before journal h. out_behind journal (runs journal (at_behind e s m before journal h)) before h,
  )

  pub both_end_out : (end : EngineEnd) → ((journal : List Entry) → IsAt e s m journal → EndsOut end journal e x0 x1) → FinishesBoth (Err end)
  both_end_out (Fault stream kind time) ends = (λ journal h. ends journal (at_for e s m journal h), λ before journal h. ends journal (at_behind e s m before journal h))
  both_end_out Memory ends = (λ journal h. ends journal (at_for e s m journal h), λ before journal h. ends journal (at_behind e s m before journal h))
