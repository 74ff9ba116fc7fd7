-- One take more at an intake, and what was taken.
use Rattle.std.proofs.Common.{◌≡◌, ℕ, true, Result, Ok, List, ◌++◌, refl, sym, ap, ◌∙◌, subst}
use Rattle.lola_model.specs.declared.journal.Entry.{Entry}
use Rattle.lola_model.specs.Journal.{IsLegalFrom, opening_time}
use Rattle.lola_merge.specs.declared.state.Take.{Take}
use Rattle.lola_merge.specs.declared.state.Take.TheVariants.{AllDone}
use Rattle.lola_feed.specs.SharedIntakes.{IsAnswered, TakerShown, Takes}
use Rattle.lola_monitor_run.specs.Verdicts.{AreOfSources}
use Rattle.lola_monitor_threads.specs.Takings.{GoesOn, Halts, HasRun, HasRunTaken, InputsOf, IsSameTaker, IsPartlyRun, Place, Taking}
use Rattle.lola_monitor_threads.specs.declared.halt.Halt.{Halt}

-- a take that is answered that all is done shows so
pub took_all : (t : Take) (moved : List Entry) (old new : TakerShown) → Takes t moved old new → t ≡ AllDone → new.done ≡ true
took_all t moved old new takes is = (subst (λ (t : Take). IsAnswered t moved new.done) is takes.answer).1

-- a take leaves the seat the same
pub same_taker : (t : Take) (moved : List Entry) (old new : TakerShown) → Takes t moved old new → IsSameTaker old new
same_taker t moved old new takes = record { intake = takes.intake; sources = takes.sources; start = takes.start }

-- so does closing
pub closing_same : (old new : TakerShown) → new ≡ record old { closed = true } → IsSameTaker old new
closing_same old new is = record { intake = ap (λ (p : TakerShown). p.intake) is; sources = ap (λ (p : TakerShown). p.sources) is; start = ap (λ (p : TakerShown). p.start) is }

-- so do two
pub same_taker_twice : (a b c : TakerShown) → IsSameTaker a b → IsSameTaker b c → IsSameTaker a c
same_taker_twice a b c first second = record {
  intake = second.intake ∙ first.intake;
  sources = second.sources ∙ first.sources;
  start = second.start ∙ first.start;
}

-- a seat is the same as itself
pub still_taker : (a : TakerShown) → IsSameTaker a a
still_taker a = record { intake = refl; sources = refl; start = refl }

-- a taker took rows
module _ (taking : Taking) (seat after : TakerShown) (inputs : InputsOf) (batch : List Entry) (is : ◌≡◌ {A = Taking} (record { seat = seat; inputs = inputs; batch = batch }) taking)
    (t : Take) (rows : List Entry) (takes : Takes t rows seat after) where
  taken_is : after.taken ≡ taking.seat.taken ++ rows
  taken_is = takes.taken ∙ ap (λ (k : Taking). k.seat.taken ++ rows) is

  -- what was taken before was run, so these come next
  pub rows_next : (now : Place) → HasRunTaken taking now → IsPartlyRun now rows
  rows_next now so = record {
    first = so.first;
    journal = taking.seat.taken;
    run = so.run;
    marked = subst (λ (m : ℕ). IsLegalFrom m (taking.seat.taken ++ rows)) (ap (λ (k : Taking). opening_time k.seat.start) is ∙ so.opens) (subst (IsLegalFrom (opening_time seat.start)) taken_is takes.marked);
  }

  -- what became of all that was taken
  pub rows_halt : (result : Result (Unit {0}) Halt) (old now : Place)
      → ((first : Place) (journal : List Entry) → HasRun first journal old → AreOfSources inputs.count journal → Halts result inputs.count first (journal ++ rows) now)
      → (first : Place) → HasRun first taking.seat.taken old → AreOfSources taking.inputs.count taking.seat.taken → Halts result taking.inputs.count first after.taken now
  rows_halt result old now halts first run sources =
      subst (λ l. Halts result taking.inputs.count first l now) (sym taken_is)
      (subst (λ (k : Taking). AreOfSources k.inputs.count taking.seat.taken → Halts result k.inputs.count first (taking.seat.taken ++ rows) now) is (halts first taking.seat.taken run) sources)

  pub rows_go : (old now : Place) → GoesOn rows old now → (first : Place) → HasRun first taking.seat.taken old → HasRun first after.taken now
  rows_go old now goes first run = subst (λ l. HasRun first l now) (sym taken_is) (goes first taking.seat.taken run)

  pub same_after : IsSameTaker taking.seat after
  same_after = subst (λ (k : Taking). IsSameTaker k.seat after) is (same_taker t rows seat after takes)

  pub marked_after : IsLegalFrom (opening_time taking.seat.start) after.taken
  marked_after = subst (λ (k : Taking). IsLegalFrom (opening_time k.seat.start) after.taken) is takes.marked

-- all that was taken so far was run
pub taken_on : (old new : Taking) (now next : Place) → IsSameTaker old.seat new.seat → HasRunTaken old now → ((first : Place) → HasRun first old.seat.taken now → HasRun first new.seat.taken next) → HasRunTaken new next
taken_on old new now next same so goes = record { first = so.first; opens = ap opening_time same.start ∙ so.opens; run = goes so.first so.run }

-- what was taken and run goes on
pub halts_on : (result : Result (Unit {0}) Halt) (count mid : ℕ) (first : Place) (taken more : List Entry) (now next : Place) → mid ≡ count
    → (HasRun first taken now → AreOfSources mid taken → Halts result mid first more next) → Halts (Ok tt) count first taken now → Halts result count first more next
halts_on result count mid first taken more now next is on so = subst (λ n. AreOfSources n taken → Halts result n first more next) is (on so.0) so.1
