-- What is known of a run's rows once the threads of all sources were joined and the intake has ended.
use Rattle.std.proofs.Common.{◌≡◌, ℕ, ◌+◌, ◌*◌, ◌<◌, ◌≤◌, Bool, true, true≢false, List, [], ◌∷◌, ◌++◌, Option, None, Some, All, Result, Ok, Err, map, length, refl, sym, ap, ◌∙◌, subst, arith, append_assoc, length-append}
use Rattle.std.proofs.lemmas.List.{append-nil, length-map}
use Rattle.std.proofs.lemmas.List.Elements.{All-head}
use Rattle.std.proofs.lemmas.Option.{slice_get_within}
use Rattle.std.specs.Prelude.{OnOk, slice_get}
use Rattle.std.specs.List.{AllZip}
use Rattle.lola_value.specs.declared.value.Kind.{Kind}
use Rattle.lola_port.specs.States.{SinkState}
use Rattle.lola_model.specs.Journal.{IsLegal, IsLegalFrom, opening_time, rows_of}
use Rattle.lola_model.specs.Trace.{IsFieldOf}
use Rattle.lola_model.specs.declared.plan.Plan.{Plan}
use Rattle.lola_model.specs.declared.journal.Row.{Row}
use Rattle.lola_model.specs.declared.journal.Entry.{Entry}
use Rattle.lola_model.proofs.Growing.{slice_get_some}
use Rattle.lola_model.proofs.Journals.{IsLegalFrom-append_left, rows_of-append}
use Rattle.lola_rows.specs.Rows.{SourceRows}
use Rattle.lola_rows.specs.Reading.{Shape, shape_of}
use Rattle.lola_rows.proofs.Composing.{kinds-are}
use Rattle.lola_feed.specs.SharedIntakes.{IsWhole, SeatShown, TakerShown}
use Rattle.lola_feed.specs.Feeding.{Working}
use Rattle.lola_feed.specs.declared.worker.SourceEnd as worker
use Rattle.lola_feed.specs.declared.worker.SourceEnd.TheVariants as end
use Rattle.lola_monitor_run.specs.Verdicts.{AreOfSources, Setting, most_rows}
use Rattle.lola_monitor_run.specs.Running.{IsRowFor, Keeping}
use Rattle.lola_monitor_run.specs.declared.stop.Stop.{Stop}
use Rattle.lola_monitor_run.specs.Feeds.{BeganWith, Supply, supply_of, world}
use Rattle.lola_monitor_threads.specs.Seated.{HasOffered, HasStopped, IsRowIn, IsUntold, seated}
use Rattle.lola_monitor_threads.specs.Takings.{Halts, HasRun, IsStopped, IsUnfit, Place, place}
use Rattle.lola_monitor_threads.specs.Joining.{AllCame, HasCome, IsOver, Joins, SomeCame}
use Rattle.lola_monitor_threads.specs.declared.halt.Halt.{Halt}
use Rattle.lola_monitor_threads.specs.declared.halt.Halt.TheVariants as halt
use Rattle.lola_monitor_threads.proofs.Many.{all_counted, journal_few, rows_first}
use Rattle.lola_monitor_run.proofs.Lists.{from_mapped}
use Rattle.lola_monitor_threads.proofs.Places.{all_behind}

-- each worker with its seat comes from a worker that read a source of a plan
pub record IsFrom (plan : Plan) (s : ℕ) (old new : Working) (seat : SeatShown) : Type 0 where
  pub offered : HasOffered old (seated new seat)
  pub source : seat.source ≡ s
  pub shape : old.reader.shape ≡ shape_of plan.spec.streams s most_rows
  pub in_order : seat.in_order ≡ true

-- all threads were joined, and the intake has ended
pub record AreJoined (plan : Plan) (start : Option ℕ) (olds news : List Working) (seats : List SeatShown) (taker : TakerShown) (left : List Entry) : Type 0 where
  pub few : length olds ≤ 64
  pub many : length news ≡ length olds
  pub sat : length seats ≡ length olds
  pub each : (s : ℕ) (old new : Working) (seat : SeatShown) → slice_get olds s ≡ Some old → slice_get news s ≡ Some new → slice_get seats s ≡ Some seat → IsFrom plan s old new seat
  pub sources_are : taker.sources ≡ length olds
  pub start_is : taker.start ≡ start
  pub whole : IsWhole taker seats left

-- a source that has finished is over
told_over : (e : Option worker.SourceEnd) (finished : Bool) (old new : Supply) (rows : List Row) → IsUntold e finished → finished ≡ true → HasStopped e old new rows → IsOver e old new rows
told_over None finished old new rows untold is stopped = absurd (true≢false (sym is ∙ untold))
told_over (Some end.End) finished old new rows untold is stopped = stopped
told_over (Some (end.Malformed kind row)) finished old new rows untold is stopped = stopped
told_over (Some end.ReadFailed) finished old new rows untold is stopped = stopped
told_over (Some end.Closed) finished old new rows untold is stopped = absurd (true≢false (sym is ∙ untold))
told_over (Some end.Memory) finished old new rows untold is stopped = stopped

-- a front of the first rows
fewer_began : (rest : Option SourceRows) (xs ys : List Row) → BeganWith rest (xs ++ ys) → BeganWith rest xs
fewer_began rest xs ys began all is = let b = began all is in (ys ++ b.0, b.1 ∙ append_assoc xs ys b.0)

module _ (plan : Plan) (start : Option ℕ) (olds news : List Working) (seats : List SeatShown) (taker : TakerShown) (left : List Entry) (j : AreJoined plan start olds news seats taker left) where
  abbrev journal : List Entry
  journal = taker.taken ++ left

  -- the worker that a source had, that which came back, and its seat
  old_at : (s : ℕ) → s < length olds → (w : Working) × (slice_get olds s ≡ Some w)
  old_at s less = slice_get_some olds s less

  new_at : (s : ℕ) → s < length olds → (w : Working) × (slice_get news s ≡ Some w)
  new_at s less = slice_get_some news s (let m = j.many in omega arith)

  seat_at : (s : ℕ) → s < length olds → (p : SeatShown) × (slice_get seats s ≡ Some p)
  seat_at s less = slice_get_some seats s (let m = j.sat in omega arith)

  from_at : (s : ℕ) (p : SeatShown) → slice_get seats s ≡ Some p → (old : Working) × (new : Working) × IsFrom plan s old new p
  from_at s p at =
      let less : s < length olds = (let m = j.sat in let l = slice_get_within seats s p at in omega arith) in
      let old = old_at s less in
      let new = new_at s less in
      (old.0, new.0, j.each s old.0 new.0 p old.1 new.1 at)

  -- the rows of a source are those that were let in at its seat
  rows_are : (s : ℕ) (p : SeatShown) → slice_get seats s ≡ Some p → p.source ≡ s → rows_of s journal ≡ p.rows
  rows_are s p at source = subst (λ (k : ℕ). rows_of k journal ≡ p.rows) source (j.whole.rows s p at)

  legal : IsLegal start journal
  legal = subst (λ (o : Option ℕ). IsLegal o journal) j.start_is j.whole.marked

  theirs : AreOfSources (length olds) journal
  theirs = subst (λ (n : ℕ). AreOfSources n journal) j.sources_are j.whole.theirs

  -- where all is done, none is left
  none_left : taker.done ≡ true → left ≡ []
  none_left done = j.whole.done done (λ s p at. (from_at s p at).2.in_order)

  module _ (first now : Keeping) (out0 out1 trace0 trace1 : SinkState) (opens : opening_time start ≡ first.state.merged) (made : first.state.plan ≡ plan) where
    abbrev from : Place
    from = place first out0 trace0

    abbrev to : Place
    to = place now out1 trace1

    all_came : taker.done ≡ true → HasRun from taker.taken to → AreOfSources (length olds) taker.taken → AllCame (world first (map supply_of olds) out0 trace0) (world now (map supply_of news) out1 trace1)
    all_came done run sources =
        let whole : journal ≡ taker.taken = ap (λ (l : List Entry). taker.taken ++ l) (none_left done) ∙ append-nil taker.taken in
        record {
          journal = taker.taken;
          legal = subst (λ (m : ℕ). IsLegalFrom m taker.taken) opens (IsLegalFrom-append_left (opening_time start) taker.taken left legal);
          sources = subst (λ (n : ℕ). AreOfSources n taker.taken) (sym (length-map olds supply_of)) sources;
          run = run;
          many = length-map news supply_of ∙ (j.many ∙ sym (length-map olds supply_of));
          each = λ s old new was is.
              let w0 = from_mapped supply_of olds s old was in
              let w1 = from_mapped supply_of news s new is in
              let p = seat_at s (slice_get_within olds s w0.0 w0.1.0) in
              let f = j.each s w0.0 w1.0 p.0 w0.1.0 w1.1.0 p.1 in
              let rows : rows_of s taker.taken ≡ p.0.rows = ap (rows_of s) (sym whole) ∙ rows_are s p.0 p.1 f.source in
              let come : HasCome (supply_of w0.0) (supply_of w1.0) p.0.rows = record {
                few = subst (λ (x : Shape). length p.0.rows ≤ x.most) f.shape f.offered.few;
                began = f.offered.began;
                over = told_over w1.0.end p.0.finished (supply_of w0.0) (supply_of w1.0) p.0.rows f.offered.untold (j.whole.finished done s p.0 p.1) f.offered.end;
              } in
              subst (HasCome old new) (sym rows) (subst (λ (x : Supply). HasCome old x p.0.rows) (sym w1.1.1) (subst (λ (x : Supply). HasCome x (supply_of w1.0) p.0.rows) (sym w0.1.1) come));
        }

    some_came : (how : Stop) → IsStopped how (length olds) from taker.taken to → SomeCame how (world first (map supply_of olds) out0 trace0) (world now (map supply_of news) out1 trace1)
    some_came how stopped =
        let whole : journal ≡ stopped.front ++ (stopped.behind ++ left) = ap (λ (l : List Entry). l ++ left) stopped.joined ∙ append_assoc stopped.front stopped.behind left in
        record {
          journal = stopped.front;
          legal = subst (λ (m : ℕ). IsLegalFrom m stopped.front) opens (IsLegalFrom-append_left (opening_time start) stopped.front (stopped.behind ++ left) (subst (IsLegal start) whole legal));
          sources = subst (λ (n : ℕ). AreOfSources n stopped.front) (sym (length-map olds supply_of)) stopped.sources;
          begun = λ s old was.
              let w0 = from_mapped supply_of olds s old was in
              let less = slice_get_within olds s w0.0 w0.1.0 in
              let w1 = new_at s less in
              let p = seat_at s less in
              let f = j.each s w0.0 w1.0 p.0 w0.1.0 w1.1 p.1 in
              let rows : p.0.rows ≡ rows_of s stopped.front ++ rows_of s (stopped.behind ++ left) = sym (rows_are s p.0 p.1 f.source) ∙ (ap (rows_of s) whole ∙ rows_of-append s stopped.front (stopped.behind ++ left)) in
              fewer_began old.rest (rows_of s stopped.front) (rows_of s (stopped.behind ++ left)) (subst (BeganWith old.rest) rows (subst (λ (x : Supply). BeganWith x.rest p.0.rows) (sym w0.1.1) f.offered.began));
          stops = stopped.stops;
        }

    -- the row of an entry that was let in is one that a run takes
    fits : (front behind : List Entry) (entry : Entry) → journal ≡ front ++ entry ∷ behind → now.state.plan ≡ plan → IsRowFor now.state.plan entry.row
    fits front behind entry whole same =
        let s = entry.row.source in
        let less : s < length olds = All-head (λ (e : Entry). e.row.source < length olds) entry behind (all_behind (λ (e : Entry). e.row.source < length olds) front (entry ∷ behind) (subst (AreOfSources (length olds)) whole theirs)) in
        let p = seat_at s less in
        let f = (from_at s p.0 p.1).2 in
        let shape = (from_at s p.0 p.1).0.reader.shape in
        let rows : p.0.rows ≡ rows_of s front ++ entry.row ∷ rows_of s behind = sym (rows_are s p.0 p.1 f.source) ∙ (ap (rows_of s) whole ∙ (rows_of-append s front (entry ∷ behind) ∙ ap (λ (l : List Row). rows_of s front ++ l) (rows_first entry behind s refl))) in
        let is : IsRowIn shape entry.row = All-head (IsRowIn shape) entry.row (rows_of s behind) (all_behind (IsRowIn shape) (rows_of s front) (entry.row ∷ rows_of s behind) (subst (All (IsRowIn shape)) rows f.offered.rows)) in
        let own : IsRowFor plan entry.row = record {
          stamp = is.stamp;
          fields = subst (λ (ks : List Kind). AllZip IsFieldOf ks entry.row.fields) (ap (λ (x : Shape). map (λ i. i.kind) x.inputs) f.shape ∙ kinds-are plan.spec.streams) is.fields;
        } in
        subst (λ (q : Plan). IsRowFor q entry.row) (sym same) own

    few_entries : length journal ≤ 64 * 1099511627776
    few_entries =
        let few = journal_few (length olds) journal theirs (λ s less.
        let p = seat_at s less in
        let f = (from_at s p.0 p.1).2 in
        let shape = (from_at s p.0 p.1).0.reader.shape in
        subst (λ (rows : List Row). length rows ≤ most_rows) (sym (rows_are s p.0 p.1 f.source)) (subst (λ (x : Shape). length p.0.rows ≤ x.most) f.shape f.offered.few)) in
        let m = j.few in omega arith

    none_unfit : IsUnfit (length olds) from taker.taken to → ⊥
    none_unfit u =
        let behind = u.behind ++ left in
        let whole : journal ≡ u.front ++ u.entry ∷ behind = ap (λ (l : List Entry). l ++ left) u.joined ∙ append_assoc u.front (u.entry ∷ u.behind) left in
        let long : length journal ≡ length u.front + length (u.entry ∷ behind) = ap length whole ∙ length-append u.front (u.entry ∷ behind) in
        let counted = all_counted u.front in
        let a = u.run.accepted in
        let l = u.run.late in
        let few = few_entries in
        u.unfit (record {
          source = All-head (λ (e : Entry). e.row.source < length olds) u.entry behind (all_behind (λ (e : Entry). e.row.source < length olds) u.front (u.entry ∷ behind) (subst (AreOfSources (length olds)) whole theirs));
          row = fits u.front behind u.entry whole (ap (λ (s : Setting). s.plan) u.run.setting ∙ made);
          room = omega arith;
        })

    pub joins : (halted : Result (Unit {0}) Halt) → Halts halted (length olds) from taker.taken to → OnOk halted (taker.done ≡ true)
        → Joins halted (world first (map supply_of olds) out0 trace0) (world now (map supply_of news) out1 trace1)
    joins (Ok done) halts ends = all_came ends halts.0 halts.1
    joins (Err (halt.Stopped how)) halts ends = some_came how halts
    joins (Err halt.Unfit) halts ends = absurd (none_unfit halts)
