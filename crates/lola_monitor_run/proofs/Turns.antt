-- What a turn of a worker is to the sources of a feed.
use Rattle.std.proofs.Common.{◌≡◌, ℕ, ◌⊎◌, List, [], ◌∷◌, ◌++◌, Option, Some, None, true, false, map, length, set, length-set, refl, sym, ap, ◌∙◌, subst, inl, inr, arith}
use Rattle.std.proofs.lemmas.List.{map-set}
use Rattle.std.proofs.lemmas.Option.{slice_get_within}
use Rattle.std.specs.Prelude.{option_map, slice_get}
use Rattle.std.specs.Option.{option_to_list}
use Rattle.std.specs.List.{AllZip}
use mathlib.Core.Logic.{dite}
use native.Mathlib.Decide.{ℕ_discrete}
use Rattle.lola_value.specs.declared.value.Kind.{Kind}
use Rattle.lola_model.specs.Journal.{IsRightlyMarked, time_after}
use Rattle.lola_model.specs.Trace.{IsFieldOf}
use Rattle.lola_model.specs.declared.plan.Plan.{Plan}
use Rattle.lola_model.specs.declared.journal.Row.{Row}
use Rattle.lola_model.specs.declared.journal.Entry.{Entry}
use Rattle.lola_model.specs.declared.journal.Mark.TheVariants as mark
use Rattle.lola_rows.specs.Rows.{SourceEnd, SourceRows, Whole, MalformedAt}
use Rattle.lola_rows.specs.Reading as reader
use Rattle.lola_rows.specs.declared.answer.Ending.{Ending}
use Rattle.lola_rows.specs.declared.answer.Ending.TheVariants as ending
use Rattle.lola_rows.proofs.Composing.{kinds-are}
use Rattle.lola_step.proofs.Shown.{set_else, set_here}
use Rattle.lola_merge.specs.Merging.{Merging, OfferIsDue, finish_after, marked, offer_after, offer_reply, replied, sources_of}
use Rattle.lola_merge.specs.declared.state.Offer.{Offer}
use Rattle.lola_merge.specs.declared.state.Offer.TheVariants as reply
use Rattle.lola_merge.proofs.Answering.{offer_is_due}
use Rattle.lola_feed.specs.Feeding.{Finishes, IsNext, StateIs, Turns, Working, end_of, finishes_at, handed_in, led_by, offers_at, to_come, without}
use Rattle.lola_feed.specs.declared.worker.SourceEnd as worker
use Rattle.lola_feed.specs.declared.worker.TurnEnd.{TurnEnd}
use Rattle.lola_feed.specs.declared.worker.TurnEnd.TheVariants as turn
use Rattle.lola_monitor_run.specs.Verdicts.{most_rows}
use Rattle.lola_monitor_run.specs.Running.{IsNext as IsNextFor, IsRowFor, Keeping}
use Rattle.lola_monitor_run.specs.Feeds.{AreInPlace, AreOfPlan, Feeding, IsAt, IsIdle, Passes, supplies_of, supply_of}
use Rattle.lola_monitor_run.specs.Turning.{Finished, Rested, Stopped, TookEntry, TookRow, TookTurn, Touched}
use Rattle.lola_monitor_run.proofs.Lists.{at_mapped, mapped_same, some_is}

-- rows and an end, by their parts
pub both_parts : (a : SourceRows) (rows : List Row) (end : SourceEnd) → a.rows ≡ rows → a.end ≡ end → a ≡ record { rows = rows; end = end }
both_parts a rows end first second = ap (λ (r : List Row). record { rows = r; end = a.end }) first ∙ ap (λ e. record { rows = rows; end = e }) second

pub passes_are : (old new : Option SourceRows) (rows : List Row) → reader.Passes old new rows → Passes old new rows
passes_are old new rows passes all is =
    let f = passes all is in
    (f.rest, f.left_is, both_parts all (rows ++ f.rest.rows) f.rest.end f.rows_are f.end_is)

pub at_is : (old : Option SourceRows) (end : SourceEnd) → reader.Ends old end → IsAt end old
at_is old end ends all is = let e = ends all is in both_parts all [] end e.0 e.1

-- with no row that waits, what is to come of a worker is what its reader gives
pub none_waits : (rest : Option SourceRows) → option_map (led_by None) rest ≡ rest
none_waits None = refl
none_waits (Some rows) = refl

pub to_come_is : (w : Working) → w.kept ≡ None → to_come w ≡ reader.rest_of w.reader
to_come_is w none = ap (λ (k : Option Row). option_map (led_by k) (reader.rest_of w.reader)) none ∙ none_waits (reader.rest_of w.reader)

-- how a merge object with nothing pending lets a row in
record LetIn (m : Merging) (row : Row) (after : Merging) : Type 0 where
  pub entry : Entry
  pub row_is : entry.row ≡ row
  pub mark : IsRightlyMarked m.merged entry
  pub pending : after.pending ≡ entry ∷ []
  pub merged : after.merged ≡ time_after m.merged entry
  pub lets_in : after.closed ≡ false
  pub finished : after.finished ≡ m.finished

let_in : (m : Merging) (row : Row) (r : Offer) → OfferIsDue m.closed (length m.pending) m.merged row r → m.closed ≡ false → m.pending ≡ [] → LetIn m row (replied m row r)
let_in m row reply.Accepted due opened none = record {
  entry = marked row mark.Accepted;
  row_is = refl;
  mark = due.2;
  pending = ap (λ l. l ++ marked row mark.Accepted ∷ []) none;
  merged = refl;
  lets_in = opened;
  finished = refl;
}
let_in m row (reply.Late t) due opened none = record {
  entry = marked row (mark.Late t);
  row_is = refl;
  mark = (due.0, due.3);
  pending = ap (λ l. l ++ marked row (mark.Late t) ∷ []) none;
  merged = refl;
  lets_in = opened;
  finished = refl;
}
let_in m row (reply.Full r) due opened none = let past = due.2 in let few = ap length none in absurd (omega arith)
let_in m row (reply.Closed r) due opened none = absurd (cc (due.1, opened))

module _ (s : ℕ) (old new : Feeding) (kept : Keeping) (idle : IsIdle old kept) where
  -- a worker and its change, as sources
  abbrev touched : (before after : Working) → slice_get old.workers s ≡ Some before → new.workers ≡ set old.workers s after → before.end ≡ None → Touched s (supplies_of old) (supplies_of new)
  touched before after was now went_on = record {
    old = supply_of before;
    new = supply_of after;
    was = at_mapped supply_of old.workers s before was;
    now = ap (map supply_of) now ∙ map-set supply_of old.workers s after;
    went_on = went_on;
  }

  -- the row that a worker read fits the plan
  fits : (w : Working) (row : Row) → slice_get old.workers s ≡ Some w → reader.IsRowOf w.reader.shape (handed_in w) row → IsRowFor kept.state.plan row
  fits w row was is = record {
    stamp = is.stamp;
    fields = subst (λ (ks : List Kind). AllZip IsFieldOf ks row.fields) (ap (λ (x : reader.Shape). map (λ i. i.kind) x.inputs) (idle.workers s w was) ∙ kinds-are kept.state.plan.spec.streams) is.fields;
  }

  took_row : (before after : Working) (row : Row) → slice_get old.workers s ≡ Some before → new.workers ≡ set old.workers s after → before.end ≡ None
      → IsNext row before after.reader → after.kept ≡ None → after.end ≡ None → TookRow kept.state.plan s row (supplies_of old) (supplies_of new)
  took_row before after row was now went_on next none goes_on =
      let shape = idle.workers s before was in
      let given : handed_in after ≡ after.reader.given = ap (λ (k : Option Row). without k after.reader.given) none in
      let waiting = ap (λ (k : Option Row). length (option_to_list k)) none in
      record {
        at = touched before after was now went_on;
        goes_on = goes_on;
        source = next.is_row.source ∙ ap (λ (x : reader.Shape). x.index) shape;
        fits = fits before row was next.is_row;
        passes = passes_are (to_come before) (to_come after) (row ∷ []) (subst (λ rest. reader.Passes (to_come before) rest (row ∷ [])) (sym (to_come_is after none)) next.passes);
        number = given ∙ next.given ∙ next.is_row.number;
        few = let n0 : handed_in after ≡ after.reader.given = given in let most = ap (λ (x : reader.Shape). x.most) shape in let within = next.is_row.within in let n = next.given in omega arith;
        count = next.count;
        less = let less = next.less in omega arith;
      }

  -- the reader of a worker had no row
  stopped : (how : Ending) (before after : Working) → before.kept ≡ None → reader.Stops how before.reader after.reader → Stopped (end_of how) (supply_of before) (supply_of after)
  stopped ending.End before after none stops = (subst (IsAt Whole) (sym (to_come_is before none)) (at_is _ Whole stops.0), stops.1)
  stopped (ending.Malformed kind row) before after none stops = (subst (IsAt (MalformedAt kind row)) (sym (to_come_is before none)) (at_is _ (MalformedAt kind row) stops.0), stops.2)
  stopped ending.ReadFailed before after none stops = stops.rose
  stopped ending.Memory before after none stops = tt

-- a row that a source handed in is pending
pub record GaveEntry (s : ℕ) (old mid : Feeding) (kept : Keeping) : Type 0 where
  pub entry : Entry
  pub took : TookRow kept.state.plan s entry.row (supplies_of old) (supplies_of mid)
  pub mark : IsNextFor kept entry
  pub pending : mid.merging.pending ≡ entry ∷ []
  pub merged : mid.merging.merged ≡ time_after kept.state.merged entry
  pub lets_in : mid.merging.closed ≡ false
  pub sources : sources_of mid.merging ≡ sources_of old.merging

-- a source handed in nothing
pub record GaveNone (answer : TurnEnd) (s : ℕ) (old mid : Feeding) (kept : Keeping) : Type 0 where
  pub sat : Rested s (supplies_of old) (supplies_of mid) ⊎ ((how : worker.SourceEnd) × (answer ≡ turn.Done how) × Finished s how (supplies_of old) (supplies_of mid))
  pub pending : mid.merging.pending ≡ []
  pub merged : mid.merging.merged ≡ kept.state.merged
  pub lets_in : mid.merging.closed ≡ false
  pub sources : sources_of mid.merging ≡ sources_of old.merging

module _ (s : ℕ) (old mid : Feeding) (kept : Keeping) (idle : IsIdle old kept) where
  desk : Feeding → StateIs
  desk feed = record { merging = feed.merging; source = s }

  -- what an idle merge object answers to a row
  due : (row : Row) (r : Offer) → r ≡ offer_reply old.merging row → OfferIsDue old.merging.closed (length old.merging.pending) old.merging.merged row r
  due row r is = subst (λ (x : Offer). OfferIsDue old.merging.closed (length old.merging.pending) old.merging.merged row x) (sym is) (offer_is_due old.merging row)

  gave_entry : (before after : Working) (row : Row) (r : Offer) → slice_get old.workers s ≡ Some before → mid.workers ≡ set old.workers s after → before.end ≡ None
      → IsNext row before after.reader → after.kept ≡ None → after.end ≡ None → r ≡ offer_reply old.merging row → mid.merging ≡ offer_after old.merging row → GaveEntry s old mid kept
  gave_entry before after row r was now went_on next none goes_on answer merging =
      let l = let_in old.merging row r (due row r answer) idle.lets_in idle.pending in
      let is : mid.merging ≡ replied old.merging row r = merging ∙ ap (replied old.merging row) (sym answer) in
      record {
        entry = l.entry;
        took = subst (λ (x : Row). TookRow kept.state.plan s x (supplies_of old) (supplies_of mid)) (sym l.row_is) (took_row s old mid kept idle before after row was now went_on next none goes_on);
        mark = subst (λ (t : ℕ). IsRightlyMarked t l.entry) idle.merged l.mark;
        pending = ap (λ (m : Merging). m.pending) is ∙ l.pending;
        merged = ap (λ (m : Merging). m.merged) is ∙ (l.merged ∙ ap (λ (t : ℕ). time_after t l.entry) idle.merged);
        lets_in = ap (λ (m : Merging). m.closed) is ∙ l.lets_in;
        sources = ap (λ (m : Merging). length m.finished) is ∙ ap length l.finished;
      }

  rested : (how : worker.SourceEnd) (answer : TurnEnd) (before after : Working) → slice_get old.workers s ≡ Some before → mid.workers ≡ set old.workers s after → before.end ≡ Some how → after ≡ before
      → mid.merging ≡ old.merging → GaveNone answer s old mid kept
  rested how answer before after was now over same merging = record {
    sat = inl (record {
      source = supply_of before;
      how = how;
      was = at_mapped supply_of old.workers s before was;
      over = over;
      same = mapped_same supply_of old.workers mid.workers s before after was now (ap supply_of same);
    });
    pending = ap (λ (m : Merging). m.pending) merging ∙ idle.pending;
    merged = ap (λ (m : Merging). m.merged) merging ∙ idle.merged;
    lets_in = ap (λ (m : Merging). m.closed) merging ∙ idle.lets_in;
    sources = ap sources_of merging;
  }

  finished : (how : Ending) (before after : Working) → slice_get old.workers s ≡ Some before → mid.workers ≡ set old.workers s after → before.end ≡ None
      → Finishes offers_at finishes_at (desk old) (desk mid) how before after → mid.merging ≡ finish_after old.merging s → GaveNone (turn.Done (end_of how)) s old mid kept
  finished how before after was now went_on f merging = record {
    sat = inr (
      end_of how,
      refl,
      record {
        at = touched s old mid kept idle before after was now went_on;
        over = f.end;
        stopped = stopped s old mid kept idle how before after f.none f.stops;
      },
    );
    pending = ap (λ (m : Merging). m.pending) merging ∙ idle.pending;
    merged = ap (λ (m : Merging). m.merged) merging ∙ idle.merged;
    lets_in = ap (λ (m : Merging). m.closed) merging ∙ idle.lets_in;
    sources = ap sources_of merging ∙ length-set old.merging.finished s true;
  }

  pub after_turn : (answer : TurnEnd) → TookTurn s answer old mid → GaveEntry s old mid kept ⊎ GaveNone answer s old mid kept
  unfolding desk
  after_turn turn.Moved t =
      let m = t.turns.1.2 in
      inl (gave_entry t.before t.after t.turns.1.0 t.turns.1.1 t.was t.now t.turns.0 m.next m.kept m.end m.offered.0 (ap (λ (d : StateIs). d.merging) m.offered.1))
  after_turn turn.Full t =
      let w = t.turns.1.1 in
      let fits = due t.turns.1.0 (reply.Full t.turns.1.0) w.offered.0 in
      let past = fits.2 in let few = ap length idle.pending in absurd (omega arith)
  after_turn (turn.Done how) t = by_end t.turns
    where
      by_end : Turns offers_at finishes_at (desk old) (desk mid) (turn.Done how) t.before t.after → GaveEntry s old mid kept ⊎ GaveNone (turn.Done how) s old mid kept
      by_end (inl r) = inr (rested how (turn.Done how) t.before t.after t.was t.now r.ended r.same (ap (λ (d : StateIs). d.merging) r.desk))
      by_end (inr (went_on, inl shut)) =
          let fits = due shut.1.0 (reply.Closed shut.1.0) shut.1.1.offered.0 in
          absurd (cc (fits.1, idle.lets_in))
      by_end (inr (went_on, inr f)) =
          inr (subst (λ (e : worker.SourceEnd). GaveNone (turn.Done e) s old mid kept) (sym f.1) (finished f.0 t.before t.after t.was t.now went_on f.2 (ap (λ (d : StateIs). d.merging) f.2.finished)))

-- after a turn, and once what it handed in was taken out, a feed waits for the next
module _ (s : ℕ) (old mid new : Feeding) (kept after : Keeping) (idle : IsIdle old kept) (answer : TurnEnd) (t : TookTurn s answer old mid) (entry : Option Entry) (took : TookEntry entry mid new) where
  shapes : after.state.plan ≡ kept.state.plan → AreOfPlan after.state.plan new.workers
  shapes plan k w is = dite (ℕ_discrete k s)
      (λ same.
      let before = idle.workers s t.before t.was in
      let there = slice_get_within old.workers s t.before t.was in
      let w_is : w ≡ t.after = some_is (sym is ∙ (ap (λ l. slice_get l k) (took.workers ∙ t.now) ∙ (ap (λ n. slice_get (set old.workers s t.after) n) same ∙ set_here old.workers s t.after there))) in
      ap (λ (x : Working). x.reader.shape) w_is ∙ (t.kept.shape ∙ (before ∙ (ap (λ n. reader.shape_of kept.state.plan.spec.streams n most_rows) (sym same) ∙ ap (λ (p : Plan). reader.shape_of p.spec.streams k most_rows) (sym plan)))))
      (λ apart.
      idle.workers k w (sym (ap (λ l. slice_get l k) (took.workers ∙ t.now) ∙ set_else old.workers s k t.after apart) ∙ is)
      ∙ ap (λ (p : Plan). reader.shape_of p.spec.streams k most_rows) (sym plan))

  pub idle_next : after.state.plan ≡ kept.state.plan → new.batch ≡ [] → mid.merging.closed ≡ false → mid.merging.merged ≡ after.state.merged → sources_of mid.merging ≡ sources_of old.merging → IsIdle new after
  idle_next plan batch lets_in merged sources = record {
    pending = ap (λ (m : Merging). m.pending) took.merging;
    batch = batch;
    lets_in = ap (λ (m : Merging). m.closed) took.merging ∙ lets_in;
    merged = ap (λ (m : Merging). m.merged) took.merging ∙ merged;
    many = ap (λ (m : Merging). length m.finished) took.merging ∙ (sources ∙ (idle.many ∙ (sym (length-set old.workers s t.after) ∙ ap length (sym (took.workers ∙ t.now)))));
    workers = shapes plan;
  }

-- a worker keeps its place
pub in_place : (s : ℕ) (answer : TurnEnd) (old mid : Feeding) → TookTurn s answer old mid → AreInPlace old.workers mid.workers
in_place s answer old mid t = mapped_same (λ (w : Working). w.reader.source.place) old.workers mid.workers s t.before t.after t.was t.now t.kept.place

pub in_place_then : (s : ℕ) (answer : TurnEnd) (old mid new : Feeding) (entry : Option Entry) → TookTurn s answer old mid → TookEntry entry mid new → AreInPlace old.workers new.workers
in_place_then s answer old mid new entry t took = ap (λ (ws : List Working). map (λ (w : Working). w.reader.source.place) ws) took.workers ∙ in_place s answer old mid t
