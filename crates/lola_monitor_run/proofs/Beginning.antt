-- Workers that are ready, and a run that has taken no row.
use Rattle.std.proofs.Common.{◌≡◌, ℕ, List, [], Option, None, true, length, refl, sym, ap, ◌∙◌, subst, arith}
use Rattle.std.proofs.lemmas.List.{length-replicate}
use Rattle.std.specs.Prelude.{map}
use Rattle.lola_port.specs.States.{SinkState}
use Rattle.lola_model.specs.Journal.{opening_time}
use Rattle.lola_model.specs.declared.plan.Plan.{Plan}
use Rattle.lola_model.specs.declared.journal.Entry.{Entry}
use Rattle.lola_merge.specs.Merging.{Merging, opening}
use Rattle.lola_feed.specs.Feeding.{Working, handed_in}
use Rattle.lola_monitor_run.specs.Running.{Keeping, setting_in}
use Rattle.lola_monitor_run.specs.Behind.{HasTakenNone, IsBehind, RanOutOfMemoryBehind}
use Rattle.lola_monitor_run.specs.Feeds.{AreReady, Feeding, IsFresh, IsIdle, Supply, World, supplies_of, supply_of, world}
use Rattle.lola_monitor_run.specs.Turning.{SoFar}
use Rattle.lola_monitor_run.proofs.Going.{begun, in_rounds}
use Rattle.lola_monitor_run.proofs.Rounding.{few_sources, fresh_sources}
use Rattle.lola_monitor_run.proofs.Runs.{all_now, legal_now, started}
use Rattle.lola_monitor_run.proofs.TextsBehind.{all_put_behind}

-- workers that are ready, at any merge object, have not begun
pub ready_fresh : (plan : Plan) (feed : Feeding) → AreReady plan feed.workers → IsFresh feed
ready_fresh plan feed ready = record {
  many = ready.many;
  none = λ s w is. let new = ready.new s w is in (ap (λ (x : Working). x.end) new.0, ap (λ (x : Working). handed_in x) new.0 ∙ new.1);
}

-- at a merge object that has just been made they are between turns
pub ready_idle : (kept : Keeping) (feed : Feeding) (sources : ℕ) (start : Option ℕ) → AreReady kept.state.plan feed.workers → opening_time start ≡ kept.state.merged
    → sources ≡ length feed.workers → feed.merging ≡ opening sources start → feed.batch ≡ [] → IsIdle feed kept
ready_idle kept feed sources start ready same many made batch = record {
  pending = ap (λ (m : Merging). m.pending) made;
  batch = batch;
  lets_in = ap (λ (m : Merging). m.closed) made;
  merged = ap (λ (m : Merging). m.merged) made ∙ same;
  many = ap (λ (m : Merging). length m.finished) made ∙ (length-replicate sources _ ∙ many);
  workers = λ s w is. (ready.new s w is).2;
}

-- what is said of the sources of a feed is said of the workers that it was made of, and of those that come out of it
pub over_workers : (Says : List Supply → List Supply → Type 0) (made left : Feeding) (olds news : List Working) (merging : Merging) (batch : List Entry) → made ≡ record { workers = olds; merging = merging; batch = batch }
    → news ≡ left.workers → Says (supplies_of made) (supplies_of left) → Says (map supply_of olds) (map supply_of news)
over_workers Says made left olds news merging batch is back says =
    subst (λ (ws : List Working). Says (map supply_of olds) (map supply_of ws)) (sym back) (subst (λ (feed : Feeding). Says (supplies_of feed) (supplies_of left)) is says)

-- a run for which there was no memory before its first row
cut_at_first : (first : World) (before : List Entry) → SoFar first 0 0 first → IsBehind before before first.kept → RanOutOfMemoryBehind true before first first
cut_at_first first before so stood = record {
  came = record {
    journal = so.journal;
    legal = legal_now first first refl before so.journal (so.stands before stood);
    sources = so.drawn.of_sources;
    traceable = so.traceable;
    rounds = λ turns. in_rounds first 0 0 first.sources so.journal (omega arith) so.drawn;
  };
  begun = begun first.sources first.sources so.journal so.drawn.fed;
  trace = so.trace;
  out = all_put_behind (setting_in first.kept) before so.journal first.out first.out (all_now first first refl before so.journal (so.stands before stood)) (so.out before stood);
}

-- a run of ready workers for which there was no memory to begin, or to go on
pub never_went_on : (kept : Keeping) (workers : List Working) (out trace : SinkState) (before : List Entry) → HasTakenNone kept → IsBehind before before kept → AreReady kept.state.plan workers
    → RanOutOfMemoryBehind true before (world kept (map supply_of workers) out trace) (world kept (map supply_of workers) out trace)
never_went_on kept workers out trace before none stood ready =
    let feed : Feeding = record { workers = workers; merging = opening 0 None; batch = [] } in
    cut_at_first (world kept (supplies_of feed) out trace) before
    (started (world kept (supplies_of feed) out trace) (few_sources feed ready.many.1) none (fresh_sources feed (ready_fresh kept.state.plan feed ready))) stood
