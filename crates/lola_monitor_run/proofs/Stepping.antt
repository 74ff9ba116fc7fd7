-- One turn of a run, by what became of its row.
use Rattle.std.proofs.Common.{◌≡◌, ℕ, [], ◌∷◌, ◌++◌, ◌⊎◌, List, Option, Some, None, Result, Ok, Err, false, inl, inr, refl, sym, ap, ◌∙◌, subst}
use Rattle.std.specs.Option.{option_to_list}
use Rattle.std.specs.Prelude.{OnOk}
use Rattle.lola_port.specs.States.{SinkState, grown}
use Rattle.lola_model.specs.Journal.{time_after}
use Rattle.lola_model.specs.Trace.{IsTraceable, trace_line}
use Rattle.lola_model.specs.declared.journal.Entry.{Entry}
use Rattle.lola_merge.specs.Merging.{sources_of}
use Rattle.lola_feed.specs.declared.worker.SourceEnd.TheVariants as end
use Rattle.lola_feed.specs.declared.worker.TurnEnd.{TurnEnd}
use Rattle.lola_feed.specs.declared.worker.TurnEnd.TheVariants as turn
use Rattle.lola_monitor_run.specs.Verdicts.{Setting}
use Rattle.lola_monitor_run.specs.Running.{IsNext, IsSetAs, Keeping, Puts, WasNotTraced}
use Rattle.lola_monitor_run.specs.Behind.{Enters, HasTaken, Takes, WasTraced}
use Rattle.lola_monitor_run.specs.declared.stop.Stop.{Stop}
use Rattle.lola_monitor_run.specs.declared.stop.Stop.TheVariants as stop
use Rattle.lola_monitor_run.specs.Feeds.{Feeding, IsIdle, IsSound, Supply, supplies_of, world}
use Rattle.lola_monitor_run.specs.Turning.{IsOutOfMemory, NotTraced, Passed, RunsTaken, SatOut, Steps, TookEntry, TookRow, TookTurn, Touched, Traced}
use Rattle.lola_monitor_run.proofs.Lists.{some_not}
use Rattle.lola_monitor_run.proofs.Turns.{GaveEntry, GaveNone, after_turn, idle_next}

-- a source that goes on has not failed
sound_on : (source : Supply) → source.end ≡ None → IsSound source
sound_on source none failed = some_not (sym failed ∙ none)

module _ (k0 : Keeping) (o0 t0 : SinkState) (entry : Entry) (mark : IsNext k0 entry) (told : IsTraceable k0.state.plan entry) (s : ℕ) (olds news : List Supply) (took : TookRow k0.state.plan s entry.row olds news) where
  -- a row was taken, and its trace line was not put whole
  not_traced : (t1 : SinkState) (how : Stop) → Puts (Err how) (trace_line entry) t0 t1 → Steps (Err how) s (world k0 olds o0 t0) (world k0 news o0 t1)
  not_traced t1 (stop.Fault stream kind time) puts = absurd puts
  not_traced t1 (stop.CutFault stream kind time) puts = absurd puts
  not_traced t1 stop.Put puts = inl (record { at = took.at; sound = sound_on took.at.new took.goes_on; entry = entry; traceable = told; trace = puts; out = refl })
  not_traced t1 stop.Memory puts = inl (record { touched = inr (took.at, sound_on took.at.new took.goes_on); trace = puts; out = refl })

  -- a row was taken, traced, and given to the run
  module _ (k1 : Keeping) (o1 t1 : SinkState) (trace : t1 ≡ grown t0 (trace_line entry)) where
    abbrev traced : Traced s entry (world k0 olds o0 t0) (world k1 news o1 t1)
    traced = record { took = took; mark = mark; traceable = told; trace = trace }

    stepped : (result : Result (Unit {0}) Stop) → Takes result entry k0 k1 o0 o1 → OnOk result (HasTaken entry k0 k1) → IsSetAs k0 k1 → RunsTaken result s (world k0 olds o0 t0) (world k1 news o1 t1)
    stepped (Ok done) takes taken setting = record { entry = entry; traced = traced; setting = setting; taken = taken; runs = takes }
    stepped (Err (stop.Fault stream kind time)) takes taken setting = record { entry = entry; traced = traced; accepted = takes.1; runs = takes.0 }
    stepped (Err (stop.CutFault stream kind time)) takes taken setting = record { entry = entry; traced = traced; accepted = takes.1; runs = takes.0 }
    stepped (Err stop.Put) takes taken setting = inr (record { entry = entry; traced = traced; accepted = takes.1; runs = takes.0 })
    stepped (Err stop.Memory) takes taken setting = inr (record { entry = entry; traced = traced; runs = takes })

-- a row was taken, and its entry was to be traced and run
module _ (k0 k1 : Keeping) (o0 o1 t0 t1 : SinkState) (entry : Entry) (mark : IsNext k0 entry) (s : ℕ) (olds news : List Supply) (took : TookRow k0.state.plan s entry.row olds news) (result : Result (Unit {0}) Stop) where
  was_not_traced : IsTraceable k0.state.plan entry → WasNotTraced result entry k0 k1 o0 o1 t0 t1 → RunsTaken result s (world k0 olds o0 t0) (world k1 news o1 t1)
  was_not_traced told n =
      subst (λ (r : Result (Unit {0}) Stop). RunsTaken r s (world k0 olds o0 t0) (world k1 news o1 t1)) (sym n.is)
      (subst (λ (k : Keeping). RunsTaken (Err n.how) s (world k0 olds o0 t0) (world k news o1 t1)) (sym n.kept)
      (subst (λ (o : SinkState). RunsTaken (Err n.how) s (world k0 olds o0 t0) (world k0 news o t1)) (sym n.out) (not_traced k0 o0 t0 entry mark told s olds news took t1 n.how n.puts)))

  pub entered : Enters result entry k0 k1 o0 o1 t0 t1 → OnOk result (HasTaken entry k0 k1) → IsSetAs k0 k1 → RunsTaken result s (world k0 olds o0 t0) (world k1 news o1 t1)
  entered e taken setting = by_both e.does
    where
      by_both : WasNotTraced result entry k0 k1 o0 o1 t0 t1 ⊎ WasTraced result entry k0 k1 o0 o1 t0 t1 → RunsTaken result s (world k0 olds o0 t0) (world k1 news o1 t1)
      by_both (inl n) = was_not_traced e.told n
      by_both (inr w) = stepped k0 o0 t0 entry mark e.told s olds news took k1 o1 t1 w.trace result w.takes taken setting

module _ (s : ℕ) (old mid new : Feeding) (kept : Keeping) (idle : IsIdle old kept) (answer : TurnEnd) (t : TookTurn s answer old mid) where
  -- there was no memory for a row
  pub out_of_memory : (o t0 : SinkState) → IsOutOfMemory answer → NotTraced s (world kept (supplies_of old) o t0) (world kept (supplies_of mid) o t0)
  out_of_memory o t0 is = by_answer (after_turn s old mid kept idle answer t)
    where
      cut : (supplies_of mid ≡ supplies_of old) ⊎ ((at : Touched s (supplies_of old) (supplies_of mid)) × IsSound at.new) → NotTraced s (world kept (supplies_of old) o t0) (world kept (supplies_of mid) o t0)
      cut touched = record { touched = touched; trace = refl; out = refl }

      by_answer : GaveEntry s old mid kept ⊎ GaveNone answer s old mid kept → NotTraced s (world kept (supplies_of old) o t0) (world kept (supplies_of mid) o t0)
      by_answer (inl gave) = cut (inr (gave.took.at, sound_on gave.took.at.new gave.took.goes_on))
      by_answer (inr none) = elim none.sat [
        | inl r ↦ cut (inl r.same)
        | inr f ↦ cut (inr (
          f.2.at,
          λ failed.
              let e : turn.Done f.0 ≡ turn.Done end.Memory = sym f.1 ∙ is in
              let d : Some f.0 ≡ Some end.ReadFailed = sym f.2.over ∙ failed in
              absurd (cc (e, d)),
        ))
      ]

  module _ (entry : Option Entry) (took : TookEntry entry mid new) where
    sources_same : supplies_of new ≡ supplies_of mid
    sources_same = ap (λ ws. supplies_of (record { workers = ws; merging = new.merging; batch = new.batch })) took.workers

    -- nothing was pending: the source had no row
    module _ (none : entry ≡ None) (enough : IsOutOfMemory answer → ⊥) where
      empty : new.batch ≡ []
      empty = sym (sym (took.none none) ∙ (took.pending ∙ ap (λ e. option_to_list e ++ new.batch) none))

      pub sat_out : (o t0 : SinkState) → Passed s (world kept (supplies_of old) o t0) (world kept (supplies_of new) o t0)
      sat_out o t0 = by_answer (after_turn s old mid kept idle answer t)
        where
          by_answer : GaveEntry s old mid kept ⊎ GaveNone answer s old mid kept → Passed s (world kept (supplies_of old) o t0) (world kept (supplies_of new) o t0)
          by_answer (inl gave) = let p = took.none none in let q = gave.pending in absurd (cc (p, q))
          by_answer (inr g) = record {
            out_of = subst (SatOut s (supplies_of old)) (sym sources_same) (elim g.sat [
              | inl r ↦ inl r
              | inr f ↦ inr (f.0, ((λ is. enough (f.1 ∙ ap turn.Done is)), f.2))
            ]);
            only = record { kept = refl; trace = refl; out = refl };
          }

      pub idle_still : IsIdle new kept
      idle_still = by_answer (after_turn s old mid kept idle answer t)
        where
          by_answer : GaveEntry s old mid kept ⊎ GaveNone answer s old mid kept → IsIdle new kept
          by_answer (inl gave) = let p = took.none none in let q = gave.pending in absurd (cc (p, q))
          by_answer (inr g) = idle_next s old mid new kept kept idle answer t entry took refl empty g.lets_in g.merged g.sources

    -- an entry was pending
    pub record Gave (e : Entry) : Type 0 where
      pub took_row : TookRow kept.state.plan s e.row (supplies_of old) (supplies_of new)
      pub mark : IsNext kept e
      pub merged : mid.merging.merged ≡ time_after kept.state.merged e
      pub rest : new.batch ≡ []
      pub lets_in : mid.merging.closed ≡ false

    module _ (e : Entry) (some : entry ≡ Some e) where
      pending_is : mid.merging.pending ≡ e ∷ new.batch
      pending_is = took.pending ∙ ap (λ x. option_to_list x ++ new.batch) some

      pub gave_it : Gave e
      gave_it = by_answer (after_turn s old mid kept idle answer t)
        where
          by_answer : GaveEntry s old mid kept ⊎ GaveNone answer s old mid kept → Gave e
          by_answer (inl gave) =
              let both : e ∷ new.batch ≡ gave.entry ∷ [] = sym pending_is ∙ gave.pending in
              let same : gave.entry ≡ e = cc (both) in
              let none : new.batch ≡ [] = cc (both) in
              record {
                took_row = subst (λ l. TookRow kept.state.plan s e.row (supplies_of old) l) (sym sources_same) (subst (λ (x : Entry). TookRow kept.state.plan s x.row (supplies_of old) (supplies_of mid)) same gave.took);
                mark = subst (λ (x : Entry). IsNext kept x) same gave.mark;
                merged = gave.merged ∙ ap (time_after kept.state.merged) same;
                rest = none;
                lets_in = gave.lets_in;
              }
          by_answer (inr g) = let p = pending_is in let q = g.pending in absurd (cc (p, q))

      pub idle_then : (after : Keeping) → after.state.merged ≡ time_after kept.state.merged e → IsSetAs kept after → IsIdle new after
      idle_then after merged setting =
          let g = gave_it in
          idle_next s old mid new kept after idle answer t entry took (ap (λ (x : Setting). x.plan) setting) g.rest g.lets_in (g.merged ∙ sym merged) (sources_of_turn (after_turn s old mid kept idle answer t))
        where
          sources_of_turn : GaveEntry s old mid kept ⊎ GaveNone answer s old mid kept → sources_of mid.merging ≡ sources_of old.merging
          sources_of_turn (inl g) = g.sources
          sources_of_turn (inr g) = g.sources
