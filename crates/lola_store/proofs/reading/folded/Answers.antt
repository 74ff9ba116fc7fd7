use Rattle.std.proofs.Common.{◌≡◌, ◌∙◌, ◌++◌, ℕ, List, Option, Some, Bool, true, false, not, IsTrue, MatchOption, map, slice_get, refl, ap, sym, subst}
use Rattle.lola_value.specs.declared.text.Field.{Field}
use Rattle.lola_value.specs.declared.value.Kind.{Kind}
use Rattle.lola_value.specs.Naming.{Naming, read_outcome}
use Rattle.lola_model.specs.Accesses.{one_more}
use Rattle.lola_model.specs.Store.{instances_seen, is_outcome_of, gives_kind, kind_in, now_of, time_seen}
use Rattle.lola_model.specs.Typing.{takes}
use Rattle.lola_model.specs.Windows.{aggregated, values_within}
use Rattle.lola_store.specs.declared.instance.Instance.{Instance}
use Rattle.lola_store.specs.declared.population.Population.{Population}
use Rattle.lola_store.specs.declared.store.WholeStore.{WholeStore}
use Rattle.lola_store.specs.Instances.{RecallsAt}
use Rattle.lola_store.specs.Populations.{population_layout}
use Rattle.lola_instances.specs.Phases.{time_in, is_on}
use Rattle.lola_store.specs.Stores.{whole_seen, whole_remembers}
use Rattle.lola_store.specs.Tallies.{AllOf, read_timed}
use Rattle.lola_store.proofs.Asking.{now_found}
use Rattle.lola_instances.proofs.Phases.{phase_time}
use Rattle.lola_store.proofs.Changing.{stream_read}
use Rattle.lola_store.proofs.Places.{found_below, layout_at, right_at}
use Rattle.lola_store.proofs.reading.folded.Goals as goal

not_true : (b : Bool) → not b ≡ true → false ≡ b
not_true true e = cc
not_true false e = refl

kind_is : (s : WholeStore) (n : ℕ) (l : Population) → slice_get s.streams.items n ≡ Some l → kind_in (slice_get (map population_layout s.streams.items) n) ≡ l.kind
kind_is s n l e = ap kind_in (layout_at s.streams.items n l e)

pub instance-life-requires : goal.instance-life-requires
instance-life-requires c = found_below c.args.params.now (instances_seen (whole_seen c.args.s.now) c.args.w.now.target) c.in-Some.i c.in-Some.ensures

pub aggregate-requires-in-Some-clause-kinds : goal.aggregate-requires-in-Some-clause-kinds
aggregate-requires-in-Some-clause-kinds c =
    let s = c.args.s.now in
    let n = c.args.w.now.target in
    let l = c.index.result.now in
    let e = stream_read s.streams.items n l c.requires.fits.stream c.index.ensures in
    subst (AllOf l.kind) (sym c.as_slice.ensures.value) (right_at (is_on s.phase) s.prepared s.step s.streams.items n c.in-Some.i l c.instance-life.result.now s.right e c.instance-life.ensures).values

pub aggregate-requires-in-Some-clause-fit : goal.aggregate-requires-in-Some-clause-fit
aggregate-requires-in-Some-clause-fit c =
    let s = c.args.s.now in
    let n = c.args.w.now.target in
    let l = c.index.result.now in
    let e = stream_read s.streams.items n l c.requires.fits.stream c.index.ensures in
    subst (λ (k : Kind). IsTrue (takes c.args.w.now.using k)) (kind_is s n l e) c.requires.taken

pub returns-in-None-clause-kind : goal.returns-in-None-clause-kind
returns-in-None-clause-kind c =
    let s = c.args.s.now in
    let n = c.args.w.now.target in
    let l = c.index.result.now in
    let e = stream_read s.streams.items n l c.requires.fits.stream c.index.ensures in
    subst (λ (k : Kind). IsTrue (is_outcome_of (gives_kind c.args.w.now.using k) c.aggregate.result)) (sym (kind_is s n l e)) c.aggregate.ensures.kind

pub returns-in-Some-clause-kind : goal.returns-in-Some-clause-kind
returns-in-Some-clause-kind c =
    let s = c.args.s.now in
    let n = c.args.w.now.target in
    let l = c.index.result.now in
    let e = stream_read s.streams.items n l c.requires.fits.stream c.index.ensures in
    subst (λ (k : Kind). IsTrue (is_outcome_of (gives_kind c.args.w.now.using k) c.aggregate-in-Some.result)) (sym (kind_is s n l e)) c.aggregate-in-Some.ensures.kind

pub returns-in-Some-clause-living : goal.returns-in-Some-clause-living
returns-in-Some-clause-living c =
    let s = c.args.s.now in
    let w = c.args.w.now in
    let n = w.target in
    let p = c.args.params.now in
    let l = c.index.result.now in
    let x = c.instance-life.result.now in
    let r = c.aggregate-in-Some.result in
    let e = stream_read s.streams.items n l c.requires.fits.stream c.index.ensures in
    let kd = kind_is s n l e in
    let nf = now_found s n p c.in-Some.i x (not_true _ c.requires.good) c.in-Some.ensures c.instance-life.ensures in
    let te : c.time_of-time.result ≡ time_seen (whole_seen s) = c.time_of-time.ensures ∙ sym (phase_time s.phase) in
    let tp : time_in s.phase ≡ time_seen (whole_seen s) = sym (phase_time s.phase) in
    let k = kind_in (slice_get (map population_layout s.streams.items) n) in
    subst (λ (o : Option ℕ). MatchOption o
    ((names : Naming) → read_outcome names r ≡ aggregated w.using k (values_within w.over (time_seen (whole_seen s)) (one_more (time_seen (whole_seen s)) (read_outcome names (now_of (whole_seen s) n p)))))
    (λ i. (names : Naming) (values : List (ℕ × Field)) → whole_remembers s names n i values
    → read_outcome names r ≡ aggregated w.using k (values_within w.over (time_seen (whole_seen s)) (values ++ one_more (time_seen (whole_seen s)) (read_outcome names (now_of (whole_seen s) n p)))))) c.in-Some.ensures
    (λ names values m.
    let h = subst (λ (o : Option Instance). RecallsAt (time_in s.phase) s.step names o values) c.instance-life.ensures m in
    let all = ap (map (read_timed names)) c.as_slice.ensures.value ∙ (h.all ∙ (λ j. values ++ one_more (tp j) (read_outcome names (nf j)))) in
    c.aggregate-in-Some.ensures.value names ∙ (λ j. aggregated w.using (sym kd j) (values_within w.over (te j) (all j))))
