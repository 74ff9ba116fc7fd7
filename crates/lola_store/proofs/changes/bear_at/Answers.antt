use Rattle.std.proofs.Common.{◌≡◌, ◌∙◌, ◌-◌, ◌<◌, ◌≤◌, ◌++◌, ◌∷◌, [], List, length, map, Some, Option, slice_get, slice_set, true, IsTrue, refl, ap, sym, subst, arith, nat_eq, eq-eqb}
use Rattle.std.proofs.lemmas.List.{map-append, length-append}
use Rattle.lola_model.specs.Store.{SeenStream, StreamLayout, kind_in}
use Rattle.lola_model.specs.Typing.{takes}
use Rattle.lola_model.specs.declared.spec.WindowSpec.{WindowSpec}
use Rattle.lola_store.specs.declared.instance.Instance.{Instance}
use Rattle.lola_store.specs.declared.population.Population.{Population}
use Rattle.lola_instances_stream.specs.Each.{Each}
use Rattle.lola_store.specs.Instances.{instance_seen, RecallsAt, InstanceRight}
use Rattle.lola_store.specs.Populations.{population_layout, population_seen, instance_at, PopulationRight}
use Rattle.lola_instances.specs.Phases.{phase_in, time_in, is_on}
use Rattle.lola_store.specs.Stores.{whole_seen}
use Rattle.lola_instances_stream.proofs.Lists.{same_set, each-set, each-append, got_last}
use Rattle.lola_store.proofs.Places.{layout_at}
use Rattle.lola_instances.proofs.Phases.{running_is_on}
use Rattle.lola_instances.proofs.Owed.{owed_fall, owed_some}
use Rattle.lola_store.proofs.Changing.{stream_read, layout_set, changed_set, past_set}
use Rattle.lola_value.specs.Naming.{the_values}
use Rattle.lola_model.specs.Store.{newborn_seen, time_seen, are_of_kinds, parameters_of, instances_of}
use Rattle.lola_store.specs.Populations.{lives_in}
use Rattle.lola_store.proofs.Places.{lives_count}
use Rattle.lola_store.proofs.Changing.{spawns_at, unspawned, newborn_right, newborn_recalls, newborn_silent, past_append}
use Rattle.lola_store.proofs.changes.bear_at.Goals as goal

pub bear-requires-clause-spare : goal.bear-requires-clause-spare
bear-requires-clause-spare c =
    let s = c.args.s.now in
    let n = c.args.stream in
    let l = c.index_mut-population.result.now in
    let e = stream_read s.streams.items n l c.requires.fits.stream c.index_mut-population.ensures.value in
    let p = s.right n l e in
    let sp = spawns_at s.streams.items n l e c.requires.spawns in
    let u = unspawned s.step s.streams.items n l e c.requires.first in
    let o = owed_some s.prepared (is_on s.phase) s.step l.spawned_at (running_is_on s.phase c.requires.running) u in
    omega (arith, p.spares sp, o)

pub bear-requires-clause-room : goal.bear-requires-clause-room
bear-requires-clause-room c =
    let s = c.args.s.now in
    let n = c.args.stream in
    let l = c.index_mut-population.result.now in
    let e = stream_read s.streams.items n l c.requires.fits.stream c.index_mut-population.ensures.value in
    let p = s.right n l e in
    let sp = spawns_at s.streams.items n l e c.requires.spawns in
    let u = unspawned s.step s.streams.items n l e c.requires.first in
    let o = owed_some s.prepared (is_on s.phase) s.step l.spawned_at (running_is_on s.phase c.requires.running) u in
    omega (arith, p.room sp, o)

pub invariant_of-s : goal.invariant_of-s
invariant_of-s c =
    let s = c.args.s.now in
    let n = c.args.stream in
    let l = c.index_mut-population.result.now in
    let y = c.bear.new.population in
    let b = c.bear.ensures in
    let k : Population = record l { spawned_at = s.step; lives = y.lives; spares = y.spares } in
    let e = stream_read s.streams.items n l c.requires.fits.stream c.index_mut-population.ensures.value in
    let p = s.right n l e in
    let u = unspawned s.step s.streams.items n l e c.requires.first in
    let on = running_is_on s.phase c.requires.running in
    let g : 1 ≤ s.step = s.step_ge in
    let fall = owed_fall s.prepared (is_on s.phase) s.step l.spawned_at s.step on u refl in
    let ks : IsTrue (are_of_kinds l.parameters (the_values c.args.params)) = subst (λ (o : Option StreamLayout). IsTrue (are_of_kinds (parameters_of o) (the_values c.args.params))) (layout_at s.streams.items n l e) c.requires.fits.kinds in
    let nr = newborn_right l.kind l.parameters (is_on s.phase) s.prepared s.step c.birth-time.result c.args.params b.x (b.newborn p.spare) on g ks c.requires.fits.places in
    let few : length l.lives.items < 65536 = let q : length (lives_in (slice_get s.streams.items n)) ≡ length l.lives.items = ap (λ o. length (lives_in o)) e in omega (arith, c.requires.few, lives_count s.step s.streams.items n, q) in
    let kr : PopulationRight (is_on s.phase) s.prepared s.step k = record {
      bad_le = p.bad_le;
      spawned_le = omega arith;
      few = omega (arith, few, ap length b.lives, length-append l.lives.items (b.x ∷ []));
      each = subst (Each (InstanceRight l.kind l.parameters (is_on s.phase) s.prepared s.step)) (sym b.lives) (each-append (InstanceRight l.kind l.parameters (is_on s.phase) s.prepared s.step) l.lives.items b.x p.each nr);
      room = λ w. omega (arith, p.room w, fall, b.len, b.capacity);
      spares = λ w. omega (arith, p.spares w, fall, b.spares);
      spare = b.spare p.spare;
    } in
    record {
      step_ge = s.step_ge;
      right = each-set (PopulationRight (is_on s.phase) s.prepared s.step) s.streams.items n y s.right (subst (PopulationRight (is_on s.phase) s.prepared s.step) (sym b.same) kr);
      taken = subst (λ (lay : List StreamLayout). Each (λ (w : WindowSpec). IsTrue (takes w.using (kind_in (slice_get lay w.target)))) s.windows) (sym (layout_set s.streams.items n l y e (ap population_layout b.same))) s.taken;
    }

pub returns-clause-seen : goal.returns-clause-seen
returns-clause-seen c =
    let s = c.args.s.now in
    let n = c.args.stream in
    let l = c.index_mut-population.result.now in
    let y = c.bear.new.population in
    let b = c.bear.ensures in
    let k : Population = record l { spawned_at = s.step; lives = y.lives; spares = y.spares } in
    let e = stream_read s.streams.items n l c.requires.fits.stream c.index_mut-population.ensures.value in
    let p = s.right n l e in
    let nb = b.newborn p.spare in
    let none = newborn_silent s.step c.birth-time.result c.args.params b.x nb s.step_ge in
    let t : nat_eq s.step s.step ≡ true = eq-eqb s.step s.step refl in
    let last : instance_seen s.step b.x ≡ newborn_seen (time_seen (whole_seen s)) c.args.params = (let at = nb.born ∙ c.birth-time.ensures in λ i. record { params = nb.params_is i; born = at i; outcome = none i }) in
    let inner : map (instance_seen s.step) y.lives.items ≡ map (instance_seen s.step) l.lives.items ++ newborn_seen (time_seen (whole_seen s)) c.args.params ∷ [] =
    ap (map (instance_seen s.step)) b.lives ∙ (map-append (instance_seen s.step) l.lives.items (b.x ∷ []) ∙ ap (λ z. map (instance_seen s.step) l.lives.items ++ z ∷ []) last) in
    let lay = layout_set s.streams.items n l y e (ap population_layout b.same) in
    let all = changed_set s.step s.streams.items n l y (λ (z : SeenStream). record z { spawned = true; instances = z.instances ++ newborn_seen (time_seen (whole_seen s)) c.args.params ∷ [] }) e
    (ap (population_seen s.step) b.same ∙ (λ j. record { bad = nat_eq l.bad_at s.step; spawned = t j; instances = inner j })) in
    λ i. record {
      layout = record { streams = lay i; windows = s.windows; panes = s.sizes };
      phase = phase_in s.phase;
      prepared = s.prepared;
      steps = s.step - 1;
      streams = all i;
    }

pub returns-clause-past : goal.returns-clause-past
returns-clause-past c = λ names m j values h.
    let s = c.args.s.now in
    let n = c.args.stream in
    let l = c.index_mut-population.result.now in
    let y = c.bear.new.population in
    let b = c.bear.ensures in
    let e = stream_read s.streams.items n l c.requires.fits.stream c.index_mut-population.ensures.value in
    past_set (λ o. RecallsAt (time_in s.phase) s.step names o values) s.streams.items n l y e m j
    (λ r. subst (λ (xs : List Instance). RecallsAt (time_in s.phase) s.step names (slice_get xs j) values) (sym b.lives) (past_append (λ o. RecallsAt (time_in s.phase) s.step names o values) l.lives.items b.x j (λ z. z) r)) h

pub returns-clause-new : goal.returns-clause-new
returns-clause-new c = λ names.
    let s = c.args.s.now in
    let n = c.args.stream in
    let l = c.index_mut-population.result.now in
    let y = c.bear.new.population in
    let b = c.bear.ensures in
    let e = stream_read s.streams.items n l c.requires.fits.stream c.index_mut-population.ensures.value in
    let p = s.right n l e in
    let q : length (instances_of (slice_get (map (population_seen s.step) s.streams.items) n)) ≡ length l.lives.items = lives_count s.step s.streams.items n ∙ ap (λ o. length (lives_in o)) e in
    let at : instance_at (slice_set s.streams.items n y) n (length (instances_of (slice_get (map (population_seen s.step) s.streams.items) n))) ≡ Some b.x =
    ap (λ o. slice_get (lives_in o) (length (instances_of (slice_get (map (population_seen s.step) s.streams.items) n)))) (same_set s.streams.items n l y e)
    ∙ (ap (slice_get y.lives.items) q ∙ (ap (λ xs. slice_get xs (length l.lives.items)) b.lives ∙ got_last l.lives.items b.x)) in
    subst (λ (o : Option Instance). RecallsAt (time_in s.phase) s.step names o []) (sym at) (newborn_recalls (time_in s.phase) s.step names c.birth-time.result c.args.params b.x (b.newborn p.spare) s.step_ge)
