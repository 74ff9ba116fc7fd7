use Rattle.std.proofs.Common.{◌≡◌, ◌∙◌, ℕ, ◌-◌, ◌++◌, [], ◌∷◌, Option, Bool, true, false, IsTrue, length, slice_get, slice_set, refl, ap, sym, subst, arith, if◌then◌else◌}
use Rattle.lola_value.specs.declared.value.Params.{Params}
use Rattle.lola_value.specs.Kinds.{are_of_kinds}
use Rattle.lola_value.specs.Naming.{the_values}
use Rattle.lola_model.specs.Spawning.{has_room, spawn_end}
use Rattle.lola_model.specs.Store.{Seen, StreamLayout, after_spawn, changed_at, instances_seen, newborn_seen, parameters_of, place_of, time_seen}
use Rattle.lola_instances_one.specs.Holdings.{Holdings}
use Rattle.lola_instances_stream.specs.Births.{newborn}
use Rattle.lola_instances_stream.specs.Crowds.{RemembersAt, place_in}
use Rattle.lola_instances_stream.specs.Rights.{AreRight, CrowdRight}
use Rattle.lola_instances_stream.proofs.Lists.{each-set, same_set}
use Rattle.lola_instances.specs.Phases.{phase_in, start_in, time_in, is_on}
use Rattle.lola_instances.specs.Stores.{bounded_seen}
use Rattle.lola_instances.specs.Streams.{slots_in, slot_at}
use Rattle.lola_instances.proofs.Asking.{stream_read, layout_at, place_is, count_is}
use Rattle.lola_instances.proofs.Births.{spawns_at, unspawned, spawn_right, spawn_layout, spawn_windows, spawn_seen}
use Rattle.lola_instances.proofs.Changing.{layout_set, placed_set, numbered_set, covered_set, past_set}
use Rattle.lola_instances.proofs.Owed.{owed_some}
use Rattle.lola_instances.proofs.Phases.{phase_time, running_is_on}
use Rattle.lola_instances.proofs.changes.spawn.Goals as goal

pub spawn-requires-clause-kinds : goal.spawn-requires-clause-kinds
spawn-requires-clause-kinds c =
    let s = c.args.s.now in
    let l = c.index_mut-lives.result.now in
    let e = stream_read s.streams.items c.args.stream l c.requires.fits.stream c.index_mut-lives.ensures.value in
    subst (λ (o : Option StreamLayout). IsTrue (are_of_kinds (parameters_of o) (the_values c.args.params))) (layout_at s.streams.items c.args.stream l e) c.requires.fits.kinds

pub spawn-requires-clause-room : goal.spawn-requires-clause-room
spawn-requires-clause-room c =
    let s = c.args.s.now in
    let n = c.args.stream in
    let l = c.index_mut-lives.result.now in
    let e = stream_read s.streams.items n l c.requires.fits.stream c.index_mut-lives.ensures.value in
    let o = owed_some s.prepared (is_on s.phase) s.step l.spawned_at (running_is_on s.phase c.requires.running) (unspawned s.step s.streams.items n l e c.requires.first) in
    omega (arith, (s.right n l e).room (spawns_at s.streams.items n l e c.requires.spawns), o)

pub spawn-requires-clause-spare : goal.spawn-requires-clause-spare
spawn-requires-clause-spare c =
    let s = c.args.s.now in
    let n = c.args.stream in
    let l = c.index_mut-lives.result.now in
    let e = stream_read s.streams.items n l c.requires.fits.stream c.index_mut-lives.ensures.value in
    let o = owed_some s.prepared (is_on s.phase) s.step l.spawned_at (running_is_on s.phase c.requires.running) (unspawned s.step s.streams.items n l e c.requires.first) in
    omega (arith, (s.right n l e).spares (spawns_at s.streams.items n l e c.requires.spawns), o)

pub spawn-requires-clause-right : goal.spawn-requires-clause-right
spawn-requires-clause-right c =
    let s = c.args.s.now in
    let l = c.index_mut-lives.result.now in
    let e = stream_read s.streams.items c.args.stream l c.requires.fits.stream c.index_mut-lives.ensures.value in
    subst (λ (n : ℕ). AreRight true s.step n l) (sym c.offset_of-offset.ensures)
    (subst (λ (b : Bool). AreRight b s.step (time_in s.phase - start_in s.phase) l) (running_is_on s.phase c.requires.running) (s.right c.args.stream l e).each)

pub invariant_of-s : goal.invariant_of-s
invariant_of-s c =
    let s = c.args.s.now in
    let n = c.args.stream in
    let l = c.index_mut-lives.result.now in
    let y = c.spawn.new.self in
    let q = c.spawn.ensures in
    let e = stream_read s.streams.items n l c.requires.fits.stream c.index_mut-lives.ensures.value in
    let on = running_is_on s.phase c.requires.running in
    let off = time_in s.phase - start_in s.phase in
    let o = place_in c.args.params l.slots 0 in
    let b = has_room o (length l.slots) in
    let right = subst (λ (b : Bool). AreRight b s.step off y) (sym on) (subst (λ (n : ℕ). AreRight true s.step n y) c.offset_of-offset.ensures q.right) in
    record {
      step_ge = s.step_ge;
      step_le = s.step_le;
      begun = s.begun;
      time_ge = s.time_ge;
      offset_is = s.offset_is;
      right = each-set (CrowdRight (is_on s.phase) s.prepared s.step off) s.streams.items n y s.right
          (spawn_right (is_on s.phase) s.prepared s.step off l y c.birth_time-time.result c.args.params b (s.right n l e) o refl on (unspawned s.step s.streams.items n l e c.requires.first) q.living q.born q.spares right);
      placed = placed_set s.windows s.sizes s.places.items s.streams.items n l y e (spawn_layout s.step l y c.birth_time-time.result c.args.params b q.living q.born) (spawn_windows s.step l y c.birth_time-time.result c.args.params b q.living q.born) s.placed;
      at_places = s.at_places;
      covered = covered_set s.windows s.streams.items n l y e (spawn_windows s.step l y c.birth_time-time.result c.args.params b q.living q.born) s.covered;
      numbered = numbered_set s.streams.items s.spawning.items n l y e (spawn_layout s.step l y c.birth_time-time.result c.args.params b q.living q.born) s.numbered;
    }

pub returns-clause-end : goal.returns-clause-end
returns-clause-end c =
    let s = c.args.s.now in
    let n = c.args.stream in
    let l = c.index_mut-lives.result.now in
    let e = stream_read s.streams.items n l c.requires.fits.stream c.index_mut-lives.ensures.value in
    c.spawn.ensures.end ∙ (λ j. spawn_end (sym (place_is s n l c.args.params e) j) (sym (count_is s.step s.streams.items n l e) j))

pub returns-clause-seen : goal.returns-clause-seen
returns-clause-seen c =
    let s = c.args.s.now in
    let n = c.args.stream in
    let l = c.index_mut-lives.result.now in
    let y = c.spawn.new.self in
    let q = c.spawn.ensures in
    let p = c.args.params in
    let e = stream_read s.streams.items n l c.requires.fits.stream c.index_mut-lives.ensures.value in
    let b = has_room (place_in p l.slots 0) (length l.slots) in
    let lay = layout_set s.streams.items n l y e (spawn_layout s.step l y c.birth_time-time.result p b q.living q.born) in
    let now : c.birth_time-time.result ≡ time_seen (bounded_seen s) = c.birth_time-time.ensures ∙ sym (phase_time s.phase) in
    let born = subst (λ (t : ℕ). IsTrue b → y ≡ record l { spawned_at = s.step; slots = l.slots ++ newborn l.layout.kept l.windows t p ∷ []; spares = y.spares }) now q.born in
    let all = spawn_seen s.step s.streams.items n l y (time_seen (bounded_seen s)) p b e s.step_ge q.living born in
    let room : b ≡ has_room (place_of (bounded_seen s) n p) (length (instances_seen (bounded_seen s) n)) = λ j. has_room (sym (place_is s n l p e) j) (sym (count_is s.step s.streams.items n l e) j) in
    (λ i. record {
      layout = record { streams = lay i; windows = s.windows; panes = s.sizes };
      phase = phase_in s.phase;
      prepared = s.prepared;
      steps = s.step - 1;
      streams = all i;
    })
    ∙ (by_room (bounded_seen s) n p b ∙ ap (after_spawn (bounded_seen s) n p) room)
  where
    by_room : (z : Seen) (n : ℕ) (p : Params) (b : Bool)
        → record z { streams = if b then changed_at z.streams n (λ x. record x { spawned = true; instances = x.instances ++ newborn_seen (time_seen z) p ∷ [] }) else z.streams } ≡ after_spawn z n p b
    by_room z n p true = refl
    by_room z n p false = refl

pub returns-clause-past : goal.returns-clause-past
returns-clause-past c = λ names m j values h.
    let s = c.args.s.now in
    let n = c.args.stream in
    let l = c.index_mut-lives.result.now in
    let y = c.spawn.new.self in
    let e = stream_read s.streams.items n l c.requires.fits.stream c.index_mut-lives.ensures.value in
    past_set (λ o. RemembersAt (start_in s.phase) (time_in s.phase) s.step names o values) s.streams.items n l y e m j
    (c.spawn.ensures.past (start_in s.phase) (time_in s.phase) names j values) h

pub returns-clause-new : goal.returns-clause-new
returns-clause-new c = λ names room.
    let s = c.args.s.now in
    let n = c.args.stream in
    let l = c.index_mut-lives.result.now in
    let y = c.spawn.new.self in
    let p = c.args.params in
    let e = stream_read s.streams.items n l c.requires.fits.stream c.index_mut-lives.ensures.value in
    let k = count_is s.step s.streams.items n l e in
    let at : slot_at (slice_set s.streams.items n y) n (length (instances_seen (bounded_seen s) n)) ≡ slice_get y.slots (length l.slots) =
    ap (λ o. slice_get (slots_in o) (length (instances_seen (bounded_seen s) n))) (same_set s.streams.items n l y e) ∙ ap (slice_get y.slots) k in
    subst (λ (o : Option Holdings). RemembersAt (start_in s.phase) (time_in s.phase) s.step names o []) (sym at)
    (c.spawn.ensures.new (subst (λ (b : Bool). IsTrue b) (λ j. has_room (place_is s n l p e j) (k j)) room) (start_in s.phase) (time_in s.phase) names)
