use Rattle.std.proofs.Common.{◌≡◌, ◌∙◌, ℕ, ◌-◌, Option, Bool, true, length, ap, sym, subst, arith}
use Rattle.lola_model.specs.Given.{AreOutcomesOf, given_each}
use Rattle.lola_model.specs.Store.{SeenStream, StreamLayout, kind_in}
use Rattle.lola_instances_stream.specs.Crowds.{Crowd, RemembersAt}
use Rattle.lola_instances_stream.specs.Rights.{AreRight, CrowdRight}
use Rattle.lola_instances_stream.proofs.Lists.{each-set}
use Rattle.lola_instances.specs.Phases.{phase_in, start_in, time_in, is_on}
use Rattle.lola_instances.specs.Streams.{slots_in}
use Rattle.lola_instances.proofs.Asking.{layout_at, slots_count, stream_read}
use Rattle.lola_instances.proofs.Changing.{silent_in, layout_set, changed_set, placed_set, numbered_set, covered_set, past_set, slots_right, slots_seen}
use Rattle.lola_instances.proofs.Phases.{running_is_on}
use Rattle.lola_instances.proofs.giving.give_each.Goals as goal

pub give_each-requires-clause-step_ge : goal.give_each-requires-clause-step_ge
give_each-requires-clause-step_ge g c κs within = c.args.s.now.begun (running_is_on c.args.s.now.phase c.requires.running)

pub give_each-requires-clause-each : goal.give_each-requires-clause-each
give_each-requires-clause-each g c κs within =
    let s = c.args.s.now in
    let l = c.index_mut-lives.result.now in
    let e = stream_read s.streams.items c.args.stream l c.requires.stream c.index_mut-lives.ensures.value in
    c.requires.each ∙ slots_count s.step s.streams.items c.args.stream ∙ ap (λ o. length (slots_in o)) e

pub give_each-requires-clause-silent : goal.give_each-requires-clause-silent
give_each-requires-clause-silent g c κs within = λ i.
    let s = c.args.s.now in
    let l = c.index_mut-lives.result.now in
    let e = stream_read s.streams.items c.args.stream l c.requires.stream c.index_mut-lives.ensures.value in
    silent_in s.step s.streams.items c.args.stream i l e (c.requires.silent i)

pub give_each-requires-clause-kinds : goal.give_each-requires-clause-kinds
give_each-requires-clause-kinds g c κs within =
    let s = c.args.s.now in
    let l = c.index_mut-lives.result.now in
    let e = stream_read s.streams.items c.args.stream l c.requires.stream c.index_mut-lives.ensures.value in
    subst (λ (o : Option StreamLayout). AreOutcomesOf (kind_in o) c.args.outcomes.now) (layout_at s.streams.items c.args.stream l e) c.requires.kinds

pub give_each-requires-clause-right : goal.give_each-requires-clause-right
give_each-requires-clause-right g c κs within =
    let s = c.args.s.now in
    let l = c.index_mut-lives.result.now in
    let e = stream_read s.streams.items c.args.stream l c.requires.stream c.index_mut-lives.ensures.value in
    subst (λ (n : ℕ). AreRight true s.step n l) (sym c.offset_of-offset.ensures)
    (subst (λ (b : Bool). AreRight b s.step (time_in s.phase - start_in s.phase) l) (running_is_on s.phase c.requires.running) (s.right c.args.stream l e).each)

pub invariant_of-s : goal.invariant_of-s
invariant_of-s g c =
    let s = c.args.s.now in
    let n = c.args.stream in
    let l = c.index_mut-lives.result.now in
    let y = c.give_each.new.self in
    let e = stream_read s.streams.items n l c.requires.stream c.index_mut-lives.ensures.value in
    let on = running_is_on s.phase c.requires.running in
    let rest = c.give_each.ensures.rest in
    let count = c.give_each.ensures.count in
    let right = subst (λ (b : Bool). AreRight b s.step (time_in s.phase - start_in s.phase) y) (sym on) (subst (λ (n : ℕ). AreRight true s.step n y) c.offset_of-offset.ensures c.give_each.ensures.right) in
    record {
      step_ge = s.step_ge;
      step_le = s.step_le;
      begun = s.begun;
      time_ge = s.time_ge;
      offset_is = s.offset_is;
      right = each-set (CrowdRight (is_on s.phase) s.prepared s.step (time_in s.phase - start_in s.phase)) s.streams.items n y s.right
          (slots_right (is_on s.phase) s.prepared s.step (time_in s.phase - start_in s.phase) l y (s.right n l e) rest (omega arith) right);
      placed = placed_set s.windows s.sizes s.places.items s.streams.items n l y e (ap (λ (z : Crowd). z.layout) rest) (ap (λ (z : Crowd). z.windows) rest) s.placed;
      at_places = s.at_places;
      covered = covered_set s.windows s.streams.items n l y e (ap (λ (z : Crowd). z.windows) rest) s.covered;
      numbered = numbered_set s.streams.items s.spawning.items n l y e (ap (λ (z : Crowd). z.layout) rest) s.numbered;
    }

pub returns-clause-seen : goal.returns-clause-seen
returns-clause-seen g c =
    let s = c.args.s.now in
    let n = c.args.stream in
    let l = c.index_mut-lives.result.now in
    let y = c.give_each.new.self in
    let e = stream_read s.streams.items n l c.requires.stream c.index_mut-lives.ensures.value in
    let rest = c.give_each.ensures.rest in
    let lay = layout_set s.streams.items n l y e (ap (λ (z : Crowd). z.layout) rest) in
    let all = changed_set s.step s.streams.items n l y (λ (z : SeenStream). record z { instances = given_each z.instances c.args.outcomes.now }) e
    (slots_seen s.step l y (λ xs. given_each xs c.args.outcomes.now) rest c.give_each.ensures.seen) in
    λ i. record {
      layout = record { streams = lay i; windows = s.windows; panes = s.sizes };
      phase = phase_in s.phase;
      prepared = s.prepared;
      steps = s.step - 1;
      streams = all i;
    }

pub returns-clause-past : goal.returns-clause-past
returns-clause-past g c = λ names m j values held h.
    let s = c.args.s.now in
    let n = c.args.stream in
    let l = c.index_mut-lives.result.now in
    let y = c.give_each.new.self in
    let e = stream_read s.streams.items n l c.requires.stream c.index_mut-lives.ensures.value in
    let off : c.offset_of-offset.result ≡ time_in s.phase - start_in s.phase = c.offset_of-offset.ensures in
    past_set (λ o. RemembersAt (start_in s.phase) (time_in s.phase) s.step names o values) s.streams.items n l y e m j
    (c.give_each.ensures.past (start_in s.phase) (time_in s.phase) names j values off s.time_ge held) h
