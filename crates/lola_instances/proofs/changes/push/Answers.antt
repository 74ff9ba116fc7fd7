use Rattle.std.proofs.Common.{◌≡◌, ℕ, ◌-◌, Option, Bool, true, IsTrue, ap, sym, subst, arith}
use Rattle.lola_value.specs.declared.value.Outcome.TheVariants as outcome
use Rattle.lola_value.specs.Kinds.{is_of_kind}
use Rattle.lola_model.specs.Store.{SeenStream, StreamLayout, told_at, kind_in}
use Rattle.lola_instances_stream.specs.Crowds.{Crowd, RemembersAt}
use Rattle.lola_instances_stream.specs.Rights.{AreRight, CrowdRight}
use Rattle.lola_instances_stream.proofs.Lists.{each-set}
use Rattle.lola_instances.specs.Phases.{phase_in, start_in, time_in, is_on}
use Rattle.lola_instances.proofs.Asking.{found_stream, index_is, layout_at}
use Rattle.lola_instances.proofs.Changing.{silent_in, layout_set, changed_set, placed_set, numbered_set, covered_set, past_set, slots_right, slots_seen}
use Rattle.lola_instances.proofs.Phases.{running_is_on}
use Rattle.lola_instances.proofs.changes.push.Goals as goal

pub push-requires-clause-index : goal.push-requires-clause-index
push-requires-clause-index c =
    let s = c.args.s.now in
    let l = c.index_mut-lives.result.now in
    let e = found_stream s.step s.streams.items c.args.stream c.args.index l c.requires.index c.index_mut-lives.ensures.value in
    index_is s.step s.streams.items c.args.stream l e c.args.index c.requires.index

pub push-requires-clause-silent : goal.push-requires-clause-silent
push-requires-clause-silent c =
    let s = c.args.s.now in
    let l = c.index_mut-lives.result.now in
    let e = found_stream s.step s.streams.items c.args.stream c.args.index l c.requires.index c.index_mut-lives.ensures.value in
    silent_in s.step s.streams.items c.args.stream c.args.index l e c.requires.silent

pub push-requires-clause-right : goal.push-requires-clause-right
push-requires-clause-right c =
    let s = c.args.s.now in
    let l = c.index_mut-lives.result.now in
    let e = found_stream s.step s.streams.items c.args.stream c.args.index l c.requires.index c.index_mut-lives.ensures.value in
    subst (λ (n : ℕ). AreRight true s.step n l) (sym c.offset_of-offset.ensures)
    (subst (λ (b : Bool). AreRight b s.step (time_in s.phase - start_in s.phase) l) (running_is_on s.phase c.requires.running) (s.right c.args.stream l e).each)

pub invariant_of-s : goal.invariant_of-s
invariant_of-s c =
    let s = c.args.s.now in
    let n = c.args.stream in
    let l = c.index_mut-lives.result.now in
    let y = c.push.new.self in
    let e = found_stream s.step s.streams.items n c.args.index l c.requires.index c.index_mut-lives.ensures.value in
    let on = running_is_on s.phase c.requires.running in
    let rest = c.push.ensures.rest in
    let count = c.push.ensures.count in
    let right = subst (λ (b : Bool). AreRight b s.step (time_in s.phase - start_in s.phase) y) (sym on) (subst (λ (n : ℕ). AreRight true s.step n y) c.offset_of-offset.ensures c.push.ensures.right) in
    record {
      step_ge = s.step_ge;
      step_le = s.step_le;
      begun = s.begun;
      time_ge = s.time_ge;
      offset_is = s.offset_is;
      right = each-set (CrowdRight (is_on s.phase) s.prepared s.step (time_in s.phase - start_in s.phase)) s.streams.items n y s.right
          (slots_right (is_on s.phase) s.prepared s.step (time_in s.phase - start_in s.phase) l y (s.right n l e) rest (omega arith) right);
      placed = placed_set s.windows s.sizes s.places.items s.streams.items n l y e (ap (λ (z : Crowd). z.layout) rest) (ap (λ (z : Crowd). z.windows) rest) s.placed;
      at_places = s.at_places;
      covered = covered_set s.windows s.streams.items n l y e (ap (λ (z : Crowd). z.windows) rest) s.covered;
      numbered = numbered_set s.streams.items s.spawning.items n l y e (ap (λ (z : Crowd). z.layout) rest) s.numbered;
    }

pub returns-clause-seen : goal.returns-clause-seen
returns-clause-seen c =
    let s = c.args.s.now in
    let n = c.args.stream in
    let l = c.index_mut-lives.result.now in
    let y = c.push.new.self in
    let e = found_stream s.step s.streams.items n c.args.index l c.requires.index c.index_mut-lives.ensures.value in
    let rest = c.push.ensures.rest in
    let lay = layout_set s.streams.items n l y e (ap (λ (z : Crowd). z.layout) rest) in
    let all = changed_set s.step s.streams.items n l y (λ (z : SeenStream). record z { instances = told_at z.instances c.args.index (outcome.Value c.args.value) }) e
    (slots_seen s.step l y (λ xs. told_at xs c.args.index (outcome.Value c.args.value)) rest c.push.ensures.seen) in
    λ i. record {
      layout = record { streams = lay i; windows = s.windows; panes = s.sizes };
      phase = phase_in s.phase;
      prepared = s.prepared;
      steps = s.step - 1;
      streams = all i;
    }

pub returns-clause-past : goal.returns-clause-past
returns-clause-past c = λ names m j values held h.
    let s = c.args.s.now in
    let n = c.args.stream in
    let l = c.index_mut-lives.result.now in
    let y = c.push.new.self in
    let e = found_stream s.step s.streams.items n c.args.index l c.requires.index c.index_mut-lives.ensures.value in
    let off : c.offset_of-offset.result ≡ time_in s.phase - start_in s.phase = c.offset_of-offset.ensures in
    past_set (λ o. RemembersAt (start_in s.phase) (time_in s.phase) s.step names o values) s.streams.items n l y e m j
    (c.push.ensures.past (start_in s.phase) (time_in s.phase) names j values off s.time_ge held) h

pub push-requires-clause-kind : goal.push-requires-clause-kind
push-requires-clause-kind c =
    let s = c.args.s.now in
    let l = c.index_mut-lives.result.now in
    let e = found_stream s.step s.streams.items c.args.stream c.args.index l c.requires.index c.index_mut-lives.ensures.value in
    subst (λ (o : Option StreamLayout). IsTrue (is_of_kind (kind_in o) c.args.value)) (layout_at s.streams.items c.args.stream l e) c.requires.kind

pub push-requires-clause-step_ge : goal.push-requires-clause-step_ge
push-requires-clause-step_ge c = c.args.s.now.begun (running_is_on c.args.s.now.phase c.requires.running)
