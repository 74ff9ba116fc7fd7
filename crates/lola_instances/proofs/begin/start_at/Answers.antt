use Rattle.std.proofs.Common.{◌≡◌, ◌-◌, ℕ, Bool, subst, arith}
use Rattle.lola_instances_stream.specs.Rights.{CrowdRight}
use Rattle.lola_instances_stream.proofs.Beginnings.{started_at}
use Rattle.lola_instances.specs.Phases.{start_in, time_in, is_on}
use Rattle.lola_instances.specs.Streams.{slot_at}
use Rattle.lola_instances.proofs.Asking.{right_at}
use Rattle.lola_instances.proofs.Phases.{new_is_off, new_is_at_zero}
use Rattle.lola_instances.proofs.begin.start_at.Goals as goal

pub invariant_of-s : goal.invariant_of-s
invariant_of-s c =
    let s = c.args.s.now in
    let off = new_is_off s.phase c.requires in
    let z = new_is_at_zero s.phase c.requires in
    let n : time_in s.phase - start_in s.phase ≡ c.args.start - c.args.start = omega (arith, z) in
    record {
      step_ge = s.step_ge;
      step_le = s.step_le;
      begun = λ q. cc;
      time_ge = omega arith;
      offset_is = omega (arith, s.offset_is, n);
      right = λ i k at. subst (λ (b : Bool). CrowdRight b s.prepared s.step (c.args.start - c.args.start) k) off
          (subst (λ (m : ℕ). CrowdRight (is_on s.phase) s.prepared s.step m k) n (s.right i k at));
      placed = s.placed;
      at_places = s.at_places;
      covered = s.covered;
      numbered = s.numbered;
    }

pub returns-clause-past : goal.returns-clause-past
returns-clause-past c = λ names n i values h.
    let s = c.args.s.now in
    started_at (start_in s.phase) (time_in s.phase) c.args.start s.step names (slot_at s.streams.items n i) values
    (λ x e.
    let r = right_at (is_on s.phase) s.prepared s.step (time_in s.phase - start_in s.phase) s.streams.items n i x s.right e in
    (r.1.untold (new_is_off s.phase c.requires), (let a = r.1.steady.capacity in let b = r.2 in omega arith))) h
