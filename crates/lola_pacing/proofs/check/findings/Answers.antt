use Rattle.std.proofs.Common.{List, subst}
use Rattle.lola_model.specs.declared.spec.Stream.{Stream}
use Rattle.lola_model.specs.declared.spec.WindowSpec.{WindowSpec}
use Rattle.lola_model.specs.PacingFound.{AreOwn}
use Rattle.lola_model.specs.declared.finding.FoundPacing.{FoundPacing}
use Rattle.lola_model.specs.Pacings.{InStep, IsSpawnFound, IsEvalFound, IsCloseFound, AreWindowRefusals}
use Rattle.lola_pacing.proofs.check.findings.Goals as goal

pub returns : goal.returns
returns c =
    let streams = c.args.spec.now.streams in
    let closes = c.in_ok-closes.closes.items in
    let window_refusals = c.in_ok-window_refusals.window_refusals.items in
    let near : InStep (IsCloseFound streams c.in_ok-owns.owns.items c.deref-7.result.now) 0 streams closes =
    subst (λ (os : List FoundPacing). InStep (IsCloseFound streams os c.deref-7.result.now) 0 streams closes) c.deref-6.ensures.value c.in_ok-closes.ensures in
    let one : AreWindowRefusals c.in_ok-spawns.spawns.items c.deref-9.result.now c.deref-10.result.now c.as_slice-2.result.now window_refusals =
    subst (λ (fs : List FoundPacing). AreWindowRefusals fs c.deref-9.result.now c.deref-10.result.now c.as_slice-2.result.now window_refusals) c.deref-8.ensures.value c.in_ok-window_refusals.ensures in
    let two : AreWindowRefusals c.in_ok-spawns.spawns.items c.in_ok-evals.evals.items c.deref-10.result.now c.as_slice-2.result.now window_refusals =
    subst (λ (fs : List FoundPacing). AreWindowRefusals c.in_ok-spawns.spawns.items fs c.deref-10.result.now c.as_slice-2.result.now window_refusals) c.deref-9.ensures.value one in
    let three : AreWindowRefusals c.in_ok-spawns.spawns.items c.in_ok-evals.evals.items closes c.as_slice-2.result.now window_refusals =
    subst (λ (fs : List FoundPacing). AreWindowRefusals c.in_ok-spawns.spawns.items c.in_ok-evals.evals.items fs c.as_slice-2.result.now window_refusals) c.deref-10.ensures.value two in
    record {
      are_own = subst (λ (ss : List Stream). AreOwn 0 ss c.in_ok-owns.owns.items) c.as_slice.ensures c.in_ok-owns.ensures;
      are_spawns = subst (λ (os : List FoundPacing). InStep (IsSpawnFound streams os) 0 streams c.in_ok-spawns.spawns.items) c.deref-2.ensures.value c.in_ok-spawns.ensures;
      are_evals = subst (λ (os : List FoundPacing). InStep (IsEvalFound streams os) 0 streams c.in_ok-evals.evals.items) c.deref-4.ensures.value c.in_ok-evals.ensures;
      are_closes = subst (λ (es : List FoundPacing). InStep (IsCloseFound streams c.in_ok-owns.owns.items es) 0 streams closes) c.deref-7.ensures.value near;
      are_window_refusals = subst (λ (ws : List WindowSpec). AreWindowRefusals c.in_ok-spawns.spawns.items c.in_ok-evals.evals.items closes ws window_refusals) c.as_slice-2.ensures three;
    }
