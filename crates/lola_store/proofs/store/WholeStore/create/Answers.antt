use Rattle.std.proofs.Common.{◌≡◌, ◌∙◌, List, map, Some, false, slice_get, IsTrue, ap, sym, subst, arith}
use Rattle.lola_model.specs.Store.{StreamLayout, New, layouts_from, kind_in, opened}
use Rattle.lola_model.specs.Typing.{takes}
use Rattle.lola_model.specs.declared.spec.WindowSpec.{WindowSpec}
use Rattle.lola_instances_stream.specs.Each.{Each}
use Rattle.lola_store.specs.Populations.{population_layout, population_seen}
use Rattle.lola_store.proofs.Opened.{all_opened, blank_at}
use Rattle.lola_store.proofs.Places.{layout_at, lives_count}
use Rattle.lola_store.proofs.store.WholeStore.create.Goals as goal

pub invariant_of-result : goal.invariant_of-result
invariant_of-result c =
    let plan = c.args.plan.now in
    let ls = c.in_ok-streams.streams.items in
    let lay : map population_layout ls ≡ layouts_from plan.spec.streams plan.kept plan.pacings =
    c.in_ok-streams.ensures.layouts ∙ (λ i. layouts_from (c.as_slice.ensures i) (c.as_slice-2.ensures i) (c.as_slice-3.ensures i)) in
    record {
      step_ge = omega arith;
      right = λ i l e. (c.in_ok-streams.ensures.opened i l e).right
          (c.requires.plain i (population_layout l) (subst (λ (ys : List StreamLayout). slice_get ys i ≡ Some (population_layout l)) lay (layout_at ls i l e)));
      taken = subst (λ (ws : List WindowSpec). Each (λ (w : WindowSpec). IsTrue (takes w.using (kind_in (slice_get (map population_layout ls) w.target)))) ws) (sym c.in_ok-windows.ensures)
          (subst (λ (ys : List StreamLayout). Each (λ (w : WindowSpec). IsTrue (takes w.using (kind_in (slice_get ys w.target)))) plan.spec.windows) (sym lay) c.requires.taken);
    }

pub returns-clause-seen : goal.returns-clause-seen
returns-clause-seen c =
    let plan = c.args.plan.now in
    let ls = c.in_ok-streams.streams.items in
    let lay : map population_layout ls ≡ layouts_from plan.spec.streams plan.kept plan.pacings =
    c.in_ok-streams.ensures.layouts ∙ (λ i. layouts_from (c.as_slice.ensures i) (c.as_slice-2.ensures i) (c.as_slice-3.ensures i)) in
    let q : map (population_seen 1) ls ≡ map opened (layouts_from plan.spec.streams plan.kept plan.pacings) = all_opened ls c.in_ok-streams.ensures.opened ∙ ap (map opened) lay in
    λ i. record {
      layout = record { streams = lay i; windows = c.in_ok-windows.ensures i; panes = c.in_ok-sizes.ensures i };
      phase = New;
      prepared = false;
      steps = 0;
      streams = q i;
    }

pub returns-clause-past : goal.returns-clause-past
returns-clause-past c = λ names n i l.
    let ls = c.in_ok-streams.streams.items in
    blank_at names ls n i c.in_ok-streams.ensures.opened (omega (arith, l, lives_count 1 ls n))
