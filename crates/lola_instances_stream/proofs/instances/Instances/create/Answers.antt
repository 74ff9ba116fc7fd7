use Rattle.std.proofs.Common.{◌≡◌, ◌∙◌, [], length, slice_get, ap, sym, subst, arith, List, false, ◌<◌}
use Rattle.lola_model.specs.Store.{StreamLayout}
use Rattle.lola_instances_one.specs.declared.window.WindowPanes.{WindowPanes}
use Rattle.lola_instances_one.specs.Holdings.{Holdings}
use Rattle.lola_instances_stream.specs.Births.{firsts}
use Rattle.lola_instances_stream.specs.Crowds.{RemembersAt}
use Rattle.lola_instances_stream.specs.Each.{Each}
use Rattle.lola_instances_stream.specs.Rights.{SlotRight}
use Rattle.lola_instances_stream.proofs.Newborns.{firsts_right, firsts_count, firsts_none, firsts_remember}
use Rattle.lola_instances_stream.proofs.instances.Instances.create.Goals as goal

pub returns-clause-right : goal.returns-clause-right
returns-clause-right c = λ plain.
    let windows = c.args.windows.items in
    let layout : StreamLayout = record { kind = c.args.kind; parameters = c.args.parameters; spawns = c.args.spawns; kept = c.args.kept; locals = c.in_ok-dues.dues.rates } in
    let e : c.in_ok-slots.slots.items ≡ firsts c.args.spawns c.args.kept windows = c.in_ok-slots.ensures ∙ ap (λ (ws : List WindowPanes). firsts c.args.spawns c.args.kept ws) c.as_slice.ensures.value in
    let n = ap length e in
    record {
      bad_le = omega arith;
      spawned_le = omega arith;
      kept = c.requires.kept;
      few = omega (arith, n, firsts_count c.args.spawns c.args.kept windows);
      each = subst (Each (SlotRight layout windows false 1 0)) (sym e) (firsts_right layout windows c.args.spawns c.requires.onto plain);
      room = λ w. omega (arith, n, firsts_none c.args.spawns c.args.kept windows w);
      spares = λ w. omega arith;
    }

pub returns-clause-past : goal.returns-clause-past
returns-clause-past c = λ start time names i l.
    let windows = c.args.windows.items in
    let e : c.in_ok-slots.slots.items ≡ firsts c.args.spawns c.args.kept windows = c.in_ok-slots.ensures ∙ ap (λ (ws : List WindowPanes). firsts c.args.spawns c.args.kept ws) c.as_slice.ensures.value in
    subst (λ (xs : List Holdings). RemembersAt start time 1 names (slice_get xs i) []) (sym e)
    (firsts_remember c.args.spawns c.args.kept windows start time 1 names i c.requires.kept (subst (λ (xs : List Holdings). i < length xs) e l))
