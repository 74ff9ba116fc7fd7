use Rattle.std.proofs.Common.{List, [], ℕ, rules, subst}
use Rattle.lola_monitor.specs.Outcomes.{Stopped}
use Rattle.lola_monitor.specs.Stating.{Loaded, Unloads}
use Rattle.lola_monitor.proofs.Calls.{grew_stopped}
use Rattle.lola_monitor.proofs.Loading.{no_engine}
use Rattle.lola_monitor.proofs.stating.read_engine.Goals as goal

pub returns-in-Ok-load_engine : goal.returns-in-Ok-load_engine
returns-in-Ok-load_engine g c =
    let bytes = c.in-Ok.bytes.items in
    let is : Loaded c.args.specification.now c.args.plan bytes c.args.show c.in-Ok-load_engine.engine.state c.in-Ok-load_engine.engine.store =
    subst (λ (b : List ℕ). Loaded c.args.specification.now c.args.plan b c.args.show c.in-Ok-load_engine.engine.state c.in-Ok-load_engine.engine.store) c.deref.ensures.value c.in-Ok-load_engine.ensures in
    record { bytes = bytes; is_text = c.in-Ok.ensures.text; loaded = is.loaded; start = is.start; shelf = c.in-Ok.ensures.noted }

pub returns : goal.returns
returns g c =
    let bytes = c.in-Ok.bytes.items in
    no_engine c.args.specification.now c.args.plan bytes c.in-Err.end c.args.name.now (g.F.Shelf.state c.args.shelf.now) (g.F.Shelf.state c.read_text.new.shelf)
    c.in-Ok.ensures.text c.in-Ok.ensures.noted (subst (λ (b : List ℕ). Unloads c.in-Err.end c.args.specification.now c.args.plan b) c.deref.ensures.value c.in-Err.ensures)

pub returns-in-Err-Memory : goal.returns-in-Err-Memory
returns-in-Err-Memory g c =
    let before = g.F.Shelf.state c.args.shelf.now in
    let after = g.F.Shelf.state c.read_text.new.shelf in
    let stopped : Stopped c.args.name.now before after = search rules in
    grew_stopped c.args.name.now [] before after stopped
