use Rattle.std.proofs.Common.{subst, ◌∙◌}
use Rattle.std.proofs.lemmas.Result.{on_ok_weaker}
use Rattle.lola_port.specs.States.{Rose}
use Rattle.lola_monitor.proofs.Shelves.{CameBack, came_back, marred, stopped, whole}
use Rattle.lola_monitor.proofs.reading.read_name.Given.{Over}
use Rattle.lola_monitor.proofs.reading.read_name.Goals.{After-give_back}
use Rattle.lola_monitor.proofs.reading.read_name.Goals as goal

-- the source came back
came : (g : Over) (c : After-give_back g) → CameBack c.args.name.now (g.F.Shelf.state c.args.shelf.now) (g.F.Shelf.state c.give_back.new.self) (g.F.File.Source.state c.read_all-bytes.new.source)
came g c = came_back c.args.name.now (g.F.Shelf.state c.args.shelf.now) (g.F.Shelf.state c.fetch.new.self) (g.F.Shelf.state c.give_back.new.self) (g.F.File.Source.state c.in_ok-file.file) (g.F.File.Source.state c.read_all-bytes.new.source) c.in_ok-file.ensures.file c.in_ok-file.ensures.given c.read_all-bytes.ensures.place c.give_back.ensures

pub returns-clause-noted : goal.returns-clause-noted
returns-clause-noted g c = on_ok_weaker c.read_all-bytes.result (λ same. whole c.args.name.now (g.F.Shelf.state c.args.shelf.now) (g.F.Shelf.state c.give_back.new.self) (g.F.File.Source.state c.read_all-bytes.new.source) (came g c) (same ∙ c.in_ok-file.ensures.file.count)) c.read_all-bytes.ensures.count

pub returns-clause-failed : goal.returns-clause-failed
returns-clause-failed g c failed =
    let count = (g.F.File.Source.state c.read_all-bytes.new.source).count in
    marred _ _ _ (g.F.File.Source.state c.read_all-bytes.new.source) (came g c) (subst (λ n. Rose n count) c.in_ok-file.ensures.file.count (c.read_all-bytes.ensures.failed failed))

pub returns-clause-memory : goal.returns-clause-memory
returns-clause-memory g c failed = stopped _ _ _ (g.F.File.Source.state c.read_all-bytes.new.source) (came g c)
