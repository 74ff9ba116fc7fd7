use Rattle.std.proofs.Common.{◌≡◌, All, sym, ap, subst, ◌∙◌, List}
use Rattle.std.proofs.lemmas.List.Elements.{All-push}
use Rattle.lola_port.specs.States.{SourceState}
use Rattle.lola_rows.specs.Reading.{Reading}
use Rattle.lola_feed.specs.Feeding.{Working}
use Rattle.lola_monitor.proofs.drilling.let_go.Goals as goal

pub loop-worker-preserved : goal.loop-worker-preserved
loop-worker-preserved c =
    let P : Working → Type 0 = λ w. w.reader.source.count ≡ 0 in
    let none : P c.in-Some.worker = sym (ap (λ (s : SourceState). s.count) (c.into_source-source.ensures ∙ ap (λ (r : Reading). r.source) c.into_reader.ensures)) in
    λ all. c.loop-worker.invariant (subst (λ (l : List Working). All P l) (sym c.in-Some.ensures.items) (All-push P c.pop.new.self.items c.in-Some.worker all none))
