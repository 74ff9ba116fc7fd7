use Rattle.std.proofs.Common.{rules, ◌≡◌, ◌∙◌, ◌+◌, ◌-◌, ◌<◌, ap, arith}
use Rattle.std.proofs.lemmas.Int.{to_z-of_z}
use mir.Syntax.{w128}
use mir.Val.{SFits}
use Rattle.lola_panes.specs.Parts.{part, partial_of, pane_values}
use Rattle.lola_panes.specs.Rings.{left_count}
use Rattle.lola_panes.specs.Standing.{Partials}
use Rattle.lola_panes.specs.Weights.{number_at}
use Rattle.lola_panes.proofs.Owning.{read-part}
use Rattle.lola_panes.proofs.Rising.{left_le}
use Rattle.lola_panes.proofs.panes.Panes.partial.Goals as goal

pub tally-tally-requires : goal.tally-tally-requires
tally-tally-requires c =
    let n = c.pane_number.result - c.args.k in
    let l = left_le 1 n c.args.self.now.panes in
    let e = c.left-place.ensures ∙ ap (λ (w : Partials). left_count 1 n w.panes) c.self.view_is in
    omega arith

pub returns : goal.returns
returns c = λ all h.
    let p = c.args.self.now in
    let v = c.self.view_is in
    let n = c.pane_number.result - c.args.k in
    let ne : n ≡ number_at p.pane p.newest - c.args.k = ap (λ m. m - c.args.k) (c.pane_number.ensures ∙ ap (λ (w : Partials). number_at w.pane w.newest) v) in
    let t = c.tally-tally.result in
    let f : SFits w128 t.total = search rules in
    let low = c.requires.pane in
    let few = c.requires.count in
    let near : number_at p.pane p.newest < n + p.count = omega arith in
    c.part.ensures
    ∙ (ap (λ z. part c.self.inside.aggregation t.count z t.best) (to_z-of_z w128 t.total f)
    ∙ (ap (λ (w : Partials). part w.aggregation t.count t.total t.best) v
    ∙ (read-part p.aggregation p.pane p.whole p.added p.count (number_at p.pane p.newest) n p.panes all c.left-place.result t.count t.total t.best near
    (c.left-place.ensures ∙ ap (λ (w : Partials). left_count 1 n w.panes) v) c.tally-tally.ensures.count c.tally-tally.ensures.total c.tally-tally.ensures.best h.holds
    ∙ ap (λ m. partial_of p.aggregation (pane_values p.pane m all)) ne)))
