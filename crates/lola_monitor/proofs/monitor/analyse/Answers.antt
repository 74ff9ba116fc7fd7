use Rattle.std.proofs.Common.{Global, [], ◌∷◌, List, ℕ, Some, map, string_bytes, ap, sym, subst, refl, ◌∙◌}
use Rattle.lola_monitor.specs.Monitor.{outside}
use Rattle.lola_monitor.specs.Outcomes.{Works}
use Rattle.lola_monitor.proofs.Asking.{analysed_is, analysed_names, analysed_specification}
use Rattle.lola_monitor.proofs.Calls.{asked_for, grew_noted, grew_unplanned}
use Rattle.lola_monitor.proofs.Working.{works_analysed, works_unplanned}
use Rattle.lola_monitor.proofs.monitor.analyse.Goals as goal

pub returns-in-Err-clause-works : goal.returns-in-Err-clause-works
returns-in-Err-clause-works g c out trace =
    let words = map (string_bytes {Z = Global}) c.args.words.now in
    let before = outside (g.F.Shelf.state c.args.shelf.now) out trace in
    let after = outside (g.F.Shelf.state c.read_plan.new.shelf) out trace in
    subst (λ outcome. Works outcome words before after) (sym c.without_plan.ensures)
    (works_unplanned words c.word_at.result.now before after (record { trace = refl; out = refl })
    (analysed_specification words c.args.specification c.requires.is_analysis ∙ ap Some (sym c.word_at.ensures)) c.in-Err.end c.in-Err.ensures)

pub returns-in-Err-clause-asked : goal.returns-in-Err-clause-asked
returns-in-Err-clause-asked g c =
    let words = map (string_bytes {Z = Global}) c.args.words.now in
    asked_for words (c.word_at.result.now ∷ []) (g.F.Shelf.state c.args.shelf.now) (g.F.Shelf.state c.read_plan.new.shelf)
    (analysed_names words c.args.specification c.requires.is_analysis ∙ ap (λ (n : List ℕ). n ∷ []) (sym c.word_at.ensures))
    (grew_unplanned c.in-Err.end c.word_at.result.now [] _ _ c.in-Err.ensures)

pub analysis-requires-clause-inputs : goal.analysis-requires-clause-inputs
analysis-requires-clause-inputs g c = c.in-Ok.ensures.accepted.named.few_inputs

pub analysis-requires-clause-streams : goal.analysis-requires-clause-streams
analysis-requires-clause-streams g c = c.in-Ok.ensures.accepted.named.few_streams

pub returns-in-Ok-analysis-clause-works : goal.returns-in-Ok-analysis-clause-works
returns-in-Ok-analysis-clause-works g c out trace =
    let words = map (string_bytes {Z = Global}) c.args.words.now in
    let before = outside (g.F.Shelf.state c.args.shelf.now) out trace in
    let after = outside (g.F.Shelf.state c.read_plan.new.shelf) out trace in
    let name = ap Some (sym c.word_at.ensures) in
    works_analysed words c.word_at.result.now before after (record { trace = refl; out = refl })
    (analysed_specification words c.args.specification c.requires.is_analysis ∙ name) c.in-Ok.plan c.in-Ok.ensures c.in-Ok-analysis.text
    (analysed_is words c.args.specification c.requires.is_analysis ∙ name) c.in-Ok-analysis.ensures

pub returns-in-Ok-analysis-clause-asked : goal.returns-in-Ok-analysis-clause-asked
returns-in-Ok-analysis-clause-asked g c =
    let words = map (string_bytes {Z = Global}) c.args.words.now in
    asked_for words (c.word_at.result.now ∷ []) (g.F.Shelf.state c.args.shelf.now) (g.F.Shelf.state c.read_plan.new.shelf)
    (analysed_names words c.args.specification c.requires.is_analysis ∙ ap (λ (n : List ℕ). n ∷ []) (sym c.word_at.ensures))
    (grew_noted c.word_at.result.now [] _ _ c.in-Ok.ensures.shelf)

pub returns-clause-asked : goal.returns-clause-asked
returns-clause-asked g c =
    let words = map (string_bytes {Z = Global}) c.args.words.now in
    asked_for words (c.word_at.result.now ∷ []) (g.F.Shelf.state c.args.shelf.now) (g.F.Shelf.state c.read_plan.new.shelf)
    (analysed_names words c.args.specification c.requires.is_analysis ∙ ap (λ (n : List ℕ). n ∷ []) (sym c.word_at.ensures))
    (grew_noted c.word_at.result.now [] _ _ c.in-Ok.ensures.shelf)
