use Rattle.std.proofs.Common.{Global, [], ◌∷◌, List, ℕ, Some, map, string_bytes, ap, sym, subst, refl, ◌∙◌}
use Rattle.lola_value.specs.Words.{word_at}
use Rattle.lola_monitor.specs.Command.{replay_with}
use Rattle.lola_monitor.specs.Monitor.{outside}
use Rattle.lola_monitor.specs.Outcomes.{ReadPlan, Works}
use Rattle.lola_monitor.proofs.Asking.{replay_is, replayed_names, replayed_specification}
use Rattle.lola_monitor.proofs.Calls.{asked_for, grew_texts, grew_twice, grew_unplanned}
use Rattle.lola_monitor.proofs.Replays.{works_replayed}
use Rattle.lola_monitor.proofs.Working.{works_unplanned}
use Rattle.lola_monitor.proofs.monitor.replay.Goals as goal

pub returns-in-Err-clause-works : goal.returns-in-Err-clause-works
returns-in-Err-clause-works g c out trace =
    let words = map (string_bytes {Z = Global}) c.args.words.now in
    let before = outside (g.F.Shelf.state c.args.shelf.now) out trace in
    let after = outside (g.F.Shelf.state c.read_plan.new.shelf) out trace in
    subst (λ outcome. Works outcome words before after) (sym c.without_plan.ensures)
    (works_unplanned words c.word_at.result.now before after (record { trace = refl; out = refl })
    (replayed_specification words c.args.command.now c.requires.is_replay ∙ ap Some (sym c.word_at.ensures)) c.in-Err.end c.in-Err.ensures)

pub returns-in-Err-clause-asked : goal.returns-in-Err-clause-asked
returns-in-Err-clause-asked g c =
    let words = map (string_bytes {Z = Global}) c.args.words.now in
    let command = c.args.command.now in
    let rest : List (List ℕ) = word_at words command.trace ∷ word_at words command.verdicts ∷ [] in
    asked_for words (c.word_at.result.now ∷ rest) (g.F.Shelf.state c.args.shelf.now) (g.F.Shelf.state c.read_plan.new.shelf)
    (replayed_names words command c.requires.is_replay ∙ ap (λ (n : List ℕ). n ∷ rest) (sym c.word_at.ensures))
    (grew_unplanned c.in-Err.end c.word_at.result.now rest _ _ c.in-Err.ensures)

pub returns-clause-works : goal.returns-clause-works
returns-clause-works g c out trace =
    let words = map (string_bytes {Z = Global}) c.args.words.now in
    let names = replay_with words c.args.command.now in
    let before = outside (g.F.Shelf.state c.args.shelf.now) out trace in
    let mid = g.F.Shelf.state c.read_plan.new.shelf in
    let after = outside (g.F.Shelf.state c.replay_texts.new.shelf) out trace in
    works_replayed words names c.in-Ok.plan before after mid (record { trace = refl; out = refl })
    (replay_is words c.args.command.now c.requires.is_replay)
    (subst (λ (n : List ℕ). ReadPlan c.in-Ok.plan n (g.F.Shelf.state c.args.shelf.now) mid) c.word_at.ensures c.in-Ok.ensures)
    c.replay_texts.result c.replay_texts.ensures

pub returns-clause-asked : goal.returns-clause-asked
returns-clause-asked g c =
    let words = map (string_bytes {Z = Global}) c.args.words.now in
    let command = c.args.command.now in
    let names = replay_with words command in
    let rest : List (List ℕ) = names.trace ∷ names.verdicts ∷ [] in
    let before = g.F.Shelf.state c.args.shelf.now in
    let mid = g.F.Shelf.state c.read_plan.new.shelf in
    let after = g.F.Shelf.state c.replay_texts.new.shelf in
    asked_for words (c.word_at.result.now ∷ rest) before after
    (replayed_names words command c.requires.is_replay ∙ ap (λ (n : List ℕ). n ∷ rest) (sym c.word_at.ensures))
    (grew_twice c.word_at.result.now rest before mid after c.in-Ok.ensures.shelf (grew_texts c.replay_texts.result c.in-Ok.plan names mid after c.replay_texts.ensures))
