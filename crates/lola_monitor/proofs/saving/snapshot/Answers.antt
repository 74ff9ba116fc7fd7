use Rattle.std.proofs.Common.{Global, Err, List, ℕ, ◌∷◌, ◌++◌, Option, map, string_bytes, refl, ap, sym, subst, ◌∙◌}
use Rattle.std.specs.Option.{option_map, option_to_list}
use Rattle.lola_feed.specs.Lending.{names_at}
use Rattle.lola_value.specs.Words.{word_at}
use Rattle.lola_monitor_command.specs.Said.{name_at}
use Rattle.lola_monitor_command.specs.declared.said.NamePlace.{NamePlace}
use Rattle.lola_monitor.specs.Causes.{Causes}
use Rattle.lola_monitor.specs.Command.{snapshot_with, texts_named}
use Rattle.lola_monitor.specs.Monitor.{outside}
use Rattle.lola_monitor.specs.Outcomes.{PlansName, ReadPlan}
use Rattle.lola_monitor.specs.Replaying.{IsText}
use Rattle.lola_monitor.specs.SnapshotOutcomes.{WorksSnapshot}
use Rattle.lola_monitor.specs.Snapshots.{inputs_of}
use Rattle.lola_monitor.proofs.Asking.{snapshot_names}
use Rattle.lola_monitor.proofs.CallCauses.{caused_unplanned}
use Rattle.lola_monitor.proofs.Calls.{asked_for, grew_twice, grew_unplanned}
use Rattle.lola_monitor.proofs.SnapshotWorks.{snapshot_unplanned}
use Rattle.lola_monitor.proofs.Starts.{option_in_time}
use Rattle.lola_monitor.proofs.saving.snapshot.Goals as goal

pub returns-in-Err-clause-works : goal.returns-in-Err-clause-works
returns-in-Err-clause-works g c out trace =
    let words = map (string_bytes {Z = Global}) c.args.words.now in
    let command = c.args.command.now in
    let names = snapshot_with words command in
    let before = g.F.Shelf.state c.args.shelf.now in
    let after = g.F.Shelf.state c.read_specification.new.shelf in
    subst (λ outcome. WorksSnapshot outcome names (outside before out trace) (outside after out trace)) (sym c.without_plan.ensures)
    (snapshot_unplanned names c.in-Err.end before after out trace (subst (λ (n : List ℕ). PlansName (Err c.in-Err.end) n before after) c.word_at-name.ensures c.in-Err.ensures.plan))

pub returns-in-Err-clause-cause : goal.returns-in-Err-clause-cause
returns-in-Err-clause-cause g c out trace =
    let inputs = inputs_of (snapshot_with (map (string_bytes {Z = Global}) c.args.words.now) c.args.command.now) in
    let before = g.F.Shelf.state c.args.shelf.now in
    let after = g.F.Shelf.state c.read_specification.new.shelf in
    subst (λ outcome. Causes outcome inputs (outside before out trace) (outside after out trace)) (sym c.without_plan.ensures)
    (caused_unplanned c.in-Err.end inputs (outside before out trace) (outside after out trace) (record { trace = refl; out = refl }))

pub returns-in-Err-clause-asked : goal.returns-in-Err-clause-asked
returns-in-Err-clause-asked g c =
    let words = map (string_bytes {Z = Global}) c.args.words.now in
    let command = c.args.command.now in
    let rest = option_to_list (option_map (name_at words) command.state) ++ map (word_at words) command.sources in
    asked_for words (c.word_at-name.result.now ∷ rest) (g.F.Shelf.state c.args.shelf.now) (g.F.Shelf.state c.read_specification.new.shelf)
    (snapshot_names words command c.requires.is_snapshot ∙ ap (λ (n : List ℕ). n ∷ rest) (sym c.word_at-name.ensures))
    (grew_unplanned c.in-Err.end c.word_at-name.result.now rest _ _ c.in-Err.ensures.plan)

pub snapshot_anew-requires-clause-sources : goal.snapshot_anew-requires-clause-sources
snapshot_anew-requires-clause-sources g c κs within = c.requires.bounds.sources

pub snapshot_anew-requires-clause-start : goal.snapshot_anew-requires-clause-start
snapshot_anew-requires-clause-start g c κs within = option_in_time c.args.command.now.start c.requires.bounds.start

pub snapshot_behind-requires-clause-sources : goal.snapshot_behind-requires-clause-sources
snapshot_behind-requires-clause-sources g c κs within = c.requires.bounds.sources

pub returns-in-None-clause-works : goal.returns-in-None-clause-works
returns-in-None-clause-works g c out trace =
    let words = map (string_bytes {Z = Global}) c.args.words.now in
    let before = g.F.Shelf.state c.args.shelf.now in
    let mid = g.F.Shelf.state c.read_specification.new.shelf in
    let s = c.in-Ok.specification in
    c.snapshot_anew.ensures.works before out trace (subst (λ (n : List ℕ). ReadPlan s.plan n before mid) c.word_at-name.ensures c.in-Ok.ensures.plan)
    (subst (λ (n : List ℕ). IsText (before.told n) s.bytes.items) c.word_at-name.ensures c.in-Ok.ensures.text)

pub returns-in-None-clause-cause : goal.returns-in-None-clause-cause
returns-in-None-clause-cause g c out trace =
    let before = g.F.Shelf.state c.args.shelf.now in
    let mid = g.F.Shelf.state c.read_specification.new.shelf in
    let s = c.in-Ok.specification in
    c.snapshot_anew.ensures.cause before out trace (subst (λ (n : List ℕ). ReadPlan s.plan n before mid) c.word_at-name.ensures c.in-Ok.ensures.plan)
    (subst (λ (n : List ℕ). IsText (before.told n) s.bytes.items) c.word_at-name.ensures c.in-Ok.ensures.text)

pub returns-in-None-clause-asked : goal.returns-in-None-clause-asked
returns-in-None-clause-asked g c =
    let words = map (string_bytes {Z = Global}) c.args.words.now in
    let command = c.args.command.now in
    let sources = names_at words command.sources in
    asked_for words (c.word_at-name.result.now ∷ sources) (g.F.Shelf.state c.args.shelf.now) (g.F.Shelf.state c.snapshot_anew.new.shelf)
    (snapshot_names words command c.requires.is_snapshot ∙ ap (λ (o : Option NamePlace). texts_named words command.specification o ++ sources) c.in-None.is
    ∙ ap (λ (n : List ℕ). n ∷ sources) (sym c.word_at-name.ensures))
    (grew_twice c.word_at-name.result.now sources (g.F.Shelf.state c.args.shelf.now) (g.F.Shelf.state c.read_specification.new.shelf) (g.F.Shelf.state c.snapshot_anew.new.shelf) c.in-Ok.ensures.plan.shelf c.snapshot_anew.ensures.asked)

pub returns-in-Some-clause-works : goal.returns-in-Some-clause-works
returns-in-Some-clause-works g c out trace =
    let before = g.F.Shelf.state c.args.shelf.now in
    let mid = g.F.Shelf.state c.read_specification.new.shelf in
    let s = c.in-Ok.specification in
    c.snapshot_behind.ensures.works before out trace (subst (λ (n : List ℕ). ReadPlan s.plan n before mid) c.word_at-name.ensures c.in-Ok.ensures.plan)
    (subst (λ (n : List ℕ). IsText (before.told n) s.bytes.items) c.word_at-name.ensures c.in-Ok.ensures.text)

pub returns-in-Some-clause-cause : goal.returns-in-Some-clause-cause
returns-in-Some-clause-cause g c out trace =
    let before = g.F.Shelf.state c.args.shelf.now in
    let mid = g.F.Shelf.state c.read_specification.new.shelf in
    let s = c.in-Ok.specification in
    c.snapshot_behind.ensures.cause before out trace (subst (λ (n : List ℕ). ReadPlan s.plan n before mid) c.word_at-name.ensures c.in-Ok.ensures.plan)
    (subst (λ (n : List ℕ). IsText (before.told n) s.bytes.items) c.word_at-name.ensures c.in-Ok.ensures.text)

pub returns-in-Some-clause-asked : goal.returns-in-Some-clause-asked
returns-in-Some-clause-asked g c =
    let words = map (string_bytes {Z = Global}) c.args.words.now in
    let command = c.args.command.now in
    let sources = names_at words command.sources in
    let rest = name_at words c.in-Some.place ∷ sources in
    asked_for words (c.word_at-name.result.now ∷ rest) (g.F.Shelf.state c.args.shelf.now) (g.F.Shelf.state c.snapshot_behind.new.shelf)
    (snapshot_names words command c.requires.is_snapshot ∙ ap (λ (o : Option NamePlace). texts_named words command.specification o ++ sources) c.in-Some.is
    ∙ ap (λ (n : List ℕ). n ∷ rest) (sym c.word_at-name.ensures))
    (grew_twice c.word_at-name.result.now rest (g.F.Shelf.state c.args.shelf.now) (g.F.Shelf.state c.read_specification.new.shelf) (g.F.Shelf.state c.snapshot_behind.new.shelf) c.in-Ok.ensures.plan.shelf c.snapshot_behind.ensures.asked)
