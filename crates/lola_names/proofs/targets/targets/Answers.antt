use Rattle.std.proofs.Common.{◌≡◌, ℕ, refl, ap, ◌∙◌}
use Rattle.lola_names.specs.Targets.{targets_from, targets_of, counted_with}
use Rattle.lola_names.specs.Tables.{count_of}
use Rattle.lola_names.specs.declared.targets.Counts.{Counts}
use Rattle.lola_names.proofs.TableLemmas.{targets_turn, means_end}
use Rattle.lola_names.proofs.targets.targets.Goals as goal

pub loop-declaration-preserved : goal.loop-declaration-preserved
loop-declaration-preserved c =
    let l = c.loop-declaration in
    let behind = c.in_ok-behind.behind in
    let counts : Counts = record { streams = behind.streams; inputs = behind.inputs; declarations = c.in_ok-number.number } in
    let counted : count_of counts ≡ counted_with (count_of l.counts) c.declaration-item.result =
    ap (λ (n : ℕ). count_of (record { streams = behind.streams; inputs = behind.inputs; declarations = n })) c.in_ok-number.ensures ∙ c.in_ok-behind.ensures.counts in
    targets_turn l.table c.put_declaration.new.table (targets_of c.args.declarations.now) (count_of l.counts) (count_of counts) l.declaration-index c.args.declarations.now c.declaration-item.result
    c.loop-declaration-test.true c.declaration-item.is c.in_ok-behind.ensures.table counted l.invariant

pub returns : goal.returns
returns c =
    means_end (targets_from (count_of c.loop-declaration.counts)) c.args.declarations.now c.loop-declaration.declaration-index c.loop-declaration.table (targets_of c.args.declarations.now) refl c.loop-declaration-test.false
    c.loop-declaration.invariant
