use Rattle.std.proofs.Common.{arith, ◌≡◌, ◌-◌, false, get_or, take, drop, subst}
use Rattle.std.specs.List.{list_any}
use Rattle.std.proofs.lemmas.Bool.{ne_eqb}
use Rattle.lola_rows.specs.Line.{is_comma}
use Rattle.lola_rows.proofs.LineFacts.{run-step}
use Rattle.lola_rows.proofs.Searches.{runs-join}
use Rattle.lola_rows.proofs.line.comma_from.Goals as goal

pub loop-at-preserved : goal.loop-at-preserved
loop-at-preserved c =
    let other : is_comma (get_or c.args.line.now c.loop-at.at 0) ≡ false = ne_eqb _ _ c.if-line-at-eq44.false in
    run-step is_comma c.args.line.now c.args.start c.loop-at.at c.loop-at.auto.at (omega arith) c.loop-at.invariant other

pub returns-clause-run : goal.returns-clause-run
returns-clause-run c =
    let line = c.args.line.now in
    let start = c.args.start in
    let ended : c.loop-at.at ≡ c.near_end-near.result = omega arith in
    let near = subst (λ n. list_any is_comma (take (n - start) (drop start line)) ≡ false) ended c.loop-at.invariant in
    runs-join is_comma line start c.near_end-near.result c.far_comma.result (omega arith) (omega arith) near c.far_comma.ensures.run
