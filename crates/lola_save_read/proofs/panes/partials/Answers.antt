use Rattle.std.proofs.Common.{◌≡◌, true, arith}
use Rattle.lola_save_read.proofs.PaneRows.{parts-full, parts-more, parts-stop, parts-whole}
use Rattle.lola_save_read.proofs.panes.partials.Goals as goal

pub returns-in-None : goal.returns-in-None
returns-in-None c =
    parts-stop c.args.how c.args.kind c.args.steps c.args.bytes.now c.loop-turn._turn c.loop-turn.counts c.loop-turn.totals c.loop-turn.partials c.loop-turn.left.now c.loop-turn.invariant c.args.number (omega arith)
    c.requires.few c.in-None.ensures

pub loop-turn-preserved : goal.loop-turn-preserved
loop-turn-preserved c =
    rw (c.in_ok-push-in-Some.ensures.ok, c.counted-counts.ensures, c.total_size-totals.ensures)
    (parts-more c.args.how c.args.kind c.args.steps c.args.bytes.now c.loop-turn._turn c.loop-turn.counts c.loop-turn.totals c.loop-turn.partials c.loop-turn.left.now c.in-Some.partial c.in-Some.rest.now c.loop-turn.invariant
    c.in-Some.ensures)

pub returns-then-is_nothing : goal.returns-then-is_nothing
returns-then-is_nothing c =
    parts-whole c.args.how c.args.kind c.args.steps c.args.bytes.now c.loop-turn._turn c.loop-turn.counts c.loop-turn.totals c.loop-turn.partials c.loop-turn.left.now c.loop-turn.invariant c.args.number (omega arith)
    (c.is_nothing.ensures.0 c.if-is_nothing.true)

pub returns-else-is_nothing : goal.returns-else-is_nothing
returns-else-is_nothing c =
    parts-full c.args.how c.args.kind c.args.steps c.args.bytes.now c.loop-turn._turn c.loop-turn.counts c.loop-turn.totals c.loop-turn.partials c.loop-turn.left.now c.loop-turn.invariant c.args.number (omega arith)
    c.requires.few (λ e. let t : c.is_nothing.result ≡ true = c.is_nothing.ensures.1 e in let f = c.if-is_nothing.false in absurd (cc))
