use Rattle.std.proofs.Common.{◌<◌, length, take, arith}
use Rattle.lola_model.specs.PacingFound.{findings_at, rates_of}
use Rattle.lola_pacing.proofs.RateLemmas.{rates_more}
use Rattle.lola_pacing.proofs.rates.least.Goals as goal

pub loop-stream-preserved : goal.loop-stream-preserved
loop-stream-preserved c =
    let fs = c.args.findings.now in
    let ss = c.args.streams.now in
    let i = c.loop-stream.stream-index in
    let within : i < length ss = omega arith in
    let before = rates_of (findings_at fs (take i ss)) in
    let step = c.lesser-least.ensures before c.loop-stream.invariant in
    rw (rates_more fs ss i within, ← c.rate_at.ensures) step
