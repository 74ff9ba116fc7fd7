use Rattle.std.proofs.Common.{◌≡◌, ◌∙◌, ◌+◌, ◌<◌, ◌+ℤ◌, length, arith, ap, get_or, false, drop}
use Rattle.std.proofs.lemmas.Int.{ints}
use Rattle.lola_value.specs.declared.value.Value.TheVariants as value
use Rattle.lola_store.specs.declared.tally.Timed.{Timed}
use Rattle.lola_store.specs.declared.tally.Tally.{Tally}
use Rattle.lola_store.specs.Tallies.{tallied, inside, noted, number_in}
use Rattle.lola_store.proofs.Ranges.{small_at}
use Rattle.lola_store.proofs.Tallying.{step_in, step_out}
use Rattle.lola_store.proofs.tally.tally_of.Goals as goal
use Rattle.lola_store.proofs.tally.tally_of.Goals.{then-time-x, else-time-x}

abbrev unused : Timed
unused = record { at = 0; item = value.Bool false }

pub note-tally-requires-clause-low : goal.note-tally-requires-clause-low
note-tally-requires-clause-low c =
    let l : c.loop-x.x-index < length c.args.values.now = omega arith in
    let s = small_at c.args.values.now c.loop-x.x-index unused c.requires l in
    omega (arith, ints, s.low, c.loop-x.invariant.low)

pub note-tally-requires-clause-high : goal.note-tally-requires-clause-high
note-tally-requires-clause-high c =
    let l : c.loop-x.x-index < length c.args.values.now = omega arith in
    let s = small_at c.args.values.now c.loop-x.x-index unused c.requires l in
    omega (arith, ints, s.high, c.loop-x.invariant.high)

pub loop-x-preserved : goal.loop-x-preserved
loop-x-preserved c =
    let i = c.loop-x.x-index in
    let v = c.loop-x.invariant in
    let l : i < length c.args.values.now = omega arith in
    let s = small_at c.args.values.now i unused c.requires l in
    let x = get_or c.args.values.now i unused in
    elim c.if-time-x.branch [
      | then-time-x w ↦
          let e : c.if-time-x.tally ≡ noted c.loop-x.tally x.item = w.tally-is ∙ w.note-tally.ensures in
          let ez : c.if-time-x.tally.whole ≡ c.loop-x.tally.whole +ℤ number_in x.item = ap (λ (t : Tally). t.whole) e in
          let em : c.if-time-x.tally.many ≡ c.loop-x.tally.many + 1 = ap (λ (t : Tally). t.many) e in
          record {
            far = ap (λ (t : Tally). tallied t (inside c.args.over c.args.time (drop (i + 1) c.args.values.now))) e ∙ (step_in c.args.over c.args.time c.loop-x.tally c.args.values.now i unused l w.if-time-x.true ∙ v.far);
            many = omega (arith, em, v.many);
            low = omega (arith, ints, ez, s.low, v.low);
            high = omega (arith, ints, ez, s.high, v.high);
          }
      | else-time-x w ↦
          let ez : c.if-time-x.tally.whole ≡ c.loop-x.tally.whole = ap (λ (t : Tally). t.whole) w.tally-is in
          let em : c.if-time-x.tally.many ≡ c.loop-x.tally.many = ap (λ (t : Tally). t.many) w.tally-is in
          record {
            far = ap (λ (t : Tally). tallied t (inside c.args.over c.args.time (drop (i + 1) c.args.values.now))) w.tally-is ∙ (step_out c.args.over c.args.time c.loop-x.tally c.args.values.now i unused l w.if-time-x.false ∙ v.far);
            many = omega (arith, em, v.many);
            low = omega (arith, ints, ez, v.low);
            high = omega (arith, ints, ez, v.high);
          }
    ]
