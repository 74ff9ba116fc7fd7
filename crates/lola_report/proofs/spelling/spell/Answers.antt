use Rattle.std.proofs.Common.{◌≡◌, ◌++◌, ℕ, ◌+◌, ◌<◌, length, get_or, List, refl, sym, ap, ◌∙◌, arith}
use Rattle.std.proofs.lemmas.Result.{on_ok_weaker, on_err_weaker}
use Rattle.lola_model.specs.Texts.{escaped}
use Rattle.lola_report.proofs.Sequences.{on_err, part_at, one_more}
use Rattle.lola_report.proofs.Runs.{run_appended, run_more, run_none, run_to_end}
use Rattle.lola_report.proofs.spelling.spell.Goals.{in-Some+in_ok-append+in_ok-append-2, in_default}
use Rattle.lola_report.proofs.spelling.spell.Goals as goal

pub returns-in_err-append-clause-memory : goal.returns-in_err-append-clause-memory
returns-in_err-append-clause-memory c =
    on_err _ (part_at escaped c.args.bytes.now c.loop-i.done c.args.to.now _ (c.in_err-append.ensures.err ∙ c.loop-i.invariant.before))

pub returns-in_err-append-2-clause-memory : goal.returns-in_err-append-2-clause-memory
returns-in_err-append-2-clause-memory c =
    let i = c.loop-i.invariant in
    let run = run_appended escaped c.args.bytes.now c.loop-i.done c.loop-i.i c.args.to.now c.loop-i.to _ i.behind i.before i.plain c.in_ok-append.ensures.ok in
    on_err _ (part_at escaped c.args.bytes.now c.loop-i.i c.args.to.now _ (c.in_err-append-2.ensures.err ∙ run))

pub loop-i-preserved : goal.loop-i-preserved
loop-i-preserved c =
    let i = c.loop-i.invariant in
    let f = escaped in
    let xs = c.args.bytes.now in
    let within : c.loop-i.i < length xs = omega arith in
    elim c.match-pair_for.branch [
      | in-Some+in_ok-append+in_ok-append-2 w ↦
          let run = run_appended f xs c.loop-i.done c.loop-i.i c.args.to.now c.loop-i.to _ i.behind i.before i.plain w.in_ok-append.ensures.ok in
          let pair = w.in_ok-append-2.ensures.ok ∙ ap (λ (l : List ℕ). w.append.new.self ++ l) (sym w.in-Some.ensures) in
          let here = one_more f xs c.loop-i.i (get_or xs c.loop-i.i 0) 0 c.args.to.now w.append.new.self _ within refl run pair in
          rw (w.to-is, w.done-is) (record { behind = omega arith; before = here; plain = run_none f xs (c.loop-i.i + 1) })
      | in_default w ↦
          rw (w.to-is, w.done-is) (record { behind = omega arith; before = i.before; plain = run_more f xs c.loop-i.done c.loop-i.i i.behind within i.plain w.in_default.ensures })
    ]

pub returns-clause-ok : goal.returns-clause-ok
returns-clause-ok c =
    let i = c.loop-i.invariant in
    let end : c.loop-i.i ≡ length c.args.bytes.now = omega arith in
    on_ok_weaker c.append-2.result (run_to_end escaped c.args.bytes.now c.loop-i.done c.loop-i.i c.args.to.now c.loop-i.to _ i.behind end i.before i.plain) c.append-2.ensures.ok

pub returns-clause-memory : goal.returns-clause-memory
returns-clause-memory c =
    let i = c.loop-i.invariant in
    on_err_weaker c.append-2.result (λ same. part_at escaped c.args.bytes.now c.loop-i.done c.args.to.now _ (same ∙ i.before)) c.append-2.ensures.err
