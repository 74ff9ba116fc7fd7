use Rattle.lola_names.proofs.Growth.{begin_before, grows_then}
use Rattle.lola_names.proofs.outputs.clauses_of.Goals as goal

pub returns-clause-spawn : goal.returns-clause-spawn
returns-clause-spawn c =
    λ texts windows begins.
    c.in_ok-spawn.ensures.resolved texts windows
    (begin_before _ _ _ _ texts windows c.in_ok-eval.ensures.grown (begin_before _ _ _ _ texts windows c.in_ok-close.ensures.grown begins))

pub returns-clause-eval : goal.returns-clause-eval
returns-clause-eval c =
    λ texts windows begins. c.in_ok-eval.ensures.resolved texts windows (begin_before _ _ _ _ texts windows c.in_ok-close.ensures.grown begins)

pub returns-clause-grown : goal.returns-clause-grown
returns-clause-grown c =
    grows_then _ _ _ _ _ _ _ c.in_ok-spawn.ensures.grown (grows_then _ _ _ _ _ _ _ c.in_ok-eval.ensures.grown c.in_ok-close.ensures.grown)
