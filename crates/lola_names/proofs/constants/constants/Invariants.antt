use Rattle.std.proofs.Common.{List, ◌++◌, drop}
use Rattle.lola_model.specs.declared.spec.Constant.{Constant}
use Rattle.lola_names.specs.Specification.{AreConstants, constants_of}
use Rattle.lola_names.proofs.constants.constants.Given as goal

abbrev pub invariant-loop-declaration : goal.invariant-loop-declaration
invariant-loop-declaration l =
    (rest : List Constant) → AreConstants l.texts (constants_of (drop l.declaration-index l.declarations)) rest
    → AreConstants l.texts (constants_of l.declarations) (l.constants ++ rest)
