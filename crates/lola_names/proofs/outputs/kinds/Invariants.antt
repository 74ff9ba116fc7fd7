use Rattle.std.proofs.Common.{◌≡◌, ◌++◌, drop, map}
use Rattle.lola_parser_grammar.specs.declared.literals.Typed.{Typed}
use Rattle.lola_names.specs.Resolved.{kind_spelled}
use Rattle.lola_names.proofs.outputs.kinds.Given as goal

abbrev pub invariant-loop-x : goal.invariant-loop-x
invariant-loop-x l = l.kinds ++ map (λ (t : Typed). kind_spelled t.kind) (drop l.x-index l.xs) ≡ map (λ (t : Typed). kind_spelled t.kind) l.xs
