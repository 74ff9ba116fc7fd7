use Rattle.std.proofs.Common.{◌≡◌, ◌++◌, drop, map}
use Rattle.lola_parser_grammar.specs.declared.clauses.Part.{Part as TreePart}
use Rattle.lola_names.proofs.clauses.places.Given as goal

abbrev pub invariant-loop-part : goal.invariant-loop-part
invariant-loop-part l = l.places ++ map (λ (q : TreePart). q.at) (drop l.part-index l.xs) ≡ map (λ (q : TreePart). q.at) l.xs
