use Rattle.std.proofs.Common.{◌≡◌, drop}
use Rattle.std.specs.List.{flat_map}
use Rattle.lola_names_refused.specs.Noted.{noted}
use Rattle.lola_names_refused.specs.Refused as refused
use Rattle.lola_parser_grammar.specs.declared.clauses.Part.{Part}
use Rattle.lola_names_refused.proofs.uses.with_uses.Given as goal

abbrev pub invariant-loop-part : goal.invariant-loop-part
invariant-loop-part l = noted l.found (flat_map (λ (x : Part). refused.uses l.parameters l.names x.expr) (drop l.part-index l.parts)) ≡ noted l.fn.found (flat_map (λ (x : Part). refused.uses l.parameters l.names x.expr) l.parts)
