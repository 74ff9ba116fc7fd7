use Rattle.std.proofs.Common.{◌≡◌, drop}
use Rattle.std.specs.List.{flat_map}
use Rattle.lola_names_refused.specs.Noted.{noted}
use Rattle.lola_names_refused.specs.Refused as refused
use Rattle.lola_parser_grammar.specs.declared.literals.Typed.{Typed}
use Rattle.lola_names_refused.proofs.uses.kind_uses.Given as goal

abbrev pub invariant-loop-item : goal.invariant-loop-item
invariant-loop-item l = noted l.found (flat_map (λ (t : Typed). refused.kind_use t.kind) (drop l.item-index l.items)) ≡ noted l.fn.found (flat_map (λ (t : Typed). refused.kind_use t.kind) l.items)
