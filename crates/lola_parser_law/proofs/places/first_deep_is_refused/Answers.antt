use Rattle.lola_parser_law.proofs.InTree.{refused}
use Rattle.lola_parser_law.proofs.places.first_deep_is_refused.Goals as goal

pub returns : goal.returns
returns c n le ts x at less first end r h = refused n le ts x at less first end r h
