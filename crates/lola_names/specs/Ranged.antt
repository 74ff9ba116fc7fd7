-- The places of what is out of range, declaration by declaration.
use Rattle.std.specs.Prelude.{ℕ, List, [], ◌∷◌, length, drop}
use Rattle.lola_parser_grammar.specs.declared.declarations.Declaration.{Declaration}
use Rattle.lola_parser_grammar.specs.declared.declarations.Declaration.TheVariants as d
use Rattle.lola_model.specs.declared.spec.Stream.{Stream}
use Rattle.lola_names.specs.Specification.{output_ranges, trigger_ranges}

-- of a declaration, with the streams from its own on
abbrev pub first_ranges : Declaration → List Stream → List ℕ
first_ranges (d.Inputs x) ss = []
first_ranges (d.Constant x) ss = []
first_ranges (d.Output x) [] = []
first_ranges (d.Output x) (s ∷ ss) = output_ranges x s
first_ranges (d.Trigger x) [] = []
first_ranges (d.Trigger x) (s ∷ ss) = trigger_ranges x s

-- the streams behind those of a declaration
abbrev pub streams_behind : Declaration → List Stream → List Stream
streams_behind (d.Inputs x) ss = drop (length x.inputs) ss
streams_behind (d.Constant x) ss = ss
streams_behind (d.Output x) ss = drop 1 ss
streams_behind (d.Trigger x) ss = drop 1 ss
