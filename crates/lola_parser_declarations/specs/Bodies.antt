-- The clauses of an output, put together.
use Rattle.std.specs.Prelude.{Option, Some, None}
use Rattle.lola_parser_grammar.specs.declared.clauses.Spawn.{Spawn}
use Rattle.lola_parser_grammar.specs.declared.clauses.Eval.{Eval}
use Rattle.lola_parser_grammar.specs.declared.clauses.Close.{Close}
use Rattle.lola_parser_grammar.specs.Grammar.{Body}

-- an `eval` clause alone
abbrev pub alone : Eval → Body
alone x = (None, x, None)

-- behind a `spawn` clause
abbrev pub spawned : Spawn × (Eval × Option Close) → Body
spawned p = (Some p.0, p.1.0, p.1.1)
