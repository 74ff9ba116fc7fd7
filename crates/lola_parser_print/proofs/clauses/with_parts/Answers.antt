use Rattle.std.proofs.Common.{◌∷◌, [], ◌++◌, length, take, drop, ◌-◌, ◌≤◌, arith}
use Rattle.lola_lexer.specs.declared.shape.TokenShape.TheVariants as is
use Rattle.lola_parser_print.specs.Print as out
use Rattle.lola_parser_print.specs.Print.{lex, spelled_out}
use Rattle.lola_parser_print.proofs.Writing.{ends_more, adds_more, some_parts}
use Rattle.lola_parser_print.proofs.clauses.with_parts.Goals as goal

pub returns-in_ok-further_parts-in-len1-up : goal.returns-in_ok-further_parts-in-len1-up
returns-in_ok-further_parts-in-len1-up c =
    let ps = c.args.parts.now in
    let p = c.first-item.result in
    let rest = out.further_parts (take (length ps - 1) (drop 1 ps)) in
    let two = adds_more _ _ _ (lex is.With ∷ out.part is.Open p) rest c.in_ok-part-in-len1-up.ensures c.in_ok-further_parts-in-len1-up.ensures in
    let many : 2 ≤ length ps = omega arith in
    ends_more c.append.result _ _ _ ((lex is.With ∷ out.part is.Open p) ++ rest) (lex is.Shut ∷ []) (out.with_parts ps) (some_parts ps p c.first-item.is many) two c.append.ensures.ok
