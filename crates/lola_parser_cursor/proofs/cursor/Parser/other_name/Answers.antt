use Rattle.std.proofs.Common.{◌≡◌, ◌∷◌, [], true, false}
use Rattle.lola_parser_grammar.specs.Syntax.{starts, Other}
use Rattle.lola_parser_grammar.specs.Grammar.{name_of, name, other_name}
use Rattle.lola_parser_cursor.proofs.Values.{as_any_name, other_missed}
use Rattle.lola_parser_cursor.proofs.cursor.Parser.other_name.Goals as goal

pub returns-then-not-sees_other : goal.returns-then-not-sees_other
unfolding other_name
returns-then-not-sees_other c =
    let e : starts (Other (c.args.first.now ∷ c.args.second.now ∷ []) ∷ []) c.args.self.now.rest ≡ false = cc in
    other_missed name_of (c.args.first.now ∷ c.args.second.now ∷ []) c.args.self.now.room c.args.self.now.rest e

pub returns : goal.returns
unfolding other_name name
returns c =
    let e : starts (Other (c.args.first.now ∷ c.args.second.now ∷ []) ∷ []) c.args.self.now.rest ≡ true = cc in
    rw (as_any_name name_of (c.args.first.now ∷ c.args.second.now ∷ []) c.args.self.now.room c.args.self.now.rest e) c.name.ensures
