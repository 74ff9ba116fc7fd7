use Rattle.std.proofs.Common.{List, subst}
use Rattle.lola_parser_grammar.specs.declared.declarations.Declaration.{Declaration}
use Rattle.lola_names_refused.specs.Refused.{refusals_of}
use Rattle.lola_names.specs.Specification.{Resolves}
use Rattle.lola_names.proofs.WholeLemmas.{is_first, is_none}
use Rattle.lola_names.proofs.resolving.resolve.Goals as goal

pub returns-in-Some : goal.returns-in-Some
returns-in-Some c = is_first (refusals_of c.args.ast.now) c.in_ok-first.first c.in-Some.refusal c.in_ok-first.ensures c.in-Some.is

pub returns-in_ok-spec-in-None : goal.returns-in_ok-spec-in-None
returns-in_ok-spec-in-None c =
    let P : List Declaration → Type 0 = λ l. Resolves l c.in_ok-spec-in-None.spec in
    (is_none (refusals_of c.args.ast.now) c.in_ok-first.first c.in_ok-first.ensures c.in-None.is, subst P c.as_slice.ensures c.in_ok-spec-in-None.ensures)
