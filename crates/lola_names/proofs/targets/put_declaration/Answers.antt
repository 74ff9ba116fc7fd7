use Rattle.std.proofs.Common.{sym, subst}
use Rattle.lola_parser_grammar.specs.declared.declarations.Declaration.{Declaration}
use Rattle.lola_names.specs.Targets.{targets_with}
use Rattle.lola_names.specs.Tables.{PutsBehind, count_of}
use Rattle.lola_names.specs.declared.targets.Target.TheVariants as target
use Rattle.lola_names.proofs.TableLemmas.{puts_name}
use Rattle.lola_names.proofs.targets.put_declaration.Goals as goal

pub returns-in_ok-put-in-Constant-clause-table : goal.returns-in_ok-put-in-Constant-clause-table
returns-in_ok-put-in-Constant-clause-table c =
    subst (λ (x : Declaration). PutsBehind c.args.table.now (targets_with (count_of c.args.counts) x) c.put.new.self) (sym c.in-Constant.is)
    (puts_name c.args.table.now c.put.new.self c.in-Constant.x.name (target.Constant c.args.counts.declarations) c.in_ok-put-in-Constant.ensures)

pub returns-in_ok-streams-in-Output-clause-table : goal.returns-in_ok-streams-in-Output-clause-table
returns-in_ok-streams-in-Output-clause-table c =
    subst (λ (x : Declaration). PutsBehind c.args.table.now (targets_with (count_of c.args.counts) x) c.put-in-Output.new.self) (sym c.in-Output.is)
    (puts_name c.args.table.now c.put-in-Output.new.self c.in-Output.x.name (target.Output c.args.counts.streams) c.in_ok-put-in-Output.ensures)
