-- The law.
use Rattle.lola_names_refused.proofs.FirstDeclaration.{means_first_declaration}
use Rattle.lola_names_refused.proofs.law.first_declaration.Goals as goal

pub returns : goal.returns
returns c = means_first_declaration
