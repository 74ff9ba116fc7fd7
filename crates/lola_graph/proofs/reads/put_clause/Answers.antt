use Rattle.lola_graph.proofs.PartLemmas.{edges_put}
use Rattle.lola_graph.proofs.reads.put_clause.Goals as goal

pub returns : goal.returns
returns c = edges_put c.args.windows.now c.args.from c.args.clause.now c.args.edges.now c.visit_clause.new.target c.in_ok-visit_clause.ensures
