use Rattle.std.proofs.Common.{sym}
use Rattle.lola_value.proofs.ParamsLemmas.{other_counts}
use Rattle.lola_value.proofs.value.Params.is_same.Goals as goal

pub returns-then-self-other : goal.returns-then-self-other
returns-then-self-other c = sym (other_counts c.args.self.now c.args.other.now c.requires.this c.requires.that c.if-self-other.true)
