use Rattle.std.proofs.Common.{◌≡◌, true}
use Rattle.lola_save_read.proofs.WordCuts.{name-other}
use Rattle.lola_save_read.proofs.bodies.behind_name.Goals as goal

pub returns-else-is_word : goal.returns-else-is_word
returns-else-is_word c =
    name-other c.args.name.now c.args.body.now c.cut_word.result.0.now c.cut_word.result.1.now c.requires c.cut_word.ensures
    (λ e. let t : c.is_word.result ≡ true = c.is_word.ensures.1 e in let f = c.if-is_word.false in absurd (cc))
