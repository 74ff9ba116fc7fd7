use Rattle.std.proofs.Common.{ap, ◌∙◌}
use Rattle.std.specs.Result.{result_ok}
use Rattle.std.proofs.lemmas.Fmt.{parse-decimal}
use Rattle.lola_save_read.proofs.words.parsed.Goals as goal

pub returns : goal.returns
returns c = λ n lt e. c.ok.ensures.value ∙ ap result_ok (parse-decimal 64 n c.args.text.now c.parse.result lt lt e c.parse.ensures.value.0)
