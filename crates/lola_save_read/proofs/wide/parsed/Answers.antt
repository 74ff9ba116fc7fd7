use Rattle.std.proofs.Common.{◌∙◌, ap, arith}
use Rattle.std.specs.Result.{result_ok}
use Rattle.std.proofs.lemmas.Fmt.{parse-decimal_wide}
use Rattle.lola_save_read.proofs.wide.parsed.Goals as goal

pub returns : goal.returns
returns c = λ n lt e. c.ok.ensures.value ∙ ap result_ok (parse-decimal_wide 128 n c.args.text.now c.parse.result (omega (arith, lt)) (omega (arith, lt)) e c.parse.ensures.value.0)
