use Rattle.std.proofs.Common.{◌≡◌, Some, None}
use Rattle.std.specs.Fmt.{decimal}
use Rattle.lola_save_read.proofs.ReadWords.{not-written}
use Rattle.lola_save_read.proofs.words.number_word.Goals as goal

pub returns-in-None : goal.returns-in-None
returns-in-None c = λ n lt e. (let f : None ≡ Some n = c.in-None.ensures n lt e in absurd (cc f))

pub returns-else-is_decimal : goal.returns-else-is_decimal
returns-else-is_decimal c = λ n lt e.
    not-written (λ m. decimal m) c.args.digits.now c.is_decimal.result c.in-Some.n n c.is_decimal.ensures.1 c.if-is_decimal.false (c.in-Some.ensures n lt e) e
