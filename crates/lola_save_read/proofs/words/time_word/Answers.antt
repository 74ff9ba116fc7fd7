use Rattle.std.proofs.Common.{◌≡◌, Some, None, ap, ◌∙◌}
use Rattle.lola_value.specs.Times.{read_time, time_text}
use Rattle.lola_save_read.proofs.ReadWords.{not-written, time-back}
use Rattle.lola_save_read.proofs.words.time_word.Goals as goal

pub returns-in-None : goal.returns-in-None
returns-in-None c = λ t l e.
    (let f : None ≡ Some t = c.in-None.ensures.value ∙ ap read_time e ∙ time-back t l in absurd (cc f))

pub returns-else-is_time_text : goal.returns-else-is_time_text
returns-else-is_time_text c = λ t l e.
    not-written (λ m. time_text m) c.args.bytes.now c.is_time_text.result c.in-Some.t t c.is_time_text.ensures.1 c.if-is_time_text.false (c.in-Some.ensures.value ∙ ap read_time e ∙ time-back t l) e
