use Rattle.std.proofs.Common.{◌∙◌, sym, subst, List, ℕ}
use Rattle.std.specs.Str.{IsUtf8}
use Rattle.std.proofs.lemmas.Fmt.{IsAscii-decimal}
use Rattle.std.proofs.lemmas.Str.{IsUtf8-from_ascii}
use Rattle.std.specs.Fmt.{decimal}
use Rattle.lola_save_read.proofs.words.candidate.Goals as goal

pub returns-in-Err : goal.returns-in-Err
returns-in-Err c = λ n lt e.
    absurd (c.in-Err.ensures.cases.0 (subst (λ (t : List ℕ). IsUtf8 t) (sym e) (IsUtf8-from_ascii (decimal n) (IsAscii-decimal n lt))))

pub returns-in-Ok : goal.returns-in-Ok
returns-in-Ok c = λ n lt e. c.parsed.ensures n lt (c.in-Ok.ensures.cases.0 ∙ e)
