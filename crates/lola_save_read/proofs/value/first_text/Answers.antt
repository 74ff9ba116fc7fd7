use Rattle.std.proofs.Common.{◌≡◌, true, sym, subst}
use Rattle.std.specs.Str.{is_utf8}
use Rattle.lola_save_read.proofs.ValueWords.{other-text}
use Rattle.lola_save_read.proofs.value.first_text.Goals as goal

pub returns-else-is_text_before : goal.returns-else-is_text_before
returns-else-is_text_before c =
    other-text c.args.bytes.now c.unquote.new.room c.in-Some.rest.now (rw c.in-Some.is at c.in_ok-unquote.ensures)
    (λ p. let t : c.is_text_before.result ≡ true = c.is_text_before.ensures.1 (subst (λ (l : _). is_utf8 l ≡ true) (sym c.as_bytes.ensures) p.0, p.1) in let f = c.if-is_text_before.false in absurd (cc))
