use Rattle.std.proofs.Common.{◌≡◌, ◌-◌, length, take, drop, arith, ap, sym, ◌∙◌}
use Rattle.std.proofs.lemmas.Bool.Decides.{Decides-eqb}
use Rattle.std.proofs.lemmas.List.{take_rest}
use Rattle.std.proofs.lemmas.Slice.Eq.{slice_eq-Decides}
use Rattle.lola_save_read.proofs.words.is_time_text.Goals as goal

pub returns : goal.returns
returns c =
    let printed = c.print_time-from in
    let long : 21 ≡ length printed.new.room = omega arith in
    let rest = ap (λ n. take (n - printed.result) (drop printed.result printed.new.room)) long ∙ take_rest printed.new.room printed.result in
    let d = slice_eq-Decides Decides-eqb (take (21 - printed.result) (drop printed.result printed.new.room)) c.args.bytes.now c.eq.result c.eq.ensures in
    (λ h. sym (d.0 h) ∙ rest ∙ printed.ensures.text, λ e. d.1 (rest ∙ printed.ensures.text ∙ sym e))
