use Rattle.std.proofs.Common.{sym, ◌∙◌}
use Rattle.lola_save_read.proofs.ReadWords.{is-start-yes, no-dash-time}
use Rattle.lola_save_read.proofs.words.time_or_dash.Goals as goal

pub returns-in-None : goal.returns-in-None
returns-in-None c =
    no-dash-time c.args.bytes.now (λ e. (let t = c.is_dash.ensures.1 e in let f = c.if-is_dash.false in absurd (cc (sym t ∙ f)))) c.in-None.ensures

pub returns-in-Some : goal.returns-in-Some
returns-in-Some c = (is-start-yes c.in-Some.t c.in-Some.ensures.0, c.in-Some.ensures.1)
