use Rattle.std.proofs.Common.{◌≡◌, true, arith}
use Rattle.lola_save_read.proofs.PaneTexts.{no-newest, no-panes, no-panes-to}
use Rattle.lola_save_read.proofs.panes.panes.Goals as goal

pub returns-in-None : goal.returns-in-None
returns-in-None c = no-panes c.args.times c.args.kind c.args.window.now c.requires.times c.requires.length c.args.bytes.now c.in-None.ensures

pub returns-in-None-number_word : goal.returns-in-None-number_word
returns-in-None-number_word c =
    no-newest c.args.times c.args.kind c.args.window.now c.requires.times c.requires.length c.args.bytes.now c.in-Some.word.now c.in-Some.rest.now c.in-Some.ensures
    (λ e. let t : c.is_dash_alone.result ≡ true = c.is_dash_alone.ensures.1 e in let f = c.if-is_dash_alone.false in absurd (cc)) c.in-None-number_word.ensures

pub returns-in-None-2 : goal.returns-in-None-2
returns-in-None-2 c =
    no-panes-to c.args.times c.args.kind c.args.window.now c.requires.times c.requires.length c.args.bytes.now c.in-Some.word.now c.in-Some.rest.now c.in-Some.ensures
    (λ e. let t : c.is_dash_alone.result ≡ true = c.is_dash_alone.ensures.1 e in let f = c.if-is_dash_alone.false in absurd (cc)) c.in-Some-number_word.last (omega arith) c.in-Some-number_word.ensures
    (rw c.in-None-2.is at c.in_ok-panes_to-in-Some-number_word.ensures)
