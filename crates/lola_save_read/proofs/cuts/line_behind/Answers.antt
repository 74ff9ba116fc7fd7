use Rattle.lola_save_read.proofs.FirstLf.{no-front, no-lf, line-there}
use Rattle.lola_save_read.proofs.cuts.line_behind.Goals as goal

pub returns-in-None : goal.returns-in-None
returns-in-None c = no-front c.args.front.now c.args.bytes.now c.in-None.ensures

pub returns-in-None-cut_at_lf : goal.returns-in-None-cut_at_lf
returns-in-None-cut_at_lf c = no-lf c.args.front.now c.args.bytes.now c.in-Some.left.now c.in-Some.ensures c.in-None-cut_at_lf.ensures

pub returns-in-Some-cut_at_lf : goal.returns-in-Some-cut_at_lf
returns-in-Some-cut_at_lf c =
    line-there c.args.front.now c.args.bytes.now c.in-Some.left.now c.in-Some-cut_at_lf.body.now c.in-Some-cut_at_lf.rest.now c.in-Some.ensures c.in-Some-cut_at_lf.ensures
