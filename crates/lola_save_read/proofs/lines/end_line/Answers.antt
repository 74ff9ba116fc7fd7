use Rattle.lola_save_read.proofs.LineKinds.{end-told}
use Rattle.lola_save_read.proofs.lines.end_line.Goals as goal

pub returns : goal.returns
returns c =
    end-told c.args.bytes.now c.behind.result c.behind.ensures
