use Rattle.std.proofs.Common.{◌≤◌, ◌+◌, length, option_map, sym, ap, ◌∙◌, arith}
use Rattle.lola_rows.proofs.Pieces.{found, not-found}
use Rattle.lola_rows.proofs.window.Window.find_line_end.Goals as goal

pub returns-in-Some-clause-value : goal.returns-in-Some-clause-value
returns-in-Some-clause-value c =
    let w = c.args.self.now in
    let within : w.end ≤ length w.bytes.items = omega arith in
    sym (found w.bytes.items c.deref.result.now w.start w.scanned w.end c.memchr.result c.deref.ensures.value w.ordered within w.unended c.memchr.ensures
    ∙ ap (option_map (λ k. w.scanned + k)) c.in-Some.is)

pub returns-in-None-clause-value : goal.returns-in-None-clause-value
returns-in-None-clause-value c =
    let w = c.args.self.now in
    let within : w.end ≤ length w.bytes.items = omega arith in
    sym (found w.bytes.items c.deref.result.now w.start w.scanned w.end c.memchr.result c.deref.ensures.value w.ordered within w.unended c.memchr.ensures
    ∙ ap (option_map (λ k. w.scanned + k)) c.in-None.is)

pub invariant_of-self-clause-unended : goal.invariant_of-self-clause-unended
invariant_of-self-clause-unended c =
    let w = c.args.self.now in
    let within : w.end ≤ length w.bytes.items = omega arith in
    not-found w.bytes.items c.deref.result.now w.start w.scanned w.end c.memchr.result c.deref.ensures.value w.ordered within w.unended c.memchr.ensures c.in-None.is
