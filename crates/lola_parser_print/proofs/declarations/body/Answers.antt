use Rattle.std.proofs.Common.{◌≡◌, ◌++◌, ap, ◌∙◌, append_assoc}
use Rattle.std.specs.Bool.{if◌then◌else◌}
use Rattle.lola_parser_print.specs.Print as out
use Rattle.lola_parser_print.specs.Print.{lex, spelled_out}
use Rattle.lola_parser_print.proofs.Writing.{ends_more, adds_more}
use Rattle.lola_parser_print.proofs.declarations.body.Goals as goal

pub returns : goal.returns
returns c =
    let s = out.maybe out.spawn c.args.spawned.now in
    let x = out.eval c.args.evaluated.now in
    let k = out.maybe out.close c.args.closed.now in
    let two = adds_more _ _ _ s x c.in_ok-spawn.ensures c.in_ok-eval.ensures in
    let same : (s ++ x) ++ k ≡ out.body c.args.spawned.now c.args.evaluated.now c.args.closed.now =
    append_assoc s x k ∙ ap (λ b. if b then out.short_eval c.args.evaluated.now else (s ++ (x ++ k))) c.if-is_short.ensures in
    ends_more c.close.result _ _ _ (s ++ x) k (out.body c.args.spawned.now c.args.evaluated.now c.args.closed.now) same two c.close.ensures
