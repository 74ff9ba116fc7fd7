use Rattle.std.proofs.Common.{sym, subst, ap, ◌∷◌, [], ◌++◌, ◌∙◌}
use Rattle.atomic_table.specs.Table.{opening}
use Rattle.lola_intake.specs.Turns.{Orderly, maker}
use Rattle.lola_intake.proofs.Keeps.{opens_so}
use Rattle.lola_intake.proofs.lock.TicketLock.new.Goals as goal

pub new-requires : goal.new-requires
new-requires g c = let opens = g.O.Object.opens in let moves = g.O.Object.moves in let key = c.args.setting.now in
    subst (λ xs. Orderly opens moves key (opening (0 ∷ 0 ∷ []) xs (maker key))) (sym (c.push_reserved.ensures.items ∙ ap (λ l. l ++ c.args.object ∷ []) c.in_ok-slots.ensures.items)) (opens_so opens moves key c.args.object c.requires)
