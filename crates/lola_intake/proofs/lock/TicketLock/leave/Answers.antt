use Rattle.std.proofs.Common.{rules, ◌∷◌, ◌∙◌, sym, ap}
use Rattle.atomic_table.specs.Table.{rest}
use Rattle.lola_intake.specs.Turns.{told}
use Rattle.lola_intake.proofs.Keeps.{leaves}
use Rattle.lola_intake.proofs.lock.TicketLock.leave.Goals as goal

pub fetch_add-served-requires : goal.fetch_add-served-requires
fetch_add-served-requires g c = let t = c.requires.turn in (
  search rules,
  search rules,
  leaves _ _ _ _ _ _ t.1 t.2 _ (search rules) t.4 t.0 t.3 (t.5 ∙ ap (λ l. (0, t.1) ∷ l) (sym (ap rest t.5))) t.6 t.7,
)

pub returns-clause-told : goal.returns-clause-told
returns-clause-told g c = λ e is. let t = c.requires.turn in c.fetch_add-served.ensures.2 e is ∙ ap (λ l. (told c.args.seat.now.me.0 e, l)) (ap rest t.5)
