use Rattle.std.proofs.Common.{refl, sym, subst, arith, List}
use Rattle.lola_store.specs.declared.instance.Instance.{Instance}
use Rattle.lola_store.specs.Paired.{Paired}
use Rattle.lola_store.specs.Rooms.{IsAlike}
use Rattle.lola_store.proofs.Preparing.{paired-refl, alike-refl}
use Rattle.lola_store.proofs.prepare.make_births_room.Goals as goal

pub returns-in-Err-clause-kept : goal.returns-in-Err-clause-kept
returns-in-Err-clause-kept c =
    let xs = c.args.population.now.lives.items in
    record {
      rest = refl;
      lives = subst (λ (ys : List Instance). Paired IsAlike xs ys) (sym c.make_lives_room.ensures.items) (paired-refl IsAlike alike-refl xs);
      len = c.make_lives_room.ensures.len;
      capacity = c.make_lives_room.ensures.capacity;
      spares = omega arith;
      spare = λ h. h;
    }

pub returns-in-Ok-clause-kept : goal.returns-in-Ok-clause-kept
returns-in-Ok-clause-kept c =
    let xs = c.args.population.now.lives.items in
    record {
      rest = refl;
      lives = subst (λ (ys : List Instance). Paired IsAlike xs ys) (sym c.make_lives_room.ensures.items) (paired-refl IsAlike alike-refl xs);
      len = c.make_lives_room.ensures.len;
      capacity = c.make_lives_room.ensures.capacity;
      spares = c.fill_spares.ensures.more;
      spare = c.fill_spares.ensures.spare;
    }
