use Rattle.std.proofs.Common.{◌≡◌, ◌∙◌, ◌≤◌, ◌++◌, ◌∷◌, [], List, length, slice_get, refl, ap, subst, arith}
use Rattle.std.proofs.lemmas.List.{length-append}
use Rattle.std.specs.Prelude.{vec_len}
use Rattle.std.specs.Vec.{vec_capacity}
use Rattle.lola_value.specs.declared.value.Outcome.TheVariants as outcome
use Rattle.lola_store.specs.declared.tally.Timed.{Timed}
use Rattle.lola_instances_stream.specs.Each.{Each}
use Rattle.lola_instances_stream.proofs.Lists.{each-front, got_last}
use Rattle.lola_store.proofs.changes.bear.Goals as goal

no_items : (xs : List Timed) → length xs ≡ 0 → xs ≡ []
no_items [] e = refl
no_items (x ∷ xs) e = absurd (omega arith)

pub returns-in-Some : goal.returns-in-Some
returns-in-Some c =
    let old = c.args.population.now.spares in
    let new = c.pop.new.self in
    let v = c.in-Some.values in
    let g : old.items ≡ new.items ++ v ∷ [] = c.in-Some.ensures.items in
    record {
      x = record { params = c.args.params; born = c.args.time; told_at = 0; outcome = outcome.Missing; values = v };
      lives = c.push_reserved.ensures.items;
      newborn = λ h.
          let k = h (length new.items) v (ap (λ xs. slice_get xs (length new.items)) g ∙ got_last new.items v) in
          record { params_is = refl; born = refl; told_at = refl; outcome = refl; values = no_items v.items (let a = k.0 in omega (arith, a, v.ok.0)); room = k.1 };
      same = refl;
      len = c.push_reserved.ensures.len;
      capacity = c.push_reserved.ensures.capacity;
      spares = omega (arith, ap length g, length-append new.items (v ∷ []));
      spare = λ h. each-front (λ w. (vec_len w ≡ 0) × (2 ≤ vec_capacity w)) new.items v (subst (Each (λ w. (vec_len w ≡ 0) × (2 ≤ vec_capacity w))) g h);
    }
