use Rattle.std.proofs.Common.{◌≡◌, ◌∙◌, ◌++◌, ◌∷◌, [], Bool, refl, ap, sym, subst}
use Rattle.lola_value.specs.declared.value.Outcome.TheVariants as outcome
use Rattle.lola_model.specs.Store.{no_params}
use Rattle.lola_store.specs.declared.instance.Instance.{Instance}
use Rattle.lola_store.specs.Opening.{AreFirst}
use Rattle.lola_store.proofs.opening.first_lives.Goals as goal

pub returns-in-Ok : goal.returns-in-Ok
returns-in-Ok c =
    let x : Instance = record { params = no_params; born = 0; told_at = 0; outcome = outcome.Missing; values = c.in_ok-values.values } in
    let e : c.push.new.self.items ≡ x ∷ [] = c.in-Ok.ensures.items ∙ ap (λ xs. xs ++ x ∷ []) c.new-lives.ensures.items in
    subst (λ (b : Bool). AreFirst b c.push.new.self.items) (sym c.if-spawns.false)
    (x, e, record { params_is = refl; born = refl; told_at = refl; outcome = refl; values = c.in_ok-values.ensures.items; room = c.in_ok-values.ensures.capacity })
