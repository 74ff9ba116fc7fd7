use Rattle.std.proofs.Common.{◌≡◌, refl, ◌∙◌, Some, None, Bool, true, false, slice_get, ap, subst}
use Rattle.lola_value.specs.declared.value.Params.{Params}
use Rattle.lola_value.specs.Kinds.{same_params}
use Rattle.lola_model.specs.Whereabouts.{may_stand_at}
use Rattle.lola_instances_stream.specs.Crowds.{Crowd}
use Rattle.lola_instances_stream.proofs.instances.Instances.find.Goals as goal

-- where one that has the parameters would be found, others stand elsewhere
told_other : (p q : Params) (here : Bool) → (same_params p q ≡ true → here ≡ true) → here ≡ false → same_params p q ≡ false
told_other p q here h out = by (same_params p q) refl
  where
    by : (b : Bool) → same_params p q ≡ b → same_params p q ≡ false
    by true e = absurd (let k = h e in cc)
    by false e = e

pub returns-in-None : goal.returns-in-None
returns-in-None c = λ i s at out. record {
  kinds_are = (c.requires.steady i s at).kinds;
  other =
      let slots = ap (λ (k : Crowd). slice_get k.slots i) c.self.view_is ∙ at in
      let none : c.find.result ≡ None = c.in-None.is in
      told_other c.args.params.now s.params false
      (λ same.
      let found : c.find.result ≡ Some i = c.find.ensures.alone i s slots same in
      absurd (cc))
      refl;
}

pub returns-in-Some : goal.returns-in-Some
returns-in-Some c = λ i s at out. record {
  kinds_are = (c.requires.steady i s at).kinds;
  other =
      let slots = ap (λ (k : Crowd). slice_get k.slots i) c.self.view_is ∙ at in
      let here : c.find.result ≡ Some c.in-Some.place = c.in-Some.is in
      told_other c.args.params.now s.params (may_stand_at c.place_of.result i)
      (λ same.
      let found : c.find.result ≡ Some i = c.find.ensures.alone i s slots same in
      let place : c.in-Some.place ≡ i = cc in
      subst (λ j. may_stand_at c.place_of.result j ≡ true) place c.place_of.ensures)
      out;
}
