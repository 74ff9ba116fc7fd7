-- The local rates of a layout are those of the plan's clauses.
use Rattle.std.proofs.Common.{◌≡◌, ℕ, zero, suc, ◌⊎◌, inl, inr, refl, sym, ap, subst, ◌∙◌, List, [], ◌∷◌, Option, Some, None, false, slice_get, drop}
use Rattle.std.proofs.lemmas.List.Elements.{Contains-append_left, Contains-append_right, Contains-append_cases}
use Rattle.std.specs.List.{Contains}
use Rattle.lola_value.specs.Ratio.{Ratio}
use Rattle.lola_model.specs.Dues.{locals_of}
use Rattle.lola_model.specs.Model.{spawn_pacing}
use Rattle.lola_model.specs.NextStep.{is_local, local_rate_of, local_rates, HasRates}
use Rattle.lola_model.specs.Pacings.{ArePacings}
use Rattle.lola_model.specs.StepOrder.{AreRates}
use Rattle.lola_model.specs.Store.{Layout, layouts_from}
use Rattle.lola_model.specs.declared.pacing.ClausePacings.{ClausePacings}
use Rattle.lola_model.specs.declared.pacing.Pacing.{Pacing}
use Rattle.lola_model.specs.declared.pacing.Pacing.TheVariants.{Event, Periodic, Local}
use Rattle.lola_model.specs.declared.plan.Plan.{Plan}
use Rattle.lola_model.specs.declared.spec.Stream.{Stream}
use Rattle.lola_model.proofs.LocalsSpawn.{locals_spawn}
use Rattle.lola_model.proofs.Strictly.{Contains-here, Contains-cases, Contains-none}
use Rattle.lola_front_law.specs.LocalRates.{IsLocalRate, HasLocalRatesOf}

next_pacing : (pacings : List ClausePacings) (n : ℕ) → slice_get pacings (suc n) ≡ slice_get (drop 1 pacings) n
next_pacing [] n = refl
next_pacing (c ∷ cs) n = refl

-- the rates of the stream at a place
locals_at : (ss : List Stream) (kept : List ℕ) (pacings : List ClausePacings) (n : ℕ) (s : Stream) → slice_get ss n ≡ Some s
    → locals_of (slice_get (layouts_from ss kept pacings) n) ≡ local_rates (slice_get pacings n)
locals_at [] kept pacings n s e = absurd (cc)
locals_at (x ∷ ss) kept pacings zero s e = refl
locals_at (x ∷ ss) kept pacings (suc n) s e = locals_at ss (drop 1 kept) (drop 1 pacings) n s e ∙ ap local_rates (sym (next_pacing pacings n))

-- and that they are rates
rates_at : (ss : List Stream) (kept : List ℕ) (pacings : List ClausePacings) → ((n : ℕ) → AreRates (local_rates (slice_get pacings n)))
    → (n : ℕ) → AreRates (locals_of (slice_get (layouts_from ss kept pacings) n))
rates_at [] kept pacings h n = tt
rates_at (x ∷ ss) kept pacings h zero = h 0
rates_at (x ∷ ss) kept pacings h (suc n) =
    rates_at ss (drop 1 kept) (drop 1 pacings) (λ m. subst (λ (c : Option ClausePacings). AreRates (local_rates c)) (next_pacing pacings m) (h (suc m))) n

-- the rate of one clause
rate_sound : (p : Option Pacing) (r : Ratio) → Contains (local_rate_of p) r → p ≡ Some (Local r)
rate_sound None r c = absurd (Contains-none r c)
rate_sound (Some (Event sets)) r c = absurd (Contains-none r c)
rate_sound (Some (Periodic q)) r c = absurd (Contains-none r c)
rate_sound (Some (Local q)) r c = go (Contains-cases q r [] c)
  where
    go : (q ≡ r) ⊎ Contains [] r → Some (Local q) ≡ Some (Local r)
    go (inl e) = ap (λ x. Some (Local x)) e
    go (inr d) = absurd (Contains-none r d)

rate_complete : (p : Option Pacing) (r : Ratio) → p ≡ Some (Local r) → Contains (local_rate_of p) r
rate_complete p r e = subst (λ (o : Option Pacing). Contains (local_rate_of o) r) (sym e) (Contains-here r [])

not_local : (p : Option Pacing) (r : Ratio) → is_local p ≡ false → p ≡ Some (Local r) → ⊥
not_local p r h e = let k : is_local p ≡ is_local (Some (Local r)) = ap is_local e in cc

-- of all clauses of a stream, whose spawn clause is not local
rates_sound : (c : Option ClausePacings) (r : Ratio) → Contains (local_rates c) r → IsLocalRate c r
rates_sound None r d = absurd (Contains-none r d)
rates_sound (Some c) r d = go (Contains-append_cases (local_rate_of c.eval) (local_rate_of c.close) r d)
  where
    go : Contains (local_rate_of c.eval) r ⊎ Contains (local_rate_of c.close) r → IsLocalRate (Some c) r
    go (inl e) = inr (inl (rate_sound c.eval r e))
    go (inr e) = inr (inr (rate_sound c.close r e))

rates_complete : (c : Option ClausePacings) (r : Ratio) → is_local (spawn_pacing c) ≡ false → IsLocalRate c r → Contains (local_rates c) r
rates_complete None r global h = absurd h
rates_complete (Some c) r global (inl e) = absurd (not_local c.spawn r global e)
rates_complete (Some c) r global (inr (inl e)) = Contains-append_left (local_rate_of c.eval) (local_rate_of c.close) r (rate_complete c.eval r e)
rates_complete (Some c) r global (inr (inr e)) = Contains-append_right (local_rate_of c.eval) (local_rate_of c.close) r (rate_complete c.close r e)

-- the law
pub layout_rates : (plan : Plan) → ArePacings plan.spec plan.pacings → HasRates plan.pacings → HasLocalRatesOf plan
layout_rates plan paced has = record {
  rates = λ s laid n.
      subst (λ (l : Layout). AreRates (locals_of (slice_get l.streams n))) (sym laid) (rates_at plan.spec.streams plan.kept plan.pacings has.counted_from_births n);
  are = λ n s at r.
      let same = locals_at plan.spec.streams plan.kept plan.pacings n s at in (
        λ c. rates_sound (slice_get plan.pacings n) r (subst (λ rs. Contains rs r) same c),
        λ w. subst (λ rs. Contains rs r) (sym same) (rates_complete (slice_get plan.pacings n) r (locals_spawn plan.spec plan.pacings paced n s at).spawn_global w),
      );
}
