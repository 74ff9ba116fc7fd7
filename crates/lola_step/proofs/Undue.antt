-- An instance that has no deadline of its stream at a moment is not asked for a local clause.
use Rattle.std.proofs.Common.{◌≡◌, refl, ap, ◌∙◌, sym, subst, ℕ, zero, suc, ◌-◌, List, [], ◌∷◌, ◌++◌, Option, Some, None, Bool, true, false, ◌||◌, drop, slice_get}
use Rattle.std.proofs.lemmas.Bool.{or_parts}
use Rattle.lola_value.specs.Ratio.{Ratio}
use Rattle.lola_model.specs.Activity.{is_deadline}
use Rattle.lola_model.specs.Dues.{is_due, locals_of}
use Rattle.lola_model.specs.Model.{close_pacing, eval_pacing}
use Rattle.lola_model.specs.NextStep.{local_rate_of, local_rates}
use Rattle.lola_model.specs.Store.{Layout, Seen, layouts_from}
use Rattle.lola_model.specs.declared.pacing.ClausePacings.{ClausePacings}
use Rattle.lola_model.specs.declared.pacing.Pacing.TheVariants.{Local, Periodic}
use Rattle.lola_model.specs.declared.plan.Plan.{Plan}
use Rattle.lola_model.specs.declared.spec.Stream.{Stream}
use Rattle.lola_step.specs.Moments.{IsListedIn, active_at, active_for_in}
use Rattle.lola_step.specs.Progress.{IsOf}
use Rattle.lola_step.specs.declared.moment.Moment.{Moment}

or_assoc : (a b c : Bool) → (a || (b || c)) ≡ ((a || b) || c)
or_assoc true b c = refl
or_assoc false b c = refl

due_append : (born time : ℕ) (xs ys : List Ratio) → is_due (xs ++ ys) born time ≡ (is_due xs born time || is_due ys born time)
due_append born time [] ys = refl
due_append born time (x ∷ xs) ys =
    ap (λ b. is_deadline x (time - born) || b) (due_append born time xs ys)
    ∙ or_assoc (is_deadline x (time - born)) (is_due xs born time) (is_due ys born time)

-- the rates of a stream's clauses

eval_listed : (o : Option ClausePacings) → IsListedIn (eval_pacing o) (local_rates o)
eval_listed None born time e = refl
eval_listed (Some c) born time e =
    (or_parts (is_due (local_rate_of c.eval) born time) (is_due (local_rate_of c.close) born time)
    (sym (due_append born time (local_rate_of c.eval) (local_rate_of c.close)) ∙ e)).0

close_listed : (o : Option ClausePacings) → IsListedIn (close_pacing o) (local_rates o)
close_listed None born time e = refl
close_listed (Some c) born time e =
    (or_parts (is_due (local_rate_of c.eval) born time) (is_due (local_rate_of c.close) born time)
    (sym (due_append born time (local_rate_of c.eval) (local_rate_of c.close)) ∙ e)).1

first_dropped : (ps : List ClausePacings) (n : ℕ) → slice_get (drop 1 ps) n ≡ slice_get ps (suc n)
first_dropped [] n = refl
first_dropped (p ∷ ps) n = refl

locals_there : (ss : List Stream) (kept : List ℕ) (ps : List ClausePacings) (n : ℕ) (x : Stream) → slice_get ss n ≡ Some x
    → locals_of (slice_get (layouts_from ss kept ps) n) ≡ local_rates (slice_get ps n)
locals_there [] kept ps n x e = absurd (cc)
locals_there (s ∷ ss) kept ps zero x e = refl
locals_there (s ∷ ss) kept ps (suc n) x e = locals_there ss (drop 1 kept) (drop 1 ps) n x e ∙ ap local_rates (first_dropped ps n)

module _ (plan : Plan) (s : Seen) (of : IsOf plan s) (n : ℕ) (x : Stream) (at : slice_get plan.spec.streams n ≡ Some x) where
  locals_are : locals_of (slice_get s.layout.streams n) ≡ local_rates (slice_get plan.pacings n)
  locals_are = ap (λ (l : Layout). locals_of (slice_get l.streams n)) of.layout ∙ locals_there plan.spec.streams plan.kept plan.pacings n x at

  -- a store has the rate of a stream's eval clause, if that is local
  pub evals_listed : IsListedIn (eval_pacing (slice_get plan.pacings n)) (locals_of (slice_get s.layout.streams n))
  evals_listed = subst (IsListedIn (eval_pacing (slice_get plan.pacings n))) (sym locals_are) (eval_listed (slice_get plan.pacings n))

  -- and of its close clause
  pub closes_listed : IsListedIn (close_pacing (slice_get plan.pacings n)) (locals_of (slice_get s.layout.streams n))
  closes_listed = subst (IsListedIn (close_pacing (slice_get plan.pacings n))) (sym locals_are) (close_listed (slice_get plan.pacings n))

-- without a deadline among these rates the local clause is not active
pub undue_is_inactive : (m : Moment) (born : ℕ) (r : Ratio) (rates : List Ratio) → IsListedIn (Some (Local r)) rates → is_due rates born m.time ≡ false
    → active_for_in m born (Some (Local r)) ≡ false
undue_is_inactive m born r rates listed e = by m.present
  where
    by : (o : Option ℕ) → active_at born m.time o (Periodic r) ≡ false
    by None = (or_parts (is_deadline r (m.time - born)) false (listed born m.time e)).0
    by (Some inputs) = refl
