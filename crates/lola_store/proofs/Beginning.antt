-- A step that begins, and a run.
use Rattle.std.proofs.Common.{◌≡◌, ℕ, suc, ◌+◌, ◌≤◌, ◌<◌, List, [], ◌∷◌, ◌++◌, map, refl, ap, sym, ◌∙◌, subst, arith, Option, Some, None, nat_eq, if◌then◌else◌, Bool, true, false}
use Rattle.std.proofs.lemmas.Bool.{ne_eqb}
use Rattle.std.proofs.lemmas.List.{append-nil}
use Rattle.lola_value.specs.declared.text.Field.{Field}
use Rattle.lola_value.specs.declared.value.Kind.{Kind}
use Rattle.lola_value.specs.declared.value.Outcome.TheVariants as outcome
use Rattle.lola_value.specs.Naming.{Naming, read_outcome, IsHeldIn}
use Rattle.lola_model.specs.Accesses.{one_more}
use Rattle.lola_model.specs.Store.{quiet, silent}
use Rattle.lola_store.specs.declared.instance.Instance.{Instance}
use Rattle.lola_store.specs.declared.population.Population.{Population}
use Rattle.lola_instances_stream.specs.Each.{Each}
use Rattle.lola_instances_stream.proofs.Beginnings.{owed_one, owed_next}
use Rattle.lola_store.specs.Instances.{shown, instance_seen, RecallsAt, InstanceRight}
use Rattle.lola_store.specs.Populations.{population_seen, PopulationRight}
use Rattle.lola_store.proofs.Places.{outcome_at}

-- what is right stays so

instance_later : (k : Kind) (ps : List Kind) (on : Bool) (step : ℕ) (x : Instance) → InstanceRight k ps on true step x → InstanceRight k ps true false (step + 1) x
instance_later k ps on step x h =
    let l = h.told_le in
    record {
      told_le = omega arith;
      before = λ e. cc;
      told = λ e. absurd (omega arith);
      outcome = h.outcome;
      values = h.values;
      kinds = h.kinds;
      formed = h.formed;
      room = omega (arith, h.room, owed_one true (step + 1) x.told_at, owed_next on step x.told_at);
    }

pub population_later : (on : Bool) (step : ℕ) (l : Population) → PopulationRight on true step l → PopulationRight true false (step + 1) l
population_later on step l h =
    let b = h.bad_le in
    let s = h.spawned_le in
    record {
      bad_le = omega arith;
      spawned_le = omega arith;
      few = h.few;
      each = λ i x e. instance_later l.kind l.parameters on step x (h.each i x e);
      room = λ e. omega (arith, h.room e, owed_one true (step + 1) l.spawned_at, owed_next on step l.spawned_at);
      spares = λ e. omega (arith, h.spares e, owed_one true (step + 1) l.spawned_at, owed_next on step l.spawned_at);
      spare = h.spare;
    }

-- nothing is shown of an earlier step

pub not_shown : (step : ℕ) (x : Instance) → x.told_at ≤ step → shown (step + 1) x ≡ outcome.Missing
not_shown step x h = ap (λ b. if b then x.outcome else outcome.Missing) (ne_eqb x.told_at (step + 1) (λ q. omega arith))

pub not_told : (step : ℕ) (x : Instance) → x.told_at < step → shown step x ≡ outcome.Missing
not_told step x h = ap (λ b. if b then x.outcome else outcome.Missing) (ne_eqb x.told_at step (λ q. omega arith))

instances_silent : (step : ℕ) (xs : List Instance) → Each (λ x. x.told_at ≤ step) xs → map (instance_seen (step + 1)) xs ≡ map silent (map (instance_seen step) xs)
instances_silent step [] h = refl
instances_silent step (x ∷ xs) h =
    let e = not_shown step x (h 0 x refl) in
    let r = instances_silent step xs (λ i y q. h (suc i) y q) in
    λ i. record { params = x.params; born = x.born; outcome = e i } ∷ r i

pub populations_quiet : (on prepared : Bool) (step : ℕ) (ls : List Population) → Each (PopulationRight on prepared step) ls → map (population_seen (step + 1)) ls ≡ map quiet (map (population_seen step) ls)
populations_quiet on prepared step [] h = refl
populations_quiet on prepared step (l ∷ ls) h =
    let p = h 0 l refl in
    let b = p.bad_le in
    let s = p.spawned_le in
    let eb : nat_eq l.bad_at (step + 1) ≡ false = ne_eqb l.bad_at (step + 1) (λ q. omega arith) in
    let es : nat_eq l.spawned_at (step + 1) ≡ false = ne_eqb l.spawned_at (step + 1) (λ q. omega arith) in
    let ei = instances_silent step l.lives.items (λ i x e. (p.each i x e).told_le) in
    let r = populations_quiet on prepared step ls (λ i y q. h (suc i) y q) in
    λ i. record { bad = eb i; spawned = es i; instances = ei i } ∷ r i

-- this step's value is an earlier one

module _ (time step later : ℕ) (names : Naming) where
  pub begun_at : (o : Option Instance) (values : List (ℕ × Field)) → ((x : Instance) → o ≡ Some x → x.told_at ≤ step) → RecallsAt time step names o values
      → RecallsAt later (step + 1) names o (values ++ one_more time (read_outcome names (outcome_at step o)))
  begun_at None values r h = h
  begun_at (Some x) values r h =
      let all = values ++ one_more time (read_outcome names (shown step x)) in
      let none = not_shown step x (r x refl) in
      record {
        all = h.all ∙ sym (ap (λ o. all ++ one_more later (read_outcome names o)) none ∙ append-nil all);
        held = h.held;
        now_held = subst (IsHeldIn names) (sym none) tt;
      }

  pub started_at : (o : Option Instance) (values : List (ℕ × Field)) → ((x : Instance) → o ≡ Some x → x.told_at < step) → RecallsAt time step names o values → RecallsAt later step names o values
  started_at None values r h = h
  started_at (Some x) values r h =
      let none = not_told step x (r x refl) in
      record {
        all = h.all ∙ ap (λ o. values ++ o) (ap (λ o. one_more time (read_outcome names o)) none ∙ sym (ap (λ o. one_more later (read_outcome names o)) none));
        held = h.held;
        now_held = h.now_held;
      }
