-- What an instance remembers.
use Rattle.std.specs.Prelude.{ℕ, ◌≤◌, ◌≡◌, ◌-◌, List, [], ◌∷◌, ◌++◌, map}
use Rattle.circular_buffer.specs.Buffer.{keep_last}
use Rattle.lola_value.specs.declared.text.Field.{Field}
use Rattle.lola_value.specs.Naming.{Naming, read, read_outcome, AreHeld, IsHeldIn}
use Rattle.lola_model.specs.Accesses.{one_more}
use Rattle.lola_panes.specs.Standing.{Partials, StandFor}
use Rattle.lola_instances_one.specs.Holdings.{Holdings, shown}

-- a value with its offset from the start in place of its time
abbrev pub shifted : ℕ → (ℕ × Field) → (ℕ × Field)
shifted start v = (v.0 - start, v.1)

-- none of these values came before the start
abbrev pub AllSince : ℕ → List (ℕ × Field) → Type 0
AllSince start [] = Unit {0}
AllSince start (v ∷ vs) = (start ≤ v.0) × AllSince start vs

-- each window's panes may have been given these values, by their offsets
abbrev pub AllStandFor : List Partials → List (ℕ × Field) → Type 0
AllStandFor [] all = Unit {0}
AllStandFor (p ∷ ps) all = StandFor p all × AllStandFor ps all

-- the values of a life before this step and in it
abbrev pub life_values : ℕ → ℕ → Naming → Holdings → List (ℕ × Field) → List (ℕ × Field)
life_values time step names s values = values ++ one_more time (read_outcome names (shown step s))

-- the instance may have had these values before this step: with this step's they end as its last values do, its panes
-- stand for all of them, and the naming has the texts of what it holds
pub record Remembers (start time step : ℕ) (names : Naming) (s : Holdings) (values : List (ℕ × Field)) : Type 0 where
  pub ring : map (read names) s.ring.values ≡ keep_last s.ring.capacity (map (λ v. v.1) (life_values time step names s values))
  pub panes : AllStandFor s.panes (map (shifted start) (life_values time step names s values))
  pub since : AllSince start (life_values time step names s values)
  pub held : AreHeld names s.ring.values
  pub now_held : IsHeldIn names (shown step s)

-- whatever the start, the time and the step, it remembers the list of no values, and no other
pub record RemembersNothing (s : Holdings) : Type 0 where
  pub none : (start time step : ℕ) (names : Naming) → Remembers start time step names s []
  pub only : (start time step : ℕ) (names : Naming) (values : List (ℕ × Field)) → Remembers start time step names s values → values ≡ []
