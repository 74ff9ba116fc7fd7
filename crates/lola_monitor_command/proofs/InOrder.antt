-- The order of what a run is told, both ways.
use Rattle.std.proofs.Common.{◌≡◌, refl, ap, subst, ◌∙◌, ℕ, ◌≤◌, List, [], ◌∷◌, ◌++◌, Option, Some, None, Bool, true, false, ◌&&◌, ◌||◌, ◌⊎◌, inl, inr, if◌then◌else◌, nat_le, length, map, arith}
use Rattle.std.specs.List.{list_all}
use Rattle.std.proofs.lemmas.Bool.{and_parts}
use Rattle.lola_monitor_command.specs.Command.{is_start, is_resume, nowhere, come_once, start_or_state, show_said, workers_said, start_said, in_turns_said, intake_said, state_said, front_names, behind_names, behind_options, is_empty, are_sources, run_over, run_by, run_of}
use Rattle.lola_monitor_command.specs.Order.{is_setting, IsRunOf, RunsAreInOrder}
use Rattle.lola_monitor_command.specs.declared.said.Said.{Said}
use Rattle.lola_monitor_command.specs.declared.said.Said.TheVariants as said
use Rattle.lola_monitor_command.specs.declared.command.Command.{Command}
use Rattle.lola_monitor_command.specs.declared.command.Command.TheVariants as command
use Rattle.lola_monitor_command.specs.declared.command.RunCommand.{RunCommand}

-- the options at the front
abbrev pub front_options : List Said → List Said
front_options [] = []
front_options (said.Name at ∷ ss) = []
front_options (said.Show s ∷ ss) = said.Show s ∷ front_options ss
front_options (said.Workers n ∷ ss) = said.Workers n ∷ front_options ss
front_options (said.Start t ∷ ss) = said.Start t ∷ front_options ss
front_options (said.InTurns ∷ ss) = said.InTurns ∷ front_options ss
front_options (said.Intake kind ∷ ss) = said.Intake kind ∷ front_options ss
front_options (said.Resume place ∷ ss) = said.Resume place ∷ front_options ss

pub split : (ss : List Said) → ss ≡ front_options ss ++ behind_options ss
split [] = refl
split (said.Name at ∷ ss) = refl
split (said.Show s ∷ ss) = ap (λ z. said.Show s ∷ z) (split ss)
split (said.Workers n ∷ ss) = ap (λ z. said.Workers n ∷ z) (split ss)
split (said.Start t ∷ ss) = ap (λ z. said.Start t ∷ z) (split ss)
split (said.InTurns ∷ ss) = ap (λ z. said.InTurns ∷ z) (split ss)
split (said.Intake kind ∷ ss) = ap (λ z. said.Intake kind ∷ z) (split ss)
split (said.Resume place ∷ ss) = ap (λ z. said.Resume place ∷ z) (split ss)

pub all_options : (ss : List Said) → list_all is_setting (front_options ss) ≡ true
all_options [] = refl
all_options (said.Name at ∷ ss) = refl
all_options (said.Show s ∷ ss) = all_options ss
all_options (said.Workers n ∷ ss) = all_options ss
all_options (said.Start t ∷ ss) = all_options ss
all_options (said.InTurns ∷ ss) = all_options ss
all_options (said.Intake kind ∷ ss) = all_options ss
all_options (said.Resume place ∷ ss) = all_options ss

-- behind options stands what stands behind them
pub past : (xs : List Said) (ys : List Said) → list_all is_setting xs ≡ true → behind_options ys ≡ ys → behind_options (xs ++ ys) ≡ ys
past [] ys o e = e
past (said.Name at ∷ xs) ys o e = absurd (grind (arith, o))
past (said.Show s ∷ xs) ys o e = past xs ys o e
past (said.Workers n ∷ xs) ys o e = past xs ys o e
past (said.Start t ∷ xs) ys o e = past xs ys o e
past (said.InTurns ∷ xs) ys o e = past xs ys o e
past (said.Intake kind ∷ xs) ys o e = past xs ys o e
past (said.Resume place ∷ xs) ys o e = past xs ys o e

-- names at the front
pub split_names : (ss : List Said) → ss ≡ map said.Name (front_names ss) ++ behind_names ss
split_names [] = refl
split_names (said.Name at ∷ ss) = ap (λ z. said.Name at ∷ z) (split_names ss)
split_names (said.Show s ∷ ss) = refl
split_names (said.Workers n ∷ ss) = refl
split_names (said.Start t ∷ ss) = refl
split_names (said.InTurns ∷ ss) = refl
split_names (said.Intake kind ∷ ss) = refl
split_names (said.Resume place ∷ ss) = refl

-- only options
pub none_behind : (ss : List Said) → is_empty (behind_options ss) ≡ true → list_all is_setting ss ≡ true
none_behind [] e = refl
none_behind (said.Name at ∷ ss) e = absurd (grind (arith, e))
none_behind (said.Show s ∷ ss) e = none_behind ss e
none_behind (said.Workers n ∷ ss) e = none_behind ss e
none_behind (said.Start t ∷ ss) e = none_behind ss e
none_behind (said.InTurns ∷ ss) e = none_behind ss e
none_behind (said.Intake kind ∷ ss) e = none_behind ss e
none_behind (said.Resume place ∷ ss) e = none_behind ss e

pub only_options : (ss : List Said) → list_all is_setting ss ≡ true → is_empty (behind_options ss) ≡ true
only_options [] o = refl
only_options (said.Name at ∷ ss) o = absurd (grind (arith, o))
only_options (said.Show s ∷ ss) o = only_options ss o
only_options (said.Workers n ∷ ss) o = only_options ss o
only_options (said.Start t ∷ ss) o = only_options ss o
only_options (said.InTurns ∷ ss) o = only_options ss o
only_options (said.Intake kind ∷ ss) o = only_options ss o
only_options (said.Resume place ∷ ss) o = only_options ss o

-- options have no name at the front
no_names : (ss : List Said) → list_all is_setting ss ≡ true → front_names ss ≡ []
no_names [] o = refl
no_names (said.Name at ∷ ss) o = absurd (grind (arith, o))
no_names (said.Show s ∷ ss) o = refl
no_names (said.Workers n ∷ ss) o = refl
no_names (said.Start t ∷ ss) o = refl
no_names (said.InTurns ∷ ss) o = refl
no_names (said.Intake kind ∷ ss) o = refl
no_names (said.Resume place ∷ ss) o = refl

all_behind : (ss : List Said) → list_all is_setting ss ≡ true → behind_names ss ≡ ss
all_behind [] o = refl
all_behind (said.Name at ∷ ss) o = absurd (grind (arith, o))
all_behind (said.Show s ∷ ss) o = refl
all_behind (said.Workers n ∷ ss) o = refl
all_behind (said.Start t ∷ ss) o = refl
all_behind (said.InTurns ∷ ss) o = refl
all_behind (said.Intake kind ∷ ss) o = refl
all_behind (said.Resume place ∷ ss) o = refl

pub names_of : (ns : List ℕ) (ss : List Said) → list_all is_setting ss ≡ true → front_names (map said.Name ns ++ ss) ≡ ns
names_of [] ss o = no_names ss o
names_of (n ∷ ns) ss o = ap (λ z. n ∷ z) (names_of ns ss o)

pub rest_of : (ns : List ℕ) (ss : List Said) → list_all is_setting ss ≡ true → behind_names (map said.Name ns ++ ss) ≡ ss
rest_of [] ss o = all_behind ss o
rest_of (n ∷ ns) ss o = rest_of ns ss o

-- a list that begins with a name has no options at its front
pub named_front : (ns : List ℕ) (ss : List Said) → 1 ≤ length ns → behind_options (map said.Name ns ++ ss) ≡ map said.Name ns ++ ss
named_front [] ss some = absurd (omega (arith, some))
named_front (n ∷ ns) ss some = refl

-- ---- a start or a state

-- without a start none is said, and the other way round
no_start : (ss : List Said) → nowhere is_start ss ≡ true → start_said ss ≡ None
no_start [] e = refl
no_start (said.Name at ∷ ss) e = no_start ss e
no_start (said.Show s ∷ ss) e = no_start ss e
no_start (said.Workers n ∷ ss) e = no_start ss e
no_start (said.Start t ∷ ss) e = absurd (grind (arith, e))
no_start (said.InTurns ∷ ss) e = no_start ss e
no_start (said.Intake kind ∷ ss) e = no_start ss e
no_start (said.Resume place ∷ ss) e = no_start ss e

no_start_back : (ss : List Said) → start_said ss ≡ None → nowhere is_start ss ≡ true
no_start_back [] e = refl
no_start_back (said.Name at ∷ ss) e = no_start_back ss e
no_start_back (said.Show s ∷ ss) e = no_start_back ss e
no_start_back (said.Workers n ∷ ss) e = no_start_back ss e
no_start_back (said.Start t ∷ ss) e = absurd (grind (arith, e))
no_start_back (said.InTurns ∷ ss) e = no_start_back ss e
no_start_back (said.Intake kind ∷ ss) e = no_start_back ss e
no_start_back (said.Resume place ∷ ss) e = no_start_back ss e

-- without a state none is said, and the other way round
no_state : (ss : List Said) → nowhere is_resume ss ≡ true → state_said ss ≡ None
no_state [] e = refl
no_state (said.Name at ∷ ss) e = no_state ss e
no_state (said.Show s ∷ ss) e = no_state ss e
no_state (said.Workers n ∷ ss) e = no_state ss e
no_state (said.Start t ∷ ss) e = no_state ss e
no_state (said.InTurns ∷ ss) e = no_state ss e
no_state (said.Intake kind ∷ ss) e = no_state ss e
no_state (said.Resume place ∷ ss) e = absurd (grind (arith, e))

no_state_back : (ss : List Said) → state_said ss ≡ None → nowhere is_resume ss ≡ true
no_state_back [] e = refl
no_state_back (said.Name at ∷ ss) e = no_state_back ss e
no_state_back (said.Show s ∷ ss) e = no_state_back ss e
no_state_back (said.Workers n ∷ ss) e = no_state_back ss e
no_state_back (said.Start t ∷ ss) e = no_state_back ss e
no_state_back (said.InTurns ∷ ss) e = no_state_back ss e
no_state_back (said.Intake kind ∷ ss) e = no_state_back ss e
no_state_back (said.Resume place ∷ ss) e = absurd (grind (arith, e))

pub one_beginning : (ss : List Said) → start_or_state ss ≡ true → (start_said ss ≡ None) ⊎ (state_said ss ≡ None)
one_beginning ss e = of_two (nowhere is_start ss) (nowhere is_resume ss) e (no_start ss) (no_state ss)
  where
    of_two : {P Q : Type 0} (a b : Bool) → (a || b) ≡ true → (a ≡ true → P) → (b ≡ true → Q) → P ⊎ Q
    of_two true b e p q = inl (p refl)
    of_two false b e p q = inr (q e)

pub one_beginning_back : (ss : List Said) → (start_said ss ≡ None) ⊎ (state_said ss ≡ None) → start_or_state ss ≡ true
one_beginning_back ss (inl e) = rw (no_start_back ss e) refl
one_beginning_back ss (inr e) = either_true (nowhere is_start ss) (nowhere is_resume ss) (no_state_back ss e)
  where
    either_true : (a b : Bool) → b ≡ true → (a || b) ≡ true
    either_true true b e = refl
    either_true false b e = e

-- the run that is told so
abbrev pub told : List Said → ℕ → List ℕ → RunCommand
told ss specification sources =
    record { specification = specification; sources = sources; show = show_said ss; workers = workers_said ss; start = start_said ss; in_turns = in_turns_said ss; intake = intake_said ss; state = state_said ss }

-- ---- from the definition to the order

run_is : (a b : RunCommand) → Some (command.Run a) ≡ Some (command.Run b) → a ≡ b
run_is a b e = grind (arith, e)

pub sources_are : (some few empty : Bool) → (some && (few && empty)) ≡ true → (some ≡ true) × (few ≡ true) × (empty ≡ true)
sources_are true true true e = (refl, refl, refl)
sources_are true true false e = absurd (grind (arith, e))
sources_are true false empty e = absurd (grind (arith, e))
sources_are false few empty e = absurd (grind (arith, e))

-- where a choice gives something
pub chosen : (b : Bool) (x : Option Command) (y : Command) → (if b then x else None) ≡ Some y → (b ≡ true) × (x ≡ Some y)
chosen true x y e = (refl, e)
chosen false x y e = absurd (grind (arith, e))

ordered : (ss rest : List Said) (specification : ℕ) (r : RunCommand) → behind_options ss ≡ said.Name specification ∷ rest → run_over ss specification (behind_options rest) ≡ Some (command.Run r) → IsRunOf ss r
ordered ss rest specification r at_front e =
    let z = behind_options rest in
    let sources = are_sources (front_names z) (behind_names z) in
    let c = chosen (come_once ss && (start_or_state ss && sources)) (Some (command.Run (told ss specification (front_names z)))) (command.Run r) e in
    let first = and_parts (come_once ss) (start_or_state ss && sources) c.0 in
    let second = and_parts (start_or_state ss) sources first.1 in
    let three = sources_are (nat_le 1 (length (front_names z))) (nat_le (length (front_names z)) 64) (is_empty (behind_options (behind_names z))) second.1 in
    subst (IsRunOf ss) (run_is (told ss specification (front_names z)) r c.1) (record {
      before = front_options ss;
      between = front_options rest;
      behind = behind_names z;
      order = split ss ∙ ap (λ w. front_options ss ++ w) (at_front ∙ ap (λ w. said.Name specification ∷ w) (split rest ∙ ap (λ w. front_options rest ++ w) (split_names z)));
      options_before = all_options ss;
      options_between = all_options rest;
      options_behind = none_behind (behind_names z) three.2;
      some = grind (arith, three.0);
      few = grind (arith, three.1);
      once = first.0;
      one_beginning = one_beginning ss second.0;
      show = refl;
      workers = refl;
      start = refl;
      in_turns = refl;
      intake = refl;
      state = refl;
    })

by_front : (ss front : List Said) (r : RunCommand) → behind_options ss ≡ front → run_by ss front ≡ Some (command.Run r) → IsRunOf ss r
by_front ss [] r at_front e = absurd (grind (arith, e))
by_front ss (said.Name specification ∷ rest) r at_front e = ordered ss rest specification r at_front e
by_front ss (said.Show s ∷ rest) r at_front e = absurd (grind (arith, e))
by_front ss (said.Workers n ∷ rest) r at_front e = absurd (grind (arith, e))
by_front ss (said.Start t ∷ rest) r at_front e = absurd (grind (arith, e))
by_front ss (said.InTurns ∷ rest) r at_front e = absurd (grind (arith, e))
by_front ss (said.Intake kind ∷ rest) r at_front e = absurd (grind (arith, e))
by_front ss (said.Resume place ∷ rest) r at_front e = absurd (grind (arith, e))

-- ---- from the order to the definition

pub if_true : (b : Bool) (x y : Option Command) → b ≡ true → (if b then x else y) ≡ x
if_true true x y e = refl
if_true false x y e = absurd (grind (arith, e))

defined : (ss : List Said) (r : RunCommand) → IsRunOf ss r → run_of ss ≡ Some (command.Run r)
defined ss r o =
    let z = map said.Name r.sources ++ o.behind in
    let front : behind_options ss ≡ said.Name r.specification ∷ (o.between ++ z) = ap behind_options o.order ∙ past o.before (said.Name r.specification ∷ (o.between ++ z)) o.options_before refl in
    let at_z : behind_options (o.between ++ z) ≡ z = past o.between z o.options_between (named_front r.sources o.behind o.some) in
    let beginning = one_beginning_back ss (rw (← o.start, ← o.state) o.one_beginning) in
    let names = names_of r.sources o.behind o.options_behind in
    let rest = rest_of r.sources o.behind o.options_behind in
    let test : (come_once ss && (start_or_state ss && are_sources (front_names z) (behind_names z))) ≡ true =
    rw (names, rest, o.once, beginning, only_options o.behind o.options_behind) (within (length r.sources) o.some o.few) in
    let is : told ss r.specification (front_names z) ≡ r = rw (names, ← o.show, ← o.workers, ← o.start, ← o.in_turns, ← o.intake, ← o.state) refl in
    ap (run_by ss) front ∙ ap (run_over ss r.specification) at_z
    ∙ if_true (come_once ss && (start_or_state ss && are_sources (front_names z) (behind_names z))) (Some (command.Run (told ss r.specification (front_names z)))) None test
    ∙ ap (λ (q : RunCommand). Some (command.Run q)) is
  where
    within : (n : ℕ) → 1 ≤ n → n ≤ 64 → (true && (true && (nat_le 1 n && (nat_le n 64 && true)))) ≡ true
    within n some few = grind (arith, some, few)

pub in_order : RunsAreInOrder
in_order ss r = (by_front ss (behind_options ss) r refl, defined ss r)
