-- The order of what a snapshot is told, both ways.
use Rattle.std.proofs.Common.{◌≡◌, ◌≤◌, refl, ap, subst, ◌∙◌, ℕ, List, ◌∷◌, ◌++◌, Some, None, true, ◌&&◌, nat_le, length, map, arith}
use Rattle.std.proofs.lemmas.Bool.{and_parts}
use Rattle.lola_monitor_command.specs.Command.{come_once, start_or_state, suit_snapshot, start_said, state_said, front_names, behind_names, behind_options, is_empty, are_sources, snapshot_by, snapshot_of, snapshot_over}
use Rattle.lola_monitor_command.specs.Order.{IsSnapshotOf, SnapshotsAreInOrder}
use Rattle.lola_monitor_command.specs.declared.said.Said.{Said}
use Rattle.lola_monitor_command.specs.declared.said.Said.TheVariants as said
use Rattle.lola_monitor_command.specs.declared.command.Command.TheVariants as command
use Rattle.lola_monitor_command.specs.declared.command.SnapshotCommand.{SnapshotCommand}
use Rattle.lola_monitor_command.proofs.InOrder.{all_options, chosen, front_options, if_true, named_front, names_of, none_behind, one_beginning, one_beginning_back, only_options, past, rest_of, sources_are, split, split_names}

-- the snapshot that is told so
abbrev pub told : List Said → ℕ → List ℕ → SnapshotCommand
told ss specification sources = record { specification = specification; sources = sources; start = start_said ss; state = state_said ss }

-- ---- from the definition to the order

snapshot_is : (a b : SnapshotCommand) → Some (command.Snapshot a) ≡ Some (command.Snapshot b) → a ≡ b
snapshot_is a b e = grind (arith, e)

ordered : (ss rest : List Said) (specification : ℕ) (r : SnapshotCommand) → behind_options ss ≡ said.Name specification ∷ rest
    → snapshot_over ss specification (behind_options rest) ≡ Some (command.Snapshot r) → IsSnapshotOf ss r
ordered ss rest specification r at_front e =
    let z = behind_options rest in
    let sources = are_sources (front_names z) (behind_names z) in
    let c = chosen (come_once ss && (start_or_state ss && (suit_snapshot ss && sources))) (Some (command.Snapshot (told ss specification (front_names z)))) (command.Snapshot r) e in
    let first = and_parts (come_once ss) (start_or_state ss && (suit_snapshot ss && sources)) c.0 in
    let second = and_parts (start_or_state ss) (suit_snapshot ss && sources) first.1 in
    let third = and_parts (suit_snapshot ss) sources second.1 in
    let three = sources_are (nat_le 1 (length (front_names z))) (nat_le (length (front_names z)) 64) (is_empty (behind_options (behind_names z))) third.1 in
    subst (IsSnapshotOf ss) (snapshot_is (told ss specification (front_names z)) r c.1) (record {
      before = front_options ss;
      between = front_options rest;
      behind = behind_names z;
      order = split ss ∙ ap (λ w. front_options ss ++ w) (at_front ∙ ap (λ w. said.Name specification ∷ w) (split rest ∙ ap (λ w. front_options rest ++ w) (split_names z)));
      options_before = all_options ss;
      options_between = all_options rest;
      options_behind = none_behind (behind_names z) three.2;
      some = grind (arith, three.0);
      few = grind (arith, three.1);
      suited = third.0;
      once = first.0;
      one_beginning = one_beginning ss second.0;
      start = refl;
      state = refl;
    })

by_front : (ss front : List Said) (r : SnapshotCommand) → behind_options ss ≡ front → snapshot_by ss front ≡ Some (command.Snapshot r) → IsSnapshotOf ss r
by_front ss (said.Name specification ∷ rest) r at_front e = ordered ss rest specification r at_front e
by_front ss _ r at_front e = absurd (grind (arith, e))

-- ---- from the order to the definition

defined : (ss : List Said) (r : SnapshotCommand) → IsSnapshotOf ss r → snapshot_of ss ≡ Some (command.Snapshot r)
defined ss r o =
    let z = map said.Name r.sources ++ o.behind in
    let front : behind_options ss ≡ said.Name r.specification ∷ (o.between ++ z) = ap behind_options o.order ∙ past o.before (said.Name r.specification ∷ (o.between ++ z)) o.options_before refl in
    let at_z : behind_options (o.between ++ z) ≡ z = past o.between z o.options_between (named_front r.sources o.behind o.some) in
    let beginning = one_beginning_back ss (rw (← o.start, ← o.state) o.one_beginning) in
    let names = names_of r.sources o.behind o.options_behind in
    let rest = rest_of r.sources o.behind o.options_behind in
    let test : (come_once ss && (start_or_state ss && (suit_snapshot ss && are_sources (front_names z) (behind_names z)))) ≡ true =
    rw (names, rest, o.once, beginning, o.suited, only_options o.behind o.options_behind) (within (length r.sources) o.some o.few) in
    let is : told ss r.specification (front_names z) ≡ r = rw (names, ← o.start, ← o.state) refl in
    ap (snapshot_by ss) front ∙ ap (snapshot_over ss r.specification) at_z
    ∙ if_true (come_once ss && (start_or_state ss && (suit_snapshot ss && are_sources (front_names z) (behind_names z)))) (Some (command.Snapshot (told ss r.specification (front_names z)))) None test
    ∙ ap (λ (q : SnapshotCommand). Some (command.Snapshot q)) is
  where
    within : (n : ℕ) → 1 ≤ n → n ≤ 64 → (true && (true && (true && (nat_le 1 n && (nat_le n 64 && true))))) ≡ true
    within n some few = grind (arith, some, few)

pub snapshots_in_order : SnapshotsAreInOrder
snapshots_in_order ss r = (by_front ss (behind_options ss) r refl, defined ss r)
