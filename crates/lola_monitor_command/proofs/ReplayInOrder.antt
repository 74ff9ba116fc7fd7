-- The order of what a replay is told, both ways.
use Rattle.std.proofs.Common.{◌≡◌, refl, ap, subst, ◌∙◌, ℕ, List, ◌∷◌, ◌++◌, Some, None, true, ◌&&◌, arith}
use Rattle.std.proofs.lemmas.Bool.{and_parts}
use Rattle.lola_monitor_command.specs.Command.{come_once, suit_replay, show_said, start_said, behind_options, is_empty, replay_by, replay_of, replay_with}
use Rattle.lola_monitor_command.specs.Order.{IsReplayOf, ReplaysAreInOrder}
use Rattle.lola_monitor_command.specs.declared.said.Said.{Said}
use Rattle.lola_monitor_command.specs.declared.said.Said.TheVariants as said
use Rattle.lola_monitor_command.specs.declared.command.Command.TheVariants as command
use Rattle.lola_monitor_command.specs.declared.command.ReplayCommand.{ReplayCommand}
use Rattle.lola_monitor_command.proofs.InOrder.{all_options, chosen, front_options, if_true, none_behind, only_options, past, split}

-- the replay that is told so
abbrev told : List Said → ℕ → ℕ → ℕ → ReplayCommand
told ss specification trace verdicts =
    record { specification = specification; trace = trace; verdicts = verdicts; show = show_said ss; start = start_said ss }

-- ---- from the definition to the order

replay_is : (a b : ReplayCommand) → Some (command.Replay a) ≡ Some (command.Replay b) → a ≡ b
replay_is a b e = grind (arith, e)

ordered : (ss rest : List Said) (specification trace verdicts : ℕ) (r : ReplayCommand) → behind_options ss ≡ said.Name specification ∷ (said.Name trace ∷ (said.Name verdicts ∷ rest))
    → replay_with ss specification trace verdicts rest ≡ Some (command.Replay r) → IsReplayOf ss r
ordered ss rest specification trace verdicts r at_front e =
    let c = chosen (come_once ss && (suit_replay ss && is_empty (behind_options rest))) (Some (command.Replay (told ss specification trace verdicts))) (command.Replay r) e in
    let first = and_parts (come_once ss) (suit_replay ss && is_empty (behind_options rest)) c.0 in
    let second = and_parts (suit_replay ss) (is_empty (behind_options rest)) first.1 in
    subst (IsReplayOf ss) (replay_is (told ss specification trace verdicts) r c.1) (record {
      before = front_options ss;
      behind = rest;
      order = split ss ∙ ap (λ w. front_options ss ++ w) at_front;
      options_before = all_options ss;
      options_behind = none_behind rest second.1;
      suited = second.0;
      once = first.0;
      show = refl;
      start = refl;
    })

by_front : (ss front : List Said) (r : ReplayCommand) → behind_options ss ≡ front → replay_by ss front ≡ Some (command.Replay r) → IsReplayOf ss r
by_front ss (said.Name specification ∷ said.Name trace ∷ said.Name verdicts ∷ rest) r at_front e = ordered ss rest specification trace verdicts r at_front e
by_front ss _ r at_front e = absurd (grind (arith, e))

-- ---- from the order to the definition

defined : (ss : List Said) (r : ReplayCommand) → IsReplayOf ss r → replay_of ss ≡ Some (command.Replay r)
defined ss r o =
    let z = said.Name r.specification ∷ (said.Name r.trace ∷ (said.Name r.verdicts ∷ o.behind)) in
    let front : behind_options ss ≡ z = ap behind_options o.order ∙ past o.before z o.options_before refl in
    let test : (come_once ss && (suit_replay ss && is_empty (behind_options o.behind))) ≡ true = rw (o.once, o.suited, only_options o.behind o.options_behind) refl in
    let is : told ss r.specification r.trace r.verdicts ≡ r = rw (← o.show, ← o.start) refl in
    ap (replay_by ss) front
    ∙ if_true (come_once ss && (suit_replay ss && is_empty (behind_options o.behind))) (Some (command.Replay (told ss r.specification r.trace r.verdicts))) None test
    ∙ ap (λ (q : ReplayCommand). Some (command.Replay q)) is

pub replays_in_order : ReplaysAreInOrder
replays_in_order ss r = (by_front ss (behind_options ss) r refl, defined ss r)
