-- The first deadline by what is known between steps is the one that comes next behind the rows.
use Rattle.std.proofs.Common.{◌≡◌, ◌∙◌, refl, sym, ap, ℕ, ◌+◌, List, [], ◌∷◌, Option, None, if◌then◌else◌, slice_get}
use Rattle.lola_value.specs.Ratio.{Ratio}
use Rattle.lola_model.specs.Content.{time_of}
use Rattle.lola_model.specs.Model.{is_input, last_row, survivors}
use Rattle.lola_model.specs.NextStep.{due, due_of_instances, due_of_streams, earlier, first_due, local_rates, open_from}
use Rattle.lola_model.specs.Steps.{rates_of}
use Rattle.lola_model.specs.Table.{Instance, TableRow}
use Rattle.lola_model.specs.declared.plan.Plan.{Plan}
use Rattle.lola_model.specs.declared.spec.Stream.{Stream}
use Rattle.lola_replay_table.specs.declared.table.KnownLife.{KnownLife}
use Rattle.lola_replay_table.specs.declared.table.KnownStream.{KnownStream}
use Rattle.lola_replay_step.specs.Dues.{due_of_known, due_of_lives, in_time, known_due, timely_due}
use Rattle.lola_replay_step.specs.Rests.{RestLives, Rests, RestsFrom}
use Rattle.lola_replay_step.proofs.DueLemmas.{earlier-assoc, earlier-none, in-time-earlier, start-due, stream-due}

module _ (plan : Plan) (rows : List TableRow) where
  lives-due : (rates : List Ratio) (n : ℕ) (best : Option ℕ) (xs : List Instance) (ks : List KnownLife) → RestLives rows n xs ks
      → due_of_lives rates (open_from (last_row rows)) best ks ≡ earlier best (in_time (due_of_instances plan rows rates xs))
  lives-due rates n best [] [] rests = sym (earlier-none best)
  lives-due rates n best [] (k ∷ ks) rests = absurd rests
  lives-due rates n best (x ∷ xs) [] rests = absurd rests
  lives-due rates n best (x ∷ xs) (k ∷ ks) rests =
      let from = open_from (last_row rows) in
      let others = due_of_instances plan rows rates xs in
      lives-due rates n (earlier best (timely_due k.born rates from)) xs ks rests.1
      ∙ earlier-assoc best (timely_due k.born rates from) (in_time others)
      ∙ ap (λ b. earlier best (earlier (timely_due b rates from) (in_time others))) rests.0.born
      ∙ ap (earlier best) (sym (in-time-earlier (first_due (time_of 0 (slice_get rows x.born)) rates from) others))

  streams-due : (n i : ℕ) (ss : List Stream) (ks : List KnownStream) → RestsFrom rows n i ss ks → due_of_known plan (open_from (last_row rows)) n ks ≡ in_time (due_of_streams plan rows n ss)
  streams-due n i [] [] rests = refl
  streams-due n i [] (k ∷ ks) rests = absurd rests
  streams-due n i (s ∷ ss) [] rests = absurd rests
  streams-due n i (s ∷ ss) (k ∷ ks) rests =
      let from = open_from (last_row rows) in
      let rates = local_rates (slice_get plan.pacings n) in
      let here = due_of_instances plan rows rates (survivors n s (last_row rows)) in
      ap (λ o. earlier o (due_of_known plan from (n + 1) ks)) (stream-due (slice_get plan.pacings n) from k.lives ∙ lives-due rates n None (survivors n s (last_row rows)) k.lives rests.0.lives)
      ∙ ap (earlier (in_time here)) (streams-due (n + 1) (if is_input s then i + 1 else i) ss ks rests.1)
      ∙ sym (in-time-earlier here (due_of_streams plan rows (n + 1) ss))

  pub due-known : (start : ℕ) (known : List KnownStream) → Rests plan rows known → known_due plan (open_from (last_row rows)) start known ≡ in_time (due plan rows start)
  due-known start known rests =
      ap (λ o. earlier o (due_of_known plan (open_from (last_row rows)) 0 known)) (start-due start (open_from (last_row rows)) plan.pacings)
      ∙ ap (earlier (timely_due start (rates_of plan.pacings) (open_from (last_row rows)))) (streams-due 0 0 plan.spec.streams known rests)
      ∙ sym (in-time-earlier (first_due start (rates_of plan.pacings) (open_from (last_row rows))) (due_of_streams plan rows 0 plan.spec.streams))
