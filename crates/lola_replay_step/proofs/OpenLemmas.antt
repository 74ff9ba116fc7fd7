-- What an access and a window ask is not answered, and is of the stream that they read.
use Rattle.std.proofs.Common.{◌≡◌, refl, ◌⊎◌, inl, inr, ℕ, List, Option, Some, None, Bool, true, false, if◌then◌else◌, Result, Ok, Err}
use Rattle.lola_value.specs.declared.text.Field.{Field}
use Rattle.lola_value.specs.declared.value.Kind.{Kind}
use Rattle.lola_value.specs.Answer.{Answer, Poisoned}
use Rattle.lola_model.specs.Content.{is_bad}
use Rattle.lola_model.specs.declared.expr.Access.{Access}
use Rattle.lola_model.specs.declared.expr.Access.TheVariants as access
use Rattle.lola_model.specs.declared.spec.WindowSpec.{WindowSpec}
use Rattle.lola_replay_table.specs.declared.question.Question.{Question}
use Rattle.lola_replay_table.specs.declared.question.Question.TheVariants.{SpawnOf, OutcomeOf}
use Rattle.lola_replay_table.specs.declared.table.KnownLife.{KnownLife}
use Rattle.lola_replay_table.specs.declared.table.KnownStream.{KnownStream}
use Rattle.lola_replay_table.specs.declared.table.KeptSpawn.{KeptSpawn}
use Rattle.lola_replay_table.specs.declared.answer.KeptAnswer.{KeptAnswer}
use Rattle.lola_replay_table.specs.Answers.{kept_spawn}
use Rattle.lola_replay_table.specs.Tries.{found, read_found, read_known, read_spawned, read_stream, window_found, window_known, window_spawned, window_stream}

-- the spawn clause of a stream, not answered; or the outcome of the instance that was found, not answered
pub record AsksSpawn (n : ℕ) (k : KnownStream) (q : Question) : Type 0 where
  pub is : q ≡ SpawnOf n
  pub open-yet : k.spawned ≡ None

pub record AsksOutcome (n : ℕ) (p : List Field) (k : KnownStream) (q : Question) : Type 0 where
  pub found-is : ℕ × KnownLife
  pub there : found p 0 k.lives ≡ Some found-is
  pub is : q ≡ OutcomeOf n found-is.0
  pub open-yet : found-is.1.outcome ≡ None

abbrev pub AsksOf : ℕ → List Field → KnownStream → Question → Type 0
AsksOf n p k q = AsksSpawn n k q ⊎ AsksOutcome n p k q

is-err : (o q : Question) → (let r : Result Answer Question = Err o in r) ≡ Err q → q ≡ o
is-err o q e = cc e

module _ (n : ℕ) (p : List Field) (k : KnownStream) where
  known-asks : (how : Access) (f : ℕ × KnownLife) → found p 0 k.lives ≡ Some f → (o : Option KeptAnswer) → f.1.outcome ≡ o → (q : Question) → read_known how (OutcomeOf n f.0) f.1.earlier o ≡ Err q → AsksOf n p k q
  known-asks how f there None none q e = inr (record { found-is = f; there = there; is = is-err _ q e; open-yet = none })
  known-asks how f there (Some a) some q e = absurd (cc e)

  found-asks : (how : Access) (f : Option (ℕ × KnownLife)) → found p 0 k.lives ≡ f → (q : Question) → read_found how n f ≡ Err q → AsksOf n p k q
  found-asks how None there q e = absurd (cc e)
  found-asks how (Some f) there q e = known-asks how f there f.1.outcome refl q e

  spawned-asks : (how : Access) (o : Option KeptSpawn) → k.spawned ≡ o → (q : Question) → read_spawned how n o (found p 0 k.lives) ≡ Err q → AsksOf n p k q
  spawned-asks how None none q e = inl (record { is = is-err _ q e; open-yet = none })
  spawned-asks how (Some s) some q e = go (is_bad (kept_spawn s)) e
    where
      go : (b : Bool) → (if b then Ok Poisoned else read_found how n (found p 0 k.lives)) ≡ Err q → AsksOf n p k q
      go true e = absurd (cc e)
      go false e = found-asks how (found p 0 k.lives) refl q e

  pub read-asks : (how : Access) (q : Question) → read_stream how n p k ≡ Err q → AsksOf n p k q
  read-asks access.Direct q e = spawned-asks access.Direct k.spawned refl q e
  read-asks access.Get q e = spawned-asks access.Get k.spawned refl q e
  read-asks access.Hold q e = spawned-asks access.Hold k.spawned refl q e
  read-asks (access.Offset d) q e = absurd (cc e)

module _ (start time : ℕ) (w : WindowSpec) (kind : Kind) (p : List Field) (k : KnownStream) where
  window-known-asks : (f : ℕ × KnownLife) → found p 0 k.lives ≡ Some f → (o : Option KeptAnswer) → f.1.outcome ≡ o → (q : Question) → window_known start time w kind (OutcomeOf w.target f.0) f.1.earlier o ≡ Err q → AsksOf w.target p k q
  window-known-asks f there None none q e = inr (record { found-is = f; there = there; is = is-err _ q e; open-yet = none })
  window-known-asks f there (Some a) some q e = absurd (cc e)

  window-found-asks : (f : Option (ℕ × KnownLife)) → found p 0 k.lives ≡ f → (q : Question) → window_found start time w kind f ≡ Err q → AsksOf w.target p k q
  window-found-asks None there q e = absurd (cc e)
  window-found-asks (Some f) there q e = window-known-asks f there f.1.outcome refl q e

  window-spawned-asks : (o : Option KeptSpawn) → k.spawned ≡ o → (q : Question) → window_spawned start time w kind o (found p 0 k.lives) ≡ Err q → AsksOf w.target p k q
  window-spawned-asks None none q e = inl (record { is = is-err _ q e; open-yet = none })
  window-spawned-asks (Some s) some q e = go (is_bad (kept_spawn s)) e
    where
      go : (b : Bool) → (if b then Ok Poisoned else window_found start time w kind (found p 0 k.lives)) ≡ Err q → AsksOf w.target p k q
      go true e = absurd (cc e)
      go false e = window-found-asks (found p 0 k.lives) refl q e

  pub window-asks : (q : Question) → window_stream start time w kind p k ≡ Err q → AsksOf w.target p k q
  window-asks q e = window-spawned-asks k.spawned refl q e
