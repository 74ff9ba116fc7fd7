-- The fault of a step, by what is known of it, is that of its row.
use Rattle.std.proofs.Common.{◌≡◌, ◌∙◌, refl, sym, ap, ℕ, ◌+◌, List, [], ◌∷◌, Option, Some, None, Bool, true, false, ◌||◌, is_some}
use Rattle.lola_value.specs.declared.value.FaultKind.{FaultKind}
use Rattle.lola_value.specs.declared.value.FaultKind.TheVariants as fault
use Rattle.lola_value.specs.Answer.{Answer, Given, Missing, Faulted, Poisoned}
use Rattle.lola_model.specs.Faults.{RowFault, add_faulted, first_with, least_faulted, lesser_kind, own_fault}
use Rattle.lola_model.specs.Model.{has_evaluation_fault, has_faulted, some_faulted, spawn_has_faulted}
use Rattle.lola_model.specs.Table.{Spawned, Idle, Named, SpawnFaulted, SpawnPoisoned, Living, StreamRow, TableRow}
use Rattle.lola_replay_table.specs.declared.table.KeptSpawn.{KeptSpawn}
use Rattle.lola_replay_table.specs.declared.table.KnownLife.{KnownLife}
use Rattle.lola_replay_table.specs.declared.table.KnownStream.{KnownStream}
use Rattle.lola_replay_step.specs.Closings.{faulted_of, fault_or, least_of}
use Rattle.lola_replay_step.specs.StepFaults.{first_known, least_known, outcome_known, own_by, own_of}
use Rattle.lola_replay_step.proofs.AllAnswered.{AnswersFrom, AnswersLives}

-- the least of some kinds, in whatever order they are compared

two : (a b : FaultKind) → least_of (lesser_kind a (Some b)) None ≡ lesser_kind a (Some b)
two fault.Overflow fault.Overflow = refl
two fault.Overflow fault.DivZero = refl
two fault.Overflow fault.TooManyInstances = refl
two fault.DivZero fault.Overflow = refl
two fault.DivZero fault.DivZero = refl
two fault.DivZero fault.TooManyInstances = refl
two fault.TooManyInstances fault.Overflow = refl
two fault.TooManyInstances fault.DivZero = refl
two fault.TooManyInstances fault.TooManyInstances = refl

three : (a b c : FaultKind) → least_of (lesser_kind a (Some b)) (Some c) ≡ lesser_kind a (lesser_kind b (Some c))
three fault.Overflow fault.Overflow fault.Overflow = refl
three fault.Overflow fault.Overflow fault.DivZero = refl
three fault.Overflow fault.Overflow fault.TooManyInstances = refl
three fault.Overflow fault.DivZero fault.Overflow = refl
three fault.Overflow fault.DivZero fault.DivZero = refl
three fault.Overflow fault.DivZero fault.TooManyInstances = refl
three fault.Overflow fault.TooManyInstances fault.Overflow = refl
three fault.Overflow fault.TooManyInstances fault.DivZero = refl
three fault.Overflow fault.TooManyInstances fault.TooManyInstances = refl
three fault.DivZero fault.Overflow fault.Overflow = refl
three fault.DivZero fault.Overflow fault.DivZero = refl
three fault.DivZero fault.Overflow fault.TooManyInstances = refl
three fault.DivZero fault.DivZero fault.Overflow = refl
three fault.DivZero fault.DivZero fault.DivZero = refl
three fault.DivZero fault.DivZero fault.TooManyInstances = refl
three fault.DivZero fault.TooManyInstances fault.Overflow = refl
three fault.DivZero fault.TooManyInstances fault.DivZero = refl
three fault.DivZero fault.TooManyInstances fault.TooManyInstances = refl
three fault.TooManyInstances fault.Overflow fault.Overflow = refl
three fault.TooManyInstances fault.Overflow fault.DivZero = refl
three fault.TooManyInstances fault.Overflow fault.TooManyInstances = refl
three fault.TooManyInstances fault.DivZero fault.Overflow = refl
three fault.TooManyInstances fault.DivZero fault.DivZero = refl
three fault.TooManyInstances fault.DivZero fault.TooManyInstances = refl
three fault.TooManyInstances fault.TooManyInstances fault.Overflow = refl
three fault.TooManyInstances fault.TooManyInstances fault.DivZero = refl
three fault.TooManyInstances fault.TooManyInstances fault.TooManyInstances = refl

pub least-none : (a : Option FaultKind) → least_of a None ≡ a
least-none None = refl
least-none (Some k) = refl

pub least-assoc : (a b c : Option FaultKind) → least_of (least_of a b) c ≡ least_of a (least_of b c)
least-assoc None b c = refl
least-assoc (Some k) None c = refl
least-assoc (Some k) (Some j) None = two k j
least-assoc (Some k) (Some j) (Some i) = three k j i

pub added-is : (a : Answer) (o : Option FaultKind) → add_faulted a o ≡ least_of (faulted_of a) o
added-is (Given v) o = refl
added-is Missing o = refl
added-is (Faulted k) o = refl
added-is Poisoned o = refl

pub fault-or-is : (n : ℕ) (o : Option FaultKind) (other : Option RowFault) → fault_or n o other ≡ (elim o [ None ↦ other | Some k ↦ Some (record { stream = n; kind = k }) ])
fault-or-is n None other = refl
fault-or-is n (Some k) other = refl

module _ (rows : List TableRow) (time n : ℕ) where
  least-is : (best : Option FaultKind) (ls : List Living) (ks : List KnownLife) → AnswersLives rows time n ls ks → least_known best ks ≡ least_of best (least_faulted ls)
  least-is best [] [] answers = sym (least-none best)
  least-is best [] (k ∷ ks) answers = absurd answers
  least-is best (l ∷ ls) [] answers = absurd answers
  least-is best (l ∷ ls) (k ∷ ks) answers =
      let f = faulted_of (outcome_known k.outcome) in
      let same : outcome_known k.outcome ≡ l.outcome = ap outcome_known answers.0.known ∙ sym answers.0.is in
      least-is (least_of best f) ls ks answers.1
      ∙ least-assoc best f (least_faulted ls)
      ∙ ap (λ a. least_of best (least_of (faulted_of a) (least_faulted ls))) same
      ∙ ap (least_of best) (sym (added-is l.outcome (least_faulted ls)))

  own-is : (sp : Spawned) (o : Option FaultKind) → own_of sp o ≡ (elim sp [ Idle ↦ o | Named p ↦ o | SpawnFaulted k ↦ Some k | SpawnPoisoned ↦ o ])
  own-is Idle o = refl
  own-is (Named p) o = refl
  own-is (SpawnFaulted k) o = refl
  own-is SpawnPoisoned o = refl

-- the first stream that has a fault of its spawn clause or of an instance
pub first-is : (rows : List TableRow) (time n : ℕ) (rs : List StreamRow) (ks : List KnownStream) → AnswersFrom rows time n rs ks → first_known n ks ≡ first_with own_fault n rs
first-is rows time n [] [] answers = refl
first-is rows time n [] (k ∷ ks) answers = absurd answers
first-is rows time n (r ∷ rs) [] answers = absurd answers
first-is rows time n (r ∷ rs) (k ∷ ks) answers =
    let a = answers.0 in
    let own : own_by k.spawned (least_known None k.lives) ≡ own_fault r =
    ap (λ o. own_by k.spawned o) (least-is rows time n None r.living k.lives a.lives)
    ∙ ap (λ (o : Option KeptSpawn). own_by o (least_faulted r.living)) a.known
    ∙ ap (λ (sp : Spawned). own_of sp (least_faulted r.living)) (sym a.is)
    ∙ own-is rows time n r.spawned (least_faulted r.living) in
    ap (λ o. fault_or n o (first_known (n + 1) ks)) own
    ∙ ap (fault_or n (own_fault r)) (first-is rows time (n + 1) rs ks answers.1)
    ∙ fault-or-is n (own_fault r) (first_with own_fault (n + 1) rs)

-- whether there is such a fault

some-lesser : (k : FaultKind) (o : Option FaultKind) → is_some (lesser_kind k o) ≡ true
some-lesser k None = refl
some-lesser k (Some j) = refl

some-added : (a : Answer) (o : Option FaultKind) (b : Bool) → is_some o ≡ b → is_some (add_faulted a o) ≡ (has_faulted a || b)
some-added (Given v) o b e = e
some-added Missing o b e = e
some-added (Faulted k) o b e = some-lesser k o
some-added Poisoned o b e = e

some-least : (ls : List Living) → is_some (least_faulted ls) ≡ some_faulted ls
some-least [] = refl
some-least (l ∷ ls) = some-added l.outcome (least_faulted ls) (some_faulted ls) (some-least ls)

some-first : (f : StreamRow → Option FaultKind) (n : ℕ) (s : StreamRow) (ss : List StreamRow) → is_some (first_with f n (s ∷ ss)) ≡ (is_some (f s) || is_some (first_with f (n + 1) ss))
some-first f n s ss = go (f s)
  where
    go : (o : Option FaultKind) → is_some (elim o [ None ↦ first_with f (n + 1) ss | Some k ↦ Some (record { stream = n; kind = k }) ]) ≡ (is_some o || is_some (first_with f (n + 1) ss))
    go None = refl
    go (Some k) = refl

own-some : (s : StreamRow) → is_some (own_fault s) ≡ (spawn_has_faulted s.spawned || some_faulted s.living)
own-some s = go s.spawned
  where
    go : (p : Spawned) → is_some (elim p [ Idle ↦ least_faulted s.living | Named q ↦ least_faulted s.living | SpawnFaulted k ↦ Some k | SpawnPoisoned ↦ least_faulted s.living ]) ≡ (spawn_has_faulted p || some_faulted s.living)
    go Idle = some-least s.living
    go (Named q) = some-least s.living
    go (SpawnFaulted k) = refl
    go SpawnPoisoned = some-least s.living

or-assoc : (a b c : Bool) → (a || b) || c ≡ a || (b || c)
or-assoc true b c = refl
or-assoc false b c = refl

pub some-evaluation : (n : ℕ) (ss : List StreamRow) → is_some (first_with own_fault n ss) ≡ has_evaluation_fault ss
some-evaluation n [] = refl
some-evaluation n (s ∷ ss) =
    some-first own_fault n s ss
    ∙ (ap (λ b. b || is_some (first_with own_fault (n + 1) ss)) (own-some s)
    ∙ (or-assoc (spawn_has_faulted s.spawned) (some_faulted s.living) (is_some (first_with own_fault (n + 1) ss))
    ∙ ap (λ b. spawn_has_faulted s.spawned || (some_faulted s.living || b)) (some-evaluation (n + 1) ss)))
