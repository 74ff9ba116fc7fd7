-- What is read of what is known is what the content says.
use Rattle.std.proofs.Common.{◌≡◌, ◌∙◌, refl, sym, ap, subst, ℕ, ◌+◌, ◌-◌, List, [], ◌∷◌, Option, Some, None, Bool, true, false, if◌then◌else◌, Result, Ok, arith, length, nat_le, slice_get}
use Rattle.lola_value.specs.declared.text.Field.{Field}
use Rattle.lola_value.specs.Answer.{Missing, Poisoned}
use Rattle.lola_value.specs.Arithmetic.{all_equal}
use Rattle.lola_model.specs.Content.{Life, StreamContent, is_bad, seen}
use Rattle.lola_model.specs.Accesses.{accessed, earlier_of, from_end, life_with, value_or_missing}
use Rattle.lola_value.specs.declared.value.Kind.{Kind}
use Rattle.lola_model.specs.Content.{Content}
use Rattle.lola_model.specs.Accesses.{bad_in, life_in}
use Rattle.lola_model.specs.Windows.{window_answer}
use Rattle.lola_model.specs.declared.spec.WindowSpec.{WindowSpec}
use Rattle.lola_replay_table.specs.Tries.{window_found, window_known, window_over, window_spawned, window_stream, windowed}
use Rattle.lola_model.specs.declared.expr.Access.{Access}
use Rattle.lola_model.specs.declared.expr.Access.TheVariants as access
use Rattle.lola_replay_table.specs.declared.question.Question.{Question}
use Rattle.lola_replay_table.specs.declared.question.Question.TheVariants.{OutcomeOf}
use Rattle.lola_replay_table.specs.declared.table.KnownLife.{KnownLife}
use Rattle.lola_replay_table.specs.declared.table.KnownStream.{KnownStream}
use Rattle.lola_replay_table.specs.declared.table.KeptSpawn.{KeptSpawn}
use Rattle.lola_replay_table.specs.declared.answer.KeptAnswer.{KeptAnswer}
use Rattle.lola_replay_table.specs.Answers.{kept_answer, kept_spawn}
use Rattle.lola_replay_table.specs.Tries.{AgreeLives, AgreesLife, AgreesStream, earlier_found, found, read_found, read_known, read_of, read_spawned, read_stream}
use Rattle.lola_replay_step.proofs.TryLemmas.{Answers}

is-ok : {A : Type 0} (x y : A) → (let o : Result A Question = Ok x in o) ≡ Ok y → x ≡ y
is-ok x y e = cc e

-- the living instance is found, and what is known of it agrees
abbrev FoundIs : Option Life → Option (ℕ × KnownLife) → Type 0
FoundIs None None = Unit {0}
FoundIs (Some l) (Some f) = AgreesLife l f.1
FoundIs _ _ = ⊥

abbrev first_life : Bool → Life → Option Life → Option Life
first_life b l rest = if b then Some l else rest

abbrev first_known : Bool → ℕ × KnownLife → Option (ℕ × KnownLife) → Option (ℕ × KnownLife)
first_known b f rest = if b then Some f else rest

found-right : (p : List Field) (at : ℕ) (ls : List Life) (ks : List KnownLife) → AgreeLives ls ks → length ls ≡ length ks → FoundIs (life_with p ls) (found p at ks)
found-right p at [] [] agree long = tt
found-right p at [] (k ∷ ks) agree long = absurd agree
found-right p at (l ∷ ls) [] agree long = absurd (omega (arith, long))
found-right p at (l ∷ ls) (k ∷ ks) (here, more) long =
    subst (λ (q : List Field). FoundIs (life_with p (l ∷ ls)) (first_known (all_equal p q) (at, k) (found p (at + 1) ks))) (sym here.params)
    (go (all_equal p l.params) (found-right p (at + 1) ls ks more (omega (arith, long))))
  where
    go : (b : Bool) → FoundIs (life_with p ls) (found p (at + 1) ks) → FoundIs (first_life b l (life_with p ls)) (first_known b (at, k) (found p (at + 1) ks))
    go true rest = here
    go false rest = rest

none-from-end : (k : ℕ) → from_end [] k ≡ Missing
none-from-end k = go (nat_le k 0)
  where
    go : (b : Bool) → (if b then value_or_missing (slice_get [] (0 - k)) else Missing) ≡ Missing
    go true = refl
    go false = refl

newborn-right : (p : List Field) (k : ℕ) (ls : List Life) → AgreeLives ls [] → earlier_of k (life_with p ls) ≡ Missing
newborn-right p k [] agree = refl
newborn-right p k (l ∷ ls) (none, more) = go (all_equal p l.params) (newborn-right p k ls more)
  where
    go : (b : Bool) → earlier_of k (life_with p ls) ≡ Missing → earlier_of k (first_life b l (life_with p ls)) ≡ Missing
    go true rest = ap (λ (vs : List (ℕ × Field)). from_end vs k) none ∙ none-from-end k
    go false rest = rest

offset-right : (p : List Field) (k at : ℕ) (ls : List Life) (ks : List KnownLife) → AgreeLives ls ks → earlier_of k (life_with p ls) ≡ earlier_found k (found p at ks)
offset-right p k at ls [] agree = newborn-right p k ls (nothing ls agree)
  where
    nothing : (xs : List Life) → AgreeLives xs [] → AgreeLives xs []
    nothing xs a = a
offset-right p k at [] (x ∷ ks) agree = absurd agree
offset-right p k at (l ∷ ls) (x ∷ ks) (here, more) =
    subst (λ (q : List Field). earlier_of k (life_with p (l ∷ ls)) ≡ earlier_found k (first_known (all_equal p q) (at, x) (found p (at + 1) ks))) (sym here.params)
    (go (all_equal p l.params) (offset-right p k (at + 1) ls ks more))
  where
    go : (b : Bool) → earlier_of k (life_with p ls) ≡ earlier_found k (found p (at + 1) ks) → earlier_of k (first_life b l (life_with p ls)) ≡ earlier_found k (first_known b (at, x) (found p (at + 1) ks))
    go true rest = ap (λ (vs : List (ℕ × Field)). from_end vs k) (sym here.earlier)
    go false rest = rest

-- an access that asks for this step's outcome
abbrev AsksNow : Access → Type 0
AsksNow (access.Offset k) = ⊥
AsksNow _ = Unit {0}

-- what it reads of a living instance
lived : (how : Access) → AsksNow how → (l : Life) → accessed how false (Some l) ≡ read_of how l.earlier l.outcome
lived access.Direct asks l = refl
lived access.Get asks l = refl
lived access.Hold asks l = refl
lived (access.Offset k) asks l = absurd asks

not-lived : (how : Access) → AsksNow how → accessed how false None ≡ Missing
not-lived access.Direct asks = refl
not-lived access.Get asks = refl
not-lived access.Hold asks = refl
not-lived (access.Offset k) asks = absurd asks

is-poison : (how : Access) → AsksNow how → (l : Option Life) → accessed how true l ≡ Poisoned
is-poison access.Direct asks l = refl
is-poison access.Get asks l = refl
is-poison access.Hold asks l = refl
is-poison (access.Offset k) asks l = absurd asks

known-right : (how : Access) → AsksNow how → (q : Question) (l : Life) (k : KnownLife) → AgreesLife l k → (o : Option KeptAnswer) → k.outcome ≡ o → Answers (read_known how q k.earlier o) (accessed how false (Some l))
known-right how asks q l k agree None is a e = absurd (cc e)
known-right how asks q l k agree (Some x) is a e =
    lived how asks l ∙ ap (read_of how l.earlier) (agree.outcome x is)
    ∙ ap (λ (vs : List (ℕ × Field)). read_of how vs (seen (kept_answer x))) (sym agree.earlier) ∙ is-ok _ a e

in-found : (how : Access) → AsksNow how → (n : ℕ) (l : Option Life) (f : Option (ℕ × KnownLife)) → FoundIs l f → Answers (read_found how n f) (accessed how false l)
in-found how asks n None None is a e = not-lived how asks ∙ is-ok Missing a e
in-found how asks n None (Some f) is a e = absurd is
in-found how asks n (Some l) None is a e = absurd is
in-found how asks n (Some l) (Some f) is a e = known-right how asks (OutcomeOf n f.0) l f.1 is f.1.outcome refl a e

in-spawned : (how : Access) → AsksNow how → (n : ℕ) (p : List Field) (s : StreamContent) (k : KnownStream) → AgreesStream s k → (o : Option KeptSpawn) → k.spawned ≡ o
    → Answers (read_spawned how n o (found p 0 k.lives)) (accessed how s.bad (life_with p s.lives))
in-spawned how asks n p s k agree None is a e = absurd (cc e)
in-spawned how asks n p s k agree (Some sp) is a e =
    ap (λ b. accessed how b (life_with p s.lives)) (agree.bad sp is) ∙ go (is_bad (kept_spawn sp)) a e
  where
    go : (b : Bool) → Answers (if b then Ok Poisoned else read_found how n (found p 0 k.lives)) (accessed how b (life_with p s.lives))
    go true a e = is-poison how asks (life_with p s.lives) ∙ is-ok Poisoned a e
    go false a e = in-found how asks n (life_with p s.lives) (found p 0 k.lives) (found-right p 0 s.lives k.lives agree.lives (agree.all sp is)) a e

-- an access that is answered from what is known is answered as the content says
pub read-right : (how : Access) (n : ℕ) (p : List Field) (s : StreamContent) (k : KnownStream) → AgreesStream s k → Answers (read_stream how n p k) (accessed how s.bad (life_with p s.lives))
read-right access.Direct n p s k agree = in-spawned access.Direct tt n p s k agree k.spawned refl
read-right access.Get n p s k agree = in-spawned access.Get tt n p s k agree k.spawned refl
read-right access.Hold n p s k agree = in-spawned access.Hold tt n p s k agree k.spawned refl
read-right (access.Offset d) n p s k agree = λ a e. offset-right p d 0 s.lives k.lives agree.lives ∙ is-ok _ a e

-- what a window answers is a function of the stream and the instance
pub window-is : (c : Content) (w : WindowSpec) (kind : Kind) (p : List Field) → window_answer c w kind p ≡ windowed c.start c.time w kind (bad_in (slice_get c.streams w.target)) (life_in p (slice_get c.streams w.target))
window-is c w kind p = refl

module _ (start time : ℕ) (w : WindowSpec) (kind : Kind) where
  over-known : (q : Question) (l : Life) (k : KnownLife) → AgreesLife l k → (o : Option KeptAnswer) → k.outcome ≡ o → Answers (window_known start time w kind q k.earlier o) (windowed start time w kind false (Some l))
  over-known q l k agree None is a e = absurd (cc e)
  over-known q l k agree (Some x) is a e =
      ap (window_over start time w kind l.earlier) (agree.outcome x is)
      ∙ ap (λ (vs : List (ℕ × Field)). window_over start time w kind vs (seen (kept_answer x))) (sym agree.earlier) ∙ is-ok _ a e

  over-found : (l : Option Life) (f : Option (ℕ × KnownLife)) → FoundIs l f → Answers (window_found start time w kind f) (windowed start time w kind false l)
  over-found None None is a e = is-ok _ a e
  over-found None (Some f) is a e = absurd is
  over-found (Some l) None is a e = absurd is
  over-found (Some l) (Some f) is a e = over-known (OutcomeOf w.target f.0) l f.1 is f.1.outcome refl a e

  over-spawned : (p : List Field) (s : StreamContent) (k : KnownStream) → AgreesStream s k → (o : Option KeptSpawn) → k.spawned ≡ o
      → Answers (window_spawned start time w kind o (found p 0 k.lives)) (windowed start time w kind s.bad (life_with p s.lives))
  over-spawned p s k agree None is a e = absurd (cc e)
  over-spawned p s k agree (Some sp) is a e =
      ap (λ b. windowed start time w kind b (life_with p s.lives)) (agree.bad sp is) ∙ go (is_bad (kept_spawn sp)) a e
    where
      go : (b : Bool) → Answers (if b then Ok Poisoned else window_found start time w kind (found p 0 k.lives)) (windowed start time w kind b (life_with p s.lives))
      go true a e = is-ok Poisoned a e
      go false a e = over-found (life_with p s.lives) (found p 0 k.lives) (found-right p 0 s.lives k.lives agree.lives (agree.all sp is)) a e

  -- a window that is answered from what is known is answered as the content says
  pub window-right : (p : List Field) (s : StreamContent) (k : KnownStream) → AgreesStream s k → Answers (window_stream start time w kind p k) (windowed start time w kind s.bad (life_with p s.lives))
  window-right p s k agree = over-spawned p s k agree k.spawned refl
