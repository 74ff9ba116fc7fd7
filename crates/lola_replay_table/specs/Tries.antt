-- Questions of a step, and what is known before all are answered.
use Rattle.std.specs.Prelude.{ℕ, ◌≡◌, ◌+◌, List, [], ◌∷◌, Option, Some, None, Bool, true, false, if◌then◌else◌, ◌&&◌, ◌||◌, nat_lt, slice_get, length, map, Result, Ok, Err, Vec}
use Rattle.std.specs.declared.alloc.Global.{Global}
use Rattle.lola_value.specs.declared.text.Field.{Field}
use Rattle.lola_value.specs.declared.text.Field.TheVariants as field
use Rattle.lola_value.specs.declared.value.Kind.{Kind}
use Rattle.lola_value.specs.Answer.{Answer, Given, Missing, Poisoned}
use Rattle.lola_value.specs.Arithmetic.{all_equal}
use Rattle.lola_replay_table.specs.Answers.{kept_answer, kept_spawn, the_answer, the_field}
use Rattle.lola_replay_table.specs.declared.answer.LentField.{LentField}
use Rattle.lola_replay_table.specs.declared.answer.LentAnswer.{LentAnswer}
use Rattle.lola_replay_table.specs.declared.answer.KeptAnswer.{KeptAnswer}
use Rattle.lola_replay_table.specs.declared.question.Question.{Question}
use Rattle.lola_replay_table.specs.declared.question.Question.TheVariants.{SpawnOf, OutcomeOf}
use Rattle.lola_replay_table.specs.declared.question.Unanswered.{Unanswered}
use Rattle.lola_replay_table.specs.declared.question.Unanswered.TheVariants as stop
use Rattle.lola_replay_table.specs.declared.table.KeptSpawn.{KeptSpawn}
use Rattle.lola_replay_table.specs.declared.table.KnownLife.{KnownLife}
use Rattle.lola_replay_table.specs.declared.table.KnownStream.{KnownStream}
use Rattle.lola_model.specs.Content.{Life, StreamContent, is_bad, seen}
use Rattle.lola_model.specs.Accesses.{from_end, held}
use Rattle.lola_model.specs.Denotation.{given_or_missing, kind_of, literal, negated, operated, target_kind, truth}
use Rattle.lola_model.specs.declared.expr.Access.{Access}
use Rattle.lola_model.specs.declared.expr.Access.TheVariants as access
use Rattle.lola_model.specs.declared.expr.Binary.{Binary}
use Rattle.lola_model.specs.declared.expr.Binary.TheVariants as binary
use Rattle.lola_model.specs.declared.expr.Expr.{Expr}
use Rattle.lola_model.specs.declared.expr.Arguments.{Arguments}
use Rattle.lola_model.specs.declared.expr.Arguments.TheVariants.{End, More'}
use Rattle.lola_model.specs.declared.expr.Expr.TheVariants.{Literal, Parameter, Read, Window, Defaults', Unary', Both', Choice'}
use Rattle.lola_model.specs.declared.spec.Spec.{Spec}
use Rattle.lola_model.specs.declared.spec.WindowSpec.{WindowSpec}
use Rattle.lola_model.specs.Windows.{aggregated, is_poisoned, window_values}

-- what comes of a try: the answer, or the question that has to be answered first
abbrev pub Try : Type 0
Try = Result Answer Question

-- the living instance with these parameters, and its place, counted from a place on
abbrev pub found : List Field → ℕ → List KnownLife → Option (ℕ × KnownLife)
found p at [] = None
found p at (l ∷ ls) = if all_equal p l.params then Some (at, l) else found p (at + 1) ls

-- where it stands, if it lives
abbrev pub IsFoundAt : List Field → List KnownLife → Option ℕ → Type 0
IsFoundAt p lives None = found p 0 lives ≡ None
IsFoundAt p lives (Some place) = (life : KnownLife) × (slice_get lives place ≡ Some life) × (found p 0 lives ≡ Some (place, life))

-- what the code of a try gives: the outcome, the question, or want of memory
abbrev pub Gives : Try → Result LentAnswer Unanswered → Type 0
Gives t (Ok a) = t ≡ Ok (the_answer a)
Gives t (Err (stop.Asks q)) = t ≡ Err q
Gives t (Err stop.Memory) = Unit {0}

-- what a window makes of the values in it, unless it is to be whole and is not yet
abbrev pub folded : ℕ → ℕ → WindowSpec → Kind → List Field → Answer
folded start time w kind vs = if w.exact && nat_lt time (start + w.over) then Missing else aggregated w.using kind vs

-- what a window answers, onto a stream that is bad or not and an instance that lives or not
abbrev pub windowed : ℕ → ℕ → WindowSpec → Kind → Bool → Option Life → Answer
windowed start time w kind bad l =
    if bad || is_poisoned l then Poisoned else folded start time w kind (window_values w.over time l)

-- what an access reads of an instance with this outcome
abbrev pub read_of : Access → List (ℕ × Field) → Answer → Answer
read_of access.Direct earlier a = a
read_of access.Get earlier a = a
read_of access.Hold earlier a = held a earlier
read_of (access.Offset k) earlier a = from_end earlier k

-- of an instance whose outcome is known or not
abbrev pub read_known : Access → Question → List (ℕ × Field) → Option KeptAnswer → Try
read_known how q earlier None = Err q
read_known how q earlier (Some a) = Ok (read_of how earlier (seen (kept_answer a)))

-- of an instance, if it lives
abbrev pub read_found : Access → ℕ → Option (ℕ × KnownLife) → Try
read_found how n None = Ok Missing
read_found how n (Some f) = read_known how (OutcomeOf n f.0) f.1.earlier f.1.outcome

-- of a stream whose spawn clause is answered or not
abbrev pub read_spawned : Access → ℕ → Option KeptSpawn → Option (ℕ × KnownLife) → Try
read_spawned how n None f = Err (SpawnOf n)
read_spawned how n (Some s) f = if is_bad (kept_spawn s) then Ok Poisoned else read_found how n f

-- earlier values alone; an instance born in this step has none
abbrev pub earlier_found : ℕ → Option (ℕ × KnownLife) → Answer
earlier_found k None = Missing
earlier_found k (Some f) = from_end f.1.earlier k

-- the same among these instances
abbrev pub earlier_at : ℕ → List Field → List KnownLife → Answer
earlier_at k p lives = earlier_found k (found p 0 lives)

-- of a stream: an offset asks nothing
abbrev pub read_stream : Access → ℕ → List Field → KnownStream → Try
read_stream (access.Offset k) n p s = Ok (earlier_found k (found p 0 s.lives))
read_stream how n p s = read_spawned how n s.spawned (found p 0 s.lives)

-- of a stream, if there is one
abbrev pub read_at : Access → ℕ → List Field → Option KnownStream → Try
read_at how n p None = Ok Missing
read_at how n p (Some s) = read_stream how n p s

module _ (start time : ℕ) (w : WindowSpec) (kind : Kind) where
  -- what a window answers over an instance that has these earlier values and this outcome
  abbrev pub window_over : List (ℕ × Field) → Answer → Answer
  window_over earlier a = windowed start time w kind false (Some (record { params = []; born = 0; earlier = earlier; outcome = a }))

  -- over an instance whose outcome is known or not
  abbrev pub window_known : Question → List (ℕ × Field) → Option KeptAnswer → Try
  window_known q earlier None = Err q
  window_known q earlier (Some a) = Ok (window_over earlier (seen (kept_answer a)))

  -- over an instance, if it lives
  abbrev pub window_found : Option (ℕ × KnownLife) → Try
  window_found None = Ok (windowed start time w kind false None)
  window_found (Some f) = window_known (OutcomeOf w.target f.0) f.1.earlier f.1.outcome

  -- over a stream whose spawn clause is answered or not
  abbrev pub window_spawned : Option KeptSpawn → Option (ℕ × KnownLife) → Try
  window_spawned None f = Err (SpawnOf w.target)
  window_spawned (Some s) f = if is_bad (kept_spawn s) then Ok Poisoned else window_found f

  -- over a stream
  abbrev pub window_stream : List Field → KnownStream → Try
  window_stream p s = window_spawned s.spawned (found p 0 s.lives)

  -- over a stream, if there is one
  abbrev pub window_at : List Field → Option KnownStream → Try
  window_at p None = Ok (windowed start time w kind false None)
  window_at p (Some s) = window_stream p s

-- what is known agrees with what the step comes to
pub record AgreesLife (l : Life) (k : KnownLife) : Type 0 where
  pub params : k.params ≡ l.params
  pub earlier : k.earlier ≡ l.earlier
  pub outcome : (a : KeptAnswer) → k.outcome ≡ Some a → l.outcome ≡ seen (kept_answer a)

-- of all lives, the newborn one, which has no earlier values, known or not
abbrev pub AgreeLives : List Life → List KnownLife → Type 0
AgreeLives [] [] = Unit {0}
AgreeLives (l ∷ ls) [] = (l.earlier ≡ []) × AgreeLives ls []
AgreeLives [] (k ∷ ks) = ⊥
AgreeLives (l ∷ ls) (k ∷ ks) = AgreesLife l k × AgreeLives ls ks

-- of a stream
pub record AgreesStream (s : StreamContent) (k : KnownStream) : Type 0 where
  pub lives : AgreeLives s.lives k.lives
  pub bad : (sp : KeptSpawn) → k.spawned ≡ Some sp → s.bad ≡ is_bad (kept_spawn sp)
  pub all : (sp : KeptSpawn) → k.spawned ≡ Some sp → length s.lives ≡ length k.lives

-- goes on with a value
abbrev pub then_value : Try → (Field → Try) → Try
then_value (Ok (Given v)) f = f v
then_value (Ok a) f = Ok a
then_value (Err q) f = Err q

-- the default, where the first is missing
abbrev pub then_default : Try → Try → Try
then_default (Ok Missing) b = b
then_default (Ok a) b = Ok a
then_default (Err q) b = Err q

-- the right operand, tried where the left one does not decide
abbrev pub then_right : Binary → Kind → Field → Try → Try
then_right binary.And k (field.Bool false) b = Ok (truth false)
then_right binary.And k x b = b
then_right binary.Or k (field.Bool true) b = Ok (truth true)
then_right binary.Or k x b = b
then_right operator k x b = then_value b (λ y. Ok (operated operator k x y))

-- the branch that a condition chooses
abbrev pub then_branch : Field → Try → Try → Try
then_branch (field.Bool true) a b = a
then_branch _ a b = b

-- arguments, from the left
abbrev pub then_argument : Try → Result (Result (List Field) Answer) Question → Result (Result (List Field) Answer) Question
then_argument (Ok (Given v)) (Ok (Ok vs)) = Ok (Ok (v ∷ vs))
then_argument (Ok (Given v)) (Ok (Err a)) = Ok (Err a)
then_argument (Ok (Given v)) (Err q) = Err q
then_argument (Ok a) rest = Ok (Err a)
then_argument (Err q) rest = Err q

-- goes on with the arguments
abbrev pub on_arguments : Result (Result (List Field) Answer) Question → (List Field → Try) → Try
on_arguments (Ok (Ok vs)) f = f vs
on_arguments (Ok (Err a)) f = Ok a
on_arguments (Err q) f = Err q

module _ (spec : Spec) (read : Access → ℕ → List Field → Try) (window : ℕ → List Field → Try) where
  abbrev mutual
    -- the outcome of an expression, or the first question that it waits for
    pub tried : List Field → Expr → Try
    tried p (Literal place v) = Ok (Given (literal spec.texts v))
    tried p (Parameter place i) = Ok (given_or_missing (slice_get p i))
    tried p (Read place n how args) = on_arguments (tried_all p args) (λ q. read how n q)
    tried p (Window place w args) = on_arguments (tried_all p args) (λ q. window w q)
    tried p (Defaults' place u a v b) = then_default (tried p a) (tried p b)
    tried p (Unary' place operator u a) = then_value (tried p a) (λ v. Ok (negated operator (kind_of place) v))
    tried p (Both' place operator u a v b) = then_value (tried p a) (λ x. then_right operator (kind_of place) x (tried p b))
    tried p (Choice' place u a v b w d) = then_value (tried p a) (λ t. then_branch t (tried p b) (tried p d))

    pub tried_all : List Field → Arguments → Result (Result (List Field) Answer) Question
    tried_all p End = Ok (Ok [])
    tried_all p (More' u a v rest) = then_argument (tried p a) (tried_all p rest)

module _ (spec : Spec) (start time : ℕ) (known : List KnownStream) where
  -- what an access reads of what is known
  abbrev pub read_in : Access → ℕ → List Field → Try
  read_in how n p = read_at how n p (slice_get known n)

  -- what a window comes to, if it is one of the specification
  abbrev pub window_of_spec : Option WindowSpec → List Field → Try
  window_of_spec None p = Ok Missing
  window_of_spec (Some w) p = window_at start time w (target_kind spec.streams w) p (slice_get known w.target)

  abbrev pub window_in : ℕ → List Field → Try
  window_in n p = window_of_spec (slice_get spec.windows n) p

  -- the outcome of an expression of what is known, or the first question that it waits for
  abbrev pub tried_in : List Field → Expr → Try
  tried_in p e = tried spec read_in window_in p e

  abbrev pub tried_all_in : List Field → Arguments → Result (Result (List Field) Answer) Question
  tried_all_in p args = tried_all spec read_in window_in p args

-- what the code gives of arguments
abbrev pub GivesAll : Result (Result (List Field) Answer) Question → Result (Result (Vec LentField Global) LentAnswer) Unanswered → Type 0
GivesAll t (Ok (Ok given)) = t ≡ Ok (Ok (map the_field given.items))
GivesAll t (Ok (Err a)) = t ≡ Ok (Err (the_answer a))
GivesAll t (Err (stop.Asks q)) = t ≡ Err q
GivesAll t (Err stop.Memory) = Unit {0}

-- a value in front of those of the arguments behind it, or the outcome of the first of them that has none
abbrev pub LedBy : Field → Result (Vec LentField Global) LentAnswer → Result (Result (Vec LentField Global) LentAnswer) Unanswered → Type 0
LedBy v (Ok given) (Ok (Ok all)) = map the_field all.items ≡ v ∷ map the_field given.items
LedBy v (Ok given) (Ok (Err a)) = ⊥
LedBy v (Err b) (Ok (Ok all)) = ⊥
LedBy v (Err b) (Ok (Err a)) = the_answer a ≡ the_answer b
LedBy v r (Err (stop.Asks q)) = ⊥
LedBy v r (Err stop.Memory) = Unit {0}
