-- What a try asks is what an edge of its expression leads to.
use Rattle.std.proofs.Common.{◌≡◌, ap, ℕ, List, [], ◌∷◌, ◌++◌, true, false, Result, Ok, Err, slice_get}
use Rattle.std.specs.List.{AllByRecursion}
use Rattle.lola_value.specs.declared.text.Field.{Field}
use Rattle.lola_value.specs.declared.text.Field.TheVariants as field
use Rattle.lola_value.specs.declared.value.Kind.{Kind}
use Rattle.lola_value.specs.Answer.{Answer, Given, Missing, Faulted, Poisoned}
use Rattle.lola_model.specs.Denotation.{kind_of, negated, operated}
use Rattle.lola_model.specs.Graph.{edge_to, reads, reads_all, weight_of, window_edge}
use Rattle.lola_model.specs.declared.expr.Access.{Access}
use Rattle.lola_model.specs.declared.expr.Binary.{Binary}
use Rattle.lola_model.specs.declared.expr.Binary.TheVariants as binary
use Rattle.lola_model.specs.declared.expr.Expr.{Expr}
use Rattle.lola_model.specs.declared.expr.Arguments.{Arguments}
use Rattle.lola_model.specs.declared.expr.Arguments.TheVariants.{End, More'}
use Rattle.lola_model.specs.declared.expr.Expr.TheVariants.{Literal, Parameter, Read, Window, Defaults', Unary', Both', Choice'}
use Rattle.lola_model.specs.declared.graph.Edge.{Edge}
use Rattle.lola_model.specs.declared.spec.Spec.{Spec}
use Rattle.lola_replay_table.specs.declared.question.Question.{Question}
use Rattle.lola_replay_table.specs.Tries.{Try, on_arguments, then_argument, then_branch, then_default, then_right, then_value, tried, tried_all}

pub all-left : {A : Type 0} (P : A → Type 0) (xs ys : List A) → AllByRecursion P (xs ++ ys) → AllByRecursion P xs
all-left P [] ys all = tt
all-left P (x ∷ xs) ys all = (all.0, all-left P xs ys all.1)

pub all-right : {A : Type 0} (P : A → Type 0) (xs ys : List A) → AllByRecursion P (xs ++ ys) → AllByRecursion P ys
all-right P [] ys all = all
all-right P (x ∷ xs) ys all = all-right P xs ys all.1

module _ (P : Question → Type 0) where
  -- what is asked has this property
  abbrev pub Asks : {A : Type 0} → Result A Question → Type 0
  Asks r = (q : Question) → r ≡ Err q → P q

  pub known-asks : {A : Type 0} (x : A) → Asks (Ok x)
  known-asks x q e = absurd (cc e)

  value-asks : (r : Try) (f : Field → Try) → Asks r → ((v : Field) → Asks (f v)) → Asks (then_value r f)
  value-asks (Err o) f hr hf = hr
  value-asks (Ok (Given v)) f hr hf = hf v
  value-asks (Ok Missing) f hr hf = known-asks _
  value-asks (Ok (Faulted k)) f hr hf = known-asks _
  value-asks (Ok Poisoned) f hr hf = known-asks _

  default-asks : (r s : Try) → Asks r → Asks s → Asks (then_default r s)
  default-asks (Err o) s hr hs = hr
  default-asks (Ok (Given v)) s hr hs = known-asks _
  default-asks (Ok Missing) s hr hs = hs
  default-asks (Ok (Faulted k)) s hr hs = known-asks _
  default-asks (Ok Poisoned) s hr hs = known-asks _

  right-asks : (operator : Binary) (k : Kind) (v : Field) (s : Try) → Asks s → Asks (then_right operator k v s)
  right-asks binary.And k (field.Bool false) s hs = known-asks _
  right-asks binary.And k (field.Bool true) s hs = hs
  right-asks binary.And k (field.Int z) s hs = hs
  right-asks binary.And k (field.Text t) s hs = hs
  right-asks binary.And k field.Absent s hs = hs
  right-asks binary.Or k (field.Bool true) s hs = known-asks _
  right-asks binary.Or k (field.Bool false) s hs = hs
  right-asks binary.Or k (field.Int z) s hs = hs
  right-asks binary.Or k (field.Text t) s hs = hs
  right-asks binary.Or k field.Absent s hs = hs
  right-asks binary.Add k v s hs = value-asks s (λ w. Ok (operated binary.Add k v w)) hs (λ w. known-asks _)
  right-asks binary.Sub k v s hs = value-asks s (λ w. Ok (operated binary.Sub k v w)) hs (λ w. known-asks _)
  right-asks binary.Mul k v s hs = value-asks s (λ w. Ok (operated binary.Mul k v w)) hs (λ w. known-asks _)
  right-asks binary.Div k v s hs = value-asks s (λ w. Ok (operated binary.Div k v w)) hs (λ w. known-asks _)
  right-asks binary.Rem k v s hs = value-asks s (λ w. Ok (operated binary.Rem k v w)) hs (λ w. known-asks _)
  right-asks binary.Less k v s hs = value-asks s (λ w. Ok (operated binary.Less k v w)) hs (λ w. known-asks _)
  right-asks binary.LessEqual k v s hs = value-asks s (λ w. Ok (operated binary.LessEqual k v w)) hs (λ w. known-asks _)
  right-asks binary.Greater k v s hs = value-asks s (λ w. Ok (operated binary.Greater k v w)) hs (λ w. known-asks _)
  right-asks binary.GreaterEqual k v s hs = value-asks s (λ w. Ok (operated binary.GreaterEqual k v w)) hs (λ w. known-asks _)
  right-asks binary.Equal k v s hs = value-asks s (λ w. Ok (operated binary.Equal k v w)) hs (λ w. known-asks _)
  right-asks binary.Different k v s hs = value-asks s (λ w. Ok (operated binary.Different k v w)) hs (λ w. known-asks _)

  branch-asks : (t : Field) (r s : Try) → Asks r → Asks s → Asks (then_branch t r s)
  branch-asks (field.Bool true) r s hr hs = hr
  branch-asks (field.Bool false) r s hr hs = hs
  branch-asks (field.Int z) r s hr hs = hs
  branch-asks (field.Text t) r s hr hs = hs
  branch-asks field.Absent r s hr hs = hs

  pub argument-asks : (r : Try) (rest : Result (Result (List Field) Answer) Question) → Asks r → Asks rest → Asks (then_argument r rest)
  argument-asks (Err o) rest hr hs = λ q e. hr q (ap (λ x. Err x) (inner o q e))
    where
      inner : (o q : Question) → (let x : Result (Result (List Field) Answer) Question = Err o in x) ≡ Err q → o ≡ q
      inner o q e = cc e
  argument-asks (Ok (Given v)) (Err o) hr hs = hs
  argument-asks (Ok (Given v)) (Ok (Ok vs)) hr hs = known-asks _
  argument-asks (Ok (Given v)) (Ok (Err b)) hr hs = known-asks _
  argument-asks (Ok Missing) rest hr hs = known-asks _
  argument-asks (Ok (Faulted k)) rest hr hs = known-asks _
  argument-asks (Ok Poisoned) rest hr hs = known-asks _

  arguments-asks : (r : Result (Result (List Field) Answer) Question) (f : List Field → Try) → Asks r → ((vs : List Field) → Asks (f vs)) → Asks (on_arguments r f)
  arguments-asks (Err o) f hr hf = λ q e. hr q (ap (λ x. Err x) (inner o q e))
    where
      inner : (o q : Question) → (let x : Try = Err o in x) ≡ Err q → o ≡ q
      inner o q e = cc e
  arguments-asks (Ok (Ok vs)) f hr hf = hf vs
  arguments-asks (Ok (Err b)) f hr hf = known-asks _

  module _ (spec : Spec) (from : ℕ) (IsGood : Edge → Type 0) (read : Access → ℕ → List Field → Try) (window : ℕ → List Field → Try)
      (reading : (how : Access) (n : ℕ) (vs : List Field) → IsGood (edge_to from n (weight_of how)) → Asks (read how n vs))
      (windowing : (w : ℕ) (vs : List Field) → AllByRecursion IsGood (window_edge from (slice_get spec.windows w)) → Asks (window w vs)) where
    -- where each edge of an expression is good, and an access by a good edge asks only what has the property, so does the expression
    mutual
      pub try-asks : (p : List Field) (e : Expr) → AllByRecursion IsGood (reads spec.windows from e) → Asks (tried spec read window p e)
      try-asks p (Literal place v) good = known-asks _
      try-asks p (Parameter place i) good = known-asks _
      try-asks p (Read place n how args) good =
          arguments-asks (tried_all spec read window p args) (λ vs. read how n vs) (try-all-asks p args good.1) (λ vs. reading how n vs good.0)
      try-asks p (Window place w args) good =
          arguments-asks (tried_all spec read window p args) (λ vs. window w vs)
          (try-all-asks p args (all-right IsGood (window_edge from (slice_get spec.windows w)) (reads_all spec.windows from args) good))
          (λ vs. windowing w vs (all-left IsGood (window_edge from (slice_get spec.windows w)) (reads_all spec.windows from args) good))
      try-asks p (Defaults' place u a v b) good =
          default-asks (tried spec read window p a) (tried spec read window p b)
          (try-asks p a (all-left IsGood (reads spec.windows from a) (reads spec.windows from b) good)) (try-asks p b (all-right IsGood (reads spec.windows from a) (reads spec.windows from b) good))
      try-asks p (Unary' place operator u a) good = value-asks (tried spec read window p a) (λ v. Ok (negated operator (kind_of place) v)) (try-asks p a good) (λ v. known-asks _)
      try-asks p (Both' place operator u a v b) good =
          value-asks (tried spec read window p a) (λ x. then_right operator (kind_of place) x (tried spec read window p b))
          (try-asks p a (all-left IsGood (reads spec.windows from a) (reads spec.windows from b) good))
          (λ x. right-asks operator (kind_of place) x (tried spec read window p b) (try-asks p b (all-right IsGood (reads spec.windows from a) (reads spec.windows from b) good)))
      try-asks p (Choice' place u a v b w d) good =
          let rest = all-right IsGood (reads spec.windows from a) (reads spec.windows from b ++ reads spec.windows from d) good in
          value-asks (tried spec read window p a) (λ t. then_branch t (tried spec read window p b) (tried spec read window p d))
          (try-asks p a (all-left IsGood (reads spec.windows from a) (reads spec.windows from b ++ reads spec.windows from d) good))
          (λ t. branch-asks t (tried spec read window p b) (tried spec read window p d)
          (try-asks p b (all-left IsGood (reads spec.windows from b) (reads spec.windows from d) rest)) (try-asks p d (all-right IsGood (reads spec.windows from b) (reads spec.windows from d) rest)))

      pub try-all-asks : (p : List Field) (args : Arguments) → AllByRecursion IsGood (reads_all spec.windows from args) → Asks (tried_all spec read window p args)
      try-all-asks p End good = known-asks _
      try-all-asks p (More' u x v rest) good =
          argument-asks (tried spec read window p x) (tried_all spec read window p rest)
          (try-asks p x (all-left IsGood (reads spec.windows from x) (reads_all spec.windows from rest) good))
          (try-all-asks p rest (all-right IsGood (reads spec.windows from x) (reads_all spec.windows from rest) good))
