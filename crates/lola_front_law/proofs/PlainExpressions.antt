-- What expressions and clauses come to, whatever the addresses of their boxes.
use Rattle.std.proofs.Common.{◌≡◌, refl, ap, ap₂, ◌∙◌, List, [], ◌∷◌, Option, Some, None, Bool, Result, Ok, Err, map, not, ◌&&◌, if◌then◌else◌, slice_get, unwrap_or, option_map, option_and_then}
use Rattle.std.proofs.lemmas.Option.{slice_get-map}
use Rattle.lola_value.specs.declared.text.Field.{Field}
use Rattle.lola_value.specs.declared.value.Kind.{Kind}
use Rattle.lola_value.specs.declared.value.Kind.TheVariants as kind
use Rattle.lola_value.specs.Answer.{Answer, Missing}
use Rattle.lola_model.specs.Content.{Content}
use Rattle.lola_model.specs.Accesses.{answer_of}
use Rattle.lola_model.specs.Denotation.{den, den_all, and_then, joined, defaulted, chosen, negated, kind_of, with_argument, with_arguments, target_kind, window_of}
use Rattle.lola_model.specs.Model.{close_answer, clause_answer, eval_outcome, first_answer, guarded, named_params, naming_outcome, spawn_guarded, spawn_outcome, when_answer}
use Rattle.lola_model.specs.Table.{Instance, Idle}
use Rattle.lola_model.specs.Windows.{window_answer}
use Rattle.lola_model.specs.declared.expr.Expr.{Expr}
use Rattle.lola_model.specs.declared.expr.Expr.TheVariants.{Literal, Parameter, Read, Window, Defaults', Unary', Both', Choice'}
use Rattle.lola_model.specs.declared.expr.Arguments.{Arguments}
use Rattle.lola_model.specs.declared.expr.Arguments.TheVariants.{End, More'}
use Rattle.lola_model.specs.declared.spec.Clause.{Clause}
use Rattle.lola_model.specs.declared.spec.Spec.{Spec}
use Rattle.lola_model.specs.declared.spec.Stream.{Stream}
use Rattle.lola_model.specs.declared.spec.WindowSpec.{WindowSpec}
use Rattle.lola_front_law.specs.Alike.{plain, plain_all, plain_clause, plain_spec, plain_stream}

-- ---- windows

kind_in : (o : Option Stream) → option_and_then (λ (s : Stream). s.kind) (option_map plain_stream o) ≡ option_and_then (λ (s : Stream). s.kind) o
kind_in None = refl
kind_in (Some s) = refl

same_kind : (streams : List Stream) (w : WindowSpec) → target_kind (map plain_stream streams) w ≡ target_kind streams w
same_kind streams w =
    ap (λ (o : Option Kind). unwrap_or o kind.Int64)
    (ap (λ (o : Option Stream). option_and_then (λ (s : Stream). s.kind) o) (slice_get-map plain_stream streams w.target) ∙ kind_in (slice_get streams w.target))

same_arguments : (r q : Result (List Field) Answer) (f g : List Field → Answer) → r ≡ q → ((p : List Field) → f p ≡ g p) → with_arguments r f ≡ with_arguments q g
same_arguments r q f g e h = ap (λ x. with_arguments x f) e ∙ go q
  where
    go : (q : Result (List Field) Answer) → with_arguments q f ≡ with_arguments q g
    go (Ok vs) = h vs
    go (Err a) = refl

module _ (spec : Spec) (c : Content) where
  same_window : (o : Option WindowSpec) (p : List Field) → window_of (plain_spec spec) c o p ≡ window_of spec c o p
  same_window None p = refl
  same_window (Some w) p = ap (λ k. window_answer c w k p) (same_kind spec.streams w)

  -- ---- expressions

  mutual
    pub same_den : (p : List Field) (e : Expr) → den (plain_spec spec) c p (plain e) ≡ den spec c p e
    same_den p (Literal place v) = refl
    same_den p (Parameter place i) = refl
    same_den p (Read place n how args) = ap (λ r. with_arguments r (λ q. answer_of c how n q)) (same_all p args)
    same_den p (Window place w args) =
        same_arguments (den_all (plain_spec spec) c p (plain_all args)) (den_all spec c p args) (λ q. window_of (plain_spec spec) c (slice_get spec.windows w) q)
        (λ q. window_of spec c (slice_get spec.windows w) q) (same_all p args) (same_window (slice_get spec.windows w))
    same_den p (Defaults' place u a v b) = ap₂ defaulted (same_den p a) (same_den p b)
    same_den p (Unary' place operator u a) = ap (λ x. and_then x (λ v. negated operator (kind_of place) v)) (same_den p a)
    same_den p (Both' place operator u a v b) = ap₂ (joined operator (kind_of place)) (same_den p a) (same_den p b)
    same_den p (Choice' place u a v b w d) =
        ap (λ x. and_then x (λ t. chosen t (den (plain_spec spec) c p (plain b)) (den (plain_spec spec) c p (plain d)))) (same_den p a)
        ∙ ap₂ (λ y z. and_then (den spec c p a) (λ t. chosen t y z)) (same_den p b) (same_den p d)

    same_all : (p : List Field) (args : Arguments) → den_all (plain_spec spec) c p (plain_all args) ≡ den_all spec c p args
    same_all p End = refl
    same_all p (More' u a v rest) = ap₂ with_argument (same_den p a) (same_all p rest)

  -- ---- clauses

  same_when : (p : List Field) (o : Option Expr) → when_answer (plain_spec spec) c p (option_map plain o) ≡ when_answer spec c p o
  same_when p None = refl
  same_when p (Some e) = same_den p e

  same_first : (p : List Field) (es : List Expr) → first_answer (plain_spec spec) c p (map plain es) ≡ first_answer spec c p es
  same_first p [] = refl
  same_first p (e ∷ es) = same_den p e

  same_clause : (p : List Field) (k : Clause) → clause_answer (plain_spec spec) c p (plain_clause k) ≡ clause_answer spec c p k
  same_clause p k = ap₂ guarded (same_when p k.when) (same_first p k.with)

  same_params : (es : List Expr) → named_params (plain_spec spec) c (map plain es) ≡ named_params spec c es
  same_params [] = refl
  same_params (e ∷ es) = ap₂ with_argument (same_den [] e) (same_params es)

  -- the outcome of an instance
  pub same_eval : (bad active : Bool) (o : Option Clause) (p : List Field) → eval_outcome (plain_spec spec) c bad active (option_map plain_clause o) p ≡ eval_outcome spec c bad active o p
  same_eval bad active None p = refl
  same_eval bad active (Some k) p = ap (λ x. if not bad && active then x else Missing) (same_clause p k)

  -- what a spawn clause does
  pub same_spawn : (active : Bool) (o : Option Clause) (alive : List Instance) → spawn_outcome (plain_spec spec) c active (option_map plain_clause o) alive ≡ spawn_outcome spec c active o alive
  same_spawn active None alive = refl
  same_spawn active (Some k) alive =
      ap₂ (λ x r. if active then spawn_guarded x (naming_outcome r alive) else Idle) (same_when [] k.when) (same_params k.with)

  -- the close condition of an instance
  pub same_close : (o : Option Clause) (p : List Field) → close_answer (plain_spec spec) c (option_map plain_clause o) p ≡ close_answer spec c o p
  same_close None p = refl
  same_close (Some k) p = same_when p k.when
