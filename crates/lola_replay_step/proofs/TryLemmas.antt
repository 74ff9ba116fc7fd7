-- What a try answers is the outcome.
use Rattle.std.proofs.Common.{◌≡◌, ◌∙◌, refl, ap, ℕ, List, ◌∷◌, true, false, Result, Ok, Err, slice_get}
use Rattle.lola_value.specs.declared.text.Field.{Field}
use Rattle.lola_value.specs.declared.text.Field.TheVariants as field
use Rattle.lola_value.specs.declared.value.Kind.{Kind}
use Rattle.lola_value.specs.Answer.{Answer, Given, Missing, Faulted, Poisoned}
use Rattle.lola_model.specs.Content.{Content}
use Rattle.lola_model.specs.Accesses.{answer_of}
use Rattle.lola_model.specs.Denotation.{and_then, chosen, defaulted, den, den_all, kind_of, negated, operated, window_of, with_argument, with_arguments, with_right}
use Rattle.lola_model.specs.declared.expr.Access.{Access}
use Rattle.lola_model.specs.declared.expr.Binary.{Binary}
use Rattle.lola_model.specs.declared.expr.Binary.TheVariants as binary
use Rattle.lola_model.specs.declared.expr.Expr.{Expr}
use Rattle.lola_model.specs.declared.expr.Arguments.{Arguments}
use Rattle.lola_model.specs.declared.expr.Arguments.TheVariants.{End, More'}
use Rattle.lola_model.specs.declared.expr.Expr.TheVariants.{Literal, Parameter, Read, Window, Defaults', Unary', Both', Choice'}
use Rattle.lola_model.specs.declared.spec.Spec.{Spec}
use Rattle.lola_replay_table.specs.declared.question.Question.{Question}
use Rattle.lola_replay_table.specs.Tries.{Try, on_arguments, then_argument, then_branch, then_default, then_right, then_value, tried, tried_all}

-- a try answers nothing but this
abbrev pub Answers : {A : Type 0} → Result A Question → A → Type 0
Answers r x = (a : _) → r ≡ Ok a → x ≡ a

pub is-ok : {A : Type 0} (x y : A) → (let o : Result A Question = Ok x in o) ≡ Ok y → x ≡ y
is-ok x y e = cc e

pub value-right : (r : Try) (f : Field → Try) (x : Answer) (g : Field → Answer) → Answers r x → ((v : Field) → Answers (f v) (g v)) → Answers (then_value r f) (and_then x g)
value-right (Err q) f x g hx hf a e = absurd (cc e)
value-right (Ok (Given v)) f x g hx hf a e = ap (λ y. and_then y g) (hx (Given v) refl) ∙ hf v a e
value-right (Ok Missing) f x g hx hf a e = ap (λ y. and_then y g) (hx Missing refl) ∙ is-ok Missing a e
value-right (Ok (Faulted k)) f x g hx hf a e = ap (λ y. and_then y g) (hx (Faulted k) refl) ∙ is-ok (Faulted k) a e
value-right (Ok Poisoned) f x g hx hf a e = ap (λ y. and_then y g) (hx Poisoned refl) ∙ is-ok Poisoned a e

pub default-right : (r s : Try) (x y : Answer) → Answers r x → Answers s y → Answers (then_default r s) (defaulted x y)
default-right (Err q) s x y hx hy a e = absurd (cc e)
default-right (Ok (Given v)) s x y hx hy a e = ap (λ z. defaulted z y) (hx (Given v) refl) ∙ is-ok (Given v) a e
default-right (Ok Missing) s x y hx hy a e = ap (λ z. defaulted z y) (hx Missing refl) ∙ hy a e
default-right (Ok (Faulted k)) s x y hx hy a e = ap (λ z. defaulted z y) (hx (Faulted k) refl) ∙ is-ok (Faulted k) a e
default-right (Ok Poisoned) s x y hx hy a e = ap (λ z. defaulted z y) (hx Poisoned refl) ∙ is-ok Poisoned a e

plain-right : (operator : Binary) (k : Kind) (v : Field) (s : Try) (y : Answer) → Answers s y → Answers (then_value s (λ w. Ok (operated operator k v w))) (and_then y (λ w. operated operator k v w))
plain-right operator k v s y hy = value-right s (λ w. Ok (operated operator k v w)) y (λ w. operated operator k v w) hy (λ w a e. is-ok (operated operator k v w) a e)

pub right-right : (operator : Binary) (k : Kind) (v : Field) (s : Try) (y : Answer) → Answers s y → Answers (then_right operator k v s) (with_right operator k v y)
right-right binary.And k (field.Bool false) s y hy = λ a e. is-ok _ a e
right-right binary.And k (field.Bool true) s y hy = λ a e. hy a e
right-right binary.And k (field.Int z) s y hy = λ a e. hy a e
right-right binary.And k (field.Text t) s y hy = λ a e. hy a e
right-right binary.And k field.Absent s y hy = λ a e. hy a e
right-right binary.Or k (field.Bool true) s y hy = λ a e. is-ok _ a e
right-right binary.Or k (field.Bool false) s y hy = λ a e. hy a e
right-right binary.Or k (field.Int z) s y hy = λ a e. hy a e
right-right binary.Or k (field.Text t) s y hy = λ a e. hy a e
right-right binary.Or k field.Absent s y hy = λ a e. hy a e
right-right binary.Add k v s y hy = plain-right binary.Add k v s y hy
right-right binary.Sub k v s y hy = plain-right binary.Sub k v s y hy
right-right binary.Mul k v s y hy = plain-right binary.Mul k v s y hy
right-right binary.Div k v s y hy = plain-right binary.Div k v s y hy
right-right binary.Rem k v s y hy = plain-right binary.Rem k v s y hy
right-right binary.Less k v s y hy = plain-right binary.Less k v s y hy
right-right binary.LessEqual k v s y hy = plain-right binary.LessEqual k v s y hy
right-right binary.Greater k v s y hy = plain-right binary.Greater k v s y hy
right-right binary.GreaterEqual k v s y hy = plain-right binary.GreaterEqual k v s y hy
right-right binary.Equal k v s y hy = plain-right binary.Equal k v s y hy
right-right binary.Different k v s y hy = plain-right binary.Different k v s y hy

pub branch-right : (t : Field) (r s : Try) (x y : Answer) → Answers r x → Answers s y → Answers (then_branch t r s) (chosen t x y)
branch-right (field.Bool true) r s x y hx hy a e = hx a e
branch-right (field.Bool false) r s x y hx hy a e = hy a e
branch-right (field.Int z) r s x y hx hy a e = hy a e
branch-right (field.Text t) r s x y hx hy a e = hy a e
branch-right field.Absent r s x y hx hy a e = hy a e

pub argument-right : (r : Try) (rest : Result (Result (List Field) Answer) Question) (x : Answer) (xs : Result (List Field) Answer) → Answers r x → Answers rest xs
    → Answers (then_argument r rest) (with_argument x xs)
argument-right (Err q) rest x xs hx hs a e = absurd (cc e)
argument-right (Ok (Given v)) (Err q) x xs hx hs a e = absurd (cc e)
argument-right (Ok (Given v)) (Ok (Ok vs)) x xs hx hs a e = ap (λ y. with_argument y xs) (hx (Given v) refl) ∙ ap (with_argument (Given v)) (hs (Ok vs) refl) ∙ is-ok (Ok (v ∷ vs)) a e
argument-right (Ok (Given v)) (Ok (Err b)) x xs hx hs a e = ap (λ y. with_argument y xs) (hx (Given v) refl) ∙ ap (with_argument (Given v)) (hs (Err b) refl) ∙ is-ok (Err b) a e
argument-right (Ok Missing) rest x xs hx hs a e = ap (λ y. with_argument y xs) (hx Missing refl) ∙ is-ok (Err Missing) a e
argument-right (Ok (Faulted k)) rest x xs hx hs a e = ap (λ y. with_argument y xs) (hx (Faulted k) refl) ∙ is-ok (Err (Faulted k)) a e
argument-right (Ok Poisoned) rest x xs hx hs a e = ap (λ y. with_argument y xs) (hx Poisoned refl) ∙ is-ok (Err Poisoned) a e

pub arguments-right : (r : Result (Result (List Field) Answer) Question) (f : List Field → Try) (xs : Result (List Field) Answer) (g : List Field → Answer)
    → Answers r xs → ((vs : List Field) → Answers (f vs) (g vs)) → Answers (on_arguments r f) (with_arguments xs g)
arguments-right (Err q) f xs g hs hf a e = absurd (cc e)
arguments-right (Ok (Ok vs)) f xs g hs hf a e = ap (λ y. with_arguments y g) (hs (Ok vs) refl) ∙ hf vs a e
arguments-right (Ok (Err b)) f xs g hs hf a e = ap (λ y. with_arguments y g) (hs (Err b) refl) ∙ is-ok b a e

module _ (spec : Spec) (c : Content) (read : Access → ℕ → List Field → Try) (window : ℕ → List Field → Try)
    (reads : (how : Access) (n : ℕ) (q : List Field) → Answers (read how n q) (answer_of c how n q))
    (windows : (w : ℕ) (q : List Field) → Answers (window w q) (window_of spec c (slice_get spec.windows w) q)) where
  -- where each access that is answered is answered as the content says, so is each expression
  mutual
    pub try-right : (p : List Field) (e : Expr) → Answers (tried spec read window p e) (den spec c p e)
    try-right p (Literal place v) = λ a e. is-ok _ a e
    try-right p (Parameter place i) = λ a e. is-ok _ a e
    try-right p (Read place n how args) =
        arguments-right (tried_all spec read window p args) (λ q. read how n q) (den_all spec c p args) (λ q. answer_of c how n q) (try-all-right p args) (λ q. reads how n q)
    try-right p (Window place w args) =
        arguments-right (tried_all spec read window p args) (λ q. window w q) (den_all spec c p args) (λ q. window_of spec c (slice_get spec.windows w) q) (try-all-right p args) (λ q. windows w q)
    try-right p (Defaults' place u a v b) =
        default-right (tried spec read window p a) (tried spec read window p b) (den spec c p a) (den spec c p b) (try-right p a) (try-right p b)
    try-right p (Unary' place operator u a) =
        value-right (tried spec read window p a) (λ v. Ok (negated operator (kind_of place) v)) (den spec c p a) (λ v. negated operator (kind_of place) v) (try-right p a) (λ v b e. is-ok _ b e)
    try-right p (Both' place operator u a v b) =
        value-right (tried spec read window p a) (λ x. then_right operator (kind_of place) x (tried spec read window p b)) (den spec c p a) (λ x. with_right operator (kind_of place) x (den spec c p b))
        (try-right p a) (λ x. right-right operator (kind_of place) x (tried spec read window p b) (den spec c p b) (try-right p b))
    try-right p (Choice' place u a v b w d) =
        value-right (tried spec read window p a) (λ t. then_branch t (tried spec read window p b) (tried spec read window p d)) (den spec c p a) (λ t. chosen t (den spec c p b) (den spec c p d))
        (try-right p a) (λ t. branch-right t (tried spec read window p b) (tried spec read window p d) (den spec c p b) (den spec c p d) (try-right p b) (try-right p d))

    pub try-all-right : (p : List Field) (args : Arguments) → Answers (tried_all spec read window p args) (den_all spec c p args)
    try-all-right p End = λ a e. is-ok _ a e
    try-all-right p (More' u x v rest) =
        argument-right (tried spec read window p x) (tried_all spec read window p rest) (den spec c p x) (den_all spec c p rest) (try-right p x) (try-all-right p rest)
