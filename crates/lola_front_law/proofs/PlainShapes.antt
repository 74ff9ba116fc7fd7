-- What differs in addresses alone has one plain form, part by part.
use Rattle.std.proofs.Common.{◌≡◌, ap, ◌∙◌, refl, ℕ, List, Option, Some, None}
use Rattle.std.specs.Option.{option_map}
use Rattle.lola_value.specs.declared.value.Kind.{Kind}
use Rattle.lola_model.specs.declared.expr.Arguments.{Arguments}
use Rattle.lola_model.specs.declared.expr.Arguments.TheVariants.{End, More'}
use Rattle.lola_model.specs.declared.expr.Expr.{Expr}
use Rattle.lola_model.specs.declared.expr.Expr.TheVariants.{Literal, Parameter, Read, Window, Defaults', Unary', Both', Choice'}
use Rattle.lola_model.specs.declared.spec.Clause.{Clause}
use Rattle.lola_model.specs.declared.spec.Constant.{Constant}
use Rattle.lola_model.specs.declared.spec.Formula.{Formula}
use Rattle.lola_model.specs.declared.spec.Formula.TheVariants.{Input, And', Or'}
use Rattle.lola_model.specs.declared.spec.Pace.{Pace}
use Rattle.lola_model.specs.declared.spec.Pace.TheVariants as pace
use Rattle.lola_model.specs.declared.spec.Sort.{Sort}
use Rattle.lola_model.specs.declared.spec.Spec.{Spec}
use Rattle.lola_model.specs.declared.spec.Stream.{Stream}
use Rattle.lola_model.specs.declared.spec.WindowSpec.{WindowSpec}
use Rattle.lola_types.specs.Filled.{SameTree, SameArguments, SameFormula, SamePace}
use Rattle.lola_front_law.specs.Alike.{plain, plain_all, plain_formula, plain_pace}
use Rattle.lola_front_law.proofs.AlikeKinds.{two, three}

pub four : {A B C D E : Type 0} (f : A → B → C → D → E) (a b : A) (c d : B) (p q : C) (u v : D) → a ≡ b → c ≡ d → p ≡ q → u ≡ v → f a c p u ≡ f b d q v
four {A} f a b c d p q u v e g h k = ap (λ (x : A). f x c p u) e ∙ three (f b) c d p q u v g h k

-- ---- records, field by field

abbrev clause_of : ℕ → Option Pace → Option Expr → ℕ → List Expr → List ℕ → Clause
clause_of place pacing condition before expressions places = record { place = place; pace = pacing; when = condition; when_at = before; with = expressions; with_at = places }

pub same_clause : (c d : Clause) → c.place ≡ d.place → c.pace ≡ d.pace → c.when ≡ d.when → c.when_at ≡ d.when_at → c.with ≡ d.with → c.with_at ≡ d.with_at → c ≡ d
same_clause c d place pacing condition before expressions places =
    three (λ (x : ℕ) (y : Option Pace) (z : Option Expr). clause_of x y z c.when_at c.with c.with_at) c.place d.place c.pace d.pace c.when d.when place pacing condition
    ∙ three (λ (x : ℕ) (y : List Expr) (z : List ℕ). clause_of d.place d.pace d.when x y z) c.when_at d.when_at c.with d.with c.with_at d.with_at before expressions places

abbrev stream_of : List ℕ → ℕ → Sort → List ℕ → Option Kind → List Kind → Option Clause → Option Clause → Option Clause → Stream
stream_of name place sort message kind parameters spawn eval close =
    record { name = name; place = place; sort = sort; message = message; kind = kind; parameters = parameters; spawn = spawn; eval = eval; close = close }

pub same_stream : (a b : Stream) → a.name ≡ b.name → a.place ≡ b.place → a.sort ≡ b.sort → a.message ≡ b.message → a.kind ≡ b.kind → a.parameters ≡ b.parameters
    → a.spawn ≡ b.spawn → a.eval ≡ b.eval → a.close ≡ b.close → a ≡ b
same_stream a b name place sort message kind parameters spawn eval close =
    three (λ (x : List ℕ) (y : ℕ) (z : Sort). stream_of x y z a.message a.kind a.parameters a.spawn a.eval a.close) a.name b.name a.place b.place a.sort b.sort name place sort
    ∙ (three (λ (x : List ℕ) (y : Option Kind) (z : List Kind). stream_of b.name b.place b.sort x y z a.spawn a.eval a.close) a.message b.message a.kind b.kind a.parameters b.parameters message kind parameters
    ∙ three (λ (x y z : Option Clause). stream_of b.name b.place b.sort b.message b.kind b.parameters x y z) a.spawn b.spawn a.eval b.eval a.close b.close spawn eval close)

abbrev spec_of : List Stream → List Constant → List WindowSpec → List (List ℕ) → List ℕ → Spec
spec_of streams constants windows texts refused = record { streams = streams; constants = constants; windows = windows; texts = texts; refused = refused }

pub same_spec : (x y : Spec) → x.streams ≡ y.streams → x.constants ≡ y.constants → x.windows ≡ y.windows → x.texts ≡ y.texts → x.refused ≡ y.refused → x ≡ y
same_spec x y streams constants windows texts refused =
    three (λ (s : List Stream) (c : List Constant) (w : List WindowSpec). spec_of s c w x.texts x.refused) x.streams y.streams x.constants y.constants x.windows y.windows streams constants windows
    ∙ two (λ (t : List (List ℕ)) (r : List ℕ). spec_of y.streams y.constants y.windows t r) x.texts y.texts x.refused y.refused texts refused

-- ---- trees

mutual
  pub tree_plain : (e f : Expr) → SameTree e f → plain e ≡ plain f
  tree_plain (Literal p v) (Literal q w) h = two Literal p q v w h.0 h.1
  tree_plain (Parameter p i) (Parameter q j) h = two Parameter p q i j h.0 h.1
  tree_plain (Read p n how args) (Read q m why brgs) h = let rest = arguments_plain args brgs h.3 in cc (h.0, h.1, h.2, rest)
  tree_plain (Window p n args) (Window q m brgs) h = let rest = arguments_plain args brgs h.2 in cc (h.0, h.1, rest)
  tree_plain (Defaults' p u a v b) (Defaults' q x c y d) h = let l = tree_plain a c h.1 in let r = tree_plain b d h.2 in cc (h.0, l, r)
  tree_plain (Unary' p s u a) (Unary' q r x c) h = let l = tree_plain a c h.2 in cc (h.0, h.1, l)
  tree_plain (Both' p s u a v b) (Both' q r x c y d) h = let l = tree_plain a c h.2 in let o = tree_plain b d h.3 in cc (h.0, h.1, l, o)
  tree_plain (Choice' p u a v b w e) (Choice' q x c y d z f) h =
      let t = tree_plain a c h.1 in let l = tree_plain b d h.2 in let r = tree_plain e f h.3 in cc (h.0, t, l, r)
  tree_plain _ _ h = absurd h

  pub arguments_plain : (args brgs : Arguments) → SameArguments args brgs → plain_all args ≡ plain_all brgs
  arguments_plain End End h = refl
  arguments_plain (More' u a v rest) (More' x c y more) h = let l = tree_plain a c h.0 in let r = arguments_plain rest more h.1 in cc (l, r)
  arguments_plain _ _ h = absurd h

pub formula_plain : (f g : Formula) → SameFormula f g → plain_formula f ≡ plain_formula g
formula_plain (Input i) (Input j) h = ap Input h
formula_plain (And' u a v b) (And' x c y d) h = let l = formula_plain a c h.0 in let r = formula_plain b d h.1 in cc (l, r)
formula_plain (Or' u a v b) (Or' x c y d) h = let l = formula_plain a c h.0 in let r = formula_plain b d h.1 in cc (l, r)
formula_plain _ _ h = absurd h

pub pace_plain : (p q : Option Pace) → SamePace p q → option_map plain_pace p ≡ option_map plain_pace q
pace_plain None None h = refl
pace_plain (Some (pace.Event p f)) (Some (pace.Event q g)) h = let l = formula_plain f g h.1 in cc (h.0, l)
pace_plain (Some (pace.Rate p r)) (Some (pace.Rate q t)) h = cc (h.0, h.1)
pace_plain (Some (pace.Global p r)) (Some (pace.Global q t)) h = cc (h.0, h.1)
pace_plain (Some (pace.Local p r)) (Some (pace.Local q t)) h = cc (h.0, h.1)
pace_plain _ _ h = absurd h
