-- All parts of an expression pass a test, where it follows of each from another test and from what is known of all that is listed.
use Rattle.std.proofs.Common.{◌≡◌, ℕ, List, ◌++◌, Bool, true, ◌&&◌, refl}
use Rattle.std.specs.List.{Contains}
use Rattle.std.proofs.lemmas.List.Elements.{Contains-append_left, Contains-append_right}
use Rattle.std.proofs.lemmas.Bool.{and_from}
use Rattle.lola_model.specs.Parts.{listed, listed_all}
use Rattle.lola_model.specs.Typing.{each_part, each_argument}
use Rattle.lola_model.specs.declared.expr.Expr.{Expr}
use Rattle.lola_model.specs.declared.expr.Expr.TheVariants.{Literal, Parameter, Read, Window, Defaults', Unary', Both', Choice'}
use Rattle.lola_model.specs.declared.expr.Arguments.{Arguments}
use Rattle.lola_model.specs.declared.expr.Arguments.TheVariants.{End, More'}
use Rattle.lola_expr.proofs.OperandLemmas.{first, second}

module _ (I : Type 0) (g : I → Expr → List ℕ) (Q : I → ℕ → Type 0) where
  -- this is known of all numbers of these lists
  abbrev pub Known : (I → List ℕ) → Type 0
  Known xs = (i : I) (x : ℕ) → Contains (xs i) x → Q i x

  -- two tests that follow from two, each from what is known of its own lists
  pair : (f1 f2 h1 h2 : Bool) (xs ys : I → List ℕ) → (f1 ≡ true → Known xs → h1 ≡ true) → (f2 ≡ true → Known ys → h2 ≡ true)
      → (f1 && f2) ≡ true → Known (λ i. xs i ++ ys i) → (h1 && h2) ≡ true
  pair f1 f2 h1 h2 xs ys one two p k =
      and_from h1 h2
      (one (first f1 f2 p) (λ i x c. k i x (Contains-append_left (xs i) (ys i) x c)))
      (two (second f1 f2 p) (λ i x c. k i x (Contains-append_right (xs i) (ys i) x c)))

  module _ (f h : Expr → Bool) (t : (e : Expr) → f e ≡ true → Known (λ i. g i e) → h e ≡ true) where
    mutual
      -- an expression
      pub each_where : (e : Expr) → each_part f e ≡ true → Known (λ i. listed (g i) e) → each_part h e ≡ true
      each_where (Literal place v) p k = t (Literal place v) p k
      each_where (Parameter place n) p k = t (Parameter place n) p k
      each_where (Read place n how args) p k =
          pair (f (Read place n how args)) (each_argument f args) (h (Read place n how args)) (each_argument h args)
          (λ i. g i (Read place n how args)) (λ i. listed_all (g i) args)
          (λ q l. t (Read place n how args) q l) (λ q l. all_where args q l) p k
      each_where (Window place n args) p k =
          pair (f (Window place n args)) (each_argument f args) (h (Window place n args)) (each_argument h args)
          (λ i. g i (Window place n args)) (λ i. listed_all (g i) args)
          (λ q l. t (Window place n args) q l) (λ q l. all_where args q l) p k
      each_where (Defaults' place u a v b) p k =
          pair (f (Defaults' place u a v b)) (each_part f a && each_part f b) (h (Defaults' place u a v b)) (each_part h a && each_part h b)
          (λ i. g i (Defaults' place u a v b)) (λ i. listed (g i) a ++ listed (g i) b)
          (λ q l. t (Defaults' place u a v b) q l)
          (λ q l. pair (each_part f a) (each_part f b) (each_part h a) (each_part h b) (λ i. listed (g i) a) (λ i. listed (g i) b) (λ r m. each_where a r m) (λ r m. each_where b r m) q l) p k
      each_where (Unary' place operator u a) p k =
          pair (f (Unary' place operator u a)) (each_part f a) (h (Unary' place operator u a)) (each_part h a)
          (λ i. g i (Unary' place operator u a)) (λ i. listed (g i) a)
          (λ q l. t (Unary' place operator u a) q l) (λ q l. each_where a q l) p k
      each_where (Both' place operator u a v b) p k =
          pair (f (Both' place operator u a v b)) (each_part f a && each_part f b) (h (Both' place operator u a v b)) (each_part h a && each_part h b)
          (λ i. g i (Both' place operator u a v b)) (λ i. listed (g i) a ++ listed (g i) b)
          (λ q l. t (Both' place operator u a v b) q l)
          (λ q l. pair (each_part f a) (each_part f b) (each_part h a) (each_part h b) (λ i. listed (g i) a) (λ i. listed (g i) b) (λ r m. each_where a r m) (λ r m. each_where b r m) q l) p k
      each_where (Choice' place u a v b w d) p k =
          pair (f (Choice' place u a v b w d)) (each_part f a && (each_part f b && each_part f d)) (h (Choice' place u a v b w d)) (each_part h a && (each_part h b && each_part h d))
          (λ i. g i (Choice' place u a v b w d)) (λ i. listed (g i) a ++ (listed (g i) b ++ listed (g i) d))
          (λ q l. t (Choice' place u a v b w d) q l)
          (λ q l. pair (each_part f a) (each_part f b && each_part f d) (each_part h a) (each_part h b && each_part h d) (λ i. listed (g i) a) (λ i. listed (g i) b ++ listed (g i) d)
          (λ r m. each_where a r m)
          (λ r m. pair (each_part f b) (each_part f d) (each_part h b) (each_part h d) (λ i. listed (g i) b) (λ i. listed (g i) d) (λ s o. each_where b s o) (λ s o. each_where d s o) r m) q l) p k

      -- the same of arguments
      all_where : (args : Arguments) → each_argument f args ≡ true → Known (λ i. listed_all (g i) args) → each_argument h args ≡ true
      all_where End p k = refl
      all_where (More' u a v rest) p k =
          pair (each_part f a) (each_argument f rest) (each_part h a) (each_argument h rest)
          (λ i. listed (g i) a) (λ i. listed_all (g i) rest)
          (λ q l. each_where a q l) (λ q l. all_where rest q l) p k
