-- What the grammar gives: each output with a close clause has a spawn clause.
use Rattle.std.proofs.Common.{ℕ, List, [], ◌∷◌, Option, Some, None, refl, sym, subst, inl, inr}
use Rattle.lola_parser_grammar.specs.declared.clauses.Spawn.{Spawn}
use Rattle.lola_parser_grammar.specs.declared.clauses.Close.{Close}
use Rattle.lola_parser_grammar.specs.declared.declarations.Declaration.{Declaration}
use Rattle.lola_parser_grammar.specs.declared.declarations.Declaration.TheVariants as d
use Rattle.lola_lexer.specs.declared.shape.TokenShape.TheVariants as is
use Rattle.lola_parser_grammar.specs.Syntax.{Lexeme, Syntax, Then, Map, Either, Maybe, Spells, Repeats}
use Rattle.lola_parser_grammar.specs.Grammar.{Body, token, name, parameters, kind, inputs, constant, spawn, eval, close, short_eval, body, output, trigger, declaration, specification}
use Rattle.lola_names.specs.Meant.{ClosesSpawned, ClosesAreSpawned}

-- every value that a part of the grammar spells has a property
abbrev Gives : {A : Type 0} → (A → Type 0) → Syntax A → Type 0
Gives {A} P a = (ts : List Lexeme) (x : A) → Spells a ts x → P x

gives_map : {A B : Type 0} (P : B → Type 0) (f : A → B) (a : Syntax A) → Gives (λ x. P (f x)) a → Gives P (Map f a)
unfolding Spells
gives_map P f a h ts y s = subst P (sym s.1) (h ts s.0 s.2)

-- a property of all values of a function
gives_always : {A B : Type 0} (P : B → Type 0) (f : A → B) (a : Syntax A) → ((x : A) → P (f x)) → Gives P (Map f a)
gives_always P f a h = gives_map P f a (λ ts x s. h x)

gives_second : {A B : Type 0} (P : B → Type 0) (a : Syntax A) (b : Syntax B) → Gives P b → Gives (λ p. P p.1) (Then a b)
unfolding Spells
gives_second P a b h ts x s = h s.1 x.1 s.4

gives_either : {A : Type 0} (P : A → Type 0) (a b : Syntax A) → Gives P a → Gives P b → Gives P (Either a b)
unfolding Spells
gives_either P a b h k ts x (inl s) = h ts x s
gives_either P a b h k ts x (inr s) = k ts x s

abbrev IsSpawned : Body → Type 0
IsSpawned b = ClosesSpawned b.0 b.2

spawned : (x : Spawn) (c : Option Close) → ClosesSpawned (Some x) c
spawned x None = tt
spawned x (Some c) = refl

body_gives : (n : ℕ) → Gives IsSpawned (body n)
unfolding body
body_gives n =
    gives_either IsSpawned (Map (λ x. (None, x, None)) (short_eval n)) _ (gives_always IsSpawned (λ x. (None, x, None)) (short_eval n) (λ x. tt))
    (gives_either IsSpawned (Map (λ x. (None, x, None)) (eval n)) _ (gives_always IsSpawned (λ x. (None, x, None)) (eval n) (λ x. tt))
    (gives_always IsSpawned (λ p. (Some p.0, p.1.0, p.1.1)) (Then (spawn n) (Then (eval n) (Maybe (close n)))) (λ p. spawned p.0 p.1.1)))

abbrev IsRight : Declaration → Type 0
IsRight x = ClosesAreSpawned (x ∷ [])

output_gives : (n : ℕ) → Gives IsRight (output n)
unfolding output
output_gives n =
    gives_map IsRight _ (Then (token is.Output) (Then name (Then (Maybe parameters) (Then (Maybe kind) (body n)))))
    (λ ts p s. (
      gives_second (λ q. IsSpawned q.1.1.1) (token is.Output) (Then name (Then (Maybe parameters) (Then (Maybe kind) (body n))))
          (gives_second (λ q. IsSpawned q.1.1) name (Then (Maybe parameters) (Then (Maybe kind) (body n)))
          (gives_second (λ q. IsSpawned q.1) (Maybe parameters) (Then (Maybe kind) (body n))
          (gives_second IsSpawned (Maybe kind) (body n) (body_gives n)))) ts p s,
      tt,
    ))

inputs_give : Gives IsRight inputs
unfolding inputs
inputs_give = gives_always IsRight _ _ (λ p. tt)

constant_gives : Gives IsRight constant
unfolding constant
constant_gives = gives_always IsRight _ _ (λ p. tt)

trigger_gives : (n : ℕ) → Gives IsRight (trigger n)
unfolding trigger
trigger_gives n = gives_always IsRight _ _ (λ p. tt)

declaration_gives : (n : ℕ) → Gives IsRight (declaration n)
unfolding declaration
declaration_gives n =
    gives_either IsRight inputs (Either constant (Either (output n) (trigger n))) inputs_give
    (gives_either IsRight constant (Either (output n) (trigger n)) constant_gives
    (gives_either IsRight (output n) (trigger n) (output_gives n) (trigger_gives n)))

one_more : (x : Declaration) (xs : List Declaration) → IsRight x → ClosesAreSpawned xs → ClosesAreSpawned (x ∷ xs)
one_more (d.Inputs x) xs h k = k
one_more (d.Constant x) xs h k = k
one_more (d.Output x) xs h k = (h.0, k)
one_more (d.Trigger x) xs h k = k

declarations_give : (n : ℕ) (ts : List Lexeme) (ds : List Declaration) → Repeats (Spells (declaration n)) ts ds → ClosesAreSpawned ds
declarations_give n ts [] s = tt
declarations_give n ts (x ∷ xs) s = one_more x xs (declaration_gives n s.0 x s.3) (declarations_give n s.1 xs s.4)

pub spelled_closes : (n : ℕ) (ts : List Lexeme) (ds : List Declaration) → Spells (specification n) ts ds → ClosesAreSpawned ds
unfolding specification Spells
spelled_closes n ts ds s = declarations_give n ts ds s
