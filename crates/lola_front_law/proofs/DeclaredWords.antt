-- The names that the declarations of a text declare are names of its tokens.
use Rattle.std.proofs.Common.{ℕ, List, [], ◌∷◌, ◌++◌, sym, subst, inl, inr}
use Rattle.lola_parser_grammar.specs.declared.literals.Name.{Name}
use Rattle.lola_parser_grammar.specs.declared.literals.Typed.{Typed}
use Rattle.lola_parser_grammar.specs.declared.declarations.Declaration.{Declaration}
use Rattle.lola_parser_grammar.specs.declared.declarations.Declaration.TheVariants as d
use Rattle.lola_lexer.specs.declared.shape.TokenShape.TheVariants as is
use Rattle.lola_parser_grammar.specs.Syntax.{Lexeme, Syntax, Then, Map, Either, Maybe, Many, Spells, Repeats, fits}
use Rattle.lola_parser_grammar.proofs.Tests.{shape_is}
use Rattle.lola_parser_grammar.specs.Grammar.{token, name, typed, further, listed, parameters, kind, inputs, constant, body, output, trigger, declaration, specification}
use Rattle.lola_front_law.proofs.NameTokens.{Word, Worded}

worded_left : (u v : List Lexeme) → Worded (u ++ v) → Worded u
worded_left [] v h = tt
worded_left (t ∷ u) v h = (h.0, worded_left u v h.1)

worded_right : (u v : List Lexeme) → Worded (u ++ v) → Worded v
worded_right [] v h = h
worded_right (t ∷ u) v h = worded_right u v h.1

-- every value that a part of the grammar spells has a property, where the names among its tokens are words
abbrev Gives : {A : Type 0} → (A → Type 0) → Syntax A → Type 0
Gives {A} P a = (ts : List Lexeme) (x : A) → Worded ts → Spells a ts x → P x

gives_map : {A B : Type 0} (P : B → Type 0) (f : A → B) (a : Syntax A) → Gives (λ x. P (f x)) a → Gives P (Map f a)
unfolding Spells
gives_map P f a h ts y w s = subst P (sym s.1) (h ts s.0 w s.2)

gives_always : {A : Type 0} (P : A → Type 0) (a : Syntax A) → ((x : A) → P x) → Gives P a
gives_always P a h ts x w s = h x

gives_first : {A B : Type 0} (P : A → Type 0) (a : Syntax A) (b : Syntax B) → Gives P a → Gives (λ p. P p.0) (Then a b)
unfolding Spells
gives_first P a b h ts x w s = h s.0 x.0 (worded_left s.0 s.1 (subst Worded s.2 w)) s.3

gives_second : {A B : Type 0} (P : B → Type 0) (a : Syntax A) (b : Syntax B) → Gives P b → Gives (λ p. P p.1) (Then a b)
unfolding Spells
gives_second P a b h ts x w s = h s.1 x.1 (worded_right s.0 s.1 (subst Worded s.2 w)) s.4

gives_either : {A : Type 0} (P : A → Type 0) (a b : Syntax A) → Gives P a → Gives P b → Gives P (Either a b)
unfolding Spells
gives_either P a b h k ts x w (inl s) = h ts x w s
gives_either P a b h k ts x w (inr s) = k ts x w s

-- a list of values that have a property
abbrev pub Each : {A : Type 0} → (A → Type 0) → List A → Type 0
Each P [] = Unit {0}
Each P (x ∷ xs) = P x × Each P xs

repeats_give : {A : Type 0} (P : A → Type 0) (a : Syntax A) → Gives P a → (ts : List Lexeme) (xs : List A) → Worded ts → Repeats (Spells a) ts xs → Each P xs
repeats_give P a h ts [] w s = tt
repeats_give P a h ts (x ∷ xs) w s =
    let both = subst Worded s.2 w in
    (h s.0 x (worded_left s.0 s.1 both) s.3, repeats_give P a h s.1 xs (worded_right s.0 s.1 both) s.4)

gives_many : {A : Type 0} (P : A → Type 0) (a : Syntax A) → Gives P a → Gives (Each P) (Many a)
unfolding Spells
gives_many P a h ts xs w s = repeats_give P a h ts xs w s

gives_listed : {A : Type 0} (P : A → Type 0) (a : Syntax A) → Gives P a → Gives (Each P) (listed a)
gives_listed P a h =
    gives_map (Each P) (λ p. p.0 ∷ p.1) (Then a (Many (further a)))
    (λ ts p w s. (
      gives_first P a (Many (further a)) h ts p w s,
      gives_second (Each P) a (Many (further a)) (gives_many P (further a) (gives_map P (λ q. q.1) (Then (token is.Comma) a) (gives_second P (token is.Comma) a h))) ts p w s,
    ))

abbrev pub IsWordName : Name → Type 0
IsWordName n = Word n.text

name_gives : Gives IsWordName name
unfolding name Spells fits
name_gives ts y w s =
    let one = subst Worded s.2.0 w in
    subst IsWordName (sym s.1) (one.0 (sym (shape_is is.Name s.0.shape s.2.1)))

abbrev pub IsWordTyped : Typed → Type 0
IsWordTyped t = IsWordName t.name

typed_gives : Gives IsWordTyped typed
unfolding typed
typed_gives = gives_map IsWordTyped _ (Then name _) (gives_first IsWordName name _ name_gives)

-- inputs and outputs
abbrev pub HasWords : Declaration → Type 0
HasWords (d.Inputs x) = Each IsWordTyped x.inputs
HasWords (d.Constant x) = Unit {0}
HasWords (d.Output x) = IsWordName x.name
HasWords (d.Trigger x) = Unit {0}

inputs_give : Gives HasWords inputs
unfolding inputs
inputs_give =
    gives_map HasWords _ (Then (token is.Input) (listed typed)) (gives_second (Each IsWordTyped) (token is.Input) (listed typed) (gives_listed IsWordTyped typed typed_gives))

constant_gives : Gives HasWords constant
unfolding constant
constant_gives = gives_map HasWords _ _ (gives_always _ _ (λ p. tt))

output_gives : (n : ℕ) → Gives HasWords (output n)
unfolding output
output_gives n =
    gives_map HasWords _ (Then (token is.Output) (Then name (Then (Maybe parameters) (Then (Maybe kind) (body n)))))
    (gives_second (λ q. IsWordName q.0) (token is.Output) (Then name (Then (Maybe parameters) (Then (Maybe kind) (body n))))
    (gives_first IsWordName name (Then (Maybe parameters) (Then (Maybe kind) (body n))) name_gives))

trigger_gives : (n : ℕ) → Gives HasWords (trigger n)
unfolding trigger
trigger_gives n = gives_map HasWords _ _ (gives_always _ _ (λ p. tt))

declaration_gives : (n : ℕ) → Gives HasWords (declaration n)
unfolding declaration
declaration_gives n =
    gives_either HasWords inputs (Either constant (Either (output n) (trigger n))) inputs_give
    (gives_either HasWords constant (Either (output n) (trigger n)) constant_gives
    (gives_either HasWords (output n) (trigger n) (output_gives n) (trigger_gives n)))

abbrev pub AllHaveWords : List Declaration → Type 0
AllHaveWords ds = Each HasWords ds

pub declared_words : (n : ℕ) (ts : List Lexeme) (ds : List Declaration) → Worded ts → Spells (specification n) ts ds → AllHaveWords ds
unfolding specification
declared_words n ts ds w s = gives_many HasWords (declaration n) (declaration_gives n) ts ds w s
