-- Parts of a grammar whose sentences have at least so many nestings.
use Rattle.std.proofs.Common.{◌≡◌, ℕ, suc, ◌+◌, ◌≤◌, true, List, [], ◌∷◌, ap, arith, inl, inr}
use Rattle.std.specs.Prelude.{fold}
use Rattle.lola_lexer.specs.declared.shape.TokenShape.{TokenShape}
use Rattle.lola_parser_grammar.specs.Syntax.{Lexeme, Terminal, Of, listed, Syntax, Past, Known, Then, Map, Either, Repeats, Spells}
use Rattle.lola_parser_grammar.specs.Grammar.{all_nestings, nesting, folded, ◌*>◌, ◌<*◌, ◌|>◌, ◌>>◌}
use Rattle.lola_parser_law.proofs.Counts.{count, count-append, one_nesting}

-- each sentence has at least so many nestings as its value takes
abbrev pub Costs : {A : Type 0} → Syntax A → (A → ℕ) → Type 0
Costs {A} s c = (ts : List Lexeme) (x : A) → Spells s ts x → c x ≤ count ts

-- what follows something: together they take no more than that and its own nestings
abbrev pub Adds : {A : Type 0} → Syntax (A → A) → (A → ℕ) → (A → ℕ) → Type 0
Adds {A} s c d = (ts : List Lexeme) (f : A → A) → Spells s ts f → (left : A) → d (f left) ≤ c left + count ts

pub nothing : {A : Type 0} (s : Syntax A) → Costs s (λ _. 0)
nothing s ts x h = omega arith

pub with_nestings : (s : TokenShape) → listed (Of s) all_nestings ≡ true → Costs (nesting s) (λ _. 1)
unfolding Spells nesting
with_nestings s m ts x h = omega (arith, ap count h.2.0, one_nesting s h.0 m h.2.1)

pub past : {A : Type 0} (s : Syntax A) (c : A → ℕ) → Costs s c → Costs (Past s) c
unfolding Spells
past s c p ts x h = p ts x h

pub known : {A : Type 0} (fs ms : List Terminal) (s : Syntax A) (c : A → ℕ) → Costs s c → Costs (Known fs ms s) c
unfolding Spells
known fs ms s c p ts x h = p ts x h

pub both : {A B : Type 0} (a : Syntax A) (b : Syntax B) (c : A → ℕ) (d : B → ℕ) → Costs a c → Costs b d → Costs (Then a b) (λ p. c p.0 + d p.1)
unfolding Spells
both a b c d p q ts x h = omega (arith, ap count h.2, count-append h.0 h.1, p h.0 x.0 h.3, q h.1 x.1 h.4)

pub mapped : {A B : Type 0} (f : A → B) (a : Syntax A) (c : B → ℕ) → Costs a (λ x. c (f x)) → Costs (Map f a) c
unfolding Spells
mapped f a c p ts y h = omega (arith, ap c h.1, p ts h.0 h.2)

pub either : {A : Type 0} (a b : Syntax A) (c : A → ℕ) → Costs a c → Costs b c → Costs (Either a b) c
unfolding Spells
either a b c p q ts x (inl h) = p ts x h
either a b c p q ts x (inr h) = q ts x h

-- behind a nesting
pub behind_nesting : {A : Type 0} (s : TokenShape) (b : Syntax A) (d : A → ℕ) → listed (Of s) all_nestings ≡ true → Costs b d → Costs (nesting s *> b) (λ y. suc (d y))
unfolding Spells
behind_nesting s b d m q ts y h =
    let p = h.2 in
    omega (arith, ap d h.1, ap count p.2, count-append p.0 p.1, with_nestings s m p.0 h.0.0 p.3, q p.1 h.0.1 p.4)

-- behind what takes no nesting
pub behind : {A B : Type 0} (a : Syntax A) (b : Syntax B) (d : B → ℕ) → Costs b d → Costs (a *> b) d
unfolding Spells
behind a b d q ts y h =
    let p = h.2 in
    omega (arith, ap d h.1, ap count p.2, count-append p.0 p.1, q p.1 h.0.1 p.4)

-- before it
pub before : {A B : Type 0} (a : Syntax A) (b : Syntax B) (c : A → ℕ) → Costs a c → Costs (a <* b) c
unfolding Spells
before a b c q ts y h =
    let p = h.2 in
    omega (arith, ap c h.1, ap count p.2, count-append p.0 p.1, q p.0 h.0.0 p.3)

pub weaker : {A : Type 0} (s : Syntax A) (c d : A → ℕ) → ((x : A) → d x ≤ c x) → Costs s c → Costs s d
weaker s c d le p ts x h = omega (arith, le x, p ts x h)

-- ---- what follows

pub followed : {A : Type 0} (a : Syntax A) (tail : Syntax (A → A)) (c d : A → ℕ) → Costs a c → Adds tail c d → Costs (a |> tail) d
unfolding Spells
followed a tail c d p q ts y h =
    let l = h.2 in
    omega (arith, ap d h.1, ap count l.2, count-append l.0 l.1, p l.0 h.0.0 l.3, q l.1 h.0.1 l.4 h.0.0)

pub chained : {A : Type 0} (a b : Syntax (A → A)) (c d e : A → ℕ) → Adds a c d → Adds b d e → Adds (a >> b) c e
unfolding Spells
chained a b c d e p q ts f h left =
    let l = h.2 in
    omega (arith, ap (λ (g : _ → _). e (g left)) h.1, ap count l.2, count-append l.0 l.1, p l.0 h.0.0 l.3 left, q l.1 h.0.1 l.4 (h.0.0 left))

pub from_more : {A : Type 0} (s : Syntax (A → A)) (b c d : A → ℕ) → ((x : A) → c x ≤ b x) → Adds s c d → Adds s b d
from_more s b c d le p ts f h left = omega (arith, le left, p ts f h left)

-- joined from the left, one by one
pub joined : {A B : Type 0} (f : B → A → B) (s : Syntax A) (c : B → ℕ) → ((ts : List Lexeme) (x : A) → Spells s ts x → (left : B) → c (f left x) ≤ c left + count ts) → Adds (folded f s) c c
unfolding Spells
joined f s c each ts g h left = omega (arith, ap (λ (k : _ → _). c (k left)) h.1, all ts h.0 left h.2)
  where
    all : (u : List Lexeme) (xs : List _) (left : _) → Repeats (Spells s) u xs → c (fold f left xs) ≤ c left + count u
    all u [] left k = omega arith
    all u (x ∷ xs) left k = omega (arith, ap count k.2, count-append k.0 k.1, each k.0 x k.3 left, all k.1 xs (f left x) k.4)
