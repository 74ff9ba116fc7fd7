-- Parts of which one spells what the other does.
use Rattle.std.proofs.Common.{inl, inr, List, [], ◌∷◌, Option, Some, None}
use Rattle.lola_parser_grammar.specs.Syntax.{Lexeme, Syntax, Then, Map, Either, Maybe, Many, Spells, Repeats, Perhaps}

-- what the first spells, the second spells too
pub record Within {A : Type 0} (a b : Syntax A) : Type 0 where
  pub spells : (ts : List Lexeme) (x : A) → Spells a ts x → Spells b ts x

-- they spell the same
pub record Same {A : Type 0} (a b : Syntax A) : Type 0 where
  pub to : Within a b
  pub back : Within b a

pub within_self : {A : Type 0} (a : Syntax A) → Within a a
within_self a = record { spells = λ ts x h. h }

pub within_chain : {A : Type 0} (a b c : Syntax A) → Within a b → Within b c → Within a c
within_chain a b c h k = record { spells = λ ts x s. k.spells ts x (h.spells ts x s) }

pub within_map : {A B : Type 0} (f : A → B) (a a' : Syntax A) → Within a a' → Within (Map f a) (Map f a')
unfolding Spells
within_map f a a' h = record { spells = λ ts y p. (p.0, p.1, h.spells ts p.0 p.2) }

pub within_then : {A B : Type 0} (a a' : Syntax A) (b b' : Syntax B) → Within a a' → Within b b' → Within (Then a b) (Then a' b')
unfolding Spells
within_then a a' b b' h k = record { spells = λ ts x p. (p.0, p.1, p.2, h.spells p.0 x.0 p.3, k.spells p.1 x.1 p.4) }

pub within_either : {A : Type 0} (a a' b b' : Syntax A) → Within a a' → Within b b' → Within (Either a b) (Either a' b')
unfolding Spells
within_either a a' b b' h k = record { spells = λ ts x p. elim p [ inl s ↦ inl (h.spells ts x s) | inr s ↦ inr (k.spells ts x s) ] }

pub perhaps_within : {A : Type 0} (P Q : List Lexeme → A → Type 0) → ((ts : List Lexeme) (x : A) → P ts x → Q ts x) → (ts : List Lexeme) (x : Option A) → Perhaps P ts x → Perhaps Q ts x
perhaps_within P Q h ts None s = s
perhaps_within P Q h ts (Some x) s = h ts x s

pub within_maybe : {A : Type 0} (a a' : Syntax A) → Within a a' → Within (Maybe a) (Maybe a')
unfolding Spells
within_maybe a a' h = record { spells = perhaps_within (Spells a) (Spells a') h.spells }

pub repeats_within : {A : Type 0} (P Q : List Lexeme → A → Type 0) → ((ts : List Lexeme) (x : A) → P ts x → Q ts x) → (ts : List Lexeme) (xs : List A) → Repeats P ts xs → Repeats Q ts xs
repeats_within P Q h ts [] s = s
repeats_within P Q h ts (x ∷ xs) s = (s.0, s.1, s.2, h s.0 x s.3, repeats_within P Q h s.1 xs s.4)

pub within_many : {A : Type 0} (a a' : Syntax A) → Within a a' → Within (Many a) (Many a')
unfolding Spells
within_many a a' h = record { spells = repeats_within (Spells a) (Spells a') h.spells }

pub within_left : {A : Type 0} (a b : Syntax A) → Within a (Either a b)
unfolding Spells
within_left a b = record { spells = λ ts x s. inl s }

pub within_right : {A : Type 0} (a b : Syntax A) → Within b (Either a b)
unfolding Spells
within_right a b = record { spells = λ ts x s. inr s }

pub within_cases : {A : Type 0} (a b c : Syntax A) → Within a c → Within b c → Within (Either a b) c
unfolding Spells
within_cases a b c h k = record { spells = λ ts x p. elim p [ inl s ↦ h.spells ts x s | inr s ↦ k.spells ts x s ] }

-- ---- the same

pub same_self : {A : Type 0} (a : Syntax A) → Same a a
same_self a = record { to = within_self a; back = within_self a }

pub same_chain : {A : Type 0} (a b c : Syntax A) → Same a b → Same b c → Same a c
same_chain a b c h k = record { to = within_chain a b c h.to k.to; back = within_chain c b a k.back h.back }

pub same_back : {A : Type 0} (a b : Syntax A) → Same a b → Same b a
same_back a b h = record { to = h.back; back = h.to }

pub same_map : {A B : Type 0} (f : A → B) (a a' : Syntax A) → Same a a' → Same (Map f a) (Map f a')
same_map f a a' h = record { to = within_map f a a' h.to; back = within_map f a' a h.back }

pub same_then : {A B : Type 0} (a a' : Syntax A) (b b' : Syntax B) → Same a a' → Same b b' → Same (Then a b) (Then a' b')
same_then a a' b b' h k = record { to = within_then a a' b b' h.to k.to; back = within_then a' a b' b h.back k.back }

pub same_either : {A : Type 0} (a a' b b' : Syntax A) → Same a a' → Same b b' → Same (Either a b) (Either a' b')
same_either a a' b b' h k = record { to = within_either a a' b b' h.to k.to; back = within_either a' a b' b h.back k.back }

pub same_maybe : {A : Type 0} (a a' : Syntax A) → Same a a' → Same (Maybe a) (Maybe a')
same_maybe a a' h = record { to = within_maybe a a' h.to; back = within_maybe a' a h.back }

pub same_many : {A : Type 0} (a a' : Syntax A) → Same a a' → Same (Many a) (Many a')
same_many a a' h = record { to = within_many a a' h.to; back = within_many a' a h.back }
