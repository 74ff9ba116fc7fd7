-- Parts of which one spells what the other does, also within the limit of nestings.
use Rattle.std.proofs.Common.{inl, inr, List, refl, ap, ◌∙◌}
use Rattle.lola_parser_grammar.specs.Syntax.{Lexeme, Syntax, Then, Map, Either, Maybe, Many, Spells}
use Rattle.lola_parser_grammar.specs.Nestings.{Fits}
use Rattle.lola_parser_grammar.specs.Grammar.{all_nestings, ◌*>◌, ◌<*◌}
use Rattle.lola_parser_law.proofs.PlainWithin.{Within, within_map, within_then, within_either, within_maybe, within_many, perhaps_within, repeats_within}
use Rattle.lola_parser_law.proofs.Turns.{map_twice}

-- what the first spells, within the limit or not, the second spells so too
pub record Fitting {A : Type 0} (a b : Syntax A) : Type 0 where
  pub spells : (ts : List Lexeme) (x : A) → Spells a ts x → Spells b ts x
  pub fits : (ts : List Lexeme) (x : A) → Fits all_nestings a ts x → Fits all_nestings b ts x

abbrev within_of : {A : Type 0} (a b : Syntax A) → Fitting a b → Within a b
within_of a b h = record { spells = h.spells }

pub fitting_self : {A : Type 0} (a : Syntax A) → Fitting a a
fitting_self a = record { spells = λ ts x s. s; fits = λ ts x s. s }

pub fitting_chain : {A : Type 0} (a b c : Syntax A) → Fitting a b → Fitting b c → Fitting a c
fitting_chain a b c h k = record { spells = λ ts x s. k.spells ts x (h.spells ts x s); fits = λ ts x s. k.fits ts x (h.fits ts x s) }

pub fitting_map : {A B : Type 0} (f : A → B) (a a' : Syntax A) → Fitting a a' → Fitting (Map f a) (Map f a')
unfolding Fits
fitting_map f a a' h = record { spells = (within_map f a a' (within_of a a' h)).spells; fits = λ ts y p. (p.0, p.1, h.fits ts p.0 p.2) }

pub fitting_then : {A B : Type 0} (a a' : Syntax A) (b b' : Syntax B) → Fitting a a' → Fitting b b' → Fitting (Then a b) (Then a' b')
unfolding Fits
fitting_then a a' b b' h k = record {
  spells = (within_then a a' b b' (within_of a a' h) (within_of b b' k)).spells;
  fits = λ ts x p. (p.0, p.1, p.2, h.fits p.0 x.0 p.3, k.fits p.1 x.1 p.4);
}

pub fitting_either : {A : Type 0} (a a' b b' : Syntax A) → Fitting a a' → Fitting b b' → Fitting (Either a b) (Either a' b')
unfolding Fits
fitting_either a a' b b' h k = record {
  spells = (within_either a a' b b' (within_of a a' h) (within_of b b' k)).spells;
  fits = λ ts x p. elim p [ inl s ↦ inl (h.fits ts x s) | inr s ↦ inr (k.fits ts x s) ];
}

pub fitting_maybe : {A : Type 0} (a a' : Syntax A) → Fitting a a' → Fitting (Maybe a) (Maybe a')
unfolding Fits
fitting_maybe a a' h = record { spells = (within_maybe a a' (within_of a a' h)).spells; fits = perhaps_within (Fits all_nestings a) (Fits all_nestings a') h.fits }

pub fitting_many : {A : Type 0} (a a' : Syntax A) → Fitting a a' → Fitting (Many a) (Many a')
unfolding Fits
fitting_many a a' h = record { spells = (within_many a a' (within_of a a' h)).spells; fits = repeats_within (Fits all_nestings a) (Fits all_nestings a') h.fits }

-- behind or before something that stays the same

pub then_behind : {A B : Type 0} (a : Syntax A) (b b' : Syntax B) → Fitting b b' → Fitting (Then a b) (Then a b')
then_behind a b b' h = fitting_then a a b b' (fitting_self a) h

pub behind : {A B : Type 0} (a : Syntax A) (b b' : Syntax B) → Fitting b b' → Fitting (a *> b) (a *> b')
behind a b b' h = fitting_map _ _ _ (then_behind _ _ _ h)

pub before : {A B : Type 0} (a a' : Syntax A) (b : Syntax B) → Fitting a a' → Fitting (a <* b) (a' <* b)
before a a' b h = fitting_map _ _ _ (fitting_then _ _ _ _ h (fitting_self b))

-- a value of a value
module _ {A B C : Type 0} (f : B → C) (h : A → B) (a : Syntax A) where
  twice_to : (ts : List Lexeme) (x : C) → Fits all_nestings (Map f (Map h a)) ts x → Fits all_nestings (Map (λ y. f (h y)) a) ts x
  unfolding Fits
  twice_to ts x (y, e, (z, g, s)) = (z, e ∙ ap f g, s)

  twice_back : (ts : List Lexeme) (x : C) → Fits all_nestings (Map (λ y. f (h y)) a) ts x → Fits all_nestings (Map f (Map h a)) ts x
  unfolding Fits
  twice_back ts x (z, e, s) = (h z, e, (z, refl, s))

  pub once : Fitting (Map f (Map h a)) (Map (λ y. f (h y)) a)
  once = record { spells = (map_twice f h a).to.spells; fits = twice_to }

  pub in_turn : Fitting (Map (λ y. f (h y)) a) (Map f (Map h a))
  in_turn = record { spells = (map_twice f h a).back.spells; fits = twice_back }
