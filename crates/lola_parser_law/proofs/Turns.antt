-- How parts may be put together otherwise.
use Rattle.std.proofs.Common.{◌≡◌, inl, inr, List, ◌++◌, refl, sym, ap, ◌∙◌, append_assoc}
use Rattle.std.specs.Prelude.{fold}
use Rattle.lola_parser_grammar.specs.Syntax.{Lexeme, Syntax, Then, Map, Either, Maybe, Many, Spells}
use Rattle.lola_parser_grammar.specs.declared.expressions.Expr.{Expr}
use Rattle.lola_parser_grammar.specs.Grammar.{◌|>◌, ◌>>◌, folded, Operator, Joined, compared, joined_once}
use Rattle.lola_parser_law.specs.Plain.{from_left}
use Rattle.lola_parser_law.proofs.PlainWithin.{Within, Same, within_map, within_then, within_many, same_chain, same_map, same_then, same_either, same_maybe}

-- three lists in a row
abbrev pub regroup : (ts u v p q : List Lexeme) → ts ≡ u ++ v → v ≡ p ++ q → ts ≡ (u ++ p) ++ q
regroup ts u v p q h k = h ∙ ap (λ (w : List Lexeme). u ++ w) k ∙ sym (append_assoc u p q)

abbrev pub ungroup : (ts u v p q : List Lexeme) → ts ≡ u ++ v → u ≡ p ++ q → ts ≡ p ++ (q ++ v)
ungroup ts u v p q h k = h ∙ ap (λ (w : List Lexeme). w ++ v) k ∙ append_assoc p q v

pub four : (s p q r : List Lexeme) → ((s ++ p) ++ q) ++ r ≡ s ++ (p ++ (q ++ r))
four s p q r = append_assoc (s ++ p) q r ∙ append_assoc s p (q ++ r)

-- what follows something by a value of it
module _ {A B : Type 0} (a : Syntax B) (h : A → B → B) (b : Syntax A) where
  led_to : (ts : List Lexeme) (x : B) → Spells (a |> Map h b) ts x → Spells (Map (λ p. h p.1 p.0) (Then a b)) ts x
  unfolding Spells
  led_to ts x (p, e, (u, v, c, s, (y, g, t))) = ((p.0, y), e ∙ ap (λ (k : B → B). k p.0) g, (u, v, c, s, t))

  led_back : (ts : List Lexeme) (x : B) → Spells (Map (λ p. h p.1 p.0) (Then a b)) ts x → Spells (a |> Map h b) ts x
  unfolding Spells
  led_back ts x (p, e, (u, v, c, s, t)) = ((p.0, h p.1), e, (u, v, c, s, (p.1, refl, t)))

  pub led : Same (a |> Map h b) (Map (λ p. h p.1 p.0) (Then a b))
  led = record { to = record { spells = led_to }; back = record { spells = led_back } }

-- what follows what follows something
module _ {B : Type 0} (a : Syntax B) (t u : Syntax (B → B)) where
  along_to : (ts : List Lexeme) (x : B) → Spells (a |> (t >> u)) ts x → Spells ((a |> t) |> u) ts x
  unfolding Spells
  along_to ts x (p, e, (v, w, c, s, (y, g, (k, l, d, i, j)))) =
      ((y.0 p.0, y.1), e ∙ ap (λ (z : B → B). z p.0) g, (v ++ k, l, regroup ts v w k l c d, ((p.0, y.0), refl, (v, k, refl, s, i)), j))

  along_back : (ts : List Lexeme) (x : B) → Spells ((a |> t) |> u) ts x → Spells (a |> (t >> u)) ts x
  unfolding Spells
  along_back ts x (p, e, (v, w, c, (y, g, (k, l, d, i, j)), s)) =
      ((y.0, λ left. p.1 (y.1 left)), e ∙ ap p.1 g, (k, l ++ w, ungroup ts v w k l c d, i, ((y.1, p.1), refl, (l, w, refl, j, s))))

  pub along : Same (a |> (t >> u)) ((a |> t) |> u)
  along = record { to = record { spells = along_to }; back = record { spells = along_back } }

-- one of two, and what follows
module _ {A B C : Type 0} (f : A × B → C) (a b : Syntax A) (t : Syntax B) where
  split_to : (ts : List Lexeme) (x : C) → Spells (Map f (Then (Either a b) t)) ts x → Spells (Either (Map f (Then a t)) (Map f (Then b t))) ts x
  unfolding Spells
  split_to ts x (p, e, (u, v, c, inl s, k)) = inl (p, e, (u, v, c, s, k))
  split_to ts x (p, e, (u, v, c, inr s, k)) = inr (p, e, (u, v, c, s, k))

  split_back : (ts : List Lexeme) (x : C) → Spells (Either (Map f (Then a t)) (Map f (Then b t))) ts x → Spells (Map f (Then (Either a b) t)) ts x
  unfolding Spells
  split_back ts x (inl (p, e, (u, v, c, s, k))) = (p, e, (u, v, c, inl s, k))
  split_back ts x (inr (p, e, (u, v, c, s, k))) = (p, e, (u, v, c, inr s, k))

  pub split : Same (Map f (Then (Either a b) t)) (Either (Map f (Then a t)) (Map f (Then b t)))
  split = record { to = record { spells = split_to }; back = record { spells = split_back } }

-- a value of a value
module _ {A B C : Type 0} (f : B → C) (h : A → B) (a : Syntax A) where
  twice_to : (ts : List Lexeme) (x : C) → Spells (Map f (Map h a)) ts x → Spells (Map (λ y. f (h y)) a) ts x
  unfolding Spells
  twice_to ts x (y, e, (z, g, s)) = (z, e ∙ ap f g, s)

  twice_back : (ts : List Lexeme) (x : C) → Spells (Map (λ y. f (h y)) a) ts x → Spells (Map f (Map h a)) ts x
  unfolding Spells
  twice_back ts x (z, e, s) = (h z, e, (z, refl, s))

  pub map_twice : Same (Map f (Map h a)) (Map (λ y. f (h y)) a)
  map_twice = record { to = record { spells = twice_to }; back = record { spells = twice_back } }

-- a value of one of two
module _ {A B : Type 0} (f : A → B) (a b : Syntax A) where
  map_either_to : (ts : List Lexeme) (x : B) → Spells (Map f (Either a b)) ts x → Spells (Either (Map f a) (Map f b)) ts x
  unfolding Spells
  map_either_to ts x (y, e, inl s) = inl (y, e, s)
  map_either_to ts x (y, e, inr s) = inr (y, e, s)

  map_either_back : (ts : List Lexeme) (x : B) → Spells (Either (Map f a) (Map f b)) ts x → Spells (Map f (Either a b)) ts x
  unfolding Spells
  map_either_back ts x (inl (y, e, s)) = (y, e, inl s)
  map_either_back ts x (inr (y, e, s)) = (y, e, inr s)

  pub map_either : Same (Map f (Either a b)) (Either (Map f a) (Map f b))
  map_either = record { to = record { spells = map_either_to }; back = record { spells = map_either_back } }

-- ---- operators between operands

pub within_from_left : {A B : Type 0} (f : B → A → B) (a a' : Syntax B) (b b' : Syntax A) → Within a a' → Within b b' → Within (from_left f a b) (from_left f a' b')
within_from_left f a a' b b' h k = within_map _ _ _ (within_then _ _ _ _ h (within_many _ _ k))

pub same_from_left : {A B : Type 0} (f : B → A → B) (a a' : Syntax B) (b b' : Syntax A) → Same a a' → Same b b' → Same (from_left f a b) (from_left f a' b')
same_from_left f a a' b b' h k = record { to = within_from_left f a a' b b' h.to k.to; back = within_from_left f a' a b' b h.back k.back }

pub led_from_left : {A B : Type 0} (f : B → A → B) (a : Syntax B) (b : Syntax A) → Same (a |> folded f b) (from_left f a b)
led_from_left f a b = led a (λ rs left. fold f left rs) (Many b)

-- one of two, to which more is joined
pub split_from_left : {A B : Type 0} (f : B → A → B) (a b c d : Syntax B) (s : Syntax A) → Same (from_left f a s) c → Same (from_left f b s) d → Same (from_left f (Either a b) s) (Either c d)
split_from_left f a b c d s h k = same_chain _ _ _ (split (λ p. fold f p.0 p.1) a b (Many s)) (same_either _ _ _ _ h k)

-- an operand and what follows it, and then what is joined to that
pub level_same : {A B : Type 0} (f : B → A → B) (a a' : Syntax B) (t : Syntax (B → B)) (b b' : Syntax A) → Same (a |> t) a' → Same b b' → Same (a |> (t >> folded f b)) (from_left f a' b')
level_same f a a' t b b' h k =
    same_chain _ _ _ (along a t (folded f b)) (same_chain _ _ _ (led_from_left f (a |> t) b) (same_from_left f (a |> t) a' b b' h k))

pub once_same : (a a' : Syntax Expr) (t : Syntax (Expr → Expr)) (operators : Syntax Operator) (b : Syntax Expr) (c : Syntax Joined) → Same (a |> t) a' → Same (Then operators b) c
    → Same (a |> (t >> joined_once operators b)) (Map (λ p. compared p.1 p.0) (Then a' (Maybe c)))
once_same a a' t operators b c h k =
    same_chain _ _ _ (along a t (joined_once operators b)) (same_chain _ _ _ (led (a |> t) compared (Maybe (Then operators b))) (same_map _ _ _ (same_then _ _ _ _ h (same_maybe _ _ k))))
