-- Parts of the plain grammar over parts that spell more.
use Rattle.std.proofs.Common.{inl, inr, [], None, refl, sym}
use Rattle.std.proofs.lemmas.List.{append-nil}
use Rattle.lola_parser_grammar.specs.declared.literals.Literal.{Literal}
use Rattle.lola_parser_grammar.specs.declared.expressions.Expr.{Expr}
use Rattle.lola_parser_grammar.specs.declared.pacing.Formula.{Formula}
use Rattle.lola_parser_grammar.specs.Syntax.{Syntax, Then, Spells}
use Rattle.lola_parser_grammar.specs.Grammar.{◌*>◌, ◌<*◌, truth_at, listed}
use Rattle.lola_parser_law.specs.Plain.{from_left, literal, other_literal, stand_in, access, ref, prim, default, post, not_unary, minus_unary, unary_with, other_with, prod, sum, cmp, and, or, expr_with, innermost, atom, conj, form_with}
use Rattle.lola_parser_law.proofs.PlainWithin.{Within, within_self, within_chain, within_map, within_then, within_either, within_maybe, within_many, within_right}
use Rattle.lola_parser_law.proofs.Turns.{within_from_left}

pub within_after : {A B : Type 0} (a a' : Syntax A) (b b' : Syntax B) → Within a a' → Within b b' → Within (a *> b) (a' *> b')
within_after a a' b b' h k = within_map _ _ _ (within_then _ _ _ _ h k)

pub within_before : {A B : Type 0} (a a' : Syntax A) (b b' : Syntax B) → Within a a' → Within b b' → Within (a <* b) (a' <* b')
within_before a a' b b' h k = within_map _ _ _ (within_then _ _ _ _ h k)

-- behind something that stays the same
pub behind : {A B : Type 0} (a : Syntax A) (b b' : Syntax B) → Within b b' → Within (a *> b) (a *> b')
behind a b b' h = within_after a a b b' (within_self a) h

pub before : {A B : Type 0} (a a' : Syntax A) (b : Syntax B) → Within a a' → Within (a <* b) (a' <* b)
before a a' b h = within_before a a' b b h (within_self b)

pub then_behind : {A B : Type 0} (a : Syntax A) (b b' : Syntax B) → Within b b' → Within (Then a b) (Then a b')
then_behind a b b' h = within_then a a b b' (within_self a) h

pub within_listed : {A : Type 0} (s s' : Syntax A) → Within s s' → Within (listed s) (listed s')
within_listed s s' h = within_map _ _ _ (within_then _ _ _ _ h (within_many _ _ (behind _ _ _ h)))

-- nothing is joined to it
pub alone : {A B : Type 0} (f : B → A → B) (a : Syntax B) (b : Syntax A) → Within a (from_left f a b)
unfolding Spells
alone f a b = record { spells = λ ts x s. ((x, []), refl, (ts, [], sym (append-nil ts), s, refl)) }

-- ---- expressions

module _ (E E' : Syntax Expr) (in_E : Within E E') (U U' O O' : Syntax Expr) where
  stand_in_wider : Within (stand_in E U O) (stand_in E' U' O')
  unfolding stand_in
  stand_in_wider = behind _ _ _ (before _ _ _ (within_maybe _ _ (behind _ _ _ (behind _ _ _ in_E))))

  access_wider : Within (access E U O) (access E' U' O')
  unfolding access
  access_wider =
      within_either _ _ _ _ (within_self _) (within_either _ _ _ _ (within_map _ _ _ (behind _ _ _ stand_in_wider))
      (within_either _ _ _ _ (within_map _ _ _ (behind _ _ _ stand_in_wider)) (within_either _ _ _ _ (within_map _ _ _ (then_behind _ _ _ stand_in_wider)) (within_self _))))

  ref_wider : Within (ref E U O) (ref E' U' O')
  unfolding ref
  ref_wider = then_behind _ _ _ (within_maybe _ _ (then_behind _ _ _ (before _ _ _ (within_listed _ _ in_E))))

  prim_wider : (l m : Syntax Literal) → Within l m → Within (prim E U O l) (prim E' U' O' m)
  unfolding prim
  prim_wider l m h =
      within_either _ _ _ _ (within_map _ _ _ h) (within_either _ _ _ _ (behind _ _ _ (before _ _ _ in_E))
      (within_map _ _ _ (within_then _ _ _ _ ref_wider (within_maybe _ _ (then_behind _ _ _ access_wider)))))

  default_wider : Within (default E U O) (default E' U' O')
  unfolding default
  default_wider = then_behind _ _ _ (behind _ _ _ (behind _ _ _ (behind _ _ _ (behind _ _ _ (before _ _ _ in_E)))))

  pub post_wider : (l m : Syntax Literal) → Within l m → Within (post E U O l) (post E' U' O' m)
  unfolding post
  post_wider l m h = within_from_left _ _ _ _ _ (prim_wider l m h) default_wider

module _ (E E' U U' O O' : Syntax Expr) (in_E : Within E E') (in_U : Within U U') (in_O : Within O O') where
  not_wider : Within (not_unary E U O) (not_unary E' U' O')
  unfolding not_unary
  not_wider = within_map _ _ _ (then_behind _ _ _ in_U)

  minus_wider : Within (minus_unary E U O) (minus_unary E' U' O')
  unfolding minus_unary
  minus_wider = within_map _ _ _ (then_behind _ _ _ in_O)

  pub unary_wider : Within (unary_with E U O) (unary_with E' U' O')
  unfolding unary_with
  unary_wider = within_either _ _ _ _ not_wider (within_either _ _ _ _ minus_wider (post_wider E E' in_E U U' O O' _ _ (within_self _)))

  pub other_wider : Within (other_with E U O) (other_with E' U' O')
  unfolding other_with
  other_wider = within_either _ _ _ _ not_wider (within_either _ _ _ _ minus_wider (post_wider E E' in_E U U' O O' _ _ (within_self _)))

  prod_wider : Within (prod E U O) (prod E' U' O')
  unfolding prod
  prod_wider = within_from_left _ _ _ _ _ unary_wider (then_behind _ _ _ unary_wider)

  sum_wider : Within (sum E U O) (sum E' U' O')
  unfolding sum
  sum_wider = within_from_left _ _ _ _ _ prod_wider (then_behind _ _ _ prod_wider)

  cmp_wider : Within (cmp E U O) (cmp E' U' O')
  unfolding cmp
  cmp_wider = within_map _ _ _ (within_then _ _ _ _ sum_wider (within_maybe _ _ (then_behind _ _ _ sum_wider)))

  and_wider : Within (and E U O) (and E' U' O')
  unfolding and
  and_wider = within_from_left _ _ _ _ _ cmp_wider (then_behind _ _ _ cmp_wider)

  or_wider : Within (or E U O) (or E' U' O')
  unfolding or
  or_wider = within_from_left _ _ _ _ _ and_wider (then_behind _ _ _ and_wider)

  pub expr_wider : Within (expr_with E U O) (expr_with E' U' O')
  unfolding expr_with
  expr_wider = within_either _ _ _ _ (within_map _ _ _ (then_behind _ _ _ (within_then _ _ _ _ in_E (within_then _ _ _ _ (behind _ _ _ in_E) (behind _ _ _ in_E))))) or_wider

-- ---- an operand, as an expression

module _ (E U O : Syntax Expr) where
  pub other_in_unary : Within (other_with E U O) (unary_with E U O)
  unfolding other_with unary_with literal
  other_in_unary = within_either _ _ _ _ (within_self _) (within_either _ _ _ _ (within_self _) (post_wider E E (within_self E) U U O O _ _ (within_right _ _)))

  sum_in_cmp : Within (sum E U O) (cmp E U O)
  unfolding Spells cmp
  sum_in_cmp = record { spells = λ ts x s. ((x, None), refl, (ts, [], sym (append-nil ts), s, refl)) }

  pub unary_in_expr : Within (unary_with E U O) (expr_with E U O)
  unfolding prod sum and or expr_with
  unary_in_expr =
      within_chain _ (prod E U O) _ (alone _ _ _) (within_chain _ (sum E U O) _ (alone _ _ _) (within_chain _ (cmp E U O) _ sum_in_cmp
      (within_chain _ (and E U O) _ (alone _ _ _) (within_chain _ (or E U O) _ (alone _ _ _) (within_right _ _)))))

  pub innermost_in_other : Within innermost (other_with E U O)
  unfolding Spells innermost other_with post prim other_literal
  innermost_in_other = record { spells = λ ts x s. inr (inr ((x, []), refl, (ts, [], sym (append-nil ts), inl (truth_at _ s.0, s.1, inr (inl (s.0, refl, s.2))), refl))) }

  pub innermost_in_unary : Within innermost (unary_with E U O)
  innermost_in_unary = within_chain _ _ _ innermost_in_other other_in_unary

  pub innermost_in_expr : Within innermost (expr_with E U O)
  innermost_in_expr = within_chain _ _ _ innermost_in_unary unary_in_expr

-- ---- formulas

module _ (X Y : Syntax Formula) (in_X : Within X Y) where
  atom_wider : Within (atom X) (atom Y)
  unfolding atom
  atom_wider = within_either _ _ _ _ (within_self _) (behind _ _ _ (before _ _ _ in_X))

  conj_wider : Within (conj X) (conj Y)
  unfolding conj
  conj_wider = within_from_left _ _ _ _ _ atom_wider (then_behind _ _ _ atom_wider)

  pub form_wider : Within (form_with X) (form_with Y)
  unfolding form_with
  form_wider = within_from_left _ _ _ _ _ conj_wider (then_behind _ _ _ conj_wider)
