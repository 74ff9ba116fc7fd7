-- Each part of an expression of which nothing is refused has its kind, by its row of the table of kinds.
use Rattle.std.proofs.Common.{◌≡◌, refl, ap, sym, ◌∙◌, subst, Bool, true, false, ◌&&◌, [], Option, Some}
use Rattle.std.proofs.lemmas.Bool.{and_from}
use Rattle.lola_value.specs.declared.value.Kind.{Kind}
use Rattle.lola_value.specs.declared.value.Kind.TheVariants as kind
use Rattle.lola_value.specs.Kinds.{is_integer}
use Rattle.lola_model.specs.Typing.{Scope, same_kind, noted, is_certain, binary_row, is_typed}
use Rattle.lola_model.specs.declared.expr.Place.{Place}
use Rattle.lola_model.specs.declared.expr.Binary.{Binary}
use Rattle.lola_model.specs.declared.expr.Binary.TheVariants as binary
use Rattle.lola_model.specs.declared.expr.Expr.{Expr}
use Rattle.lola_model.specs.declared.expr.Expr.TheVariants.{Both'}
use Rattle.lola_model.proofs.Build.{Around}
use Rattle.lola_types.specs.Found.{is_broken, joint, a_truth, arithmetic_part, order_part, equality_part, connected_part, binary_part}
use Rattle.lola_types.specs.Refused.{taken, compared, where_it_holds, operand_kind, free_refusals, taking_refusals}
use Rattle.lola_types.specs.Filled.{note, note_part, given_kind, filled_if_free}
use Rattle.lola_types.specs.declared.found.Found.{Found}
use Rattle.lola_types.specs.declared.found.Found.TheVariants.{Of, Free, Unknown, Broken}
use Rattle.lola_front.proofs.Bools.{never_back, none_left, none_right}
use Rattle.lola_front.proofs.Rows.{kind_is, same_self, is_ready, matches, is_sure, IsOneKind, one_kind, free_kind, arithmetic_joint, order_joint, equality_joint, arithmetic_is, order_is, equality_is, connected_is}

module _ (z : Scope) where
  -- an expression with the kinds of all its parts, itself of this kind, certain or optional
  abbrev pub Fits : Kind → Bool → Expr → Type 0
  Fits k c e = (is_typed z e ≡ true) × (noted e ≡ k) × (is_certain z.windows e ≡ c)

  -- what is known of an expression, filled in: where it is free, once it takes a kind of numbers that it does not refuse
  abbrev pub Holds : Found → Expr → Expr → Type 0
  Holds (Of k c) e f = Fits k c f
  Holds Free e f = (k : Kind) → is_integer k ≡ true → free_refusals k e ≡ [] → Fits k true (given_kind k f)
  Holds Unknown e f = ⊥
  Holds Broken e f = ⊥

  pub ready : (p : Found) (e f : Expr) → Holds p e f → is_ready p ≡ true
  ready (Of k c) e f h = refl
  ready Free e f h = refl
  ready Unknown e f h = absurd h
  ready Broken e f h = absurd h

  pub fits_at : (k l : Kind) (c d : Bool) (e : Expr) → k ≡ l → c ≡ d → Fits k c e → Fits l d e
  fits_at k l c d e p q h = (h.0, h.1 ∙ p, h.2 ∙ q)

  operand_some : (k : Kind) (p : Found) (a f : Expr) → Holds p a f → matches k p ≡ true → taking_refusals (Some k) p a ≡ [] → Fits k (is_sure p) (filled_if_free (Some k) p f)
  operand_some k (Of l c) a f h m r = fits_at l k c c f (kind_is l k m) refl h
  operand_some k Free a f h m r = h k m r
  operand_some k Unknown a f h m r = absurd h
  operand_some k Broken a f h m r = absurd h

  -- an operand that takes this kind
  pub operand : (k : Kind) (p : Found) (o : Option Kind) (a f : Expr) → Holds p a f → matches k p ≡ true → o ≡ Some k → taking_refusals o p a ≡ [] → Fits k (is_sure p) (filled_if_free o p f)
  operand k p o a f h m e r = subst (λ o. taking_refusals o p a ≡ [] → Fits k (is_sure p) (filled_if_free o p f)) (sym e) (operand_some k p a f h m) r

  -- a certain operand
  pub sure_operand : (k : Kind) (p : Found) (o : Option Kind) (a f : Expr) → Holds p a f → matches k p ≡ true → is_sure p ≡ true → o ≡ Some k → taking_refusals o p a ≡ [] → Fits k true (filled_if_free o p f)
  sure_operand k p o a f h m s e r = fits_at k k (is_sure p) true (filled_if_free o p f) refl s (operand k p o a f h m e r)

  module _ (place : Place) (u v : Around) where
    -- two operands of a binary operator

    row_at : (operator : Binary) (k ka kb la lb : Kind) → la ≡ ka → lb ≡ kb → binary_row operator k ka kb ≡ true → binary_row operator k la lb ≡ true
    row_at operator k ka kb la lb p q h = subst (λ x. binary_row operator k x lb ≡ true) (sym p) (subst (λ x. binary_row operator k ka x ≡ true) (sym q) h)

    both_fits : (operator : Binary) (k ka kb : Kind) (f g : Expr) → Fits ka true f → Fits kb true g → binary_row operator k ka kb ≡ true → Fits k true (Both' (note place k) operator u f v g)
    both_fits operator k ka kb f g p q r = (and_from _ _ (and_from _ _ (row_at operator k ka kb (noted f) (noted g) p.1 q.1 r) (and_from _ _ p.2 q.2)) (and_from _ _ p.0 q.0), refl, refl)

    module _ (operator : Binary) (p q : Found) (a b f g : Expr) (hp : Holds p a f) (hq : Holds q b g) where
      -- operands of one kind k, which free ones take; the operator gives the kind l
      one_kind_holds : (w : Found) (o : Option Kind) (l k : Kind) → w ≡ Of l true → o ≡ Some k → binary_row operator l k k ≡ true
          → matches k p ≡ true → is_sure p ≡ true → matches k q ≡ true → is_sure q ≡ true → taking_refusals o p a ≡ [] → taking_refusals o q b ≡ []
          → Holds w (Both' place operator u a v b) (Both' (note_part place w) operator u (filled_if_free o p f) v (filled_if_free o q g))
      one_kind_holds w o l k e eo row mp sp mq sq ra rb =
          subst (λ x. Holds x (Both' place operator u a v b) (Both' (note_part place x) operator u (filled_if_free o p f) v (filled_if_free o q g))) (sym e)
          (both_fits operator l k k (filled_if_free o p f) (filled_if_free o q g) (sure_operand k p o a f hp mp sp eo ra) (sure_operand k q o b g hq mq sq eo rb) row)

      arithmetic_one : ((k : Kind) → is_integer k ≡ true → binary_row operator k k k ≡ true) → IsOneKind p q → is_broken (arithmetic_part p q) ≡ false
          → taking_refusals (taken (arithmetic_part p q)) p a ≡ [] → taking_refusals (taken (arithmetic_part p q)) q b ≡ []
          → Holds (arithmetic_part p q) (Both' place operator u a v b) (Both' (note_part place (arithmetic_part p q)) operator u (filled_if_free (taken (arithmetic_part p q)) p f) v (filled_if_free (taken (arithmetic_part p q)) q g))
      arithmetic_one row j h ra rb =
          let k = j.0 in
          let i = arithmetic_is p q (ready p a f hp) (ready q b g hq) k j.1 j.2 h in
          let s = j.5 i.2 in
          one_kind_holds (arithmetic_part p q) (taken (arithmetic_part p q)) k k i.0 (ap taken i.0) (row k i.1) j.3 s.0 j.4 s.1 ra rb

      order_one : ((k : Kind) → is_integer k ≡ true → binary_row operator kind.Bool k k ≡ true) → IsOneKind p q → is_broken (order_part p q) ≡ false
          → taking_refusals (where_it_holds (order_part p q) (compared (joint p q))) p a ≡ [] → taking_refusals (where_it_holds (order_part p q) (compared (joint p q))) q b ≡ []
          → Holds (order_part p q) (Both' place operator u a v b) (Both' (note_part place (order_part p q)) operator u (filled_if_free (where_it_holds (order_part p q) (compared (joint p q))) p f) v (filled_if_free (where_it_holds (order_part p q) (compared (joint p q))) q g))
      order_one row j h ra rb =
          let k = j.0 in
          let i = order_is p q (ready p a f hp) (ready q b g hq) k j.1 j.2 h in
          let s = j.5 i.2 in
          one_kind_holds (order_part p q) (where_it_holds (order_part p q) (compared (joint p q))) kind.Bool k i.0
          (ap (λ x. where_it_holds x (compared (joint p q))) i.0 ∙ ap compared j.2) (row k i.1) j.3 s.0 j.4 s.1 ra rb

      equality_one : ((k : Kind) → binary_row operator kind.Bool k k ≡ true) → IsOneKind p q → is_broken (equality_part p q) ≡ false
          → taking_refusals (where_it_holds (equality_part p q) (compared (joint p q))) p a ≡ [] → taking_refusals (where_it_holds (equality_part p q) (compared (joint p q))) q b ≡ []
          → Holds (equality_part p q) (Both' place operator u a v b) (Both' (note_part place (equality_part p q)) operator u (filled_if_free (where_it_holds (equality_part p q) (compared (joint p q))) p f) v (filled_if_free (where_it_holds (equality_part p q) (compared (joint p q))) q g))
      equality_one row j h ra rb =
          let k = j.0 in
          let i = equality_is p q (ready p a f hp) (ready q b g hq) k j.1 j.2 h in
          let s = j.5 i.1 in
          one_kind_holds (equality_part p q) (where_it_holds (equality_part p q) (compared (joint p q))) kind.Bool k i.0
          (ap (λ x. where_it_holds x (compared (joint p q))) i.0 ∙ ap compared j.2) (row k) j.3 s.0 j.4 s.1 ra rb

      truth_fits : (x : Found) (e m : Expr) → Holds x e m → matches kind.Bool x ≡ true → is_sure x ≡ true → Fits kind.Bool true m
      truth_fits (Of l c) e m h mk s = fits_at l kind.Bool c true m (kind_is l kind.Bool mk) s h
      truth_fits Free e m h mk s = never_back mk
      truth_fits Unknown e m h mk s = absurd h
      truth_fits Broken e m h mk s = absurd h

      connected_holds : binary_row operator kind.Bool kind.Bool kind.Bool ≡ true → is_broken (connected_part p q) ≡ false
          → Holds (connected_part p q) (Both' place operator u a v b) (Both' (note_part place (connected_part p q)) operator u f v g)
      connected_holds row h =
          let i = connected_is p q (ready p a f hp) (ready q b g hq) h in
          subst (λ x. Holds x (Both' place operator u a v b) (Both' (note_part place x) operator u f v g)) (sym i.0)
          (both_fits operator kind.Bool kind.Bool kind.Bool f g (truth_fits p a f hp i.1 i.2) (truth_fits q b g hq i.3 i.4) row)

    arithmetic_holds : (operator : Binary) (p q : Found) (a b f g : Expr) → Holds p a f → Holds q b g → ((k : Kind) → is_integer k ≡ true → binary_row operator k k k ≡ true) → is_broken (arithmetic_part p q) ≡ false
        → taking_refusals (taken (arithmetic_part p q)) p a ≡ [] → taking_refusals (taken (arithmetic_part p q)) q b ≡ []
        → Holds (arithmetic_part p q) (Both' place operator u a v b) (Both' (note_part place (arithmetic_part p q)) operator u (filled_if_free (taken (arithmetic_part p q)) p f) v (filled_if_free (taken (arithmetic_part p q)) q g))
    arithmetic_holds operator Free Free a b f g hp hq row h ra rb = λ k i r. both_fits operator k k k (given_kind k f) (given_kind k g) (hp k i (none_left _ _ r)) (hq k i (none_right (free_refusals k a) (free_refusals k b) r)) (row k i)
    arithmetic_holds operator (Of k c) q a b f g hp hq row h ra rb = arithmetic_one operator (Of k c) q a b f g hp hq row (one_kind k c q (ready q b g hq) (arithmetic_joint (Of k c) q refl (ready q b g hq) h)) h ra rb
    arithmetic_holds operator Free (Of k c) a b f g hp hq row h ra rb = arithmetic_one operator Free (Of k c) a b f g hp hq row (free_kind k c (arithmetic_joint Free (Of k c) refl refl h)) h ra rb
    arithmetic_holds operator Free Unknown a b f g hp hq row h ra rb = absurd hq
    arithmetic_holds operator Free Broken a b f g hp hq row h ra rb = absurd hq
    arithmetic_holds operator Unknown q a b f g hp hq row h ra rb = absurd hp
    arithmetic_holds operator Broken q a b f g hp hq row h ra rb = absurd hp

    order_holds : (operator : Binary) (p q : Found) (a b f g : Expr) → Holds p a f → Holds q b g → ((k : Kind) → is_integer k ≡ true → binary_row operator kind.Bool k k ≡ true) → is_broken (order_part p q) ≡ false
        → taking_refusals (where_it_holds (order_part p q) (compared (joint p q))) p a ≡ [] → taking_refusals (where_it_holds (order_part p q) (compared (joint p q))) q b ≡ []
        → Holds (order_part p q) (Both' place operator u a v b) (Both' (note_part place (order_part p q)) operator u (filled_if_free (where_it_holds (order_part p q) (compared (joint p q))) p f) v (filled_if_free (where_it_holds (order_part p q) (compared (joint p q))) q g))
    order_holds operator Free Free a b f g hp hq row h ra rb = one_kind_holds operator Free Free a b f g hp hq a_truth (Some kind.Int64) kind.Bool kind.Int64 refl refl (row kind.Int64 refl) refl refl refl refl ra rb
    order_holds operator (Of k c) q a b f g hp hq row h ra rb = order_one operator (Of k c) q a b f g hp hq row (one_kind k c q (ready q b g hq) (order_joint (Of k c) q refl (ready q b g hq) h)) h ra rb
    order_holds operator Free (Of k c) a b f g hp hq row h ra rb = order_one operator Free (Of k c) a b f g hp hq row (free_kind k c (order_joint Free (Of k c) refl refl h)) h ra rb
    order_holds operator Free Unknown a b f g hp hq row h ra rb = absurd hq
    order_holds operator Free Broken a b f g hp hq row h ra rb = absurd hq
    order_holds operator Unknown q a b f g hp hq row h ra rb = absurd hp
    order_holds operator Broken q a b f g hp hq row h ra rb = absurd hp

    equality_holds : (operator : Binary) (p q : Found) (a b f g : Expr) → Holds p a f → Holds q b g → ((k : Kind) → binary_row operator kind.Bool k k ≡ true) → is_broken (equality_part p q) ≡ false
        → taking_refusals (where_it_holds (equality_part p q) (compared (joint p q))) p a ≡ [] → taking_refusals (where_it_holds (equality_part p q) (compared (joint p q))) q b ≡ []
        → Holds (equality_part p q) (Both' place operator u a v b) (Both' (note_part place (equality_part p q)) operator u (filled_if_free (where_it_holds (equality_part p q) (compared (joint p q))) p f) v (filled_if_free (where_it_holds (equality_part p q) (compared (joint p q))) q g))
    equality_holds operator Free Free a b f g hp hq row h ra rb = one_kind_holds operator Free Free a b f g hp hq a_truth (Some kind.Int64) kind.Bool kind.Int64 refl refl (row kind.Int64) refl refl refl refl ra rb
    equality_holds operator (Of k c) q a b f g hp hq row h ra rb = equality_one operator (Of k c) q a b f g hp hq row (one_kind k c q (ready q b g hq) (equality_joint (Of k c) q refl (ready q b g hq) h)) h ra rb
    equality_holds operator Free (Of k c) a b f g hp hq row h ra rb = equality_one operator Free (Of k c) a b f g hp hq row (free_kind k c (equality_joint Free (Of k c) refl refl h)) h ra rb
    equality_holds operator Free Unknown a b f g hp hq row h ra rb = absurd hq
    equality_holds operator Free Broken a b f g hp hq row h ra rb = absurd hq
    equality_holds operator Unknown q a b f g hp hq row h ra rb = absurd hp
    equality_holds operator Broken q a b f g hp hq row h ra rb = absurd hp

    arithmetic_self : (k : Kind) → is_integer k ≡ true → (is_integer k && (same_kind k k && same_kind k k)) ≡ true
    arithmetic_self k i = and_from _ _ i (and_from _ _ (same_self k) (same_self k))

    order_self : (k : Kind) → is_integer k ≡ true → (is_integer k && same_kind k k) ≡ true
    order_self k i = and_from _ _ i (same_self k)

    pub binary_holds : (operator : Binary) (p q : Found) (a b f g : Expr) → Holds p a f → Holds q b g → is_broken (binary_part operator p q) ≡ false
        → taking_refusals (operand_kind operator (binary_part operator p q) (joint p q)) p a ≡ [] → taking_refusals (operand_kind operator (binary_part operator p q) (joint p q)) q b ≡ []
        → Holds (binary_part operator p q) (Both' place operator u a v b) (Both' (note_part place (binary_part operator p q)) operator u (filled_if_free (operand_kind operator (binary_part operator p q) (joint p q)) p f) v (filled_if_free (operand_kind operator (binary_part operator p q) (joint p q)) q g))
    binary_holds binary.Add p q a b f g hp hq h ra rb = arithmetic_holds binary.Add p q a b f g hp hq arithmetic_self h ra rb
    binary_holds binary.Sub p q a b f g hp hq h ra rb = arithmetic_holds binary.Sub p q a b f g hp hq arithmetic_self h ra rb
    binary_holds binary.Mul p q a b f g hp hq h ra rb = arithmetic_holds binary.Mul p q a b f g hp hq arithmetic_self h ra rb
    binary_holds binary.Div p q a b f g hp hq h ra rb = arithmetic_holds binary.Div p q a b f g hp hq arithmetic_self h ra rb
    binary_holds binary.Rem p q a b f g hp hq h ra rb = arithmetic_holds binary.Rem p q a b f g hp hq arithmetic_self h ra rb
    binary_holds binary.Less p q a b f g hp hq h ra rb = order_holds binary.Less p q a b f g hp hq order_self h ra rb
    binary_holds binary.LessEqual p q a b f g hp hq h ra rb = order_holds binary.LessEqual p q a b f g hp hq order_self h ra rb
    binary_holds binary.Greater p q a b f g hp hq h ra rb = order_holds binary.Greater p q a b f g hp hq order_self h ra rb
    binary_holds binary.GreaterEqual p q a b f g hp hq h ra rb = order_holds binary.GreaterEqual p q a b f g hp hq order_self h ra rb
    binary_holds binary.Equal p q a b f g hp hq h ra rb = equality_holds binary.Equal p q a b f g hp hq same_self h ra rb
    binary_holds binary.Different p q a b f g hp hq h ra rb = equality_holds binary.Different p q a b f g hp hq same_self h ra rb
    binary_holds binary.And p q a b f g hp hq h ra rb = connected_holds binary.And p q a b f g hp hq refl h
    binary_holds binary.Or p q a b f g hp hq h ra rb = connected_holds binary.Or p q a b f g hp hq refl h
