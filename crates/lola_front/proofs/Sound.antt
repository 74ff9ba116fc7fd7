-- Expressions of which nothing is refused, part by part.
use Rattle.std.proofs.Common.{◌≡◌, refl, ap, sym, subst, Bool, true, false, []}
use Rattle.std.proofs.lemmas.Bool.{and_from}
use Rattle.lola_value.specs.declared.value.Kind.{Kind}
use Rattle.lola_value.specs.declared.value.Kind.TheVariants as kind
use Rattle.lola_value.specs.Kinds.{is_signed}
use Rattle.lola_model.specs.Typing.{Scope, noted, prefix_row}
use Rattle.lola_model.specs.declared.expr.Place.{Place}
use Rattle.lola_model.specs.declared.expr.Prefix.{Prefix}
use Rattle.lola_model.specs.declared.expr.Prefix.TheVariants as prefix
use Rattle.lola_model.specs.declared.expr.Expr.{Expr}
use Rattle.lola_model.specs.declared.expr.Expr.TheVariants.{Defaults', Unary', Choice'}
use Rattle.lola_model.proofs.Build.{Around}
use Rattle.lola_types.specs.Found.{is_broken, prefix_part, defaults_part, choice_part}
use Rattle.lola_types.specs.Refused.{taken, operator_refusals, free_refusals, taking_refusals}
use Rattle.lola_types.specs.Filled.{note, note_part, given_kind, filled_if_free}
use Rattle.lola_types.specs.declared.found.Found.{Found}
use Rattle.lola_types.specs.declared.found.Found.TheVariants.{Of, Free, Unknown, Broken}
use Rattle.lola_front.proofs.Bools.{never, never_back, none_left, none_right, taken_where}
use Rattle.lola_front.proofs.Rows.{kind_is, same_self, same_where, matches, is_sure, IsOneKind, one_kind, free_kind, defaults_joint, choice_joint, defaults_is, choice_is, signed_is, truth_is, truth_where}
use Rattle.lola_front.proofs.Holds.{Fits, Holds, ready, fits_at, operand, sure_operand}

module _ (z : Scope) where
  truth_fits : (x : Found) (e m : Expr) → Holds z x e m → matches kind.Bool x ≡ true → is_sure x ≡ true → Fits z kind.Bool true m
  truth_fits (Of l c) e m h mk s = fits_at z l kind.Bool c true m (kind_is l kind.Bool mk) s h
  truth_fits Free e m h mk s = never_back mk
  truth_fits Unknown e m h mk s = absurd h
  truth_fits Broken e m h mk s = absurd h

  -- prefix operators

  row_at : (operator : Prefix) (k ka la : Kind) → la ≡ ka → prefix_row operator k ka ≡ true → prefix_row operator k la ≡ true
  row_at operator k ka la p h = subst (λ x. prefix_row operator k x ≡ true) (sym p) h

  module _ (place : Place) (u : Around) where
    unary_fits : (operator : Prefix) (k ka : Kind) (f : Expr) → Fits z ka true f → prefix_row operator k ka ≡ true → Fits z k true (Unary' (note place k) operator u f)
    unary_fits operator k ka f p r = (and_from _ _ (and_from _ _ (row_at operator k ka (noted f) p.1 r) p.2) p.0, refl, refl)

    pub prefix_holds : (operator : Prefix) (p : Found) (a f : Expr) → Holds z p a f → is_broken (prefix_part operator p) ≡ false → taking_refusals (taken (prefix_part operator p)) p a ≡ []
        → Holds z (prefix_part operator p) (Unary' place operator u a) (Unary' (note_part place (prefix_part operator p)) operator u (filled_if_free (taken (prefix_part operator p)) p f))
    prefix_holds prefix.Not (Of k c) a f hp h r =
        let i = truth_is (Of k c) refl h in
        subst (λ x. Holds z x (Unary' place prefix.Not u a) (Unary' (note_part place x) prefix.Not u (filled_if_free (taken x) (Of k c) f))) (sym i.0)
        (unary_fits prefix.Not kind.Bool kind.Bool f (truth_fits (Of k c) a f hp i.1 i.2) refl)
    prefix_holds prefix.Not Free a f hp h r = never h
    prefix_holds prefix.Not Unknown a f hp h r = absurd hp
    prefix_holds prefix.Not Broken a f hp h r = absurd hp
    prefix_holds prefix.Minus (Of k c) a f hp h r =
        let i = signed_is k c h in
        subst (λ x. Holds z x (Unary' place prefix.Minus u a) (Unary' (note_part place x) prefix.Minus u (filled_if_free (taken x) (Of k c) f))) (sym i.0)
        (unary_fits prefix.Minus k k f (fits_at z k k c true f refl i.2 hp) (and_from _ _ i.1 (same_self k)))
    prefix_holds prefix.Minus Free a f hp h r = λ k i q.
        unary_fits prefix.Minus k k (given_kind k f) (hp k i (none_right (operator_refusals place.at prefix.Minus k) (free_refusals k a) q))
        (and_from _ _ (taken_where (is_signed k) _ _ (none_left (operator_refusals place.at prefix.Minus k) (free_refusals k a) q)) (same_self k))
    prefix_holds prefix.Minus Unknown a f hp h r = absurd hp
    prefix_holds prefix.Minus Broken a f hp h r = absurd hp

  -- defaults

  module _ (place : Place) (u v : Around) where
    defaults_fits : (k : Kind) (c : Bool) (f g : Expr) → Fits z k c f → Fits z k true g → Fits z k true (Defaults' (note place k) u f v g)
    defaults_fits k c f g p q = (and_from _ _ (and_from _ _ (same_where _ _ p.1) (and_from _ _ (same_where _ _ q.1) q.2)) (and_from _ _ p.0 q.0), refl, refl)

    module _ (p q : Found) (a b f g : Expr) (hp : Holds z p a f) (hq : Holds z q b g) where
      defaults_one : IsOneKind p q → is_broken (defaults_part p q) ≡ false
          → taking_refusals (taken (defaults_part p q)) p a ≡ [] → taking_refusals (taken (defaults_part p q)) q b ≡ []
          → Holds z (defaults_part p q) (Defaults' place u a v b) (Defaults' (note_part place (defaults_part p q)) u (filled_if_free (taken (defaults_part p q)) p f) v (filled_if_free (taken (defaults_part p q)) q g))
      defaults_one j h ra rb =
          let k = j.0 in
          let o = taken (defaults_part p q) in
          let i = defaults_is p q (ready z p a f hp) (ready z q b g hq) k j.1 j.2 h in
          subst (λ x. Holds z x (Defaults' place u a v b) (Defaults' (note_part place x) u (filled_if_free o p f) v (filled_if_free o q g))) (sym i.0)
          (defaults_fits k (is_sure p) (filled_if_free o p f) (filled_if_free o q g) (operand z k p o a f hp j.3 (ap taken i.0) ra) (sure_operand z k q o b g hq j.4 i.1 (ap taken i.0) rb))

    pub defaults_holds : (p q : Found) (a b f g : Expr) → Holds z p a f → Holds z q b g → is_broken (defaults_part p q) ≡ false
        → taking_refusals (taken (defaults_part p q)) p a ≡ [] → taking_refusals (taken (defaults_part p q)) q b ≡ []
        → Holds z (defaults_part p q) (Defaults' place u a v b) (Defaults' (note_part place (defaults_part p q)) u (filled_if_free (taken (defaults_part p q)) p f) v (filled_if_free (taken (defaults_part p q)) q g))
    defaults_holds Free Free a b f g hp hq h ra rb = λ k i r. defaults_fits k true (given_kind k f) (given_kind k g) (hp k i (none_left (free_refusals k a) (free_refusals k b) r)) (hq k i (none_right (free_refusals k a) (free_refusals k b) r))
    defaults_holds (Of k c) q a b f g hp hq h ra rb = defaults_one (Of k c) q a b f g hp hq (one_kind k c q (ready z q b g hq) (defaults_joint (Of k c) q refl (ready z q b g hq) h)) h ra rb
    defaults_holds Free (Of k c) a b f g hp hq h ra rb = defaults_one Free (Of k c) a b f g hp hq (free_kind k c (defaults_joint Free (Of k c) refl refl h)) h ra rb
    defaults_holds Free Unknown a b f g hp hq h ra rb = absurd hq
    defaults_holds Free Broken a b f g hp hq h ra rb = absurd hq
    defaults_holds Unknown q a b f g hp hq h ra rb = absurd hp
    defaults_holds Broken q a b f g hp hq h ra rb = absurd hp

  -- choices

  module _ (place : Place) (u v w : Around) where
    choice_fits : (k : Kind) (m f g : Expr) → Fits z kind.Bool true m → Fits z k true f → Fits z k true g → Fits z k true (Choice' (note place k) u m v f w g)
    choice_fits k m f g t p q =
        (and_from _ _ (and_from _ _ (same_where _ _ t.1) (and_from _ _ (and_from _ _ (same_where _ _ p.1) (same_where _ _ q.1)) (and_from _ _ t.2 (and_from _ _ p.2 q.2)))) (and_from _ _ t.0 (and_from _ _ p.0 q.0)), refl, refl)

    module _ (t : Found) (e m : Expr) (ht : Holds z t e m) where
      module _ (p q : Found) (a b f g : Expr) (hp : Holds z p a f) (hq : Holds z q b g) where
        choice_one : IsOneKind p q → is_broken (choice_part t p q) ≡ false
            → taking_refusals (taken (choice_part t p q)) p a ≡ [] → taking_refusals (taken (choice_part t p q)) q b ≡ []
            → Holds z (choice_part t p q) (Choice' place u e v a w b) (Choice' (note_part place (choice_part t p q)) u m v (filled_if_free (taken (choice_part t p q)) p f) w (filled_if_free (taken (choice_part t p q)) q g))
        choice_one j h ra rb =
            let k = j.0 in
            let o = taken (choice_part t p q) in
            let i = choice_is p q (ready z p a f hp) (ready z q b g hq) k j.1 j.2 t (ready z t e m ht) h in
            let s = j.5 i.3 in
            subst (λ x. Holds z x (Choice' place u e v a w b) (Choice' (note_part place x) u m v (filled_if_free o p f) w (filled_if_free o q g))) (sym i.0)
            (choice_fits k m (filled_if_free o p f) (filled_if_free o q g) (truth_fits t e m ht i.1 i.2)
            (sure_operand z k p o a f hp j.3 s.0 (ap taken i.0) ra) (sure_operand z k q o b g hq j.4 s.1 (ap taken i.0) rb))

    -- and_from branches are free
    free_choice : (t : Found) (e m a b f g : Expr) → Holds z t e m → Holds z Free a f → Holds z Free b g → is_broken (choice_part t Free Free) ≡ false
        → Holds z (choice_part t Free Free) (Choice' place u e v a w b) (Choice' (note_part place (choice_part t Free Free)) u m v (filled_if_free (taken (choice_part t Free Free)) Free f) w (filled_if_free (taken (choice_part t Free Free)) Free g))
    free_choice (Of l c) e m a b f g ht hp hq h =
        let i = truth_where l c h in
        subst (λ x. Holds z x (Choice' place u e v a w b) (Choice' (note_part place x) u m v (filled_if_free (taken x) Free f) w (filled_if_free (taken x) Free g))) (sym i.0)
        (λ k n r. choice_fits k m (given_kind k f) (given_kind k g) (truth_fits (Of l c) e m ht i.1 i.2) (hp k n (none_left (free_refusals k a) (free_refusals k b) r)) (hq k n (none_right (free_refusals k a) (free_refusals k b) r)))
    free_choice Free e m a b f g ht hp hq h = never h
    free_choice Unknown e m a b f g ht hp hq h = absurd ht
    free_choice Broken e m a b f g ht hp hq h = absurd ht

    pub choice_holds : (t p q : Found) (e a b m f g : Expr) → Holds z t e m → Holds z p a f → Holds z q b g → is_broken (choice_part t p q) ≡ false
        → taking_refusals (taken (choice_part t p q)) p a ≡ [] → taking_refusals (taken (choice_part t p q)) q b ≡ []
        → Holds z (choice_part t p q) (Choice' place u e v a w b) (Choice' (note_part place (choice_part t p q)) u m v (filled_if_free (taken (choice_part t p q)) p f) w (filled_if_free (taken (choice_part t p q)) q g))
    choice_holds t Free Free e a b m f g ht hp hq h ra rb = free_choice t e m a b f g ht hp hq h
    choice_holds t (Of k c) q e a b m f g ht hp hq h ra rb = choice_one t e m ht (Of k c) q a b f g hp hq (one_kind k c q (ready z q b g hq) (choice_joint (Of k c) q refl (ready z q b g hq) t (ready z t e m ht) h)) h ra rb
    choice_holds t Free (Of k c) e a b m f g ht hp hq h ra rb = choice_one t e m ht Free (Of k c) a b f g hp hq (free_kind k c (choice_joint Free (Of k c) refl refl t (ready z t e m ht) h)) h ra rb
    choice_holds t Free Unknown e a b m f g ht hp hq h ra rb = absurd hq
    choice_holds t Free Broken e a b m f g ht hp hq h ra rb = absurd hq
    choice_holds t Unknown q e a b m f g ht hp hq h ra rb = absurd hp
    choice_holds t Broken q e a b m f g ht hp hq h ra rb = absurd hp
