-- What the phase answers, where all is found.
use Rattle.std.proofs.Common.{◌≡◌, ap, sym, subst, ◌∙◌, List, [], Option, Some, None}
use Rattle.lola_value.specs.declared.front.Code.{Code}
use Rattle.lola_value.specs.declared.front.Refusal.{Refusal}
use Rattle.lola_model.specs.Refusals.{first_of, IsFirstIn, IsFirstOf}
use Rattle.lola_model.proofs.FirstRefusal.{means_first}
use Rattle.lola_model.specs.declared.pacing.ClausePacings.{ClausePacings}
use Rattle.lola_model.specs.declared.spec.Spec.{Spec}
use Rattle.lola_model.specs.declared.spec.Stream.{Stream}
use Rattle.lola_model.specs.declared.finding.FoundPacing.{FoundPacing}
use Rattle.lola_model.specs.Pacings.{AreFound, Found, refusals_from, pacings_from, ArePacings, IsRefused}

-- equal findings give equal refusals
same_refusals : (t s : List Stream) (k a l b m c : List FoundPacing) (u v : List (Option Code)) → t ≡ s → k ≡ a → l ≡ b → m ≡ c → u ≡ v
    → refusals_from t k l m u 0 t ≡ refusals_from s a b c v 0 s
same_refusals t s k a l b m c u v e f g h i =
    ap (λ (x : List Stream). refusals_from x k l m u 0 x) e
    ∙ ap (λ (x : List FoundPacing). refusals_from s x l m u 0 s) f
    ∙ ap (λ (x : List FoundPacing). refusals_from s a x m u 0 s) g
    ∙ ap (λ (x : List FoundPacing). refusals_from s a b x u 0 s) h
    ∙ ap (λ (x : List (Option Code)). refusals_from s a b c x 0 s) i

same_pacings : (t s : List Stream) (k a l b m c : List FoundPacing) → t ≡ s → k ≡ a → l ≡ b → m ≡ c → pacings_from k l m 0 t ≡ pacings_from a b c 0 s
same_pacings t s k a l b m c e f g h =
    ap (λ (x : List Stream). pacings_from k l m 0 x) e
    ∙ ap (λ (x : List FoundPacing). pacings_from x l m 0 s) f
    ∙ ap (λ (x : List FoundPacing). pacings_from a x m 0 s) g
    ∙ ap (λ (x : List FoundPacing). pacings_from a b x 0 s) h

first_found : (list : List Refusal) (r : Refusal) → first_of list ≡ Some r → IsFirstIn list r
first_found list r e = subst (λ (o : Option Refusal). IsFirstOf list o) e (means_first.is_first list)

nothing_found : (list : List Refusal) → first_of list ≡ None → list ≡ []
nothing_found list e = subst (λ (o : Option Refusal). IsFirstOf list o) e (means_first.is_first list)

module _ (spec : Spec) (owns a b c : List FoundPacing) (v : List (Option Code)) (are : AreFound spec owns a b c v) where
  abbrev all : Found spec
  all = record { owns = owns; spawns = a; evals = b; closes = c; window_refusals = v; are = are }

  module _ (t : List Stream) (k l m : List FoundPacing) (u : List (Option Code)) (list : List Refusal) where
    -- a refusal is first
    pub is_refused : (r : Refusal) → t ≡ spec.streams → k ≡ a → l ≡ b → m ≡ c → u ≡ v → list ≡ refusals_from t k l m u 0 t → first_of list ≡ Some r → IsRefused spec r
    is_refused r e f g h i is first =
        let same = is ∙ same_refusals t spec.streams k a l b m c u v e f g h i in
        record { found = all; first = subst (λ (rs : List Refusal). IsFirstIn rs r) same (first_found list r first) }

    -- or there is none
    pub are_pacings : (x y z : List FoundPacing) (ps : List ClausePacings) → t ≡ spec.streams → k ≡ a → l ≡ b → m ≡ c → u ≡ v → list ≡ refusals_from t k l m u 0 t → first_of list ≡ None
        → x ≡ a → y ≡ b → z ≡ c → ps ≡ pacings_from x y z 0 t → ArePacings spec ps
    are_pacings x y z ps e f g h i is first p q r are_ps =
        let same = is ∙ same_refusals t spec.streams k a l b m c u v e f g h i in
        record { found = all; accepted = sym same ∙ nothing_found list first; are = are_ps ∙ same_pacings t spec.streams x a y b z c e p q r }
