-- A specification whose rates are in lowest terms has one refusal for pacings or one list of pacings, and so has a text.
use Rattle.std.proofs.Common.{◌≡◌, sym, subst, ◌∙◌, ℕ, List, [], Contains}
use Rattle.lola_value.specs.declared.front.Refusal.{Refusal}
use Rattle.lola_parser_grammar.specs.declared.declarations.Declaration.{Declaration}
use Rattle.lola_model.specs.PacingFound.{finding_at}
use Rattle.lola_model.specs.Pacings.{ArePacings, Found, refusals_of}
use Rattle.lola_model.specs.Refusals.{IsFirstIn}
use Rattle.lola_model.specs.declared.pacing.ClausePacings.{ClausePacings}
use Rattle.lola_model.specs.declared.spec.Spec.{Spec}
use Rattle.lola_model.specs.declared.spec.WindowSpec.{WindowSpec}
use Rattle.lola_model.proofs.FirstRefusal.{same_refusal}
use Rattle.lola_model.proofs.Strictly.{Contains-none}
use Rattle.lola_names.specs.Specification.{Resolves}
use Rattle.lola_names.specs.Targets.{targets_of}
use Rattle.lola_front.specs.Front.{IsFull, IsPacingRefusal}
use Rattle.lola_front_law.specs.OnePacing.{AreLowest, HasOneFinding, HasOnePacing}
use Rattle.lola_front_law.proofs.Deciding.{one_reading}
use Rattle.lola_front_law.proofs.KindLemmas.{specs_alike}
use Rattle.lola_front_law.proofs.OneFinding.{HasLowestRate}
use Rattle.lola_front_law.proofs.LowestRates.{filled_lowest, owns_lowest, streams_lowest}
use Rattle.lola_front_law.proofs.PacedAlike.{streams_paced}
use Rattle.lola_front_law.proofs.PacedRefusals.{same_pacings, same_refusals}
use Rattle.lola_front_law.proofs.PacedStreams.{PacedStreams, streams_themselves}

none_first : (rs : List Refusal) (r : Refusal) → rs ≡ [] → IsFirstIn rs r → ⊥
none_first rs r e h = Contains-none r (subst (λ (l : List Refusal). Contains l r) e h.listed)

one_first : (rs : List Refusal) (r q : Refusal) → IsFirstIn rs r → IsFirstIn rs q → r ≡ q
one_first rs r q a b = same_refusal r q (b.first r a.listed) (a.first q b.listed)

-- ---- of one specification

module _ (full : Spec) (low : AreLowest full.streams) where
  same_refused : (f g : Found full) → refusals_of full f ≡ refusals_of full g
  same_refused f g =
      same_refusals full full (streams_themselves full.windows full.streams) f g (λ n. owns_lowest 0 full.streams g.owns n low g.are.are_own)

  one_pacings : (ps qs : List ClausePacings) → ArePacings full ps → ArePacings full qs → ps ≡ qs
  one_pacings ps qs x y =
      x.are
      ∙ (same_pacings full full (streams_themselves full.windows full.streams) x.found y.found (λ n. owns_lowest 0 full.streams y.found.owns n low y.found.are.are_own)
      ∙ sym y.are)

  pub has_one_finding : HasOneFinding full
  has_one_finding = record {
    one_list = one_pacings;
    is_either = λ ps r x a. none_first (refusals_of full a.found) r (same_refused a.found x.found ∙ x.accepted) a.first;
    one_refusal = λ r q a b.
        one_first (refusals_of full b.found) r q (subst (λ (rs : List Refusal). IsFirstIn rs r) (same_refused a.found b.found) a.first) b.first;
  }

-- ---- of a text

module _ (bytes : List ℕ) where
  paced_alike : (full other : Spec) → IsFull bytes full → IsFull bytes other → PacedStreams full.windows other.windows full.streams other.streams
  paced_alike full other a b =
      let ds = b.resolved.declarations in
      let same = one_reading bytes a.resolved.declarations ds a.resolved.read b.resolved.read in
      let x : Resolves ds a.spec = subst (λ (l : List Declaration). Resolves l a.spec) same a.resolved.resolves in
      let y : Resolves ds b.spec = b.resolved.resolves in
      let alike = specs_alike ds a.spec b.spec x y in
      let paced = streams_paced a.spec.windows b.spec.windows _ _ _ _ a.spec.streams full.streams b.spec.streams other.streams a.filled.streams alike b.filled.streams in
      subst (λ (ws : List WindowSpec). PacedStreams ws other.windows full.streams other.streams) (sym a.filled.windows)
      (subst (λ (ws : List WindowSpec). PacedStreams a.spec.windows ws full.streams other.streams) (sym b.filled.windows) paced)

  lowest : (full : Spec) → IsFull bytes full → AreLowest full.streams
  lowest full a =
      let ds = a.resolved.declarations in
      filled_lowest _ _ a.spec.streams full.streams a.filled.streams
      (streams_lowest ds (targets_of ds) a.spec.texts a.spec.windows 0 0 ds a.spec.streams a.resolved.resolves.streams)

  own_lowest : (full : Spec) → IsFull bytes full → (g : Found full) (n : ℕ) → HasLowestRate (finding_at g.owns n)
  own_lowest full a g n = owns_lowest 0 full.streams g.owns n (lowest full a) g.are.are_own

  -- whatever is found, the same is refused
  refused_once : (full other : Spec) → IsFull bytes full → IsFull bytes other → (f : Found full) (g : Found other) → refusals_of full f ≡ refusals_of other g
  refused_once full other a b f g = same_refusals full other (paced_alike full other a b) f g (own_lowest other b g)

  one_list : (full other : Spec) (ps qs : List ClausePacings) → IsFull bytes full → IsFull bytes other → ArePacings full ps → ArePacings other qs → ps ≡ qs
  one_list full other ps qs a b x y = x.are ∙ (same_pacings full other (paced_alike full other a b) x.found y.found (own_lowest other b y.found) ∙ sym y.are)

  is_either : (full : Spec) (ps : List ClausePacings) (r : Refusal) → IsFull bytes full → ArePacings full ps → IsPacingRefusal bytes r → ⊥
  is_either full ps r a x b =
      let same = refused_once b.full full b.is_full a b.refused.found x.found in
      none_first (refusals_of b.full b.refused.found) r (same ∙ x.accepted) b.refused.first

  one_refusal : (r q : Refusal) → IsPacingRefusal bytes r → IsPacingRefusal bytes q → r ≡ q
  one_refusal r q a b =
      let same = refused_once a.full b.full a.is_full b.is_full a.refused.found b.refused.found in
      one_first (refusals_of b.full b.refused.found) r q (subst (λ (rs : List Refusal). IsFirstIn rs r) same a.refused.first) b.refused.first

  pub has_one_pacing : HasOnePacing bytes
  has_one_pacing = record {
    one_list = one_list;
    is_either = is_either;
    one_refusal = one_refusal;
    no_plan = λ plan r p a. is_either plan.spec plan.pacings r p.full p.accepted.paced a;
    no_later = λ q r cycle a. is_either cycle.full cycle.cycle.pacings r cycle.is_full cycle.cycle.paced a;
  }
