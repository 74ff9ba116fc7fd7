-- All specifications of declarations, and of a text with kinds filled in, have one plain form.
use Rattle.std.proofs.Common.{◌≡◌, subst, ℕ, List}
use Rattle.lola_parser_grammar.specs.declared.declarations.Declaration.{Declaration}
use Rattle.lola_model.specs.declared.spec.Spec.{Spec}
use Rattle.lola_names.specs.Specification.{Resolves}
use Rattle.lola_front.specs.Front.{IsFull}
use Rattle.lola_front_law.specs.Alike.{plain_spec}
use Rattle.lola_front_law.proofs.AlikePlans.{same_windows}
use Rattle.lola_front_law.proofs.Deciding.{one_reading}
use Rattle.lola_front_law.proofs.KindLemmas.{specs_alike}
use Rattle.lola_front_law.proofs.PlainKinds.{filled_alike}
use Rattle.lola_front_law.proofs.PlainSpecs.{resolved_plain}

pub resolved_alike : (ds : List Declaration) (spec other : Spec) → Resolves ds spec → Resolves ds other → plain_spec spec ≡ plain_spec other
resolved_alike ds spec other x y = resolved_plain ds spec other x y (same_windows spec other ds x y (specs_alike ds spec other x y))

pub full_plain : (bytes : List ℕ) (full other : Spec) → IsFull bytes full → IsFull bytes other → plain_spec full ≡ plain_spec other
full_plain bytes full other a b =
    let ds = b.resolved.declarations in
    let same = one_reading bytes a.resolved.declarations ds a.resolved.read b.resolved.read in
    let x = subst (λ (l : List Declaration). Resolves l a.spec) same a.resolved.resolves in
    filled_alike a.spec b.spec full other (resolved_alike ds a.spec b.spec x b.resolved.resolves) a.filled b.filled
