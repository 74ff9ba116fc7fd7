-- Parts that are taken one after another.
use Rattle.std.proofs.Common.{◌≡◌, ap, subst, sym, ◌∙◌, ℕ, ◌+◌, ◌<◌, List, [], ◌∷◌, ◌++◌, drop, get_or, length}
use Rattle.std.proofs.lemmas.List.{drop_more}
use Rattle.lola_model.specs.Parts.{listed, listed_with, listed_stream, listed_streams}
use Rattle.lola_model.specs.declared.expr.Expr.{Expr}
use Rattle.lola_model.specs.declared.spec.Stream.{Stream}
use Rattle.lola_model.specs.Visits.{parts_of, TakesAll}
use Rattle.lola_model.specs.declared.part.ReadPart.{ReadPart}

-- some parts and then others
pub takes_both : {T : Type 0} (takes : ReadPart → T → T → Type 0) (ps qs : List ReadPart) (old mid new : T) → TakesAll takes ps old mid → TakesAll takes qs mid new → TakesAll takes (ps ++ qs) old new
takes_both takes [] qs old mid new h k = subst (λ t. TakesAll takes qs t new) (sym h) k
takes_both takes (p ∷ ps) qs old mid new h k = (h.0, h.1, takes_both takes ps qs h.0 mid new h.2 k)

-- of the expressions that are left the first, and the others
pub with_left : (es : List Expr) (i : ℕ) (x : Expr) → i < length es → x ≡ get_or es i x → listed_with parts_of (drop i es) ≡ listed parts_of x ++ listed_with parts_of (drop (i + 1) es)
with_left es i x lt is = ap (listed_with parts_of) (drop_more es i x lt ∙ ap (λ y. y ∷ drop (i + 1) es) (sym is))

-- of the streams that are left the first, and the others
pub streams_left : (ss : List Stream) (i : ℕ) (x : Stream) → i < length ss → x ≡ get_or ss i x → listed_streams parts_of (drop i ss) ≡ listed_stream parts_of x ++ listed_streams parts_of (drop (i + 1) ss)
streams_left ss i x lt is = ap (listed_streams parts_of) (drop_more ss i x lt ∙ ap (λ y. y ∷ drop (i + 1) ss) (sym is))
