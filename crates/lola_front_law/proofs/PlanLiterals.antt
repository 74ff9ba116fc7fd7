-- The text literals of a plan that a text is compiled to are in UTF-8.
use Rattle.std.proofs.Common.{◌≡◌, ℕ, zero, suc, ◌<◌, List, [], ◌∷◌, refl, subst, ap, ◌∙◌, arith, true, Some, length, slice_get}
use Rattle.std.specs.List.{list_all}
use Rattle.std.specs.Str.{is_utf8}
use Rattle.std.proofs.lemmas.Bool.{and_from}
use Rattle.lola_parser_grammar.specs.declared.declarations.Constant.{Constant as TreeConstant}
use Rattle.lola_parser_grammar.specs.declared.declarations.Declaration.{Declaration}
use Rattle.lola_parser_grammar.specs.declared.declarations.Declaration.TheVariants as d
use Rattle.lola_parser_print.specs.Print as out
use Rattle.lola_parser_law.specs.Places.{AreLexed}
use Rattle.lola_parser_law.proofs.Leaves.{lexed_front, lexed_back}
use Rattle.lola_parser_law.proofs.Round.{read_printable}
use Rattle.lola_model.specs.declared.spec.Spec.{Spec}
use Rattle.lola_names.specs.Targets.{targets_of}
use Rattle.lola_names.specs.Specification.{Resolves}
use Rattle.lola_front.specs.Front.{IsRead}
use Rattle.lola_front_law.specs.PlanTexts.{AreInUtf8}
use Rattle.lola_front_law.proofs.ExpressionTexts.{AreKnown}
use Rattle.lola_front_law.proofs.ClauseTexts.{streams-known}

-- the literal of a constant, by its place among the declarations
constant-printed : (ds : List Declaration) → AreLexed (out.specification ds) → (c : ℕ) (k : TreeConstant) → slice_get ds c ≡ Some (d.Constant k) → AreLexed (out.literal k.literal.value)
constant-printed [] h c k e = absurd (cc)
constant-printed (x ∷ ds) h zero k e =
    let same : x ≡ d.Constant k = cc in
    let here : AreLexed (out.declaration (d.Constant k)) = subst (λ (y : Declaration). AreLexed (out.declaration y)) same (lexed_front (out.declaration x) (out.specification ds) h) in
    here.1.1.1.1.1
constant-printed (x ∷ ds) h (suc c) k e = constant-printed ds (lexed_back (out.declaration x) (out.specification ds) h) c k e

-- each text that has a place is in UTF-8
all-utf8 : (ts : List (List ℕ)) → ((i : ℕ) → i < length ts → (t : List ℕ) × (slice_get ts i ≡ Some t) × (is_utf8 t ≡ true)) → list_all is_utf8 ts ≡ true
all-utf8 [] h = refl
all-utf8 (t ∷ ts) h =
    let w = h 0 (omega arith) in
    let same : w.0 ≡ t = (let e = w.1 in cc) in
    and_from (is_utf8 t) (list_all is_utf8 ts) (subst (λ (x : List ℕ). is_utf8 x ≡ true) same w.2)
    (all-utf8 ts (λ i lt. h (suc i) (omega arith)))

resolved-texts : (ds : List Declaration) (spec : Spec) → AreLexed (out.specification ds) → Resolves ds spec → list_all is_utf8 spec.texts ≡ true
resolved-texts ds spec p r =
    let known : AreKnown spec.texts _ = streams-known ds (targets_of ds) spec.texts spec.windows (constant-printed ds p) 0 0 ds spec.streams p r.streams in
    all-utf8 spec.texts (λ i lt. known i (r.texts_used i lt))

read-printed : (bytes : List ℕ) (ds : List Declaration) → IsRead bytes ds → AreLexed (out.specification ds)
read-printed bytes ds r = (read_printable bytes ds (record { tokens = r.tokens; cut = r.cut.are; read = r.exact })).lexed

pub plan-texts : AreInUtf8
plan-texts bytes plan h =
    let full = h.full in
    let resolved = full.resolved in
    ap (λ (ts : List (List ℕ)). list_all is_utf8 ts) full.filled.texts
    ∙ resolved-texts resolved.declarations full.spec (read-printed bytes resolved.declarations resolved.read) resolved.resolves
