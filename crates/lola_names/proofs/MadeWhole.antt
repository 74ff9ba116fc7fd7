-- The whole specification.
use Rattle.std.proofs.Common.{◌≡◌, ℕ, zero, suc, ◌<◌, List, [], ◌∷◌, Some, length, ◌⊎◌, inl, inr, refl, sym, ap, ◌∙◌, append-nil, arith}
use Rattle.std.specs.Prelude.{IsTrue, slice_get}
use Rattle.lola_value.specs.declared.value.Value.{Value}
use Rattle.lola_value.specs.declared.value.Value.TheVariants as value
use Rattle.lola_parser_grammar.specs.declared.literals.Value.{Value as Written}
use Rattle.lola_parser_grammar.specs.declared.literals.Value.TheVariants as written
use Rattle.lola_parser_grammar.specs.declared.declarations.Constant.{Constant as TreeConstant}
use Rattle.lola_parser_grammar.specs.declared.declarations.Declaration.{Declaration}
use Rattle.lola_model.specs.Parts.{listed_streams}
use Rattle.lola_model.specs.Named.{are_distinct, counted, window_number, literal_text}
use Rattle.lola_model.specs.declared.spec.Constant.{Constant}
use Rattle.lola_model.specs.declared.spec.Spec.{Spec}
use Rattle.lola_model.specs.declared.spec.Stream.{Stream}
use Rattle.lola_model.specs.declared.spec.WindowSpec.{WindowSpec}
use Rattle.lola_names.specs.Targets.{targets_of}
use Rattle.lola_names.specs.Resolved.{kind_spelled, integer_of}
use Rattle.lola_names.specs.Made.{BeginWith}
use Rattle.lola_names.specs.Specification.{AreConstants, AreStreams, IsConstantValue, Resolves, constants_of, ranges_of}
use Rattle.lola_names.specs.declared.made.Made.{Made}
use Rattle.lola_names.specs.Resolvable.{ResolvesEach}
use Rattle.lola_names.proofs.Growth.{in_order-used}
use Rattle.lola_names.proofs.Numbering.{one_place}
use Rattle.lola_names.proofs.Makers.{Makes, placed}
use Rattle.lola_names.proofs.StreamsMade.{streams_of}

-- ---- constants

-- what stands at a place stands below the length
below : {A : Type 0} (xs : List A) (i : ℕ) (x : A) → slice_get xs i ≡ Some x → i < length xs
below [] i x at = cc at
below (y ∷ xs) zero x at = omega arith
below (y ∷ xs) (suc i) x at = let h = below xs i x at in omega (arith, h)

text_value : (texts : List (List ℕ)) (t : List ℕ) → IsTrue (are_distinct texts) → ((i : ℕ) × (slice_get texts i ≡ Some t)) ⊎ ((i : ℕ) → slice_get texts i ≡ Some t → ⊥)
    → (v : Value) × IsConstantValue texts (written.Text t) v
text_value texts t apart (inl there) =
    (value.Text (record { 0 = there.0 }), (λ i at. one_place texts t i there.0 apart at there.1, λ less. there.1, let h = below texts there.0 t there.1 in omega (arith, h)))
text_value texts t apart (inr none) =
    (value.Text (record { 0 = length texts }), (λ i at. absurd (none i at), λ less. absurd (omega (arith, less)), omega arith))

constant_value : (texts : List (List ℕ)) → IsTrue (are_distinct texts) → (w : Written) → (v : Value) × IsConstantValue texts w v
constant_value texts apart (written.Integer is_negative n) = (value.Int (integer_of is_negative n), refl)
constant_value texts apart (written.Truth t) = (value.Bool t, refl)
constant_value texts apart (written.Text t) = text_value texts t apart (placed texts t)

constants_made : (texts : List (List ℕ)) → IsTrue (are_distinct texts) → (xs : List TreeConstant) → (cs : List Constant) × AreConstants texts xs cs
constants_made texts apart [] = ([], tt)
constants_made texts apart (x ∷ xs) =
    let v = constant_value texts apart x.literal.value in
    let rest = constants_made texts apart xs in (
      record { kind = kind_spelled x.kind; literal = v.0; place = x.literal.at; before = x.before } ∷ rest.0,
      (record { kind = refl; literal = v.1; place = refl; before = refl }, rest.1),
    )

-- ---- the whole

abbrev nothing : Made
nothing = record { texts = []; windows = [] }

-- what begins with nothing
module _ (ds : List Declaration) where
  whole : Makes (List Stream) (listed_streams window_number) (listed_streams literal_text) (λ texts windows ss. AreStreams ds (targets_of ds) texts windows 0 0 ds ss) nothing → (spec : Spec) × Resolves ds spec
  whole m =
      let texts : List (List ℕ) = m.new.texts in
      let windows : List WindowSpec = m.new.windows in
      let itself : BeginWith m.new texts windows = record { more_texts = []; texts_are = sym (append-nil texts); more_windows = []; windows_are = sym (append-nil windows) } in
      let constants = constants_made texts m.apart (constants_of ds) in
      let same : m.grown.more_windows ≡ windows = sym m.grown.windows in (
        record { streams = m.made; constants = constants.0; windows = windows; texts = texts; refused = ranges_of ds m.made },
        record {
          streams = m.holds texts windows itself;
          constants = constants.1;
          refused = refl;
          window_numbers = m.grown.numbered ∙ ap (λ (l : List WindowSpec). counted 0 (length l)) same;
          texts = m.apart;
          texts_used = λ i less. in_order-used 0 (length texts) (listed_streams literal_text m.made) m.grown.in_order i (omega arith) less;
          texts_in_order = m.grown.in_order;
        },
      )

pub resolves_each : ResolvesEach
resolves_each ds = whole ds ((streams_of ds 0 0 ds).run nothing refl)
