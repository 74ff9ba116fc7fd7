-- All specifications that declarations are resolved to have one plain form.
use Rattle.std.proofs.Common.{◌≡◌, sym, ap, subst, ◌∙◌, ℕ, List, length}
use Rattle.lola_value.specs.declared.value.Value.{Value}
use Rattle.lola_value.specs.declared.value.Value.TheVariants as value
use Rattle.lola_parser_grammar.specs.declared.declarations.Declaration.{Declaration}
use Rattle.lola_model.specs.Named.{counted, literal_text, text_number}
use Rattle.lola_model.specs.Parts.{listed_streams}
use Rattle.lola_model.specs.declared.expr.Expr.{Expr}
use Rattle.lola_model.specs.declared.expr.Expr.TheVariants.{Literal, Parameter, Read, Window, Defaults', Unary', Both', Choice'}
use Rattle.lola_model.specs.declared.spec.Spec.{Spec}
use Rattle.lola_model.specs.declared.spec.WindowSpec.{WindowSpec}
use Rattle.lola_names.specs.Targets.{targets_of}
use Rattle.lola_names.specs.Specification.{AreConstants, Resolves, constants_of}
use Rattle.lola_front_law.specs.Alike.{plain_spec}
use Rattle.lola_front_law.proofs.AlikeListed.{listed_of_streams}
use Rattle.lola_front_law.proofs.AlikeStreams.{AlikeStreamsBy, streams_alike_by}
use Rattle.lola_front_law.proofs.AlikeTrees.{SameValueBy, AlikeBy}
use Rattle.lola_front_law.proofs.OneRate.{ranges_same}
use Rattle.lola_front_law.proofs.PlainShapes.{same_spec}
use Rattle.lola_front_law.proofs.PlainTexts.{HaveText, Pairs, have_text, one_constants, one_number, pairs_join, same_texts}
use Rattle.lola_front_law.proofs.PlainTrees.{streams_plain}

module _ (T : ℕ → ℕ → Type 0) (ws vs : List WindowSpec) where
  value_pairs : (v w : Value) → SameValueBy T v w → Pairs T (text_number v) (text_number w)
  value_pairs (value.Int y) (value.Int z) h = tt
  value_pairs (value.Bool b) (value.Bool c) h = tt
  value_pairs (value.Text i) (value.Text j) h = (h, tt)
  value_pairs _ _ h = absurd h

  pub text_pairs : (e g : Expr) → AlikeBy T ws vs e g → Pairs T (literal_text e) (literal_text g)
  text_pairs (Literal p v) (Literal q w) h = value_pairs v w h.1
  text_pairs (Parameter p i) (Parameter q j) h = tt
  text_pairs (Read p n how args) (Read q m why brgs) h = tt
  text_pairs (Window p n args) (Window q m brgs) h = tt
  text_pairs (Defaults' p u a v b) (Defaults' q x c y d) h = tt
  text_pairs (Unary' p s u a) (Unary' q r x c) h = tt
  text_pairs (Both' p s u a v b) (Both' q r x c y d) h = tt
  text_pairs (Choice' p u a v b w e) (Choice' q x c y d z g) h = tt
  text_pairs _ _ h = absurd h

module _ (ds : List Declaration) (x y : Spec) (h : Resolves ds x) (k : Resolves ds y) where
  abbrev Tied : ℕ → ℕ → Type 0
  Tied = HaveText x.texts y.texts

  alike : AlikeStreamsBy Tied x.windows y.windows x.streams y.streams
  alike =
      streams_alike_by Tied ds (targets_of ds) x.texts y.texts (have_text x.texts y.texts) x.windows y.windows 0 0 ds x.streams y.streams h.streams k.streams

  texts_once : x.texts ≡ y.texts
  texts_once =
      same_texts x.texts y.texts h.texts k.texts (listed_streams literal_text x.streams) (listed_streams literal_text y.streams) h.texts_in_order k.texts_in_order
      (listed_of_streams Tied x.windows y.windows ℕ literal_text (Pairs Tied) tt (pairs_join Tied) (text_pairs Tied x.windows y.windows) x.streams y.streams alike)

  pub resolved_plain : x.windows ≡ y.windows → plain_spec x ≡ plain_spec y
  resolved_plain windows =
      let numbers = h.window_numbers ∙ (ap (λ (ws : List WindowSpec). counted 0 (length ws)) windows ∙ sym k.window_numbers) in
      let constants = subst (λ (ts : List (List ℕ)). AreConstants ts (constants_of ds) x.constants) texts_once h.constants in
      same_spec (plain_spec x) (plain_spec y)
      (streams_plain Tied (one_number x.texts y.texts h.texts k.texts texts_once) x.windows y.windows x.streams y.streams alike numbers)
      (one_constants y.texts (constants_of ds) x.constants y.constants constants k.constants)
      windows texts_once
      (h.refused ∙ (ranges_same ds (targets_of ds) x.texts y.texts x.windows y.windows 0 0 ds x.streams y.streams h.streams k.streams ∙ sym k.refused))
