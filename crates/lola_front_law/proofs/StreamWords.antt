-- The names of the streams that declarations are resolved to, kinds filled in, are words too.
use Rattle.std.proofs.Common.{◌≡◌, refl, sym, ap, subst, ◌∙◌, ℕ, zero, suc, ◌+◌, ◌/◌, ◌%◌, ◌<◌, List, [], ◌∷◌, ◌++◌, false, true, codes, map, drop, length, Option, nat_eq, arith}
use Rattle.std.specs.List.{list_all, All}
use Rattle.std.specs.Fmt.{decimal, digits, digits_onto, digit_glyph}
use Rattle.std.proofs.lemmas.Bool.{and_from, lt-ltb, cond_both}
use Rattle.std.proofs.lemmas.List.Elements.{All-nil, All-cons}
use Rattle.std.proofs.lemmas.List.Folds.{list_all-append}
use Rattle.lola_value.specs.declared.value.Kind.{Kind}
use Rattle.lola_parser_grammar.specs.declared.literals.Typed.{Typed}
use Rattle.lola_parser_grammar.specs.declared.declarations.Declaration.{Declaration}
use Rattle.lola_parser_grammar.specs.declared.declarations.Declaration.TheVariants as d
use Rattle.lola_lexer.specs.Spelling.{in_name}
use Rattle.lola_model.specs.declared.spec.Spec.{Spec}
use Rattle.lola_model.specs.declared.spec.Stream.{Stream}
use Rattle.lola_model.specs.declared.spec.WindowSpec.{WindowSpec}
use Rattle.lola_names.specs.Targets.{Targets, targets_of}
use Rattle.lola_names.specs.Clauses.{input_stream}
use Rattle.lola_names.specs.Specification.{AreStreams, Resolves}
use Rattle.lola_types.specs.Found.{Setting}
use Rattle.lola_types.specs.Filled.{FilledStreams, IsFilled}
use Rattle.lola_front_law.specs.OneLine.{IsWordStream}
use Rattle.lola_front_law.proofs.NameTokens.{Word}
use Rattle.lola_front_law.proofs.DeclaredWords.{Each, IsWordTyped, AllHaveWords}

digit_in : (d : ℕ) → d < 10 → in_name (48 + d) ≡ true
digit_in zero h = refl
digit_in (suc zero) h = refl
digit_in (suc (suc zero)) h = refl
digit_in (suc (suc (suc zero))) h = refl
digit_in (suc (suc (suc (suc zero)))) h = refl
digit_in (suc (suc (suc (suc (suc zero))))) h = refl
digit_in (suc (suc (suc (suc (suc (suc zero)))))) h = refl
digit_in (suc (suc (suc (suc (suc (suc (suc zero))))))) h = refl
digit_in (suc (suc (suc (suc (suc (suc (suc (suc zero)))))))) h = refl
digit_in (suc (suc (suc (suc (suc (suc (suc (suc (suc zero))))))))) h = refl
digit_in (suc (suc (suc (suc (suc (suc (suc (suc (suc (suc d)))))))))) h = absurd (omega (arith, h))

glyph_in : (d : ℕ) → d < 10 → in_name (digit_glyph false d) ≡ true
glyph_in d small =
    let low = lt-ltb d 10 small in
    let glyph : digit_glyph false d ≡ 48 + d = rw low in
    ap in_name glyph ∙ digit_in d small

digits_word : (k n : ℕ) (acc : List ℕ) → Word acc → Word (digits_onto k 10 false n acc)
digits_word zero n acc p = p
digits_word (suc k) n acc p =
    let digit = digit_glyph false (n % 10) in
    let more : Word (digit ∷ acc) = and_from (in_name digit) (list_all in_name acc) (glyph_in (n % 10) (omega arith)) p in
    cond_both (nat_eq (n / 10) 0) (digit ∷ acc) (digits_onto k 10 false (n / 10) (digit ∷ acc)) Word (λ _. more) (λ _. digits_word k (n / 10) (digit ∷ acc) more)

decimal_word : (n : ℕ) → Word (decimal n)
unfolding digits
decimal_word n = digits_word 64 n [] refl

trigger_word : (k : ℕ) → Word (codes "trigger_" ++ decimal k)
trigger_word k = list_all-append in_name (codes "trigger_") (decimal k) ∙ and_from (list_all in_name (codes "trigger_")) (list_all in_name (decimal k)) refl (decimal_word k)

each_both : (xs ys : List Stream) → Each IsWordStream xs → Each IsWordStream ys → Each IsWordStream (xs ++ ys)
each_both [] ys p q = q
each_both (x ∷ xs) ys p q = (p.0, each_both xs ys p.1 q)

input_words : (ts : List Typed) → Each IsWordTyped ts → Each IsWordStream (map input_stream ts)
input_words [] h = tt
input_words (t ∷ ts) h = (h.0, input_words ts h.1)

module _ (declarations : List Declaration) (targets : Targets) (texts : List (List ℕ)) (windows : List WindowSpec) where
  stream_words : (n k : ℕ) (ds : List Declaration) (ss : List Stream) → AllHaveWords ds → AreStreams declarations targets texts windows n k ds ss → Each IsWordStream ss
  stream_words n k [] ss h are = subst (Each IsWordStream) (sym are) tt
  stream_words n k (d.Inputs x ∷ ds) ss h are =
      let both = each_both (map input_stream x.inputs) are.0 (input_words x.inputs h.0) (stream_words (n + length x.inputs) k ds are.0 h.1 are.2) in
      subst (Each IsWordStream) (sym are.1) both
  stream_words n k (d.Constant x ∷ ds) ss h are = stream_words n k ds ss h.1 are
  stream_words n k (d.Output x ∷ ds) [] h are = tt
  stream_words n k (d.Output x ∷ ds) (s ∷ ss) h are = (subst Word (sym are.0.name) h.0, stream_words (n + 1) k ds ss h.1 are.1)
  stream_words n k (d.Trigger x ∷ ds) [] h are = tt
  stream_words n k (d.Trigger x ∷ ds) (s ∷ ss) h are = (subst Word (sym are.0.name) (trigger_word (k + 1)), stream_words (n + 1) (k + 1) ds ss h.1 are.1)

filled_words : (s : Setting) (ks : List (Option Kind)) (as' bs : List Stream) → Each IsWordStream as' → FilledStreams s ks as' bs → Each IsWordStream bs
filled_words s ks [] [] h are = tt
filled_words s ks [] (b ∷ bs) h are = absurd are
filled_words s ks (a ∷ as') [] h are = absurd are
filled_words s ks (a ∷ as') (b ∷ bs) h are = (subst Word are.0.name h.0, filled_words s (drop 1 ks) as' bs h.1 are.1)

pub each_all : (ss : List Stream) → Each IsWordStream ss → All IsWordStream ss
each_all [] h = All-nil IsWordStream
each_all (s ∷ ss) h = All-cons IsWordStream s ss h.0 (each_all ss h.1)

pub full_words : (ds : List Declaration) (spec full : Spec) → AllHaveWords ds → Resolves ds spec → IsFilled spec full → Each IsWordStream full.streams
full_words ds spec full h resolves filled =
    filled_words _ _ spec.streams full.streams (stream_words ds (targets_of ds) spec.texts spec.windows 0 0 ds spec.streams h resolves.streams) filled.streams
