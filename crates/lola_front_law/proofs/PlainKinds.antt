-- The kinds that are found, and the specification that they are filled in of, are those of the plain form.
use Rattle.std.proofs.Common.{◌≡◌, sym, ap, ◌∙◌, refl, ℕ, zero, suc, List, [], ◌∷◌, Option, Some, None, map, length, drop, slice_get, unwrap_or}
use Rattle.std.specs.Option.{option_map}
use Rattle.lola_value.specs.declared.value.Kind.{Kind}
use Rattle.lola_value.specs.declared.value.Kind.TheVariants as kind
use Rattle.lola_model.specs.Typing.{is_direct}
use Rattle.lola_model.specs.declared.expr.Arguments.{Arguments}
use Rattle.lola_model.specs.declared.expr.Arguments.TheVariants.{End, More'}
use Rattle.lola_model.specs.declared.expr.Expr.{Expr}
use Rattle.lola_model.specs.declared.expr.Expr.TheVariants.{Literal, Parameter, Read, Window, Defaults', Unary', Both', Choice'}
use Rattle.lola_model.specs.declared.spec.Clause.{Clause}
use Rattle.lola_model.specs.declared.spec.Spec.{Spec}
use Rattle.lola_model.specs.declared.spec.Stream.{Stream}
use Rattle.lola_model.specs.declared.spec.WindowSpec.{WindowSpec}
use Rattle.lola_types.specs.Filled.{note, note_part, given_kind, filled_if_free, filled, filled_all, filled_whole, FilledWhen, FilledWith, FilledClause, FilledClauses, FilledStream, FilledStreams, IsFilled}
use Rattle.lola_types.specs.Found.{Setting, found, found_all, joint, some_broken, arguments_fit, of_kind, kind_found, reference_part, stream_parameters, parameters_at, window_parameters, window_at, prefix_part, binary_part, defaults_part, choice_part}
use Rattle.lola_types.specs.LeftOut.{first_expression, part_kind, kind_of_expression, declared_kinds, setting_of, kind_after, round_from, round, after_round, rounds, kinds_of}
use Rattle.lola_types.specs.Refused.{taken, operand_kind, number_kind, with_parameters}
use Rattle.lola_types.specs.declared.found.Found.{Found}
use Rattle.lola_types.specs.declared.found.Found.TheVariants.{Of, Free, Unknown, Broken}
use Rattle.lola_front_law.specs.Alike.{nowhere, plain, plain_all, plain_clause, plain_stream, plain_spec}
use Rattle.lola_front_law.proofs.AlikeKinds.{two, three}
use Rattle.lola_front_law.proofs.PlainShapes.{four, same_clause, same_stream, same_spec, tree_plain, pace_plain}

-- what is known where an expression stands, in a plain specification
abbrev pub plain_setting : Setting → Setting
plain_setting s = record s { streams = map plain_stream s.streams }

parameters_plain : (ss : List Stream) (n : ℕ) → stream_parameters (slice_get (map plain_stream ss) n) ≡ stream_parameters (slice_get ss n)
parameters_plain [] n = refl
parameters_plain (s ∷ ss) zero = refl
parameters_plain (s ∷ ss) (suc n) = parameters_plain ss n

-- ---- free parts that take a kind

settled_plain : (k : Kind) (e : Expr) → plain (given_kind k e) ≡ given_kind k (plain e)
settled_plain k (Literal p v) = refl
settled_plain k (Parameter p i) = refl
settled_plain k (Read p n how args) = refl
settled_plain k (Window p w args) = refl
settled_plain k (Defaults' p u a v b) = two (λ (x y : Expr). Defaults' (note p k) nowhere x nowhere y) _ _ _ _ (settled_plain k a) (settled_plain k b)
settled_plain k (Unary' p s u a) = ap (λ (x : Expr). Unary' (note p k) s nowhere x) (settled_plain k a)
settled_plain k (Both' p s u a v b) = two (λ (x y : Expr). Both' (note p k) s nowhere x nowhere y) _ _ _ _ (settled_plain k a) (settled_plain k b)
settled_plain k (Choice' p u t v a w b) = two (λ (x y : Expr). Choice' (note p k) nowhere (plain t) nowhere x nowhere y) _ _ _ _ (settled_plain k a) (settled_plain k b)

filled_if_free_plain : (o : Option Kind) (p : Found) (e : Expr) → plain (filled_if_free o p e) ≡ filled_if_free o p (plain e)
filled_if_free_plain None p e = refl
filled_if_free_plain (Some k) (Of l c) e = refl
filled_if_free_plain (Some k) Free e = settled_plain k e
filled_if_free_plain (Some k) Unknown e = refl
filled_if_free_plain (Some k) Broken e = refl

-- ---- expressions

module _ (s : Setting) where
  abbrev there : Setting
  there = plain_setting s

  outside : (n : ℕ) → parameters_at there n ≡ parameters_at s n
  outside n = parameters_plain s.streams n

  window_outside : (o : Option WindowSpec) → window_parameters there o ≡ window_parameters s o
  window_outside None = refl
  window_outside (Some w) = outside w.target

  window_same : (o : Option WindowSpec) → window_at there o ≡ window_at s o
  window_same None = refl
  window_same (Some w) = refl

  reference_same : (ps qs : List Found) (ks ls : List Kind) (p q : Found) → ps ≡ qs → ks ≡ ls → p ≡ q
      → reference_part (some_broken ps) (arguments_fit ps ks) p ≡ reference_part (some_broken qs) (arguments_fit qs ls) q
  reference_same ps qs ks ls p q a b c = three (λ (xs : List Found) (ms : List Kind) (r : Found). reference_part (some_broken xs) (arguments_fit xs ms) r) ps qs ks ls p q a b c

  mutual
    pub found_plain : (e : Expr) → found there (plain e) ≡ found s e
    found_plain (Literal p v) = refl
    found_plain (Parameter p i) = refl
    found_plain (Read p n how args) =
        reference_same (found_all there (plain_all args)) (found_all s args) (parameters_at there n) (parameters_at s n) (of_kind (kind_found s n) (is_direct how)) (of_kind (kind_found s n) (is_direct how))
        (found_all_plain args) (outside n) refl
    found_plain (Window p w args) =
        reference_same (found_all there (plain_all args)) (found_all s args) (window_parameters there (slice_get s.windows w)) (window_parameters s (slice_get s.windows w))
        (window_at there (slice_get s.windows w)) (window_at s (slice_get s.windows w)) (found_all_plain args) (window_outside (slice_get s.windows w)) (window_same (slice_get s.windows w))
    found_plain (Defaults' p u a v b) = two defaults_part (found there (plain a)) (found s a) (found there (plain b)) (found s b) (found_plain a) (found_plain b)
    found_plain (Unary' p g u a) = ap (prefix_part g) (found_plain a)
    found_plain (Both' p g u a v b) = two (binary_part g) (found there (plain a)) (found s a) (found there (plain b)) (found s b) (found_plain a) (found_plain b)
    found_plain (Choice' p u t v a w b) =
        three choice_part (found there (plain t)) (found s t) (found there (plain a)) (found s a) (found there (plain b)) (found s b) (found_plain t) (found_plain a) (found_plain b)

    pub found_all_plain : (args : Arguments) → found_all there (plain_all args) ≡ found_all s args
    found_all_plain End = refl
    found_all_plain (More' u a v rest) =
        two (λ (x : Found) (xs : List Found). x ∷ xs) (found there (plain a)) (found s a) (found_all there (plain_all rest)) (found_all s rest) (found_plain a) (found_all_plain rest)

  -- an operand takes its kind in the plain form as in the form with addresses
  operand_plain : (o u : Option Kind) (e : Expr) → o ≡ u → plain (filled s e) ≡ filled there (plain e)
      → plain (filled_if_free o (found s e) (filled s e)) ≡ filled_if_free u (found there (plain e)) (filled there (plain e))
  operand_plain o u e same h =
      filled_if_free_plain o (found s e) (filled s e)
      ∙ three filled_if_free o u (found s e) (found there (plain e)) (plain (filled s e)) (filled there (plain e)) same (sym (found_plain e)) h

  mutual
    pub filled_plain : (e : Expr) → plain (filled s e) ≡ filled there (plain e)
    filled_plain (Literal p v) = refl
    filled_plain (Parameter p i) = refl
    filled_plain (Read p n how args) =
        two (λ (x : Found) (xs : Arguments). Read (note_part p x) n how xs) _ _ _ _ (sym (found_plain (Read p n how args)))
        (filled_all_plain (parameters_at s n) args ∙ ap (λ (ks : List Kind). filled_all there ks (plain_all args)) (sym (outside n)))
    filled_plain (Window p w args) =
        two (λ (x : Found) (xs : Arguments). Window (note_part p x) w xs) _ _ _ _ (sym (found_plain (Window p w args)))
        (filled_all_plain (window_parameters s (slice_get s.windows w)) args
        ∙ ap (λ (ks : List Kind). filled_all there ks (plain_all args)) (sym (window_outside (slice_get s.windows w))))
    filled_plain (Defaults' p u a v b) =
        let same = sym (found_plain (Defaults' p u a v b)) in
        three (λ (x : Found) (y z : Expr). Defaults' (note_part p x) nowhere y nowhere z) _ _ _ _ _ _ same
        (operand_plain _ _ a (ap taken same) (filled_plain a)) (operand_plain _ _ b (ap taken same) (filled_plain b))
    filled_plain (Unary' p g u a) =
        let same = sym (found_plain (Unary' p g u a)) in
        two (λ (x : Found) (y : Expr). Unary' (note_part p x) g nowhere y) _ _ _ _ same (operand_plain _ _ a (ap taken same) (filled_plain a))
    filled_plain (Both' p g u a v b) =
        let same = sym (found_plain (Both' p g u a v b)) in
        let together = two joint (found s a) (found there (plain a)) (found s b) (found there (plain b)) (sym (found_plain a)) (sym (found_plain b)) in
        let operands = two (operand_kind g) _ _ _ _ same together in
        three (λ (x : Found) (y z : Expr). Both' (note_part p x) g nowhere y nowhere z) _ _ _ _ _ _ same
        (operand_plain _ _ a operands (filled_plain a)) (operand_plain _ _ b operands (filled_plain b))
    filled_plain (Choice' p u t v a w b) =
        let same = sym (found_plain (Choice' p u t v a w b)) in
        four (λ (x : Found) (q y z : Expr). Choice' (note_part p x) nowhere q nowhere y nowhere z) _ _ _ _ _ _ _ _ same (filled_plain t)
        (operand_plain _ _ a (ap taken same) (filled_plain a)) (operand_plain _ _ b (ap taken same) (filled_plain b))

    pub filled_all_plain : (ks : List Kind) (args : Arguments) → plain_all (filled_all s ks args) ≡ filled_all there ks (plain_all args)
    filled_all_plain ks End = refl
    filled_all_plain ks (More' u a v rest) =
        two (λ (x : Expr) (xs : Arguments). More' nowhere x nowhere xs) _ _ _ _ (operand_plain (slice_get ks 0) (slice_get ks 0) a refl (filled_plain a)) (filled_all_plain (drop 1 ks) rest)

  whole_plain : (want : Kind) (e : Expr) → plain (filled_whole s want e) ≡ filled_whole there want (plain e)
  whole_plain want e = operand_plain (number_kind want) (number_kind want) e refl (filled_plain e)

-- ---- the kinds of streams

module _ (spec : Spec) (before : List (Option Kind)) where
  first_plain : (ks : List Kind) (es : List Expr) → kind_of_expression (setting_of (plain_spec spec) before ks) (slice_get (map plain es) 0) ≡ kind_of_expression (setting_of spec before ks) (slice_get es 0)
  first_plain ks [] = refl
  first_plain ks (e ∷ es) = ap part_kind (found_plain (setting_of spec before ks) e)

  clause_kind_plain : (ks : List Kind) (c : Option Clause)
      → kind_of_expression (setting_of (plain_spec spec) before ks) (first_expression (option_map plain_clause c)) ≡ kind_of_expression (setting_of spec before ks) (first_expression c)
  clause_kind_plain ks None = refl
  clause_kind_plain ks (Some c) = first_plain ks c.with

  after_plain : (k : Option Kind) (a : Stream) → kind_after (plain_spec spec) before k (plain_stream a) ≡ kind_after spec before k a
  after_plain (Some k) a = refl
  after_plain None a = clause_kind_plain a.parameters a.eval

  round_plain : (ks : List (Option Kind)) (ss : List Stream) → round_from (plain_spec spec) before ks (map plain_stream ss) ≡ round_from spec before ks ss
  round_plain [] ss = refl
  round_plain (k ∷ ks) [] = refl
  round_plain (k ∷ ks) (a ∷ ss) = two (λ (x : Option Kind) (xs : List (Option Kind)). x ∷ xs) _ _ _ _ (after_plain k a) (round_plain ks ss)

rounds_plain : (spec : Spec) (n : ℕ) (kinds : List (Option Kind)) → rounds n (plain_spec spec) kinds ≡ rounds n spec kinds
rounds_plain spec zero kinds = refl
rounds_plain spec (suc n) kinds =
    rounds_plain spec n (after_round kinds (round (plain_spec spec) kinds))
    ∙ ap (λ (next : List (Option Kind)). rounds n spec (after_round kinds next)) (round_plain spec kinds kinds spec.streams)

declared_plain : (ss : List Stream) → declared_kinds (map plain_stream ss) ≡ declared_kinds ss
declared_plain [] = refl
declared_plain (s ∷ ss) = ap (λ (ks : List (Option Kind)). s.kind ∷ ks) (declared_plain ss)

length_plain : (ss : List Stream) → length (map plain_stream ss) ≡ length ss
length_plain [] = refl
length_plain (s ∷ ss) = ap suc (length_plain ss)

kinds_plain : (spec : Spec) → kinds_of (plain_spec spec) ≡ kinds_of spec
kinds_plain spec =
    two (λ (n : ℕ) (ks : List (Option Kind)). rounds n (plain_spec spec) ks) _ _ _ _ (length_plain spec.streams) (declared_plain spec.streams)
    ∙ rounds_plain spec (length spec.streams) (declared_kinds spec.streams)

-- ---- what kinds are filled in of, as functions

abbrev filled_with : Setting → List Kind → List Expr → List Expr
filled_with s wants [] = []
filled_with s wants (e ∷ es) = filled_whole s (unwrap_or (slice_get wants 0) kind.Int64) e ∷ filled_with s (drop 1 wants) es

abbrev filled_clause : Setting → List Kind → Clause → Clause
filled_clause s wants c = record c { when = option_map (filled_whole s kind.Bool) c.when; with = filled_with s wants c.with }

abbrev filled_stream : Setting → Kind → Stream → Stream
filled_stream s k a =
    record a {
      kind = Some k;
      spawn = option_map (filled_clause (with_parameters s []) a.parameters) a.spawn;
      eval = option_map (filled_clause (with_parameters s a.parameters) (k ∷ [])) a.eval;
      close = option_map (filled_clause (with_parameters s a.parameters) []) a.close;
    }

abbrev filled_streams : Setting → List (Option Kind) → List Stream → List Stream
filled_streams s kinds [] = []
filled_streams s kinds (a ∷ ss) = filled_stream s (unwrap_or (unwrap_or (slice_get kinds 0) None) kind.Int64) a ∷ filled_streams s (drop 1 kinds) ss

abbrev filled_spec : List (Option Kind) → Spec → Spec
filled_spec kinds spec = record spec { streams = filled_streams (setting_of spec kinds []) kinds spec.streams }

-- ---- the plain form is that of the plain form

when_plain : (s : Setting) (o u : Option Expr) → FilledWhen s o u → option_map plain u ≡ option_map (filled_whole (plain_setting s) kind.Bool) (option_map plain o)
when_plain s None None h = refl
when_plain s (Some e) (Some f) h = ap Some (sym (tree_plain (filled_whole s kind.Bool e) f h) ∙ whole_plain s kind.Bool e)
when_plain s _ _ h = absurd h

with_plain : (s : Setting) (wants : List Kind) (es fs : List Expr) → FilledWith s wants es fs → map plain fs ≡ filled_with (plain_setting s) wants (map plain es)
with_plain s wants [] [] h = refl
with_plain s wants (e ∷ es) (f ∷ fs) h =
    let want = unwrap_or (slice_get wants 0) kind.Int64 in
    two (λ (x : Expr) (xs : List Expr). x ∷ xs) _ _ _ _ (sym (tree_plain (filled_whole s want e) f h.0) ∙ whole_plain s want e) (with_plain s (drop 1 wants) es fs h.1)
with_plain s wants _ _ h = absurd h

clause_plain : (s : Setting) (wants : List Kind) (c d : Clause) → FilledClause s wants c d → plain_clause d ≡ filled_clause (plain_setting s) wants (plain_clause c)
clause_plain s wants c d h =
    same_clause (plain_clause d) (filled_clause (plain_setting s) wants (plain_clause c)) (sym h.place) (sym (pace_plain c.pace d.pace h.pacing)) (when_plain s c.when d.when h.condition)
    (sym h.condition_place) (with_plain s wants c.with d.with h.expressions) (sym h.places)

clauses_plain : (s : Setting) (wants : List Kind) (c d : Option Clause) → FilledClauses s wants c d → option_map plain_clause d ≡ option_map (filled_clause (plain_setting s) wants) (option_map plain_clause c)
clauses_plain s wants None None h = refl
clauses_plain s wants (Some c) (Some d) h = ap Some (clause_plain s wants c d h)
clauses_plain s wants _ _ h = absurd h

stream_plain : (s : Setting) (k : Kind) (a b : Stream) → FilledStream s k a b → plain_stream b ≡ filled_stream (plain_setting s) k (plain_stream a)
stream_plain s k a b h =
    same_stream (plain_stream b) (filled_stream (plain_setting s) k (plain_stream a)) (sym h.name) (sym h.place) (sym h.sort) (sym h.message) h.kind (sym h.parameters)
    (clauses_plain (with_parameters s []) a.parameters a.spawn b.spawn h.spawn)
    (clauses_plain (with_parameters s a.parameters) (k ∷ []) a.eval b.eval h.eval)
    (clauses_plain (with_parameters s a.parameters) [] a.close b.close h.close)

streams_plain : (s : Setting) (kinds : List (Option Kind)) (as' bs : List Stream) → FilledStreams s kinds as' bs → map plain_stream bs ≡ filled_streams (plain_setting s) kinds (map plain_stream as')
streams_plain s kinds [] [] h = refl
streams_plain s kinds (a ∷ as') (b ∷ bs) h =
    two (λ (x : Stream) (xs : List Stream). x ∷ xs) _ _ _ _ (stream_plain s (unwrap_or (unwrap_or (slice_get kinds 0) None) kind.Int64) a b h.0) (streams_plain s (drop 1 kinds) as' bs h.1)
streams_plain s kinds _ _ h = absurd h

spec_plain : (spec full : Spec) → IsFilled spec full → plain_spec full ≡ filled_spec (kinds_of (plain_spec spec)) (plain_spec spec)
spec_plain spec full h =
    same_spec (plain_spec full) (filled_spec (kinds_of spec) (plain_spec spec)) (streams_plain (setting_of spec (kinds_of spec) []) (kinds_of spec) spec.streams full.streams h.streams)
    h.constants h.windows h.texts h.refused
    ∙ ap (λ (ks : List (Option Kind)). filled_spec ks (plain_spec spec)) (sym (kinds_plain spec))

-- kinds are filled in of specifications that are alike, and what they are filled in of is alike
pub filled_alike : (x y full other : Spec) → plain_spec x ≡ plain_spec y → IsFilled x full → IsFilled y other → plain_spec full ≡ plain_spec other
filled_alike x y full other same h k =
    spec_plain x full h ∙ (ap (λ (s : Spec). filled_spec (kinds_of s) s) same ∙ sym (spec_plain y other k))
