-- What a name means and what it stands for go together.
use Rattle.std.proofs.Common.{◌≡◌, ◌≤◌, ◌<◌, ◌+◌, ℕ, suc, arith, refl, sym, ap, ◌∙◌, length-append, List, [], ◌∷◌, ◌++◌, Option, Some, None, slice_get, length, map, inl, inr}
use Rattle.std.specs.List.{flat_map}
use Rattle.std.proofs.lemmas.Bool.{cases_Bool}
use Rattle.lola_value.specs.Arithmetic.{bytes_equal}
use Rattle.lola_parser_grammar.specs.declared.literals.Typed.{Typed}
use Rattle.lola_parser_grammar.specs.declared.declarations.Constant.{Constant}
use Rattle.lola_parser_grammar.specs.declared.declarations.Declaration.{Declaration}
use Rattle.lola_parser_grammar.specs.declared.declarations.Declaration.TheVariants as d
use Rattle.lola_model.specs.declared.spec.Sort.{Sort}
use Rattle.lola_model.specs.declared.spec.Sort.TheVariants as sort
use Rattle.lola_model.specs.declared.spec.Stream.{Stream}
use Rattle.lola_model.specs.declared.spec.WindowSpec.{WindowSpec}
use Rattle.lola_names_refused.specs.declared.names.Meaning.{Meaning}
use Rattle.lola_names_refused.specs.declared.names.Meaning.TheVariants as meaning
use Rattle.lola_names_refused.specs.Table.{meaning_in, hides}
use Rattle.lola_names_refused.specs.Known.{Known, Declared, declared, parameters_of, names_of, with_names}
use Rattle.lola_names_refused.specs.Law.{plain}
use Rattle.lola_names_refused.specs.Refused.{input_places, places_of}
use Rattle.lola_names_refused.proofs.FirstDeclaration.{names-meaning, means_first_declaration}
use Rattle.lola_names.specs.declared.targets.Target.{Target}
use Rattle.lola_names.specs.declared.targets.Target.TheVariants as target
use Rattle.lola_names.specs.Targets.{Targets, Count, input_targets, counted_with, targets_with, targets_from, targets_of, parameter_targets}
use Rattle.lola_names.specs.Resolved.{kind_spelled}
use Rattle.lola_names.specs.Clauses.{input_stream}
use Rattle.lola_names.specs.Specification.{AreStreams}
use Rattle.lola_names.proofs.Basics.{slice_behind, length_mapped}

-- stream s of the list is of this sort, with so many parameters
pub record StandsAt (ss : List Stream) (s : ℕ) (kind : Sort) (count : ℕ) : Type 0 where
  pub stream : Stream
  pub there : slice_get ss s ≡ Some stream
  pub sort : stream.sort ≡ kind
  pub parameters : length stream.parameters ≡ count

-- a constant is declared there
pub record IsConstantAt (ds : List Declaration) (c : ℕ) : Type 0 where
  pub constant : Constant
  pub there : slice_get ds c ≡ Some (d.Constant constant)

-- what is around: the declarations, their streams, how many inputs there are, and how many parameters are in scope
pub record Around : Type 0 where
  pub declarations : List Declaration
  pub streams : List Stream
  pub inputs : ℕ
  pub parameters : ℕ

module _ (u : Around) where
  -- a meaning and a target that go together
  abbrev pub Fits : Meaning → Target → Type 0
  Fits meaning.Input (target.Input s i) = StandsAt u.streams s sort.Input 0 × (i < u.inputs)
  Fits meaning.Constant (target.Constant c) = IsConstantAt u.declarations c
  Fits (meaning.Output k) (target.Output s) = StandsAt u.streams s sort.Output k
  Fits meaning.Parameter (target.Parameter i) = i < u.parameters
  Fits _ _ = ⊥

  abbrev pub FitsIf : Option Meaning → Option Target → Type 0
  FitsIf None None = Unit {0}
  FitsIf (Some m) (Some t) = Fits m t
  FitsIf _ _ = ⊥

  -- names in step, each with a meaning and a target that go together
  abbrev pub InStep : Known → Targets → Type 0
  InStep [] [] = Unit {0}
  InStep (e ∷ es) (f ∷ fs) = (f.0 ≡ e.0) × Fits e.1 f.1 × InStep es fs
  InStep _ _ = ⊥

  pub fits_in : (es : Known) (fs : Targets) (q : List ℕ) → InStep es fs → FitsIf (meaning_in es q) (meaning_in fs q)
  fits_in [] [] q h = tt
  fits_in (e ∷ es) (f ∷ fs) q h = rw h.0 (elim (cases_Bool (bytes_equal q e.0)) [
    | inl hit ↦ rw hit h.1
    | inr miss ↦ rw miss (fits_in es fs q h.2)
  ])
  fits_in [] (f ∷ fs) q h = absurd h
  fits_in (e ∷ es) [] q h = absurd h

  pub step_append : (a b : Known) (c e : Targets) → InStep a c → InStep b e → InStep (a ++ b) (c ++ e)
  step_append [] b [] e h k = k
  step_append (x ∷ a) b (y ∷ c) e h k = (h.0, h.1, step_append a b c e h.2 k)
  step_append [] b (y ∷ c) e h k = absurd h
  step_append (x ∷ a) b [] e h k = absurd h

  pub fits_hidden : (m n : Option Meaning) (t s : Option Target) → FitsIf m t → FitsIf n s → FitsIf (hides m n) (hides t s)
  fits_hidden None n None s h k = k
  fits_hidden (Some m) n (Some t) s h k = h
  fits_hidden None n (Some t) s h k = absurd h
  fits_hidden (Some m) n None s h k = absurd h

  -- parameters
  parameters_step : (n : ℕ) (ps : List Typed) → n + length ps ≤ u.parameters → InStep (plain (parameters_of ps)) (parameter_targets n ps)
  parameters_step n [] h = tt
  parameters_step n (t ∷ ps) h =
      let here : n < u.parameters = omega (arith, h) in
      let more : (n + 1) + length ps ≤ u.parameters = omega (arith, h) in
      (refl, here, parameters_step (n + 1) ps more)

  pub fits_parameters : (ps : List Typed) (q : List ℕ) → length ps ≤ u.parameters → FitsIf (meaning_in (with_names [] (parameters_of ps)) q) (meaning_in (parameter_targets 0 ps) q)
  fits_parameters ps q h =
      let all : 0 + length ps ≤ u.parameters = omega (arith, h) in
      rw (names-meaning [] (parameters_of ps) q) (fits_in (plain (parameters_of ps)) (parameter_targets 0 ps) q (parameters_step 0 ps all))

  -- inputs, whose streams stand from stream n on
  inputs_step : (n i : ℕ) (ts : List Typed) (rest : List Stream) → ((j : ℕ) → slice_get (map input_stream ts ++ rest) j ≡ slice_get u.streams (n + j)) → i + length ts ≤ u.inputs
      → InStep (plain (map (λ (t : Typed). (t.name, meaning.Input)) ts)) (input_targets n i ts)
  inputs_step n i [] rest at h = tt
  inputs_step n i (t ∷ ts) rest at h =
      let here : i < u.inputs = omega (arith, h) in
      let more : (i + 1) + length ts ≤ u.inputs = omega (arith, h) in
      let first : n + 0 ≡ n = omega arith in (
        refl,
        (record { stream = input_stream t; there = ap (slice_get u.streams) (sym first) ∙ sym (at 0); sort = refl; parameters = refl }, here),
        inputs_step (n + 1) (i + 1) ts rest (λ j. let e : n + suc j ≡ (n + 1) + j = omega arith in at (suc j) ∙ ap (slice_get u.streams) e) more,
      )

  plain-append : (a b : List Declared) → plain (a ++ b) ≡ plain a ++ plain b
  plain-append [] b = refl
  plain-append (n ∷ a) b = ap (λ l. (n.0.text, n.1) ∷ l) (plain-append a b)

  -- the first of a list that stands from number n on, and the others
  module _ (X : Type 0) (all : List X) where
    first_at : (n : ℕ) (x : X) (xs : List X) → ((j : ℕ) → slice_get (x ∷ xs) j ≡ slice_get all (n + j)) → slice_get all n ≡ Some x
    first_at n x xs at = let e : n ≡ n + 0 = omega arith in ap (slice_get all) e ∙ sym (at 0)

    later_at : (n : ℕ) (x : X) (xs : List X) → ((j : ℕ) → slice_get (x ∷ xs) j ≡ slice_get all (n + j)) → (j : ℕ) → slice_get xs j ≡ slice_get all ((n + 1) + j)
    later_at n x xs at j = let e : n + suc j ≡ (n + 1) + j = omega arith in at (suc j) ∙ ap (slice_get all) e

  abbrev first : (n : ℕ) (x : Declaration) (xs : List Declaration) → ((j : ℕ) → slice_get (x ∷ xs) j ≡ slice_get u.declarations (n + j)) → slice_get u.declarations n ≡ Some x
  first = first_at Declaration u.declarations

  abbrev later : (n : ℕ) (x : Declaration) (xs : List Declaration) → ((j : ℕ) → slice_get (x ∷ xs) j ≡ slice_get u.declarations (n + j)) → (j : ℕ) → slice_get xs j ≡ slice_get u.declarations ((n + 1) + j)
  later = later_at Declaration u.declarations

  abbrev first_stream : (n : ℕ) (x : Stream) (xs : List Stream) → ((j : ℕ) → slice_get (x ∷ xs) j ≡ slice_get u.streams (n + j)) → slice_get u.streams n ≡ Some x
  first_stream = first_at Stream u.streams

  abbrev later_stream : (n : ℕ) (x : Stream) (xs : List Stream) → ((j : ℕ) → slice_get (x ∷ xs) j ≡ slice_get u.streams (n + j)) → (j : ℕ) → slice_get xs j ≡ slice_get u.streams ((n + 1) + j)
  later_stream = later_at Stream u.streams

  module _ (targets : Targets) (texts : List (List ℕ)) (windows : List WindowSpec) where
    -- declarations, behind so many, whose streams stand from stream n on
    declarations_step : (c : Count) (k : ℕ) (ds : List Declaration) (rest : List Stream)
        → AreStreams u.declarations targets texts windows c.streams k ds rest
        → ((j : ℕ) → slice_get rest j ≡ slice_get u.streams (c.streams + j))
        → ((j : ℕ) → slice_get ds j ≡ slice_get u.declarations (c.declarations + j))
        → c.inputs + length (flat_map input_places ds) ≤ u.inputs
        → InStep (plain (flat_map declared ds)) (targets_from c ds)
    declarations_step c k [] rest are at said few = tt
    declarations_step c k (d.Inputs x ∷ ds) rest are at said few =
        let count : length (places_of x.inputs ++ flat_map input_places ds) ≡ length x.inputs + length (flat_map input_places ds) =
        length-append (places_of x.inputs) (flat_map input_places ds) ∙ ap (λ n. n + length (flat_map input_places ds)) (length_mapped (λ (t : Typed). t.name.at) x.inputs) in
        let few_here : c.inputs + length x.inputs ≤ u.inputs = omega (arith, count) in
        let few_more : (c.inputs + length x.inputs) + length (flat_map input_places ds) ≤ u.inputs = omega (arith, count) in
        let here : (j : ℕ) → slice_get (map input_stream x.inputs ++ are.0) j ≡ slice_get u.streams (c.streams + j) = λ j. ap (λ l. slice_get l j) (sym are.1) ∙ at j in
        let many : length (map input_stream x.inputs) ≡ length x.inputs = length_mapped input_stream x.inputs in
        rw (plain-append (declared (d.Inputs x)) (flat_map declared ds))
        (step_append (plain (declared (d.Inputs x))) (plain (flat_map declared ds)) (targets_with c (d.Inputs x)) (targets_from (counted_with c (d.Inputs x)) ds)
        (inputs_step c.streams c.inputs x.inputs are.0 here few_here)
        (declarations_step (counted_with c (d.Inputs x)) k ds are.0 are.2
        (λ j.
        let e : c.streams + (length x.inputs + j) ≡ (c.streams + length x.inputs) + j = omega arith in
        sym (slice_behind (map input_stream x.inputs) are.0 j) ∙ (ap (λ n. slice_get (map input_stream x.inputs ++ are.0) (n + j)) many ∙ (here (length x.inputs + j) ∙ ap (slice_get u.streams) e)))
        (later c.declarations (d.Inputs x) ds said)
        few_more))
    declarations_step c k (d.Constant x ∷ ds) rest are at said few =
        (refl, record { constant = x; there = first c.declarations (d.Constant x) ds said }, declarations_step (counted_with c (d.Constant x)) k ds rest are at (later c.declarations (d.Constant x) ds said) few)
    declarations_step c k (d.Output x ∷ ds) [] are at said few = absurd are
    declarations_step c k (d.Output x ∷ ds) (s ∷ rest) are at said few = (
      refl,
      record { stream = s; there = first_stream c.streams s rest at; sort = are.0.sort; parameters = ap length are.0.parameters ∙ length_mapped (λ (t : Typed). kind_spelled t.kind) x.parameters },
      declarations_step (counted_with c (d.Output x)) k ds rest are.1 (later_stream c.streams s rest at) (later c.declarations (d.Output x) ds said) few,
    )
    declarations_step c k (d.Trigger x ∷ ds) [] are at said few = absurd are
    declarations_step c k (d.Trigger x ∷ ds) (s ∷ rest) are at said few =
        declarations_step (counted_with c (d.Trigger x)) (k + 1) ds rest are.1 (later_stream c.streams s rest at) (later c.declarations (d.Trigger x) ds said) few

    pub fits_declared : (k : ℕ) → AreStreams u.declarations targets texts windows 0 k u.declarations u.streams → length (flat_map input_places u.declarations) ≤ u.inputs
        → (q : List ℕ) → FitsIf (meaning_in (names_of u.declarations) q) (meaning_in (targets_of u.declarations) q)
    fits_declared k are few q =
        let zero_add : (j : ℕ) → j ≡ 0 + j = λ j. omega arith in
        let all : 0 + length (flat_map input_places u.declarations) ≤ u.inputs = omega (arith, few) in
        rw (means_first_declaration.meaning u.declarations q)
        (fits_in (plain (flat_map declared u.declarations)) (targets_of u.declarations) q
        (declarations_step (record { streams = 0; inputs = 0; declarations = 0 }) k u.declarations u.streams are
        (λ j. ap (slice_get u.streams) (zero_add j)) (λ j. ap (slice_get u.declarations) (zero_add j)) all))
