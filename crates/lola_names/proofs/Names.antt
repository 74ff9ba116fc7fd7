-- The names of streams are distinct where no name is declared twice.
use Rattle.std.proofs.Common.{◌≡◌, ◌+◌, ℕ, refl, sym, ap, ◌∙◌, subst, Bool, true, false, not, ◌||◌, List, [], ◌∷◌, ◌++◌, Option, Some, None, is_some, length, map, inl, inr}
use Rattle.std.proofs.lemmas.Bool.{cases_Bool, and_from}
use Rattle.lola_value.specs.Arithmetic.{bytes_equal}
use Rattle.lola_value.specs.declared.front.Code.TheVariants as code
use Rattle.lola_parser_grammar.specs.declared.literals.Typed.{Typed}
use Rattle.lola_parser_grammar.specs.declared.declarations.Declaration.{Declaration}
use Rattle.lola_parser_grammar.specs.declared.declarations.Declaration.TheVariants as d
use Rattle.lola_model.specs.Named.{is_trigger, is_listed, are_distinct, declared_names}
use Rattle.lola_model.specs.declared.spec.Sort.{Sort}
use Rattle.lola_model.specs.declared.spec.Sort.TheVariants as sort
use Rattle.lola_model.specs.declared.spec.Stream.{Stream}
use Rattle.lola_model.specs.declared.spec.WindowSpec.{WindowSpec}
use Rattle.lola_model.proofs.Lookups.{bytes_equal-true, bytes_equal-same}
use Rattle.lola_names_refused.specs.declared.names.Meaning.{Meaning}
use Rattle.lola_names_refused.specs.declared.names.Meaning.TheVariants as meaning
use Rattle.lola_names_refused.specs.Table.{meaning_in, hides, with_name}
use Rattle.lola_names_refused.specs.Known.{Known, Declared, declared, with_names, parameters_of}
use Rattle.lola_names_refused.specs.Refused.{where_, repeated, repeated_parameters, repeats, all_repeats, parameters_in}
use Rattle.lola_names_refused.proofs.Tables.{meaning-append}
use Rattle.lola_names.specs.Targets.{Targets}
use Rattle.lola_names.specs.Clauses.{input_stream}
use Rattle.lola_names.specs.Specification.{AreStreams}
use Rattle.lola_names.proofs.Basics.{none_left, none_right, some_none, never, never_back}

-- names that are distinct, and none of which is known
pub record AreNew (known : Known) (names : List (List ℕ)) : Type 0 where
  pub distinct : are_distinct names ≡ true
  pub unknown : (q : List ℕ) → is_some (meaning_in known q) ≡ true → is_listed q names ≡ false

-- what was known stays known, and the new name is known
still_known : (known : Known) (n : Declared) (q : List ℕ) → is_some (meaning_in known q) ≡ true → is_some (meaning_in (with_name known n) q) ≡ true
still_known known n q h = elim (cases_Bool (is_some (meaning_in known n.0.text))) [
  | inl hit ↦ rw hit h
  | inr miss ↦ rw miss (rw (meaning-append known ((n.0.text, n.1) ∷ []) q) (some_hides (meaning_in known q) (meaning_in ((n.0.text, n.1) ∷ []) q) h))
]
  where
    some_hides : (m o : Option Meaning) → is_some m ≡ true → is_some (hides m o) ≡ true
    some_hides None o h = never_back h
    some_hides (Some m) o h = refl

now_known : (known : Known) (n : Declared) → is_some (meaning_in (with_name known n) n.0.text) ≡ true
now_known known n = elim (cases_Bool (is_some (meaning_in known n.0.text))) [
  | inl hit ↦ rw hit hit
  | inr miss ↦ rw miss (rw (meaning-append known ((n.0.text, n.1) ∷ []) n.0.text) (rw (bytes_equal-same n.0.text) (hides_some (meaning_in known n.0.text) n.1)))
]
  where
    hides_some : (m : Option Meaning) (o : Meaning) → is_some (hides m (Some o)) ≡ true
    hides_some None o = refl
    hides_some (Some m) o = refl

-- names that are new behind one more are new before it
new_before : (known : Known) (n : Declared) (names : List (List ℕ)) → AreNew (with_name known n) names → AreNew known names
new_before known n names h = record { distinct = h.distinct; unknown = λ q k. h.unknown q (still_known known n q k) }

-- .. and so are they with it
new_with : (known : Known) (n : Declared) (names : List (List ℕ)) → is_some (meaning_in known n.0.text) ≡ false → AreNew (with_name known n) names → AreNew known (n.0.text ∷ names)
new_with known n names fresh h = record {
  distinct = and_from (not (is_listed n.0.text names)) (are_distinct names) (ap not (h.unknown n.0.text (now_known known n))) h.distinct;
  unknown = λ q k. or_none (bytes_equal q n.0.text) (is_listed q names) (differs q k) (h.unknown q (still_known known n q k));
}
  where
    or_none : (a b : Bool) → a ≡ false → b ≡ false → (a || b) ≡ false
    or_none true b h k = absurd (cc)
    or_none false b h k = k

    differs : (q : List ℕ) → is_some (meaning_in known q) ≡ true → bytes_equal q n.0.text ≡ false
    differs q k = elim (cases_Bool (bytes_equal q n.0.text)) [
      | inl hit ↦ never (sym (ap (λ t. is_some (meaning_in known t)) (sym (bytes_equal-true q n.0.text hit)) ∙ k) ∙ fresh)
      | inr miss ↦ miss
    ]

fresh_name : (b : Bool) (at : ℕ) → where_ b code.Duplicate at ≡ [] → b ≡ false
fresh_name true at h = some_none (record { code = code.Duplicate; at = at }) [] h
fresh_name false at h = refl

new_inputs : (known : Known) (ts : List Typed) (rest : List Stream) → repeated known (map (λ (t : Typed). (t.name, meaning.Input)) ts) ≡ []
    → AreNew (with_names known (map (λ (t : Typed). (t.name, meaning.Input)) ts)) (declared_names rest) → AreNew known (declared_names (map input_stream ts ++ rest))
new_inputs known [] rest none h = h
new_inputs known (t ∷ ts) rest none h =
    let later = map (λ (t : Typed). (t.name, meaning.Input)) ts in
    let mine = where_ (is_some (meaning_in known t.name.text)) code.Duplicate t.name.at in
    let others = repeated (with_name known (t.name, meaning.Input)) later in
    new_with known (t.name, meaning.Input) (declared_names (map input_stream ts ++ rest))
    (fresh_name (is_some (meaning_in known t.name.text)) t.name.at (none_left mine others none))
    (new_inputs (with_name known (t.name, meaning.Input)) ts rest (none_right mine others none) h)

module _ (ds : List Declaration) (targets : Targets) (texts : List (List ℕ)) (windows : List WindowSpec) where
  named_first : (s : Stream) (ss : List Stream) → is_trigger s ≡ false → declared_names (s ∷ ss) ≡ s.name ∷ declared_names ss
  named_first s ss e = rw e refl

  unnamed_first : (s : Stream) (ss : List Stream) → is_trigger s ≡ true → declared_names (s ∷ ss) ≡ declared_names ss
  unnamed_first s ss e = rw e refl

  pub new_names : (known : Known) (n j : ℕ) (xs : List Declaration) (rest : List Stream) → all_repeats known xs ≡ [] → AreStreams ds targets texts windows n j xs rest → AreNew known (declared_names rest)
  new_names known n j [] rest none is = subst (λ l. AreNew known (declared_names l)) (sym is) (record { distinct = refl; unknown = λ q h. refl })
  new_names known n j (x ∷ xs) rest none is =
      by_declaration x rest (none_left (repeated known (declared x)) (repeated_parameters (with_names known (declared x)) [] (parameters_of (parameters_in x))) (none_left (repeats known x) (all_repeats (with_names known (declared x)) xs) none)) is
      (λ m k others. new_names (with_names known (declared x)) m k xs others (none_right (repeats known x) (all_repeats (with_names known (declared x)) xs) none))
    where
      by_declaration : (x : Declaration) (all : List Stream) → repeated known (declared x) ≡ [] → AreStreams ds targets texts windows n j (x ∷ xs) all
          → ((m k : ℕ) (others : List Stream) → AreStreams ds targets texts windows m k xs others → AreNew (with_names known (declared x)) (declared_names others)) → AreNew known (declared_names all)
      by_declaration (d.Inputs x) all none is new = subst (λ l. AreNew known (declared_names l)) (sym is.1) (new_inputs known x.inputs is.0 none (new (n + length x.inputs) j is.0 is.2))
      by_declaration (d.Constant x) all none is new = new_before known (x.name, meaning.Constant) (declared_names all) (new n j all is)
      by_declaration (d.Output x) [] none is new = absurd is
      by_declaration (d.Output x) (s ∷ others) none is new =
          subst (AreNew known) (sym (named_first s others (ap (λ (z : Sort). elim z [ sort.Input ↦ false | sort.Output ↦ false | sort.Trigger ↦ true ]) is.0.sort) ∙ ap (λ t. t ∷ declared_names others) is.0.name))
          (new_with known (x.name, meaning.Output (length x.parameters)) (declared_names others)
          (fresh_name (is_some (meaning_in known x.name.text)) x.name.at (none_left (where_ (is_some (meaning_in known x.name.text)) code.Duplicate x.name.at) [] none))
          (new (n + 1) j others is.1))
      by_declaration (d.Trigger x) [] none is new = absurd is
      by_declaration (d.Trigger x) (s ∷ others) none is new =
          subst (AreNew known) (sym (unnamed_first s others (ap (λ (z : Sort). elim z [ sort.Input ↦ false | sort.Output ↦ false | sort.Trigger ↦ true ]) is.0.sort))) (new (n + 1) (j + 1) others is.1)
