-- The least of candidates are the least sets that pass a test.
use Rattle.std.proofs.Common.{◌≡◌, refl, ap, sym, subst, ◌∙◌, ℕ, ◌^◌, ◌<◌, ◌≤◌, List, [], ◌∷◌, ◌++◌, Bool, true, false, ◌&&◌, ◌||◌, length, map, Result, Ok, Err, arith}
use Rattle.std.proofs.lemmas.List.Elements.{All-contains, All-weaker}
use Rattle.std.proofs.lemmas.Bool.{eqb-true, eq-eqb}
use Rattle.std.specs.Int.Bits.{bit_and}
use Rattle.std.specs.Int.RustNames.{bit_or}
use Rattle.std.specs.List.{All, Contains}
use Rattle.std.specs.List.Sorted.{IsPermutation}
use Rattle.lola_model.proofs.Strictly.{Contains-map, Contains-map_cases, All-from_members}
use Rattle.lola_model.proofs.Implied.{satisfies-self, satisfies_some-by_member, satisfies_some-member, satisfies_some-through, least_sets_are_the_same}
use Rattle.lola_model.specs.Activity.{satisfies, satisfies_some}
use Rattle.lola_model.specs.Implication.{AreLeastSets}
use Rattle.lola_model.specs.declared.pacing.InputSet.{InputSet}
use Rattle.lola_pacing_normal.specs.Kept.{set_of, candidate_of, unions_of, AreLeastOf, AreKept, AreManyKept}
use Rattle.lola_model.specs.NormalForms.{IsTooWide, ListsLeast}
use Rattle.lola_pacing_normal.specs.Least.{AnswersLeast}
use Rattle.lola_pacing_normal.specs.declared.answer.NormalEnd.{NormalEnd}
use Rattle.lola_pacing_normal.specs.declared.answer.NormalEnd.TheVariants as ends
use Rattle.lola_pacing_normal.proofs.BitLemmas.{union_within, within_by_union}
use Rattle.lola_pacing_normal.proofs.OrderLemmas.{comes_before}
use Rattle.lola_pacing_normal.proofs.KeptLemmas.{least_in_any_order, length_by_members}

-- the test of candidates
abbrev pub passes_some : List ℕ → ℕ → Bool
passes_some cs inputs = satisfies_some inputs (map set_of cs)

-- the least of candidates
pub least_sets : (cs : List ℕ) (sets : List InputSet) → AreLeastOf cs sets → AreLeastSets (passes_some cs) sets
least_sets cs sets h = record {
  passing = All-from_members (λ (s : InputSet). passes_some cs s.0 ≡ true) sets
      (λ s m. satisfies_some-by_member s.0 (map set_of cs) s (Contains-map set_of cs s.0 (All-contains (λ (t : InputSet). Contains cs t.0) sets s h.members m)) (satisfies-self s));
  enough = λ inputs e.
      let w = satisfies_some-member inputs (map set_of cs) e in
      let v = Contains-map_cases set_of cs w.0 w.1 in
      satisfies_some-through inputs (set_of v.0) sets (subst (λ (t : InputSet). satisfies inputs t ≡ true) (sym v.2) w.2) (All-contains (λ c. satisfies_some c sets ≡ true) cs v.0 h.enough v.1);
  apart = h.apart;
}

-- no list of the least sets is longer than another
pub no_longer : (passes : ℕ → Bool) (a b : List InputSet) → AreLeastSets passes a → AreLeastSets passes b → length a ≤ length b
no_longer passes a b h g = length_by_members a b h.apart (least_sets_are_the_same passes a b h g)

pub narrow : (passes : ℕ → Bool) (sets : List InputSet) → AreLeastSets passes sets → length sets ≤ 256 → ¬ (IsTooWide passes)
narrow passes sets h few w =
    let le : length w.sets ≤ length sets = no_longer passes w.sets sets w.least h in
    let many : 256 < length w.sets = w.many in
    omega arith

-- what is kept of candidates is listed in order
pub lists_least : (cs ds : List ℕ) (sets : List InputSet) → IsPermutation cs ds → All (λ c. c < 2 ^ 64) ds → AreKept ds sets → ListsLeast (passes_some cs) sets
lists_least cs ds sets h small k =
    let least : AreLeastSets (passes_some cs) sets = least_sets cs sets (least_in_any_order cs ds sets h k.least) in
    let low : All (λ (s : InputSet). s.0 < 2 ^ 64) sets = All-weaker (λ (s : InputSet). Contains ds s.0) (λ (s : InputSet). s.0 < 2 ^ 64) (λ s m. All-contains (λ c. c < 2 ^ 64) ds s.0 small m) sets k.least.members in
    record {
      least = least;
      ordered = λ i j d lt l. comes_before _ _ (low j d l) (k.ordered i j d lt l) (k.least.apart i j d lt l);
      narrow = narrow (passes_some cs) sets least k.few;
    }

pub too_wide : (cs ds : List ℕ) → IsPermutation cs ds → AreManyKept ds → IsTooWide (passes_some cs)
too_wide cs ds h w = record { sets = w.sets; least = least_sets cs w.sets (least_in_any_order cs ds w.sets h w.least); many = w.many }

-- tests that agree

pub same_bool : (a b : Bool) → (a ≡ true → b ≡ true) → (b ≡ true → a ≡ true) → a ≡ b
same_bool true b h g = sym (h refl)
same_bool false true h g = g refl
same_bool false false h g = refl

pub least_by_test : (p q : ℕ → Bool) (sets : List InputSet) → ((n : ℕ) → p n ≡ q n) → AreLeastSets p sets → AreLeastSets q sets
least_by_test p q sets e h = record {
  passing = All-weaker (λ (s : InputSet). p s.0 ≡ true) (λ (s : InputSet). q s.0 ≡ true) (λ s t. sym (e s.0) ∙ t) sets h.passing;
  enough = λ n t. h.enough n (e n ∙ t);
  apart = h.apart;
}

pub wide_by_test : (p q : ℕ → Bool) → ((n : ℕ) → p n ≡ q n) → IsTooWide p → IsTooWide q
wide_by_test p q e w = record { sets = w.sets; least = least_by_test p q w.sets e w.least; many = w.many }

pub answers_by_test : (p q : ℕ → Bool) (r : Result (List InputSet) NormalEnd) → ((n : ℕ) → p n ≡ q n) → AnswersLeast p r → AnswersLeast q r
answers_by_test p q (Ok sets) e h = record { least = least_by_test p q sets e h.least; ordered = h.ordered; narrow = λ w. h.narrow (wide_by_test q p (λ n. sym (e n)) w) }
answers_by_test p q (Err ends.TooWide) e h = wide_by_test p q e h
answers_by_test p q (Err ends.Memory) e h = h

-- the sets of two lists

pub satisfies_some-append : (inputs : ℕ) (a b : List InputSet) → satisfies_some inputs (a ++ b) ≡ (satisfies_some inputs a || satisfies_some inputs b)
satisfies_some-append inputs [] b = refl
satisfies_some-append inputs (s ∷ a) b = ap (λ x. satisfies inputs s || x) (satisfies_some-append inputs a b) ∙ or_assoc (satisfies inputs s) (satisfies_some inputs a) (satisfies_some inputs b)
  where
    or_assoc : (x y z : Bool) → (x || (y || z)) ≡ ((x || y) || z)
    or_assoc true y z = refl
    or_assoc false y z = refl

-- a set and a candidate are the same
pub sets_of_candidates : (sets : List InputSet) → map set_of (map candidate_of sets) ≡ sets
sets_of_candidates [] = refl
sets_of_candidates (s ∷ sets) = ap (λ xs. s ∷ xs) (sets_of_candidates sets)

pub both_pass : (a b : List InputSet) (inputs : ℕ) → passes_some (map candidate_of (a ++ b)) inputs ≡ (satisfies_some inputs a || satisfies_some inputs b)
both_pass a b inputs = ap (satisfies_some inputs) (sets_of_candidates (a ++ b)) ∙ satisfies_some-append inputs a b

-- a union
union_passes : (inputs : ℕ) (s t : InputSet) → satisfies inputs (set_of (bit_or s.0 t.0)) ≡ (satisfies inputs s && satisfies inputs t)
union_passes inputs s t = same_bool (satisfies inputs (set_of (bit_or s.0 t.0))) (satisfies inputs s && satisfies inputs t) there back
  where
    both : (a b : Bool) → a ≡ true → b ≡ true → (a && b) ≡ true
    both true b e f = f
    both false b e f = absurd (cc)

    parts : (a b : Bool) → (a && b) ≡ true → (a ≡ true) × (b ≡ true)
    parts true b e = (refl, e)
    parts false b e = absurd (cc)

    there : satisfies inputs (set_of (bit_or s.0 t.0)) ≡ true → (satisfies inputs s && satisfies inputs t) ≡ true
    there e =
        let w = within_by_union s.0 t.0 inputs (eqb-true (bit_and (bit_or s.0 t.0) inputs) (bit_or s.0 t.0) e) in
        both (satisfies inputs s) (satisfies inputs t) (eq-eqb (bit_and s.0 inputs) s.0 w.0) (eq-eqb (bit_and t.0 inputs) t.0 w.1)

    back : (satisfies inputs s && satisfies inputs t) ≡ true → satisfies inputs (set_of (bit_or s.0 t.0)) ≡ true
    back e =
        let w = parts (satisfies inputs s) (satisfies inputs t) e in
        eq-eqb (bit_and (bit_or s.0 t.0) inputs) (bit_or s.0 t.0) (union_within s.0 t.0 inputs (eqb-true (bit_and s.0 inputs) s.0 w.0) (eqb-true (bit_and t.0 inputs) t.0 w.1))

-- the unions of a set with others
unions_with : (inputs : ℕ) (s : InputSet) (b : List InputSet) → passes_some (map (λ (t : InputSet). bit_or s.0 t.0) b) inputs ≡ (satisfies inputs s && satisfies_some inputs b)
unions_with inputs s [] = none (satisfies inputs s)
  where
    none : (x : Bool) → false ≡ (x && false)
    none true = refl
    none false = refl
unions_with inputs s (t ∷ b) =
    ap (λ x. x || passes_some (map (λ (t : InputSet). bit_or s.0 t.0) b) inputs) (union_passes inputs s t)
    ∙ (ap (λ x. (satisfies inputs s && satisfies inputs t) || x) (unions_with inputs s b) ∙ common (satisfies inputs s) (satisfies inputs t) (satisfies_some inputs b))
  where
    common : (x y z : Bool) → ((x && y) || (x && z)) ≡ (x && (y || z))
    common true y z = refl
    common false y z = refl

passes_some-append : (inputs : ℕ) (cs ds : List ℕ) → passes_some (cs ++ ds) inputs ≡ (passes_some cs inputs || passes_some ds inputs)
passes_some-append inputs [] ds = refl
passes_some-append inputs (c ∷ cs) ds = ap (λ x. satisfies inputs (set_of c) || x) (passes_some-append inputs cs ds) ∙ or_assoc (satisfies inputs (set_of c)) (passes_some cs inputs) (passes_some ds inputs)
  where
    or_assoc : (x y z : Bool) → (x || (y || z)) ≡ ((x || y) || z)
    or_assoc true y z = refl
    or_assoc false y z = refl

pub unions_pass : (a b : List InputSet) (inputs : ℕ) → passes_some (unions_of a b) inputs ≡ (satisfies_some inputs a && satisfies_some inputs b)
unions_pass [] b inputs = refl
unions_pass (s ∷ a) b inputs =
    passes_some-append inputs (map (λ (t : InputSet). bit_or s.0 t.0) b) (unions_of a b)
    ∙ (ap (λ x. x || passes_some (unions_of a b) inputs) (unions_with inputs s b)
    ∙ (ap (λ x. (satisfies inputs s && satisfies_some inputs b) || x) (unions_pass a b inputs) ∙ common (satisfies inputs s) (satisfies_some inputs a) (satisfies_some inputs b)))
  where
    common : (x y z : Bool) → ((x && z) || (y && z)) ≡ ((x || y) && z)
    common true true true = refl
    common true true false = refl
    common true false true = refl
    common true false false = refl
    common false y z = refl

-- nothing is listed
pub answers_end : (cs ds : List ℕ) (end : NormalEnd) → IsPermutation cs ds → (end ≡ ends.TooWide → AreManyKept ds) → AnswersLeast (passes_some cs) (Err end)
answers_end cs ds ends.TooWide h many = too_wide cs ds h (many refl)
answers_end cs ds ends.Memory h many = tt
