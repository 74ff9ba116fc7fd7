-- Texts that are numbered in the order of their first uses are one list.
use Rattle.std.proofs.Common.{◌≡◌, sym, ap, subst, ◌∙◌, refl, ℕ, suc, ◌+◌, ◌<◌, List, [], ◌∷◌, ◌++◌, Some, length, slice_get, inl, inr, arith}
use Rattle.std.specs.Prelude.{IsTrue}
use Rattle.std.proofs.lemmas.Bool.{cases_lt}
use Rattle.lola_value.specs.declared.value.Kind.{Kind}
use Rattle.lola_value.specs.declared.value.Value.{Value}
use Rattle.lola_value.specs.declared.value.Value.TheVariants as value
use Rattle.lola_parser_grammar.specs.declared.literals.Value.{Value as Written}
use Rattle.lola_parser_grammar.specs.declared.literals.Value.TheVariants as written
use Rattle.lola_parser_grammar.specs.declared.declarations.Constant.{Constant as TreeConstant}
use Rattle.lola_model.specs.Named.{are_distinct}
use Rattle.lola_model.specs.declared.spec.Constant.{Constant}
use Rattle.lola_names.specs.Numbered.{IsInOrder}
use Rattle.lola_names.specs.Specification.{IsConstant, IsConstantValue, AreConstants}
use Rattle.lola_names.proofs.Numbering.{one_place}
use Rattle.lola_front_law.proofs.AlikeKinds.{two}
use Rattle.lola_front_law.proofs.PlainShapes.{four}

-- numbers that are related so, pair by pair
module _ (T : ℕ → ℕ → Type 0) where
  abbrev pub Pairs : List ℕ → List ℕ → Type 0
  Pairs [] [] = Unit {0}
  Pairs (i ∷ is) (j ∷ js) = T i j × Pairs is js
  Pairs _ _ = ⊥

  pub pairs_join : (is ks js ls : List ℕ) → Pairs is js → Pairs ks ls → Pairs (is ++ ks) (js ++ ls)
  pairs_join [] ks [] ls h k = k
  pairs_join (i ∷ is) ks (j ∷ js) ls h k = (h.0, pairs_join is ks js ls h.1 k)
  pairs_join [] ks (j ∷ js) ls h k = absurd h
  pairs_join (i ∷ is) ks [] ls h k = absurd h

-- one text stands at these numbers in the two lists
abbrev pub HaveText : List (List ℕ) → List (List ℕ) → ℕ → ℕ → Type 0
HaveText ts us i j = (t : List ℕ) × (slice_get ts i ≡ Some t) × (slice_get us j ≡ Some t)

pub have_text : (ts us : List (List ℕ)) (t : List ℕ) (i j : ℕ) → slice_get ts i ≡ Some t → slice_get us j ≡ Some t → HaveText ts us i j
have_text ts us t i j p q = (t, p, q)

pub same_list : {A : Type 0} (xs ys : List A) → length xs ≡ length ys → ((k : ℕ) → k < length xs → slice_get xs k ≡ slice_get ys k) → xs ≡ ys
same_list [] [] e h = refl
same_list [] (y ∷ ys) e h = absurd (omega (arith, e))
same_list (x ∷ xs) [] e h = absurd (omega (arith, e))
same_list (x ∷ xs) (y ∷ ys) e h =
    let others = same_list xs ys (omega (arith, e)) (λ k lt. h (suc k) (omega (arith, lt))) in
    let first : Some x ≡ Some y = h 0 (omega arith) in
    cc

module _ (ts us : List (List ℕ)) (left : IsTrue (are_distinct ts)) (right : IsTrue (are_distinct us)) where
  -- the lists are the same as far as that
  abbrev Agree : ℕ → Type 0
  Agree n = (k : ℕ) → k < n → slice_get ts k ≡ slice_get us k

  agree_more : (n i j : ℕ) → Agree n → HaveText ts us i j → i ≡ n → j ≡ n → Agree (n + 1)
  agree_more n i j before h e f k lt = elim (cases_lt k n) [
    | inl below ↦ before k below
    | inr above ↦
        let same : k ≡ n = omega arith in
        ap (slice_get ts) (same ∙ sym e) ∙ (h.1 ∙ (sym h.2 ∙ ap (slice_get us) (f ∙ sym same)))
  ]

  -- numbers of the same texts, each list's in the order of their first uses
  in_step : (n m k : ℕ) (is js : List ℕ) → IsInOrder n is m → IsInOrder n js k → Pairs (HaveText ts us) is js → Agree n → (m ≡ k) × Agree m
  in_step n m k [] [] e f h before = (sym e ∙ f, subst Agree e before)
  in_step n m k [] (j ∷ js) e f h before = absurd h
  in_step n m k (i ∷ is) [] e f h before = absurd h
  in_step n m k (i ∷ is) (j ∷ js) (inl (a, e)) (inl (b, f)) h before = in_step n m k is js e f h.1 before
  in_step n m k (i ∷ is) (j ∷ js) (inl (a, e)) (inr (b, f)) h before =
      let same : i ≡ j = one_place us h.0.0 i j right (sym (before i a) ∙ h.0.1) h.0.2 in absurd (omega arith)
  in_step n m k (i ∷ is) (j ∷ js) (inr (a, e)) (inl (b, f)) h before =
      let same : i ≡ j = one_place ts h.0.0 i j left h.0.1 (before j b ∙ h.0.2) in absurd (omega arith)
  in_step n m k (i ∷ is) (j ∷ js) (inr (a, e)) (inr (b, f)) h before = in_step (n + 1) m k is js e f h.1 (agree_more n i j before h.0 a b)

  pub same_texts : (is js : List ℕ) → IsInOrder 0 is (length ts) → IsInOrder 0 js (length us) → Pairs (HaveText ts us) is js → ts ≡ us
  same_texts is js e f h =
      let both = in_step 0 (length ts) (length us) is js e f h (λ k lt. absurd (omega (arith, lt))) in
      same_list ts us both.0 both.1

  -- in one list a text has one number
  pub one_number : ts ≡ us → (i j : ℕ) → HaveText ts us i j → i ≡ j
  one_number same i j h = one_place us h.0 i j right (subst (λ (l : List (List ℕ)). slice_get l i ≡ Some h.0) same h.1) h.2

-- ---- constants

abbrev constant_of : Kind → Value → ℕ → ℕ → Constant
constant_of kind literal place before = record { kind = kind; literal = literal; place = place; before = before }

module _ (ts : List (List ℕ)) where
  one_value : (w : Written) (v u : Value) → IsConstantValue ts w v → IsConstantValue ts w u → v ≡ u
  one_value (written.Integer b n) v u h k = h ∙ sym k
  one_value (written.Truth t) v u h k = h ∙ sym k
  one_value (written.Text t) (value.Text i) (value.Text j) h k =
      let same : i.0 ≡ j.0 = elim (cases_lt i.0 (length ts)) [
        | inl below ↦ k.0 i.0 (h.1 below)
        | inr above ↦ elim (cases_lt j.0 (length ts)) [
          | inl there ↦ sym (h.0 j.0 (k.1 there))
          | inr past ↦ omega (arith, h.2, k.2)
        ]
      ] in
      ap (λ (n : ℕ). value.Text (record { 0 = n })) same
  one_value (written.Text t) (value.Text i) _ h k = absurd k
  one_value (written.Text t) _ u h k = absurd h

  one_constant : (x : TreeConstant) (c d : Constant) → IsConstant ts x c → IsConstant ts x d → c ≡ d
  one_constant x c d h k =
      four constant_of c.kind d.kind c.literal d.literal c.place d.place c.before d.before
      (h.kind ∙ sym k.kind) (one_value x.literal.value c.literal d.literal h.literal k.literal) (h.place ∙ sym k.place) (h.before ∙ sym k.before)

  pub one_constants : (xs : List TreeConstant) (cs ds : List Constant) → AreConstants ts xs cs → AreConstants ts xs ds → cs ≡ ds
  one_constants [] [] [] h k = refl
  one_constants [] [] (d ∷ ds) h k = absurd k
  one_constants [] (c ∷ cs) ds h k = absurd h
  one_constants (x ∷ xs) (c ∷ cs) (d ∷ ds) h k =
      two (λ (y : Constant) (ys : List Constant). y ∷ ys) c d cs ds (one_constant x c d h.0 k.0) (one_constants xs cs ds h.1 k.1)
  one_constants (x ∷ xs) (c ∷ cs) [] h k = absurd k
  one_constants (x ∷ xs) [] ds h k = absurd h
