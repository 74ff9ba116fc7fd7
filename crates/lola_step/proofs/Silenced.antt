-- Values that have no lines may be left out.
use Rattle.std.proofs.Common.{◌≡◌, refl, ap, ◌∙◌, sym, ℕ, suc, ◌+◌, List, [], ◌∷◌, ◌++◌, Some, Option, Bool, true, false, if◌then◌else◌, slice_get, subst, arith, append_assoc}
use Rattle.lola_value.specs.declared.text.Field.{Field}
use Rattle.lola_value.specs.Answer.{Answer, Given}
use Rattle.lola_model.specs.Model.{is_input}
use Rattle.lola_model.specs.Table.{Living, StreamRow}
use Rattle.lola_model.specs.Texts.{output_lines, trigger_lines, value_lines}
use Rattle.lola_model.specs.declared.journal.Show.{Show}
use Rattle.lola_model.specs.declared.journal.Show.TheVariants.{Outputs, Triggers}
use Rattle.lola_model.specs.declared.spec.Sort.{Sort}
use Rattle.lola_model.specs.declared.spec.Sort.TheVariants as sort
use Rattle.lola_model.specs.declared.spec.Stream.{Stream}
use Rattle.lola_step_contents.specs.Ends.{RowValue, add_value, lines_at, lines_of, row_values, values_among}
use Rattle.lola_step.specs.Ends.{shown_values}
use Rattle.lola_step.specs.Found.{hides_outputs, is_hidden}

-- a stream that is not hidden is no input

sort_shown : (show : Show) (k : Sort) → (elim k [ sort.Input ↦ true | sort.Output ↦ hides_outputs show | sort.Trigger ↦ false ]) ≡ false
    → (elim k [ sort.Input ↦ true | sort.Output ↦ false | sort.Trigger ↦ false ]) ≡ false
sort_shown show sort.Input h = h
sort_shown show sort.Output h = refl
sort_shown show sort.Trigger h = refl

pub not_hidden : (show : Show) (s : Stream) → is_hidden show s ≡ false → is_input s ≡ false
not_hidden show s h = sort_shown show s.sort h

-- and of one that is there are no lines

outputs_hidden : (show : Show) (time : ℕ) (s : Stream) (p : List Field) (v : Field) → hides_outputs show ≡ true → output_lines show time s p v ≡ []
outputs_hidden Triggers time s p v h = refl
outputs_hidden Outputs time s p v h = absurd (cc)

abbrev lines_by : Show → ℕ → Stream → List Field → Field → Sort → List (List ℕ)
lines_by show time s p v k = elim k [ sort.Input ↦ [] | sort.Output ↦ output_lines show time s p v | sort.Trigger ↦ trigger_lines time s v ]

sort_hidden : (show : Show) (time : ℕ) (s : Stream) (p : List Field) (v : Field) (k : Sort) → (elim k [ sort.Input ↦ true | sort.Output ↦ hides_outputs show | sort.Trigger ↦ false ]) ≡ true
    → lines_by show time s p v k ≡ []
sort_hidden show time s p v sort.Input h = refl
sort_hidden show time s p v sort.Output h = outputs_hidden show time s p v h
sort_hidden show time s p v sort.Trigger h = absurd (cc)

no_line : (show : Show) (time : ℕ) (s : Stream) (p : List Field) (v : Field) → is_hidden show s ≡ true → value_lines show time s p v ≡ []
no_line show time s p v h = sort_hidden show time s p v s.sort h

module _ (show : Show) (time : ℕ) (streams : List Stream) where
  abbrev lines : List RowValue → List (List ℕ)
  lines vs = lines_of show time streams vs

  lines_both : (vs ws : List RowValue) → lines (vs ++ ws) ≡ lines vs ++ lines ws
  lines_both [] ws = refl
  lines_both (v ∷ vs) ws =
      let here : List (List ℕ) = lines_at show time (slice_get streams v.stream) v.params v.value in
      ap (λ (ls : List (List ℕ)). here ++ ls) (lines_both vs ws) ∙ sym (append_assoc here (lines vs) (lines ws))

  module _ (n : ℕ) (s : Stream) (at : slice_get streams n ≡ Some s) where
    one_hidden : is_hidden show s ≡ true → (p : List Field) (a : Answer) (rest : List RowValue) → lines (add_value n p a rest) ≡ lines rest
    one_hidden h p (Given v) rest =
        ap (λ (o : Option Stream). lines_at show time o p v ++ lines rest) at ∙ ap (λ (ls : List (List ℕ)). ls ++ lines rest) (no_line show time s p v h)
    one_hidden h p a rest = refl

    none_of : is_hidden show s ≡ true → (ls : List Living) → lines (values_among n ls) ≡ []
    none_of h [] = refl
    none_of h (l ∷ ls) = one_hidden h l.instance.params l.outcome (values_among n ls) ∙ none_of h ls

    of_one : (b c : Bool) → is_hidden show s ≡ b → is_input s ≡ c → (ls : List Living) → lines (if c then [] else values_among n ls) ≡ lines (if b then [] else values_among n ls)
    of_one true true h i ls = refl
    of_one true false h i ls = none_of h ls
    of_one false true h i ls = absurd (let e = not_hidden show s h in cc)
    of_one false false h i ls = refl

  from_stream : (n : ℕ) (xs : List Stream) (ys : List StreamRow) → ((i m : ℕ) (x : Stream) → m ≡ n + i → slice_get xs i ≡ Some x → slice_get streams m ≡ Some x)
      → lines (row_values n xs ys) ≡ lines (shown_values show n xs ys)
  from_stream n [] ys each = refl
  from_stream n (x ∷ xs) [] each = refl
  from_stream n (x ∷ xs) (y ∷ ys) each =
      let all : List RowValue = if is_input x then [] else values_among n y.living in
      let some : List RowValue = if is_hidden show x then [] else values_among n y.living in
      let later : lines (row_values (n + 1) xs ys) ≡ lines (shown_values show (n + 1) xs ys) =
      from_stream (n + 1) xs ys (λ i m z e a. each (suc i) m z (omega arith) a) in
      lines_both all (row_values (n + 1) xs ys)
      ∙ (ap (λ (ls : List (List ℕ)). ls ++ lines (row_values (n + 1) xs ys)) (of_one n x (each 0 n x (omega arith) refl) (is_hidden show x) (is_input x) refl refl y.living)
      ∙ (ap (λ (ls : List (List ℕ)). lines some ++ ls) later
      ∙ sym (lines_both some (shown_values show (n + 1) xs ys))))

-- the lines of a row are those of the values of streams that are not hidden
pub hidden_left_out : (show : Show) (time : ℕ) (streams : List Stream) (ys : List StreamRow) → lines_of show time streams (row_values 0 streams ys) ≡ lines_of show time streams (shown_values show 0 streams ys)
hidden_left_out show time streams ys =
    from_stream show time streams 0 streams ys (λ i m x e a. let same : i ≡ m = omega arith in subst (λ j. slice_get streams j ≡ Some x) same a)
