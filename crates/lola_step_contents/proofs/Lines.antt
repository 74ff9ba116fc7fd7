-- The lines of a row are those of its values, in order.
use Rattle.std.proofs.Common.{◌≡◌, refl, ap, ◌∙◌, sym, ℕ, ◌+◌, arith, List, [], ◌∷◌, ◌++◌, Some, Bool, true, false, if◌then◌else◌, length, slice_get, append_assoc, length-append}
use Rattle.lola_value.specs.declared.text.Field.{Field}
use Rattle.lola_value.specs.Answer.{Answer, Given, Missing, Faulted, Poisoned}
use Rattle.lola_model.specs.Model.{is_input, closes_from}
use Rattle.lola_model.specs.Table.{Living, StreamRow, TableRow}
use Rattle.lola_model.specs.Texts.{answer_lines, value_lines, output_lines, trigger_lines, living_lines, stream_lines}
use Rattle.lola_model.specs.declared.journal.Show.{Show}
use Rattle.lola_model.specs.declared.plan.Plan.{Plan}
use Rattle.lola_model.specs.declared.spec.Sort.{Sort}
use Rattle.lola_model.specs.declared.spec.Sort.TheVariants as sort
use Rattle.lola_model.specs.declared.spec.Stream.{Stream}
use Rattle.lola_step_contents.specs.Ends.{RowValue, add_value, values_among, row_values, lines_at, lines_of}

input_sort : (k : Sort) → (elim k as (λ _. Bool) [ sort.Input ↦ true | sort.Output ↦ false | sort.Trigger ↦ false ]) ≡ true → k ≡ sort.Input
input_sort sort.Input e = refl
input_sort sort.Output e = absurd (cc)
input_sort sort.Trigger e = absurd (cc)

stream_there : (before : List Stream) (s : Stream) (ss : List Stream) → slice_get (before ++ s ∷ ss) (length before) ≡ Some s
stream_there [] s ss = refl
stream_there (b ∷ bs) s ss = stream_there bs s ss

module _ (show : Show) (time : ℕ) where
  -- an input shows nothing
  input_lines : (s : Stream) → is_input s ≡ true → (ls : List Living) → living_lines show time s ls ≡ []
  input_lines s e [] = refl
  input_lines s e (l ∷ ls) = with_outcome l.outcome (input_lines s e ls)
    where
      silent : (v : Field) → value_lines show time s l.instance.params v ≡ []
      silent v =
          ap (λ k. elim k as (λ _. List (List ℕ)) [
            | sort.Input ↦ []
            | sort.Output ↦ output_lines show time s l.instance.params v
            | sort.Trigger ↦ trigger_lines time s v
          ]) (input_sort s.sort e)

      with_outcome : (a : Answer) → living_lines show time s ls ≡ [] → answer_lines show time s l.instance.params a ++ living_lines show time s ls ≡ []
      with_outcome (Given v) h = ap (λ (xs : List (List ℕ)). xs ++ living_lines show time s ls) (silent v) ∙ h
      with_outcome Missing h = h
      with_outcome (Faulted k) h = h
      with_outcome Poisoned h = h

  module _ (streams : List Stream) where
    lines-append : (vs ws : List RowValue) → lines_of show time streams (vs ++ ws) ≡ lines_of show time streams vs ++ lines_of show time streams ws
    lines-append [] ws = refl
    lines-append (v ∷ vs) ws =
        let here : List (List ℕ) = lines_at show time (slice_get streams v.stream) v.params v.value in
        ap (λ (xs : List (List ℕ)). here ++ xs) (lines-append vs ws)
        ∙ sym (append_assoc here (lines_of show time streams vs) (lines_of show time streams ws))

    lines_among : (n : ℕ) (s : Stream) → slice_get streams n ≡ Some s → (ls : List Living) → lines_of show time streams (values_among n ls) ≡ living_lines show time s ls
    lines_among n s at [] = refl
    lines_among n s at (l ∷ ls) = with_outcome l.outcome (lines_among n s at ls)
      where
        with_outcome : (a : Answer) → lines_of show time streams (values_among n ls) ≡ living_lines show time s ls
            → lines_of show time streams (add_value n l.instance.params a (values_among n ls)) ≡ answer_lines show time s l.instance.params a ++ living_lines show time s ls
        with_outcome (Given v) h =
            ap (λ o. lines_at show time o l.instance.params v ++ lines_of show time streams (values_among n ls)) at
            ∙ ap (λ (xs : List (List ℕ)). value_lines show time s l.instance.params v ++ xs) h
        with_outcome Missing h = h
        with_outcome (Faulted k) h = h
        with_outcome Poisoned h = h

    lines_from : (n : ℕ) (before : List Stream) → length before ≡ n → (ss : List Stream) → streams ≡ before ++ ss → (ys : List StreamRow)
        → lines_of show time streams (row_values n ss ys) ≡ stream_lines show time ss ys
    lines_from n before at [] is ys = refl
    lines_from n before at (s ∷ ss) is [] = refl
    lines_from n before at (s ∷ ss) is (y ∷ ys) =
        let more : length (before ++ s ∷ []) ≡ n + 1 = omega (arith, length-append before (s ∷ [])) in
        with_input (is_input s) refl (lines_from (n + 1) (before ++ s ∷ []) more ss (is ∙ sym (append_assoc before (s ∷ []) ss)) ys)
      where
        there : slice_get streams n ≡ Some s
        there = ap (λ (xs : List Stream). slice_get xs n) is ∙ (ap (λ m. slice_get (before ++ s ∷ ss) m) (sym at) ∙ stream_there before s ss)

        with_input : (b : Bool) → is_input s ≡ b → lines_of show time streams (row_values (n + 1) ss ys) ≡ stream_lines show time ss ys
            → lines_of show time streams ((if b then [] else values_among n y.living) ++ row_values (n + 1) ss ys) ≡ living_lines show time s y.living ++ stream_lines show time ss ys
        with_input true e h = h ∙ ap (λ (xs : List (List ℕ)). xs ++ stream_lines show time ss ys) (sym (input_lines s e y.living))
        with_input false e h =
            lines-append (values_among n y.living) (row_values (n + 1) ss ys)
            ∙ (ap (λ (xs : List (List ℕ)). xs ++ lines_of show time streams (row_values (n + 1) ss ys)) (lines_among n s there y.living)
            ∙ ap (λ (xs : List (List ℕ)). living_lines show time s y.living ++ xs) h)

  -- of all streams
  pub lines_of_values : (ss : List Stream) (ys : List StreamRow) → lines_of show time ss (row_values 0 ss ys) ≡ stream_lines show time ss ys
  lines_of_values ss ys = lines_from ss 0 [] refl ss refl ys

  module _ (plan : Plan) (start : ℕ) (rows : List TableRow) (row : TableRow) where
    -- close clauses change no lines
    pub lines_kept : (n : ℕ) (ss : List Stream) (ys : List StreamRow) → stream_lines show time ss (closes_from plan start rows row n ss ys) ≡ stream_lines show time ss ys
    lines_kept n [] ys = refl
    lines_kept n (s ∷ ss) [] = refl
    lines_kept n (s ∷ ss) (y ∷ ys) =
        ap (λ (xs : List (List ℕ)). living_lines show time s y.living ++ xs) (lines_kept (n + 1) ss ys)
