-- The lines of a saved state are read whole.
use Rattle.std.proofs.Common.{◌≡◌, ℕ, ◌+◌, List, [], ◌∷◌, ◌++◌, length, Bool, true, false, not, ◌&&◌, ◌||◌, if◌then◌else◌, Option, Some, None, refl, sym, ap, subst, ◌∙◌, arith, nat_le, nat_eq, append_assoc}
use Rattle.std.specs.Prelude.{flat_map, is_some}
use Rattle.lola_value.specs.declared.text.Field.{Field}
use Rattle.lola_save_text.proofs.Claims.{AreDifferent, AreFew}
use Rattle.lola_save_text.specs.Fitting.{Times, are_panes, are_values, is_among, is_last, is_start, is_value, most_steps, time_or}
use Rattle.lola_save_text.specs.Forms.{StreamForm, WindowForm}
use Rattle.lola_save_text.specs.Lines.{EndLine, InstLine, LastLine, PanesLine, RingLine, StartLine, StateLine, StepsLine, StreamLine, count_of, instance_lines, panes_lines, state_lines, streams_lines}
use Rattle.lola_save_text.specs.Places.{AtInst, AtLast, AtPanes, AtRing, AtStart, AtSteps, AtStream, Done, Hand, Place, are_params, behind_instance, behind_panes, chosen, is_birth, is_count, is_ring, most_lists, next, one_less, opened, where_so}
use Rattle.lola_save_text.specs.Runs.{AreWhole, run}
use Rattle.lola_save_text.specs.States.{SavedInstance, SavedPanes, SavedState}
use Rattle.lola_save_text.specs.Validity.{AllPanes, AreInstances, AreStreams, IsBorn, IsInstance, IsSaved, IsStream}
use Rattle.std.specs.List.{list_all}
use Rattle.lola_save_text.proofs.Choices.{both-so, so-le, so-eq, so-ne}

module _ (forms : List StreamForm) where
  pub step-so : (p : Place) (l : StateLine) (b : Bool) (q : Place) (ls : List StateLine) → next forms p l ≡ where_so b q → b ≡ true → run forms p (l ∷ ls) ≡ run forms q ls
  step-so p l b q ls e f = ap (λ o. chosen o (λ r. run forms r ls)) (e ∙ ap (λ c. where_so c q) f)

  panes-run : (ws : List WindowForm) (ps : List (Option SavedPanes)) (h : Hand) (rest : List StateLine) → AllPanes h.times h.form.kind ws ps
      → run forms (behind_panes h ws) (panes_lines ws ps ++ rest) ≡ run forms (behind_instance h) rest
  panes-run [] [] h rest a = refl
  panes-run [] (p ∷ ps) h rest a = absurd a
  panes-run (w ∷ ws) [] h rest a = absurd a
  panes-run (w ∷ ws) (p ∷ ps) h rest a =
      step-so (AtPanes h (w ∷ ws)) (PanesLine w.number p) (nat_eq w.number w.number && are_panes h.times h.form.kind w p) (behind_panes h ws) (panes_lines ws ps ++ rest) refl
      (both-so (nat_eq w.number w.number) (are_panes h.times h.form.kind w p) (so-eq w.number) a.0)
      ∙ panes-run ws ps h rest a.1

  birth-run : (h : Hand) (b : Option ℕ) → IsBorn h.form h.low h.high b → is_birth h b ≡ true
  birth-run h None e = ap not e
  birth-run h (Some b) e = both-so h.form.spawns (nat_le h.low b && nat_le b h.high) e.0 (both-so (nat_le h.low b) (nat_le b h.high) (so-le h.low b e.1) (so-le b h.high e.2))

  empty-or : (n : ℕ) (b : Bool) → (b ≡ false → n ≡ 0) → (b || nat_eq n 0) ≡ true
  empty-or n true e = refl
  empty-or n false e = ap (λ m. nat_eq m 0) (e refl)

  instances-run : (is : List SavedInstance) (h : Hand) (rest : List StateLine) → h.left ≡ count_of is → h.high ≡ time_or 0 h.times.last → AreInstances h.times h.form h.seen h.low is
      → run forms (behind_instance h) (flat_map (instance_lines h.form) is ++ rest) ≡ run forms (AtStream h.times (h.number + 1) h.later) rest
  instances-run [] h rest e t a = ap (λ (n : ℕ). run forms (if nat_eq n 0 then AtStream h.times (h.number + 1) h.later else AtInst h) rest) e
  instances-run (i ∷ is) h rest e t a =
      let h' : Hand = one_less h i.born i.params in
      let own : IsInstance h.times h.form i = a.0 in
      let tail : List StateLine = flat_map (instance_lines h.form) is ++ rest in
      let born : is_birth h i.born ≡ true = birth-run h i.born (subst (λ (n : ℕ). IsBorn h.form h.low n i.born) (sym t) a.1) in
      let params : are_params h i.params ≡ true = both-so (are_values h.form.parameters i.params) (not (is_among i.params h.seen)) own.params (ap not a.2) in
      let ring : is_ring h' i.ring ≡ true =
      both-so (list_all (is_value h.form.kind) i.ring) (nat_le (length i.ring) h.form.kept && (is_some h.times.last || nat_eq (length i.ring) 0)) own.ring
      (both-so (nat_le (length i.ring) h.form.kept) (is_some h.times.last || nat_eq (length i.ring) 0) (so-le (length i.ring) h.form.kept own.kept) (empty-or (length i.ring) (is_some h.times.last) own.none)) in
      ap (λ (b : Bool). run forms (if b then AtStream h.times (h.number + 1) h.later else AtInst h) (flat_map (instance_lines h.form) (i ∷ is) ++ rest)) (so-ne h.left (omega (arith, e)))
      ∙ (ap (λ m. run forms (AtInst h) (InstLine i.born i.params ∷ RingLine i.ring ∷ m)) (append_assoc (panes_lines h.form.windows i.panes) (flat_map (instance_lines h.form) is) rest)
      ∙ (step-so (AtInst h) (InstLine i.born i.params) (is_birth h i.born && are_params h i.params) (AtRing h') (RingLine i.ring ∷ (panes_lines h.form.windows i.panes ++ tail)) refl (both-so (is_birth h i.born) (are_params h i.params) born params)
      ∙ (step-so (AtRing h') (RingLine i.ring) (is_ring h' i.ring) (behind_panes h' h.form.windows) (panes_lines h.form.windows i.panes ++ tail) refl ring
      ∙ (panes-run h.form.windows i.panes h' tail own.panes
      ∙ instances-run is h' rest (omega (arith, e)) t a.3))))

  different : (t : Times) (s : StreamForm) (seen : List (List Field)) (low : ℕ) (is : List SavedInstance) → AreInstances t s seen low is → AreDifferent s.parameters seen is
  different t s seen low [] a = tt
  different t s seen low (i ∷ is) a = (a.0.params, a.2, different t s (i.params ∷ seen) (time_or low i.born) is a.3)

  module _ (few : AreFew) where
    none-or : (n : ℕ) (b : Bool) → (b ≡ false → n ≡ 0) → (nat_eq n 0 || b) ≡ true
    none-or n true e = by (nat_eq n 0)
      where
        by : (c : Bool) → (c || true) ≡ true
        by true = refl
        by false = refl
    none-or n false e = ap (λ m. nat_eq m 0 || false) (e refl)

    count-run : (t : Times) (s : StreamForm) (is : List SavedInstance) (b : Bool) → s.spawns ≡ b → IsStream t s is → is_count t s (count_of is) ≡ true
    count-run t s is true e a =
        ap (λ b. if b then nat_le (count_of is) (most_lists s.parameters) && (nat_eq (count_of is) 0 || is_some t.last) else nat_eq (count_of is) 1) e
        ∙ both-so (nat_le (count_of is) (most_lists s.parameters)) (nat_eq (count_of is) 0 || is_some t.last)
        (so-le (count_of is) (most_lists s.parameters) (few s.parameters is (different t s [] (time_or 0 t.start) is a.instances) (a.few e)))
        (none-or (count_of is) (is_some t.last) (a.unborn e))
    count-run t s is false e a =
        ap (λ b. if b then nat_le (count_of is) (most_lists s.parameters) && (nat_eq (count_of is) 0 || is_some t.last) else nat_eq (count_of is) 1) e
        ∙ ap (λ n. nat_eq n 1) (a.plain e)

    streams-run : (ss : List StreamForm) (iss : List (List SavedInstance)) (t : Times) (n : ℕ) → AreStreams t ss iss → run forms (AtStream t n ss) (streams_lines n ss iss ++ EndLine ∷ []) ≡ Some Done
    streams-run [] [] t n a = refl
    streams-run [] (is ∷ iss) t n a = absurd a
    streams-run (s ∷ ss) [] t n a = absurd a
    streams-run (s ∷ ss) (is ∷ iss) t n a =
        let h : Hand = opened t n s ss (count_of is) in
        let own : IsStream t s is = a.0 in
        let later : List StateLine = streams_lines (n + 1) ss iss ++ EndLine ∷ [] in
        ap (λ m. run forms (AtStream t n (s ∷ ss)) (StreamLine n (count_of is) ∷ m)) (append_assoc (flat_map (instance_lines s) is) (streams_lines (n + 1) ss iss) (EndLine ∷ []))
        ∙ (step-so (AtStream t n (s ∷ ss)) (StreamLine n (count_of is)) (nat_eq n n && is_count t s (count_of is)) (behind_instance h) (flat_map (instance_lines s) is ++ later) refl
        (both-so (nat_eq n n) (is_count t s (count_of is)) (so-eq n) (count-run t s is s.spawns refl own))
        ∙ (instances-run is h later refl refl own.instances ∙ streams-run ss iss t (n + 1) a.1))

    pub saved-run : (s : SavedState) → IsSaved forms s → AreWhole forms (state_lines forms s)
    saved-run s a =
        let t : Times = record { start = s.start; last = s.last; steps = s.steps } in
        let tail : List StateLine = streams_lines 0 forms s.streams ++ EndLine ∷ [] in
        step-so AtStart (StartLine s.start) (is_start s.start) (AtLast s.start) (LastLine s.last ∷ StepsLine s.steps ∷ tail) refl a.start
        ∙ (step-so (AtLast s.start) (LastLine s.last) (is_last s.start s.last) (AtSteps s.start s.last) (StepsLine s.steps ∷ tail) refl a.last
        ∙ (step-so (AtSteps s.start s.last) (StepsLine s.steps) (nat_le s.steps most_steps) (AtStream t 0 forms) tail refl (so-le s.steps most_steps a.steps)
        ∙ streams-run forms s.streams t 0 a.streams))
