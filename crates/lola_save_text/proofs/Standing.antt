-- What a restored store stands for: the content behind a table, in which its streams are as bad as it shows them.
use Rattle.std.proofs.Common.{◌≡◌, ℕ, suc, ◌+◌, List, [], ◌∷◌, drop, map, refl, sym, subst, ap, ◌∙◌, arith, Bool, true, false, Some, None, if◌then◌else◌, slice_get, append-nil}
use Rattle.lola_value.specs.Naming.{Naming, IsHeldIn, read_outcome}
use Rattle.lola_value.specs.declared.value.Outcome.{Outcome}
use Rattle.lola_value.specs.declared.text.Field.{Field}
use Rattle.lola_model.specs.Content.{Life, StreamContent, time_of, values_over}
use Rattle.lola_model.specs.Model.{filled_kind, last_row, survivors}
use Rattle.lola_model.specs.Runs.{life_after, rested_life, rested_stream, streams_after}
use Rattle.lola_model.specs.Store.{Memories, SeenInstance, SeenStream, StandForLives, StandForStreams, StandsForStream, StreamLayout, layouts_from, spawns_in}
use Rattle.lola_model.specs.Table.{Instance, TableRow}
use Rattle.lola_model.specs.declared.pacing.ClausePacings.{ClausePacings}
use Rattle.lola_model.specs.declared.plan.Plan.{Plan}
use Rattle.lola_model.specs.declared.spec.Stream.{Stream}
use Rattle.lola_save_text.specs.Fitting.{time_or}
use Rattle.lola_save_text.specs.Forms.{AreStorable, HaveLength, stream_forms}
use Rattle.lola_save_text.specs.declared.forms.StreamForm.{StreamForm}
use Rattle.lola_save_text.specs.declared.state.SavedInstance.{SavedInstance}
use Rattle.lola_save_text.specs.declared.state.Times.{Times}
use Rattle.lola_save_text.specs.JournalStates.{saved_life, saved_streams}
use Rattle.lola_save_text.specs.Restored.{AreRestored, StreamsAreRestored}
use Rattle.lola_save_text.proofs.Assembly.{IsKnownTable}
use Rattle.lola_save_text.proofs.ValuesOfLives.{saved-of-life}

-- the streams of a content, as bad as a store shows them
abbrev pub as_bad : List SeenStream → List StreamContent → List StreamContent
as_bad [] cs = []
as_bad (x ∷ xs) [] = []
as_bad (x ∷ xs) (c ∷ cs) = record { bad = x.bad; lives = c.lives } ∷ as_bad xs cs

-- a time of birth that is saved
same-birth : (b : Bool) (t u : ℕ) → b ≡ true → (if b then Some t else None) ≡ Some u → u ≡ t
same-birth true t u e q = cc
same-birth false t u e q = absurd (cc)

module _ (plan : Plan) (times : Times) (table : List TableRow) (known : IsKnownTable plan times table) (names : Naming) (remembers : Memories) where
  abbrev start : ℕ
  start = time_or 0 times.start

  module _ (n : ℕ) (s : Stream) (at : slice_get plan.spec.streams n ≡ Some s) (form : StreamForm) (kind_is : form.kind ≡ filled_kind s) (params_are : form.parameters ≡ s.parameters) (sized : HaveLength form.windows) where
    abbrev saved : List Instance → List SavedInstance
    saved is = map (saved_life start form) (map (life_after table n) is)

    stand-lives : (i : ℕ) (xs : List SeenInstance) (is : List Instance) → AreRestored times names remembers n i form xs (saved is) → StandForLives names remembers n i xs (map (life_after table n) is)
    stand-lives i [] [] h = tt
    stand-lives i [] (j ∷ is) h = absurd h
    stand-lives i (x ∷ xs) [] h = absurd h
    stand-lives i (x ∷ xs) (j ∷ is) h = (
      record {
        params = h.0.params;
        params_held = h.0.held;
        outcome = ap (λ (o : Outcome). read_outcome names o) h.0.silent;
        outcome_held = subst (λ (o : Outcome). IsHeldIn names o) (sym h.0.silent) tt;
        earlier = h.0.past (values_over n j (drop j.born table)) (saved-of-life plan times table known n s at form kind_is params_are sized j);
      },
      stand-lives (i + 1) xs is h.1,
    )

    same-births : (i : ℕ) (xs : List SeenInstance) (is : List Instance) → AreRestored times names remembers n i form xs (saved is) → form.spawns ≡ true
        → map (λ (x : SeenInstance). x.born) xs ≡ map (λ (l : Life). l.born) (map (life_after table n) is)
    same-births i [] [] h e = refl
    same-births i [] (j ∷ is) h e = absurd h
    same-births i (x ∷ xs) [] h e = absurd h
    same-births i (x ∷ xs) (j ∷ is) h e =
        let here : x.born ≡ time_of 0 (slice_get table j.born) = same-birth form.spawns (time_of 0 (slice_get table j.born)) x.born e (h.0.born e) in
        ap (λ (t : ℕ). t ∷ map (λ (y : SeenInstance). y.born) xs) here
        ∙ ap (λ (ts : List ℕ). time_of 0 (slice_get table j.born) ∷ ts) (same-births (i + 1) xs is h.1 e)

    stands-stream : (spawns : Bool) → spawns ≡ form.spawns → (x : SeenStream) (is : List Instance) → AreRestored times names remembers n 0 form x.instances (saved is)
        → StandsForStream names remembers n spawns x (record { bad = x.bad; lives = map (life_after table n) is })
    stands-stream spawns same x is h = record {
      bad = refl;
      lives = stand-lives 0 x.instances is h;
      births = λ e. same-births 0 x.instances is h (sym same ∙ e);
    }

  -- all streams from one on
  pub streams-stand : (all : List StreamLayout) (n : ℕ) (ss : List Stream) (kept : List ℕ) (pacings : List ClausePacings) (xs : List SeenStream)
      → ((j : ℕ) (s : Stream) → slice_get ss j ≡ Some s → slice_get plan.spec.streams (n + j) ≡ Some s)
      → ((j : ℕ) (s : StreamLayout) → slice_get (layouts_from ss kept pacings) j ≡ Some s → slice_get all (n + j) ≡ Some s)
      → AreStorable (stream_forms plan n (layouts_from ss kept pacings))
      → StreamsAreRestored times names remembers n (stream_forms plan n (layouts_from ss kept pacings)) xs (saved_streams start (stream_forms plan n (layouts_from ss kept pacings)) (streams_after table n ss))
      → StandForStreams all names remembers n xs (as_bad xs (streams_after table n ss))
  streams-stand all n [] kept pacings [] at laid storable h = tt
  streams-stand all n [] kept pacings (x ∷ xs) at laid storable h = absurd h
  streams-stand all n (s ∷ ss) kept pacings [] at laid storable h = absurd h
  streams-stand all n (s ∷ ss) kept pacings (x ∷ xs) at laid storable h =
      let here : slice_get plan.spec.streams n ≡ Some s = subst (λ (m : ℕ). slice_get plan.spec.streams m ≡ Some s) (omega arith) (at 0 s refl) in
      let layout : slice_get all n ≡ slice_get (layouts_from (s ∷ ss) kept pacings) 0 =
      subst (λ (m : ℕ). slice_get all m ≡ slice_get (layouts_from (s ∷ ss) kept pacings) 0) (omega arith) (laid 0 _ refl) in (
        stands-stream n s here _ refl refl storable.1 (spawns_in (slice_get all n)) (ap spawns_in layout) x (survivors n s (last_row table)) h.0,
        streams-stand all (n + 1) ss _ _ xs (λ j t q. subst (λ (m : ℕ). slice_get plan.spec.streams m ≡ Some t) (omega arith) (at (suc j) t q))
            (λ j t q. subst (λ (m : ℕ). slice_get all m ≡ Some t) (omega arith) (laid (suc j) t q)) storable.2 h.1,
      )

  -- which is that content once its step is behind it: it had no outcomes

  rested-lives : (n time : ℕ) (is : List Instance) → map (rested_life time) (map (life_after table n) is) ≡ map (life_after table n) is
  rested-lives n time [] = refl
  rested-lives n time (j ∷ is) =
      ap (λ (vs : List (ℕ × Field)). record (life_after table n j) { earlier = vs } ∷ map (rested_life time) (map (life_after table n) is)) (append-nil (values_over n j (drop j.born table)))
      ∙ ap (λ (ls : List Life). life_after table n j ∷ ls) (rested-lives n time is)

  pub streams-rested : (n time : ℕ) (ss : List Stream) (kept : List ℕ) (pacings : List ClausePacings) (xs : List SeenStream)
      → StreamsAreRestored times names remembers n (stream_forms plan n (layouts_from ss kept pacings)) xs (saved_streams start (stream_forms plan n (layouts_from ss kept pacings)) (streams_after table n ss))
      → map (rested_stream time) (as_bad xs (streams_after table n ss)) ≡ streams_after table n ss
  streams-rested n time [] kept pacings [] h = refl
  streams-rested n time [] kept pacings (x ∷ xs) h = absurd h
  streams-rested n time (s ∷ ss) kept pacings [] h = absurd h
  streams-rested n time (s ∷ ss) kept pacings (x ∷ xs) h =
      ap (λ (ls : List Life). record { bad = false; lives = ls } ∷ map (rested_stream time) (as_bad xs (streams_after table (n + 1) ss))) (rested-lives n time (survivors n s (last_row table)))
      ∙ ap (λ (cs : List StreamContent). record { bad = false; lives = map (life_after table n) (survivors n s (last_row table)) } ∷ cs) (streams-rested (n + 1) time ss _ _ xs h.1)
