-- What is shown and remembered of instances, through a naming that has the texts that they hold.
use Rattle.std.proofs.Common.{◌≡◌, ℕ, zero, suc, ◌+◌, List, [], ◌∷◌, ◌++◌, drop, map, refl, ap, sym, ◌∙◌, subst, Option, Some, None, slice_get, add-one}
use Rattle.std.specs.Prelude.{flat_map}
use Rattle.lola_value.specs.declared.text.Field.{Field}
use Rattle.lola_value.specs.declared.value.TextId.{TextId}
use Rattle.lola_value.specs.Naming.{Naming, the_values}
use Rattle.lola_model.specs.Store.{SeenInstance}
use Rattle.lola_text.specs.Needed.{AreAmong, IsAmongIn, KeepsTexts}
use Rattle.lola_instances_one.specs.Holdings.{Holdings, slot_seen}
use Rattle.lola_instances_one.specs.Texts.{slot_texts, KeepsOutcome}
use Rattle.lola_text.proofs.Among.{AreWithin, within_front, within_back, all_within, outcome_within, keeps_within}
use Rattle.lola_instances_one.proofs.Needing.{params_among, shown_among, remembers-kept}
use Rattle.lola_instances_stream.specs.Crowds.{RemembersAt}
use Rattle.lola_instances_stream.specs.Each.{Each}

-- an instance that is seen has no text but these
abbrev pub Shows : List TextId → SeenInstance → Type 0
Shows ids x = AreAmong ids (the_values x.params) × IsAmongIn ids x.outcome

pub shows_within : (xs ys : List TextId) → AreWithin xs ys → (x : SeenInstance) → Shows xs x → Shows ys x
shows_within xs ys w x h = (all_within xs ys w (the_values x.params) h.0, outcome_within xs ys w x.outcome h.1)

slot_shows : (step : ℕ) (s : Holdings) → KeepsOutcome s → Shows (slot_texts s) (slot_seen step s)
slot_shows step s keeps = (params_among s, shown_among s keeps step)

pub lives_show : (step : ℕ) (ss : List Holdings) (i : ℕ) (x : SeenInstance) → Each KeepsOutcome ss → slice_get (map (slot_seen step) ss) i ≡ Some x → Shows (flat_map slot_texts ss) x
lives_show step [] zero x keep e = absurd (cc)
lives_show step [] (suc i) x keep e = absurd (cc)
lives_show step (s ∷ ss) zero x keep e =
    let same : slot_seen step s ≡ x = cc in
    subst (Shows (slot_texts s ++ flat_map slot_texts ss)) same
    (shows_within (slot_texts s) (slot_texts s ++ flat_map slot_texts ss) (within_front (slot_texts s) (flat_map slot_texts ss)) (slot_seen step s) (slot_shows step s (keep 0 s refl)))
lives_show step (s ∷ ss) (suc i) x keep e =
    shows_within (flat_map slot_texts ss) (slot_texts s ++ flat_map slot_texts ss) (within_back (slot_texts s) (flat_map slot_texts ss)) x (lives_show step ss i x (λ j. keep (suc j)) e)

-- a naming that has the texts of an instance serves for it
pub kept_at : (ids : List TextId) (names fewer : Naming) (start time step : ℕ) (o : Option Holdings) (values : List (ℕ × Field)) → ((s : Holdings) → o ≡ Some s → KeepsOutcome s × AreWithin (slot_texts s) ids)
    → KeepsTexts ids names fewer → RemembersAt start time step names o values → RemembersAt start time step fewer o values
kept_at ids names fewer start time step None values w k h = h
kept_at ids names fewer start time step (Some s) values w k h =
    let here = w s refl in
    remembers-kept start time step names fewer s values here.0 (keeps_within (slot_texts s) ids names fewer here.1 k) h

-- the texts from a place on are those of the instance there, and those behind it

texts_at : (ss : List Holdings) (i : ℕ) (s : Holdings) → slice_get ss i ≡ Some s → flat_map slot_texts (drop i ss) ≡ slot_texts s ++ flat_map slot_texts (drop (suc i) ss)
texts_at [] zero s e = absurd (cc)
texts_at [] (suc i) s e = absurd (cc)
texts_at (x ∷ ss) zero s e = let same : x ≡ s = cc in ap (λ (y : Holdings). slot_texts y ++ flat_map slot_texts ss) same
texts_at (x ∷ ss) (suc i) s e = texts_at ss i s e

pub texts_from : (ss : List Holdings) (i : ℕ) (s : Holdings) → slice_get ss i ≡ Some s → flat_map slot_texts (drop i ss) ≡ slot_texts s ++ flat_map slot_texts (drop (i + 1) ss)
texts_from ss i s e = texts_at ss i s e ∙ ap (λ n. slot_texts s ++ flat_map slot_texts (drop n ss)) (sym (add-one i))
