-- How far runs of bytes go.
use Rattle.std.proofs.Common.{◌≡◌, ℕ, ◌+◌, ◌<◌, Bool, true, false, cond, [], ◌∷◌, ◌++◌, length, take, refl, sym, ◌∙◌, true≢false, arith, one-add}
use Rattle.std.specs.List.{prefix_len, slice_index, AllPass}
use Rattle.std.proofs.lemmas.List.Elements.{All-head, All-tail, All-nil, All-cons}
use Rattle.lola_lexer.specs.Spelling.{Bytes}

module _ (p : ℕ → Bool) where
  stops_at : (x : ℕ) (z : Bytes) (b : Bool) → p x ≡ b → p (slice_index z (prefix_len p z)) ≡ false
      → p (slice_index (x ∷ z) (cond b (1 + prefix_len p z) 0)) ≡ false
  stops_at x z true e h = rw (one-add) h
  stops_at x z false e h = e

  -- the byte behind a run is not of the kind, where the end of the text counts as 0
  pub run_stops : p 0 ≡ false → (z : Bytes) → p (slice_index z (prefix_len p z)) ≡ false
  run_stops none [] = none
  run_stops none (x ∷ z) = stops_at x z (p x) refl (run_stops none z)

  pub run_moves : p 0 ≡ false → (z : Bytes) → p (slice_index z 0) ≡ true → 0 < prefix_len p z
  run_moves none [] h = absurd (true≢false (sym h ∙ none))
  run_moves none (x ∷ z) h = rw h (omega arith)

  passes : (x : ℕ) (z : Bytes) (b : Bool) → p x ≡ b → AllPass p (take (prefix_len p z) z) → AllPass p (take (cond b (1 + prefix_len p z) 0) (x ∷ z))
  passes x z true e h = rw (one-add) (All-cons (λ b. p b ≡ true) x (take (prefix_len p z) z) e h)
  passes x z false e h = All-nil (λ b. p b ≡ true)

  pub run_passes : (z : Bytes) → AllPass p (take (prefix_len p z) z)
  run_passes [] = All-nil (λ b. p b ≡ true)
  run_passes (x ∷ z) = passes x z (p x) refl (run_passes z)

  -- a run is as long as what passes, where the next byte does not
  pub run_whole : (w rest : Bytes) → AllPass p w → p (slice_index rest 0) ≡ false → prefix_len p (w ++ rest) ≡ length w
  run_whole [] [] all stop = refl
  run_whole [] (x ∷ rest) all stop = rw stop refl
  run_whole (x ∷ w) rest all stop =
      let here : p x ≡ true = All-head (λ b. p b ≡ true) x w all in
      let more = run_whole w rest (All-tail (λ b. p b ≡ true) x w all) stop in
      rw here (omega (arith, more))
