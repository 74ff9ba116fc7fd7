-- Lines that are accepted are exactly those with which the lines of a saved state begin.
use Rattle.std.proofs.Common.{◌≡◌, List, ◌++◌, Option, Some, None, sym, subst, refl}
use Rattle.std.specs.Prelude.{IsSome}
use Rattle.lola_save_text.specs.Forms.{AreStorable, StreamForm}
use Rattle.lola_save_text.specs.Lines.{StateLine}
use Rattle.lola_save_text.specs.Places.{AtStart, Place}
use Rattle.lola_save_text.specs.Runs.{AreWhole, BeginSaved, run}
use Rattle.lola_save_text.proofs.Another.{another-there}
use Rattle.lola_save_text.proofs.Completing.{accepted-goes-on, going-on-accepted}
use Rattle.lola_save_text.proofs.Few.{are-few}
use Rattle.lola_save_text.proofs.Saved.{saved-run}
use Rattle.lola_save_text.proofs.Whole.{whole-state}

pub accepted-begins : (forms : List StreamForm) (ls : List StateLine) → AreStorable forms → IsSome (run forms AtStart ls) → BeginSaved forms ls
accepted-begins forms ls plain h = by (run forms AtStart ls) refl h
  where
    by : (o : Option Place) → run forms AtStart ls ≡ o → IsSome o → BeginSaved forms ls
    by None e s = absurd (cc)
    by (Some p) e s =
        let g = accepted-goes-on another-there forms ls p plain e in
        let w = whole-state forms (ls ++ g.0) g.1 in
        (w.0, w.1, g.0, sym w.2)

pub begins-accepted : (forms : List StreamForm) (ls : List StateLine) → BeginSaved forms ls → IsSome (run forms AtStart ls)
begins-accepted forms ls b =
    going-on-accepted forms ls (b.2, subst (λ (xs : List StateLine). AreWhole forms xs) b.3 (saved-run forms are-few b.0 b.1))
