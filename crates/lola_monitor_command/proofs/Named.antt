-- Which command a command line is, by its second word.
use Rattle.std.proofs.Common.{◌≡◌, ◌≤◌, refl, ap, sym, ◌∙◌, List, [], ◌∷◌, None, false, length, drop, map, get_or, arith}
use Rattle.std.specs.Prelude.{codes}
use Rattle.std.specs.Str.{bytes_eq}
use Rattle.std.proofs.lemmas.Slice.Eq.{bytes_eq-Decides}
use Rattle.std.proofs.lemmas.Bool.{false_from_ne_true}
use Rattle.lola_monitor_command.specs.Said.{Word, said_from}
use Rattle.lola_monitor_command.specs.Command.{drill_of, replay_of, snapshot_of, of_said, command_of}

pub drills : {X : Type 0} (f : X → Word) (xs : List X) (x : X) → 2 ≤ length xs → x ≡ get_or xs 1 x → f x ≡ codes "drill"
    → command_of (map f xs) ≡ of_said (drill_of (map f xs)) (said_from false 2 (drop 2 (map f xs)))
drills f [] x some is e = absurd (omega (arith, some))
drills f (y ∷ []) x some is e = absurd (omega (arith, some))
drills f (y ∷ z ∷ xs) x some is e = rw (ap f (sym is) ∙ e) refl

pub replays : {X : Type 0} (f : X → Word) (xs : List X) (x : X) → 2 ≤ length xs → x ≡ get_or xs 1 x → f x ≡ codes "replay"
    → command_of (map f xs) ≡ of_said replay_of (said_from false 2 (drop 2 (map f xs)))
replays f [] x some is e = absurd (omega (arith, some))
replays f (y ∷ []) x some is e = absurd (omega (arith, some))
replays f (y ∷ z ∷ xs) x some is e = rw (ap f (sym is) ∙ e) refl

pub snapshots : {X : Type 0} (f : X → Word) (xs : List X) (x : X) → 2 ≤ length xs → x ≡ get_or xs 1 x → f x ≡ codes "snapshot"
    → command_of (map f xs) ≡ of_said snapshot_of (said_from false 2 (drop 2 (map f xs)))
snapshots f [] x some is e = absurd (omega (arith, some))
snapshots f (y ∷ []) x some is e = absurd (omega (arith, some))
snapshots f (y ∷ z ∷ xs) x some is e = rw (ap f (sym is) ∙ e) refl

-- another word

differs : (w v : Word) → (w ≡ v → ⊥) → bytes_eq w v ≡ false
differs w v h = false_from_ne_true (bytes_eq w v) (λ e. h ((bytes_eq-Decides w v).0 e))

pub is_none : {X : Type 0} (f : X → Word) (xs : List X) (x : X) → 2 ≤ length xs → x ≡ get_or xs 1 x → (f x ≡ codes "run" → ⊥) → (f x ≡ codes "analyse" → ⊥) → (f x ≡ codes "drill" → ⊥) → (f x ≡ codes "replay" → ⊥) → (f x ≡ codes "snapshot" → ⊥)
    → command_of (map f xs) ≡ None
is_none f [] x some is run analyse drill replay snapshot = absurd (omega (arith, some))
is_none f (y ∷ []) x some is run analyse drill replay snapshot = absurd (omega (arith, some))
is_none f (y ∷ z ∷ xs) x some is run analyse drill replay snapshot =
    let e = ap f is in
    rw (differs (f z) (codes "run") (λ h. run (e ∙ h)), differs (f z) (codes "analyse") (λ h. analyse (e ∙ h)), differs (f z) (codes "drill") (λ h. drill (e ∙ h)), differs (f z) (codes "replay") (λ h. replay (e ∙ h)), differs (f z) (codes "snapshot") (λ h. snapshot (e ∙ h))) refl
