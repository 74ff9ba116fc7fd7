-- What the store shows changes in its room alone, and only where there was memory.
use Rattle.std.proofs.Common.{◌≡◌, ℕ, sym, subst, Result, Ok, Err, OnOk, OnErr}
use Rattle.lola_value.specs.declared.text.Memory.{Memory}
use Rattle.lola_value.specs.Naming.{Naming}
use Rattle.lola_model.specs.Content.{Content}
use Rattle.lola_model.specs.Store.{Seen, Memories, Stands, after_prepare}
use Rattle.lola_step_contents.proofs.OneStream.{KeepsStream, stands_kept}
use Rattle.lola_step_contents.proofs.calls.prepare.Goals as goal

module _ (names : Naming) (old new : Memories) (keeps : (n : ℕ) → KeepsStream names old new n) (s s' : Seen) (c : Content) (h : Stands names old s c) where
  stands_prepared : (r : Result (Unit {0}) Memory) → OnOk r (s' ≡ after_prepare s) → OnErr r (s' ≡ s) → Stands names new s' c
  stands_prepared (Ok x) ok err =
      let kept = stands_kept names old new keeps s c h in
      subst (λ t. Stands names new t c) (sym ok) (record { start = kept.start; time = kept.time; streams = kept.streams })
  stands_prepared (Err e) ok err = subst (λ t. Stands names new t c) (sym err) (stands_kept names old new keeps s c h)

pub returns-clause-stands : goal.returns-clause-stands
returns-clause-stands g c names content stands =
    stands_prepared names (g.S.StreamStore.remembers c.args.store.now) (g.S.StreamStore.remembers c.prepare.new.self) (c.prepare.ensures.past names)
    (g.S.StreamStore.seen c.args.store.now) (g.S.StreamStore.seen c.prepare.new.self) content stands c.prepare.result c.prepare.ensures.ok c.prepare.ensures.err
