use Rattle.std.proofs.Common.{◌≡◌, ◌∙◌, ◌++◌, ◌∷◌, [], ℕ, ◌+◌, ◌<◌, ◌≤◌, length, map, drop, slice_get, refl, ap, sym, subst, arith, append_assoc, length-append}
use Rattle.std.proofs.lemmas.List.{map-append}
use Rattle.std.proofs.lemmas.Option.{slice_get_read}
use Rattle.lola_model.specs.Store.{layouts_from}
use Rattle.lola_instances.specs.Layouts.{first_kept, first_locals, stream_layout}
use Rattle.lola_instances.specs.Opening.{IsOpened}
use Rattle.lola_instances.specs.Streams.{crowd_layout}
use Rattle.lola_instances.proofs.Layouts.{layouts_at, layouts_more}
use Rattle.lola_instances.proofs.Opened.{opened_more}
use Rattle.lola_instances.proofs.opening.open_all.Goals as goal

pub open-requires-clause-kept : goal.open-requires-clause-kept
open-requires-clause-kept c =
    let ss = c.args.streams.now in
    let kept = c.args.kept.now in
    let pacings = c.args.pacings.now in
    let i = c.loop-i.i in
    let s = c.index-streams-i.result in
    let at = layouts_at ss kept pacings i s (slice_get_read ss (length ss) i s refl (omega arith) c.index-streams-i.is) in
    subst (λ (n : ℕ). 1 ≤ n) (sym c.kept_at.ensures) (c.requires.kept i (stream_layout s (first_kept (drop i kept)) (first_locals (drop i pacings))) at)

pub open-requires-clause-sound : goal.open-requires-clause-sound
open-requires-clause-sound c =
    let ss = c.args.streams.now in
    let kept = c.args.kept.now in
    let pacings = c.args.pacings.now in
    let i = c.loop-i.i in
    let s = c.index-streams-i.result in
    let at = layouts_at ss kept pacings i s (slice_get_read ss (length ss) i s refl (omega arith) c.index-streams-i.is) in
    c.requires.sound i (stream_layout s (first_kept (drop i kept)) (first_locals (drop i pacings))) at

pub loop-i-preserved : goal.loop-i-preserved
loop-i-preserved c =
    let ss = c.args.streams.now in
    let kept = c.args.kept.now in
    let pacings = c.args.pacings.now in
    let i = c.loop-i.i in
    let made = c.loop-i.made.items in
    let p = c.in_ok-lives.lives in
    let s = c.index-streams-i.result in
    let rest = layouts_from (drop (i + 1) ss) (drop (i + 1) kept) (drop (i + 1) pacings) in
    let g : c.push.new.self.items ≡ made ++ p ∷ [] = c.in_ok-push.ensures.items in
    let lay : crowd_layout p ≡ stream_layout s (first_kept (drop i kept)) (first_locals (drop i pacings)) =
    c.in_ok-lives.ensures.layout ∙ (λ j. stream_layout s (c.kept_at.ensures j) (c.in_ok-locals.ensures j)) in
    let l : i < length ss = omega arith in
    let more = layouts_more ss kept pacings i s l c.index-streams-i.is in
    let n = c.loop-i.invariant.count in
    record {
      count = omega (arith, ap length g, length-append made (p ∷ []), n);
      layouts = ap (λ xs. map crowd_layout xs ++ rest) g
          ∙ (ap (λ xs. xs ++ rest) (map-append crowd_layout made (p ∷ []))
          ∙ (append_assoc (map crowd_layout made) (crowd_layout p ∷ []) rest
          ∙ (ap (λ x. map crowd_layout made ++ (x ∷ rest)) lay
          ∙ (ap (λ xs. map crowd_layout made ++ xs) (sym more) ∙ c.loop-i.invariant.layouts))));
      opened = λ m k e. opened_more (IsOpened c.args.windows.now c.args.sizes.now) made p c.loop-i.invariant.opened
          (subst (λ (j : ℕ). IsOpened c.args.windows.now c.args.sizes.now j p) (sym n) c.in_ok-lives.ensures.opened) m k (ap (λ xs. slice_get xs m) (sym g) ∙ e);
    }
