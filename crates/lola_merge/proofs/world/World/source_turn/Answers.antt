use Rattle.std.proofs.Common.{◌≡◌, ◌≢◌, ◌∙◌, ap, length-set, subst, map, not, sym, arith, ◌<◌, length}
use Rattle.std.proofs.lemmas.List.{length-map}
use Rattle.lola_merge.specs.Interleaving.{Situation, Changed, after_source, list_of}
use Rattle.lola_merge.proofs.Turning.{situation, finish_changes, offer_turned, offer_changes, full_same, full_turned}
use Rattle.lola_merge.proofs.world.World.source_turn.Goals as goal

pub returns-in_default-clause-changed : goal.returns-in_default-clause-changed
returns-in_default-clause-changed c = let s = c.self.inside in let to' = map (λ q. q.items) c.pop_row.new.queues.items in
    subst (λ (w : Situation). Changed (not c.has_finished-finished.result) w (situation to' c.finish.new.self s.taken.items)) c.self.view_is
    (finish_changes (situation (map (λ q. q.items) s.to_come.items) s.merging s.taken.items) c.args.source to' c.finish.new.self c.has_finished-finished.result c.in_default.ensures c.finish.ensures.after
    (let l : c.args.source < length (map (λ q. q.items) s.to_come.items) = subst (λ (w : Situation). c.args.source < length w.to_come) (sym c.self.view_is) c.requires in omega (arith, l, c.self.invariant.1, length-map s.to_come.items (λ q. q.items))) c.has_finished-finished.ensures)

pub returns-in-Full-clause-turned : goal.returns-in-Full-clause-turned
returns-in-Full-clause-turned c = let s = c.self.inside in let w : Situation = situation (map (λ q. q.items) s.to_come.items) s.merging s.taken.items in let to' = map (λ q. q.items) c.pop_row.new.queues.items in let to2 = map (λ q. q.items) c.put_back.new.queues.items in
    subst (λ (z : Situation). situation to2 c.offer.new.self s.taken.items ≡ after_source z c.args.source (list_of z.to_come c.args.source)) c.self.view_is
    (full_same w c.args.source c.in-Some.row c.in-Full.row to' to2 c.offer.new.self c.in-Some.ensures.0 c.in-Full.ensures.reply c.in-Full.ensures.cause c.offer.ensures.after c.put_back.ensures
    ∙ sym (full_turned w c.args.source c.in-Some.row c.in-Full.row to' c.in-Some.ensures.0 c.in-Full.ensures.reply))

pub returns-in-Full-clause-changed : goal.returns-in-Full-clause-changed
returns-in-Full-clause-changed c = let s = c.self.inside in let w : Situation = situation (map (λ q. q.items) s.to_come.items) s.merging s.taken.items in let to' = map (λ q. q.items) c.pop_row.new.queues.items in let to2 = map (λ q. q.items) c.put_back.new.queues.items in
    subst (λ (z : Situation). situation to2 c.offer.new.self s.taken.items ≡ z) c.self.view_is
    (full_same w c.args.source c.in-Some.row c.in-Full.row to' to2 c.offer.new.self c.in-Some.ensures.0 c.in-Full.ensures.reply c.in-Full.ensures.cause c.offer.ensures.after c.put_back.ensures)

pub returns : goal.returns
returns c = let s = c.self.inside in let w : Situation = situation (map (λ q. q.items) s.to_come.items) s.merging s.taken.items in let to' = map (λ q. q.items) c.pop_row.new.queues.items in let new = situation to' c.offer.new.self s.taken.items in record {
  turned = subst (λ (z : Situation). new ≡ after_source z c.args.source (list_of z.to_come c.args.source)) c.self.view_is
      (offer_turned w c.args.source c.in-Some.row to' c.offer.result c.offer.new.self c.in-Some.ensures.0 c.offer.ensures.reply c.offer.ensures.after c.in_default-offer.not-Full);
  changed = subst (λ (z : Situation). new ≢ z) c.self.view_is (offer_changes w c.args.source c.in-Some.row to' c.offer.new.self c.in-Some.ensures.0);
  sources = subst (λ (z : Situation). length to' ≡ length z.to_come) c.self.view_is (ap length c.in-Some.ensures.0.1 ∙ length-set w.to_come c.args.source (list_of to' c.args.source));
}
