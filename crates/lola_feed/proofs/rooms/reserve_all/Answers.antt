use Rattle.std.proofs.Common.{rules, ℕ}
use Rattle.lola_rows.specs.Reading.{shape_of}
use Rattle.lola_feed.proofs.Made.{room_more}
use Rattle.lola_feed.proofs.rooms.reserve_all.Goals as goal

pub loop-source-preserved : goal.loop-source-preserved
loop-source-preserved g c = record {
  many = search rules;
  each = room_more (λ (s : ℕ). shape_of c.args.plan.now.spec.streams s c.args.most) c.loop-source.rooms.items c.push_reserved.new.self.items c.loop-source.source c.in_ok-reserve.field-0 c.loop-source.invariant.many c.loop-source.invariant.each c.in_ok-reserve.ensures c.push_reserved.ensures.items;
  space = search rules;
}
