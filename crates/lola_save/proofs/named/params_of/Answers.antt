use Rattle.std.proofs.Common.{◌-◌, arith}
use Rattle.lola_save.proofs.Naming.{more-on, more-self, named-more, named-none}
use Rattle.lola_save.proofs.named.params_of.Goals as goal

pub loop-left-init : goal.loop-left-init
loop-left-init c = record {
  left_le = omega arith;
  named = named-none c.args.texts.now.held c.args.fields.now c.none-params.result c.none-params.ensures.values c.none-params.ensures.count;
  formed = c.none-params.ensures.well_formed;
  more = more-self c.args.texts.now c.requires.room;
}

pub loop-left-preserved : goal.loop-left-preserved
loop-left-preserved c =
    let i = c.loop-left.invariant in
    record {
      left_le = omega arith;
      named = named-more c.loop-left.texts.held c.value_of.new.texts.held c.args.fields.now c.loop-left.left (c.loop-left.left - 1) c.index-fields-left.result _ c.in_ok-value.value c.loop-left.params c.led_by-params.result
          c.in_ok-value.ensures.more.held (omega arith) i.left_le c.index-fields-left.is c.in_ok-value.ensures.value c.led_by-params.ensures.values c.led_by-params.ensures.count i.named;
      formed = c.led_by-params.ensures.well_formed i.formed;
      more = more-on c.args.texts.now c.loop-left.texts c.value_of.new.texts i.more c.in_ok-value.ensures.more;
    }
