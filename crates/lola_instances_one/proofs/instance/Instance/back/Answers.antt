use Rattle.std.proofs.Common.{◌≡◌, ◌∙◌, ◌-◌, sym, ap}
use Rattle.lola_value.specs.declared.value.Outcome.TheVariants as outcome
use Rattle.lola_value.specs.Shorts.{is_given}
use Rattle.lola_buffer.specs.Kept.{before_newest}
use Rattle.lola_instances_one.specs.Holdings.{Holdings, shown}
use Rattle.lola_instances_one.proofs.Remembering.{none_given, back-value, back-else, answer_kind}
use Rattle.lola_instances_one.proofs.instance.Instance.back.Goals as goal

pub returns-in-Some-clause-value : goal.returns-in-Some-clause-value
returns-in-Some-clause-value c = λ start time names values h.
    let s = c.args.self.now in
    let some : shown c.args.step s ≡ outcome.Value c.in-Some.field-0 = sym c.now.ensures ∙ c.in-Some.ensures in
    let q = c.back.ensures.value ∙ ap (λ (w : Holdings). before_newest c.args.k w.ring.values) c.self.view_is in
    back-value start time c.args.step names s values h c.or_missing.result c.back.result c.in-Some.field-0 c.args.k some c.or_missing.ensures q c.requires.low c.requires.high

pub returns-in-Some-clause-kind : goal.returns-in-Some-clause-kind
returns-in-Some-clause-kind c = λ k h.
    let q = c.back.ensures.value ∙ ap (λ (w : Holdings). before_newest c.args.k w.ring.values) c.self.view_is in
    answer_kind k c.args.self.now.ring.values c.args.k c.or_missing.result c.back.result c.or_missing.ensures q h

pub returns-in-None : goal.returns-in-None
returns-in-None c =
    let s = c.args.self.now in
    let q = c.back-in-None.ensures.value ∙ ap (λ (w : Holdings). before_newest (c.args.k - 1) w.ring.values) c.self.view_is in
    record {
      value = λ start time names values h.
          let none = none_given (shown c.args.step s) (ap is_given (sym c.now.ensures) ∙ c.in-None.ensures) in
          back-else start time c.args.step names s values h c.or_missing-in-None.result c.back-in-None.result c.args.k none c.or_missing-in-None.ensures q c.requires.low c.requires.high;
      kind = λ k h. answer_kind k s.ring.values (c.args.k - 1) c.or_missing-in-None.result c.back-in-None.result c.or_missing-in-None.ensures q h;
    }
