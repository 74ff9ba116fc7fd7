use Rattle.std.proofs.Common.{◌∙◌, sym, ap, refl}
use Rattle.lola_rows.specs.Lines.{without_mark}
use Rattle.lola_rows.specs.Places.{layout_columns}
use Rattle.lola_rows.specs.Reading.{Reading}
use Rattle.lola_rows.specs.Window.{items}
use Rattle.lola_rows.specs.declared.stage.Section.TheVariants as stage
use Rattle.lola_rows.proofs.Readers.{filled-shows, goes-then-goes, reading, unmarked}
use Rattle.lola_rows.proofs.reader.RowReader.drop_mark.Goals as goal

pub returns-in_default-fill : goal.returns-in_default-fill
returns-in_default-fill g c =
    let i = c.self-2.inside in
    let old = c.args.self.now in
    let mid = c.fill.new.self in
    let new = reading i.form.index i.form.most i.inputs.items stage.Heading (layout_columns i.layout) i.given (items c.drop_mark.new.self) (g.S.Source.state i.source) i.ended in
    let fill = filled-shows old mid c.fill.result c.in_default-fill.not-ReadFailed c.fill.ensures.fills in
    let begun = c.fill.ensures.stage ∙ sym (ap (λ (x : Reading). x.stage) c.self.view_is) ∙ c.in-Start.is in
    let is = c.self-2.view_is in
    record {
      begins = goes-then-goes old mid new fill.0 (unmarked mid new begun fill.1 (ap (λ (x : Reading). x.shape) is) refl (ap (λ (x : Reading). x.columns) is) (ap (λ (x : Reading). x.given) is)
          (c.drop_mark.ensures ∙ ap (λ (x : Reading). without_mark x.held) is) (ap (λ (x : Reading). x.source) is));
      past = λ e. absurd (cc e);
      not_over = λ e. absurd (cc e);
      kept = record { shape = ap (λ (x : Reading). x.shape) is ∙ c.fill.ensures.kept.shape; place = ap (λ (x : Reading). x.source.place) is ∙ c.fill.ensures.kept.place };
      ended = ap (λ (x : Reading). x.ended) is ∙ c.fill.ensures.ended;
    }
