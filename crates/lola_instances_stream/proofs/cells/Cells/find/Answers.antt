use Rattle.std.proofs.Common.{◌∙◌, None, refl, sym, ap, slice_get}
use Rattle.lola_instances_stream.specs.Cells.{Line}
use Rattle.lola_instances_stream.specs.Crowds.{place_in}
use Rattle.lola_instances_stream.proofs.Known.{is_there, is_there_alone, not_listed, not_listed_alone, not_there, not_there_alone}
use Rattle.lola_instances_stream.proofs.cells.Cells.find.Goals as goal

pub returns-in-None-clause-place : goal.returns-in-None-clause-place
returns-in-None-clause-place c =
    let p = c.args.params.now in
    let kept = ap (λ (l : Line). l.is_kept) c.self.view_is ∙ c.requires.kept in
    sym (not_listed c.self.inside.cells.items c.self.inside.flags c.self.inside.table c.self.invariant.known kept p c.requires.formed (sym c.find.ensures ∙ c.in-None.is))
    ∙ ap (λ (l : Line). place_in p l.items 0) c.self.view_is

pub returns-in-None-clause-alone : goal.returns-in-None-clause-alone
returns-in-None-clause-alone c = λ i s at same.
    let kept = ap (λ (l : Line). l.is_kept) c.self.view_is ∙ c.requires.kept in
    not_listed_alone c.self.inside.cells.items c.self.inside.flags c.self.inside.table c.self.invariant.known kept c.args.params.now c.requires.formed (sym c.find.ensures ∙ c.in-None.is)
    None i s (ap (λ (l : Line). slice_get l.items i) c.self.view_is ∙ at) same

pub returns-then-has_params-clause-place : goal.returns-then-has_params-clause-place
returns-then-has_params-clause-place c =
    let p = c.args.params.now in
    let kept = ap (λ (l : Line). l.is_kept) c.self.view_is ∙ c.requires.kept in
    let y = c.if-has_params.ensures.yes refl in
    is_there c.self.inside.cells.items c.self.inside.flags c.self.inside.table c.self.invariant.known kept p c.requires.formed c.in-Some.cell c.place_of.result y.0 (sym c.find.ensures ∙ c.in-Some.is)
    (c.place_of.ensures y.0 y.1) y.2
    ∙ ap (λ (l : Line). place_in p l.items 0) c.self.view_is

pub returns-then-has_params-clause-alone : goal.returns-then-has_params-clause-alone
returns-then-has_params-clause-alone c = λ i s at same.
    let kept = ap (λ (l : Line). l.is_kept) c.self.view_is ∙ c.requires.kept in
    let y = c.if-has_params.ensures.yes refl in
    is_there_alone c.self.inside.cells.items c.self.inside.flags c.self.inside.table c.self.invariant.known kept c.args.params.now c.requires.formed c.in-Some.cell c.place_of.result y.0 (sym c.find.ensures ∙ c.in-Some.is)
    (c.place_of.ensures y.0 y.1) i s (ap (λ (l : Line). slice_get l.items i) c.self.view_is ∙ at) same

pub returns-else-has_params-clause-place : goal.returns-else-has_params-clause-place
returns-else-has_params-clause-place c =
    let p = c.args.params.now in
    let kept = ap (λ (l : Line). l.is_kept) c.self.view_is ∙ c.requires.kept in
    sym (not_there c.self.inside.cells.items c.self.inside.flags c.self.inside.table c.self.invariant.known kept p c.requires.formed c.in-Some.cell (sym c.find.ensures ∙ c.in-Some.is) (c.if-has_params.ensures.no refl))
    ∙ ap (λ (l : Line). place_in p l.items 0) c.self.view_is

pub returns-else-has_params-clause-alone : goal.returns-else-has_params-clause-alone
returns-else-has_params-clause-alone c = λ i s at same.
    let kept = ap (λ (l : Line). l.is_kept) c.self.view_is ∙ c.requires.kept in
    not_there_alone c.self.inside.cells.items c.self.inside.flags c.self.inside.table c.self.invariant.known kept c.args.params.now c.requires.formed c.in-Some.cell (sym c.find.ensures ∙ c.in-Some.is) (c.if-has_params.ensures.no refl)
    None i s (ap (λ (l : Line). slice_get l.items i) c.self.view_is ∙ at) same
