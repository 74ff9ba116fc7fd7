use Rattle.std.proofs.Common.{sym, ap, ◌∙◌, option_map, Some, List, ℕ}
use Rattle.std.specs.Borrow.{Bor}
use Rattle.lola_value.specs.Naming.{text_at}
use Rattle.lola_text.specs.Texts.{Texts}
use Rattle.lola_text.proofs.Held.{rise-of}
use Rattle.lola_text.proofs.Finding.{text-nowhere, text-place}
use Rattle.lola_text.proofs.table.TextTable.get.Goals as goal

pub place_of-requires : goal.place_of-requires
place_of-requires c = rise-of 0 c.self.inside.given c.self.inside.texts.entries c.self.invariant.0.numbers

pub returns-in_err-place-clause-value : goal.returns-in_err-place-clause-value
returns-in_err-place-clause-value c =
    ap (option_map (λ (t : Bor (List ℕ)). t.now)) c.from_residual.ensures ∙ sym (text-nowhere c.self.inside.texts.entries c.args.id.0 c.in_err-place.ensures)
    ∙ ap (λ (t : Texts). text_at t.held c.args.id.0) c.self.view_is

pub returns-clause-value : goal.returns-clause-value
returns-clause-value c =
    let es = c.self.inside.texts.entries in
    ap Some c.as_slice.ensures
    ∙ sym (text-place es c.args.id.0 c.in_ok-place.place (c.in_ok-text.text.now, c.in_ok-text._held.now) (rise-of 0 c.self.inside.given es c.self.invariant.0.numbers) c.in_ok-place.ensures (sym c.in_ok-text.ensures.entry))
    ∙ ap (λ (t : Texts). text_at t.held c.args.id.0) c.self.view_is
