use Rattle.std.proofs.Common.{◌≡◌, None, ap, ap₂, ◌∙◌}
use Rattle.lola_names_refused.specs.Noted.{noted}
use Rattle.lola_names_refused.specs.Refused.{refusals_of}
use Rattle.lola_names_refused.proofs.Noting.{first_noted}
use Rattle.lola_names_refused.proofs.refusing.name_refusal.Goals as goal

pub returns : goal.returns
returns c =
    let none : c.none-found.result ≡ None = c.none-found.ensures in
    c.first.ensures ∙ c.in_ok-note_all.ensures ∙ ap₂ noted none (ap refusals_of c.as_slice.ensures) ∙ first_noted (refusals_of c.args.ast.now)
