-- What the table holds once it was asked for the text.
use Rattle.std.proofs.Common.{subst}
use Rattle.lola_text.specs.Flags.{naming_of}
use Rattle.lola_text.specs.Texts.{Interns, Texts}
use Rattle.lola_text.proofs.Entering.{asked-for}
use Rattle.lola_text.proofs.table.TextTable.number_of.Goals as goal

pub invariant_of-self-2 : goal.invariant_of-self-2
invariant_of-self-2 c =
    let i = c.self.inside in
    let is =
    asked-for i.texts.entries c.number_or_new.new.texts.entries c.in_ok-text.text i.flag c.args.bytes.now i.given c.in_ok-number.number c.given_after-self-inside.result c.self.invariant.0 c.self.invariant.1 c.in_ok-text.ensures c.in_ok-number.ensures.ok
    c.given_after-self-inside.ensures in
    (is.table, is.flagged)

pub returns-clause-table : goal.returns-clause-table
returns-clause-table c = (invariant_of-self-2 c).0

pub returns-clause-ok : goal.returns-clause-ok
returns-clause-ok c =
    let i = c.self.inside in
    let is =
    asked-for i.texts.entries c.number_or_new.new.texts.entries c.in_ok-text.text i.flag c.args.bytes.now i.given c.in_ok-number.number c.given_after-self-inside.result c.self.invariant.0 c.self.invariant.1 c.in_ok-text.ensures c.in_ok-number.ensures.ok
    c.given_after-self-inside.ensures in
    let new : Texts = record { held = naming_of c.number_or_new.new.texts.entries; given = c.given_after-self-inside.result } in
    subst (λ (t : Texts). Interns c.args.bytes.now c.in_ok-number.number t new) c.self.view_is is.interns
