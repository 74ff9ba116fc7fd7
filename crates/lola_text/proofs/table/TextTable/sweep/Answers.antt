use Rattle.std.proofs.Common.{Bool, not, List, filter, subst, sym, ap, ◌∙◌}
use Rattle.lola_value.specs.Naming.{Naming}
use Rattle.lola_text.specs.Flags.{AreFlagged, Entry, is_flagged, naming_of}
use Rattle.lola_text.specs.Texts.{IsTable, Texts, is_among, swept}
use Rattle.lola_text.proofs.Held.{rise-of, table-fewer}
use Rattle.lola_text.proofs.Flagging.{kept-flagged, kept-names, not-not}
use Rattle.lola_text.proofs.table.TextTable.sweep.Goals as goal

pub flag_all-requires : goal.flag_all-requires
flag_all-requires c = rise-of 0 c.self.inside.given c.self.inside.texts.entries c.self.invariant.0.numbers

pub invariant_of-self : goal.invariant_of-self
invariant_of-self c =
    let i = c.self.inside in
    let es = i.texts.entries in
    let flag = not i.flag in
    let was : AreFlagged (not flag) es = subst (λ (b : Bool). AreFlagged b es) (sym (not-not i.flag)) c.self.invariant.1 in
    let left = c.keep_flagged.ensures ∙ ap (λ (l : List Entry). filter (is_flagged flag) l) c.flag_all.ensures in
    let named = ap naming_of left ∙ kept-names c.args.kept.now flag es was in (
      subst (λ (n : Naming). IsTable (record { held = n; given = i.given })) (sym named) (table-fewer (λ e. is_among c.args.kept.now e.0) (record { held = naming_of es; given = i.given }) c.self.invariant.0),
      subst (AreFlagged flag) (sym c.keep_flagged.ensures) (kept-flagged flag c.flag_all.new.texts.entries),
    )

pub returns-clause-swept : goal.returns-clause-swept
returns-clause-swept c =
    let i = c.self.inside in
    let es = i.texts.entries in
    let flag = not i.flag in
    let was : AreFlagged (not flag) es = subst (λ (b : Bool). AreFlagged b es) (sym (not-not i.flag)) c.self.invariant.1 in
    let left = c.keep_flagged.ensures ∙ ap (λ (l : List Entry). filter (is_flagged flag) l) c.flag_all.ensures in
    let named = ap naming_of left ∙ kept-names c.args.kept.now flag es was in
    ap (λ (n : Naming). record { held = n; given = i.given }) named ∙ ap (λ (t : Texts). swept t c.args.kept.now) c.self.view_is

pub returns-clause-table : goal.returns-clause-table
returns-clause-table c = (invariant_of-self c).0
