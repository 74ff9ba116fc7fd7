-- A text that is held is found as a key that is a copy of it.
use Rattle.std.proofs.Common.{◌≡◌, ℕ, List, Option, Some, option_map, subst, sym, ap, ◌∙◌, refl, rules}
use Rattle.lola_text.specs.Flags.{naming_of}
use Rattle.lola_text.specs.Texts.{Gives, Texts, number_in}
use Rattle.lola_text.proofs.Held.{number-looked_up}
use Rattle.lola_text.proofs.table.TextTable.intern.Goals as goal

pub returns-in-Some-clause-ok : goal.returns-in-Some-clause-ok
returns-in-Some-clause-ok c =
    let es = c.self.inside.texts.entries in
    let number = c.in-Some.held.now.number in
    let same : c.set.new.self ≡ c.args.bytes.now = search rules in
    let asked : number_in (naming_of es) c.set.new.self ≡ Some number = number-looked_up es c.set.new.self ∙ sym (ap (option_map (λ h. h.number)) c.in-Some.ensures.value) in
    let found : number_in c.args.self.now.held c.args.bytes.now ≡ Some number =
    sym (ap (λ (t : Texts). number_in t.held c.args.bytes.now) c.self.view_is)
    ∙ subst (λ (b : List ℕ). number_in (naming_of es) b ≡ Some number) same asked in
    let new : Texts = record { held = naming_of es; given = c.self.inside.given } in
    subst (λ (o : Option ℕ). Gives o c.args.bytes.now number c.args.self.now new) (sym found) (refl, c.self.view_is)
