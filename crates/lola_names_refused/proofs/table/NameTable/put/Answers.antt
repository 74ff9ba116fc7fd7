use Rattle.std.proofs.Common.{◌≡◌, ◌++◌, ◌∷◌, [], None, false, is_some, nat_eq, sym, ap, ◌∙◌}
use Rattle.std.specs.Cmp.Lexicographic.{pointwise}
use Rattle.std.specs.Map.{lookup}
use Rattle.std.specs.Bool.{if◌then◌else◌}
use Rattle.indexmap.proofs.CallerLemmas.{insert_entry-new}
use Rattle.lola_names_refused.specs.Table.{meaning_in}
use Rattle.lola_names_refused.specs.Entries.{names_in}
use Rattle.lola_names_refused.proofs.Entering.{meaning-looked_up, names-pushed, none_of}
use Rattle.lola_names_refused.proofs.table.NameTable.put.Goals as goal

pub returns : goal.returns
returns g c =
    let i = c.self.inside in
    let es = i.entries.entries in
    let text = c.in_ok-text.text in
    let bytes = c.args.name.now.text in
    let same : text.items ≡ bytes = c.in_ok-text.ensures.items ∙ c.as_bytes-2.ensures in
    let there : c.meaning.result ≡ meaning_in c.args.self.now bytes = c.meaning.ensures ∙ ap (meaning_in c.args.self.now) c.as_bytes.ensures in
    let absent : is_some c.meaning.result ≡ false = sym c.is_some.ensures ∙ c.if-is_some.false in
    let unknown : is_some (meaning_in c.args.self.now bytes) ≡ false = sym (ap is_some there) ∙ absent in
    let none : lookup (λ k. pointwise nat_eq text.items k.items) es ≡ None =
    sym (meaning-looked_up es text.items) ∙ ap (λ k. meaning_in k text.items) c.self.view_is
    ∙ ap (meaning_in c.args.self.now) same ∙ sym there ∙ none_of c.meaning.result absent in
    let more : c.insert.new.self.entries ≡ es ++ (text, c.args.meaning) ∷ [] =
    c.in_ok-insert.ensures.entries ∙ insert_entry-new (λ x y. pointwise nat_eq x.items y.items) i.entries text c.args.meaning none in
    ap names_in more ∙ names-pushed es (text, c.args.meaning) ∙ ap (λ k. k ++ (text.items, c.args.meaning) ∷ []) c.self.view_is
    ∙ ap (λ l. c.args.self.now ++ (l, c.args.meaning) ∷ []) same
    ∙ sym (ap (λ b. if b then c.args.self.now else (c.args.self.now ++ (bytes, c.args.meaning) ∷ [])) unknown)
