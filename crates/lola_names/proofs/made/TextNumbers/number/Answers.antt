use Rattle.std.proofs.Common.{◌≡◌, ℕ, ◌++◌, ◌∷◌, [], List, Some, false, length, sym, ap, subst, ◌∙◌, if◌then◌else◌}
use Rattle.std.specs.Prelude.{IsTrue, slice_get}
use Rattle.std.specs.List.{list_any}
use Rattle.lola_model.specs.Named.{are_distinct}
use Rattle.lola_names.specs.Entries.{texts_in}
use Rattle.lola_names.specs.Numbered.{NumbersText}
use Rattle.lola_names.proofs.Numbering.{is_text, no_key, distinct-pushed, numbers_known, numbers_new, texts-pushed, texts-length}
use Rattle.lola_names.proofs.made.TextNumbers.number.Goals as goal

abbrev grown : (c : goal.In_ok-insert) → texts_in c.insert.new.self.keys ≡ c.args.self.now ++ c.args.text.now ∷ []
grown c =
    let ks = c.self.inside.entries.keys in
    let bytes = c.in_ok-bytes.bytes in
    let same : bytes.items ≡ c.args.text.now = c.in_ok-bytes.ensures.items ∙ c.as_bytes-2.ensures in
    let nowhere : (i : ℕ) → slice_get (texts_in ks) i ≡ Some bytes.items → ⊥ =
    λ i is. c.in_default.ensures i (ap (λ (l : List (List ℕ)). slice_get l i) (sym c.self.view_is) ∙ is ∙ ap Some (same ∙ sym c.as_bytes.ensures)) in
    let apart : list_any (is_text bytes.items) ks ≡ false = no_key bytes.items ks nowhere in
    let more : c.insert.new.self.keys ≡ ks ++ bytes ∷ [] = c.in_ok-insert.ensures.keys ∙ ap (λ b. if b then ks else (ks ++ bytes ∷ [])) apart in
    ap texts_in more ∙ texts-pushed ks bytes ∙ ap (λ (l : List (List ℕ)). l ++ bytes.items ∷ []) c.self.view_is ∙ ap (λ (t : List ℕ). c.args.self.now ++ t ∷ []) same

pub invariant_of-self-2 : goal.invariant_of-self-2
invariant_of-self-2 c =
    let nowhere : (i : ℕ) → slice_get c.args.self.now i ≡ Some c.args.text.now → ⊥ = λ i is. c.in_default.ensures i (is ∙ ap Some (sym c.as_bytes.ensures)) in
    let apart : IsTrue (are_distinct c.args.self.now) = subst (λ (l : List (List ℕ)). IsTrue (are_distinct l)) c.self.view_is c.self.invariant in
    subst (λ (l : List (List ℕ)). IsTrue (are_distinct l)) (sym (grown c)) (distinct-pushed c.args.self.now c.args.text.now apart nowhere)

pub returns-in-Some : goal.returns-in-Some
returns-in-Some c = numbers_known c.args.self.now c.args.text.now c.in-Some.id.0 (c.in-Some.ensures.0 ∙ ap Some c.as_bytes.ensures)

pub returns : goal.returns
returns c =
    let place : c.len-place.result ≡ length c.args.self.now =
    c.len-place.ensures.len ∙ sym (texts-length c.self.inside.entries.keys) ∙ ap (λ (l : List (List ℕ)). length l) c.self.view_is in
    subst (λ (n : ℕ). NumbersText c.args.text.now n c.args.self.now (texts_in c.insert.new.self.keys)) (sym place)
    (subst (λ (l : List (List ℕ)). NumbersText c.args.text.now (length c.args.self.now) c.args.self.now l) (sym (grown c)) (numbers_new c.args.self.now c.args.text.now))
