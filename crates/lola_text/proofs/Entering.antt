-- A text that is looked up and, where it is not held, entered.
use Rattle.std.proofs.Common.{◌≡◌, ℕ, ◌+◌, ◌<◌, ◌≤◌, List, [], ◌∷◌, ◌++◌, Option, Some, None, option_map, nat_eq, Bool, true, false, if◌then◌else◌, refl, sym, ap, ◌∙◌, subst, arith, inl, inr}
use Rattle.std.specs.Prelude.{unwrap_or}
use Rattle.std.specs.Cmp.Lexicographic.{pointwise}
use Rattle.std.proofs.lemmas.Bool.{cases_Bool, ne_eqb, eq-eqb}
use Rattle.indexmap.specs.IndexMap.{insert_entry}
use Rattle.lola_value.specs.Naming.{Naming}
use Rattle.lola_text.specs.declared.search.Held.{Held}
use Rattle.lola_text.specs.Flags.{AreFlagged, Entry, IsFoundOrNew, held_as, naming_of}
use Rattle.lola_text.specs.Texts.{AreBetween, Gives, IsTable, Interns, number_in}
use Rattle.lola_text.proofs.Held.{number-looked_up, naming-pushed, table-more}
use Rattle.lola_text.proofs.Flagging.{flagged-pushed}

entry-new : (es : List Entry) (text : List ℕ) (v : Held) → held_as text es ≡ None → insert_entry (λ x y. pointwise nat_eq x y) es text v ≡ es ++ (text, v) ∷ []
entry-new [] text v none = refl
entry-new (e ∷ es) text v none = elim (cases_Bool (pointwise nat_eq text e.0)) [
  | inl hit ↦ let none' = rw hit at none in absurd (cc none')
  | inr miss ↦ let none' = rw miss at none in rw miss (ap (λ (l : List Entry). e ∷ l) (entry-new es text v none'))
]

entry-same : (es : List Entry) (text : List ℕ) (v : Held) → held_as text es ≡ Some v → insert_entry (λ x y. pointwise nat_eq x y) es text v ≡ es
entry-same [] text v some = absurd (cc some)
entry-same (e ∷ es) text v some = elim (cases_Bool (pointwise nat_eq text e.0)) [
  | inl hit ↦
      let some' = rw hit at some in
      let same : v ≡ e.1 = cc in
      rw hit (ap (λ (h : Held). (e.0, h) ∷ es) same)
  | inr miss ↦ let some' = rw miss at some in rw miss (ap (λ (l : List Entry). e ∷ l) (entry-same es text v some'))
]

-- the value that was there, or a fresh one, under its key
pub found-or-new : (es inserted new : List Entry) (text : List ℕ) (fresh v : Held) → v ≡ unwrap_or (held_as text es) fresh → inserted ≡ insert_entry (λ x y. pointwise nat_eq x y) es text v → new ≡ inserted
    → IsFoundOrNew (held_as text es) text fresh v.number es new
found-or-new es inserted new text fresh v value into is = by (held_as text es) refl value
  where
    by : (o : Option Held) → held_as text es ≡ o → v ≡ unwrap_or o fresh → IsFoundOrNew o text fresh v.number es new
    by None none w = (ap (λ (h : Held). h.number) w, is ∙ into ∙ entry-new es text v none ∙ ap (λ (h : Held). es ++ (text, h) ∷ []) w)
    by (Some h) some w = (ap (λ (k : Held). k.number) w, is ∙ into ∙ entry-same es text v (some ∙ ap Some (sym w)))

-- what is held for a text has a number that was given
held-below : (low high : ℕ) (es : List Entry) (text : List ℕ) (h : Held) → AreBetween low (naming_of es) high → held_as text es ≡ Some h → h.number < high
held-below low high [] text h all some = absurd (cc some)
held-below low high (e ∷ es) text h all some = elim (cases_Bool (pointwise nat_eq text e.0)) [
  | inl hit ↦
      let some' = rw hit at some in
      let same : e.1 ≡ h = cc in
      let le = under (e.1.number + 1) (naming_of es) all.1 in
      subst (λ (k : Held). k.number < high) same (omega arith)
  | inr miss ↦ let some' = rw miss at some in held-below (e.1.number + 1) high es text h all.1 some'
]
  where
    under : (from : ℕ) (names : Naming) → AreBetween from names high → from ≤ high
    under from [] all = all
    under from (n ∷ names) all = let more = under (n.0 + 1) names all.1 in omega (arith, all.0)

-- what a table is after it was asked for a text
pub record IsAsked (es new : List Entry) (flag : Bool) (bytes : List ℕ) (given number after : ℕ) : Type 0 where
  pub table : IsTable (record { held = naming_of new; given = after })
  pub flagged : AreFlagged flag new
  pub interns : Interns bytes number (record { held = naming_of es; given = given }) (record { held = naming_of new; given = after })

pub asked-for : (es new : List Entry) (text : List ℕ) (flag : Bool) (bytes : List ℕ) (given number after : ℕ) → IsTable (record { held = naming_of es; given = given }) → AreFlagged flag es → text ≡ bytes
    → IsFoundOrNew (held_as text es) text (record { number = given; flag = flag }) number es new → after ≡ (if nat_eq number given then given + 1 else given)
    → IsAsked es new flag bytes given number after
asked-for es new text flag bytes given number after table flagged same found is =
    subst (λ (b : List ℕ). IsAsked es new flag b given number after) same (by (held_as text es) refl found)
  where
    looked : (o : Option Held) → held_as text es ≡ o → number_in (naming_of es) text ≡ option_map (λ h. h.number) o
    looked o e = number-looked_up es text ∙ ap (option_map (λ h. h.number)) e

    by : (o : Option Held) → held_as text es ≡ o → IsFoundOrNew o text (record { number = given; flag = flag }) number es new → IsAsked es new flag text given number after
    by (Some h) e f =
        let below : h.number < given = held-below 0 given es text h table.numbers e in
        let other : nat_eq number given ≡ false = ne_eqb number given (λ q. let r = f.0 in absurd (omega (arith, q, r))) in
        let stays : after ≡ given = is ∙ ap (λ b. if b then given + 1 else given) other in
        subst (λ (l : List Entry). IsAsked es l flag text given number after) (sym f.1)
        (subst (λ n. IsAsked es es flag text given number n) (sym stays) (record {
          table = table;
          flagged = flagged;
          interns = subst (λ (o : Option ℕ). Gives o text number (record { held = naming_of es; given = given }) (record { held = naming_of es; given = given })) (sym (looked (Some h) e)) (f.0, refl);
        }))
    by None e f =
        let entry : Entry = (text, record { number = given; flag = flag }) in
        let none : number_in (naming_of es) text ≡ None = looked None e in
        let hit : nat_eq number given ≡ true = eq-eqb number given f.0 in
        let more : after ≡ given + 1 = is ∙ ap (λ b. if b then given + 1 else given) hit in
        let named : naming_of (es ++ entry ∷ []) ≡ naming_of es ++ (given, text) ∷ [] = naming-pushed es entry in
        subst (λ (l : List Entry). IsAsked es l flag text given number after) (sym f.1)
        (subst (λ n. IsAsked es (es ++ entry ∷ []) flag text given number n) (sym more) (record {
          table = subst (λ n. IsTable (record { held = n; given = given + 1 })) (sym named) (table-more (record { held = naming_of es; given = given }) text table none);
          flagged = flagged-pushed flag es entry flagged refl;
          interns = subst (λ (o : Option ℕ). Gives o text number (record { held = naming_of es; given = given }) (record { held = naming_of (es ++ entry ∷ []); given = given + 1 })) (sym none)
              (f.0, ap (λ n. record { held = n; given = given + 1 }) named);
        }))
