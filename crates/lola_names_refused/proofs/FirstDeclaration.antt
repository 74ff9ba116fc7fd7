-- A name means what its first declaration says.
use Rattle.std.proofs.Common.{◌≡◌, ℕ, List, [], ◌∷◌, ◌++◌, Option, Some, None, refl, sym, ap, ◌∙◌}
use Rattle.std.specs.List.{flat_map}
use Rattle.lola_parser_grammar.specs.declared.declarations.Declaration.{Declaration}
use Rattle.lola_names_refused.specs.declared.names.Meaning.{Meaning}
use Rattle.lola_names_refused.specs.Table.{meaning_in, hides, with_name}
use Rattle.lola_names_refused.specs.Known.{Known, Declared, declared, with_names, with_declarations}
use Rattle.lola_names_refused.specs.Law.{plain, MeansFirstDeclaration}
use Rattle.lola_names_refused.proofs.Tables.{meaning-append, hides-hides, hides-with_name}

pub names-meaning : (k : Known) (ns : List Declared) (q : List ℕ) → meaning_in (with_names k ns) q ≡ hides (meaning_in k q) (meaning_in (plain ns) q)
names-meaning k [] q = sym (none (meaning_in k q))
  where
    none : (o : Option Meaning) → hides o None ≡ o
    none None = refl
    none (Some x) = refl
names-meaning k (n ∷ ns) q = names-meaning (with_name k n) ns q ∙ hides-with_name k n q (meaning_in (plain ns) q)

plain-append : (a b : List Declared) → plain (a ++ b) ≡ plain a ++ plain b
plain-append [] b = refl
plain-append (n ∷ a) b = ap (λ l. (n.0.text, n.1) ∷ l) (plain-append a b)

declarations-meaning : (k : Known) (ds : List Declaration) (q : List ℕ)
    → meaning_in (with_declarations k ds) q ≡ hides (meaning_in k q) (meaning_in (plain (flat_map declared ds)) q)
declarations-meaning k [] q = names-meaning k [] q
declarations-meaning k (d ∷ ds) q =
    declarations-meaning (with_names k (declared d)) ds q
    ∙ ap (λ o. hides o (meaning_in (plain (flat_map declared ds)) q)) (names-meaning k (declared d) q)
    ∙ hides-hides (meaning_in k q) (meaning_in (plain (declared d)) q) (meaning_in (plain (flat_map declared ds)) q)
    ∙ ap (hides (meaning_in k q)) (sym (meaning-append (plain (declared d)) (plain (flat_map declared ds)) q) ∙ ap (λ l. meaning_in l q) (sym (plain-append (declared d) (flat_map declared ds))))

pub means_first_declaration : MeansFirstDeclaration
means_first_declaration = record { meaning = λ ds q. declarations-meaning [] ds q }
