-- Tables of names.
use Rattle.std.proofs.Common.{◌≡◌, ℕ, ◌+◌, ◌<◌, ◌≤◌, length, get_or, drop, append-nil, List, [], ◌∷◌, ◌++◌, refl, sym, ap, subst, ◌∙◌, append_assoc}
use Rattle.std.proofs.lemmas.List.{at_drop_more, at_drop_all}
use Rattle.lola_parser_grammar.specs.declared.literals.Name.{Name}
use Rattle.lola_parser_grammar.specs.declared.literals.Typed.{Typed}
use Rattle.lola_parser_grammar.specs.declared.declarations.Declaration.{Declaration}
use Rattle.lola_names_refused.specs.Table.{meaning_in, with_name}
use Rattle.lola_names_refused.proofs.Tables.{meaning-append, hides-with_name}
use Rattle.lola_names.specs.Targets.{Targets, Count, input_targets, parameter_targets, targets_with, targets_from, counted_with}
use Rattle.lola_names.specs.Tables.{Means, PutsBehind}
use Rattle.lola_names.specs.declared.targets.Target.{Target}
use Rattle.lola_names.specs.declared.targets.Target.TheVariants as target

-- nothing more
pub puts_none : (t : Targets) → PutsBehind t [] t
puts_none t rest text = refl

-- some, and then some more
pub puts_then : (a b c more last : Targets) → PutsBehind a more b → PutsBehind b last c → PutsBehind a (more ++ last) c
puts_then a b c more last p q rest text =
    q rest text ∙ p (last ++ rest) text ∙ ap (λ (l : Targets). meaning_in (a ++ l) text) (sym (append_assoc more last rest))

-- one name more
pub puts_name : (t t' : Targets) (name : Name) (x : Target) → t' ≡ with_name t (name, x) → PutsBehind t ((name.text, x) ∷ []) t'
puts_name t t' name x is rest text =
    ap (λ (l : Targets). meaning_in (l ++ rest) text) is ∙ meaning-append (with_name t (name, x)) rest text
    ∙ hides-with_name t (name, x) text (meaning_in rest text) ∙ sym (meaning-append t ((name.text, x) ∷ rest) text)

-- ---- loops

dropped : {A : Type 0} (xs : List A) (i : ℕ) (x : A) → i < length xs → x ≡ get_or xs i x → drop i xs ≡ x ∷ drop (i + 1) xs
dropped xs i x within is = at_drop_more (λ l. l) xs i x within ∙ ap (λ y. y ∷ drop (i + 1) xs) (sym is)

-- one name put, and the others after it
pub one_turn : (t t' more : Targets) (n : List ℕ × Target) (whole : Targets) → PutsBehind t (n ∷ []) t' → ((rest : Targets) → Means (t ++ ((n ∷ more) ++ rest)) (whole ++ rest))
    → (rest : Targets) → Means (t' ++ (more ++ rest)) (whole ++ rest)
one_turn t t' more n whole p so_far rest text = p (more ++ rest) text ∙ so_far rest text

pub inputs_turn : (t t' whole : Targets) (s k i : ℕ) (xs : List Typed) (x : Typed) → i < length xs → x ≡ get_or xs i x → PutsBehind t ((x.name.text, target.Input s k) ∷ []) t'
    → ((rest : Targets) → Means (t ++ (input_targets s k (drop i xs) ++ rest)) (whole ++ rest))
    → (rest : Targets) → Means (t' ++ (input_targets (s + 1) (k + 1) (drop (i + 1) xs) ++ rest)) (whole ++ rest)
inputs_turn t t' whole s k i xs x within is p so_far =
    one_turn t t' (input_targets (s + 1) (k + 1) (drop (i + 1) xs)) (x.name.text, target.Input s k) whole p
    (subst (λ (l : List Typed). (rest : Targets) → Means (t ++ (input_targets s k l ++ rest)) (whole ++ rest)) (dropped xs i x within is) so_far)

pub parameters_turn : (t t' whole : Targets) (k i : ℕ) (xs : List Typed) (x : Typed) → i < length xs → x ≡ get_or xs i x → PutsBehind t ((x.name.text, target.Parameter k) ∷ []) t'
    → ((rest : Targets) → Means (t ++ (parameter_targets k (drop i xs) ++ rest)) (whole ++ rest))
    → (rest : Targets) → Means (t' ++ (parameter_targets (k + 1) (drop (i + 1) xs) ++ rest)) (whole ++ rest)
parameters_turn t t' whole k i xs x within is p so_far =
    one_turn t t' (parameter_targets (k + 1) (drop (i + 1) xs)) (x.name.text, target.Parameter k) whole p
    (subst (λ (l : List Typed). (rest : Targets) → Means (t ++ (parameter_targets k l ++ rest)) (whole ++ rest)) (dropped xs i x within is) so_far)

pub targets_turn : (t t' whole : Targets) (c c' : Count) (i : ℕ) (xs : List Declaration) (x : Declaration) → i < length xs → x ≡ get_or xs i x → PutsBehind t (targets_with c x) t' → c' ≡ counted_with c x
    → ((rest : Targets) → Means (t ++ (targets_from c (drop i xs) ++ rest)) (whole ++ rest))
    → (rest : Targets) → Means (t' ++ (targets_from c' (drop (i + 1) xs) ++ rest)) (whole ++ rest)
targets_turn t t' whole c c' i xs x within is p counted so_far rest text =
    let more = targets_from c' (drop (i + 1) xs) in
    let same : targets_from c (drop i xs) ≡ targets_with c x ++ more =
    ap (targets_from c) (dropped xs i x within is) ∙ ap (λ (k : Count). targets_with c x ++ targets_from k (drop (i + 1) xs)) (sym counted) in
    p (more ++ rest) text
    ∙ ap (λ (l : Targets). meaning_in (t ++ l) text) (sym (append_assoc (targets_with c x) more rest) ∙ ap (λ (l : Targets). l ++ rest) (sym same))
    ∙ so_far rest text

-- the end of a loop
pub means_end : {A : Type 0} (F : List A → Targets) (xs : List A) (i : ℕ) (t whole : Targets) → F [] ≡ [] → length xs ≤ i → ((rest : Targets) → Means (t ++ (F (drop i xs) ++ rest)) (whole ++ rest)) → Means t whole
means_end F xs i t whole none all so_far text =
    let last : F (drop i xs) ≡ [] = at_drop_all F xs i all ∙ none in
    ap (λ (l : Targets). meaning_in l text) (sym (append-nil t) ∙ ap (λ (l : Targets). t ++ (l ++ [])) (sym last)) ∙ so_far [] text ∙ ap (λ (l : Targets). meaning_in l text) (append-nil whole)

pub puts_end : {A : Type 0} (F : List A → Targets) (xs : List A) (i : ℕ) (t old more : Targets) → F [] ≡ [] → length xs ≤ i
    → ((rest : Targets) → Means (t ++ (F (drop i xs) ++ rest)) ((old ++ more) ++ rest)) → PutsBehind old more t
puts_end F xs i t old more none all so_far rest text =
    let last : F (drop i xs) ≡ [] = at_drop_all F xs i all ∙ none in
    ap (λ (l : Targets). meaning_in (t ++ (l ++ rest)) text) (sym last) ∙ so_far rest text ∙ ap (λ (l : Targets). meaning_in l text) (append_assoc old more rest)

pub puts_start : (old more : Targets) (rest : Targets) → Means (old ++ (more ++ rest)) ((old ++ more) ++ rest)
puts_start old more rest text = ap (λ (l : Targets). meaning_in l text) (sym (append_assoc old more rest))
