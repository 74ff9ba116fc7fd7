-- What the clauses of a stream of an accepted plan come to: values of the stream's kind, and parameters of their kinds.
use Rattle.std.proofs.Common.{◌≡◌, ℕ, ◌<◌, ◌^◌, List, [], ◌∷◌, length, drop, refl, sym, subst, ap, ◌∙◌, arith, Bool, true, false, ◌&&◌, not, Option, Some, None, Result, Ok, Err, nat_eq, nat_lt, if◌then◌else◌, slice_get, unwrap_or}
use Rattle.std.specs.List.{Contains, list_all}
use Rattle.std.specs.Str.{is_utf8}
use Rattle.std.proofs.lemmas.Bool.{and_from, and_parts, eqb-true, ltb-true}
use Rattle.lola_value.specs.declared.value.Kind.{Kind}
use Rattle.lola_value.specs.declared.value.FaultKind.TheVariants as fault
use Rattle.lola_value.specs.declared.text.Field.{Field}
use Rattle.lola_value.specs.declared.text.Field.TheVariants as field
use Rattle.lola_value.specs.Answer.{Answer, Given, Missing, Faulted, Poisoned}
use Rattle.lola_model.specs.Content.{Content}
use Rattle.lola_model.specs.Denotation.{den, with_argument}
use Rattle.lola_model.specs.Model.{filled_kind, guarded, when_answer, first_answer, clause_answer, named_params, naming_outcome, spawn_guarded, spawn_outcome, eval_outcome, is_among, most_instances}
use Rattle.lola_model.specs.Named.{IsNamed, all_numbers, count_with, has_clause, has_when, has_kind, is_of_bool, is_input_shape, is_output_shape, is_trigger_shape, is_well_shaped, literal_text}
use Rattle.lola_model.specs.Parts.{listed, listed_clause, listed_spec, listed_stream, listed_when, listed_with}
use Rattle.lola_model.specs.Store.{layouts_from}
use Rattle.lola_model.specs.Table.{Instance, Spawned, Idle, Named, SpawnFaulted, SpawnPoisoned}
use Rattle.lola_model.specs.Typed.{IsTyped, whole_is_typed}
use Rattle.lola_model.specs.Typing.{noted}
use Rattle.lola_model.specs.Wholes.{Whole, clause_wholes, condition_wholes, with_wholes, stream_wholes, wholes_of}
use Rattle.lola_model.specs.declared.expr.Expr.{Expr}
use Rattle.lola_model.specs.declared.spec.Clause.{Clause}
use Rattle.lola_model.specs.declared.spec.Part.{Part}
use Rattle.lola_model.specs.declared.spec.Part.TheVariants as part
use Rattle.lola_model.specs.declared.spec.Sort.{Sort}
use Rattle.lola_model.specs.declared.spec.Sort.TheVariants as sort
use Rattle.lola_model.specs.declared.spec.Spec.{Spec}
use Rattle.lola_model.specs.declared.spec.Stream.{Stream}
use Rattle.lola_model.proofs.Strictly.{Contains-cases, Contains-none}
use Rattle.lola_step_contents.proofs.Among.{IsAmong, whole, among_first, among_others, among_one, of_eval, of_spawn, of_streams}
use Rattle.lola_save_text.specs.Fitting.{are_values}
use Rattle.lola_save_text.proofs.Seen.{is_answer, IsContentOf}
use Rattle.lola_save_text.proofs.Typed.{AreTexts, den-is, moved}
use Rattle.std.proofs.Common.{inl, inr}

-- a number that is listed passes
passes : (f : ℕ → Bool) (ns : List ℕ) (i : ℕ) → all_numbers f ns ≡ true → Contains ns i → f i ≡ true
passes f [] i h c = absurd (Contains-none i c)
passes f (n ∷ ns) i h c =
    let parts = and_parts (f n) (all_numbers f ns) h in
    let rest = passes f ns i parts.1 in
    elim (Contains-cases n i ns c) [ inl e ↦ subst (λ (j : ℕ). f j ≡ true) e parts.0 | inr d ↦ rest d ]

-- parameters that a spawn clause names are of their kinds
abbrev pub IsNaming : List Kind → Spawned → Type 0
IsNaming ks Idle = Unit {0}
IsNaming ks (Named p) = are_values ks p ≡ true
IsNaming ks (SpawnFaulted k) = Unit {0}
IsNaming ks SpawnPoisoned = Unit {0}

abbrev AreNamed : List Kind → Result (List Field) Answer → Type 0
AreNamed ks (Ok p) = are_values ks p ≡ true
AreNamed ks (Err a) = Unit {0}

named-more : (k : Kind) (ks : List Kind) (a : Answer) (r : Result (List Field) Answer) → is_answer k a ≡ true → AreNamed ks r → AreNamed (k ∷ ks) (with_argument a r)
named-more k ks (Given v) (Ok p) h g = and_from _ _ h g
named-more k ks (Given v) (Err a) h g = tt
named-more k ks Missing r h g = tt
named-more k ks (Faulted f) r h g = tt
named-more k ks Poisoned r h g = tt

-- what becomes of a spawn clause
naming-is : (ks : List Kind) (r : Result (List Field) Answer) (alive : List Instance) → AreNamed ks r → IsNaming ks (naming_outcome r alive)
naming-is ks (Ok p) alive h = by (not (is_among p alive) && not (nat_lt (length alive) most_instances))
  where
    by : (b : Bool) → IsNaming ks (if b then SpawnFaulted fault.TooManyInstances else Named p)
    by true = tt
    by false = h
naming-is ks (Err (Faulted k)) alive h = tt
naming-is ks (Err Missing) alive h = tt
naming-is ks (Err Poisoned) alive h = tt
naming-is ks (Err (Given v)) alive h = tt

guarded-naming : (ks : List Kind) (a : Answer) (s : Spawned) → IsNaming ks s → IsNaming ks (spawn_guarded a s)
guarded-naming ks (Given (field.Bool true)) s h = h
guarded-naming ks (Given (field.Bool false)) s h = tt
guarded-naming ks (Given (field.Int z)) s h = tt
guarded-naming ks (Given (field.Text t)) s h = tt
guarded-naming ks (Given field.Absent) s h = tt
guarded-naming ks Missing s h = tt
guarded-naming ks (Faulted k) s h = tt
guarded-naming ks Poisoned s h = tt

-- and of an eval clause
guarded-is : (k : Kind) (a b : Answer) → is_answer k b ≡ true → is_answer k (guarded a b) ≡ true
guarded-is k (Given (field.Bool true)) b h = h
guarded-is k (Given (field.Bool false)) b h = refl
guarded-is k (Given (field.Int z)) b h = refl
guarded-is k (Given (field.Text t)) b h = refl
guarded-is k (Given field.Absent) b h = refl
guarded-is k Missing b h = refl
guarded-is k (Faulted f) b h = refl
guarded-is k Poisoned b h = refl

-- a spawn clause names as many parameters as its stream has

spawn-count-of : (s : Stream) (k : Clause) (so : Sort) → elim so [ sort.Input ↦ is_input_shape s | sort.Output ↦ is_output_shape s | sort.Trigger ↦ is_trigger_shape s ] ≡ true
    → s.spawn ≡ Some k → length k.with ≡ length s.parameters
spawn-count-of s k sort.Input h e =
    let a = (and_parts (has_kind s.kind) _ h).1 in
    let b = (and_parts (nat_eq (length s.parameters) 0) _ a).1 in
    let c = (and_parts (not (has_clause s.spawn)) _ b).0 in
    let d : has_clause s.spawn ≡ true = ap has_clause e in
    absurd (let f : not (has_clause s.spawn) ≡ false = ap not d in cc)
spawn-count-of s k sort.Output h e =
    let a = (and_parts (nat_eq (count_with s.eval) 1) _ h).1 in
    let b = (and_parts (nat_eq (count_with s.spawn) (length s.parameters)) _ a).0 in
    sym (ap count_with e) ∙ eqb-true (count_with s.spawn) (length s.parameters) b
spawn-count-of s k sort.Trigger h e =
    let a = (and_parts (is_of_bool s.kind) _ h).1 in
    let b = (and_parts (nat_eq (count_with s.eval) 1) _ a).1 in
    let c = (and_parts (not (has_when s.eval)) _ b).1 in
    let d = (and_parts (nat_eq (length s.parameters) 0) _ c).1 in
    let g = (and_parts (not (has_clause s.spawn)) _ d).0 in
    let f : has_clause s.spawn ≡ true = ap has_clause e in
    absurd (let j : not (has_clause s.spawn) ≡ false = ap not f in cc)

spawn-count : (s : Stream) (k : Clause) → is_well_shaped s ≡ true → s.spawn ≡ Some k → length k.with ≡ length s.parameters
spawn-count s k h e = spawn-count-of s k s.sort h e

module _ (spec : Spec) (named : IsNamed spec) (typed : IsTyped spec) (texts : list_all is_utf8 spec.texts ≡ true) (c : Content) (most : ℕ) (content : IsContentOf (layouts_from spec.streams [] []) most c) (few : most < 2 ^ 63) where
  -- a whole expression comes to a value of the kind that it has to be of
  whole-is : (n : ℕ) (q : Part) (ks : List Kind) (want : Kind) (before : ℕ) (e : Expr) → IsAmong (wholes_of spec) (λ g. listed_spec g spec) (whole n q ks want before e)
      → (p : List Field) → are_values ks p ≡ true → is_answer want (den spec c p e) ≡ true
  whole-is n q ks want before e among p params =
      let is = and_parts _ _ (among.passes (whole_is_typed spec) typed.typed) in
      let known : AreTexts spec c most content few texts (listed literal_text e) =
      λ i m. ltb-true i (length spec.texts) (passes (λ j. nat_lt j (length spec.texts)) (listed_spec literal_text spec) i named.text_numbers (among.lists literal_text i m)) in
      moved (noted e) want (den spec c p e) (and_parts _ _ is.1).0 (den-is spec c most content few texts ks p params e is.0 known)

  module _ (n : ℕ) (s : Stream) (at : slice_get spec.streams n ≡ Some s) where
    in-spec : (w : Whole) → IsAmong (stream_wholes n s (filled_kind s)) (λ g. listed_stream g s) w → IsAmong (wholes_of spec) (λ g. listed_spec g spec) w
    in-spec w a = of_streams w 0 spec.streams n s n (omega arith) at a

    -- the eval clause
    first-is : (k : Clause) (es : List Expr) (p : List Field) → are_values s.parameters p ≡ true
        → ((want : Kind) (before : ℕ) (e : Expr)
        → IsAmong (with_wholes n part.Eval s.parameters (filled_kind s ∷ []) k.with_at es) (λ g. listed_with g es) (whole n part.Eval s.parameters want before e)
        → is_answer want (den spec c p e) ≡ true)
        → is_answer (filled_kind s) (first_answer spec c p es) ≡ true
    first-is k [] p params each = refl
    first-is k (e ∷ es) p params each =
        let before = unwrap_or (slice_get k.with_at 0) 0 in
        let one = whole n part.Eval s.parameters (filled_kind s) before e in
        let others = with_wholes n part.Eval s.parameters [] (drop 1 k.with_at) es in
        each (filled_kind s) before e (among_first one (one ∷ []) others (λ g. listed g e) (λ g. listed_with g es) (among_one one))

    eval-is : (k : Clause) → s.eval ≡ Some k → (p : List Field) → are_values s.parameters p ≡ true → is_answer (filled_kind s) (clause_answer spec c p k) ≡ true
    eval-is k is p params =
        guarded-is (filled_kind s) (when_answer spec c p k.when) (first_answer spec c p k.with)
        (first-is k k.with p params
        (λ want before e a.
        let w = whole n part.Eval s.parameters want before e in
        let whens = condition_wholes n part.Eval s.parameters k.when_at k.when in
        let withs = with_wholes n part.Eval s.parameters (filled_kind s ∷ []) k.with_at k.with in
        let b : IsAmong (clause_wholes n part.Eval s.parameters (filled_kind s ∷ []) (Some k)) (λ g. listed_clause g (Some k)) w =
        among_others w whens withs (λ g. listed_when g k.when) (λ g. listed_with g k.with) a in
        let d : IsAmong (clause_wholes n part.Eval s.parameters (filled_kind s ∷ []) s.eval) (λ g. listed_clause g s.eval) w =
        subst (λ (o : Option Clause). IsAmong (clause_wholes n part.Eval s.parameters (filled_kind s ∷ []) o) (λ g. listed_clause g o) w) (sym is) b in
        whole-is n part.Eval s.parameters want before e (in-spec w (of_eval n s (filled_kind s) w d)) p params))

    -- where it is active or not
    pub eval-outcome-is : (bad active : Bool) (p : List Field) → are_values s.parameters p ≡ true → is_answer (filled_kind s) (eval_outcome spec c bad active s.eval p) ≡ true
    eval-outcome-is bad active p params = by s.eval refl
      where
        either : (k : Clause) → s.eval ≡ Some k → (b : Bool) → is_answer (filled_kind s) (if b then clause_answer spec c p k else Missing) ≡ true
        either k e true = eval-is k e p params
        either k e false = refl

        by : (o : Option Clause) → s.eval ≡ o → is_answer (filled_kind s) (eval_outcome spec c bad active o p) ≡ true
        by None e = refl
        by (Some k) e = either k e (not bad && active)

    -- the spawn clause
    named-is : (wants : List Kind) (ats : List ℕ) (es : List Expr) → length es ≡ length wants
        → ((want : Kind) (before : ℕ) (e : Expr)
        → IsAmong (with_wholes n part.Spawn [] wants ats es) (λ g. listed_with g es) (whole n part.Spawn [] want before e)
        → is_answer want (den spec c [] e) ≡ true)
        → AreNamed wants (named_params spec c es)
    named-is [] ats [] same each = refl
    named-is [] ats (e ∷ es) same each = absurd (omega arith)
    named-is (k ∷ ks) ats [] same each = absurd (omega arith)
    named-is (k ∷ ks) ats (e ∷ es) same each =
        let before = unwrap_or (slice_get ats 0) 0 in
        let one = whole n part.Spawn [] k before e in
        let others = with_wholes n part.Spawn [] ks (drop 1 ats) es in
        named-more k ks (den spec c [] e) (named_params spec c es)
        (each k before e (among_first one (one ∷ []) others (λ g. listed g e) (λ g. listed_with g es) (among_one one)))
        (named-is ks (drop 1 ats) es (omega arith)
        (λ want at' x a. each want at' x (among_others (whole n part.Spawn [] want at' x) (one ∷ []) others (λ g. listed g e) (λ g. listed_with g es) a)))

    spawn-is : (k : Clause) → s.spawn ≡ Some k → is_well_shaped s ≡ true → (active : Bool) (alive : List Instance) → IsNaming s.parameters (spawn_outcome spec c active (Some k) alive)
    spawn-is k is shaped false alive = tt
    spawn-is k is shaped true alive =
        guarded-naming s.parameters (when_answer spec c [] k.when) (naming_outcome (named_params spec c k.with) alive)
        (naming-is s.parameters (named_params spec c k.with) alive
        (named-is s.parameters k.with_at k.with (spawn-count s k shaped is)
        (λ want before e a.
        let w = whole n part.Spawn [] want before e in
        let whens = condition_wholes n part.Spawn [] k.when_at k.when in
        let withs = with_wholes n part.Spawn [] s.parameters k.with_at k.with in
        let b : IsAmong (clause_wholes n part.Spawn [] s.parameters (Some k)) (λ g. listed_clause g (Some k)) w =
        among_others w whens withs (λ g. listed_when g k.when) (λ g. listed_with g k.with) a in
        let d : IsAmong (clause_wholes n part.Spawn [] s.parameters s.spawn) (λ g. listed_clause g s.spawn) w =
        subst (λ (o : Option Clause). IsAmong (clause_wholes n part.Spawn [] s.parameters o) (λ g. listed_clause g o) w) (sym is) b in
        whole-is n part.Spawn [] want before e (in-spec w (of_spawn n s (filled_kind s) w d)) [] refl)))

    pub spawn-outcome-is : is_well_shaped s ≡ true → (active : Bool) (alive : List Instance) → IsNaming s.parameters (spawn_outcome spec c active s.spawn alive)
    spawn-outcome-is shaped active alive = by s.spawn refl
      where
        by : (o : Option Clause) → s.spawn ≡ o → IsNaming s.parameters (spawn_outcome spec c active o alive)
        by None e = tt
        by (Some k) e = spawn-is k e shaped active alive
