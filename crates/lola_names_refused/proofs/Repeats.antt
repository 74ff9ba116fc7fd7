-- Names that are declared one after another.
use Rattle.std.proofs.Common.{◌≡◌, ℕ, ◌+◌, ◌<◌, ◌≤◌, List, Option, length, get_or, drop, is_some, map, refl, ap₂}
use Rattle.lola_value.specs.declared.front.Refusal.{Refusal}
use Rattle.lola_value.specs.declared.front.Code.TheVariants as code
use Rattle.lola_parser_grammar.specs.declared.literals.Typed.{Typed}
use Rattle.lola_parser_grammar.specs.declared.declarations.Declaration.{Declaration}
use Rattle.lola_names_refused.specs.declared.names.Meaning.{Meaning}
use Rattle.lola_names_refused.specs.declared.names.Meaning.TheVariants as meaning
use Rattle.lola_names_refused.specs.Table.{meaning_in, meant, with_name}
use Rattle.lola_names_refused.specs.Known.{Known, Declared, declared, with_names, with_declarations}
use Rattle.lola_names_refused.specs.Noted.{noted, Finds}
use Rattle.lola_names_refused.specs.Refused.{where_, repeated, repeated_parameters, repeats, all_repeats}
use Rattle.lola_names_refused.proofs.Noting.{noted-append, turn, end}

abbrev pub So : Type 0
So = Option Refusal × Known

abbrev pub named : Meaning → Typed → Declared
named m t = (t.name, m)

-- inputs

abbrev repeated_so : Meaning → So → List Typed → Option Refusal
repeated_so m s ts = noted s.0 (repeated s.1 (map (named m) ts))

pub repeated_turn : (m : Meaning) (ts : List Typed) (i : ℕ) (t : Typed) (old new : Option Refusal) (k k' : Known) (whole : Option Refusal) → i < length ts → t ≡ get_or ts i t
    → Finds (where_ (is_some (meaning_in k t.name.text)) code.Duplicate t.name.at) old new → k' ≡ with_name k (t.name, m)
    → noted old (repeated k (map (named m) (drop i ts))) ≡ whole → noted new (repeated k' (map (named m) (drop (i + 1) ts))) ≡ whole
repeated_turn m ts i t old new k k' whole within is found known so_far =
    turn (repeated_so m)
    (λ s x. (noted s.0 (where_ (is_some (meaning_in s.1 x.name.text)) code.Duplicate x.name.at), with_name s.1 (x.name, m)))
    (λ s x rest. noted-append s.0 (where_ (is_some (meaning_in s.1 x.name.text)) code.Duplicate x.name.at) (repeated (with_name s.1 (x.name, m)) (map (named m) rest)))
    ts i t (old, k) (new, k') whole within is (ap₂ (λ (a : Option Refusal) (b : Known). (a, b)) found known) so_far

pub repeated_end : (m : Meaning) (ts : List Typed) (i : ℕ) (o : Option Refusal) (k : Known) (whole : Option Refusal) → length ts ≤ i
    → noted o (repeated k (map (named m) (drop i ts))) ≡ whole → o ≡ whole
repeated_end m ts i o k whole all so_far = end (repeated_so m) ts i (o, k) whole all so_far

abbrev names_so : Meaning → Known → List Typed → Known
names_so m k ts = with_names k (map (named m) ts)

pub names_turn : (m : Meaning) (ts : List Typed) (i : ℕ) (t : Typed) (k k' whole : Known) → i < length ts → t ≡ get_or ts i t → k' ≡ with_name k (t.name, m)
    → with_names k (map (named m) (drop i ts)) ≡ whole → with_names k' (map (named m) (drop (i + 1) ts)) ≡ whole
names_turn m ts i t k k' whole within is known so_far = turn (names_so m) (λ s x. with_name s (x.name, m)) (λ s x rest. refl) ts i t k k' whole within is known so_far

pub names_end : (m : Meaning) (ts : List Typed) (i : ℕ) (k whole : Known) → length ts ≤ i → with_names k (map (named m) (drop i ts)) ≡ whole → k ≡ whole
names_end m ts i k whole all so_far = end (names_so m) ts i k whole all so_far

-- parameters

abbrev parameters_so : Known → So → List Typed → Option Refusal
parameters_so ns s ts = noted s.0 (repeated_parameters ns s.1 (map (named meaning.Parameter) ts))

pub parameters_turn : (ns : Known) (ts : List Typed) (i : ℕ) (t : Typed) (old new : Option Refusal) (k k' : Known) (whole : Option Refusal) → i < length ts → t ≡ get_or ts i t
    → Finds (where_ (is_some (meant k ns t.name.text)) code.Duplicate t.name.at) old new → k' ≡ with_name k (t.name, meaning.Parameter)
    → noted old (repeated_parameters ns k (map (named meaning.Parameter) (drop i ts))) ≡ whole
    → noted new (repeated_parameters ns k' (map (named meaning.Parameter) (drop (i + 1) ts))) ≡ whole
parameters_turn ns ts i t old new k k' whole within is found known so_far =
    turn (parameters_so ns)
    (λ s x. (noted s.0 (where_ (is_some (meant s.1 ns x.name.text)) code.Duplicate x.name.at), with_name s.1 (x.name, meaning.Parameter)))
    (λ s x rest. noted-append s.0 (where_ (is_some (meant s.1 ns x.name.text)) code.Duplicate x.name.at)
    (repeated_parameters ns (with_name s.1 (x.name, meaning.Parameter)) (map (named meaning.Parameter) rest)))
    ts i t (old, k) (new, k') whole within is (ap₂ (λ (a : Option Refusal) (b : Known). (a, b)) found known) so_far

pub parameters_end : (ns : Known) (ts : List Typed) (i : ℕ) (o : Option Refusal) (k : Known) (whole : Option Refusal) → length ts ≤ i
    → noted o (repeated_parameters ns k (map (named meaning.Parameter) (drop i ts))) ≡ whole → o ≡ whole
parameters_end ns ts i o k whole all so_far = end (parameters_so ns) ts i (o, k) whole all so_far

-- declarations

abbrev all_so : So → List Declaration → Option Refusal
all_so s ds = noted s.0 (all_repeats s.1 ds)

pub all_turn : (ds : List Declaration) (i : ℕ) (x : Declaration) (old new : Option Refusal) (k k' : Known) (whole : Option Refusal) → i < length ds → x ≡ get_or ds i x
    → Finds (repeats k x) old new → k' ≡ with_names k (declared x)
    → noted old (all_repeats k (drop i ds)) ≡ whole → noted new (all_repeats k' (drop (i + 1) ds)) ≡ whole
all_turn ds i x old new k k' whole within is found known so_far =
    turn all_so (λ s y. (noted s.0 (repeats s.1 y), with_names s.1 (declared y))) (λ s y rest. noted-append s.0 (repeats s.1 y) (all_repeats (with_names s.1 (declared y)) rest))
    ds i x (old, k) (new, k') whole within is (ap₂ (λ (a : Option Refusal) (b : Known). (a, b)) found known) so_far

pub all_end : (ds : List Declaration) (i : ℕ) (o : Option Refusal) (k : Known) (whole : Option Refusal) → length ds ≤ i → noted o (all_repeats k (drop i ds)) ≡ whole → o ≡ whole
all_end ds i o k whole all so_far = end all_so ds i (o, k) whole all so_far

pub declarations_turn : (ds : List Declaration) (i : ℕ) (x : Declaration) (k k' whole : Known) → i < length ds → x ≡ get_or ds i x → k' ≡ with_names k (declared x)
    → with_declarations k (drop i ds) ≡ whole → with_declarations k' (drop (i + 1) ds) ≡ whole
declarations_turn ds i x k k' whole within is known so_far = turn with_declarations (λ s y. with_names s (declared y)) (λ s y rest. refl) ds i x k k' whole within is known so_far

pub declarations_end : (ds : List Declaration) (i : ℕ) (k whole : Known) → length ds ≤ i → with_declarations k (drop i ds) ≡ whole → k ≡ whole
declarations_end ds i k whole all so_far = end with_declarations ds i k whole all so_far
