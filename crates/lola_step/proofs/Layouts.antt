-- What a plan has of each stream.
use Rattle.std.proofs.Common.{◌≡◌, refl, ap, ◌∙◌, ℕ, zero, suc, List, [], ◌∷◌, Option, Some, None, true, false, not, drop, length, slice_get, subst, unwrap_or, sym, get_or, ◌+◌, ◌<◌}
use Rattle.std.proofs.lemmas.Bool.{and_parts}
use Rattle.std.proofs.lemmas.Option.{slice_get_read}
use Rattle.lola_model.specs.Model.{filled_kind}
use Rattle.lola_model.specs.Acceptance.{IsAccepted}
use Rattle.lola_model.specs.Pacings.{pacings_from}
use Rattle.lola_model.specs.Store.{kind_in, layouts_from, never_spawns, parameters_of, spawns_in}
use Rattle.lola_model.specs.declared.finding.FoundPacing.{FoundPacing}
use Rattle.lola_model.specs.declared.pacing.ClausePacings.{ClausePacings}
use Rattle.lola_model.specs.declared.plan.Plan.{Plan}
use Rattle.lola_model.specs.declared.spec.Clause.{Clause}
use Rattle.lola_model.specs.declared.spec.Stream.{Stream}

-- as many streams
pub layouts_length : (ss : List Stream) (kept : List ℕ) (ps : List ClausePacings) → length (layouts_from ss kept ps) ≡ length ss
layouts_length [] kept ps = refl
layouts_length (s ∷ ss) kept ps = ap suc (layouts_length ss (drop 1 kept) (drop 1 ps))

-- the kind of its values
pub kind_there : (ss : List Stream) (kept : List ℕ) (ps : List ClausePacings) (n : ℕ) (s : Stream) → slice_get ss n ≡ Some s → kind_in (slice_get (layouts_from ss kept ps) n) ≡ filled_kind s
kind_there [] kept ps n s e = absurd (cc)
kind_there (r ∷ ss) kept ps zero s e = let p : r ≡ s = cc in ap (λ (x : Stream). filled_kind x) p
kind_there (r ∷ ss) kept ps (suc n) s e = kind_there ss (drop 1 kept) (drop 1 ps) n s e

-- the kinds of its parameters
pub parameters_there : (ss : List Stream) (kept : List ℕ) (ps : List ClausePacings) (n : ℕ) (s : Stream) → slice_get ss n ≡ Some s → parameters_of (slice_get (layouts_from ss kept ps) n) ≡ s.parameters
parameters_there [] kept ps n s e = absurd (cc)
parameters_there (r ∷ ss) kept ps zero s e = let p : r ≡ s = cc in ap (λ (x : Stream). x.parameters) p
parameters_there (r ∷ ss) kept ps (suc n) s e = parameters_there ss (drop 1 kept) (drop 1 ps) n s e

-- that it has a spawn clause
pub spawns_there : (ss : List Stream) (kept : List ℕ) (ps : List ClausePacings) (n : ℕ) (s : Stream) (k : Clause) → slice_get ss n ≡ Some s → s.spawn ≡ Some k → spawns_in (slice_get (layouts_from ss kept ps) n) ≡ true
spawns_there [] kept ps n s k e f = absurd (cc)
spawns_there (r ∷ ss) kept ps zero s k e f =
    let p : r ≡ s = cc in
    ap (λ (x : Stream). spawns_in (slice_get (layouts_from (x ∷ ss) kept ps) zero)) p ∙ ap (λ (o : Option Clause). elim o [ None ↦ false | Some c ↦ true ]) f
spawns_there (r ∷ ss) kept ps (suc n) s k e f = spawns_there ss (drop 1 kept) (drop 1 ps) n s k e f

no_clause : (o : Option Clause) → not (elim o [ None ↦ false | Some k ↦ true ]) ≡ true → o ≡ None
no_clause None e = refl
no_clause (Some k) e = absurd (cc)

-- where none has a spawn clause, that it has none
pub never_there : (ss : List Stream) (kept : List ℕ) (ps : List ClausePacings) (n : ℕ) (s : Stream) → never_spawns (layouts_from ss kept ps) ≡ true → slice_get ss n ≡ Some s → s.spawn ≡ None
never_there [] kept ps n s h e = absurd (cc)
never_there (r ∷ ss) kept ps zero s h e =
    let p : r ≡ s = cc in
    subst (λ (x : Stream). x.spawn ≡ None) p (no_clause r.spawn (and_parts _ _ h).0)
never_there (r ∷ ss) kept ps (suc n) s h e = never_there ss (drop 1 kept) (drop 1 ps) n s (and_parts _ _ h).1 e

-- the stream of a duty of a loop
pub stream_of_duty : (xs ss : List Stream) (n : ℕ) (s : Stream) → xs ≡ ss → n < length xs → s ≡ get_or xs n s → slice_get ss n ≡ Some s
stream_of_duty xs ss n s e lt is = ap (λ ys. slice_get ys n) (sym e) ∙ slice_get_read xs (length xs) n s refl lt is

-- as many pacings as streams
paced_length : (spawns evals closes : List FoundPacing) (n : ℕ) (ss : List Stream) → length (pacings_from spawns evals closes n ss) ≡ length ss
paced_length spawns evals closes n [] = refl
paced_length spawns evals closes n (s ∷ ss) = ap suc (paced_length spawns evals closes (n + 1) ss)

pub pacings_length : (plan : Plan) → IsAccepted plan → length plan.pacings ≡ length plan.spec.streams
pacings_length plan accepted = let p = accepted.paced in ap length p.are ∙ paced_length p.found.spawns p.found.evals p.found.closes 0 plan.spec.streams
