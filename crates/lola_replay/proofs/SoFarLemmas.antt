-- A table so far grows, and is a model where it ends.
use Rattle.std.proofs.Common.{◌≡◌, ◌∙◌, refl, sym, ap, subst, ℕ, List, [], ◌∷◌, ◌++◌, Option, Some, None, Bool, true, false, if◌then◌else◌, arith, append_assoc, append-nil, nat_lt, slice_get}
use Rattle.std.proofs.lemmas.Bool.{le-ltb}
use Rattle.std.proofs.lemmas.Option.{slice_get_within}
use Rattle.lola_model.proofs.Growing.{slice_get-append}
use Rattle.lola_model.specs.Table.{TableRow}
use Rattle.lola_model.specs.Model.{has_fault, GoesOn, IsRow, Next}
use Rattle.lola_model.specs.NextStep.{due, next_below, rows_taken, step_before}
use Rattle.lola_model.specs.Steps.{deadline_step}
use Rattle.lola_model.specs.declared.journal.Row.{Row}
use Rattle.lola_model.specs.declared.plan.Plan.{Plan}
use Rattle.lola_replay.specs.SoFar.{GoesFinely, GoesOnAs}

module _ (plan : Plan) (start : ℕ) (next : Next) where
  behind : (rows more : List TableRow) (row : TableRow) → rows ++ row ∷ more ≡ (rows ++ row ∷ []) ++ more
  behind rows more row = sym (append_assoc rows (row ∷ []) more)

  -- what comes next behind rows, and its row
  pub record Comes (rows : List TableRow) (row : TableRow) : Type 0 where
    pub step : next rows ≡ Some row.step
    pub lawful : IsRow plan start rows row.step row

  pub grows : (rows more : List TableRow) (row : TableRow) → GoesFinely plan start next rows more → Comes (rows ++ more) row → has_fault row ≡ false
      → GoesFinely plan start next rows (more ++ row ∷ [])
  grows rows [] row goes comes fine =
      let here = subst (λ (rs : List TableRow). Comes rs row) (append-nil rows) comes in
      (here.step, here.lawful, fine, tt)
  grows rows (r ∷ rs) row goes comes fine =
      (goes.0, goes.1, goes.2, grows (rows ++ r ∷ []) rs row goes.3 (subst (λ (all : List TableRow). Comes all row) (behind rows rs r) comes) fine)

  abbrev Rest : List TableRow → TableRow → List TableRow → Bool → Type 0
  Rest rows row more b = elim b [ true ↦ more ≡ [] | false ↦ GoesOn plan start next (rows ++ row ∷ []) more ]

  pub ended : (rows more : List TableRow) → GoesFinely plan start next rows more → next (rows ++ more) ≡ None → GoesOn plan start next rows more
  ended rows [] goes none = subst (λ (rs : List TableRow). next rs ≡ None) (append-nil rows) none
  ended rows (r ∷ rs) goes none =
      let rest = ended (rows ++ r ∷ []) rs goes.3 (subst (λ (all : List TableRow). next all ≡ None) (behind rows rs r) none) in
      (goes.0, goes.1, subst (λ b. Rest rows r rs b) (sym goes.2) rest)

  pub ended-faulty : (rows more : List TableRow) (row : TableRow) → GoesFinely plan start next rows more → Comes (rows ++ more) row → has_fault row ≡ true
      → GoesOn plan start next rows (more ++ row ∷ [])
  ended-faulty rows [] row goes comes fault =
      let here = subst (λ (rs : List TableRow). Comes rs row) (append-nil rows) comes in
      (here.step, here.lawful, subst (λ b. Rest rows row [] b) (sym fault) refl)
  ended-faulty rows (r ∷ rs) row goes comes fault =
      let rest = ended-faulty (rows ++ r ∷ []) rs row goes.3 (subst (λ (all : List TableRow). Comes all row) (behind rows rs r) comes) fault in
      (goes.0, goes.1, subst (λ b. Rest rows r (rs ++ row ∷ []) b) (sym goes.2) rest)

-- where another rule goes on as this one does, a table so far by the one is one by the other
pub carried : (plan : Plan) (start : ℕ) (next longer : Next) → GoesOnAs next longer → (rows more : List TableRow) → GoesFinely plan start next rows more → GoesFinely plan start longer rows more
carried plan start next longer onward rows [] goes = tt
carried plan start next longer onward rows (r ∷ rs) goes = (onward rows r.step goes.0, goes.1, goes.2, carried plan start next longer onward (rows ++ r ∷ []) rs goes.3)

-- the settled rule over some rows goes on as the one over more rows does, whatever deadlines come behind the last
pub settled-goes-on : (plan : Plan) (start limit : ℕ) (rows more : List Row) → GoesOnAs (next_below plan start rows 0) (next_below plan start (rows ++ more) limit)
settled-goes-on plan start limit rows more table step is = go (slice_get rows (rows_taken table)) refl (due plan table start) is
  where
    go : (o : Option Row) → slice_get rows (rows_taken table) ≡ o → (d : Option ℕ) → step_before o 0 d ≡ Some step → step_before (slice_get (rows ++ more) (rows_taken table)) limit d ≡ Some step
    go (Some r) at d e =
        let within = slice_get_within rows (rows_taken table) r at in
        ap (λ (q : Option Row). step_before q limit d) (slice_get-append rows more (rows_taken table) within ∙ at) ∙ e
    go None at None e = absurd (cc e)
    go None at (Some t) e =
        let past : nat_lt t 0 ≡ false = le-ltb t 0 (omega arith) in
        let none : None ≡ Some step = sym (ap (λ b. if b then Some (deadline_step t) else None) past) ∙ e in
        absurd (cc none)

-- and so does the rule with the deadlines behind the last row
pub whole-goes-on : (plan : Plan) (start limit : ℕ) (rows : List Row) → GoesOnAs (next_below plan start rows 0) (next_below plan start rows limit)
whole-goes-on plan start limit rows =
    subst (λ (all : List Row). GoesOnAs (next_below plan start rows 0) (next_below plan start all limit)) (append-nil rows) (settled-goes-on plan start limit rows [])
