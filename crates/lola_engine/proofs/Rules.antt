-- The model over steps that come by a rule, and that of a journal with one row more.
use Rattle.std.proofs.Common.{◌≡◌, refl, ap, sym, subst, ◌∙◌, ℕ, ◌⊎◌, inr, List, [], ◌∷◌, ◌++◌, Option, Some, None, Bool, true, false, map, length, append_assoc, append-nil}
use Rattle.std.specs.List.{Contains}
use Rattle.lola_model.specs.Accepted.{IsAcyclic}
use Rattle.lola_model.specs.Graph.{edges_of, nodes_of}
use Rattle.lola_model.specs.Model.{GoesOn, IsRow, Next, has_fault, model}
use Rattle.lola_model.specs.Table.{Step, TableRow}
use Rattle.lola_model.specs.declared.plan.Plan.{Plan}
use Rattle.lola_model.proofs.Growing.{is_ended, later_fine}
use Rattle.lola_model.proofs.Growth.{last_row-append}
use Rattle.lola_model.proofs.Layers.{has_one_row}
use Rattle.lola_model.proofs.OneModel.{HasOneRow}
use Rattle.lola_model.proofs.Targets.{among, among_acyclic, from_among, lead_to_nodes}
use Rattle.lola_model.proofs.Walks.{depth_of, layer_exists}
use Rattle.lola_engine.specs.Rules.{Come}
use Rattle.lola_engine.proofs.Tables.{fine_goes_on, one_by_one, one_row_more}

-- the steps of rows
abbrev pub steps_of : List TableRow → List Step
steps_of table = map (λ (row : TableRow). row.step) table

-- each step has one row
pub one_row : (plan : Plan) (start : ℕ) → IsAcyclic plan.spec → HasOneRow plan start
one_row plan start a =
    let count = length plan.spec.streams in
    let edges = among count (edges_of plan.spec) in
    let nodes = nodes_of plan.spec in
    has_one_row plan start (depth_of edges (length nodes))
    (layer_exists edges nodes (λ e (c : Contains edges e). let k = from_among count (edges_of plan.spec) e c in lead_to_nodes plan.spec e k.0 k.1) (among_acyclic count (edges_of plan.spec) a.none))

-- an option has one thing
pub same_one : {A : Type 0} (o : Option A) (x y : A) → o ≡ Some x → o ≡ Some y → x ≡ y
same_one None x y e k = absurd (cc)
same_one (Some z) x y e k = cc

pub none_or_one : {A : Type 0} (o : Option A) (x : A) → o ≡ None → o ≡ Some x → ⊥
none_or_one None x e k = cc
none_or_one (Some y) x e k = cc

module _ (plan : Plan) (start : ℕ) (next : Next) where
  abbrev Goes : List TableRow → List TableRow → Type 0
  Goes done table = GoesOn plan start next done table

  -- the rest of a table behind a row
  abbrev Rest : List TableRow → TableRow → List TableRow → Bool → Type 0
  Rest done row more b = elim b as (λ _. Type 0) [ true ↦ more ≡ [] | false ↦ Goes (done ++ row ∷ []) more ]

  -- a table goes on lawfully behind each front of it that has no fault
  pub goes_behind : (front done rest : List TableRow) → is_ended front ≡ false → Goes done (front ++ rest) → Goes (done ++ front) rest
  goes_behind [] done rest fine g = subst (λ rs. Goes rs rest) (sym (append-nil done)) g
  goes_behind (row ∷ front) done rest fine g = go (has_fault row) refl g.2 (goes_behind front (done ++ row ∷ []) rest (later_fine row front fine))
    where
      none_left : (b : Bool) → has_fault row ≡ b → b ≡ true → front ++ rest ≡ [] → ⊥
      none_left b e t q = go front fine q
        where
          go : (fs : List TableRow) → is_ended (row ∷ fs) ≡ false → fs ++ rest ≡ [] → ⊥
          go [] f z = let k : has_fault row ≡ true = e ∙ t in cc
          go (r ∷ fs) f z = cc

      go : (b : Bool) → has_fault row ≡ b → Rest done row (front ++ rest) b → (Goes (done ++ row ∷ []) (front ++ rest) → Goes ((done ++ row ∷ []) ++ front) rest) → Goes (done ++ row ∷ front) rest
      go true e g later = absurd (none_left true e refl g)
      go false e g later = subst (λ rs. Goes rs rest) (append_assoc done (row ∷ []) front) (later g)

  -- where a lawful table without a fault ends no step comes, and its last step came by the rule
  abbrev IsReached : List TableRow → Type 0
  IsReached done = (done ≡ []) ⊎ ((before : List TableRow) × (row : TableRow) × (done ≡ before ++ row ∷ []) × (next before ≡ Some row.step))

  pub reached : (table done : List TableRow) → is_ended table ≡ false → IsReached done → Goes done table → IsReached (done ++ table) × (next (done ++ table) ≡ None)
  reached [] done fine h g = (subst IsReached (sym (append-nil done)) h, ap next (append-nil done) ∙ g)
  reached (row ∷ table) done fine h g = go (has_fault row) refl g.2 (reached table (done ++ row ∷ []) (later_fine row table fine) (inr (done, row, refl, g.0)))
    where
      no_more : (b : Bool) → has_fault row ≡ b → b ≡ true → (ts : List TableRow) → ts ≡ table → ts ≡ [] → ⊥
      no_more b e t ts same none = let q : is_ended (row ∷ table) ≡ has_fault row = ap (λ rs. is_ended (row ∷ rs)) (sym same ∙ none) in let k : has_fault row ≡ true = e ∙ t in cc

      go : (b : Bool) → has_fault row ≡ b → Rest done row table b
          → (Goes (done ++ row ∷ []) table → IsReached ((done ++ row ∷ []) ++ table) × (next ((done ++ row ∷ []) ++ table) ≡ None))
          → IsReached (done ++ row ∷ table) × (next (done ++ row ∷ table) ≡ None)
      go true e g later = absurd (no_more true e refl table refl g)
      go false e g later = subst (λ rs. IsReached rs × (next rs ≡ None)) (append_assoc done (row ∷ []) table) (later g)

  module _ (acyclic : IsAcyclic plan.spec) where
    abbrev rows : List Step → List TableRow
    rows steps = model plan start steps

    -- one row that is lawful is the row of the model over its step
    the_row : (steps : List Step) (row : TableRow) → IsRow plan start (rows steps) row.step row → is_ended (rows steps) ≡ false → rows (steps ++ row.step ∷ []) ≡ rows steps ++ row ∷ []
    the_row steps row is fine =
        one_row_more plan start steps row.step fine ∙ ap (λ (r : TableRow). rows steps ++ r ∷ []) (sym ((one_row plan start acyclic).only (rows steps) row.step row is))

    ends_there : (steps : List Step) (row : TableRow) → rows (steps ++ row.step ∷ []) ≡ rows steps ++ row ∷ [] → is_ended (rows (steps ++ row.step ∷ [])) ≡ has_fault row
    ends_there steps row e = ap is_ended e ∙ ap (λ o. elim o [ None ↦ false | Some r ↦ has_fault r ]) (last_row-append (rows steps) row)

    -- what goes on lawfully behind a model is the model over its steps too
    pub model_behind : (table : List TableRow) (steps : List Step) → is_ended (rows steps) ≡ false → Goes (rows steps) table → rows (steps ++ steps_of table) ≡ rows steps ++ table
    model_behind [] steps fine g = ap rows (append-nil steps) ∙ sym (append-nil (rows steps))
    model_behind (row ∷ table) steps fine g =
        go (has_fault row) refl g.2 (model_behind table (steps ++ row.step ∷ []))
      where
        one : rows (steps ++ row.step ∷ []) ≡ rows steps ++ row ∷ []
        one = the_row steps row g.1 fine

        go : (b : Bool) → has_fault row ≡ b → Rest (rows steps) row table b
            → (is_ended (rows (steps ++ row.step ∷ [])) ≡ false → Goes (rows (steps ++ row.step ∷ [])) table
            → rows ((steps ++ row.step ∷ []) ++ steps_of table) ≡ rows (steps ++ row.step ∷ []) ++ table)
            → rows (steps ++ row.step ∷ steps_of table) ≡ rows steps ++ row ∷ table
        go true e g later =
            ap (λ ts. rows (steps ++ row.step ∷ steps_of ts)) g ∙ (one ∙ ap (λ (ts : List TableRow). rows steps ++ row ∷ ts) (sym g))
        go false e g later =
            ap rows (one_by_one steps row.step (steps_of table))
            ∙ (later (ends_there steps row one ∙ e) (subst (λ rs. Goes rs table) (sym one) g)
            ∙ (ap (λ (rs : List TableRow). rs ++ table) one ∙ append_assoc (rows steps) (row ∷ []) table))

    -- the steps that come are the first of those of a lawful table, and all of them where none comes behind them
    pub follow : (more steps : List Step) (table : List TableRow) → Come plan start next steps more → is_ended (rows steps) ≡ false → Goes (rows steps) table
        → (later : List Step) × (steps_of table ≡ more ++ later) × (next (rows (steps ++ more)) ≡ None → later ≡ [])
    follow [] steps [] come fine g = ([], refl, λ q. refl)
    follow [] steps (row ∷ table) come fine g =
        (steps_of (row ∷ table), refl, λ q. absurd (none_or_one (next (rows steps)) row.step (ap (λ ss. next (rows ss)) (sym (append-nil steps)) ∙ q) g.0))
    follow (x ∷ more) steps [] come fine g = absurd (none_or_one (next (rows steps)) x g come.1)
    follow (x ∷ more) steps (row ∷ table) come fine g = go (has_fault row) refl g.2 (λ a b. follow more (steps ++ x ∷ []) table come.2 a b)
      where
        is : row.step ≡ x
        is = same_one (next (rows steps)) row.step x g.0 come.1

        one : rows (steps ++ x ∷ []) ≡ rows steps ++ row ∷ []
        one = subst (λ (z : Step). rows (steps ++ z ∷ []) ≡ rows steps ++ row ∷ []) is (the_row steps row g.1 fine)

        ended : is_ended (rows (steps ++ x ∷ [])) ≡ has_fault row
        ended = ap is_ended one ∙ ap (λ o. elim o [ None ↦ false | Some r ↦ has_fault r ]) (last_row-append (rows steps) row)

        Follows : List Step → List TableRow → Type 0
        Follows ms ts = (later : List Step) × (steps_of (row ∷ ts) ≡ x ∷ (ms ++ later)) × (next (rows (steps ++ x ∷ ms)) ≡ None → later ≡ [])

        -- a row with a fault is the last
        last : (ms : List Step) → Come plan start next (steps ++ x ∷ []) ms → has_fault row ≡ true → Follows ms []
        last [] c e = ([], ap (λ (z : Step). z ∷ []) is, λ q. refl)
        last (m ∷ ms) c e = let k = sym ended ∙ fine_goes_on (rows (steps ++ x ∷ [])) c.0 in absurd (cc)

        go : (b : Bool) → has_fault row ≡ b → Rest (rows steps) row table b
            → (is_ended (rows (steps ++ x ∷ [])) ≡ false → Goes (rows (steps ++ x ∷ [])) table
            → (later : List Step) × (steps_of table ≡ more ++ later) × (next (rows ((steps ++ x ∷ []) ++ more)) ≡ None → later ≡ []))
            → Follows more table
        go true e g later = subst (λ ts. Follows more ts) (sym g) (last more come.2 e)
        go false e g later =
            let w = later (ended ∙ e) (subst (λ rs. Goes rs table) (sym one) g) in
            (w.0, ap (λ (z : Step). z ∷ steps_of table) is ∙ ap (λ ss. x ∷ ss) w.1, λ q. w.2 (ap (λ ss. next (rows ss)) (sym (one_by_one steps x more)) ∙ q))

    -- so a lawful table is the model over the steps that come and others, if any
    pub comes_to : (steps more : List Step) (table : List TableRow) → Come plan start next steps more → is_ended (rows steps) ≡ false → Goes (rows steps) table
        → (later : List Step) × (rows (steps ++ (more ++ later)) ≡ rows steps ++ table) × (next (rows (steps ++ more)) ≡ None → later ≡ [])
    comes_to steps more table come fine g =
        let w = follow more steps table come fine g in
        (w.0, ap (λ ss. rows (steps ++ ss)) (sym w.1) ∙ model_behind table steps fine g, w.2)
