-- One step more: the model goes on by one row, unless its last row has a fault.
use Rattle.std.proofs.Common.{◌≡◌, refl, ap, sym, ◌∙◌, ℕ, zero, suc, ◌+◌, ◌<◌, List, [], ◌∷◌, ◌++◌, Option, Some, None, is_some, Bool, true, false, ◌||◌, length, slice_get, arith, append_assoc, append-nil, length-append}
use Rattle.lola_value.specs.Answer.{Answer, Given, Missing, Faulted, Poisoned}
use Rattle.lola_value.specs.declared.value.FaultKind.{FaultKind}
use Rattle.lola_model.specs.Table.{Step, Spawned, Idle, Named, SpawnFaulted, SpawnPoisoned, Living, StreamRow, TableRow}
use Rattle.lola_model.specs.Model.{answered, has_fault, has_faulted, some_faulted, spawn_has_faulted, has_evaluation_fault, has_close_fault, Next, in_order, made, model, last_row}
use Rattle.lola_model.specs.Faults.{RowFault, lesser_kind, add_faulted, least_faulted, least_kind, own_fault, first_with, or_else, row_fault, at_time, fault_of_last}
use Rattle.lola_model.specs.declared.plan.Plan.{Plan}

-- an element of the front of two lists
pub slice_get-append : {A : Type 0} (xs ys : List A) (k : ℕ) → k < length xs → slice_get (xs ++ ys) k ≡ slice_get xs k
slice_get-append [] ys k h = absurd (omega arith)
slice_get-append (x ∷ xs) ys zero h = refl
slice_get-append (x ∷ xs) ys (suc k) h = slice_get-append xs ys k (omega arith)

-- the last element
pub slice_get_last : {A : Type 0} (xs : List A) (x : A) (k : ℕ) → k ≡ length xs → slice_get (xs ++ x ∷ []) k ≡ Some x
slice_get_last [] x zero h = refl
slice_get_last [] x (suc k) h = absurd (omega arith)
slice_get_last (y ∷ xs) x zero h = absurd (omega arith)
slice_get_last (y ∷ xs) x (suc k) h = slice_get_last xs x k (omega arith)

-- an element below the length
pub slice_get_some : {A : Type 0} (xs : List A) (k : ℕ) → k < length xs → (x : A) × (slice_get xs k ≡ Some x)
slice_get_some [] k h = absurd (omega arith)
slice_get_some (x ∷ xs) zero h = (x, refl)
slice_get_some (x ∷ xs) (suc k) h = slice_get_some xs k (omega arith)

-- a row with a fault, if there is a row
abbrev pub ends_with : Option TableRow → Bool
ends_with None = false
ends_with (Some row) = has_fault row

-- the last row of a table has a fault
abbrev pub is_ended : List TableRow → Bool
is_ended table = ends_with (last_row table)

-- a table with one row more, unless it is ended
abbrev pub grown : Bool → List TableRow → TableRow → List TableRow
grown true table row = table
grown false table row = table ++ row ∷ []

-- one row in front changes nothing of that
ended_later : (b : Bool) (row : TableRow) (table : List TableRow) (next : TableRow) → has_fault row ≡ false → grown (is_ended (row ∷ table)) (row ∷ table) next ≡ row ∷ grown (is_ended table) table next
ended_later b row [] next h = ap (λ b. grown b (row ∷ []) next) h
ended_later b row (r ∷ table) next h = go (is_ended (r ∷ table))
  where
    go : (b : Bool) → grown b (row ∷ r ∷ table) next ≡ row ∷ grown b (r ∷ table) next
    go true = refl
    go false = refl

module _ (plan : Plan) (start : ℕ) where
  -- a row, and what is made after it unless it has a fault
  abbrev onward : Next → ℕ → List TableRow → TableRow → Bool → List TableRow
  onward next most rows row b = elim b [ true ↦ row ∷ [] | false ↦ row ∷ made plan start next most (rows ++ row ∷ []) ]

  -- what is made where this step comes next, if any
  abbrev after : Next → ℕ → List TableRow → Option Step → List TableRow
  after next most rows o = elim o [ None ↦ [] | Some step ↦ let row = answered plan start rows step in elim (has_fault row) [ true ↦ row ∷ [] | false ↦ row ∷ made plan start next most (rows ++ row ∷ []) ] ]

  -- where a step comes next
  made_step : (next : Next) (most : ℕ) (rows : List TableRow) (s : Step) → next rows ≡ Some s → made plan start next (suc most) rows ≡ onward next most rows (answered plan start rows s) (has_fault (answered plan start rows s))
  made_step next most rows s e = ap (after next most rows) e

  -- where none comes after it
  one_row : (next : Next) (rows : List TableRow) (row : TableRow) (b : Bool) → onward next zero rows row b ≡ row ∷ []
  one_row next rows row true = refl
  one_row next rows row false = refl

  module _ (steps : List Step) (s : Step) where
    -- the steps without the last
    abbrev fewer : Next
    fewer = in_order steps

    -- and with it
    abbrev more : Next
    more = in_order (steps ++ s ∷ [])

    -- what is made grows by the row of the last step, unless it is ended
    abbrev Grows : ℕ → List TableRow → Type 0
    Grows most rows = made plan start more (suc most) rows ≡ grown (is_ended (made plan start fewer most rows)) (made plan start fewer most rows) (answered plan start (rows ++ made plan start fewer most rows) s)

    -- after a row
    onward_grows : (most : ℕ) (rows : List TableRow) (row : TableRow) (b : Bool) → has_fault row ≡ b → Grows most (rows ++ row ∷ [])
        → onward more (suc most) rows row b ≡ grown (is_ended (onward fewer most rows row b)) (onward fewer most rows row b) (answered plan start (rows ++ onward fewer most rows row b) s)
    onward_grows most rows row true e ih = ap (λ b. grown b (row ∷ []) (answered plan start (rows ++ row ∷ []) s)) (sym e)
    onward_grows most rows row false e ih =
        let rest = made plan start fewer most (rows ++ row ∷ []) in
        ap (λ (t : List TableRow). row ∷ t) ih
        ∙ (ap (λ (t : List TableRow). row ∷ grown (is_ended rest) rest (answered plan start t s)) (append_assoc rows (row ∷ []) rest)
        ∙ sym (ended_later true row rest (answered plan start (rows ++ (row ∷ rest)) s) e))

    -- after any rows
    made_more : (most : ℕ) (rows : List TableRow) → length rows + most ≡ length steps → Grows most rows
    made_more zero rows h =
        made_step more zero rows s (slice_get_last steps s (length rows) (omega arith))
        ∙ (one_row more rows (answered plan start rows s) (has_fault (answered plan start rows s))
        ∙ ap (λ (t : List TableRow). answered plan start t s ∷ []) (sym (append-nil rows)))
    made_more (suc most) rows h =
        let at = slice_get_some steps (length rows) (omega arith) in
        let row = answered plan start rows at.0 in
        let a : made plan start more (suc (suc most)) rows ≡ onward more (suc most) rows row (has_fault row) = made_step more (suc most) rows at.0 (slice_get-append steps (s ∷ []) (length rows) (omega arith) ∙ at.1) in
        let b : made plan start fewer (suc most) rows ≡ onward fewer most rows row (has_fault row) = made_step fewer most rows at.0 at.1 in
        let c = onward_grows most rows row (has_fault row) refl (made_more most (rows ++ row ∷ []) (omega (arith, length-append rows (row ∷ [])))) in
        a ∙ (c ∙ ap (λ (t : List TableRow). grown (is_ended t) t (answered plan start (rows ++ t) s)) (sym b))

    -- the model over one step more
    pub model_more : model plan start (steps ++ s ∷ []) ≡ grown (is_ended (model plan start steps)) (model plan start steps) (answered plan start (model plan start steps) s)
    unfolding model
    model_more =
        let e : length (steps ++ s ∷ []) ≡ suc (length steps) = omega (arith, length-append steps (s ∷ [])) in
        ap (λ n. made plan start more n []) e ∙ made_more (length steps) [] (omega arith)

-- where there is no fault there is a row for each step

-- of rows without a fault at the end, the later ones
pub later_fine : (row : TableRow) (table : List TableRow) → is_ended (row ∷ table) ≡ false → is_ended table ≡ false
later_fine row [] h = refl
later_fine row (r ∷ table) h = h

module _ (plan : Plan) (start : ℕ) (steps : List Step) where
  -- what is made after these rows
  abbrev made_of : ℕ → List TableRow → List TableRow
  made_of most rows = made plan start (in_order steps) most rows

  -- one row, and those after it
  onward_count : (most : ℕ) (rows : List TableRow) (row : TableRow) (b : Bool) → has_fault row ≡ b
      → (is_ended (made_of most (rows ++ row ∷ [])) ≡ false → length (made_of most (rows ++ row ∷ [])) ≡ most)
      → is_ended (onward plan start (in_order steps) most rows row b) ≡ false → length (onward plan start (in_order steps) most rows row b) ≡ suc most
  onward_count most rows row true e more h = absurd (cc)
  onward_count most rows row false e more h = ap suc (more (later_fine row (made_of most (rows ++ row ∷ [])) h))

  -- as many rows as steps are left
  made_count : (most : ℕ) (rows : List TableRow) → length rows + most ≡ length steps → is_ended (made_of most rows) ≡ false → length (made_of most rows) ≡ most
  made_count zero rows h fine = refl
  made_count (suc most) rows h fine =
      let at = slice_get_some steps (length rows) (omega arith) in
      let row = answered plan start rows at.0 in
      let one : made_of (suc most) rows ≡ onward plan start (in_order steps) most rows row (has_fault row) = made_step plan start (in_order steps) most rows at.0 at.1 in
      ap length one
      ∙ onward_count most rows row (has_fault row) refl (made_count most (rows ++ row ∷ []) (omega (arith, h, length-append rows (row ∷ [])))) (ap is_ended (sym one) ∙ fine)

  -- of the whole model
  pub rows_are_steps : is_ended (model plan start steps) ≡ false → length (model plan start steps) ≡ length steps
  unfolding model
  rows_are_steps fine = made_count (length steps) [] (omega arith) fine

-- the model over no step
pub model_none : (plan : Plan) (start : ℕ) → model plan start [] ≡ []
unfolding model
model_none plan start = refl

-- a row has a fault where `has_fault` says so

some_or : (o q : Option RowFault) → is_some (or_else o q) ≡ (is_some o || is_some q)
some_or None q = refl
some_or (Some f) q = refl

some_lesser : (k : FaultKind) (o : Option FaultKind) → is_some (lesser_kind k o) ≡ true
some_lesser k None = refl
some_lesser k (Some j) = refl

some_added : (a : Answer) (o : Option FaultKind) (b : Bool) → is_some o ≡ b → is_some (add_faulted a o) ≡ (has_faulted a || b)
some_added (Given v) o b e = e
some_added Missing o b e = e
some_added (Faulted k) o b e = some_lesser k o
some_added Poisoned o b e = e

some_least : (ls : List Living) → is_some (least_faulted ls) ≡ some_faulted ls
some_least [] = refl
some_least (l ∷ ls) = some_added l.outcome (least_faulted ls) (some_faulted ls) (some_least ls)

some_first : (f : StreamRow → Option FaultKind) (n : ℕ) (s : StreamRow) (ss : List StreamRow) → is_some (first_with f n (s ∷ ss)) ≡ (is_some (f s) || is_some (first_with f (n + 1) ss))
some_first f n s ss = go (f s)
  where
    go : (o : Option FaultKind) → is_some (elim o [ None ↦ first_with f (n + 1) ss | Some k ↦ Some (record { stream = n; kind = k }) ]) ≡ (is_some o || is_some (first_with f (n + 1) ss))
    go None = refl
    go (Some k) = refl

own_some : (s : StreamRow) → is_some (own_fault s) ≡ (spawn_has_faulted s.spawned || some_faulted s.living)
own_some s = go s.spawned
  where
    go : (p : Spawned) → is_some (elim p [ Idle ↦ least_faulted s.living | Named q ↦ least_faulted s.living | SpawnFaulted k ↦ Some k | SpawnPoisoned ↦ least_faulted s.living ]) ≡ (spawn_has_faulted p || some_faulted s.living)
    go Idle = some_least s.living
    go (Named q) = some_least s.living
    go (SpawnFaulted k) = refl
    go SpawnPoisoned = some_least s.living

or_assoc : (a b c : Bool) → (a || b) || c ≡ a || (b || c)
or_assoc true b c = refl
or_assoc false b c = refl

some_evaluation : (n : ℕ) (ss : List StreamRow) → is_some (first_with own_fault n ss) ≡ has_evaluation_fault ss
some_evaluation n [] = refl
some_evaluation n (s ∷ ss) =
    some_first own_fault n s ss
    ∙ (ap (λ b. b || is_some (first_with own_fault (n + 1) ss)) (own_some s)
    ∙ (or_assoc (spawn_has_faulted s.spawned) (some_faulted s.living) (is_some (first_with own_fault (n + 1) ss))
    ∙ ap (λ b. spawn_has_faulted s.spawned || (some_faulted s.living || b)) (some_evaluation (n + 1) ss)))

some_kind : (s : StreamRow) (b : Bool) → (is_some (least_kind s.close_faults) || b) ≡ (elim s.close_faults [ [] ↦ b | k ∷ ks ↦ true ])
some_kind s b = go s.close_faults
  where
    go : (ks : List FaultKind) → (is_some (least_kind ks) || b) ≡ (elim ks [ [] ↦ b | k ∷ ks ↦ true ])
    go [] = refl
    go (k ∷ ks) = ap (λ c. c || b) (some_lesser k (least_kind ks))

some_close : (n : ℕ) (ss : List StreamRow) → is_some (first_with (λ s. least_kind s.close_faults) n ss) ≡ has_close_fault ss
some_close n [] = refl
some_close n (s ∷ ss) =
    some_first (λ s. least_kind s.close_faults) n s ss
    ∙ (ap (λ b. is_some (least_kind s.close_faults) || b) (some_close (n + 1) ss) ∙ some_kind s (has_close_fault ss))

-- the fault of a row is there where the row has one
pub row_fault_some : (row : TableRow) → is_some (row_fault row) ≡ has_fault row
row_fault_some row =
    some_or (first_with own_fault 0 row.streams) (first_with (λ s. least_kind s.close_faults) 0 row.streams)
    ∙ (ap (λ b. b || is_some (first_with (λ s. least_kind s.close_faults) 0 row.streams)) (some_evaluation 0 row.streams)
    ∙ ap (λ b. has_evaluation_fault row.streams || b) (some_close 0 row.streams))

some_at : (t : ℕ) (o : Option RowFault) → is_some (at_time t o) ≡ is_some o
some_at t None = refl
some_at t (Some f) = refl

-- so a table is ended where its last row has a fault
pub ended_by_fault : (table : List TableRow) → is_some (fault_of_last (last_row table)) ≡ is_ended table
ended_by_fault table = go (last_row table)
  where
    go : (o : Option TableRow) → is_some (fault_of_last o) ≡ ends_with o
    go None = refl
    go (Some row) = some_at row.step.time (row_fault row) ∙ row_fault_some row
