-- A step of the model, as far as it is done: layer by layer, in each layer first the spawn clauses and then the instances.
use Rattle.std.specs.Prelude.{ℕ, ◌≡◌, ◌+◌, ◌<◌, List, [], ◌∷◌, Some, None, Bool, ◌&&◌, ◌||◌, if◌then◌else◌, map, length, slice_get, nat_lt, nat_eq}
use Rattle.lola_value.specs.Answer.{Missing}
use Rattle.lola_model.specs.Table.{Step, Instance, Idle, Living, StreamRow, TableRow}
use Rattle.lola_model.specs.Content.{Content, content}
use Rattle.lola_model.specs.Graph.{nodes_of, eval_node, spawn_node, layer_of}
use Rattle.lola_model.specs.Model.{asked, is_input, survivors, last_row, the_instance}
use Rattle.lola_model.specs.declared.spec.Clause.{Clause}
use Rattle.lola_model.specs.declared.spec.Stream.{Stream}
use Rattle.lola_model.specs.declared.plan.Plan.{Plan}

-- how far a step is: the inputs below a number have their fields; all nodes of the layers below this one are done, and of this one
-- the spawn clauses of the streams below a number, and the instances of the streams below a number
pub record Stage : Type 0 where
  pub inputs : ℕ
  pub layer : ℕ
  pub spawns : ℕ
  pub evals : ℕ

-- a node of a layer is done, where those of this layer are done below a number
abbrev pub is_behind : ℕ → ℕ → ℕ → ℕ → Bool
is_behind layer n now below = nat_lt layer now || (nat_eq layer now && nat_lt n below)

-- the spawn clause of stream n is done
abbrev pub is_spawned : List ℕ → Stage → ℕ → Bool
is_spawned layers g n = is_behind (layer_of layers (spawn_node n)) n g.layer g.spawns

-- the instances of stream n are done
abbrev pub is_evaluated : List ℕ → Stage → ℕ → Stream → Bool
is_evaluated layers g n s = if is_input s then nat_lt n g.inputs else is_behind (layer_of layers (eval_node n)) n g.layer g.evals

-- an instance without an outcome
abbrev pub silent_living : Instance → Living
silent_living x = record { instance = x; outcome = Missing }

-- the instances of a row
abbrev pub instances_in : List Living → List Instance
instances_in ls = map (λ l. l.instance) ls

-- a stream's row as far as its two nodes are done, where these instances lived before
abbrev pub so_far : Bool → Bool → List Instance → StreamRow → StreamRow
so_far spawned evaluated alive y =
    record {
      spawned = if spawned then y.spawned else Idle;
      living = if evaluated then y.living else map silent_living (if spawned then instances_in y.living else alive);
      closed = [];
      close_faults = [];
    }

module _ (plan : Plan) (rows : List TableRow) (g : Stage) where
  -- the rows of the streams from number n on, as far as they are done
  abbrev pub rows_so_far : ℕ → List Stream → List StreamRow → List StreamRow
  rows_so_far n (s ∷ ss) (y ∷ ys) =
      so_far (is_spawned plan.layers g n) (is_evaluated plan.layers g n s) (survivors n s (last_row rows)) y ∷ rows_so_far (n + 1) ss ys
  rows_so_far n _ ys = []

module _ (plan : Plan) (start : ℕ) (rows : List TableRow) (step : Step) where
  -- what all streams do in the step, before its close clauses
  abbrev pub full_row : TableRow
  full_row = asked plan start rows step (length (nodes_of plan.spec))

  -- as far as it is done
  abbrev pub row_so_far : Stage → TableRow
  row_so_far g = record { step = step; streams = rows_so_far plan rows g 0 plan.spec.streams full_row.streams }

  -- what accesses see at that stage
  unfoldable pub content_so_far : Stage → Content
  content_so_far g = content start rows (row_so_far g)

-- nothing is done yet
abbrev pub first_stage : Stage
first_stage = record { inputs = 0; layer = 0; spawns = 0; evals = 0 }

-- all inputs have their fields, and a layer begins
abbrev pub layer_stage : ℕ → ℕ → Stage
layer_stage streams layer = record { inputs = streams; layer = layer; spawns = 0; evals = 0 }

-- the spawn clauses of the layer are done below a number
abbrev pub spawn_stage : ℕ → ℕ → ℕ → Stage
spawn_stage streams layer n = record { inputs = streams; layer = layer; spawns = n; evals = 0 }

-- all spawn clauses of the layer are done, and the instances of none of its streams
abbrev pub eval_stage : ℕ → ℕ → Stage
eval_stage streams layer = record { inputs = streams; layer = layer; spawns = streams; evals = 0 }

-- these instances were born in steps before this number
abbrev pub AreBornBefore : ℕ → List Instance → Type 0
AreBornBefore n [] = Unit {0}
AreBornBefore n (x ∷ xs) = (x.born < n) × AreBornBefore n xs

-- after these rows each stream without a spawn clause has its one instance, and all instances of the others were born in the rows.
-- An input's field is given to its one instance, and a time of birth is that of a row, so a step goes by stages only after such rows.
-- No rows are such, and rows with the next row of an accepted plan behind them
pub record AreSettled (plan : Plan) (rows : List TableRow) : Type 0 where
  pub one : (n : ℕ) (s : Stream) → slice_get plan.spec.streams n ≡ Some s → s.spawn ≡ None → survivors n s (last_row rows) ≡ the_instance ∷ []
  pub born : (n : ℕ) (s : Stream) (k : Clause) → s.spawn ≡ Some k → AreBornBefore (length rows) (survivors n s (last_row rows))
