-- What plans that differ in addresses alone have in common: what expressions come to, which entries a journal may have, which tables
-- are models, and what is told of them.
use Rattle.std.specs.Prelude.{ℕ, ◌≡◌, ◌↔◌, List, Option, None, map}
use Rattle.lola_value.specs.declared.text.Field.{Field}
use Rattle.lola_model.specs.Content.{Content}
use Rattle.lola_model.specs.Denotation.{den}
use Rattle.lola_model.specs.Model.{answered, IsModel, IsRow, model, Next}
use Rattle.lola_model.specs.NextStep.{due, next_settled, next_step}
use Rattle.lola_model.specs.Runs.{content_after, final_lines, first_fault, IsSettledModel, IsWholeModel, settled_fault, settled_lines, settled_model, whole_model}
use Rattle.lola_model.specs.Store.{layout_of}
use Rattle.lola_model.specs.Table.{Step, TableRow}
use Rattle.lola_model.specs.Texts.{table_lines}
use Rattle.lola_model.specs.Trace.{IsTraceable}
use Rattle.lola_model.specs.declared.expr.Expr.{Expr}
use Rattle.lola_model.specs.declared.journal.Entry.{Entry}
use Rattle.lola_model.specs.declared.journal.Row.{Row}
use Rattle.lola_model.specs.declared.journal.Show.{Show}
use Rattle.lola_model.specs.declared.plan.Plan.{Plan}
use Rattle.lola_model.specs.declared.spec.Spec.{Spec}
use Rattle.lola_model.specs.declared.spec.Stream.{Stream}
use Rattle.lola_front_law.specs.Alike.{AreExprsAlike, ArePlansAlike, AreSpecsAlike}

-- a stream without its clauses: its name, place, sort, message, kind and parameters
abbrev pub without_clauses : Stream → Stream
without_clauses s = record s { spawn = None; eval = None; close = None }

-- expressions that differ in addresses alone come to the same under both specifications, whatever content is seen and whatever the
-- parameters are
abbrev pub HaveSameOutcomes : Spec → Spec → Type 0
HaveSameOutcomes s t = (c : Content) (params : List Field) (a b : Expr) → AreExprsAlike a b → den s c params a ≡ den t c params b

-- their streams are the same but for their clauses, and an entry that a line of the trace of the one can tell, a line of the trace of
-- the other can tell
pub record HaveSameEntries (p q : Plan) : Type 0 where
  pub streams : map without_clauses p.spec.streams ≡ map without_clauses q.spec.streams
  pub entries : (e : Entry) → IsTraceable p e ↔ IsTraceable q e

-- a store has the same layout for both, and after each table it stands for the same content
pub record HaveSameStores (p q : Plan) : Type 0 where
  pub layouts : layout_of p ≡ layout_of q
  pub contents : (start : ℕ) (table : List TableRow) → content_after p start table ≡ content_after q start table

-- their models are the same tables: steps, instances and outcomes of all streams
pub record HaveSameModels (p q : Plan) : Type 0 where
  -- after each table the same row is made of a step, and a row solves the equations of a step for both or for neither
  pub rows : (start : ℕ) (table : List TableRow) (step : Step) → answered p start table step ≡ answered q start table step
  pub are_rows : (start : ℕ) (table : List TableRow) (step : Step) (row : TableRow) → IsRow p start table step row ↔ IsRow q start table step row
  -- by each rule that says which step comes next, and over each list of steps
  pub by_rule : (start : ℕ) (next : Next) (table : List TableRow) → IsModel p start next table ↔ IsModel q start next table
  pub over_steps : (start : ℕ) (steps : List Step) → model p start steps ≡ model q start steps
  -- after each table the same deadline is due, and the same step comes next
  pub dues : (start : ℕ) (table : List TableRow) → due p table start ≡ due q table start
  pub steps : (start : ℕ) (rows : List Row) (table : List TableRow) → next_step p start rows table ≡ next_step q start rows table
  pub settled_steps : (start : ℕ) (rows : List Row) (table : List TableRow) → next_settled p start rows table ≡ next_settled q start rows table
  -- over each journal
  pub are_models : (start : Option ℕ) (journal : List Entry) (table : List TableRow) → IsWholeModel p start journal table ↔ IsWholeModel q start journal table
  pub are_settled_models : (start : Option ℕ) (journal : List Entry) (table : List TableRow) → IsSettledModel p start journal table ↔ IsSettledModel q start journal table
  pub models : (start : Option ℕ) (journal : List Entry) → whole_model p start journal ≡ whole_model q start journal
  pub settled_models : (start : Option ℕ) (journal : List Entry) → settled_model p start journal ≡ settled_model q start journal

-- the same lines are written of each table and of each journal, and the same fault is told: of the same stream, of the same kind and
-- at the same time
pub record HaveSameVerdicts (p q : Plan) : Type 0 where
  pub of_table : (show : Show) (table : List TableRow) → table_lines show p.spec.streams table ≡ table_lines show q.spec.streams table
  pub lines : (start : Option ℕ) (journal : List Entry) (show : Show) → final_lines p start journal show ≡ final_lines q start journal show
  pub lines_so_far : (start : Option ℕ) (journal : List Entry) (show : Show) → settled_lines p start journal show ≡ settled_lines q start journal show
  pub fault : (start : Option ℕ) (journal : List Entry) → first_fault p start journal ≡ first_fault q start journal
  pub fault_so_far : (start : Option ℕ) (journal : List Entry) → settled_fault p start journal ≡ settled_fault q start journal

-- the laws: specifications that differ in addresses alone have the same outcomes
abbrev pub OutcomesAreSame : Type 0
OutcomesAreSame = (s t : Spec) → AreSpecsAlike s t → HaveSameOutcomes s t

-- plans that differ in addresses alone have the same entries
abbrev pub EntriesAreSame : Type 0
EntriesAreSame = (p q : Plan) → ArePlansAlike p q → HaveSameEntries p q

-- the same stores
abbrev pub StoresAreSame : Type 0
StoresAreSame = (p q : Plan) → ArePlansAlike p q → HaveSameStores p q

-- the same models
abbrev pub ModelsAreSame : Type 0
ModelsAreSame = (p q : Plan) → ArePlansAlike p q → HaveSameModels p q

-- and the same verdicts
abbrev pub VerdictsAreSame : Type 0
VerdictsAreSame = (p q : Plan) → ArePlansAlike p q → HaveSameVerdicts p q
