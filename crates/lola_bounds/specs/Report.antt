-- The lines that tell what was found of a specification.
use Rattle.std.specs.Prelude.{ℕ, ◌+◌, List, [], ◌∷◌, ◌++◌, Bool, true, false, Option, Some, None, if◌then◌else◌, codes, decimal, map, nat_eq, slice_get, unwrap_or}
use Rattle.lola_value.specs.Ratio.{Ratio}
use Rattle.lola_value.specs.Times.{time_text}
use Rattle.lola_value.specs.declared.value.Kind.{Kind}
use Rattle.lola_value.specs.declared.value.Kind.TheVariants as kind
use Rattle.lola_model.specs.Model.{is_input, eval_pacing, spawn_pacing}
use Rattle.lola_model.specs.Graph.{layer_of, eval_node, spawn_node}
use Rattle.lola_model.specs.declared.plan.Plan.{Plan}
use Rattle.lola_model.specs.declared.plan.PaneSize.{PaneSize}
use Rattle.lola_model.specs.declared.spec.Clause.{Clause}
use Rattle.lola_model.specs.declared.spec.WindowSpec.{WindowSpec}
use Rattle.lola_model.specs.Implication.{has_input}
use Rattle.lola_model.specs.declared.pacing.InputSet.{InputSet}
use Rattle.lola_model.specs.declared.pacing.Pacing.{Pacing}
use Rattle.lola_model.specs.declared.pacing.Pacing.TheVariants.{Event, Periodic, Local}
use Rattle.lola_model.specs.declared.spec.Stream.{Stream}

-- texts one after another, with a separator before each but the first
abbrev pub joined : List ℕ → Bool → List (List ℕ) → List ℕ
joined separator first [] = []
joined separator first (t ∷ ts) = (if first then [] else separator) ++ (t ++ joined separator false ts)

-- the names of the inputs of a set, in order, of streams whose first input has this number
abbrev pub names_in : InputSet → ℕ → List Stream → List (List ℕ)
names_in s n [] = []
names_in s n (x ∷ xs) =
    if is_input x then (if has_input s.0 n then x.name ∷ names_in s (n + 1) xs else names_in s (n + 1) xs) else names_in s n xs

-- a set of inputs
abbrev pub set_text : List Stream → InputSet → List ℕ
set_text streams s = joined (codes " && ") true (names_in s 0 streams)

-- a normal form
abbrev pub sets_text : List Stream → List InputSet → List ℕ
sets_text streams sets = joined (codes " || ") true (map (set_text streams) sets)

-- a rate
abbrev pub rate_text : Ratio → List ℕ
rate_text r = decimal r.num ++ ((if nat_eq r.den 1 then [] else 47 ∷ decimal r.den) ++ codes "Hz")

-- a rate that counts from the birth of each instance
abbrev pub local_text : Ratio → List ℕ
local_text r = codes "Local(" ++ (rate_text r ++ codes ")")

-- a clause's pacing
abbrev pub pacing_text : List Stream → Option Pacing → List ℕ
pacing_text streams None = []
pacing_text streams (Some (Event sets)) = sets_text streams sets
pacing_text streams (Some (Periodic r)) = rate_text r
pacing_text streams (Some (Local r)) = local_text r

-- a kind, as specifications spell it
abbrev pub kind_name : Kind → List ℕ
kind_name kind.Bool = codes "Bool"
kind_name kind.Int8 = codes "Int8"
kind_name kind.Int16 = codes "Int16"
kind_name kind.Int32 = codes "Int32"
kind_name kind.Int64 = codes "Int64"
kind_name kind.UInt8 = codes "UInt8"
kind_name kind.UInt16 = codes "UInt16"
kind_name kind.UInt32 = codes "UInt32"
kind_name kind.UInt64 = codes "UInt64"
kind_name kind.Text = codes "String"

-- a stream's kind, which every stream of a plan has
abbrev pub kind_text : Option Kind → List ℕ
kind_text None = []
kind_text (Some k) = kind_name k

-- a node's layer
abbrev pub layer_text : Plan → ℕ → List ℕ
layer_text plan node = codes " layer " ++ decimal (layer_of plan.layers node)

-- the pacing and the layer of a stream's spawn clause, if it has one
abbrev pub spawn_text : Plan → ℕ → Option Clause → List ℕ
spawn_text plan n None = []
spawn_text plan n (Some c) =
    codes " spawn " ++ (pacing_text plan.spec.streams (spawn_pacing (slice_get plan.pacings n)) ++ layer_text plan (spawn_node n))

-- the pacing and the layer of its eval clause
abbrev pub eval_text : Plan → ℕ → List ℕ
eval_text plan n =
    codes " pacing " ++ (pacing_text plan.spec.streams (eval_pacing (slice_get plan.pacings n)) ++ layer_text plan (eval_node n))

-- how many of its values are kept
abbrev pub kept_text : Plan → ℕ → List ℕ
kept_text plan n = codes " kept " ++ (decimal (unwrap_or (slice_get plan.kept n) 0) ++ 10 ∷ [])

-- its number, name and kind
abbrev pub stream_name : ℕ → Stream → List ℕ
stream_name n s = codes "stream " ++ (decimal n ++ (32 ∷ [] ++ (s.name ++ (32 ∷ [] ++ kind_text s.kind))))

-- the line of a stream
abbrev pub stream_line : Plan → ℕ → Stream → List ℕ
stream_line plan n s = stream_name n s ++ (spawn_text plan n s.spawn ++ (eval_text plan n ++ kept_text plan n))

-- the lines of streams, which are numbered from n on
abbrev pub stream_lines : Plan → ℕ → List Stream → List ℕ
stream_lines plan n [] = []
stream_lines plan n (s ∷ ss) = stream_line plan n s ++ stream_lines plan (n + 1) ss

-- the name of a stream, if there is one
abbrev pub name_of : Option Stream → List ℕ
name_of None = []
name_of (Some s) = s.name

-- how many panes a window has
abbrev pub pane_count : Option PaneSize → ℕ
pane_count None = 0
pane_count (Some p) = p.count

-- whose window it is, and onto which stream
abbrev pub window_name : Plan → ℕ → WindowSpec → List ℕ
window_name plan i w =
    codes "window " ++ (decimal i ++ (codes " in " ++ (name_of (slice_get plan.spec.streams w.stream) ++ (codes " onto " ++ name_of (slice_get plan.spec.streams w.target)))))

-- its length and panes
abbrev pub window_size : Plan → ℕ → WindowSpec → List ℕ
window_size plan i w = codes " over " ++ (time_text w.over ++ (codes " panes " ++ (decimal (pane_count (slice_get plan.panes i)) ++ 10 ∷ [])))

-- the lines of windows, which are numbered from i on
abbrev pub window_lines : Plan → ℕ → List WindowSpec → List ℕ
window_lines plan i [] = []
window_lines plan i (w ∷ ws) = (window_name plan i w ++ window_size plan i w) ++ window_lines plan (i + 1) ws

-- a line for each stream, and then for each window
abbrev pub report_of : Plan → List ℕ
report_of plan = stream_lines plan 0 plan.spec.streams ++ window_lines plan 0 plan.spec.windows
