-- What a store has to know of a plan, and what it stands for between steps, whatever the addresses of boxes.
use Rattle.std.proofs.Common.{◌≡◌, refl, ap, ap₂, ℕ, ◌+◌, List, [], ◌∷◌, Option, None, Some, Bool, true, false, drop, map, option_map, slice_get, unwrap_or}
use Rattle.lola_model.specs.Content.{Content, StreamContent}
use Rattle.lola_model.specs.Model.{last_row, filled_kind}
use Rattle.lola_model.specs.NextStep.{local_rates}
use Rattle.lola_model.specs.Runs.{content_after, life_after, streams_after, time_of_last}
use Rattle.lola_model.specs.Store.{Layout, layout_of, layouts_from, StreamLayout}
use Rattle.lola_model.specs.Table.{Instance, TableRow}
use Rattle.lola_model.specs.declared.pacing.ClausePacings.{ClausePacings}
use Rattle.lola_model.specs.declared.plan.Plan.{Plan}
use Rattle.lola_model.specs.declared.spec.Clause.{Clause}
use Rattle.lola_model.specs.declared.spec.Stream.{Stream}
use Rattle.lola_front_law.specs.Alike.{plain_clause, plain_plan, plain_stream}
use Rattle.lola_front_law.proofs.PlainRows.{same_survivors}

-- ---- layout

same_spawns : (o : Option Clause) → elim (option_map plain_clause o) as (λ x. Bool) [ None ↦ false | Some k ↦ true ] ≡ elim o as (λ x. Bool) [ None ↦ false | Some k ↦ true ]
same_spawns None = refl
same_spawns (Some k) = refl

same_layouts : (ss : List Stream) (kept : List ℕ) (pacings : List ClausePacings) → layouts_from (map plain_stream ss) kept pacings ≡ layouts_from ss kept pacings
same_layouts [] kept pacings = refl
same_layouts (s ∷ ss) kept pacings =
    ap₂ (λ (spawns : Bool) (ls : List StreamLayout).
    let l : StreamLayout = record {
      kind = filled_kind s;
      parameters = s.parameters;
      spawns = spawns;
      kept = unwrap_or (slice_get kept 0) 1;
      locals = local_rates (slice_get pacings 0);
    } in l ∷ ls)
    (same_spawns s.spawn) (same_layouts ss (drop 1 kept) (drop 1 pacings))

pub same_layout : (plan : Plan) → layout_of (plain_plan plan) ≡ layout_of plan
same_layout plan =
    ap (λ (ls : List StreamLayout). let l : Layout = record { streams = ls; windows = plan.spec.windows; panes = plan.panes } in l)
    (same_layouts plan.spec.streams plan.kept plan.pacings)

-- ---- content

same_after : (rows : List TableRow) (n : ℕ) (ss : List Stream) → streams_after rows n (map plain_stream ss) ≡ streams_after rows n ss
same_after rows n [] = refl
same_after rows n (s ∷ ss) =
    ap₂ (λ (is : List Instance) (cs : List StreamContent). let c : StreamContent = record { bad = false; lives = map (life_after rows n) is } in c ∷ cs)
    (same_survivors n s (last_row rows)) (same_after rows (n + 1) ss)

pub same_content : (plan : Plan) (start : ℕ) (rows : List TableRow) → content_after (plain_plan plan) start rows ≡ content_after plan start rows
same_content plan start rows =
    ap (λ (cs : List StreamContent). let c : Content = record { start = start; time = time_of_last start (last_row rows); streams = cs } in c) (same_after rows 0 plan.spec.streams)
