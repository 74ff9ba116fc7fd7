-- The nodes of a small graph.
use Rattle.std.proofs.Common.{◌≡◌, ◌≤◌, refl, List, [], ◌∷◌, Bool, true, false, ◌&&◌, nat_lt, arith}
use Rattle.std.proofs.lemmas.Bool.{ltb-true}
use Rattle.lola_model.specs.declared.graph.Edge.{Edge}
use Rattle.lola_model.specs.Nodes.{node_count}
use Rattle.lola_graph.specs.Small.{is_small_weight, is_small_edge, is_small_graph}

and_first : (a b : Bool) → (a && b) ≡ true → a ≡ true
and_first true b h = refl
and_first false b h = absurd (cc)

and_second : (a b : Bool) → (a && b) ≡ true → b ≡ true
and_second true b h = h
and_second false b h = absurd (cc)

-- a small graph has at most 2,048 nodes
pub count_low : (edges : List Edge) → is_small_graph edges ≡ true → node_count edges ≤ 2048
count_low [] h = omega arith
count_low (e ∷ es) h =
    let first = and_first (is_small_edge e) (is_small_graph es) h in
    let ends = and_first (nat_lt e.from 2048 && nat_lt e.to 2048) (is_small_weight e.weight) first in
    let from = ltb-true e.from 2048 (and_first (nat_lt e.from 2048) (nat_lt e.to 2048) ends) in
    let to = ltb-true e.to 2048 (and_second (nat_lt e.from 2048) (nat_lt e.to 2048) ends) in
    omega (arith, from, to, count_low es (and_second (is_small_edge e) (is_small_graph es) h))
