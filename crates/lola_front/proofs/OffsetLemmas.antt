-- Offsets of a named specification are small.
use Rattle.std.proofs.Common.{◌≡◌, refl, subst, ℕ, ◌≤◌, List, [], ◌∷◌, Bool, true, false, nat_eq, nat_le, if◌then◌else◌, inl, inr}
use Rattle.std.specs.List.{Contains, list_all}
use Rattle.std.proofs.lemmas.Bool.{leb-true}
use Rattle.lola_model.proofs.Strictly.{All-from_members, Contains-cases, Contains-none}
use Rattle.lola_model.specs.Bounds.{offset_by, offset_onto, offsets_onto}
use Rattle.lola_model.specs.Named.{IsNamed, all_numbers, offset_in}
use Rattle.lola_model.specs.Parts.{listed_spec}
use Rattle.lola_model.specs.declared.expr.Expr.{Expr}
use Rattle.lola_model.specs.declared.expr.Expr.TheVariants.{Literal, Parameter, Read, Window, Defaults', Unary', Both', Choice'}
use Rattle.lola_model.specs.declared.spec.Spec.{Spec}
use Rattle.lola_graph.specs.Small as graph
use Rattle.lola_bounds.specs.Offsets as bounds
use Rattle.lola_pacing.proofs.ListedLemmas.{Has, maps_streams}
use Rattle.lola_graph.proofs.ReadLemmas.{and_first, and_second}

-- each number that is listed passes
passes : (f : ℕ → Bool) (ns : List ℕ) (i : ℕ) → all_numbers f ns ≡ true → Contains ns i → f i ≡ true
passes f [] i h c = absurd (Contains-none i c)
passes f (n ∷ ns) i h c =
    let rest = passes f ns i (and_second (f n) (all_numbers f ns) h) in
    elim (Contains-cases n i ns c) [ inl e ↦ subst (λ (j : ℕ). f j ≡ true) e (and_first (f n) (all_numbers f ns) h) | inr d ↦ rest d ]

-- two words for one test
same_test : (ns : List ℕ) → all_numbers (λ k. nat_le k 4096) ns ≡ true → list_all graph.is_small_offset ns ≡ true
same_test [] h = refl
same_test (n ∷ ns) h =
    let one = and_first (nat_le n 4096) (all_numbers (λ k. nat_le k 4096) ns) h in
    let others = same_test ns (and_second (nat_le n 4096) (all_numbers (λ k. nat_le k 4096) ns) h) in
    rw (one, others) refl

pub graph_offsets : (spec : Spec) → IsNamed spec → graph.HasSmallOffsets spec
graph_offsets spec named = same_test (listed_spec offset_in spec) named.offsets

-- an offset onto a stream is an offset
is_offset_where : (b : Bool) (ks : List ℕ) (k : ℕ) → Contains (if b then ks else []) k → Has ℕ (λ j. j ≡ k) ks
is_offset_where true ks k c = (k, c, refl)
is_offset_where false ks k c = absurd (Contains-none k c)

is_offset : (n k : ℕ) (e : Expr) → Contains (offset_onto n e) k → Has ℕ (λ j. j ≡ k) (offset_in e)
is_offset n k (Literal place v) c = absurd (Contains-none k c)
is_offset n k (Parameter place i) c = absurd (Contains-none k c)
is_offset n k (Read place m how args) c = is_offset_where (nat_eq m n) (offset_by how) k c
is_offset n k (Window place w args) c = absurd (Contains-none k c)
is_offset n k (Defaults' place u a v b) c = absurd (Contains-none k c)
is_offset n k (Unary' place operator u a) c = absurd (Contains-none k c)
is_offset n k (Both' place operator u a v b) c = absurd (Contains-none k c)
is_offset n k (Choice' place u a v b w d) c = absurd (Contains-none k c)

small_onto : (spec : Spec) → IsNamed spec → (n k : ℕ) → Contains (offsets_onto n spec) k → k ≤ 4096
small_onto spec named n k c =
    let has = maps_streams ℕ ℕ (offset_onto n) offset_in k (λ j. j ≡ k) (is_offset n k) spec.streams c in
    let there = subst (λ (j : ℕ). Contains (listed_spec offset_in spec) j) has.2 has.1 in
    leb-true k 4096 (passes (λ j. nat_le j 4096) (listed_spec offset_in spec) k named.offsets there)

pub bounds_offsets : (spec : Spec) → IsNamed spec → bounds.HasSmallOffsets spec
bounds_offsets spec named = record { small = λ n. All-from_members (λ k. k ≤ 4096) (offsets_onto n spec) (λ k c. small_onto spec named n k c) }
