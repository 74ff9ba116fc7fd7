-- Specifications of small numbers have small graphs.
use Rattle.std.proofs.Common.{◌≡◌, refl, sym, ◌∙◌, ℕ, zero, suc, ◌+◌, ◌<◌, ◌≤◌, List, [], ◌∷◌, ◌++◌, Option, Some, None, Bool, true, false, ◌&&◌, nat_lt, ℤ, pos, arith, length, slice_get}
use Rattle.std.specs.List.{list_all}
use Rattle.std.proofs.lemmas.Bool.{ltb-true, lt-ltb, and_from}
use Rattle.std.proofs.lemmas.List.Folds.{list_all-append}
use Rattle.lola_model.specs.Accepted.{IsInRange, AreInRange, IsWhenInRange, IsWithInRange, IsClauseInRange, AreClausesInRange, AreTargetsInRange, IsSpecInRange}
use Rattle.lola_model.specs.Bounds.{offset_by}
use Rattle.lola_model.specs.Graph.{weight_of, edge_to, window_edge, reads, reads_all, when_reads, with_reads, clause_reads, to_spawn, edges_from, edges_of, eval_node, spawn_node}
use Rattle.lola_model.specs.Parts.{listed, listed_all, listed_when, listed_with, listed_clause, listed_stream, listed_streams}
use Rattle.lola_model.specs.declared.expr.Access.{Access}
use Rattle.lola_model.specs.declared.expr.Access.TheVariants as access
use Rattle.lola_model.specs.declared.expr.Arguments.{Arguments}
use Rattle.lola_model.specs.declared.expr.Arguments.TheVariants.{End, More'}
use Rattle.lola_model.specs.declared.expr.Expr.{Expr}
use Rattle.lola_model.specs.declared.expr.Expr.TheVariants.{Literal, Parameter, Read, Window, Defaults', Unary', Both', Choice'}
use Rattle.lola_model.specs.declared.graph.Edge.{Edge}
use Rattle.lola_model.specs.declared.spec.Clause.{Clause}
use Rattle.lola_model.specs.declared.spec.Spec.{Spec}
use Rattle.lola_model.specs.declared.spec.Stream.{Stream}
use Rattle.lola_model.specs.declared.spec.WindowSpec.{WindowSpec}
use Rattle.lola_graph.specs.Readable.{is_small_access, is_readable, are_readable, is_readable_when, is_readable_clause, is_readable_stream, is_readable_window}
use Rattle.lola_graph.specs.Small.{is_small_weight, is_small_edge, is_small_graph, is_small_offset, offset_in, HasSmallOffsets}

pub and_first : (a b : Bool) → (a && b) ≡ true → a ≡ true
and_first true b h = refl
and_first false b h = absurd (cc)

pub and_second : (a b : Bool) → (a && b) ≡ true → b ≡ true
and_second true b h = h
and_second false b h = absurd (cc)

-- where all elements pass a test, so does one that is looked up
pub passes_at : {X : Type 0} (p : X → Bool) (xs : List X) (k : ℕ) (x : X) → list_all p xs ≡ true → slice_get xs k ≡ Some x → p x ≡ true
passes_at p [] k x h e = absurd (cc)
passes_at p (y ∷ ys) zero x h e = let f : Some y ≡ Some x = e in let g : y ≡ x = cc in rw (← g) (and_first (p y) (list_all p ys) h)
passes_at p (y ∷ ys) (suc k) x h e = passes_at p ys k x (and_second (p y) (list_all p ys) h) e

module _ {X : Type 0} (p : X → Bool) (xs ys : List X) where
  all_first : list_all p (xs ++ ys) ≡ true → list_all p xs ≡ true
  all_first h = and_first (list_all p xs) (list_all p ys) (sym (list_all-append p xs ys) ∙ h)

  all_second : list_all p (xs ++ ys) ≡ true → list_all p ys ≡ true
  all_second h = and_second (list_all p xs) (list_all p ys) (sym (list_all-append p xs ys) ∙ h)

  all_both : list_all p xs ≡ true → list_all p ys ≡ true → list_all p (xs ++ ys) ≡ true
  all_both h k = list_all-append p xs ys ∙ and_from (list_all p xs) (list_all p ys) h k

abbrev are_small : List ℕ → Type 0
are_small ks = list_all is_small_offset ks ≡ true

small_access : (how : Access) → are_small (offset_by how) → is_small_access how ≡ true
small_access access.Direct h = refl
small_access access.Get h = refl
small_access access.Hold h = refl
small_access (access.Offset k) h = and_first (is_small_offset k) true h

-- expressions of a specification of few streams
module _ (s w : ℕ) (few : s ≤ 1024) where
  below : (n : ℕ) → n < s → nat_lt n 1024 ≡ true
  below n lt = lt-ltb n 1024 (omega arith)

  readable_both : (a b : Expr) → (are_small (listed offset_in a) → is_readable a ≡ true) → (are_small (listed offset_in b) → is_readable b ≡ true)
      → are_small (listed offset_in a ++ listed offset_in b) → (is_readable a && is_readable b) ≡ true
  readable_both a b f g h =
      and_from (is_readable a) (is_readable b)
      (f (all_first is_small_offset (listed offset_in a) (listed offset_in b) h))
      (g (all_second is_small_offset (listed offset_in a) (listed offset_in b) h))

  mutual
    readable : (e : Expr) → IsInRange s w e → are_small (listed offset_in e) → is_readable e ≡ true
    readable (Literal place v) r h = refl
    readable (Parameter place i) r h = refl
    readable (Read place n how args) r h =
        and_from (nat_lt n 1024 && is_small_access how) (are_readable args)
        (and_from (nat_lt n 1024) (is_small_access how) (below n r.0) (small_access how (all_first is_small_offset (offset_by how) (listed_all offset_in args) h)))
        (readable_all args r.1 (all_second is_small_offset (offset_by how) (listed_all offset_in args) h))
    readable (Window place n args) r h = readable_all args r.1 h
    readable (Defaults' place u a v b) r h = readable_both a b (λ k. readable a r.0 k) (λ k. readable b r.1 k) h
    readable (Unary' place operator u a) r h = readable a r h
    readable (Both' place operator u a v b) r h = readable_both a b (λ k. readable a r.0 k) (λ k. readable b r.1 k) h
    readable (Choice' place u a v b x d) r h =
        and_from (is_readable a) (is_readable b && is_readable d)
        (readable a r.0 (all_first is_small_offset (listed offset_in a) (listed offset_in b ++ listed offset_in d) h))
        (readable_both b d (λ k. readable b r.1 k) (λ k. readable d r.2 k) (all_second is_small_offset (listed offset_in a) (listed offset_in b ++ listed offset_in d) h))

    readable_all : (args : Arguments) → AreInRange s w args → are_small (listed_all offset_in args) → are_readable args ≡ true
    readable_all End r h = refl
    readable_all (More' u a v rest) r h =
        and_from (is_readable a) (are_readable rest)
        (readable a r.0 (all_first is_small_offset (listed offset_in a) (listed_all offset_in rest) h))
        (readable_all rest r.1 (all_second is_small_offset (listed offset_in a) (listed_all offset_in rest) h))

  readable_when : (x : Option Expr) → IsWhenInRange s w x → are_small (listed_when offset_in x) → is_readable_when x ≡ true
  readable_when None r h = refl
  readable_when (Some e) r h = readable e r h

  readable_with : (es : List Expr) → IsWithInRange s w es → are_small (listed_with offset_in es) → list_all is_readable es ≡ true
  readable_with [] r h = refl
  readable_with (e ∷ es) r h =
      and_from (is_readable e) (list_all is_readable es)
      (readable e r.0 (all_first is_small_offset (listed offset_in e) (listed_with offset_in es) h))
      (readable_with es r.1 (all_second is_small_offset (listed offset_in e) (listed_with offset_in es) h))

  readable_clause : (c : Option Clause) → IsClauseInRange s w c → are_small (listed_clause offset_in c) → is_readable_clause c ≡ true
  readable_clause None r h = refl
  readable_clause (Some c) r h =
      and_from (is_readable_when c.when) (list_all is_readable c.with)
      (readable_when c.when r.0 (all_first is_small_offset (listed_when offset_in c.when) (listed_with offset_in c.with) h))
      (readable_with c.with r.1 (all_second is_small_offset (listed_when offset_in c.when) (listed_with offset_in c.with) h))

  readable_stream : (x : Stream) → IsClauseInRange s w x.spawn → IsClauseInRange s w x.eval → are_small (listed_stream offset_in x) → is_readable_stream x ≡ true
  readable_stream x r q h =
      let rest = all_second is_small_offset (listed_clause offset_in x.spawn) (listed_clause offset_in x.eval ++ listed_clause offset_in x.close) h in
      and_from (is_readable_clause x.spawn) (is_readable_clause x.eval)
      (readable_clause x.spawn r (all_first is_small_offset (listed_clause offset_in x.spawn) (listed_clause offset_in x.eval ++ listed_clause offset_in x.close) h))
      (readable_clause x.eval q (all_first is_small_offset (listed_clause offset_in x.eval) (listed_clause offset_in x.close) rest))

  readable_streams : (xs : List Stream) → AreClausesInRange s w xs → are_small (listed_streams offset_in xs) → list_all is_readable_stream xs ≡ true
  readable_streams [] r h = refl
  readable_streams (x ∷ xs) r h =
      and_from (is_readable_stream x) (list_all is_readable_stream xs)
      (readable_stream x r.0 r.1 (all_first is_small_offset (listed_stream offset_in x) (listed_streams offset_in xs) h))
      (readable_streams xs r.3 (all_second is_small_offset (listed_stream offset_in x) (listed_streams offset_in xs) h))

  readable_windows : (ws : List WindowSpec) → AreTargetsInRange s w ws → list_all is_readable_window ws ≡ true
  readable_windows [] r = refl
  readable_windows (x ∷ xs) r = and_from (is_readable_window x) (list_all is_readable_window xs) (below x.target r.0) (readable_windows xs r.1)

-- all streams of a specification
pub spec_readable : (spec : Spec) → IsSpecInRange spec → length spec.streams ≤ 1024 → HasSmallOffsets spec → list_all is_readable_stream spec.streams ≡ true
spec_readable spec r few h = readable_streams (length spec.streams) (length spec.windows) few spec.streams r.clauses h

-- all windows of a specification
pub spec_windows : (spec : Spec) → IsSpecInRange spec → length spec.streams ≤ 1024 → list_all is_readable_window spec.windows ≡ true
spec_windows spec r few = readable_windows (length spec.streams) (length spec.windows) few spec.windows r.targets

abbrev IsSmall : List Edge → Type 0
IsSmall edges = is_small_graph edges ≡ true

small_both : (xs ys : List Edge) → IsSmall xs → IsSmall ys → IsSmall (xs ++ ys)
small_both xs ys h k = all_both is_small_edge xs ys h k

small_weight : (how : Access) → is_small_access how ≡ true → is_small_weight (weight_of how) ≡ true
small_weight access.Direct h = refl
small_weight access.Get h = refl
small_weight access.Hold h = refl
small_weight (access.Offset zero) h = refl
small_weight (access.Offset (suc k)) h = h

-- the reads of one node
module _ (ws : List WindowSpec) (targets : list_all is_readable_window ws ≡ true) (from : ℕ) (low : from < 2048) where
  small_edge : (n : ℕ) (w : ℤ) → nat_lt n 1024 ≡ true → is_small_weight w ≡ true → IsSmall (edge_to from n w ∷ [])
  small_edge n w h k =
      let lt : n < 1024 = ltb-true n 1024 h in
      and_from (is_small_edge (edge_to from n w)) true
      (and_from (nat_lt from 2048 && nat_lt (eval_node n) 2048) (is_small_weight w)
      (and_from (nat_lt from 2048) (nat_lt (eval_node n) 2048) (lt-ltb from 2048 low) (lt-ltb (eval_node n) 2048 (omega arith))) k)
      refl

  small_window : (n : ℕ) (x : Option WindowSpec) → slice_get ws n ≡ x → IsSmall (window_edge from x)
  small_window n None e = refl
  small_window n (Some w) e = small_edge w.target (pos 0) (passes_at is_readable_window ws n w targets e) refl

  small_two : (a b : Expr) → (is_readable a ≡ true → IsSmall (reads ws from a)) → (is_readable b ≡ true → IsSmall (reads ws from b))
      → (is_readable a && is_readable b) ≡ true → IsSmall (reads ws from a ++ reads ws from b)
  small_two a b f g h = small_both (reads ws from a) (reads ws from b) (f (and_first (is_readable a) (is_readable b) h)) (g (and_second (is_readable a) (is_readable b) h))

  mutual
    small_reads : (e : Expr) → is_readable e ≡ true → IsSmall (reads ws from e)
    small_reads (Literal place v) h = refl
    small_reads (Parameter place i) h = refl
    small_reads (Read place n how args) h =
        let both = and_first (nat_lt n 1024 && is_small_access how) (are_readable args) h in
        small_both (edge_to from n (weight_of how) ∷ []) (reads_all ws from args)
        (small_edge n (weight_of how) (and_first (nat_lt n 1024) (is_small_access how) both) (small_weight how (and_second (nat_lt n 1024) (is_small_access how) both)))
        (small_all args (and_second (nat_lt n 1024 && is_small_access how) (are_readable args) h))
    small_reads (Window place w args) h = small_both (window_edge from (slice_get ws w)) (reads_all ws from args) (small_window w (slice_get ws w) refl) (small_all args h)
    small_reads (Defaults' place u a v b) h = small_two a b (λ k. small_reads a k) (λ k. small_reads b k) h
    small_reads (Unary' place operator u a) h = small_reads a h
    small_reads (Both' place operator u a v b) h = small_two a b (λ k. small_reads a k) (λ k. small_reads b k) h
    small_reads (Choice' place u a v b x d) h =
        small_both (reads ws from a) (reads ws from b ++ reads ws from d)
        (small_reads a (and_first (is_readable a) (is_readable b && is_readable d) h))
        (small_two b d (λ k. small_reads b k) (λ k. small_reads d k) (and_second (is_readable a) (is_readable b && is_readable d) h))

    small_all : (args : Arguments) → are_readable args ≡ true → IsSmall (reads_all ws from args)
    small_all End h = refl
    small_all (More' u a v rest) h = small_both (reads ws from a) (reads_all ws from rest) (small_reads a (and_first (is_readable a) (are_readable rest) h)) (small_all rest (and_second (is_readable a) (are_readable rest) h))

  small_when : (x : Option Expr) → is_readable_when x ≡ true → IsSmall (when_reads ws from x)
  small_when None h = refl
  small_when (Some e) h = small_reads e h

  small_with : (es : List Expr) → list_all is_readable es ≡ true → IsSmall (with_reads ws from es)
  small_with [] h = refl
  small_with (e ∷ es) h = small_both (reads ws from e) (with_reads ws from es) (small_reads e (and_first (is_readable e) (list_all is_readable es) h)) (small_with es (and_second (is_readable e) (list_all is_readable es) h))

  small_clause : (c : Option Clause) → is_readable_clause c ≡ true → IsSmall (clause_reads ws from c)
  small_clause None h = refl
  small_clause (Some c) h =
      small_both (when_reads ws from c.when) (with_reads ws from c.with)
      (small_when c.when (and_first (is_readable_when c.when) (list_all is_readable c.with) h))
      (small_with c.with (and_second (is_readable_when c.when) (list_all is_readable c.with) h))

small_spawn : (n : ℕ) (c : Option Clause) → n < 1024 → IsSmall (to_spawn n c)
small_spawn n None lt = refl
small_spawn n (Some c) lt =
    and_from (is_small_edge (record { from = eval_node n; to = spawn_node n; weight = pos 0 })) true
    (and_from (nat_lt (eval_node n) 2048 && nat_lt (spawn_node n) 2048) true
    (and_from (nat_lt (eval_node n) 2048) (nat_lt (spawn_node n) 2048) (lt-ltb (eval_node n) 2048 (omega arith)) (lt-ltb (spawn_node n) 2048 (omega arith))) refl)
    refl

small_from : (ws : List WindowSpec) → list_all is_readable_window ws ≡ true → (n : ℕ) (xs : List Stream) → n + length xs ≤ 1024 → list_all is_readable_stream xs ≡ true → IsSmall (edges_from ws n xs)
small_from ws t n [] le h = refl
small_from ws t n (x ∷ xs) le h =
    let own = and_first (is_readable_stream x) (list_all is_readable_stream xs) h in
    small_both (to_spawn n x.spawn) _ (small_spawn n x.spawn (omega arith))
    (small_both (clause_reads ws (spawn_node n) x.spawn) _ (small_clause ws t (spawn_node n) (omega arith) x.spawn (and_first (is_readable_clause x.spawn) (is_readable_clause x.eval) own))
    (small_both (clause_reads ws (eval_node n) x.eval) _ (small_clause ws t (eval_node n) (omega arith) x.eval (and_second (is_readable_clause x.spawn) (is_readable_clause x.eval) own))
    (small_from ws t (n + 1) xs (omega arith) (and_second (is_readable_stream x) (list_all is_readable_stream xs) h))))

-- the graph of a specification is small
pub graph_small : (spec : Spec) → IsSpecInRange spec → length spec.streams ≤ 1024 → HasSmallOffsets spec → is_small_graph (edges_of spec) ≡ true
graph_small spec r few h = small_from spec.windows (spec_windows spec r few) 0 spec.streams (omega (arith, few)) (spec_readable spec r few h)
