-- What is true of a new store.
use Rattle.std.proofs.Common.{◌≡◌, ℕ, zero, suc, ◌+◌, ◌<◌, List, [], ◌∷◌, ◌++◌, length, map, drop, take, refl, ap, sym, ◌∙◌, subst, arith, Some, slice_get, true, false, if◌then◌else◌, IsTrue, get_or, drop-cons, drop-drop, add-one, nat_eq, eq-eqb}
use Rattle.std.specs.Prelude.{unwrap_or}
use Rattle.std.proofs.lemmas.Bool.{eqb-true}
use Rattle.lola_value.specs.Naming.{Naming}
use Rattle.lola_value.specs.declared.value.Kind.{Kind}
use Rattle.lola_model.specs.Store.{opened}
use Rattle.lola_model.specs.Typing.{takes}
use Rattle.lola_model.specs.declared.plan.PaneSize.{PaneSize}
use Rattle.lola_model.specs.declared.spec.WindowSpec.{WindowSpec}
use Rattle.lola_instances_one.specs.Unborn.{AllOnto, AllSound}
use Rattle.lola_instances_stream.specs.Crowds.{Crowd, crowd_seen, RemembersAt}
use Rattle.lola_instances.specs.Opening.{ArePlaces, IsCut, IsOpened, count_onto, first_size, one_onto, onto, panes_for}
use Rattle.lola_instances.specs.Placed.{IsPaneOf, ArePlaced}
use Rattle.lola_instances.specs.Streams.{crowd_layout, slots_in, slot_at}

-- the first of what is left is the one at the place

get_dropped : {X : Type 0} (xs : List X) (i : ℕ) → slice_get (drop i xs) 0 ≡ slice_get xs i
get_dropped [] zero = refl
get_dropped [] (suc i) = refl
get_dropped (x ∷ xs) zero = refl
get_dropped (x ∷ xs) (suc i) = get_dropped xs i

-- one more window

windows_cut : (ws : List WindowSpec) (i : ℕ) (w : WindowSpec) → i < length ws → w ≡ get_or ws i w → drop i ws ≡ w ∷ drop (i + 1) ws
windows_cut ws i w l e = drop-cons ws i w l ∙ (λ j. sym e j ∷ drop (sym (add-one i) j) ws)

pub onto_more : (n : ℕ) (kind : Kind) (ws : List WindowSpec) (ps : List PaneSize) (i : ℕ) (w : WindowSpec) (p : PaneSize) → i < length ws → w ≡ get_or ws i w → slice_get ps i ≡ Some p
    → onto n kind (drop i ws) (drop i ps) ≡ one_onto n kind w p ++ onto n kind (drop (i + 1) ws) (drop (i + 1) ps)
onto_more n kind ws ps i w p l e f =
    let first : first_size (drop i ps) ≡ p = ap (λ o. unwrap_or o (record { pane = 1; count = 1 })) (get_dropped ps i ∙ f) in
    ap (λ xs. onto n kind xs (drop i ps)) (windows_cut ws i w l e)
    ∙ (λ j. one_onto n kind w (first j) ++ onto n kind (drop (i + 1) ws) (drop-drop 1 i ps j))

pub count_more : (n : ℕ) (ws : List WindowSpec) (i : ℕ) (w : WindowSpec) → i < length ws → w ≡ get_or ws i w → count_onto n (drop i ws) ≡ (if nat_eq w.target n then 1 else 0) + count_onto n (drop (i + 1) ws)
count_more n ws i w l e = ap (count_onto n) (windows_cut ws i w l e)

-- the panes of windows onto a stream are sound, and onto values of its kind

pub onto_kind : (n : ℕ) (kind : Kind) (ws : List WindowSpec) (ps : List PaneSize) → AllOnto kind (onto n kind ws ps)
onto_kind n kind [] ps = tt
onto_kind n kind (w ∷ ws) ps =
    elim (nat_eq w.target n) as (λ b. AllOnto kind ((if b then panes_for kind w (first_size ps) ∷ [] else []) ++ onto n kind ws (drop 1 ps))) [
      | true ↦ (refl, onto_kind n kind ws (drop 1 ps))
      | false ↦ onto_kind n kind ws (drop 1 ps)
    ]

pub onto_sound : (n : ℕ) (kind : Kind) (ws : List WindowSpec) (ps : List PaneSize) → length ps ≡ length ws
    → ((i : ℕ) (w : WindowSpec) → slice_get ws i ≡ Some w → w.target ≡ n → IsTrue (takes w.using kind))
    → ((i : ℕ) (w : WindowSpec) (p : PaneSize) → slice_get ws i ≡ Some w → slice_get ps i ≡ Some p → IsCut w p)
    → AllSound (onto n kind ws ps)
onto_sound n kind [] ps l t c = tt
onto_sound n kind (w ∷ ws) [] l t c = absurd (omega arith)
onto_sound n kind (w ∷ ws) (p ∷ ps) l t c =
    let rest = onto_sound n kind ws ps (omega arith) (λ i w e. t (suc i) w e) (λ i w p e f. c (suc i) w p e f) in
    (elim (nat_eq w.target n) as (λ b. nat_eq w.target n ≡ b → AllSound ((if b then panes_for kind w p ∷ [] else []) ++ onto n kind ws ps)) [
      | true ↦ λ q.
          let k = c 0 w p refl refl in
          (record { pane = k.pane; count = k.count; kind = t 0 w refl (eqb-true w.target n q) }, rest)
      | false ↦ λ q. rest
    ]) refl

-- where the panes of a window are

pub onto_at : (kind : Kind) (ws : List WindowSpec) (ps : List PaneSize) (i : ℕ) (w : WindowSpec) (p : PaneSize) → slice_get ws i ≡ Some w → slice_get ps i ≡ Some p
    → slice_get (onto w.target kind ws ps) (count_onto w.target (take i ws)) ≡ Some (panes_for kind w p)
onto_at kind [] ps zero w p e f = absurd (cc)
onto_at kind [] ps (suc i) w p e f = absurd (cc)
onto_at kind (x ∷ ws) [] zero w p e f = absurd (cc)
onto_at kind (x ∷ ws) [] (suc i) w p e f = absurd (cc)
onto_at kind (x ∷ ws) (y ∷ ps) zero w p e f =
    let a : x ≡ w = cc in
    let b : y ≡ p = cc in
    ap (λ t. slice_get ((if t then panes_for kind x y ∷ [] else []) ++ onto w.target kind ws ps) 0) (eq-eqb x.target w.target (ap (λ (z : WindowSpec). z.target) a))
    ∙ (λ j. Some (panes_for kind (a j) (b j)))
onto_at kind (x ∷ ws) (y ∷ ps) (suc i) w p e f =
    let r = onto_at kind ws ps i w p e f in
    elim (nat_eq x.target w.target) as (λ b. slice_get ((if b then panes_for kind x y ∷ [] else []) ++ onto w.target kind ws ps) ((if b then 1 else 0) + count_onto w.target (take i ws)) ≡ Some (panes_for kind w p)) [
      | true ↦ (let n : 1 + count_onto w.target (take i ws) ≡ suc (count_onto w.target (take i ws)) = omega arith in
          ap (slice_get (panes_for kind x y ∷ onto w.target kind ws ps)) n ∙ r)
      | false ↦ (let n : 0 + count_onto w.target (take i ws) ≡ count_onto w.target (take i ws) = omega arith in ap (slice_get (onto w.target kind ws ps)) n ∙ r)
    ]

some_same : {X : Type 0} {x y : X} → Some x ≡ Some y → x ≡ y
some_same q = cc

get_below : {X : Type 0} (xs : List X) (i : ℕ) (x : X) → slice_get xs i ≡ Some x → i < length xs
get_below [] zero x e = absurd (cc)
get_below [] (suc i) x e = absurd (cc)
get_below (y ∷ xs) zero x e = omega arith
get_below (y ∷ xs) (suc i) x e = let k = get_below xs i x e in omega arith

-- each window has its place
pub opened_placed : (ws : List WindowSpec) (ps : List PaneSize) (places : List ℕ) (cs : List Crowd) → length ps ≡ length ws
    → ((i : ℕ) (w : WindowSpec) (p : PaneSize) → slice_get ws i ≡ Some w → slice_get ps i ≡ Some p → IsCut w p) → ArePlaces ws places
    → ((n : ℕ) (c : Crowd) → slice_get cs n ≡ Some c → IsOpened ws ps n c) → ArePlaced ws ps places cs
opened_placed ws ps places cs l cut at made =
    record {
      size_count = l;
      place_count = at.count;
      each = λ i w p k c e f g h.
          let n : count_onto w.target (take i ws) ≡ k = some_same (sym (at.each i w e) ∙ g) in
          let o = made w.target c h in
          let is : slice_get c.windows k ≡ Some (panes_for c.layout.kind w p) = (λ j. slice_get (o.windows j) (sym n j)) ∙ onto_at c.layout.kind ws ps i w p e f in
          let q = cut i w p e f in
          record {
            below = get_below c.windows k (panes_for c.layout.kind w p) is;
            is = λ z at. subst (IsPaneOf c.layout.kind w p) (some_same (sym is ∙ at)) (record { aggregation = refl; kind_is = refl; pane = refl; count = refl; over = q.over; exact = refl });
          };
    }

-- all streams of a new store

pub all_opened : (ws : List WindowSpec) (ps : List PaneSize) (cs : List Crowd) → ((i : ℕ) (c : Crowd) → slice_get cs i ≡ Some c → (k : ℕ) × IsOpened ws ps k c) → map (crowd_seen 1) cs ≡ map opened (map crowd_layout cs)
all_opened ws ps [] h = refl
all_opened ws ps (c ∷ cs) h =
    let e = (h 0 c refl).1.seen in
    let r = all_opened ws ps cs (λ i x q. h (suc i) x q) in
    λ i. e i ∷ r i

pub opened_more : (P : ℕ → Crowd → Type 0) (xs : List Crowd) (y : Crowd) → ((n : ℕ) (c : Crowd) → slice_get xs n ≡ Some c → P n c) → P (length xs) y → (n : ℕ) (c : Crowd) → slice_get (xs ++ y ∷ []) n ≡ Some c → P n c
opened_more P [] y h p zero c e = let q : y ≡ c = cc in subst (P 0) q p
opened_more P [] y h p (suc n) c e = absurd (cc)
opened_more P (x ∷ xs) y h p zero c e = h zero c e
opened_more P (x ∷ xs) y h p (suc n) c e = opened_more (λ m. P (suc m)) xs y (λ m c e. h (suc m) c e) p n c e

pub blank_at : (ws : List WindowSpec) (ps : List PaneSize) (names : Naming) (cs : List Crowd) (n i : ℕ) → ((m : ℕ) (c : Crowd) → slice_get cs m ≡ Some c → (k : ℕ) × IsOpened ws ps k c) → i < length (slots_in (slice_get cs n))
    → RemembersAt 0 0 1 names (slot_at cs n i) []
blank_at ws ps names [] zero i h l = absurd (omega arith)
blank_at ws ps names [] (suc n) i h l = absurd (omega arith)
blank_at ws ps names (c ∷ cs) zero i h l = (h 0 c refl).1.past 0 0 names i l
blank_at ws ps names (c ∷ cs) (suc n) i h l = blank_at ws ps names cs n i (λ j y q. h (suc j) y q) l
