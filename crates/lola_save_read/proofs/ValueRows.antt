-- Values of a line are read one by one.
use Rattle.std.proofs.Common.{◌≡◌, ◌≢◌, ℕ, ◌+◌, ◌≤◌, ◌<◌, List, [], ◌∷◌, ◌++◌, true, refl, sym, ap, subst, ◌∙◌, arith, append_assoc, append-nil, length, take, drop, get_or}
use Rattle.std.specs.List.{list_all}
use Rattle.std.proofs.lemmas.Bool.{and_from, and_parts}
use Rattle.std.proofs.lemmas.List.{length-append, take_all}
use Rattle.std.proofs.lemmas.List.Folds.{list_all-append}
use Rattle.std.proofs.lemmas.Grind.{flat_map-append}
use Rattle.lola_value.specs.declared.text.Field.{Field}
use Rattle.lola_value.specs.declared.value.Kind.{Kind}
use Rattle.lola_model.specs.Texts.{value_text}
use Rattle.lola_save_text.specs.Fitting.{are_values, is_value}
use Rattle.lola_save_text.specs.Lines.{values_text, word}
use Rattle.lola_save_text.proofs.Values.{value-cut}
use Rattle.lola_save_read.specs.Words.{AreValuesOf, IsNextValue, IsWordEnd}
use Rattle.lola_save_read.proofs.Items.{item-split, item-take}
use Rattle.lola_save_read.proofs.WordCuts.{end-mild, values-end}

-- behind values, which are a word each, a space stands or nothing
row-end : (vs : List Field) (left : List ℕ) → IsWordEnd left → IsWordEnd (values_text vs ++ left)
row-end [] left e = e
row-end (v ∷ vs) left e = refl

pub one-more : (bytes left rest : List ℕ) (vs : List Field) (v : Field) → bytes ≡ values_text vs ++ left → left ≡ 32 ∷ (value_text v ++ rest) → bytes ≡ values_text (vs ++ v ∷ []) ++ rest
one-more bytes left rest vs v e f =
    e ∙ ap (λ (t : List ℕ). values_text vs ++ t) f ∙ sym (append_assoc (values_text vs) (32 ∷ value_text v) rest)
    ∙ ap (λ (t : List ℕ). (values_text vs ++ t) ++ rest) (sym (append-nil (32 ∷ value_text v))) ∙ ap (λ (t : List ℕ). t ++ rest) (sym (flat_map-append (λ x. word (value_text x)) vs (v ∷ [])))

-- one value of two rows that are the same
module _ (k : Kind) (v w : Field) (a : is_value k v ≡ true) (b : is_value k w ≡ true) where
  same-first : (vs ws : List Field) (left : List ℕ) → IsWordEnd left → values_text (v ∷ vs) ++ left ≡ values_text (w ∷ ws) → (v ≡ w) × (values_text vs ++ left ≡ values_text ws)
  same-first vs ws left end e =
      let f : 32 ∷ (value_text v ++ (values_text vs ++ left)) ≡ 32 ∷ (value_text w ++ values_text ws) =
      ap (λ (t : List ℕ). 32 ∷ t) (sym (append_assoc (value_text v) (values_text vs) left)) ∙ e in
      let g : value_text v ++ (values_text vs ++ left) ≡ value_text w ++ values_text ws = cc f in
      value-cut k (values_text vs ++ left) (values_text ws) (end-mild (values_text vs ++ left) (row-end vs left end)) (end-mild (values_text ws) (values-end ws)) v w a b g

-- values of one kind that a line tells begin with those that were read
pub ring-goes : (k : Kind) (vs ws : List Field) (left : List ℕ) → list_all (is_value k) vs ≡ true → list_all (is_value k) ws ≡ true → IsWordEnd left → values_text vs ++ left ≡ values_text ws
    → (more : List Field) × (ws ≡ vs ++ more) × (left ≡ values_text more)
ring-goes k [] ws left a b end e = (ws, refl, e)
ring-goes k (v ∷ vs) [] left a b end e = absurd (cc e)
ring-goes k (v ∷ vs) (w ∷ ws) left a b end e =
    let p = and_parts (is_value k v) (list_all (is_value k) vs) a in
    let q = and_parts (is_value k w) (list_all (is_value k) ws) b in
    let c = same-first k v w p.0 q.0 vs ws left end e in
    let r = ring-goes k vs ws left p.1 q.1 end c.1 in
    let h : w ≡ v = sym c.0 in
    let g = r.1 in
    (r.0, (λ i. h i ∷ g i), r.2)

-- what was read so far of a row of values of one kind
pub record IsRingSoFar (k : Kind) (turn : ℕ) (bytes : List ℕ) (vs : List Field) (left : List ℕ) : Type 0 where
  pub fit : list_all (is_value k) vs ≡ true
  pub many : length vs ≡ turn
  pub whole : bytes ≡ values_text vs ++ left
  pub ends : IsWordEnd left

pub no-ring-yet : (k : Kind) (bytes : List ℕ) → IsWordEnd bytes → IsRingSoFar k 0 bytes [] bytes
no-ring-yet k bytes end = record { fit = refl; many = refl; whole = refl; ends = end }

pub ring-more : (k : Kind) (turn : ℕ) (bytes : List ℕ) (vs : List Field) (left : List ℕ) (v : Field) (rest : List ℕ) → IsRingSoFar k turn bytes vs left → IsNextValue k left v rest
    → IsRingSoFar k (turn + 1) bytes (vs ++ v ∷ []) rest
ring-more k turn bytes vs left v rest s n =
    record {
      fit = list_all-append (is_value k) vs (v ∷ []) ∙ and_from (list_all (is_value k) vs) (list_all (is_value k) (v ∷ [])) s.fit (and_from (is_value k v) true n.fits refl);
      many = (let l = length-append vs (v ∷ []) in let m = s.many in omega (arith, l, m));
      whole = one-more bytes left rest vs v s.whole n.whole;
      ends = n.ends;
    }

pub ring-whole : (k : Kind) (most turn : ℕ) (bytes : List ℕ) (vs : List Field) (left : List ℕ) → IsRingSoFar k turn bytes vs left → turn ≤ most → left ≡ [] → AreValuesOf k most vs × (bytes ≡ values_text vs)
ring-whole k most turn bytes vs left s l e =
    (record { fit = s.fit; few = (let m = s.many in omega (arith, m, l)) }, s.whole ∙ ap (λ (t : List ℕ). values_text vs ++ t) e ∙ append-nil (values_text vs))

-- no row goes on where the next value does not
pub ring-stops : (k : Kind) (most turn : ℕ) (bytes : List ℕ) (vs : List Field) (left : List ℕ) → IsRingSoFar k turn bytes vs left → (left ≡ [] → ⊥) → ((v : Field) (rest : List ℕ) → IsNextValue k left v rest → ⊥)
    → (ws : List Field) → AreValuesOf k most ws → bytes ≢ values_text ws
ring-stops k most turn bytes vs left s some never ws a e = by c.0 c.1 c.2
  where
    c : (more : List Field) × (ws ≡ vs ++ more) × (left ≡ values_text more)
    c = ring-goes k vs ws left s.fit a.fit s.ends (sym s.whole ∙ e)

    by : (more : List Field) → ws ≡ vs ++ more → left ≡ values_text more → ⊥
    by [] f g = some g
    by (m ∷ more) f g =
        let all = and_parts (list_all (is_value k) vs) (list_all (is_value k) (m ∷ more)) (sym (list_all-append (is_value k) vs (m ∷ more)) ∙ sym (ap (list_all (is_value k)) f) ∙ a.fit) in
        never m (values_text more) (record { fits = (and_parts (is_value k m) (list_all (is_value k) more) all.1).0; ends = values-end more; whole = g })

-- nor behind as many as may stand there
pub ring-full : (k : Kind) (most turn : ℕ) (bytes : List ℕ) (vs : List Field) (left : List ℕ) → IsRingSoFar k turn bytes vs left → turn ≡ most → (left ≡ [] → ⊥) → (ws : List Field) → AreValuesOf k most ws → bytes ≢ values_text ws
ring-full k most turn bytes vs left s t some ws a e = by c.0 c.1 c.2
  where
    c : (more : List Field) × (ws ≡ vs ++ more) × (left ≡ values_text more)
    c = ring-goes k vs ws left s.fit a.fit s.ends (sym s.whole ∙ e)

    by : (more : List Field) → ws ≡ vs ++ more → left ≡ values_text more → ⊥
    by [] f g = some g
    by (m ∷ more) f g = let n = ap length f in let l = length-append vs (m ∷ more) in let y = s.many in let z = a.few in omega (arith, n, l, y, z, t)

-- values of kinds, one for each

both-values : (ks js : List Kind) (vs ws : List Field) → are_values ks vs ≡ true → are_values js ws ≡ true → are_values (ks ++ js) (vs ++ ws) ≡ true
both-values [] js [] ws a b = b
both-values [] js (v ∷ vs) ws a b = absurd (cc)
both-values (k ∷ ks) js [] ws a b = absurd (cc)
both-values (k ∷ ks) js (v ∷ vs) ws a b =
    let p = and_parts (is_value k v) (are_values ks vs) a in
    and_from (is_value k v) (are_values (ks ++ js) (vs ++ ws)) p.0 (both-values ks js vs ws p.1 b)

kinds-go : (ks js : List Kind) (vs ws : List Field) (left : List ℕ) → are_values ks vs ≡ true → are_values (ks ++ js) ws ≡ true → IsWordEnd left → values_text vs ++ left ≡ values_text ws
    → (more : List Field) × (ws ≡ vs ++ more) × (left ≡ values_text more) × (are_values js more ≡ true)
kinds-go [] js [] ws left a b end e = (ws, refl, e, b)
kinds-go [] js (v ∷ vs) ws left a b end e = absurd (cc)
kinds-go (k ∷ ks) js [] ws left a b end e = absurd (cc)
kinds-go (k ∷ ks) js (v ∷ vs) [] left a b end e = absurd (cc)
kinds-go (k ∷ ks) js (v ∷ vs) (w ∷ ws) left a b end e =
    let p = and_parts (is_value k v) (are_values ks vs) a in
    let q = and_parts (is_value k w) (are_values (ks ++ js) ws) b in
    let c = same-first k v w p.0 q.0 vs ws left end e in
    let r = kinds-go ks js vs ws left p.1 q.1 end c.1 in
    let h : w ≡ v = sym c.0 in
    let g = r.1 in
    (r.0, (λ i. h i ∷ g i), r.2, r.3)

-- what was read so far, for the first of the kinds
pub record AreValuesSoFar (ks : List Kind) (bytes : List ℕ) (vs : List Field) (left : List ℕ) : Type 0 where
  pub fit : are_values ks vs ≡ true
  pub whole : bytes ≡ values_text vs ++ left
  pub ends : IsWordEnd left

pub no-values-yet : (bytes : List ℕ) → IsWordEnd bytes → AreValuesSoFar [] bytes [] bytes
no-values-yet bytes end = record { fit = refl; whole = refl; ends = end }

pub values-more : (ks : List Kind) (k : Kind) (bytes : List ℕ) (vs : List Field) (left : List ℕ) (v : Field) (rest : List ℕ) → AreValuesSoFar ks bytes vs left → IsNextValue k left v rest
    → AreValuesSoFar (ks ++ k ∷ []) bytes (vs ++ v ∷ []) rest
values-more ks k bytes vs left v rest s n =
    record { fit = both-values ks (k ∷ []) vs (v ∷ []) s.fit (and_from (is_value k v) true n.fits refl); whole = one-more bytes left rest vs v s.whole n.whole; ends = n.ends }

pub values-whole : (ks : List Kind) (bytes : List ℕ) (vs : List Field) (left : List ℕ) → AreValuesSoFar ks bytes vs left → left ≡ [] → (are_values ks vs ≡ true) × (bytes ≡ values_text vs)
values-whole ks bytes vs left s e = (s.fit, s.whole ∙ ap (λ (t : List ℕ). values_text vs ++ t) e ∙ append-nil (values_text vs))

-- the next value is none of the next kind
pub values-stop-at : (all ks js : List Kind) (k : Kind) (bytes : List ℕ) (vs : List Field) (left : List ℕ) → all ≡ ks ++ k ∷ js → AreValuesSoFar ks bytes vs left → ((v : Field) (rest : List ℕ) → IsNextValue k left v rest → ⊥)
    → (ws : List Field) → are_values all ws ≡ true → bytes ≢ values_text ws
values-stop-at all ks js k bytes vs left split s never ws a e = by c.0 c.2 c.3
  where
    c : (more : List Field) × (ws ≡ vs ++ more) × (left ≡ values_text more) × (are_values (k ∷ js) more ≡ true)
    c = kinds-go ks (k ∷ js) vs ws left s.fit (sym (ap (λ (l : List Kind). are_values l ws) split) ∙ a) s.ends (sym s.whole ∙ e)

    by : (more : List Field) → left ≡ values_text more → are_values (k ∷ js) more ≡ true → ⊥
    by [] f g = absurd (cc)
    by (m ∷ more) f g = never m (values_text more) (record { fits = (and_parts (is_value k m) (are_values js more) g).0; ends = values-end more; whole = f })

-- something stands behind the values of all kinds
pub values-full : (ks : List Kind) (bytes : List ℕ) (vs : List Field) (left : List ℕ) → AreValuesSoFar ks bytes vs left → (left ≡ [] → ⊥) → (ws : List Field) → are_values ks ws ≡ true → bytes ≢ values_text ws
values-full ks bytes vs left s some ws a e = by c.0 c.2 c.3
  where
    c : (more : List Field) × (ws ≡ vs ++ more) × (left ≡ values_text more) × (are_values [] more ≡ true)
    c = kinds-go ks [] vs ws left s.fit (ap (λ (l : List Kind). are_values l ws) (append-nil ks) ∙ a) s.ends (sym s.whole ∙ e)

    by : (more : List Field) → left ≡ values_text more → are_values [] more ≡ true → ⊥
    by [] f g = some f
    by (m ∷ more) f g = absurd (cc)

-- at an index

pub values-next : (ks : List Kind) (i : ℕ) (k d : Kind) (bytes : List ℕ) (vs : List Field) (left : List ℕ) (v : Field) (rest : List ℕ) → i < length ks → k ≡ get_or ks i d → AreValuesSoFar (take i ks) bytes vs left
    → IsNextValue k left v rest → AreValuesSoFar (take (i + 1) ks) bytes (vs ++ v ∷ []) rest
values-next ks i k d bytes vs left v rest lt e s n =
    subst (λ (l : List Kind). AreValuesSoFar l bytes (vs ++ v ∷ []) rest) (sym (item-take ks i k d lt e)) (values-more (take i ks) k bytes vs left v rest s n)

pub values-stop-next : (ks : List Kind) (i : ℕ) (k d : Kind) (bytes : List ℕ) (vs : List Field) (left : List ℕ) → i < length ks → k ≡ get_or ks i d → AreValuesSoFar (take i ks) bytes vs left
    → ((v : Field) (rest : List ℕ) → IsNextValue k left v rest → ⊥) → (ws : List Field) → are_values ks ws ≡ true → bytes ≢ values_text ws
values-stop-next ks i k d bytes vs left lt e s never = values-stop-at ks (take i ks) (drop (i + 1) ks) k bytes vs left (item-split ks i k d lt e) s never

pub values-end-at : (ks : List Kind) (i : ℕ) (bytes : List ℕ) (vs : List Field) (left : List ℕ) → length ks ≤ i → AreValuesSoFar (take i ks) bytes vs left → AreValuesSoFar ks bytes vs left
values-end-at ks i bytes vs left l s = subst (λ (ls : List Kind). AreValuesSoFar ls bytes vs left) (take_all i ks l) s
