-- Which nodes are behind a stage, as the stage goes on.
use Rattle.std.proofs.Common.{◌≡◌, refl, ap, ◌∙◌, sym, ℕ, ◌+◌, ◌<◌, ◌≤◌, ◌⊎◌, inl, inr, Bool, true, false, ◌&&◌, ◌||◌, nat_eq, nat_lt, arith}
use Rattle.std.proofs.lemmas.Bool.{lt-ltb, le-ltb, eq-eqb, ne_eqb, cases_lt, cases_order}
use Rattle.lola_step_contents.specs.Stages.{is_behind}

-- other numbers stay where they are as a bound goes up by one
pub next_below : (m n : ℕ) → (m ≡ n → ⊥) → nat_lt m n ≡ nat_lt m (n + 1)
next_below m n d = go (cases_order m n)
  where
    go : (m ≡ n) ⊎ ((m < n) ⊎ (n < m)) → nat_lt m n ≡ nat_lt m (n + 1)
    go (inl e) = absurd (d e)
    go (inr (inl lt)) = lt-ltb m n lt ∙ sym (lt-ltb m (n + 1) (omega arith))
    go (inr (inr gt)) = le-ltb m n (omega arith) ∙ sym (le-ltb m (n + 1) (omega arith))

-- a node of another number
pub next_behind : (l m now n : ℕ) → (m ≡ n → ⊥) → is_behind l m now n ≡ is_behind l m now (n + 1)
next_behind l m now n d = ap (λ b. nat_lt l now || (nat_eq l now && b)) (next_below m n d)

-- a node of another layer
pub other_behind : (l m now a b : ℕ) → (l ≡ now → ⊥) → is_behind l m now a ≡ is_behind l m now b
other_behind l m now a b d = ap (λ e. nat_lt l now || (e && nat_lt m a)) (ne_eqb l now d) ∙ sym (ap (λ e. nat_lt l now || (e && nat_lt m b)) (ne_eqb l now d))

-- a node of a higher layer
pub higher_behind : (l m now below : ℕ) → now < l → is_behind l m now below ≡ false
higher_behind l m now below lt = rw (le-ltb l now (omega arith), ne_eqb l now (λ e. omega arith)) refl

-- a node of this layer
pub equal_behind : (l m now below : ℕ) (b : Bool) → l ≡ now → nat_lt m below ≡ b → is_behind l m now below ≡ b
equal_behind l m now below b e f = rw (le-ltb l now (omega arith), eq-eqb l now e) f

-- a node of this layer or a lower one
pub up_to_behind : (l m now below : ℕ) → l ≤ now → m < below → is_behind l m now below ≡ true
up_to_behind l m now below le lt = go (cases_lt l now)
  where
    go : (l < now) ⊎ (now ≤ l) → is_behind l m now below ≡ true
    go (inl a) = rw (lt-ltb l now a) refl
    go (inr a) = equal_behind l m now below true (omega arith) (lt-ltb m below lt)

-- once all numbers of a layer are done, so is the layer
pub layer_behind : (l m now below : ℕ) → m < below → is_behind l m now below ≡ is_behind l m (now + 1) 0
layer_behind l m now below lt = go (cases_lt now l)
  where
    go : (now < l) ⊎ (l ≤ now) → is_behind l m now below ≡ is_behind l m (now + 1) 0
    go (inl a) = higher_behind l m now below a ∙ sym (above (cases_order l (now + 1)))
      where
        above : (l ≡ now + 1) ⊎ ((l < now + 1) ⊎ (now + 1 < l)) → is_behind l m (now + 1) 0 ≡ false
        above (inl e) = equal_behind l m (now + 1) 0 false e (le-ltb m 0 (omega arith))
        above (inr (inl b)) = absurd (omega arith)
        above (inr (inr b)) = higher_behind l m (now + 1) 0 b
    go (inr a) = up_to_behind l m now below a lt ∙ sym (rw (lt-ltb l (now + 1) (omega arith)) refl)

-- a node of another layer, or none, is done with the next layer as with this one
pub same_behind : (l m now : ℕ) → (l ≡ now → ⊥) → is_behind l m now 0 ≡ is_behind l m (now + 1) 0
same_behind l m now d = other_behind l m now 0 (m + 1) d ∙ layer_behind l m now (m + 1) (omega arith)
