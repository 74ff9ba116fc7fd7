-- Where reading stops hangs on no token after that place.
use Rattle.std.proofs.Common.{◌≡◌, ℕ, zero, suc, ◌+◌, ◌-◌, ◌≤◌, ◌<◌, Bool, true, false, cond, not, List, [], ◌∷◌, ◌++◌, length, Some, None, Ok, Err, refl, sym, ap, subst, ◌∙◌, append_assoc, arith, inl, inr}
use Rattle.std.proofs.lemmas.List.{length-append, append_cancel_right}
use Rattle.std.proofs.lemmas.Bool.{and_parts, not-true}
use Rattle.lola_parser_grammar.specs.Syntax.{Lexeme, Terminal, fits, Syntax, Past, Token, Nesting, Whole, Known, Then, Map, Either, Maybe, Many, Fork, charged, either_rest, last_nesting, Spells, starts, first, nullable, more, apart, within, is_fine, Refusal, Unexpected, TooDeep, Outcome, Reader, ◌>>=◌, counted, take_token, max_nestings, repeated, read}
use Rattle.lola_parser_grammar.proofs.Laws.{chosen, done_is, sound}
use Rattle.lola_parser_grammar.proofs.Complete.{spells_nil, and_three, choice_parts, known_parts, fork_is}

-- how reading ended, where it was not too deep
pub data End (A : Type 0) : Type 0 where
  Read : A → ℕ → End A
  Stopped : End A

abbrev pub ended : {A : Type 0} → End A → List Lexeme → Outcome A
ended (Read x i) rest = Ok (x, i, rest)
ended Stopped rest = Err (Unexpected rest)

abbrev pub IsLocal : {A : Type 0} → Reader A → Type 0
IsLocal {A} r = (m : ℕ) (ts : List Lexeme) (e : End A) (t : Lexeme) (rest : List Lexeme) → r m ts ≡ ended e (t ∷ rest)
    → (u : List Lexeme) × (ts ≡ u ++ t ∷ rest) × ((other : List Lexeme) → r m (u ++ t ∷ other) ≡ ended e (t ∷ other))

ends_at : {A : Type 0} (x : A) (i : ℕ) (ts : List Lexeme) (e : End A) (rest : List Lexeme) → ended (Read x i) ts ≡ ended e rest → (ts ≡ rest) × ((other : List Lexeme) → ended (Read x i) other ≡ ended e other)
ends_at x i ts (Read y j) rest h = let q = done_is x y i j ts rest h in (q.2, λ other. rw (q.0, q.1) refl)
ends_at x i ts Stopped rest h = absurd cc

abbrev failed : {A : Type 0} → Refusal → Outcome A
failed d = Err d

abbrev pure : {A : Type 0} → A → Reader A
pure x i ts = Ok (x, i, ts)

pure_local : {A : Type 0} (x : A) → IsLocal (pure x)
pure_local x m ts e t rest h = let q = ends_at x m ts e (t ∷ rest) h in ([], q.0, λ other. q.1 (t ∷ other))

fail_moves : {A B : Type 0} (d : Refusal) (e : End B) (rest : List Lexeme) → failed {A = B} d ≡ ended e rest → (f : End A) × (failed {A = A} d ≡ ended f rest) × ((r : Outcome A) (g : A → Reader B) (other : List Lexeme) → r ≡ ended f other → (r >>= g) ≡ ended e other)
fail_moves d (Read x i) rest h = absurd cc
fail_moves d Stopped rest h = (Stopped, let q : d ≡ Unexpected rest = cc in ap (λ x. Err x) q, λ r g other i. rw i refl)

pub through : {A : Type 0} (r : Reader A) → IsLocal r → (m : ℕ) (ts : List Lexeme) (x : A) (i : ℕ) (v : List Lexeme) (t : Lexeme) (rest : List Lexeme) → r m ts ≡ Ok (x, i, v ++ t ∷ rest)
    → (u : List Lexeme) × (ts ≡ u ++ (v ++ t ∷ rest)) × ((other : List Lexeme) → r m (u ++ (v ++ t ∷ other)) ≡ Ok (x, i, v ++ t ∷ other))
through r loc m ts x i [] t rest h = loc m ts (Read x i) t rest h
through r loc m ts x i (s ∷ v) t rest h =
    let p = loc m ts (Read x i) s (v ++ t ∷ rest) h in
    (p.0, p.1, λ other. p.2 (v ++ t ∷ other))

abbrev pub bind : {A B : Type 0} → Reader A → (A → Reader B) → Reader B
bind r f m ts = r m ts >>= f

bind_cases : {A B : Type 0} (r : Reader A) (f : A → Reader B) → IsLocal r → ((x : A) → IsLocal (f x)) → (m : ℕ) (ts : List Lexeme) (o : Outcome A) → r m ts ≡ o → (e : End B) (t : Lexeme) (rest : List Lexeme) → (o >>= f) ≡ ended e (t ∷ rest)
    → (u : List Lexeme) × (ts ≡ u ++ t ∷ rest) × ((other : List Lexeme) → (r m (u ++ t ∷ other) >>= f) ≡ ended e (t ∷ other))
bind_cases r f loc next m ts (Err d) is e t rest h =
    let p = fail_moves d e (t ∷ rest) h in
    let q = loc m ts p.0 t rest (is ∙ p.1) in
    (q.0, q.1, λ other. p.2 (r m (q.0 ++ t ∷ other)) f (t ∷ other) (q.2 other))
bind_cases {A} {B} r f loc next m ts (Ok y) is e t rest h =
    let p = next y.0 y.1 y.2 e t rest h in
    let ok : r m ts ≡ Ok (y.0, y.1, p.0 ++ t ∷ rest) = is ∙ ap (λ (w : List Lexeme). Ok (y.0, y.1, w)) p.1 in
    let q = through r loc m ts y.0 y.1 p.0 t rest ok in
    let regroup : (other : List Lexeme) → (q.0 ++ p.0) ++ t ∷ other ≡ q.0 ++ (p.0 ++ t ∷ other) = λ other. append_assoc q.0 p.0 (t ∷ other) in
    (q.0 ++ p.0, q.1 ∙ sym (regroup rest), λ other. rw (regroup other, q.2 other) (p.2 other))

bind_local : {A B : Type 0} (r : Reader A) (f : A → Reader B) → IsLocal r → ((x : A) → IsLocal (f x)) → IsLocal (bind r f)
bind_local r f loc next m ts e t rest h = bind_cases r f loc next m ts (r m ts) refl e t rest h

pub same_start : (ks : List Terminal) (u : List Lexeme) (t : Lexeme) (rest other : List Lexeme) → starts ks (u ++ t ∷ rest) ≡ starts ks (u ++ t ∷ other)
same_start ks [] t rest other = refl
same_start ks (s ∷ u) t rest other = refl

abbrev pub choose : {A : Type 0} → List Terminal → Reader A → Reader A → Reader A
choose ks r s m ts = cond (starts ks ts) (r m ts) (s m ts)

choose_local : {A : Type 0} (ks : List Terminal) (r s : Reader A) → IsLocal r → IsLocal s → IsLocal (choose ks r s)
choose_local ks r s one two m ts e t rest h =
    elim (chosen (starts ks ts) (r m ts) (s m ts) (ended e (t ∷ rest)) h) [
      | inl c ↦
          let p = one m ts e t rest c.1 in
          let same : (other : List Lexeme) → starts ks (p.0 ++ t ∷ other) ≡ true = λ other. same_start ks p.0 t other rest ∙ ap (starts ks) (sym p.1) ∙ c.0 in
          (p.0, p.1, λ other. rw (same other) (p.2 other))
      | inr c ↦
          let p = two m ts e t rest c.1 in
          let same : (other : List Lexeme) → starts ks (p.0 ++ t ∷ other) ≡ false = λ other. same_start ks p.0 t other rest ∙ ap (starts ks) (sym p.1) ∙ c.0 in
          (p.0, p.1, λ other. rw (same other) (p.2 other))
    ]

-- a reader that takes one token, or stops at it
module _ (k : Terminal) (r : Lexeme → Reader Lexeme) where
  abbrev one : Reader Lexeme
  one m [] = Err (Unexpected [])
  one m (t ∷ ts) = cond (fits k t) (r t m ts) (Err (Unexpected (t ∷ ts)))

  abbrev TakesOne : Type 0
  TakesOne = (s : Lexeme) (m : ℕ) (ts : List Lexeme) (e : End Lexeme) (t : Lexeme) (rest : List Lexeme) → r s m ts ≡ ended e (t ∷ rest)
      → (u : List Lexeme) × (s ∷ ts ≡ u ++ t ∷ rest) × ((other : List Lexeme) → fits k s ≡ true → one m (u ++ t ∷ other) ≡ ended e (t ∷ other))

  one_stopped : (s : Lexeme) (m : ℕ) (ts : List Lexeme) (e : End Lexeme) (t : Lexeme) (rest : List Lexeme) → fits k s ≡ false → failed (Unexpected (s ∷ ts)) ≡ ended e (t ∷ rest)
      → (u : List Lexeme) × (s ∷ ts ≡ u ++ t ∷ rest) × ((other : List Lexeme) → one m (u ++ t ∷ other) ≡ ended e (t ∷ other))
  one_stopped s m ts (Read x j) t rest misses i = absurd cc
  one_stopped s m ts Stopped t rest misses i =
      let q : s ∷ ts ≡ t ∷ rest = cc in
      let same : s ≡ t = cc in
      ([], q, λ other. rw (subst (λ w. fits k w ≡ false) same misses) refl)

  one_local : TakesOne → IsLocal one
  one_local takes m [] (Read x j) t rest h = absurd cc
  one_local takes m [] Stopped t rest h = absurd (let q : Unexpected [] ≡ Unexpected (t ∷ rest) = cc in cc)
  one_local takes m (s ∷ ts) e t rest h =
      elim (chosen (fits k s) _ _ _ h) [
        | inl c ↦ let p = takes s m ts e t rest c.1 in (p.0, p.1, λ other. p.2 other c.0)
        | inr c ↦ one_stopped s m ts e t rest c.0 c.1
      ]

token_local : (k : Terminal) → IsLocal (take_token k)
token_local k = one_local k pure
    (λ s m ts e t rest h. let q = ends_at s m ts e (t ∷ rest) h in (s ∷ [], ap (λ (w : List Lexeme). s ∷ w) q.0, λ other g. rw g (q.1 (t ∷ other))))

nesting_takes : (k : Terminal) → TakesOne k counted
nesting_takes k s zero ts (Read x j) t rest h = absurd cc
nesting_takes k s zero ts Stopped t rest h = absurd (let q : TooDeep (s ∷ ts) ≡ Unexpected (t ∷ rest) = cc in cc)
nesting_takes k s (suc m) ts e t rest h = let q = ends_at s m ts e (t ∷ rest) h in (s ∷ [], ap (λ (w : List Lexeme). s ∷ w) q.0, λ other g. rw g (q.1 (t ∷ other)))

abbrev deep : {A : Type 0} → Reader A
deep m ts = Err (TooDeep ts)

deep_local : {A : Type 0} → IsLocal (deep {A = A})
deep_local m ts (Read x i) t rest h = absurd cc
deep_local m ts Stopped t rest h = absurd (let q : TooDeep ts ≡ Unexpected (t ∷ rest) = cc in cc)

repeated_local : {A : Type 0} (r : Reader A) (ks : List Terminal) → IsLocal r → (n : ℕ) → IsLocal (repeated r ks n)
repeated_local r ks loc zero = pure_local []
repeated_local {A} r ks loc (suc n) =
    choose_local ks (bind r (λ x. bind (repeated r ks n) (λ xs. pure (x ∷ xs)))) (pure [])
    (bind_local r (λ x. bind (repeated r ks n) (λ xs. pure (x ∷ xs))) loc
    (λ x. bind_local (repeated r ks n) (λ xs. pure (x ∷ xs)) (repeated_local r ks loc n) (λ xs. pure_local (x ∷ xs))))
    (pure_local [])

-- ---- how often it may be read does not matter, from the count of tokens on

abbrev pub Eats : {A : Type 0} → Reader A → Type 0
Eats {A} r = (m : ℕ) (ts : List Lexeme) (x : A) (i : ℕ) (rest : List Lexeme) → r m ts ≡ Ok (x, i, rest) → length rest < length ts

same_bind : {A B : Type 0} (r : Outcome A) (f g : A → Reader B) → ((x : A) (i : ℕ) (rest : List Lexeme) → r ≡ Ok (x, i, rest) → f x i rest ≡ g x i rest) → (r >>= f) ≡ (r >>= g)
same_bind (Ok p) f g h = h p.0 p.1 p.2 refl
same_bind (Err d) f g h = refl

same_choice : {A : Type 0} (c : Bool) (x y z : A) → x ≡ y → cond c x z ≡ cond c y z
same_choice c x y z h = ap (λ w. cond c w z) h

pub fuel : {A : Type 0} (r : Reader A) (ks : List Terminal) → Eats r → (n l m : ℕ) (ts : List Lexeme) → length ts ≤ n → length ts ≤ l → repeated r ks n m ts ≡ repeated r ks l m ts
fuel r ks eats zero zero m ts a b = refl
fuel r ks eats zero (suc l) m [] a b = refl
fuel r ks eats zero (suc l) m (t ∷ ts) a b = absurd (omega (arith, a))
fuel r ks eats (suc n) zero m [] a b = refl
fuel r ks eats (suc n) zero m (t ∷ ts) a b = absurd (omega (arith, b))
fuel {A} r ks eats (suc n) (suc l) m ts a b =
    same_choice (starts ks ts) _ _ _
    (same_bind (r m ts) (λ x. bind (repeated r ks n) (λ xs. pure (x ∷ xs))) (λ x. bind (repeated r ks l) (λ xs. pure (x ∷ xs)))
    (λ x i rest h. let e = eats m ts x i rest h in ap (λ (o : Outcome (List A)). o >>= λ xs j end. Ok (x ∷ xs, j, end)) (fuel r ks eats n l i rest (omega (arith, e, a)) (omega (arith, e, b)))))

pub eats : {A : Type 0} (s : Syntax A) → is_fine s ≡ true → nullable s ≡ false → Eats (read s)
eats s fine misses m ts x i rest h = let p = sound s m ts x i rest h in some p.0 p.1 p.2
  where
    some : (u : List Lexeme) → ts ≡ u ++ rest → Spells s u x → length rest < length ts
    some [] e g = absurd (let q = spells_nil s fine x g in cc)
    some (t ∷ u) e g = omega (arith, ap length e, length-append u rest)

abbrev many : {A : Type 0} → Syntax A → Reader (List A)
many a m ts = repeated (read a) (first a) (length ts) m ts

many_local : {A : Type 0} (a : Syntax A) → is_fine a ≡ true → nullable a ≡ false → IsLocal (read a) → IsLocal (many a)
many_local {A} a fine misses loc m ts e t rest h =
    let p = repeated_local (read a) (first a) loc (length ts) m ts e t rest h in
    (p.0, p.1, λ other. again p.0 p.1 other)
  where
    again : (u : List Lexeme) → ts ≡ u ++ t ∷ rest → (other : List Lexeme) → many a m (u ++ t ∷ other) ≡ ended e (t ∷ other)
    again u parts other =
        let n = length ts + length (u ++ t ∷ other) in
        let raised : repeated (read a) (first a) n m ts ≡ ended e (t ∷ rest) = fuel (read a) (first a) (eats a fine misses) n (length ts) m ts (omega arith) (omega arith) ∙ h in
        let q = repeated_local (read a) (first a) loc n m ts e t rest raised in
        let same : q.0 ≡ u = append_cancel_right q.0 u (t ∷ rest) (sym q.1 ∙ parts) in
        let there : repeated (read a) (first a) n m (u ++ t ∷ other) ≡ ended e (t ∷ other) = subst (λ (w : List Lexeme). repeated (read a) (first a) n m (w ++ t ∷ other) ≡ ended e (t ∷ other)) same (q.2 other) in
        fuel (read a) (first a) (eats a fine misses) (length (u ++ t ∷ other)) n m (u ++ t ∷ other) (omega arith) (omega arith) ∙ there

-- ---- a reader that is told where it would be too deep

abbrev IsLocalAnywhere : {A : Type 0} → (List Lexeme → Reader A) → Type 0
IsLocalAnywhere {A} r = (d : List Lexeme) (m : ℕ) (ts : List Lexeme) (e : End A) (t : Lexeme) (rest : List Lexeme) → r d m ts ≡ ended e (t ∷ rest)
    → (u : List Lexeme) × (ts ≡ u ++ t ∷ rest) × ((c other : List Lexeme) → r c m (u ++ t ∷ other) ≡ ended e (t ∷ other))

abbrev pub one_of : {A : Type 0} → List Terminal → Reader A → List Terminal → Reader A → List Lexeme → Reader A
one_of fs r gs s d = either_rest fs r gs (charged d s)

abbrev stopped : {A : Type 0} → Reader A
stopped m ts = Err (Unexpected ts)

stopped_local : {A : Type 0} → IsLocal (stopped {A = A})
stopped_local m ts (Read x i) t rest h = absurd cc
stopped_local m ts Stopped t rest h = let q : ts ≡ t ∷ rest = (let d : Unexpected ts ≡ Unexpected (t ∷ rest) = cc in cc) in ([], q, λ other. refl)

charged_local : {A : Type 0} (r : Reader A) → IsLocal r → IsLocalAnywhere (λ d. charged d r)
charged_local r loc d zero ts (Read x i) t rest h = absurd cc
charged_local r loc d zero ts Stopped t rest h = absurd (let q : TooDeep d ≡ Unexpected (t ∷ rest) = cc in cc)
charged_local r loc d (suc m) ts e t rest h = let p = loc m ts e t rest h in (p.0, p.1, λ c other. p.2 other)

chosen_local : {A : Type 0} (ks : List Terminal) (r s : List Lexeme → Reader A) → IsLocalAnywhere r → IsLocalAnywhere s → IsLocalAnywhere (λ d. choose ks (r d) (s d))
chosen_local ks r s one two d m ts e t rest h =
    elim (chosen (starts ks ts) (r d m ts) (s d m ts) (ended e (t ∷ rest)) h) [
      | inl c ↦
          let p = one d m ts e t rest c.1 in
          let same : (other : List Lexeme) → starts ks (p.0 ++ t ∷ other) ≡ true = λ other. same_start ks p.0 t other rest ∙ ap (starts ks) (sym p.1) ∙ c.0 in
          (p.0, p.1, λ k other. rw (same other) (p.2 k other))
      | inr c ↦
          let p = two d m ts e t rest c.1 in
          let same : (other : List Lexeme) → starts ks (p.0 ++ t ∷ other) ≡ false = λ other. same_start ks p.0 t other rest ∙ ap (starts ks) (sym p.1) ∙ c.0 in
          (p.0, p.1, λ k other. rw (same other) (p.2 k other))
    ]

anywhere : {A : Type 0} (r : Reader A) → IsLocal r → IsLocalAnywhere (λ d. r)
anywhere r loc d m ts e t rest h = let p = loc m ts e t rest h in (p.0, p.1, λ c other. p.2 other)

rest_local : {A : Type 0} (fs gs : List Terminal) (r s : Reader A) → IsLocal r → IsLocal s → IsLocalAnywhere (one_of fs r gs s)
rest_local fs gs r s one two =
    chosen_local fs (λ d. r) (λ d. choose gs (charged d s) stopped) (anywhere r one)
    (chosen_local gs (λ d. charged d s) (λ d. stopped) (charged_local s two) (anywhere stopped stopped_local))

mapped_cases : {A B : Type 0} (g : A → B) (r : List Lexeme → Reader A) → IsLocalAnywhere r → (d : List Lexeme) (m : ℕ) (ts : List Lexeme) (o : Outcome A) → r d m ts ≡ o → (e : End B) (t : Lexeme) (rest : List Lexeme)
    → (o >>= λ y. pure (g y)) ≡ ended e (t ∷ rest) → (u : List Lexeme) × (ts ≡ u ++ t ∷ rest) × ((c other : List Lexeme) → (r c m (u ++ t ∷ other) >>= λ y. pure (g y)) ≡ ended e (t ∷ other))
mapped_cases g r loc d m ts (Err f) is e t rest h =
    let p = fail_moves f e (t ∷ rest) h in
    let q = loc d m ts p.0 t rest (is ∙ p.1) in
    (q.0, q.1, λ c other. p.2 (r c m (q.0 ++ t ∷ other)) (λ y. pure (g y)) (t ∷ other) (q.2 c other))
mapped_cases {A} g r loc d m ts (Ok y) is e t rest h =
    let q = ends_at (g y.0) y.1 y.2 e (t ∷ rest) h in
    let ok : r d m ts ≡ ended (Read y.0 y.1) (t ∷ rest) = is ∙ ap (λ (w : List Lexeme). Ok (y.0, y.1, w)) q.0 in
    let p = loc d m ts (Read y.0 y.1) t rest ok in
    (p.0, p.1, λ c other. rw (p.2 c other) (q.1 (t ∷ other)))

fork_cases : {A B C : Type 0} (a : Reader A) (g : A → B → C) (r : List Lexeme → Reader B) (deep : List Lexeme → List Lexeme → List Lexeme) → IsLocal a → IsLocalAnywhere r → (m : ℕ) (ts : List Lexeme) (o : Outcome A) → a m ts ≡ o → (e : End C) (t : Lexeme) (rest : List Lexeme)
    → (o >>= λ x i mid. r (deep ts mid) i mid >>= λ y. pure (g x y)) ≡ ended e (t ∷ rest)
    → (u : List Lexeme) × (ts ≡ u ++ t ∷ rest) × ((other : List Lexeme) → (a m (u ++ t ∷ other) >>= λ x i mid. r (deep (u ++ t ∷ other) mid) i mid >>= λ y. pure (g x y)) ≡ ended e (t ∷ other))
fork_cases a g r deep loc next m ts (Err d) is e t rest h =
    let p = fail_moves d e (t ∷ rest) h in
    let q = loc m ts p.0 t rest (is ∙ p.1) in
    (q.0, q.1, λ other. p.2 (a m (q.0 ++ t ∷ other)) (λ x i mid. r (deep (q.0 ++ t ∷ other) mid) i mid >>= λ y. pure (g x y)) (t ∷ other) (q.2 other))
fork_cases {A} {B} {C} a g r deep loc next m ts (Ok y) is e t rest h =
    let p = mapped_cases (g y.0) r next (deep ts y.2) y.1 y.2 (r (deep ts y.2) y.1 y.2) refl e t rest h in
    let ok : a m ts ≡ Ok (y.0, y.1, p.0 ++ t ∷ rest) = is ∙ ap (λ (w : List Lexeme). Ok (y.0, y.1, w)) p.1 in
    let q = through a loc m ts y.0 y.1 p.0 t rest ok in
    let regroup : (other : List Lexeme) → (q.0 ++ p.0) ++ t ∷ other ≡ q.0 ++ (p.0 ++ t ∷ other) = λ other. append_assoc q.0 p.0 (t ∷ other) in
    (q.0 ++ p.0, q.1 ∙ sym (regroup rest), λ other. rw (regroup other, q.2 other) (p.2 (deep (q.0 ++ (p.0 ++ t ∷ other)) (p.0 ++ t ∷ other)) other))

pub local : {A : Type 0} (s : Syntax A) → is_fine s ≡ true → IsLocal (read s)
unfolding read is_fine
local (Past a) fine = deep_local
local (Token k) fine = token_local k
local (Nesting k) fine = one_local k counted (nesting_takes k)
local (Whole a) fine = λ m. local a fine max_nestings
local (Known fs ms a) fine = local a (known_parts (is_fine a) (nullable a) (within (first a) fs) (within (more a) ms) fine).0
local (Then a b) fine =
    let f = and_three (is_fine a) (is_fine b) (apart (more a) (first b)) fine in
    bind_local (read a) (λ x. bind (read b) (λ y. pure (x, y))) (local a f.0) (λ x. bind_local (read b) (λ y. pure (x, y)) (local b f.1) (λ y. pure_local (x, y)))
local (Map h a) fine = bind_local (read a) (λ x. pure (h x)) (local a fine) (λ x. pure_local (h x))
local (Either a b) fine =
    let f = choice_parts (is_fine a) (is_fine b) (nullable a) (nullable b) (apart (first a) (first b)) fine in
    choose_local (first a) (read a) (read b) (local a f.0) (local b f.1)
local (Maybe a) fine =
    let f = and_parts (is_fine a) (not (nullable a)) fine in
    choose_local (first a) (bind (read a) (λ x. pure (Some x))) (pure None) (bind_local (read a) (λ x. pure (Some x)) (local a f.0) (λ x. pure_local (Some x))) (pure_local None)
local (Many a) fine =
    let f = and_three (is_fine a) (not (nullable a)) (apart (more a) (first a)) fine in
    many_local a f.0 (not-true (nullable a) f.1) (local a f.0)
local (Fork ks a b c) fine = λ m ts.
    let f = fork_is ks a b c fine in
    let deep = λ (us rest : List Lexeme). last_nesting ks (length us - length rest) rest us in
    fork_cases (read a) (λ x y. (x, y)) (one_of (first b) (read b) (first c) (read c)) deep (local a f.head) (rest_local (first b) (first c) (read b) (read c) (local b f.one.0) (local c f.two.0)) max_nestings ts (read a max_nestings ts) refl
