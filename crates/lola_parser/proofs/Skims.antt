-- What is left where no nesting is counted is what reading leaves where the nestings suffice.
use Rattle.std.proofs.Common.{◌≡◌, ℕ, zero, suc, ◌-◌, ◌<◌, ◌≤◌, Bool, true, false, cond, ◌||◌, List, [], ◌∷◌, ◌++◌, length, Some, None, Ok, Err, refl, sym, ap, ◌∙◌, append_assoc, arith, inl, inr}
use Rattle.std.proofs.lemmas.List.{length-append}
use Rattle.std.proofs.lemmas.Bool.{or_cases}
use Rattle.lola_parser_grammar.specs.Syntax.{Lexeme, Terminal, fits, any_fits, Syntax, Past, Token, Nesting, Whole, Known, Then, Map, Either, Maybe, Many, Fork, Repeats, Spells, starts, first, nullable, is_fine, Refusal, Unexpected, TooDeep, Outcome, Reader, counted, repeated, read, max_nestings, charged, either_rest, last_nesting}
use Rattle.lola_parser_grammar.proofs.Laws.{chosen, done_is, bind_ok, counted_ok}
use Rattle.lola_parser_grammar.proofs.Viable.{bind_err}
use Rattle.lola_parser_grammar.proofs.Complete.{spells_nil}
use Rattle.lola_parser.specs.Turns.{Left, ◌>->◌, behind}
use Rattle.lola_parser.specs.Skims.{again, skim}

-- ---- what is left behind two parts

pub left_some : (o : Left) (f : List Lexeme → Left) (rest : List Lexeme) → (o >-> f) ≡ Some rest → (mid : List Lexeme) × (o ≡ Some mid) × (f mid ≡ Some rest)
left_some None f rest h = absurd cc
left_some (Some mid) f rest h = (mid, refl, h)

is_left : (o : Left) (f : List Lexeme → Left) (mid rest : List Lexeme) → o ≡ Some mid → f mid ≡ Some rest → (o >-> f) ≡ Some rest
is_left o f mid rest e h = rw e h

none_left : (o : Left) (f : List Lexeme → Left) → o ≡ None → (o >-> f) ≡ None
none_left o f e = rw e refl

next_none : (o : Left) (f : List Lexeme → Left) (mid : List Lexeme) → o ≡ Some mid → f mid ≡ None → (o >-> f) ≡ None
next_none o f mid e h = rw e h

if_true : {A : Type 0} (b : Bool) (x y z : A) → b ≡ true → x ≡ z → cond b x y ≡ z
if_true b x y z e h = rw e h

if_false : {A : Type 0} (b : Bool) (x y z : A) → b ≡ false → y ≡ z → cond b x y ≡ z
if_false b x y z e h = rw e h

or_true : (b : Bool) → b ≡ true → (b || false) ≡ true
or_true b e = rw e refl

or_false : (b : Bool) → b ≡ false → (b || false) ≡ false
or_false b e = rw e refl

-- ---- what is left behind a sentence

abbrev Leaves : {A : Type 0} → (List Lexeme → Left) → (List Lexeme → A → Type 0) → Type 0
Leaves {A} f P = (ts rest : List Lexeme) → f ts ≡ Some rest → (u : List Lexeme) × (x : A) × (ts ≡ u ++ rest) × P u x

token_leaves : (k : Terminal) (ts rest : List Lexeme) → behind (k ∷ []) ts ≡ Some rest → (u : List Lexeme) × (x : Lexeme) × (ts ≡ u ++ rest) × ((u ≡ x ∷ []) × (fits k x ≡ true))
token_leaves k [] rest h = absurd cc
token_leaves k (t ∷ ts) rest h =
    elim (chosen (fits k t || false) _ _ _ h) [
      | inl c ↦
          let e : ts ≡ rest = (let w = c.1 in cc) in
          let f : fits k t ≡ true = elim (or_cases (fits k t) false c.0) [ inl g ↦ g | inr g ↦ absurd cc ] in
          (t ∷ [], t, ap (λ (w : List Lexeme). t ∷ w) e, (refl, f))
      | inr c ↦ absurd (let w = c.1 in cc)
    ]

again_leaves : {A : Type 0} (f : List Lexeme → Left) (P : List Lexeme → A → Type 0) (ks : List Terminal) → Leaves f P → (n : ℕ) → Leaves (again f ks n) (Repeats P)
again_leaves {A} f P ks h zero ts rest e = let q : ts ≡ rest = cc in ([], [], q, refl)
again_leaves {A} f P ks h (suc n) ts rest e =
    elim (chosen (starts ks ts) _ _ _ e) [
      | inl c ↦
          let p = left_some (f ts) (again f ks n) rest c.1 in
          let a = h ts p.0 p.1 in
          let b = again_leaves f P ks h n p.0 rest p.2 in
          (a.0 ++ b.0, a.1 ∷ b.1, a.2 ∙ ap (λ (w : List Lexeme). a.0 ++ w) b.2 ∙ sym (append_assoc a.0 b.0 rest), (a.0, b.0, refl, a.3, b.3))
      | inr c ↦ let q : ts ≡ rest = (let w = c.1 in cc) in ([], [], q, refl)
    ]

-- what is left stands behind a sentence
pub leaves : {A : Type 0} (s : Syntax A) → Leaves (skim s) (Spells s)
unfolding skim Spells
leaves (Past a) ts rest h = leaves a ts rest h
leaves (Token k) ts rest h = token_leaves k ts rest h
leaves (Nesting k) ts rest h = token_leaves k ts rest h
leaves (Whole a) ts rest h = leaves a ts rest h
leaves (Known fs ms a) ts rest h = leaves a ts rest h
leaves (Then a b) ts rest h =
    let p = left_some (skim a ts) (skim b) rest h in
    let l = leaves a ts p.0 p.1 in
    let r = leaves b p.0 rest p.2 in
    (l.0 ++ r.0, (l.1, r.1), l.2 ∙ ap (λ (w : List Lexeme). l.0 ++ w) r.2 ∙ sym (append_assoc l.0 r.0 rest), (l.0, r.0, refl, l.3, r.3))
leaves (Map f a) ts rest h = let l = leaves a ts rest h in (l.0, f l.1, l.2, (l.1, refl, l.3))
leaves (Either a b) ts rest h =
    elim (chosen (starts (first a) ts) _ _ _ h) [
      | inl c ↦ let l = leaves a ts rest c.1 in (l.0, l.1, l.2, inl l.3)
      | inr c ↦ let l = leaves b ts rest c.1 in (l.0, l.1, l.2, inr l.3)
    ]
leaves (Maybe a) ts rest h =
    elim (chosen (starts (first a) ts) _ _ _ h) [
      | inl c ↦ let l = leaves a ts rest c.1 in (l.0, Some l.1, l.2, l.3)
      | inr c ↦ let q : ts ≡ rest = (let w = c.1 in cc) in ([], None, q, refl)
    ]
leaves (Many a) ts rest h = again_leaves (skim a) (Spells a) (first a) (leaves a) (length ts) ts rest h
leaves (Fork ks a b c) ts rest h =
    let p = left_some (skim a ts) (λ mid. cond (starts (first b) mid) (skim b mid) (cond (starts (first c) mid) (skim c mid) None)) rest h in
    let l = leaves a ts p.0 p.1 in
    elim (chosen (starts (first b) p.0) _ _ _ p.2) [
      | inl d ↦ let r = leaves b p.0 rest d.1 in (l.0 ++ r.0, (l.1, r.1), l.2 ∙ ap (λ (w : List Lexeme). l.0 ++ w) r.2 ∙ sym (append_assoc l.0 r.0 rest), (l.0, r.0, refl, l.3, inl r.3))
      | inr d ↦
          elim (chosen (starts (first c) p.0) _ _ _ d.1) [
            | inl g ↦ let r = leaves c p.0 rest g.1 in (l.0 ++ r.0, (l.1, r.1), l.2 ∙ ap (λ (w : List Lexeme). l.0 ++ w) r.2 ∙ sym (append_assoc l.0 r.0 rest), (l.0, r.0, refl, l.3, inr r.3))
            | inr g ↦ absurd (let w = g.1 in cc)
          ]
    ]

-- ---- what was read

abbrev SkimsOk : {A : Type 0} → Reader A → (List Lexeme → Left) → Type 0
SkimsOk {A} r f = (m : ℕ) (ts : List Lexeme) (x : A) (i : ℕ) (rest : List Lexeme) → r m ts ≡ Ok (x, i, rest) → f ts ≡ Some rest

token_read : (k : Terminal) (m : ℕ) (ts : List Lexeme) (x : Lexeme) (i : ℕ) (rest : List Lexeme) → read (Token k) m ts ≡ Ok (x, i, rest) → behind (k ∷ []) ts ≡ Some rest
unfolding read
token_read k m [] x i rest e = absurd cc
token_read k m (t ∷ ts) x i rest e =
    elim (chosen (fits k t) _ _ _ e) [
      | inl c ↦ let q = done_is t x m i ts rest c.1 in if_true (fits k t || false) (Some ts) None (Some rest) (or_true (fits k t) c.0) (ap (λ (w : List Lexeme). Some w) q.2)
      | inr c ↦ absurd cc
    ]

nesting_read : (k : Terminal) (m : ℕ) (ts : List Lexeme) (x : Lexeme) (i : ℕ) (rest : List Lexeme) → read (Nesting k) m ts ≡ Ok (x, i, rest) → behind (k ∷ []) ts ≡ Some rest
unfolding read
nesting_read k m [] x i rest e = absurd cc
nesting_read k m (t ∷ ts) x i rest e =
    elim (chosen (fits k t) _ _ _ e) [
      | inl c ↦
          let d = counted_ok t m ts x i rest c.1 in
          let q = done_is t x d.0 i ts rest d.1 in
          if_true (fits k t || false) (Some ts) None (Some rest) (or_true (fits k t) c.0) (ap (λ (w : List Lexeme). Some w) q.2)
      | inr c ↦ absurd cc
    ]

again_read : {A : Type 0} (r : Reader A) (f : List Lexeme → Left) (ks : List Terminal) → SkimsOk r f → (n : ℕ) → SkimsOk (repeated r ks n) (again f ks n)
again_read {A} r f ks h zero m ts xs i rest e = let q = done_is {A = List A} [] xs m i ts rest e in ap (λ (w : List Lexeme). Some w) q.2
again_read {A} r f ks h (suc n) m ts xs i rest e =
    elim (chosen (starts ks ts) _ _ _ e) [
      | inl c ↦
          let p = bind_ok (r m ts) _ xs i rest c.1 in
          let b = bind_ok (repeated r ks n p.1 p.2) _ xs i rest p.4 in
          let q = done_is (p.0 ∷ b.0) xs b.1 i b.2 rest b.4 in
          if_true (starts ks ts) (f ts >-> again f ks n) (Some ts) (Some rest) c.0
          (is_left (f ts) (again f ks n) p.2 rest (h m ts p.0 p.1 p.2 p.3) (again_read r f ks h n p.1 p.2 b.0 b.1 b.2 b.3 ∙ ap (λ (w : List Lexeme). Some w) q.2))
      | inr c ↦
          let q = done_is {A = List A} [] xs m i ts rest c.1 in
          if_false (starts ks ts) (f ts >-> again f ks n) (Some ts) (Some rest) c.0 (ap (λ (w : List Lexeme). Some w) q.2)
    ]

charged_read : {B : Type 0} (r : Reader B) (deep mid : List Lexeme) (i : ℕ) (y : B) (k : ℕ) (rest : List Lexeme) → charged deep r i mid ≡ Ok (y, k, rest) → (j : ℕ) × (r j mid ≡ Ok (y, k, rest))
charged_read r deep mid zero y k rest h = absurd cc
charged_read r deep mid (suc j) y k rest h = (j, h)

no_ok : {B : Type 0} (d : Refusal) (p : B × ℕ × List Lexeme) → ◌≡◌ {A = Outcome B} (Err d) (Ok p) → ⊥
no_ok d p e = absurd cc

-- what was read leaves the same
pub skims_read : {A : Type 0} (s : Syntax A) → SkimsOk (read s) (skim s)
unfolding read skim
skims_read (Past a) m ts x i rest e = absurd cc
skims_read (Token k) m ts x i rest e = token_read k m ts x i rest e
skims_read (Nesting k) m ts x i rest e = nesting_read k m ts x i rest e
skims_read (Whole a) m ts x i rest e = skims_read a max_nestings ts x i rest e
skims_read (Known fs ms a) m ts x i rest e = skims_read a m ts x i rest e
skims_read (Then a b) m ts x i rest e =
    let p = bind_ok (read a m ts) _ x i rest e in
    let q = bind_ok (read b p.1 p.2) _ x i rest p.4 in
    let d = done_is (p.0, q.0) x q.1 i q.2 rest q.4 in
    is_left (skim a ts) (skim b) p.2 rest (skims_read a m ts p.0 p.1 p.2 p.3) (skims_read b p.1 p.2 q.0 q.1 q.2 q.3 ∙ ap (λ (w : List Lexeme). Some w) d.2)
skims_read (Map f a) m ts x i rest e =
    let p = bind_ok (read a m ts) _ x i rest e in
    let d = done_is (f p.0) x p.1 i p.2 rest p.4 in
    skims_read a m ts p.0 p.1 p.2 p.3 ∙ ap (λ (w : List Lexeme). Some w) d.2
skims_read (Either a b) m ts x i rest e =
    elim (chosen (starts (first a) ts) _ _ _ e) [
      | inl c ↦ if_true (starts (first a) ts) (skim a ts) (skim b ts) (Some rest) c.0 (skims_read a m ts x i rest c.1)
      | inr c ↦ if_false (starts (first a) ts) (skim a ts) (skim b ts) (Some rest) c.0 (skims_read b m ts x i rest c.1)
    ]
skims_read (Maybe a) m ts x i rest e =
    elim (chosen (starts (first a) ts) _ _ _ e) [
      | inl c ↦
          let p = bind_ok (read a m ts) _ x i rest c.1 in
          let d = done_is (Some p.0) x p.1 i p.2 rest p.4 in
          if_true (starts (first a) ts) (skim a ts) (Some ts) (Some rest) c.0 (skims_read a m ts p.0 p.1 p.2 p.3 ∙ ap (λ (w : List Lexeme). Some w) d.2)
      | inr c ↦ let d = done_is None x m i ts rest c.1 in if_false (starts (first a) ts) (skim a ts) (Some ts) (Some rest) c.0 (ap (λ (w : List Lexeme). Some w) d.2)
    ]
skims_read (Many a) m ts x i rest e = again_read (read a) (skim a) (first a) (skims_read a) (length ts) m ts x i rest e
skims_read (Fork ks a b c) m ts x i rest e =
    let p = bind_ok (read a max_nestings ts) _ x i rest e in
    let deep = last_nesting ks (length ts - length p.2) p.2 ts in
    let q = bind_ok (either_rest (first b) (read b) (first c) (charged deep (read c)) p.1 p.2) _ x i rest p.4 in
    let d = done_is (p.0, q.0) x q.1 i q.2 rest q.4 in
    let then_ = λ (mid : List Lexeme). cond (starts (first b) mid) (skim b mid) (cond (starts (first c) mid) (skim c mid) None) in
    is_left (skim a ts) then_ p.2 rest (skims_read a max_nestings ts p.0 p.1 p.2 p.3)
    (elim (chosen (starts (first b) p.2) _ _ _ q.3) [
      | inl k ↦ if_true (starts (first b) p.2) _ _ (Some rest) k.0 (skims_read b p.1 p.2 q.0 q.1 q.2 k.1 ∙ ap (λ (w : List Lexeme). Some w) d.2)
      | inr k ↦
          elim (chosen (starts (first c) p.2) _ _ _ k.1) [
            | inl g ↦
                let j = charged_read (read c) deep p.2 p.1 q.0 q.1 q.2 g.1 in
                if_false (starts (first b) p.2) _ _ (Some rest) k.0 (if_true (starts (first c) p.2) _ _ (Some rest) g.0 (skims_read c j.0 p.2 q.0 q.1 q.2 j.1 ∙ ap (λ (w : List Lexeme). Some w) d.2))
            | inr g ↦ absurd (no_ok (Unexpected p.2) (q.0, q.1, q.2) g.1)
          ]
    ])

-- ---- what was refused at a token that does not fit

abbrev SkimsNone : {A : Type 0} → Reader A → (List Lexeme → Left) → Type 0
SkimsNone {A} r f = (m : ℕ) (ts rest : List Lexeme) → r m ts ≡ Err (Unexpected rest) → f ts ≡ None

token_misses : (k : Terminal) (m : ℕ) (ts rest : List Lexeme) → read (Token k) m ts ≡ Err (Unexpected rest) → behind (k ∷ []) ts ≡ None
unfolding read
token_misses k m [] rest e = refl
token_misses k m (t ∷ ts) rest e =
    elim (chosen (fits k t) _ _ _ e) [
      | inl c ↦ absurd (let w = c.1 in cc)
      | inr c ↦ if_false (fits k t || false) (Some ts) None None (or_false (fits k t) c.0) refl
    ]

counted_fits : (t : Lexeme) (m : ℕ) (ts rest : List Lexeme) → counted t m ts ≡ Err (Unexpected rest) → ⊥
counted_fits t zero ts rest e = absurd (let q : TooDeep (t ∷ ts) ≡ Unexpected rest = cc in cc)
counted_fits t (suc m) ts rest e = absurd cc

nesting_misses : (k : Terminal) (m : ℕ) (ts rest : List Lexeme) → read (Nesting k) m ts ≡ Err (Unexpected rest) → behind (k ∷ []) ts ≡ None
unfolding read
nesting_misses k m [] rest e = refl
nesting_misses k m (t ∷ ts) rest e =
    elim (chosen (fits k t) _ _ _ e) [
      | inl c ↦ absurd (counted_fits t m ts rest c.1)
      | inr c ↦ if_false (fits k t || false) (Some ts) None None (or_false (fits k t) c.0) refl
    ]

again_misses : {A : Type 0} (r : Reader A) (f : List Lexeme → Left) (ks : List Terminal) → SkimsOk r f → SkimsNone r f → (n : ℕ) → SkimsNone (repeated r ks n) (again f ks n)
again_misses r f ks ok h zero m ts rest e = absurd cc
again_misses {A} r f ks ok h (suc n) m ts rest e =
    elim (chosen (starts ks ts) _ _ _ e) [
      | inl c ↦
          if_true (starts ks ts) (f ts >-> again f ks n) (Some ts) None c.0
          (elim (bind_err (r m ts) _ (Unexpected rest) c.1) [
            | inl g ↦ none_left (f ts) (again f ks n) (h m ts rest g)
            | inr q ↦
                elim (bind_err (repeated r ks n q.1 q.2) _ (Unexpected rest) q.4) [
                  | inl g ↦ next_none (f ts) (again f ks n) q.2 (ok m ts q.0 q.1 q.2 q.3) (again_misses r f ks ok h n q.1 q.2 rest g)
                  | inr z ↦ absurd (let w = z.4 in cc)
                ]
          ])
      | inr c ↦ absurd (let w = c.1 in cc)
    ]

charged_misses : {B : Type 0} (r : Reader B) (deep mid : List Lexeme) (i : ℕ) (rest : List Lexeme) → charged deep r i mid ≡ Err (Unexpected rest) → (j : ℕ) × (r j mid ≡ Err (Unexpected rest))
charged_misses r deep mid zero rest h = absurd (let e : TooDeep deep ≡ Unexpected rest = cc in cc)
charged_misses r deep mid (suc j) rest h = (j, h)

pub skims_misses : {A : Type 0} (s : Syntax A) → SkimsNone (read s) (skim s)
unfolding read skim
skims_misses (Past a) m ts rest e = absurd (let q : TooDeep ts ≡ Unexpected rest = cc in cc)
skims_misses (Token k) m ts rest e = token_misses k m ts rest e
skims_misses (Nesting k) m ts rest e = nesting_misses k m ts rest e
skims_misses (Whole a) m ts rest e = skims_misses a max_nestings ts rest e
skims_misses (Known fs ms a) m ts rest e = skims_misses a m ts rest e
skims_misses (Then a b) m ts rest e =
    elim (bind_err (read a m ts) _ (Unexpected rest) e) [
      | inl g ↦ none_left (skim a ts) (skim b) (skims_misses a m ts rest g)
      | inr q ↦
          elim (bind_err (read b q.1 q.2) _ (Unexpected rest) q.4) [
            | inl g ↦ next_none (skim a ts) (skim b) q.2 (skims_read a m ts q.0 q.1 q.2 q.3) (skims_misses b q.1 q.2 rest g)
            | inr z ↦ absurd (let w = z.4 in cc)
          ]
    ]
skims_misses (Map f a) m ts rest e = elim (bind_err (read a m ts) _ (Unexpected rest) e) [ inl g ↦ skims_misses a m ts rest g | inr z ↦ absurd (let w = z.4 in cc) ]
skims_misses (Either a b) m ts rest e =
    elim (chosen (starts (first a) ts) _ _ _ e) [
      | inl c ↦ if_true (starts (first a) ts) (skim a ts) (skim b ts) None c.0 (skims_misses a m ts rest c.1)
      | inr c ↦ if_false (starts (first a) ts) (skim a ts) (skim b ts) None c.0 (skims_misses b m ts rest c.1)
    ]
skims_misses (Maybe a) m ts rest e =
    elim (chosen (starts (first a) ts) _ _ _ e) [
      | inl c ↦ if_true (starts (first a) ts) (skim a ts) (Some ts) None c.0 (elim (bind_err (read a m ts) _ (Unexpected rest) c.1) [ inl g ↦ skims_misses a m ts rest g | inr z ↦ absurd (let w = z.4 in cc) ])
      | inr c ↦ absurd (let w = c.1 in cc)
    ]
skims_misses (Many a) m ts rest e = again_misses (read a) (skim a) (first a) (skims_read a) (skims_misses a) (length ts) m ts rest e
skims_misses (Fork ks a b c) m ts rest e =
    let then_ = λ (mid : List Lexeme). cond (starts (first b) mid) (skim b mid) (cond (starts (first c) mid) (skim c mid) None) in
    elim (bind_err (read a max_nestings ts) _ (Unexpected rest) e) [
      | inl g ↦ none_left (skim a ts) then_ (skims_misses a max_nestings ts rest g)
      | inr q ↦
          let deep = last_nesting ks (length ts - length q.2) q.2 ts in
          next_none (skim a ts) then_ q.2 (skims_read a max_nestings ts q.0 q.1 q.2 q.3)
          (elim (bind_err (either_rest (first b) (read b) (first c) (charged deep (read c)) q.1 q.2) _ (Unexpected rest) q.4) [
            | inl g ↦
                elim (chosen (starts (first b) q.2) _ _ _ g) [
                  | inl k ↦ if_true (starts (first b) q.2) _ _ None k.0 (skims_misses b q.1 q.2 rest k.1)
                  | inr k ↦
                      if_false (starts (first b) q.2) _ _ None k.0
                      (elim (chosen (starts (first c) q.2) _ _ _ k.1) [
                        | inl l ↦ let j = charged_misses (read c) deep q.2 q.1 rest l.1 in if_true (starts (first c) q.2) _ _ None l.0 (skims_misses c j.0 q.2 rest j.1)
                        | inr l ↦ if_false (starts (first c) q.2) _ _ None l.0 refl
                      ])
                ]
            | inr z ↦ absurd (let w = z.4 in cc)
          ])
    ]

-- ---- repetitions, one turn on

abbrev pub Shortens : (List Lexeme → Left) → Type 0
Shortens f = (ts rest : List Lexeme) → f ts ≡ Some rest → length rest < length ts

pub shortens : {A : Type 0} (s : Syntax A) → is_fine s ≡ true → nullable s ≡ false → Shortens (skim s)
shortens {A} s fine full ts rest h = let l = leaves s ts rest h in some l.0 l.1 l.2 l.3
  where
    some : (u : List Lexeme) (x : A) → ts ≡ u ++ rest → Spells s u x → length rest < length ts
    some [] x e h = absurd (let n = spells_nil s fine x h in cc)
    some (t ∷ u) x e h = omega (arith, ap length e, length-append (t ∷ u) rest)

pub same_next : (o : Left) (f g : List Lexeme → Left) → ((rest : List Lexeme) → o ≡ Some rest → f rest ≡ g rest) → (o >-> f) ≡ (o >-> g)
same_next None f g h = refl
same_next (Some rest) f g h = h rest refl

same_if : {A : Type 0} (b : Bool) (x y z : A) → x ≡ y → cond b x z ≡ cond b y z
same_if b x y z e = ap (λ w. cond b w z) e

turns_enough : (f : List Lexeme → Left) (ks : List Terminal) → Shortens f → (n l : ℕ) (ts : List Lexeme) → length ts ≤ n → length ts ≤ l → again f ks n ts ≡ again f ks l ts
turns_enough f ks less zero zero ts a b = refl
turns_enough f ks less zero (suc l) [] a b = refl
turns_enough f ks less zero (suc l) (t ∷ ts) a b = absurd (omega (arith, a))
turns_enough f ks less (suc n) zero [] a b = refl
turns_enough f ks less (suc n) zero (t ∷ ts) a b = absurd (omega (arith, b))
turns_enough f ks less (suc n) (suc l) ts a b =
    same_if (starts ks ts) (f ts >-> again f ks n) (f ts >-> again f ks l) (Some ts)
    (same_next (f ts) (again f ks n) (again f ks l) (λ rest e. let s = less ts rest e in turns_enough f ks less n l rest (omega (arith, a, s)) (omega (arith, b, s))))

pub one_turn : {A : Type 0} (a : Syntax A) → Shortens (skim a) → (ts : List Lexeme) → skim (Many a) ts ≡ cond (starts (first a) ts) (skim a ts >-> skim (Many a)) (Some ts)
unfolding skim
one_turn a less [] = refl
one_turn a less (t ∷ ts) =
    same_if (starts (first a) (t ∷ ts)) _ _ (Some (t ∷ ts))
    (same_next (skim a (t ∷ ts)) (again (skim a) (first a) (length ts)) (λ rest. again (skim a) (first a) (length rest) rest)
    (λ rest e. let s = less (t ∷ ts) rest e in turns_enough (skim a) (first a) less (length ts) (length rest) rest (omega (arith, s)) (omega arith)))

pub no_longer : {A : Type 0} (s : Syntax A) (ts rest : List Lexeme) → skim s ts ≡ Some rest → length rest ≤ length ts
no_longer s ts rest h = let l = leaves s ts rest h in omega (arith, ap length l.2, length-append l.0 rest)

-- a part that begins with a token
pub shortens_then : {A B : Type 0} (a : Syntax A) (b : Syntax B) → Shortens (skim a) → Shortens (skim (Then a b))
unfolding skim
shortens_then a b less ts rest h =
    let p = left_some (skim a ts) (skim b) rest h in
    omega (arith, less ts p.0 p.1, no_longer b p.0 rest p.2)

pub shortens_behind : (ks : List Terminal) (ts rest : List Lexeme) → behind ks ts ≡ Some rest → length rest < length ts
shortens_behind ks [] rest h = absurd cc
shortens_behind ks (t ∷ ts) rest h =
    elim (chosen (any_fits ks t) _ _ _ h) [
      | inl c ↦ let e : ts ≡ rest = (let w = c.1 in cc) in omega (arith, ap length e)
      | inr c ↦ absurd (let w = c.1 in cc)
    ]
