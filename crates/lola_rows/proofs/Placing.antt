-- Titles that are found among those of a heading.
use Rattle.std.proofs.Common.{◌≡◌, ℕ, zero, suc, ◌+◌, ◌<◌, ◌≤◌, Bool, true, false, List, [], ◌∷◌, ◌++◌, Option, Some, None, Result, Ok, Err, length, map, drop, get_or, filter, position, nat_eq, nat_lt, if◌then◌else◌, codes, refl, sym, ap, ◌∙◌, arith, inl, inr, append_assoc}
use Rattle.std.specs.List.{list_any, position_or_len}
use Rattle.std.proofs.lemmas.Bool.{cases_Bool, cases_lt, eq-eqb, lt-ltb, le-ltb, ne_eqb}
use Rattle.std.proofs.lemmas.List.{append-nil, drop_all, drop_more}
use Rattle.csv.specs.Records.{field_at}
use Rattle.lola_value.specs.Arithmetic.{bytes_equal}
use Rattle.lola_model.specs.declared.source.MalformedKind.{MalformedKind}
use Rattle.lola_model.specs.declared.source.MalformedKind.TheVariants as malformed
use Rattle.lola_rows.specs.Blanks.{trimmed}
use Rattle.lola_rows.specs.Columns.{column_of, columns_in, is_time_name, is_twice}
use Rattle.lola_rows.specs.Places.{after_title, column_made, columns_made, places_from, places_in, title_at}
use Rattle.lola_rows.specs.Rows.{or_else_flaw, then_value}
use Rattle.lola_rows.specs.Steps.{Makes}
use Rattle.lola_rows.specs.declared.flaw.Flaw.{Flaw}
use Rattle.lola_rows.specs.declared.flaw.Flaw.TheVariants as flaw
use Rattle.lola_rows.specs.declared.columns.Column.{Column}
use Rattle.lola_rows.specs.declared.columns.Input.{Input}
use Rattle.lola_rows.specs.declared.columns.Places.{Places}
use Rattle.lola_rows.specs.declared.columns.Places.TheVariants as places

-- the third of the names of a time
pub third-name : (title a b c : List ℕ) → a ≡ codes "time" → b ≡ codes "ts" → c ≡ codes "timestamp" → bytes_equal title a ≡ false → bytes_equal title b ≡ false → bytes_equal title c ≡ is_time_name title
third-name title a b c is_a is_b is_c miss miss' =
    let first : bytes_equal title (codes "time") ≡ false = ap (bytes_equal title) (sym is_a) ∙ miss in
    let second : bytes_equal title (codes "ts") ≡ false = ap (bytes_equal title) (sym is_b) ∙ miss' in
    ap (bytes_equal title) is_c ∙ (rw (first, second) refl)

-- what the search of titles knows
pub record IsFound (p : List ℕ → Bool) (found : Places) (titles : List (List ℕ)) : Type 0 where
  pub nowhere : found ≡ places.Nowhere → length (filter p titles) ≡ 0
  pub once : (i : ℕ) → found ≡ places.At i → (length (filter p titles) ≡ 1) × (position_or_len p titles ≡ i) × (i < length titles)
  pub twice : found ≡ places.Twice → 1 < length (filter p titles)

twice-stays : (p : List ℕ → Bool) (at : ℕ) (titles : List (List ℕ)) → places_from p places.Twice at titles ≡ places.Twice
twice-stays p at [] = refl
twice-stays p at (t ∷ ts) = twice-stays p (at + 1) ts

-- after one was found
pub record AfterOne (p : List ℕ → Bool) (first at : ℕ) (titles : List (List ℕ)) : Type 0 where
  pub none : length (filter p titles) ≡ 0 → places_from p (places.At first) at titles ≡ places.At first
  pub more : 0 < length (filter p titles) → places_from p (places.At first) at titles ≡ places.Twice

after-one : (p : List ℕ → Bool) (first at : ℕ) (titles : List (List ℕ)) → AfterOne p first at titles
after-one p first at [] = record { none = λ is. refl; more = λ some. absurd (omega arith) }
after-one p first at (t ∷ ts) =
    let rest = after-one p first (at + 1) ts in
    elim (cases_Bool (p t)) [
      | inl hit ↦ record {
        none = λ is. let is' = rw hit at is in absurd (omega (arith, is'));
        more = λ some. rw hit (twice-stays p (at + 1) ts);
      }
      | inr miss ↦ record {
        none = λ is. let is' = rw miss at is in rw miss (rest.none (omega (arith, is')));
        more = λ some. let some' = rw miss at some in rw miss (rest.more (omega (arith, some')));
      }
    ]

-- before any was found
pub record Before (p : List ℕ → Bool) (at : ℕ) (titles : List (List ℕ)) : Type 0 where
  pub none : length (filter p titles) ≡ 0 → places_from p places.Nowhere at titles ≡ places.Nowhere
  pub one : length (filter p titles) ≡ 1 → (places_from p places.Nowhere at titles ≡ places.At (at + position_or_len p titles)) × (position_or_len p titles < length titles)
  pub more : 1 < length (filter p titles) → places_from p places.Nowhere at titles ≡ places.Twice

before : (p : List ℕ → Bool) (at : ℕ) (titles : List (List ℕ)) → Before p at titles
before p at [] = record { none = λ is. refl; one = λ is. absurd (omega arith); more = λ some. absurd (omega arith) }
before p at (t ∷ ts) =
    let rest = before p (at + 1) ts in
    let later = after-one p at (at + 1) ts in
    elim (cases_Bool (p t)) [
      | inl hit ↦ record {
        none = λ is. let is' = rw hit at is in absurd (omega (arith, is'));
        one = λ is. let is' = rw hit at is in rw hit (later.none (omega (arith, is')) ∙ ap (λ n. places.At n) (omega arith), omega arith);
        more = λ some. let some' = rw hit at some in rw hit (later.more (omega (arith, some')));
      }
      | inr miss ↦ record {
        none = λ is. let is' = rw miss at is in rw miss (rest.none (omega (arith, is')));
        one = λ is.
            let is' = rw miss at is in
            let two = rest.one (omega (arith, is')) in
            rw miss (two.0 ∙ ap (λ n. places.At n) (omega arith), omega (arith, two.1));
        more = λ some. let some' = rw miss at some in rw miss (rest.more (omega (arith, some')));
      }
    ]

title-is : (fields : List (List ℕ)) (place : ℕ) → place < length fields → title_at fields place ≡ get_or (map trimmed fields) place []
unfolding field_at
title-is [] place within = absurd (omega arith)
title-is (f ∷ fs) zero within = refl
title-is (f ∷ fs) (suc place) within = title-is fs place (omega arith)

pub titles-count : (fields : List (List ℕ)) → length (map trimmed fields) ≡ length fields
titles-count [] = refl
titles-count (f ∷ fs) = ap suc (titles-count fs)

-- one title more
pub next-title : (p : List ℕ → Bool) (fields : List (List ℕ)) (found : Places) (place : ℕ) → place < length fields
    → places_from p found place (drop place (map trimmed fields)) ≡ places_from p (after_title found (p (title_at fields place)) place) (place + 1) (drop (place + 1) (map trimmed fields))
next-title p fields found place within =
    ap (places_from p found place) (drop_more (map trimmed fields) place [] (omega (arith, titles-count fields)))
    ∙ ap (λ t. places_from p (after_title found (p t) place) (place + 1) (drop (place + 1) (map trimmed fields))) (sym (title-is fields place within))

-- a search of all titles tells how many there are
pub counted : (p : List ℕ → Bool) (titles : List (List ℕ)) → IsFound p (places_in p titles) titles
counted p titles =
    let all = before p 0 titles in
    elim (cases_lt (length (filter p titles)) 1) [
      | inl none ↦
          let is : places_in p titles ≡ places.Nowhere = all.none (omega arith) in
          record { nowhere = λ e. omega arith; once = λ i e. absurd (cc (is, e)); twice = λ e. absurd (cc (is, e)) }
      | inr some ↦ elim (cases_lt 1 (length (filter p titles))) [
        | inl more ↦
            let is : places_in p titles ≡ places.Twice = all.more more in
            record { nowhere = λ e. absurd (cc (is, e)); once = λ i e. absurd (cc (is, e)); twice = λ e. more }
        | inr one ↦
            let here = all.one (omega arith) in
            let is : places_in p titles ≡ places.At (0 + position_or_len p titles) = here.0 in
            record {
              nowhere = λ e. absurd (cc (is, e));
              once = λ i e. let same : 0 + position_or_len p titles ≡ i = cc (is, e) in (omega arith, omega (arith, same), omega (arith, same, here.1));
              twice = λ e. absurd (cc (is, e));
            }
      ]
    ]

position-none : (p : List ℕ → Bool) (titles : List (List ℕ)) → length (filter p titles) ≡ 0 → position p titles ≡ None
position-none p titles none = let past : nat_lt (position_or_len p titles) (length titles) ≡ false = le-ltb (position_or_len p titles) (length titles) (go titles none) in rw past refl
  where
    go : (titles : List (List ℕ)) → length (filter p titles) ≡ 0 → length titles ≤ position_or_len p titles
    go [] none = omega arith
    go (t ∷ ts) none = elim (cases_Bool (p t)) [
      | inl hit ↦ let none' = rw hit at none in absurd (omega (arith, none'))
      | inr miss ↦ let none' = rw miss at none in let more = go ts none' in rw miss (omega (arith, more))
    ]

module _ (titles : List (List ℕ)) (input : Input) where
  abbrev sought : List ℕ → Bool
  sought = bytes_equal input.name

  pub column-twice : places_in sought titles ≡ places.Twice → Err malformed.BadHeading ≡ column_made titles input
  column-twice is =
      let twice : is_twice titles input ≡ true = lt-ltb 1 (length (filter sought titles)) ((counted sought titles).twice is) in
      rw twice refl

  once-only : length (filter sought titles) ≤ 1 → column_made titles input ≡ Ok (column_of titles input)
  once-only few = let not_twice : is_twice titles input ≡ false = le-ltb 1 (length (filter sought titles)) few in rw not_twice refl

  -- its place, unless it is called as a time
  pub column-nowhere : places_in sought titles ≡ places.Nowhere → Ok (record { kind = input.kind; place = None }) ≡ column_made titles input
  column-nowhere is =
      let none = (counted sought titles).nowhere is in
      sym (once-only (omega (arith, none)) ∙ ap (λ (o : Option ℕ). Ok (record { kind = input.kind; place = o })) (elim (cases_Bool (is_time_name input.name)) [
        | inl time ↦ rw time refl
        | inr other ↦ rw other (position-none sought titles none)
      ]))

  pub column-time : (i : ℕ) → places_in sought titles ≡ places.At i → true ≡ is_time_name input.name → Ok (record { kind = input.kind; place = None }) ≡ column_made titles input
  column-time i is time =
      let one = (counted sought titles).once i is in
      let time' = sym time in
      sym (once-only (omega (arith, one.0)) ∙ ap (λ (o : Option ℕ). Ok (record { kind = input.kind; place = o })) (rw time' refl))

  pub column-there : (i : ℕ) → places_in sought titles ≡ places.At i → false ≡ is_time_name input.name → Ok (record { kind = input.kind; place = Some i }) ≡ column_made titles input
  column-there i is other =
      let one = (counted sought titles).once i is in
      let other' = sym other in
      let inside : nat_lt (position_or_len sought titles) (length titles) ≡ true = lt-ltb (position_or_len sought titles) (length titles) (omega (arith, one.1, one.2)) in
      sym (once-only (omega (arith, one.0)) ∙ ap (λ (o : Option ℕ). Ok (record { kind = input.kind; place = o })) (rw (other', inside) (ap (λ n. Some n) one.1)))

-- columns, and further ones
abbrev pub led_columns : List Column → Result (List Column) MalformedKind → Result (List Column) MalformedKind
led_columns front more = then_value more (λ cs. Ok (front ++ cs))

pub led-none : (more : Result (List Column) MalformedKind) → led_columns [] more ≡ more
led-none (Ok cs) = refl
led-none (Err k) = refl

-- a column more
led-more : (front : List Column) (c : Column) (more : Result (List Column) MalformedKind) → led_columns front (then_value more (λ cs. Ok (c ∷ cs))) ≡ led_columns (front ++ c ∷ []) more
led-more front c (Ok cs) = ap (λ (l : List Column). Ok l) (sym (append_assoc front (c ∷ []) cs))
led-more front c (Err k) = refl

module _ (titles : List (List ℕ)) (inputs : List Input) (i : ℕ) (d : Input) (within : i < length inputs) where
  next-input : columns_made titles (drop i inputs) ≡ then_value (column_made titles (get_or inputs i d)) (λ c. then_value (columns_made titles (drop (i + 1) inputs)) (λ cs. Ok (c ∷ cs)))
  next-input = ap (columns_made titles) (drop_more inputs i d within)

  pub columns-more : (front : List Column) (c : Column) → Ok c ≡ column_made titles (get_or inputs i d) → led_columns front (columns_made titles (drop i inputs)) ≡ columns_made titles inputs
      → led_columns (front ++ c ∷ []) (columns_made titles (drop (i + 1) inputs)) ≡ columns_made titles inputs
  columns-more front c is so_far =
      sym (led-more front c (columns_made titles (drop (i + 1) inputs)))
      ∙ ap (λ r. led_columns front (then_value r (λ x. then_value (columns_made titles (drop (i + 1) inputs)) (λ cs. Ok (x ∷ cs))))) is
      ∙ ap (led_columns front) (sym next-input) ∙ so_far

  pub columns-fail : (front : List Column) (kind : MalformedKind) → Err kind ≡ column_made titles (get_or inputs i d) → led_columns front (columns_made titles (drop i inputs)) ≡ columns_made titles inputs
      → columns_made titles inputs ≡ Err kind
  columns-fail front kind is so_far =
      sym so_far ∙ ap (led_columns front) next-input
      ∙ ap (λ r. led_columns front (then_value r (λ x. then_value (columns_made titles (drop (i + 1) inputs)) (λ cs. Ok (x ∷ cs))))) (sym is)

pub columns-done : (titles : List (List ℕ)) (inputs : List Input) (i : ℕ) (front : List Column) → length inputs ≤ i → led_columns front (columns_made titles (drop i inputs)) ≡ columns_made titles inputs → columns_made titles inputs ≡ Ok front
columns-done titles inputs i front past so_far =
    sym so_far ∙ ap (λ l. led_columns front (columns_made titles l)) (drop_all i inputs past) ∙ ap (λ (l : List Column). Ok l) (append-nil front)

-- the columns that are made are those of the definition
pub made-are : (titles : List (List ℕ)) (inputs : List Input) → columns_made titles inputs ≡ (if list_any (is_twice titles) inputs then Err malformed.BadHeading else Ok (map (column_of titles) inputs))
made-are titles [] = refl
made-are titles (i ∷ is) = elim (cases_Bool (is_twice titles i)) [
  | inl hit ↦ rw hit refl
  | inr miss ↦ elim (cases_Bool (list_any (is_twice titles) is)) [
    | inl later ↦ let more : columns_made titles is ≡ Err malformed.BadHeading = made-are titles is ∙ (rw later refl) in rw (miss, later, more) refl
    | inr none ↦ let more : columns_made titles is ≡ Ok (map (column_of titles) is) = made-are titles is ∙ (rw none refl) in rw (miss, none, more) refl
  ]
]

-- the columns, where exactly one title is the time
pub layout-one : (titles : List (List ℕ)) (inputs : List Input) (time : ℕ) → places_in is_time_name titles ≡ places.At time
    → or_else_flaw (columns_in inputs titles) malformed.BadHeading ≡ then_value (columns_made titles inputs) (λ cs. Ok (record { width = length titles; time = time; inputs = cs }))
layout-one titles inputs time is =
    let one = (counted is_time_name titles).once time is in
    let single : nat_eq (length (filter is_time_name titles)) 1 ≡ true = eq-eqb _ _ one.0 in
    let made = made-are titles inputs in
    elim (cases_Bool (list_any (is_twice titles) inputs)) [
      | inl twice ↦ let made' : columns_made titles inputs ≡ Err malformed.BadHeading = made ∙ (rw twice refl) in rw (single, twice, made') refl
      | inr none ↦ let made' : columns_made titles inputs ≡ Ok (map (column_of titles) inputs) = made ∙ (rw none refl) in rw (single, none, made', one.1) refl
    ]

pub layout-none : (titles : List (List ℕ)) (inputs : List Input) → ((i : ℕ) → places_in is_time_name titles ≡ places.At i → ⊥) → or_else_flaw (columns_in inputs titles) malformed.BadHeading ≡ Err malformed.BadHeading
layout-none titles inputs never =
    let other : nat_eq (length (filter is_time_name titles)) 1 ≡ false = ne_eqb _ _ (λ one. never (0 + position_or_len is_time_name titles) ((before is_time_name 0 titles).one one).0) in
    rw other refl

-- an error that a part has
pub makes-then : {A B X Y : Type 0} (v : A → X) (w : B → Y) (f : Flaw) (made : Result X MalformedKind) (next : X → Result Y MalformedKind) → Makes v (Err f) made → Makes w (Err f) (then_value made next)
makes-then v w (flaw.Malformed kind) made next is = ap (λ r. then_value r next) is
makes-then v w flaw.Memory made next is = tt
