-- The earlier of moments that may not be there.
use Rattle.std.proofs.Common.{◌≡◌, ◌∙◌, refl, sym, ap, inl, inr, ℕ, ◌+◌, ◌-◌, ◌<◌, ◌≤◌, List, [], ◌∷◌, ◌++◌, Option, Some, None, Bool, true, false, if◌then◌else◌, ◌||◌, arith, min, nat_le}
use Rattle.std.specs.Option.{option_map}
use Rattle.std.proofs.lemmas.Bool.{cases_Bool, le-leb, leb-true, leb-false, lt-leb}
use Rattle.lola_value.specs.Ratio.{Ratio}
use Rattle.lola_value.specs.Rate.{next_deadline, next_in_time, next_number}
use Rattle.lola_value.specs.Times.{latest, up_to_latest}
use Rattle.lola_model.specs.NextStep.{earlier, is_local, local_rate_of, local_rates}
use Rattle.lola_model.specs.Steps.{first_after, rate_of, rates_of}
use Rattle.lola_model.specs.declared.pacing.ClausePacings.{ClausePacings}
use Rattle.lola_model.specs.declared.pacing.Pacing.{Pacing}
use Rattle.lola_model.specs.declared.pacing.Pacing.TheVariants.{Event, Periodic, Local}
use Rattle.lola_replay_table.specs.declared.table.KnownLife.{KnownLife}
use Rattle.lola_replay_step.specs.Dues.{clauses_due, due_of_lives, due_of_stream, in_time, timely_due}

pub earlier-none : (a : Option ℕ) → earlier a None ≡ a
earlier-none None = refl
earlier-none (Some t) = refl

pub earlier-assoc : (a b c : Option ℕ) → earlier (earlier a b) c ≡ earlier a (earlier b c)
earlier-assoc None b c = refl
earlier-assoc (Some t) None c = refl
earlier-assoc (Some t) (Some s) None = refl
earlier-assoc (Some t) (Some s) (Some r) = let e : min r (min s t) ≡ min (min r s) t = omega arith in ap (λ (n : ℕ). Some n) e

-- up to a bound
abbrev up : ℕ → ℕ → Option ℕ
up most t = if nat_le t most then Some t else None

within : (most t : ℕ) → t ≤ most → up most t ≡ Some t
within most t low = ap (λ b. if b then Some t else None) (le-leb t most low)

beyond : (most t : ℕ) → most < t → up most t ≡ None
beyond most t high = ap (λ b. if b then Some t else None) (lt-leb t most high)

earlier-up : (most t s : ℕ) → up most (min s t) ≡ earlier (up most t) (up most s)
earlier-up most t s = elim (cases_Bool (nat_le t most)) [
  | inl hit ↦
      let low : t ≤ most = leb-true t most hit in
      let both : min s t ≤ most = omega arith in
      elim (cases_Bool (nat_le s most)) [
        | inl other ↦
            let lower : s ≤ most = leb-true s most other in
            within most (min s t) both ∙ sym (ap (λ o. earlier o (up most s)) (within most t low) ∙ ap (earlier (Some t)) (within most s lower))
        | inr other ↦
            let high : most < s = leb-false s most other in
            let same : min s t ≡ t = omega arith in
            within most (min s t) both
            ∙ ap (λ (n : ℕ). Some n) same
            ∙ sym (ap (λ o. earlier o (up most s)) (within most t low) ∙ ap (earlier (Some t)) (beyond most s high))
      ]
  | inr miss ↦
      let high : most < t = leb-false t most miss in
      elim (cases_Bool (nat_le s most)) [
        | inl other ↦
            let lower : s ≤ most = leb-true s most other in
            let same : min s t ≡ s = omega arith in
            ap (up most) same ∙ sym (ap (λ o. earlier o (up most s)) (beyond most t high))
        | inr other ↦
            let higher : most < s = leb-false s most other in
            let far : most < min s t = omega arith in
            beyond most (min s t) far ∙ sym (ap (λ o. earlier o (up most s)) (beyond most t high) ∙ beyond most s higher)
      ]
]

pub in-time-earlier : (a b : Option ℕ) → in_time (earlier a b) ≡ earlier (in_time a) (in_time b)
in-time-earlier None b = refl
in-time-earlier (Some t) None = sym (earlier-none (in_time (Some t)))
in-time-earlier (Some t) (Some s) = earlier-up latest t s

later-earlier : (c : ℕ) (a b : Option ℕ) → option_map (λ t. c + t) (earlier a b) ≡ earlier (option_map (λ t. c + t) a) (option_map (λ t. c + t) b)
later-earlier c None b = refl
later-earlier c (Some t) None = refl
later-earlier c (Some t) (Some s) = let e : c + min s t ≡ min (c + s) (c + t) = omega arith in ap (λ (n : ℕ). Some n) e

first-append : (xs ys : List Ratio) (t : ℕ) → first_after (xs ++ ys) t ≡ earlier (first_after xs t) (first_after ys t)
first-append [] ys t = refl
first-append (r ∷ rs) ys t =
    ap (earlier (Some (next_deadline r t))) (first-append rs ys t)
    ∙ sym (earlier-assoc (Some (next_deadline r t)) (first_after rs t) (first_after ys t))

-- of rates, one after another
pub due_append : (counted from : ℕ) (xs ys : List Ratio) → timely_due counted (xs ++ ys) from ≡ earlier (timely_due counted xs from) (timely_due counted ys from)
due_append counted from xs ys =
    let t = from - counted - 1 in
    ap (λ o. in_time (option_map (λ t. counted + t) o)) (first-append xs ys t)
    ∙ ap in_time (later-earlier counted (first_after xs t) (first_after ys t))
    ∙ in-time-earlier (option_map (λ t. counted + t) (first_after xs t)) (option_map (λ t. counted + t) (first_after ys t))

-- of one rate
pub due-none : (counted from : ℕ) (r : Ratio) → next_in_time r (from - counted - 1) ≡ None → None ≡ timely_due counted (r ∷ []) from
due-none counted from r none = elim (cases_Bool (nat_le (next_deadline r (from - counted - 1)) latest)) [
  | inl hit ↦
      let t = from - counted - 1 in
      let both : Some (next_number r t, next_deadline r t) ≡ None = sym (ap (λ b. if b then Some (next_number r t, next_deadline r t) else None) hit) ∙ none in
      absurd (cc both)
  | inr miss ↦
      let high : latest < next_deadline r (from - counted - 1) = leb-false (next_deadline r (from - counted - 1)) latest miss in
      let far : latest < counted + next_deadline r (from - counted - 1) = omega arith in
      sym (beyond latest (counted + next_deadline r (from - counted - 1)) far)
]

pub due-some : (counted from : ℕ) (r : Ratio) (n d : ℕ) → next_in_time r (from - counted - 1) ≡ Some (n, d) → up_to_latest (counted + d) ≡ timely_due counted (r ∷ []) from
due-some counted from r n d some = elim (cases_Bool (nat_le (next_deadline r (from - counted - 1)) latest)) [
  | inl hit ↦
      let t = from - counted - 1 in
      let both : Some (next_number r t, next_deadline r t) ≡ Some (n, d) = sym (ap (λ b. if b then Some (next_number r t, next_deadline r t) else None) hit) ∙ some in
      let same : next_deadline r t ≡ d = ap (λ (o : Option (ℕ × ℕ)). elim o [ None ↦ 0 | Some p ↦ p.1 ]) both in
      ap (λ m. up_to_latest (counted + m)) (sym same)
  | inr miss ↦
      let t = from - counted - 1 in
      let both : None ≡ Some (n, d) = sym (ap (λ b. if b then Some (next_number r t, next_deadline r t) else None) miss) ∙ some in
      absurd (cc both)
]

pub due_clauses : (counted from : ℕ) (xs ys zs rest : List Ratio)
    → timely_due counted (xs ++ (ys ++ (zs ++ rest))) from ≡ earlier (timely_due counted xs from) (earlier (timely_due counted ys from) (earlier (timely_due counted zs from) (timely_due counted rest from)))
due_clauses counted from xs ys zs rest =
    due_append counted from xs (ys ++ (zs ++ rest))
    ∙ ap (earlier (timely_due counted xs from)) (due_append counted from ys (zs ++ rest) ∙ ap (earlier (timely_due counted ys from)) (due_append counted from zs rest))

-- without a rate no instance has a deadline
pub no-rates : (from : ℕ) (ls : List KnownLife) → due_of_lives [] from None ls ≡ None
no-rates from [] = refl
no-rates from (l ∷ ls) = no-rates from ls

not-local : (p : Option Pacing) → is_local p ≡ false → local_rate_of p ≡ []
not-local None e = refl
not-local (Some (Event sets)) e = refl
not-local (Some (Periodic r)) e = refl
not-local (Some (Local r)) e = absurd (cc e)

-- of a stream, whether or not its instances are looked at
pub stream-due : (o : Option ClausePacings) (from : ℕ) (ls : List KnownLife) → due_of_stream o from ls ≡ due_of_lives (local_rates o) from None ls
stream-due None from ls = sym (no-rates from ls)
stream-due (Some c) from ls = go (is_local c.eval) (is_local c.close) refl refl
  where
    go : (a b : Bool) → is_local c.eval ≡ a → is_local c.close ≡ b
        → (if a || b then due_of_lives (local_rates (Some c)) from None ls else None) ≡ due_of_lives (local_rates (Some c)) from None ls
    go true b e f = refl
    go false true e f = refl
    go false false e f =
        let none : local_rates (Some c) ≡ [] = ap (λ (rs : List Ratio). rs ++ local_rate_of c.close) (not-local c.eval e) ∙ not-local c.close f in
        sym (ap (λ (rs : List Ratio). due_of_lives rs from None ls) none ∙ no-rates from ls)

-- and of all clauses that count from the start
pub start-due : (start from : ℕ) (cs : List ClausePacings) → clauses_due start from cs ≡ timely_due start (rates_of cs) from
start-due start from [] = refl
start-due start from (c ∷ cs) =
    ap (λ o. earlier (timely_due start (rate_of c.spawn) from) (earlier (timely_due start (rate_of c.eval) from) (earlier (timely_due start (rate_of c.close) from) o))) (start-due start from cs)
    ∙ sym (due_clauses start from (rate_of c.spawn) (rate_of c.eval) (rate_of c.close) (rates_of cs))
