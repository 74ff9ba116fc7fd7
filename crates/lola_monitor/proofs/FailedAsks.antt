-- Which of several asks are faulty, by the counts of their sources.
use Rattle.std.proofs.Common.{◌≡◌, ℕ, zero, suc, ◌+◌, ◌<◌, List, [], ◌∷◌, ◌++◌, Option, None, Some, Bool, true, false, if◌then◌else◌, nat_lt, length, map, slice_get, take, All, refl, sym, ap, ◌∙◌, arith}
use Rattle.std.proofs.lemmas.List.{length-map}
use Rattle.std.proofs.lemmas.Bool.Decides.{nat_tests}
use Rattle.std.proofs.lemmas.List.Elements.{All-cons, All-head, All-nil, All-tail}
use Rattle.std.specs.Option.{option_map}
use Rattle.lola_port.specs.Asks.{failed_ask, given_ask}
use Rattle.lola_port.specs.States.{Rose}
use Rattle.lola_port.specs.declared.traits.Ask.{Ask}
use Rattle.lola_feed.specs.Feeding.{Working}
use Rattle.lola_feed.specs.declared.worker.SourceEnd as worker
use Rattle.lola_feed.specs.declared.worker.SourceEnd.TheVariants.{End, Malformed, ReadFailed, Closed, Memory}
use Rattle.lola_rows.specs.Rows.{SourceEnd, Whole, MalformedAt}
use Rattle.lola_feed.specs.Lending.{asks_of, counts_of}
use Rattle.lola_monitor.specs.Monitor.{AreGiven, MalformedSource, first_failed_ask, first_malformed, is_failed_ask, one_further}
use Rattle.lola_monitor.specs.Outcomes.{ends_of, first_failed, is_failed_read}

-- an ask that was given, with a count of failures
abbrev pub counted : List ℕ → ℕ → Ask
counted name count = record (given_ask name) { count = count }

pub after_first : (o : Option ℕ) → option_map (λ n. n + 1) o ≡ None → o ≡ None
after_first None is = refl
after_first (Some n) is = absurd (cc)

past_first : (o : Option ℕ) (at : ℕ) → option_map (λ n. n + 1) o ≡ Some at → (n : ℕ) × (o ≡ Some n)
past_first None at is = absurd (cc)
past_first (Some n) at is = (n, refl)

none_first : (b : Bool) (o : Option ℕ) → (if b then Some 0 else option_map (λ n. n + 1) o) ≡ None → (b ≡ false) × (o ≡ None)
none_first true o is = absurd (cc)
none_first false o is = (refl, after_first o is)

-- where none is faulty, none is
pub none_failed_ask : (asks : List Ask) → first_failed_ask asks ≡ None → (n : ℕ) (ask : Ask) → slice_get asks n ≡ Some ask → is_failed_ask ask ≡ false
none_failed_ask [] none n ask is = absurd (cc)
none_failed_ask (a ∷ asks) none zero ask is = let b = (none_first (is_failed_ask a) (first_failed_ask asks) none).0 in let same : a ≡ ask = cc in sym (ap is_failed_ask same) ∙ b
none_failed_ask (a ∷ asks) none (suc n) ask is = none_failed_ask asks (none_first (is_failed_ask a) (first_failed_ask asks) none).1 n ask is

-- nor behind asks that were given
pub none_behind_given : (texts : List (List ℕ)) (asks : List Ask) → first_failed_ask (map given_ask texts ++ asks) ≡ None → first_failed_ask asks ≡ None
none_behind_given [] asks none = none
none_behind_given (text ∷ texts) asks none = none_behind_given texts asks (after_first (first_failed_ask (map given_ask texts ++ asks)) none)

not_above : (n : ℕ) → nat_lt 0 n ≡ false → n ≡ 0
not_above n is = grind (arith, nat_tests)

above : (n : ℕ) → nat_lt 0 n ≡ true → 0 < n
above n is = grind (arith, nat_tests)

-- the names of asks, which were all given
pub names_counted : (names : List (List ℕ)) (counts : List ℕ) → length counts ≡ length names → map (λ ask. ask.name) (asks_of names counts) ≡ names
names_counted [] [] many = refl
names_counted [] (count ∷ counts) many = absurd (omega (arith, many))
names_counted (name ∷ names) [] many = absurd (omega (arith, many))
names_counted (name ∷ names) (count ∷ counts) many = ap (λ (l : List (List ℕ)). name ∷ l) (names_counted names counts (omega (arith, many)))

pub all_counted : (names : List (List ℕ)) (counts : List ℕ) → AreGiven (asks_of names counts)
all_counted [] counts = All-nil (λ (ask : Ask). ask.given ≡ true)
all_counted (name ∷ names) [] = All-nil (λ (ask : Ask). ask.given ≡ true)
all_counted (name ∷ names) (count ∷ counts) = All-cons (λ (ask : Ask). ask.given ≡ true) (counted name count) (asks_of names counts) refl (all_counted names counts)

-- the ask of a source
pub get_counted : (names : List (List ℕ)) (counts : List ℕ) (n : ℕ) (name : List ℕ) (count : ℕ) → slice_get names n ≡ Some name → slice_get counts n ≡ Some count → slice_get (asks_of names counts) n ≡ Some (counted name count)
get_counted [] counts n name count is there = absurd (cc)
get_counted (x ∷ names) [] n name count is there = absurd (cc)
get_counted (x ∷ names) (c ∷ counts) zero name count is there = let one : x ≡ name = cc in let two : c ≡ count = cc in ap (λ (m : List ℕ). Some (counted m c)) one ∙ ap (λ (k : ℕ). Some (counted name k)) two
get_counted (x ∷ names) (c ∷ counts) (suc n) name count is there = get_counted names counts n name count is there

-- as many asks as names
pub length_counted : (names : List (List ℕ)) (counts : List ℕ) → length counts ≡ length names → length (asks_of names counts) ≡ length names
length_counted names counts many = sym (length-map (asks_of names counts) (λ (ask : Ask). ask.name)) ∙ ap length (names_counted names counts many)

-- where none is faulty, no count rose
pub none_counted : (names : List (List ℕ)) (counts : List ℕ) → length counts ≡ length names → first_failed_ask (asks_of names counts) ≡ None → All (λ (count : ℕ). count ≡ 0) counts
none_counted [] [] many none = All-nil (λ (count : ℕ). count ≡ 0)
none_counted [] (count ∷ counts) many none = absurd (omega (arith, many))
none_counted (name ∷ names) [] many none = absurd (omega (arith, many))
none_counted (name ∷ names) (count ∷ counts) many none =
    let both = none_first (nat_lt 0 count) (first_failed_ask (asks_of names counts)) none in
    All-cons (λ (count : ℕ). count ≡ 0) count counts (not_above count both.0) (none_counted names counts (omega (arith, many)) both.1)

-- and the asks are as they were given
pub plainly_given : (names : List (List ℕ)) (counts : List ℕ) → length counts ≡ length names → All (λ (count : ℕ). count ≡ 0) counts → asks_of names counts ≡ map given_ask names
plainly_given [] [] many zeros = refl
plainly_given [] (count ∷ counts) many zeros = absurd (omega (arith, many))
plainly_given (name ∷ names) [] many zeros = absurd (omega (arith, many))
plainly_given (name ∷ names) (count ∷ counts) many zeros =
    ap (λ (c : ℕ). counted name c ∷ asks_of names counts) (All-head (λ (c : ℕ). c ≡ 0) count counts zeros)
    ∙ ap (λ (l : List Ask). given_ask name ∷ l) (plainly_given names counts (omega (arith, many)) (All-tail (λ (c : ℕ). c ≡ 0) count counts zeros))

-- the first failed ask has a count that rose
pub some_counted : (names : List (List ℕ)) (counts : List ℕ) (at : ℕ) → first_failed_ask (asks_of names counts) ≡ Some at → (n : ℕ) × (count : ℕ) × (slice_get counts n ≡ Some count) × Rose 0 count
some_counted [] counts at is = absurd (cc)
some_counted (name ∷ names) [] at is = absurd (cc)
some_counted (name ∷ names) (count ∷ counts) at is = go (nat_lt 0 count) refl is (some_counted names counts)
  where
    go : (b : Bool) → nat_lt 0 count ≡ b → (if b then Some 0 else option_map (λ n. n + 1) (first_failed_ask (asks_of names counts))) ≡ Some at
        → ((k : ℕ) → first_failed_ask (asks_of names counts) ≡ Some k → (n : ℕ) × (c : ℕ) × (slice_get counts n ≡ Some c) × Rose 0 c)
        → (n : ℕ) × (k : ℕ) × (slice_get (count ∷ counts) n ≡ Some k) × Rose 0 k
    go true test found rest = (0, count, refl, omega (arith, above count test))
    go false test found rest = let p = past_first (first_failed_ask (asks_of names counts)) at found in let r = rest p.0 p.1 in (suc r.0, r.1, r.2, r.3)

-- a source's end and its count
abbrev pub Fits : Option worker.SourceEnd → ℕ → Type 0
Fits None count = count ≡ 0
Fits (Some End) count = count ≡ 0
Fits (Some (Malformed kind row)) count = count ≡ 0
Fits (Some ReadFailed) count = 0 < count
Fits (Some Closed) count = ⊥
Fits (Some Memory) count = ⊥

not_failed_ask : (name : List ℕ) (count : ℕ) (asks : List Ask) (o : Option ℕ) → count ≡ 0 → first_failed_ask asks ≡ o → first_failed_ask (counted name count ∷ asks) ≡ option_map (λ n. n + 1) o
not_failed_ask name count asks o none same = ap (λ (c : ℕ). first_failed_ask (counted name c ∷ asks)) none ∙ ap (option_map (λ n. n + 1)) same

is_above : (count : ℕ) → 0 < count → nat_lt 0 count ≡ true
is_above count more = grind (arith, nat_tests)

first_fits : (end : Option worker.SourceEnd) (name : List ℕ) (count : ℕ) (asks : List Ask) (ends : List (Option worker.SourceEnd)) → Fits end count → first_failed_ask asks ≡ first_failed ends → first_failed_ask (counted name count ∷ asks) ≡ first_failed (end ∷ ends)
first_fits None name count asks ends fits same = not_failed_ask name count asks (first_failed ends) fits same
first_fits (Some End) name count asks ends fits same = not_failed_ask name count asks (first_failed ends) fits same
first_fits (Some (Malformed kind row)) name count asks ends fits same = not_failed_ask name count asks (first_failed ends) fits same
first_fits (Some ReadFailed) name count asks ends fits same = ap (λ (b : Bool). if b then Some 0 else option_map (λ n. n + 1) (first_failed_ask asks)) (is_above count fits)
first_fits (Some Closed) name count asks ends fits same = absurd fits
first_fits (Some Memory) name count asks ends fits same = absurd fits

-- the first failed ask is that of the first source whose read failed
pub first_is : (names : List (List ℕ)) (ws : List Working) → length ws ≡ length names → ((n : ℕ) (w : Working) → slice_get ws n ≡ Some w → Fits w.end w.reader.source.count)
    → first_failed_ask (asks_of names (counts_of ws)) ≡ first_failed (ends_of ws)
first_is [] [] many fits = refl
first_is [] (w ∷ ws) many fits = absurd (omega (arith, many))
first_is (name ∷ names) [] many fits = absurd (omega (arith, many))
first_is (name ∷ names) (w ∷ ws) many fits =
    first_fits w.end name w.reader.source.count (asks_of names (counts_of ws)) (ends_of ws) (fits 0 w refl) (first_is names ws (omega (arith, many)) (λ n v is. fits (suc n) v is))

-- where no read failed, no end says so
pub none_failed : (ends : List (Option worker.SourceEnd)) → first_failed ends ≡ None → (n : ℕ) (end : Option worker.SourceEnd) → slice_get ends n ≡ Some end → end ≡ Some ReadFailed → ⊥
none_failed [] none n end is bad = absurd (cc)
none_failed (e ∷ ends) none zero end is bad =
    let same : e ≡ Some ReadFailed = cc in
    let not : is_failed_read e ≡ false = (none_first (is_failed_read e) (first_failed ends) none).0 in
    let so : is_failed_read e ≡ true = ap is_failed_read same in
    absurd (cc)
none_failed (e ∷ ends) none (suc n) end is bad = none_failed ends (none_first (is_failed_read e) (first_failed ends) none).1 n end is bad

no_place : (o : Option MalformedSource) → option_map one_further o ≡ None → o ≡ None
no_place None is = refl
no_place (Some m) is = absurd (cc)

-- where none is malformed, each end is well
pub none_malformed : (ends : List SourceEnd) → first_malformed ends ≡ None → (n : ℕ) (end : SourceEnd) → slice_get ends n ≡ Some end → end ≡ Whole
none_malformed [] none n end is = absurd (cc)
none_malformed (Whole ∷ ends) none zero end is = let same : Whole ≡ end = cc in sym same
none_malformed (Whole ∷ ends) none (suc n) end is = none_malformed ends (no_place (first_malformed ends) none) n end is
none_malformed (MalformedAt kind row ∷ ends) none n end is = absurd (cc)

-- the first names of those asked for, and the one that was not given
pub front_asked : (names : List (List ℕ)) (at : ℕ) (name : List ℕ) → slice_get names at ≡ Some name → (rest : List (List ℕ)) × (names ≡ map (λ ask. ask.name) (map given_ask (take at names) ++ failed_ask name ∷ []) ++ rest)
front_asked [] at name is = absurd (cc)
front_asked (x ∷ names) zero name is = let same : x ≡ name = cc in (names, ap (λ (n : List ℕ). n ∷ names) same)
front_asked (x ∷ names) (suc at) name is = let more = front_asked names at name is in (more.0, ap (λ (l : List (List ℕ)). x ∷ l) more.1)

pub first_not_given : (names : List (List ℕ)) (at : ℕ) (name : List ℕ) → slice_get names at ≡ Some name → first_failed_ask (map given_ask (take at names) ++ failed_ask name ∷ []) ≡ Some at
first_not_given [] at name is = absurd (cc)
first_not_given (x ∷ names) zero name is = refl
first_not_given (x ∷ names) (suc at) name is = ap (option_map (λ n. n + 1)) (first_not_given names at name is) ∙ ap Some (omega arith)

-- that one is the last
pub ask_not_given : (names : List (List ℕ)) (at : ℕ) (name : List ℕ) → slice_get names at ≡ Some name → slice_get (map given_ask (take at names) ++ failed_ask name ∷ []) at ≡ Some (failed_ask name)
ask_not_given [] at name is = absurd (cc)
ask_not_given (x ∷ names) zero name is = refl
ask_not_given (x ∷ names) (suc at) name is = ask_not_given names at name is

-- asks that were given, at a place
pub given_at : (asks : List Ask) (n : ℕ) (ask : Ask) → slice_get asks n ≡ Some ask → AreGiven asks → ask.given ≡ true
given_at [] n ask is all = absurd (cc)
given_at (a ∷ asks) zero ask is all = let same : a ≡ ask = cc in sym (ap (λ (b : Ask). b.given) same) ∙ All-head (λ (b : Ask). b.given ≡ true) a asks all
given_at (a ∷ asks) (suc n) ask is all = given_at asks n ask is (All-tail (λ (b : Ask). b.given ≡ true) a asks all)
