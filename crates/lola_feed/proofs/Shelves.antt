-- A shelf that lent several sources.
use Rattle.std.proofs.Common.{◌≡◌, ℕ, zero, suc, ◌+◌, ◌<◌, List, [], ◌∷◌, ◌++◌, Option, Some, map, length, get_or, slice_get, refl, sym, ap, ◌∙◌, subst, arith, append_assoc, append-nil, length-append}
use Rattle.std.proofs.lemmas.List.{length-map, map-append}
use Rattle.lola_port.specs.Asks.{IsGivenAt, given_ask}
use Rattle.lola_port.specs.States.{ShelfState, lent}
use Rattle.lola_port.specs.declared.traits.Ask.{Ask}
use Rattle.lola_rows.specs.Reading.{Shape}
use Rattle.lola_feed.specs.Feeding.{Working}
use Rattle.lola_feed.specs.Fetching.{AreLentTo, HasLent}
use Rattle.lola_feed.specs.Lending.{AreGiven, IsLent, IsLentTo, asks_of, counts_of, places_of}

-- the sources' places go up by one from a number
abbrev pub HavePlaces : ℕ → List Working → Type 0
HavePlaces place [] = Unit {0}
HavePlaces place (worker ∷ workers) = (worker.reader.source.place ≡ place) × HavePlaces (place + 1) workers

pub length_last : (asks : List Ask) (ask : Ask) → length (asks ++ ask ∷ []) ≡ length asks + 1
length_last asks ask = omega (arith, length-append asks (ask ∷ []))

same_lent : (told : List ℕ → Option (List ℕ)) (p q : ℕ) (n name : List ℕ) (r room : Shape) (w worker : Working) → p ≡ q → n ≡ name → r ≡ room → w ≡ worker → IsLentTo told p n r w → IsLentTo told q name room worker
same_lent told p q n name r room w worker ep en er ew is =
    subst (λ p. IsLentTo told p name room worker) ep (subst (λ n. IsLentTo told p n room worker) en (subst (λ r. IsLentTo told p n r worker) er (subst (λ w. IsLentTo told p n r w) ew is)))

lent_last : (told : List ℕ → Option (List ℕ)) (place : ℕ) (names : List (List ℕ)) (rooms : List Shape) (workers : List Working) (name : List ℕ) (room : Shape) (worker : Working) → AreLentTo told place names rooms workers → IsLentTo told (place + length names) name room worker → AreLentTo told place (names ++ name ∷ []) (rooms ++ room ∷ []) (workers ++ worker ∷ [])
lent_last told place [] [] [] name room worker are is = (same_lent told _ place name name room room worker worker (omega arith) refl refl refl is, tt)
lent_last told place (n ∷ names) (r ∷ rooms) (w ∷ workers) name room worker are is = (are.0, lent_last told (place + 1) names rooms workers name room worker are.1 (same_lent told (place + length (n ∷ names)) (place + 1 + length names) name name room room worker worker (omega arith) refl refl refl is))
lent_last told place names rooms workers name room worker are is = absurd are

pub lengths_lent : (told : List ℕ → Option (List ℕ)) (place : ℕ) (names : List (List ℕ)) (rooms : List Shape) (workers : List Working) → AreLentTo told place names rooms workers → (length rooms ≡ length names) × (length workers ≡ length names)
lengths_lent told place [] [] [] are = (refl, refl)
lengths_lent told place (n ∷ names) (r ∷ rooms) (w ∷ workers) are = let e = lengths_lent told (place + 1) names rooms workers are.1 in (ap suc e.0, ap suc e.1)
lengths_lent told place names rooms workers are = absurd are

each_lent : (told : List ℕ → Option (List ℕ)) (place : ℕ) (names : List (List ℕ)) (rooms : List Shape) (workers : List Working) → AreLentTo told place names rooms workers
    → (s : ℕ) (name : List ℕ) (room : Shape) (worker : Working) → slice_get names s ≡ Some name → slice_get rooms s ≡ Some room → slice_get workers s ≡ Some worker → IsLentTo told (place + s) name room worker
each_lent told place [] [] [] are s name room worker en er ew = cc
each_lent told place (n ∷ names) (r ∷ rooms) (w ∷ workers) are zero name room worker en er ew = same_lent told place (place + zero) n name r room w worker (omega arith) (cc) (cc) (cc) are.0
each_lent told place (n ∷ names) (r ∷ rooms) (w ∷ workers) are (suc s) name room worker en er ew = same_lent told (place + 1 + s) (place + suc s) name name room room worker worker (omega arith) refl refl refl (each_lent told (place + 1) names rooms workers are.1 s name room worker en er ew)
each_lent told place names rooms workers are s name room worker en er ew = absurd are

pub places_lent : (told : List ℕ → Option (List ℕ)) (place : ℕ) (names : List (List ℕ)) (rooms : List Shape) (workers : List Working) → AreLentTo told place names rooms workers → HavePlaces place workers
places_lent told place [] [] [] are = tt
places_lent told place (n ∷ names) (r ∷ rooms) (w ∷ workers) are = (ap (λ (w : Working). w.reader.source.place) are.0.is ∙ are.0.place, places_lent told (place + 1) names rooms workers are.1)
places_lent told place names rooms workers are = absurd are

-- asks of sources that have no failures are as they were given
pub asks_lent : (told : List ℕ → Option (List ℕ)) (place : ℕ) (names : List (List ℕ)) (rooms : List Shape) (workers : List Working) → AreLentTo told place names rooms workers → asks_of names (counts_of workers) ≡ map given_ask names
asks_lent told place [] [] [] are = refl
asks_lent told place (n ∷ names) (r ∷ rooms) (w ∷ workers) are =
    let none : w.reader.source.count ≡ 0 = ap (λ (w : Working). w.reader.source.count) are.0.is ∙ are.0.count in
    ap (λ (c : ℕ). record (given_ask n) { count = c } ∷ asks_of names (counts_of workers)) none ∙ ap (λ (l : List Ask). given_ask n ∷ l) (asks_lent told (place + 1) names rooms workers are.1)
asks_lent told place names rooms workers are = absurd are

pub unfailing : (told : List ℕ → Option (List ℕ)) (place : ℕ) (names : List (List ℕ)) (rooms : List Shape) (workers : List Working) → AreLentTo told place names rooms workers → (k d : ℕ) → k < length (counts_of workers) → get_or (counts_of workers) k d ≡ 0
unfailing told place [] [] [] are k d h = absurd (omega arith)
unfailing told place (n ∷ names) (r ∷ rooms) (w ∷ workers) are zero d h = ap (λ (w : Working). w.reader.source.count) are.0.is ∙ are.0.count
unfailing told place (n ∷ names) (r ∷ rooms) (w ∷ workers) are (suc k) d h = unfailing told (place + 1) names rooms workers are.1 k d (omega arith)
unfailing told place names rooms workers are k d h = absurd are

-- those that were lent are out
given_here : (before : List Ask) (name : List ℕ) (rest : List Ask) → IsGivenAt (before ++ given_ask name ∷ rest) (length before)
given_here [] name rest = refl
given_here (a ∷ before) name rest = given_here before name rest

pub given_lent : (before more : List Ask) (names : List (List ℕ)) (workers : List Working) → HavePlaces (length before) workers → length workers ≡ length names
    → (k d : ℕ) → k < length (places_of workers) → IsGivenAt (before ++ (map given_ask names ++ more)) (get_or (places_of workers) k d)
given_lent before more names [] places same k d h = absurd (omega arith)
given_lent before more [] (w ∷ workers) places same k d h = absurd (omega arith)
given_lent before more (name ∷ names) (w ∷ workers) places same zero d h = subst (λ p. IsGivenAt (before ++ (given_ask name ∷ (map given_ask names ++ more))) p) (sym places.0) (given_here before name (map given_ask names ++ more))
given_lent before more (name ∷ names) (w ∷ workers) places same (suc k) d h =
    let next = given_lent (before ++ given_ask name ∷ []) more names workers (subst (λ p. HavePlaces p workers) (sym (length_last before (given_ask name))) places.1) (omega arith) k d (omega arith) in
    subst (λ (l : List Ask). IsGivenAt l (get_or (places_of workers) k d)) (append_assoc before (given_ask name ∷ []) (map given_ask names ++ more)) next

-- one source more
pub lent_more : (names : List (List ℕ)) (rooms : List Shape) (before mid after : ShelfState) (workers : List Working) (name : List ℕ) (room : Shape) (worker : Working) → HasLent names rooms before mid workers → after ≡ lent mid name → IsLentTo mid.told (length mid.asks) name room worker → HasLent (names ++ name ∷ []) (rooms ++ room ∷ []) before after (workers ++ worker ∷ [])
lent_more names rooms before mid after workers name room worker so is new =
    let place : length mid.asks ≡ length before.asks + length names = ap length so.asks ∙ length-append before.asks (map given_ask names) ∙ ap (λ n. length before.asks + n) (length-map names given_ask) in
    record {
      told = ap (λ (s : ShelfState). s.told) is ∙ so.told;
      asks = ap (λ (s : ShelfState). s.asks) is ∙ ap (λ (l : List Ask). l ++ given_ask name ∷ []) so.asks ∙ append_assoc before.asks (map given_ask names) (given_ask name ∷ []) ∙ ap (λ (l : List Ask). before.asks ++ l) (sym (map-append given_ask names (name ∷ [])));
      count = ap (λ (s : ShelfState). s.count) is ∙ so.count;
      out = ap (λ (s : ShelfState). s.out) is ∙ (omega (arith, so.out, length-append names (name ∷ [])));
      lent = lent_last before.told (length before.asks) names rooms workers name room worker so.lent (subst (λ (t : List ℕ → Option (List ℕ)). IsLentTo t (length before.asks + length names) name room worker) so.told (subst (λ p. IsLentTo mid.told p name room worker) place new));
    }

-- all names were given
pub all_lent : (names : List (List ℕ)) (rooms : List Shape) (before after : ShelfState) (workers : List Working) → HasLent names rooms before after workers → IsLent names rooms before after workers
all_lent names rooms before after workers so =
    let lengths = lengths_lent before.told (length before.asks) names rooms workers so.lent in
    let asks : after.asks ≡ before.asks ++ (map given_ask names ++ []) = so.asks ∙ ap (λ (l : List Ask). before.asks ++ l) (sym (append-nil (map given_ask names))) in
    record {
      told = so.told;
      asks = so.asks;
      count = so.count;
      out = so.out;
      many = lengths.1;
      room = lengths.0;
      each = each_lent before.told (length before.asks) names rooms workers so.lent;
      given = subst (λ (l : List Ask). AreGiven l (places_of workers)) (sym asks) (given_lent before.asks [] names workers (places_lent before.told (length before.asks) names rooms workers so.lent) lengths.1);
    }
