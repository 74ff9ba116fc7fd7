-- A shelf that gets its sources back.
use Rattle.std.proofs.Common.{◌≡◌, ℕ, zero, suc, ◌+◌, ◌-◌, ◌<◌, ◌≤◌, List, [], ◌∷◌, ◌++◌, Option, Some, Err, map, length, take, drop, get_or, slice_get, refl, sym, ap, ◌∙◌, subst, arith, append_assoc, append-nil}
use Rattle.std.proofs.lemmas.List.{length-map}
use Rattle.lola_port.specs.Asks.{IsGivenAt, count_set, failed_ask, given_ask}
use Rattle.lola_port.specs.States.{Rose, ShelfState, SourceState, back}
use Rattle.lola_port.specs.declared.traits.Ask.{Ask}
use Rattle.lola_rows.specs.Reading.{Shape}
use Rattle.lola_feed.specs.Feeding.{Working}
use Rattle.lola_feed.specs.declared.sources.FetchStop.{FetchStop}
use Rattle.lola_feed.specs.declared.sources.FetchStop.TheVariants as fetch
use Rattle.lola_feed.specs.Fetching.{HasFetched, HasLent}
use Rattle.lola_feed.specs.Lending.{AreGiven, AreInPlace, Fetches, HasReturned, IsLent, IsLentTo, all_back, asks_of, counts_of, places_of, sources_of}
use Rattle.lola_feed.proofs.Shelves.{HavePlaces, asks_lent, unfailing, given_lent, length_last, lengths_lent, places_lent}

count_front : (asks : List Ask) (ask : Ask) (rest : List Ask) (count : ℕ) → count_set (asks ++ ask ∷ rest) (length asks) count ≡ asks ++ record ask { count = count } ∷ rest
count_front [] ask rest count = refl
count_front (a ∷ asks) ask rest count = ap (λ (l : List Ask). a ∷ l) (count_front asks ask rest count)

-- all come back: each ask has the count of its source
asks_back : (names : List (List ℕ)) (workers : List Working) (shelf : ShelfState) (before more : List Ask) → shelf.asks ≡ before ++ (map given_ask names ++ more) → HavePlaces (length before) workers → length workers ≡ length names → (all_back shelf (sources_of workers)).asks ≡ before ++ (asks_of names (counts_of workers) ++ more)
asks_back [] [] shelf before more is places same = is
asks_back (name ∷ names) (worker ∷ workers) shelf before more is places same =
    let file : SourceState = worker.reader.source in
    let ask : Ask = record (given_ask name) { count = file.count } in
    let rest : List Ask = map given_ask names ++ more in
    let now : (back shelf file).asks ≡ (before ++ ask ∷ []) ++ rest =
    ap (λ (l : List Ask). count_set l file.place file.count) is ∙ ap (λ p. count_set (before ++ (given_ask name ∷ rest)) p file.count) places.0 ∙ count_front before (given_ask name) rest file.count ∙ sym (append_assoc before (ask ∷ []) rest) in
    asks_back names workers (back shelf file) (before ++ ask ∷ []) more now (subst (λ p. HavePlaces p workers) (sym (length_last before ask)) places.1) (omega arith) ∙ append_assoc before (ask ∷ []) (asks_of names (counts_of workers) ++ more)
asks_back [] (worker ∷ workers) shelf before more is places same = absurd (omega arith)
asks_back (name ∷ names) [] shelf before more is places same = absurd (omega arith)

told_back : (shelf : ShelfState) (workers : List Working) → (all_back shelf (sources_of workers)).told ≡ shelf.told
told_back shelf [] = refl
told_back shelf (worker ∷ workers) = told_back (back shelf worker.reader.source) workers

out_back : (shelf : ShelfState) (workers : List Working) → (all_back shelf (sources_of workers)).out ≡ shelf.out - length workers
out_back shelf [] = omega arith
out_back shelf (worker ∷ workers) = out_back (back shelf worker.reader.source) workers ∙ (omega arith)

-- where no source has failures, the shelf has no more than before
count_same : (shelf : ShelfState) (workers : List Working) → ((k d : ℕ) → k < length (counts_of workers) → get_or (counts_of workers) k d ≡ 0) → (all_back shelf (sources_of workers)).count ≡ shelf.count
count_same shelf [] none = refl
count_same shelf (worker ∷ workers) none =
    let here : worker.reader.source.count ≡ 0 = none 0 0 (omega arith) in
    count_same (back shelf worker.reader.source) workers (λ k d h. none (suc k) d (omega arith)) ∙ (omega (arith, here))

count_grows : (shelf : ShelfState) (workers : List Working) → shelf.count ≤ (all_back shelf (sources_of workers)).count
count_grows shelf [] = omega arith
count_grows shelf (worker ∷ workers) = let more = count_grows (back shelf worker.reader.source) workers in omega (arith, more)

count_rose : (shelf : ShelfState) (workers : List Working) (s count : ℕ) → slice_get (counts_of workers) s ≡ Some count → Rose 0 count → Rose shelf.count (all_back shelf (sources_of workers)).count
count_rose shelf [] s count is rose = cc
count_rose shelf (worker ∷ workers) zero count is rose =
    let here : worker.reader.source.count ≡ count = cc in
    let more = count_grows (back shelf worker.reader.source) workers in
    omega (arith, here, more, rose)
count_rose shelf (worker ∷ workers) (suc s) count is rose =
    let later = count_rose (back shelf worker.reader.source) workers s count is rose in
    omega (arith, later)

-- the places of those that the shelf has lent
each_place : (told : List ℕ → Option (List ℕ)) (place : ℕ) (names : List (List ℕ)) (rooms : List Shape) (workers : List Working) → length rooms ≡ length names → length workers ≡ length names
    → ((s : ℕ) (name : List ℕ) (room : Shape) (worker : Working) → slice_get names s ≡ Some name → slice_get rooms s ≡ Some room → slice_get workers s ≡ Some worker → IsLentTo told (place + s) name room worker) → HavePlaces place workers
each_place told place names rooms [] many same each = tt
each_place told place [] rooms (w ∷ workers) many same each = absurd (omega arith)
each_place told place (n ∷ names) [] (w ∷ workers) many same each = absurd (omega arith)
each_place told place (n ∷ names) (r ∷ rooms) (w ∷ workers) many same each =
    let here = each 0 n r w refl refl refl in
    (ap (λ (w : Working). w.reader.source.place) here.is ∙ here.place ∙ (omega arith), each_place told (place + 1) names rooms workers (omega arith) (omega arith) (λ s name room worker en er ew. subst (λ p. IsLentTo told p name room worker) (step s) (each (suc s) name room worker en er ew)))
  where
    step : (s : ℕ) → place + suc s ≡ place + 1 + s
    step s = omega arith

-- workers whose sources have the same places
same_places : (place : ℕ) (olds news : List Working) → HavePlaces place olds → places_of news ≡ places_of olds → HavePlaces place news
same_places place olds [] have is = tt
same_places place [] (new ∷ news) have is = cc
same_places place (old ∷ olds) (new ∷ news) have is =
    let here : new.reader.source.place ≡ old.reader.source.place = cc in
    (here ∙ have.0, same_places (place + 1) olds news have.1 (cc))

same_lengths : (olds news : List Working) → places_of news ≡ places_of olds → length news ≡ length olds
same_lengths olds news is = sym (length-map news (λ (w : Working). w.reader.source.place)) ∙ ap length is ∙ length-map olds (λ (w : Working). w.reader.source.place)

-- all that were lent came back, after whatever their workers did
pub returned : (names : List (List ℕ)) (rooms : List Shape) (before mid after : ShelfState) (lent workers : List Working) → IsLent names rooms before mid lent → AreInPlace lent workers → after ≡ all_back mid (sources_of workers) → HasReturned names (counts_of workers) before after
returned names rooms before mid after lent workers so places is =
    let same : length workers ≡ length names = same_lengths lent workers places ∙ so.many in
    let have = same_places (length before.asks) lent workers (each_place before.told (length before.asks) names rooms lent so.room so.many so.each) places in
    let asks : mid.asks ≡ before.asks ++ (map given_ask names ++ []) = so.asks ∙ ap (λ (l : List Ask). before.asks ++ l) (sym (append-nil (map given_ask names))) in
    record {
      told = ap (λ (s : ShelfState). s.told) is ∙ told_back mid workers ∙ so.told;
      asks = ap (λ (s : ShelfState). s.asks) is ∙ asks_back names workers mid before.asks [] asks have same ∙ ap (λ (l : List Ask). before.asks ++ l) (append-nil (asks_of names (counts_of workers)));
      out = ap (λ (s : ShelfState). s.out) is ∙ out_back mid workers ∙ (omega (arith, so.out, same));
      unfailed = λ none. ap (λ (s : ShelfState). s.count) is ∙ count_same mid workers none ∙ so.count;
      failed = λ s count at rose. subst (λ n. Rose n after.count) so.count (subst (λ (last : ShelfState). Rose mid.count last.count) (sym is) (count_rose mid workers s count at rose));
    }

-- the shelf after those before an ask that failed came back
record AreHome (names : List (List ℕ)) (more : List Ask) (before after last : ShelfState) : Type 0 where
  told : last.told ≡ after.told
  asks : last.asks ≡ before.asks ++ (map given_ask names ++ more)
  out : last.out ≡ before.out
  count : last.count ≡ after.count

more_asks : (names : List (List ℕ)) (rooms : List Shape) (before mid after : ShelfState) (workers : List Working) (more : List Ask) → HasLent names rooms before mid workers → after.asks ≡ mid.asks ++ more → after.asks ≡ before.asks ++ (map given_ask names ++ more)
more_asks names rooms before mid after workers more so asks = asks ∙ ap (λ (l : List Ask). l ++ more) so.asks ∙ append_assoc before.asks (map given_ask names) more

home : (names : List (List ℕ)) (rooms : List Shape) (before mid after last : ShelfState) (workers : List Working) (more : List Ask) → HasLent names rooms before mid workers → after.asks ≡ mid.asks ++ more → after.out ≡ mid.out → last ≡ all_back after (sources_of workers) → AreHome names more before after last
home names rooms before mid after last workers more so asks out is =
    let same = (lengths_lent before.told (length before.asks) names rooms workers so.lent).1 in
    let have = places_lent before.told (length before.asks) names rooms workers so.lent in
    record {
      told = ap (λ (s : ShelfState). s.told) is ∙ told_back after workers;
      asks = ap (λ (s : ShelfState). s.asks) is ∙ asks_back names workers after before.asks more (more_asks names rooms before mid after workers more so asks) have same ∙ ap (λ (l : List Ask). before.asks ++ (l ++ more)) (asks_lent before.told (length before.asks) names rooms workers so.lent);
      out = ap (λ (s : ShelfState). s.out) is ∙ out_back after workers ∙ (omega (arith, out, so.out, same));
      count = ap (λ (s : ShelfState). s.count) is ∙ count_same after workers (unfailing before.told (length before.asks) names rooms workers so.lent);
    }

-- after a fetch that failed, those that were given can come back
pub record CanReturn (after : ShelfState) (workers : List Working) : Type 0 where
  pub given : AreGiven after.asks (places_of workers)
  pub out : length workers ≤ after.out

can_return : (names : List (List ℕ)) (rooms : List Shape) (before mid after : ShelfState) (workers : List Working) (more : List Ask) → HasLent names rooms before mid workers → after.asks ≡ mid.asks ++ more → after.out ≡ mid.out → CanReturn after workers
can_return names rooms before mid after workers more so asks out =
    let same = (lengths_lent before.told (length before.asks) names rooms workers so.lent).1 in
    let have = places_lent before.told (length before.asks) names rooms workers so.lent in
    record {
      given = subst (λ (l : List Ask). AreGiven l (places_of workers)) (sym (more_asks names rooms before mid after workers more so asks)) (given_lent before.asks more names workers have same);
      out = omega (arith, out, so.out, same);
    }

pub returnable : (stop : FetchStop) (names : List (List ℕ)) (rooms : List Shape) (before after : ShelfState) (workers : List Working) → HasFetched (Err stop) names rooms before after workers → CanReturn after workers
returnable (fetch.Failed at) names rooms before after workers so = can_return (take at names) (take at rooms) before so.mid after workers (failed_ask so.name ∷ []) so.lent so.broke.asks so.broke.out
returnable fetch.Memory names rooms before after workers so = can_return (take so.asked names) (take so.asked rooms) before after after workers [] so.lent (sym (append-nil after.asks)) refl

-- once they are back
pub stopped : (stop : FetchStop) (names : List (List ℕ)) (rooms : List Shape) (before after last : ShelfState) (workers now : List Working) → HasFetched (Err stop) names rooms before after workers → last ≡ all_back after (sources_of workers) → Fetches (Err stop) names rooms before last now
stopped (fetch.Failed at) names rooms before after last workers now so is =
    let all = home (take at names) (take at rooms) before so.mid after last workers (failed_ask so.name ∷ []) so.lent so.broke.asks so.broke.out is in
    record {
      name = so.name;
      is = so.is;
      asks = all.asks;
      told = all.told ∙ so.broke.told ∙ so.lent.told;
      out = all.out;
      rose = omega (arith, all.count, so.broke.rose, so.lent.count);
    }
stopped fetch.Memory names rooms before after last workers now so is =
    let all = home (take so.asked names) (take so.asked rooms) before after after last workers [] so.lent (sym (append-nil after.asks)) refl is in
    record { asked = so.asked; asks = all.asks ∙ ap (λ (l : List Ask). before.asks ++ l) (append-nil (map given_ask (take so.asked names))); out = all.out }

given_kept : (asks : List Ask) (place other count : ℕ) → IsGivenAt asks other → IsGivenAt (count_set asks place count) other
given_kept [] place other count given = given
given_kept (a ∷ asks) zero zero count given = given
given_kept (a ∷ asks) zero (suc other) count given = given
given_kept (a ∷ asks) (suc place) zero count given = given
given_kept (a ∷ asks) (suc place) (suc other) count given = given_kept asks place other count given

pub split_front : {A : Type 0} (xs : List A) (x : A) (rest : List A) → 0 < length xs → x ≡ get_or xs 0 x → rest ≡ drop 1 xs → xs ≡ x ∷ rest
split_front [] x rest some is more = absurd (omega arith)
split_front (y ∷ xs) x rest some is more = cc

-- the first one can come back
pub front_given : (asks : List Ask) (workers rest : List Working) (worker : Working) (file : SourceState) → workers ≡ worker ∷ rest → file ≡ worker.reader.source → AreGiven asks (places_of workers) → IsGivenAt asks file.place
front_given asks workers rest worker file are is given =
    let all = subst (λ (ws : List Working). AreGiven asks (places_of ws)) are given in
    subst (λ (f : SourceState). IsGivenAt asks f.place) (sym is) (all 0 0 (omega arith))

-- it came back
pub record IsBack (shelf after first : ShelfState) (rest all : List Working) : Type 0 where
  pub given : AreGiven after.asks (places_of rest)
  pub out : length rest ≤ after.out
  pub all_is : all_back after (sources_of rest) ≡ all_back first (sources_of all)

pub one_back : (shelf after first : ShelfState) (worker : Working) (file : SourceState) (workers rest all : List Working) → workers ≡ worker ∷ rest → file ≡ worker.reader.source → after ≡ back shelf file → AreGiven shelf.asks (places_of workers) → length workers ≤ shelf.out
    → all_back shelf (sources_of workers) ≡ all_back first (sources_of all) → IsBack shelf after first rest all
one_back shelf after first worker file workers rest all are is after_is given out same =
    let now : after ≡ back shelf worker.reader.source = after_is ∙ ap (back shelf) is in
    let each = subst (λ (ws : List Working). AreGiven shelf.asks (places_of ws)) are given in
    let long : length workers ≡ length rest + 1 = ap length are ∙ (omega arith) in
    record {
      given = subst (λ (s : ShelfState). AreGiven s.asks (places_of rest)) (sym now) (λ k d h. given_kept shelf.asks worker.reader.source.place (get_or (places_of rest) k d) worker.reader.source.count (each (suc k) d (omega arith)));
      out = subst (λ (s : ShelfState). length rest ≤ s.out) (sym now) (omega (arith, long, out));
      all_is = ap (λ (s : ShelfState). all_back s (sources_of rest)) now ∙ ap (λ (ws : List Working). all_back shelf (sources_of ws)) (sym are) ∙ same;
    }
