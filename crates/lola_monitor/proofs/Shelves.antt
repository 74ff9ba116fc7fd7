-- A shelf that was asked for a name, and has the source back.
use Rattle.std.proofs.Common.{◌≡◌, ℕ, List, [], ◌∷◌, ◌++◌, inr, Option, length, refl, ap, ◌∙◌, arith}
use Rattle.std.proofs.lemmas.Bool.Decides.{nat_tests}
use Rattle.lola_port.specs.Asks.{IsGivenAt, count_set, given_ask}
use Rattle.lola_port.specs.States.{IsFresh, Rose, ShelfState, SourceState, back, lent, raised}
use Rattle.lola_port.specs.declared.traits.Ask.{Ask}
use Rattle.lola_monitor.specs.Outcomes.{Marred, Stopped, noted}

-- the last ask was given
pub given_last : (asks : List Ask) (name : List ℕ) → IsGivenAt (asks ++ given_ask name ∷ []) (length asks)
given_last [] name = refl
given_last (ask ∷ asks) name = given_last asks name

count_last : (asks : List Ask) (name : List ℕ) (count : ℕ) → count_set (asks ++ given_ask name ∷ []) (length asks) count ≡ asks ++ record (given_ask name) { count = count } ∷ []
count_last [] name count = refl
count_last (ask ∷ asks) name count = ap (λ (l : List Ask). ask ∷ l) (count_last asks name count)

raised_none : (count : ℕ) → raised count 0 ≡ count
raised_none count = omega arith

-- the shelf after a source came back
pub record CameBack (name : List ℕ) (before after : ShelfState) (file : SourceState) : Type 0 where
  pub told : after.told ≡ before.told
  pub asks : after.asks ≡ before.asks ++ record (given_ask name) { count = file.count } ∷ []
  pub count : after.count ≡ raised before.count file.count
  pub out : after.out ≡ before.out

pub came_back : (name : List ℕ) (before mid after : ShelfState) (first file : SourceState) → IsFresh before name first → mid ≡ lent before name → file.place ≡ first.place → after ≡ back mid file → CameBack name before after file
came_back name before mid after first file fresh is place returned =
    let all : after ≡ back (lent before name) file = returned ∙ ap (λ s. back s file) is in
    record {
      told = ap (λ s. s.told) all;
      asks = ap (λ s. s.asks) all ∙ ap (λ p. count_set (before.asks ++ given_ask name ∷ []) p file.count) (place ∙ fresh.place) ∙ count_last before.asks name file.count;
      count = ap (λ s. s.count) all;
      out = ap (λ s. s.out) all ∙ (omega arith);
    }

-- it has not failed
pub whole : (name : List ℕ) (before after : ShelfState) (file : SourceState) → CameBack name before after file → file.count ≡ 0 → after ≡ noted before name
whole name before after file came none =
    let asks : after.asks ≡ before.asks ++ given_ask name ∷ [] = came.asks ∙ ap (λ n. before.asks ++ record (given_ask name) { count = n } ∷ []) none in
    let count : after.count ≡ before.count = came.count ∙ ap (raised before.count) none ∙ raised_none before.count in
    ap (λ (t : List ℕ → Option (List ℕ)). record { told = t; asks = after.asks; count = after.count; out = after.out }) came.told
    ∙ ap (λ (a : List Ask). record { told = before.told; asks = a; count = after.count; out = after.out }) asks
    ∙ ap (λ (n : ℕ). record { told = before.told; asks = before.asks ++ given_ask name ∷ []; count = n; out = after.out }) count
    ∙ ap (λ (n : ℕ). record { told = before.told; asks = before.asks ++ given_ask name ∷ []; count = before.count; out = n }) came.out

-- it has failed
abbrev pub marred : (name : List ℕ) (before after : ShelfState) (file : SourceState) → CameBack name before after file → Rose 0 file.count → Marred name before after
marred name before after file came rose = record {
  ask = record (given_ask name) { count = file.count };
  name_is = refl;
  has_failed = grind (arith, nat_tests);
  asks = came.asks;
  out = came.out;
  told = came.told;
  rose = omega (arith, came.count, rose);
}

pub stopped : (name : List ℕ) (before after : ShelfState) (file : SourceState) → CameBack name before after file → Stopped name before after
stopped name before after file came = record {
  asks = inr (record (given_ask name) { count = file.count }, refl, came.asks);
  out = came.out;
}
