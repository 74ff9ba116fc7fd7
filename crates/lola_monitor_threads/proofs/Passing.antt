-- Seated workers that stay here go on, one after another.
use Rattle.std.proofs.Common.{◌≡◌, ℕ, zero, suc, ◌<◌, List, [], ◌∷◌, refl, ◌∙◌, arith, length, get_or, slice_set}
use Rattle.std.specs.List.{AllZip}
use Rattle.std.proofs.lemmas.Slice.Zip.{AllZip-long}
use Rattle.lola_monitor_threads.specs.Seated.{Seated, WentOn}

-- a seated worker that took no turn went on
pub stays_there : (p : Seated) → WentOn p p
stays_there p = record {
  seat = record { intake = refl; source = refl; in_order = refl };
  kept = record { shape = refl; place = refl };
  offers = λ from h. h;
}

-- a seated worker that went on twice went on
pub goes_on_twice : (p q r : Seated) → WentOn p q → WentOn q r → WentOn p r
goes_on_twice p q r first second = record {
  seat = record {
    intake = second.seat.intake ∙ first.seat.intake;
    source = second.seat.source ∙ first.seat.source;
    in_order = second.seat.in_order ∙ first.seat.in_order;
  };
  kept = record { shape = second.kept.shape ∙ first.kept.shape; place = second.kept.place ∙ first.kept.place };
  offers = λ from h. second.offers from (first.offers from h);
}

-- so it is with all seated workers
pub all_stay : (ps : List Seated) → AllZip WentOn ps ps
all_stay [] = tt
all_stay (p ∷ ps) = (stays_there p, all_stay ps)

pub all_go_on_twice : (ps qs rs : List Seated) → AllZip WentOn ps qs → AllZip WentOn qs rs → AllZip WentOn ps rs
all_go_on_twice [] [] [] first second = tt
all_go_on_twice [] [] (r ∷ rs) first second = absurd second
all_go_on_twice [] (q ∷ qs) rs first second = absurd first
all_go_on_twice (p ∷ ps) [] rs first second = absurd first
all_go_on_twice (p ∷ ps) (q ∷ qs) [] first second = absurd second
all_go_on_twice (p ∷ ps) (q ∷ qs) (r ∷ rs) first second = (goes_on_twice p q r first.0 second.0, all_go_on_twice ps qs rs first.1 second.1)

-- one of them went on at its place
pub went_on_at : (ps : List Seated) (k : ℕ) (d q : Seated) → k < length ps → WentOn (get_or ps k d) q → AllZip WentOn ps (slice_set ps k q)
went_on_at [] k d q less went = absurd (omega arith)
went_on_at (p ∷ ps) zero d q less went = (went, all_stay ps)
went_on_at (p ∷ ps) (suc k) d q less went = (stays_there p, went_on_at ps k d q (omega arith) went)

-- there are as many of them
pub as_many_on : (ps qs : List Seated) → AllZip WentOn ps qs → length qs ≡ length ps
as_many_on ps qs went = AllZip-long WentOn ps qs went
