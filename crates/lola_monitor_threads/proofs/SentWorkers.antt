-- Seated workers that were sent away and came back, in the order in which they waited.
use Rattle.std.proofs.Common.{◌≡◌, ◌∙◌, ℕ, List, [], ◌∷◌, ◌++◌, ◌+◌, ◌<◌, ◌≤◌, Some, ap, append_assoc, arith, length, length-append, subst, sym}
use Rattle.std.proofs.lemmas.List.{append-nil}
use Rattle.std.specs.List.{All, AllZip}
use Rattle.std.proofs.lemmas.List.Elements.{All-pop, AllZip-push, length_all_zip}
use Rattle.lola_feed.specs.SharedIntakes.{IntakeId}
use Rattle.lola_monitor_threads.specs.Seated.{Seated, WentOn}

-- what holds of all that wait holds of the last, and of those before it
pub of_last : (P : Seated → Type 0) (waiting before : List Seated) (last : Seated) → waiting ≡ before ++ last ∷ [] → All P waiting → All P before × P last
of_last P waiting before last waited all = All-pop P waiting before (Some last) waited all

-- a seated worker that went on is at the same intake
pub still_at : (id : IntakeId) (mine got : Seated) → mine.seat.intake ≡ id → WentOn mine got → got.seat.intake ≡ id
still_at id mine got at went = went.seat.intake ∙ at

-- where seated workers went on, so did the last, and those before it
split_last : (xs ys : List Seated) (x y : Seated) → AllZip WentOn (xs ++ x ∷ []) (ys ++ y ∷ []) → AllZip WentOn xs ys × WentOn x y
split_last [] [] x y h = (tt, h.0)
split_last [] (b ∷ []) x y h = absurd h.1
split_last [] (b ∷ c ∷ ys) x y h = absurd h.1
split_last (a ∷ []) [] x y h = absurd h.1
split_last (a ∷ c ∷ xs) [] x y h = absurd h.1
split_last (a ∷ xs) (b ∷ ys) x y h = let rest = split_last xs ys x y h.1 in ((h.0, rest.0), rest.1)

-- the last that waited comes back behind those that waited before it
pub came_back : (waiting before : List Seated) (sent : Seated) (back now after : List Seated) (got : Seated) → waiting ≡ before ++ sent ∷ []
    → ((came : List Seated) × (now ≡ back ++ came) × AllZip WentOn before came) → after ≡ now ++ got ∷ [] → WentOn sent got
    → (came : List Seated) × (after ≡ back ++ came) × AllZip WentOn waiting came
came_back waiting before sent back now after got waited came more went = (
  came.0 ++ got ∷ [],
  more ∙ (ap (λ (workers : List Seated). workers ++ got ∷ []) came.1 ∙ append_assoc back came.0 (got ∷ [])),
  subst (λ (workers : List Seated). AllZip WentOn workers (came.0 ++ got ∷ [])) (sym waited) (AllZip-push WentOn before came.0 sent got came.2 went),
)

-- a seated worker that stays here for a while is the last here before and after
pub stayed_here : (here more now after : List Seated) (mine got : Seated) → more ≡ here ++ mine ∷ [] → AllZip WentOn more now → now ≡ after ++ got ∷ []
    → AllZip WentOn here after × WentOn mine got
stayed_here here more now after mine got put went last =
    split_last here after mine got (subst (λ (workers : List Seated). AllZip WentOn workers (after ++ got ∷ [])) put (subst (AllZip WentOn more) last went))

-- so there is a last one
pub some_here : (here more now : List Seated) (mine : Seated) → more ≡ here ++ mine ∷ [] → AllZip WentOn more now → 0 < length now
some_here here more now mine put went =
    let same = length_all_zip WentOn more now went in let one = length-append here (mine ∷ []) in let long = ap length put in omega arith

-- there is room for one more of those that waited
pub room_left : (waiting before : List Seated) (sent : Seated) (back now : List Seated) (room : ℕ) → waiting ≡ before ++ sent ∷ []
    → ((came : List Seated) × (now ≡ back ++ came) × AllZip WentOn before came) → length waiting + length back ≤ room → length now < room
room_left waiting before sent back now room waited came room_back =
    let long = ap length waited in let one = length-append before (sent ∷ []) in let same = length_all_zip WentOn before came.0 came.2 in let both = ap length came.1 in
    let added = length-append back came.0 in omega arith

-- what holds of values holds of equal ones
pub of_equal : {A : Type 0} (P : A → Type 0) (a other : A) → other ≡ a → P a → P other
of_equal P a other e h = subst P (sym e) h

pub of_equals : {A B C D : Type 0} (P : A → B → C → D → Type 0) (a otherA : A) (b otherB : B) (c otherC : C) (d otherD : D) → otherA ≡ a → otherB ≡ b → otherC ≡ c → otherD ≡ d → P a b c d
    → P otherA otherB otherC otherD
of_equals P a otherA b otherB c otherC d otherD ea eb ec ed h =
    subst (λ x. P x otherB otherC otherD) (sym ea) (subst (λ x. P a x otherC otherD) (sym eb) (subst (λ x. P a b x otherD) (sym ec) (subst (λ x. P a b c x) (sym ed) h)))

-- where none waits none comes back
pub none_came : (waiting back : List Seated) → length waiting ≡ 0 → (came : List Seated) × (back ≡ back ++ came) × AllZip WentOn waiting came
none_came [] back none = ([], sym (append-nil back), tt)
none_came (x ∷ xs) back none = absurd (omega (arith, none))
