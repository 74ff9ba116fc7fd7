-- A fetch of one source after another.
use Rattle.std.proofs.Common.{◌≡◌, ℕ, zero, suc, ◌+◌, ◌<◌, List, [], ◌∷◌, ◌++◌, Some, Result, Err, map, length, take, drop, get_or, slice_get, refl, sym, ap, ◌∙◌, subst, arith}
use Rattle.std.proofs.lemmas.List.{drop_more, get_or-drop, length-drop, take_more}
use Rattle.std.proofs.lemmas.Option.{get_or_from_slice_get, slice_get_read, slice_get_within}
use Rattle.std.specs.Prelude.{IsErrOf}
use Rattle.lola_port.specs.States.{FetchBroke, ShelfState, lent}
use Rattle.lola_port.specs.declared.traits.FetchEnd.{FetchEnd}
use Rattle.lola_port.specs.declared.traits.FetchEnd.TheVariants.{Failed}
use Rattle.lola_rows.specs.Reading.{Shape}
use Rattle.lola_feed.specs.Feeding.{Working}
use Rattle.lola_feed.specs.Fetching.{HasLent}
use Rattle.lola_feed.specs.Lending.{IsLentTo}
use Rattle.lola_feed.proofs.Shelves.{lent_more}

pub name_there : (f : ℕ → List ℕ) (numbers : List ℕ) (k : ℕ) (name : List ℕ) → k < length numbers → name ≡ f (get_or numbers k 0) → slice_get (map f numbers) k ≡ Some name
name_there f [] k name h is = absurd (omega arith)
name_there f (n ∷ numbers) zero name h is = ap Some (sym is)
name_there f (n ∷ numbers) (suc k) name h is = name_there f numbers k name (omega arith) is

-- the first room that is left is that of the next source
room_there : (k : ℕ) (all rest : List Shape) (room : Shape) → rest ≡ drop k all → 0 < length rest → room ≡ get_or rest 0 room → slice_get all k ≡ Some room
room_there k all rest room is some first =
    let within : k < length all = omega (arith, ap length is, length-drop k all, some) in
    let none : k + 0 ≡ k = omega arith in
    slice_get_read all (length all) k room refl within (first ∙ ap (λ (l : List Shape). get_or l 0 room) is ∙ get_or-drop k all 0 room ∙ ap (λ i. get_or all i room) none)

pub rooms_left : (k : ℕ) (all rest now : List Shape) (room : Shape) → k < length all → rest ≡ drop k all → now ≡ drop 1 rest → now ≡ drop (k + 1) all
rooms_left k all rest now room h is next = next ∙ ap (drop 1) is ∙ ap (drop 1) (drop_more all k room h)

take_next : {A : Type 0} (xs : List A) (k : ℕ) (x : A) → slice_get xs k ≡ Some x → take (k + 1) xs ≡ take k xs ++ x ∷ []
take_next xs k x is = take_more xs k x (slice_get_within xs k x is) ∙ ap (λ y. take k xs ++ y ∷ []) (get_or_from_slice_get xs k x x is)

-- the next source was given
pub one_more : (k : ℕ) (names : List (List ℕ)) (all rest : List Shape) (before mid after : ShelfState) (workers news : List Working) (name : List ℕ) (room : Shape) (worker : Working) → HasLent (take k names) (take k all) before mid workers
    → slice_get names k ≡ Some name → rest ≡ drop k all → 0 < length rest → room ≡ get_or rest 0 room → after ≡ lent mid name → IsLentTo mid.told (length mid.asks) name room worker → news ≡ workers ++ worker ∷ []
    → HasLent (take (k + 1) names) (take (k + 1) all) before after news
one_more k names all rest before mid after workers news name room worker so name_is left some first given new are =
    let more = lent_more (take k names) (take k all) before mid after workers name room worker so given new in
    subst (λ (ns : List (List ℕ)). HasLent ns (take (k + 1) all) before after news) (sym (take_next names k name name_is))
    (subst (λ (rs : List Shape). HasLent (take k names ++ name ∷ []) rs before after news) (sym (take_next all k room (room_there k all rest room left some first)))
    (subst (λ (ws : List Working). HasLent (take k names ++ name ∷ []) (take k all ++ room ∷ []) before after ws) (sym are) more))

pub broke_one : {T : Type 0} (result : Result T FetchEnd) (end : FetchEnd) (mid after : ShelfState) (name : List ℕ) → result ≡ Err end → end ≡ Failed → (IsErrOf result Failed → FetchBroke mid after name) → FetchBroke mid after name
broke_one result end mid after name is what broke = broke (is ∙ ap Err what)
