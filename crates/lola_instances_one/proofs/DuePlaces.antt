-- The places of births that are due: those among the first of the births, how many there are, and that as many in ascending order are
-- all of them.
use Rattle.std.proofs.Common.{◌≡◌, ℕ, suc, ◌+◌, ◌<◌, ◌≤◌, List, [], ◌∷◌, ◌++◌, length, get_or, take, drop, refl, ap, sym, ◌∙◌, arith, add-one, drop-cons, Bool, true, false, cond, nat_eq, if◌then◌else◌}
use Rattle.std.specs.List.{All, Contains, count_by, remove, sum_by}
use Rattle.std.proofs.lemmas.Bool.Decides.{nat_tests}
use Rattle.std.proofs.lemmas.List.{append-nil, drop_all, get_or-drop, get_or_read, length-append, length-drop, length-take-le, nil_from_length, take-append-drop, take-take, take_all, take_more}
use Rattle.std.proofs.lemmas.List.Edits.{length-remove}
use Rattle.std.proofs.lemmas.List.Elements.{All-head, All-tail}
use Rattle.std.proofs.lemmas.List.Sorted.{IsPermutation-remove, sum_by-IsPermutation}
use Rattle.std.proofs.lemmas.List.Sums.{sum_by-cons}
use Rattle.lola_value.specs.Ratio.{Ratio}
use Rattle.lola_value.specs.Times.{latest}
use Rattle.lola_model.specs.Dues.{is_due}
use Rattle.lola_instances_one.specs.declared.queue.Birth.{Birth}
use Rattle.lola_instances_one.specs.Dues.{due_births, is_timed}
use Rattle.lola_instances_one.specs.Queues.{births_at, births_of, HasBirths, IsEntry, IsQueue}
use Rattle.lola_instances_one.proofs.DueBirths.{births_more, fewer, found, own}
use Rattle.lola_instances_one.proofs.Moments.{due_now}

-- where no rate is, nothing is listed
none_listed : (time i : ℕ) (bs : List ℕ) → [] ≡ due_births [] time i bs
none_listed time i [] = refl
none_listed time i (b ∷ bs) = none_listed time (i + 1) bs

pub untimed : (rates : List Ratio) (time : ℕ) (bs : List ℕ) → is_timed rates ≡ false → [] ≡ due_births rates time 0 bs
untimed [] time bs none = none_listed time 0 bs
untimed (r ∷ rs) time bs none = absurd (cc)

-- the same births have as many of each kind
pub same_sum : (f : ℕ → ℕ) (xs ys : List ℕ) → HasBirths xs ys → sum_by f xs ≡ sum_by f ys
same_sum f [] ys h = ap (λ bs. sum_by f bs) (sym (nil_from_length ys (sym h.many)))
same_sum f (x ∷ xs) ys h =
    let here : 0 < births_at x ys = let e = h.same x in let more = births_more x x xs in let mine = own x in omega arith in
    let there : Contains ys x = found x ys here in
    let gone : length (remove ys there.0) + 1 ≡ length ys = length-remove ys there.0 there.1 in
    let split : sum_by f (x ∷ remove ys there.0) ≡ sum_by f ys = sum_by-IsPermutation f ys (x ∷ remove ys there.0) (IsPermutation-remove ys there.0 x there.1 (sym there.2)) in
    let rest : HasBirths xs (remove ys there.0) = record {
      many = let e = h.many in omega arith;
      same = λ b. let e = h.same b in let more = births_more b x xs in let less = fewer ys there.0 b x there.1 (sym there.2) in omega arith;
    } in
    let others = same_sum f xs (remove ys there.0) rest in
    sum_by-cons f x xs ∙ (ap (λ n. f x + n) others ∙ (sym (sum_by-cons f x (remove ys there.0)) ∙ split))

module _ (rates : List Ratio) (time : ℕ) where
  -- how many of these births are due
  abbrev pub number_due : List ℕ → ℕ
  number_due bs = count_by (λ b. is_due rates b time) bs

  -- the places of those among the first n births
  abbrev pub due_before : List ℕ → ℕ → List ℕ
  due_before bs n = due_births rates time 0 (take n bs)

  -- places of births that are due among the first n, in ascending order: all of them where they are as many
  pub record IsListing (bs places : List ℕ) (n : ℕ) : Type 0 where
    pub within : n ≤ length bs
    pub few : length places ≤ length (due_before bs n)
    pub all : length places ≡ length (due_before bs n) → places ≡ due_before bs n

  -- one list of births and another behind it
  listed_if : (t : Bool) (i : ℕ) (whole front back : List ℕ) → whole ≡ front ++ back → (if t then i ∷ whole else whole) ≡ (if t then i ∷ front else front) ++ back
  listed_if true i whole front back e = ap (λ ps. i ∷ ps) e
  listed_if false i whole front back e = e

  joined : (i : ℕ) (xs ys : List ℕ) → due_births rates time i (xs ++ ys) ≡ due_births rates time i xs ++ due_births rates time (i + length xs) ys
  joined i [] ys = let e : i ≡ i + 0 = omega arith in ap (λ n. due_births rates time n ys) e
  joined i (x ∷ xs) ys =
      let e : i + 1 + length xs ≡ i + suc (length xs) = omega arith in
      listed_if (is_due rates x time) i (due_births rates time (i + 1) (xs ++ ys)) (due_births rates time (i + 1) xs) (due_births rates time (i + suc (length xs)) ys)
      (joined (i + 1) xs ys ∙ ap (λ n. due_births rates time (i + 1) xs ++ due_births rates time n ys) e)

  number_if : (t : Bool) (i n : ℕ) (ps : List ℕ) → length ps ≡ n → length (if t then i ∷ ps else ps) ≡ cond t 1 0 + n
  number_if true i n ps e = omega arith
  number_if false i n ps e = omega arith

  number_is : (i : ℕ) (bs : List ℕ) → length (due_births rates time i bs) ≡ number_due bs
  number_is i [] = refl
  number_is i (b ∷ bs) = number_if (is_due rates b time) i (number_due bs) (due_births rates time (i + 1) bs) (number_is (i + 1) bs) ∙ sym (sum_by-cons (λ x. cond (is_due rates x time) 1 0) b bs)

  -- one birth more
  due_more : (bs : List ℕ) (n b : ℕ) → n < length bs → b ≡ get_or bs n b → due_before bs (n + 1) ≡ due_before bs n ++ (if is_due rates b time then n ∷ [] else [])
  due_more bs n b within is =
      let cut : take (n + 1) bs ≡ take n bs ++ b ∷ [] = take_more bs n b within ∙ ap (λ x. take n bs ++ x ∷ []) (sym is) in
      let long : 0 + length (take n bs) ≡ n = omega (arith, length-take-le n bs) in
      ap (λ xs. due_births rates time 0 xs) cut
      ∙ (joined 0 (take n bs) (b ∷ []) ∙ ap (λ k. due_before bs n ++ (if is_due rates b time then k ∷ [] else [])) long)

  pub due_yes : (bs : List ℕ) (n b : ℕ) → n < length bs → b ≡ get_or bs n b → is_due rates b time ≡ true → due_before bs (n + 1) ≡ due_before bs n ++ n ∷ []
  due_yes bs n b within is due = due_more bs n b within is ∙ ap (λ t. due_before bs n ++ (if t then n ∷ [] else [])) due

  pub due_no : (bs : List ℕ) (n b : ℕ) → n < length bs → b ≡ get_or bs n b → is_due rates b time ≡ false → due_before bs (n + 1) ≡ due_before bs n
  due_no bs n b within is not_due = due_more bs n b within is ∙ (ap (λ t. due_before bs n ++ (if t then n ∷ [] else [])) not_due ∙ append-nil (due_before bs n))

  -- more births have no fewer places, and the same where they are as many
  rest_of : List ℕ → ℕ → ℕ → List ℕ
  rest_of bs m n = due_births rates time (0 + length (take m bs)) (drop m (take n bs))

  split_at : (bs : List ℕ) (m n : ℕ) → m ≤ n → due_before bs n ≡ due_before bs m ++ rest_of bs m n
  unfolding rest_of
  split_at bs m n le =
      let cut : take n bs ≡ take m bs ++ drop m (take n bs) = sym (take-append-drop m (take n bs)) ∙ ap (λ xs. xs ++ drop m (take n bs)) (take-take m n bs le) in
      ap (λ xs. due_births rates time 0 xs) cut ∙ joined 0 (take m bs) (drop m (take n bs))

  no_fewer : (bs : List ℕ) (m n : ℕ) → m ≤ n → length (due_before bs m) ≤ length (due_before bs n)
  no_fewer bs m n le =
      let e = ap (λ ps. length ps) (split_at bs m n le) in
      let more = length-append (due_before bs m) (rest_of bs m n) in
      omega arith

  no_more : (bs : List ℕ) (m n : ℕ) → m ≤ n → length (due_before bs n) ≤ length (due_before bs m) → due_before bs m ≡ due_before bs n
  no_more bs m n le few =
      let e = ap (λ ps. length ps) (split_at bs m n le) in
      let more = length-append (due_before bs m) (rest_of bs m n) in
      let none : rest_of bs m n ≡ [] = nil_from_length (rest_of bs m n) (omega arith) in
      sym (split_at bs m n le ∙ (ap (λ ps. due_before bs m ++ ps) none ∙ append-nil (due_before bs m)))

  -- a listing begins, goes on with a place behind, and is whole where it has as many as there are
  pub listing_none : (bs : List ℕ) → IsListing bs [] 0
  listing_none bs = record { within = omega arith; few = omega arith; all = λ e. refl }

  pub listing_more : (bs places : List ℕ) (n place b : ℕ) → IsListing bs places n → n ≤ place → place < length bs → b ≡ get_or bs place b → is_due rates b time ≡ true → IsListing bs (places ++ place ∷ []) (place + 1)
  listing_more bs places n place b h behind within is due =
      let next = due_yes bs place b within is due in
      let long = ap (λ ps. length ps) next ∙ length-append (due_before bs place) (place ∷ []) in
      let longer = length-append places (place ∷ []) in
      let fewer = h.few in
      let grown = no_fewer bs n place behind in
      record {
        within = omega arith;
        few = omega arith;
        all = λ e. ap (λ ps. ps ++ place ∷ []) (h.all (omega arith) ∙ no_more bs n place behind (omega arith)) ∙ sym next;
      }

  pub listing_all : (bs places : List ℕ) (n : ℕ) → IsListing bs places n → length places ≡ number_due bs → places ≡ due_births rates time 0 bs
  listing_all bs places n h e =
      let whole : due_before bs (length bs) ≡ due_births rates time 0 bs = ap (λ xs. due_births rates time 0 xs) (take_all (length bs) bs (omega arith)) in
      let long = ap (λ ps. length ps) whole ∙ number_is 0 bs in
      let fewer = h.few in
      let grown = no_fewer bs n (length bs) h.within in
      h.all (omega arith) ∙ (no_more bs n (length bs) h.within (omega arith) ∙ whole)

  -- how many are due in a queue, one entry after another
  pub one_due : (queue : List Birth) (i : ℕ) (e : Birth) → i < length queue → e ≡ get_or queue i e
      → number_due (births_of (drop i queue)) ≡ cond (is_due rates e.born time) 1 0 + number_due (births_of (drop (i + 1) queue))
  one_due queue i e within is =
      let split : drop i queue ≡ e ∷ drop (i + 1) queue = rw (add-one) (drop-cons queue i e within ∙ ap (λ x. x ∷ drop (suc i) queue) (sym is)) in
      ap (λ es. number_due (births_of es)) split ∙ sum_by-cons (λ x. cond (is_due rates x time) 1 0) e.born (births_of (drop (i + 1) queue))

  pub no_entry : (queue : List Birth) (i : ℕ) → length queue ≤ i → number_due (births_of (drop i queue)) ≡ 0
  no_entry queue i end = ap (λ es. number_due (births_of es)) (drop_all i queue end)

  not_due : (es : List Birth) → All (λ (x : Birth). is_due rates x.born time ≡ false) es → number_due (births_of es) ≡ 0
  not_due [] none = refl
  not_due (e ∷ es) none =
      let P = λ (x : Birth). is_due rates x.born time ≡ false in
      let more = sum_by-cons (λ x. cond (is_due rates x time) 1 0) e.born (births_of es) in
      let first : is_due rates e.born time ≡ false = All-head P e es none in
      let here : cond {A = ℕ} (is_due rates e.born time) 1 0 ≡ 0 = ap (λ (t : Bool). cond {A = ℕ} t 1 0) first in
      let rest = not_due es (All-tail P e es none) in
      omega arith

  -- the entry's own deadline is the next, and tells whether one is due
  pub own_due : (passed : ℕ) (e : Birth) → IsEntry rates passed e → time ≤ latest → passed ≤ time → time ≤ e.due → nat_eq e.due time ≡ is_due rates e.born time
  own_due passed e h in_time later until = ap (λ t. nat_eq t time) (sym (h.next time later until)) ∙ due_now rates e.born time h.are in_time

  -- from an entry on that is due later, none is due
  pub none_behind : (passed : ℕ) (queue : List Birth) (i : ℕ) (e : Birth) → IsQueue rates passed queue → time ≤ latest → i < length queue → e ≡ get_or queue i e → passed ≤ time → time < e.due
      → number_due (births_of (drop i queue)) ≡ 0
  none_behind passed queue i e h in_time within is later until = not_due (drop i queue) (λ k d lt. one k d lt)
    where
      one : (k : ℕ) (d : Birth) → k < length (drop i queue) → is_due rates (get_or (drop i queue) k d).born time ≡ false
      one k d lt =
          let x = get_or queue (i + k) d in
          let inside : i + k < length queue = omega (arith, length-drop i queue) in
          let at : get_or (drop i queue) k d ≡ x = get_or-drop i queue k d in
          let mine = ap (λ (y : Birth). y.due) (get_or_read queue i e within is d) in
          let above : (get_or queue i d).due ≤ x.due = h.order i (i + k) d (omega arith) inside in
          let other : nat_eq x.due time ≡ false = (let later_still : time < x.due = omega arith in grind (arith, nat_tests)) in
          ap (λ (y : Birth). is_due rates y.born time) at ∙ (sym (own_due passed x (h.entries (i + k) d inside) in_time later (omega arith)) ∙ other)
