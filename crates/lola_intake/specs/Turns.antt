-- The rule of a ticket lock, and what each play tells.
-- Word 0 is the next ticket, and word 1 the ticket that is served. The object lies in the slot 0, or is out with the seat in turn.
use Rattle.std.specs.Prelude.{◌≡◌, ◌≢◌, ℕ, ◌+◌, ◌%◌, ◌^◌, ◌<◌, ◌≤◌, ◌==◌, Bool, true, false, List, [], ◌∷◌, ◌++◌, length, cond, ◌⊎◌, Option, Some, None}
use mathlib.Core.Option.{some}
use lib.ListN.{get_elem?}
use Rattle.atomic_table.specs.Table.{State, Me, Step, rest}
use Rattle.atomic_table.specs.declared.shared.Seat.{Seat}
use Rattle.lola_intake.specs.declared.view.Turn.{Turn}
use Rattle.lola_intake.specs.declared.view.Known.{Known}
use Rattle.lola_intake.specs.declared.view.View.{View}
use Rattle.lola_intake.specs.declared.view.CallState.{CallState}
use Rattle.lola_intake.specs.declared.view.CallState.TheVariants.{Idle, Waiting, Serving}

-- the sum of a number of each
abbrev pub total : {A : Type 0} → (A → ℕ) → List A → ℕ
total f [] = 0
total f (x ∷ xs) = f x + total f xs

-- the list begins with this one
abbrev pub StartsWith : {A : Type 0} → List A → List A → Type 0
StartsWith {A} all front = (back : List A) × (all ≡ front ++ back)

-- one ticket of a seat that has drawn one which is not yet served to its end
abbrev pub waits : CallState → ℕ
waits Idle = 0
waits (Waiting t) = 1
waits Serving = 1

-- one seat, unless it was taken back
abbrev pub lives : {K : Type 0} → Option K → ℕ
lives None = 0
lives (Some k) = 1

-- the ticket that is waited for
abbrev pub ticket_of : CallState → ℕ
ticket_of Idle = 0
ticket_of (Waiting t) = t
ticket_of Serving = 0

module _ {E : Type 0} where
  -- the turn of this caller
  abbrev pub turn_by : ℕ → E → Turn E
  turn_by c e = record { by = c; event = e }

  -- the events of one caller, in order
  abbrev pub calls_by : ℕ → List (Turn E) → List E
  calls_by c [] = []
  calls_by c (e ∷ es) = cond (e.by == c) (e.event ∷ calls_by c es) (calls_by c es)

  -- the object goes from x to y by these events, in order
  abbrev pub Runs : {S : Type 0} → (S → Turn E → S → Type 0) → S → List (Turn E) → S → Type 0
  Runs moves x [] y = x ≡ y
  Runs {S} moves x (e ∷ es) y = (z : S) × moves x e z × Runs moves z es y

module _ {E : Type 0} where
  -- what holds of a caller that came back
  pub record Stood (history : List (Turn E)) (made : ℕ) (owner : ℕ → Option ℕ) (k : Known E) : Type 0 where
    pub seen : StartsWith history k.seen
    pub mine : calls_by k.caller history ≡ k.mine
    pub gone : owner k.caller ≡ None
    pub numbered : k.caller ≤ made

module _ {K E : Type 0} where
  -- the first seat at first
  abbrev pub maker : K → View K E
  maker k = record { setting = Some k; caller = 0; seen = []; mine = []; stage = Idle; made = 0; known = [] }

  -- with this ticket
  abbrev pub drawing : View K E → ℕ → View K E
  drawing v t = record v { stage = Waiting t }

  -- in its turn, when the whole history is seen
  abbrev pub serving : View K E → List (Turn E) → View K E
  serving v h = record v { stage = Serving; seen = h }

  -- after its turn
  abbrev pub told : View K E → E → View K E
  told v e = record v { stage = Idle; seen = v.seen ++ turn_by v.caller e ∷ []; mine = v.mine ++ e ∷ [] }

  -- the first seat makes another caller, which has seen as much and has no event
  abbrev pub one_more : View K E → View K E
  one_more v = record v { made = v.made + 1 }

  -- the caller that it makes
  abbrev pub newcomer : View K E → View K E
  newcomer v = record { setting = v.setting; caller = v.made + 1; seen = v.seen; mine = []; stage = Idle; made = 0; known = [] }

  -- the first seat takes a caller back
  abbrev pub known_of : View K E → Known E
  known_of v = record { caller = v.caller; seen = v.seen; mine = v.mine }

  -- and then knows it
  abbrev pub taking : View K E → View K E → View K E
  taking v w = record v { known = v.known ++ known_of w ∷ [] }

  -- what is left of a seat that was taken back
  abbrev pub gone : View K E
  gone = record { setting = None; caller = 0; seen = []; mine = []; stage = Idle; made = 0; known = [] }

  -- the seat is not in a call, and was not taken back
  abbrev pub IsLive : View K E → Type 0
  IsLive v = (v.stage ≡ Idle) × ((k : K) × (v.setting ≡ Some k))

module _ {S K E : Type 0} (opens : K → S → Type 0) (moves : S → Turn E → S → Type 0) where
  -- the object may be y after these events
  abbrev pub Reached : K → List (Turn E) → S → Type 0
  Reached k es y = (x : S) × opens k x × Runs moves x es y

  -- what holds of the seat i with the view v
  pub record Fits (key : K) (history : List (Turn E)) (drawn made : ℕ) (holder : ℕ → ℕ) (owner : ℕ → Option ℕ) (out : Bool) (known : List (Known E)) (i : ℕ) (v : View K E) : Type 0 where
    pub seen : StartsWith history v.seen
    pub gone : v.setting ≡ None → (v.stage ≡ Idle) × (v.seen ≡ [])
    pub live : (k : K) → v.setting ≡ Some k → (k ≡ key) × (v.caller ≤ made) × (owner v.caller ≡ Some i) × (calls_by v.caller history ≡ v.mine)
    pub waiting : (t : ℕ) → v.stage ≡ Waiting t → (length history ≤ t) × (t < drawn) × (holder t ≡ i)
    pub in_turn : v.stage ≡ Serving → (out ≡ true) × (holder (length history) ≡ i) × (v.seen ≡ history)
    pub first : i ≡ 0 → (v.made ≡ made) × (v.known ≡ known)

  -- There is one history of turns. The words are the number of tickets drawn and the history's length, modulo 2^64. The
  -- ticket t is held by the seat holder t, and the caller c has the seat owner c, if it has one. The object is out where
  -- a seat is in its turn, and else at home and as it may be after the history.
  pub record Orderly (key : K) (s : State S (View K E)) : Type 0 where
    pub history : List (Turn E)
    pub drawn : ℕ
    pub made : ℕ
    pub holder : ℕ → ℕ
    pub owner : ℕ → Option ℕ
    pub out : Bool
    pub known : List (Known E)
    pub words : s.words ≡ drawn % 2 ^ 64 ∷ length history % 2 ^ 64 ∷ []
    pub counted : total (λ v. waits v.stage) s.views + length history ≡ drawn
    pub living : total (λ v. lives v.setting) s.views + length known ≡ made + 1
    pub few : made ≤ 4294967296
    pub fresh : (c : ℕ) → made < c → (owner c ≡ None) × (calls_by c history ≡ [])
    pub home : out ≡ false → (x : S) × (get_elem? s.homes 0 ≡ some (some x)) × Reached key history x
    pub busy : out ≡ true → (v : View K E) × (get_elem? s.views (holder (length history)) ≡ some v) × (v.stage ≡ Serving)
    pub each_known : (j : ℕ) (k : Known E) → get_elem? known j ≡ some k → Stood history made owner k
    pub each_seat : (i : ℕ) (v : View K E) → get_elem? s.views i ≡ some v → Fits key history drawn made holder owner out known i v
    pub covered : (c : ℕ) → c ≤ made → ((i : ℕ) × (v : View K E) × (get_elem? s.views i ≡ some v) × (v.caller ≡ c) × (lives v.setting ≡ 1)) ⊎ ((j : ℕ) × (k : Known E) × (get_elem? known j ≡ some k) × (k.caller ≡ c))
    pub longest : ((i : ℕ) × (v : View K E) × (get_elem? s.views i ≡ some v) × (v.seen ≡ history)) ⊎ ((j : ℕ) × (k : Known E) × (get_elem? known j ≡ some k) × (k.seen ≡ history))

  -- the turn has come: the seat has the object, as it is after the whole history, which begins with all that it had seen
  abbrev pub Taken : Me S (View K E) → Me S (View K E) → Type 0
  Taken m m' = (k : K) × (x : S) × (h : List (Turn E)) × (m.0.setting ≡ Some k) × (m' ≡ (serving m.0 h, (0, x) ∷ m.1))
      × StartsWith h m.0.seen × (calls_by m.0.caller h ≡ m.0.mine) × Reached k h x

  -- the turn has come where the number found is the seat's ticket, and else nothing changed
  abbrev pub looked : Step S → Me S (View K E) → ℕ → Me S (View K E) → Type 0
  looked st m r m' = (r ≡ ticket_of m.0.stage % 2 ^ 64 → Taken m m') × (r ≢ ticket_of m.0.stage % 2 ^ 64 → m' ≡ m)

module _ {S K E : Type 0} where
  -- the seat drew the ticket that was found
  abbrev pub drew : Step S → Me S (View K E) → ℕ → Me S (View K E) → Type 0
  drew st m r m' = (t : ℕ) × (m' ≡ (drawing m.0 t, m.1)) × (r ≡ t % 2 ^ 64)

  -- the seat told this event, and gave the object back
  abbrev pub left : Option E → Step S → Me S (View K E) → ℕ → Me S (View K E) → Type 0
  left event st m r m' = (e : E) → event ≡ Some e → m' ≡ (told m.0 e, rest m.1)

  -- the seat's own number and table stay
  abbrev pub IsSameSeat : Seat S (View K E) → Seat S (View K E) → Type 0
  IsSameSeat p q = (q.table_id ≡ p.table_id) × (q.id ≡ p.id)

  -- between calls: it has no ticket and no slot
  abbrev pub IsIdle : Seat S (View K E) → Type 0
  IsIdle p = IsLive p.me.0 × (p.me.1 ≡ [])

  -- it has drawn this ticket, and nothing else is new
  abbrev pub HasDrawn : ℕ → Seat S (View K E) → Seat S (View K E) → Type 0
  HasDrawn ticket p q = IsSameSeat p q × ((t : ℕ) × (q.me ≡ (drawing p.me.0 t, p.me.1)) × (ticket ≡ t % 2 ^ 64))

module _ {S K E : Type 0} (opens : K → S → Type 0) (moves : S → Turn E → S → Type 0) where
  -- in turn, with the object as it may be once the seat has told this event too
  abbrev pub MayTell : Option E → Me S (View K E) → Type 0
  MayTell event m = (k : K) × (x : S) × (e : E) × (m.0.setting ≡ Some k) × (m.0.stage ≡ Serving) × (m.1 ≡ (0, x) ∷ []) × (event ≡ Some e)
      × Reached opens moves k (m.0.seen ++ turn_by m.0.caller e ∷ []) x

  -- What a call tells. The history is legal, begins with all that the seat had seen, and ends with the call, which is one more of the caller's. The caller's events in it are its own
  pub record Turned (e : E) (m m' : View K E) : Type 0 where
    pub setting : m'.setting ≡ m.setting
    pub caller : m'.caller ≡ m.caller
    pub made : m'.made ≡ m.made
    pub known : m'.known ≡ m.known
    pub seen : (between : List (Turn E)) × (m'.seen ≡ (m.seen ++ between) ++ turn_by m.caller e ∷ [])
    pub mine : m'.mine ≡ m.mine ++ e ∷ []
    pub own : calls_by m.caller m'.seen ≡ m'.mine
    pub legal : (k : K) → m.setting ≡ Some k → (x : S) × Reached opens moves k m'.seen x

  -- what is known of one history h at the end
  pub record EndedAt (h : List (Turn E)) (y : S) (v : View K E) : Type 0 where
    pub reached : (k : K) → v.setting ≡ Some k → Reached opens moves k h y
    pub seen : StartsWith h v.seen
    pub own : calls_by v.caller h ≡ v.mine
    pub others : (j : ℕ) (u : Known E) → get_elem? v.known j ≡ some u → StartsWith h u.seen × (calls_by u.caller h ≡ u.mine)
    pub nobody : (c : ℕ) → v.made < c → calls_by c h ≡ []
    pub all : (c : ℕ) → c ≤ v.made → (v.caller ≡ c) ⊎ ((j : ℕ) × (u : Known E) × (get_elem? v.known j ≡ some u) × (u.caller ≡ c))
    pub longest : (v.seen ≡ h) ⊎ ((j : ℕ) × (u : Known E) × (get_elem? v.known j ≡ some u) × (u.seen ≡ h))

  -- What is known at the end, of the object y and the view of the first seat, which took all others back. There is one history, the longest that a seat has seen: the object is as it may be after it, it begins with what each caller has seen, and each caller's events in it are its own
  abbrev pub Ended : S → View K E → Type 0
  Ended y v = (h : List (Turn E)) × EndedAt h y v
