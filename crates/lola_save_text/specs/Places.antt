-- A reader that decides a state's lines one by one: which line may come at a place, and which place comes behind it.
use Rattle.std.specs.Prelude.{ℕ, ◌+◌, ◌-◌, ◌*◌, min, List, [], ◌∷◌, Option, Some, None, is_some, Bool, true, false, not, ◌&&◌, ◌||◌, if◌then◌else◌, nat_eq, nat_le, length}
use Rattle.std.specs.List.{list_all}
use Rattle.lola_value.specs.declared.text.Field.{Field}
use Rattle.lola_value.specs.declared.value.Kind.{Kind}
use Rattle.lola_value.specs.declared.value.Kind.TheVariants as kind
use Rattle.lola_save_text.specs.Fitting.{Times, is_start, is_last, most_steps, are_values, is_value, is_among, are_panes, time_or}
use Rattle.lola_save_text.specs.Forms.{WindowForm, StreamForm}
use Rattle.lola_save_text.specs.Lines.{StateLine, StartLine, LastLine, StepsLine, StreamLine, InstLine, RingLine, PanesLine, EndLine}
use Rattle.lola_save_text.specs.States.{SavedPanes}

-- how many values a kind has, where there are fewer than 65,536
abbrev pub choices : Kind → ℕ
choices kind.Bool = 2
choices kind.Int8 = 256
choices kind.UInt8 = 256
choices _ = 65536

-- how many instances parameters of these kinds tell apart, up to 65,536
abbrev pub most_lists : List Kind → ℕ
most_lists [] = 1
most_lists (k ∷ ks) = min 65536 (choices k * most_lists ks)

-- how many instances a stream may have. This test alone looks ahead: as many different parameters must be there for the lines
-- to come, and a time at which the instances were born
abbrev pub is_count : Times → StreamForm → ℕ → Bool
is_count t s count =
    if s.spawns then nat_le count (most_lists s.parameters) && (nat_eq count 0 || is_some t.last)
    else nat_eq count 1

-- a stream in hand: its number, how many instances are still to come, with that at this place, the parameters of those
-- before it, the least and the greatest time of a birth, and the streams behind it
pub record Hand : Type 0 where
  pub times : Times
  pub number : ℕ
  pub form : StreamForm
  pub left : ℕ
  pub seen : List (List Field)
  pub low : ℕ
  pub high : ℕ
  pub later : List StreamForm

-- the time of the next birth
abbrev pub is_birth : Hand → Option ℕ → Bool
is_birth h None = not h.form.spawns
is_birth h (Some b) = h.form.spawns && (nat_le h.low b && nat_le b h.high)

-- the parameters of the next instance
abbrev pub are_params : Hand → List Field → Bool
are_params h p = are_values h.form.parameters p && not (is_among p h.seen)

-- the values of the instance in hand
abbrev pub is_ring : Hand → List Field → Bool
is_ring h vs = list_all (is_value h.form.kind) vs && (nat_le (length vs) h.form.kept && (is_some h.times.last || nat_eq (length vs) 0))

-- which line a reader waits for, and what it knows of the lines before it
pub data Place : Type 0 where
  AtStart : Place
  AtLast : Option ℕ → Place
  AtSteps : Option ℕ → Option ℕ → Place
  AtStream : Times → ℕ → List StreamForm → Place
  AtInst : Hand → Place
  AtRing : Hand → Place
  AtPanes : Hand → List WindowForm → Place
  Done : Place

-- behind an instance: the next one, or the next stream
abbrev pub behind_instance : Hand → Place
behind_instance h = if nat_eq h.left 0 then AtStream h.times (h.number + 1) h.later else AtInst h

-- behind a ring or a window of an instance: the next window, or what comes behind the instance
abbrev pub behind_panes : Hand → List WindowForm → Place
behind_panes h [] = behind_instance h
behind_panes h (w ∷ ws) = AtPanes h (w ∷ ws)

-- the stream in hand once its line was read
abbrev pub opened : Times → ℕ → StreamForm → List StreamForm → ℕ → Hand
opened t n s later count = record { times = t; number = n; form = s; left = count; seen = []; low = time_or 0 t.start; high = time_or 0 t.last; later = later }

-- and once the line of an instance was read
abbrev pub one_less : Hand → Option ℕ → List Field → Hand
one_less h born p = record h { left = h.left - 1; seen = p ∷ h.seen; low = time_or h.low born }

-- what a line says, where it is of the form that is waited for
abbrev pub as_start : StateLine → Option (Option ℕ)
as_start (StartLine o) = Some o
as_start _ = None

abbrev pub as_last : StateLine → Option (Option ℕ)
as_last (LastLine o) = Some o
as_last _ = None

abbrev pub as_steps : StateLine → Option ℕ
as_steps (StepsLine n) = Some n
as_steps _ = None

abbrev pub as_stream : StateLine → Option (ℕ × ℕ)
as_stream (StreamLine n c) = Some (n, c)
as_stream _ = None

abbrev pub as_inst : StateLine → Option (Option ℕ × List Field)
as_inst (InstLine b p) = Some (b, p)
as_inst _ = None

abbrev pub as_ring : StateLine → Option (List Field)
as_ring (RingLine vs) = Some vs
as_ring _ = None

abbrev pub as_panes : StateLine → Option (ℕ × Option SavedPanes)
as_panes (PanesLine w p) = Some (w, p)
as_panes _ = None

abbrev pub is_end : StateLine → Bool
is_end EndLine = true
is_end _ = false

-- a value where a test passes
abbrev pub where_so : {X : Type 0} → Bool → X → Option X
where_so b x = if b then Some x else None

-- what is made of a value that may be there
abbrev pub chosen : {X Y : Type 0} → Option X → (X → Option Y) → Option Y
chosen None f = None
chosen (Some x) f = f x

-- the place behind a line; none where no state goes on with it
abbrev pub next : List StreamForm → Place → StateLine → Option Place
next forms AtStart l = chosen (as_start l) (λ o. where_so (is_start o) (AtLast o))
next forms (AtLast a) l = chosen (as_last l) (λ o. where_so (is_last a o) (AtSteps a o))
next forms (AtSteps a o) l = chosen (as_steps l) (λ n. where_so (nat_le n most_steps) (AtStream (record { start = a; last = o; steps = n }) 0 forms))
next forms (AtStream t n []) l = where_so (is_end l) Done
next forms (AtStream t n (s ∷ ss)) l = chosen (as_stream l) (λ x. where_so (nat_eq x.0 n && is_count t s x.1) (behind_instance (opened t n s ss x.1)))
next forms (AtInst h) l = chosen (as_inst l) (λ x. where_so (is_birth h x.0 && are_params h x.1) (AtRing (one_less h x.0 x.1)))
next forms (AtRing h) l = chosen (as_ring l) (λ vs. where_so (is_ring h vs) (behind_panes h h.form.windows))
next forms (AtPanes h []) l = None
next forms (AtPanes h (w ∷ ws)) l = chosen (as_panes l) (λ x. where_so (nat_eq x.0 w.number && are_panes h.times h.form.kind w x.1) (behind_panes h ws))
next forms Done l = None
