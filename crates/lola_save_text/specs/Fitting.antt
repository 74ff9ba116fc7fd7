-- What fits a plan: values, births' times, rings and panes, each by itself.
use Rattle.std.specs.Prelude.{ℕ, pos, int_le, ◌*ℤ◌, ◌+◌, ◌-◌, ◌*◌, ◌^◌, min, List, [], ◌∷◌, Option, Some, None, is_some, Bool, true, false, ◌&&◌, ◌||◌, nat_eq, nat_le, nat_lt, length, unsigned_abs}
use Rattle.std.specs.List.{list_all, sum_by}
use Rattle.std.specs.Str.{is_utf8}
use Rattle.lola_value.specs.declared.text.Field.{Field}
use Rattle.lola_value.specs.declared.text.Field.TheVariants as field
use Rattle.lola_value.specs.declared.value.Kind.{Kind}
use Rattle.lola_value.specs.Arithmetic.{is_within, least, greatest, all_equal}
use Rattle.lola_value.specs.Kinds.{is_bool, is_integer, is_text}
use Rattle.lola_value.specs.Times.{latest}
use Rattle.lola_model.specs.declared.spec.Agg.{Agg}
use Rattle.lola_model.specs.declared.spec.Agg.TheVariants as agg
use Rattle.lola_save_text.specs.Forms.{WindowForm}
pub use Rattle.lola_save_text.specs.declared.state.Times.{Times}
use Rattle.lola_save_text.specs.States.{Partial, Number, Extreme, Mean, Truth, SavedPanes}

-- a time, or this one where there is none
abbrev pub time_or : ℕ → Option ℕ → ℕ
time_or t None = t
time_or t (Some u) = u

-- a start
abbrev pub is_start : Option ℕ → Bool
is_start None = true
is_start (Some t) = nat_le t latest

-- the time of a last accepted row: only where there is a start, and no earlier
abbrev pub is_last : Option ℕ → Option ℕ → Bool
is_last start None = true
is_last None (Some t) = false
is_last (Some a) (Some t) = nat_le a t && nat_le t latest

-- the greatest number of steps
abbrev pub most_steps : ℕ
most_steps = 2 ^ 62

-- a value of a kind; a text is in UTF-8
abbrev pub is_value : Kind → Field → Bool
is_value k field.Absent = false
is_value k (field.Bool b) = is_bool k
is_value k (field.Int z) = is_integer k && is_within k z
is_value k (field.Text t) = is_text k && is_utf8 t

-- as many values as kinds, each of its kind
abbrev pub are_values : List Kind → List Field → Bool
are_values [] [] = true
are_values (k ∷ ks) (v ∷ vs) = is_value k v && are_values ks vs
are_values _ _ = false

-- parameters are those of one of these instances
abbrev pub is_among : List Field → List (List Field) → Bool
is_among p [] = false
is_among p (q ∷ qs) = all_equal p q || is_among p qs

-- a partial result of an aggregation over values of a kind
abbrev pub is_partial : Agg → Kind → Partial → Bool
is_partial agg.Count k (Number z) = int_le (pos 0) z
is_partial agg.Sum k (Number z) = true
is_partial agg.Min k (Extreme None) = true
is_partial agg.Max k (Extreme None) = true
is_partial agg.Min k (Extreme (Some z)) = is_within k z
is_partial agg.Max k (Extreme (Some z)) = is_within k z
is_partial agg.Avg k (Mean total count) = int_le (pos count *ℤ least k) total && int_le total (pos count *ℤ greatest k)
is_partial agg.Forall k (Truth b) = true
is_partial agg.Exists k (Truth b) = true
is_partial _ _ _ = false

-- how many values a partial result counts
abbrev pub counted : Agg → Partial → ℕ
counted agg.Count (Number z) = unsigned_abs z
counted agg.Avg (Mean total count) = count
counted _ _ = 0

-- the size of a partial result's total
abbrev pub total_size : Agg → Partial → ℕ
total_size agg.Sum (Number z) = unsigned_abs z
total_size agg.Avg (Mean total count) = unsigned_abs total
total_size _ _ = 0

-- panes of a window onto values of a kind: a row was accepted; the newest pane begins no later than the last one; there are as
-- many as are kept, or as there were; each partial result is of the aggregation; they count no more values than there were
-- steps, and their totals are no larger than so many values make them
abbrev pub are_panes : Times → Kind → WindowForm → Option SavedPanes → Bool
are_panes t k w None = true
are_panes t k w (Some p) =
    is_some t.last
    && nat_lt (p.last * w.pane) ((time_or 0 t.last - time_or 0 t.start) + w.pane)
    && nat_eq (length p.partials) (min (p.last + 1) w.count)
    && list_all (is_partial w.how k) p.partials
    && nat_le (sum_by (counted w.how) p.partials) t.steps
    && nat_le (sum_by (total_size w.how) p.partials) (t.steps * 2 ^ 64)
