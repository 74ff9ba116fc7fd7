-- The fields of a line end no line.
use Rattle.std.proofs.Common.{◌≡◌, ◌∷◌, ◌++◌, [], ℕ, List, Bool, refl, false, inl, inr}
use Rattle.std.specs.List.{AllByRecursion, list_any}
use Rattle.std.proofs.lemmas.Bool.{cases_Bool}
use Rattle.csv.specs.Machine.{ends_at_end, field_after, fields_after, is_end, next_record, step}
use Rattle.csv.specs.Reading.{default_config}
use Rattle.csv.specs.declared.parser.Action.{Action}
use Rattle.csv.specs.declared.parser.Action.TheVariants as act
use Rattle.csv.specs.declared.parser.State.{State}
use Rattle.csv.specs.declared.parser.State.TheVariants as st
use Rattle.lola_rows.specs.Line.{ends_line, fields_of_line, fields_read, has_line_end}
use Rattle.lola_rows.proofs.LineFacts.{or-left, or-right}

-- the fields end no line
abbrev pub AreWithin : List (List ℕ) → Type 0
AreWithin fields = AllByRecursion (λ f. has_line_end f ≡ false) fields

any-joined : (p : ℕ → Bool) (xs ys : List ℕ) → list_any p xs ≡ false → list_any p ys ≡ false → list_any p (xs ++ ys) ≡ false
any-joined p [] ys a b = b
any-joined p (x ∷ xs) ys a b =
    let first : p x ≡ false = or-left _ _ a in
    let rest = any-joined p xs ys (or-right _ _ a) b in
    rw (first, rest) refl

one-more : (fields : List (List ℕ)) (field : List ℕ) → AreWithin fields → has_line_end field ≡ false → AreWithin (fields ++ (field ∷ []))
one-more [] field a b = (b, tt)
one-more (f ∷ fs) field a b = (a.0, one-more fs field a.1 b)

fields-within : (a : Action) (fields : List (List ℕ)) (field : List ℕ) → AreWithin fields → has_line_end field ≡ false → AreWithin (fields_after a fields field)
fields-within act.EndField fields field h e = one-more fields field h e
fields-within act.Skip fields field h e = h
fields-within act.Copy fields field h e = h
fields-within act.EndRecord fields field h e = one-more fields field h e

field-within : (a : Action) (c : ℕ) (field : List ℕ) → ends_line c ≡ false → has_line_end field ≡ false → has_line_end (field_after a c field) ≡ false
field-within act.Copy c field n e = let one : has_line_end (c ∷ []) ≡ false = rw n refl in any-joined ends_line field (c ∷ []) e one
field-within act.EndField c field n e = refl
field-within act.Skip c field n e = e
field-within act.EndRecord c field n e = refl

read-within : (s : State) (fields : List (List ℕ)) (field line : List ℕ) → AreWithin fields → has_line_end field ≡ false → has_line_end line ≡ false
    → AreWithin (fields_read (next_record default_config s fields field line))
unfolding next_record
read-within s fields field [] h e n = elim (cases_Bool (ends_at_end s)) [
  | inl hit ↦ rw hit (one-more fields field h e)
  | inr miss ↦ rw miss tt
]
read-within s fields field (c ∷ rest) h e n =
    let fs = fields-within (step default_config s c).1 fields field h e in
    let f = field-within (step default_config s c).1 c field (or-left _ _ n) e in
    elim (cases_Bool (is_end (step default_config s c).1)) [
      | inl hit ↦ rw hit fs
      | inr miss ↦ rw miss (read-within (step default_config s c).0 (fields_after (step default_config s c).1 fields field) (field_after (step default_config s c).1 c field) rest fs f (or-right _ _ n))
    ]

-- the fields of a line end no line
pub fields-of-line-within : (line : List ℕ) → has_line_end line ≡ false → AreWithin (fields_of_line line)
fields-of-line-within line n = read-within st.StartRecord [] [] line tt refl n
