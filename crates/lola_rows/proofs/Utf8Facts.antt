-- The fields of a line in UTF-8 are in UTF-8.
use Rattle.std.specs.Prelude.{◌==◌}
use Rattle.std.proofs.Common.{◌≡◌, ◌+◌, ◌/◌, ◌<◌, ◌≤◌, ◌∷◌, ◌++◌, ◌∙◌, [], ℕ, List, refl, sym, ap, subst, true, false, inl, inr, arith, append_assoc}
use Rattle.std.specs.List.{AllByRecursion}
use Rattle.std.specs.Str.{IsUtf8}
use Rattle.std.proofs.lemmas.Bool.{cases_Bool, cases_lt, and_parts, le-ltb, lt-ltb, ne_eqb}
use Rattle.std.proofs.lemmas.List.{append-nil}
use Rattle.std.proofs.lemmas.Str.{IsUtf8-append, IsUtf8-nil, IsUtf8-encode}
use lib.Utf8.{scalar, scalars, encodes, encode, next}
use Rattle.csv.specs.Machine.{ends_at_end, field_after, fields_after, is_end, next_record, step}
use Rattle.csv.specs.Reading.{default_config}
use Rattle.csv.specs.declared.parser.Action.{Action}
use Rattle.csv.specs.declared.parser.Action.TheVariants as act
use Rattle.csv.specs.declared.parser.State.{State}
use Rattle.csv.specs.declared.parser.State.TheVariants as st
use Rattle.lola_rows.specs.Line.{fields_of_line, fields_read}

-- bytes of no ASCII character
abbrev pub AreHigh : List ℕ → Type 0
AreHigh bytes = AllByRecursion (λ b. 128 ≤ b) bytes

-- the fields are in UTF-8
abbrev pub AreTexts : List (List ℕ) → Type 0
AreTexts fields = AllByRecursion IsUtf8 fields

-- the state after such a byte, which joins the field, and after which further ones do
after_high : State → State
after_high st.StartRecord = st.InField
after_high st.StartField = st.InField
after_high st.InField = st.InField
after_high st.InQuoted = st.InQuoted
after_high st.AfterQuote = st.InField
after_high st.InEscape = st.InQuoted
after_high st.InComment = st.InComment
after_high st.AfterCr = st.InField

-- the field after bytes, which a comment does not take
joined : State → List ℕ → List ℕ → List ℕ
joined st.StartRecord field bytes = field ++ bytes
joined st.StartField field bytes = field ++ bytes
joined st.InField field bytes = field ++ bytes
joined st.InQuoted field bytes = field ++ bytes
joined st.AfterQuote field bytes = field ++ bytes
joined st.InEscape field bytes = field ++ bytes
joined st.InComment field bytes = field
joined st.AfterCr field bytes = field ++ bytes

other : (b n : ℕ) → 128 ≤ b → n < 128 → (b == n) ≡ false
other b n high low = ne_eqb b n (λ same. absurd (omega (arith, same)))

high-step : (s : State) (fields : List (List ℕ)) (field : List ℕ) (b : ℕ) (rest : List ℕ) → 128 ≤ b
    → next_record default_config s fields field (b ∷ rest) ≡ next_record default_config (after_high s) fields (joined s field (b ∷ [])) rest
unfolding next_record after_high joined
high-step st.StartRecord fields field b rest high = rw (other b 13 high (omega arith), other b 10 high (omega arith), other b 34 high (omega arith), other b 44 high (omega arith)) refl
high-step st.StartField fields field b rest high = rw (other b 34 high (omega arith), other b 44 high (omega arith), other b 13 high (omega arith), other b 10 high (omega arith)) refl
high-step st.InField fields field b rest high = rw (other b 44 high (omega arith), other b 13 high (omega arith), other b 10 high (omega arith)) refl
high-step st.InQuoted fields field b rest high = rw (other b 34 high (omega arith)) refl
high-step st.AfterQuote fields field b rest high = rw (other b 34 high (omega arith), other b 44 high (omega arith), other b 13 high (omega arith), other b 10 high (omega arith)) refl
high-step st.InEscape fields field b rest high = refl
high-step st.InComment fields field b rest high = rw (other b 10 high (omega arith)) refl
high-step st.AfterCr fields field b rest high = rw (other b 10 high (omega arith), other b 13 high (omega arith), other b 34 high (omega arith), other b 44 high (omega arith)) refl

joined-nil : (s : State) (field : List ℕ) → field ≡ joined s field []
unfolding joined
joined-nil st.StartRecord field = sym (append-nil field)
joined-nil st.StartField field = sym (append-nil field)
joined-nil st.InField field = sym (append-nil field)
joined-nil st.InQuoted field = sym (append-nil field)
joined-nil st.AfterQuote field = sym (append-nil field)
joined-nil st.InEscape field = sym (append-nil field)
joined-nil st.InComment field = refl
joined-nil st.AfterCr field = sym (append-nil field)

joined-more : (s : State) (field : List ℕ) (b : ℕ) (bytes : List ℕ) → joined s (joined s field (b ∷ [])) bytes ≡ joined s field (b ∷ bytes)
unfolding joined
joined-more st.StartRecord field b bytes = append_assoc field (b ∷ []) bytes
joined-more st.StartField field b bytes = append_assoc field (b ∷ []) bytes
joined-more st.InField field b bytes = append_assoc field (b ∷ []) bytes
joined-more st.InQuoted field b bytes = append_assoc field (b ∷ []) bytes
joined-more st.AfterQuote field b bytes = append_assoc field (b ∷ []) bytes
joined-more st.InEscape field b bytes = append_assoc field (b ∷ []) bytes
joined-more st.InComment field b bytes = refl
joined-more st.AfterCr field b bytes = append_assoc field (b ∷ []) bytes

-- a run of such bytes, from a state that they keep
high-run : (s : State) → after_high s ≡ s → (fields : List (List ℕ)) (field bytes rest : List ℕ) → AreHigh bytes
    → next_record default_config s fields field (bytes ++ rest) ≡ next_record default_config s fields (joined s field bytes) rest
high-run s stays fields field [] rest high = ap (λ f. next_record default_config s fields f rest) (joined-nil s field)
high-run s stays fields field (b ∷ bytes) rest high =
    high-step s fields field b (bytes ++ rest) high.0
    ∙ ap (λ (t : State). next_record default_config t fields (joined s field (b ∷ [])) (bytes ++ rest)) stays
    ∙ high-run s stays fields (joined s field (b ∷ [])) bytes rest high.1
    ∙ ap (λ f. next_record default_config s fields f rest) (joined-more s field b bytes)

stays-high : (s : State) → after_high (after_high s) ≡ after_high s
unfolding after_high
stays-high st.StartRecord = refl
stays-high st.StartField = refl
stays-high st.InField = refl
stays-high st.InQuoted = refl
stays-high st.AfterQuote = refl
stays-high st.InEscape = refl
stays-high st.InComment = refl
stays-high st.AfterCr = refl

joined-parts : (s : State) (field : List ℕ) (b : ℕ) (bytes : List ℕ) → joined (after_high s) (joined s field (b ∷ [])) bytes ≡ joined s field (b ∷ bytes)
unfolding joined after_high
joined-parts st.StartRecord field b bytes = append_assoc field (b ∷ []) bytes
joined-parts st.StartField field b bytes = append_assoc field (b ∷ []) bytes
joined-parts st.InField field b bytes = append_assoc field (b ∷ []) bytes
joined-parts st.InQuoted field b bytes = append_assoc field (b ∷ []) bytes
joined-parts st.AfterQuote field b bytes = append_assoc field (b ∷ []) bytes
joined-parts st.InEscape field b bytes = append_assoc field (b ∷ []) bytes
joined-parts st.InComment field b bytes = refl
joined-parts st.AfterCr field b bytes = append_assoc field (b ∷ []) bytes

-- one such byte and more
high-char : (s : State) (fields : List (List ℕ)) (field : List ℕ) (b : ℕ) (bytes rest : List ℕ) → AreHigh (b ∷ bytes)
    → next_record default_config s fields field ((b ∷ bytes) ++ rest) ≡ next_record default_config (after_high s) fields (joined s field (b ∷ bytes)) rest
high-char s fields field b bytes rest high =
    high-step s fields field b (bytes ++ rest) high.0
    ∙ high-run (after_high s) (stays-high s) fields (joined s field (b ∷ [])) bytes rest high.1
    ∙ ap (λ f. next_record default_config (after_high s) fields f rest) (joined-parts s field b bytes)

-- the bytes of a character that is not ASCII
pub record IsHighChar (c : ℕ) : Type 0 where
  pub first : ℕ
  pub others : List ℕ
  pub bytes : encode c ≡ first ∷ others
  pub high : AreHigh (first ∷ others)

high-encode : (c : ℕ) → 128 ≤ c → IsHighChar c
unfolding encode
high-encode c large = elim (cases_lt c 2048) [
  | inl two ↦ record { first = 192 + c / 64; others = next c ∷ []; bytes = rw (le-ltb c 128 large, lt-ltb c 2048 two) refl; high = (omega arith, (omega arith, tt)) }
  | inr more ↦ elim (cases_lt c 65536) [
    | inl three ↦ record { first = 224 + c / 4096; others = next (c / 64) ∷ next c ∷ []; bytes = rw (le-ltb c 128 large, le-ltb c 2048 more, lt-ltb c 65536 three) refl; high = (omega arith, (omega arith, (omega arith, tt))) }
    | inr four ↦ record { first = 240 + c / 262144; others = next (c / 4096) ∷ next (c / 64) ∷ next c ∷ []; bytes = rw (le-ltb c 128 large, le-ltb c 2048 more, le-ltb c 65536 four) refl; high = (omega arith, (omega arith, (omega arith, (omega arith, tt)))) }
  ]
]

-- an ASCII character is its byte
ascii-encode : (c : ℕ) → c < 128 → encode c ≡ c ∷ []
unfolding encode
ascii-encode c small = rw (lt-ltb c 128 small) refl

one-text : (c : ℕ) → scalar c ≡ true → c < 128 → IsUtf8 (c ∷ [])
one-text c is small = (c ∷ [], (rw is refl, ap (λ (l : List ℕ). l ++ []) (ascii-encode c small)))

text-pushed : (fields : List (List ℕ)) (field : List ℕ) → AreTexts fields → IsUtf8 field → AreTexts (fields ++ (field ∷ []))
text-pushed [] field all is = (is, tt)
text-pushed (f ∷ fs) field all is = (all.0, text-pushed fs field all.1 is)

texts-after : (a : Action) (fields : List (List ℕ)) (field : List ℕ) → AreTexts fields → IsUtf8 field → AreTexts (fields_after a fields field)
texts-after act.EndField fields field all is = text-pushed fields field all is
texts-after act.Skip fields field all is = all
texts-after act.Copy fields field all is = all
texts-after act.EndRecord fields field all is = text-pushed fields field all is

text-after : (a : Action) (c : ℕ) (field : List ℕ) → IsUtf8 (c ∷ []) → IsUtf8 field → IsUtf8 (field_after a c field)
text-after act.Copy c field one is = IsUtf8-append field (c ∷ []) is one
text-after act.EndField c field one is = IsUtf8-nil
text-after act.Skip c field one is = is
text-after act.EndRecord c field one is = IsUtf8-nil

joined-text : (s : State) (field bytes : List ℕ) → IsUtf8 field → IsUtf8 bytes → IsUtf8 (joined s field bytes)
unfolding joined
joined-text st.StartRecord field bytes is more = IsUtf8-append field bytes is more
joined-text st.StartField field bytes is more = IsUtf8-append field bytes is more
joined-text st.InField field bytes is more = IsUtf8-append field bytes is more
joined-text st.InQuoted field bytes is more = IsUtf8-append field bytes is more
joined-text st.AfterQuote field bytes is more = IsUtf8-append field bytes is more
joined-text st.InEscape field bytes is more = IsUtf8-append field bytes is more
joined-text st.InComment field bytes is more = is
joined-text st.AfterCr field bytes is more = IsUtf8-append field bytes is more

-- what is read of characters is in UTF-8
abbrev ReadsTexts : List ℕ → Type 0
ReadsTexts bytes = (s : State) (fields : List (List ℕ)) (field : List ℕ) → AreTexts fields → IsUtf8 field → AreTexts (fields_read (next_record default_config s fields field bytes))

reads-none : ReadsTexts []
unfolding next_record
reads-none s fields field all is = elim (cases_Bool (ends_at_end s)) [
  | inl hit ↦ rw hit (text-pushed fields field all is)
  | inr miss ↦ rw miss tt
]

reads-ascii : (c : ℕ) (rest : List ℕ) → IsUtf8 (c ∷ []) → ReadsTexts rest → ReadsTexts (c ∷ rest)
unfolding next_record
reads-ascii c rest one more s fields field all is =
    let a = (step default_config s c).1 in
    let fs = texts-after (step default_config s c).1 fields field all is in
    let f = text-after (step default_config s c).1 c field one is in
    elim (cases_Bool (is_end (step default_config s c).1)) [
      | inl hit ↦ rw hit fs
      | inr miss ↦ rw miss (more (step default_config s c).0 (fields_after (step default_config s c).1 fields field) (field_after (step default_config s c).1 c field) fs f)
    ]

reads-high : (c : ℕ) (rest : List ℕ) → scalar c ≡ true → 128 ≤ c → ReadsTexts rest → ReadsTexts (encode c ++ rest)
reads-high c rest valid large more s fields field all is =
    let char = high-encode c large in
    let text : IsUtf8 (char.first ∷ char.others) = subst IsUtf8 char.bytes (IsUtf8-encode c valid) in
    subst (λ (l : List ℕ). AreTexts (fields_read (next_record default_config s fields field (l ++ rest)))) (sym char.bytes)
    (subst (λ r. AreTexts (fields_read r)) (sym (high-char s fields field char.first char.others rest char.high))
    (more (after_high s) fields (joined s field (char.first ∷ char.others)) all (joined-text s field (char.first ∷ char.others) is text)))

reads-chars : (cs : List ℕ) → scalars cs ≡ true → ReadsTexts (encodes cs)
reads-chars [] valid = reads-none
reads-chars (c ∷ cs) valid =
    let two = and_parts (scalar c) (scalars cs) valid in
    elim (cases_lt c 128) [
      | inl small ↦ subst (λ (l : List ℕ). ReadsTexts (l ++ encodes cs)) (sym (ascii-encode c small)) (reads-ascii c (encodes cs) (one-text c two.0 small) (reads-chars cs two.1))
      | inr large ↦ reads-high c (encodes cs) two.0 large (reads-chars cs two.1)
    ]

-- the fields of a line in UTF-8
pub fields-are-texts : (line : List ℕ) → IsUtf8 line → AreTexts (fields_of_line line)
fields-are-texts line text = subst ReadsTexts text.1.1 (reads-chars text.0 text.1.0) st.StartRecord [] [] tt IsUtf8-nil
