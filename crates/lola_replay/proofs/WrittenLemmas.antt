-- What is read of the line of a malformed source.
use Rattle.std.proofs.Common.{◌≡◌, ◌≢◌, ◌∙◌, refl, sym, ap, ℕ, ◌+◌, ◌<◌, ◌≤◌, ◌^◌, List, [], ◌∷◌, ◌++◌, Some, None, true, false, if◌then◌else◌, arith, append_assoc, codes, decimal, drop, length, nat_eq, nat_le, nat_lt, take}
use Rattle.std.specs.List.{list_all}
use Rattle.std.proofs.Math.Seq.{drop-append_seam, take-append_seam}
use Rattle.std.proofs.lemmas.Bool.{and_parts, leb-true, lt-ltb, ne_eqb}
use Rattle.std.proofs.lemmas.List.{length-append}
use Rattle.lola_value.specs.Times.{is_digit}
use Rattle.lola_value.specs.declared.value.Kind.TheVariants as kind
use Rattle.lola_model.specs.declared.source.MalformedKind.{MalformedKind}
use Rattle.lola_model.specs.declared.source.MalformedKind.TheVariants as malformed
use Rattle.lola_report.specs.Candidates.{read_natural}
use Rattle.lola_report.proofs.Decimals.{decimal-spells, natural-back, number-within}
use Rattle.lola_report.specs.Ends.{malformed_text}
use Rattle.lola_report.specs.Names.{malformed_name, malformed_number}
use Rattle.lola_replay.specs.EndLines.{IsMalformedAt, kind_at, malformed_front, number_in, word_long}
use Rattle.lola_replay.specs.Ends.{most_rows}

-- a word of digits ends at the space behind it
word-of-digits : (ds more : List ℕ) → list_all is_digit ds ≡ true → word_long (ds ++ 32 ∷ more) ≡ length ds
word-of-digits [] more all = refl
word-of-digits (d ∷ ds) more all =
    let p = and_parts (is_digit d) (list_all is_digit ds) all in
    let q = and_parts (nat_le 48 d) (nat_le d 57) p.0 in
    let low : 48 ≤ d = leb-true 48 d q.0 in
    let off : nat_eq d 32 ≡ false = ne_eqb d 32 (λ e. absurd (omega (arith, e, low))) in
    let rest = word-of-digits ds more p.1 in
    ap (λ b. if b then 0 else word_long (ds ++ 32 ∷ more) + 1) off ∙ (omega (arith, rest))

number-read : (front more : List ℕ) (row : ℕ) → row < 2 ^ 64 → number_in (front ++ (decimal row ++ 32 ∷ more)) (length front) ≡ Some row
number-read front more row low =
    let text = decimal row ++ 32 ∷ more in
    let whole = length-append front text in
    let part = length-append (decimal row) (32 ∷ more) in
    let there : nat_lt (length front) (length (front ++ text)) ≡ true = lt-ltb (length front) (length (front ++ text)) (omega (arith, whole, part)) in
    let digits = (decimal-spells row low).all in
    ap (λ b. if b then read_natural kind.UInt64 (take (word_long (drop (length front) (front ++ text))) (drop (length front) (front ++ text))) else None) there
    ∙ ap (λ t. read_natural kind.UInt64 (take (word_long t) t)) (drop-append_seam front text)
    ∙ ap (λ n. read_natural kind.UInt64 (take n text)) (word-of-digits (decimal row) more digits)
    ∙ ap (read_natural kind.UInt64) (take-append_seam (decimal row) (32 ∷ more))
    ∙ natural-back kind.UInt64 row (number-within row low)

-- the parts of the line
text-parts : (front row number name : List ℕ) → front ++ row ++ codes " kind " ++ number ++ codes " " ++ name ++ codes "\n" ≡ front ++ (row ++ 32 ∷ (codes "kind " ++ number ++ codes " " ++ name ++ codes "\n"))
text-parts front row number name = simp append_assoc

pub number-told : (source row : ℕ) (k : MalformedKind) (line : List ℕ) → row ≤ most_rows + 1 → line ≡ malformed_text source row k → number_in line (length (malformed_front source)) ≡ Some row
number-told source row k line low is =
    let front = malformed_front source in
    ap (λ l. number_in l (length front)) (is ∙ text-parts front (decimal row) (decimal (malformed_number k)) (malformed_name k))
    ∙ number-read front (codes "kind " ++ decimal (malformed_number k) ++ codes " " ++ malformed_name k ++ codes "\n") row (omega (arith, low))

-- each kind has a number
pub all-kinds : (P : MalformedKind → Type 0) → ((j : ℕ) → j < 8 → P (kind_at j)) → (k : MalformedKind) → P k
all-kinds P each malformed.BadHeading = each 0 (omega arith)
all-kinds P each malformed.FieldCount = each 1 (omega arith)
all-kinds P each malformed.BadTime = each 2 (omega arith)
all-kinds P each malformed.BadValue = each 3 (omega arith)
all-kinds P each malformed.BadText = each 4 (omega arith)
all-kinds P each malformed.BareCr = each 5 (omega arith)
all-kinds P each malformed.RowTooLong = each 6 (omega arith)
all-kinds P each malformed.TooManyRows = each 7 (omega arith)

-- a line does not say that a source is malformed where the row that it tells is none
pub none-malformed : (source : ℕ) (line : List ℕ) → number_in line (length (malformed_front source)) ≡ None → ¬ (IsMalformedAt source line)
none-malformed source line none is = let both = sym (number-told source is.row is.kind line is.in_range is.written) ∙ none in absurd (cc both)

pub far-malformed : (source row : ℕ) (line : List ℕ) → number_in line (length (malformed_front source)) ≡ Some row → most_rows + 1 < row → ¬ (IsMalformedAt source line)
far-malformed source row line some far is =
    let both : Some is.row ≡ Some row = sym (number-told source is.row is.kind line is.in_range is.written) ∙ some in
    let same : is.row ≡ row = cc both in
    let low = is.in_range in
    absurd (omega (arith, same, low, far))

pub not-malformed : (source row : ℕ) (line : List ℕ) → number_in line (length (malformed_front source)) ≡ Some row → ((k : MalformedKind) → line ≢ malformed_text source row k) → ¬ (IsMalformedAt source line)
not-malformed source row line some off is =
    let both : Some is.row ≡ Some row = sym (number-told source is.row is.kind line is.in_range is.written) ∙ some in
    let same : is.row ≡ row = cc both in
    off is.kind (is.written ∙ ap (λ n. malformed_text source n is.kind) same)
