-- What stands at the front of a text, found by its first bytes.
use Rattle.std.specs.Prelude.{ℕ, ◌+◌, ◌-◌, ◌≤◌, Bool, false, ◌&&◌, ◌||◌, ◌==◌, if◌then◌else◌, nat_lt, List, [], ◌∷◌, take, drop, slice_index, Option, Some, None}
use Rattle.std.specs.Char.{is_ascii_digit}
use Rattle.std.specs.List.{prefix_len, list_any}
use Rattle.std.specs.Str.{is_utf8, bytes_eq}
use Rattle.lola_lexer.specs.declared.shape.TokenShape.{TokenShape}
use Rattle.lola_lexer.specs.declared.shape.TokenShape.TheVariants as is
use Rattle.lola_lexer.specs.Spelling.{Bytes, is_blank, begins_name, in_name, in_line, is_escape, spelling, reserved, units}
use Rattle.lola_lexer.specs.declared.scan.bytes.Class.{Class}
use Rattle.lola_lexer.specs.declared.scan.bytes.Class.TheVariants as class
use Rattle.lola_lexer.specs.declared.scan.thing.Thing.{Thing}
use Rattle.lola_lexer.specs.declared.scan.thing.Thing.TheVariants as thing

-- ---- classes of bytes, and runs

abbrev pub in_class : Class → ℕ → Bool
in_class class.Name b = in_name b
in_class class.Digit b = is_ascii_digit b
in_class class.Line b = in_line b

-- how many bytes pass, from the place on
abbrev pub run : (ℕ → Bool) → ℕ → Bytes → ℕ
run p at z = prefix_len p (drop at z)

-- ---- names and reserved words

-- the first of the words that is spelled so, and else a name
abbrev pub shape_among : List TokenShape → Bytes → TokenShape
shape_among [] w = is.Name
shape_among (s ∷ ss) w = if bytes_eq w (spelling s) then s else shape_among ss w

abbrev pub shape_of_word : Bytes → TokenShape
shape_of_word w = shape_among reserved w

-- the name or reserved word at the front
unfoldable pub word : Bytes → Thing
word z = thing.Token (shape_of_word (take (run in_name 0 z) z)) (run in_name 0 z)

-- ---- numbers

abbrev pub is_unit : Bytes → Bool
is_unit u = list_any (bytes_eq u) units

-- the place after a point and digits, if they stand at the place
abbrev pub past_fraction : ℕ → Bytes → ℕ
past_fraction at z =
    if slice_index z at == 46 && is_ascii_digit (slice_index z (at + 1)) then at + 1 + run is_ascii_digit (at + 1) z else at

-- a number of this many digits that ends at the place, and the run of letters behind it
abbrev pub measured : ℕ → ℕ → Bytes → Thing
measured digits end z =
    let unit = run in_name end z in
    if nat_lt 38 digits then thing.Bad
    else if unit == 0 then (if digits == end then thing.Token is.Integer end else thing.Bad)
    else if is_unit (take unit (drop end z)) then thing.Token is.Quantity (end + unit)
    else thing.Bad

unfoldable pub number : Bytes → Thing
number z =
    let whole = run is_ascii_digit 0 z in
    let end = past_fraction whole z in
    measured (if end == whole then end else end - 1) end z

-- ---- texts

-- the place after the closing quote; the flag says that a backslash stands before
abbrev pub closing : Bool → ℕ → Bytes → Option ℕ
closing is_escaped at [] = None
closing is_escaped at (b ∷ z) =
    if is_escaped then (if is_escape b then closing false (at + 1) z else None)
    else if b == 34 then Some (at + 1)
    else if b == 10 || b == 13 then None
    else closing (b == 92) (at + 1) z

abbrev pub if_utf8 : Bytes → Thing → Thing
if_utf8 z found = if is_utf8 z then found else thing.Bad

abbrev pub closed : Bytes → Option ℕ → Thing
closed z None = thing.Bad
closed z (Some end) = if_utf8 (take end z) (thing.Token is.Text end)

unfoldable pub text : Bytes → Thing
text z = closed z (closing false 1 (drop 1 z))

-- ---- comments

unfoldable pub line_comment : Bytes → Thing
line_comment z = if_utf8 (take (run in_line 0 z) z) (thing.Gap (run in_line 0 z))

-- the place after the next `*/`; the flag says that a star stands before
abbrev pub comment_end : Bool → ℕ → Bytes → Option ℕ
comment_end is_star at [] = None
comment_end is_star at (b ∷ z) = if is_star && b == 47 then Some (at + 1) else comment_end (b == 42) (at + 1) z

abbrev pub commented : Bytes → Option ℕ → Thing
commented z None = thing.Bad
commented z (Some end) = if_utf8 (take end z) (thing.Gap end)

unfoldable pub block_comment : Bytes → Thing
block_comment z = commented z (comment_end false 2 (drop 2 z))

-- ---- signs, by their first two bytes

abbrev pub sign : ℕ → ℕ → Thing
sign b c =
    if b == 58 then (if c == 61 then thing.Token is.Define 2 else thing.Token is.Colon 1)
    else if b == 44 then thing.Token is.Comma 1
    else if b == 40 then thing.Token is.Open 1
    else if b == 41 then thing.Token is.Shut 1
    else if b == 46 then thing.Token is.Dot 1
    else if b == 64 then thing.Token is.At 1
    else if b == 43 then thing.Token is.Plus 1
    else if b == 45 then thing.Token is.Minus 1
    else if b == 42 then thing.Token is.Star 1
    else if b == 47 then thing.Token is.Slash 1
    else if b == 37 then thing.Token is.Percent 1
    else if b == 33 then (if c == 61 then thing.Token is.Unequal 2 else thing.Token is.Not 1)
    else if b == 38 then (if c == 38 then thing.Token is.And 2 else thing.Bad)
    else if b == 124 then (if c == 124 then thing.Token is.Or 2 else thing.Bad)
    else if b == 61 then (if c == 61 then thing.Token is.Equal 2 else thing.Bad)
    else if b == 60 then (if c == 61 then thing.Token is.LessEqual 2 else thing.Token is.Less 1)
    else if b == 62 then (if c == 61 then thing.Token is.GreaterEqual 2 else thing.Token is.Greater 1)
    else thing.Bad

-- what stands at the front of the bytes, and how long it is
unfoldable pub thing_at : Bytes → Thing
thing_at z =
    let b = slice_index z 0 in
    let c = slice_index z 1 in
    if is_blank b then thing.Gap 1
    else if b == 47 && c == 47 then line_comment z
    else if b == 47 && c == 42 then block_comment z
    else if begins_name b then word z
    else if is_ascii_digit b then number z
    else if b == 34 then text z
    else sign b c

-- it takes at least one byte, and no more than there are
abbrev pub IsWithin : ℕ → Thing → Type 0
IsWithin len (thing.Gap n) = (1 ≤ n) × (n ≤ len)
IsWithin len (thing.Token shape n) = (1 ≤ n) × (n ≤ len)
IsWithin len thing.Bad = Unit {0}
