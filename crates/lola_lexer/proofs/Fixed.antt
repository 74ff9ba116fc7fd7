-- A reserved word or a sign is found, where nothing behind it makes it longer.
use Rattle.std.proofs.Common.{◌≡◌, ℕ, ◌<◌, Bool, true, false, ◌||◌, ◌==◌, [], ◌∷◌, ◌++◌, length, refl, sym, ap, ◌∙◌, true≢false, arith}
use Rattle.std.specs.List.{slice_index, AllPass, list_all}
use Rattle.std.specs.Prelude.{codes}
use Rattle.std.specs.Char.{is_ascii_digit}
use Rattle.std.proofs.lemmas.List.{take_at}
use Rattle.std.proofs.lemmas.List.Sums.{AllPass-from_list_all}
use Rattle.std.proofs.lemmas.Bool.{or_parts}
use Rattle.lola_lexer.specs.declared.shape.TokenShape.{TokenShape}
use Rattle.lola_lexer.specs.declared.shape.TokenShape.TheVariants as is
use Rattle.lola_lexer.specs.declared.scan.thing.Thing.TheVariants as thing
use Rattle.lola_lexer.specs.Spelling.{Bytes, begins_name, in_name, spelling, IsWord}
use Rattle.lola_lexer.specs.Lexical.{shape_of_word, word, number, text, thing_at}
use Rattle.lola_lexer.specs.Longest.{goes_on}
use Rattle.lola_lexer.proofs.Runs.{run_whole}
use Rattle.lola_lexer.proofs.Classes.{differs, name_is_no_blank, digit_is_no_blank, digit_begins_none}

pub front_word : (z : Bytes) → begins_name (slice_index z 0) ≡ true → thing_at z ≡ word z
unfolding thing_at
front_word z h = rw (name_is_no_blank (slice_index z 0) h, differs begins_name (slice_index z 0) 47 h refl, h) refl

pub front_number : (z : Bytes) → is_ascii_digit (slice_index z 0) ≡ true → thing_at z ≡ number z
unfolding thing_at
front_number z h =
    rw (digit_is_no_blank (slice_index z 0) h, differs is_ascii_digit (slice_index z 0) 47 h refl, digit_begins_none (slice_index z 0) h, h) refl

pub front_text : (z : Bytes) → thing_at (34 ∷ z) ≡ text (34 ∷ z)
unfolding thing_at
front_text z = refl

-- the first byte of what has one is that of the whole
pub first_of_front : (w rest : Bytes) → 0 < length w → slice_index (w ++ rest) 0 ≡ slice_index w 0
first_of_front [] rest h = absurd (omega (arith, h))
first_of_front (b ∷ w) rest h = refl

pub some_bytes : (p : ℕ → Bool) (w : Bytes) → p (slice_index w 0) ≡ true → p 0 ≡ false → 0 < length w
some_bytes p [] h none = absurd (true≢false (sym h ∙ none))
some_bytes p (b ∷ w) h none = omega arith

-- ---- words

word_whole : (w rest : Bytes) → AllPass in_name w → in_name (slice_index rest 0) ≡ false → word (w ++ rest) ≡ thing.Token (shape_of_word w) (length w)
unfolding word
word_whole w rest all ends = rw (run_whole in_name w rest all ends, take_at w rest (length w) refl) refl

pub word_complete : (s : TokenShape) (w rest : Bytes) → IsWord w → shape_of_word w ≡ s → in_name (slice_index rest 0) ≡ false
    → thing_at (w ++ rest) ≡ thing.Token s (length w)
word_complete s w rest is_word is ends =
    let first = first_of_front w rest (some_bytes begins_name w is_word.0 refl) in
    front_word (w ++ rest) (ap begins_name first ∙ is_word.0) ∙ word_whole w rest is_word.1 ends ∙ ap (λ t. thing.Token t (length w)) is

reserved_complete : (s : TokenShape) (rest : Bytes) → begins_name (slice_index (spelling s) 0) ≡ true → list_all in_name (spelling s) ≡ true
    → shape_of_word (spelling s) ≡ s → in_name (slice_index rest 0) ≡ false → thing_at (spelling s ++ rest) ≡ thing.Token s (length (spelling s))
reserved_complete s rest first all is ends = word_complete s (spelling s) rest (first, AllPass-from_list_all in_name (spelling s) all) is ends

-- ---- signs

sign_Define : (rest : Bytes) → goes_on is.Define (slice_index rest 0) (slice_index rest 1) ≡ false → thing_at (codes ":=" ++ rest) ≡ thing.Token is.Define 2
unfolding thing_at
sign_Define rest _ = refl

sign_Colon : (rest : Bytes) → goes_on is.Colon (slice_index rest 0) (slice_index rest 1) ≡ false → thing_at (codes ":" ++ rest) ≡ thing.Token is.Colon 1
unfolding thing_at
sign_Colon rest ends = rw ends refl

sign_Comma : (rest : Bytes) → goes_on is.Comma (slice_index rest 0) (slice_index rest 1) ≡ false → thing_at (codes "," ++ rest) ≡ thing.Token is.Comma 1
unfolding thing_at
sign_Comma rest _ = refl

sign_Open : (rest : Bytes) → goes_on is.Open (slice_index rest 0) (slice_index rest 1) ≡ false → thing_at (codes "(" ++ rest) ≡ thing.Token is.Open 1
unfolding thing_at
sign_Open rest _ = refl

sign_Shut : (rest : Bytes) → goes_on is.Shut (slice_index rest 0) (slice_index rest 1) ≡ false → thing_at (codes ")" ++ rest) ≡ thing.Token is.Shut 1
unfolding thing_at
sign_Shut rest _ = refl

sign_Dot : (rest : Bytes) → goes_on is.Dot (slice_index rest 0) (slice_index rest 1) ≡ false → thing_at (codes "." ++ rest) ≡ thing.Token is.Dot 1
unfolding thing_at
sign_Dot rest _ = refl

sign_At : (rest : Bytes) → goes_on is.At (slice_index rest 0) (slice_index rest 1) ≡ false → thing_at (codes "@" ++ rest) ≡ thing.Token is.At 1
unfolding thing_at
sign_At rest _ = refl

sign_Plus : (rest : Bytes) → goes_on is.Plus (slice_index rest 0) (slice_index rest 1) ≡ false → thing_at (codes "+" ++ rest) ≡ thing.Token is.Plus 1
unfolding thing_at
sign_Plus rest _ = refl

sign_Minus : (rest : Bytes) → goes_on is.Minus (slice_index rest 0) (slice_index rest 1) ≡ false → thing_at (codes "-" ++ rest) ≡ thing.Token is.Minus 1
unfolding thing_at
sign_Minus rest _ = refl

sign_Star : (rest : Bytes) → goes_on is.Star (slice_index rest 0) (slice_index rest 1) ≡ false → thing_at (codes "*" ++ rest) ≡ thing.Token is.Star 1
unfolding thing_at
sign_Star rest _ = refl

sign_Slash : (rest : Bytes) → goes_on is.Slash (slice_index rest 0) (slice_index rest 1) ≡ false → thing_at (codes "/" ++ rest) ≡ thing.Token is.Slash 1
unfolding thing_at
sign_Slash rest ends = let p = or_parts (slice_index rest 0 == 47) (slice_index rest 0 == 42) ends in rw (p.0, p.1) refl

sign_Percent : (rest : Bytes) → goes_on is.Percent (slice_index rest 0) (slice_index rest 1) ≡ false → thing_at (codes "%" ++ rest) ≡ thing.Token is.Percent 1
unfolding thing_at
sign_Percent rest _ = refl

sign_Not : (rest : Bytes) → goes_on is.Not (slice_index rest 0) (slice_index rest 1) ≡ false → thing_at (codes "!" ++ rest) ≡ thing.Token is.Not 1
unfolding thing_at
sign_Not rest ends = rw ends refl

sign_And : (rest : Bytes) → goes_on is.And (slice_index rest 0) (slice_index rest 1) ≡ false → thing_at (codes "&&" ++ rest) ≡ thing.Token is.And 2
unfolding thing_at
sign_And rest _ = refl

sign_Or : (rest : Bytes) → goes_on is.Or (slice_index rest 0) (slice_index rest 1) ≡ false → thing_at (codes "||" ++ rest) ≡ thing.Token is.Or 2
unfolding thing_at
sign_Or rest _ = refl

sign_Equal : (rest : Bytes) → goes_on is.Equal (slice_index rest 0) (slice_index rest 1) ≡ false → thing_at (codes "==" ++ rest) ≡ thing.Token is.Equal 2
unfolding thing_at
sign_Equal rest _ = refl

sign_Unequal : (rest : Bytes) → goes_on is.Unequal (slice_index rest 0) (slice_index rest 1) ≡ false → thing_at (codes "!=" ++ rest) ≡ thing.Token is.Unequal 2
unfolding thing_at
sign_Unequal rest _ = refl

sign_Less : (rest : Bytes) → goes_on is.Less (slice_index rest 0) (slice_index rest 1) ≡ false → thing_at (codes "<" ++ rest) ≡ thing.Token is.Less 1
unfolding thing_at
sign_Less rest ends = rw ends refl

sign_LessEqual : (rest : Bytes) → goes_on is.LessEqual (slice_index rest 0) (slice_index rest 1) ≡ false → thing_at (codes "<=" ++ rest) ≡ thing.Token is.LessEqual 2
unfolding thing_at
sign_LessEqual rest _ = refl

sign_Greater : (rest : Bytes) → goes_on is.Greater (slice_index rest 0) (slice_index rest 1) ≡ false → thing_at (codes ">" ++ rest) ≡ thing.Token is.Greater 1
unfolding thing_at
sign_Greater rest ends = rw ends refl

sign_GreaterEqual : (rest : Bytes) → goes_on is.GreaterEqual (slice_index rest 0) (slice_index rest 1) ≡ false → thing_at (codes ">=" ++ rest) ≡ thing.Token is.GreaterEqual 2
unfolding thing_at
sign_GreaterEqual rest _ = refl

-- ---- all of them

-- a shape with one spelling
abbrev pub IsFixed : TokenShape → Type 0
IsFixed is.Name = ⊥
IsFixed is.Integer = ⊥
IsFixed is.Quantity = ⊥
IsFixed is.Text = ⊥
IsFixed s = Unit {0}

pub fixed_complete : (s : TokenShape) → IsFixed s → (rest : Bytes) → goes_on s (slice_index rest 0) (slice_index rest 1) ≡ false
    → thing_at (spelling s ++ rest) ≡ thing.Token s (length (spelling s))
fixed_complete is.Input _ rest ends = reserved_complete is.Input rest refl refl refl ends
fixed_complete is.Output _ rest ends = reserved_complete is.Output rest refl refl refl ends
fixed_complete is.Constant _ rest ends = reserved_complete is.Constant rest refl refl refl ends
fixed_complete is.Trigger _ rest ends = reserved_complete is.Trigger rest refl refl refl ends
fixed_complete is.Spawn _ rest ends = reserved_complete is.Spawn rest refl refl refl ends
fixed_complete is.Eval _ rest ends = reserved_complete is.Eval rest refl refl refl ends
fixed_complete is.Close _ rest ends = reserved_complete is.Close rest refl refl refl ends
fixed_complete is.With _ rest ends = reserved_complete is.With rest refl refl refl ends
fixed_complete is.When _ rest ends = reserved_complete is.When rest refl refl refl ends
fixed_complete is.If _ rest ends = reserved_complete is.If rest refl refl refl ends
fixed_complete is.Then _ rest ends = reserved_complete is.Then rest refl refl refl ends
fixed_complete is.Else _ rest ends = reserved_complete is.Else rest refl refl refl ends
fixed_complete is.True _ rest ends = reserved_complete is.True rest refl refl refl ends
fixed_complete is.False _ rest ends = reserved_complete is.False rest refl refl refl ends
fixed_complete is.Define _ rest ends = sign_Define rest ends
fixed_complete is.Colon _ rest ends = sign_Colon rest ends
fixed_complete is.Comma _ rest ends = sign_Comma rest ends
fixed_complete is.Open _ rest ends = sign_Open rest ends
fixed_complete is.Shut _ rest ends = sign_Shut rest ends
fixed_complete is.Dot _ rest ends = sign_Dot rest ends
fixed_complete is.At _ rest ends = sign_At rest ends
fixed_complete is.Plus _ rest ends = sign_Plus rest ends
fixed_complete is.Minus _ rest ends = sign_Minus rest ends
fixed_complete is.Star _ rest ends = sign_Star rest ends
fixed_complete is.Slash _ rest ends = sign_Slash rest ends
fixed_complete is.Percent _ rest ends = sign_Percent rest ends
fixed_complete is.Not _ rest ends = sign_Not rest ends
fixed_complete is.And _ rest ends = sign_And rest ends
fixed_complete is.Or _ rest ends = sign_Or rest ends
fixed_complete is.Equal _ rest ends = sign_Equal rest ends
fixed_complete is.Unequal _ rest ends = sign_Unequal rest ends
fixed_complete is.Less _ rest ends = sign_Less rest ends
fixed_complete is.LessEqual _ rest ends = sign_LessEqual rest ends
fixed_complete is.Greater _ rest ends = sign_Greater rest ends
fixed_complete is.GreaterEqual _ rest ends = sign_GreaterEqual rest ends
fixed_complete is.Name none rest ends = absurd none
fixed_complete is.Integer none rest ends = absurd none
fixed_complete is.Quantity none rest ends = absurd none
fixed_complete is.Text none rest ends = absurd none
