-- A grammar as a value: what it spells, and how it is read from left to right.
use Rattle.std.specs.Prelude.{◌≡◌, ℕ, zero, suc, Bool, true, false, not, ◌&&◌, ◌||◌, if◌then◌else◌, List, [], ◌∷◌, ◌++◌, length, ◌-◌, Option, Some, None, Result, Ok, Err, ◌⊎◌}
use Rattle.std.specs.Str.{bytes_eq}
use denote.Enum.Bare.{sameb}
use Rattle.lola_lexer.specs.contracts.shape.TokenShape.{the_type}
use Rattle.lola_lexer.specs.declared.shape.TokenShape.{TokenShape}
use Rattle.lola_lexer.specs.declared.shape.TokenShape.TheVariants as is

-- a token, with its bytes and its place
pub record Lexeme : Type 0 where
  pub shape : TokenShape
  pub text : List ℕ
  pub from : ℕ
  pub to : ℕ

-- what a token may have to be: of a shape, or a name spelled so, or a name that is none of these
pub data Terminal : Type 0 where
  Of : TokenShape → Terminal
  Word : List ℕ → Terminal
  Other : List (List ℕ) → Terminal

unfoldable pub same_shape : TokenShape → TokenShape → Bool
same_shape = sameb the_type

-- the text is one of the words
abbrev pub is_among : List ℕ → List (List ℕ) → Bool
is_among w [] = false
is_among w (v ∷ vs) = bytes_eq v w || is_among w vs

unfoldable pub fits : Terminal → Lexeme → Bool
fits (Of s) t = same_shape s t.shape
fits (Word w) t = same_shape is.Name t.shape && bytes_eq w t.text
fits (Other ws) t = same_shape is.Name t.shape && not (is_among t.text ws)

-- A part of the grammar whose sentences have values of type A.
pub data Syntax : Type 0 → Type 1 where
  -- what is nested deeper than anything is read: its sentences are known, and none is read
  Past : {A : Type 0} → Syntax A → Syntax A
  Token : Terminal → Syntax Lexeme
  -- a token that counts as a nesting
  Nesting : Terminal → Syntax Lexeme
  -- a whole expression, in which the nestings are counted
  Whole : {A : Type 0} → Syntax A → Syntax A
  -- a part that begins with one of the first tokens, and that only one of the others can go on
  Known : {A : Type 0} → List Terminal → List Terminal → Syntax A → Syntax A
  Then : {A B : Type 0} → Syntax A → Syntax B → Syntax (A × B)
  Map : {A B : Type 0} → (A → B) → Syntax A → Syntax B
  Either : {A : Type 0} → Syntax A → Syntax A → Syntax A
  Maybe : {A : Type 0} → Syntax A → Syntax (Option A)
  Many : {A : Type 0} → Syntax A → Syntax (List A)
  -- Behind an opening bracket, a whole expression. Only behind that it shows what the bracket was: where the first of the two
  -- rests follows, it was no nesting, and where the second does, it was one, and the expression goes on. With the tokens that are nestings.
  Fork : {A B : Type 0} → List Terminal → Syntax A → Syntax B → Syntax B → Syntax (A × B)

-- ---- what it spells

abbrev pub Repeats : {A : Type 0} → (List Lexeme → A → Type 0) → List Lexeme → List A → Type 0
Repeats P ts [] = ts ≡ []
Repeats P ts (x ∷ xs) = (u v : List Lexeme) × (ts ≡ u ++ v) × P u x × Repeats P v xs

abbrev pub Perhaps : {A : Type 0} → (List Lexeme → A → Type 0) → List Lexeme → Option A → Type 0
Perhaps P ts None = ts ≡ []
Perhaps P ts (Some x) = P ts x

-- the tokens are a sentence of it, with this value
unfoldable pub Spells : {A : Type 0} → Syntax A → List Lexeme → A → Type 0
Spells (Past a) ts x = Spells a ts x
Spells (Token k) ts x = (ts ≡ x ∷ []) × (fits k x ≡ true)
Spells (Nesting k) ts x = (ts ≡ x ∷ []) × (fits k x ≡ true)
Spells (Whole a) ts x = Spells a ts x
Spells (Known fs ms a) ts x = Spells a ts x
Spells (Then a b) ts x = (u v : List Lexeme) × (ts ≡ u ++ v) × Spells a u x.0 × Spells b v x.1
Spells (Map f a) ts y = (x : _) × (y ≡ f x) × Spells a ts x
Spells (Either a b) ts x = Spells a ts x ⊎ Spells b ts x
Spells (Maybe a) ts x = Perhaps (Spells a) ts x
Spells (Many a) ts xs = Repeats (Spells a) ts xs
Spells (Fork ks a b c) ts x = (u v : List Lexeme) × (ts ≡ u ++ v) × Spells a u x.0 × (Spells b v x.1 ⊎ Spells c v x.1)

-- ---- how it is read

abbrev pub any_fits : List Terminal → Lexeme → Bool
any_fits [] t = false
any_fits (k ∷ ks) t = fits k t || any_fits ks t

-- the next token is one of these
abbrev pub starts : List Terminal → List Lexeme → Bool
starts ks [] = false
starts ks (t ∷ ts) = any_fits ks t

-- a sentence can have no tokens
unfoldable pub nullable : {A : Type 0} → Syntax A → Bool
nullable (Past a) = nullable a
nullable (Token k) = false
nullable (Nesting k) = false
nullable (Whole a) = nullable a
nullable (Known fs ms a) = false
nullable (Then a b) = nullable a && nullable b
nullable (Map f a) = nullable a
nullable (Either a b) = nullable a || nullable b
nullable (Maybe a) = true
nullable (Many a) = true
nullable (Fork ks a b c) = false

-- the tokens that a sentence begins with
unfoldable pub first : {A : Type 0} → Syntax A → List Terminal
first (Past a) = first a
first (Token k) = k ∷ []
first (Nesting k) = k ∷ []
first (Whole a) = first a
first (Known fs ms a) = fs
first (Then a b) = if nullable a then first a ++ first b else first a
first (Map f a) = first a
first (Either a b) = first a ++ first b
first (Maybe a) = first a
first (Many a) = first a
first (Fork ks a b c) = first a

-- the tokens from the first on that does not fit, or that is nested too deep
pub data Refusal : Type 0 where
  Unexpected : List Lexeme → Refusal
  TooDeep : List Lexeme → Refusal

-- a value, how many more nestings may come in the expression, and the tokens after it
abbrev pub Outcome : Type 0 → Type 0
Outcome A = Result (A × ℕ × List Lexeme) Refusal

abbrev pub Reader : Type 0 → Type 0
Reader A = ℕ → List Lexeme → Outcome A

infixl 10 ◌>>=◌
abbrev pub ◌>>=◌ : {A B : Type 0} → Outcome A → (A → Reader B) → Outcome B
(Ok p) >>= f = f p.0 p.1 p.2
(Err e) >>= f = Err e

abbrev pub take_token : Terminal → Reader Lexeme
take_token k m [] = Err (Unexpected [])
take_token k m (t ∷ ts) = if fits k t then Ok (t, m, ts) else Err (Unexpected (t ∷ ts))

abbrev pub counted : Lexeme → Reader Lexeme
counted t zero ts = Err (TooDeep (t ∷ ts))
counted t (suc m) ts = Ok (t, m, ts)

abbrev pub take_nesting : Terminal → Reader Lexeme
take_nesting k m [] = Err (Unexpected [])
take_nesting k m (t ∷ ts) = if fits k t then counted t m ts else Err (Unexpected (t ∷ ts))

-- as often as it begins, which is no more often than there are tokens
abbrev pub repeated : {A : Type 0} → Reader A → List Terminal → ℕ → Reader (List A)
repeated r ks zero m ts = Ok ([], m, ts)
repeated r ks (suc n) m ts = if starts ks ts then (r m ts >>= λ x i rest. repeated r ks n i rest >>= λ xs j rest. Ok (x ∷ xs, j, rest)) else Ok ([], m, ts)

abbrev pub max_nestings : ℕ
max_nestings = 512

-- the tokens from the last nesting on that stands among the first n of these, or `best` where none does
abbrev pub last_nesting : List Terminal → ℕ → List Lexeme → List Lexeme → List Lexeme
last_nesting ks n best [] = best
last_nesting ks zero best (t ∷ ts) = best
last_nesting ks (suc n) best (t ∷ ts) = last_nesting ks n (if any_fits ks t then t ∷ ts else best) ts

-- an earlier token is a nesting after all, by which the tokens from `deep` on may be too deep
abbrev pub charged : {A : Type 0} → List Lexeme → Reader A → Reader A
charged deep r zero ts = Err (TooDeep deep)
charged deep r (suc m) ts = r m ts

-- one of two rests, by the next token
abbrev pub either_rest : {A : Type 0} → List Terminal → Reader A → List Terminal → Reader A → Reader A
either_rest fs r gs s m ts = if starts fs ts then r m ts else (if starts gs ts then s m ts else Err (Unexpected ts))

unfoldable pub read : {A : Type 0} → Syntax A → Reader A
read (Past a) m ts = Err (TooDeep ts)
read (Token k) m ts = take_token k m ts
read (Nesting k) m ts = take_nesting k m ts
read (Whole a) m ts = read a max_nestings ts
read (Known fs ms a) m ts = read a m ts
read (Then a b) m ts = read a m ts >>= λ x i rest. read b i rest >>= λ y j rest. Ok ((x, y), j, rest)
read (Map f a) m ts = read a m ts >>= λ x i rest. Ok (f x, i, rest)
read (Either a b) m ts = if starts (first a) ts then read a m ts else read b m ts
read (Maybe a) m ts = if starts (first a) ts then (read a m ts >>= λ x i rest. Ok (Some x, i, rest)) else Ok (None, m, ts)
read (Many a) m ts = repeated (read a) (first a) (length ts) m ts
read (Fork ks a b c) m ts = read a max_nestings ts >>= λ x i rest.
    either_rest (first b) (read b) (first c) (charged (last_nesting ks (length ts - length rest) rest ts) (read c)) i rest >>= λ y j end. Ok ((x, y), j, end)

-- ---- the grammars that one token ahead is enough for

-- the tokens that can go on a whole sentence
unfoldable pub more : {A : Type 0} → Syntax A → List Terminal
more (Past a) = more a
more (Token k) = []
more (Nesting k) = []
more (Whole a) = more a
more (Known fs ms a) = ms
more (Then a b) = if nullable b then more b ++ more a else more b
more (Map f a) = more a
more (Either a b) = more a ++ more b
more (Maybe a) = first a ++ more a
more (Many a) = first a ++ more a
more (Fork ks a b c) = more b ++ more c

-- some token can be both
abbrev pub clash : Terminal → Terminal → Bool
clash (Of s) (Of r) = same_shape s r
clash (Of s) (Word w) = same_shape s is.Name
clash (Of s) (Other ws) = same_shape s is.Name
clash (Word w) (Of s) = same_shape is.Name s
clash (Word v) (Word w) = bytes_eq v w
clash (Word w) (Other ws) = not (is_among w ws)
clash (Other ws) (Of s) = same_shape is.Name s
clash (Other ws) (Word w) = not (is_among w ws)
clash (Other vs) (Other ws) = true

abbrev pub clashes : Terminal → List Terminal → Bool
clashes k [] = false
clashes k (l ∷ ls) = clash k l || clashes k ls

abbrev pub apart : List Terminal → List Terminal → Bool
apart [] ls = true
apart (k ∷ ks) ls = not (clashes k ls) && apart ks ls

abbrev pub same_test : Terminal → Terminal → Bool
same_test (Of s) (Of r) = same_shape s r
same_test (Of s) (Word w) = false
same_test (Word w) (Of s) = false
same_test (Word v) (Word w) = bytes_eq v w
same_test (Other vs) l = false
same_test k (Other ws) = false

abbrev pub listed : Terminal → List Terminal → Bool
listed k [] = false
listed k (l ∷ ls) = same_test k l || listed k ls

abbrev pub within : List Terminal → List Terminal → Bool
within [] ls = true
within (k ∷ ks) ls = listed k ls && within ks ls

-- by its own fineness, whether it can have no tokens, and what it begins with: it may follow what these tokens can go on
abbrev pub is_rest : List Terminal → Bool → Bool → List Terminal → Bool
is_rest ms fine empty fs = fine && (not empty && apart ms fs)

unfoldable pub is_fine : {A : Type 0} → Syntax A → Bool
is_fine (Past a) = is_fine a
is_fine (Token k) = true
is_fine (Nesting k) = true
is_fine (Whole a) = is_fine a
is_fine (Known fs ms a) = is_fine a && (not (nullable a) && (within (first a) fs && within (more a) ms))
is_fine (Then a b) = is_fine a && (is_fine b && apart (more a) (first b))
is_fine (Map f a) = is_fine a
is_fine (Either a b) = is_fine a && (is_fine b && (not (nullable a) && (not (nullable b) && apart (first a) (first b))))
is_fine (Maybe a) = is_fine a && not (nullable a)
is_fine (Many a) = is_fine a && (not (nullable a) && apart (more a) (first a))
is_fine (Fork ks a b c) = is_fine a && (not (nullable a) && (is_rest (more a) (is_fine b) (nullable b) (first b)
    && (is_rest (more a) (is_fine c) (nullable c) (first c) && apart (first b) (first c))))

-- ---- a whole text

abbrev pub all_read : {A : Type 0} → Outcome A → Result A Refusal
all_read (Ok (x, m, [])) = Ok x
all_read (Ok (x, m, (t ∷ ts))) = Err (Unexpected (t ∷ ts))
all_read (Err d) = Err d

unfoldable pub read_all : {A : Type 0} → Syntax A → List Lexeme → Result A Refusal
read_all s ts = all_read (read s max_nestings ts)

-- some sentence begins with these tokens
abbrev pub Begins : {A : Type 0} → Syntax A → List Lexeme → Type 0
Begins {A} s u = (v : List Lexeme) × (x : A) × Spells s (u ++ v) x

-- the first token such that no sentence begins with the tokens up to it, or the end
abbrev pub IsFirstMisfit : {A : Type 0} → Syntax A → List Lexeme → List Lexeme → Type 0
IsFirstMisfit {A} s ts [] = Begins s ts × ((x : A) → Spells s ts x → ⊥)
IsFirstMisfit s ts (t ∷ rest) = (u : List Lexeme) × (ts ≡ u ++ t ∷ rest) × Begins s u × (Begins s (u ++ t ∷ []) → ⊥)
