-- Tokens that are written with blanks between them are cut into the same tokens.
use Rattle.std.specs.Prelude.{nat_lt}
use Rattle.std.proofs.Common.{◌≡◌, ℕ, ◌+◌, ◌-◌, ◌≤◌, true, false, true≢false, List, [], ◌∷◌, ◌++◌, length, map, take, drop, Ok, refl, sym, ap, ap₂, ◌∙◌, arith, ltb-true, length-append, append_assoc}
use Rattle.std.specs.List.{slice_index, All}
use Rattle.std.proofs.lemmas.List.{take_at, drop_at}
use Rattle.std.proofs.lemmas.List.Elements.{All-head, All-tail}
use Rattle.std.proofs.lemmas.Bool.{false_from_ne_true}
use Rattle.lola_lexer.specs.declared.shape.TokenShape.{TokenShape}
use Rattle.lola_lexer.specs.declared.shape.TokenShape.TheVariants as is
use Rattle.lola_lexer.specs.declared.scan.thing.Thing.TheVariants as thing
use Rattle.lola_lexer.specs.declared.token.Token.{Token}
use Rattle.lola_lexer.specs.Spelling.{Bytes, is_blank, in_name}
use Rattle.lola_lexer.specs.Lexical.{thing_at}
use Rattle.lola_lexer.specs.Longest.{goes_on}
use Rattle.lola_lexer.specs.Tokens.{with_front, tokens_from, tokens_of}
use Rattle.lola_lexer.specs.Written.{Spaced, IsSpaced, written, spaced_at, bytes_of}
use Rattle.lola_lexer.proofs.Classes.{differs}
use Rattle.lola_lexer.proofs.Goes.{gap_goes, token_goes}
use Rattle.lola_lexer.proofs.Complete.{complete, token_some}

-- ---- a blank ends every token

blank_is_in_no_name : (b : ℕ) → is_blank b ≡ true → in_name b ≡ false
blank_is_in_no_name b h =
    false_from_ne_true (in_name b) (λ e.
    true≢false (sym h ∙ rw (differs in_name b 32 e refl, differs in_name b 9 e refl, differs in_name b 10 e refl, differs in_name b 13 e refl) refl))

pub blank_ends : (s : TokenShape) (b d : ℕ) → is_blank b ≡ true → goes_on s b d ≡ false
blank_ends is.Input b d h = blank_is_in_no_name b h
blank_ends is.Output b d h = blank_is_in_no_name b h
blank_ends is.Constant b d h = blank_is_in_no_name b h
blank_ends is.Trigger b d h = blank_is_in_no_name b h
blank_ends is.Spawn b d h = blank_is_in_no_name b h
blank_ends is.Eval b d h = blank_is_in_no_name b h
blank_ends is.Close b d h = blank_is_in_no_name b h
blank_ends is.With b d h = blank_is_in_no_name b h
blank_ends is.When b d h = blank_is_in_no_name b h
blank_ends is.If b d h = blank_is_in_no_name b h
blank_ends is.Then b d h = blank_is_in_no_name b h
blank_ends is.Else b d h = blank_is_in_no_name b h
blank_ends is.True b d h = blank_is_in_no_name b h
blank_ends is.False b d h = blank_is_in_no_name b h
blank_ends is.Name b d h = blank_is_in_no_name b h
blank_ends is.Integer b d h = rw (blank_is_in_no_name b h, differs is_blank b 46 h refl) refl
blank_ends is.Quantity b d h = blank_is_in_no_name b h
blank_ends is.Text b d h = refl
blank_ends is.Define b d h = refl
blank_ends is.Colon b d h = differs is_blank b 61 h refl
blank_ends is.Comma b d h = refl
blank_ends is.Open b d h = refl
blank_ends is.Shut b d h = refl
blank_ends is.Dot b d h = refl
blank_ends is.At b d h = refl
blank_ends is.Plus b d h = refl
blank_ends is.Minus b d h = refl
blank_ends is.Star b d h = refl
blank_ends is.Slash b d h = rw (differs is_blank b 47 h refl, differs is_blank b 42 h refl) refl
blank_ends is.Percent b d h = refl
blank_ends is.Not b d h = differs is_blank b 61 h refl
blank_ends is.And b d h = refl
blank_ends is.Or b d h = refl
blank_ends is.Equal b d h = refl
blank_ends is.Unequal b d h = refl
blank_ends is.Less b d h = differs is_blank b 61 h refl
blank_ends is.LessEqual b d h = refl
blank_ends is.Greater b d h = differs is_blank b 61 h refl
blank_ends is.GreaterEqual b d h = refl

blank_at : (b : ℕ) (z : Bytes) → is_blank b ≡ true → thing_at (b ∷ z) ≡ thing.Gap 1
unfolding thing_at
blank_at b z h = rw h refl

-- ---- one token with a blank

spaced_goes : (m : Spaced) (at : ℕ) (rest : Bytes) → IsSpaced m
    → tokens_from 0 at (m.text ++ (m.blank ∷ rest))
    ≡ with_front (record { shape = m.shape; from = at; to = at + length m.text } ∷ []) (tokens_from 0 (at + length m.text + 1) rest)
spaced_goes m at rest h =
    let z = m.text ++ (m.blank ∷ rest) in
    let n = length m.text in
    let t : Token = record { shape = m.shape; from = at; to = at + n } in
    let found = complete m.shape m.text (m.blank ∷ rest) h.token (blank_ends m.shape m.blank (slice_index rest 0) h.blank) in
    let fits : n ≤ length z = simp length-append (omega arith) in
    let behind : drop n z ≡ m.blank ∷ rest = drop_at m.text (m.blank ∷ rest) n refl in
    token_goes z at n m.shape found (token_some m.shape m.text h.token) fits
    ∙ ap (λ l. with_front (t ∷ []) (tokens_from 0 (at + n) l)) behind
    ∙ ap (with_front (t ∷ [])) (gap_goes (m.blank ∷ rest) (at + n) 1 (blank_at m.blank rest h.blank) (omega arith) (omega arith))

pub written_goes : (ms : List Spaced) (at : ℕ) → All IsSpaced ms → tokens_from 0 at (written ms) ≡ Ok (spaced_at at ms)
written_goes [] at all = refl
written_goes (m ∷ ms) at all =
    spaced_goes m at (written ms) (All-head IsSpaced m ms all)
    ∙ ap (with_front (record { shape = m.shape; from = at; to = at + length m.text } ∷ []))
    (written_goes ms (at + length m.text + 1) (All-tail IsSpaced m ms all))

-- ---- the bytes of each

-- the bytes of the tokens, where the tokens with blanks stand behind a front
texts_behind : (ms : List Spaced) (front : Bytes) (at : ℕ) → length front ≡ at
    → map (bytes_of (front ++ written ms)) (spaced_at at ms) ≡ map (λ m. m.text) ms
texts_behind [] front at long = refl
texts_behind (m ∷ ms) front at long =
    let n = length m.text in
    let rest = m.blank ∷ written ms in
    let here : take (at + n - at) (drop at (front ++ (m.text ++ rest))) ≡ m.text =
    ap₂ (λ k l. take k l) (omega arith) (drop_at front (m.text ++ rest) at long) ∙ take_at m.text rest n refl in
    let longer : Bytes = front ++ (m.text ++ m.blank ∷ []) in
    let split : front ++ (m.text ++ rest) ≡ longer ++ written ms =
    ap (λ l. front ++ l) (sym (append_assoc m.text (m.blank ∷ []) (written ms))) ∙ sym (append_assoc front (m.text ++ m.blank ∷ []) (written ms)) in
    let long' : length longer ≡ at + n + 1 = simp length-append (omega arith) in
    ap₂ (λ t ts. t ∷ ts) here (ap (λ z. map (bytes_of z) (spaced_at (at + n + 1) ms)) split ∙ texts_behind ms longer (at + n + 1) long')

pub texts_are : (ms : List Spaced) → map (bytes_of (written ms)) (spaced_at 0 ms) ≡ map (λ m. m.text) ms
texts_are ms = texts_behind ms [] 0 refl

pub written_is_cut : (ms : List Spaced) → All IsSpaced ms → length (written ms) ≤ 1_048_576 → tokens_of (written ms) ≡ Ok (spaced_at 0 ms)
unfolding tokens_of
written_is_cut ms all short =
    let few : nat_lt 1_048_576 (length (written ms)) ≡ false =
    false_from_ne_true (nat_lt 1_048_576 (length (written ms))) (λ e. absurd (omega (arith, short, ltb-true 1_048_576 (length (written ms)) e))) in
    rw few (written_goes ms 0 all)
