-- Texts, comments and blanks are found.
use Rattle.std.specs.Bool.{if◌then◌else◌}
use Rattle.std.proofs.Common.{◌≡◌, ℕ, suc, ◌+◌, Bool, true, false, not, ◌&&◌, ◌||◌, ◌==◌, List, [], ◌∷◌, ◌++◌, length, refl, sym, ap, ◌∙◌, subst, true≢false, inl, inr, arith, eqb-true, eq-eqb, append_assoc, length-append, add-zero, Some, None}
use Rattle.std.specs.List.{prefix_len, slice_index, All, AllPass, concat}
use Rattle.std.specs.Prelude.{codes}
use Rattle.std.specs.Str.{IsUtf8}
use Rattle.std.proofs.lemmas.Str.{is_utf8-from_IsUtf8}
use Rattle.std.proofs.lemmas.List.{take_at}
use Rattle.std.proofs.lemmas.List.Elements.{All-head, All-tail}
use Rattle.lola_lexer.specs.declared.shape.TokenShape.TheVariants as is
use Rattle.lola_lexer.specs.declared.scan.thing.Thing.TheVariants as thing
use Rattle.lola_lexer.specs.Spelling.{Bytes, in_line, is_escape, is_plain, IsPiece, IsText}
use Rattle.lola_lexer.specs.Lexical.{closing, closed, text, line_comment, comment_end, commented, block_comment, thing_at}
use Rattle.lola_lexer.specs.Longest.{EndsLine, IsLineComment, IsClosed, IsBlockComment, IsGap, IsBlank}
use Rattle.lola_lexer.proofs.Comments.{starred}
use Rattle.lola_lexer.proofs.Fixed.{front_text}

-- ---- texts

plain_parts : (x y u v : Bool) → not (((x || y) || u) || v) ≡ true → (x ≡ false) × (y ≡ false) × ((u || v) ≡ false)
plain_parts true y u v h = absurd (true≢false (sym h))
plain_parts false true u v h = absurd (true≢false (sym h))
plain_parts false false true v h = absurd (true≢false (sym h))
plain_parts false false false true h = absurd (true≢false (sym h))
plain_parts false false false false h = (refl, refl, refl)

plain_passes : (b at : ℕ) (z : Bytes) → is_plain b ≡ true → closing false at (b ∷ z) ≡ closing false (at + 1) z
plain_passes b at z h =
    let p = plain_parts (b == 34) (b == 92) (b == 10) (b == 13) h in
    ap (λ x. if x then Some (at + 1) else if b == 10 || b == 13 then None else closing (b == 92) (at + 1) z) p.0
    ∙ ap (λ x. if x then None else closing (b == 92) (at + 1) z) p.2 ∙ ap (λ x. closing x (at + 1) z) p.1

escape_passes : (b at : ℕ) (z : Bytes) → is_escape b ≡ true → closing false at (92 ∷ b ∷ z) ≡ closing false (at + 1 + 1) z
escape_passes b at z h = ap (λ x. if x then closing false (at + 1 + 1) z else None) h

piece_passes : (p : Bytes) (at : ℕ) (z : Bytes) → IsPiece p → closing false at (p ++ z) ≡ closing false (at + length p) z
piece_passes p at z (inl (b, is, plain)) = rw is (plain_passes b at z plain)
piece_passes p at z (inr (b, is, escape)) = rw is (escape_passes b at z escape ∙ ap (λ k. closing false k z) (omega arith))

pieces_pass : (ps : List Bytes) (at : ℕ) (z : Bytes) → All IsPiece ps → closing false at (concat ps ++ z) ≡ closing false (at + length (concat ps)) z
pieces_pass [] at z all = rw add-zero refl
pieces_pass (p ∷ ps) at z all =
    let long : at + length p + length (concat ps) ≡ at + length (p ++ concat ps) = simp length-append (omega arith) in
    ap (closing false at) (append_assoc p (concat ps) z) ∙ piece_passes p at (concat ps ++ z) (All-head IsPiece p ps all)
    ∙ pieces_pass ps (at + length p) z (All-tail IsPiece p ps all) ∙ ap (λ k. closing false k z) long

closed_whole : (w rest : Bytes) (end : ℕ) → length w ≡ end → IsUtf8 w → closed (w ++ rest) (Some end) ≡ thing.Token is.Text end
closed_whole w rest end long utf8 = rw (take_at w rest end long, is_utf8-from_IsUtf8 w utf8) refl

text_spelled : (ps : List Bytes) (w rest : Bytes) → w ≡ 34 ∷ (concat ps ++ 34 ∷ []) → All IsPiece ps → IsUtf8 w
    → text (34 ∷ ((concat ps ++ 34 ∷ []) ++ rest)) ≡ thing.Token is.Text (length w)
unfolding text
text_spelled ps w rest e all utf8 =
    let z = 34 ∷ ((concat ps ++ 34 ∷ []) ++ rest) in
    let found : closing false 1 ((concat ps ++ 34 ∷ []) ++ rest) ≡ Some (1 + length (concat ps) + 1) =
    ap (closing false 1) (append_assoc (concat ps) (34 ∷ []) rest) ∙ pieces_pass ps 1 (34 ∷ rest) all in
    let long : length w ≡ 1 + length (concat ps) + 1 = rw e (simp length-append (omega arith)) in
    ap (closed z) found ∙ ap (λ l. closed (l ++ rest) (Some (1 + length (concat ps) + 1))) (sym e) ∙ closed_whole w rest (1 + length (concat ps) + 1) long utf8
    ∙ ap (λ k. thing.Token is.Text k) (sym long)

pub text_complete : (w rest : Bytes) → IsText w → thing_at (w ++ rest) ≡ thing.Token is.Text (length w)
text_complete w rest t =
    ap (λ l. thing_at (l ++ rest)) t.spelled ∙ front_text ((concat t.pieces ++ 34 ∷ []) ++ rest) ∙ text_spelled t.pieces w rest t.spelled t.each t.utf8

-- ---- blanks and comments

blank_complete : (w rest : Bytes) → IsBlank w → thing_at (w ++ rest) ≡ thing.Gap (length w)
unfolding thing_at
blank_complete w rest (b, is, blank) = rw (is, blank) refl

line_whole : (inner rest : Bytes) → AllPass in_line inner → EndsLine rest → prefix_len in_line (inner ++ rest) ≡ length inner
line_whole [] [] all ends = refl
line_whole [] (b ∷ rest) all ends = rw ends refl
line_whole (b ∷ inner) rest all ends =
    let here : in_line b ≡ true = All-head (λ b. in_line b ≡ true) b inner all in
    let more = line_whole inner rest (All-tail (λ b. in_line b ≡ true) b inner all) ends in
    rw here (omega (arith, more))

line_found : (inner rest : Bytes) (n : ℕ) → 1 + (1 + prefix_len in_line (inner ++ rest)) ≡ n → n ≡ length (codes "//" ++ inner) → IsUtf8 (codes "//" ++ inner)
    → line_comment (codes "//" ++ (inner ++ rest)) ≡ thing.Gap n
unfolding line_comment
line_found inner rest n is long utf8 =
    rw (is, take_at (codes "//" ++ inner) rest n (sym long), is_utf8-from_IsUtf8 (codes "//" ++ inner) utf8) refl

pub front_line : (z : Bytes) → thing_at (codes "//" ++ z) ≡ line_comment (codes "//" ++ z)
unfolding thing_at
front_line z = refl

pub front_block : (z : Bytes) → thing_at (codes "/*" ++ z) ≡ block_comment (codes "/*" ++ z)
unfolding thing_at
front_block z = refl

line_complete : (w rest : Bytes) → IsLineComment w rest → thing_at (w ++ rest) ≡ thing.Gap (length w)
line_complete w rest c =
    let run_is = line_whole c.inner rest c.in_one_line c.ends in
    let n : 1 + (1 + prefix_len in_line (c.inner ++ rest)) ≡ length (codes "//" ++ c.inner) = omega (arith, run_is) in
    rw (c.spelled) (front_line (c.inner ++ rest) ∙ line_found c.inner rest (length (codes "//" ++ c.inner)) n refl (rw c.spelled at c.utf8))

-- what is closed behind its first byte, where that byte is no part of the `*/`
closed_less : (x : ℕ) (v : Bytes) → IsClosed (x ∷ v) → (x ≡ 42 → (slice_index v 0 == 47) ≡ false) → IsClosed v
closed_less x v c apart = by_inner c.inner c.spelled
  where
    by_inner : (inner : Bytes) → x ∷ v ≡ inner ++ codes "*/" → IsClosed v
    by_inner [] e =
        let star : x ≡ 42 = cc in
        let slash : v ≡ 47 ∷ [] = cc in
        absurd (true≢false (rw slash at (apart star)))
    by_inner (y ∷ inner) e = record { inner = inner; spelled = cc; first = λ p q h. c.first (x ∷ p) q (ap (λ l. x ∷ l) h) }

drop_star : (flag : Bool) (b : ℕ) (u : Bytes) → (flag && b == 47) ≡ false → IsClosed (starred flag (b ∷ u)) → IsClosed (b ∷ u)
drop_star true b u apart c = closed_less 42 (b ∷ u) c (λ _. apart)
drop_star false b u apart c = c

as_star : (b : ℕ) (u : Bytes) (x : Bool) → (b == 42) ≡ x → IsClosed (b ∷ u) → IsClosed (starred x u)
as_star b u true e c = subst (λ (k : ℕ). IsClosed (k ∷ u)) (eqb-true b 42 e) c
as_star b u false e c = closed_less b u c (λ is. absurd (true≢false (sym (eq-eqb b 42 is) ∙ e)))

nothing_closed : (flag : Bool) → IsClosed (starred flag []) → ⊥
nothing_closed true c = absurd (omega (arith, simp length-append at (ap length c.spelled)))
nothing_closed false c = absurd (omega (arith, simp length-append at (ap length c.spelled)))

end_found : (flag : Bool) (at b : ℕ) (u rest : Bytes) (x : Bool) → (flag && b == 47) ≡ x → IsClosed (starred flag (b ∷ u))
    → (IsClosed (starred (b == 42) u) → comment_end (b == 42) (at + 1) (u ++ rest) ≡ Some (at + 1 + length u))
    → (if x then Some (at + 1) else comment_end (b == 42) (at + 1) (u ++ rest)) ≡ Some (at + suc (length u))
end_found true at b u rest true e c next =
    let empty : u ≡ [] = c.first [] u (ap (λ k. 42 ∷ k ∷ u) (eqb-true b 47 e)) in
    rw empty (ap (λ k. Some k) (omega arith))
end_found false at b u rest true e c next = absurd (true≢false (sym e))
end_found flag at b u rest false e c next =
    next (as_star b u (b == 42) refl (drop_star flag b u e c)) ∙ ap (λ k. Some k) (omega arith)

pub comment_found : (flag : Bool) (at : ℕ) (u rest : Bytes) → IsClosed (starred flag u) → comment_end flag at (u ++ rest) ≡ Some (at + length u)
comment_found flag at [] rest c = absurd (nothing_closed flag c)
comment_found flag at (b ∷ u) rest c = end_found flag at b u rest (flag && b == 47) refl c (λ d. comment_found (b == 42) (at + 1) u rest d)

commented_whole : (w rest : Bytes) (end : ℕ) → length w ≡ end → IsUtf8 w → commented (w ++ rest) (Some end) ≡ thing.Gap end
commented_whole w rest end long utf8 = rw (take_at w rest end long, is_utf8-from_IsUtf8 w utf8) refl

block_found : (u rest : Bytes) → IsClosed u → IsUtf8 (codes "/*" ++ u) → block_comment (codes "/*" ++ (u ++ rest)) ≡ thing.Gap (2 + length u)
unfolding block_comment
block_found u rest c utf8 =
    ap (commented (codes "/*" ++ (u ++ rest))) (comment_found false 2 u rest c) ∙ commented_whole (codes "/*" ++ u) rest (2 + length u) (omega arith) utf8

block_complete : (w rest : Bytes) → IsBlockComment w → thing_at (w ++ rest) ≡ thing.Gap (length w)
block_complete w rest c =
    rw (c.spelled) (front_block (c.behind ++ rest) ∙ block_found c.behind rest c.closed (rw c.spelled at c.utf8) ∙ ap (λ k. thing.Gap k) (omega arith))

pub gap_complete : (w rest : Bytes) → IsGap w rest → thing_at (w ++ rest) ≡ thing.Gap (length w)
gap_complete w rest (inl b) = blank_complete w rest b
gap_complete w rest (inr (inl c)) = line_complete w rest c
gap_complete w rest (inr (inr c)) = block_complete w rest c
