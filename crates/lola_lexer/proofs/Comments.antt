-- Comments and blanks.
use Rattle.std.proofs.Common.{◌≡◌, ℕ, suc, ◌+◌, ◌≤◌, Bool, true, false, not, ◌&&◌, ◌==◌, [], ◌∷◌, ◌++◌, length, take, drop, refl, sym, ap, ◌∙◌, true≢false, inl, inr, arith, eqb-true, eq-eqb, one-add, cond, length-append, Option, Some, None}
use Rattle.std.specs.Bool.{if◌then◌else◌}
use Rattle.std.specs.List.{slice_index, prefix_len}
use Rattle.std.specs.Str.{is_utf8}
use Rattle.std.specs.Prelude.{codes}
use Rattle.std.proofs.lemmas.Str.{IsUtf8-from_is_utf8}
use Rattle.std.proofs.lemmas.List.Sums.{prefix_len-le-length}
use Rattle.std.proofs.lemmas.Bool.{and_parts, not-false}
use Rattle.lola_lexer.specs.declared.scan.thing.Thing.TheVariants as thing
use Rattle.lola_lexer.specs.Spelling.{Bytes, is_blank, in_line}
use Rattle.lola_lexer.specs.Lexical.{comment_end, commented, line_comment, block_comment}
use Rattle.lola_lexer.specs.Longest.{EndsLine, IsClosed, GapAt, IsSound}
use Rattle.lola_lexer.proofs.Runs.{run_passes}
use Rattle.lola_lexer.proofs.Signs.{if_goes}

-- ---- blanks

pub blank_sound : (z : Bytes) → is_blank (slice_index z 0) ≡ true → IsSound z (thing.Gap 1)
blank_sound [] h = absurd (true≢false (sym h))
blank_sound (b ∷ z) h = record { fits = omega arith; some = omega arith; gap = inl (b, refl, h) }

-- ---- comments up to the end of a line

ends_at : (x : ℕ) (z : Bytes) (b : Bool) → in_line x ≡ b → EndsLine (drop (prefix_len in_line z) z) → EndsLine (drop (cond b (1 + prefix_len in_line z) 0) (x ∷ z))
ends_at x z true e h = rw (one-add) h
ends_at x z false e h = eqb-true x 10 (not-false (x == 10) e)

pub line_ends : (z : Bytes) → EndsLine (drop (prefix_len in_line z) z)
line_ends [] = tt
line_ends (x ∷ z) = ends_at x z (in_line x) refl (line_ends z)

line_gap : (z : Bytes) → (k : ℕ) → k ≡ suc (suc (prefix_len in_line z)) → is_utf8 (take k (47 ∷ 47 ∷ z)) ≡ true → GapAt (47 ∷ 47 ∷ z) k
line_gap z k e utf8 =
    record {
      fits = omega (arith, e, prefix_len-le-length in_line z);
      some = omega (arith, e);
      gap = inr (inl (record {
        inner = take (prefix_len in_line z) z;
        spelled = rw e refl;
        in_one_line = run_passes in_line z;
        ends = rw e (line_ends z);
        utf8 = IsUtf8-from_is_utf8 (take k (47 ∷ 47 ∷ z)) utf8;
      }));
    }

line_of : (b c : ℕ) (z : Bytes) → b ≡ 47 → c ≡ 47 → IsSound (b ∷ c ∷ z) (line_comment (b ∷ c ∷ z))
unfolding line_comment
line_of b c z h i =
    rw (h, i)
    (if_goes (is_utf8 (take (1 + (1 + prefix_len in_line z)) (47 ∷ 47 ∷ z))) _ _ (IsSound (47 ∷ 47 ∷ z))
    (λ utf8. line_gap z (1 + (1 + prefix_len in_line z)) (omega arith) utf8) (λ other. tt))

pub line_sound : (z : Bytes) → (slice_index z 0 == 47 && slice_index z 1 == 47) ≡ true → IsSound z (line_comment z)
line_sound [] h = absurd (true≢false (sym h))
line_sound (b ∷ []) h = absurd (true≢false (sym (and_parts (b == 47) false h).1))
line_sound (b ∷ c ∷ z) h = line_of b c z (eqb-true b 47 (and_parts (b == 47) (c == 47) h).0) (eqb-true c 47 (and_parts (b == 47) (c == 47) h).1)

-- ---- comments up to the next `*/`

-- with the star that stands before
abbrev pub starred : Bool → Bytes → Bytes
starred true w = 42 ∷ w
starred false w = w

pub record Ends (is_star : Bool) (at : ℕ) (z : Bytes) (end : ℕ) : Type 0 where
  pub len : ℕ
  pub is : end ≡ at + len
  pub fits : len ≤ length z
  pub closed : IsClosed (starred is_star (take len z))

-- one byte more in front of what closes, where the two do not close it
more_closed : (b : ℕ) (u : Bytes) → IsClosed u → ((b == 42) ≡ true → (slice_index u 0 == 47) ≡ false) → IsClosed (b ∷ u)
more_closed b u c apart =
    record {
      inner = b ∷ c.inner;
      spelled = ap (λ w. b ∷ w) c.spelled;
      first = cases;
    }
  where
    cases : (p q : Bytes) → b ∷ u ≡ p ++ (codes "*/" ++ q) → q ≡ []
    cases [] q e =
        let star : b ≡ 42 = cc in
        let slash : u ≡ 47 ∷ q = cc in
        absurd (true≢false (rw slash at (apart (eq-eqb b 42 star))))
    cases (x ∷ p) q e =
        let rest : u ≡ p ++ (42 ∷ 47 ∷ q) = cc in
        c.first p q rest

pub empty_is : (q : Bytes) → length q ≡ 0 → q ≡ []
empty_is [] h = refl
empty_is (x ∷ q) h = absurd (omega (arith, h))

last_closed : (b : ℕ) → b ≡ 47 → IsClosed (42 ∷ b ∷ [])
last_closed b is =
    record {
      inner = [];
      spelled = ap (λ x. 42 ∷ x ∷ []) is;
      first = λ p q e. empty_is q (omega (arith, simp length-append at (ap length e)));
    }

with_byte : (b : ℕ) (u : Bytes) (x : Bool) → (b == 42) ≡ x → IsClosed (starred x u) → IsClosed (b ∷ u)
with_byte b u true e c = rw (eqb-true b 42 e) c
with_byte b u false e c = more_closed b u c (λ h. absurd (true≢false (sym h ∙ e)))

with_star : (flag : Bool) (b : ℕ) (u : Bytes) → (flag && b == 47) ≡ false → IsClosed (b ∷ u) → IsClosed (starred flag (b ∷ u))
with_star true b u apart c = more_closed 42 (b ∷ u) c (λ _. apart)
with_star false b u apart c = c

end_step : (flag : Bool) (at end b : ℕ) (z : Bytes) (x : Bool) → (flag && b == 47) ≡ x
    → (comment_end (b == 42) (at + 1) z ≡ Some end → Ends (b == 42) (at + 1) z end)
    → (if x then Some (at + 1) else comment_end (b == 42) (at + 1) z) ≡ Some end → Ends flag at (b ∷ z) end
end_step true at end b z true e next h =
    record { len = 1; is = cc; fits = omega arith; closed = last_closed b (eqb-true b 47 e) }
end_step false at end b z true e next h = absurd (true≢false (sym e))
end_step flag at end b z false e next h =
    let rest = next h in
    record {
      len = suc rest.len;
      is = omega (arith, rest.is);
      fits = omega (arith, rest.fits);
      closed = with_star flag b (take rest.len z) e (with_byte b (take rest.len z) (b == 42) refl rest.closed);
    }

pub comment_ends : (flag : Bool) (at end : ℕ) (z : Bytes) → comment_end flag at z ≡ Some end → Ends flag at z end
comment_ends flag at end [] h = cc
comment_ends flag at end (b ∷ z) h = end_step flag at end b z (flag && b == 47) refl (λ i. comment_ends (b == 42) (at + 1) end z i) h

block_gap : (z : Bytes) (end : ℕ) → Ends false 2 z end → is_utf8 (take end (47 ∷ 42 ∷ z)) ≡ true → GapAt (47 ∷ 42 ∷ z) end
block_gap z end c utf8 =
    let e : end ≡ suc (suc c.len) = omega (arith, c.is) in
    record {
      fits = omega (arith, e, c.fits);
      some = omega (arith, e);
      gap = inr (inr (record {
        behind = take c.len z;
        spelled = rw e refl;
        closed = c.closed;
        utf8 = IsUtf8-from_is_utf8 (take end (47 ∷ 42 ∷ z)) utf8;
      }));
    }

commented_sound : (z : Bytes) (o : Option ℕ) → comment_end false 2 z ≡ o → IsSound (47 ∷ 42 ∷ z) (commented (47 ∷ 42 ∷ z) o)
commented_sound z None h = tt
commented_sound z (Some end) h =
    if_goes (is_utf8 (take end (47 ∷ 42 ∷ z))) _ _ (IsSound (47 ∷ 42 ∷ z)) (λ utf8. block_gap z end (comment_ends false 2 end z h) utf8) (λ other. tt)

block_of : (b c : ℕ) (z : Bytes) → b ≡ 47 → c ≡ 42 → IsSound (b ∷ c ∷ z) (block_comment (b ∷ c ∷ z))
unfolding block_comment
block_of b c z h i = rw (h, i) (commented_sound z (comment_end false 2 z) refl)

pub block_sound : (z : Bytes) → (slice_index z 0 == 47 && slice_index z 1 == 42) ≡ true → IsSound z (block_comment z)
block_sound [] h = absurd (true≢false (sym h))
block_sound (b ∷ []) h = absurd (true≢false (sym (and_parts (b == 47) false h).1))
block_sound (b ∷ c ∷ z) h = block_of b c z (eqb-true b 47 (and_parts (b == 47) (c == 42) h).0) (eqb-true c 42 (and_parts (b == 47) (c == 42) h).1)
