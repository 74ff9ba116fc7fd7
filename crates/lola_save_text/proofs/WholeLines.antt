-- Bytes are cut into whole lines in one way.
use Rattle.std.proofs.Common.{◌≡◌, ℕ, zero, suc, ◌+◌, ◌≤◌, List, [], ◌∷◌, ◌++◌, Bool, true, false, not, cond, refl, sym, ap, ◌∙◌, arith, append_assoc, length, filter, nat_eq}
use Rattle.std.specs.List.{AllByRecursion}
use Rattle.std.proofs.lemmas.Bool.{eqb-true}
use Rattle.lola_model.specs.Texts.{text_of}
use Rattle.lola_report.specs.Lines.{IsLine, is_not_lf}
use Rattle.lola_report.proofs.Plain.{byte_before, ended}
use Rattle.lola_save_text.specs.Runs.{count_lines}
use Rattle.lola_save_text.proofs.SameCuts.{cut-same}

-- each of these is a line
abbrev pub AreLines : List (List ℕ) → Type 0
AreLines ls = AllByRecursion IsLine ls

line-then : (a u : List ℕ) (x : IsLine a) → a ++ u ≡ x.body ++ (10 ∷ u)
line-then a u x = ap (λ (l : List ℕ). l ++ u) x.ended ∙ append_assoc x.body (10 ∷ []) u

pub one-cut : (a b u v : List ℕ) → IsLine a → IsLine b → a ++ u ≡ b ++ v → (a ≡ b) × (u ≡ v)
one-cut a b u v x y e =
    let c = cut-same is_not_lf x.body y.body (10 ∷ u) (10 ∷ v) x.plain y.plain refl refl (sym (line-then a u x) ∙ e ∙ line-then b v y) in
    let g = c.1 in
    let h : u ≡ v = cc g in
    (x.ended ∙ ap (λ (l : List ℕ). l ++ 10 ∷ []) c.0 ∙ sym y.ended, h)

-- no line is empty
no-body : (t u : List ℕ) → [] ≡ (t ++ 10 ∷ []) ++ u → ⊥
no-body [] u e = cc e
no-body (b ∷ t) u e = cc e

pub line-some : (a u : List ℕ) → IsLine a → [] ≡ a ++ u → ⊥
line-some a u x e = no-body x.body u (e ∙ ap (λ (l : List ℕ). l ++ u) x.ended)

-- the lines of two texts that are the same
pub align : (ls ms : List (List ℕ)) (u v : List ℕ) → AreLines ls → AreLines ms → text_of ls ++ u ≡ text_of ms ++ v → length ls ≤ length ms
    → (more : List (List ℕ)) × (ms ≡ ls ++ more) × (u ≡ text_of more ++ v)
align [] ms u v a b e l = (ms, refl, e)
align (x ∷ ls) [] u v a b e l = absurd (omega arith)
align (x ∷ ls) (y ∷ ms) u v a b e l =
    let f : x ++ (text_of ls ++ u) ≡ y ++ (text_of ms ++ v) = sym (append_assoc x (text_of ls) u) ∙ e ∙ append_assoc y (text_of ms) v in
    let c = one-cut x y (text_of ls ++ u) (text_of ms ++ v) a.0 b.0 f in
    let r = align ls ms u v a.1 b.1 c.1 (omega arith) in
    let h : y ≡ x = sym c.0 in
    let g = r.1 in
    (r.0, (λ i. h i ∷ g i), r.2)

-- texts of two lists of lines
pub text-both : (ls ms : List (List ℕ)) → text_of (ls ++ ms) ≡ text_of ls ++ text_of ms
text-both [] ms = refl
text-both (l ∷ ls) ms = ap (λ (t : List ℕ). l ++ t) (text-both ls ms) ∙ sym (append_assoc l (text_of ls) (text_of ms))

pub lines-both : (ls ms : List (List ℕ)) → AreLines ls → AreLines ms → AreLines (ls ++ ms)
lines-both [] ms a b = b
lines-both (l ∷ ls) ms a b = (a.0, lines-both ls ms a.1 b)

-- the first of some lines
pub record Front (ls : List (List ℕ)) (m : ℕ) : Type 0 where
  pub front : List (List ℕ)
  pub back : List (List ℕ)
  pub lines : AreLines front
  pub number : length front ≡ m
  pub text : text_of ls ≡ text_of front ++ text_of back

pub front-of : (ls : List (List ℕ)) (m : ℕ) → AreLines ls → m ≤ length ls → Front ls m
front-of ls zero a l = record { front = []; back = ls; lines = tt; number = refl; text = refl }
front-of [] (suc m) a l = absurd (omega arith)
front-of (x ∷ ls) (suc m) a l =
    let r = front-of ls m a.1 (omega arith) in
    record {
      front = x ∷ r.front;
      back = r.back;
      lines = (a.0, r.lines);
      number = (let n = r.number in omega (arith, n));
      text = ap (λ (t : List ℕ). x ++ t) r.text ∙ sym (append_assoc x (text_of r.front) (text_of r.back));
    }

-- the lines of bytes that end with LF
pub record Lined (bytes : List ℕ) : Type 0 where
  pub lines : List (List ℕ)
  pub whole : AreLines lines
  pub number : length lines ≡ count_lines bytes
  pub text : text_of lines ≡ bytes

count-lf : (b : ℕ) (bs : List ℕ) → nat_eq b 10 ≡ true → count_lines (b ∷ bs) ≡ count_lines bs + 1
count-lf b bs e = ap (λ t. length (cond t (b ∷ (filter (λ c. nat_eq c 10) bs)) (filter (λ c. nat_eq c 10) bs))) e ∙ omega arith

count-other : (b : ℕ) (bs : List ℕ) → nat_eq b 10 ≡ false → count_lines (b ∷ bs) ≡ count_lines bs
count-other b bs e = ap (λ t. length (cond t (b ∷ (filter (λ c. nat_eq c 10) bs)) (filter (λ c. nat_eq c 10) bs))) e

no-text : (bs : List ℕ) → [] ≡ bs ++ 10 ∷ [] → ⊥
no-text [] e = cc e
no-text (b ∷ bs) e = cc e

put-first : (b : ℕ) (bs : List ℕ) → nat_eq b 10 ≡ false → (ls : List (List ℕ)) → AreLines ls → length ls ≡ count_lines (bs ++ 10 ∷ []) → text_of ls ≡ bs ++ 10 ∷ [] → Lined (b ∷ (bs ++ 10 ∷ []))
put-first b bs e [] a n t = absurd (no-text bs t)
put-first b bs e (l ∷ ls) a n t =
    record {
      lines = (b ∷ l) ∷ ls;
      whole = (byte_before b l (ap not e) a.0, a.1);
      number = n ∙ sym (count-other b (bs ++ 10 ∷ []) e);
      text = ap (λ (x : List ℕ). b ∷ x) t;
    }

pub lined : (bs : List ℕ) → Lined (bs ++ 10 ∷ [])
lined [] = record { lines = (10 ∷ []) ∷ []; whole = (ended [] refl, tt); number = refl; text = refl }
lined (b ∷ bs) = by (nat_eq b 10) refl (lined bs)
  where
    by : (t : Bool) → nat_eq b 10 ≡ t → Lined (bs ++ 10 ∷ []) → Lined (b ∷ (bs ++ 10 ∷ []))
    by true e r =
        let h : 10 ≡ b = sym (eqb-true b 10 e) in
        let g = r.text in
        let n = r.number in
        let c = count-lf b (bs ++ 10 ∷ []) e in
        record {
          lines = (10 ∷ []) ∷ r.lines;
          whole = (ended [] refl, r.whole);
          number = omega (arith, n, c);
          text = λ i. h i ∷ g i;
        }
    by false e r = put-first b bs e r.lines r.whole r.number r.text
