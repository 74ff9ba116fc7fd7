-- Bytes are cut behind their first LF.
use Rattle.std.proofs.Common.{◌≡◌, ◌≢◌, ℕ, ◌+◌, ◌<◌, List, [], ◌∷◌, ◌++◌, true, false, not, codes, refl, sym, ap, ◌∙◌, arith, add-one, length, get_or, take, drop, take-append-drop, drop-cons}
use Rattle.std.specs.List.{list_all}
use Rattle.std.proofs.lemmas.Bool.{and_from, and_parts, leb-true, ne_eqb}
use Rattle.std.proofs.lemmas.List.{append_cancel_left, take_all, take_more}
use Rattle.std.proofs.lemmas.List.Folds.{list_all-append}
use Rattle.lola_value.specs.Times.{is_digit}
use Rattle.lola_report.specs.Lines.{has_no_lf, is_not_lf}
use Rattle.lola_save_text.specs.Damage.{is_number}
use Rattle.lola_save_read.specs.Heads.{IsCutAtLf, IsLineBehind, IsSecondLine}
use Rattle.lola_save_text.proofs.SameCuts.{cut-same}

pub plain-more : (xs : List ℕ) (i : ℕ) → i < length xs → has_no_lf (take i xs) ≡ true → get_or xs i 0 ≢ 10 → has_no_lf (take (i + 1) xs) ≡ true
plain-more xs i lt h other =
    ap has_no_lf (take_more xs i 0 lt) ∙ list_all-append is_not_lf (take i xs) (get_or xs i 0 ∷ [])
    ∙ and_from (has_no_lf (take i xs)) _ h (and_from (is_not_lf (get_or xs i 0)) true (ap not (ne_eqb (get_or xs i 0) 10 other)) refl)

pub cut-there : (xs : List ℕ) (i : ℕ) → i < length xs → has_no_lf (take i xs) ≡ true → get_or xs i 0 ≡ 10 → IsCutAtLf xs (take i xs) (drop (i + 1) xs)
cut-there xs i lt h is =
    record {
      whole = sym (take-append-drop i xs) ∙ ap (λ (t : List ℕ). take i xs ++ t) (drop-cons xs i 0 lt ∙ (λ k. is k ∷ drop (sym (add-one i) k) xs));
      plain = h;
    }

pub no-cut : (xs : List ℕ) (i : ℕ) → length xs ≡ i → has_no_lf (take i xs) ≡ true → has_no_lf xs ≡ true
no-cut xs i e h = ap has_no_lf (sym (take_all i xs (omega (arith, e)))) ∙ h

-- no LF stands among digits
digits-plain : (ds : List ℕ) → list_all is_digit ds ≡ true → has_no_lf ds ≡ true
digits-plain [] h = refl
digits-plain (d ∷ ds) h =
    let p = and_parts (is_digit d) (list_all is_digit ds) h in
    let q = leb-true 48 d (and_parts _ _ p.0).0 in
    and_from (is_not_lf d) (has_no_lf ds) (ap not (ne_eqb d 10 (λ e. absurd (omega (arith, e, q))))) (digits-plain ds p.1)

-- a text with an LF in it
lf-in : (xs ys : List ℕ) → has_no_lf (xs ++ (10 ∷ ys)) ≡ true → ⊥
lf-in xs ys h =
    let f = sym (list_all-append is_not_lf xs (10 ∷ ys)) ∙ h in
    let p = and_parts (has_no_lf xs) (has_no_lf (10 ∷ ys)) f in
    let g : false ≡ true = p.1 in
    cc g

-- the second line

pub no-number : (bytes front back digits left : List ℕ) → IsLineBehind (codes "spec ") bytes front back → is_number front ≡ false → IsSecondLine bytes digits left → ⊥
no-number bytes front back digits left line none s =
    let f : front ++ (10 ∷ back) ≡ digits ++ (10 ∷ left) = append_cancel_left (codes "spec ") (front ++ 10 ∷ back) (digits ++ 10 ∷ left) (sym line.written ∙ s.written) in
    let c = cut-same is_not_lf front digits (10 ∷ back) (10 ∷ left) line.plain (digits-plain digits (and_parts _ _ s.number).0) refl refl f in
    let g : false ≡ true = sym none ∙ ap is_number c.0 ∙ s.number in
    cc g

pub second-there : (bytes front back : List ℕ) → IsLineBehind (codes "spec ") bytes front back → is_number front ≡ true → IsSecondLine bytes front back
second-there bytes front back line number = record { written = line.written; number = number }

pub no-second-line : (bytes digits left : List ℕ) → ((body rest : List ℕ) → IsLineBehind (codes "spec ") bytes body rest → ⊥) → IsSecondLine bytes digits left → ⊥
no-second-line bytes digits left never s = never digits left (record { written = s.written; plain = digits-plain digits (and_parts _ _ s.number).0 })

-- the line behind a text

pub no-front : (front bytes : List ℕ) → ((rest : List ℕ) → bytes ≢ front ++ rest) → (body rest : List ℕ) → IsLineBehind front bytes body rest → ⊥
no-front front bytes never body rest s = never (body ++ 10 ∷ rest) s.written

pub no-lf : (front bytes left : List ℕ) → bytes ≡ front ++ left → has_no_lf left ≡ true → (body rest : List ℕ) → IsLineBehind front bytes body rest → ⊥
no-lf front bytes left e h body rest s = lf-in body rest (ap has_no_lf (sym (append_cancel_left front left (body ++ 10 ∷ rest) (sym e ∙ s.written))) ∙ h)

pub line-there : (front bytes left body rest : List ℕ) → bytes ≡ front ++ left → IsCutAtLf left body rest → IsLineBehind front bytes body rest
line-there front bytes left body rest e cut = record { written = e ∙ ap (λ (t : List ℕ). front ++ t) cut.whole; plain = cut.plain }
