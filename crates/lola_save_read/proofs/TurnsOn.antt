-- What is read from place to place, one line after another.
use Rattle.std.proofs.Common.{◌≡◌, ◌∷◌, ℕ, ◌++◌, List, [], true, Option, Some, None, refl, sym, ap, ◌∙◌, append_assoc, append-nil, length}
use Rattle.std.proofs.lemmas.Bool.{and_parts}
use Rattle.lola_report.specs.Lines.{has_no_lf, is_not_lf}
use Rattle.lola_save_text.specs.Lines.{StateLine, line_body, line_text, lines_text}
use Rattle.lola_save_text.specs.Places.{Place, Done, chosen, next}
use Rattle.lola_save_text.specs.Runs.{run}
use Rattle.lola_save_text.specs.declared.forms.StreamForm.{StreamForm}
use Rattle.lola_save_text.proofs.Completing.{run-append}
use Rattle.lola_save_text.proofs.Damaged.{lines-text-both}
use Rattle.lola_save_text.proofs.SameCuts.{cut-same}
use Rattle.lola_save_text.proofs.SameRuns.{body-plain}
use Rattle.lola_save_read.specs.Heads.{IsCutAtLf}
use Rattle.lola_save_read.specs.Turns.{AreLinesRead, IsLineRead, IsNoLine, IsRefusedAt}

-- one line among bytes

lf-in : (t u : List ℕ) → has_no_lf (t ++ (10 ∷ u)) ≡ true → ⊥
lf-in [] u e = absurd (cc)
lf-in (b ∷ t) u e = lf-in t u (and_parts (is_not_lf b) (has_no_lf (t ++ (10 ∷ u))) e).1

line-split : (l : StateLine) (rest : List ℕ) → line_text l ++ rest ≡ line_body l ++ (10 ∷ rest)
line-split l rest = append_assoc (line_body l) (10 ∷ []) rest

none-or : {X : Type 0} (o : Option X) → ((x : X) → o ≡ Some x → ⊥) → o ≡ None
none-or None f = refl
none-or (Some x) f = absurd (f x refl)

module _ (forms : List StreamForm) (p : Place) (bytes : List ℕ) where
  pub no-lf-no-line : has_no_lf bytes ≡ true → IsNoLine forms p bytes
  no-lf-no-line plain l rest e = absurd (lf-in (line_body l) rest (sym (ap has_no_lf (e ∙ line-split l rest)) ∙ plain))

  module _ (body left : List ℕ) (cut : IsCutAtLf bytes body left) where
    -- the line that stands there
    pub cut-line : (l : StateLine) (rest : List ℕ) → bytes ≡ line_text l ++ rest → (body ≡ line_body l) × (left ≡ rest)
    cut-line l rest e =
        let r = cut-same is_not_lf body (line_body l) (10 ∷ left) (10 ∷ rest) cut.plain (body-plain l) refl refl (sym cut.whole ∙ e ∙ line-split l rest) in
        let g = r.1 in
        let h : left ≡ rest = cc g in
        (r.0, h)

    pub no-body-no-line : ((l : StateLine) (q : Place) → body ≡ line_body l → next forms p l ≡ Some q → ⊥) → IsNoLine forms p bytes
    no-body-no-line never l rest e = none-or (next forms p l) (λ q f. never l q (cut-line l rest e).0 f)

    pub line-there : (l : StateLine) (q : Place) → body ≡ line_body l → next forms p l ≡ Some q → IsLineRead forms p bytes l q left
    line-there l q e f = record { written = cut.whole ∙ ap (λ (t : List ℕ). t ++ (10 ∷ left)) e ∙ sym (line-split l left); accepted = f }

module _ (forms : List StreamForm) where
  pub none-read : (p : Place) (bytes : List ℕ) → AreLinesRead forms p bytes [] p bytes
  none-read p bytes = record { written = refl; accepted = refl }

  pub one-read : (p : Place) (bytes : List ℕ) (l : StateLine) (q : Place) (rest : List ℕ) → IsLineRead forms p bytes l q rest → AreLinesRead forms p bytes (l ∷ []) q rest
  one-read p bytes l q rest r =
      record {
        written = r.written ∙ ap (λ (t : List ℕ). t ++ rest) (sym (append-nil (line_text l)));
        accepted = ap (λ o. chosen o (λ s. run forms s [])) r.accepted;
      }

  pub both-read : (p : Place) (a : List ℕ) (ls : List StateLine) (q : Place) (b : List ℕ) (ms : List StateLine) (r : Place) (c : List ℕ) → AreLinesRead forms p a ls q b → AreLinesRead forms q b ms r c
      → AreLinesRead forms p a (ls ++ ms) r c
  both-read p a ls q b ms r c x y =
      record {
        written =
            x.written ∙ ap (λ (t : List ℕ). lines_text ls ++ t) y.written ∙ sym (append_assoc (lines_text ls) (lines_text ms) c) ∙ ap (λ (t : List ℕ). t ++ c) (sym (lines-text-both ls ms));
        accepted = run-append forms p ls ms ∙ ap (λ o. chosen o (λ s. run forms s ms)) x.accepted ∙ y.accepted;
      }

  pub more-read : (p : Place) (a : List ℕ) (l : StateLine) (q : Place) (b : List ℕ) (ms : List StateLine) (r : Place) (c : List ℕ) → IsLineRead forms p a l q b → AreLinesRead forms q b ms r c
      → AreLinesRead forms p a (l ∷ ms) r c
  more-read p a l q b ms r c x y = both-read p a (l ∷ []) q b ms r c (one-read p a l q b x) y

  pub refused-here : (p : Place) (bytes : List ℕ) → (p ≡ Done → ⊥) → IsNoLine forms p bytes → IsRefusedAt forms p bytes (length bytes)
  refused-here p bytes more never = record { before = []; place = p; left = bytes; read = none-read p bytes; many_is = refl; refused = never; unended = λ e f. more e }

  pub refused-behind : (p : Place) (a : List ℕ) (ls : List StateLine) (q : Place) (b : List ℕ) (many : ℕ) → AreLinesRead forms p a ls q b → IsRefusedAt forms q b many → IsRefusedAt forms p a many
  refused-behind p a ls q b many x r =
      record {
        before = ls ++ r.before;
        place = r.place;
        left = r.left;
        read = both-read p a ls q b r.before r.place r.left x r.read;
        many_is = r.many_is;
        refused = r.refused;
        unended = r.unended;
      }

  pub refused-line : (p : Place) (a : List ℕ) (l : StateLine) (q : Place) (b : List ℕ) (many : ℕ) → IsLineRead forms p a l q b → IsRefusedAt forms q b many → IsRefusedAt forms p a many
  refused-line p a l q b many x r = refused-behind p a (l ∷ []) q b many (one-read p a l q b x) r
