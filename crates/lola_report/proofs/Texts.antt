-- Texts of whole lines: they are cut into the lines of entries in one way.
use Rattle.std.proofs.Common.{◌≡◌, ◌≢◌, ◌+◌, ℕ, List, [], ◌∷◌, ◌++◌, ◌∙◌, true, false, ◌||◌, refl, sym, ap, length, append_assoc, append-nil}
use Rattle.std.specs.Prelude.{Contains}
use Rattle.std.specs.List.{AllByRecursion, list_any, before_first, after_first}
use Rattle.lola_model.specs.declared.journal.Entry.{Entry}
use Rattle.lola_model.specs.declared.plan.Plan.{Plan}
use Rattle.lola_model.specs.Trace.{IsTraceable, input_kinds, trace_line, trace_text}
use Rattle.lola_report.specs.Journals.{IsFirstBad, IsNoLine, Spells, is_lf}
use Rattle.lola_report.proofs.Bytes.{absent-from, first-after, first-before, line-no-lf, none-from}
use Rattle.lola_report.proofs.FieldLines.{content, content-one-line, line-content}
use Rattle.lola_report.proofs.ReadBack.{one-entry, parts-of}

-- two texts that are the same, cut behind their first LF
cut-same : (x y u v : List ℕ) → list_any is_lf x ≡ false → list_any is_lf y ≡ false → x ++ (10 ∷ u) ≡ y ++ (10 ∷ v) → (x ≡ y) × (u ≡ v)
cut-same x y u v a b same = (
  sym (first-before is_lf x u 10 a refl) ∙ ap (before_first is_lf) same ∙ first-before is_lf y v 10 b refl,
  sym (first-after is_lf x u 10 a refl) ∙ ap (after_first is_lf) same ∙ first-after is_lf y v 10 b refl,
)

-- an LF is in a text
lf-there : (x u : List ℕ) → list_any is_lf (x ++ (10 ∷ u)) ≡ true
lf-there [] u = refl
lf-there (b ∷ x) u = elim (is_lf b) as (λ t. (t || list_any is_lf (x ++ (10 ∷ u))) ≡ true) [ true ↦ refl | false ↦ lf-there x u ]

module _ (plan : Plan) where
  -- a text that does not begin with the line of an entry that a trace can tell
  abbrev Stops : List ℕ → Type 0
  Stops a = (e : Entry) (u : List ℕ) → IsTraceable plan e → a ≢ trace_line e ++ u

  line-then : (e : Entry) (u : List ℕ) → trace_line e ++ u ≡ content e ++ (10 ∷ u)
  line-then e u = ap (λ (l : List ℕ). l ++ u) (line-content e) ∙ append_assoc (content e) (10 ∷ []) u

  content-no-lf : (e : Entry) → IsTraceable plan e → list_any is_lf (content e) ≡ false
  content-no-lf e is = line-no-lf (content e) (content-one-line (input_kinds plan.spec.streams) e (parts-of plan e is))

  -- the first lines of two texts that are the same
  first-same : (d e : Entry) (u v : List ℕ) → IsTraceable plan d → IsTraceable plan e → trace_line d ++ u ≡ trace_line e ++ v → (d ≡ e) × (u ≡ v)
  first-same d e u v is is2 same =
      let whole = sym (line-then d u) ∙ same ∙ line-then e v in
      let cut = cut-same (content d) (content e) u v (content-no-lf d is) (content-no-lf e is2) whole in
      let lines = line-content d ∙ ap (λ (l : List ℕ). l ++ (10 ∷ [])) cut.0 ∙ sym (line-content e) in
      (one-entry plan d e is is2 lines, cut.1)

  unfinished-stops : (a : List ℕ) → ¬ (Contains a 10) → Stops a
  unfinished-stops a none e u is same =
      let out : list_any is_lf a ≡ false = none-from 10 a none in
      let there : list_any is_lf a ≡ true = ap (list_any is_lf) (same ∙ line-then e u) ∙ lf-there (content e) u in
      cc (sym out ∙ there)

  bad-stops : (line left : List ℕ) → ¬ (Contains line 10) → IsNoLine plan (line ++ (10 ∷ [])) → Stops (line ++ (10 ∷ left))
  bad-stops line left none bad e u is same =
      let cut = cut-same line (content e) left u (none-from 10 line none) (content-no-lf e is) (same ∙ line-then e u) in
      bad e is (line-content e ∙ ap (λ (l : List ℕ). l ++ (10 ∷ [])) (sym cut.0))

  -- lines before what does not begin with one
  same-lines : (js ks : List Entry) (a b : List ℕ) → AllByRecursion (IsTraceable plan) js → AllByRecursion (IsTraceable plan) ks → Stops a → Stops b
      → trace_text js ++ a ≡ trace_text ks ++ b → (js ≡ ks) × (a ≡ b)
  same-lines [] [] a b p q stop stop2 same = (refl, same)
  same-lines [] (k ∷ ks) a b p q stop stop2 same = absurd (stop k (trace_text ks ++ b) q.0 (same ∙ append_assoc (trace_line k) (trace_text ks) b))
  same-lines (j ∷ js) [] a b p q stop stop2 same = absurd (stop2 j (trace_text js ++ a) p.0 (sym same ∙ append_assoc (trace_line j) (trace_text js) a))
  same-lines (j ∷ js) (k ∷ ks) a b p q stop stop2 same =
      let whole = sym (append_assoc (trace_line j) (trace_text js) a) ∙ same ∙ append_assoc (trace_line k) (trace_text ks) b in
      let first = first-same j k (trace_text js ++ a) (trace_text ks ++ b) p.0 q.0 whole in
      let rest = same-lines js ks a b p.1 q.1 stop stop2 first.1 in
      let lists : j ∷ js ≡ k ∷ ks = let f = first.0 in let r = rest.0 in cc (f, r) in
      (lists, rest.1)

  pub one-journal : (bytes : List ℕ) (js ks : List Entry) → Spells plan bytes js → Spells plan bytes ks → js ≡ ks
  one-journal bytes js ks a b =
      (same-lines js ks a.left b.left a.traceable b.traceable (unfinished-stops a.left a.unfinished) (unfinished-stops b.left b.unfinished) (sym a.whole ∙ b.whole)).0

  pub its-text : (js : List Entry) → AllByRecursion (IsTraceable plan) js → Spells plan (trace_text js) js
  its-text js all = record { left = []; whole = sym (append-nil (trace_text js)); unfinished = absent-from 10 [] refl; traceable = all }

  pub one-bad-line : (bytes : List ℕ) (m n : ℕ) → IsFirstBad plan bytes m → IsFirstBad plan bytes n → m ≡ n
  one-bad-line bytes m n a b =
      let same = same-lines a.before b.before (a.line ++ (10 ∷ a.left)) (b.line ++ (10 ∷ b.left)) a.traceable b.traceable
      (bad-stops a.line a.left a.one_line a.bad) (bad-stops b.line b.left b.one_line b.bad) (sym a.whole ∙ b.whole) in
      a.number ∙ ap (λ (l : List Entry). length l + 1) same.0 ∙ sym b.number

  pub not-both : (bytes : List ℕ) (js : List Entry) (n : ℕ) → Spells plan bytes js → ¬ (IsFirstBad plan bytes n)
  not-both bytes js n a b =
      let same = same-lines js b.before a.left (b.line ++ (10 ∷ b.left)) a.traceable b.traceable
      (unfinished-stops a.left a.unfinished) (bad-stops b.line b.left b.one_line b.bad) (sym a.whole ∙ b.whole) in
      let out : list_any is_lf a.left ≡ false = none-from 10 a.left a.unfinished in
      let there : list_any is_lf a.left ≡ true = ap (list_any is_lf) same.1 ∙ lf-there b.line b.left in
      cc (sym out ∙ there)
