-- Each kind of line, where it may come.
use Rattle.std.proofs.Common.{◌≡◌, ◌≢◌, ◌∷◌, ℕ, ◌++◌, List, Bool, true, false, ◌&&◌, Option, Some, None, codes, refl, ap, ◌∙◌, nat_eq, Bor}
use Rattle.std.specs.Prelude.{MatchOption}
use Rattle.std.proofs.lemmas.Bool.{and_parts, eqb-true}
use Rattle.lola_value.specs.declared.text.Field.{Field}
use Rattle.lola_report.specs.Lines.{has_no_lf}
use Rattle.lola_save_text.specs.Fitting.{are_panes}
use Rattle.lola_save_text.specs.Lines.{StateLine, InstLine, PanesLine, RingLine, StreamLine, line_body, line_text}
use Rattle.lola_save_text.specs.Places.{Place, AtInst, AtPanes, AtRing, AtStream, Done, are_params, as_inst, as_panes, as_ring, as_stream, behind_instance, behind_panes, is_birth, is_count, is_end, is_ring, next, one_less, opened, where_so}
use Rattle.lola_save_text.specs.declared.forms.StreamForm.{StreamForm}
use Rattle.lola_save_text.specs.declared.forms.WindowForm.{WindowForm}
use Rattle.lola_save_text.specs.declared.state.SavedPanes.{SavedPanes}
use Rattle.lola_save_text.specs.declared.state.Times.{Times}
use Rattle.lola_save_text.proofs.Choices.{both-so, chosen-so, so-eq, where-so}
use Rattle.lola_save_text.proofs.Whole.{is-end-line, is-inst, is-panes, is-ring, is-stream}
use Rattle.lola_save_read.specs.Bodies.{IsInstBody, IsPanesBody, IsRingBody, IsStreamBody, alone}
use Rattle.lola_save_read.specs.Heads.{IsCutAtLf}
use Rattle.lola_save_read.specs.Readings.{IsEndLine, IsInstLine, IsPanesLine, IsRingLine, IsStreamLine, NoEndLine, NoInstLine, NoPanesLine, NoRingLine, NoStreamLine}
use Rattle.lola_save_read.specs.Turns.{Around, hand}
use Rattle.lola_save_read.proofs.TurnsOn.{line-there, no-body-no-line, no-lf-no-line}

passed : {X : Type 0} (b : Bool) (x : X) → b ≡ true → where_so b x ≡ Some x
passed b x e = ap (λ c. where_so c x) e

-- a birth does not depend on what stands around
same-birth : (a b : Around) (t : Times) (s : StreamForm) (left more : ℕ) (seen : List (List Field)) (low : ℕ) (o : Option ℕ) → is_birth (hand a t s left seen low) o ≡ is_birth (hand b t s more seen low) o
same-birth a b t s left more seen low None = refl
same-birth a b t s left more seen low (Some c) = refl

-- the line of a stream

module _ (t : Times) (n : ℕ) (s : StreamForm) (bytes : List ℕ) where
  pub no-lf-stream : has_no_lf bytes ≡ true → NoStreamLine t n s bytes
  no-lf-stream e forms later = no-lf-no-line forms (AtStream t n (s ∷ later)) bytes e

  module _ (body rest : List ℕ) (cut : IsCutAtLf bytes body rest) where
    pub no-stream-line : ((c : ℕ) → IsStreamBody t n s body c → ⊥) → NoStreamLine t n s bytes
    no-stream-line never forms later = no-body-no-line forms (AtStream t n (s ∷ later)) bytes body rest cut (λ l q e f. by l q e f)
      where
        by : (l : StateLine) (q : Place) → body ≡ line_body l → next forms (AtStream t n (s ∷ later)) l ≡ Some q → ⊥
        by l q e f =
            let d : ℕ × ℕ → Place = λ x. behind_instance (opened t n s later x.1) in
            let x = chosen-so (as_stream l) (λ x. where_so (nat_eq x.0 n && is_count t s x.1) (d x)) q f in
            let i = and_parts (nat_eq x.0.0 n) (is_count t s x.0.1) (where-so (nat_eq x.0.0 n && is_count t s x.0.1) (d x.0) q x.2).0 in
            let g : l ≡ StreamLine n x.0.1 = is-stream l x.0 x.1 ∙ ap (λ k. StreamLine k x.0.1) (eqb-true x.0.0 n i.0) in
            never x.0.1 (record { fits = i.1; spelled = e ∙ ap line_body g })

    pub stream-line : (c : ℕ) → IsStreamBody t n s body c → IsStreamLine t n s bytes c rest
    stream-line c b forms later =
        line-there forms (AtStream t n (s ∷ later)) bytes body rest cut (StreamLine n c) (behind_instance (opened t n s later c)) b.spelled
        (passed (nat_eq n n && is_count t s c) (behind_instance (opened t n s later c)) (both-so (nat_eq n n) (is_count t s c) (so-eq n) b.fits))

-- the line of an instance

module _ (t : Times) (s : StreamForm) (seen : List (List Field)) (low : ℕ) (bytes : List ℕ) where
  pub no-lf-inst : has_no_lf bytes ≡ true → NoInstLine t s seen low bytes
  no-lf-inst e a left = no-lf-no-line a.forms (AtInst (hand a t s left seen low)) bytes e

  module _ (body rest : List ℕ) (cut : IsCutAtLf bytes body rest) where
    pub no-inst-line : ((b : Option ℕ) (p : List Field) → IsInstBody t s seen low body b p → ⊥) → NoInstLine t s seen low bytes
    no-inst-line never a left = no-body-no-line a.forms (AtInst (hand a t s left seen low)) bytes body rest cut (λ l q e f. by l q e f)
      where
        by : (l : StateLine) (q : Place) → body ≡ line_body l → next a.forms (AtInst (hand a t s left seen low)) l ≡ Some q → ⊥
        by l q e f =
            let h = hand a t s left seen low in
            let d : Option ℕ × List Field → Place = λ x. AtRing (one_less h x.0 x.1) in
            let x = chosen-so (as_inst l) (λ x. where_so (is_birth h x.0 && are_params h x.1) (d x)) q f in
            let i = and_parts (is_birth h x.0.0) (are_params h x.0.1) (where-so (is_birth h x.0.0 && are_params h x.0.1) (d x.0) q x.2).0 in
            never x.0.0 x.0.1 (record { birth = same-birth alone a t s 1 left seen low x.0.0 ∙ i.0; params_fit = i.1; spelled = e ∙ ap line_body (is-inst l x.0 x.1) })

    pub inst-line : (b : Option ℕ) (p : List Field) → IsInstBody t s seen low body b p → IsInstLine t s seen low bytes b p rest
    inst-line b p i a left =
        let h = hand a t s left seen low in
        line-there a.forms (AtInst h) bytes body rest cut (InstLine b p) (AtRing (one_less h b p)) i.spelled
        (passed (is_birth h b && are_params h p) (AtRing (one_less h b p)) (both-so (is_birth h b) (are_params h p) (same-birth a alone t s left 1 seen low b ∙ i.birth) i.params_fit))

-- the line of an instance's values

module _ (t : Times) (s : StreamForm) (bytes : List ℕ) where
  pub no-lf-ring : has_no_lf bytes ≡ true → NoRingLine t s bytes
  no-lf-ring e a left seen low = no-lf-no-line a.forms (AtRing (hand a t s left seen low)) bytes e

  module _ (body rest : List ℕ) (cut : IsCutAtLf bytes body rest) where
    pub no-ring-line : ((vs : List Field) → IsRingBody t s body vs → ⊥) → NoRingLine t s bytes
    no-ring-line never a left seen low = no-body-no-line a.forms (AtRing (hand a t s left seen low)) bytes body rest cut (λ l q e f. by l q e f)
      where
        by : (l : StateLine) (q : Place) → body ≡ line_body l → next a.forms (AtRing (hand a t s left seen low)) l ≡ Some q → ⊥
        by l q e f =
            let h = hand a t s left seen low in
            let x = chosen-so (as_ring l) (λ vs. where_so (is_ring h vs) (behind_panes h h.form.windows)) q f in
            let i = (where-so (is_ring h x.0) (behind_panes h h.form.windows) q x.2).0 in
            never x.0 (record { fits = i; spelled = e ∙ ap line_body (is-ring l x.0 x.1) })

    pub ring-line : (vs : List Field) → IsRingBody t s body vs → IsRingLine t s bytes vs rest
    ring-line vs r a left seen low =
        let h = hand a t s left seen low in
        line-there a.forms (AtRing h) bytes body rest cut (RingLine vs) (behind_panes h s.windows) r.spelled (passed (is_ring h vs) (behind_panes h s.windows) r.fits)

-- the line of a window's panes

module _ (t : Times) (s : StreamForm) (w : WindowForm) (bytes : List ℕ) where
  pub no-lf-panes : has_no_lf bytes ≡ true → NoPanesLine t s w bytes
  no-lf-panes e a left seen low ws = no-lf-no-line a.forms (AtPanes (hand a t s left seen low) (w ∷ ws)) bytes e

  module _ (body rest : List ℕ) (cut : IsCutAtLf bytes body rest) where
    pub no-panes-line : ((p : Option SavedPanes) → IsPanesBody t s.kind w body p → ⊥) → NoPanesLine t s w bytes
    no-panes-line never a left seen low ws = no-body-no-line a.forms (AtPanes (hand a t s left seen low) (w ∷ ws)) bytes body rest cut (λ l q e f. by l q e f)
      where
        by : (l : StateLine) (q : Place) → body ≡ line_body l → next a.forms (AtPanes (hand a t s left seen low) (w ∷ ws)) l ≡ Some q → ⊥
        by l q e f =
            let h = hand a t s left seen low in
            let x = chosen-so (as_panes l) (λ x. where_so (nat_eq x.0 w.number && are_panes h.times h.form.kind w x.1) (behind_panes h ws)) q f in
            let i = and_parts (nat_eq x.0.0 w.number) (are_panes t s.kind w x.0.1) (where-so (nat_eq x.0.0 w.number && are_panes t s.kind w x.0.1) (behind_panes h ws) q x.2).0 in
            let g : l ≡ PanesLine w.number x.0.1 = is-panes l x.0 x.1 ∙ ap (λ k. PanesLine k x.0.1) (eqb-true x.0.0 w.number i.0) in
            never x.0.1 (record { fits = i.1; spelled = e ∙ ap line_body g })

    pub panes-line : (p : Option SavedPanes) → IsPanesBody t s.kind w body p → IsPanesLine t s w bytes p rest
    panes-line p b a left seen low ws =
        let h = hand a t s left seen low in
        line-there a.forms (AtPanes h (w ∷ ws)) bytes body rest cut (PanesLine w.number p) (behind_panes h ws) b.spelled
        (passed (nat_eq w.number w.number && are_panes t s.kind w p) (behind_panes h ws) (both-so (nat_eq w.number w.number) (are_panes t s.kind w p) (so-eq w.number) b.fits))

-- the last line

pub no-end-line : (bytes : List ℕ) → ((rest : List ℕ) → bytes ≢ codes "end\n" ++ rest) → NoEndLine bytes
no-end-line bytes never forms t n l rest e = by (is_end l) refl
  where
    by : (b : Bool) → is_end l ≡ b → where_so (is_end l) Done ≡ None
    by true f = absurd (never rest (e ∙ ap (λ (k : StateLine). line_text k ++ rest) (is-end-line l f)))
    by false f = ap (λ c. where_so c Done) f

pub end-line : (bytes rest : List ℕ) → bytes ≡ codes "end\n" ++ rest → IsEndLine bytes rest
end-line bytes rest e forms t n = record { written = e; accepted = refl }

pub end-told : (bytes : List ℕ) (r : Option (Bor (List ℕ))) → MatchOption r ((rest : List ℕ) → bytes ≢ codes "end\n" ++ rest) (λ x. bytes ≡ codes "end\n" ++ x.now)
    → MatchOption r (NoEndLine bytes) (λ x. IsEndLine bytes x.now)
end-told bytes None m = no-end-line bytes m
end-told bytes (Some x) m = end-line bytes x.now m
