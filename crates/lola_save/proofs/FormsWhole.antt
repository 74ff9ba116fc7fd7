-- Each form of a plan has all windows onto its stream, and its kinds are those of the stream.
use Rattle.std.proofs.Common.{◌≡◌, ℕ, zero, suc, ◌+◌, ◌≤◌, List, [], ◌∷◌, ◌++◌, length, drop, refl, subst, ap, sym, ◌∙◌, arith, Bool, true, false, Some, None, nat_eq, slice_get, if◌then◌else◌}
use Rattle.std.proofs.lemmas.Bool.{and_parts, eq-eqb, leb-true}
use Rattle.lola_model.specs.Acceptance.{IsAccepted}
use Rattle.lola_model.specs.Named.{all_streams, has_few_parameters}
use Rattle.lola_model.specs.Store.{StreamLayout, kind_in, layout_of, layouts_from, parameters_of}
use Rattle.lola_model.specs.declared.pacing.ClausePacings.{ClausePacings}
use Rattle.lola_model.specs.declared.plan.PaneSize.{PaneSize}
use Rattle.lola_model.specs.declared.plan.Plan.{Plan}
use Rattle.lola_model.specs.declared.spec.Stream.{Stream}
use Rattle.lola_model.specs.declared.spec.WindowSpec.{WindowSpec}
use Rattle.lola_instances.specs.Opening.{IsStorable}
use Rattle.lola_save_text.specs.Forms.{first_size, forms_of, stream_forms, windows_onto}
use Rattle.lola_save_text.specs.declared.forms.StreamForm.{StreamForm}
use Rattle.lola_save_text.specs.declared.forms.WindowForm.{WindowForm}
use Rattle.lola_save.specs.Fitting.{AreAllOnto, IsFormOf}
use Rattle.lola_save.proofs.FormsFit.{form-of, forms-fit}
use Rattle.lola_save.proofs.StoreSlots.{nothing-at, some-is}

module _ (n : ℕ) where
  -- what is made of one more window
  abbrev led : Bool → ℕ → WindowSpec → PaneSize → List WindowForm → List WindowForm
  led b number w p rest = (if b then record { number = number; how = w.using; pane = p.pane; count = p.count } ∷ [] else []) ++ rest

  -- numbers are no less than the first, and differ

  abbrev AllFrom : ℕ → List WindowForm → Type 0
  AllFrom number ws = (k : ℕ) (w : WindowForm) → slice_get ws k ≡ Some w → number ≤ w.number

  abbrev Apart : List WindowForm → Type 0
  Apart ws = (j k : ℕ) (v w : WindowForm) → slice_get ws j ≡ Some v → slice_get ws k ≡ Some w → v.number ≡ w.number → j ≡ k

  from-led : (b : Bool) (number : ℕ) (w : WindowSpec) (p : PaneSize) (rest : List WindowForm) → AllFrom (number + 1) rest → AllFrom number (led b number w p rest)
  from-led false number w p rest h k v e = let f = h k v e in omega (arith, f)
  from-led true number w p rest h zero v e = let same : number ≡ v.number = ap (λ (x : WindowForm). x.number) (some-is e) in omega (arith, same)
  from-led true number w p rest h (suc k) v e = let f = h k v e in omega (arith, f)

  all-from : (number : ℕ) (ws : List WindowSpec) (ps : List PaneSize) → AllFrom number (windows_onto n number ws ps)
  all-from number [] ps k v e = absurd (nothing-at k v e)
  all-from number (w ∷ ws) ps k v e =
      from-led (nat_eq w.target n) number w (first_size ps) (windows_onto n (number + 1) ws (drop 1 ps)) (all-from (number + 1) ws (drop 1 ps)) k v e

  apart-led : (b : Bool) (number : ℕ) (w : WindowSpec) (p : PaneSize) (rest : List WindowForm) → AllFrom (number + 1) rest → Apart rest → Apart (led b number w p rest)
  apart-led false number w p rest h a j k u v e f q = a j k u v e f q
  apart-led true number w p rest h a zero zero u v e f q = refl
  apart-led true number w p rest h a zero (suc k) u v e f q =
      let same : number ≡ u.number = ap (λ (x : WindowForm). x.number) (some-is e) in
      let more = h k v f in
      absurd (omega (arith, same, more, q))
  apart-led true number w p rest h a (suc j) zero u v e f q =
      let same : number ≡ v.number = ap (λ (x : WindowForm). x.number) (some-is f) in
      let more = h j u e in
      absurd (omega (arith, same, more, q))
  apart-led true number w p rest h a (suc j) (suc k) u v e f q = ap suc (a j k u v e f q)

  all-apart : (number : ℕ) (ws : List WindowSpec) (ps : List PaneSize) → Apart (windows_onto n number ws ps)
  all-apart number [] ps j k u v e f q = absurd (nothing-at j u e)
  all-apart number (w ∷ ws) ps j k u v e f q =
      apart-led (nat_eq w.target n) number w (first_size ps) (windows_onto n (number + 1) ws (drop 1 ps)) (all-from (number + 1) ws (drop 1 ps)) (all-apart (number + 1) ws (drop 1 ps)) j k u v e f q

  -- each window onto the stream is there

  abbrev Has : ℕ → List WindowForm → Type 0
  Has number ws = (k : ℕ) × (w : WindowForm) × (slice_get ws k ≡ Some w) × (w.number ≡ number)

  has-first : (b : Bool) (number : ℕ) (w : WindowSpec) (p : PaneSize) (rest : List WindowForm) → b ≡ true → Has number (led b number w p rest)
  has-first true number w p rest e = (0, record { number = number; how = w.using; pane = p.pane; count = p.count }, refl, refl)
  has-first false number w p rest e = absurd (cc)

  has-led : (b : Bool) (number other : ℕ) (w : WindowSpec) (p : PaneSize) (rest : List WindowForm) → Has other rest → Has other (led b number w p rest)
  has-led true number other w p rest h = (suc h.0, h.1, h.2, h.3)
  has-led false number other w p rest h = h

  has-all : (number : ℕ) (ws : List WindowSpec) (ps : List PaneSize) (i : ℕ) (v : WindowSpec) → slice_get ws i ≡ Some v → v.target ≡ n → Has (number + i) (windows_onto n number ws ps)
  has-all number [] ps i v e t = absurd (nothing-at i v e)
  has-all number (w ∷ ws) ps zero v e t =
      let hit : nat_eq w.target n ≡ true = eq-eqb w.target n (ap (λ (x : WindowSpec). x.target) (some-is e) ∙ t) in
      let at : number ≡ number + 0 = omega arith in
      subst (λ (m : ℕ). Has m (windows_onto n number (w ∷ ws) ps)) at (has-first (nat_eq w.target n) number w (first_size ps) (windows_onto n (number + 1) ws (drop 1 ps)) hit)
  has-all number (w ∷ ws) ps (suc i) v e t =
      let at : number + 1 + i ≡ number + suc i = omega arith in
      subst (λ (m : ℕ). Has m (windows_onto n number (w ∷ ws) ps)) at
      (has-led (nat_eq w.target n) number (number + 1 + i) w (first_size ps) (windows_onto n (number + 1) ws (drop 1 ps)) (has-all (number + 1) ws (drop 1 ps) i v e t))

-- a stream and its form

pub record IsKnownForm (plan : Plan) (n : ℕ) (form : StreamForm) : Type 0 where
  pub stream : Stream
  pub at : slice_get plan.spec.streams n ≡ Some stream
  pub layout : StreamLayout
  pub laid : slice_get (layout_of plan).streams n ≡ Some layout
  pub kind : form.kind ≡ layout.kind
  pub parameters : form.parameters ≡ layout.parameters
  pub spawns : form.spawns ≡ layout.spawns
  pub windows : form.windows ≡ windows_onto n 0 plan.spec.windows plan.panes
  pub parameters_are : layout.parameters ≡ stream.parameters
  pub spawns_are : layout.spawns ≡ (elim stream.spawn [ None ↦ false | Some c ↦ true ])

record IsLaid (ss : List Stream) (i : ℕ) (l : StreamLayout) : Type 0 where
  pub stream : Stream
  pub at : slice_get ss i ≡ Some stream
  pub parameters : l.parameters ≡ stream.parameters
  pub spawns : l.spawns ≡ (elim stream.spawn [ None ↦ false | Some c ↦ true ])

laid-at : (ss : List Stream) (kept : List ℕ) (pacings : List ClausePacings) (i : ℕ) (l : StreamLayout) → slice_get (layouts_from ss kept pacings) i ≡ Some l → IsLaid ss i l
laid-at [] kept pacings i l e = absurd (nothing-at i l e)
laid-at (s ∷ ss) kept pacings zero l e =
    let same = some-is e in
    record { stream = s; at = refl; parameters = ap (λ (x : StreamLayout). x.parameters) (sym same); spawns = ap (λ (x : StreamLayout). x.spawns) (sym same) }
laid-at (s ∷ ss) kept pacings (suc i) l e = let r = laid-at ss (drop 1 kept) (drop 1 pacings) i l e in record { stream = r.stream; at = r.at; parameters = r.parameters; spawns = r.spawns }

record IsFormed (plan : Plan) (ls : List StreamLayout) (n i : ℕ) (form : StreamForm) : Type 0 where
  pub layout : StreamLayout
  pub laid : slice_get ls i ≡ Some layout
  pub kind : form.kind ≡ layout.kind
  pub parameters : form.parameters ≡ layout.parameters
  pub spawns : form.spawns ≡ layout.spawns
  pub windows : form.windows ≡ windows_onto n 0 plan.spec.windows plan.panes

formed-at : (plan : Plan) (m : ℕ) (ls : List StreamLayout) (i n : ℕ) (form : StreamForm) → n ≡ m + i → slice_get (stream_forms plan m ls) i ≡ Some form → IsFormed plan ls n i form
formed-at plan m [] i n form at e = absurd (nothing-at i form e)
formed-at plan m (l ∷ ls) zero n form at e =
    let same = sym (some-is e) in
    let number : m ≡ n = omega (arith, at) in
    record {
      layout = l;
      laid = refl;
      kind = ap (λ (x : StreamForm). x.kind) same;
      parameters = ap (λ (x : StreamForm). x.parameters) same;
      spawns = ap (λ (x : StreamForm). x.spawns) same;
      windows = ap (λ (x : StreamForm). x.windows) same ∙ ap (λ (k : ℕ). windows_onto k 0 plan.spec.windows plan.panes) number;
    }
formed-at plan m (l ∷ ls) (suc i) n form at e =
    let r = formed-at plan (m + 1) ls i n form (omega (arith, at)) e in
    record { layout = r.layout; laid = r.laid; kind = r.kind; parameters = r.parameters; spawns = r.spawns; windows = r.windows }

pub known-form : (plan : Plan) (n : ℕ) (form : StreamForm) → slice_get (forms_of plan) n ≡ Some form → IsKnownForm plan n form
known-form plan n form e =
    let f = formed-at plan 0 (layout_of plan).streams n n form (omega arith) e in
    let l = laid-at plan.spec.streams plan.kept plan.pacings n f.layout f.laid in
    record {
      stream = l.stream;
      at = l.at;
      layout = f.layout;
      laid = f.laid;
      kind = f.kind;
      parameters = f.parameters;
      spawns = f.spawns;
      windows = f.windows;
      parameters_are = l.parameters;
      spawns_are = l.spawns;
    }

few-at : (ss : List Stream) (i : ℕ) (s : Stream) → all_streams has_few_parameters ss ≡ true → slice_get ss i ≡ Some s → length s.parameters ≤ 4
few-at [] i s h e = absurd (nothing-at i s e)
few-at (x ∷ ss) zero s h e =
    let t = leb-true (length x.parameters) 4 (and_parts (has_few_parameters x) (all_streams has_few_parameters ss) h).0 in
    subst (λ (y : Stream). length y.parameters ≤ 4) (some-is e) t
few-at (x ∷ ss) (suc i) s h e = few-at ss i s (and_parts (has_few_parameters x) (all_streams has_few_parameters ss) h).1 e

pub form-is : (plan : Plan) → IsAccepted plan → IsStorable plan → (n : ℕ) (form : StreamForm) → slice_get (forms_of plan) n ≡ Some form → IsFormOf (layout_of plan) n form
form-is plan accepted storable n form e =
    let k = known-form plan n form e in
    record {
      whole = record {
        of = form-of (layout_of plan) (forms_of plan) n form (forms-fit plan storable.sizes) e;
        kind = k.kind ∙ sym (ap kind_in k.laid);
        parameters = k.parameters ∙ sym (ap parameters_of k.laid);
        few = let f = few-at plan.spec.streams n k.stream accepted.named.few_parameters k.at in let l : length form.parameters ≡ length k.stream.parameters = ap length (k.parameters ∙ k.parameters_are) in omega (arith, f, l);
        windows = subst (λ ws. AreAllOnto (layout_of plan) n ws) (sym k.windows) (record {
          apart = all-apart n 0 plan.spec.windows plan.panes;
          all = λ number spec at t. subst (λ (m : ℕ). Has n m (windows_onto n 0 plan.spec.windows plan.panes)) (let z : 0 + number ≡ number = omega arith in z) (has-all n 0 plan.spec.windows plan.panes number spec at t);
        });
      };
      plain = λ s. k.parameters ∙ storable.plain n k.layout k.laid (sym k.spawns ∙ s);
    }
