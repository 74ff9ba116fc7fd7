-- The lines of a stream's instances are read back word by word.
use Rattle.std.proofs.Common.{◌≡◌, ◌≢◌, ◌∷◌, ℕ, ◌^◌, ◌<◌, ◌≤◌, ◌++◌, List, [], Bool, true, false, not, ◌&&◌, Option, Some, None, Result, Ok, Err, IfOk, if◌then◌else◌, codes, decimal, refl, sym, ap, ◌∙◌, arith, length, nat_le, nat_eq}
use Rattle.std.specs.Prelude.{MatchOption, is_some, ◌||◌}
use Rattle.std.specs.List.{list_all}
use Rattle.std.proofs.lemmas.Bool.{and_from, and_parts, eq-eqb, eqb-true, le-leb, leb-true}
use Rattle.lola_value.specs.declared.text.Field.{Field}
use Rattle.lola_value.specs.declared.value.Kind.{Kind}
use Rattle.lola_value.specs.Times.{latest}
use Rattle.lola_value.specs.declared.text.Memory.{Memory}
use Rattle.lola_save_text.specs.Fitting.{are_panes, are_values, is_among, is_last, is_start, is_value, time_or}
use Rattle.lola_save_text.specs.Lines.{panes_text, time_or_dash, values_text, word}
use Rattle.lola_save_text.specs.Places.{is_birth, is_count}
use Rattle.lola_save_text.specs.declared.forms.StreamForm.{StreamForm}
use Rattle.lola_save_text.specs.declared.forms.WindowForm.{WindowForm}
use Rattle.lola_save_text.specs.declared.state.SavedPanes.{SavedPanes}
use Rattle.lola_save_text.specs.declared.state.Times.{Times}
use Rattle.lola_save_text.proofs.Completing.{count-room}
use Rattle.lola_save_text.proofs.Numbers.{decimal-same}
use Rattle.lola_save_text.proofs.SameLines.{IsUpTo, dash-same, start-up-to}
use Rattle.lola_save_text.proofs.Values.{params-same}
use Rattle.lola_save_text.proofs.Whole.{most-few}
use Rattle.lola_save_read.specs.Bodies.{IsBirthBehind, IsInstBody, IsPanesBody, IsRingBody, IsStreamBody, alone}
use Rattle.lola_save_read.specs.Parts.{AreTimes}
use Rattle.lola_save_read.specs.Turns.{hand}
use Rattle.lola_save_read.specs.Words.{AreValuesOf, IsBehindName, IsBehindNumber, IsNextWord, IsWordEnd, is_no_space}
use Rattle.lola_save_read.proofs.WordCuts.{dash-plain, name-same, next-same, number-same, values-end}

-- two numbers

module _ (name : List ℕ) (number : ℕ) (body : List ℕ) where
  abbrev Told : ℕ → Type 0
  Told n = body ≡ name ++ (word (decimal number) ++ word (decimal n))

  as-named : (n : ℕ) → Told n → IsBehindName name body (word (decimal number) ++ word (decimal n))
  as-named n e = record { whole = e; ends = refl }

  as-number : (n : ℕ) → IsBehindNumber number (word (decimal number) ++ word (decimal n)) (word (decimal n))
  as-number n = record { whole = refl; ends = refl }

  pub no-name : ((rest : List ℕ) → IsBehindName name body rest → ⊥) → (n : ℕ) → n < 2 ^ 64 → Told n → ⊥
  no-name never n l e = never (word (decimal number) ++ word (decimal n)) (as-named n e)

  module _ (plain : list_all is_no_space name ≡ true) (numbers : List ℕ) (named : IsBehindName name body numbers) where
    same-numbers : (n : ℕ) → Told n → numbers ≡ word (decimal number) ++ word (decimal n)
    same-numbers n e = name-same name body numbers (word (decimal number) ++ word (decimal n)) plain named (as-named n e)

    pub no-numbers : ((rest : List ℕ) → IsBehindNumber number numbers rest → ⊥) → (n : ℕ) → n < 2 ^ 64 → Told n → ⊥
    no-numbers never n l e = never (word (decimal n)) (record { whole = same-numbers n e; ends = refl })

    pub no-last : (rest : List ℕ) → IsBehindNumber number numbers rest → ((n : ℕ) → n < 2 ^ 64 → rest ≢ word (decimal n)) → (n : ℕ) → n < 2 ^ 64 → Told n → ⊥
    no-last rest b never n l e = never n l (number-same number numbers rest (word (decimal n)) b (record { whole = same-numbers n e; ends = refl }))

    pub both-there : (rest : List ℕ) (n : ℕ) → IsBehindNumber number numbers rest → rest ≡ word (decimal n) → Told n
    both-there rest n b e = named.whole ∙ ap (λ (t : List ℕ). name ++ t) (b.whole ∙ ap (λ (t : List ℕ). word (decimal number) ++ t) e)

    pub last-told : (rest : List ℕ) → IsBehindNumber number numbers rest → (r : Option ℕ) → MatchOption r ((n : ℕ) → n < 2 ^ 64 → rest ≢ word (decimal n)) (λ n. rest ≡ word (decimal n))
        → MatchOption r ((n : ℕ) → n < 2 ^ 64 → Told n → ⊥) (λ n. Told n)
    last-told rest b None m = no-last rest b m
    last-told rest b (Some n) m = both-there rest n b m

-- the line of a stream

module _ (t : Times) (number : ℕ) (s : StreamForm) (plain : s.spawns ≡ false → s.parameters ≡ []) (body : List ℕ) where
  count-few : (c : ℕ) → is_count t s c ≡ true → c < 2 ^ 64
  count-few c e = let a = count-room t s s.spawns c refl plain e in let b = most-few s.parameters in omega (arith, a, b)

  pub no-stream : ((n : ℕ) → n < 2 ^ 64 → body ≢ codes "stream" ++ (word (decimal number) ++ word (decimal n))) → (c : ℕ) → IsStreamBody t number s body c → ⊥
  no-stream never c b = never c (count-few c b.fits) b.spelled

  pub other-count : (n : ℕ) → n < 2 ^ 64 → body ≡ codes "stream" ++ (word (decimal number) ++ word (decimal n)) → is_count t s n ≡ false → (c : ℕ) → IsStreamBody t number s body c → ⊥
  other-count n l e out c b =
      let lt = count-few c b.fits in
      let f : codes "stream" ++ (word (decimal number) ++ word (decimal n)) ≡ codes "stream" ++ (word (decimal number) ++ word (decimal c)) = sym e ∙ b.spelled in
      let g = cut f in
      let h : n ≡ c = decimal-same n c (omega (arith, l)) (omega (arith, lt)) g in
      let x : false ≡ true = sym out ∙ ap (is_count t s) h ∙ b.fits in
      cc x
    where
      cut : codes "stream" ++ (word (decimal number) ++ word (decimal n)) ≡ codes "stream" ++ (word (decimal number) ++ word (decimal c)) → decimal n ≡ decimal c
      cut f =
          let a = number-same number (word (decimal number) ++ word (decimal n)) (word (decimal n)) (word (decimal c)) (record { whole = refl; ends = refl }) (record { whole = (let g : word (decimal number) ++ word (decimal n) ≡ word (decimal number) ++ word (decimal c) = cc f in g); ends = refl }) in
          cc a

-- births

any-seen : (t : Times) (s : StreamForm) (seen met : List (List Field)) (low : ℕ) (b : Option ℕ) → is_birth (hand alone t s 1 seen low) b ≡ is_birth (hand alone t s 1 met low) b
any-seen t s seen met low None = refl
any-seen t s seen met low (Some b) = refl

last-latest : (a l : Option ℕ) → is_last a l ≡ true → time_or 0 l ≤ latest
last-latest a None e = omega arith
last-latest None (Some l) e = absurd (cc)
last-latest (Some a) (Some l) e = leb-true l latest (and_parts (nat_le a l) (nat_le l latest) e).1

up-to-start : (o : Option ℕ) → IsUpTo o → is_start o ≡ true
up-to-start None u = refl
up-to-start (Some t) u = le-leb t latest u

module _ (t : Times) (s : StreamForm) (low : ℕ) (times : AreTimes t) where
  abbrev Births : Option ℕ → Type 0
  Births b = is_birth (hand alone t s 1 [] low) b ≡ true

  birth-fits : (b : Option ℕ) → Births b → IsUpTo b
  birth-fits None e = tt
  birth-fits (Some b) e =
      let p = and_parts s.spawns (nat_le low b && nat_le b (time_or 0 t.last)) e in
      let q = leb-true b (time_or 0 t.last) (and_parts (nat_le low b) (nat_le b (time_or 0 t.last)) p.1).1 in
      let l = last-latest t.start t.last times.order in
      omega (arith, q, l)

  pub no-time : (first : List ℕ) → ((o : Option ℕ) → is_start o ≡ true → first ≢ time_or_dash o) → (b : Option ℕ) → Births b → first ≢ time_or_dash b
  no-time first never b e f = never b (up-to-start b (birth-fits b e)) f

  pub other-time : (first : List ℕ) (o : Option ℕ) → is_start o ≡ true → first ≡ time_or_dash o → is_birth (hand alone t s 1 [] low) o ≡ false → (b : Option ℕ) → Births b → first ≢ time_or_dash b
  other-time first o st e out b f g =
      let h = dash-same o b (start-up-to o st) (birth-fits b f) (sym e ∙ g) in
      let x : false ≡ true = sym out ∙ ap (is_birth (hand alone t s 1 [] low)) h ∙ f in
      cc x

  module _ (body : List ℕ) where
    named : (b : Option ℕ) (rest : List ℕ) → IsBirthBehind t s low body b rest → IsBehindName (codes "inst") body (word (time_or_dash b) ++ rest)
    named b rest i = record { whole = i.whole; ends = refl }

    pub no-inst : ((rest : List ℕ) → IsBehindName (codes "inst") body rest → ⊥) → (b : Option ℕ) (rest : List ℕ) → IsBirthBehind t s low body b rest → ⊥
    no-inst never b rest i = never (word (time_or_dash b) ++ rest) (named b rest i)

    module _ (words : List ℕ) (name : IsBehindName (codes "inst") body words) where
      as-next : (b : Option ℕ) (rest : List ℕ) → IsBirthBehind t s low body b rest → IsNextWord words (time_or_dash b) rest
      as-next b rest i = record { whole = name-same (codes "inst") body words (word (time_or_dash b) ++ rest) refl name (named b rest i); plain = dash-plain b; ends = i.ends }

      pub no-birth-word : ((front rest : List ℕ) → IsNextWord words front rest → ⊥) → (b : Option ℕ) (rest : List ℕ) → IsBirthBehind t s low body b rest → ⊥
      no-birth-word never b rest i = never (time_or_dash b) rest (as-next b rest i)

      pub no-birth : (first left : List ℕ) → IsNextWord words first left → ((b : Option ℕ) → Births b → first ≢ time_or_dash b) → (b : Option ℕ) (rest : List ℕ) → IsBirthBehind t s low body b rest → ⊥
      no-birth first left next never b rest i = never b i.birth (next-same words first left (time_or_dash b) rest next (as-next b rest i)).0

      pub birth-there : (first left : List ℕ) (b : Option ℕ) → IsNextWord words first left → Births b → first ≡ time_or_dash b → IsBirthBehind t s low body b left
      birth-there first left b next e f =
          record { birth = e; whole = name.whole ∙ ap (λ (t : List ℕ). codes "inst" ++ t) (next.whole ∙ ap (λ (t : List ℕ). 32 ∷ (t ++ left)) f); ends = next.ends }

    same-birth : (b c : Option ℕ) (r u : List ℕ) → IsBirthBehind t s low body b r → IsBirthBehind t s low body c u → (b ≡ c) × (r ≡ u)
    same-birth b c r u i j =
        let f : word (time_or_dash b) ++ r ≡ word (time_or_dash c) ++ u = name-same (codes "inst") body (word (time_or_dash b) ++ r) (word (time_or_dash c) ++ u) refl (named b r i) (named c u j) in
        let n = next-same (word (time_or_dash b) ++ r) (time_or_dash b) r (time_or_dash c) u (record { whole = refl; plain = dash-plain b; ends = i.ends }) (record { whole = f; plain = dash-plain c; ends = j.ends }) in
        (dash-same b c (birth-fits b i.birth) (birth-fits c j.birth) n.0, n.1)

    -- the line of an instance

    module _ (seen : List (List Field)) where
      begins : (b : Option ℕ) (p : List Field) → IsInstBody t s seen low body b p → IsBirthBehind t s low body b (values_text p)
      begins b p i = record { birth = any-seen t s [] seen low b ∙ i.birth; whole = i.spelled; ends = values-end p }

      pub no-inst-birth : ((b : Option ℕ) (rest : List ℕ) → IsBirthBehind t s low body b rest → ⊥) → (b : Option ℕ) (p : List Field) → IsInstBody t s seen low body b p → ⊥
      no-inst-birth never b p i = never b (values_text p) (begins b p i)

      module _ (b : Option ℕ) (words : List ℕ) (behind : IsBirthBehind t s low body b words) where
        same-words : (c : Option ℕ) (p : List Field) → IsInstBody t s seen low body c p → words ≡ values_text p
        same-words c p i = (same-birth b c words (values_text p) behind (begins c p i)).1

        fit-params : (c : Option ℕ) (p : List Field) → IsInstBody t s seen low body c p → (are_values s.parameters p ≡ true) × (not (is_among p seen) ≡ true)
        fit-params c p i = and_parts (are_values s.parameters p) (not (is_among p seen)) i.params_fit

        pub no-params : ((p : List Field) → are_values s.parameters p ≡ true → words ≢ values_text p) → (c : Option ℕ) (p : List Field) → IsInstBody t s seen low body c p → ⊥
        no-params never c p i = never p (fit-params c p i).0 (same-words c p i)

        pub seen-params : (p : List Field) → are_values s.parameters p ≡ true → words ≡ values_text p → not (is_among p seen) ≡ false → (c : Option ℕ) (q : List Field) → IsInstBody t s seen low body c q → ⊥
        seen-params p a e out c q i =
            let f = fit-params c q i in
            let same = params-same s.parameters p q a f.0 (sym e ∙ same-words c q i) in
            let x : false ≡ true = sym out ∙ ap (λ (l : List Field). not (is_among l seen)) same ∙ f.1 in
            cc x

        pub inst-there : (p : List Field) → are_values s.parameters p ≡ true → words ≡ values_text p → not (is_among p seen) ≡ true → IsInstBody t s seen low body b p
        inst-there p a e new =
            record {
              birth = any-seen t s seen [] low b ∙ behind.birth;
              params_fit = and_from (are_values s.parameters p) (not (is_among p seen)) a new;
              spelled = behind.whole ∙ ap (λ (l : List ℕ). codes "inst" ++ (word (time_or_dash b) ++ l)) e;
            }

-- the line of an instance's values

abbrev pub most-of : Bool → ℕ → ℕ
most-of b kept = if b then kept else 0

few-kept : (b : Bool) (n kept : ℕ) → (nat_le n kept && (b || nat_eq n 0)) ≡ true → n ≤ most-of b kept
few-kept true n kept e = leb-true n kept (and_parts (nat_le n kept) true e).0
few-kept false n kept e = let f = (and_parts (nat_le n kept) (nat_eq n 0) e).1 in zero-of n f
  where
    zero-of : (n : ℕ) → nat_eq n 0 ≡ true → n ≤ 0
    zero-of n f = let g = eqb-true n 0 f in omega (arith, g)

kept-few : (b : Bool) (n kept : ℕ) → n ≤ most-of b kept → (nat_le n kept && (b || nat_eq n 0)) ≡ true
kept-few true n kept l = and_from (nat_le n kept) true (le-leb n kept l) refl
kept-few false n kept l = let z : n ≡ 0 = omega (arith, l) in and_from (nat_le n kept) (nat_eq n 0) (le-leb n kept (omega (arith, l))) (eq-eqb n 0 z)

module _ (t : Times) (s : StreamForm) (body : List ℕ) where
  fit-values : (vs : List Field) → IsRingBody t s body vs → AreValuesOf s.kind (most-of (is_some t.last) s.kept) vs
  fit-values vs r =
      let p = and_parts (list_all (is_value s.kind) vs) (nat_le (length vs) s.kept && (is_some t.last || nat_eq (length vs) 0)) r.fits in
      record { fit = p.0; few = few-kept (is_some t.last) (length vs) s.kept p.1 }

  as-ring : (vs : List Field) → IsRingBody t s body vs → IsBehindName (codes "ring") body (values_text vs)
  as-ring vs r = record { whole = r.spelled; ends = values-end vs }

  pub no-ring : ((rest : List ℕ) → IsBehindName (codes "ring") body rest → ⊥) → (vs : List Field) → IsRingBody t s body vs → ⊥
  no-ring never vs r = never (values_text vs) (as-ring vs r)

  pub no-values : (words : List ℕ) → IsBehindName (codes "ring") body words → ((vs : List Field) → AreValuesOf s.kind (most-of (is_some t.last) s.kept) vs → words ≢ values_text vs) → (vs : List Field) → IsRingBody t s body vs → ⊥
  no-values words name never vs r = never vs (fit-values vs r) (name-same (codes "ring") body words (values_text vs) refl name (as-ring vs r))

  pub ring-there : (words : List ℕ) (vs : List Field) → IsBehindName (codes "ring") body words → AreValuesOf s.kind (most-of (is_some t.last) s.kept) vs → words ≡ values_text vs → IsRingBody t s body vs
  ring-there words vs name a e =
      record {
        fits = and_from (list_all (is_value s.kind) vs) (nat_le (length vs) s.kept && (is_some t.last || nat_eq (length vs) 0)) a.fit (kept-few (is_some t.last) (length vs) s.kept a.few);
        spelled = name.whole ∙ ap (λ (l : List ℕ). codes "ring" ++ l) e;
      }

  pub ring-told : (words : List ℕ) → IsBehindName (codes "ring") body words → (r : Result (Option (List Field)) Memory)
      → IfOk r (λ o. MatchOption o ((vs : List Field) → AreValuesOf s.kind (most-of (is_some t.last) s.kept) vs → words ≢ values_text vs) (λ vs. AreValuesOf s.kind (most-of (is_some t.last) s.kept) vs × (words ≡ values_text vs)))
      → IfOk r (λ o. MatchOption o ((vs : List Field) → IsRingBody t s body vs → ⊥) (λ vs. IsRingBody t s body vs))
  ring-told words name (Err e) m = tt
  ring-told words name (Ok None) m = no-values words name m
  ring-told words name (Ok (Some vs)) m = ring-there words vs name m.0 m.1

-- the line of a window's panes

module _ (t : Times) (k : Kind) (w : WindowForm) (body : List ℕ) where
  panes-end : (p : Option SavedPanes) → IsWordEnd (panes_text p)
  panes-end None = refl
  panes-end (Some p) = refl

  as-panes : (p : Option SavedPanes) → IsPanesBody t k w body p → IsBehindName (codes "panes") body (word (decimal w.number) ++ panes_text p)
  as-panes p b = record { whole = b.spelled; ends = refl }

  pub no-window : ((rest : List ℕ) → IsBehindName (codes "panes") body rest → ⊥) → (p : Option SavedPanes) → IsPanesBody t k w body p → ⊥
  no-window never p b = never (word (decimal w.number) ++ panes_text p) (as-panes p b)

  module _ (words : List ℕ) (name : IsBehindName (codes "panes") body words) where
    as-numbered : (p : Option SavedPanes) → IsPanesBody t k w body p → IsBehindNumber w.number words (panes_text p)
    as-numbered p b = record { whole = name-same (codes "panes") body words (word (decimal w.number) ++ panes_text p) refl name (as-panes p b); ends = panes-end p }

    pub no-window-number : ((rest : List ℕ) → IsBehindNumber w.number words rest → ⊥) → (p : Option SavedPanes) → IsPanesBody t k w body p → ⊥
    no-window-number never p b = never (panes_text p) (as-numbered p b)

    pub no-window-panes : (rest : List ℕ) → IsBehindNumber w.number words rest → ((p : Option SavedPanes) → are_panes t k w p ≡ true → rest ≢ panes_text p) → (p : Option SavedPanes) → IsPanesBody t k w body p → ⊥
    no-window-panes rest n never p b = never p b.fits (number-same w.number words rest (panes_text p) n (as-numbered p b))

    pub window-there : (rest : List ℕ) (p : Option SavedPanes) → IsBehindNumber w.number words rest → are_panes t k w p ≡ true → rest ≡ panes_text p → IsPanesBody t k w body p
    window-there rest p n a e = record { fits = a; spelled = name.whole ∙ ap (λ (l : List ℕ). codes "panes" ++ l) (n.whole ∙ ap (λ (l : List ℕ). word (decimal w.number) ++ l) e) }

    pub window-told : (rest : List ℕ) → IsBehindNumber w.number words rest → (r : Result (Option (Option SavedPanes)) Memory)
        → IfOk r (λ o. MatchOption o ((p : Option SavedPanes) → are_panes t k w p ≡ true → rest ≢ panes_text p) (λ p. (are_panes t k w p ≡ true) × (rest ≡ panes_text p)))
        → IfOk r (λ o. MatchOption o ((p : Option SavedPanes) → IsPanesBody t k w body p → ⊥) (λ p. IsPanesBody t k w body p))
    window-told rest n (Err e) m = tt
    window-told rest n (Ok None) m = no-window-panes rest n m
    window-told rest n (Ok (Some p)) m = window-there rest p n m.0 m.1
