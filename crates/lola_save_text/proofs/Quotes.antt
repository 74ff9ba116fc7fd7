-- A text between quotes is read back from what is written of it, whatever stands behind it.
use Rattle.std.proofs.Common.{◌≡◌, ℕ, List, [], ◌∷◌, ◌++◌, Bool, true, false, cond, Option, Some, None, refl, sym, ap, ◌∙◌, append_assoc, flat_map}
use Rattle.std.specs.Prelude.{nat_eq}
use Rattle.std.proofs.lemmas.Bool.{cond_both, eqb-true}
use Rattle.lola_model.specs.Texts.{escaped, quoted}

-- the byte for which a letter stands after a backslash
abbrev byte_of : ℕ → ℕ
byte_of c = cond (nat_eq c 110) 10 (cond (nat_eq c 114) 13 (cond (nat_eq c 116) 9 c))

-- a byte in front of what was read
abbrev in_front : ℕ → List ℕ × List ℕ → List ℕ × List ℕ
in_front b r = (b ∷ r.0, r.1)

-- the text up to the closing quote, and what stands behind that; after a backslash a letter stands for a byte
abbrev unquoted : Bool → List ℕ → List ℕ × List ℕ
unquoted after [] = ([], [])
unquoted true (c ∷ cs) = in_front (byte_of c) (unquoted false cs)
unquoted false (c ∷ cs) = cond (nat_eq c 34) ([], cs) (cond (nat_eq c 92) (unquoted true cs) (in_front c (unquoted false cs)))

-- one byte
byte-back : (b : ℕ) (u : List ℕ) → unquoted false (escaped b ++ u) ≡ in_front b (unquoted false u)
byte-back b u =
    let P : Option ℕ → Type 0 = λ (o : Option ℕ). unquoted false ((elim o [ None ↦ b ∷ [] | Some c ↦ 92 ∷ c ∷ [] ]) ++ u) ≡ in_front b (unquoted false u) in
    cond_both (nat_eq b 34) _ _ P (λ e. ap (λ c. in_front c (unquoted false u)) (sym (eqb-true b 34 e))) (λ quote.
    cond_both (nat_eq b 92) _ _ P (λ e. ap (λ c. in_front c (unquoted false u)) (sym (eqb-true b 92 e))) (λ slash.
    cond_both (nat_eq b 10) _ _ P (λ e. ap (λ c. in_front c (unquoted false u)) (sym (eqb-true b 10 e))) (λ _.
    cond_both (nat_eq b 13) _ _ P (λ e. ap (λ c. in_front c (unquoted false u)) (sym (eqb-true b 13 e))) (λ _.
    cond_both (nat_eq b 9) _ _ P (λ e. ap (λ c. in_front c (unquoted false u)) (sym (eqb-true b 9 e))) (λ _.
    rw (quote, slash) refl)))))

text-back : (t u : List ℕ) → unquoted false (flat_map escaped t ++ (34 ∷ u)) ≡ (t, u)
text-back [] u = refl
text-back (b ∷ t) u =
    ap (unquoted false) (append_assoc (escaped b) (flat_map escaped t) (34 ∷ u)) ∙ byte-back b (flat_map escaped t ++ (34 ∷ u)) ∙ ap (in_front b) (text-back t u)

whole : (t u : List ℕ) → quoted t ++ u ≡ 34 ∷ (flat_map escaped t ++ (34 ∷ u))
whole t u = ap (λ (l : List ℕ). 34 ∷ l) (append_assoc (flat_map escaped t) (34 ∷ []) u)

-- what the bytes behind the opening quote are read as
abbrev behind_quote : List ℕ → List ℕ × List ℕ
behind_quote [] = ([], [])
behind_quote (b ∷ bs) = unquoted false bs

pub quoted-same : (s t u v : List ℕ) → quoted s ++ u ≡ quoted t ++ v → (s ≡ t) × (u ≡ v)
quoted-same s t u v e =
    let f : (s, u) ≡ (t, v) = sym (ap behind_quote (whole s u) ∙ text-back s u) ∙ ap behind_quote e ∙ (ap behind_quote (whole t v) ∙ text-back t v) in
    (ap (λ (r : List ℕ × List ℕ). r.0) f, ap (λ (r : List ℕ × List ℕ). r.1) f)
