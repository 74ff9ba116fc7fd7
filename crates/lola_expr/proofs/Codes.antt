-- The code of each stream stands at its place.
use Rattle.std.proofs.Common.{◌≡◌, ◌∙◌, ℕ, zero, suc, ◌+◌, ◌<◌, List, [], ◌∷◌, ◌++◌, ap, sym, subst, arith, get_or, length, take}
use Rattle.std.proofs.lemmas.List.{take_more}
use Rattle.std.specs.Prelude.{slice_get}
use Rattle.lola_model.specs.declared.spec.Stream.{Stream}
use Rattle.lola_expr.specs.Plans.{AreCodes, IsCodeIn, IsStreamCode}
use Rattle.lola_expr.specs.declared.plan.EvalCode.{EvalCode}

pub code_at : (streams : List Stream) (codes : List EvalCode) (n : ℕ) (code : EvalCode) → AreCodes streams codes → code ≡ get_or codes n code → n < length streams → IsCodeIn (slice_get streams n) code
code_at [] codes n code are is less = absurd (omega arith)
code_at (s ∷ ss) [] n code are is less = absurd are
code_at (s ∷ ss) (c ∷ cs) zero code are is less = subst (IsStreamCode s) (sym is) are.0
code_at (s ∷ ss) (c ∷ cs) (suc n) code are is less = code_at ss cs n code are.1 is (omega arith)

code_behind : (streams : List Stream) (codes : List EvalCode) (s : Stream) (code : EvalCode) → AreCodes streams codes → IsStreamCode s code → AreCodes (streams ++ s ∷ []) (codes ++ code ∷ [])
code_behind [] [] s code are of = (of, tt)
code_behind [] (c ∷ cs) s code are of = absurd are
code_behind (x ∷ xs) [] s code are of = absurd are
code_behind (x ∷ xs) (c ∷ cs) s code are of = (are.0, code_behind xs cs s code are.1 of)

-- one stream more
pub one_more : (streams items : List Stream) (codes after : List EvalCode) (n : ℕ) (s : Stream) (code : EvalCode) → items ≡ streams → n < length items → s ≡ get_or items n s → AreCodes (take n streams) codes
    → IsStreamCode s code → after ≡ codes ++ code ∷ [] → AreCodes (take (n + 1) streams) after
one_more streams items codes after n s code same less is are of put =
    let within : n < length streams = let long = ap length same in omega (arith, less, long) in
    let at : s ≡ get_or streams n s = is ∙ ap (λ l. get_or l n s) same in
    let more : take (n + 1) streams ≡ take n streams ++ s ∷ [] = take_more streams n s within ∙ ap (λ x. take n streams ++ x ∷ []) (sym at) in
    subst (λ l. AreCodes l after) (sym more) (subst (AreCodes (take n streams ++ s ∷ [])) (sym put) (code_behind (take n streams) codes s code are of))
