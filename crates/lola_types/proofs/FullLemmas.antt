-- Lists that are filled in, one element after another.
use Rattle.std.proofs.Common.{ℕ, suc, ◌+◌, ◌<◌, ◌≡◌, refl, ap, sym, ◌∙◌, subst, List, [], ◌∷◌, ◌++◌, Option, Some, None, length, drop, get_or, slice_get, unwrap_or, drop-cons, add-one, append_assoc}
use Rattle.lola_value.specs.declared.front.Refusal.{Refusal}
use Rattle.lola_value.specs.declared.value.Kind.{Kind}
use Rattle.lola_value.specs.declared.value.Kind.TheVariants as kind
use Rattle.lola_model.specs.Refusals.{first_of, IsFirstOf}
use Rattle.lola_model.proofs.FirstRefusal.{is_first}
use Rattle.lola_model.specs.declared.expr.Expr.{Expr}
use Rattle.lola_model.specs.declared.spec.Stream.{Stream}
use Rattle.lola_types.specs.Found.{Setting}
use Rattle.lola_types.specs.Filled.{SameTree, filled_whole, FilledWith, FilledStream, FilledStreams}
use Rattle.lola_types.proofs.WholeLemmas.{get_of_drop, drop_of_drop}

at_place : {X : Type 0} (xs : List X) (i : ℕ) (x : X) → i < length xs → x ≡ get_or xs i x → drop i xs ≡ x ∷ drop (suc i) xs
at_place xs i x h e = drop-cons xs i x h ∙ ap (λ z. z ∷ drop (suc i) xs) (sym e)

next_place : {X : Type 0} (i : ℕ) (xs : List X) → drop (i + 1) xs ≡ drop 1 (drop i xs)
next_place i xs = ap (λ z. drop z xs) (add-one i) ∙ sym (drop_of_drop i xs)

pub with_filled : (s : Setting) (wants : List Kind) (es made : List Expr) (i : ℕ) (e f : Expr) → i < length es → e ≡ get_or es i e
    → SameTree (filled_whole s (unwrap_or (slice_get wants i) kind.Int64) e) f
    → ((rest : List Expr) → FilledWith s (drop i wants) (drop i es) rest → FilledWith s wants es (made ++ rest))
    → (rest : List Expr) → FilledWith s (drop (i + 1) wants) (drop (i + 1) es) rest → FilledWith s wants es ((made ++ f ∷ []) ++ rest)
with_filled s wants es made i e f h g t before rest r =
    let head : SameTree (filled_whole s (unwrap_or (slice_get (drop i wants) 0) kind.Int64) e) f = subst (λ z. SameTree (filled_whole s (unwrap_or z kind.Int64) e) f) (sym (get_of_drop i wants)) t in
    let more : FilledWith s (drop 1 (drop i wants)) (drop (suc i) es) rest =
    subst (λ z. FilledWith s z (drop (suc i) es) rest) (next_place i wants) (subst (λ z. FilledWith s (drop (i + 1) wants) (drop z es) rest) (add-one i) r) in
    let all : FilledWith s (drop i wants) (drop i es) (f ∷ rest) = subst (λ z. FilledWith s (drop i wants) z (f ∷ rest)) (sym (at_place es i e h g)) (head, more) in
    subst (λ z. FilledWith s wants es z) (sym (append_assoc made (f ∷ []) rest)) (before (f ∷ rest) all)

pub stream_filled : (s : Setting) (kinds : List (Option Kind)) (ss made : List Stream) (i : ℕ) (a b : Stream) → i < length ss → a ≡ get_or ss i a
    → FilledStream s (unwrap_or (unwrap_or (slice_get kinds i) None) kind.Int64) a b
    → ((rest : List Stream) → FilledStreams s (drop i kinds) (drop i ss) rest → FilledStreams s kinds ss (made ++ rest))
    → (rest : List Stream) → FilledStreams s (drop (i + 1) kinds) (drop (i + 1) ss) rest → FilledStreams s kinds ss ((made ++ b ∷ []) ++ rest)
stream_filled s kinds ss made i a b h g t before rest r =
    let head : FilledStream s (unwrap_or (unwrap_or (slice_get (drop i kinds) 0) None) kind.Int64) a b = subst (λ z. FilledStream s (unwrap_or (unwrap_or z None) kind.Int64) a b) (sym (get_of_drop i kinds)) t in
    let more : FilledStreams s (drop 1 (drop i kinds)) (drop (suc i) ss) rest =
    subst (λ z. FilledStreams s z (drop (suc i) ss) rest) (next_place i kinds) (subst (λ z. FilledStreams s (drop (i + 1) kinds) (drop z ss) rest) (add-one i) r) in
    let all : FilledStreams s (drop i kinds) (drop i ss) (b ∷ rest) = subst (λ z. FilledStreams s (drop i kinds) z (b ∷ rest)) (sym (at_place ss i a h g)) (head, more) in
    subst (λ z. FilledStreams s kinds ss z) (sym (append_assoc made (b ∷ []) rest)) (before (b ∷ rest) all)

pub none_refused : (found : List Refusal) → first_of found ≡ None → found ≡ []
none_refused found e = subst (λ z. IsFirstOf found z) e (is_first found)

pub nothing_more : {X : Type 0} (xs : List X) → xs ++ [] ≡ xs
nothing_more [] = refl
nothing_more (x ∷ xs) = ap (λ z. x ∷ z) (nothing_more xs)
