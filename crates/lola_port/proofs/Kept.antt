-- What reads and writes that are made again do to known bytes.
use Rattle.std.proofs.Common.{◌≡◌, ◌-◌, ℕ, List, ◌++◌, None, Some, Result, Ok, Err, sym, ap, ◌∙◌, length, take, drop, append_assoc, take-append-drop}
use Rattle.std.proofs.lemmas.List.{take_rest}
use Rattle.std.proofs.KnownBytes.{Keeps-trans}
use Rattle.std.specs.Io.KnownBytes.{Keeps, Appends, Consumes, ReadConsumes, WriteAppends}
use Rattle.std.specs.declared.option.Option.{Option}

kept_consumes : (a b c : Option (List ℕ)) (bs : List ℕ) → Keeps a b → Consumes b c bs → Consumes a c bs
kept_consumes None b c bs p q = tt
kept_consumes (Some x) None c bs p q = absurd p
kept_consumes (Some x) (Some y) None bs p q = absurd q
kept_consumes (Some x) (Some y) (Some z) bs p q = sym p ∙ q

kept_appends : (a b c : Option (List ℕ)) (bs : List ℕ) → Keeps a b → Appends b c bs → Appends a c bs
kept_appends None b c bs p q = tt
kept_appends (Some x) None c bs p q = absurd p
kept_appends (Some x) (Some y) None bs p q = absurd q
kept_appends (Some x) (Some y) (Some z) bs p q = q ∙ ap (λ l. l ++ bs) p

-- a read behind such that moved nothing
pub kept_read : {E : Type 0} (a b c : Option (List ℕ)) (r : Result ℕ E) (buf : List ℕ) → Keeps a b → ReadConsumes b c r buf → ReadConsumes a c r buf
kept_read a b c (Ok n) buf p q = (kept_consumes a b c (take n buf) p q.0, q.1)
kept_read a b c (Err e) buf p q = Keeps-trans a b c p q

-- a write behind such that took nothing
pub kept_write : {E : Type 0} (a b c : Option (List ℕ)) (r : Result ℕ E) (buf : List ℕ) → Keeps a b → WriteAppends b c r buf → WriteAppends a c r buf
kept_write a b c (Ok n) buf p q = kept_appends a b c (take n buf) p q
kept_write a b c (Err e) buf p q = Keeps-trans a b c p q

-- the next bytes are gone from the rest
pub moves_front : (all done rest : List ℕ) (n : ℕ) → all ≡ done ++ rest → all ≡ (done ++ take n rest) ++ take (length rest - n) (drop n rest)
moves_front all done rest n e =
    e ∙ ap (λ l. done ++ l) (sym (take-append-drop n rest)) ∙ sym (append_assoc done (take n rest) (drop n rest)) ∙ ap (λ l. (done ++ take n rest) ++ l) (sym (take_rest rest n))
