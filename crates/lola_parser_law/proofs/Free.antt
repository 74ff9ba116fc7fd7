-- A grammar in which nestings are not counted and nothing is nested too deep. It spells the same, and whatever it spells is read:
-- so no tokens spell two values.
use Rattle.std.proofs.Common.{◌≡◌, ℕ, ◌-◌, true, false, not, List, [], ◌∷◌, ◌++◌, Ok, inl, inr, refl, sym, ◌∙◌, arith}
use Rattle.std.proofs.lemmas.Bool.{and_parts, or_parts, not-true}
use Rattle.lola_parser_grammar.specs.Syntax.{Lexeme, Terminal, Syntax, Past, Token, Nesting, Whole, Known, Then, Map, Either, Maybe, Many, Fork, Spells, clash, clashes, apart, within, first, nullable, more, is_fine, read}
use Rattle.lola_parser_grammar.specs.Nestings.{lower, least, guards, tallies, nestings_in}
use Rattle.lola_parser_grammar.proofs.Laws.{done_is}
use Rattle.lola_parser_grammar.proofs.Complete.{and_three, choice_parts, known_parts, fork_is}
use Rattle.lola_parser_grammar.proofs.Within.{complete_within}
use Rattle.lola_parser_law.proofs.PlainWithin.{perhaps_within, repeats_within}

unfoldable freed : {A : Type 0} → Syntax A → Syntax A
freed (Past a) = freed a
freed (Token k) = Token k
freed (Nesting k) = Token k
freed (Whole a) = freed a
freed (Known fs ms a) = Known fs ms (freed a)
freed (Then a b) = Then (freed a) (freed b)
freed (Map f a) = Map f (freed a)
freed (Either a b) = Either (freed a) (freed b)
freed (Maybe a) = Maybe (freed a)
freed (Many a) = Many (freed a)
freed (Fork ks a b c) = Then (freed a) (Either (freed b) (freed c))

spells_freed : {A : Type 0} (s : Syntax A) (ts : List Lexeme) (x : A) → Spells s ts x → Spells (freed s) ts x
unfolding Spells freed
spells_freed (Past a) ts x h = spells_freed a ts x h
spells_freed (Token k) ts x h = h
spells_freed (Nesting k) ts x h = h
spells_freed (Whole a) ts x h = spells_freed a ts x h
spells_freed (Known fs ms a) ts x h = spells_freed a ts x h
spells_freed (Then a b) ts x h = (h.0, h.1, h.2, spells_freed a h.0 x.0 h.3, spells_freed b h.1 x.1 h.4)
spells_freed (Map f a) ts x h = (h.0, h.1, spells_freed a ts h.0 h.2)
spells_freed (Either a b) ts x (inl h) = inl (spells_freed a ts x h)
spells_freed (Either a b) ts x (inr h) = inr (spells_freed b ts x h)
spells_freed (Maybe a) ts x h = perhaps_within (Spells a) (Spells (freed a)) (spells_freed a) ts x h
spells_freed (Many a) ts x h = repeats_within (Spells a) (Spells (freed a)) (spells_freed a) ts x h
spells_freed (Fork ks a b c) ts x (u, v, d, h, inl k) = (u, v, d, spells_freed a u x.0 h, inl (spells_freed b v x.1 k))
spells_freed (Fork ks a b c) ts x (u, v, d, h, inr k) = (u, v, d, spells_freed a u x.0 h, inr (spells_freed c v x.1 k))

-- one token ahead still tells how to go on
record Alike {A : Type 0} (s : Syntax A) : Type 0 where
  firsts : first (freed s) ≡ first s
  mores : more (freed s) ≡ more s
  empties : nullable (freed s) ≡ nullable s
  fine : is_fine (freed s) ≡ true

clashes_both : (k : Terminal) (ls ms : List Terminal) → clashes k ls ≡ false → clashes k ms ≡ false → clashes k (ls ++ ms) ≡ false
clashes_both k [] ms h i = i
clashes_both k (l ∷ ls) ms h i = let p = or_parts (clash k l) (clashes k ls) h in rw (p.0, clashes_both k ls ms p.1 i) refl

apart_both : (ks ls ms : List Terminal) → apart ks ls ≡ true → apart ks ms ≡ true → apart ks (ls ++ ms) ≡ true
apart_both [] ls ms h i = refl
apart_both (k ∷ ks) ls ms h i =
    let p = and_parts (not (clashes k ls)) (apart ks ls) h in
    let q = and_parts (not (clashes k ms)) (apart ks ms) i in
    let none = clashes_both k ls ms (not-true _ p.0) (not-true _ q.0) in
    rw (none, apart_both ks ls ms p.1 q.1) refl

alike : {A : Type 0} (s : Syntax A) → is_fine s ≡ true → Alike s
unfolding first more nullable is_fine freed
alike (Past a) h = let p = alike a h in record { firsts = p.firsts; mores = p.mores; empties = p.empties; fine = p.fine }
alike (Token k) h = record { firsts = refl; mores = refl; empties = refl; fine = refl }
alike (Nesting k) h = record { firsts = refl; mores = refl; empties = refl; fine = refl }
alike (Whole a) h = let p = alike a h in record { firsts = p.firsts; mores = p.mores; empties = p.empties; fine = p.fine }
alike (Known fs ms a) h =
    let f = known_parts (is_fine a) (nullable a) (within (first a) fs) (within (more a) ms) h in
    let p = alike a f.0 in
    record { firsts = refl; mores = refl; empties = refl; fine = rw (p.fine, p.empties, p.firsts, p.mores, f.1, f.2, f.3) refl }
alike (Then a b) h =
    let f = and_three (is_fine a) (is_fine b) (apart (more a) (first b)) h in
    let p = alike a f.0 in
    let q = alike b f.1 in
    record {
      firsts = rw (p.empties, p.firsts, q.firsts) refl;
      mores = rw (q.empties, q.mores, p.mores) refl;
      empties = rw (p.empties, q.empties) refl;
      fine = rw (p.fine, q.fine, p.mores, q.firsts, f.2) refl;
    }
alike (Map g a) h = let p = alike a h in record { firsts = p.firsts; mores = p.mores; empties = p.empties; fine = p.fine }
alike (Either a b) h =
    let f = choice_parts (is_fine a) (is_fine b) (nullable a) (nullable b) (apart (first a) (first b)) h in
    let p = alike a f.0 in
    let q = alike b f.1 in
    record {
      firsts = rw (p.firsts, q.firsts) refl;
      mores = rw (p.mores, q.mores) refl;
      empties = rw (p.empties, q.empties) refl;
      fine = rw (p.fine, q.fine, p.empties, q.empties, p.firsts, q.firsts, f.2, f.3, f.4) refl;
    }
alike (Maybe a) h =
    let f = and_parts (is_fine a) (not (nullable a)) h in
    let p = alike a f.0 in
    record { firsts = p.firsts; mores = rw (p.firsts, p.mores) refl; empties = refl; fine = rw (p.fine, p.empties, f.1) refl }
alike (Many a) h =
    let f = and_three (is_fine a) (not (nullable a)) (apart (more a) (first a)) h in
    let p = alike a f.0 in
    record { firsts = p.firsts; mores = rw (p.firsts, p.mores) refl; empties = refl; fine = rw (p.fine, p.empties, p.mores, p.firsts, f.1, f.2) refl }
alike (Fork ks a b c) h =
    let f = fork_is ks a b c h in
    let p = alike a f.head in
    let q = alike b f.one.0 in
    let r = alike c f.two.0 in
    let clear = apart_both (more a) (first b) (first c) f.one.2 f.two.2 in
    record {
      firsts = rw (p.empties, f.some, p.firsts) refl;
      mores = rw (q.empties, f.one.1, r.empties, f.two.1, q.mores, r.mores) refl;
      empties = rw (p.empties, f.some) refl;
      fine = rw (p.fine, q.fine, r.fine, q.empties, r.empties, f.one.1, f.two.1, q.firsts, r.firsts, f.clear, p.mores, clear) refl;
    }

-- ---- it counts no nestings

tallied : {A : Type 0} (s : Syntax A) → tallies [] (freed s) ≡ true
unfolding tallies freed
tallied (Past a) = tallied a
tallied (Token k) = refl
tallied (Nesting k) = refl
tallied (Whole a) = tallied a
tallied (Known fs ms a) = tallied a
tallied (Then a b) = rw (tallied a, tallied b) refl
tallied (Map f a) = tallied a
tallied (Either a b) = rw (tallied a, tallied b) refl
tallied (Maybe a) = tallied a
tallied (Many a) = tallied a
tallied (Fork ks a b c) = rw (tallied a, tallied b, tallied c) refl

guarded : {A : Type 0} (s : Syntax A) (k : ℕ) → guards k (freed s) ≡ true
unfolding guards freed
guarded (Past a) k = guarded a k
guarded (Token t) k = refl
guarded (Nesting t) k = refl
guarded (Whole a) k = guarded a k
guarded (Known fs ms a) k = guarded a k
guarded (Then a b) k = rw (guarded a k, guarded b (lower k (least (freed a)))) refl
guarded (Map f a) k = guarded a k
guarded (Either a b) k = rw (guarded a k, guarded b k) refl
guarded (Maybe a) k = guarded a k
guarded (Many a) k = guarded a k
guarded (Fork ks a b c) k = rw (guarded a k, guarded b (lower k (least (freed a))), guarded c (lower k (least (freed a)))) refl

without_nestings : (ts : List Lexeme) → nestings_in [] ts ≡ 0
without_nestings [] = refl
without_nestings (t ∷ ts) = omega (arith, without_nestings ts)

pub one_value : {A : Type 0} (s : Syntax A) → is_fine s ≡ true → (ts : List Lexeme) (x y : A) → Spells s ts x → Spells s ts y → x ≡ y
one_value {A} s fine ts x y h k = (done_is x y _ _ _ _ (sym (reads x h) ∙ reads y k)).0
  where
    reads : (z : A) → Spells s ts z → read (freed s) 0 (ts ++ []) ≡ Ok (z, 0 - nestings_in [] ts, [])
    reads z i = complete_within [] (freed s) (alike s fine).fine (tallied s) 1 (guarded s 1) 0 ts z [] (omega arith) (spells_freed s ts z i) refl (omega (arith, without_nestings ts))
