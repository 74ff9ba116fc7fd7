-- Parameters whose words are in no table are those of no instance that is spelled in it.
use Rattle.std.proofs.Common.{◌≡◌, ◌∷◌, ℕ, ◌++◌, List, [], Bool, true, false, not, Vec, if◌then◌else◌, refl, sym, ap, ◌∙◌, nat_eq}
use Rattle.std.specs.Prelude.{◌||◌}
use Rattle.std.specs.List.{list_all, list_any}
use Rattle.std.specs.Cmp.Lexicographic.{pointwise}
use Rattle.std.specs.declared.alloc.Global.{Global}
use Rattle.std.proofs.lemmas.Bool.{and_from, and_parts}
use Rattle.std.proofs.lemmas.List.Folds.{list_any-append}
use Rattle.lola_value.specs.Arithmetic.{all_equal, bytes_equal}
use Rattle.lola_value.specs.declared.text.Field.{Field}
use Rattle.lola_model.proofs.Lookups.{bytes_equal-same}
use Rattle.lola_model.proofs.Orderly.{all_exact}
use Rattle.lola_save_text.specs.Fitting.{is_among}
use Rattle.lola_save_text.specs.Lines.{values_text}
use Rattle.lola_save_read.specs.Spelled.{AreSpelled, has_words, is_spelled, with_words, words_in}

abbrev Key : Type 0
Key = Vec ℕ Global

-- the keys of a table

pub words-found : (words : List ℕ) (ks : List Key) → has_words (words_in ks) words ≡ list_any (λ (k : Key). pointwise nat_eq words k.items) ks
words-found words [] = refl
words-found words (k ∷ ks) = ap (λ b. bytes_equal words k.items || b) (words-found words ks)

pub words-pushed : (ks : List Key) (k : Key) → words_in (ks ++ k ∷ []) ≡ words_in ks ++ k.items ∷ []
words-pushed [] k = refl
words-pushed (x ∷ ks) k = ap (λ (l : List (List ℕ)). x.items ∷ l) (words-pushed ks k)

pub words-put : (ks : List Key) (k : Key) → words_in (if list_any (λ (x : Key). pointwise nat_eq k.items x.items) ks then ks else (ks ++ k ∷ [])) ≡ with_words (words_in ks) k.items
words-put ks k =
    by (list_any (λ (x : Key). pointwise nat_eq k.items x.items) ks)
    ∙ ap (λ b. if b then words_in ks else (words_in ks ++ k.items ∷ [])) (sym (words-found k.items ks))
  where
    by : (b : Bool) → words_in (if b then ks else (ks ++ k ∷ [])) ≡ (if b then words_in ks else (words_in ks ++ k.items ∷ []))
    by true = refl
    by false = words-pushed ks k

-- words that are put

or-right : (b : Bool) → (b || true) ≡ true
or-right true = refl
or-right false = refl

pub put-there : (table : List (List ℕ)) (words : List ℕ) → has_words (with_words table words) words ≡ true
put-there table words = by (has_words table words) refl
  where
    by : (b : Bool) → has_words table words ≡ b → has_words (if b then table else (table ++ words ∷ [])) words ≡ true
    by true e = e
    by false e =
        list_any-append (bytes_equal words) table (words ∷ [])
        ∙ ap (λ b. has_words table words || (b || false)) (bytes_equal-same words) ∙ or-right (has_words table words)

pub put-keeps : (table : List (List ℕ)) (words others : List ℕ) → has_words table others ≡ true → has_words (with_words table words) others ≡ true
put-keeps table words others e = by (has_words table words)
  where
    by : (b : Bool) → has_words (if b then table else (table ++ words ∷ [])) others ≡ true
    by true = e
    by false = list_any-append (bytes_equal others) table (words ∷ []) ∙ ap (λ b. b || list_any (bytes_equal others) (words ∷ [])) e

-- parameters

all-kept : (table : List (List ℕ)) (words : List ℕ) (seen : List (List Field)) → list_all (is_spelled table) seen ≡ true → list_all (is_spelled (with_words table words)) seen ≡ true
all-kept table words [] e = refl
all-kept table words (p ∷ seen) e =
    let h = and_parts (is_spelled table p) (list_all (is_spelled table) seen) e in
    and_from (is_spelled (with_words table words) p) (list_all (is_spelled (with_words table words)) seen) (put-keeps table words (values_text p) h.0) (all-kept table words seen h.1)

pub none-spelled : (table : List (List ℕ)) → AreSpelled table []
none-spelled table = record { each = refl }

pub spelled-more : (table : List (List ℕ)) (words : List ℕ) (p : List Field) (seen : List (List Field)) → words ≡ values_text p → AreSpelled table seen → AreSpelled (with_words table words) (p ∷ seen)
spelled-more table words p seen same s =
    record {
      each = and_from (is_spelled (with_words table words) p) (list_all (is_spelled (with_words table words)) seen)
          (ap (has_words (with_words table words)) (sym same) ∙ put-there table words) (all-kept table words seen s.each);
    }

none-among : (table : List (List ℕ)) (p : List Field) (seen : List (List Field)) → list_all (is_spelled table) seen ≡ true → is_spelled table p ≡ false → is_among p seen ≡ false
none-among table p [] e f = refl
none-among table p (q ∷ seen) e f =
    let h = and_parts (is_spelled table q) (list_all (is_spelled table) seen) e in
    by h.0 (none-among table p seen h.1 f) (all_equal p q) refl
  where
    by : is_spelled table q ≡ true → is_among p seen ≡ false → (b : Bool) → all_equal p q ≡ b → is_among p (q ∷ seen) ≡ false
    by there others true g = let x : false ≡ true = sym f ∙ ap (is_spelled table) (all_exact p q g) ∙ there in absurd (cc x)
    by there others false g = ap (λ b. b || is_among p seen) g ∙ others

-- where the words are new the parameters are

not-not : (b : Bool) → not b ≡ true → b ≡ false
not-not true e = absurd (cc e)
not-not false e = refl

pub new-words : (table : List (List ℕ)) (words : List ℕ) (p : List Field) (seen : List (List Field)) → words ≡ values_text p → AreSpelled table seen → not (has_words table words) ≡ true → true ≡ not (is_among p seen)
new-words table words p seen same s fresh =
    sym (ap not (none-among table p seen s.each (ap (has_words table) (sym same) ∙ not-not (has_words table words) fresh)))
