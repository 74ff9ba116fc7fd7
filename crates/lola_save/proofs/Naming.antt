-- Fields as values of a table of texts.
use Rattle.std.proofs.Common.{◌≡◌, ℕ, zero, suc, ◌+◌, ◌^◌, ◌<◌, ◌≤◌, List, [], ◌∷◌, length, map, drop, refl, subst, ap, sym, ◌∙◌, arith, Bool, true, false, ◌&&◌, Option, Some, None, get_or}
use Rattle.std.specs.Str.{is_utf8}
use Rattle.lola_value.specs.Kinds.{are_of_kinds, is_of_kind, is_text}
use Rattle.lola_value.specs.Naming.{AreHeld, IsHeld, Naming, read, text_at, the_text, the_values}
use Rattle.lola_value.specs.declared.text.Field.{Field}
use Rattle.lola_value.specs.declared.text.Field.TheVariants as field
use Rattle.lola_value.specs.declared.value.Kind.{Kind}
use Rattle.lola_value.specs.declared.value.Params.{Params}
use Rattle.lola_value.specs.declared.value.TextId.{TextId}
use Rattle.lola_value.specs.declared.value.Value.{Value}
use Rattle.lola_value.specs.declared.value.Value.TheVariants as value
use Rattle.lola_model.specs.Reading.{IsHeldBy}
use Rattle.lola_text.specs.Texts.{Gives, Interns, IsTable, Texts, number_in}
use Rattle.lola_engine.proofs.Interned.{asked, held-on, held-self}
use Rattle.lola_save_text.specs.Fitting.{are_values, is_value}
use Rattle.lola_save.specs.Loaded.{AreNamed, AreValuesOf, HasMore, HasRoom, IsNamed}

-- both of two truth values

pub left-so : (a b : Bool) → (a && b) ≡ true → a ≡ true
left-so true b h = refl
left-so false b h = h

pub right-so : (a b : Bool) → (a && b) ≡ true → b ≡ true
right-so true b h = h
right-so false b h = absurd (cc)

-- texts that are added

pub more-self : (t : Texts) → HasRoom t → HasMore t t
more-self t r = record { held = held-self t.held; room = r }

pub more-on : (a b c : Texts) → HasMore a b → HasMore b c → HasMore a c
more-on a b c f g = record { held = held-on a.held b.held c.held f.held g.held; room = g.room }

gives-few : (o : Option ℕ) (text : List ℕ) (id : ℕ) (old new : Texts) → Gives o text id old new → old.given ≤ 2 ^ 61 → id < 2 ^ 61 → new.given ≤ 2 ^ 61
gives-few (Some n) text id old new g few lt = let e : new.given ≡ old.given = ap (λ (t : Texts). t.given) g.1 in omega (arith, e, few)
gives-few None text id old new g few lt =
    let e : new.given ≡ old.given + 1 = ap (λ (t : Texts). t.given) g.1 in
    let at : id ≡ old.given = g.0 in
    omega (arith, e, at, lt)

pub text-there : (text : List ℕ) (id : ℕ) (old new : Texts) → HasRoom old → Interns text id old new → text_at new.held id ≡ Some text
text-there text id old new r is = (asked text id old new r.table is).there

pub text-more : (text : List ℕ) (id : ℕ) (old new : Texts) → HasRoom old → IsTable new → Interns text id old new → id < 2 ^ 61 → HasMore old new
text-more text id old new r table is lt =
    record { held = (asked text id old new r.table is).held; room = record { table = table; few = gives-few (number_in old.held text) text id old new is r.few lt } }

-- what is read through a naming is read so through each that has its texts

pub read-on : (names more : Naming) (v : Value) → IsHeldBy names more → IsHeld names v → read more v ≡ read names v
read-on names more (value.Bool b) h i = refl
read-on names more (value.Int z) h i = refl
read-on names more (value.Text id) h i = ap the_text (h id.0 i.0 i.1 ∙ sym i.1)

pub is-held-on : (names more : Naming) (v : Value) → IsHeldBy names more → IsHeld names v → IsHeld more v
is-held-on names more (value.Bool b) h i = tt
is-held-on names more (value.Int z) h i = tt
is-held-on names more (value.Text id) h i = (i.0, h id.0 i.0 i.1)

pub reads-on : (names more : Naming) (vs : List Value) → IsHeldBy names more → AreHeld names vs → map (read more) vs ≡ map (read names) vs
reads-on names more [] h a = refl
reads-on names more (v ∷ vs) h a =
    let one = read-on names more v h a.0 in
    let others = reads-on names more vs h a.1 in
    λ j. one j ∷ others j

pub are-held-on : (names more : Naming) (vs : List Value) → IsHeldBy names more → AreHeld names vs → AreHeld more vs
are-held-on names more [] h a = tt
are-held-on names more (v ∷ vs) h a = (is-held-on names more v h a.0, are-held-on names more vs h a.1)

pub values-on : (names more : Naming) (fs : List Field) (vs : List Value) → IsHeldBy names more → AreValuesOf names fs vs → AreValuesOf more fs vs
values-on names more fs vs h a = record { reads = reads-on names more vs h a.held ∙ a.reads; held = are-held-on names more vs h a.held }

pub params-on : (names more : Naming) (ks : List Kind) (fs : List Field) (p : Params) → IsHeldBy names more → AreNamed names ks fs p → AreNamed more ks fs p
params-on names more ks fs p h a = record { reads = reads-on names more (the_values p) h a.held ∙ a.reads; held = are-held-on names more (the_values p) h a.held; kinds = a.kinds }

-- a field as a value

module _ (names : Naming) (k : Kind) (f : Field) where
  pub absent-named : (v : Value) → f ≡ field.Absent → is_value k f ≡ true → IsNamed names k f v
  absent-named v e h = let no : false ≡ true = ap (is_value k) (sym e) ∙ h in absurd (cc)

  pub bool-named : (b : Bool) → f ≡ field.Bool b → is_value k f ≡ true → IsNamed names k f (value.Bool b)
  bool-named b e h = record { reads = sym e; held = tt; kind = ap (is_value k) (sym e) ∙ h }

  pub int-named : (z : _) → f ≡ field.Int z → is_value k f ≡ true → IsNamed names k f (value.Int z)
  int-named z e h = record { reads = sym e; held = tt; kind = ap (is_value k) (sym e) ∙ h }

  pub text-named : (t bytes : List ℕ) (id : TextId) → f ≡ field.Text t → bytes ≡ t → text_at names id.0 ≡ Some bytes → is_value k f ≡ true → IsNamed names k f (value.Text id)
  text-named t bytes id e same at h =
      record {
        reads = ap the_text at ∙ ap field.Text same ∙ sym e;
        held = (bytes, at);
        kind = left-so (is_text k) (is_utf8 t) (ap (is_value k) (sym e) ∙ h);
      }

-- fields as parameters, from the last on

pub record AreNamedFrom (names : Naming) (fields : List Field) (left : ℕ) (p : Params) : Type 0 where
  pub count : p.count + left ≡ length fields
  pub named : (ks : List Kind) → are_values ks (drop left fields) ≡ true → AreNamed names ks (drop left fields) p

drop-all : {X : Type 0} (xs : List X) → drop (length xs) xs ≡ []
drop-all [] = refl
drop-all (x ∷ xs) = drop-all xs

drop-one : {X : Type 0} (xs : List X) (i : ℕ) (x d : X) → i < length xs → x ≡ get_or xs i d → drop i xs ≡ x ∷ drop (i + 1) xs
drop-one [] i x d lt e = absurd (omega arith)
drop-one (y ∷ xs) zero x d lt e = ap (λ z. z ∷ xs) (sym e)
drop-one (y ∷ xs) (suc i) x d lt e = drop-one xs i x d (omega arith) e ∙ (let n : suc (i + 1) ≡ suc i + 1 = omega arith in ap (λ (m : ℕ). x ∷ drop m (y ∷ xs)) n)

none-named : (names : Naming) (p : Params) → the_values p ≡ [] → (ks : List Kind) → are_values ks [] ≡ true → AreNamed names ks [] p
none-named names p e [] h = record { reads = ap (map (read names)) e; held = subst (λ vs. AreHeld names vs) (sym e) tt; kinds = ap (are_of_kinds []) e }
none-named names p e (k ∷ ks) h = absurd (cc)

pub named-none : (names : Naming) (fields : List Field) (p : Params) → the_values p ≡ [] → p.count ≡ 0 → AreNamedFrom names fields (length fields) p
named-none names fields p e n = record {
  count = omega (arith, n);
  named = subst (λ fs. (ks : List Kind) → are_values ks fs ≡ true → AreNamed names ks fs p) (sym (drop-all fields)) (none-named names p e);
}

module _ (names more : Naming) (on : IsHeldBy names more) (f : Field) (fs : List Field) (v : Value) (p q : Params) (one : (k : Kind) → is_value k f ≡ true → IsNamed more k f v)
    (others : (ks : List Kind) → are_values ks fs ≡ true → AreNamed names ks fs p) (led : the_values q ≡ v ∷ the_values p) where
  named-led : (ks : List Kind) → are_values ks (f ∷ fs) ≡ true → AreNamed more ks (f ∷ fs) q
  named-led [] h = absurd (cc)
  named-led (k ∷ ks) h =
      let a = one k (left-so (is_value k f) (are_values ks fs) h) in
      let b = params-on names more ks fs p on (others ks (right-so (is_value k f) (are_values ks fs) h)) in
      record {
        reads = ap (map (read more)) led ∙ (λ j. a.reads j ∷ b.reads j);
        held = subst (λ vs. AreHeld more vs) (sym led) (a.held, b.held);
        kinds = ap (are_of_kinds (k ∷ ks)) led ∙ both (is_of_kind k v) (are_of_kinds ks (the_values p)) a.kind b.kinds;
      }
    where
      both : (x y : Bool) → x ≡ true → y ≡ true → (x && y) ≡ true
      both true y e g = g
      both false y e g = absurd (cc)

pub named-more : (names more : Naming) (fields : List Field) (i left : ℕ) (f d : Field) (v : Value) (p q : Params) → IsHeldBy names more → left + 1 ≡ i → i ≤ length fields → f ≡ get_or fields left d
    → ((k : Kind) → is_value k f ≡ true → IsNamed more k f v) → the_values q ≡ v ∷ the_values p → q.count ≡ p.count + 1 → AreNamedFrom names fields i p → AreNamedFrom more fields left q
named-more names more fields i left f d v p q on n le e one led count h =
    let split : drop left fields ≡ f ∷ drop (left + 1) fields = drop-one fields left f d (omega arith) e in
    let others = subst (λ (m : ℕ). (ks : List Kind) → are_values ks (drop m fields) ≡ true → AreNamed names ks (drop m fields) p) (sym n) h.named in
    record {
      count = let c = h.count in omega (arith, c, count, n);
      named = subst (λ fs. (ks : List Kind) → are_values ks fs ≡ true → AreNamed more ks fs q) (sym split) (named-led names more on f (drop (left + 1) fields) v p q one others led);
    }
