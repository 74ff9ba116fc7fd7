-- The code of an expression leads to what it means, from anything in hand and any stack.
use Rattle.std.proofs.Common.{◌≡◌, ℕ, zero, suc, ◌+◌, ◌≤◌, refl, sym, ap, ◌∙◌, subst, arith, true, false, List, [], ◌∷◌, ◌++◌, length, drop, reverse, Option, Some, None, append_assoc, append-nil, drop_at}
use Rattle.std.proofs.lemmas.List.{reverse-append, reverse-reverse, length-reverse, take_at}
use Rattle.lola_value.specs.declared.value.Kind.{Kind}
use Rattle.lola_value.specs.declared.value.Value.{Value}
use Rattle.lola_value.specs.declared.value.Value.TheVariants as value
use Rattle.lola_value.specs.declared.value.Outcome.{Outcome}
use Rattle.lola_value.specs.declared.value.Outcome.TheVariants as outcome
use Rattle.lola_value.specs.declared.value.Params.{Params}
use Rattle.lola_value.specs.Kinds.{are_of_kinds}
use Rattle.lola_model.specs.Denotation.{kind_of}
use Rattle.lola_model.specs.Store.{Memories, Seen}
use Rattle.lola_model.specs.Typing.{can_ask, can_ask_all, count_of, part_can_ask}
use Rattle.lola_model.specs.declared.expr.Access.{Access}
use Rattle.lola_model.specs.declared.expr.Access.TheVariants as access
use Rattle.lola_model.specs.declared.expr.Arguments.{Arguments}
use Rattle.lola_model.specs.declared.expr.Arguments.TheVariants.{End, More'}
use Rattle.lola_model.specs.declared.expr.Binary.{Binary}
use Rattle.lola_model.specs.declared.expr.Binary.TheVariants as binary
use Rattle.lola_model.specs.declared.expr.Expr.{Expr}
use Rattle.lola_model.specs.declared.expr.Expr.TheVariants.{Literal, Parameter, Read, Window, Defaults', Unary', Both', Choice'}
use Rattle.lola_model.specs.declared.expr.Place.{Place}
use Rattle.lola_model.specs.declared.expr.Prefix.{Prefix}
use Rattle.lola_value.specs.Shorts.{short_of, value_in, widened}
use Rattle.lola_value.specs.declared.short.Short.{Short}
use Rattle.lola_expr.specs.Operands.{decides}
use Rattle.lola_expr.specs.declared.instr.Instr.{Instr}
use Rattle.lola_expr.specs.declared.instr.Instr.TheVariants as instr
use Rattle.lola_expr.specs.declared.compile.Target.{Target}
use Rattle.lola_expr.specs.declared.compile.Target.TheVariants as target
use Rattle.lola_expr.specs.Code.{asking, back_arguments, back_code, code_of, defaulted_of, direct_of, giving, joining, literal_of, plain_of, plainly, plainly_or, reading, operator_plainly_or, together, with_argument, with_branches, with_default, with_operands, with_operator}
use Rattle.lola_expr.specs.Machine.{Asked, AskedOf, Folded, Leads, or_short, top}
use Rattle.lola_expr.proofs.Parts.{both_facts, choice_facts, defaults_facts, each_more, read_facts, unary_facts, window_facts}
use Rattle.lola_expr.proofs.Shorts.{is_wide, the_value}
use Rattle.lola_expr.proofs.Means.{Around, Means, MeansAll, MeansNone, as_many, decided_means, end_means, false_means, first_means, goes_on_means, here_means, later_means, left_none, left_truth, literal_means, more_means, negated_means, operand_none, operand_taken, operands_taken, operated_means, parameter_means, read_means, read_none, right_none, second_means, test_none, test_truth, true_means, window_means, window_none}

-- code that was made from its end, turned round
turned : (xs : List Instr) (i : Instr) (ys rest : List Instr) → reverse (xs ++ i ∷ ys) ++ rest ≡ reverse ys ++ (i ∷ (reverse xs ++ rest))
turned xs i ys rest =
    let e = reverse-append xs (i ∷ ys) in
    let f = reverse-append (i ∷ []) ys in
    let all : reverse (xs ++ i ∷ ys) ++ rest ≡ ((reverse ys ++ i ∷ []) ++ reverse xs) ++ rest = ap (λ l. l ++ rest) (e ∙ ap (λ l. l ++ reverse xs) f) in
    all ∙ append_assoc (reverse ys ++ i ∷ []) (reverse xs) rest ∙ append_assoc (reverse ys) (i ∷ []) (reverse xs ++ rest)

-- values that were put on a stack one after another
onto : (v : Value) (vs st : List Value) → reverse (v ∷ vs) ++ st ≡ reverse vs ++ (v ∷ st)
onto v vs st =
    let e : reverse (v ∷ vs) ≡ reverse vs ++ v ∷ [] = reverse-append (v ∷ []) vs in
    ap (λ l. l ++ st) e ∙ append_assoc (reverse vs) (v ∷ []) st

-- are those at its top
tops : (vs st : List Value) (k : ℕ) → length vs ≡ k → top k (reverse vs ++ st) ≡ vs
tops vs st k e = ap reverse (take_at (reverse vs) st k (length-reverse vs ∙ e)) ∙ reverse-reverse vs

-- and what is left without them is what was there before
dropped : (ws st : List Value) (k : ℕ) → length ws ≡ k → drop k (ws ++ st) ≡ st
dropped ws st k e = drop_at ws st k e

-- no values are of no kinds
no_kinds : (ks : List Kind) → are_of_kinds ks [] ≡ true → ks ≡ []
no_kinds [] h = refl
no_kinds (k ∷ ks) h = absurd (cc)

-- a plain access
record IsPlain (e : Expr) (q : ℕ × Access) : Type 0 where
  place : Place
  is : e ≡ Read place q.0 q.1 End

is_plain : (e : Expr) (q : ℕ × Access) → plain_of e ≡ Some q → IsPlain e q
is_plain (Literal place v) q h = absurd (cc)
is_plain (Parameter place i) q h = absurd (cc)
is_plain (Read place n how End) q h = let e : (n, how) ≡ q = cc in record { place = place; is = ap (λ (x : ℕ × Access). Read place x.0 x.1 End) e }
is_plain (Read place n how (More' u a v rest)) q h = absurd (cc)
is_plain (Window place n args) q h = absurd (cc)
is_plain (Defaults' place u a v b) q h = absurd (cc)
is_plain (Unary' place operator u a) q h = absurd (cc)
is_plain (Both' place operator u a v b) q h = absurd (cc)
is_plain (Choice' place u a v b w d) q h = absurd (cc)

-- a direct access
record IsDirect (e : Expr) (n : ℕ) : Type 0 where
  place : Place
  is : e ≡ Read place n access.Direct End

is_direct : (e : Expr) (n : ℕ) → direct_of e ≡ Some n → IsDirect e n
is_direct (Literal place v) n h = absurd (cc)
is_direct (Parameter place i) n h = absurd (cc)
is_direct (Read place m access.Direct End) n h = let e : m ≡ n = cc in record { place = place; is = ap (λ m. Read place m access.Direct End) e }
is_direct (Read place m access.Get End) n h = absurd (cc)
is_direct (Read place m access.Hold End) n h = absurd (cc)
is_direct (Read place m (access.Offset k) End) n h = absurd (cc)
is_direct (Read place m how (More' u a v rest)) n h = absurd (cc)
is_direct (Window place m args) n h = absurd (cc)
is_direct (Defaults' place u a v b) n h = absurd (cc)
is_direct (Unary' place operator u a) n h = absurd (cc)
is_direct (Both' place operator u a v b) n h = absurd (cc)
is_direct (Choice' place u a v b w d) n h = absurd (cc)

-- a literal
record IsLiteral (e : Expr) (v : Short) : Type 0 where
  place : Place
  is : e ≡ Literal place (value_in v)
  wide : widened v ≡ outcome.Value (value_in v)

is_literal : (e : Expr) (v : Short) → literal_of e ≡ Some v → IsLiteral e v
is_literal (Literal place w) v h =
    let wide : widened v ≡ outcome.Value w = is_wide w v h in
    let same : value_in v ≡ w = the_value v w wide in
    record { place = place; is = ap (λ x. Literal place x) (sym same); wide = wide ∙ ap (λ x. outcome.Value x) (sym same) }
is_literal (Parameter place i) v h = absurd (cc)
is_literal (Read place n how args) v h = absurd (cc)
is_literal (Window place n args) v h = absurd (cc)
is_literal (Defaults' place u a w b) v h = absurd (cc)
is_literal (Unary' place operator u a) v h = absurd (cc)
is_literal (Both' place operator u a w b) v h = absurd (cc)
is_literal (Choice' place u a w b x d) v h = absurd (cc)

-- a plain access with a literal for a default
record IsDefaulted (e : Expr) (d : ℕ × (Access × Short)) : Type 0 where
  place : Place
  u : Around
  v : Around
  a : Expr
  b : Expr
  is : e ≡ Defaults' place u a v b
  plain : IsPlain a (d.0, d.1.0)
  literal : IsLiteral b d.1.1

is_defaulted : (e : Expr) (d : ℕ × (Access × Short)) → defaulted_of e ≡ Some d → IsDefaulted e d
is_defaulted (Literal place w) d h = absurd (cc)
is_defaulted (Parameter place i) d h = absurd (cc)
is_defaulted (Read place n how args) d h = absurd (cc)
is_defaulted (Window place n args) d h = absurd (cc)
is_defaulted (Unary' place operator u a) d h = absurd (cc)
is_defaulted (Both' place operator u a w b) d h = absurd (cc)
is_defaulted (Choice' place u a w b x c) d h = absurd (cc)
is_defaulted (Defaults' place u a w b) d h = by_parts (plain_of a) (literal_of b) refl refl h
  where
    by_parts : (q : Option (ℕ × Access)) (x : Option Short) → plain_of a ≡ q → literal_of b ≡ x → together q x ≡ Some d → IsDefaulted (Defaults' place u a w b) d
    by_parts (Some q) (Some x) l t h =
        let e : (q.0, (q.1, x)) ≡ d = cc in
        subst (IsDefaulted (Defaults' place u a w b)) e (record { place = place; u = u; v = w; a = a; b = b; is = refl; plain = is_plain a q l; literal = is_literal b x t })
    by_parts (Some q) None l t h = absurd (cc)
    by_parts None (Some x) l t h = absurd (cc)
    by_parts None None l t h = absurd (cc)

module _ (remembers : Memories) (s : Seen) (p : Params) (wanted : Outcome → Type 0) where
  abbrev Goes : List Instr → ℕ → Outcome → List Value → Type 0
  Goes is n o st = Leads remembers s p wanted is n o st

  abbrev IsMeant : Expr → Outcome → Type 0
  IsMeant e r = Means remembers s p e r

  -- as many instructions are passed as there are, and k more
  passed : (is rest : List Instr) (k m : ℕ) (o : Outcome) (st : List Value) → m ≡ length is + k → Goes rest k o st → Goes (is ++ rest) m o st
  passed [] rest k m o st e h = let d : k ≡ m = omega (arith, e) in subst (λ n. Goes rest n o st) d h
  passed (i ∷ is) rest k zero o st e h = absurd (omega (arith, e))
  passed (i ∷ is) rest k (suc m) o st e h = passed is rest k m o st (omega (arith, e)) h

  -- the same of code that is turned round
  past : (xs rest : List Instr) (k m : ℕ) (o : Outcome) (st : List Value) → m ≡ length xs + k → Goes rest k o st → Goes (reverse xs ++ rest) m o st
  past xs rest k m o st e h = passed (reverse xs) rest k m o st (omega (arith, e, length-reverse xs)) h

  -- code that leads to what an expression means, from anything in hand and any stack
  abbrev Gives : List Instr → Expr → Type 0
  Gives xs e = (rest : List Instr) (o : Outcome) (st : List Value) → ((r : Outcome) → IsMeant e r → Goes rest 0 r st) → Goes (reverse xs ++ rest) 0 o st

  -- code that asks with what arguments mean, behind as many as there are already
  abbrev GivesAll : Target → ℕ → List Instr → Arguments → Type 0
  GivesAll t k xs args =
      (ws : List Value) (rest : List Instr) (o : Outcome) (st : List Value) → length ws ≡ k
      → ((vs : List Value) (hand : Outcome) → MeansAll remembers s p args vs → Goes (asking t (k + count_of args) ∷ rest) 0 hand (reverse vs ++ (ws ++ st)))
      → ((r : Outcome) → MeansNone remembers s p args r → Goes rest 0 r st)
      → Goes (reverse xs ++ rest) 0 o (ws ++ st)

  -- one instruction behind code
  behind : (i : Instr) (xs : List Instr) (e : Expr) (rest : List Instr) (o : Outcome) (st : List Value) → Gives xs e
      → ((r : Outcome) → IsMeant e r → Goes (i ∷ rest) 0 r st) → Goes (reverse (i ∷ xs) ++ rest) 0 o st
  behind i xs e rest o st g h = subst (λ l. Goes l 0 o st) (sym (turned [] i xs rest)) (g (i ∷ rest) o st h)

  -- one instruction between two pieces of code
  between : (xs : List Instr) (i : Instr) (ys : List Instr) (e : Expr) (rest : List Instr) (o : Outcome) (st : List Value) → Gives ys e
      → ((r : Outcome) → IsMeant e r → Goes (i ∷ (reverse xs ++ rest)) 0 r st) → Goes (reverse (xs ++ i ∷ ys) ++ rest) 0 o st
  between xs i ys e rest o st g h = subst (λ l. Goes l 0 o st) (sym (turned xs i ys rest)) (g (i ∷ (reverse xs ++ rest)) o st h)

  -- arguments

  end_gives : (t : Target) (k : ℕ) → GivesAll t k (asking t k ∷ []) End
  end_gives t k ws rest o st e ok err =
      let d : k + 0 ≡ k = omega arith in
      subst (λ n. Goes (asking t n ∷ rest) 0 o (ws ++ st)) d (ok [] o (end_means remembers s p))

  more_gives : (t : Target) (k : ℕ) (u w : Around) (a : Expr) (more : Arguments) (xs ys : List Instr) → Gives ys a → GivesAll t (k + 1) xs more
      → GivesAll t k (with_argument ys k xs) (More' u a w more)
  more_gives t k u w a more xs ys g all ws rest o st e ok err =
      between xs (instr.KeepArgument (length xs) k) ys a rest o (ws ++ st) g kept
    where
      count : (k + 1) + count_of more ≡ k + (count_of more + 1)
      count = omega arith

      none : (r : Outcome) → ((v : Value) → r ≡ outcome.Value v → ⊥) → IsMeant a r → Goes (reverse xs ++ rest) (length xs) r (drop k (ws ++ st))
      none r ne d = past xs rest 0 (length xs) r (drop k (ws ++ st)) (omega arith)
          (subst (λ l. Goes rest 0 r l) (sym (dropped ws st k e)) (err r (here_means remembers s p u w a more r ne d)))

      kept : (r : Outcome) → IsMeant a r → Goes (instr.KeepArgument (length xs) k ∷ (reverse xs ++ rest)) 0 r (ws ++ st)
      kept (outcome.Value v) d =
          all (v ∷ ws) rest (outcome.Value v) st (omega (arith, e))
          (λ vs hand m.
          subst (λ l. Goes (asking t ((k + 1) + count_of more) ∷ rest) 0 hand l) (onto v vs (ws ++ st))
          (subst (λ n. Goes (asking t n ∷ rest) 0 hand (reverse (v ∷ vs) ++ (ws ++ st))) (sym count) (ok (v ∷ vs) hand (more_means remembers s p u w a more v vs d m))))
          (λ r m. err r (later_means remembers s p u w a more v r d m))
      kept outcome.Missing d = none outcome.Missing (λ v q. absurd (cc)) d
      kept (outcome.Fault f) d = none (outcome.Fault f) (λ v q. absurd (cc)) d
      kept outcome.Poison d = none outcome.Poison (λ v q. absurd (cc)) d

  -- the value at this step is what `get` answers too
  as_now : (n : ℕ) (next : Outcome → Type 0) → Asked remembers s n access.Get next → Asked remembers s n access.Direct next
  as_now n next h = (h.0, h.1, h.2, λ r a. h.3 r (record { value = a.value; kind = a.kind }))

  -- a stream without parameters is read by the instruction of the access's own sort
  plainly_leads : (n : ℕ) (how : Access) (rest : List Instr) (hand : Outcome) (st : List Value) → Asked remembers s n how (λ r. Goes rest 0 r st) → Goes (plainly n how ∷ rest) 0 hand st
  plainly_leads n access.Direct rest hand st h = h
  plainly_leads n access.Get rest hand st h = as_now n (λ r. Goes rest 0 r st) h
  plainly_leads n access.Hold rest hand st h = h
  plainly_leads n (access.Offset k) rest hand st h = h

  plainly_or_leads : (n : ℕ) (how : Access) (v : Short) (rest : List Instr) (hand : Outcome) (st : List Value) → Asked remembers s n how (λ r. Goes rest 0 (or_short r v) st)
      → Goes (plainly_or n how v ∷ rest) 0 hand st
  plainly_or_leads n access.Direct v rest hand st h = h
  plainly_or_leads n access.Get v rest hand st h = as_now n (λ r. Goes rest 0 (or_short r v) st) h
  plainly_or_leads n access.Hold v rest hand st h = h
  plainly_or_leads n (access.Offset k) v rest hand st h = h

  -- an operator that reads its right operand does what the reading and then the operator do
  operator_plainly_leads : (operator : Binary) (k : Kind) (n : ℕ) (how : Access) (v : Short) (rest : List Instr) (x : Value) (st : List Value)
      → Goes (plainly_or n how v ∷ (instr.Operator operator k ∷ rest)) 0 (outcome.Value x) (x ∷ st) → Goes (operator_plainly_or operator k n how v ∷ rest) 0 (outcome.Value x) st
  operator_plainly_leads operator k n access.Direct v rest x st h = h
  operator_plainly_leads operator k n access.Get v rest x st h = h
  operator_plainly_leads operator k n access.Hold v rest x st h = h
  operator_plainly_leads operator k n (access.Offset b) v rest x st h = h

  -- and nothing where no value is in hand
  now_stays : (operator : Binary) (k : Kind) (n : ℕ) (v : Short) (rest : List Instr) (o : Outcome) (st : List Value) → ((w : Value) → o ≡ outcome.Value w → ⊥) → Goes rest 0 o st
      → Goes (instr.OperatorNowOr operator k n v ∷ rest) 0 o st
  now_stays operator k n v rest (outcome.Value w) st ne h = absurd (ne w refl)
  now_stays operator k n v rest outcome.Missing st ne h = h
  now_stays operator k n v rest (outcome.Fault f) st ne h = h
  now_stays operator k n v rest outcome.Poison st ne h = h

  newest_stays : (operator : Binary) (k : Kind) (n : ℕ) (v : Short) (rest : List Instr) (o : Outcome) (st : List Value) → ((w : Value) → o ≡ outcome.Value w → ⊥) → Goes rest 0 o st
      → Goes (instr.OperatorNewestOr operator k n v ∷ rest) 0 o st
  newest_stays operator k n v rest (outcome.Value w) st ne h = absurd (ne w refl)
  newest_stays operator k n v rest outcome.Missing st ne h = h
  newest_stays operator k n v rest (outcome.Fault f) st ne h = h
  newest_stays operator k n v rest outcome.Poison st ne h = h

  back_stays : (operator : Binary) (k : Kind) (n b : ℕ) (v : Short) (rest : List Instr) (o : Outcome) (st : List Value) → ((w : Value) → o ≡ outcome.Value w → ⊥) → Goes rest 0 o st
      → Goes (instr.OperatorBackOr operator k n b v ∷ rest) 0 o st
  back_stays operator k n b v rest (outcome.Value w) st ne h = absurd (ne w refl)
  back_stays operator k n b v rest outcome.Missing st ne h = h
  back_stays operator k n b v rest (outcome.Fault f) st ne h = h
  back_stays operator k n b v rest outcome.Poison st ne h = h

  no_left : (operator : Binary) (k : Kind) (n : ℕ) (how : Access) (v : Short) (rest : List Instr) (o : Outcome) (st : List Value) → ((w : Value) → o ≡ outcome.Value w → ⊥)
      → Goes rest 0 o st → Goes (operator_plainly_or operator k n how v ∷ rest) 0 o st
  no_left operator k n access.Direct v rest o st ne h = now_stays operator k n v rest o st ne h
  no_left operator k n access.Get v rest o st ne h = now_stays operator k n v rest o st ne h
  no_left operator k n access.Hold v rest o st ne h = newest_stays operator k n v rest o st ne h
  no_left operator k n (access.Offset b) v rest o st ne h = back_stays operator k n b v rest o st ne h

  -- what is asked with all of them
  reading_leads : (n : ℕ) (how : Access) (m : ℕ) (vs : List Value) (rest : List Instr) (hand : Outcome) (st : List Value) → length vs ≡ m → m ≤ 4
      → AskedOf remembers s n how m vs (λ r. Goes rest 0 r st) → Goes (reading n how m ∷ rest) 0 hand (reverse vs ++ st)
  reading_leads n how zero [] rest hand st e few h = plainly_leads n how rest hand st (h.0.stream, no_kinds _ h.0.kinds, h.2, h.3)
  reading_leads n how zero (v ∷ vs) rest hand st e few h = absurd (omega (arith, e))
  reading_leads n how (suc m) vs rest hand st e few h =
      subst (λ ts. AskedOf remembers s n how (suc m) ts (λ r. Goes rest 0 r (drop (suc m) (reverse vs ++ st)))) (sym (tops vs st (suc m) e))
      (h.0, h.1, h.2, λ r a. subst (λ l. Goes rest 0 r l) (sym (dropped (reverse vs) st (suc m) (length-reverse vs ∙ e))) (h.3 r a))

  read_gives : (place : Place) (n : ℕ) (how : Access) (args : Arguments) (xs : List Instr) → can_ask s p (Read place n how args) ≡ true
      → GivesAll (target.Stream n how) 0 xs args → Gives xs (Read place n how args)
  read_gives place n how args xs h all rest o st fin =
      let f = read_facts s p (Read place n how args) place n how args refl h in
      all [] rest o st refl
      (λ vs hand m.
      let z : 0 + count_of args ≡ count_of args = omega arith in
      let few : 0 + count_of args ≤ 4 = omega (arith, z, f.reference.few) in
      reading_leads n how (0 + count_of args) vs rest hand st (as_many args vs m.kinds ∙ sym z) few (
        record { stream = f.reference.stream; kinds = subst (λ (ks : List Kind). are_of_kinds ks vs ≡ true) f.reference.kinds m.kinds },
        few,
        f.kept,
        λ r a. fin r (read_means remembers s p (Read place n how args) place n how args vs r refl h m a),
      ))
      (λ r m. fin r (read_none remembers s p place n how args r m))

  window_gives : (place : Place) (n : ℕ) (args : Arguments) (xs : List Instr) → can_ask s p (Window place n args) ≡ true
      → GivesAll (target.Window n) 0 xs args → Gives xs (Window place n args)
  window_gives place n args xs h all rest o st fin =
      let f = window_facts s p (Window place n args) place n args refl h in
      all [] rest o st refl
      (λ vs hand m.
      let z : 0 + count_of args ≡ count_of args = omega arith in
      let few : 0 + count_of args ≤ 4 = omega (arith, z, f.reference.few) in
      let e = as_many args vs m.kinds ∙ sym z in
      subst (λ ts. Folded remembers s n (0 + count_of args) ts (λ r. Goes rest 0 r (drop (0 + count_of args) (reverse vs ++ st)))) (sym (tops vs st (0 + count_of args) e)) (
        f.window,
        record { stream = f.reference.stream; kinds = subst (λ (ks : List Kind). are_of_kinds ks vs ≡ true) f.reference.kinds m.kinds },
        few,
        f.whole,
        λ r a. subst (λ l. Goes rest 0 r l) (sym (dropped (reverse vs) st (0 + count_of args) (length-reverse vs ∙ e))) (fin r (window_means remembers s p place n args vs r h m a)),
      ))
      (λ r m. fin r (window_none remembers s p place n args r m))

  -- a default

  otherwise_gives : (place : Place) (u v : Around) (a b : Expr) (ca cb : List Instr) → can_ask s p (Defaults' place u a v b) ≡ true → Gives ca a → Gives cb b
      → Gives (cb ++ (instr.Otherwise (length cb) ∷ ca)) (Defaults' place u a v b)
  otherwise_gives place u v a b ca cb ask g h rest o st fin = between cb (instr.Otherwise (length cb)) ca a rest o st g goes
    where
      there : (r : Outcome) → (r ≡ outcome.Missing → ⊥) → IsMeant a r → Goes (reverse cb ++ rest) (length cb) r st
      there r ne d = past cb rest 0 (length cb) r st (omega arith) (fin r (first_means remembers s p place u v a b ask r ne d))

      goes : (r : Outcome) → IsMeant a r → Goes (instr.Otherwise (length cb) ∷ (reverse cb ++ rest)) 0 r st
      goes (outcome.Value x) d = there (outcome.Value x) (λ q. absurd (cc)) d
      goes outcome.Missing d = h rest outcome.Missing st (λ r e. fin r (second_means remembers s p place u v a b ask r d e))
      goes (outcome.Fault f) d = there (outcome.Fault f) (λ q. absurd (cc)) d
      goes outcome.Poison d = there outcome.Poison (λ q. absurd (cc)) d

  -- of a plain access and a literal
  fused_gives : (place : Place) (u v : Around) (a b : Expr) (q : ℕ × Access) (x : Short) → can_ask s p (Defaults' place u a v b) ≡ true → IsPlain a q → IsLiteral b x
      → Gives (plainly_or q.0 q.1 x ∷ []) (Defaults' place u a v b)
  fused_gives place u v a b q x ask l t rest o st fin =
      let d = defaults_facts s p (Defaults' place u a v b) place u v a b refl ask in
      let f = read_facts s p a l.place q.0 q.1 End l.is d.left in
      plainly_or_leads q.0 q.1 x rest o st
      (f.reference.stream, sym f.reference.kinds, f.kept, λ r e. by_answer r (read_means remembers s p a l.place q.0 q.1 End [] r l.is d.left (end_means remembers s p) e))
    where
      given : IsMeant b (widened x)
      given =
          let d = defaults_facts s p (Defaults' place u a v b) place u v a b refl ask in
          subst (IsMeant b) (sym t.wide)
          (subst (λ e. IsMeant e (outcome.Value (value_in x))) (sym t.is) (literal_means remembers s p t.place (value_in x) (ap (can_ask s p) (sym t.is) ∙ d.right)))

      by_answer : (r : Outcome) → IsMeant a r → Goes rest 0 (or_short r x) st
      by_answer (outcome.Value y) m = fin (outcome.Value y) (first_means remembers s p place u v a b ask (outcome.Value y) (λ q. absurd (cc)) m)
      by_answer outcome.Missing m = fin (widened x) (second_means remembers s p place u v a b ask (widened x) m given)
      by_answer (outcome.Fault k) m = fin (outcome.Fault k) (first_means remembers s p place u v a b ask (outcome.Fault k) (λ q. absurd (cc)) m)
      by_answer outcome.Poison m = fin outcome.Poison (first_means remembers s p place u v a b ask outcome.Poison (λ q. absurd (cc)) m)

  default_gives : (place : Place) (u v : Around) (a b : Expr) (ca cb : List Instr) → can_ask s p (Defaults' place u a v b) ≡ true → Gives ca a → Gives cb b
      → (q : Option (ℕ × Access)) (x : Option Short) → plain_of a ≡ q → literal_of b ≡ x → Gives (with_default ca cb q x) (Defaults' place u a v b)
  default_gives place u v a b ca cb ask g h (Some q) (Some x) l t = fused_gives place u v a b q x ask (is_plain a q l) (is_literal b x t)
  default_gives place u v a b ca cb ask g h (Some q) None l t = otherwise_gives place u v a b ca cb ask g h
  default_gives place u v a b ca cb ask g h None (Some x) l t = otherwise_gives place u v a b ca cb ask g h
  default_gives place u v a b ca cb ask g h None None l t = otherwise_gives place u v a b ca cb ask g h

  -- an operator before an operand
  prefix_gives : (place : Place) (operator : Prefix) (u : Around) (a : Expr) (ca : List Instr) → can_ask s p (Unary' place operator u a) ≡ true → Gives ca a
      → Gives (instr.Prefix operator (kind_of place) ∷ ca) (Unary' place operator u a)
  prefix_gives place operator u a ca ask g rest o st fin = behind (instr.Prefix operator (kind_of place)) ca a rest o st g goes
    where
      goes : (r : Outcome) → IsMeant a r → Goes (instr.Prefix operator (kind_of place) ∷ rest) 0 r st
      goes (outcome.Value x) d = (operand_taken remembers s p place operator u a ask x d, λ r e. fin r (negated_means remembers s p place operator u a ask x r d e))
      goes outcome.Missing d = fin outcome.Missing (operand_none remembers s p place operator u a ask outcome.Missing (λ v q. absurd (cc)) d)
      goes (outcome.Fault f) d = fin (outcome.Fault f) (operand_none remembers s p place operator u a ask (outcome.Fault f) (λ v q. absurd (cc)) d)
      goes outcome.Poison d = fin outcome.Poison (operand_none remembers s p place operator u a ask outcome.Poison (λ v q. absurd (cc)) d)

  -- an operator between two operands
  module _ (place : Place) (operator : Binary) (u v : Around) (a b : Expr) (ask : can_ask s p (Both' place operator u a v b) ≡ true) where
    -- between a value and what the right one means
    signed : (rest : List Instr) (st : List Value) → ((r : Outcome) → IsMeant (Both' place operator u a v b) r → Goes rest 0 r st) → ((x : Value) → decides operator x ≡ false)
        → (x : Value) → IsMeant a (outcome.Value x) → (r : Outcome) → IsMeant b r → Goes (instr.Operator operator (kind_of place) ∷ rest) 0 r (x ∷ st)
    signed rest st fin nd x d (outcome.Value y) e = (operands_taken remembers s p place operator u v a b ask x y d e, λ r w. fin r (operated_means remembers s p place operator u v a b ask x y r (nd x) d e w))
    signed rest st fin nd x d outcome.Missing e = fin outcome.Missing (right_none remembers s p place operator u v a b ask x outcome.Missing (nd x) (λ v q. absurd (cc)) d e)
    signed rest st fin nd x d (outcome.Fault f) e = fin (outcome.Fault f) (right_none remembers s p place operator u v a b ask x (outcome.Fault f) (nd x) (λ v q. absurd (cc)) d e)
    signed rest st fin nd x d outcome.Poison e = fin outcome.Poison (right_none remembers s p place operator u v a b ask x outcome.Poison (nd x) (λ v q. absurd (cc)) d e)

    -- of which both are evaluated
    kept_gives : (ca cb : List Instr) → ((x : Value) → decides operator x ≡ false) → Gives ca a → Gives cb b
        → Gives (instr.Operator operator (kind_of place) ∷ (cb ++ (instr.Keep (length cb + 1) ∷ ca))) (Both' place operator u a v b)
    kept_gives ca cb nd g h rest o st fin = between (instr.Operator operator (kind_of place) ∷ cb) (instr.Keep (length cb + 1)) ca a rest o st g goes
      where
        none : (r : Outcome) → ((v : Value) → r ≡ outcome.Value v → ⊥) → IsMeant a r → Goes (reverse (instr.Operator operator (kind_of place) ∷ cb) ++ rest) (length cb + 1) r st
        none r ne d = past (instr.Operator operator (kind_of place) ∷ cb) rest 0 (length cb + 1) r st (omega arith) (fin r (left_none remembers s p place operator u v a b ask r ne d))

        goes : (r : Outcome) → IsMeant a r → Goes (instr.Keep (length cb + 1) ∷ (reverse (instr.Operator operator (kind_of place) ∷ cb) ++ rest)) 0 r st
        goes (outcome.Value x) d = behind (instr.Operator operator (kind_of place)) cb b rest (outcome.Value x) (x ∷ st) h (signed rest st fin nd x d)
        goes outcome.Missing d = none outcome.Missing (λ v q. absurd (cc)) d
        goes (outcome.Fault f) d = none (outcome.Fault f) (λ v q. absurd (cc)) d
        goes outcome.Poison d = none outcome.Poison (λ v q. absurd (cc)) d

    -- of which the right one is a literal
    given_gives : (ca : List Instr) (y : Short) → ((x : Value) → decides operator x ≡ false) → Gives ca a → IsLiteral b y
        → Gives (instr.OperatorGiven operator (kind_of place) y ∷ ca) (Both' place operator u a v b)
    given_gives ca y nd g t rest o st fin = behind (instr.OperatorGiven operator (kind_of place) y) ca a rest o st g goes
      where
        given : IsMeant b (outcome.Value (value_in y))
        given =
            let facts = both_facts s p (Both' place operator u a v b) place operator u v a b refl ask in
            subst (λ e. IsMeant e (outcome.Value (value_in y))) (sym t.is) (literal_means remembers s p t.place (value_in y) (ap (can_ask s p) (sym t.is) ∙ facts.right))

        goes : (r : Outcome) → IsMeant a r → Goes (instr.OperatorGiven operator (kind_of place) y ∷ rest) 0 r st
        goes (outcome.Value x) d = (operands_taken remembers s p place operator u v a b ask x (value_in y) d given, λ r w. fin r (operated_means remembers s p place operator u v a b ask x (value_in y) r (nd x) d given w))
        goes outcome.Missing d = fin outcome.Missing (left_none remembers s p place operator u v a b ask outcome.Missing (λ v q. absurd (cc)) d)
        goes (outcome.Fault f) d = fin (outcome.Fault f) (left_none remembers s p place operator u v a b ask (outcome.Fault f) (λ v q. absurd (cc)) d)
        goes outcome.Poison d = fin outcome.Poison (left_none remembers s p place operator u v a b ask outcome.Poison (λ v q. absurd (cc)) d)

    -- of which the right one is a plain access with a literal for a default
    defaulted_gives : (ca : List Instr) (f : ℕ × (Access × Short)) → ((x : Value) → decides operator x ≡ false) → Gives ca a → IsDefaulted b f
        → Gives (operator_plainly_or operator (kind_of place) f.0 f.1.0 f.1.1 ∷ ca) (Both' place operator u a v b)
    defaulted_gives ca f nd g t rest o st fin = behind (operator_plainly_or operator (kind_of place) f.0 f.1.0 f.1.1) ca a rest o st g goes
      where
        asked : Gives (plainly_or f.0 f.1.0 f.1.1 ∷ []) b
        asked =
            let facts = both_facts s p (Both' place operator u a v b) place operator u v a b refl ask in
            subst (Gives (plainly_or f.0 f.1.0 f.1.1 ∷ [])) (sym t.is)
            (fused_gives t.place t.u t.v t.a t.b (f.0, f.1.0) f.1.1 (ap (can_ask s p) (sym t.is) ∙ facts.right) t.plain t.literal)

        none : (r : Outcome) → ((v : Value) → r ≡ outcome.Value v → ⊥) → IsMeant a r → Goes (operator_plainly_or operator (kind_of place) f.0 f.1.0 f.1.1 ∷ rest) 0 r st
        none r ne d = no_left operator (kind_of place) f.0 f.1.0 f.1.1 rest r st ne (fin r (left_none remembers s p place operator u v a b ask r ne d))

        goes : (r : Outcome) → IsMeant a r → Goes (operator_plainly_or operator (kind_of place) f.0 f.1.0 f.1.1 ∷ rest) 0 r st
        goes (outcome.Value x) d = operator_plainly_leads operator (kind_of place) f.0 f.1.0 f.1.1 rest x st (asked (instr.Operator operator (kind_of place) ∷ rest) (outcome.Value x) (x ∷ st) (signed rest st fin nd x d))
        goes outcome.Missing d = none outcome.Missing (λ v q. absurd (cc)) d
        goes (outcome.Fault k) d = none (outcome.Fault k) (λ v q. absurd (cc)) d
        goes outcome.Poison d = none outcome.Poison (λ v q. absurd (cc)) d

    -- of which the right one is a direct access
    direct_gives : (ca : List Instr) (n : ℕ) → ((x : Value) → decides operator x ≡ false) → Gives ca a → IsDirect b n
        → Gives (instr.OperatorNow operator (kind_of place) n ∷ ca) (Both' place operator u a v b)
    direct_gives ca n nd g t rest o st fin = behind (instr.OperatorNow operator (kind_of place) n) ca a rest o st g goes
      where
        goes : (r : Outcome) → IsMeant a r → Goes (instr.OperatorNow operator (kind_of place) n ∷ rest) 0 r st
        goes (outcome.Value x) d =
            let facts = both_facts s p (Both' place operator u a v b) place operator u v a b refl ask in
            let f = read_facts s p b t.place n access.Direct End t.is facts.right in (
              f.reference.stream,
              sym f.reference.kinds,
              f.kept,
              λ r e. signed rest st fin nd x d r (read_means remembers s p b t.place n access.Direct End [] r t.is facts.right (end_means remembers s p) e),
            )
        goes outcome.Missing d = fin outcome.Missing (left_none remembers s p place operator u v a b ask outcome.Missing (λ v q. absurd (cc)) d)
        goes (outcome.Fault k) d = fin (outcome.Fault k) (left_none remembers s p place operator u v a b ask (outcome.Fault k) (λ v q. absurd (cc)) d)
        goes outcome.Poison d = fin outcome.Poison (left_none remembers s p place operator u v a b ask outcome.Poison (λ v q. absurd (cc)) d)

    operands_give : (ca cb : List Instr) → ((x : Value) → decides operator x ≡ false) → Gives ca a → Gives cb b → (y : Option Short) (f : Option (ℕ × (Access × Short))) (n : Option ℕ)
        → literal_of b ≡ y → defaulted_of b ≡ f → direct_of b ≡ n → Gives (with_operands operator (kind_of place) ca cb y f n) (Both' place operator u a v b)
    operands_give ca cb nd g h (Some y) f n t q w = given_gives ca y nd g (is_literal b y t)
    operands_give ca cb nd g h None (Some f) n t q w = defaulted_gives ca f nd g (is_defaulted b f q)
    operands_give ca cb nd g h None None (Some n) t q w = direct_gives ca n nd g (is_direct b n w)
    operands_give ca cb nd g h None None None t q w = kept_gives ca cb nd g h

  -- `&&`
  and_gives : (place : Place) (u v : Around) (a b : Expr) → can_ask s p (Both' place binary.And u a v b) ≡ true → (ca cb : List Instr) → Gives ca a → Gives cb b
      → Gives (cb ++ (instr.WhereTrue (length cb) ∷ ca)) (Both' place binary.And u a v b)
  and_gives place u v a b ask ca cb g h rest o st fin = between cb (instr.WhereTrue (length cb)) ca a rest o st g goes
    where
      there : (r : Outcome) → IsMeant (Both' place binary.And u a v b) r → Goes (reverse cb ++ rest) (length cb) r st
      there r m = past cb rest 0 (length cb) r st (omega arith) (fin r m)

      goes : (r : Outcome) → IsMeant a r → Goes (instr.WhereTrue (length cb) ∷ (reverse cb ++ rest)) 0 r st
      goes (outcome.Value (value.Bool true)) d = h rest (outcome.Value (value.Bool true)) st (λ r e. fin r (goes_on_means remembers s p place binary.And u v a b ask (λ k j l. refl) true r (λ k y. refl) d e))
      goes (outcome.Value (value.Bool false)) d = there (outcome.Value (value.Bool false)) (decided_means remembers s p place binary.And u v a b ask (λ k j l. refl) false (λ k y. refl) d)
      goes (outcome.Value (value.Int z)) d = absurd (let e = left_truth remembers s p place binary.And u v a b ask (λ k j l. refl) (value.Int z) d in cc)
      goes (outcome.Value (value.Text t)) d = absurd (let e = left_truth remembers s p place binary.And u v a b ask (λ k j l. refl) (value.Text t) d in cc)
      goes outcome.Missing d = there outcome.Missing (left_none remembers s p place binary.And u v a b ask outcome.Missing (λ v q. absurd (cc)) d)
      goes (outcome.Fault f) d = there (outcome.Fault f) (left_none remembers s p place binary.And u v a b ask (outcome.Fault f) (λ v q. absurd (cc)) d)
      goes outcome.Poison d = there outcome.Poison (left_none remembers s p place binary.And u v a b ask outcome.Poison (λ v q. absurd (cc)) d)

  -- `||`
  or_gives : (place : Place) (u v : Around) (a b : Expr) → can_ask s p (Both' place binary.Or u a v b) ≡ true → (ca cb : List Instr) → Gives ca a → Gives cb b
      → Gives (cb ++ (instr.WhereFalse (length cb) ∷ ca)) (Both' place binary.Or u a v b)
  or_gives place u v a b ask ca cb g h rest o st fin = between cb (instr.WhereFalse (length cb)) ca a rest o st g goes
    where
      there : (r : Outcome) → IsMeant (Both' place binary.Or u a v b) r → Goes (reverse cb ++ rest) (length cb) r st
      there r m = past cb rest 0 (length cb) r st (omega arith) (fin r m)

      goes : (r : Outcome) → IsMeant a r → Goes (instr.WhereFalse (length cb) ∷ (reverse cb ++ rest)) 0 r st
      goes (outcome.Value (value.Bool true)) d = there (outcome.Value (value.Bool true)) (decided_means remembers s p place binary.Or u v a b ask (λ k j l. refl) true (λ k y. refl) d)
      goes (outcome.Value (value.Bool false)) d = h rest (outcome.Value (value.Bool false)) st (λ r e. fin r (goes_on_means remembers s p place binary.Or u v a b ask (λ k j l. refl) false r (λ k y. refl) d e))
      goes (outcome.Value (value.Int z)) d = absurd (let e = left_truth remembers s p place binary.Or u v a b ask (λ k j l. refl) (value.Int z) d in cc)
      goes (outcome.Value (value.Text t)) d = absurd (let e = left_truth remembers s p place binary.Or u v a b ask (λ k j l. refl) (value.Text t) d in cc)
      goes outcome.Missing d = there outcome.Missing (left_none remembers s p place binary.Or u v a b ask outcome.Missing (λ v q. absurd (cc)) d)
      goes (outcome.Fault f) d = there (outcome.Fault f) (left_none remembers s p place binary.Or u v a b ask (outcome.Fault f) (λ v q. absurd (cc)) d)
      goes outcome.Poison d = there outcome.Poison (left_none remembers s p place binary.Or u v a b ask outcome.Poison (λ v q. absurd (cc)) d)

  -- an operator between operands, by the operator
  operator_gives : (operator : Binary) (place : Place) (u v : Around) (a b : Expr) → can_ask s p (Both' place operator u a v b) ≡ true → (ca cb : List Instr) → Gives ca a → Gives cb b
      → Gives (with_operator (joining operator) operator (kind_of place) ca cb (literal_of b) (defaulted_of b) (direct_of b)) (Both' place operator u a v b)
  operator_gives binary.And place u v a b ask ca cb g h = and_gives place u v a b ask ca cb g h
  operator_gives binary.Or place u v a b ask ca cb g h = or_gives place u v a b ask ca cb g h
  operator_gives binary.Add place u v a b ask ca cb g h = operands_give place binary.Add u v a b ask ca cb (λ x. refl) g h (literal_of b) (defaulted_of b) (direct_of b) refl refl refl
  operator_gives binary.Sub place u v a b ask ca cb g h = operands_give place binary.Sub u v a b ask ca cb (λ x. refl) g h (literal_of b) (defaulted_of b) (direct_of b) refl refl refl
  operator_gives binary.Mul place u v a b ask ca cb g h = operands_give place binary.Mul u v a b ask ca cb (λ x. refl) g h (literal_of b) (defaulted_of b) (direct_of b) refl refl refl
  operator_gives binary.Div place u v a b ask ca cb g h = operands_give place binary.Div u v a b ask ca cb (λ x. refl) g h (literal_of b) (defaulted_of b) (direct_of b) refl refl refl
  operator_gives binary.Rem place u v a b ask ca cb g h = operands_give place binary.Rem u v a b ask ca cb (λ x. refl) g h (literal_of b) (defaulted_of b) (direct_of b) refl refl refl
  operator_gives binary.Less place u v a b ask ca cb g h = operands_give place binary.Less u v a b ask ca cb (λ x. refl) g h (literal_of b) (defaulted_of b) (direct_of b) refl refl refl
  operator_gives binary.LessEqual place u v a b ask ca cb g h = operands_give place binary.LessEqual u v a b ask ca cb (λ x. refl) g h (literal_of b) (defaulted_of b) (direct_of b) refl refl refl
  operator_gives binary.Greater place u v a b ask ca cb g h = operands_give place binary.Greater u v a b ask ca cb (λ x. refl) g h (literal_of b) (defaulted_of b) (direct_of b) refl refl refl
  operator_gives binary.GreaterEqual place u v a b ask ca cb g h = operands_give place binary.GreaterEqual u v a b ask ca cb (λ x. refl) g h (literal_of b) (defaulted_of b) (direct_of b) refl refl refl
  operator_gives binary.Equal place u v a b ask ca cb g h = operands_give place binary.Equal u v a b ask ca cb (λ x. refl) g h (literal_of b) (defaulted_of b) (direct_of b) refl refl refl
  operator_gives binary.Different place u v a b ask ca cb g h = operands_give place binary.Different u v a b ask ca cb (λ x. refl) g h (literal_of b) (defaulted_of b) (direct_of b) refl refl refl

  -- a choice
  choice_gives : (place : Place) (u v w : Around) (t a b : Expr) (ct ca cb : List Instr) → can_ask s p (Choice' place u t v a w b) ≡ true → Gives ct t → Gives ca a → Gives cb b
      → Gives (with_branches ct ca cb) (Choice' place u t v a w b)
  choice_gives place u v w t a b ct ca cb ask g ga gb rest o st fin =
      subst (λ l. Goes (reverse l ++ rest) 0 o st) (append_assoc cb (j ∷ ca) (i ∷ ct)) (between (cb ++ j ∷ ca) i ct t rest o st g (λ r d. subst (λ l. Goes (i ∷ l) 0 r st) (sym (turned cb j ca rest)) (goes r d)))
    where
      j : Instr
      j = instr.Jump (length cb)

      i : Instr
      i = instr.Test (length ca + 1) (length cb + 1 + length ca)

      there : (r : Outcome) → IsMeant (Choice' place u t v a w b) r → Goes (reverse cb ++ rest) (length cb) r st
      there r m = past cb rest 0 (length cb) r st (omega arith) (fin r m)

      none : (r : Outcome) → IsMeant (Choice' place u t v a w b) r → Goes (reverse ca ++ (instr.Jump (length cb) ∷ (reverse cb ++ rest))) (length cb + 1 + length ca) r st
      none r m = past ca (instr.Jump (length cb) ∷ (reverse cb ++ rest)) (suc (length cb)) _ r st (omega arith) (there r m)

      goes : (r : Outcome) → IsMeant t r → Goes (instr.Test (length ca + 1) (length cb + 1 + length ca) ∷ (reverse ca ++ (instr.Jump (length cb) ∷ (reverse cb ++ rest)))) 0 r st
      goes (outcome.Value (value.Bool true)) d = ga (instr.Jump (length cb) ∷ (reverse cb ++ rest)) (outcome.Value (value.Bool true)) st (λ r e. there r (true_means remembers s p place u v w t a b ask r d e))
      goes (outcome.Value (value.Bool false)) d = past ca (instr.Jump (length cb) ∷ (reverse cb ++ rest)) 1 _ (outcome.Value (value.Bool false)) st refl (gb rest (outcome.Value (value.Bool false)) st (λ r e. fin r (false_means remembers s p place u v w t a b ask r d e)))
      goes (outcome.Value (value.Int z)) d = absurd (let e = test_truth remembers s p place u v w t a b ask (value.Int z) d in cc)
      goes (outcome.Value (value.Text x)) d = absurd (let e = test_truth remembers s p place u v w t a b ask (value.Text x) d in cc)
      goes outcome.Missing d = none outcome.Missing (test_none remembers s p place u v w t a b ask outcome.Missing (λ v q. absurd (cc)) d)
      goes (outcome.Fault f) d = none (outcome.Fault f) (test_none remembers s p place u v w t a b ask (outcome.Fault f) (λ v q. absurd (cc)) d)
      goes outcome.Poison d = none outcome.Poison (test_none remembers s p place u v w t a b ask outcome.Poison (λ v q. absurd (cc)) d)

  -- a literal
  literal_gives : (place : Place) (v : Value) → can_ask s p (Literal place v) ≡ true → (x : Option Short) → short_of v ≡ x → Gives (giving x ∷ []) (Literal place v)
  literal_gives place v h (Some x) e rest o st fin = fin (widened x) (subst (IsMeant (Literal place v)) (sym (is_wide v x e)) (literal_means remembers s p place v h))
  literal_gives place v h None e rest o st fin = tt

  -- the code of an expression gives what it means
  mutual
    gives : (e : Expr) → can_ask s p e ≡ true → Gives (back_code e) e
    gives (Literal place v) h rest o st fin = literal_gives place v h (short_of v) refl rest o st fin
    gives (Parameter place i) h rest o st fin = fin _ (parameter_means remembers s p place i h)
    gives (Read place n how args) h rest o st fin = read_gives place n how args (back_arguments (target.Stream n how) 0 args) h (gives_all (target.Stream n how) 0 args (read_facts s p (Read place n how args) place n how args refl h).arguments) rest o st fin
    gives (Window place n args) h rest o st fin = window_gives place n args (back_arguments (target.Window n) 0 args) h (gives_all (target.Window n) 0 args (window_facts s p (Window place n args) place n args refl h).arguments) rest o st fin
    gives (Defaults' place u a v b) h rest o st fin =
        let f = defaults_facts s p (Defaults' place u a v b) place u v a b refl h in
        default_gives place u v a b (back_code a) (back_code b) h (gives a f.left) (gives b f.right) (plain_of a) (literal_of b) refl refl rest o st fin
    gives (Unary' place operator u a) h rest o st fin = prefix_gives place operator u a (back_code a) h (gives a (unary_facts s p (Unary' place operator u a) place operator u a refl h).part) rest o st fin
    gives (Both' place operator u a v b) h rest o st fin =
        let f = both_facts s p (Both' place operator u a v b) place operator u v a b refl h in
        operator_gives operator place u v a b h (back_code a) (back_code b) (gives a f.left) (gives b f.right) rest o st fin
    gives (Choice' place u t v a w b) h rest o st fin =
        let f = choice_facts s p (Choice' place u t v a w b) place u v w t a b refl h in
        choice_gives place u v w t a b (back_code t) (back_code a) (back_code b) h (gives t f.test) (gives a f.left) (gives b f.right) rest o st fin

    gives_all : (t : Target) (k : ℕ) (args : Arguments) → can_ask_all s p args ≡ true → GivesAll t k (back_arguments t k args) args
    gives_all t k End h ws rest o st e ok err = end_gives t k ws rest o st e ok err
    gives_all t k (More' u a w more) h ws rest o st e ok err =
        let f = each_more (part_can_ask s p) (More' u a w more) u w a more refl h in
        more_gives t k u w a more (back_arguments t (k + 1) more) (back_code a) (gives a f.0) (gives_all t (k + 1) more f.1) ws rest o st e ok err

-- the code of an expression leads to an outcome that it may come to
pub comes_to : (remembers : Memories) (s : Seen) (p : Params) (e : Expr) → can_ask s p e ≡ true → Leads remembers s p (λ r. Means remembers s p e r) (code_of e) 0 outcome.Missing []
comes_to remembers s p e h =
    subst (λ l. Leads remembers s p (λ r. Means remembers s p e r) l 0 outcome.Missing []) (append-nil (reverse (back_code e)))
    (gives remembers s p (λ r. Means remembers s p e r) e h [] outcome.Missing [] (λ r m. m))
