-- What each stream keeps when its kind is filled in.
use Rattle.std.proofs.Common.{◌≡◌, ◌<◌, ℕ, zero, suc, arith, refl, ap, sym, ◌∙◌, subst, Bool, true, false, not, cond, if◌then◌else◌, List, [], ◌∷◌, Option, Some, None, nat_eq, nat_le, length, slice_get, unwrap_or, drop}
use Rattle.std.specs.Prelude.{filter}
use Rattle.std.proofs.lemmas.Bool.{and_from}
use Rattle.lola_value.specs.declared.value.Kind.{Kind}
use Rattle.lola_value.specs.declared.value.Kind.TheVariants as kind
use Rattle.lola_model.specs.Model.{is_input}
use Rattle.lola_model.specs.Formulas.{AreOverInputs, IsClauseOverInputs, IsPaceOverInputs}
use Rattle.lola_model.specs.NormalForms.{HasInputsBelow}
use Rattle.lola_model.specs.Named.{has_clause, count_with, is_condition, has_when, has_kind, is_of_bool, is_well_shaped, has_few_parameters, all_streams, is_trigger, declared_names, is_read_of, is_rate_in_range, is_pace_in_range, is_clause_paced_in_range, is_stream_paced_in_range}
use Rattle.lola_model.specs.declared.expr.Expr.{Expr}
use Rattle.lola_model.specs.declared.spec.Clause.{Clause}
use Rattle.lola_model.specs.declared.spec.Formula.{Formula}
use Rattle.lola_model.specs.declared.spec.Formula.TheVariants.{Input, And', Or'}
use Rattle.lola_model.specs.declared.spec.Pace.{Pace}
use Rattle.lola_model.specs.declared.spec.Pace.TheVariants as pace
use Rattle.lola_model.specs.declared.spec.Sort.{Sort}
use Rattle.lola_model.specs.declared.spec.Sort.TheVariants as sort
use Rattle.lola_model.specs.declared.spec.Spec.{Spec}
use Rattle.lola_model.specs.declared.spec.Stream.{Stream}
use Rattle.lola_types.specs.Found.{Setting}
use Rattle.lola_types.specs.LeftOut.{kind_after, round_from, with_least, rounds, missing_kinds, kinds_of, declared_kinds}
use Rattle.lola_types.specs.Refused.{with_parameters}
use Rattle.lola_types.specs.Filled.{SameFormula, SamePace, FilledWhen, FilledWith, FilledClauses, FilledStream, FilledStreams}
use Rattle.lola_types.proofs.RoundLemmas.{round_length, least_length}
use Rattle.lola_front.proofs.Bools.{and_same, or_same, left_of, right_of, never, never_back}

-- a declared kind stays

abbrev KeepsKind : Option Kind → Option Kind → Type 0
KeepsKind k l = (j : Kind) → k ≡ Some j → l ≡ Some j

abbrev pub KeepKinds : List (Option Kind) → List (Option Kind) → Type 0
KeepKinds [] ls = Unit {0}
KeepKinds (k ∷ ks) [] = ⊥
KeepKinds (k ∷ ks) (l ∷ ls) = KeepsKind k l × KeepKinds ks ls

keep_self : (ks : List (Option Kind)) → KeepKinds ks ks
keep_self [] = tt
keep_self (k ∷ ks) = (λ j e. e, keep_self ks)

keep_least : (ks ls : List (Option Kind)) → KeepKinds ks ls → KeepKinds ks (with_least ls)
keep_least [] ls h = tt
keep_least (k ∷ ks) [] h = absurd h
keep_least (k ∷ ks) (None ∷ ls) h = (λ j e. some_of j (h.0 j e), h.1)
  where
    some_of : (j : Kind) → None ≡ Some j → Some kind.Int64 ≡ Some j
    some_of j e = absurd (cc)
keep_least (k ∷ ks) (Some l ∷ ls) h = (h.0, keep_least ks ls h.1)

kind_kept : (spec : Spec) (before : List (Option Kind)) (l : Option Kind) (s : Stream) (j : Kind) → l ≡ Some j → kind_after spec before l s ≡ Some j
kind_kept spec before None s j e = absurd (cc)
kind_kept spec before (Some l) s j e = e

keep_round : (spec : Spec) (before ks ls : List (Option Kind)) (ss : List Stream) → length ls ≡ length ss → KeepKinds ks ls → KeepKinds ks (round_from spec before ls ss)
keep_round spec before [] ls ss n h = tt
keep_round spec before (k ∷ ks) [] ss n h = absurd h
keep_round spec before (k ∷ ks) (l ∷ ls) [] n h = absurd (omega (arith, n))
keep_round spec before (k ∷ ks) (l ∷ ls) (s ∷ ss) n h =
    let m : length ls ≡ length ss = omega (arith, n) in
    (λ j e. kind_kept spec before l s j (h.0 j e), keep_round spec before ks ls ss m h.1)

after_keeps : (ks ls next : List (Option Kind)) (b : Bool) → KeepKinds ks ls → KeepKinds ks next → KeepKinds ks (if b then with_least ls else next)
after_keeps ks ls next true h g = keep_least ks ls h
after_keeps ks ls next false h g = g

after_length : (ls next : List (Option Kind)) (n : ℕ) (b : Bool) → length ls ≡ n → length next ≡ n → length (if b then with_least ls else next) ≡ n
after_length ls next n true h g = least_length ls ∙ h
after_length ls next n false h g = g

keep_rounds : (most : ℕ) (spec : Spec) (ks ls : List (Option Kind)) → length ls ≡ length spec.streams → KeepKinds ks ls → KeepKinds ks (rounds most spec ls)
keep_rounds zero spec ks ls n h = h
keep_rounds (suc most) spec ks ls n h =
    let next = round_from spec ls ls spec.streams in
    let b = nat_eq (missing_kinds next) (missing_kinds ls) in
    keep_rounds most spec ks (if b then with_least ls else next) (after_length ls next (length spec.streams) b n (round_length spec ls ls spec.streams n)) (after_keeps ks ls next b h (keep_round spec ls ks ls spec.streams n h))

declared_length : (ss : List Stream) → length (declared_kinds ss) ≡ length ss
declared_length [] = refl
declared_length (s ∷ ss) = let h = declared_length ss in omega (arith, h)

pub kinds_keep : (spec : Spec) → KeepKinds (declared_kinds spec.streams) (kinds_of spec)
kinds_keep spec = keep_rounds (length spec.streams) spec (declared_kinds spec.streams) (declared_kinds spec.streams) (declared_length spec.streams) (keep_self (declared_kinds spec.streams))

-- clauses

clause_has : (s : Setting) (wants : List Kind) (o q : Option Clause) → FilledClauses s wants o q → has_clause o ≡ has_clause q
clause_has s wants None None h = refl
clause_has s wants (Some c) (Some d) h = refl
clause_has s wants None (Some d) h = absurd h
clause_has s wants (Some c) None h = absurd h

with_count : (s : Setting) (wants : List Kind) (es fs : List Expr) → FilledWith s wants es fs → length es ≡ length fs
with_count s wants [] [] h = refl
with_count s wants (e ∷ es) (f ∷ fs) h = ap suc (with_count s (drop 1 wants) es fs h.1)
with_count s wants [] (f ∷ fs) h = absurd h
with_count s wants (e ∷ es) [] h = absurd h

clause_count : (s : Setting) (wants : List Kind) (o q : Option Clause) → FilledClauses s wants o q → count_with o ≡ count_with q
clause_count s wants None None h = refl
clause_count s wants (Some c) (Some d) h = with_count s wants c.with d.with h.expressions
clause_count s wants None (Some d) h = absurd h
clause_count s wants (Some c) None h = absurd h

when_is : (s : Setting) (o q : Option Expr) → FilledWhen s o q → is_condition o ≡ is_condition q
when_is s None None h = refl
when_is s (Some e) (Some f) h = refl
when_is s None (Some f) h = absurd h
when_is s (Some e) None h = absurd h

clause_when : (s : Setting) (wants : List Kind) (o q : Option Clause) → FilledClauses s wants o q → has_when o ≡ has_when q
clause_when s wants None None h = refl
clause_when s wants (Some c) (Some d) h = when_is s c.when d.when h.condition
clause_when s wants None (Some d) h = absurd h
clause_when s wants (Some c) None h = absurd h

pace_range : (p q : Option Pace) → SamePace p q → is_pace_in_range p ≡ is_pace_in_range q
pace_range None None h = refl
pace_range (Some (pace.Event p f)) (Some (pace.Event q g)) h = refl
pace_range (Some (pace.Rate p r)) (Some (pace.Rate q t)) h = ap is_rate_in_range h.1
pace_range (Some (pace.Global p r)) (Some (pace.Global q t)) h = ap is_rate_in_range h.1
pace_range (Some (pace.Local p r)) (Some (pace.Local q t)) h = ap is_rate_in_range h.1
pace_range _ _ h = absurd h

clause_range : (s : Setting) (wants : List Kind) (o q : Option Clause) → FilledClauses s wants o q → is_clause_paced_in_range o ≡ is_clause_paced_in_range q
clause_range s wants None None h = refl
clause_range s wants (Some c) (Some d) h = pace_range c.pace d.pace h.pacing
clause_range s wants None (Some d) h = absurd h
clause_range s wants (Some c) None h = absurd h

formula_below : (limit : ℕ) (f g : Formula) → SameFormula f g → HasInputsBelow limit f → HasInputsBelow limit g
formula_below limit (Input i) (Input j) h b = subst (λ n. n < limit) h b
formula_below limit (And' u a v b) (And' x c y d) h g = (formula_below limit a c h.0 g.0, formula_below limit b d h.1 g.1)
formula_below limit (Or' u a v b) (Or' x c y d) h g = (formula_below limit a c h.0 g.0, formula_below limit b d h.1 g.1)
formula_below limit _ _ h g = absurd h

pace_over : (p q : Option Pace) → SamePace p q → IsPaceOverInputs p → IsPaceOverInputs q
pace_over None None h g = tt
pace_over (Some (pace.Event p f)) (Some (pace.Event q g)) h b = formula_below 64 f g h.1 b
pace_over (Some (pace.Rate p r)) (Some (pace.Rate q t)) h g = tt
pace_over (Some (pace.Global p r)) (Some (pace.Global q t)) h g = tt
pace_over (Some (pace.Local p r)) (Some (pace.Local q t)) h g = tt
pace_over _ _ h g = absurd h

clause_over : (s : Setting) (wants : List Kind) (o q : Option Clause) → FilledClauses s wants o q → IsClauseOverInputs o → IsClauseOverInputs q
clause_over s wants None None h g = tt
clause_over s wants (Some c) (Some d) h g = pace_over c.pace d.pace h.pacing g
clause_over s wants None (Some d) h g = absurd h
clause_over s wants (Some c) None h g = absurd h

-- one stream

module _ (s : Setting) (k : Kind) (a b : Stream) (h : FilledStream s k a b) where
  abbrev outer : Setting
  outer = with_parameters s []

  abbrev inner : Setting
  inner = with_parameters s a.parameters

  stream_range : is_stream_paced_in_range a ≡ is_stream_paced_in_range b
  stream_range = and_same _ _ _ _ (clause_range outer a.parameters a.spawn b.spawn h.spawn) (and_same _ _ _ _ (clause_range inner (k ∷ []) a.eval b.eval h.eval) (clause_range inner [] a.close b.close h.close))

  few_kept : has_few_parameters a ≡ has_few_parameters b
  few_kept = ap (λ ps. nat_le (length ps) 4) h.parameters

  trigger_kept : is_trigger a ≡ is_trigger b
  trigger_kept = ap (λ x. is_trigger (record a { sort = x })) h.sort

  input_kept : is_input a ≡ is_input b
  input_kept = ap (λ x. is_input (record a { sort = x })) h.sort

  read_kept : (count : ℕ) → is_read_of (Some a) count ≡ is_read_of (Some b) count
  read_kept count = and_same _ _ _ _ (ap not trigger_kept) (ap (λ ps. nat_eq count (length ps)) h.parameters)

  has_found : has_kind b.kind ≡ true
  has_found = ap has_kind h.kind

  spawn_has : has_clause a.spawn ≡ has_clause b.spawn
  spawn_has = clause_has outer a.parameters a.spawn b.spawn h.spawn

  eval_has : has_clause a.eval ≡ has_clause b.eval
  eval_has = clause_has inner (k ∷ []) a.eval b.eval h.eval

  close_has : has_clause a.close ≡ has_clause b.close
  close_has = clause_has inner [] a.close b.close h.close

  none_kept : nat_eq (length a.parameters) 0 ≡ nat_eq (length b.parameters) 0
  none_kept = ap (λ ps. nat_eq (length ps) 0) h.parameters

  one_kept : nat_eq (count_with a.eval) 1 ≡ nat_eq (count_with b.eval) 1
  one_kept = ap (λ n. nat_eq n 1) (clause_count inner (k ∷ []) a.eval b.eval h.eval)

  shape_kept : (x : Sort) → (is_of_bool a.kind ≡ true → is_of_bool b.kind ≡ true) → is_well_shaped (record a { sort = x }) ≡ true → is_well_shaped (record b { sort = x }) ≡ true
  shape_kept sort.Input t g =
      and_from _ _ has_found
      (sym (and_same _ _ _ _ none_kept (and_same _ _ _ _ (ap not spawn_has) (and_same _ _ _ _ (ap not eval_has) (ap not close_has)))) ∙ right_of (has_kind a.kind) _ g)
  shape_kept sort.Output t g =
      sym (and_same _ _ _ _ one_kept
      (and_same _ _ _ _ (ap (λ n. nat_eq n (length a.parameters)) (clause_count outer a.parameters a.spawn b.spawn h.spawn) ∙ ap (λ ps. nat_eq (count_with b.spawn) (length ps)) h.parameters)
      (and_same _ _ _ _ (or_same _ _ _ _ (ap not close_has) (and_same _ _ _ _ (clause_when inner [] a.close b.close h.close) spawn_has))
      (ap (λ n. nat_eq n 0) (clause_count inner [] a.close b.close h.close))))) ∙ g
  shape_kept sort.Trigger t g =
      and_from _ _ (t (left_of (is_of_bool a.kind) _ g))
      (sym (and_same _ _ _ _ one_kept (and_same _ _ _ _ (ap not (clause_when inner (k ∷ []) a.eval b.eval h.eval)) (and_same _ _ _ _ none_kept (and_same _ _ _ _ (ap not spawn_has) (ap not close_has))))) ∙ right_of (is_of_bool a.kind) _ g)

bool_is : (o : Option Kind) → is_of_bool o ≡ true → o ≡ Some kind.Bool
bool_is None h = never_back h
bool_is (Some kind.Bool) h = refl
bool_is (Some kind.Int8) h = never_back h
bool_is (Some kind.Int16) h = never_back h
bool_is (Some kind.Int32) h = never_back h
bool_is (Some kind.Int64) h = never_back h
bool_is (Some kind.UInt8) h = never_back h
bool_is (Some kind.UInt16) h = never_back h
bool_is (Some kind.UInt32) h = never_back h
bool_is (Some kind.UInt64) h = never_back h
bool_is (Some kind.Text) h = never_back h

shaped : (s : Setting) (l : Option Kind) (a b : Stream) → KeepsKind a.kind l → FilledStream s (unwrap_or l kind.Int64) a b → is_well_shaped a ≡ true → is_well_shaped b ≡ true
shaped s l a b keep h g =
    let t : is_of_bool a.kind ≡ true → is_of_bool b.kind ≡ true = λ e. ap is_of_bool (h.kind ∙ ap (λ o. Some (unwrap_or o kind.Int64)) (keep kind.Bool (bool_is a.kind e))) in
    shape_kept s (unwrap_or l kind.Int64) a b h b.sort t (subst (λ x. is_well_shaped (record a { sort = x }) ≡ true) h.sort g)

-- all streams

pub shapes_kept : (s : Setting) (kinds : List (Option Kind)) (as' bs : List Stream) → KeepKinds (declared_kinds as') kinds → FilledStreams s kinds as' bs → all_streams is_well_shaped as' ≡ true → all_streams is_well_shaped bs ≡ true
shapes_kept s kinds [] [] keep h g = refl
shapes_kept s kinds [] (b ∷ bs) keep h g = absurd h
shapes_kept s kinds (a ∷ as') [] keep h g = absurd h
shapes_kept s [] (a ∷ as') (b ∷ bs) keep h g = absurd keep
shapes_kept s (l ∷ kinds) (a ∷ as') (b ∷ bs) keep h g =
    and_from _ _ (shaped s l a b keep.0 h.0 (left_of (is_well_shaped a) (all_streams is_well_shaped as') g)) (shapes_kept s kinds as' bs keep.1 h.1 (right_of (is_well_shaped a) (all_streams is_well_shaped as') g))

pub all_kept : (f : Stream → Bool) → ((s : Setting) (k : Kind) (a b : Stream) → FilledStream s k a b → f a ≡ f b)
    → (s : Setting) (kinds : List (Option Kind)) (as' bs : List Stream) → FilledStreams s kinds as' bs → all_streams f as' ≡ all_streams f bs
all_kept f same s kinds [] [] h = refl
all_kept f same s kinds (a ∷ as') (b ∷ bs) h = and_same _ _ _ _ (same s (unwrap_or (unwrap_or (slice_get kinds 0) None) kind.Int64) a b h.0) (all_kept f same s (drop 1 kinds) as' bs h.1)
all_kept f same s kinds [] (b ∷ bs) h = absurd h
all_kept f same s kinds (a ∷ as') [] h = absurd h

pub few_parameters_kept : (s : Setting) (kinds : List (Option Kind)) (as' bs : List Stream) → FilledStreams s kinds as' bs → all_streams has_few_parameters as' ≡ all_streams has_few_parameters bs
few_parameters_kept s kinds as' bs h = all_kept has_few_parameters few_kept s kinds as' bs h

pub rates_kept : (s : Setting) (kinds : List (Option Kind)) (as' bs : List Stream) → FilledStreams s kinds as' bs → all_streams is_stream_paced_in_range as' ≡ all_streams is_stream_paced_in_range bs
rates_kept s kinds as' bs h = all_kept is_stream_paced_in_range stream_range s kinds as' bs h

pub over_inputs_kept : (s : Setting) (kinds : List (Option Kind)) (as' bs : List Stream) → FilledStreams s kinds as' bs → AreOverInputs as' → AreOverInputs bs
over_inputs_kept s kinds [] [] h g = tt
over_inputs_kept s kinds (a ∷ as') (b ∷ bs) h g =
    (clause_over _ _ a.spawn b.spawn h.0.spawn g.0, clause_over _ _ a.eval b.eval h.0.eval g.1, clause_over _ _ a.close b.close h.0.close g.2, over_inputs_kept s (drop 1 kinds) as' bs h.1 g.3)
over_inputs_kept s kinds [] (b ∷ bs) h g = absurd h
over_inputs_kept s kinds (a ∷ as') [] h g = absurd h

pub length_kept : (s : Setting) (kinds : List (Option Kind)) (as' bs : List Stream) → FilledStreams s kinds as' bs → length as' ≡ length bs
length_kept s kinds [] [] h = refl
length_kept s kinds (a ∷ as') (b ∷ bs) h = ap suc (length_kept s (drop 1 kinds) as' bs h.1)
length_kept s kinds [] (b ∷ bs) h = absurd h
length_kept s kinds (a ∷ as') [] h = absurd h

chosen_length : (p q : Bool) (x y : Stream) (xs ys : List Stream) → p ≡ q → length xs ≡ length ys → length (cond p (x ∷ xs) xs) ≡ length (cond q (y ∷ ys) ys)
chosen_length true true x y xs ys e h = ap suc h
chosen_length false false x y xs ys e h = h
chosen_length true false x y xs ys e h = never e
chosen_length false true x y xs ys e h = never_back e

pub inputs_kept : (s : Setting) (kinds : List (Option Kind)) (as' bs : List Stream) → FilledStreams s kinds as' bs → length (filter is_input as') ≡ length (filter is_input bs)
inputs_kept s kinds [] [] h = refl
inputs_kept s kinds (a ∷ as') (b ∷ bs) h = chosen_length (is_input a) (is_input b) a b _ _ (input_kept s (unwrap_or (unwrap_or (slice_get kinds 0) None) kind.Int64) a b h.0) (inputs_kept s (drop 1 kinds) as' bs h.1)
inputs_kept s kinds [] (b ∷ bs) h = absurd h
inputs_kept s kinds (a ∷ as') [] h = absurd h

chosen_names : (p q : Bool) (x y : List ℕ) (xs ys : List (List ℕ)) → p ≡ q → x ≡ y → xs ≡ ys → (if p then xs else x ∷ xs) ≡ (if q then ys else y ∷ ys)
chosen_names p q x y xs ys e f g = ap (λ b. if b then xs else x ∷ xs) e ∙ (ap (λ z. if q then xs else z ∷ xs) f ∙ ap (λ z. if q then z else y ∷ z) g)

pub names_kept : (s : Setting) (kinds : List (Option Kind)) (as' bs : List Stream) → FilledStreams s kinds as' bs → declared_names as' ≡ declared_names bs
names_kept s kinds [] [] h = refl
names_kept s kinds (a ∷ as') (b ∷ bs) h = chosen_names (is_trigger a) (is_trigger b) a.name b.name _ _ (trigger_kept s (unwrap_or (unwrap_or (slice_get kinds 0) None) kind.Int64) a b h.0) h.0.name (names_kept s (drop 1 kinds) as' bs h.1)
names_kept s kinds [] (b ∷ bs) h = absurd h
names_kept s kinds (a ∷ as') [] h = absurd h

pub reads_kept : (s : Setting) (kinds : List (Option Kind)) (as' bs : List Stream) → FilledStreams s kinds as' bs → (n count : ℕ) → is_read_of (slice_get as' n) count ≡ is_read_of (slice_get bs n) count
reads_kept s kinds [] [] h n count = refl
reads_kept s kinds (a ∷ as') (b ∷ bs) h zero count = read_kept s (unwrap_or (unwrap_or (slice_get kinds 0) None) kind.Int64) a b h.0 count
reads_kept s kinds (a ∷ as') (b ∷ bs) h (suc n) count = reads_kept s (drop 1 kinds) as' bs h.1 n count
reads_kept s kinds [] (b ∷ bs) h n count = absurd h
reads_kept s kinds (a ∷ as') [] h n count = absurd h

pub kinds_noted : (s : Setting) (kinds : List (Option Kind)) (as' bs : List Stream) → FilledStreams s kinds as' bs → all_streams (λ t. has_kind t.kind) bs ≡ true
kinds_noted s kinds [] [] h = refl
kinds_noted s kinds (a ∷ as') (b ∷ bs) h = and_from _ _ (has_found s (unwrap_or (unwrap_or (slice_get kinds 0) None) kind.Int64) a b h.0) (kinds_noted s (drop 1 kinds) as' bs h.1)
kinds_noted s kinds [] (b ∷ bs) h = absurd h
kinds_noted s kinds (a ∷ as') [] h = absurd h
