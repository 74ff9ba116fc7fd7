-- Streams that are alike, whose windows have the same numbers and whose texts have, have one plain form.
use Rattle.std.proofs.Common.{◌≡◌, sym, ap, ◌∙◌, refl, ℕ, List, [], ◌∷◌, ◌++◌, Option, Some, None, map, append_assoc}
use Rattle.std.specs.Option.{option_map}
use Rattle.lola_value.specs.declared.value.Value.{Value}
use Rattle.lola_value.specs.declared.value.Value.TheVariants as value
use Rattle.lola_model.specs.Named.{window_number}
use Rattle.lola_model.specs.Parts.{listed, listed_all, listed_when, listed_with, listed_clause, listed_stream, listed_streams}
use Rattle.lola_model.specs.declared.expr.Arguments.{Arguments}
use Rattle.lola_model.specs.declared.expr.Arguments.TheVariants.{End, More'}
use Rattle.lola_model.specs.declared.expr.Expr.{Expr}
use Rattle.lola_model.specs.declared.expr.Expr.TheVariants.{Literal, Parameter, Read, Window, Defaults', Unary', Both', Choice'}
use Rattle.lola_model.specs.declared.spec.Clause.{Clause}
use Rattle.lola_model.specs.declared.spec.Stream.{Stream}
use Rattle.lola_model.specs.declared.spec.WindowSpec.{WindowSpec}
use Rattle.lola_front_law.specs.Alike.{plain, plain_all, plain_clause, plain_stream}
use Rattle.lola_front_law.proofs.AlikeKinds.{two}
use Rattle.lola_front_law.proofs.AlikeStreams.{AlikeWhenBy, AlikeWithBy, AlikeClausesBy, AlikeStreamBy, AlikeStreamsBy}
use Rattle.lola_front_law.proofs.AlikeTrees.{SameValueBy, AlikeBy, AlikeAllBy}
use Rattle.lola_front_law.proofs.PlainShapes.{same_clause, same_stream, pace_plain}

apart : (a b c d xs ys : List ℕ) → (a ++ b) ++ xs ≡ (c ++ d) ++ ys → a ++ (b ++ xs) ≡ c ++ (d ++ ys)
apart a b c d xs ys e = sym (append_assoc a b xs) ∙ (e ∙ append_assoc c d ys)

module _ (T : ℕ → ℕ → Type 0) (one : (i j : ℕ) → T i j → i ≡ j) (ws vs : List WindowSpec) where
  value_same : (v w : Value) → SameValueBy T v w → v ≡ w
  value_same (value.Int y) (value.Int z) h = ap value.Int h
  value_same (value.Bool b) (value.Bool c) h = ap value.Bool h
  value_same (value.Text i) (value.Text j) h = ap (λ (n : ℕ). value.Text (record { 0 = n })) (one i.0 j.0 h)
  value_same _ _ h = absurd h

  mutual
    expr_plain : (e f : Expr) → AlikeBy T ws vs e f → (xs ys : List ℕ) → listed window_number e ++ xs ≡ listed window_number f ++ ys → (plain e ≡ plain f) × (xs ≡ ys)
    expr_plain (Literal p v) (Literal q w) h xs ys e = (two Literal p q v w h.0 (value_same v w h.1), e)
    expr_plain (Parameter p i) (Parameter q j) h xs ys e = (two Parameter p q i j h.0 h.1, e)
    expr_plain (Read p n how args) (Read q m why brgs) h xs ys e =
        let rest = all_plain args brgs h.3 xs ys e in (cc (h.0, h.1, h.2, rest.0), rest.1)
    expr_plain (Window p n args) (Window q m brgs) h xs ys e =
        let whole : n ∷ (listed_all window_number args ++ xs) ≡ m ∷ (listed_all window_number brgs ++ ys) = e in
        let first : n ≡ m = cc whole in
        let others : listed_all window_number args ++ xs ≡ listed_all window_number brgs ++ ys = cc whole in
        let rest = all_plain args brgs h.2 xs ys others in
        (cc (h.0, first, rest.0), rest.1)
    expr_plain (Defaults' p u a v b) (Defaults' q x c y d) h xs ys e =
        let l = expr_plain a c h.1 (listed window_number b ++ xs) (listed window_number d ++ ys) (apart _ _ _ _ xs ys e) in
        let r = expr_plain b d h.2 xs ys l.1 in
        (cc (h.0, l.0, r.0), r.1)
    expr_plain (Unary' p s u a) (Unary' q r x c) h xs ys e = let l = expr_plain a c h.2 xs ys e in (cc (h.0, h.1, l.0), l.1)
    expr_plain (Both' p s u a v b) (Both' q o x c y d) h xs ys e =
        let l = expr_plain a c h.2 (listed window_number b ++ xs) (listed window_number d ++ ys) (apart _ _ _ _ xs ys e) in
        let r = expr_plain b d h.3 xs ys l.1 in
        (cc (h.0, h.1, l.0, r.0), r.1)
    expr_plain (Choice' p u t v a w b) (Choice' q x g y c z d) h xs ys e =
        let k = expr_plain t g h.1 ((listed window_number a ++ listed window_number b) ++ xs) ((listed window_number c ++ listed window_number d) ++ ys) (apart _ _ _ _ xs ys e) in
        let l = expr_plain a c h.2 (listed window_number b ++ xs) (listed window_number d ++ ys) (apart _ _ _ _ xs ys k.1) in
        let r = expr_plain b d h.3 xs ys l.1 in
        (cc (h.0, k.0, l.0, r.0), r.1)
    expr_plain _ _ h xs ys e = absurd h

    all_plain : (args brgs : Arguments) → AlikeAllBy T ws vs args brgs → (xs ys : List ℕ) → listed_all window_number args ++ xs ≡ listed_all window_number brgs ++ ys
        → (plain_all args ≡ plain_all brgs) × (xs ≡ ys)
    all_plain End End h xs ys e = (refl, e)
    all_plain (More' u a v rest) (More' x c y more) h xs ys e =
        let l = expr_plain a c h.0 (listed_all window_number rest ++ xs) (listed_all window_number more ++ ys) (apart _ _ _ _ xs ys e) in
        let r = all_plain rest more h.1 xs ys l.1 in
        (cc (l.0, r.0), r.1)
    all_plain _ _ h xs ys e = absurd h

  when_plain : (o u : Option Expr) → AlikeWhenBy T ws vs o u → (xs ys : List ℕ) → listed_when window_number o ++ xs ≡ listed_when window_number u ++ ys
      → (option_map plain o ≡ option_map plain u) × (xs ≡ ys)
  when_plain None None h xs ys e = (refl, e)
  when_plain (Some a) (Some b) h xs ys e = let l = expr_plain a b h xs ys e in (ap Some l.0, l.1)
  when_plain _ _ h xs ys e = absurd h

  with_plain : (es fs : List Expr) → AlikeWithBy T ws vs es fs → (xs ys : List ℕ) → listed_with window_number es ++ xs ≡ listed_with window_number fs ++ ys
      → (map plain es ≡ map plain fs) × (xs ≡ ys)
  with_plain [] [] h xs ys e = (refl, e)
  with_plain (a ∷ es) (b ∷ fs) h xs ys e =
      let l = expr_plain a b h.0 (listed_with window_number es ++ xs) (listed_with window_number fs ++ ys) (apart _ _ _ _ xs ys e) in
      let r = with_plain es fs h.1 xs ys l.1 in
      (two (λ (x : Expr) (rest : List Expr). x ∷ rest) _ _ _ _ l.0 r.0, r.1)
  with_plain _ _ h xs ys e = absurd h

  clause_plain : (c d : Option Clause) → AlikeClausesBy T ws vs c d → (xs ys : List ℕ) → listed_clause window_number c ++ xs ≡ listed_clause window_number d ++ ys
      → (option_map plain_clause c ≡ option_map plain_clause d) × (xs ≡ ys)
  clause_plain None None h xs ys e = (refl, e)
  clause_plain (Some c) (Some d) h xs ys e =
      let l = when_plain c.when d.when h.condition (listed_with window_number c.with ++ xs) (listed_with window_number d.with ++ ys) (apart _ _ _ _ xs ys e) in
      let r = with_plain c.with d.with h.expressions xs ys l.1 in
      (ap Some (same_clause (plain_clause c) (plain_clause d) h.place (pace_plain c.pace d.pace h.pacing) l.0 h.before r.0 h.places), r.1)
  clause_plain _ _ h xs ys e = absurd h

  stream_plain : (a b : Stream) → AlikeStreamBy T ws vs a b → (xs ys : List ℕ) → listed_stream window_number a ++ xs ≡ listed_stream window_number b ++ ys
      → (plain_stream a ≡ plain_stream b) × (xs ≡ ys)
  stream_plain a b h xs ys e =
      let k = clause_plain a.spawn b.spawn h.spawn ((listed_clause window_number a.eval ++ listed_clause window_number a.close) ++ xs)
      ((listed_clause window_number b.eval ++ listed_clause window_number b.close) ++ ys) (apart _ _ _ _ xs ys e) in
      let l = clause_plain a.eval b.eval h.eval (listed_clause window_number a.close ++ xs) (listed_clause window_number b.close ++ ys) (apart _ _ _ _ xs ys k.1) in
      let r = clause_plain a.close b.close h.close xs ys l.1 in
      (same_stream (plain_stream a) (plain_stream b) h.name h.place h.sort h.message h.kind h.parameters k.0 l.0 r.0, r.1)

  pub streams_plain : (as' bs : List Stream) → AlikeStreamsBy T ws vs as' bs → listed_streams window_number as' ≡ listed_streams window_number bs → map plain_stream as' ≡ map plain_stream bs
  streams_plain [] [] h e = refl
  streams_plain (a ∷ as') (b ∷ bs) h e =
      let l = stream_plain a b h.0 (listed_streams window_number as') (listed_streams window_number bs) e in
      two (λ (x : Stream) (rest : List Stream). x ∷ rest) _ _ _ _ l.0 (streams_plain as' bs h.1 l.1)
  streams_plain _ _ h e = absurd h
