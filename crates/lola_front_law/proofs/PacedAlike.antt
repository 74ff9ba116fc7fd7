-- Streams that are alike are paced alike once kinds are filled in.
use Rattle.std.proofs.Common.{◌≡◌, refl, sym, ap, subst, ◌∙◌, List, [], ◌∷◌, Option, Some, None, slice_get, drop, unwrap_or}
use Rattle.lola_value.specs.declared.value.Kind.{Kind}
use Rattle.lola_value.specs.declared.value.Kind.TheVariants as kind
use Rattle.lola_model.specs.Model.{is_input}
use Rattle.lola_model.specs.Named.{is_condition}
use Rattle.lola_model.specs.PacingRefused.{used}
use Rattle.lola_model.specs.Parts.{listed_clause}
use Rattle.lola_model.specs.declared.expr.Expr.{Expr}
use Rattle.lola_model.specs.declared.spec.Clause.{Clause}
use Rattle.lola_model.specs.declared.spec.Sort.{Sort}
use Rattle.lola_model.specs.declared.spec.Stream.{Stream}
use Rattle.lola_model.specs.declared.spec.WindowSpec.{WindowSpec}
use Rattle.lola_model.specs.declared.uses.Use.{Use}
use Rattle.lola_types.specs.Found.{Setting}
use Rattle.lola_types.specs.Refused.{with_parameters}
use Rattle.lola_types.specs.Filled.{FilledWhen, FilledClause, FilledClauses, FilledStream, FilledStreams}
use Rattle.lola_front_law.proofs.AlikeStreams.{AlikeWhen, AlikeClauses, AlikeStream, AlikeStreams}
use Rattle.lola_front_law.proofs.PacedExpressions.{followed_alike, followed_filled, used_alike, used_filled}
use Rattle.lola_front_law.proofs.PacedStreams.{SameUses, PacedClauses, PacedClause, PacedStream, PacedStreams}
use Rattle.lola_front_law.proofs.WrittenAlike.{pace_back, pace_through}

when_filled : (s : Setting) (o u : Option Expr) → FilledWhen s o u → is_condition o ≡ is_condition u
when_filled s None None h = refl
when_filled s (Some e) (Some g) h = refl
when_filled s None (Some g) h = absurd h
when_filled s (Some e) None h = absurd h

when_alike : (ws vs : List WindowSpec) (o u : Option Expr) → AlikeWhen ws vs o u → is_condition o ≡ is_condition u
when_alike ws vs None None h = refl
when_alike ws vs (Some e) (Some g) h = refl
when_alike ws vs None (Some g) h = absurd h
when_alike ws vs (Some e) None h = absurd h

module _ (ws vs : List WindowSpec) where
  -- two clauses, and what kinds are filled in of
  clause_paced : (s t : Setting) (wants others : List Kind) (c k : Clause) (e l : Clause) → FilledClause s wants c k → AlikeClauses ws vs (Some c) (Some e) → FilledClause t others e l
      → PacedClause ws vs k l
  clause_paced s t wants others c k e l x alike y = record {
    place = sym x.place ∙ (alike.place ∙ y.place);
    pacing = pace_through k.pace c.pace l.pace (pace_back c.pace k.pace x.pacing) (pace_through c.pace e.pace l.pace alike.pacing y.pacing);
    filtered = sym (when_filled s c.when k.when x.condition) ∙ (when_alike ws vs c.when e.when alike.condition ∙ when_filled t e.when l.when y.condition);
    followed = sym (followed_filled s wants c k x) ∙ (followed_alike ws vs (Some c) (Some e) alike ∙ followed_filled t others e l y);
    uses = subst (λ (us : List Use). SameUses ws vs us (listed_clause used (Some l))) (used_filled s wants c k x)
        (subst (λ (us : List Use). SameUses ws vs (listed_clause used (Some c)) us) (used_filled t others e l y) (used_alike ws vs (Some c) (Some e) alike));
  }

  clauses_paced : (s t : Setting) (wants others : List Kind) (c k e l : Option Clause) → FilledClauses s wants c k → AlikeClauses ws vs c e → FilledClauses t others e l
      → PacedClauses ws vs k l
  clauses_paced s t wants others None None None None x alike y = tt
  clauses_paced s t wants others None None None (Some l) x alike y = absurd y
  clauses_paced s t wants others None None (Some e) l x alike y = absurd alike
  clauses_paced s t wants others None (Some k) e l x alike y = absurd x
  clauses_paced s t wants others (Some c) (Some k) (Some e) (Some l) x alike y = clause_paced s t wants others c k e l x alike y
  clauses_paced s t wants others (Some c) (Some k) (Some e) None x alike y = absurd y
  clauses_paced s t wants others (Some c) (Some k) None l x alike y = absurd alike
  clauses_paced s t wants others (Some c) None e l x alike y = absurd x

  input_same : (a b : Stream) → a.sort ≡ b.sort → is_input a ≡ is_input b
  input_same a b e = ap (λ (x : Sort). is_input (record a { sort = x })) e

  stream_paced : (s t : Setting) (i j : Kind) (a k b l : Stream) → FilledStream s i a k → AlikeStream ws vs a b → FilledStream t j b l → PacedStream ws vs k l
  stream_paced s t i j a k b l x alike y = record {
    place = sym x.place ∙ (alike.place ∙ y.place);
    input = input_same k l (sym x.sort ∙ (alike.sort ∙ y.sort));
    spawn = clauses_paced (with_parameters s []) (with_parameters t []) a.parameters b.parameters a.spawn k.spawn b.spawn l.spawn x.spawn alike.spawn y.spawn;
    eval = clauses_paced (with_parameters s a.parameters) (with_parameters t b.parameters) (i ∷ []) (j ∷ []) a.eval k.eval b.eval l.eval x.eval alike.eval y.eval;
    close = clauses_paced (with_parameters s a.parameters) (with_parameters t b.parameters) [] [] a.close k.close b.close l.close x.close alike.close y.close;
  }

  pub streams_paced : (s t : Setting) (is js : List (Option Kind)) (as' ks bs ls : List Stream) → FilledStreams s is as' ks → AlikeStreams ws vs as' bs → FilledStreams t js bs ls
      → PacedStreams ws vs ks ls
  streams_paced s t is js [] [] [] [] x alike y = tt
  streams_paced s t is js [] [] [] (l ∷ ls) x alike y = absurd y
  streams_paced s t is js [] [] (b ∷ bs) ls x alike y = absurd alike
  streams_paced s t is js [] (k ∷ ks) bs ls x alike y = absurd x
  streams_paced s t is js (a ∷ as') (k ∷ ks) (b ∷ bs) (l ∷ ls) x alike y = (
    stream_paced s t (unwrap_or (unwrap_or (slice_get is 0) None) kind.Int64) (unwrap_or (unwrap_or (slice_get js 0) None) kind.Int64) a k b l x.0 alike.0 y.0,
    streams_paced s t (drop 1 is) (drop 1 js) as' ks bs ls x.1 alike.1 y.1,
  )
  streams_paced s t is js (a ∷ as') (k ∷ ks) (b ∷ bs) [] x alike y = absurd y
  streams_paced s t is js (a ∷ as') (k ∷ ks) [] ls x alike y = absurd alike
  streams_paced s t is js (a ∷ as') [] bs ls x alike y = absurd x
