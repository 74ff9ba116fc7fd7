-- What is asked for can be met, and cannot be left out.
use Rattle.std.proofs.Common.{◌≡◌, ℕ, pos, arith, refl, List, [], ◌∷◌, Some, None, false, true}
use Rattle.std.specs.Prelude.{codes}
use Rattle.lola_value.specs.declared.value.Kind.TheVariants as kind
use Rattle.lola_value.specs.declared.value.Value.TheVariants as value
use Rattle.lola_parser_grammar.specs.declared.literals.Name.{Name}
use Rattle.lola_parser_grammar.specs.declared.literals.Value.TheVariants as written
use Rattle.lola_parser_grammar.specs.declared.declarations.Declaration.{Declaration}
use Rattle.lola_parser_grammar.specs.declared.declarations.Declaration.TheVariants as d
use Rattle.lola_parser_grammar.specs.declared.expressions.Access.TheVariants as a
use Rattle.lola_parser_grammar.specs.declared.expressions.Expr.TheVariants as e
use Rattle.lola_model.specs.Named.{IsNamed}
use Rattle.lola_model.specs.declared.expr.Expr.TheVariants.{Literal, Read}
use Rattle.lola_model.specs.declared.expr.Access.TheVariants as access
use Rattle.lola_model.specs.declared.expr.Arguments.TheVariants.{End}
use Rattle.lola_model.specs.declared.spec.Sort.TheVariants as sort
use Rattle.lola_model.specs.declared.spec.Spec.{Spec}
use Rattle.lola_model.specs.declared.spec.Stream.{Stream}
use Rattle.lola_names_refused.specs.Refused.{refusals_of}
use Rattle.lola_names.specs.Resolved.{place_at}
use Rattle.lola_names.specs.Specification.{Resolves}
use Rattle.lola_names.specs.Meant.{ClosesAreSpawned}
use Rattle.lola_names.proofs.Basics.{never_back}
use Rattle.lola_names.proofs.Laws.{resolved_named}
use Rattle.lola_parser_grammar.specs.declared.expressions.Expr.TheBlock as X

abbrev name : List ℕ → ℕ → Name
name text at = record { text = text; at = at }

-- output x eval with 1 close when true
abbrev unspawned : Declaration
unspawned = d.Output (record {
  at = 0;
  name = name (codes "x") 7;
  bracket = None;
  parameters = [];
  kind = None;
  spawn = None;
  eval = record { at = 9; pacing = None; when = None; with = record { at = 14; expr = e.Literal (record { value = written.Integer false 1; at = 19 }) } };
  close = Some (record { at = 21; pacing = None; when = record { at = 27; expr = e.Literal (record { value = written.Truth true; at = 32 }) } });
})

abbrev unspawned_stream : Stream
unspawned_stream = record {
  name = codes "x";
  place = 7;
  sort = sort.Output;
  message = [];
  kind = None;
  parameters = [];
  spawn = None;
  eval = Some (record { place = 9; pace = None; when = None; when_at = 0; with = Literal (place_at 19) (value.Int (pos 1)) ∷ []; with_at = 14 ∷ [] });
  close = Some (record { place = 21; pace = None; when = Some (Literal (place_at 32) (value.Bool true)); when_at = 27; with = []; with_at = [] });
}

abbrev unspawned_spec : Spec
unspawned_spec = record { streams = unspawned_stream ∷ []; constants = []; windows = []; texts = []; refused = [] }

unspawned_resolves : Resolves (unspawned ∷ []) unspawned_spec
unspawned_resolves = record {
  streams = (
    record {
      name = refl;
      place = refl;
      sort = refl;
      message = refl;
      kind = refl;
      parameters = refl;
      spawn = tt;
      eval = record { place = refl; pacing = tt; condition = tt; before = refl; result = ((refl, refl), tt); places = refl };
      close = record { place = refl; pacing = tt; condition = (refl, refl); before = refl; parameters = refl; places = refl };
    },
    refl,
  );
  constants = tt;
  refused = refl;
  window_numbers = refl;
  texts = refl;
  texts_used = λ i lt. absurd (omega (arith, lt));
  texts_in_order = refl;
}

-- nothing of it is refused, and it is not named: that a close clause has a spawn clause cannot be left out
not_without_spawned : ((ds : List Declaration) (spec : Spec) → refusals_of ds ≡ [] → Resolves ds spec → IsNamed spec) → ⊥
not_without_spawned law = never_back (law (unspawned ∷ []) unspawned_spec refl unspawned_resolves).shapes

unspawned_is_left_out : ClosesAreSpawned (unspawned ∷ []) → ⊥
unspawned_is_left_out h = never_back h.0

-- input a: Int64 constant c: Int64 := 2 output b := a
abbrev used : List Declaration
used =
    d.Inputs (record { at = 0; inputs = record { name = name (codes "a") 6; kind = name (codes "Int64") 9 } ∷ [] })
    ∷ d.Constant (record { at = 15; name = name (codes "c") 24; kind = name (codes "Int64") 27; before = 33; literal = record { value = written.Integer false 2; at = 36 } })
    ∷ d.Output (record {
      at = 38;
      name = name (codes "b") 45;
      bracket = None;
      parameters = [];
      kind = None;
      spawn = None;
      eval = record { at = 47; pacing = None; when = None; with = record { at = 47; expr = e.Reference (name (codes "a") 50) None [] a.Direct } };
      close = None;
    })
    ∷ []

abbrev used_streams : List Stream
used_streams =
    record { name = codes "a"; place = 6; sort = sort.Input; message = []; kind = Some kind.Int64; parameters = []; spawn = None; eval = None; close = None }
    ∷ record {
      name = codes "b";
      place = 45;
      sort = sort.Output;
      message = [];
      kind = None;
      parameters = [];
      spawn = None;
      eval = Some (record { place = 47; pace = None; when = None; when_at = 0; with = Read (place_at 50) 0 access.Direct End ∷ []; with_at = 47 ∷ [] });
      close = None;
    }
    ∷ []

abbrev used_spec : Spec
used_spec = record { streams = used_streams; constants = record { kind = kind.Int64; literal = value.Int (pos 2); place = 36; before = 33 } ∷ []; windows = []; texts = []; refused = [] }

used_closes : ClosesAreSpawned used
used_closes = (tt, tt)

used_accepted : refusals_of used ≡ []
unfolding X.shape-the_row-Expr-1 X.hidden-the_row-Expr-1 denote.Hole.Carrier.hidden denote.Hole.Carrier.shown denote.Hole.Carrier.roll denote.Hole.Carrier.out
used_accepted = refl

used_resolves : Resolves used used_spec
unfolding X.shape-the_row-Expr-1 X.hidden-the_row-Expr-1 denote.Hole.Carrier.hidden denote.Hole.Carrier.shown denote.Hole.Carrier.roll denote.Hole.Carrier.out
used_resolves = record {
  streams = (
    _,
    refl,
    (
      record {
        name = refl;
        place = refl;
        sort = refl;
        message = refl;
        kind = refl;
        parameters = refl;
        spawn = tt;
        eval = record { place = refl; pacing = tt; condition = tt; before = refl; result = (((refl, refl, refl), tt), tt); places = refl };
        close = tt;
      },
      refl,
    ),
  );
  constants = (record { kind = refl; literal = refl; place = refl; before = refl }, tt);
  refused = refl;
  window_numbers = refl;
  texts = refl;
  texts_used = λ i lt. absurd (omega (arith, lt));
  texts_in_order = refl;
}

-- all that is asked for can be met
used_named : IsNamed used_spec
used_named = resolved_named used used_spec used_closes used_accepted used_resolves
