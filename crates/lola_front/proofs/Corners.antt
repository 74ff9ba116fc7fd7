-- Small specifications on which the laws' premises are tried.
use Rattle.std.proofs.Common.{◌≡◌, ℕ, List, [], ◌∷◌, Option, Some, None, pos, refl, arith}
use Rattle.lola_value.specs.declared.value.Kind.{Kind}
use Rattle.lola_value.specs.declared.value.Kind.TheVariants as kind
use Rattle.lola_value.specs.declared.value.Value.TheVariants as value
use Rattle.lola_model.specs.Named.{IsNamed}
use Rattle.lola_model.specs.Typed.{IsTyped}
use Rattle.lola_model.specs.declared.expr.Binary.TheVariants as binary
use Rattle.lola_model.specs.declared.expr.Expr.{Expr}
use Rattle.lola_model.specs.declared.expr.Expr.TheVariants.{Literal, Both'}
use Rattle.lola_model.specs.declared.spec.Constant.{Constant}
use Rattle.lola_model.specs.declared.spec.Spec.{Spec}
use Rattle.lola_model.specs.declared.spec.Stream.{Stream}
use Rattle.lola_model.specs.declared.spec.Sort.TheVariants as sort
use Rattle.lola_model.proofs.Build.{Around}
use Rattle.lola_types.specs.Refused.{kind_refusals, out_of_range}
use Rattle.lola_types.specs.Filled.{IsFilled}
use Rattle.lola_model.specs.Constants.{NotesConstants}
use Rattle.lola_front.proofs.Bools.{never_back}

-- a number, whose kind is noted or not
abbrev number : Option Kind → ℕ → ℕ → Expr
number k at n = Literal (record { at = at; kind = k }) (value.Int (pos n))

-- an output of Int8
abbrev output : Expr → Stream
output e = record {
  name = [];
  place = 0;
  sort = sort.Output;
  message = [];
  kind = Some kind.Int8;
  parameters = [];
  spawn = None;
  eval = Some (record { place = 0; pace = None; when = None; when_at = 0; with = e ∷ []; with_at = 0 ∷ [] });
  close = None;
}

abbrev spec_of : List Constant → Expr → Spec
spec_of cs e = record { streams = output e ∷ []; constants = cs; windows = []; texts = []; refused = [] }

abbrev constant : ℕ → Constant
constant n = record { kind = kind.Int8; literal = value.Int (pos n); place = 4; before = 3 }

-- output x: Int8 := 300, where the literal has Int8 noted and stands for no constant
abbrev stray : Spec
stray = spec_of [] (number (Some kind.Int8) 1 300)

stray_named : IsNamed stray
stray_named = record {
  few_streams = omega arith;
  few_inputs = omega arith;
  few_parameters = refl;
  shapes = refl;
  names = refl;
  numbers = record { clauses = (tt, (tt, (tt, tt)), tt, tt); targets = tt };
  resolved = refl;
  offsets = refl;
  window_numbers = refl;
  window_places = refl;
  texts = refl;
  text_numbers = refl;
  texts_used = λ i lt. absurd (omega (arith, lt));
  ranges = λ e. record { rates = refl; offsets = refl; window_spans = refl };
  formulas = (tt, tt, tt, tt);
}

stray_filled : IsFilled stray stray
stray_filled = record {
  streams = (
    record {
      name = refl;
      place = refl;
      sort = refl;
      message = refl;
      kind = refl;
      parameters = refl;
      spawn = tt;
      eval = record { place = refl; pacing = tt; condition = tt; condition_place = refl; expressions = ((refl, refl), tt); places = refl };
      close = tt;
    },
    tt,
  );
  constants = refl;
  windows = refl;
  texts = refl;
  refused = refl;
}

-- nothing of it is refused, and it is not typed: that noted literals stand for constants cannot be left out
not_without_constants : ((spec full : Spec) → IsNamed spec → kind_refusals spec ≡ [] → IsFilled spec full → IsTyped full) → ⊥
not_without_constants law = never_back (law stray stray stray_named refl stray_filled).typed

stray_notes : NotesConstants stray → ⊥
stray_notes h = never_back h

module _ (u : Around) where
  -- constant c: Int8 := 3, output x: Int8 := c + 1
  abbrev used : ℕ → Spec
  used n = spec_of (constant n ∷ []) (Both' (record { at = 8; kind = None }) binary.Add u (number (Some kind.Int8) 7 n) u (number None 9 1))

  used_notes : NotesConstants (used 3)
  used_notes = refl

  used_accepted : kind_refusals (used 3) ≡ []
  used_accepted = refl

  -- .. of 300: at the constant's literal
  used_refused : kind_refusals (used 300) ≡ out_of_range 4
  used_refused = refl
