-- The texts of an expression that a tree is resolved to are in UTF-8, where what is printed of the tree are tokens of the language.
use Rattle.std.proofs.Common.{◌≡◌, ℕ, suc, List, [], ◌∷◌, ◌++◌, refl, sym, subst, inl, inr, Bool, true, false, ◌||◌, Option, Some, None, slice_get}
use Rattle.std.specs.Prelude.{codes, nat_lt, ◌==◌, if◌then◌else◌}
use Rattle.std.specs.List.{Contains}
use Rattle.std.specs.Str.{is_utf8}
use Rattle.std.proofs.lemmas.List.Elements.{Contains-append_cases}
use Rattle.std.proofs.lemmas.Str.{is_utf8-from_IsUtf8}
use Rattle.lola_value.specs.declared.value.Value.{Value}
use Rattle.lola_value.specs.declared.value.Value.TheVariants as value
use Rattle.lola_lexer.specs.declared.shape.TokenShape.TheVariants as is
use Rattle.lola_parser_grammar.specs.declared.literals.Name.{Name}
use Rattle.lola_parser_grammar.specs.declared.literals.Value.{Value as Written}
use Rattle.lola_parser_grammar.specs.declared.literals.Value.TheVariants as written
use Rattle.lola_parser_grammar.specs.declared.declarations.Constant.{Constant as TreeConstant}
use Rattle.lola_parser_grammar.specs.declared.declarations.Declaration.{Declaration}
use Rattle.lola_parser_grammar.specs.declared.declarations.Declaration.TheVariants as d
use Rattle.lola_parser_grammar.specs.declared.expressions.Access.{Access as TreeAccess}
use Rattle.lola_parser_grammar.specs.declared.expressions.Access.TheVariants as a
use Rattle.lola_parser_grammar.specs.declared.expressions.Prefix.TheVariants as pre
use Rattle.lola_parser_grammar.specs.declared.expressions.Expr.{Expr as TreeExpr, Row_of-Expr, more_of-Expr, end_of-Expr}
use Rattle.lola_parser_grammar.specs.declared.expressions.Expr.TheVariants as e
use Rattle.lola_parser_grammar.specs.Syntax.{Lexeme}
use Rattle.lola_parser_print.specs.Print as out
use Rattle.lola_parser_print.specs.Print.{lex, bare, level, heads, left_of, tightness, labelled, call}
use Rattle.lola_parser_law.specs.Places.{AreLexed}
use Rattle.lola_parser_law.proofs.Leaves.{lexed_front, lexed_back}
use Rattle.lola_parser_law.proofs.Texts.{text_utf8}
use Rattle.lola_model.specs.Named.{literal_text, text_number}
use Rattle.lola_model.specs.Parts.{listed, listed_all}
use Rattle.lola_model.specs.declared.expr.Expr.{Expr}
use Rattle.lola_model.specs.declared.expr.Expr.TheVariants.{Literal, Parameter, Read, Window, Defaults', Unary', Both', Choice'}
use Rattle.lola_model.specs.declared.expr.Arguments.{Arguments}
use Rattle.lola_model.specs.declared.expr.Arguments.TheVariants.{End, More'}
use Rattle.lola_model.specs.declared.expr.Place.{Place}
use Rattle.lola_model.specs.declared.spec.WindowSpec.{WindowSpec}
use Rattle.lola_model.proofs.Strictly.{Contains-none, Contains-cases}
use Rattle.lola_names.specs.Targets.{Targets, target_of}
use Rattle.lola_names.specs.declared.targets.Target.{Target}
use Rattle.lola_names.specs.declared.targets.Target.TheVariants as target
use Rattle.lola_names.specs.Resolved.{Standing, IsValue, IsLiteral, IsConstantUse, IsAccess, IsReference, IsResolved, AreArguments, Where, is_stream, arguments_in}

-- tokens in brackets are tokens

unbracketed : (ts : List Lexeme) → AreLexed (out.bracketed ts) → AreLexed ts
unbracketed ts h = lexed_front ts (lex is.Shut ∷ []) h.1

pub unbracketed-if : (b : Bool) (ts : List Lexeme) → AreLexed (out.bracketed_if b ts) → AreLexed ts
unbracketed-if true ts h = unbracketed ts h
unbracketed-if false ts h = h

called : (w v : List ℕ) (ts : List Lexeme) → AreLexed (call w (labelled v ts)) → AreLexed ts
called w v ts h = (unbracketed (labelled v ts) h.1.1).1.1

-- and those of a value that stands in
stood-in : (how : TreeAccess) (ts : List Lexeme) → AreLexed (out.access_or how ts) → AreLexed ts
stood-in a.Direct ts h = called (codes "defaults") (codes "to") ts h
stood-in (a.Offset dot k at) ts h = by (k == 1) h
  where
    by : (b : Bool) → AreLexed (if b then call (codes "last") (labelled (codes "or") ts) else call (codes "offset") (labelled (codes "by") (lex is.Minus ∷ out.integer k ∷ [])) ++ out.default_tail ts) → AreLexed ts
    by true g = called (codes "last") (codes "or") ts g
    by false g = called (codes "defaults") (codes "to") ts (lexed_back (call (codes "offset") (labelled (codes "by") (lex is.Minus ∷ out.integer k ∷ []))) (out.default_tail ts) g)
stood-in (a.Hold dot) ts h = called (codes "hold") (codes "or") ts h
stood-in (a.Get dot) ts h = called (codes "get") (codes "or") ts h
stood-in (a.Window dot exactly over using) ts h = called (codes "defaults") (codes "to") ts (lexed_back (out.access (a.Window dot exactly over using)) (out.default_tail ts) h)

-- what is known of the tokens of an expression: where it is a name that may be read so or else, those of its arguments alone
abbrev pub IsPrinted : TreeExpr → Type 0
IsPrinted (e.Reference' n b shape row how) = AreLexed (out.arguments row)
IsPrinted x = AreLexed (bare x)

pub printed-of : (x : TreeExpr) → AreLexed (bare x) → IsPrinted x
printed-of (e.Reference' n b shape row how) h = lexed_front (out.arguments row) (out.access how) h.1
printed-of (e.Literal l) h = h
printed-of (e.Defaults' p q r s t) h = h
printed-of (e.Prefix' op p q r) h = h
printed-of (e.Binary' op p q r s t) h = h
printed-of (e.If' p q r s t u v) h = h

-- an expression with what stands in for it
both-printed : (k : ℕ) (xs ys : List Lexeme) → AreLexed (out.fitted k 7 xs ++ out.default_tail ys) → AreLexed xs × AreLexed ys
both-printed k xs ys h = (
  unbracketed-if (nat_lt k 7) xs (lexed_front (out.fitted k 7 xs) (out.default_tail ys) h),
  called (codes "defaults") (codes "to") ys (lexed_back (out.fitted k 7 xs) (out.default_tail ys) h),
)

module _ (texts : List (List ℕ)) where
  -- a number of a text in UTF-8
  abbrev pub IsKnown : ℕ → Type 0
  IsKnown i = (t : List ℕ) × (slice_get texts i ≡ Some t) × (is_utf8 t ≡ true)

  abbrev pub AreKnown : List ℕ → Type 0
  AreKnown ids = (i : ℕ) → Contains ids i → IsKnown i

  pub known-none : AreKnown []
  known-none i c = absurd (Contains-none i c)

  pub known-both : (xs ys : List ℕ) → AreKnown xs → AreKnown ys → AreKnown (xs ++ ys)
  known-both xs ys h g i c = elim (Contains-append_cases xs ys i c) [ inl m ↦ h i m | inr m ↦ g i m ]

  literal-known : (w : Written) (v : Value) → AreLexed (out.literal w) → IsValue texts w v → AreKnown (text_number v)
  literal-known (written.Integer s n) v l h = subst (λ (x : Value). AreKnown (text_number x)) (sym h) known-none
  literal-known (written.Truth t) v l h = subst (λ (x : Value). AreKnown (text_number x)) (sym h) known-none
  literal-known (written.Text z) (value.Bool b) l h = absurd h
  literal-known (written.Text z) (value.Int n) l h = absurd h
  literal-known (written.Text z) (value.Text id) l h =
      λ i c. elim (Contains-cases id.0 i [] c) [ inl same ↦ (z, subst (λ (j : ℕ). slice_get texts j ≡ Some z) same h, is_utf8-from_IsUtf8 z (text_utf8 z l.0)) | inr none ↦ absurd (Contains-none i none) ]

  is-literal : (w : Written) (place : Place) (r : Expr) → AreLexed (out.literal w) → IsLiteral texts place w r → AreKnown (listed literal_text r)
  is-literal w p (Literal place v) l h = literal-known w v l h.1
  is-literal w p (Parameter o1 o2) l h = absurd h
  is-literal w p (Read o1 o2 o3 o4) l h = absurd h
  is-literal w p (Window o1 o2 o3) l h = absurd h
  is-literal w p (Defaults' o1 o2 o3 o4 o5) l h = absurd h
  is-literal w p (Unary' o1 o2 o3 o4) l h = absurd h
  is-literal w p (Both' o1 o2 o3 o4 o5 o6) l h = absurd h
  is-literal w p (Choice' o1 o2 o3 o4 o5 o6 o7) l h = absurd h

module _ (declarations : List Declaration) (targets : Targets) (texts : List (List ℕ)) (windows : List WindowSpec) (constants : (c : ℕ) (k : TreeConstant) → slice_get declarations c ≡ Some (d.Constant k) → AreLexed (out.literal k.literal.value)) (here : Standing) where
  -- an access, whose arguments are known
  access-known : (n : Name) (m : ℕ) (how : TreeAccess) (r : Expr) → IsAccess declarations targets texts windows here n m how r → AreKnown texts (listed_all literal_text (arguments_in r)) → AreKnown texts (listed literal_text r)
  access-known n m how (Read place k read args) h g = g
  access-known n m how (Window place w args) h g = g
  access-known n m a.Direct (Literal o1 o2) h g = absurd h
  access-known n m (a.Offset dot k at) (Literal o1 o2) h g = absurd h
  access-known n m (a.Hold dot) (Literal o1 o2) h g = absurd h
  access-known n m (a.Get dot) (Literal o1 o2) h g = absurd h
  access-known n m (a.Window dot exactly over using) (Literal o1 o2) h g = absurd h
  access-known n m a.Direct (Parameter o1 o2) h g = absurd h
  access-known n m (a.Offset dot k at) (Parameter o1 o2) h g = absurd h
  access-known n m (a.Hold dot) (Parameter o1 o2) h g = absurd h
  access-known n m (a.Get dot) (Parameter o1 o2) h g = absurd h
  access-known n m (a.Window dot exactly over using) (Parameter o1 o2) h g = absurd h
  access-known n m a.Direct (Defaults' o1 o2 o3 o4 o5) h g = absurd h
  access-known n m (a.Offset dot k at) (Defaults' o1 o2 o3 o4 o5) h g = absurd h
  access-known n m (a.Hold dot) (Defaults' o1 o2 o3 o4 o5) h g = absurd h
  access-known n m (a.Get dot) (Defaults' o1 o2 o3 o4 o5) h g = absurd h
  access-known n m (a.Window dot exactly over using) (Defaults' o1 o2 o3 o4 o5) h g = absurd h
  access-known n m a.Direct (Unary' o1 o2 o3 o4) h g = absurd h
  access-known n m (a.Offset dot k at) (Unary' o1 o2 o3 o4) h g = absurd h
  access-known n m (a.Hold dot) (Unary' o1 o2 o3 o4) h g = absurd h
  access-known n m (a.Get dot) (Unary' o1 o2 o3 o4) h g = absurd h
  access-known n m (a.Window dot exactly over using) (Unary' o1 o2 o3 o4) h g = absurd h
  access-known n m a.Direct (Both' o1 o2 o3 o4 o5 o6) h g = absurd h
  access-known n m (a.Offset dot k at) (Both' o1 o2 o3 o4 o5 o6) h g = absurd h
  access-known n m (a.Hold dot) (Both' o1 o2 o3 o4 o5 o6) h g = absurd h
  access-known n m (a.Get dot) (Both' o1 o2 o3 o4 o5 o6) h g = absurd h
  access-known n m (a.Window dot exactly over using) (Both' o1 o2 o3 o4 o5 o6) h g = absurd h
  access-known n m a.Direct (Choice' o1 o2 o3 o4 o5 o6 o7) h g = absurd h
  access-known n m (a.Offset dot k at) (Choice' o1 o2 o3 o4 o5 o6 o7) h g = absurd h
  access-known n m (a.Hold dot) (Choice' o1 o2 o3 o4 o5 o6 o7) h g = absurd h
  access-known n m (a.Get dot) (Choice' o1 o2 o3 o4 o5 o6 o7) h g = absurd h
  access-known n m (a.Window dot exactly over using) (Choice' o1 o2 o3 o4 o5 o6 o7) h g = absurd h

  constant-known : (at : ℕ) (c : ℕ) (o : Option Declaration) (r : Expr) → slice_get declarations c ≡ o → IsConstantUse texts at o r → AreKnown texts (listed literal_text r)
  constant-known at c None r q h = absurd h
  constant-known at c (Some (d.Inputs x)) r q h = absurd h
  constant-known at c (Some (d.Output x)) r q h = absurd h
  constant-known at c (Some (d.Trigger x)) r q h = absurd h
  constant-known at c (Some (d.Constant k)) r q h = is-literal texts k.literal.value _ r (constants c k q) h

  reference-known : (o : Option Target) (n : Name) (how : TreeAccess) (r : Expr) (A : Type 0) → IsReference declarations targets texts windows here o n how r → Where (is_stream o) A
      → (A → AreKnown texts (listed_all literal_text (arguments_in r))) → AreKnown texts (listed literal_text r)
  reference-known None n how r A h w g = subst (λ (x : Expr). AreKnown texts (listed literal_text x)) (sym h) (known-none texts)
  reference-known (Some (target.Input s i)) n how r A h w g = access-known n s how r h (g w)
  reference-known (Some (target.Output s)) n how r A h w g = access-known n s how r h (g w)
  reference-known (Some (target.Constant c)) n how r A h w g = constant-known n.at c (slice_get declarations c) r refl h
  reference-known (Some (target.Parameter i)) n how r A h w g = subst (λ (x : Expr). AreKnown texts (listed literal_text x)) (sym h) (known-none texts)

  mutual
    -- an expression
    pub expression-known : (x : TreeExpr) (r : Expr) → IsPrinted x → IsResolved declarations targets texts windows here x r → AreKnown texts (listed literal_text r)
    expression-known (e.Literal l) r p h = is-literal texts l.value _ r p h
    expression-known (e.Reference' n b shape row how) r p h =
        reference-known (target_of here.parameters targets n.text) n how r _ h.0 h.1 (λ g. row-known _ row (arguments_in r) p g)
    expression-known (e.Defaults' at h (more_of-Expr x end_of-Expr) i (more_of-Expr y end_of-Expr)) (Defaults' place u s v t) p g =
        let w = split x p in
        known-both texts (listed literal_text s) (listed literal_text t) (expression-known x s w.0 g.1) (expression-known y t (printed-of y w.1) g.2)
      where
        split : (x : TreeExpr) → AreLexed (bare (e.Defaults' at h (more_of-Expr x end_of-Expr) i (more_of-Expr y end_of-Expr))) → IsPrinted x × AreLexed (bare y)
        split (e.Reference' n b shape row how) l = (lexed_front (out.arguments row) (out.access_or how (bare y)) l.1, stood-in how (bare y) (lexed_back (out.arguments row) (out.access_or how (bare y)) l.1))
        split (e.Literal m) l = both-printed (level (e.Literal m)) (bare (e.Literal m)) (bare y) l
        split (e.Defaults' a1 a2 a3 a4 a5) l = both-printed (level (e.Defaults' a1 a2 a3 a4 a5)) (bare (e.Defaults' a1 a2 a3 a4 a5)) (bare y) l
        split (e.Prefix' a1 a2 a3 a4) l = both-printed (level (e.Prefix' a1 a2 a3 a4)) (bare (e.Prefix' a1 a2 a3 a4)) (bare y) l
        split (e.Binary' a1 a2 a3 a4 a5 a6) l = both-printed (level (e.Binary' a1 a2 a3 a4 a5 a6)) (bare (e.Binary' a1 a2 a3 a4 a5 a6)) (bare y) l
        split (e.If' a1 a2 a3 a4 a5 a6 a7) l = both-printed (level (e.If' a1 a2 a3 a4 a5 a6 a7)) (bare (e.If' a1 a2 a3 a4 a5 a6 a7)) (bare y) l
    expression-known (e.Defaults' at h (more_of-Expr x end_of-Expr) i (more_of-Expr y end_of-Expr)) (Literal o1 o2) p g = absurd g
    expression-known (e.Defaults' at h (more_of-Expr x end_of-Expr) i (more_of-Expr y end_of-Expr)) (Parameter o1 o2) p g = absurd g
    expression-known (e.Defaults' at h (more_of-Expr x end_of-Expr) i (more_of-Expr y end_of-Expr)) (Read o1 o2 o3 o4) p g = absurd g
    expression-known (e.Defaults' at h (more_of-Expr x end_of-Expr) i (more_of-Expr y end_of-Expr)) (Window o1 o2 o3) p g = absurd g
    expression-known (e.Defaults' at h (more_of-Expr x end_of-Expr) i (more_of-Expr y end_of-Expr)) (Unary' o1 o2 o3 o4) p g = absurd g
    expression-known (e.Defaults' at h (more_of-Expr x end_of-Expr) i (more_of-Expr y end_of-Expr)) (Both' o1 o2 o3 o4 o5 o6) p g = absurd g
    expression-known (e.Defaults' at h (more_of-Expr x end_of-Expr) i (more_of-Expr y end_of-Expr)) (Choice' o1 o2 o3 o4 o5 o6 o7) p g = absurd g
    expression-known (e.Prefix' pre.Not at h (more_of-Expr x end_of-Expr)) (Unary' place op u s) p g = expression-known x s (printed-of x (unbracketed-if (nat_lt (level x) 6) (bare x) p.1)) g.2
    expression-known (e.Prefix' pre.Negate at h (more_of-Expr x end_of-Expr)) (Unary' place op u s) p g = expression-known x s (printed-of x (unbracketed-if (heads x || nat_lt (level x) 6) (bare x) p.1)) g.2
    expression-known (e.Prefix' operator at h (more_of-Expr x end_of-Expr)) (Literal o1 o2) p g = absurd g
    expression-known (e.Prefix' operator at h (more_of-Expr x end_of-Expr)) (Parameter o1 o2) p g = absurd g
    expression-known (e.Prefix' operator at h (more_of-Expr x end_of-Expr)) (Read o1 o2 o3 o4) p g = absurd g
    expression-known (e.Prefix' operator at h (more_of-Expr x end_of-Expr)) (Window o1 o2 o3) p g = absurd g
    expression-known (e.Prefix' operator at h (more_of-Expr x end_of-Expr)) (Defaults' o1 o2 o3 o4 o5) p g = absurd g
    expression-known (e.Prefix' operator at h (more_of-Expr x end_of-Expr)) (Both' o1 o2 o3 o4 o5 o6) p g = absurd g
    expression-known (e.Prefix' operator at h (more_of-Expr x end_of-Expr)) (Choice' o1 o2 o3 o4 o5 o6 o7) p g = absurd g
    expression-known (e.Binary' operator at h (more_of-Expr x end_of-Expr) i (more_of-Expr y end_of-Expr)) (Both' place op u s v t) p g =
        let left = out.fitted (level x) (left_of operator) (bare x) in
        let right = out.fitted (level y) (suc (tightness operator)) (bare y) in
        known-both texts (listed literal_text s) (listed literal_text t)
        (expression-known x s (printed-of x (unbracketed-if (nat_lt (level x) (left_of operator)) (bare x) (lexed_front left (lex (out.shape_of operator) ∷ right) p))) g.2)
        (expression-known y t (printed-of y (unbracketed-if (nat_lt (level y) (suc (tightness operator))) (bare y) (lexed_back left (lex (out.shape_of operator) ∷ right) p).1)) g.3)
    expression-known (e.Binary' operator at h (more_of-Expr x end_of-Expr) i (more_of-Expr y end_of-Expr)) (Literal o1 o2) p g = absurd g
    expression-known (e.Binary' operator at h (more_of-Expr x end_of-Expr) i (more_of-Expr y end_of-Expr)) (Parameter o1 o2) p g = absurd g
    expression-known (e.Binary' operator at h (more_of-Expr x end_of-Expr) i (more_of-Expr y end_of-Expr)) (Read o1 o2 o3 o4) p g = absurd g
    expression-known (e.Binary' operator at h (more_of-Expr x end_of-Expr) i (more_of-Expr y end_of-Expr)) (Window o1 o2 o3) p g = absurd g
    expression-known (e.Binary' operator at h (more_of-Expr x end_of-Expr) i (more_of-Expr y end_of-Expr)) (Defaults' o1 o2 o3 o4 o5) p g = absurd g
    expression-known (e.Binary' operator at h (more_of-Expr x end_of-Expr) i (more_of-Expr y end_of-Expr)) (Unary' o1 o2 o3 o4) p g = absurd g
    expression-known (e.Binary' operator at h (more_of-Expr x end_of-Expr) i (more_of-Expr y end_of-Expr)) (Choice' o1 o2 o3 o4 o5 o6 o7) p g = absurd g
    expression-known (e.If' at h (more_of-Expr x end_of-Expr) i (more_of-Expr y end_of-Expr) j (more_of-Expr z end_of-Expr)) (Choice' place u s v t w q) p g =
        let behind = lexed_back (bare x) (lex is.Then ∷ (bare y ++ (lex is.Else ∷ bare z))) p.1 in
        known-both texts (listed literal_text s) (listed literal_text t ++ listed literal_text q)
        (expression-known x s (printed-of x (lexed_front (bare x) (lex is.Then ∷ (bare y ++ (lex is.Else ∷ bare z))) p.1)) g.1)
        (known-both texts (listed literal_text t) (listed literal_text q)
        (expression-known y t (printed-of y (lexed_front (bare y) (lex is.Else ∷ bare z) behind.1)) g.2)
        (expression-known z q (printed-of z (lexed_back (bare y) (lex is.Else ∷ bare z) behind.1).1) g.3))
    expression-known (e.If' at h (more_of-Expr x end_of-Expr) i (more_of-Expr y end_of-Expr) j (more_of-Expr z end_of-Expr)) (Literal o1 o2) p g = absurd g
    expression-known (e.If' at h (more_of-Expr x end_of-Expr) i (more_of-Expr y end_of-Expr) j (more_of-Expr z end_of-Expr)) (Parameter o1 o2) p g = absurd g
    expression-known (e.If' at h (more_of-Expr x end_of-Expr) i (more_of-Expr y end_of-Expr) j (more_of-Expr z end_of-Expr)) (Read o1 o2 o3 o4) p g = absurd g
    expression-known (e.If' at h (more_of-Expr x end_of-Expr) i (more_of-Expr y end_of-Expr) j (more_of-Expr z end_of-Expr)) (Window o1 o2 o3) p g = absurd g
    expression-known (e.If' at h (more_of-Expr x end_of-Expr) i (more_of-Expr y end_of-Expr) j (more_of-Expr z end_of-Expr)) (Defaults' o1 o2 o3 o4 o5) p g = absurd g
    expression-known (e.If' at h (more_of-Expr x end_of-Expr) i (more_of-Expr y end_of-Expr) j (more_of-Expr z end_of-Expr)) (Unary' o1 o2 o3 o4) p g = absurd g
    expression-known (e.If' at h (more_of-Expr x end_of-Expr) i (more_of-Expr y end_of-Expr) j (more_of-Expr z end_of-Expr)) (Both' o1 o2 o3 o4 o5 o6) p g = absurd g

    -- arguments
    row-known : (n : _) (row : Row_of-Expr n) (args : Arguments) → AreLexed (out.arguments row) → AreArguments declarations targets texts windows here row args → AreKnown texts (listed_all literal_text args)
    row-known n end_of-Expr End p g = known-none texts
    row-known n end_of-Expr (More' u s v others) p g = absurd g
    row-known n (more_of-Expr x rest) End p g = absurd g
    row-known n (more_of-Expr x rest) (More' u s v others) p g =
        let behind = out.further rest ++ lex is.Shut ∷ [] in
        known-both texts (listed literal_text s) (listed_all literal_text others)
        (expression-known x s (printed-of x (lexed_front (bare x) behind p.1)) g.0)
        (further-known _ rest others (lexed_front (out.further rest) (lex is.Shut ∷ []) (lexed_back (bare x) behind p.1)) g.1)

    further-known : (n : _) (row : Row_of-Expr n) (args : Arguments) → AreLexed (out.further row) → AreArguments declarations targets texts windows here row args → AreKnown texts (listed_all literal_text args)
    further-known n end_of-Expr End p g = known-none texts
    further-known n end_of-Expr (More' u s v others) p g = absurd g
    further-known n (more_of-Expr x rest) End p g = absurd g
    further-known n (more_of-Expr x rest) (More' u s v others) p g =
        known-both texts (listed literal_text s) (listed_all literal_text others)
        (expression-known x s (printed-of x (lexed_front (bare x) (out.further rest) p.1)) g.0)
        (further-known _ rest others (lexed_back (bare x) (out.further rest) p.1) g.1)
