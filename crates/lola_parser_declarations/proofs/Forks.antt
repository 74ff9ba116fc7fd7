-- What is read behind a bracket that opens a list or an expression.
use Rattle.std.proofs.Common.{◌≡◌, ℕ, suc, ◌-◌, ◌≤◌, ◌<◌, true, false, List, [], ◌∷◌, length, drop, Ok, Err, refl, ap, arith}
use Rattle.std.proofs.lemmas.List.{length-append}
use Rattle.lola_parser_grammar.specs.declared.clauses.Part.{Part}
use Rattle.lola_parser_grammar.specs.declared.expressions.Expr.{Expr}
use Rattle.lola_parser_grammar.specs.Syntax.{Lexeme, Terminal, Syntax, Fork, Map, starts, first, Unexpected, TooDeep, Outcome, ◌>>=◌, last_nesting, max_nestings, read}
use Rattle.lola_parser_grammar.proofs.Laws.{sound}
use Rattle.lola_parser_grammar.specs.Grammar.{Parts, placed, given}

pub shorter : {A : Type 0} (s : Syntax A) (m : ℕ) (ts : List Lexeme) (x : A) (i : ℕ) (mid : List Lexeme) → read s m ts ≡ Ok (x, i, mid) → length mid ≤ length ts
shorter s m ts x i mid h = let p = sound s m ts x i mid h in omega (arith, ap length p.1, length-append p.0 mid)

module _ (ks : List Terminal) (a : Syntax Expr) (b c : Syntax Parts) (bracket at m : ℕ) (ts : List Lexeme) (x : Expr) (i : ℕ) (mid : List Lexeme) (was : read a max_nestings ts ≡ Ok (x, i, mid)) where
  abbrev pairing : Parts → ℕ → List Lexeme → Outcome (Expr × Parts)
  pairing y j end = Ok ((x, y), j, end)

  abbrev placing : Expr × Parts → ℕ → List Lexeme → Outcome (List Part)
  placing p j end = Ok (placed bracket at p, j, end)

  abbrev giving : Parts → ℕ → List Lexeme → Outcome (List Part)
  giving g j end = Ok (given x bracket at g, j, end)

  after_rest : (o : Outcome Parts) → ((o >>= pairing) >>= placing) ≡ (o >>= giving)
  after_rest (Ok p) = refl
  after_rest (Err d) = refl

  pub fork_list : starts (first b) mid ≡ true → read (Map (placed bracket at) (Fork ks a b c)) m ts ≡ read (Map (given x bracket at) b) i mid
  unfolding read
  fork_list h = rw (was, h) (after_rest (read b i mid))

  pub fork_stops : starts (first b) mid ≡ false → starts (first c) mid ≡ false → read (Map (placed bracket at) (Fork ks a b c)) m ts ≡ Err (Unexpected mid)
  unfolding read
  fork_stops h k = rw (was, h, k) refl

  pub fork_deep : starts (first b) mid ≡ false → starts (first c) mid ≡ true → i ≡ 0 → read (Map (placed bracket at) (Fork ks a b c)) m ts ≡ Err (TooDeep (last_nesting ks (length ts - length mid) mid ts))
  unfolding read
  fork_deep h k z = rw (was, h, k, z) refl

  pub fork_one : (j : ℕ) → starts (first b) mid ≡ false → starts (first c) mid ≡ true → i ≡ suc j → read (Map (placed bracket at) (Fork ks a b c)) m ts ≡ read (Map (given x bracket at) c) j mid
  unfolding read
  fork_one j h k e = rw (was, h, k, e) (after_rest (read c j mid))
