-- Each text has declarations of whose names nothing is refused, or a refusal before that.
use Rattle.std.proofs.Common.{◌≡◌, refl, subst, ℕ, List, [], Result, Ok, Err, Option, Some, None, length, ◌⊎◌, inl, inr}
use Rattle.std.specs.List.{Contains}
use Rattle.lola_value.specs.declared.front.Refusal.{Refusal}
use Rattle.lola_value.specs.declared.front.FrontEnd.{FrontEnd}
use Rattle.lola_value.specs.declared.front.FrontEnd.TheVariants as front_end
use Rattle.lola_parser_grammar.specs.declared.declarations.Declaration.{Declaration}
use Rattle.lola_lexer.specs.Tokens.{Cut, tokens_of}
use Rattle.lola_lexer.specs.declared.token.Token.{Token}
use Rattle.lola_parser_grammar.specs.Cursor.{lexemes}
use Rattle.lola_parser.specs.Places.{Answers}
use Rattle.lola_parser.proofs.Refusing.{refuses}
use Rattle.lola_names_refused.specs.Refused as names
use Rattle.lola_model.specs.Refusals.{IsFirstIn, IsFirstOf, first_of}
use Rattle.lola_model.proofs.FirstRefusal.{is_first, same_refusal}
use Rattle.lola_model.proofs.Strictly.{Contains-none}
use Rattle.lola_model.specs.declared.plan.Plan.{Plan}
use Rattle.lola_model.specs.declared.spec.Spec.{Spec}
use Rattle.lola_front.specs.Front.{IsCut, IsRead, IsResolved, IsPlanOf, IsTokenRefusal, IsSyntaxRefusal, IsNameRefusal}
use Rattle.lola_front_law.specs.Decided.{AreNamed, IsEarlyRefusal, IsLateRefusal, IsDecided}
use Rattle.lola_front_law.proofs.ReadingLemmas.{one_tree, tree_or_refusal, one_refusal, ends}

-- a list without members has no first; one with members has one first
none_first : (rs : List Refusal) (r : Refusal) → rs ≡ [] → IsFirstIn rs r → ⊥
none_first rs r e h = Contains-none r (subst (λ (l : List Refusal). Contains l r) e h.listed)

one_first : (rs : List Refusal) (r q : Refusal) → IsFirstIn rs r → IsFirstIn rs q → r ≡ q
one_first rs r q a b = same_refusal r q (b.first r a.listed) (a.first q b.listed)

module _ (bytes : List ℕ) where
  -- a text is cut into tokens in one way, or not at all
  same_tokens : (ts us : List Token) → IsCut bytes ts → IsCut bytes us → ts ≡ us
  same_tokens ts us a b = let p = a.are in let q = b.are in cc

  not_cut : (ts : List Token) (r : Refusal) → IsCut bytes ts → IsTokenRefusal bytes r → ⊥
  not_cut ts r a e = let p = a.are in cc

  -- what is answered to the tokens of a text
  abbrev Read : List Token → Result (List Declaration) FrontEnd → Type 0
  Read ts o = Answers (lexemes bytes ts) (length bytes) o

  along : (ts us : List Token) (o : Result (List Declaration) FrontEnd) → ts ≡ us → Read ts o → Read us o
  along ts us o e h = subst (λ (l : List Token). Read l o) e h

  pub one_reading : (ds es : List Declaration) → IsRead bytes ds → IsRead bytes es → ds ≡ es
  one_reading ds es a b =
      one_tree (lexemes bytes b.tokens) (length bytes) ds es (along a.tokens b.tokens (Ok ds) (same_tokens a.tokens b.tokens a.cut b.cut) a.exact) b.exact

  read_or_refused : (ds : List Declaration) (r : Refusal) → IsRead bytes ds → IsSyntaxRefusal bytes r → ⊥
  read_or_refused ds r a b =
      tree_or_refusal (lexemes bytes b.tokens) (length bytes) ds r (along a.tokens b.tokens (Ok ds) (same_tokens a.tokens b.tokens a.cut b.cut) a.exact) b.exact

  one_syntax : (r q : Refusal) → IsSyntaxRefusal bytes r → IsSyntaxRefusal bytes q → r ≡ q
  one_syntax r q a b =
      one_refusal (lexemes bytes b.tokens) (length bytes) r q
      (along a.tokens b.tokens (Err (front_end.Refused r)) (same_tokens a.tokens b.tokens a.cut b.cut) a.exact) b.exact

  one_name : (r q : Refusal) → IsNameRefusal bytes r → IsNameRefusal bytes q → r ≡ q
  one_name r q a b =
      let same = one_reading a.declarations b.declarations a.read b.read in
      one_first (names.refusals_of b.declarations) r q (subst (λ (ds : List Declaration). IsFirstIn (names.refusals_of ds) r) same a.refused) b.refused

  -- never both
  either : (ds : List Declaration) (r : Refusal) → AreNamed bytes ds → IsEarlyRefusal bytes r → ⊥
  either ds r a (inl token) = not_cut a.read.tokens r a.read.cut token
  either ds r a (inr (inl syntax)) = read_or_refused ds r a.read syntax
  either ds r a (inr (inr name)) =
      let same = one_reading ds name.declarations a.read name.read in
      none_first (names.refusals_of name.declarations) r (subst (λ (l : List Declaration). names.refusals_of l ≡ []) same a.names) name.refused

  -- one refusal
  one_early : (r q : Refusal) → IsEarlyRefusal bytes r → IsEarlyRefusal bytes q → r ≡ q
  one_early r q (inl a) (inl b) = cc
  one_early r q (inl a) (inr (inl b)) = absurd (not_cut b.tokens r b.cut a)
  one_early r q (inl a) (inr (inr b)) = absurd (not_cut b.read.tokens r b.read.cut a)
  one_early r q (inr (inl a)) (inl b) = absurd (not_cut a.tokens q a.cut b)
  one_early r q (inr (inl a)) (inr (inl b)) = one_syntax r q a b
  one_early r q (inr (inl a)) (inr (inr b)) = absurd (read_or_refused b.declarations r b.read a)
  one_early r q (inr (inr a)) (inl b) = absurd (not_cut a.read.tokens q a.read.cut b)
  one_early r q (inr (inr a)) (inr (inl b)) = absurd (read_or_refused a.declarations q a.read b)
  one_early r q (inr (inr a)) (inr (inr b)) = one_name r q a b

  -- what is resolved has declarations of whose names nothing is refused
  not_resolved : (spec : Spec) (r : Refusal) → IsResolved bytes spec → IsEarlyRefusal bytes r → ⊥
  not_resolved spec r a early = either a.declarations r (record { read = a.read; names = a.names }) early

  no_plan : (plan : Plan) (r : Refusal) → IsPlanOf bytes plan → IsEarlyRefusal bytes r → ⊥
  no_plan plan r a early = not_resolved a.full.spec r a.full.resolved early

  no_later : (q r : Refusal) → IsLateRefusal bytes q → IsEarlyRefusal bytes r → ⊥
  no_later q r (inl kinds) early = not_resolved kinds.spec r kinds.resolved early
  no_later q r (inr (inl pacings)) early = not_resolved pacings.is_full.spec r pacings.is_full.resolved early
  no_later q r (inr (inr cycle)) early = not_resolved cycle.is_full.spec r cycle.is_full.resolved early

  -- one of the two is there
  abbrev Some_are : Type 0
  Some_are = ((ds : List Declaration) × AreNamed bytes ds) ⊎ ((r : Refusal) × IsEarlyRefusal bytes r)

  of_names : (ds : List Declaration) → IsRead bytes ds → (o : Option Refusal) → IsFirstOf (names.refusals_of ds) o → Some_are
  of_names ds read None e = inl (ds, record { read = read; names = e })
  of_names ds read (Some r) f = inr (r, inr (inr (record { declarations = ds; read = read; refused = f })))

  of_tokens : (ts : List Token) → IsCut bytes ts → ((v : List Declaration) × Read ts (Ok v)) ⊎ ((r : Refusal) × Read ts (Err (front_end.Refused r))) → Some_are
  of_tokens ts cut (inl h) =
      let read : IsRead bytes h.0 = record { tokens = ts; cut = cut; read = refuses (lexemes bytes ts) (length bytes) (Ok h.0) h.1; exact = h.1 } in
      of_names h.0 read (first_of (names.refusals_of h.0)) (is_first (names.refusals_of h.0))
  of_tokens ts cut (inr h) =
      inr (h.0, inr (inl (record { tokens = ts; cut = cut; refused = refuses (lexemes bytes ts) (length bytes) (Err (front_end.Refused h.0)) h.1; exact = h.1 })))

  of_text : (c : Cut) → tokens_of bytes ≡ c → Some_are
  of_text (Ok ts) e = of_tokens ts (record { are = e }) (ends (lexemes bytes ts) (length bytes))
  of_text (Err r) e = inr (r, inl e)

  pub decided : IsDecided bytes
  decided = record {
    is_some = of_text (tokens_of bytes) refl;
    is_either = either;
    one_tree = λ ds es a b. one_reading ds es a.read b.read;
    one_refusal = one_early;
    no_plan = no_plan;
    no_later = no_later;
  }
