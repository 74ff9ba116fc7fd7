use Rattle.std.proofs.Common.{List, ◌∷◌, [], ◌++◌, ◌≡◌, ◌-◌, ◌+◌, subst, length, take, drop, refl, sym, ap, ap₂, ◌∙◌, append_assoc}
use Rattle.std.specs.Prelude.{codes, nat_lt}
use Rattle.lola_lexer.specs.declared.shape.TokenShape.TheVariants as is
use Rattle.lola_parser_grammar.specs.Syntax.{Lexeme}
use Rattle.lola_parser_print.specs.Print as out
use Rattle.lola_parser_print.specs.Print.{lex, bare, print, second, spelled_out}
use Rattle.lola_parser_print.proofs.Writing.{ends_more, ends_bytes, adds_more, fitted_parts, spelled-append, further_more, args_whole}
use Rattle.lola_parser_print.proofs.Equations.{bare-Reference, bare-Defaults, default_of-Reference, IsOther, default_of-other, bare-Prefix, bare-Binary, bare-If}
use Rattle.lola_parser_print.proofs.expressions.+printing.Goals as goal

pub arguments-returns : goal.arguments-returns
arguments-returns t c =
    let xs = c.args.xs.now in
    let x = c.index-xs-0.result in
    let others = out.further_list (take c.loop-x.x-index (take (length xs - 1) (drop 1 xs))) in
    let two = adds_more _ _ _ (lex is.Open ∷ bare x) others c.in_ok-keyed.ensures c.loop-x.invariant in
    ends_more c.append.result _ _ _ ((lex is.Open ∷ bare x) ++ others) (lex is.Shut ∷ []) (out.argument_list xs)
    (args_whole xs x c.loop-x.x-index c.if-is_empty.ensures c.index-xs-0.is c.loop-x-test.false) two c.append.ensures.ok

pub arguments-loop-x-preserved : goal.arguments-loop-x-preserved
arguments-loop-x-preserved t c =
    let items = take (length c.args.xs.now - 1) (drop 1 c.args.xs.now) in
    let x = c.x-item.result in
    let front = out.further_list (take c.loop-x.x-index items) in
    let same : front ++ (lex is.Comma ∷ bare x) ≡ out.further_list (take (c.loop-x.x-index + 1) items) =
    ap (λ z. front ++ (lex is.Comma ∷ bare z)) c.x-item.is ∙ sym (further_more items c.loop-x.x-index x c.loop-x-test.true) in
    subst (λ (ts : List Lexeme). out.Adds ts c.keyed.new.to c.keyed-in-loop-x.new.to) same
    (adds_more _ _ _ front (lex is.Comma ∷ bare x) c.loop-x.invariant c.in_ok-keyed-2.ensures)

pub bare-returns-in_ok-named-in-Reference : goal.bare-returns-in_ok-named-in-Reference
bare-returns-in_ok-named-in-Reference t c =
    let r = c.in-Reference in
    let xs = c.as_slice.result.now in
    let same : (out.name r.name ∷ out.argument_list xs) ++ out.access r.how ≡ bare c.args.x.now =
    ap (λ l. out.name r.name ∷ (out.argument_list l ++ out.access r.how)) c.as_slice.ensures ∙ sym (bare-Reference r.name r.field-1 r.xs r.how) ∙ ap bare (sym r.is) in
    ends_more c.access.result _ _ _ (out.name r.name ∷ out.argument_list xs) (out.access r.how) (bare c.args.x.now) same c.in_ok-named-in-Reference.ensures c.access.ensures

pub bare-returns-in_ok-named-in-Reference-get : goal.bare-returns-in_ok-named-in-Reference-get
bare-returns-in_ok-named-in-Reference-get t c =
    let d = c.in-Defaults in
    let r = c.in-Reference-get in
    let xs = c.as_slice-in-Reference-get.result.now in
    let y = c.get-in-Reference-get.result.now in
    let inner : d.x ≡ _ = sym c.get.ensures ∙ r.is in
    let same : (out.name r.name ∷ out.argument_list xs) ++ out.access_or r.how (bare y) ≡ bare c.args.x.now =
    ap₂ (λ l z. out.name r.name ∷ (out.argument_list l ++ out.access_or r.how (bare z))) c.as_slice-in-Reference-get.ensures c.get-in-Reference-get.ensures
    ∙ sym (default_of-Reference r.name r.field-1 r.xs r.how d.y) ∙ ap (λ z. out.default_of z d.y) (sym inner)
    ∙ sym (bare-Defaults d.field-0 d.x d.y) ∙ ap bare (sym d.is) in
    ends_more c.access_or.result _ _ _ (out.name r.name ∷ out.argument_list xs) (out.access_or r.how (bare y)) (bare c.args.x.now) same c.in_ok-named-in-Reference-get.ensures c.access_or.ensures

pub bare-returns-in-Prefix : goal.bare-returns-in-Prefix
bare-returns-in-Prefix t c =
    let p = c.in-Prefix in
    let same : out.signed p.op c.get-in-Prefix.result.now ≡ bare c.args.x.now =
    ap (out.signed p.op) c.get-in-Prefix.ensures ∙ sym (bare-Prefix p.op p.field-1 p.x) ∙ ap bare (sym p.is) in
    rw (← same) c.signed.ensures

pub bare-returns-in_ok-expr-in-Binary : goal.bare-returns-in_ok-expr-in-Binary
bare-returns-in_ok-expr-in-Binary t c =
    let b = c.in-Binary in
    let x = c.get-in-Binary.result.now in
    let y = c.get-in-Binary-2.result.now in
    let left : print x c.left_of.result ≡ print b.x (out.left_of b.op) = ap₂ print c.get-in-Binary.ensures c.left_of.ensures in
    let same : print x c.left_of.result ++ second b.op y ≡ bare c.args.x.now =
    ap₂ (λ l z. l ++ second b.op z) left c.get-in-Binary-2.ensures ∙ sym (bare-Binary b.op b.field-1 b.x b.y) ∙ ap bare (sym b.is) in
    ends_more c.second.result _ _ _ (print x c.left_of.result) (second b.op y) (bare c.args.x.now) same c.in_ok-expr-in-Binary.ensures c.second.ensures

pub bare-returns-in_ok-keyed-in-If-2 : goal.bare-returns-in_ok-keyed-in-If-2
bare-returns-in_ok-keyed-in-If-2 t c =
    let i = c.in-If in
    let x = c.get-in-If.result.now in
    let y = c.get-in-If-2.result.now in
    let z = c.get-in-If-3.result.now in
    let two = adds_more _ _ _ (lex is.If ∷ bare x) (lex is.Then ∷ bare y) c.in_ok-keyed-in-If.ensures c.in_ok-keyed-in-If-2.ensures in
    let parts : ((lex is.If ∷ bare x) ++ (lex is.Then ∷ bare y)) ++ (lex is.Else ∷ bare z) ≡ lex is.If ∷ (bare x ++ (lex is.Then ∷ (bare y ++ (lex is.Else ∷ bare z)))) =
    ap (λ l. lex is.If ∷ l) (append_assoc (bare x) (lex is.Then ∷ bare y) (lex is.Else ∷ bare z)) in
    let kids : lex is.If ∷ (bare x ++ (lex is.Then ∷ (bare y ++ (lex is.Else ∷ bare z)))) ≡ lex is.If ∷ (bare i.x ++ (lex is.Then ∷ (bare i.y ++ (lex is.Else ∷ bare i.z)))) =
    rw (c.get-in-If.ensures, c.get-in-If-2.ensures, c.get-in-If-3.ensures) refl in
    let same = parts ∙ kids ∙ sym (bare-If i.field-0 i.x i.y i.z) ∙ ap bare (sym i.is) in
    ends_more c.keyed-in-If-2.result _ _ _ ((lex is.If ∷ bare x) ++ (lex is.Then ∷ bare y)) (lex is.Else ∷ bare z) (bare c.args.x.now) same two c.keyed-in-If-2.ensures

pub call-returns : goal.call-returns
call-returns t c =
    let x = c.args.x.now in
    let same : (c.args.word.now ++ spelled_out (bare x)) ++ codes ") " ≡ c.args.word.now ++ spelled_out (bare x ++ lex is.Shut ∷ []) =
    append_assoc c.args.word.now (spelled_out (bare x)) (codes ") ") ∙ ap (λ l. c.args.word.now ++ l) (sym (spelled-append (bare x) (lex is.Shut ∷ []))) in
    ends_bytes c.append.result _ _ _ (c.args.word.now ++ spelled_out (bare x)) (codes ") ") (c.args.word.now ++ spelled_out (bare x ++ lex is.Shut ∷ [])) same c.in_ok-keyed.ensures c.append.ensures.ok

pub expr-returns : goal.expr-returns
expr-returns t c =
    let x = c.args.x.now in
    let needs = nat_lt c.level.result c.args.k in
    let two = adds_more _ _ _ (out.opening needs) (bare x) c.in_ok-open_if.ensures c.in_ok-bare.ensures in
    let same : (out.opening needs ++ bare x) ++ out.shutting needs ≡ print x c.args.k =
    fitted_parts needs (bare x) ∙ ap (λ n. out.fitted n c.args.k (bare x)) c.level.ensures in
    ends_more c.shut_if.result _ _ _ (out.opening needs ++ bare x) (out.shutting needs) (print x c.args.k) same two c.shut_if.ensures

pub guarded-returns : goal.guarded-returns
guarded-returns t c =
    let x = c.args.x.now in
    let needs = c.needs_guard-needs.result in
    let two = adds_more _ _ _ (out.opening needs) (bare x) c.in_ok-open_if.ensures c.in_ok-bare.ensures in
    let same : (out.opening needs ++ bare x) ++ out.shutting needs ≡ out.guarded x =
    fitted_parts needs (bare x) ∙ ap (λ b. out.bracketed_if b (bare x)) c.needs_guard-needs.ensures in
    ends_more c.shut_if.result _ _ _ (out.opening needs ++ bare x) (out.shutting needs) (out.guarded x) same two c.shut_if.ensures

pub access_then_default-returns : goal.access_then_default-returns
access_then_default-returns t c =
    let front = out.access c.args.how.now in
    let tail = out.default_tail (bare c.args.x.now) in
    ends_more c.call.result _ _ _ front tail (front ++ tail) refl c.in_ok-access.ensures c.call.ensures

pub bare-returns-in_ok-expr-in-Literal-get : goal.bare-returns-in_ok-expr-in-Literal-get
bare-returns-in_ok-expr-in-Literal-get t c =
    let d = c.in-Defaults in
    let x = c.get-in-Literal-get.result.now in
    let y = c.get-in-Literal-get-2.result.now in
    let kids : print x 7 ++ out.default_tail (bare y) ≡ print d.x 7 ++ out.default_tail (bare d.y) =
    ap₂ (λ a b. print a 7 ++ out.default_tail (bare b)) c.get-in-Literal-get.ensures c.get-in-Literal-get-2.ensures in
    let other : IsOther d.x = subst IsOther c.get.ensures c.in-Literal-get.is in
    let same : print x 7 ++ out.default_tail (bare y) ≡ bare c.args.x.now =
    kids ∙ sym (default_of-other d.x d.y other) ∙ sym (bare-Defaults d.field-0 d.x d.y) ∙ ap bare (sym d.is) in
    ends_more c.call.result _ _ _ (print x 7) (out.default_tail (bare y)) (bare c.args.x.now) same c.in_ok-expr-in-Literal-get.ensures c.call.ensures
