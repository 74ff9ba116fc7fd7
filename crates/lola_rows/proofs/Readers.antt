-- The steps of a reader, by what it is before and after them.
use Rattle.std.specs.Prelude.{nat_eq, nat_lt}
use Rattle.std.proofs.Common.{◌≡◌, ℕ, ◌+◌, ◌<◌, ◌≤◌, Bool, true, false, List, [], ◌∷◌, ◌++◌, Option, Some, None, option_map, length, drop, map, position, refl, sym, ap, subst, ◌∙◌, arith, inl, inr, Result, Ok, Err}
use Rattle.std.specs.Io.KnownBytes.{prepend_known}
use Rattle.std.specs.List.{list_any, position_or_len}
use Rattle.std.proofs.lemmas.Bool.{cases_Bool, eqb-true, lt-ltb, or_parts}
use Rattle.std.proofs.lemmas.List.{length-drop}
use Rattle.csv.specs.Reading.{is_bom}
use Rattle.lola_model.specs.declared.journal.Row.{Row}
use Rattle.lola_model.specs.declared.source.MalformedKind.{MalformedKind}
use Rattle.lola_model.specs.declared.source.MalformedKind.TheVariants as malformed
use Rattle.lola_port.specs.States.{Rose, SourceState}
use Rattle.lola_rows.specs.Columns.{Columns}
use Rattle.lola_rows.specs.Filling as held
use Rattle.lola_rows.specs.declared.columns.Input.{Input}
use Rattle.lola_rows.specs.declared.fill.Filled.{Filled}
use Rattle.lola_rows.specs.declared.fill.Filled.TheVariants as filled
use Rattle.lola_rows.proofs.Cutting.{first-place}
use Rattle.lola_rows.specs.Filling.{is_last, stage_behind, BeginsTooLong, Brought, Failed, Finds, IsFront, Lost, Sought, line_at}
use Rattle.lola_rows.specs.Lines.{Line, is_line_end, lines_of, longest_line, without_mark}
use Rattle.lola_rows.specs.Reading.{BrokeOff, Ends, GaveRow, IsInStep, IsRowOf, Passes, Reading, Shape, Stops, lines_at, rest_at, rest_of}
use Rattle.lola_rows.specs.Rows.{MalformedAt, SourceEnd, SourceRows, Whole, columns_of_line, ended, one_more, row_before, row_of_line, rows_from, rows_under}
use Rattle.lola_rows.specs.Steps.{Begins, Fills, Goes, Makes, Seeks, ShowsMark, Takes, ending_of}
use Rattle.lola_rows.specs.declared.answer.Ending.{Ending}
use Rattle.lola_rows.specs.declared.answer.Ending.TheVariants as ending
use Rattle.lola_rows.specs.declared.flaw.Flaw.{Flaw}
use Rattle.lola_rows.specs.declared.flaw.Flaw.TheVariants as flaw
use Rattle.lola_rows.specs.declared.seek.Extent.{Extent}
use Rattle.lola_rows.specs.declared.seek.Found.{Found}
use Rattle.lola_rows.specs.declared.seek.Found.TheVariants as found
use Rattle.lola_rows.specs.declared.stage.Section.{Section}
use Rattle.lola_rows.specs.declared.stage.Section.TheVariants as stage
use Rattle.lola_rows.proofs.FitFacts.{row-facts}
use Rattle.lola_rows.proofs.Seeking.{at-end}

-- what bytes give a reader of these parts
abbrev pub gives : Shape → Section → Columns → ℕ → List ℕ → SourceRows
gives s st c g bytes = rest_at s st c g (lines_at st bytes)

-- a function of known bytes behind a front is another's behind another front
known-same : (F G : List ℕ → SourceRows) (held0 held1 : List ℕ) (left : Option (List ℕ)) → ((bytes : List ℕ) → left ≡ Some bytes → F (held0 ++ bytes) ≡ G (held1 ++ bytes))
    → option_map F (prepend_known held0 left) ≡ option_map G (prepend_known held1 left)
known-same F G held0 held1 None same = refl
known-same F G held0 held1 (Some bytes) same = ap (λ r. Some r) (same bytes refl)

-- nothing comes, but this end
known-ends : (F : List ℕ → SourceRows) (held : List ℕ) (left : Option (List ℕ)) (end : SourceEnd) → ((bytes : List ℕ) → left ≡ Some bytes → F (held ++ bytes) ≡ ended end)
    → Ends (option_map F (prepend_known held left)) end
known-ends F held None end all before is = absurd (cc is)
known-ends F held (Some bytes) end all before is =
    let e : F (held ++ bytes) ≡ before = cc in
    let same : before ≡ ended end = sym e ∙ all bytes refl in
    (ap (λ (r : SourceRows). r.rows) same, ap (λ (r : SourceRows). r.end) same)

-- a row comes first
known-passes : (F G : List ℕ → SourceRows) (held0 held1 : List ℕ) (left : Option (List ℕ)) (row : Row) → ((bytes : List ℕ) → left ≡ Some bytes → F (held0 ++ bytes) ≡ one_more row (G (held1 ++ bytes)))
    → Passes (option_map F (prepend_known held0 left)) (option_map G (prepend_known held1 left)) (row ∷ [])
known-passes F G held0 held1 None row step before is = absurd (cc is)
known-passes F G held0 held1 (Some bytes) row step before is =
    let e : F (held0 ++ bytes) ≡ before = cc in
    let same : before ≡ one_more row (G (held1 ++ bytes)) = sym e ∙ step bytes refl in
    record {
      rest = G (held1 ++ bytes);
      left_is = refl;
      rows_are = ap (λ (r : SourceRows). r.rows) same;
      end_is = ap (λ (r : SourceRows). r.end) same;
    }

-- what a reader still gives, by its parts
rest-is : (r : Reading) (s : Shape) (st : Section) (c : Columns) (g : ℕ) (h : List ℕ) (left : Option (List ℕ)) → r.shape ≡ s → r.stage ≡ st → r.columns ≡ c → r.given ≡ g → r.held ≡ h → r.source.left ≡ left
    → rest_of r ≡ option_map (gives s st c g) (prepend_known h left)
rest-is r s st c g h left is_s is_st is_c is_g is_h is_left =
    ap (λ (x : Shape). option_map (gives x r.stage r.columns r.given) (prepend_known r.held r.source.left)) is_s
    ∙ ap (λ (x : Section). option_map (gives s x r.columns r.given) (prepend_known r.held r.source.left)) is_st
    ∙ ap (λ (x : Columns). option_map (gives s st x r.given) (prepend_known r.held r.source.left)) is_c
    ∙ ap (λ (x : ℕ). option_map (gives s st c x) (prepend_known r.held r.source.left)) is_g
    ∙ ap (λ (x : List ℕ). option_map (gives s st c g) (prepend_known x r.source.left)) is_h
    ∙ ap (λ (x : Option (List ℕ)). option_map (gives s st c g) (prepend_known h x)) is_left

-- the same through the lines of the bytes, past the very start
map-map : (F : List Line → SourceRows) (o : Option (List ℕ)) → option_map (λ bytes. F (lines_of bytes)) o ≡ option_map F (option_map lines_of o)
map-map F None = refl
map-map F (Some bytes) = refl

by-lines : (s : Shape) (st : Section) (c : Columns) (g : ℕ) (o : Option (List ℕ)) → (st ≡ stage.Start → ⊥) → option_map (gives s st c g) o ≡ option_map (rest_at s st c g) (option_map lines_of o)
by-lines s stage.Start c g o past = absurd (past refl)
by-lines s stage.Heading c g o past = map-map (rest_at s stage.Heading c g) o
by-lines s stage.Rows c g o past = map-map (rest_at s stage.Rows c g) o
by-lines s stage.Over c g o past = map-map (rest_at s stage.Over c g) o

-- a reader whose source and bytes alone changed
pub record Alike (old new : Reading) : Type 0 where
  pub shape : new.shape ≡ old.shape
  pub stage : new.stage ≡ old.stage
  pub columns : new.columns ≡ old.columns
  pub given : new.given ≡ old.given

lines-rest : (old new : Reading) → Alike old new → (old.stage ≡ stage.Start → ⊥)
    → option_map lines_of (prepend_known new.held new.source.left) ≡ option_map lines_of (prepend_known old.held old.source.left) → rest_of new ≡ rest_of old
lines-rest old new alike past same =
    rest-is new old.shape old.stage old.columns old.given new.held new.source.left alike.shape alike.stage alike.columns alike.given refl refl
    ∙ by-lines old.shape old.stage old.columns old.given (prepend_known new.held new.source.left) past
    ∙ ap (option_map (rest_at old.shape old.stage old.columns old.given)) same
    ∙ sym (by-lines old.shape old.stage old.columns old.given (prepend_known old.held old.source.left) past)

bytes-rest : (old new : Reading) → Alike old new → prepend_known new.held new.source.left ≡ prepend_known old.held old.source.left → rest_of new ≡ rest_of old
bytes-rest old new alike same =
    rest-is new old.shape old.stage old.columns old.given new.held new.source.left alike.shape alike.stage alike.columns alike.given refl refl
    ∙ ap (option_map (gives old.shape old.stage old.columns old.given)) same

goes : (old new : Reading) → Alike old new → (old.stage ≡ stage.Start → ⊥) → Sought old.held new.held old.source new.source → Goes old new
goes old new alike past sought = record {
  rest = lines-rest old new alike past sought.lines;
  size = sought.size;
  given = alike.given;
  shape = alike.shape;
  count = sought.count;
}

-- lines were sought
pub seeks : (old new : Reading) (r : Found) → Alike old new → (old.stage ≡ stage.Start → ⊥) → Finds r old.held new.held old.source new.source → Seeks r old new
seeks old new (found.Line e) alike past finds = (goes old new alike past finds.0, finds.1)
seeks old new found.TooLong alike past finds = (goes old new alike past finds.0, finds.1)
seeks old new found.Nothing alike past finds = (goes old new alike past finds.0, finds.1)
seeks old new found.ReadFailed alike past lost = record {
  later = lost.later;
  rose = lost.rose;
  rest = lines-rest old new alike past lost.lines;
  waiting = lost.unended;
}

-- bytes came in
pub brought : (old new : Reading) → Alike old new → Brought old.held new.held old.source new.source → Goes old new
brought old new alike came = record {
  rest = bytes-rest old new alike came.content;
  size = came.size;
  given = alike.given;
  shape = alike.shape;
  count = came.count;
}

pub failed : (old new : Reading) → Alike old new → Failed old.held new.held old.source new.source → BrokeOff old new
failed old new alike lost = record {
  later = lost.later;
  rose = lost.rose;
  rest = bytes-rest old new alike lost.content;
  waiting = lost.unended;
}

-- an end that what it holds and may read call for
stops-at : (r : Reading) (kind : MalformedKind) (row : ℕ) → row ≤ r.given + 1 → ((bytes : List ℕ) → r.source.left ≡ Some bytes → gives r.shape r.stage r.columns r.given (r.held ++ bytes) ≡ ended (MalformedAt kind row))
    → Stops (ending.Malformed kind row) r r
stops-at r kind row few all = (known-ends (gives r.shape r.stage r.columns r.given) r.held r.source.left (MalformedAt kind row) all, few, refl)

-- the same at a stage
stops-by : (r : Reading) (st : Section) (kind : MalformedKind) (row : ℕ) → r.stage ≡ st → row ≤ r.given + 1
    → ((bytes : List ℕ) → r.source.left ≡ Some bytes → gives r.shape st r.columns r.given (r.held ++ bytes) ≡ ended (MalformedAt kind row)) → Stops (ending.Malformed kind row) r r
stops-by r st kind row is few all = stops-at r kind row few (λ bytes told. ap (λ (x : Section). gives r.shape x r.columns r.given (r.held ++ bytes)) is ∙ all bytes told)

-- a line that is too long
long-heading : (s : Shape) (lines : List Line) → BeginsTooLong lines → rest_at s stage.Heading (record { width = 0; time = 0; inputs = [] }) 0 lines ≡ ended (MalformedAt malformed.RowTooLong 0)
long-heading s lines long =
    let hit : nat_lt longest_line long.line.size ≡ true = lt-ltb longest_line long.line.size long.long in
    ap (rest_at s stage.Heading (record { width = 0; time = 0; inputs = [] }) 0) long.lines_are ∙ (rw hit refl)

pub heading-long : (r : Reading) → r.stage ≡ stage.Heading → ((bytes : List ℕ) → r.source.left ≡ Some bytes → BeginsTooLong (lines_of (r.held ++ bytes))) → Stops (ending.Malformed malformed.RowTooLong 0) r r
heading-long r is long = stops-by r stage.Heading malformed.RowTooLong 0 is (omega arith) (λ bytes told. long-heading r.shape (lines_of (r.held ++ bytes)) (long bytes told))

pub heading-none : (r : Reading) → r.stage ≡ stage.Heading → ((bytes : List ℕ) → r.source.left ≡ Some bytes → lines_of (r.held ++ bytes) ≡ []) → Stops (ending.Malformed malformed.BadHeading 0) r r
heading-none r is none = stops-by r stage.Heading malformed.BadHeading 0 is (omega arith) (λ bytes told. ap (rest_at r.shape stage.Heading r.columns r.given) (none bytes told))

long-row : (s : Shape) (c : Columns) (g : ℕ) (lines : List Line) → BeginsTooLong lines → rest_at s stage.Rows c g lines ≡ ended (MalformedAt malformed.RowTooLong (g + 1))
long-row s c g lines long =
    let hit : nat_lt longest_line long.line.size ≡ true = lt-ltb longest_line long.line.size long.long in
    ap (rest_at s stage.Rows c g) long.lines_are ∙ (rw hit refl)

pub rows-long : (r : Reading) → r.stage ≡ stage.Rows → ((bytes : List ℕ) → r.source.left ≡ Some bytes → BeginsTooLong (lines_of (r.held ++ bytes))) → Stops (ending.Malformed malformed.RowTooLong (r.given + 1)) r r
rows-long r is long = stops-by r stage.Rows malformed.RowTooLong (r.given + 1) is (omega arith) (λ bytes told. long-row r.shape r.columns r.given (lines_of (r.held ++ bytes)) (long bytes told))

pub rows-end : (r : Reading) → r.stage ≡ stage.Rows → ((bytes : List ℕ) → r.source.left ≡ Some bytes → lines_of (r.held ++ bytes) ≡ []) → Stops ending.End r r
rows-end r is none = (
  known-ends (gives r.shape r.stage r.columns r.given) r.held r.source.left Whole (λ bytes told.
      ap (λ (x : Section). gives r.shape x r.columns r.given (r.held ++ bytes)) is ∙ ap (rest_at r.shape stage.Rows r.columns r.given) (none bytes told)),
  refl,
)

-- a heading that is none
pub heading-flaw : (r : Reading) (e : Extent) (f : Flaw) {X : Type 0} (view : X → Columns) → r.stage ≡ stage.Heading → IsFront e r.held r.source.left
    → Makes view (Err f) (columns_of_line r.shape.inputs (line_at e r.held)) → Stops (ending_of f 0) r r
heading-flaw r e (flaw.Malformed kind) view is front makes =
    stops-by r stage.Heading kind 0 is (omega arith) (λ bytes told.
    ap (rest_at r.shape stage.Heading r.columns r.given) (front.lines bytes told)
    ∙ ap (λ c. rows_under r.shape.index r.shape.most c (lines_of (drop e.whole r.held ++ bytes))) makes)
heading-flaw r e flaw.Memory view is front makes = record { rest = refl; count = refl }

-- the heading was taken
pub heading-taken : (old new : Reading) (e : Extent) → old.stage ≡ stage.Heading → old.given ≡ 0 → IsFront e old.held old.source.left → columns_of_line old.shape.inputs (line_at e old.held) ≡ Ok new.columns
    → new.shape ≡ old.shape → new.stage ≡ stage.Rows → new.given ≡ old.given → new.held ≡ drop e.whole old.held → new.source ≡ old.source → Goes old new
heading-taken old new e is none front made shape taken given held source =
    let before = rest-is old old.shape stage.Heading old.columns old.given old.held old.source.left refl is refl refl refl refl in
    let after = rest-is new old.shape stage.Rows new.columns 0 (drop e.whole old.held) old.source.left shape taken refl (given ∙ none) held (ap (λ (x : SourceState). x.left) source) in
    record {
      rest = after ∙ sym (known-same (gives old.shape stage.Heading old.columns old.given) (gives old.shape stage.Rows new.columns 0) old.held (drop e.whole old.held) old.source.left (λ bytes told.
          ap (rest_at old.shape stage.Heading old.columns old.given) (front.lines bytes told)
          ∙ ap (λ c. rows_under old.shape.index old.shape.most c (lines_of (drop e.whole old.held ++ bytes))) made)) ∙ sym before;
      size = omega (arith, front.inside, ap length held, length-drop e.whole old.held, ap (λ (x : SourceState). x.to_come) source);
      given = given;
      shape = shape;
      count = ap (λ (x : SourceState). x.count) source;
    }

-- the row of the line at the front
abbrev pub row_at : Reading → Extent → Result Row MalformedKind
row_at r e = row_of_line r.shape.index r.shape.most r.columns (r.given + 1) (line_at e r.held)

-- a line that is no row
pub line-flaw : (r : Reading) (e : Extent) (f : Flaw) → r.stage ≡ stage.Rows → IsFront e r.held r.source.left → Makes (λ (row : Row). row) (Err f) (row_at r e) → Stops (ending_of f (r.given + 1)) r r
line-flaw r e (flaw.Malformed kind) is front makes =
    stops-by r stage.Rows kind (r.given + 1) is (omega arith) (λ bytes told.
    ap (rest_at r.shape stage.Rows r.columns r.given) (front.lines bytes told)
    ∙ ap (λ row. row_before (r.given + 1) row (rows_from r.shape.index r.shape.most r.columns (r.given + 1 + 1) (lines_of (drop e.whole r.held ++ bytes)))) makes)
line-flaw r e flaw.Memory is front makes = record { rest = refl; count = refl }

-- the lines behind one
behind : (s : Shape) (c : Columns) (g : ℕ) (e : Extent) (bytes : List ℕ) → (is_last e ≡ true → lines_of bytes ≡ []) → rows_from s.index s.most c (g + 1) (lines_of bytes) ≡ gives s (stage_behind e) c g bytes
behind s c g e bytes none = elim (cases_Bool (is_last e)) [
  | inl last ↦ ap (rows_from s.index s.most c (g + 1)) (none last) ∙ (rw last refl)
  | inr more ↦ rw more refl
]

-- a line that is one
pub line-gave : (old new : Reading) (e : Extent) (row : Row) → old.stage ≡ stage.Rows → map (λ c. c.kind) old.columns.inputs ≡ map (λ i. i.kind) old.shape.inputs → IsFront e old.held old.source.left → row_at old e ≡ Ok row
    → new.shape ≡ old.shape → new.stage ≡ stage_behind e → new.columns ≡ old.columns → new.given ≡ old.given + 1 → new.held ≡ drop e.whole old.held → new.source ≡ old.source → GaveRow row old new
line-gave old new e row is kinds front made shape still columns given held source =
    let facts = row-facts old.shape old.columns old.given (line_at e old.held) row kinds front.unended made in
    let before = rest-is old old.shape stage.Rows old.columns old.given old.held old.source.left refl is refl refl refl refl in
    let after = rest-is new old.shape (stage_behind e) old.columns (old.given + 1) (drop e.whole old.held) old.source.left shape still columns given held (ap (λ (x : SourceState). x.left) source) in
    let passed = known-passes (gives old.shape stage.Rows old.columns old.given) (gives old.shape (stage_behind e) old.columns (old.given + 1)) old.held (drop e.whole old.held) old.source.left row (λ bytes told.
    ap (rest_at old.shape stage.Rows old.columns old.given) (front.lines bytes told)
    ∙ ap (λ x. row_before (old.given + 1) x (rows_from old.shape.index old.shape.most old.columns (old.given + 1 + 1) (lines_of (drop e.whole old.held ++ bytes)))) made
    ∙ ap (one_more row) (behind old.shape old.columns (old.given + 1) e (drop e.whole old.held ++ bytes) (λ last. front.last last bytes told))) in
    record {
      passes = subst (λ o. Passes o (rest_of new) (row ∷ [])) (sym before) (subst (λ o. Passes (option_map (gives old.shape stage.Rows old.columns old.given) (prepend_known old.held old.source.left)) o (row ∷ [])) (sym after) passed);
      is_row = facts;
      given = given ∙ sym facts.number;
      less = omega (arith, front.some, front.inside, ap length held, length-drop e.whole old.held, ap (λ (x : SourceState). x.to_come) source);
      count = ap (λ (x : SourceState). x.count) source;
    }

-- all lines were taken
pub over-ends : (r : Reading) → r.stage ≡ stage.Over → Stops ending.End r r
over-ends r is =
    (known-ends (gives r.shape r.stage r.columns r.given) r.held r.source.left Whole (λ bytes told. ap (λ (x : Section). gives r.shape x r.columns r.given (r.held ++ bytes)) is), refl)

-- bytes that come in change no end
pub goes-stops : (old new : Reading) (how : Ending) → Goes old new → Stops how new new → Stops how old new
goes-stops old new ending.End goes stops = (subst (λ o. Ends o Whole) goes.rest stops.0, goes.count)
goes-stops old new (ending.Malformed kind row) goes stops = (subst (λ o. Ends o (MalformedAt kind row)) goes.rest stops.0, omega (arith, stops.1, goes.given), goes.count)
goes-stops old new ending.ReadFailed goes stops = record { later = omega (arith, goes.count, stops.later); rose = subst (λ n. Rose n new.source.count) goes.count stops.rose; rest = goes.rest; waiting = stops.waiting }
goes-stops old new ending.Memory goes stops = record { rest = goes.rest; count = goes.count }

-- steps, one after the other
pub goes-then-stops : (old mid new : Reading) (how : Ending) → Goes old mid → Stops how mid new → Stops how old new
goes-then-stops old mid new ending.End goes stops = (subst (λ o. Ends o Whole) goes.rest stops.0, stops.1 ∙ goes.count)
goes-then-stops old mid new (ending.Malformed kind row) goes stops = (subst (λ o. Ends o (MalformedAt kind row)) goes.rest stops.0, omega (arith, stops.1, goes.given), stops.2 ∙ goes.count)
goes-then-stops old mid new ending.ReadFailed goes stops = record {
  later = omega (arith, goes.count, stops.later);
  rose = subst (λ n. Rose n new.source.count) goes.count stops.rose;
  rest = stops.rest ∙ goes.rest;
  waiting = stops.waiting;
}
goes-then-stops old mid new ending.Memory goes stops = record { rest = stops.rest ∙ goes.rest; count = stops.count ∙ goes.count }

pub goes-then-gave : (old mid new : Reading) (row : Row) → Goes old mid → GaveRow row mid new → GaveRow row old new
goes-then-gave old mid new row goes gave =
    let facts = gave.is_row in
    record {
      passes = subst (λ o. Passes o (rest_of new) (row ∷ [])) goes.rest gave.passes;
      is_row = subst (λ (s : Shape). IsRowOf s old.given row) goes.shape (subst (λ n. IsRowOf mid.shape n row) goes.given facts);
      given = gave.given;
      less = omega (arith, gave.less, goes.size);
      count = gave.count ∙ goes.count;
    }

pub goes-then-goes : (old mid new : Reading) → Goes old mid → Goes mid new → Goes old new
goes-then-goes old mid new first second = record {
  rest = second.rest ∙ first.rest;
  size = omega (arith, first.size, second.size);
  given = second.given ∙ first.given;
  shape = second.shape ∙ first.shape;
  count = second.count ∙ first.count;
}

pub goes-then-begins : (old mid new : Reading) (result : Result (Unit {0}) Ending) → Goes old mid → Begins result mid new → Begins result old new
goes-then-begins old mid new (Ok done) goes begins = goes-then-goes old mid new goes begins
goes-then-begins old mid new (Err how) goes stops = goes-then-stops old mid new how goes stops

pub goes-then-takes : (old mid new : Reading) (result : Result Row Ending) → Goes old mid → Takes result mid new → Takes result old new
goes-then-takes old mid new (Ok row) goes gave = goes-then-gave old mid new row goes gave
goes-then-takes old mid new (Err how) goes stops = goes-then-stops old mid new how goes stops

-- a mark is held whole, if there is one
no-mark : (a : ℕ) (rest : List ℕ) → (a ≡ 10) → without_mark (a ∷ rest) ≡ a ∷ rest
no-mark a [] is = refl
no-mark a (b ∷ []) is = refl
no-mark a (b ∷ c ∷ rest) is = rw is refl

second : (a c : ℕ) → is_bom a 10 c ≡ true → ⊥
second a c hit = elim (cases_Bool (nat_eq a 239)) [ inl h ↦ let hit' = rw h at hit in cc hit' | inr m ↦ let hit' = rw m at hit in cc hit' ]

no-mark-second : (a b : ℕ) (rest : List ℕ) → (b ≡ 10) → without_mark (a ∷ b ∷ rest) ≡ a ∷ b ∷ rest
no-mark-second a b [] is = refl
no-mark-second a b (c ∷ rest) is = rw is (elim (cases_Bool (is_bom a 10 c)) [ inl hit ↦ absurd (second a c hit) | inr miss ↦ rw miss refl ])

line-end : (a : ℕ) → list_any is_line_end (a ∷ []) ≡ true → a ≡ 10
line-end a ended = elim (cases_Bool (is_line_end a)) [ inl hit ↦ eqb-true a 10 hit | inr miss ↦ let ended' = rw miss at ended in absurd (cc ended') ]

mark-front : (held : List ℕ) (left : Option (List ℕ)) (bytes : List ℕ) → ShowsMark held left → left ≡ Some bytes → without_mark (held ++ bytes) ≡ without_mark held ++ bytes
mark-front [] left bytes (inl long) told = absurd (omega arith)
mark-front [] left bytes (inr (inl ended)) told = absurd (cc ended)
mark-front [] left bytes (inr (inr end)) told = let none = at-end left bytes end told in rw none refl
mark-front (a ∷ []) left bytes (inl long) told = absurd (omega arith)
mark-front (a ∷ []) left bytes (inr (inl ended)) told = no-mark a bytes (line-end a ended)
mark-front (a ∷ []) left bytes (inr (inr end)) told = let none = at-end left bytes end told in rw none refl
mark-front (a ∷ b ∷ []) left bytes (inl long) told = absurd (omega arith)
mark-front (a ∷ b ∷ []) left bytes (inr (inl ended)) told = elim (cases_Bool (is_line_end a)) [
  | inl hit ↦ no-mark a (b ∷ bytes) (eqb-true a 10 hit)
  | inr miss ↦ let ended' = rw miss at ended in no-mark-second a b bytes (line-end b ended')
]
mark-front (a ∷ b ∷ []) left bytes (inr (inr end)) told = let none = at-end left bytes end told in rw none refl
mark-front (a ∷ b ∷ c ∷ rest) left bytes shows told = elim (cases_Bool (is_bom a b c)) [ inl hit ↦ rw hit refl | inr miss ↦ rw miss refl ]

mark-less : (held : List ℕ) → length (without_mark held) ≤ length held
mark-less [] = omega arith
mark-less (a ∷ []) = omega arith
mark-less (a ∷ b ∷ []) = omega arith
mark-less (a ∷ b ∷ c ∷ rest) = elim (cases_Bool (is_bom a b c)) [ inl hit ↦ rw hit (omega arith) | inr miss ↦ rw miss (omega arith) ]

-- the mark was dropped
pub unmarked : (old new : Reading) → old.stage ≡ stage.Start → ShowsMark old.held old.source.left → new.shape ≡ old.shape → new.stage ≡ stage.Heading → new.columns ≡ old.columns → new.given ≡ old.given → new.held ≡ without_mark old.held → new.source ≡ old.source → Goes old new
unmarked old new is shows shape next columns given held source =
    let before = rest-is old old.shape stage.Start old.columns old.given old.held old.source.left refl is refl refl refl refl in
    let after = rest-is new old.shape stage.Heading old.columns old.given (without_mark old.held) old.source.left shape next columns given held (ap (λ (x : SourceState). x.left) source) in
    record {
      rest = after ∙ sym (known-same (gives old.shape stage.Start old.columns old.given) (gives old.shape stage.Heading old.columns old.given) old.held (without_mark old.held) old.source.left (λ bytes told.
          ap (λ (l : List ℕ). rest_at old.shape stage.Start old.columns old.given (lines_of l)) (mark-front old.held old.source.left bytes shows told))) ∙ sym before;
      size = omega (arith, mark-less old.held, ap length held, ap (λ (x : SourceState). x.to_come) source);
      given = given;
      shape = shape;
      count = ap (λ (x : SourceState). x.count) source;
    }

-- a reader by its parts
abbrev pub reading : ℕ → ℕ → List Input → Section → Columns → ℕ → List ℕ → SourceState → Option Ending → Reading
reading index most inputs st columns given bytes source how = record {
  shape = record { index = index; most = most; inputs = inputs };
  stage = st;
  columns = columns;
  given = given;
  held = bytes;
  source = source;
  ended = how;
}

-- what holds of a reader at its stage
abbrev pub InStep : Reading → Type 0
InStep r = IsInStep r.stage r.given r.columns r.shape.inputs

kinds-at : (st : Section) (given : ℕ) (columns : Columns) (inputs : List Input) → IsInStep st given columns inputs → st ≡ stage.Rows → map (λ c. c.kind) columns.inputs ≡ map (λ i. i.kind) inputs
kinds-at stage.Start given columns inputs in_step is = absurd (cc is)
kinds-at stage.Heading given columns inputs in_step is = absurd (cc is)
kinds-at stage.Rows given columns inputs in_step is = in_step
kinds-at stage.Over given columns inputs in_step is = absurd (cc is)

pub kinds-in-step : (r : Reading) → InStep r → r.stage ≡ stage.Rows → map (λ c. c.kind) r.columns.inputs ≡ map (λ i. i.kind) r.shape.inputs
kinds-in-step r in_step is = kinds-at r.stage r.given r.columns r.shape.inputs in_step is

pub none-given : (st : Section) (given : ℕ) (columns : Columns) (inputs : List Input) → st ≡ stage.Heading → IsInStep st given columns inputs → given ≡ 0
none-given stage.Start given columns inputs is in_step = in_step
none-given stage.Heading given columns inputs is in_step = in_step
none-given stage.Rows given columns inputs is in_step = absurd (cc is)
none-given stage.Over given columns inputs is in_step = absurd (cc is)

gone : (p : ℕ → Bool) (xs : List ℕ) → list_any p xs ≡ false → position_or_len p xs < length xs → ⊥
gone p [] miss within = omega arith
gone p (x ∷ xs) miss within =
    let two = or_parts (p x) (list_any p xs) miss in
    let within' = rw two.0 at within in
    gone p xs two.1 (omega (arith, within'))

there : (p : ℕ → Bool) (xs : List ℕ) (n : ℕ) → position p xs ≡ Some n → list_any p xs ≡ true
there p xs n is = elim (cases_Bool (list_any p xs)) [
  | inl hit ↦ hit
  | inr miss ↦ let first = first-place p xs n is in absurd (gone p xs miss (omega (arith, first.place, first.within)))
]

-- so much was read
pub fills : (old new : Reading) (r : Filled) → Alike old new → held.Fills r old.held new.held old.source new.source → Fills r old new
fills old new (filled.Line n) alike came = (brought old new alike came.1, inr (inl (there is_line_end new.held n came.0)))
fills old new filled.Last alike came = (brought old new alike came.2, inr (inr came.1))
fills old new filled.TooLong alike came = (brought old new alike came.2, inl (omega (arith, came.1)))
fills old new filled.ReadFailed alike came = failed old new alike came

pub filled-shows : (old new : Reading) (r : Filled) → (r ≡ filled.ReadFailed → ⊥) → Fills r old new → Goes old new × ShowsMark new.held new.source.left
filled-shows old new (filled.Line n) some fill = fill
filled-shows old new filled.Last some fill = fill
filled-shows old new filled.TooLong some fill = fill
filled-shows old new filled.ReadFailed some fill = absurd (some refl)
