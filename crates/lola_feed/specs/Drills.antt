-- The bytes of a made-up source, which its numbers tell.
use Rattle.std.specs.Prelude.{ℕ, zero, suc, ◌+◌, ◌*◌, ◌/◌, ◌%◌, ◌^◌, ◌==◌, ◌≡◌, ◌≤◌, pos, ◌-ℤ◌, List, [], ◌∷◌, ◌++◌, Some, length, if◌then◌else◌, codes, decimal}
use Rattle.std.specs.Fmt.{signed_decimal}
use Rattle.std.specs.List.{concat}
use Rattle.lola_port.specs.States.{SourceState}

-- the bytes of the specification
unfoldable pub drill_text : List ℕ
drill_text = codes "input dev: String\ninput v: Int64\ninput w: Int64\noutput total: Int64 @v := total.last(or: 0) + v\noutput mean: Int64 @1Hz := v.aggregate(over: 10s, using: avg).defaults(to: 0)\noutput both: Int64 @(v || w) := v.hold(or: 0) + w.hold(or: 0)\noutput seen(d: String): Int64\n  spawn with dev\n  eval @dev when dev == d with seen(d).last(or: 0) + 1\n  close when seen(d).hold(or: 0) >= 100\ntrigger v > 490 \"high\"\ntrigger mean > 20 \"mean\"\ntrigger both > 500 \"both\"\n"

-- the number after a number
unfoldable pub stepped : ℕ → ℕ
stepped x = (1103515245 * x + 12345) % 2 ^ 31

-- what is drawn below m where the numbers have come to x
unfoldable pub draw : ℕ → ℕ → ℕ
draw m x = x / 65536 % m

-- a time in ms is written in seconds, with three decimals
abbrev pub seconds : ℕ → List ℕ
seconds ms = decimal (ms / 1000) ++ codes "." ++ decimal (ms / 100 % 10) ++ decimal (ms / 10 % 10) ++ decimal (ms % 10)

-- a row of source 0 has its time, a device drawn from x, and a value drawn from y
abbrev pub device_row : ℕ → ℕ → ℕ → List ℕ
device_row ms x y = seconds ms ++ codes ",d" ++ decimal (draw 8 x) ++ codes "," ++ signed_decimal (pos (draw 1001 y) -ℤ pos 500) ++ codes "\n"

-- a row of source 1 has its time, and a value drawn from x
abbrev pub plain_row : ℕ → ℕ → List ℕ
plain_row ms x = seconds ms ++ codes "," ++ decimal (draw 101 x) ++ codes "\n"

-- a row at a time, where the numbers have come to x
abbrev pub row_of : ℕ → ℕ → ℕ → List ℕ
row_of source ms x = if source == 0 then device_row ms (stepped x) (stepped (stepped x)) else plain_row ms (stepped x)

-- to which number they come by it
abbrev pub number_after : ℕ → ℕ → ℕ
number_after source x = if source == 0 then stepped (stepped x) else stepped x

-- so many rows behind a number and a time, each with the time that is drawn for it added to the last
abbrev pub rows_from : ℕ → ℕ → ℕ → ℕ → List (List ℕ)
rows_from source x ms zero = []
rows_from source x ms (suc rows) =
    let next = stepped x in let time = ms + draw 200 next in
    row_of source time next ∷ rows_from source (number_after source next) time rows

-- the names of the columns
abbrev pub heading : ℕ → List ℕ
heading source = if source == 0 then codes "time,dev,v\n" else codes "time,w\n"

-- the heading of source 0 or 1 of a drill, and so many rows
abbrev pub drill_bytes : ℕ → ℕ → ℕ → List ℕ
drill_bytes number source rows = concat (heading source ∷ rows_from source (number + source) 0 rows)

-- a made-up source: what is left of the line that it made last, the lines behind it, and a bound on their bytes
pub record Drilling : Type 0 where
  pub waiting : List ℕ
  pub behind : List (List ℕ)
  pub most : ℕ

-- it tells all of its bytes, and has no failures
abbrev pub drill_state : Drilling → SourceState
drill_state d = record { left = Some (d.waiting ++ concat d.behind); to_come = length d.waiting + d.most; count = 0; place = 0 }

-- no byte is lost or made, and where no line waits then, no line is behind it
pub record IsRefilled (old new : Drilling) : Type 0 where
  pub left : new.waiting ++ concat new.behind ≡ old.waiting ++ concat old.behind
  pub bound : length new.waiting + new.most ≤ length old.waiting + old.most
  pub done : length new.waiting ≡ 0 → new.behind ≡ []
