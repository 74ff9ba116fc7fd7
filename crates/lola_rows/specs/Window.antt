-- Bytes that were read and not yet taken.
use Rattle.std.specs.Prelude.{ℕ, ◌-◌, List, slice_range}
use Rattle.lola_rows.specs.declared.window.Window.{Window}

-- how many bytes a buffer has room for in all
abbrev pub whole_room : ℕ
whole_room = 131072

-- the bytes that are held
abbrev pub items : Window → List ℕ
items w = slice_range w.bytes.items w.start w.end

-- how many bytes a read may put behind them
abbrev pub room : Window → ℕ
room w = whole_room - w.end
