-- What is known of the objects of the machine, which tell no content.
use Rattle.std.specs.Prelude.{ℕ, List, None}
use Rattle.lola_port.specs.declared.traits.Ask.{Ask}
use Rattle.lola_port.specs.States.{ShelfState}

-- the files of the machine: what was asked for, the failures, and how many sources are out
pub record FolderShelfState : Type 0 where
  pub asks : List Ask
  pub count : ℕ
  pub out : ℕ

-- it tells no bytes
abbrev pub folder_state : FolderShelfState → ShelfState
folder_state s = record { told = λ _. None; asks = s.asks; count = s.count; out = s.out }
