-- What is known where an expression stands, as the program has it.
use Rattle.lola_types.specs.Found.{Setting}
use Rattle.lola_types.specs.declared.around.Around.{Around}

abbrev pub setting : Around → Setting
setting a = record { streams = a.streams.now; windows = a.windows.now; kinds = a.kinds.now; parameters = a.parameters.now }
