-- The states of two programs.
use Rattle.scan_model.specs.Pairs.{Pair}
use Rattle.scan_replay.specs.declared.two_states.States.{States}

abbrev pub pair_of : States → Pair
pair_of s = record { old = s.of_old.items; new = s.of_new.items }
