-- Scans of both programs on words.
use Rattle.std.specs.Prelude.{map}
use Rattle.gates.specs.Netlists.{Netlist}
use Rattle.node_core.specs.Scans.{ScanData}
use Rattle.node_circuits.specs.NodeWords.{Words, MadeWords, word_in, words_of_nodes}
use Rattle.query_formulas.specs.PairWords.{PairWords}

-- the words that the cells hold behind a scan
abbrev pub scanned_words : ScanData → Words → Netlist → MadeWords
scanned_words s words n =
    let m = words_of_nodes s.nodes words n in
    record { words = map (word_in m.words) s.last; net = m.net }

pub record MadePair : Type 0 where
  pub pair : PairWords
  pub net : Netlist

-- OLD's scan, then NEW's
abbrev pub scanned_pair : ScanData → ScanData → PairWords → Netlist → MadePair
scanned_pair old new pair n =
    let o = scanned_words old pair.old n in
    let w = scanned_words new pair.new o.net in
    record { pair = record { old = o.words; new = w.words }; net = w.net }
