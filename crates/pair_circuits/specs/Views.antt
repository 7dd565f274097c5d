-- What the structures of the code stand for.
use Rattle.std.specs.Prelude.{List, map}
use Rattle.node_core.specs.declared.scan.ClauseNodes.{ClauseNodes}
use Rattle.node_core.specs.Scans.{ClauseData, scan_view, clause_view}
use Rattle.node_circuits.specs.NodeWords.{words_view}
use Rattle.query_formulas.specs.Parts.{Parts}
use Rattle.query_formulas.specs.PairWords.{PairWords}
use Rattle.query_formulas.specs.Products.{Product}
use Rattle.query_formulas.specs.Breaks.{ScanLiterals, Breaks}
use Rattle.pair_circuits.specs.declared.parts.PairParts.{PairParts}
use Rattle.pair_circuits.specs.declared.pair.WordPair.{WordPair}
use Rattle.pair_circuits.specs.declared.product.Product.{Product as ProductStruct}
use Rattle.pair_circuits.specs.declared.breaks.ScanLits.{ScanLits}
use Rattle.pair_circuits.specs.declared.breaks.Breaks.{Breaks as BreaksStruct}

abbrev pub clauses_view : List ClauseNodes → List ClauseData
clauses_view cs = map clause_view cs

abbrev pub parts_view : PairParts → Parts
parts_view p = record {
  old = p.old.items;
  new = p.new.items;
  lines = p.lines.items;
  inputs = p.inputs.items;
  old_scan = scan_view p.old_scan;
  new_scan = scan_view p.new_scan;
  candidates = clauses_view p.candidates.items;
  environment = clauses_view p.environment.items;
  relates = clauses_view p.relates.items;
  depth = p.depth;
}

abbrev pub pair_view : WordPair → PairWords
pair_view p = record { old = words_view p.old.items; new = words_view p.new.items }

abbrev pub product_view : ProductStruct → Product
product_view p = record {
  pair = pair_view p.pair;
  inputs = words_view p.inputs.items;
  lits = record { outside = p.lits.outside.items; before = p.lits.before.items; environment = p.lits.environment.items; after = p.lits.after.items; relates = p.lits.relates.items; net = p.circuit };
}

abbrev pub scan_lits_view : ScanLits → ScanLiterals
scan_lits_view s = record { inputs = words_view s.inputs.items; outside = s.outside.items; environment = s.environment.items; begun = s.begun; relates = s.relates.items; ended = s.ended }

abbrev pub breaks_view : BreaksStruct → Breaks
breaks_view b = record { scans = map scan_lits_view b.scans.items; net = b.circuit }
