-- The data that lines stand for.
use Rattle.std.specs.Prelude.{List, map}
use Rattle.source_tree.specs.SyntaxView.{name_view, tree_view}
use Rattle.relation_lines.specs.declared.line.Content.{Content}
use Rattle.relation_lines.specs.declared.line.Content.TheVariants as contents
use Rattle.relation_lines.specs.declared.line.Line.{Line}
use Rattle.relation_lines.specs.Lines.{ContentData, setting, faults, paired, single, clause, LineData}

abbrev pub content_view : Content → ContentData
content_view (contents.Setting s value at) = setting s value at
content_view (contents.Faults equal at) = faults equal at
content_view (contents.Paired a at b) = paired (name_view a) at (name_view b)
content_view (contents.Single s at a) = single s at (name_view a)
content_view (contents.Clause c e) = clause c (tree_view e)

abbrev pub line_view : Line → LineData
line_view l = record { at = l.at; content = content_view l.content }

abbrev pub lines_view : List Line → List LineData
lines_view ls = map line_view ls
