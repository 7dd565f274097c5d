use Rattle.std.proofs.Common.{◌≡◌, ◌++◌, drop, map}
use Rattle.pou_scope.specs.NamesView.{pous_named, scopes_named, seens_named}
use Rattle.pou_scope.specs.AllSeen.{seen_in}
use Rattle.source_tree.specs.SyntaxView.{file_view}
use Rattle.naming.specs.Scopes.{scope_of}
use Rattle.naming.specs.ScopeView.{pous_view}
use Rattle.st_names.proofs.judged.all_names.Given as goal

abbrev pub invariant-loop-pou : goal.invariant-loop-pou
invariant-loop-pou l = record {
  pous : pous_named l.all.items ++ pous_view (drop l.pou-index l.pous) ≡ pous_view l.pous;
  scopes : scopes_named l.all.items ++ map scope_of (pous_view (drop l.pou-index l.pous)) ≡ map scope_of (pous_view l.pous);
  seen : seens_named l.all.items ++ map (seen_in (file_view l.file.types.names.file.now)) (pous_view (drop l.pou-index l.pous)) ≡ map (seen_in (file_view l.file.types.names.file.now)) (pous_view l.pous);
}
