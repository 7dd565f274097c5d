-- Where a file breaks no rule, each of its POUs is whole over the scope in which it is typed.
use Rattle.std.proofs.Common.{◌≡◌, ℕ, [], Some}
use Rattle.source_tree.specs.Syntax.{PouData, FileData}
use Rattle.source_tree.specs.Levels.{IsFileLevelled}
use Rattle.naming.specs.FileScope.{pou_at}
use Rattle.naming.specs.Scopes.{variables_in_pou, scope_of as names_of}
use Rattle.naming.specs.Broken.{broken_names}
use Rattle.typing.specs.Places.{sizes_of}
use Rattle.typing.specs.Members.{scope_of}
use Rattle.typing.specs.Pous.{broken_types}
use Rattle.alike_scopes.specs.bound_names.BoundNames.{bound_uses}
use Rattle.whole_files.specs.WholePous.{IsWholePou}
use Rattle.whole_files.proofs.WholeVariables.{all_whole}
use Rattle.whole_files.proofs.WholeBodies.{body_bound, pou_variables, body_unplaced}
use Rattle.alike_scopes.proofs.AlikeStatements.{body_too}
use Rattle.alike_scopes.proofs.PlacedScopes.{scopes_alike}
use Rattle.whole_files.proofs.ApartControls.{controls_apart}

pub whole_pou : (f : FileData) → broken_names f ≡ [] → IsFileLevelled f → broken_types f ≡ [] → (k : ℕ) (d : PouData) → pou_at f k ≡ Some d → IsWholePou f k d
whole_pou f names levels types k d at =
    let uses = bound_uses f (names_of d) in
    let s = scope_of f [] k in
    let t = scope_of f (sizes_of f) k in record {
      variables = all_whole f (variables_in_pou d) (pou_variables f names levels types k d at);
      body = body_too s t (scopes_alike f [] (sizes_of f) k) uses (controls_apart f k d at [] (sizes_of f)) d.body (body_bound f names levels k d at) (body_unplaced f names levels types k d at);
    }
