use Rattle.alike_scopes.proofs.st_names.WholeNames.{pou_whole}
use Rattle.typing.specs.Places.{sizes_of}
use Rattle.whole_files.proofs.WholeBodies.{no_names, names_of_body}
use Rattle.whole_files.proofs.ChartNames.{body_named}
use Rattle.whole_files.proofs.laws.law_chart_names.Goals as goal

pub returns : goal.returns
returns c = λ f names k d at. body_named f (sizes_of f) k d at (names_of_body f d (pou_whole f (no_names f names) k d at))
