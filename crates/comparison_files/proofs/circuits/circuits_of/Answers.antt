use Rattle.std.proofs.Common.{◌≡◌, ◌∙◌, refl, ap, ap₂}
use Rattle.product_build.specs.Limits.{HasFewGates, HasManyGates}
use Rattle.query_formulas.specs.QueryClauses.{formula_by}
use Rattle.product_build.specs.MadeCircuits.{comparison_between, formula_of}
use Rattle.comparison_files.specs.Accepting.{gates}
use Rattle.comparison_files.specs.Comparing.{formulas_by}
use Rattle.comparison_files.specs.Held.{comparison_in}
use Rattle.comparison_files.proofs.Gates.{scans_within, by_nodes}
use Rattle.comparison_files.proofs.circuits.circuits_of.Goals as goal

pub product-requires-clause-typed : goal.product-requires-clause-typed
product-requires-clause-typed c = c.compared.invariant.read.typed

pub product-requires-clause-old_scan : goal.product-requires-clause-old_scan
product-requires-clause-old_scan c = (scans_within _ _ c.args.scans c.compared.view_is c.requires).old_meaning

pub product-requires-clause-new_scan : goal.product-requires-clause-new_scan
product-requires-clause-new_scan c = (scans_within _ _ c.args.scans c.compared.view_is c.requires).new_meaning

pub returns-in-Ok-clause-compared : goal.returns-in-Ok-clause-compared
returns-in-Ok-clause-compared c =
    (λ i. comparison_between (c.in-Ok.ensures.old i) (c.in-Ok.ensures.new i) (c.in-Ok.ensures.relation i)) ∙ ap comparison_in c.compared.view_is

pub returns-in-Ok-clause-formulas : goal.returns-in-Ok-clause-formulas
returns-in-Ok-clause-formulas c =
    by_nodes _ _ c.args.scans c.compared.view_is c.requires (λ k old new. formula_of c.in-Ok.circuits ≡ formulas_by k old new) (ap₂ formula_by c.in-Ok.ensures.product c.in-Ok.ensures.breaks)

pub returns-in-Ok-clause-few : goal.returns-in-Ok-clause-few
returns-in-Ok-clause-few c = by_nodes _ _ c.args.scans c.compared.view_is c.requires HasFewGates c.in-Ok.ensures.few

pub returns-in-Err-TooMany-clause-too_many : goal.returns-in-Err-TooMany-clause-too_many
returns-in-Err-TooMany-clause-too_many c =
    (refl, (refl, by_nodes _ _ c.args.scans c.compared.view_is c.requires HasManyGates (c.in-Err-TooMany.ensures.too_many c.in-Err-TooMany.field-0-is)))

pub returns-in-Err-TooMany-clause-refused : goal.returns-in-Err-TooMany-clause-refused
returns-in-Err-TooMany-clause-refused c = λ t stated.
    let many = by_nodes _ _ c.args.scans c.compared.view_is c.requires HasManyGates (c.in-Err-TooMany.ensures.too_many c.in-Err-TooMany.field-0-is) in
    gates (comparison_in c.args.compared.now) stated many refl refl
