use Rattle.flat_rule_laws.proofs.KeptRules.{flat_program-keeps_rules}
use Rattle.flat_rule_laws.proofs.rule_laws.flat_form_keeps_rules.Goals as goal

pub returns : goal.returns
returns c = flat_program-keeps_rules
