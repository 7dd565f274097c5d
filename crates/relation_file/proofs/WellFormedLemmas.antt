-- Lines that break nothing state a relation that is well formed.
use Rattle.std.proofs.Common.{◌≡◌, ℕ, List, [], refl, sym, subst}
use Rattle.program_tree.specs.Tree.{ProgramData}
use Rattle.scan_model.specs.Pairs.{RelationData}
use Rattle.relation_lines.specs.declared.line.Setting.TheVariants as settings
use Rattle.relation_lines.specs.Lines.{LineData}
use Rattle.relation_file.specs.Broken.{broken_lines}
use Rattle.relation_file.specs.Relations.{setting_in, relation_of}
use Rattle.relation_file.specs.WellFormed.{IsWellFormed}
use Rattle.relation_file.proofs.LimitLemmas.{limited, limits}
use Rattle.relation_file.proofs.InputLemmas.{only_inputs, every_input}
use Rattle.relation_file.proofs.OnceLemmas.{once, all_alike}

stated_well_formed : (old new : ProgramData) (end : ℕ) (lines : List LineData) → broken_lines old new end lines ≡ [] → IsWellFormed old new (relation_of old new lines)
stated_well_formed old new end lines sound = record {
  candidates = refl;
  depth = limits (setting_in settings.Depth lines) 64 (limited old new settings.Depth end lines sound);
  conflicts = limits (setting_in settings.Conflicts lines) 1000000 (limited old new settings.Conflicts end lines sound);
  only_inputs = λ side. only_inputs old new side end lines sound;
  every_input = λ side place c there input. every_input old new side end lines sound place c there input;
  once = λ side. once old new side end lines sound;
  alike = all_alike old new end lines sound;
}

pub relation_well_formed : (old new : ProgramData) (end : ℕ) (lines : List LineData) (r : RelationData) → broken_lines old new end lines ≡ [] → r ≡ relation_of old new lines → IsWellFormed old new r
relation_well_formed old new end lines r sound is = subst (IsWellFormed old new) (sym is) (stated_well_formed old new end lines sound)
