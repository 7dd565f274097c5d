-- What texts and what is accepted of them stand for in memory.
use Rattle.program_tree.specs.View.{program_view}
use Rattle.scan_model.specs.Pairs.{relation_view}
use Rattle.command_files.specs.Kept.{IsKept}
use Rattle.command_files.specs.KeptTexts.{AreKept}
use Rattle.command_files.specs.Texts.{Texts}
use Rattle.replay_command.specs.declared.accept.ReplayTexts.{ReplayTexts}
use Rattle.replay_command.specs.declared.accept.Replay.{Replay}
use Rattle.replay_command.specs.Accepting.{IsAccepted}

-- all four texts, but for those that are too long
pub record AreAllKept (kept : ReplayTexts) (t : Texts) : Type 0 where
  pub three : AreKept kept.three t
  pub trace : IsKept kept.trace t.trace

abbrev pub ReplayIsAccepted : Texts → Replay → Type 0
ReplayIsAccepted t r = IsAccepted t (program_view r.old) (program_view r.new) (relation_view r.relation) r.rows
