use Rattle.std.proofs.Common.{◌≡◌, ℕ, ◌<◌, length, slice_index, get_or}
use Rattle.gates.specs.Literals.{plain}
use Rattle.lane_sim.proofs.uses.note_wanted.Given as goal

abbrev pub invariant-loop-lit : goal.invariant-loop-lit
invariant-loop-lit l = record {
  len : length l.last ≡ length l.initial.last;
  wanted : (i : ℕ) → i < l.lit-index → (get_or l.wanted i (plain 0)).variable < length l.last → slice_index l.last (get_or l.wanted i (plain 0)).variable ≡ 4294967295;
}
