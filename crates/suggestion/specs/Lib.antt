pub use Rattle.line_trials.specs as line_trials
