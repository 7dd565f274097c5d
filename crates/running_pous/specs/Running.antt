-- Which POUs may run: those that the PROGRAM uses, and those that a POU uses that may run.
use Rattle.std.specs.Prelude.{ℕ, ◌==◌, Bool, ◌||◌, List, map}
use Rattle.std.specs.List.{list_any}
use Rattle.call_order.specs.Uses.{Graph, leads_to}
use Rattle.program_tree.specs.Tree.{Statements, CalledData}
use Rattle.running_pous.specs.Uses.{uses_of_all, uses_of_called}

-- for each POU what it uses
abbrev pub uses_by : List CalledData → Graph
uses_by cs = map uses_of_called cs

-- a number is one of the first, or one of these leads to it
abbrev pub is_led_to : Graph → List ℕ → ℕ → Bool
is_led_to g first n = list_any (λ s. s == n || leads_to g s n) first

-- whether the POU of a number may run, where the PROGRAM has these POUs and this body
abbrev pub may_run : List CalledData → Statements → ℕ → Bool
may_run cs body n = is_led_to (uses_by cs) (uses_of_all body) n
