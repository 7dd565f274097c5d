-- Reading calls of blocks.
use Rattle.std.specs.Prelude.{ℕ, zero, suc, List, [], ◌∷◌, ◌++◌, Option, Some, None}
use Rattle.source_tree.specs.declared.token.Mark.TheVariants.{Assign, Arrow, Close, Comma, Semicolon}
use Rattle.source_tree.specs.Syntax.{Symbol, Named, PathData, Tree, ConnectionData, input, output, Stmt, invoke}
use Rattle.grammar.specs.Reading.{Read, ◌>>=◌, after, named}
use Rattle.grammar.specs.Expressions.{path_from}

-- a target. The number bounds the turns of each loop: that of the tokens is always enough.
unfoldable pub target : ℕ → Read PathData
target turns ts = named ts >>= λ n. path_from turns n.0 n.1

-- values are read inside parentheses
module _ (turns : ℕ) (inner : Read Tree) where
  abbrev pub connection_or : Named → List Symbol → Option (List Symbol) → Option (ConnectionData × List Symbol)
  connection_or n ts (Some rest) = inner rest >>= λ e. Some (input n e.0, e.1)
  connection_or n ts None = after Arrow ts >>= λ rest. target turns rest >>= λ p. Some (output n p.0, p.1)

  -- `:=` and the value of an input, or `=>` and the target of an output, behind their name
  unfoldable pub connected : Named → Read ConnectionData
  connected n ts = connection_or n ts (after Assign ts)

  -- a connection
  unfoldable pub connection : Read ConnectionData
  connection ts = named ts >>= λ n. connected n.0 n.1

  abbrev pub connections_step : (List ConnectionData → Read (List ConnectionData)) → List ConnectionData → List Symbol → Option (List Symbol) → Option (List ConnectionData × List Symbol)
  connections_step more_of cs ts None = Some (cs, ts)
  connections_step more_of cs ts (Some rest) = more_of cs rest

  -- connections with commas between them, after those that were read
  unfoldable pub connections_from : ℕ → List ConnectionData → Read (List ConnectionData)
  connections_from zero cs ts = None
  connections_from (suc n) cs ts = connection ts >>= λ c. connections_step (connections_from n) (cs ++ c.0 ∷ []) c.1 (after Comma c.1)

  abbrev pub connections_or : List Symbol → Option (List Symbol) → Option (List ConnectionData × List Symbol)
  connections_or ts (Some rest) = Some ([], rest)
  connections_or ts None = connections_from turns [] ts >>= λ cs. after Close cs.1 >>= λ rest. Some (cs.0, rest)

  -- the connections of a call and `)`, behind `(`
  unfoldable pub connections : Read (List ConnectionData)
  connections ts = connections_or ts (after Close ts)

  -- behind the name of an instance and `(`, whose place is given
  unfoldable pub invoked : Named → ℕ → Read Stmt
  invoked n at ts = connections ts >>= λ cs. after Semicolon cs.1 >>= λ rest. Some (invoke n at cs.0, rest)
