-- Reading statements.
use Rattle.std.specs.Prelude.{ℕ, zero, suc, Bool, true, false, ◌&&◌, List, [], ◌∷◌, Option, Some, None, if◌then◌else◌}
use Rattle.grammar.specs.declared.opener.Opener.{Opener}
use Rattle.grammar.specs.declared.opener.Opener.TheVariants as openers
use Rattle.source_tree.specs.declared.token.Mark.{Mark}
use Rattle.source_tree.specs.declared.token.Mark.TheVariants.{Semicolon, Colon, Assign, If, Then, Elsif, Else, EndIf, Case, Of, EndCase, EndFor, Return}
use Rattle.source_tree.specs.Syntax.{Symbol, name, iteration, exit_word, mark, Named, Tree, LabelData, Stmt, empty, assign, branch, cases, iterate, exit, return, Stmts, no_stmts, stmt, Arms, no_arms, arm, Entries, no_entries, entry, Otherwise, no_else, else_stmts}
use Rattle.grammar.specs.Marks.{same_mark}
use Rattle.grammar.specs.Ends.{is_label, ends_entries}
use Rattle.grammar.specs.Reading.{Read, ◌>>=◌, after, opened as parenthesis}
use Rattle.grammar.specs.Expressions.{path_from, inside, expression}
use Rattle.grammar.specs.Connections.{invoked}
use Rattle.grammar.specs.Labels.{labels}
use Rattle.grammar.specs.Iterations.{iteration_from}

abbrev pub add_stmt : Stmts → Stmt → Stmts
add_stmt no_stmts s = stmt s no_stmts
add_stmt (stmt x ss) s = stmt x (add_stmt ss s)

abbrev pub add_arm : Arms → Tree → Stmts → Arms
add_arm no_arms e ss = arm e ss no_arms
add_arm (arm x xs arms) e ss = arm x xs (add_arm arms e ss)

abbrev pub add_entry : Entries → List LabelData → Stmts → Entries
add_entry no_entries ls ss = entry ls ss no_entries
add_entry (entry k xs es) ls ss = entry k xs (add_entry es ls ss)

-- behind the first name of a target. The number bounds the turns of each loop.
unfoldable pub assigned : ℕ → Read Tree → Named → Read Stmt
assigned turns expr n ts = path_from turns n ts >>= λ p. after Assign p.1 >>= λ ts. expr ts >>= λ e. after Semicolon e.1 >>= λ rest. Some (assign p.0 e.0, rest)

abbrev pub simple_or : ℕ → ℕ → Named → List Symbol → Option (ℕ × List Symbol) → Option (Stmt × List Symbol)
simple_or turns depth n ts (Some o) = invoked turns (inside turns depth) n o.0 o.1
simple_or turns depth n ts None = assigned turns (expression turns depth) n ts

-- behind the name that begins a statement: a call of a block where `(` follows, or an assignment. Parentheses nest no deeper than the second number.
unfoldable pub simple : ℕ → ℕ → Named → Read Stmt
simple turns depth n ts = simple_or turns depth n ts (parenthesis ts)

-- behind EXIT or RETURN, which is such a statement
unfoldable pub ended : Stmt → Read Stmt
ended s ts = after Semicolon ts >>= λ rest. Some (s, rest)

-- what the next symbol begins: a statement that is read or not, or None where it begins no statement
abbrev pub Begun : Type 0
Begun = Option (Option (Stmt × List Symbol))

-- the same, where this mark is the next symbol
unfoldable pub marked : (Opener → Read Stmt) → Mark → List Symbol → Begun
marked nested_of m ts =
    if same_mark m Semicolon then Some (Some (empty, ts))
    else (if same_mark m If then Some (nested_of openers.If ts)
    else (if same_mark m Case then Some (nested_of openers.Case ts)
    else (if same_mark m Return then Some (ended return ts) else None)))

-- the truth value is whether labels may follow
unfoldable pub begun : Bool → (Named → Read Stmt) → (Opener → Read Stmt) → List Symbol → Begun
begun labelled simple_of nested_of (name t at ∷ ts) = if labelled && is_label ts then None else Some (simple_of (record { text = t; at = at }) ts)
begun labelled simple_of nested_of (iteration at ∷ ts) = Some (nested_of (openers.For at) ts)
begun labelled simple_of nested_of (exit_word at ∷ ts) = Some (ended (exit at) ts)
begun labelled simple_of nested_of (mark m ∷ ts) = marked nested_of m ts
begun labelled simple_of nested_of ts = None

abbrev pub statements_step : (Stmts → Read Stmts) → Stmts → List Symbol → Begun → Option (Stmts × List Symbol)
statements_step more_of ss ts None = Some (ss, ts)
statements_step more_of ss ts (Some s) = s >>= λ s. more_of (add_stmt ss s.0) s.1

-- the statements after those that were read. The number bounds the turns.
unfoldable pub statements_from : Bool → (Named → Read Stmt) → (Opener → Read Stmt) → ℕ → Stmts → Read Stmts
statements_from labelled simple_of nested_of zero ss ts = Some (ss, ts)
statements_from labelled simple_of nested_of (suc n) ss ts = statements_step (statements_from labelled simple_of nested_of n) ss ts (begun labelled simple_of nested_of ts)

module _ (turns : ℕ) (expr : Read Tree) (body : Read Stmts) where
  abbrev pub arms_step : (Arms → Read Arms) → Arms → List Symbol → Option (List Symbol) → Option (Arms × List Symbol)
  arms_step more_of found ts None = Some (found, ts)
  arms_step more_of found ts (Some rest) = more_of found rest

  -- arms from a condition on, after those that were read
  unfoldable pub arms_from : ℕ → Arms → Read Arms
  arms_from zero found ts = None
  arms_from (suc n) found ts = expr ts >>= λ e. after Then e.1 >>= λ r. body r >>= λ ss. arms_step (arms_from n) (add_arm found e.0 ss.0) ss.1 (after Elsif ss.1)

  abbrev pub otherwise_or : Mark → List Symbol → Option (List Symbol) → Option (Otherwise × List Symbol)
  otherwise_or closing ts (Some rest) = body rest >>= λ ss. after closing ss.1 >>= λ rest. Some (else_stmts ss.0, rest)
  otherwise_or closing ts None = after closing ts >>= λ rest. Some (no_else, rest)

  -- ELSE and its statements, where there are any, and the word that closes
  unfoldable pub otherwise : Mark → Read Otherwise
  otherwise closing ts = otherwise_or closing ts (after Else ts)

  -- behind IF
  unfoldable pub branched : Read Stmt
  branched ts = arms_from turns no_arms ts >>= λ a. otherwise EndIf a.1 >>= λ o. Some (branch a.0 o.0, o.1)

  -- behind FOR, whose place is given
  unfoldable pub repeated : ℕ → Read Stmt
  repeated at ts = iteration_from expr at ts >>= λ i. body i.1 >>= λ ss. after EndFor ss.1 >>= λ rest. Some (iterate i.0 ss.0, rest)

-- statements are read as where labels may follow, or as where none may
module _ (turns : ℕ) (expr : Read Tree) (body : Bool → Read Stmts) where
  abbrev pub entries_step : (Entries → Read Entries) → Entries → List Symbol → Bool → Option (Entries × List Symbol)
  entries_step more_of found ts true = Some (found, ts)
  entries_step more_of found ts false = more_of found ts

  -- entries up to ELSE or END_CASE, after those that were read
  unfoldable pub entries_from : ℕ → Entries → Read Entries
  entries_from zero found ts = None
  entries_from (suc n) found ts =
      labels turns [] ts >>= λ ls. after Colon ls.1 >>= λ r. body true r >>= λ ss. entries_step (entries_from n) (add_entry found ls.0 ss.0) ss.1 (ends_entries ss.1)

  -- behind CASE
  unfoldable pub selected : Read Stmt
  selected ts = expr ts >>= λ e. after Of e.1 >>= λ r. entries_from turns no_entries r >>= λ es. otherwise turns expr (body false) EndCase es.1 >>= λ o. Some (cases e.0 es.0 o.0, o.1)

  -- behind IF, CASE or FOR
  unfoldable pub opened : Opener → Read Stmt
  opened openers.If ts = branched turns expr (body false) ts
  opened openers.Case ts = selected ts
  opened (openers.For at) ts = repeated turns expr (body false) at ts

-- the rest of an IF, CASE or FOR that may hold parentheses and statements down to this depth, itself among them
unfoldable pub nested : ℕ → ℕ → Opener → Read Stmt
nested turns zero o ts = None
nested turns (suc depth) o ts = opened turns (expression turns depth) (λ labelled ts. statements_from labelled (simple turns depth) (nested turns depth) turns no_stmts ts) o ts

-- statements in which parentheses and statements nest no deeper than the second number
unfoldable pub statements : ℕ → ℕ → Bool → Read Stmts
statements turns depth labelled ts = statements_from labelled (simple turns depth) (nested turns depth) turns no_stmts ts
