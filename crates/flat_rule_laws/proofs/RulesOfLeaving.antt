-- A cell that says that an EXIT or a RETURN was met is cleared before the list in which it is set and read. So what asks for it keeps the rules of
-- flat programs.
use Rattle.std.proofs.Common.{ℕ, ◌<◌, Bool, true, false, List, [], ◌∷◌, refl, inl, inr, arith}
use Rattle.program_tree.specs.Tree.{Expression}
use Rattle.program_tree.specs.declared.scratch.Scratch.{Scratch}
use Rattle.flat_core.specs.FlatTree.{FlatStatement}
use Rattle.flat_core.specs.FlatRules.{Reads, IsReadable}
use Rattle.flat_form.specs.Unless.{Flags, without_flags, was_left, guarded, unless_left, flag_scratch, flag_start, turn_flags, body_flags}
use Rattle.flat_rule_laws.proofs.RulesOfCalls.{Keeps, behind, Within, Usable, readable_later, StandAt}

module _ (n : ℕ) (cs : List Scratch) where
  -- ---- the cells that an EXIT and a RETURN set may be read

  abbrev pub FlagsMay : List ℕ → Flags → Type 0
  FlagsMay d flags = Usable n cs d flags.exit × Usable n cs d flags.returning

  -- FAULT stands where there is no FOR and no body
  pub without_flags-may : (d : List ℕ) → 0 < n → FlagsMay d without_flags
  without_flags-may d some = ((inl some, omega arith), (inl some, omega arith))

  pub flags_later : (done d : List ℕ) (flags : Flags) → Within done d → FlagsMay done flags → FlagsMay d flags
  flags_later done d flags w m = ((readable_later n cs done d w flags.exit m.0.0, m.0.1), (readable_later n cs done d w flags.returning m.1.0, m.1.1))

  -- ---- what asks for them

  was_left-reads : (exits returns : Bool) (flags : Flags) (d : List ℕ) → FlagsMay d flags → Reads (IsReadable n d) (was_left exits returns flags)
  was_left-reads true true flags d m = (m.0.0, (m.1.0, tt))
  was_left-reads true false flags d m = m.0.0
  was_left-reads false returns flags d m = m.1.0

  guarded-keeps : (left : Expression) (ts : List FlatStatement) (d : List ℕ) → Reads (IsReadable n d) left → Keeps n cs d ts → Keeps n cs d (guarded left ts)
  guarded-keeps left [] d may h = tt
  guarded-keeps left (t ∷ ts) d may h = ((may, h, tt), tt)

  pub unless_left-keeps : (exits returns : Bool) (flags : Flags) (ts : List FlatStatement) (d : List ℕ) → FlagsMay d flags → Keeps n cs d ts → Keeps n cs d (unless_left exits returns flags ts)
  unless_left-keeps true returns flags ts d m h = guarded-keeps (was_left true returns flags) ts d (was_left-reads true returns flags d m) h
  unless_left-keeps false true flags ts d m h = guarded-keeps (was_left false true flags) ts d (was_left-reads false true flags d m) h
  unless_left-keeps false false flags ts d m h = h

  -- ---- a cell of their own is cleared before the turns of a FOR, and before the list of a body

  pub flag_start-keeps : (test : Bool) (k : ℕ) (d : List ℕ) → StandAt n cs k (flag_scratch test) → Keeps n cs d (flag_start test k)
  flag_start-keeps true k d is = ((is.0.room, tt, inr (inl is.0.is_subrange)), tt)
  flag_start-keeps false k d is = tt

  pub turn_flags-may : (test : Bool) (flags : Flags) (k : ℕ) (d : List ℕ) → StandAt n cs k (flag_scratch test) → FlagsMay d flags → FlagsMay (behind (flag_start test k) d) (turn_flags test flags k)
  turn_flags-may true flags k d is m = ((inr (inl refl), is.0.room), (flags_later d (k ∷ d) flags (λ p h. inr h) m).1)
  turn_flags-may false flags k d is m = m

  pub body_flags-may : (test : Bool) (flags : Flags) (k : ℕ) (d : List ℕ) → StandAt n cs k (flag_scratch test) → FlagsMay d flags → FlagsMay (behind (flag_start test k) d) (body_flags test flags k)
  body_flags-may true flags k d is m = ((flags_later d (k ∷ d) flags (λ p h. inr h) m).0, (inr (inl refl), is.0.room))
  body_flags-may false flags k d is m = m
