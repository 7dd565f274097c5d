-- Rules, refusals, and which of several comes first.
use Rattle.std.specs.Prelude.{◌≡◌, ◌⊎◌, ℕ, Bool, true, ◌&&◌, ◌||◌, ◌==◌, nat_lt, if◌then◌else◌, List, [], ◌∷◌, Option, Some, None, codes}
use Rattle.rules.specs.declared.rule.Rule.{Rule}
use Rattle.rules.specs.declared.rule.Rule.TheVariants as rules_of
use Rattle.rules.specs.declared.rule.Refusal.{Refusal}

-- the printed name
abbrev pub name_of : Rule → List ℕ
name_of rules_of.TooLong = codes "M1"
name_of rules_of.StrayByte = codes "L1"
name_of rules_of.OpenComment = codes "L2"
name_of rules_of.NumberForm = codes "L5"
name_of rules_of.NumberSize = codes "L3"
name_of rules_of.WordLength = codes "L4"
name_of rules_of.LeftOutWord = codes "X1"
name_of rules_of.TooDeep = codes "G2"
name_of rules_of.NoTree = codes "G1"
name_of rules_of.LineOrder = codes "R1"
name_of rules_of.NumberLimits = codes "R2"
name_of rules_of.NoSide = codes "R3"
name_of rules_of.DeclaredTwice = codes "N1"
name_of rules_of.UnknownName = codes "N2"
name_of rules_of.InTermsOfItself = codes "N3"
name_of rules_of.WrongUse = codes "N4"
name_of rules_of.NotOneProgram = codes "N5"
name_of rules_of.NotOneInitialStep = codes "C1"
name_of rules_of.UnknownStep = codes "C2"
name_of rules_of.UnknownAction = codes "C3"
name_of rules_of.StepTwice = codes "C4"
name_of rules_of.UnknownQualifier = codes "C5"
name_of rules_of.InputsDiffer = codes "P1"
name_of rules_of.InputCount = codes "P2"
name_of rules_of.OperandType = codes "Y1"
name_of rules_of.ValueType = codes "Y2"
name_of rules_of.OutsideType = codes "Y3"
name_of rules_of.NotAssignable = codes "Y4"
name_of rules_of.ArgumentCount = codes "Y5"
name_of rules_of.Overlap = codes "K1"
name_of rules_of.NotConstant = codes "F1"
name_of rules_of.StepZero = codes "F2"
name_of rules_of.TooManyTurns = codes "F3"
name_of rules_of.OutsideControl = codes "F4"
name_of rules_of.ExitOutsideFor = codes "F5"
name_of rules_of.TooManyValues = codes "M3"
name_of rules_of.NotBool = codes "R4"
name_of rules_of.TooManyCells = codes "M2"
name_of rules_of.TooManyStatements = codes "M5"
name_of rules_of.TooManyNodes = codes "M6"
name_of rules_of.TooManyCandidates = codes "M4"
name_of rules_of.TooManyGates = codes "M7"
name_of rules_of.FindingTooLong = codes "M8"
name_of rules_of.NoTrace = codes "J1"

-- the order of the rules at one place
abbrev pub rank_of : Rule → ℕ
rank_of rules_of.TooLong = 0
rank_of rules_of.StrayByte = 1
rank_of rules_of.OpenComment = 2
rank_of rules_of.NumberForm = 3
rank_of rules_of.NumberSize = 4
rank_of rules_of.WordLength = 5
rank_of rules_of.LeftOutWord = 6
rank_of rules_of.TooDeep = 7
rank_of rules_of.NoTree = 8
rank_of rules_of.LineOrder = 9
rank_of rules_of.NumberLimits = 10
rank_of rules_of.NoSide = 11
rank_of rules_of.DeclaredTwice = 12
rank_of rules_of.UnknownName = 13
rank_of rules_of.InTermsOfItself = 14
rank_of rules_of.WrongUse = 15
rank_of rules_of.NotOneProgram = 16
rank_of rules_of.NotOneInitialStep = 17
rank_of rules_of.UnknownStep = 18
rank_of rules_of.UnknownAction = 19
rank_of rules_of.StepTwice = 20
rank_of rules_of.UnknownQualifier = 21
rank_of rules_of.InputsDiffer = 22
rank_of rules_of.InputCount = 23
rank_of rules_of.OperandType = 24
rank_of rules_of.ValueType = 25
rank_of rules_of.OutsideType = 26
rank_of rules_of.NotAssignable = 27
rank_of rules_of.ArgumentCount = 28
rank_of rules_of.Overlap = 29
rank_of rules_of.NotConstant = 30
rank_of rules_of.StepZero = 31
rank_of rules_of.TooManyTurns = 32
rank_of rules_of.OutsideControl = 33
rank_of rules_of.ExitOutsideFor = 34
rank_of rules_of.TooManyValues = 35
rank_of rules_of.NotBool = 36
rank_of rules_of.TooManyCells = 37
rank_of rules_of.TooManyStatements = 38
rank_of rules_of.TooManyNodes = 39
rank_of rules_of.TooManyCandidates = 40
rank_of rules_of.TooManyGates = 41
rank_of rules_of.FindingTooLong = 42
rank_of rules_of.NoTrace = 43

-- one refusal comes before another of the same pass: by place, then by the order of the rules
abbrev pub comes_before : Refusal → Refusal → Bool
comes_before a b = nat_lt a.at b.at || (a.at == b.at && nat_lt (rank_of a.rule) (rank_of b.rule))

abbrev pub first_of_two : Refusal → Refusal → Refusal
first_of_two a b = if comes_before b a then b else a

-- the first of two, where there is one
abbrev pub earlier : Option Refusal → Option Refusal → Option Refusal
earlier None other = other
earlier (Some a) None = Some a
earlier (Some a) (Some b) = Some (first_of_two a b)

-- the first of a list, where there is one
abbrev pub first_in : List Refusal → Option Refusal
first_in [] = None
first_in (r ∷ rs) = earlier (Some r) (first_in rs)

-- one stands in a list
abbrev pub IsAmong : Refusal → List Refusal → Type 0
IsAmong r [] = ⊥
IsAmong r (x ∷ xs) = (r ≡ x) ⊎ IsAmong r xs

-- the first of a pass: it is broken, and each other broken rule stands behind it, or at its place later in order
pub record IsFirst (broken : Refusal → Type 0) (r : Refusal) : Type 0 where
  pub is_broken : broken r
  pub before : (other : Refusal) → broken other → (r ≡ other) ⊎ (comes_before r other ≡ true)

-- two refusals that are the same, but for the place of G1, which no definition fixes
abbrev pub IsSame : Refusal → Refusal → Type 0
IsSame r s = (r ≡ s) ⊎ ((r.rule ≡ rules_of.NoTree) × (s.rule ≡ rules_of.NoTree))
