-- The kinds of records by their numbers.
-- Assumes nothing.
use Rattle.std.specs.Prelude.{ℕ, Option, None, Some, List, [], ◌∷◌, get_or}
use Rattle.table.specs.declared.record.Kind.{Kind}
use Rattle.table.specs.declared.record.Kind.TheVariants.{Procedure, Skip, Set, If, While, Spawn, Suspend, Await, Constant, Variable, Binary, Unary, Guard}

-- the number of each kind, in the order of the table of kinds
abbrev pub number_of : Kind → ℕ
number_of Procedure = 1
number_of Skip = 2
number_of Set = 3
number_of If = 4
number_of While = 5
number_of Spawn = 6
number_of Suspend = 7
number_of Await = 8
number_of Constant = 9
number_of Variable = 10
number_of Binary = 11
number_of Unary = 12
number_of Guard = 13

-- the kinds by their numbers; 0 is none's
abbrev pub kinds_numbered : List (Option Kind)
kinds_numbered =
    None
    ∷ Some Procedure
    ∷ Some Skip
    ∷ Some Set
    ∷ Some If
    ∷ Some While
    ∷ Some Spawn
    ∷ Some Suspend
    ∷ Some Await
    ∷ Some Constant
    ∷ Some Variable
    ∷ Some Binary
    ∷ Some Unary
    ∷ Some Guard
    ∷ []

-- the kind that a byte names, if it names one
abbrev pub kind_named : ℕ → Option Kind
kind_named n = get_or kinds_numbered n None

-- the kind of the record that starts there; a record behind the last has none, and 0 names none
abbrev pub kind_there : List ℕ → (off : ℕ) → Option Kind
kind_there table off = kind_named (get_or table off 0)
