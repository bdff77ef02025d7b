-- Document 01, "From the trial press": the starred rows and rows beside them as one table, and what it is to pass a row.
-- Assumes nothing.
use Rattle.std.specs.Prelude.{ℕ, zero, suc, ◌+◌, ◌-◌, ◌*◌, ◌/◌, Bool, true, false, ◌&&◌, cond, List, [], ◌∷◌, ◌++◌, eqb, ℤ, pos, negsuc, length, take, replicate}
use Rattle.std.proofs.Math.Option.{Option, none, some}
use Rattle.rules.specs.Fields.{bits, bytes2, bytes4}
use Rattle.rules.specs.Values.{lowest, highest}
use Rattle.rules.specs.Recipe.{row}
use Rattle.rules.specs.Run.{Started, start_on, Outcome, run_on}
use Rattle.rules.specs.Why.{Explained, halves, why_on}
use Rattle.rules.specs.Batch.{Checked, check_all_on, concat}

-- A table, a block (the one that start writes, if none is given), the budget and the log buffer's length; the number returned, the steps, the place, and
-- all that is logged and the block left where the row says it.
pub record Row : Type 0 where
  pub table : List ℕ
  pub block : Option (List ℕ)
  pub budget : ℕ
  pub room : ℕ
  pub number : ℕ
  pub steps : ℕ
  pub place : ℕ
  pub log : Option (List ℕ)
  pub left : Option (List ℕ)

-- "with budget and log long enough unless said otherwise"
abbrev pub run : List ℕ → ℕ → ℕ → Option (List ℕ) → Row
run t n s l = record { table = t; block = none; budget = 1000; room = 800; number = n; steps = s; place = 0; log = l; left = none }

-- with this budget and so many bytes of log
abbrev pub within : (budget room : ℕ) → List ℕ → ℕ → ℕ → Row
within b r t n s = record { table = t; block = none; budget = b; room = r; number = n; steps = s; place = 0; log = none; left = none }

-- from this block; with this log; leaving this block
abbrev pub from : List ℕ → Row → Row
from b x =
    record { table = x.table; block = some b; budget = x.budget; room = x.room; number = x.number; steps = x.steps; place = x.place; log = x.log; left = x.left }

abbrev pub logs : List ℕ → Row → Row
logs l x =
    record { table = x.table; block = x.block; budget = x.budget; room = x.room; number = x.number; steps = x.steps; place = x.place; log = some l; left = x.left }

abbrev pub leaves : List ℕ → Row → Row
leaves b x =
    record { table = x.table; block = x.block; budget = x.budget; room = x.room; number = x.number; steps = x.steps; place = x.place; log = x.log; left = some b }

-- naming this record
abbrev pub naming : ℕ → Row → Row
naming i x =
    record { table = x.table; block = x.block; budget = x.budget; room = x.room; number = x.number; steps = x.steps; place = i; log = x.log; left = x.left }

abbrev pub refused : List ℕ → ℕ → ℕ → Row
refused t n i = record { table = t; block = none; budget = 1000; room = 800; number = n; steps = 0; place = i; log = some []; left = none }

-- "Tables are written as kind(name, span, value)." (A log record has the same layout: kind, valve, task, value.)
abbrev pub row_a : List ℕ
row_a =
    row 1 0 5 (pos 0) ++ row 6 8 1 (pos 1) ++ row 9 0 0 (pos 5) ++ row 8 8 0 (pos 0) ++ row 3 0 1 (pos 0) ++ row 9 0 0 (pos 1)
    ++ row 1 0 2 (pos 0) ++ row 3 1 1 (pos 0) ++ row 10 64 0 (pos 0)

abbrev pub log_a : List ℕ
log_a =
    row 1 0 1 (pos 2) ++ row 4 0 1 (pos 2) ++ row 2 0 2 (pos 0) ++ row 7 1 2 (pos 5) ++ row 6 0 2 (pos 0)
    ++ row 2 0 1 (pos 0) ++ row 7 0 1 (pos 1) ++ row 6 0 1 (pos 0)

abbrev pub row_b : List ℕ
row_b = row 1 0 3 (pos 0) ++ row 6 8 1 (pos 1) ++ row 9 0 0 (pos 0) ++ row 8 8 0 (pos 0) ++ row 1 0 1 (pos 0) ++ row 7 0 0 (pos 0)

abbrev pub log_b : List ℕ
log_b =
    row 1 0 1 (pos 2) ++ row 4 0 1 (pos 2) ++ row 2 0 2 (pos 0) ++ row 3 0 2 (pos 0) ++ row 5 0 1 (pos 2) ++ row 2 0 2 (pos 0)
    ++ row 6 0 2 (pos 0) ++ row 2 0 1 (pos 0) ++ row 6 0 1 (pos 0)

abbrev pub row_c : List ℕ
row_c = row 1 0 1 (pos 0) ++ row 8 8 0 (pos 0)

abbrev pub log_c : List ℕ
log_c = row 4 0 1 (pos 0) ++ row 2 0 1 (pos 0) ++ row 6 0 1 (pos 0)

abbrev pub row_d : List ℕ
row_d = row 1 0 3 (pos 0) ++ row 3 8 1 (pos 0) ++ row 9 0 0 (pos 1) ++ row 8 8 0 (pos 0)

abbrev pub row_e : List ℕ
row_e = row 1 0 0 (pos 0)

abbrev pub row_f : List ℕ
row_f = row 1 0 4 (pos 0) ++ row 5 0 3 (pos 0) ++ row 9 0 0 (pos 1) ++ row 6 8 1 (pos 1) ++ row 9 0 0 (pos 0) ++ row 1 0 0 (pos 0)

-- ---- values

-- a operator b is z
pub record Case : Type 0 where
  pub left : ℤ
  pub right : ℤ
  pub result : ℤ

abbrev pub is : ℤ → ℤ → ℤ → Case
is a b z = record { left = a; right = b; result = z }

-- the number −n
abbrev pub minus : ℕ → ℤ
minus zero = pos 0
minus (suc n) = negsuc n

-- the expression a operator b of two constants
abbrev pub operation : (operator : ℕ) → ℤ → ℤ → List ℕ
operation o a b = row 11 o 2 (pos 0) ++ row 9 0 0 a ++ row 9 0 0 b

-- valve 0 is set to each result, and the log shows it: for two operands and for one
abbrev pub sets_two : ℕ → List Case → List ℕ
sets_two o [] = []
sets_two o (c ∷ cs) = row 3 0 3 (pos 0) ++ operation o c.left c.right ++ sets_two o cs

abbrev pub sets_one : ℕ → List Case → List ℕ
sets_one o [] = []
sets_one o (c ∷ cs) = row 3 0 2 (pos 0) ++ row 12 o 1 (pos 0) ++ row 9 0 0 c.left ++ sets_one o cs

abbrev pub shown : List Case → List ℕ
shown [] = row 6 0 1 (pos 0)
shown (c ∷ cs) = row 7 0 1 c.result ++ shown cs

abbrev pub two : (operator : ℕ) → List Case → Row
two o cs = run (row 1 0 (4 * length cs) (pos 0) ++ sets_two o cs) 0 (length cs + 1) (some (shown cs))

abbrev pub one : (operator : ℕ) → List Case → Row
one o cs = run (row 1 0 (3 * length cs) (pos 0) ++ sets_one o cs) 0 (length cs + 1) (some (shown cs))

abbrev pub starred : List Row
starred =
    run row_a 0 8 (some log_a)
    ∷ run row_b 0 9 (some log_b)
    -- request 2.7 of document 02: "Trial row C finishes after 3 steps: wait, taken, ended"
    ∷ run row_c 0 3 (some log_c)
    ∷ run row_d 2 2 none
    ∷ run row_e 0 1 none
    ∷ within 0 800 row_e 1 0
    ∷ run row_f 3 63 none
    ∷ two 0 (is highest (pos 1) highest ∷ [])
    ∷ two 3 (is (minus 7) (pos 2) (minus 3) ∷ is lowest (minus 1) highest ∷ [])
    -- request 2.2 of document 02: "a quotient by 0 has none (trial row 5 by 0 too)"
    ∷ naming 1 (run (row 1 0 4 (pos 0) ++ row 3 0 3 (pos 0) ++ operation 3 (pos 5) (pos 0)) 24 0 (some []))
    ∷ []

-- ---- rows beside these

-- each operator with each sign that tells it from its neighbours, and at the ends of the range
abbrev pub operators : List Row
operators =
    two 0 (is (pos 7) (pos 2) (pos 9) ∷ is (minus 7) (pos 2) (minus 5) ∷ is (minus 7) (minus 2) (minus 9) ∷ is lowest (minus 1) lowest ∷ is highest lowest (minus 1) ∷ [])
    ∷ two 1 (is (pos 7) (pos 2) (pos 5) ∷ is (pos 2) (pos 7) (minus 5) ∷ is (minus 7) (minus 2) (minus 5) ∷ is lowest (pos 1) lowest ∷ is highest (minus 1) highest ∷ is (pos 0) lowest highest ∷ [])
    ∷ two 2 (is (pos 7) (pos 2) (pos 14) ∷ is (minus 7) (pos 2) (minus 14) ∷ is (minus 7) (minus 2) (pos 14) ∷ is (pos 65536) (pos 65536) highest ∷ is (pos 65536) (minus 65536) lowest ∷ is lowest (minus 1) highest ∷ is (pos 0) (minus 7) (pos 0) ∷ [])
    ∷ two 3 (is (pos 7) (minus 2) (minus 3) ∷ is (minus 7) (minus 2) (pos 3) ∷ is (pos 7) (pos 2) (pos 3) ∷ is (minus 1) (pos 2) (pos 0) ∷ is (pos 0) (minus 5) (pos 0) ∷ is lowest (pos 1) lowest ∷ [])
    ∷ two 4 (is (pos 1) (pos 2) (pos 1) ∷ is (pos 2) (pos 1) (pos 0) ∷ is (pos 2) (pos 2) (pos 0) ∷ is (minus 2) (minus 1) (pos 1) ∷ is (minus 1) (minus 2) (pos 0) ∷ is (minus 1) (pos 0) (pos 1) ∷ is (pos 0) (minus 1) (pos 0) ∷ is lowest highest (pos 1) ∷ is highest lowest (pos 0) ∷ [])
    ∷ two 5 (is (pos 2) (pos 2) (pos 1) ∷ is (pos 2) (pos 3) (pos 0) ∷ is (minus 2) (minus 2) (pos 1) ∷ is (minus 2) (minus 3) (pos 0) ∷ is (minus 1) (pos 1) (pos 0) ∷ is (pos 0) (minus 1) (pos 0) ∷ is lowest lowest (pos 1) ∷ is lowest highest (pos 0) ∷ [])
    ∷ two 6 (is (pos 5) (pos 7) (pos 1) ∷ is (pos 5) (pos 0) (pos 0) ∷ is (pos 0) (pos 5) (pos 0) ∷ is (pos 0) (pos 0) (pos 0) ∷ is (minus 1) (minus 2) (pos 1) ∷ is (minus 1) (pos 0) (pos 0) ∷ [])
    ∷ two 7 (is (pos 5) (pos 7) (pos 1) ∷ is (pos 5) (pos 0) (pos 1) ∷ is (pos 0) (pos 5) (pos 1) ∷ is (pos 0) (pos 0) (pos 0) ∷ is (minus 1) (pos 0) (pos 1) ∷ is (pos 0) (minus 2) (pos 1) ∷ is (minus 1) (minus 2) (pos 1) ∷ [])
    ∷ one 0 (is (pos 5) (pos 0) (minus 5) ∷ is (minus 5) (pos 0) (pos 5) ∷ is (pos 0) (pos 0) (pos 0) ∷ is lowest (pos 0) highest ∷ is highest (pos 0) (minus 2147483647) ∷ [])
    ∷ one 1 (is (pos 0) (pos 0) (pos 1) ∷ is (pos 1) (pos 0) (pos 0) ∷ is (pos 5) (pos 0) (pos 0) ∷ is (minus 1) (pos 0) (pos 0) ∷ [])
    ∷ []

-- sets of 7, 8, 63 and 64: a record for a valve alone; what was set is read back
abbrev pub names : List ℕ
names =
    row 1 0 12 (pos 0) ++ row 3 7 1 (pos 0) ++ row 9 0 0 (pos 4) ++ row 3 8 1 (pos 0) ++ row 9 0 0 (pos 5) ++ row 3 63 1 (pos 0) ++ row 9 0 0 (minus 6)
    ++ row 3 64 1 (pos 0) ++ row 10 63 0 (pos 0) ++ row 3 1 1 (pos 0) ++ row 10 8 0 (pos 0) ++ row 3 0 1 (pos 0) ++ row 10 64 0 (pos 0)

-- what a fresh state holds: the parameter, a variable, and valve 0 itself
abbrev pub at_first : List ℕ
at_first = row 1 0 6 (pos 0) ++ row 3 1 1 (pos 0) ++ row 10 64 0 (pos 0) ++ row 3 2 1 (pos 0) ++ row 10 63 0 (pos 0) ++ row 3 3 1 (pos 0) ++ row 10 0 0 (pos 0)

-- Two spawned tasks are taken up in the order of their spawns.
abbrev pub two_spawns : List ℕ
two_spawns =
    row 1 0 4 (pos 0) ++ row 6 8 1 (pos 1) ++ row 9 0 0 (pos 0) ++ row 6 9 1 (pos 2) ++ row 9 0 0 (pos 0) ++ row 1 0 0 (pos 0) ++ row 1 0 0 (pos 0)

-- A task of the third procedure does what stands there.
abbrev pub spawn_third : List ℕ
spawn_third =
    row 1 0 2 (pos 0) ++ row 6 8 1 (pos 2) ++ row 9 0 0 (pos 6) ++ row 1 0 1 (pos 0) ++ row 2 0 0 (pos 0) ++ row 1 0 2 (pos 0) ++ row 3 5 1 (pos 0) ++ row 10 64 0 (pos 0)

-- A task waits for variable 9, a number never issued, which another sets to its own number before it ends.
abbrev pub set_later : List ℕ
set_later =
    row 1 0 5 (pos 0) ++ row 3 9 1 (pos 0) ++ row 9 0 0 (minus 1) ++ row 6 8 1 (pos 1) ++ row 9 0 0 (pos 0) ++ row 8 9 0 (pos 0)
    ++ row 1 0 2 (pos 0) ++ row 3 9 1 (pos 0) ++ row 10 8 0 (pos 0)

-- A task spawned into its own parameter has the argument that the old parameter gave, and its number is then the parameter.
abbrev pub spawn_own : List ℕ
spawn_own =
    row 1 0 6 (pos 0) ++ row 3 64 1 (pos 0) ++ row 9 0 0 (pos 9) ++ row 6 64 1 (pos 1) ++ row 10 64 0 (pos 0) ++ row 3 0 1 (pos 0) ++ row 10 64 0 (pos 0)
    ++ row 1 0 2 (pos 0) ++ row 3 1 1 (pos 0) ++ row 10 64 0 (pos 0)

-- The number 1 is done once main has ended, which it does before the task that waits for it.
abbrev pub wait_for_main : List ℕ
wait_for_main =
    row 1 0 2 (pos 0) ++ row 6 8 1 (pos 1) ++ row 9 0 0 (pos 0) ++ row 1 0 3 (pos 0) ++ row 3 9 1 (pos 0) ++ row 9 0 0 (pos 1) ++ row 8 9 0 (pos 0)

-- main waits for this number
abbrev pub wait_for : ℤ → List ℕ
wait_for z = row 1 0 3 (pos 0) ++ row 3 8 1 (pos 0) ++ row 9 0 0 z ++ row 8 8 0 (pos 0)

-- A suspend before the await of a number that is then done: the task is tested when tried, with no turn before.
abbrev pub wait_tried : List ℕ
wait_tried = row 1 0 4 (pos 0) ++ row 6 8 1 (pos 1) ++ row 9 0 0 (pos 0) ++ row 7 0 0 (pos 0) ++ row 8 8 0 (pos 0) ++ row 1 0 0 (pos 0)

-- A skip between them: reached by the active task, the await joins the back though the number is done.
abbrev pub wait_done : List ℕ
wait_done =
    row 1 0 5 (pos 0) ++ row 6 8 1 (pos 1) ++ row 9 0 0 (pos 0) ++ row 7 0 0 (pos 0) ++ row 2 0 0 (pos 0) ++ row 8 8 0 (pos 0) ++ row 1 0 0 (pos 0)

-- "turned" has the value at the try, not the one of the wait, which was 0.
abbrev pub turn_later : List ℕ
turn_later =
    row 1 0 3 (pos 0) ++ row 6 8 1 (pos 1) ++ row 9 0 0 (pos 0) ++ row 8 9 0 (pos 0)
    ++ row 1 0 3 (pos 0) ++ row 3 9 1 (pos 0) ++ row 9 0 0 (pos 7) ++ row 7 0 0 (pos 0)

-- An if at the end of a while's body, taken and not taken; then what follows the while.
abbrev pub loop : List ℕ
loop =
    row 1 0 16 (pos 0) ++ row 3 8 1 (pos 0) ++ row 9 0 0 (pos 2)
    ++ row 5 0 11 (pos 0) ++ row 10 8 0 (pos 0) ++ row 3 0 1 (pos 0) ++ row 10 8 0 (pos 0)
    ++ row 3 8 3 (pos 0) ++ row 11 1 2 (pos 0) ++ row 10 8 0 (pos 0) ++ row 9 0 0 (pos 1)
    ++ row 4 0 3 (pos 0) ++ row 10 8 0 (pos 0) ++ row 3 1 1 (pos 0) ++ row 10 8 0 (pos 0)
    ++ row 3 2 1 (pos 0) ++ row 9 0 0 (pos 9)

-- "A body without statements counts as run through": an if or a while with this test, then a set of valve 0
abbrev pub no_body : (kind : ℕ) → ℤ → List ℕ
no_body k z = row 1 0 4 (pos 0) ++ row k 0 1 (pos 0) ++ row 9 0 0 z ++ row 3 0 1 (pos 0) ++ row 9 0 0 (pos 5)

abbrev pub readings : List Row
readings =
    run names 0 7 (some (row 7 7 1 (pos 4) ++ row 7 1 1 (pos 5) ++ row 7 0 1 (minus 6) ++ row 6 0 1 (pos 0)))
    ∷ run at_first 0 4 (some (row 7 1 1 (pos 0) ++ row 7 2 1 (pos 0) ++ row 7 3 1 (pos 0) ++ row 6 0 1 (pos 0)))
    ∷ run two_spawns 0 7
    (some (row 1 0 1 (pos 2) ++ row 1 0 1 (pos 3) ++ row 6 0 1 (pos 0) ++ row 2 0 2 (pos 0) ++ row 6 0 2 (pos 0) ++ row 2 0 3 (pos 0) ++ row 6 0 3 (pos 0)))
    ∷ run spawn_third 0 5 (some (row 1 0 1 (pos 2) ++ row 6 0 1 (pos 0) ++ row 2 0 2 (pos 0) ++ row 7 5 2 (pos 6) ++ row 6 0 2 (pos 0)))
    ∷ run set_later 0 8
    (some (row 1 0 1 (pos 2) ++ row 4 0 1 (minus 1) ++ row 2 0 2 (pos 0) ++ row 6 0 2 (pos 0) ++ row 2 0 1 (pos 0) ++ row 6 0 1 (pos 0)))
    ∷ run spawn_own 0 7
    (some (row 1 0 1 (pos 2) ++ row 7 0 1 (pos 2) ++ row 6 0 1 (pos 0) ++ row 2 0 2 (pos 0) ++ row 7 1 2 (pos 9) ++ row 6 0 2 (pos 0)))
    ∷ run wait_for_main 0 7
    (some (row 1 0 1 (pos 2) ++ row 6 0 1 (pos 0) ++ row 2 0 2 (pos 0) ++ row 4 0 2 (pos 1) ++ row 2 0 2 (pos 0) ++ row 6 0 2 (pos 0)))
    ∷ run (wait_for (minus 1)) 2 2 (some (row 4 0 1 (minus 1)))
    ∷ run (wait_for (pos 2)) 2 2 (some (row 4 0 1 (pos 2)))
    ∷ run wait_tried 0 6
    (some (row 1 0 1 (pos 2) ++ row 3 0 1 (pos 0) ++ row 2 0 2 (pos 0) ++ row 6 0 2 (pos 0) ++ row 2 0 1 (pos 0) ++ row 6 0 1 (pos 0)))
    ∷ run wait_done 0 9
    (some (row 1 0 1 (pos 2) ++ row 3 0 1 (pos 0) ++ row 2 0 2 (pos 0) ++ row 6 0 2 (pos 0) ++ row 2 0 1 (pos 0) ++ row 4 0 1 (pos 2) ++ row 2 0 1 (pos 0) ++ row 6 0 1 (pos 0)))
    ∷ run turn_later 2 8
    (some (row 1 0 1 (pos 2) ++ row 4 0 1 (pos 0) ++ row 2 0 2 (pos 0) ++ row 3 0 2 (pos 0) ++ row 5 0 1 (pos 7) ++ row 2 0 2 (pos 0) ++ row 6 0 2 (pos 0)))
    ∷ run loop 0 13 (some (row 7 0 1 (pos 2) ++ row 7 1 1 (pos 1) ++ row 7 0 1 (pos 1) ++ row 7 2 1 (pos 9) ++ row 6 0 1 (pos 0)))
    ∷ run (no_body 4 (pos 1)) 0 3 (some (row 7 0 1 (pos 5) ++ row 6 0 1 (pos 0)))
    ∷ run (no_body 4 (pos 0)) 0 3 (some (row 7 0 1 (pos 5) ++ row 6 0 1 (pos 0)))
    ∷ run (no_body 5 (pos 0)) 0 3 (some (row 7 0 1 (pos 5) ++ row 6 0 1 (pos 0)))
    ∷ within 5 800 (no_body 5 (minus 1)) 1 5
    ∷ []

-- ---- optional tasks

-- Main spawns procedure 1 into variable 8 if this number is not 0, awaits it, and sets valve 0.
abbrev pub optional : ℤ → List ℕ
optional z =
    row 1 0 7 (pos 0) ++ row 4 0 3 (pos 0) ++ row 9 0 0 z ++ row 6 8 1 (pos 1) ++ row 9 0 0 (pos 0) ++ row 8 8 0 (pos 0) ++ row 3 0 1 (pos 0) ++ row 9 0 0 (pos 5)
    ++ row 1 0 0 (pos 0)

-- A suspend before the await of a 0, and an await of the parameter, which is 0.
abbrev pub zero_tried : List ℕ
zero_tried = row 1 0 2 (pos 0) ++ row 7 0 0 (pos 0) ++ row 8 8 0 (pos 0)

abbrev pub own_zero : List ℕ
own_zero = row 1 0 1 (pos 0) ++ row 8 64 0 (pos 0)

-- Main awaits variable 9, a number never issued, which another task sets to 0 after a turn.
abbrev pub zero_later : List ℕ
zero_later =
    row 1 0 5 (pos 0) ++ row 3 9 1 (pos 0) ++ row 9 0 0 (pos 3) ++ row 6 8 1 (pos 1) ++ row 9 0 0 (pos 0) ++ row 8 9 0 (pos 0)
    ++ row 1 0 3 (pos 0) ++ row 7 0 0 (pos 0) ++ row 3 9 1 (pos 0) ++ row 9 0 0 (pos 0)

abbrev pub optionals : List Row
optionals =
    -- wanted or not
    run (optional (pos 1)) 0 8
    (some (row 1 0 1 (pos 2) ++ row 4 0 1 (pos 2) ++ row 2 0 2 (pos 0) ++ row 6 0 2 (pos 0) ++ row 2 0 1 (pos 0) ++ row 7 0 1 (pos 5) ++ row 6 0 1 (pos 0)))
    ∷ run (optional (pos 0)) 0 5 (some (row 4 0 1 (pos 0) ++ row 2 0 1 (pos 0) ++ row 7 0 1 (pos 5) ++ row 6 0 1 (pos 0)))
    -- reached from a suspend it is tested when tried, with no wait before; the last name of an await
    ∷ run zero_tried 0 3 (some (row 3 0 1 (pos 0) ++ row 2 0 1 (pos 0) ++ row 6 0 1 (pos 0)))
    ∷ run own_zero 0 3 (some log_c)
    -- a 0 that is there at the try
    ∷ run zero_later 0 11
    (some (row 1 0 1 (pos 2) ++ row 4 0 1 (pos 3) ++ row 2 0 2 (pos 0) ++ row 3 0 2 (pos 0) ++ row 5 0 1 (pos 3) ++ row 2 0 2 (pos 0) ++ row 6 0 2 (pos 0) ++ row 2 0 1 (pos 0)
    ++ row 6 0 1 (pos 0)))
    -- other numbers never issued: the lowest, and two whose last bytes are 0
    ∷ run (wait_for lowest) 2 2 (some (row 4 0 1 lowest))
    ∷ run (wait_for (pos 65536)) 2 2 (some (row 4 0 1 (pos 65536)))
    ∷ run (wait_for (pos 256)) 2 2 (some (row 4 0 1 (pos 256)))
    ∷ []

-- ---- guards

-- a procedure of these statements; expressions of one record and of two
abbrev pub procedure_of : List ℕ → List ℕ
procedure_of l = row 1 0 (length l / 8) (pos 0) ++ l

abbrev pub zero9 : List ℕ
zero9 = row 9 0 0 (pos 0)

abbrev pub one9 : List ℕ
one9 = row 9 0 0 (pos 1)

abbrev pub not9 : List ℕ
not9 = row 12 1 1 (pos 0) ++ zero9

-- a guard of this expression; main spawns procedure 1 into variable 8
abbrev pub guard_on : List ℕ → List ℕ
guard_on e = row 13 0 (length e / 8) (pos 0) ++ e

abbrev pub spawns8 : List ℕ
spawns8 = row 6 8 1 (pos 1) ++ zero9

-- Another task sets the guard's variable after two turns; to 0, though the guard was true when it was reached.
abbrev pub guard_later : List ℕ
guard_later = procedure_of (spawns8 ++ guard_on (row 10 9 0 (pos 0))) ++ procedure_of (row 7 0 0 (pos 0) ++ row 7 0 0 (pos 0) ++ row 3 9 1 (pos 0) ++ one9)

abbrev pub guard_lost : List ℕ
guard_lost = procedure_of (row 3 9 1 (pos 0) ++ one9 ++ spawns8 ++ guard_on (row 10 9 0 (pos 0))) ++ procedure_of (row 3 9 1 (pos 0) ++ zero9)

-- two tasks at a guard over their own parameter, 0 and 5
abbrev pub guard_own : List ℕ
guard_own = procedure_of (spawns8 ++ row 6 9 1 (pos 1) ++ row 9 0 0 (pos 5)) ++ procedure_of (guard_on (row 10 64 0 (pos 0)))

-- Main awaits a task at a guard of variable 9, which main sets to 1 before or behind its await.
abbrev pub guard_of9 : List ℕ
guard_of9 = procedure_of (guard_on (row 10 9 0 (pos 0)))

abbrev pub set9 : List ℕ
set9 = row 3 9 1 (pos 0) ++ one9

abbrev pub guarded : List Row
guarded =
    -- true when it is reached, alone and with another task queued: it joins the back
    run (procedure_of (guard_on one9)) 0 3 (some (row 4 0 1 (pos 0) ++ row 2 0 1 (pos 0) ++ row 6 0 1 (pos 0)))
    ∷ run (procedure_of (spawns8 ++ guard_on one9) ++ row_e) 0 6
    (some (row 1 0 1 (pos 2) ++ row 4 0 1 (pos 0) ++ row 2 0 2 (pos 0) ++ row 6 0 2 (pos 0) ++ row 2 0 1 (pos 0) ++ row 6 0 1 (pos 0)))
    -- turned twice, then passed; any value but 0 is true
    ∷ run guard_later 0 13
    (some (row 1 0 1 (pos 2) ++ row 4 0 1 (pos 0) ++ row 2 0 2 (pos 0) ++ row 3 0 2 (pos 0) ++ row 5 0 1 (pos 0) ++ row 2 0 2 (pos 0) ++ row 3 0 2 (pos 0) ++ row 5 0 1 (pos 0)
    ++ row 2 0 2 (pos 0) ++ row 6 0 2 (pos 0) ++ row 2 0 1 (pos 0) ++ row 6 0 1 (pos 0)))
    ∷ run (procedure_of (guard_on (row 9 0 0 (minus 2)))) 0 3 (some (row 4 0 1 (pos 0) ++ row 2 0 1 (pos 0) ++ row 6 0 1 (pos 0)))
    -- it is true or not when it is tried
    ∷ run guard_lost 2 6 (some (row 1 0 1 (pos 2) ++ row 4 0 1 (pos 0) ++ row 2 0 2 (pos 0) ++ row 6 0 2 (pos 0)))
    ∷ run guard_own 2 6 (some (row 1 0 1 (pos 2) ++ row 1 0 1 (pos 3) ++ row 6 0 1 (pos 0) ++ row 5 0 2 (pos 0) ++ row 2 0 3 (pos 0) ++ row 6 0 3 (pos 0)))
    -- all at untrue guards; an await of a task at a guard that would be true behind the await; the same, true before it
    ∷ run (procedure_of (spawns8 ++ guard_on zero9) ++ guard_of9) 2 2 (some (row 1 0 1 (pos 2) ++ row 4 0 1 (pos 0)))
    ∷ run (procedure_of (spawns8 ++ row 8 8 0 (pos 0) ++ set9) ++ guard_of9) 2 2 (some (row 1 0 1 (pos 2) ++ row 4 0 1 (pos 2)))
    ∷ run (procedure_of (spawns8 ++ set9 ++ row 8 8 0 (pos 0)) ++ guard_of9) 0 7
    (some (row 1 0 1 (pos 2) ++ row 4 0 1 (pos 2) ++ row 2 0 2 (pos 0) ++ row 6 0 2 (pos 0) ++ row 2 0 1 (pos 0) ++ row 6 0 1 (pos 0)))
    -- behind the guard's expression; at the end of a while's body, where the while is next
    ∷ run (procedure_of (guard_on not9 ++ row 3 0 1 (pos 0) ++ row 9 0 0 (pos 5))) 0 4
    (some (row 4 0 1 (pos 0) ++ row 2 0 1 (pos 0) ++ row 7 0 1 (pos 5) ++ row 6 0 1 (pos 0)))
    ∷ within 5 800 (procedure_of (row 5 0 3 (pos 0) ++ one9 ++ guard_on one9)) 1 5
    ∷ []

-- ---- no value

-- an expression without a value, and a set of valve 0 to an expression
abbrev pub none9 : List ℕ
none9 = operation 3 (pos 1) (pos 0)

abbrev pub set_to : List ℕ → List ℕ
set_to l = procedure_of (row 3 0 (length l / 8) (pos 0) ++ l)

-- valve 0 set to each of these expressions, which have no value: the set is not done
abbrev pub none_of : List (List ℕ) → List Row
none_of [] = []
none_of (l ∷ ls) = naming 1 (run (set_to l) 24 0 (some [])) ∷ none_of ls

-- each operator of two operands below this number, with the first and with the second operand without a value
abbrev pub one_without : ℕ → List (List ℕ)
one_without zero = []
one_without (suc o) = (row 11 o 4 (pos 0) ++ none9 ++ one9) ∷ (row 11 o 4 (pos 0) ++ one9 ++ none9) ∷ one_without o

-- valve 0 is set to 6 by variable 9
abbrev pub share : List ℕ
share = row 3 0 3 (pos 0) ++ row 11 3 2 (pos 0) ++ row 9 0 0 (pos 6) ++ row 10 9 0 (pos 0)

-- a skip and a statement of this kind and name, whose expression has no value
abbrev pub at_second : (kind name : ℕ) → List ℕ
at_second k n = procedure_of (row 2 0 0 (pos 0) ++ row k n 3 (pos 0) ++ none9)

-- main spawns procedure 1 and waits at a guard of 6 by variable 9, which is set after a turn
abbrev pub guard_share : List ℕ
guard_share = procedure_of (spawns8 ++ guard_on (row 11 3 2 (pos 0) ++ row 9 0 0 (pos 6) ++ row 10 9 0 (pos 0))) ++ procedure_of (row 7 0 0 (pos 0) ++ set9)

abbrev pub missing : List Row
missing =
    -- "both operands of "and" and "or" are always worked out": 0 and 1/0, 1 or 1/0
    none_of ((row 11 6 4 (pos 0) ++ zero9 ++ none9) ∷ (row 11 7 4 (pos 0) ++ one9 ++ none9) ∷ [])
    ++ none_of (one_without 8)
    ++ none_of ((row 12 0 3 (pos 0) ++ none9) ∷ (row 12 1 3 (pos 0) ++ none9) ∷ operation 3 (minus 5) (pos 0) ∷ operation 3 (pos 0) (pos 0) ∷ [])
    -- the steps before are counted and logged; each statement with an expression, a set of the parameter too
    ++ naming 9 (run (procedure_of (set9 ++ share ++ row 3 9 1 (pos 0) ++ zero9 ++ share)) 24 3 (some (row 7 0 1 (pos 6))))
    ∷ naming 2 (run (at_second 3 64) 24 1 (some []))
    ∷ naming 2 (run (at_second 4 0) 24 1 (some []))
    ∷ naming 2 (run (at_second 5 0) 24 1 (some []))
    ∷ naming 2 (run (at_second 6 8) 24 1 (some []))
    -- "A guard without a value counts as untrue": stuck; turned, and passed when it has one
    ∷ run (procedure_of (guard_on none9)) 2 1 (some (row 4 0 1 (pos 0)))
    ∷ run guard_share 0 10
    (some (row 1 0 1 (pos 2) ++ row 4 0 1 (pos 0) ++ row 2 0 2 (pos 0) ++ row 3 0 2 (pos 0) ++ row 5 0 1 (pos 0) ++ row 2 0 2 (pos 0) ++ row 6 0 2 (pos 0) ++ row 2 0 1 (pos 0)
    ++ row 6 0 1 (pos 0)))
    -- "tried after 1" and before 5
    ∷ within 0 0 (set_to none9) 1 0
    ∷ naming 1 (within 1 0 (set_to none9) 24 0)
    ∷ []

-- ---- tables at fault

-- so many negations, one in the other, around what follows
abbrev pub nested : ℕ → List ℕ → List ℕ
nested zero l = l
nested (suc n) l = row 12 0 (suc n) (pos 0) ++ nested n l

-- valve 0 is set to a constant under so many negations, which stands at depth n + 2
abbrev pub deep : ℕ → List ℕ → List ℕ
deep n l = row 1 0 (n + 2) (pos 0) ++ row 3 0 (n + 1) (pos 0) ++ nested n l

-- so many ifs, one in the other: the test of the innermost stands at depth n + 1
abbrev pub ifs : ℕ → List ℕ
ifs zero = []
ifs (suc n) = row 4 0 (2 * n + 1) (pos 0) ++ row 9 0 0 (pos 1) ++ ifs n

abbrev pub faults : List Row
faults =
    refused [] 11 0
    ∷ refused (0 ∷ row_e) 11 0
    ∷ refused (row 9 0 5 (pos 0)) 12 0
    ∷ refused (row 1 1 3 (pos 1)) 13 0
    ∷ refused (row 1 0 2 (pos 0) ++ row 3 65 1 (pos 1) ++ row 9 1 0 (pos 0)) 14 1
    ∷ refused (row 1 0 2 (pos 0) ++ row 6 7 1 (pos 0) ++ row 9 0 0 (pos 0)) 14 1
    ∷ refused (row 1 0 2 (pos 0) ++ row 6 8 1 (pos 256) ++ row 9 0 0 (pos 0)) 15 1
    ∷ refused (row 1 0 2 (pos 0) ++ row 6 8 1 (minus 1) ++ row 9 0 0 (pos 0)) 15 1
    -- a later statement, a later procedure, a body behind its test, a second operand
    ∷ refused (row 1 0 3 (pos 0) ++ row 3 0 1 (pos 0) ++ row 9 0 0 (pos 0) ++ row 9 0 0 (pos 0)) 12 3
    ∷ refused (row 1 0 0 (pos 0) ++ row 1 0 1 (pos 0) ++ row 9 0 0 (pos 0)) 12 2
    ∷ refused (row 1 0 3 (pos 0) ++ row 4 0 2 (pos 0) ++ row 9 0 0 (pos 0) ++ row 9 0 0 (pos 0)) 12 3
    ∷ refused (row 1 0 4 (pos 0) ++ row 3 0 3 (pos 0) ++ row 11 0 2 (pos 0) ++ row 9 0 0 (pos 0) ++ row 2 0 0 (pos 0)) 12 4
    -- a first operand that leaves none for the second, a kind 11 of span 1, a last operand that stops short
    ∷ refused (row 1 0 4 (pos 0) ++ row 3 0 3 (pos 0) ++ row 11 0 2 (pos 0) ++ row 12 0 1 (pos 0) ++ row 9 0 0 (pos 0)) 13 3
    ∷ refused (row 1 0 3 (pos 0) ++ row 3 0 2 (pos 0) ++ row 11 0 1 (pos 0) ++ row 9 0 0 (pos 0)) 13 2
    ∷ refused (row 1 0 3 (pos 0) ++ row 3 0 2 (pos 0) ++ row 9 0 0 (pos 0) ++ row 9 0 0 (pos 0)) 13 2
    -- depth 16 passes, 17 gives 16, and a bad name, span or value there comes first
    ∷ run (deep 14 (row 9 0 0 (pos 3))) 0 2 (some (row 7 0 1 (pos 3) ++ row 6 0 1 (pos 0)))
    ∷ refused (deep 15 (row 9 0 0 (pos 3))) 16 17
    ∷ refused (deep 15 (row 9 1 0 (pos 3))) 14 17
    ∷ refused (deep 15 (row 9 0 1 (pos 3))) 13 17
    ∷ refused (deep 15 (row 10 0 0 (pos 3))) 15 17
    ∷ refused (deep 15 (row 2 0 0 (pos 0))) 12 17
    ∷ run (procedure_of (guard_on (nested 14 one9))) 0 3 none
    ∷ refused (procedure_of (guard_on (nested 15 one9))) 16 17
    ∷ run (row 1 0 30 (pos 0) ++ ifs 15) 0 16 none
    ∷ refused (row 1 0 32 (pos 0) ++ ifs 16) 16 32
    -- 17 at the earliest spawn, and only when all records pass
    ∷ refused (row 1 0 2 (pos 0) ++ row 6 8 1 (pos 1) ++ row 9 0 0 (pos 0)) 17 1
    ∷ refused (row 1 0 4 (pos 0) ++ row 6 8 1 (pos 1) ++ row 9 0 0 (pos 0) ++ row 6 8 1 (pos 2) ++ row 9 0 0 (pos 0)) 17 1
    ∷ refused (row 1 0 4 (pos 0) ++ row 6 8 1 (pos 0) ++ row 9 0 0 (pos 0) ++ row 6 8 1 (pos 2) ++ row 9 0 0 (pos 0)) 17 3
    ∷ refused (row 1 0 4 (pos 0) ++ row 6 8 1 (pos 1) ++ row 9 0 0 (pos 0) ++ row 3 65 1 (pos 0) ++ row 9 0 0 (pos 0)) 14 3
    ∷ []

-- each of the tables is refused with this number and place
abbrev pub each : ℕ → ℕ → List (List ℕ) → List Row
each n i [] = []
each n i (t ∷ ts) = refused t n i ∷ each n i ts

-- the table of kinds: each kind's name one past its row, its value not 0 where unused, its span where it has none and where it needs one
abbrev pub columns : List Row
columns =
    each 14 0 (row 1 1 0 (pos 0) ∷ [])
    ++ each 14 1
    (procedure_of (row 2 1 0 (pos 0)) ∷ procedure_of (row 3 65 1 (pos 0) ++ zero9) ∷ procedure_of (row 4 1 1 (pos 0) ++ zero9) ∷ procedure_of (row 5 1 1 (pos 0) ++ zero9)
    ∷ procedure_of (row 6 65 1 (pos 0) ++ zero9) ∷ procedure_of (row 7 1 0 (pos 0)) ∷ procedure_of (row 8 65 0 (pos 0)) ∷ procedure_of (row 13 1 1 (pos 0) ++ zero9) ∷ [])
    ++ each 14 2 (set_to (row 9 1 0 (pos 0)) ∷ set_to (row 10 65 0 (pos 0)) ∷ set_to (row 11 8 2 (pos 0) ++ zero9 ++ zero9) ∷ set_to (row 12 2 1 (pos 0) ++ zero9) ∷ [])
    ++ each 15 0 (row 1 0 0 (pos 1) ∷ [])
    ++ each 15 1
    (procedure_of (row 2 0 0 (pos 1)) ∷ procedure_of (row 3 0 1 (minus 1) ++ zero9) ∷ procedure_of (row 4 0 1 (pos 1) ++ zero9) ∷ procedure_of (row 5 0 1 (pos 1) ++ zero9)
    ∷ procedure_of (row 7 0 0 (pos 1)) ∷ procedure_of (row 8 0 0 lowest) ∷ procedure_of (row 13 0 1 (pos 1) ++ zero9) ∷ [])
    ++ each 15 2 (set_to (row 10 0 0 (pos 1)) ∷ set_to (row 11 0 2 (pos 1) ++ zero9 ++ zero9) ∷ set_to (row 12 0 1 (pos 1) ++ zero9) ∷ [])
    ++ each 13 1
    (procedure_of (row 2 0 1 (pos 0) ++ zero9) ∷ procedure_of (row 7 0 1 (pos 0) ++ zero9) ∷ procedure_of (row 8 0 1 (pos 0) ++ zero9) ∷ procedure_of (row 3 0 0 (pos 0))
    ∷ procedure_of (row 4 0 0 (pos 0)) ∷ procedure_of (row 5 0 0 (pos 0)) ∷ procedure_of (row 6 8 0 (pos 0)) ∷ procedure_of (row 3 0 2 (pos 0) ++ zero9)
    ∷ procedure_of (row 13 0 0 (pos 0)) ∷ procedure_of (row 13 0 2 (pos 0) ++ zero9) ∷ [])
    ++ each 13 2
    (set_to (row 9 0 1 (pos 0) ++ zero9) ∷ set_to (row 10 0 1 (pos 0) ++ zero9) ∷ set_to (row 11 0 0 (pos 0)) ∷ set_to (row 12 0 0 (pos 0)) ∷ set_to (row 12 0 2 (pos 0) ++ zero9) ∷ [])
    -- the operand of a spawn, of a guard, of one operator and of two that stops short
    ++ each 13 2 (procedure_of (row 6 8 2 (pos 0) ++ zero9 ++ zero9) ∷ procedure_of (row 13 0 2 (pos 0) ++ zero9 ++ zero9) ∷ [])
    ++ each 13 3 (set_to (row 12 0 2 (pos 0) ++ zero9 ++ zero9) ∷ [])
    ++ each 13 4 (set_to (row 11 0 3 (pos 0) ++ zero9 ++ zero9 ++ zero9) ∷ [])
    -- what stands behind an expression of two records: a statement, the body of an if, a second operand
    ++ each 12 4 (procedure_of (row 3 0 2 (pos 0) ++ not9 ++ zero9) ∷ procedure_of (row 4 0 3 (pos 0) ++ not9 ++ zero9) ∷ [])
    ++ each 12 5 (set_to (row 11 0 3 (pos 0) ++ not9 ++ row 2 0 0 (pos 0)) ∷ [])
    ++ each 12 0 (row 0 0 0 (pos 0) ∷ row 2 0 0 (pos 0) ∷ guard_on zero9 ∷ [])
    ++ each 12 1 (procedure_of (row 0 0 0 (pos 0)) ∷ procedure_of (row 1 0 0 (pos 0)) ∷ procedure_of (row 14 0 0 (pos 0)) ∷ [])
    ++ each 12 2 (set_to (row 8 0 0 (pos 0)) ∷ set_to (guard_on zero9) ∷ set_to (row 14 0 0 (pos 0)) ∷ procedure_of (guard_on (row 2 0 0 (pos 0))) ∷ [])
    ++ each 17 1 (procedure_of (row 6 8 1 (pos 255) ++ zero9) ∷ [])
    -- a skip and a suspend as the first place
    ++ run (procedure_of (row 2 0 0 (pos 0))) 0 2 (some (row 6 0 1 (pos 0)))
    ∷ run (procedure_of (row 7 0 0 (pos 0))) 0 3 (some (row 3 0 1 (pos 0) ++ row 2 0 1 (pos 0) ++ row 6 0 1 (pos 0)))
    ∷ []

-- ---- lent blocks

-- a task's first record: number, place, parameter; and its second: spawner, times taken up
abbrev pub first : (number place : ℕ) → ℤ → List ℕ
first n k z = bytes2 n ++ bytes2 k ++ bytes4 (bits z)

abbrev pub kept : (number place : ℕ) → ℤ → (spawner taken_up : ℕ) → List ℕ
kept n k z s u = first n k z ++ bytes2 s ++ 0 ∷ 0 ∷ bytes4 u

-- spawned by the task whose number is one below (1 by none), and never taken up
abbrev pub task : (number place : ℕ) → ℤ → List ℕ
task n k z = kept n k z (n - 1) 0

-- a block with the rest of its bytes 0
abbrev pub block_of : (issued live active : ℕ) → List ℕ → List ℕ
block_of i n a ts = bytes2 i ++ n ∷ a ∷ 0 ∷ 0 ∷ 0 ∷ 0 ∷ ts ++ replicate (768 - length ts) 0

-- a block with two live tasks, and with variables
abbrev pub variables : List ℤ → List ℕ
variables [] = []
variables (z ∷ zs) = bytes4 (bits z) ++ variables zs

abbrev pub block_with : (issued active : ℕ) → (first second : List ℕ) → List ℤ → List ℕ
block_with i a t u zs = bytes2 i ++ 2 ∷ a ∷ 0 ∷ 0 ∷ 0 ∷ 0 ∷ (t ++ u ++ replicate 480 0 ++ variables zs)

-- valves 1 and 2 are set to the parameter and to variable 63
abbrev pub read_back : List ℕ
read_back = row 1 0 4 (pos 0) ++ row 3 1 1 (pos 0) ++ row 10 64 0 (pos 0) ++ row 3 2 1 (pos 0) ++ row 10 63 0 (pos 0)

abbrev pub before : List ℤ
before = pos 258 ∷ pos 0 ∷ pos 0 ∷ replicate 60 (pos 3) ++ minus 2 ∷ []

abbrev pub behind : List ℤ
behind = pos 258 ∷ minus 9 ∷ minus 2 ∷ replicate 60 (pos 3) ++ minus 2 ∷ []

-- the tasks 1 to n, all at place 1
abbrev pub crowd : ℕ → List ℕ
crowd zero = []
crowd (suc n) = crowd n ++ task (suc n) 1 (pos 0)

-- main spawns procedure 1, which is empty
abbrev pub spawn_one : List ℕ
spawn_one = row 1 0 2 (pos 0) ++ row 6 8 1 (pos 1) ++ row 9 0 0 (pos 0) ++ row 1 0 0 (pos 0)

-- main spawns itself, with an argument that has no value
abbrev pub spawn_none : List ℕ
spawn_none = procedure_of (row 6 8 3 (pos 0) ++ none9)

abbrev pub blocks : List Row
blocks =
    -- 21 and 22, the earliest state record: its head; a number that is 0, not issued or had by an earlier record; a place that is none; an unused record
    from (take 775 (block_of 1 0 0 [])) (refused row_e 21 0)
    ∷ from (take 520 (block_of 1 0 0 [])) (refused row_e 21 0)
    ∷ from (block_of 1 0 0 [] ++ 0 ∷ []) (refused row_e 21 0)
    ∷ from (block_of 0 0 0 []) (refused row_e 22 0)
    ∷ from (block_of 40 33 0 (crowd 32)) (refused row_e 22 0)
    ∷ from (block_of 1 1 2 (task 1 1 (pos 0))) (refused row_e 22 0)
    ∷ from (block_of 1 0 1 []) (refused row_e 22 0)
    ∷ from (1 ∷ 0 ∷ 0 ∷ 0 ∷ 0 ∷ 0 ∷ 0 ∷ 1 ∷ replicate 768 0) (refused row_e 22 0)
    ∷ from (block_of 9 4 1 (crowd 1 ++ task 0 1 (pos 0) ++ task 3 0 (pos 0) ++ task 1 1 (pos 0))) (refused row_e 22 3)
    ∷ from (block_of 9 4 0 (crowd 1 ++ task 10 1 (pos 0) ++ task 3 0 (pos 0) ++ task 1 1 (pos 0))) (refused row_e 22 3)
    ∷ from (block_of 9 4 0 (crowd 2 ++ task 1 1 (pos 0) ++ task 4 0 (pos 0))) (refused row_e 22 5)
    ∷ from (block_of 9 3 0 (crowd 2 ++ task 3 0 (pos 0))) (refused row_e 22 5)
    ∷ from (block_of 9 3 0 (crowd 2 ++ task 3 3 (pos 0))) (refused row_c 22 5)
    ∷ from (block_of 9 2 0 (crowd 1 ++ task 2 2 (pos 0))) (refused row_d 22 3)
    ∷ from (block_of 9 2 0 (crowd 1 ++ task 1 1 (pos 0))) (refused row_e 22 3)
    ∷ from (block_of 9 2 0 (task 3 1 (pos 0) ++ task 3 2 (pos 0))) (refused row_c 22 3)
    ∷ from (block_of 9 2 0 (crowd 2 ++ task 0 0 (pos 0) ++ task 0 0 (pos 1))) (refused row_e 22 7)
    ∷ from (block_of 9 2 0 (crowd 2 ++ task 0 0 lowest)) (refused row_e 22 5)
    ∷ from (block_of 9 2 0 (crowd 2 ++ task 0 256 (pos 0))) (refused row_e 22 5)
    ∷ from (block_of 9 2 0 (crowd 2 ++ task 3 0 (pos 0))) (refused row_e 22 5)
    ∷ from (block_of 32 31 0 (crowd 31 ++ task 0 0 (pos 1))) (refused row_e 22 63)
    -- "Table first"
    ∷ from (block_of 0 0 0 []) (refused (row 9 0 5 (pos 0)) 12 0)
    ∷ from [] (refused (row 9 0 5 (pos 0)) 12 0)
    -- at a guard a task stands, at its expression none
    ∷ from (block_of 9 2 0 (crowd 1 ++ task 2 2 (pos 0))) (refused (procedure_of (guard_on one9)) 22 3)
    -- every field of a block, read and written: two steps of the active task; a front taken up; a front turned, at an await and at a guard; a task spawned;
    -- one that ends
    ∷ from (block_with 300 1 (kept 3 1 (minus 9) 2 7) (kept 270 5 (pos 4) 258 70000) before)
    (logs (row 7 1 3 (minus 9) ++ row 7 2 3 (minus 2))
    (leaves (block_with 300 1 (kept 3 5 (minus 9) 2 7) (kept 270 5 (pos 4) 258 70000) behind) (within 2 800 read_back 1 2)))
    ∷ from (block_with 300 0 (kept 270 1 (minus 9) 258 70000) (kept 3 5 (pos 4) 1 7) before)
    (logs (row 2 0 270 (pos 0))
    (leaves (block_with 300 1 (kept 270 1 (minus 9) 258 70001) (kept 3 5 (pos 4) 1 7) before) (within 1 800 read_back 1 1)))
    ∷ from (block_with 300 0 (kept 270 1 (minus 9) 258 70000) (kept 3 2 (pos 4) 1 7) before)
    (logs (row 5 0 270 (pos 3))
    (leaves (block_with 300 0 (kept 3 2 (pos 4) 1 7) (kept 270 1 (minus 9) 258 70000) before) (within 1 800 row_c 1 1)))
    ∷ from (block_with 300 0 (kept 270 1 (minus 9) 258 70000) (kept 3 3 (pos 4) 1 7) before)
    (logs (row 5 0 270 (pos 0))
    (leaves (block_with 300 0 (kept 3 3 (pos 4) 1 7) (kept 270 1 (minus 9) 258 70000) before) (within 1 800 (procedure_of (guard_on (row 10 1 0 (pos 0)))) 1 1)))
    ∷ from (block_of 300 1 1 (kept 258 1 (minus 9) 2 7))
    (leaves (block_with 301 1 (kept 258 3 (minus 9) 2 7) (kept 301 4 (pos 0) 258 0) (replicate 8 (pos 0) ++ pos 301 ∷ replicate 55 (pos 0)))
    (within 1 800 spawn_one 1 1))
    ∷ from (block_with 300 1 (task 3 5 (minus 9)) (kept 270 1 (pos 4) 258 70000) before)
    (logs (row 6 0 3 (pos 0))
    (leaves (bytes2 300 ++ 1 ∷ 0 ∷ 0 ∷ 0 ∷ 0 ∷ 0 ∷ (kept 270 1 (pos 4) 258 70000 ++ replicate 496 0 ++ variables before)) (within 1 800 read_back 1 1)))
    -- request 2.6 of document 02: the times taken up stay at the largest value
    ∷ from (block_of 9 1 0 (kept 2 1 (pos 0) 1 4294967294)) (leaves (block_of 9 1 1 (kept 2 1 (pos 0) 1 4294967295)) (within 1 8 row_e 1 1))
    ∷ from (block_of 9 1 0 (kept 2 1 (pos 0) 1 4294967295)) (leaves (block_of 9 1 1 (kept 2 1 (pos 0) 1 4294967295)) (within 1 8 row_e 1 1))
    -- 22 at a second record: of task 1 a spawner; of another none, its own number, a number above; bytes 2 and 3; an unused one
    ∷ from (block_of 9 1 0 (kept 1 1 (pos 0) 1 0)) (refused row_e 22 2)
    ∷ from (block_of 9 1 0 (kept 1 1 (pos 0) 256 0)) (refused row_e 22 2)
    ∷ from (block_of 9 2 0 (crowd 1 ++ kept 2 1 (pos 0) 0 0)) (refused row_e 22 4)
    ∷ from (block_of 9 2 0 (crowd 1 ++ kept 2 1 (pos 0) 2 0)) (refused row_e 22 4)
    ∷ from (block_of 9 2 0 (crowd 1 ++ kept 3 1 (pos 0) 4 0)) (refused row_e 22 4)
    ∷ from (block_of 9 1 0 (first 1 1 (pos 0) ++ 0 ∷ 0 ∷ 1 ∷ 0 ∷ [])) (refused row_e 22 2)
    ∷ from (block_of 9 1 0 (first 1 1 (pos 0) ++ 0 ∷ 0 ∷ 0 ∷ 1 ∷ [])) (refused row_e 22 2)
    ∷ from (block_of 9 1 0 (crowd 1 ++ kept 0 0 (pos 0) 1 0)) (refused row_e 22 4)
    ∷ from (block_of 9 1 0 (crowd 1 ++ kept 0 0 (pos 0) 0 1)) (refused row_e 22 4)
    -- a task's second record comes behind its first and before the next task's
    ∷ from (block_of 9 1 0 (kept 1 0 (pos 0) 1 0)) (refused row_e 22 1)
    ∷ from (block_of 9 2 0 (kept 1 1 (pos 0) 1 0 ++ task 1 0 (pos 0))) (refused row_e 22 2)
    -- spawners need not be live
    ∷ from (block_of 300 2 0 (kept 300 1 (pos 0) 299 0 ++ kept 258 1 (pos 0) 1 0)) (within 0 0 row_e 1 0)
    -- at a spawn: 31 and 32 live, 65,534 and 65,535 issued, both limits, no budget, no room
    ∷ from (block_of 31 31 1 (crowd 31)) (within 1 8 spawn_one 1 1)
    ∷ from (block_of 32 32 1 (crowd 32)) (within 1 8 spawn_one 3 0)
    ∷ from (block_of 65534 1 1 (crowd 1)) (within 1 8 spawn_one 1 1)
    ∷ from (block_of 65535 1 1 (crowd 1)) (within 1 8 spawn_one 4 0)
    ∷ from (block_of 65535 32 1 (crowd 32)) (within 1 8 spawn_one 3 0)
    ∷ from (block_of 65535 32 1 (crowd 32)) (within 0 8 spawn_one 1 0)
    ∷ from (block_of 65535 1 1 (crowd 1)) (within 1 0 spawn_one 4 0)
    -- a spawn without a value: 24 is tried before 3 and 4, behind 1, and leaves the block as it is
    ∷ from (block_of 32 32 1 (crowd 32)) (leaves (block_of 32 32 1 (crowd 32)) (naming 1 (within 1 8 spawn_none 24 0)))
    ∷ from (block_of 65535 1 1 (crowd 1)) (naming 1 (within 1 8 spawn_none 24 0))
    ∷ from (block_of 65535 32 1 (crowd 32)) (within 0 8 spawn_none 1 0)
    -- without budget: a finished state, a stuck one, one at an await of a 0; room for one record, and for two
    ∷ from (block_of 1 0 0 []) (within 0 0 row_e 0 0)
    ∷ from (block_of 1 1 0 (task 1 1 (pos 1))) (within 0 0 own_zero 2 0)
    ∷ from (block_of 1 1 0 (crowd 1)) (within 0 0 own_zero 1 0)
    ∷ from (block_of 1 1 0 (crowd 1)) (within 0 0 row_e 1 0)
    ∷ within 1000 15 two_spawns 5 1
    ∷ within 1000 16 two_spawns 5 2
    ∷ within 1 15 two_spawns 1 1
    -- skips need no room
    ∷ within 1000 8 (procedure_of (row 2 0 0 (pos 0) ++ row 2 0 0 (pos 0))) 0 3
    ∷ within 1000 7 (procedure_of (row 2 0 0 (pos 0) ++ row 2 0 0 (pos 0))) 5 2
    ∷ []

abbrev pub rows : List Row
rows = starred ++ operators ++ readings ++ optionals ++ guarded ++ missing ++ faults ++ columns ++ blocks

-- ---- start

-- a table and a block, the number and the place, and the block left
pub record StartRow : Type 0 where
  pub table : List ℕ
  pub block : List ℕ
  pub number : ℕ
  pub place : ℕ
  pub left : List ℕ

abbrev pub starts : List ℕ → List ℕ → ℕ → ℕ → List ℕ → StartRow
starts t b n i c = record { table = t; block = b; number = n; place = i; left = c }

-- the table comes before the block, whose length alone counts
abbrev pub start_rows : List StartRow
start_rows =
    starts row_a (replicate 776 255) 0 0 (block_of 1 1 1 (task 1 1 (pos 0)))
    ∷ starts row_a (replicate 775 7) 21 0 (replicate 775 7)
    ∷ starts row_a (replicate 520 7) 21 0 (replicate 520 7)
    ∷ starts (row 1 0 1 (pos 0) ++ row 9 0 0 (pos 0)) (replicate 775 7) 12 1 (replicate 775 7)
    ∷ starts (row 1 0 1 (pos 0) ++ row 9 0 0 (pos 0)) (replicate 776 7) 12 1 (replicate 776 7)
    ∷ starts [] [] 11 0 []
    ∷ []

-- ---- request 2.4 of document 02: why a state is stuck

-- a table, a block, the output's length; the number, the end and the place; the task numbers written
pub record WhyRow : Type 0 where
  pub table : List ℕ
  pub block : List ℕ
  pub room : ℕ
  pub number : ℕ
  pub end : ℕ
  pub place : ℕ
  pub numbers : List ℕ

abbrev pub why : List ℕ → List ℕ → ℕ → List ℕ → WhyRow
why t b e ns = record { table = t; block = b; room = 66; number = 0; end = e; place = 0; numbers = ns }

abbrev pub no_chain : List ℕ → List ℕ → (room number place : ℕ) → WhyRow
no_chain t b l n i = record { table = t; block = b; room = l; number = n; end = 0; place = i; numbers = [] }

-- the block that a run from the fresh state leaves
abbrev pub left_by : List ℕ → List ℕ
left_by t = (run_on t (start_on t (replicate 776 255)).block 1000 (replicate 800 0)).block

-- At place 1 a task awaits the number that its parameter is; at place 2 it stands at a guard that is untrue, at place 4 at one without a value, at
-- place 8 it can end.
abbrev pub waiting : List ℕ
waiting = procedure_of (row 8 64 0 (pos 0) ++ guard_on zero9 ++ guard_on none9)

-- the tasks 1 to n, each awaiting the next
abbrev pub row_of : ℕ → List ℕ
row_of zero = []
row_of (suc n) = row_of n ++ task (suc n) 1 (pos (suc (suc n)))

-- task 1 alone, awaiting itself
abbrev pub alone : List ℕ
alone = block_of 1 1 0 (task 1 1 (pos 1))

-- the numbers 1 to n
abbrev pub up_to : ℕ → List ℕ
up_to zero = []
up_to (suc n) = up_to n ++ suc n ∷ []

abbrev pub why_rows : List WhyRow
why_rows =
    -- the starred row that ends in "stuck"
    why row_d (left_by row_d) 1 (1 ∷ 1 ∷ [])
    -- two tasks in a circle behind a third; a circle of two
    ∷ why waiting (block_of 3 3 0 (task 3 1 (pos 1) ++ task 1 1 (pos 2) ++ task 2 1 (pos 1))) 1 (3 ∷ 1 ∷ 2 ∷ 1 ∷ [])
    ∷ why waiting (block_of 300 3 0 (task 300 1 (pos 258) ++ task 2 1 (pos 2) ++ task 258 1 (pos 300))) 1 (300 ∷ 258 ∷ 300 ∷ [])
    -- a guard at the end, untrue and without a value; a front at one, though others wait in a circle
    ∷ why waiting (block_of 3 3 0 (task 2 1 (pos 3) ++ task 1 2 (pos 0) ++ task 3 1 (pos 1))) 3 (2 ∷ 3 ∷ 1 ∷ [])
    ∷ why waiting (block_of 2 2 0 (task 2 1 (pos 1) ++ task 1 4 (pos 0))) 3 (2 ∷ 1 ∷ [])
    ∷ why waiting (block_of 2 2 0 (task 1 2 (pos 0) ++ task 2 1 (pos 2))) 3 (1 ∷ [])
    -- numbers never issued: below 0, one above the highest, two whose last two bytes are a task's number, and one whose last two are 0
    ∷ why (wait_for (minus 1)) (left_by (wait_for (minus 1))) 2 (1 ∷ [])
    ∷ why waiting (block_of 2 2 0 (task 2 1 (pos 1) ++ task 1 1 (pos 3))) 2 (2 ∷ 1 ∷ [])
    ∷ why waiting (block_of 2 2 0 (task 2 1 (pos 3) ++ task 1 1 (pos 2))) 2 (2 ∷ [])
    ∷ why waiting (block_of 2 2 0 (task 2 1 (pos 65537) ++ task 1 1 (pos 2))) 2 (2 ∷ [])
    ∷ why waiting (block_of 2 2 0 (task 2 1 (minus 65535) ++ task 1 1 (pos 2))) 2 (2 ∷ [])
    ∷ why waiting (block_of 2 2 0 (task 2 1 (pos 65536) ++ task 1 1 (pos 2))) 2 (2 ∷ [])
    -- 32 tasks in one chain
    ∷ why waiting (block_of 32 32 0 (row_of 31 ++ task 32 1 (pos 1))) 1 (up_to 32 ++ 1 ∷ [])
    -- not stuck: a task active, none live, one that can go on behind the front, one that awaits a done number, one that awaits a 0 behind the front and at it
    ∷ no_chain waiting (block_of 2 2 1 (task 2 1 (pos 1) ++ task 1 1 (pos 2))) 66 25 0
    ∷ no_chain waiting (block_of 2 0 0 []) 66 25 0
    ∷ no_chain waiting (block_of 2 2 0 (task 2 1 (pos 2) ++ task 1 8 (pos 0))) 66 25 0
    ∷ no_chain waiting (block_of 3 2 0 (task 2 1 (pos 1) ++ task 1 1 (pos 3))) 66 25 0
    ∷ no_chain waiting (block_of 2 2 0 (task 2 1 (pos 1) ++ task 1 1 (pos 0))) 66 25 0
    ∷ no_chain own_zero (block_of 1 1 0 (crowd 1)) 66 25 0
    -- outputs that are not of 66 bytes
    ∷ no_chain waiting alone 65 25 0
    ∷ no_chain waiting alone 67 25 0
    ∷ no_chain waiting alone 64 25 0
    -- the table first, then the block, then 25
    ∷ no_chain (row 9 0 5 (pos 0)) [] 65 12 0
    ∷ no_chain waiting (take 775 alone) 65 21 0
    ∷ no_chain waiting (block_of 1 2 0 (task 1 1 (pos 0) ++ task 1 1 (pos 0))) 65 22 3
    ∷ []

-- ---- request 2.5 of document 02: many recipes checked together

-- a buffer, the lengths, the bytes behind them in the list, and the space's length; the number, and then number and place of each recipe
pub record BatchRow : Type 0 where
  pub recipes : List ℕ
  pub lengths : List ℕ
  pub behind : List ℕ
  pub room : ℕ
  pub number : ℕ
  pub told : List ℕ

-- numbers, four bytes each
abbrev pub words : List ℕ → List ℕ
words [] = []
words (n ∷ ns) = bytes4 n ++ words ns

abbrev pub batch : List ℕ → List ℕ → List ℕ → BatchRow
batch b l ns = record { recipes = b; lengths = l; behind = []; room = 8 * length l; number = 0; told = ns }

-- with so many bytes of space
abbrev pub no_batch : List ℕ → List ℕ → ℕ → BatchRow
no_batch b l m = record { recipes = b; lengths = l; behind = []; room = m; number = 26; told = [] }

-- with these bytes behind the lengths
abbrev pub odd_batch : List ℕ → List ℕ → List ℕ → ℕ → BatchRow
odd_batch b l bytes m = record { recipes = b; lengths = l; behind = bytes; room = m; number = 26; told = [] }

abbrev pub skips : ℕ → List ℕ
skips zero = []
skips (suc n) = row 2 0 0 (pos 0) ++ skips n

-- so many outcomes 11
abbrev pub elevens : ℕ → List ℕ
elevens zero = []
elevens (suc n) = 11 ∷ 0 ∷ elevens n

-- a procedure with so many skips and a set of variable 65, which is none
abbrev pub bad_name : ℕ → List ℕ
bad_name n = row 1 0 (n + 2) (pos 0) ++ skips n ++ row 3 65 1 (pos 0) ++ zero9

abbrev pub batch_rows : List BatchRow
batch_rows =
    -- reading 22: "No recipes, an empty buffer and no space: 0"
    batch [] [] []
    ∷ batch row_a (72 ∷ []) (0 ∷ 0 ∷ [])
    -- each outcome in its turn; a place of two bytes
    ∷ batch (concat (row_c ∷ bad_name 2 ∷ row_b ∷ bad_name 300 ∷ [])) (16 ∷ 40 ∷ 48 ∷ 2424 ∷ []) (0 ∷ 0 ∷ 14 ∷ 3 ∷ 0 ∷ 0 ∷ 14 ∷ 301 ∷ [])
    -- "A recipe of length 0, over 32,768 or not a multiple of 8 has outcome 11": cut into recipes by the list alone
    ∷ batch (row_c ++ row_c) (0 ∷ 16 ∷ 12 ∷ 0 ∷ 4 ∷ []) (11 ∷ 0 ∷ 0 ∷ 0 ∷ 11 ∷ 0 ∷ 11 ∷ 0 ∷ 11 ∷ 0 ∷ [])
    ∷ batch (row_c ++ row_c) (8 ∷ 8 ∷ 16 ∷ []) (13 ∷ 0 ∷ 12 ∷ 0 ∷ 0 ∷ 0 ∷ [])
    ∷ batch (row 1 0 0 (pos 0) ++ replicate 32776 0) (8 ∷ 32776 ∷ []) (0 ∷ 0 ∷ 11 ∷ 0 ∷ [])
    -- 64 recipes, and one more
    ∷ batch [] (replicate 64 0) (elevens 64)
    ∷ no_batch [] (replicate 65 0) 520
    -- one to three bytes more in the list
    ∷ odd_batch row_c (16 ∷ []) (0 ∷ []) 8
    ∷ odd_batch row_c (16 ∷ []) (0 ∷ 0 ∷ []) 8
    ∷ odd_batch row_c (16 ∷ []) (0 ∷ 0 ∷ 0 ∷ []) 8
    ∷ odd_batch [] [] (0 ∷ []) 0
    -- lengths that do not add up: one byte less, one more, none, and sums that have the buffer's length in their last 32 bits
    ∷ no_batch row_c (15 ∷ []) 8
    ∷ no_batch row_c (17 ∷ []) 8
    ∷ no_batch row_c [] 0
    ∷ no_batch [] (1 ∷ []) 8
    ∷ no_batch row_c (4294967295 ∷ 17 ∷ []) 16
    ∷ no_batch [] (2147483648 ∷ 2147483648 ∷ []) 16
    -- a space that is longer or shorter, by a byte or an outcome
    ∷ no_batch row_c (16 ∷ []) 7
    ∷ no_batch row_c (16 ∷ []) 9
    ∷ no_batch row_c (16 ∷ []) 0
    ∷ no_batch row_c (16 ∷ []) 16
    ∷ no_batch [] [] 8
    -- 26, though a recipe is refused
    ∷ no_batch (bad_name 0) (24 ∷ []) 9
    ∷ []

abbrev pub same : List ℕ → List ℕ → Bool
same [] [] = true
same [] (b ∷ m) = false
same (a ∷ l) [] = false
same (a ∷ l) (b ∷ m) = eqb a b && same l m

abbrev pub same_as : Option (List ℕ) → List ℕ → Bool
same_as none l = true
same_as (some m) l = same m l

-- "Rows run from a fresh state": the one that start writes, whatever the block held
abbrev pub block_for : Option (List ℕ) → List ℕ → List ℕ
block_for none t = (start_on t (replicate 776 255)).block
block_for (some b) t = b

unfoldable pub outcome_of : Row → Outcome
outcome_of x = run_on x.table (block_for x.block x.table) x.budget (replicate x.room 0)

abbrev pub passes : Row → Outcome → Bool
passes x o = eqb o.number x.number && eqb o.steps x.steps && eqb o.place x.place && same_as x.log (take (8 * o.records) o.log) && same_as x.left o.block

unfoldable pub all_pass : List Row → Bool
all_pass [] = true
all_pass (x ∷ xs) = passes x (outcome_of x) && all_pass xs

abbrev pub start_passes : StartRow → Started → Bool
start_passes x o = eqb o.number x.number && eqb o.place x.place && same x.left o.block

unfoldable pub all_start : List StartRow → Bool
all_start [] = true
all_start (x ∷ xs) = start_passes x (start_on x.table x.block) && all_start xs

abbrev pub why_passes : WhyRow → Explained → Bool
why_passes x o =
    eqb o.number x.number && eqb o.count (length x.numbers) && eqb o.end x.end && eqb o.place x.place
    && same (halves x.numbers ++ replicate (x.room - 2 * length x.numbers) 7) o.output

unfoldable pub all_why : List WhyRow → Bool
all_why [] = true
all_why (x ∷ xs) = why_passes x (why_on x.table x.block (replicate x.room 7)) && all_why xs

-- a refusal leaves the space as it was
abbrev pub space_after : (number : ℕ) → (space told : List ℕ) → List ℕ
space_after zero o ns = words ns
space_after (suc n) o ns = o

abbrev pub batch_passes : BatchRow → List ℕ → Checked → Bool
batch_passes x o r = eqb r.number x.number && same (space_after x.number o x.told) r.outcomes

unfoldable pub all_batch : List BatchRow → Bool
all_batch [] = true
all_batch (x ∷ xs) = batch_passes x (replicate x.room 7) (check_all_on x.recipes (words x.lengths ++ x.behind) (replicate x.room 7)) && all_batch xs

-- ---- the published list

-- "Returned": the numbers of the table, and those of them at which state and log are "unchanged"; request 2.2: 24 is "no refusal"
abbrev pub refusals : List ℕ
refusals = 11 ∷ 12 ∷ 13 ∷ 14 ∷ 15 ∷ 16 ∷ 17 ∷ 21 ∷ 22 ∷ 23 ∷ []

abbrev pub returned : List ℕ
returned = 0 ∷ 1 ∷ 2 ∷ 3 ∷ 4 ∷ 5 ∷ refusals ++ 24 ∷ []

-- the numbers that the tool of request 2.4 gives
abbrev pub why_returned : List ℕ
why_returned = 0 ∷ refusals ++ 25 ∷ []

-- those that the call of request 2.5 gives
abbrev pub batch_returned : List ℕ
batch_returned = 0 ∷ 26 ∷ []

-- the numbers below n of which this holds
abbrev pub those : (ℕ → Bool) → ℕ → List ℕ
those holds zero = []
those holds (suc n) = those holds n ++ cond (holds n) (n ∷ []) []
