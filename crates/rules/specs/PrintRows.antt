-- What the print program writes for some tables of document 01, "From the trial press", and what it is to print a row.
-- Assumes nothing.
use Rattle.std.specs.Prelude.{ℕ, Bool, true, ◌&&◌, List, [], ◌∷◌, ◌++◌, pos, negsuc}
use Rattle.rules.specs.Recipe.{row}
use Rattle.rules.specs.Trial.{row_a, row_c, wait_for, procedure_of, one9, none9, same}
use Rattle.rules.specs.Run.{Outcome}
use Rattle.rules.specs.Print.{bytes, line, ending_line, run_text, printed}

pub record Row : Type 0 where
  pub table : List ℕ
  pub text : List ℕ

abbrev pub prints : List ℕ → List ℕ → Row
prints t s = record { table = t; text = s }

-- "For A, all of it"
abbrev pub text_a : List ℕ
text_a =
    bytes "spawned 1 0 2\n"
    ++ bytes "waits 1 0 2\n"
    ++ bytes "taken 2 0 0\n"
    ++ bytes "valve 2 1 5\n"
    ++ bytes "ended 2 0 0\n"
    ++ bytes "taken 1 0 0\n"
    ++ bytes "valve 1 0 1\n"
    ++ bytes "ended 1 0 0\n"
    ++ bytes "finished 8\n"

-- Row A; row C; a wait for a number never issued, stuck; the lowest value in valve 0; a loop with no end; a valve set and then a quotient by 0; a span over
-- the enclosing end.
abbrev pub rows : List Row
rows =
    prints row_a text_a
    ∷ prints row_c (bytes "waits 1 0 0\ntaken 1 0 0\nended 1 0 0\nfinished 3\n")
    ∷ prints (wait_for (pos 2)) (bytes "waits 1 0 2\nstuck 2\n")
    ∷ prints (row 1 0 2 (pos 0) ++ row 3 0 1 (pos 0) ++ row 9 0 0 (negsuc 2147483647))
    (bytes "valve 1 0 -2147483648\nended 1 0 0\nfinished 2\n")
    ∷ prints (row 1 0 2 (pos 0) ++ row 5 0 1 (pos 0) ++ row 9 0 0 (pos 1)) (bytes "paused 10000\n")
    ∷ prints (procedure_of (row 3 0 1 (pos 0) ++ one9 ++ row 3 0 3 (pos 0) ++ none9)) (bytes "valve 1 0 1\nnovalue 1\n")
    ∷ prints (row 1 0 2 (pos 0) ++ row 3 0 2 (pos 0) ++ row 9 0 0 (pos 0)) (bytes "refused 13 1\n")
    ∷ []

-- a run's answer with the log of two records, of which so many were written
abbrev pub answer : (number records place : ℕ) → Outcome
answer n k i = record { number = n; steps = 4096; records = k; place = i; block = []; log = row 7 3 4 (negsuc 9) ++ row 6 0 4 (pos 0) }

-- the words of every kind and of every ending, with values of both signs; the endings 5 and 24 and the first refusal, whole
abbrev pub words : List ℕ
words =
    line 1 1 0 (pos 2) ++ line 2 65535 0 (pos 0) ++ line 3 10 0 (pos 0) ++ line 4 9 0 (negsuc 0) ++ line 5 100 0 (pos 2147483647) ++ line 6 99 0 (pos 0)
    ++ line 7 4 3 (negsuc 9) ++ ending_line 0 0 ++ ending_line 1 10000 ++ ending_line 2 1 ++ ending_line 3 63 ++ ending_line 4 393205 ++ ending_line 5 4096
    ++ ending_line 24 7 ++ run_text (answer 5 1 0) ++ run_text (answer 24 1 3) ++ run_text (answer 11 0 3)

abbrev pub texts : List ℕ
texts =
    bytes "spawned 1 0 2\n"
    ++ bytes "taken 65535 0 0\n"
    ++ bytes "gave 10 0 0\n"
    ++ bytes "waits 9 0 -1\n"
    ++ bytes "turned 100 0 2147483647\n"
    ++ bytes "ended 99 0 0\n"
    ++ bytes "valve 4 3 -10\n"
    ++ bytes "finished 0\n"
    ++ bytes "paused 10000\n"
    ++ bytes "stuck 1\n"
    ++ bytes "tasks 63\n"
    ++ bytes "spent 393205\n"
    ++ bytes "logfull 4096\n"
    ++ bytes "novalue 7\n"
    ++ bytes "valve 4 3 -10\n"
    ++ bytes "logfull 4096\n"
    ++ bytes "valve 4 3 -10\n"
    ++ bytes "novalue 4096\n"
    ++ bytes "refused 11 3\n"

unfoldable pub all_print : List Row → Bool
all_print [] = true
all_print (x ∷ xs) = same (printed x.table) x.text && all_print xs
