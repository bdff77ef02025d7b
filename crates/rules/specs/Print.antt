-- Document 01, "From the trial press": what the print program writes. "The print program reads a table from standard input, runs it with budget
-- 10,000 and a log of 4,096 records, and prints a line per record (kind's word, task, valve, value), then the ending word and steps, or `refused`,
-- number and place."
-- Assumes nothing.
use Rattle.std.specs.Prelude.{ℕ, zero, suc, ◌+◌, ◌*◌, ◌/◌, ◌%◌, Bool, ◌||◌, cond, List, [], ◌∷◌, ◌++◌, eqb, leb, ltb, ℤ, pos, negsuc, get_or, replicate}
use Prim.Native.Char.{code}
use Prim.Native.String as S
use Prim.Native.String.{String}
use Rattle.rules.specs.Fields.{half, word, signed}
use Rattle.rules.specs.State.{joined}
use Rattle.rules.specs.Run.{Started, start_on, Outcome, run_on}

-- a text's bytes
abbrev pub bytes : String → List ℕ
bytes S.[] = []
bytes (S.◌∷◌ c s) = code c ∷ bytes s

-- "Numbers are decimal": n has fewer than suc n digits, none of them a 0 in front. (Byte 48 is 0.)
unfoldable pub digits : (most : ℕ) → ℕ → List ℕ
digits zero n = []
digits (suc k) n =
    let front = digits k (n / 10) in
    cond (ltb n 10) ((48 + n) ∷ []) (front ++ ((48 + n % 10) ∷ []))

unfoldable pub decimal : ℕ → List ℕ
decimal n = digits (suc n) n

-- a value with its sign (negsuc n is the number -1 - n)
unfoldable pub signed_decimal : ℤ → List ℕ
signed_decimal (pos n) = decimal n
signed_decimal (negsuc n) = bytes "-" ++ decimal (suc n)

-- "1 spawned .., 2 taken .., 3 gave .., 4 waits .., 5 turned .., 6 ended .., 7 valve": a record has no other kind
unfoldable pub kind_word : ℕ → List ℕ
kind_word kind =
    cond (eqb kind 1) (bytes "spawned")
    (cond (eqb kind 2) (bytes "taken")
    (cond (eqb kind 3) (bytes "gave")
    (cond (eqb kind 4) (bytes "waits")
    (cond (eqb kind 5) (bytes "turned")
    (cond (eqb kind 6) (bytes "ended")
    (bytes "valve"))))))

-- "0 finished", "1 paused", "2 stuck", "3 tasks", "4 spent", "5 logfull"; request 2.2 of document 02: of 24 "its word "novalue"". A run ends in no other way.
unfoldable pub ending_word : ℕ → List ℕ
ending_word number =
    cond (eqb number 0) (bytes "finished")
    (cond (eqb number 1) (bytes "paused")
    (cond (eqb number 2) (bytes "stuck")
    (cond (eqb number 3) (bytes "tasks")
    (cond (eqb number 4) (bytes "spent")
    (cond (eqb number 5) (bytes "logfull")
    (bytes "novalue"))))))

-- a number, a value after one space
abbrev pub spaced : ℕ → List ℕ
spaced n = bytes " " ++ decimal n

abbrev pub spaced_value : ℤ → List ℕ
spaced_value z = bytes " " ++ signed_decimal z

-- "a line per record (kind's word, task, valve, value)"
unfoldable pub line : (kind task valve : ℕ) → ℤ → List ℕ
line k t v z = kind_word k ++ spaced t ++ spaced v ++ spaced_value z ++ bytes "\n"

-- "byte 0 kind, byte 1 the valve (0 in other kinds), bytes 2–3 the task acting, bytes 4–7 a value": the line of the record from byte a on
abbrev pub line_at : (log : List ℕ) → ℕ → List ℕ
line_at l a = line (get_or l a 0) (half l (a + 2)) (get_or l (a + 1) 0) (signed (word l (a + 4)))

-- the lines of the first n records
abbrev pub lines : (log : List ℕ) → ℕ → List ℕ
lines l n = joined n (λ i. line_at l (8 * i))

-- "then the ending word and steps"
unfoldable pub ending_line : (number steps : ℕ) → List ℕ
ending_line n s = ending_word n ++ spaced s ++ bytes "\n"

-- "or `refused`, number and place"
unfoldable pub refused_line : (number place : ℕ) → List ℕ
refused_line n i = bytes "refused" ++ spaced n ++ spaced i ++ bytes "\n"

-- a run's text: 0 to 5 and 24 are endings, the other numbers refuse
abbrev pub ends : (number : ℕ) → Bool
ends n = leb n 5 || eqb n 24

unfoldable pub run_text : Outcome → List ℕ
run_text o =
    cond (ends o.number) (lines o.log o.records ++ ending_line o.number o.steps)
    (refused_line o.number o.place)

-- "runs it with budget 10,000": the text for a table, from a block to start on and a log buffer
unfoldable pub start_text : (table log : List ℕ) → Started → List ℕ
start_text t l s =
    let run = run_text (run_on t s.block 10000 l) in
    cond (eqb s.number 0) run (refused_line s.number s.place)

abbrev pub text_on : (table block log : List ℕ) → List ℕ
text_on t b l = start_text t l (start_on t b)

-- "and a log of 4,096 records": all that is printed for a table
unfoldable pub printed : (table : List ℕ) → List ℕ
printed t = text_on t (replicate 776 0) (replicate 32768 0)
