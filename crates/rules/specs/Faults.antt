-- Document 01, "What the runner says": "Table first: the earliest faulty record decides, and within it 12 to 16 in order; 17 only when all records
-- pass, at the earliest such spawn. Then 21, 22, 23." The rules of each record by the table's bytes and the record's index, and what is claimed of the
-- check by them.
-- Assumes nothing.
use Rattle.std.specs.Prelude.{ℕ, zero, suc, ◌+◌, ◌*◌, ◌%◌, ◌≤◌, ◌<◌, ◌≡◌, ◌⊎◌, Bool, true, false, not, ◌&&◌, ◌||◌, cond, List, eqb, leb, ltb, ℤ, pos, nat_abs, length, get_or, take}
use Rattle.std.specs.Int.Signed.{lt_z}
use Rattle.rules.specs.Fields.{half, word, signed}
use Rattle.rules.specs.Values.{equal}
use Rattle.rules.specs.Table.{Encloses, nothing, statements, one_expression, expression_statements, two_expressions, kind_row, fine, fault, records, procedures, check}
use Rattle.rules.specs.State.{record_fits, check_block}

-- the fields of record i, and the index behind what it encloses
abbrev pub kind_at : List ℕ → ℕ → ℕ
kind_at t i = get_or t (8 * i) 0

abbrev pub name_at : List ℕ → ℕ → ℕ
name_at t i = get_or t (8 * i + 1) 0

abbrev pub span_at : List ℕ → ℕ → ℕ
span_at t i = half t (8 * i + 2)

abbrev pub value_at : List ℕ → ℕ → ℤ
value_at t i = signed (word t (8 * i + 4))

abbrev pub end_at : List ℕ → ℕ → ℕ
end_at t i = i + 1 + span_at t i

-- What can be due where a record stands: a procedure, a statement, or an expression: the test of an if or while, the first of two operands, or a "sole or
-- last operand".
pub data Due : Type 0 where
  procedure statement test first last : Due

-- where a record stands: what is due there, the end of what encloses it, and its depth
pub record Stand : Type 0 where
  pub due : Due
  pub end : ℕ
  pub depth : ℕ

-- "A procedure has depth 0 and each record is one deeper than the record that encloses it": where a record stands that record i, standing at s, encloses
abbrev pub under : List ℕ → ℕ → Stand → Due → Stand
under t i s x = record { due = x; end = end_at t i; depth = s.depth + 1 }

-- Where record j stands, found from record i, at or before it, which stands at s: it is record i, or stands behind what that encloses, or in it.
-- (n bounds the records looked at; a `let` is worked out when it is read.)
unfoldable pub inside : (ℕ → Stand → Stand) → Encloses → List ℕ → ℕ → Stand → ℕ → Stand
inside at nothing t i s j = s
inside at statements t i s j = at (i + 1) (under t i s statement)
inside at one_expression t i s j = at (i + 1) (under t i s last)
inside at expression_statements t i s j =
    let expression = at (i + 1) (under t i s test) in
    let behind = at (end_at t (i + 1)) (under t i s statement) in
    cond (ltb j (end_at t (i + 1))) expression behind
inside at two_expressions t i s j =
    let one = at (i + 1) (under t i s first) in
    let other = at (end_at t (i + 1)) (under t i s last) in
    cond (ltb j (end_at t (i + 1))) one other

unfoldable pub find : (n : ℕ) → List ℕ → (i : ℕ) → Stand → (j : ℕ) → Stand
find zero t i s j = s
find (suc n) t i s j =
    let within = inside (λ k x. find n t k x j) (kind_row (kind_at t i)).encloses t i s j in
    let behind = find n t (end_at t i) s j in
    let other = cond (ltb j (end_at t i)) within behind in
    cond (eqb j i) s other

-- "The table is a row of procedures": where record j of a table stands
unfoldable pub standing : List ℕ → ℕ → Stand
standing t j = find (records t) t 0 (record { due = procedure; end = records t; depth = 0 }) j

-- ---- the rules: whether record i, standing at s, breaks each

-- "12: a procedure, statement or expression was due and the kind is another"; request 2.1 of document 02: a guard, kind 13, is a statement
abbrev pub is_due : Due → ℕ → Bool
is_due procedure k = eqb k 1
is_due statement k = leb 2 k && leb k 8 || eqb k 13
is_due test k = leb 9 k && leb k 12
is_due first k = leb 9 k && leb k 12
is_due last k = leb 9 k && leb k 12

-- "13: span over the enclosing end; ..
abbrev pub is_over : List ℕ → ℕ → Stand → Bool
is_over t i s = ltb s.end (end_at t i)

-- .. not 0 where nothing is enclosed; under 1 (kinds 3–6, 12; request 2.1: 13 as 3) or 2 (kind 11); ..
abbrev pub isWrong : Encloses → ℕ → Bool
isWrong nothing span = not (eqb span 0)
isWrong statements span = false
isWrong one_expression span = ltb span 1
isWrong expression_statements span = ltb span 1
isWrong two_expressions span = ltb span 2

-- .. not reaching the end as sole or last operand; leaving none for a second operand"
abbrev pub is_short : Due → (behind end : ℕ) → Bool
is_short procedure b e = false
is_short statement b e = false
is_short test b e = false
is_short first b e = eqb b e
is_short last b e = not (eqb b e)

-- "14: name outside its row"
abbrev pub is_misnamed : List ℕ → ℕ → Bool
is_misnamed t i = ltb (name_at t i) (kind_row (kind_at t i)).least || ltb (kind_row (kind_at t i)).most (name_at t i)

-- "15: value not 0 where unused, or a spawn's outside 0–255"; "The value field is 0 except in kinds 6 and 9."
abbrev pub is_misvalued : (kind : ℕ) → ℤ → Bool
is_misvalued k z = cond (eqb k 6) (lt_z z (pos 0) || lt_z (pos 255) z) (not (eqb k 9) && not (equal z (pos 0)))

-- by the rule's number; "16: depth over 16"
unfoldable pub breaks : List ℕ → ℕ → Stand → (rule : ℕ) → Bool
breaks t i s n =
    cond (eqb n 12) (not (is_due s.due (kind_at t i)))
    (cond (eqb n 13) (is_over t i s || isWrong (kind_row (kind_at t i)).encloses (span_at t i) || is_short s.due (end_at t i) s.end)
    (cond (eqb n 14) (is_misnamed t i)
    (cond (eqb n 15) (is_misvalued (kind_at t i) (value_at t i))
    (cond (eqb n 16) (ltb 16 s.depth)
    false))))

-- whether record i of a table breaks a rule where it stands
abbrev pub broken : List ℕ → ℕ → (rule : ℕ) → Bool
broken t i n = breaks t i (standing t i) n

-- "17: a spawn names no procedure of the table"
abbrev pub Unnamed : List ℕ → ℕ → Type 0
Unnamed t i = (kind_at t i ≡ 6) × (procedures (records t) t ≤ nat_abs (value_at t i))

-- ---- the claims

-- The check says n at i, 12 ≤ n ≤ 16: no record before i breaks a rule, record i breaks rule n and none before it, and nothing behind record i counts.
pub record Earliest (t : List ℕ) (n i : ℕ) : Type 0 where
  pub there : i < records t
  pub before : (j m : ℕ) → j < i → broken t j m ≡ false
  pub breaks_it : broken t i n ≡ true
  pub in_order : (m : ℕ) → m < n → broken t i m ≡ false
  pub nothing_behind : (t' : List ℕ) → length t' ≡ length t → take (8 * (i + 1)) t' ≡ take (8 * (i + 1)) t → check t' ≡ fault n i

-- The check says 17 at i: no record breaks a rule, and i is the earliest spawn that names no procedure.
pub record EarliestSpawn (t : List ℕ) (i : ℕ) : Type 0 where
  pub there : i < records t
  pub all_pass : (j m : ℕ) → j < records t → broken t j m ≡ false
  pub unnamed : Unnamed t i
  pub before : (j : ℕ) → j < i → ¬ Unnamed t j

-- "11: table length 0, not a multiple of 8, or over 32,768"
abbrev pub WrongLength : ℕ → Type 0
WrongLength l = (l ≡ 0) ⊎ ((¬ (l % 8 ≡ 0)) ⊎ (32768 < l))

pub record EarliestDecides (t : List ℕ) : Type 0 where
  pub a_length : (i : ℕ) → check t ≡ fault 11 i → (i ≡ 0) × WrongLength (length t)
  pub a_rule : (n i : ℕ) → check t ≡ fault n i → 12 ≤ n → n ≤ 16 → Earliest t n i
  pub a_spawn : (i : ℕ) → check t ≡ fault 17 i → EarliestSpawn t i
  -- where nothing is said, nothing is at fault
  pub no_fault : check t ≡ fine → (j : ℕ) → j < records t → ((m : ℕ) → broken t j m ≡ false) × (¬ Unnamed t j)

-- "22: first state record against the rules above, or a place that is none"; 21 and 23 name no record
pub record EarliestState (place : ℕ → Bool) (b : List ℕ) : Type 0 where
  pub a_record : (i : ℕ) → check_block place b ≡ fault 22 i → (i < 65) × ((j : ℕ) → j < i → record_fits place b j ≡ true) × (record_fits place b i ≡ false)
  pub a_length : (i : ℕ) → check_block place b ≡ fault 21 i → (i ≡ 0) × (¬ (length b ≡ 776))
