-- Every answer is of the published list, a refusal changes nothing, what is past the last record is kept, and the fresh block is accepted.
-- Assumes nothing.
use Prim.Native.Nat.{ℕ, zero, suc, ◌+◌, ◌*◌, ◌/◌, ◌≤◌}
use mathlib.Core.Path.{◌≡◌, refl, sym, ◌∙◌}
use mathlib.Core.Bool.{Bool, true, false, cond, true≢false, or-true}
use mathlib.Core.List.{List, [], ◌∷◌}
use native.Mathlib.Omega.{arith}
use lib.Dec.{eqb, leb, eqb-suc-zero}
use lib.IntN.{pos}
use lib.ListN.{length, get_or, drop, length-append, length-drop}
use lib.Seq.{drop_at}
use borrow.Author.Tests.{eqb-true}
use Rattle.rules.specs.Fields.{bits, bytes4}
use Rattle.rules.specs.Recipe.{Recipe, Body, skip, assign, if, while, spawn, suspend, await, guard, fin, ◌▸◌}
use Rattle.rules.specs.Table.{Verdict, fine, fault, ◌else◌, unless, Sort, procedure, statement, expression, Ends, at_end, before_end, within, Encloses, nothing, statements, one_expression, expression_statements, two_expressions, record_fault, enclosed, check_e, levels, first_row, rows_of, check_rows, check_spawns, names_none, procedures, records, length_fits, check, body_of, read_r, recipe_of, inner, after, kind_of, kind_row, is_of, span_right, name_right, value_right}
use Rattle.rules.specs.State.{live, State, fresh, tab, joined, issued_in, live_in, head_fits, unlike, task_fits, spawner_fits, history_fits, unused_fits, record_fits, check_records, check_block, read_block, head_row, task_row, no_task, write_block}
use Rattle.rules.specs.Log.{Event, spawned, taken, gave, waits, turned, ended, valve, event_row, log_bytes}
use Rattle.rules.specs.Scheduler.{Ending, finished, paused, stuck, logfull, halted, tasks, spent, novalue, number_of, run, ending, last, log}
use Rattle.rules.specs.Run as R
use Rattle.rules.specs.Steps.{recipes}
use Rattle.rules.specs.Places.{is_place, at, points_b, points_r}
use Rattle.rules.specs.Run.{start_with, start_on, outcome, room_of, Opened, opens, open_with, open_on, run_with, run_on}
use Rattle.rules.proofs.Lists.{joined_length}
use Rattle.rules.proofs.Scheduling.Endings.{stopped}
use Rattle.rules.specs.Answers.{of_table, of_block, refuses, published, RunAnswers, StartAnswers}

-- ---- the numbers of the faults

-- a fault's number is one of p
abbrev pub Numbers : (ℕ → Bool) → Verdict → Type 0
Numbers p fine = Unit {0}
Numbers p (fault n i) = p n ≡ true

module _ (p : ℕ → Bool) where
  either : (v w : Verdict) → Numbers p v → Numbers p w → Numbers p (v else w)
  either fine w h g = g
  either (fault n i) w h g = h

  chosen : (b : Bool) (v w : Verdict) → Numbers p v → Numbers p w → Numbers p (cond b v w)
  chosen true v w h g = h
  chosen false v w h g = g

-- 12 to 15 in order
own : (a b c d : Bool) (i : ℕ) (v : Verdict) → Numbers of_table v → Numbers of_table (unless (cond a (cond b (cond c (cond d 0 15) 14) 13) 12) i v)
own false b c d i v h = refl
own true false c d i v h = refl
own true true false d i v h = refl
own true true true false i v h = refl
own true true true true i v h = h

pub own-number : (sort : Sort) (ends : Ends) (i : ℕ) (p : List ℕ) (v : Verdict) → Numbers of_table v → Numbers of_table (unless (record_fault sort ends p) i v)
unfolding record_fault
own-number sort ends i p v h = own (is_of sort (kind_of p)) (span_right ends p) (name_right p) (value_right p) i v h

module _ (expr : ℕ → Ends → List ℕ → Verdict) (stmts : ℕ → List ℕ → Verdict)
    (f : (i : ℕ) (e : Ends) (p : List ℕ) → Numbers of_table (expr i e p)) (g : (i : ℕ) (p : List ℕ) → Numbers of_table (stmts i p)) where
  enclosed-number : (x : Encloses) (i : ℕ) (p : List ℕ) → Numbers of_table (enclosed expr stmts x i p)
  unfolding enclosed
  enclosed-number nothing i p = tt
  enclosed-number statements i p = g (i + 1) (inner p)
  enclosed-number one_expression i p = f (i + 1) at_end (inner p)
  enclosed-number expression_statements i p = either of_table (expr (i + 1) within (inner p)) _ (f (i + 1) within (inner p)) (g _ (after (inner p)))
  enclosed-number two_expressions i p = either of_table (expr (i + 1) before_end (inner p)) _ (f (i + 1) before_end (inner p)) (f _ at_end (after (inner p)))

pub check_e-number : (d i : ℕ) (ends : Ends) (p : List ℕ) → Numbers of_table (check_e d i ends p)
unfolding check_e
check_e-number zero i ends p = own-number expression ends i p (fault 16 i) refl
check_e-number (suc d) i ends p = own-number expression ends i p _ (enclosed-number (check_e d) (λ j q. fine) (check_e-number d) (λ j q. tt) (kind_row (kind_of p)).encloses i p)

levels-number : (rows : Sort → ℕ → ℕ → List ℕ → Verdict) → ((s : Sort) (d i : ℕ) (p : List ℕ) → Numbers of_table (rows s d i p))
    → (s : Sort) (d i : ℕ) (p : List ℕ) → Numbers of_table (levels rows s d i p)
unfolding levels
levels-number rows f s zero i p = refl
levels-number rows f s (suc d) i p = either of_table (enclosed (check_e d) (rows statement d) (kind_row (kind_of p)).encloses i p) _ (enclosed-number (check_e d) (rows statement d) (check_e-number d) (f statement d) (kind_row (kind_of p)).encloses i p) (f s (suc d) _ (after p))

row_number : (n : ℕ) (s : Sort) (d i : ℕ) (p : List ℕ) → Numbers of_table (rows_of n s d i p)
unfolding rows_of first_row
row_number zero s d i p = tt
row_number (suc n) s d i p = chosen of_table (eqb (length p) 0) fine _ tt (own-number s within i p _ (levels-number (rows_of n) (row_number n) s d i p))

pub rows-number : (s : Sort) (d i : ℕ) (p : List ℕ) → Numbers of_table (check_rows s d i p)
unfolding check_rows
rows-number s d i p = row_number (length p) s d i p

spawns-number : (k n i : ℕ) (p : List ℕ) → Numbers of_table (check_spawns k n i p)
unfolding check_spawns
spawns-number zero n i p = tt
spawns-number (suc k) n i p = chosen of_table (names_none n p) (fault 17 i) _ refl (spawns-number k n (i + 1) (drop 8 p))

pub check-number : (t : List ℕ) → Numbers of_table (check t)
unfolding check
check-number t = chosen of_table (length_fits (length t)) _ (fault 11 0) (either of_table (check_rows procedure 17 0 t) _ (rows-number procedure 17 0 t) (spawns-number (records t) (procedures (records t) t) 0 t)) refl

pub records-number : (place : ℕ → Bool) (b : List ℕ) (n i : ℕ) → Numbers of_block (check_records place b n i)
unfolding check_records
records-number place b zero i = tt
records-number place b (suc n) i = chosen of_block (record_fits place b i) _ (fault 22 i) (records-number place b n (i + 1)) refl

pub block-number : (place : ℕ → Bool) (b : List ℕ) → Numbers of_block (check_block place b)
unfolding check_block
block-number place b =
    chosen of_block (eqb (length b) 776) _ (fault 21 0)
    (either of_block (check_records place b 65 0) _ (records-number place b 65 0) (chosen of_block (leb (live_in b) (issued_in b)) fine (fault 23 0) tt refl)) refl

-- ---- lengths

pub event-length : (x : Event) → length (event_row x) ≡ 8
unfolding event_row
event-length (spawned t n) = refl
event-length (taken t) = refl
event-length (gave t) = refl
event-length (waits t z) = refl
event-length (turned t z) = refl
event-length (ended t) = refl
event-length (valve t v z) = refl

pub log_length : (xs : List Event) → length (log_bytes xs) ≡ 8 * length xs
unfolding log_bytes
log_length [] = refl
log_length (x ∷ xs) = omega (arith, length-append (event_row x) (log_bytes xs), event-length x, log_length xs)

pub block_length : (c : State) → length (write_block c) ≡ 776
unfolding write_block head_row task_row
block_length c =
    let tasks = joined 32 (λ i. task_row (get_or (live c) i no_task)) in
    let variables = joined 64 (λ j. bytes4 (bits (get_or c.store.variables j (pos 0)))) in
    omega (arith, length-append tasks variables, joined_length 16 32 (λ i. task_row (get_or (live c) i no_task)) (λ i. refl), joined_length 4 64 (λ j. bytes4 (bits (get_or c.store.variables j (pos 0)))) (λ j. refl))

-- ---- every answer

pub ending-published : (e : Ending) → (published (number_of e) ≡ true) × (refuses (number_of e) ≡ false)
unfolding number_of
ending-published finished = (refl, refl)
ending-published paused = (refl, refl)
ending-published stuck = (refl, refl)
ending-published logfull = (refl, refl)
ending-published (halted tasks) = (refl, refl)
ending-published (halted spent) = (refl, refl)
ending-published (halted novalue) = (refl, refl)

pub table-refuses : (n : ℕ) → of_table n ≡ true → refuses n ≡ true
table-refuses n h = rw h refl

pub block-refuses : (n : ℕ) → of_block n ≡ true → refuses n ≡ true
block-refuses n h = rw h (or-true (of_table n))

-- what refuses, refuses by a number of the list
pub both_number : (t b : List ℕ) → Numbers refuses (check t else check_block (is_place (recipe_of t)) b)
both_number t b = go (check t) (check_block (is_place (recipe_of t)) b) (check-number t) (block-number (is_place (recipe_of t)) b)
  where
    go : (v w : Verdict) → Numbers of_table v → Numbers of_block w → Numbers refuses (v else w)
    go (fault m j) w h g = table-refuses m h
    go fine (fault m j) h g = block-refuses m g
    go fine fine h g = tt

pub opened_number : (t b : List ℕ) (n i : ℕ) → open_on t b ≡ R.refuses n i → refuses n ≡ true
unfolding open_on
opened_number t b n i e = go (check t else check_block (is_place (recipe_of t)) b) (both_number t b) e
  where
    go : (v : Verdict) → Numbers refuses v → open_with v (recipe_of t) b ≡ R.refuses n i → refuses n ≡ true
    go (fault m j) h e = let z : m ≡ n = cc in rw (← z) h
    go fine h e = absurd (let z : ◌≡◌ {A = ℕ} 0 1 = cc in omega arith)

-- what opens has a block of 776 bytes
opened_length : (t b : List ℕ) (r : Recipe) (c : State) → open_on t b ≡ opens r c → length b ≡ 776
unfolding open_on check_block
opened_length t b r c e = go (check t) (eqb (length b) 776) refl e
  where
    go : (v : Verdict) (x : Bool) → eqb (length b) 776 ≡ x → open_with (v else cond x (check_records (is_place (recipe_of t)) b 65 0 else cond (leb (live_in b) (issued_in b)) fine (fault 23 0)) (fault 21 0)) (recipe_of t) b ≡ opens r c → length b ≡ 776
    go v true h e = eqb-true (length b) 776 h
    go fine false h e = absurd (let z : ◌≡◌ {A = ℕ} 0 1 = cc in omega arith)
    go (fault m j) false h e = absurd (let z : ◌≡◌ {A = ℕ} 0 1 = cc in omega arith)

outcome-answers : (r : Recipe) (budget : ℕ) (c : State) (b l : List ℕ) → length b ≡ 776 → RunAnswers b l (outcome r (run (recipes r) budget (room_of l) c) l)
unfolding outcome
outcome-answers r budget c b l h =
    let u = run (recipes r) budget (room_of l) c in
    let k = length (log (recipes r) u) in
    let fits : k ≤ length l / 8 = (stopped (recipes r) budget (room_of l) c).in_room in
    let bytes = log_length (log (recipes r) u) in
    record {
      listed = (ending-published (ending (recipes r) u)).0;
      refusal_keeps = λ e. absurd (true≢false (sym e ∙ (ending-published (ending (recipes r) u)).1));
      records_fit = omega arith;
      rest_kept = drop_at (log_bytes (log (recipes r) u)) (drop (8 * k) l) (8 * k) bytes;
      block_length = block_length (last (recipes r) u) ∙ sym h;
      log_length = omega (arith, length-append (log_bytes (log (recipes r) u)) (drop (8 * k) l), length-drop (8 * k) l);
    }

pub run-answers : (t b : List ℕ) (budget : ℕ) (l : List ℕ) → RunAnswers b l (run_on t b budget l)
unfolding run_on
run-answers t b budget l = go (open_on t b) refl
  where
    go : (o : Opened) → open_on t b ≡ o → RunAnswers b l (run_with o b budget l)
    go (opens r c) e = outcome-answers r budget c b l (opened_length t b r c e)
    go (R.refuses n i) e =
        let h = opened_number t b n i e in
        record { listed = rw h refl; refusal_keeps = λ x. (refl, refl, refl, refl); records_fit = omega arith; rest_kept = refl; block_length = refl; log_length = refl }

pub start-answers : (t b : List ℕ) → StartAnswers b (start_on t b)
unfolding start_on
start-answers t b = go (check t) (eqb (length b) 776) (check-number t) refl
  where
    go : (v : Verdict) (x : Bool) → Numbers of_table v → eqb (length b) 776 ≡ x → StartAnswers b (start_with (v else cond x fine (fault 21 0)) b)
    go fine true h e =
        record { listed = refl; refusal_keeps = λ z. absurd (true≢false (sym z)); block_length = block_length fresh ∙ sym (eqb-true (length b) 776 e) }
    go fine false h e = record { listed = refl; refusal_keeps = λ z. refl; block_length = refl }
    go (fault n i) x h e = record { listed = rw h refl; refusal_keeps = λ z. refl; block_length = refl }

-- ---- the fresh block

-- the place behind the first procedure's record is one
first-place : (b : Body) (r : Recipe) → is_place (b ∷ r) 1 ≡ true
unfolding at points_r points_b
first-place fin [] = refl
first-place fin (b ∷ r) = refl
first-place (skip ▸ b) r = refl
first-place (assign n e ▸ b) r = refl
first-place (if e c ▸ b) r = refl
first-place (while e c ▸ b) r = refl
first-place (spawn n p e ▸ b) r = refl
first-place (suspend ▸ b) r = refl
first-place (await n ▸ b) r = refl
first-place (guard e ▸ b) r = refl

-- an accepted table has a first procedure
pub some_recipe : (t : List ℕ) → check t ≡ fine → is_place (recipe_of t) 1 ≡ true
unfolding check recipe_of read_r
some_recipe [] e = absurd (let z : ◌≡◌ {A = ℕ} 0 1 = cc in omega arith)
some_recipe (x ∷ t) e = rw (eqb-suc-zero (length t)) (first-place (body_of (inner (x ∷ t))) (read_r (length t) (after (x ∷ t))))

pub fresh-fits : (place : ℕ → Bool) → place 1 ≡ true → check_block place (write_block fresh) ≡ fine
unfolding fresh write_block head_row task_row joined check_block check_records record_fits head_fits task_fits spawner_fits history_fits unused_fits unlike
fresh-fits place h = rw h refl

pub fresh-read : read_block (write_block fresh) ≡ fresh
unfolding fresh write_block head_row task_row joined read_block tab
fresh-read = refl

-- For every accepted table start writes a block that run accepts, and reads as the fresh state.
pub fresh-accepted : (t b : List ℕ) → check t ≡ fine → length b ≡ 776 → open_on t (start_on t b).block ≡ opens (recipe_of t) fresh
unfolding start_on open_on
fresh-accepted t b e h =
    rw (e, h, fresh-fits (is_place (recipe_of t)) (some_recipe t e), fresh-read) refl
