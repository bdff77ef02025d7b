-- Document 01, "The state": tasks, queue, variables and the highest number; the block that holds them.
-- Assumes nothing.
use Rattle.std.specs.Prelude.{ℕ, zero, suc, ◌+◌, ◌-◌, ◌*◌, ◌/◌, ◌%◌, Bool, true, not, ◌&&◌, cond, List, [], ◌∷◌, ◌++◌, eqb, leb, ltb, ℤ, pos, length, get_or, replicate}
use Rattle.std.proofs.Math.Option.{Option, none, some}
use Rattle.rules.specs.Fields.{half, word, signed, bits, bytes2, bytes4}
use Rattle.rules.specs.Table.{Verdict, fine, fault, ◌else◌}

-- Request 2.6 of document 02: "Service wants each task's starter and how often it was taken up."
pub record History : Type 0 where
  pub spawner : ℕ
  pub taken_up : ℕ

-- A task. (A is what a place is; H, what is kept of it beside what the steps need: document 002 keeps nothing.)
pub record Kept (A H : Type 0) : Type 0 where
  pub number : ℕ
  pub place : A
  pub parameter : ℤ
  pub history : H

abbrev pub Task : Type 0 → Type 0
Task A = Kept A History

-- the highest task number issued, and the variables 0–63
pub record Store : Type 0 where
  pub issued : ℕ
  pub variables : List ℤ

-- the whole state: the active task if any, and the queue from its front
pub record Configuration (Store Task : Type 0) : Type 0 where
  pub store : Store
  pub active : Option Task
  pub queue : List Task

-- the live tasks, as the block has them
abbrev pub live_tasks : {T : Type 0} → Option T → List T → List T
live_tasks none q = q
live_tasks (some t) q = t ∷ q

abbrev pub live : {S T : Type 0} → Configuration S T → List T
live c = live_tasks c.active c.queue

-- a state of a recipe's table
abbrev pub State : Type 0
State = Configuration Store (Task ℕ)

-- the largest number of times taken up: "unsigned, staying at the largest value"
abbrev pub largest : ℕ
largest = 4294967295

-- the history of a task that was never taken up
abbrev pub spawned_by : ℕ → History
spawned_by n = record { spawner = n; taken_up = 0 }

-- "A fresh state has task 1 (main, parameter 0) active at place 1, highest number 1 and all variables 0." Request 2.6: "0 for task 1"
unfoldable pub fresh : State
fresh = record {
  store = record { issued = 1; variables = replicate 64 (pos 0) };
  active = some (record { number = 1; place = 1; parameter = pos 0; history = spawned_by 0 });
  queue = [];
}

-- f 0 to f (n - 1); the same, joined
unfoldable pub tab : {A : Type 0} → ℕ → (ℕ → A) → List A
tab zero f = []
tab (suc n) f = tab n f ++ f n ∷ []

unfoldable pub joined : ℕ → (ℕ → List ℕ) → List ℕ
joined zero f = []
joined (suc n) f = joined n f ++ f n

-- "Record 0: bytes 0–1 the highest task number issued (1–65,535), byte 2 the live tasks (0–32), byte 3 is 1 if a task is active, else 0 .."
abbrev pub issued_in : List ℕ → ℕ
issued_in b = half b 0

abbrev pub live_in : List ℕ → ℕ
live_in b = get_or b 2 0

abbrev pub active_in : List ℕ → ℕ
active_in b = get_or b 3 0

-- ".. (always 0 without live tasks), bytes 4–7 zero."
unfoldable pub head_fits : List ℕ → Bool
head_fits b = leb 1 (issued_in b) && leb (live_in b) 32 && leb (active_in b) (cond (eqb (live_in b) 0) 0 1) && eqb (word b 4) 0

-- "Records 1–32: .. each has bytes 0–1 the task number (1 to the highest issued, all different; of two equal ones the later record is at
-- fault), bytes 2–3 its place, bytes 4–7 its parameter". Request 2.6: "A task gets a second state record after its first": the records of the task that
-- has k before it are 2k + 1 and 2k + 2.
abbrev pub number_in : List ℕ → ℕ → ℕ
number_in b i = half b (8 * i)

abbrev pub place_in : List ℕ → ℕ → ℕ
place_in b i = half b (8 * i + 2)

abbrev pub parameter_in : List ℕ → ℕ → ℤ
parameter_in b i = signed (word b (8 * i + 4))

-- none of the first k tasks has the number n
unfoldable pub unlike : List ℕ → (n k : ℕ) → Bool
unlike b n zero = true
unlike b n (suc k) = unlike b n k && not (eqb (number_in b (2 * k + 1)) n)

-- the first record i of a task
unfoldable pub task_fits : (ℕ → Bool) → List ℕ → ℕ → Bool
task_fits place b i = leb 1 (number_in b i) && leb (number_in b i) (issued_in b) && unlike b (number_in b i) (i / 2) && place (place_in b i)

-- "bytes 0–1 the spawner's number (0 for task 1, else from 1 to one below its own), bytes 2–3 zero, bytes 4–7 the times taken up, unsigned"
abbrev pub spawner_in : List ℕ → ℕ → ℕ
spawner_in b i = half b (8 * i)

abbrev pub taken_up_in : List ℕ → ℕ → ℕ
taken_up_in b i = word b (8 * i + 4)

unfoldable pub spawner_fits : (number spawner : ℕ) → Bool
spawner_fits n s = cond (eqb n 1) (eqb s 0) (leb 1 s && ltb s n)

-- the second record i of a task, behind its first
unfoldable pub history_fits : List ℕ → ℕ → Bool
history_fits b i = spawner_fits (number_in b (i - 1)) (spawner_in b i) && eqb (half b (8 * i + 2)) 0

-- "unused ones are all zero"
unfoldable pub unused_fits : List ℕ → ℕ → Bool
unused_fits b i = eqb (word b (8 * i)) 0 && eqb (word b (8 * i + 4)) 0

-- "as many records as there are live tasks", each with its second behind it
unfoldable pub record_fits : (ℕ → Bool) → List ℕ → ℕ → Bool
record_fits place b zero = head_fits b
record_fits place b (suc i) =
    let used = cond (eqb (i % 2) 0) (task_fits place b (suc i)) (history_fits b (suc i)) in
    cond (leb (suc i) (2 * live_in b)) used (unused_fits b (suc i))

-- "first state record against the rules above, or a place that is none": of the n records from i on
unfoldable pub check_records : (ℕ → Bool) → List ℕ → (n i : ℕ) → Verdict
check_records place b zero i = fine
check_records place b (suc n) i =
    let rest = check_records place b n (i + 1) in
    cond (record_fits place b i) rest (fault 22 i)

-- 21, 22, 23 in this order. (The variables' records are "any content".) Request 2.6: "The block grows to 97 records, 776 bytes".
unfoldable pub check_block : (ℕ → Bool) → List ℕ → Verdict
check_block place b =
    let numbers = cond (leb (live_in b) (issued_in b)) fine (fault 23 0) in
    let all = check_records place b 65 0 else numbers in
    cond (eqb (length b) 776) all (fault 21 0)

-- What an accepted block says.
abbrev pub history_in : List ℕ → ℕ → History
history_in b i = record { spawner = spawner_in b i; taken_up = taken_up_in b i }

-- (i: the task's first record)
abbrev pub task_in : List ℕ → ℕ → Task ℕ
task_in b i = record { number = number_in b i; place = place_in b i; parameter = parameter_in b i; history = history_in b (i + 1) }

abbrev pub tasks_in : List ℕ → List (Task ℕ)
tasks_in b = tab (live_in b) (λ k. task_in b (2 * k + 1))

-- "Records 33–64: variables 0–63, four bytes each, any content", behind 32 second records: records 65 to 96
abbrev pub variables_in : List ℕ → List ℤ
variables_in b = tab 64 (λ j. signed (word b (520 + 4 * j)))

-- "the active task if any, then the queue from its front"
abbrev pub state_of : Store → (active : ℕ) → List (Task ℕ) → State
state_of s zero ts = record { store = s; active = none; queue = ts }
state_of s (suc a) [] = record { store = s; active = none; queue = [] }
state_of s (suc a) (t ∷ ts) = record { store = s; active = some t; queue = ts }

unfoldable pub read_block : List ℕ → State
read_block b = state_of (record { issued = issued_in b; variables = variables_in b }) (active_in b) (tasks_in b)

-- The block of a state.
abbrev pub is_active : {T : Type 0} → Option T → ℕ
is_active none = 0
is_active (some t) = 1

unfoldable pub head_row : State → List ℕ
head_row c = bytes2 c.store.issued ++ length (live c) ∷ is_active c.active ∷ 0 ∷ 0 ∷ 0 ∷ 0 ∷ []

-- a task's first record and its second
abbrev pub first_row : Task ℕ → List ℕ
first_row t = bytes2 t.number ++ bytes2 t.place ++ bytes4 (bits t.parameter)

abbrev pub history_row : History → List ℕ
history_row h = bytes2 h.spawner ++ bytes2 0 ++ bytes4 h.taken_up

unfoldable pub task_row : Task ℕ → List ℕ
task_row t = first_row t ++ history_row t.history

-- unused records: all zero
abbrev pub no_task : Task ℕ
no_task = record { number = 0; place = 0; parameter = pos 0; history = spawned_by 0 }

unfoldable pub write_block : State → List ℕ
write_block c =
    head_row c
    ++ joined 32 (λ i. task_row (get_or (live c) i no_task))
    ++ joined 64 (λ j. bytes4 (bits (get_or c.store.variables j (pos 0))))
