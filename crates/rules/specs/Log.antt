-- Document 01, "The log".
-- Assumes nothing.
use Rattle.std.specs.Prelude.{ℕ, List, [], ◌∷◌, ◌++◌, ℤ, pos}
use Rattle.rules.specs.Recipe.{row}

-- what a step tells, with the number of the task acting
pub data Event : Type 0 where
  spawned : (task new : ℕ) → Event
  taken : (task : ℕ) → Event
  gave : (task : ℕ) → Event
  waits : (task : ℕ) (awaited : ℤ) → Event
  turned : (task : ℕ) (awaited : ℤ) → Event
  ended : (task : ℕ) → Event
  valve : (task name : ℕ) (value : ℤ) → Event

-- "8 bytes a record: byte 0 kind, byte 1 the valve (0 in other kinds), bytes 2–3 the task acting, bytes 4–7 a value. 1 spawned (new number),
-- 2 taken (0), 3 gave (0), 4 waits (number awaited), 5 turned (number awaited), 6 ended (0), 7 valve (value set ..)."
unfoldable pub event_row : Event → List ℕ
event_row (spawned t n) = row 1 0 t (pos n)
event_row (taken t) = row 2 0 t (pos 0)
event_row (gave t) = row 3 0 t (pos 0)
event_row (waits t z) = row 4 0 t z
event_row (turned t z) = row 5 0 t z
event_row (ended t) = row 6 0 t (pos 0)
event_row (valve t v z) = row 7 v t z

-- the bytes of the records
unfoldable pub log_bytes : List Event → List ℕ
log_bytes [] = []
log_bytes (x ∷ xs) = event_row x ++ log_bytes xs
