-- What a step tells, as the code says it.
-- Assumes nothing.
use Rattle.std.specs.Prelude as P
use Rattle.std.specs.Prelude.{ℕ, ◌≡◌, List, ◌∷◌, ◌++◌, length}
use Rattle.std.proofs.Math.Option.{Option, none, some}
use Rattle.rules.specs.Fields.{bytes2, bytes4}
use Rattle.rules.specs.State.{Task, Store}
use Rattle.rules.specs.Log as L
use Rattle.rules.specs.Scheduler.{Halt, tasks, spent, novalue, Act, halts, does}
use Rattle.moves.specs.declared.Move.{Move}
use Rattle.events.specs.declared.Event.{Event}
use Rattle.events.specs.declared.Event.TheVariants.{Spawned, Taken, Gave, Waits, Turned, Ended, Valve}
use Rattle.events.specs.declared.Halt as E
use Rattle.events.specs.declared.Halt.TheVariants.{Tasks, Spent, NoValue}
use Rattle.moves.specs.Moves.{act_in}

abbrev pub event_of : Event → L.Event
event_of (Spawned t n) = L.spawned t n
event_of (Taken t) = L.taken t
event_of (Gave t) = L.gave t
event_of (Waits t z) = L.waits t z
event_of (Turned t z) = L.turned t z
event_of (Ended t) = L.ended t
event_of (Valve t v z) = L.valve t v z

-- "A step ends in a new state or in a named stop": the stop's name, or the event of the log, if there is one
pub data Facts : Type 0 where
  stopped : Halt → Facts
  went : Option L.Event → Facts

abbrev pub halt_of : E.Halt → Halt
halt_of Tasks = tasks
halt_of Spent = spent
halt_of NoValue = novalue

abbrev pub facts_of : P.Result (P.Option Event) E.Halt → Facts
facts_of (P.Ok (P.Some e)) = went (some (event_of e))
facts_of (P.Ok P.None) = went none
facts_of (P.Err h) = stopped (halt_of h)

abbrev pub facts : Act Store (Task ℕ) L.Event → Facts
facts (halts l) = stopped l
facts (does s new y x) = went x

-- the outcome is what the move, if there is one, says of a step of any task of this number, with so
-- many tasks queued and this number issued
pub record Tells (number queued issued : ℕ) (m : P.Option Move) (r : P.Result (P.Option Event) E.Halt) : Type 0 where
  pub tells : (s : Store) (q : List (Task ℕ)) (t : Task ℕ) → s.issued ≡ issued → length q ≡ queued → t.number ≡ number
      → facts_of r ≡ facts (act_in m s q t)

-- the bytes of a log record whose value has these 32 bits
abbrev pub row_of : (kind valve task word : ℕ) → List ℕ
row_of kind valve task word = kind ∷ valve ∷ (bytes2 task ++ bytes4 word)
