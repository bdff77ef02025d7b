-- Document 002 (Hähnle and Henrio 2023): the configurations of section 3.1 and the rules of figure 4, with the queue of
-- section 7.2, and those of figure 7, by which section 8 would add guards to CoopWhile. Each rule stands under its own name,
-- and says where document 01, or document 02 by its requests 2.1 (guards) and 2.2 (expressions without a value), has us
-- differ. The figures number no rule; the numbers are those of section 7.2, and (9) and (10) of section 6.
-- Assumes nothing.
use Rattle.std.specs.Prelude.{ℕ, suc, ◌≤◌, ◌<◌, ◌≡◌, true, false, List, [], ◌∷◌, ◌++◌, ℤ, pos, length, get_or, replicate}
use Rattle.std.proofs.Math.Option.{Option, none, some}
use Rattle.rules.specs.Values.{truth, is_true}
use Rattle.rules.specs.Recipe.{Expr, Stmt, skip, assign, if, while, spawn, suspend, await, guard, Body, fin, ◌▸◌, Recipe, Env, read, write, value}
use Rattle.rules.specs.Rest.{◌then◌}
use Rattle.rules.specs.State.{Kept, Store, Configuration}
use Rattle.rules.specs.Log.{Event, spawned, taken, gave, waits, turned, ended}
use Rattle.rules.specs.Scheduler.{no_number, Halt, novalue, log_of}
use Rattle.rules.specs.Steps.{Limits, valve_of}

-- ---- configurations

-- The suspended tasks: "we let q range over queues of pairs of task identifiers f and statements s". A task's place is
-- here the statements that it has still to do. Its parameter, in the paper a fresh name of the memory, is its own. Nothing
-- else is kept of a task: neither who spawned it nor how often it was taken up.
abbrev pub PaperTask : Type 0
PaperTask = Kept Body (Unit {0})

abbrev pub Queue : Type 0
Queue = List PaperTask

abbrev pub task : (f : ℕ) → (s : Body) → (z : ℤ) → PaperTask
task f s z = record { number = f; place = s; parameter = z; history = tt }

-- "push(q, k) returns q extended with k as its final element"
abbrev pub push : Queue → PaperTask → Queue
push q k = q ++ (k ∷ [])

-- with the variables the memory σ has the highest identifier issued
abbrev pub PaperState : Type 0
PaperState = Configuration Store (PaperTask)

-- "f · s, T, σ, when exactly one task with identifier f and current statement s is active"
abbrev pub running : PaperTask → Queue → Store → PaperState
running t q σ = record { store = σ; active = some t; queue = q }

-- "Idle, T, σ when no task is currently active"
abbrev pub idle : Queue → Store → PaperState
idle q σ = record { store = σ; active = none; queue = q }

-- what a task with the parameter z reads and writes; and back, with n identifiers issued
abbrev pub env : Store → (z : ℤ) → Env
env σ z = record { variables = σ.variables; parameter = z }

abbrev pub memory : (n : ℕ) → Env → Store
memory n σ = record { issued = n; variables = σ.variables }

-- "an initial configuration of the form f · s_P, ∅, ∅ for an arbitrary f", s_P being the main block
abbrev pub initial : Recipe → PaperState
initial r = running (task 1 (get_or r 0 fin) (pos 0)) [] (record { issued = 1; variables = replicate 64 (pos 0) })

-- ---- While

-- "(s, σ) → (s', σ')": one step of While, by the task f. The paper takes this relation as known; here the test of an if
-- or a while is one step with the move that it causes. (The event is document 01's log record, as for all rules.)
-- We differ by the premise that there is a value, here and in each rule with an expression: in the paper "expression
-- evaluation does not get stuck", by request 2.2 of document 02 it "gives a value or "no value"".
pub data WhileStep (f : ℕ) : Body → Env → Option Event → Body → Env → Type 0 where
  skip_step : {s : Body} {σ : Env} → WhileStep f (skip ▸ s) σ none s σ
  assign_step : {v : ℕ} {e : Expr} {z : ℤ} {s : Body} {σ : Env}
      → value σ e ≡ some z
      → WhileStep f (assign v e ▸ s) σ (valve_of f v z) s (write σ v z)
  if_true : {e : Expr} {v : ℤ} {b s : Body} {σ : Env}
      → value σ e ≡ some v
      → truth v ≡ true
      → WhileStep f (if e b ▸ s) σ none (b then s) σ
  if_false : {e : Expr} {v : ℤ} {b s : Body} {σ : Env}
      → value σ e ≡ some v
      → truth v ≡ false
      → WhileStep f (if e b ▸ s) σ none s σ
  while_true : {e : Expr} {v : ℤ} {b s : Body} {σ : Env}
      → value σ e ≡ some v
      → truth v ≡ true
      → WhileStep f (while e b ▸ s) σ none (b then (while e b ▸ s)) σ
  while_false : {e : Expr} {v : ℤ} {b s : Body} {σ : Env}
      → value σ e ≡ some v
      → truth v ≡ false
      → WhileStep f (while e b ▸ s) σ none s σ

-- ---- waiting

-- some task of a queue
pub data Any (P : PaperTask → Type 0) : Queue → Type 0 where
  here : {t : PaperTask} {q : Queue} → P t → Any P (t ∷ q)
  there : {t : PaperTask} {q : Queue} → Any P q → Any P (t ∷ q)

-- "f ∈ dom(T)"
abbrev pub InDom : (f : ℕ) → Queue → Type 0
InDom f q = Any (λ t. t.number ≡ f) q

-- The wait for a number is over, q being the whole queue, with the task that waits.
-- The first difference that document 01 names: for figure 4 a wait is over when the awaited task is not in the rest of
-- the queue, so that a wait for oneself or for a number never issued would pass. Here, as in section 7.2, the awaited
-- task has to be done: its number has been issued, and it is not live. By request 2.7 of document 02 "0 counts as done, as
-- figure 4 .. has it; other numbers never issued still hold the waiter."
pub data Done (q : Queue) (σ : Store) : (awaited : ℤ) → Type 0 where
  zero_done : Done q σ (pos 0)
  issued_done : {n : ℕ} → 1 ≤ n → n ≤ σ.issued → ¬ InDom n q → Done q σ (pos n)

-- "s is not of the form await x; s'"; nor (:: g; s'), for which figure 7 has rules of its own. (Section 8: "in SOS one needs
-- to look at each rule for each such statement".)
abbrev pub NotWaiting : Body → Type 0
NotWaiting s = ((x : ℕ) (s' : Body) → ¬ (s ≡ await x ▸ s')) × ((g : Expr) (s' : Body) → ¬ (s ≡ guard g ▸ s'))

-- at the front a scheduling rule would take the task up
pub data Schedulable (q : Queue) (σ : Store) : PaperTask → Type 0 where
  simple : {f : ℕ} {s : Body} {z : ℤ} → NotWaiting s → Schedulable q σ (task f s z)
  wait_over : {f x : ℕ} {s : Body} {z : ℤ}
      → Done q σ (read (env σ z) x)
      → Schedulable q σ (task f (await x ▸ s) z)
  guard_true : {f : ℕ} {g : Expr} {s : Body} {z v : ℤ}
      → value (env σ z) g ≡ some v
      → truth v ≡ true
      → Schedulable q σ (task f (guard g ▸ s) z)

-- ---- the rules

-- the paper has no limits on spawning; document 01's are `limits`
abbrev pub unlimited : Limits
unlimited queued issued = none

-- the identifier that a spawn gives; "σ[x ↦ f']", by a task with the parameter z
abbrev pub next_id : Store → ℕ
next_id σ = suc σ.issued

abbrev pub put_id : Store → (z : ℤ) → (x : ℕ) → Env
put_id σ z x = write (env σ z) x (pos (next_id σ))

module _ (full : Limits) (r : Recipe) where
  pub data Rule : PaperState → Option Event → PaperState → Type 0 where
    -- Local; (22).
    local : {f n : ℕ} {s s' : Body} {σ σ' : Env} {event : Option Event} {q : Queue}
        → WhileStep f s σ event s' σ'
        → Rule
        (running (task f s σ.parameter) q (memory n σ))
        event
        (running (task f s' σ'.parameter) q (memory n σ'))
    -- SpawnStart, with the queue of figure 5; (22) and then (18), whose task marker is here the procedure's statements.
    -- "f' ∉ dom(T) ∪ {f}": f' is the next number, which no task has had. "m(z){s'} ∈ M": the recipe has a procedure m.
    -- We differ by the premise on limits, and by that on the argument's value.
    spawn_start : {f x m : ℕ} {e : Expr} {s : Body} {z a : ℤ} {q : Queue} {σ : Store}
        → m < length r
        → value (env σ z) e ≡ some a
        → full (length q) σ.issued ≡ none
        → Rule
        (running (task f (spawn x m e ▸ s) z) q σ)
        (some (spawned f (next_id σ)))
        (running
        (task f s (put_id σ z x).parameter)
        (push q (task (next_id σ) (get_or r m fin) a))
        (memory (next_id σ) (put_id σ z x)))
    -- Return; (22) and then (23). The statement return, "only used for this purpose", is here the end of the statements.
    -- So the main block, behind which section 3.1 puts no return, ends too: as by (23).
    return : {f : ℕ} {z : ℤ} {q : Queue} {σ : Store}
        → Rule (running (task f fin z) q σ) (some (ended f)) (idle q σ)
    -- YieldSuspend; (24), which keeps the suspend until the task is taken up.
    yield_suspend : {f : ℕ} {s : Body} {z : ℤ} {q : Queue} {σ : Store}
        → Rule (running (task f (suspend ▸ s) z) q σ) (some (gave f)) (idle (push q (task f s z)) σ)
    -- YieldAwait; (24).
    yield_await : {f x : ℕ} {s : Body} {z : ℤ} {q : Queue} {σ : Store}
        → Rule
        (running (task f (await x ▸ s) z) q σ)
        (some (waits f (read (env σ z) x)))
        (idle (push q (task f (await x ▸ s) z)) σ)
    -- YieldGuard of figure 7, which by a slip has T on the left and q on the right. "A task reaching it joins the back like
    -- an await", be it true or not. With (9) alone, which is all that section 8 adds to section 7.2, a task would pass a
    -- guard that is true when reached, by (22), and at an untrue one no rule would apply.
    yield_guard : {f : ℕ} {g : Expr} {s : Body} {z : ℤ} {q : Queue} {σ : Store}
        → Rule (running (task f (guard g ▸ s) z) q σ) (some (waits f no_number)) (idle (push q (task f (guard g ▸ s) z)) σ)
    -- ScheduleSimple, of the front as in figure 5; (19) for a task that has not begun, else (20).
    schedule_simple : {f : ℕ} {s : Body} {z : ℤ} {q : Queue} {σ : Store}
        → NotWaiting s
        → Rule (idle (task f s z ∷ q) σ) (some (taken f)) (running (task f s z) q σ)
    -- ScheduleAwait, of the front (ScheduleAwaitDone of figure 5); (20). We differ by `Done`.
    -- The second difference that document 01 names: by section 7.2 a task that comes to an await from a suspend, or from
    -- its spawn, is taken up before it and joins the back once more. Here, as in figure 4, it is tested when tried.
    schedule_await : {f x : ℕ} {s : Body} {z : ℤ} {q : Queue} {σ : Store}
        → Done (task f (await x ▸ s) z ∷ q) σ (read (env σ z) x)
        → Rule (idle (task f (await x ▸ s) z ∷ q) σ) (some (taken f)) (running (task f s z) q σ)
    -- ScheduleGuardDone of figure 7, "val_σ(g) = True"; (20) with (9). "When tried it passes only if the expression is true
    -- then": worked out with the waiting task's own parameter.
    schedule_guard : {f : ℕ} {g : Expr} {s : Body} {z v : ℤ} {q : Queue} {σ : Store}
        → value (env σ z) g ≡ some v
        → truth v ≡ true
        → Rule (idle (task f (guard g ▸ s) z ∷ q) σ) (some (taken f)) (running (task f s z) q σ)
    -- "the queue is rotated in rule ScheduleAwaitWait" (figure 5); (21). We differ by the last premise: "Document 002's
    -- rotation could turn a queue of waiters for ever; here that is "stuck"."
    rotate_await : {f x : ℕ} {s : Body} {z : ℤ} {q : Queue} {σ : Store}
        → ¬ Done (task f (await x ▸ s) z ∷ q) σ (read (env σ z) x)
        → Any (Schedulable (task f (await x ▸ s) z ∷ q) σ) (task f (await x ▸ s) z ∷ q)
        → Rule
        (idle (task f (await x ▸ s) z ∷ q) σ)
        (some (turned f (read (env σ z) x)))
        (idle (push q (task f (await x ▸ s) z)) σ)
    -- ScheduleGuardWait of figure 7, "val_σ(g) = False"; (10): "and otherwise it is turned". We differ by the last premise,
    -- as for an await, and in that the rule applies without a value too: "A guard without a value counts as untrue."
    rotate_guard : {f : ℕ} {g : Expr} {s : Body} {z : ℤ} {q : Queue} {σ : Store}
        → is_true (value (env σ z) g) ≡ false
        → Any (Schedulable (task f (guard g ▸ s) z ∷ q) σ) (task f (guard g ▸ s) z ∷ q)
        → Rule
        (idle (task f (guard g ▸ s) z ∷ q) σ)
        (some (turned f no_number))
        (idle (push q (task f (guard g ▸ s) z)) σ)

  -- some rule applies
  abbrev pub Applies : PaperState → Type 0
  Applies c = (event : Option Event) × (d : PaperState) × Rule c event d

  -- n rules one after the other, and their records
  pub data Derivation : PaperState → (n : ℕ) → List Event → PaperState → Type 0 where
    empty : {c : PaperState} → Derivation c 0 [] c
    rule_then : {c d e : PaperState} {event : Option Event} {n : ℕ} {log : List Event}
        → Rule c event d
        → Derivation d n log e
        → Derivation c (suc n) (log_of event ++ log) e

-- ---- where no rule applies

-- "final configurations have the form sh, (Idle, ∅)"
pub data Finished : PaperState → Type 0 where
  finished : {σ : Store} → Finished (idle [] σ)

-- "a configuration of the form sh, (Idle, q), where q ≠ ∅ and no rule is applicable, indicates a deadlock"
pub data Stuck : PaperState → Type 0 where
  stuck : {t : PaperTask} {q : Queue} {σ : Store}
      → ¬ Any (Schedulable (t ∷ q) σ) (t ∷ q)
      → Stuck (idle (t ∷ q) σ)

-- request 2.2: "the expression of the next set, test or spawn"
abbrev pub needs : Stmt → Option Expr
needs skip = none
needs (assign v e) = some e
needs (if e b) = some e
needs (while e b) = some e
needs (spawn x m e) = some e
needs suspend = none
needs (await x) = none
needs (guard g) = none

-- it "has no value". The paper has no such end: its expressions always have one.
pub data Lacking : PaperState → Type 0 where
  lacking : {f : ℕ} {i : Stmt} {e : Expr} {s : Body} {z : ℤ} {q : Queue} {σ : Store}
      → needs i ≡ some e
      → value (env σ z) e ≡ none
      → Lacking (running (task f (i ▸ s) z) q σ)

-- what bars the active task's step
pub data Barred (full : Limits) : Halt → PaperState → Type 0 where
  -- the next statement is a spawn, and a limit stops it: its argument has a value, as 24 is "tried .. before 3"
  limited : {k : Halt} {f x m : ℕ} {e : Expr} {s : Body} {z v : ℤ} {q : Queue} {σ : Store}
      → value (env σ z) e ≡ some v
      → full (length q) σ.issued ≡ some k
      → Barred full k (running (task f (spawn x m e ▸ s) z) q σ)
  -- "The step that needed it is not done."
  no_value : {c : PaperState} → Lacking c → Barred full novalue c

-- ---- the names of the rules

pub data Name : Type 0 where
  Local SpawnStart Return YieldSuspend YieldAwait YieldGuard : Name
  ScheduleSimple ScheduleAwait ScheduleGuardDone ScheduleAwaitWait ScheduleGuardWait : Name

abbrev pub name_of : {full : Limits} {r : Recipe} {c d : PaperState} {event : Option Event} → Rule full r c event d → Name
name_of (local h) = Local
name_of (spawn_start d v h) = SpawnStart
name_of return = Return
name_of yield_suspend = YieldSuspend
name_of yield_await = YieldAwait
name_of yield_guard = YieldGuard
name_of (schedule_simple h) = ScheduleSimple
name_of (schedule_await h) = ScheduleAwait
name_of (schedule_guard v h) = ScheduleGuardDone
name_of (rotate_await h g) = ScheduleAwaitWait
name_of (rotate_guard h g) = ScheduleGuardWait
