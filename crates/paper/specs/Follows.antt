-- The tie of document 01 to document 002: a step of the definition over places is one rule of the paper over the
-- statements still to do from these places, and no other; so a run is a derivation of the paper, and no other.
-- Assumes nothing.
use Rattle.std.specs.Prelude.{ℕ, ◌≡◌, ◌↔◌, ◌⊎◌, true, List, map, get_or}
use Rattle.std.proofs.Math.Option
use Rattle.std.proofs.Math.Option.{Option, IsSome}
use Rattle.rules.specs.Recipe.{Body, fin, Recipe}
use Rattle.rules.specs.Table.{fine, recipe_of}
use Rattle.rules.specs.Places.{at, is_place, start}
use Rattle.rules.specs.Rest.{rest, look}
use Rattle.rules.specs.State.{Task, State, live, fresh, check_block, read_block}
use Rattle.rules.specs.Log.{Event, log_bytes}
use Rattle.rules.specs.Scheduler.{Halt, Rules, Next, finish, jam, bar, goes, next}
use Rattle.rules.specs.Steps.{Limits, limits, Keeping, counting, machine}
use Rattle.rules.specs.Fairness.{Every}
use Rattle.rules.specs.Run.{Outcome, run_on}
use Rattle.rules.specs.Demand.{Bytes, written}
use Rattle.paper.specs.Paper.{PaperTask, task, PaperState, initial, InDom, next_id, unlimited, Rule, Applies, Derivation, Finished, Stuck, Lacking, Barred, name_of}

-- document 01's steps, with any limits (with its own they are `recipes r`); the same machine over statements
abbrev pub places : Limits → Recipe → Rules
places full r = machine counting (at r) (start r) full

-- nothing is kept of a task
abbrev pub keeping_none : Keeping (Unit {0})
keeping_none = record { born = λ n. tt; raised = λ h. tt }

abbrev pub statements : Limits → Recipe → Rules
statements full r = machine keeping_none look (λ m. get_or r m fin) full

-- What a state shows: the statements still to do for each place, no history, and all else as it is.
abbrev pub to_do : Recipe → ℕ → Body
to_do r i = Option.get_or (rest r i) fin

abbrev pub shown_task : Recipe → Task ℕ → PaperTask
shown_task r t = task t.number (to_do r t.place) t.parameter

abbrev pub shown : Recipe → State → PaperState
shown r c = record {
  store = c.store;
  active = Option.map (shown_task r) c.active;
  queue = map (shown_task r) c.queue;
}

abbrev pub shown_next : (full : Limits) (r : Recipe) → Next (places full r) → Next (statements full r)
shown_next full r finish = finish
shown_next full r jam = jam
shown_next full r (bar k) = bar k
shown_next full r (goes event c) = goes event (shown r c)

-- every task stands at a place
abbrev pub Placed : Recipe → State → Type 0
Placed r c = Every (λ t. is_place r t.place ≡ true) (live c)

-- what comes next is no step
pub data Ends (full : Limits) (r : Recipe) (c : State) : Type 0 where
  by_finish : next (places full r) c ≡ finish → Ends full r c
  by_jam : next (places full r) c ≡ jam → Ends full r c
  by_halt : (k : Halt) → next (places full r) c ≡ bar k → Ends full r c

-- ---- a step: by the definition from the state c, and by the paper from what c shows

pub record Follows (full : Limits) (r : Recipe) (c : State) : Type 0 where
  -- over statements the machine makes the same step
  pub same : next (statements full r) (shown r c) ≡ shown_next full r (next (places full r) c)
  -- A step is a rule: same variables, same queue, same log, and the new places stand for the new statements.
  pub rule : (event : Option Event) (d : State)
      → next (places full r) c ≡ goes event d
      → Rule full r (shown r c) event (shown r d)
  pub placed : (event : Option Event) (d : State) → next (places full r) c ≡ goes event d → Placed r d
  -- a rule that applies is the step
  pub only : (event : Option Event) (d : PaperState)
      → Rule full r (shown r c) event d
      → (e : State) × (next (places full r) c ≡ goes event e) × (shown r e ≡ d)
  -- at most one rule applies, and it does one thing
  pub one_rule : (event event' : Option Event) (d d' : PaperState)
      → (u : Rule full r (shown r c) event d)
      → (v : Rule full r (shown r c) event' d')
      → (name_of u ≡ name_of v) × (event ≡ event') × (d ≡ d')
  -- finished, stuck, barred by a limit or by a missing value
  pub ends : (next (places full r) c ≡ finish) ↔ Finished (shown r c)
  pub jams : (next (places full r) c ≡ jam) ↔ Stuck (shown r c)
  pub bars : (k : Halt) → (next (places full r) c ≡ bar k) ↔ Barred full k (shown r c)
  -- No rule applies exactly at these; without limits, as in the paper, exactly when the definition says finished or stuck
  -- or the step lacks a value.
  pub no_rule : (¬ Applies full r (shown r c)) ↔ Ends full r c
  pub no_rule_unlimited : (¬ Applies unlimited r (shown r c))
      ↔ ((next (places full r) c ≡ finish) ⊎ (next (places full r) c ≡ jam) ⊎ Lacking (shown r c))

-- ---- a run: what a call returns and leaves, o, on the table t and the block b, both accepted

-- the state of a block, shown
abbrev pub shown_block : (t b : List ℕ) → PaperState
shown_block t b = shown (recipe_of t) (read_block b)

pub record Derives (t b : List ℕ) (o : Outcome) : Type 0 where
  -- the log that the call writes
  pub log : List Event
  pub logged : written o ≡ log_bytes log
  -- The steps are a derivation with that log, as long as the steps counted, from the block to the block that is left:
  -- with document 01's limits, and in the paper, which has none.
  pub derivation : Derivation limits (recipe_of t) (shown_block t b) o.steps log (shown_block t o.block)
  pub in_the_paper : Derivation unlimited (recipe_of t) (shown_block t b) o.steps log (shown_block t o.block)
  -- no other derivation of that length starts there
  pub only : (log' : List Event) (d : PaperState)
      → Derivation unlimited (recipe_of t) (shown_block t b) o.steps log' d
      → (log' ≡ log) × (d ≡ shown_block t o.block)
  -- 0 and 2 are answered exactly at the paper's ends; request 2.2 of document 02: 24, "tried after 1", exactly where the
  -- next step lacks a value and the call is not paused there
  pub finished : (o.number ≡ 0) ↔ Finished (shown_block t o.block)
  pub stuck : (o.number ≡ 2) ↔ Stuck (shown_block t o.block)
  pub novalue : (o.number ≡ 24) ↔ ((¬ (o.number ≡ 1)) × Lacking (shown_block t o.block))

-- ---- the theorem: what holds of every accepted table

pub record PaperRules (t : List ℕ) : Type 0 where
  -- an index is a place exactly where it is known what is still to do
  pub stands : (i : ℕ) → (is_place (recipe_of t) i ≡ true) ↔ IsSome (rest (recipe_of t) i)
  -- a fresh state shows the initial configuration
  pub starts : shown (recipe_of t) fresh ≡ initial (recipe_of t)
  pub steps : (full : Limits) (c : State) → Placed (recipe_of t) c → Follows full (recipe_of t) c
  pub runs : (b : List ℕ) → Bytes b → check_block (is_place (recipe_of t)) b ≡ fine
      → (budget : ℕ) (log : List ℕ) → Derives t b (run_on t b budget log)
  -- "f' ∉ dom(T) ∪ {f}": no task has the identifier that a spawn gives
  pub new_id : (b : List ℕ) → Bytes b → check_block (is_place (recipe_of t)) b ≡ fine
      → ¬ InDom (next_id (read_block b).store) (live (shown_block t b))
  -- Request 2.7: "0 counts as done, as figure 4 .. has it": no task has the identifier 0, which is figure 4's premise.
  pub no_id_zero : (b : List ℕ) → Bytes b → check_block (is_place (recipe_of t)) b ≡ fine
      → ¬ InDom 0 (live (shown_block t b))
