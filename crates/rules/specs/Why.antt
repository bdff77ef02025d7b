-- Request 2.4 of document 02, "Why does it say stuck?": the chain of tasks that wait, the tool that writes it, and what holds of both.
-- Assumes nothing.
use Rattle.std.specs.Prelude.{ℕ, zero, suc, ◌*◌, ◌≤◌, ◌≡◌, ◌↔◌, Bool, true, false, ◌||◌, cond, List, [], ◌∷◌, ◌++◌, eqb, ltb, ℤ, pos, negsuc, length, drop}
use Rattle.std.proofs.Math.Option.{Option, none, some}
use Rattle.rules.specs.Fields.{half, bytes2}
use Rattle.rules.specs.Values.{is_true}
use Rattle.rules.specs.Recipe.{Expr, Recipe, read, value}
use Rattle.rules.specs.Table.{recipe_of}
use Rattle.rules.specs.Places.{awaits, guards, at}
use Rattle.rules.specs.State.{Task, State, tab, read_block}
use Rattle.rules.specs.Scheduler.{Readiness, ready, waits_for, at_guard, Rules, Config, is_live, readiness, any_go}
use Rattle.rules.specs.Steps.{is_done, env_of, recipes}
use Rattle.rules.specs.Run.{Opened, refuses, opens, open_on, run_on}
use Rattle.rules.specs.Answers as A
use Rattle.rules.specs.Answers.{Refused, Accepted}
use Rattle.rules.specs.Fairness.{Stuck}
use Rattle.rules.specs.Demand.{times}

-- "ending in a task named earlier (end 1), in one waiting for a number never issued (end 2), or in one at an untrue guard (end 3)"
pub data End : Type 0 where
  named_earlier never_issued untrue_guard : End

unfoldable pub end_number : End → ℕ
end_number named_earlier = 1
end_number never_issued = 2
end_number untrue_guard = 3

-- "a chain of task numbers". (Document 02's term: a path of the wait-for graph.)
pub record Chain : Type 0 where
  pub numbers : List ℕ
  pub end : End

abbrev pub chain : List ℕ → End → Option Chain
chain ns e = some (record { numbers = ns; end = e })

-- ---- the chain of a state

-- whether a number is among these
abbrev pub among : ℕ → List ℕ → Bool
among n ns = ltb 0 (times n ns)

-- whether a value is this number
abbrev pub is_number : ℤ → ℕ → Bool
is_number (pos m) n = eqb m n
is_number (negsuc m) n = false

module _ (R : Rules) where
  -- the queued task whose number a value is, if any
  abbrev pub holder : ℤ → List R.Task → Option R.Task
  holder z [] = none
  holder z (t ∷ q) = cond (is_number z (R.num t)) (some t) (holder z q)

  -- What follows these numbers, the last of them that of a task that waits so: the chain goes on with the task that it waits for, or ends "in one waiting
  -- for a number never issued (end 2), or in one at an untrue guard (end 3)". (A number that is neither done nor a queued task's was never issued. A task that
  -- can go on is in no chain.)
  abbrev pub go_on : (R.Task → Option Chain) → List ℕ → Option R.Task → Option Chain
  go_on further ns (some t) = further t
  go_on further ns none = chain ns never_issued

  abbrev pub behind : (R.Task → Option Chain) → Config R → List ℕ → Readiness → Option Chain
  behind further c ns ready = none
  behind further c ns (waits_for z) = go_on further ns (holder z c.queue)
  behind further c ns at_guard = chain ns untrue_guard

  -- "each waits for the next": from the task t on, with these numbers before it and at most so many to come. A task named earlier closes a circle: its
  -- number is written again.
  unfoldable pub follow : (most : ℕ) → Config R → List ℕ → R.Task → Option Chain
  follow zero c ns t = none
  follow (suc n) c ns t =
      let named = ns ++ R.num t ∷ [] in
      let further = behind (λ u. follow n c named u) c named (readiness R c t) in
      cond (among (R.num t) ns) (chain named named_earlier) further

  -- "from the front of the queue"; 25 "when the state is not stuck": then there is none. (Each queued task is named once at most, and one
  -- of them again.)
  abbrev pub from_front : Config R → List R.Task → Option Chain
  from_front c [] = none
  from_front c (t ∷ q) = cond (any_go R c (t ∷ q)) none (follow (suc (length (t ∷ q))) c [] t)

  abbrev pub chain_with : Config R → Option R.Task → Option Chain
  chain_with c none = from_front c c.queue
  chain_with c (some t) = none

  abbrev pub chain_of : Config R → Option Chain
  chain_of c = chain_with c c.active

-- ---- the tool, for every table, block and output

-- "It gives number (0 when accepted, later tools too), count, end and place"; what it leaves in the output
pub record Explained : Type 0 where
  pub number : ℕ
  pub count : ℕ
  pub end : ℕ
  pub place : ℕ
  pub output : List ℕ

-- "count and end 0 when refused"
abbrev pub unexplained : (number place : ℕ) → (output : List ℕ) → Explained
unexplained n i l = record { number = n; count = 0; end = 0; place = i; output = l }

-- "task numbers, two bytes each"
unfoldable pub halves : List ℕ → List ℕ
halves [] = []
halves (n ∷ ns) = bytes2 n ++ halves ns

-- "25, after 23, when the state is not stuck or the output is not 66 bytes"
abbrev pub explained : Option Chain → (output : List ℕ) → Explained
explained none l = unexplained 25 0 l
explained (some x) l = record {
  number = 0;
  count = length x.numbers;
  end = end_number x.end;
  place = 0;
  output = halves x.numbers ++ drop (2 * length x.numbers) l;
}

abbrev pub why_with : Opened → (output : List ℕ) → Explained
why_with (refuses n i) l = unexplained n i l
why_with (opens r c) l =
    let room = explained (chain_of (recipes r) c) l in
    cond (eqb (length l) 66) room (unexplained 25 0 l)

unfoldable pub why_on : (table block output : List ℕ) → Explained
why_on t b l = why_with (open_on t b) l

-- ---- what a chain is, in the state c of the recipe r

-- the task t has the number n and is queued
pub record Queued (c : State) (n : ℕ) (t : Task ℕ) : Type 0 where
  pub ahead : List (Task ℕ)
  pub others : List (Task ℕ)
  pub stands : c.queue ≡ ahead ++ (t ∷ others)
  pub numbered : t.number ≡ n

-- the task n is queued and its next statement is an await, whose variable's value is z now
pub record Awaits (r : Recipe) (c : State) (n : ℕ) (z : ℤ) : Type 0 where
  pub task : Task ℕ
  pub queued : Queued c n task
  pub name : ℕ
  pub next : ℕ
  pub at_await : at r task.place ≡ awaits name next
  pub value_now : read (env_of c.store task) name ≡ z

-- "each waits for the next", "each link is true in that state": the value is the next number, which is not done
pub record Link (r : Recipe) (c : State) (n m : ℕ) : Type 0 where
  pub awaits_it : Awaits r c n (pos m)
  pub not_done : is_done c.store.issued (is_live (recipes r) c.queue) (pos m) ≡ false

abbrev pub Links : Recipe → State → List ℕ → Type 0
Links r c [] = Unit {0}
Links r c (n ∷ []) = Unit {0}
Links r c (n ∷ (m ∷ ns)) = Link r c n m × Links r c (m ∷ ns)

-- "a number never issued": those issued are 1 to the highest
abbrev pub NeverIssued : (issued : ℕ) → ℤ → Type 0
NeverIssued issued z = (m : ℕ) → z ≡ pos m → 1 ≤ m → ¬ (m ≤ issued)

pub record AtNeverIssued (r : Recipe) (c : State) (n : ℕ) : Type 0 where
  pub value : ℤ
  pub awaits_it : Awaits r c n value
  pub never : NeverIssued c.store.issued value
  -- request 2.7 of document 02: "The chain of 2.4 no longer ends at 0"
  pub no_zero : ¬ (value ≡ pos 0)

pub record AtUntrueGuard (r : Recipe) (c : State) (n : ℕ) : Type 0 where
  pub task : Task ℕ
  pub queued : Queued c n task
  pub expr : Expr
  pub next : ℕ
  pub at_guard : at r task.place ≡ guards expr next
  pub untrue : is_true (value (env_of c.store task) expr) ≡ false

-- the last number n, with these before it, is as the end says. "it names no task twice except to close a circle"
abbrev pub EndsSo : Recipe → State → End → List ℕ → ℕ → Type 0
EndsSo r c named_earlier ns n = times n ns ≡ 1
EndsSo r c never_issued ns n = AtNeverIssued r c n × (times n ns ≡ 0)
EndsSo r c untrue_guard ns n = AtUntrueGuard r c n × (times n ns ≡ 0)

pub record IsChain (r : Recipe) (c : State) (x : Chain) : Type 0 where
  -- "from the front of the queue"
  pub front : Task ℕ
  pub others : List (Task ℕ)
  pub at_front : c.queue ≡ front ∷ others
  pub rest : List ℕ
  pub first : x.numbers ≡ front.number ∷ rest
  pub links : Links r c x.numbers
  -- all but the last differ, and the last is as the end says
  pub before : List ℕ
  pub last : ℕ
  pub splits : x.numbers ≡ before ++ (last ∷ [])
  pub once : (n : ℕ) → times n before ≤ 1
  pub ends : EndsSo r c x.end before last

-- ---- what the tool says

-- the numbers that a host reads from an output
abbrev pub numbers_in : (count : ℕ) → List ℕ → List ℕ
numbers_in n l = tab n (λ i. half l (2 * i))

-- the answer o says the chain x
abbrev pub Tells : Explained → Chain → Type 0
Tells o x = (numbers_in o.count o.output ≡ x.numbers) × (o.end ≡ end_number x.end)

-- what a table and a block say is a stuck state, and the output has its length
abbrev pub Explainable : (t b l : List ℕ) → Type 0
Explainable t b l = Stuck (recipes (recipe_of t)) (read_block b) × (length l ≡ 66)

-- the numbers of the tool: "0 when accepted", run's refusals of a table or a block, and 25
abbrev pub published : ℕ → Bool
published n = A.refuses n || eqb n 25 || eqb n 0

-- an answer o to a table t, a block b and an output l
pub record WhySays (t b l : List ℕ) (o : Explained) : Type 0 where
  pub listed : published o.number ≡ true
  -- 11 to 17, 21, 22, 23 as of run; "25, after 23, when the state is not stuck or the output is not 66 bytes"
  pub refused : (n i : ℕ) → Refused t b n i ↔ ((A.refuses n ≡ true) × (o.number ≡ n) × (o.place ≡ i))
  pub not_stuck : (o.number ≡ 25) ↔ (Accepted t b × (¬ Explainable t b l))
  -- "every stuck state has such a chain"
  pub accepted : (o.number ≡ 0) ↔ (Accepted t b × Explainable t b l)
  pub no_place : Accepted t b → o.place ≡ 0
  -- "count and end 0 when refused"; a refused call changes no lent buffer
  pub refusal_keeps : ¬ (o.number ≡ 0) → (o.output ≡ l) × (o.count ≡ 0) × (o.end ≡ 0)
  -- what is written fits, and bytes past it keep their content
  pub fits : 2 * o.count ≤ length l
  pub rest_kept : drop (2 * o.count) o.output ≡ drop (2 * o.count) l
  pub same_length : length o.output ≡ length l
  -- "each link is true in that state", "it names no task twice except to close a circle": what it writes is a chain, and there is no other
  pub is_chain : o.number ≡ 0 → (x : Chain) × IsChain (recipe_of t) (read_block b) x × Tells o x
  pub no_other : o.number ≡ 0 → (x : Chain) → IsChain (recipe_of t) (read_block b) x → Tells o x

-- a state that a call of run left with "stuck" has a chain
abbrev pub LeftStuck : (table block : List ℕ) → Type 0
LeftStuck t b = (budget : ℕ) (log output : List ℕ) →
    let o = run_on t b budget log in
    o.number ≡ 2 → length output ≡ 66 → (why_on t o.block output).number ≡ 0
