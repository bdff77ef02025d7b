-- What demand 3 says of a list of run calls, and what "continued equals one run" says of two calls, over any task language.
-- Assumes nothing.
use Rattle.std.specs.Prelude.{ℕ, zero, suc, ◌+◌, ◌*◌, ◌≤◌, ◌<◌, max, ◌≡◌, ◌↔◌, Bool, true, false, not, List, [], ◌∷◌, ◌++◌, eqb, ℤ, length}
use Rattle.std.proofs.Math.Option.{Option, none, some}
use Rattle.rules.specs.State.{live}
use Rattle.rules.specs.Scheduler.{Rules, on, back, over, Act, halts, does, count, Config, readiness, can_go, Next, finish, jam, bar, goes, try_of, next, Ending, finished, paused, stuck, logfull, halted, tasks, spent, novalue, Run, end, step, ending, last, steps_of, log, log_of}
use Rattle.rules.specs.Moments.{Call, refused, call, budgets, Does, made, ends, Moment, trace, answers, finally}

abbrev pub Every : {A : Type 0} → (A → Type 0) → List A → Type 0
Every P [] = Unit {0}
Every P (x ∷ xs) = P x × Every P xs

abbrev pub only : {A : Type 0} → Bool → List A → List A
only true xs = xs
only false xs = []

module _ (R : Rules) where
  -- a state that is not refused: live numbers are all different, and none is above the highest issued
  pub record Valid (c : Config R) : Type 0 where
    pub differ : (i : ℕ) → count R i (live c) ≤ 1
    pub below : (i : ℕ) → R.issued c.store < i → count R i (live c) ≡ 0

  -- where a call of the list is not refused, the first such call finds a valid state
  abbrev pub Allowed : Config R → List Call → Type 0
  Allowed c [] = Unit {0}
  Allowed c (refused ∷ cs) = Allowed c cs
  Allowed c (call b r ∷ cs) = Valid c

  -- ---- steps, counts and logs

  abbrev pub step_by : Does R → ℕ
  step_by (made x) = 1
  step_by (ends e) = 0

  -- the steps made at these moments, and their records
  abbrev pub steps : List (Moment R) → ℕ
  steps [] = 0
  steps (m ∷ ms) = step_by m.what + steps ms

  abbrev pub record_by : Does R → List R.Event
  record_by (made x) = log_of x
  record_by (ends e) = []

  abbrev pub records : List (Moment R) → List R.Event
  records [] = []
  records (m ∷ ms) = record_by m.what ++ records ms

  -- how the calls end at these moments
  abbrev pub ended_by : Does R → List Ending
  ended_by (made x) = []
  ended_by (ends e) = e ∷ []

  abbrev pub endings : List (Moment R) → List Ending
  endings [] = []
  endings (m ∷ ms) = ended_by m.what ++ endings ms

  abbrev pub all_steps : List (Run R) → ℕ
  all_steps [] = 0
  all_steps (u ∷ us) = steps_of R u + all_steps us

  abbrev pub all_logs : List (Run R) → List R.Event
  all_logs [] = []
  all_logs (u ∷ us) = log R u ++ all_logs us

  abbrev pub all_endings : List (Run R) → List Ending
  all_endings [] = []
  all_endings (u ∷ us) = ending R u ∷ all_endings us

  -- the moments are a chain of steps by the rules, from c to c'
  abbrev pub LinkedBy : Does R → (Config R → Type 0) → Config R → Type 0
  LinkedBy (made x) k c = (d : Config R) × (next R c ≡ goes x d) × k d
  LinkedBy (ends e) k c = k c

  abbrev pub Linked : List (Moment R) → Config R → Config R → Type 0
  Linked [] c c' = c ≡ c'
  Linked (m ∷ ms) c c' = (m.at ≡ c) × LinkedBy m.what (λ d. Linked ms d c') c

  -- ---- tries and turns

  -- the task tried at a moment, if the step made there is a try
  abbrev pub front : Option R.Task → List R.Task → List R.Task
  front none [] = []
  front none (t ∷ q) = t ∷ []
  front (some t) q = []

  abbrev pub tried_by : Config R → Does R → List R.Task
  tried_by c (made x) = front c.active c.queue
  tried_by c (ends e) = []

  abbrev pub tried : Moment R → List R.Task
  tried m = tried_by m.at m.what

  abbrev pub tries : List (Moment R) → List R.Task
  tries [] = []
  tries (m ∷ ms) = tried m ++ tries ms

  -- at the moment x the task n is tried; at these moments it is not
  abbrev pub Tries : ℕ → Moment R → Type 0
  Tries n x = count R n (tried x) ≡ 1

  abbrev pub NoTry : ℕ → List (Moment R) → Type 0
  NoTry n ms = count R n (tries ms) ≡ 0

  -- "It is put back when it joins the back by suspend or await or is turned there; ahead of it are the queued tasks nearer the front":
  -- the tasks ahead of the task n where a step puts it back
  abbrev pub if_num : ℕ → R.Task → List R.Task → List (List R.Task)
  if_num n t q = only (eqb n (R.num t)) (q ∷ [])

  abbrev pub turned_back : ℕ → Config R → List R.Task → List (List R.Task)
  turned_back n c [] = []
  turned_back n c (t ∷ q) = only (not (can_go R c t)) (if_num n t q)

  abbrev pub joined_back : ℕ → List R.Task → Act R.Store R.Task R.Event → List (List R.Task)
  joined_back n q (halts k) = []
  joined_back n q (does s new (on t) x) = []
  joined_back n q (does s new (back t) x) = if_num n t (q ++ new)
  joined_back n q (does s new over x) = []

  abbrev pub back_of : ℕ → Config R → Option R.Task → List (List R.Task)
  back_of n c none = turned_back n c c.queue
  back_of n c (some t) = joined_back n c.queue (R.act c.store c.queue t)

  abbrev pub back_by : ℕ → Config R → Does R → List (List R.Task)
  back_by n c (made x) = back_of n c c.active
  back_by n c (ends e) = []

  -- for each moment at which the task n is put back, the tasks then ahead of it
  abbrev pub aheads : ℕ → List (Moment R) → List (List R.Task)
  aheads n [] = []
  aheads n (m ∷ ms) = back_by n m.at m.what ++ aheads n ms

  -- ---- waiting

  -- "Its turn is its next try": the moments up to and with it
  abbrev pub until : ℕ → List (Moment R) → List (Moment R)
  until n [] = []
  until n (m ∷ ms) = m ∷ only (eqb (count R n (tried m)) 0) (until n ms)

  -- "A burst is the steps after being taken up, that try not counted, up to and including the one that gives way, waits or ends";
  -- "An unfinished burst has the steps made so far": the longest, with d steps made before the first moment
  abbrev pub longest_of : ℕ → Option R.Task → Does R → (ℕ → ℕ) → ℕ
  longest_of d a (ends e) k = k d
  longest_of d none (made x) k = max d (k 0)
  longest_of d (some t) (made x) k = k (suc d)

  abbrev pub longest : ℕ → List (Moment R) → ℕ
  longest d [] = d
  longest d (m ∷ ms) = longest_of d m.at.active m.what (λ d'. longest d' ms)

  -- "no limit stops the run if none of these calls ends in 3, 4 or 5 before the turn"; request 2.2 of document 02: "The waiting bound then holds for runs
  -- that no zero divisor stops": the endings that the bound excludes
  abbrev pub Excluded : Ending → Type 0
  Excluded finished = ⊥
  Excluded paused = ⊥
  Excluded stuck = ⊥
  Excluded logfull = Unit {0}
  Excluded (halted tasks) = Unit {0}
  Excluded (halted spent) = Unit {0}
  Excluded (halted novalue) = Unit {0}

  abbrev pub Free : Does R → Type 0
  Free (made x) = Unit {0}
  Free (ends e) = ¬ Excluded e

  -- What the bound asks of the moments until the turn of t: it can go on at each with none active, no burst takes more than b steps, no limit
  -- and no zero divisor stops a call.
  pub record Waiting (t : R.Task) (b : ℕ) (ms : List (Moment R)) : Type 0 where
    pub can_go_holds : Every (λ x. x.at.active ≡ none → can_go R x.at t ≡ true) (until (R.num t) ms)
    pub bursts : longest 0 (until (R.num t) ms) ≤ b
    pub free : Every (λ x. Free x.what) (until (R.num t) ms)

  -- The task t is taken up within k steps: at its next try, which is step number (steps before) + 1, it becomes active.
  pub record TakenWithin (k : ℕ) (t : R.Task) (ms : List (Moment R)) : Type 0 where
    pub before : List (Moment R)
    pub turn : Moment R
    pub after : List (Moment R)
    pub rest : List R.Task
    pub splits : ms ≡ before ++ (turn ∷ after)
    pub not_before : NoTry (R.num t) before
    pub tries_it : tried turn ≡ t ∷ []
    pub taken_up : next R turn.at ≡ goes (some (R.took t)) (record { store = turn.at.store; active = some (R.up t); queue = rest })
    pub soon : steps before + 1 ≤ k

  -- ---- stuck

  -- "none active, some queued, none that can go on"
  pub record Stuck (c : Config R) : Type 0 where
    pub idle : c.active ≡ none
    pub some_queued : ¬ (c.queue ≡ [])
    pub none_ready : Every (λ t. can_go R c t ≡ false) c.queue

  -- "let any queued task be picked and tried in place of the front": a queue with its i-th task in front (the last, if it has no more)
  abbrev pub second : R.Task → List R.Task → List R.Task
  second t [] = t ∷ []
  second t (u ∷ q) = u ∷ (t ∷ q)

  abbrev pub pull : ℕ → List R.Task → List R.Task
  pull i [] = []
  pull zero (t ∷ q) = t ∷ q
  pull (suc i) (t ∷ q) = second t (pull i q)

  -- the try of the first of these tasks, and the state after it
  abbrev pub try_first : Config R → List R.Task → Next R
  try_first c [] = finish
  try_first c (t ∷ q) = try_of R (readiness R c t) c t q

  abbrev pub afterwards : Config R → Next R → Config R
  afterwards c finish = c
  afterwards c jam = c
  afterwards c (bar k) = c
  afterwards c (goes x c') = c'

  abbrev pub Turned : Config R → List R.Task → Next R → Type 0
  Turned c [] y = ⊥
  Turned c (t ∷ q) y = (z : ℤ) × (y ≡ goes (some (R.turn t z)) (record { store = c.store; active = none; queue = q ++ (t ∷ []) }))

  -- "by any list of picks: from a stuck state each pick is turned and none becomes active"
  abbrev pub AllTurned : Config R → List ℕ → Type 0
  AllTurned c [] = Unit {0}
  AllTurned c (i ∷ picks) = Turned c (pull i c.queue) (try_first c (pull i c.queue)) × AllTurned (afterwards c (try_first c (pull i c.queue))) picks

  -- ---- demand 3: what holds of the calls cs, each on the state that the last one left, the first on c

  pub record Demand3 (c : Config R) (cs : List Call) : Type 0 where
    -- The steps are a chain by the rules from the first state to the last; the counts returned add up to their number, the logs joined are their records,
    -- and the calls end as their moments say.
    pub chain : Linked (trace R c cs) c (finally R c cs)
    pub counts : all_steps (answers R c cs) ≡ steps (trace R c cs)
    pub logs : all_logs (answers R c cs) ≡ records (trace R c cs)
    pub numbers : all_endings (answers R c cs) ≡ endings (trace R c cs)
    -- The moments from m on are those of m's calls: the present one with what it has left, and the later ones.
    pub from_then : (pre post : List (Moment R)) (m : Moment R) → trace R c cs ≡ pre ++ (m ∷ post) → m ∷ post ≡ trace R m.at m.calls
    -- "between two successive tries of one task, each task that stood ahead of it when it was put back is tried exactly once, in that order, and no other":
    -- between a try x of the task n and its next try y, n is put back once, and the tasks tried are those then ahead of it.
    pub round : (n : ℕ) (pre mid post : List (Moment R)) (x y : Moment R) → trace R c cs ≡ pre ++ (x ∷ (mid ++ (y ∷ post)))
        → Tries n x → NoTry n mid → Tries n y
        → (aheads n (x ∷ mid) ≡ tries mid ∷ []) × ((i : ℕ) → count R i (tries mid) ≤ 1)
    -- From any moment on the tasks ahead of a queued task are tried before it, in that order, and no other.
    pub order : (pre rest mid post : List (Moment R)) (m y : Moment R) (ahead behind : List R.Task) (t : R.Task) → trace R c cs ≡ pre ++ (m ∷ rest)
        → m.at.queue ≡ ahead ++ (t ∷ behind) → m ∷ rest ≡ mid ++ (y ∷ post) → NoTry (R.num t) mid → Tries (R.num t) y → tries mid ≡ ahead
    -- "If, at any moment with no task active, a task has k tasks ahead of it, can go on at every such moment until its turn, no burst until then takes
    -- more than b steps and no limit of tasks, numbers or log stops the run, it is taken up within k × (b + 1) + 1 steps, once the budgets reach that sum."
    -- Request 2.2: "The waiting bound then holds for runs that no zero divisor stops."
    pub bound : (pre post : List (Moment R)) (m : Moment R) (ahead behind : List R.Task) (t : R.Task) (b : ℕ) → trace R c cs ≡ pre ++ (m ∷ post)
        → m.at.active ≡ none → m.at.queue ≡ ahead ++ (t ∷ behind) → Waiting t b (m ∷ post)
        → length ahead * (b + 1) + 1 ≤ budgets m.calls
        → TakenWithin (length ahead * (b + 1) + 1) t (m ∷ post)
    -- "A call not refused stops with "stuck" exactly when its state has no task active, some tasks queued and none that can go on; then, in whatever
    -- order they were tried, none could ever be freed."
    pub stops_stuck : (pre post : List (Moment R)) (m : Moment R) → trace R c cs ≡ pre ++ (m ∷ post) → (m.what ≡ ends stuck) ↔ Stuck m.at
    pub never_freed : (pre post : List (Moment R)) (m : Moment R) → trace R c cs ≡ pre ++ (m ∷ post) → m.what ≡ ends stuck → (picks : List ℕ) → AllTurned m.at picks

  -- ---- "the two together do what one call does": the first call u, the second v, the one call w

  abbrev pub join : Run R → Run R → Run R
  join (end e c) v = v
  join (step c x u) v = step c x (join u v)

  pub record OneRun (u v w : Run R) : Type 0 where
    pub whole : w ≡ join u v
    pub same_state : last R w ≡ last R v
    pub same_ending : ending R w ≡ ending R v
    pub steps_added : steps_of R w ≡ steps_of R u + steps_of R v
    pub logs_joined : log R w ≡ log R u ++ log R v
