-- What a call is by its verdict, what it answers by its end, and what follows of lists of calls.
-- Assumes nothing.
use mathlib.Core.Logic.{◌⊎◌}
use Prim.Native.Nat.{ℕ, ◌+◌, ◌*◌, ◌/◌, ◌≤◌}
use mathlib.Core.Path.{◌≡◌, refl, sym, ap, ◌∙◌, subst, subst⁻¹, subst₂}
use mathlib.Core.Bool.{true}
use mathlib.Core.Option.{none, some}
use mathlib.Core.List.{List, [], ◌∷◌, ◌++◌, map}
use native.Mathlib.Omega.{arith}
use lib.Dec.{eqb}
use lib.ListN.{length, drop}
use borrow.Author.Tests.{eqb-true, ne_eqb}
use Rattle.rules.specs.Table.{fine, fault, ◌else◌, check, recipe_of}
use Rattle.rules.specs.Places.{is_place}
use Rattle.rules.specs.State as R
use Rattle.rules.specs.State.{fresh, head_fits, record_fits, check_records, check_block, read_block, write_block}
use Rattle.rules.specs.Log.{log_bytes}
use Rattle.rules.specs.Scheduler.{Rules, novalue, halted, number_of, Run, end, step, run, ending, last, steps_of, log}
use Rattle.rules.specs.Steps.{recipes}
use Rattle.rules.specs.Run.{Outcome, start_on, stands_at, place_of, room_of, refusal, outcome, open_on, run_on}
use Rattle.rules.specs.Demand.{Bytes, Chained, Continues}
use Rattle.rules.specs.Histories.{Histories}
use Rattle.rules.proofs.Verdicts.{else_fine, cond-fine}
use Rattle.rules.specs.Answers.{RunAnswers, RunSays, StartAnswers, StartSays}
use Rattle.rules.proofs.Answers.{run-answers, start-answers}
use Rattle.rules.proofs.Says.{run-says, start-says}
use Rattle.rules.proofs.Demand.{chain_meets, continued}
use Rattle.rules.proofs.Histories.{chain_keeps}
use Rattle.rules.proofs.Scheduling.Endings.{by_number}
use Rattle.rules.proofs.NoValue.{bars}
use Rattle.std.specs.Prelude.{Option, None, Some}
use Rattle.state.specs.declared.Task.{Task}
use Rattle.state.specs.declared.State.{State}
use Rattle.state.specs.View.{task_of, store_of, active_of, queue_of, view}
use Rattle.count.specs.declared.Stop.{Stop}
use Rattle.count.specs.declared.Stop.TheVariants.{Finished, Paused, Stuck, Tasks, Spent, Logfull, NoValue}
use Rattle.runner.specs.declared.Answer.{Answer}
use Rattle.runner.specs.declared.Started.{Started}
use Rattle.runner.specs.declared.drive.Ran.{Ran}
use Rattle.count.specs.Along.{ending_of}
use Rattle.runner.specs.Drive.{Drives}
use Rattle.runner.specs.Calls.{started_of, outcome_of, Called, called, result, made_of, Contract, Calls, MeetsDemand, ContinuesAsOne, KeepsHistories}

-- ---- start, by what is found

module _ (t b : List ℕ) where
  pub start-refused : (n i : ℕ) → fault n i ≡ check t → record { number = n; place = i; block = b } ≡ start_on t b
  unfolding start_on
  start-refused n i e = rw (← e) refl

  module _ (e : check t ≡ fine) where
    pub start-short : ¬ (length b ≡ 776) → record { number = 21; place = 0; block = b } ≡ start_on t b
    unfolding start_on
    start-short h = rw (e, ne_eqb (length b) 776 h) refl

    pub start-fresh : (b' : List ℕ) → length b ≡ 776 → b' ≡ write_block fresh → record { number = 0; place = 0; block = b' } ≡ start_on t b
    unfolding start_on
    start-fresh b' h g = rw (e, h, g) refl

-- ---- run, by the verdict on table and block

module _ (t b : List ℕ) (n : ℕ) (l : List ℕ) where
  pub run-refused : (k i : ℕ) → fault k i ≡ (check t else check_block (is_place (recipe_of t)) b) → refusal k i b l ≡ run_on t b n l
  unfolding run_on open_on
  run-refused k i e = rw (← e) refl

  pub run_opened : fine ≡ (check t else check_block (is_place (recipe_of t)) b)
      → outcome (recipe_of t) (run (recipes (recipe_of t)) n (room_of l) (read_block b)) l ≡ run_on t b n l
  unfolding run_on open_on
  run_opened e = rw (← e) refl

-- an accepted block has its length and its first record
pub head_fits_lem : (place : ℕ → _) (b : List ℕ) → check_block place b ≡ fine → (length b ≡ 776) × (head_fits b ≡ true)
unfolding check_block check_records record_fits
head_fits_lem place b h =
    let p = cond-fine (eqb (length b) 776) _ 21 0 h in
    let q = else_fine (check_records place b 65 0) _ p.1 in
    (eqb-true _ _ p.0, (cond-fine (head_fits b) _ 22 0 q.0).0)

-- ---- the end of a call

-- no step writes two records
pub log-steps : (R : Rules) (u : Run R) → length (log R u) ≤ steps_of R u
log-steps R (end e c) = omega arith
log-steps R (step c none u) = omega (arith, log-steps R u)
log-steps R (step c (some x) u) = omega (arith, log-steps R u)

module _ {t : List ℕ} {s : State} {n : ℕ} {l l' : List ℕ} {x : Ran} (d : Drives t s n l l' x) where
  abbrev u : Run (recipes (recipe_of t))
  u = run (recipes (recipe_of t)) n (room_of l) (view s)

  pub records_fit : x.count.written / 8 ≤ x.count.steps
  records_fit = let b = d.ended.bytes in let k = d.ended.steps_are in omega (arith, log-steps (recipes (recipe_of t)) u)

  -- where a missing value ends it, it has an active task, and that one stands at the record named
  pub stands : ending (recipes (recipe_of t)) u ≡ halted novalue
      → (task : Task) × (x.state.active ≡ Some task) × (stands_at (last (recipes (recipe_of t)) u).active ≡ task.place)
  stands h =
      let r = recipe_of t in
      let c = last (recipes r) u in
      let b = bars r c.store c.active c.queue novalue ((by_number (recipes r) n (room_of l) (view s) (halted novalue)).0 (ap number_of h)).1 in
      let is : active_of x.state.active ≡ some b.task = ap (λ (d : R.State). d.active) (sym d.ended.leaves) ∙ b.acts in
      rw b.acts (found x.state.active b.task is)
    where
      found : (a : Option Task) (t : R.Task ℕ) → active_of a ≡ some t → (task : Task) × (a ≡ Some task) × (t.place ≡ task.place)
      found (Some task) t e = (task, refl, let z : task_of task ≡ t = cc in ap (λ (y : R.Task ℕ). y.place) (sym z))
      found None t e = absurd (let z : ◌≡◌ {A = ℕ} 0 1 = cc in omega arith)

  pub answers : (number place : ℕ) (block : List ℕ) → number ≡ number_of (ending_of x.stop) → place ≡ place_of (ending_of x.stop) (view x.state)
      → block ≡ write_block (view x.state)
      → record { number = number; steps = x.count.steps; records = x.count.written / 8; place = place; block = block; log = l' }
      ≡ outcome (recipe_of t) (run (recipes (recipe_of t)) n (room_of l) (view s)) l
  unfolding outcome
  answers number place block f p g =
      let e = d.ended in
      let many : x.count.written / 8 ≡ length (log (recipes (recipe_of t)) u) = omega (arith, e.bytes) in
      let log_is = e.log_is ∙ ap (λ (k : ℕ). log_bytes (log (recipes (recipe_of t)) u) ++ drop k l) e.bytes in
      rw (f, p, g, many, log_is, e.steps_are, e.ends_so, e.leaves) refl

-- the record that a call's end names: that of the statement without a value, at which the active task stands
pub place-named : (stop : Stop) (s : State) (task : Task) → stop ≡ NoValue → s.active ≡ Some task → task.place ≡ place_of (ending_of stop) (view s)
place-named stop s task e h = rw (e, h) refl

-- and no other end names one
pub no_place : (stop : Stop) (s : State) → ((task : Task) → stop ≡ NoValue → s.active ≡ Some task → ⊥) → 0 ≡ place_of (ending_of stop) (view s)
no_place stop s h = go stop s.active h
  where
    go : (stop : Stop) (a : Option Task) → ((task : Task) → stop ≡ NoValue → a ≡ Some task → ⊥)
        → 0 ≡ place_of (ending_of stop) (record { store = store_of s; active = active_of a; queue = queue_of s.queue })
    go Finished a h = refl
    go Paused a h = refl
    go Stuck a h = refl
    go Tasks a h = refl
    go Spent a h = refl
    go Logfull a h = refl
    go NoValue None h = refl
    go NoValue (Some task) h = absurd (h task refl refl)

-- ---- lists of calls of run

-- what "continued equals one run" says of two calls and of the one in their place
abbrev Continued : (whole : List ℕ) → (x y z : Outcome) → Type 0
Continued whole x y z = (x.number ≡ 1) ⊎ (x.number ≡ 5) → ¬ (y.number ≡ 5) → 8 * (x.records + y.records) ≤ length whole → Continues x y z

chained : (t b : List ℕ) (cs : List Called) → Calls t b cs → Chained t b (map made_of cs)
chained t b [] h = tt
chained t b (c ∷ cs) h = (record { kept = h.0 }, chained t c.block_left cs h.1)

same_results : (cs : List Called) → map (λ m. m.result) (map made_of cs) ≡ map result cs
same_results [] = refl
same_results (c ∷ cs) = ap (λ (os : List Outcome). result c ∷ os) (same_results cs)

module _ (t b : List ℕ) (bytes-t : Bytes t) (bytes-b : Bytes b) (o : Called) (h : Contract t b o) where
  pub calls_meet : MeetsDemand t b o
  calls_meet cs g = chain_meets t b bytes-t bytes-b (map made_of (o ∷ cs)) (chained t b (o ∷ cs) (h, g))

  pub calls_continue : ContinuesAsOne t b o
  calls_continue p q hp n hq =
      subst₂ (Continued q.log (result o)) (sym hp) (sym (hq ∙ ap (λ (k : ℕ). run_on t b k q.log) n))
      (subst (λ (x : Outcome). Continued q.log x (run_on t x.block p.budget p.log) (run_on t b (x.steps + p.budget) q.log)) (sym h)
      (continued t b bytes-t bytes-b o.budget p.budget o.log p.log q.log))

-- all that run promises follows from the equation
pub promised : (t b : List ℕ) (n : ℕ) (l : List ℕ) → Bytes t → Bytes b → (r : Answer) (b' l' : List ℕ) → outcome_of r b' l' ≡ run_on t b n l
    → (outcome_of r b' l' ≡ run_on t b n l) × (RunAnswers b l (outcome_of r b' l') × (RunSays t b n l (outcome_of r b' l') × (MeetsDemand t b (called n l r b' l') × ContinuesAsOne t b (called n l r b' l'))))
promised t b n l bt bb r b' l' is = (
  is,
  (
    subst⁻¹ (RunAnswers b l) is (run-answers t b n l),
    (
      subst⁻¹ (RunSays t b n l) is (run-says t b bt bb n l),
      (calls_meet t b bt bb (called n l r b' l') is, calls_continue t b bt bb (called n l r b' l') is),
    ),
  ),
)

-- the logs of the calls behind a start tell the history of each live task
keeps_histories : (t b : List ℕ) → Bytes t → KeepsHistories t (start_on t b)
keeps_histories t b bytes h cs g = subst (Histories (start_on t b).block) (same_results cs) (chain_keeps t b bytes h (map made_of cs) (chained t (start_on t b).block cs g))

-- all that start promises
pub start_promised : (t b : List ℕ) → Bytes t → (r : Started) (b' : List ℕ) → started_of r b' ≡ start_on t b
    → (started_of r b' ≡ start_on t b) × (StartAnswers b (started_of r b') × (StartSays t b (started_of r b') × KeepsHistories t (started_of r b')))
start_promised t b bytes r b' is = (
  is,
  (
    subst⁻¹ (StartAnswers b) is (start-answers t b),
    (subst⁻¹ (StartSays t b) is (start-says t b), subst⁻¹ (KeepsHistories t) is (keeps_histories t b bytes)),
  ),
)
