-- The tries with no task active: the turns, the take-up, and where they stop.
-- Assumes nothing.
use Prim.Native.Nat.{ℕ, zero, suc, ◌+◌, ◌-◌, ◌*◌, ◌/◌, min, ◌≤◌, ◌<◌}
use mathlib.Core.Path.{◌≡◌, refl, sym, ap, ap₂, ◌∙◌, subst, subst⁻¹}
use mathlib.Core.Bool.{Bool, true, false, cond, true≢false}
use mathlib.Core.Option.{none, some}
use mathlib.Core.List.{List}
use mathlib.Core.Logic.{◌⊎◌, inl, inr, ⊎_elim, dite}
use native.Mathlib.Decide.{dec_le}
use native.Mathlib.Omega.{arith}
use lib.ListN.{length, get_or}
use lib.Seq.{sets}
use borrow.Author.Tests.{ltb-true, ltb-false}
use Rattle.std.specs.Prelude.{Option, None, Some, Result, Ok, Err, nat_lt}
use Rattle.rules.specs.Recipe.{Recipe, Within}
use Rattle.rules.specs.Table.{recipe_of}
use Rattle.rules.specs.Places.{at}
use Rattle.rules.specs.State as R
use Rattle.rules.specs.Log as L
use Rattle.rules.specs.Log.{event_row}
use Rattle.rules.specs.Scheduler.{Readiness, is_ready, Rules, can_go, goes, try_of, next, Ending, paused, logfull, stops, test, Run}
use Rattle.rules.specs.Steps.{counting, past_at, counted, recipes}
use Rattle.rules.proofs.Lists.{every_map, get_or-tab}
use Rattle.rules.proofs.Fit.{TaskFit}
use Rattle.state.specs.declared.State as S
use Rattle.state.specs.declared.Queue.{Queue}
use Rattle.state.specs.View.{entry, queue_of, store_of, turn}
use Rattle.state.proofs.Views.{queue-length}
use Rattle.ready.specs.declared.Wait.{Wait}
use Rattle.ready.specs.declared.Wait.TheVariants.{Ready, Waits, AtGuard}
use Rattle.ready.specs.Ready.{readiness_of, idle, ready_in, ahead_in, first_in, Placed, Waiting}
use Rattle.ready.proofs.Queue.{every_at}
use Rattle.count.specs.declared.Count.{Count}
use Rattle.count.specs.declared.Stop.{Stop}
use Rattle.count.specs.declared.Stop.TheVariants.{Finished, Stuck}
use Rattle.count.specs.Along.{ending_in, Along, Decides, Told}
use Rattle.count.proofs.Along.{room-left, made, count_after, told, one_more, written-fits}
use Rattle.idle.specs.Idle.{carried_by, Idling, took_up, Tries}
use Rattle.idle.proofs.Turning.{Turns, Front, front, ahead-waits, ahead-length, next_none, next-stuck, next-turned, next-taken, next-tried}

-- how many turns are made: all before the first ready task, unless budget or log have room for fewer
pub record Chosen (ahead left room k : ℕ) : Type 0 where
  pub in_ahead : k ≤ ahead
  pub in_left : k ≤ left
  pub in_room : k ≤ room
  pub reason : (k ≡ ahead) ⊎ ((k ≡ left) ⊎ (k ≡ room))

least-is : (a b k : ℕ) → k ≡ min a b → (k ≡ a) ⊎ (k ≡ b)
least-is a b k e = dite (dec_le a b) (λ l. inl (omega arith)) (λ l. inr (omega arith))

pub chosen : (ahead left room j k : ℕ) → j ≡ min ahead left → k ≡ min j room → Chosen ahead left room k
chosen ahead left room j k e g =
    record {
      in_ahead = omega arith;
      in_left = omega arith;
      in_room = omega arith;
      reason = ⊎_elim (λ h. ⊎_elim (λ i. inl (h ∙ i)) (λ i. inr (inl (h ∙ i))) (least-is ahead left j e)) (λ h. inr (inr h)) (least-is j room k g);
    }

-- ---- the first ready task

first_is : (x n k : ℕ) (b : Bool) → nat_lt x n ≡ b → cond b (Some x) None ≡ Some k → (k ≡ x) × (x < n)
first_is x n k true e h = (cc, ltb-true x n e)
first_is x n k false e h = let z : ◌≡◌ {A = ℕ} 0 1 = cc in absurd (omega arith)

none_is : (x n : ℕ) (b : Bool) → nat_lt x n ≡ b → cond b (Some x) None ≡ None → n ≤ x
none_is x n true e h = let z : ◌≡◌ {A = ℕ} 0 1 = cc in absurd (omega arith)
none_is x n false e h = ltb-false x n e

module _ (table : List ℕ) (s : S.State) where
  pub first_ahead : (k : ℕ) → first_in table (idle s) ≡ Some k → (k ≡ ahead_in table (idle s)) × (ahead_in table (idle s) < s.queue.len)
  first_ahead k h = rw (queue-length s.queue) at (first_is (ahead_in table (idle s)) (length (queue_of s.queue)) k _ refl h)

  pub none_ahead : first_in table (idle s) ≡ None → ahead_in table (idle s) ≡ s.queue.len
  none_ahead h =
      let l = none_is (ahead_in table (idle s)) (length (queue_of s.queue)) _ refl h in
      let m = ahead-length (can_go (recipes (recipe_of table)) (idle s)) (queue_of s.queue) in
      omega (arith, queue-length s.queue)

-- ---- readiness, as the code has it

turns_of : (R : Rules) (w : Wait) (v : Readiness) → readiness_of w ≡ v → is_ready v ≡ false → Turns R v (carried_by w)
turns_of R Ready v e h c t q = absurd (true≢false (ap is_ready e ∙ h))
turns_of R (Waits z) v e h c t q = ap (λ (x : Readiness). try_of R x c t q) (sym e)
turns_of R AtGuard v e h c t q = ap (λ (x : Readiness). try_of R x c t q) (sym e)

pub queue_at : (q : Queue) (i : ℕ) (d : R.Task ℕ) → i < q.len → get_or (queue_of q) i d ≡ entry q i
unfolding queue_of
queue_at q i d h = get_or-tab (entry q) q.len i d h

-- the front after n turns
module _ (q : Queue) (n : ℕ) (h : n < q.len) where
  pub first : Front n (queue_of q)
  first = front n (queue_of q) (rw (queue-length q) h)

  pub first_entry : first.first ≡ entry q n
  first_entry = sym (first.first-is (entry q n)) ∙ queue_at q n (entry q n) h

count-is : (n m : Count) → n.steps ≡ m.steps → n.written ≡ m.written → n ≡ m
count-is n m e g = ap₂ (λ (a b : ℕ). record { steps = a; written = b }) e g

-- what the tests before a take-up said, whatever it leads to
pub record Takes (budget : ℕ) (e : L.Event) (d : Result Count Stop) (n : Count) (log log' : List ℕ) : Type 0 where
  pub all : (x : Recipe) (c : R.State) → Decides x (test (recipes x) (budget - n.steps) ((length log - n.written) / 8) (goes (some e) c)) d n log log'

pub takes_one : {budget : ℕ} {e : L.Event} {n n' : Count} {log log' : List ℕ} → Recipe → R.State → Takes budget e (Ok n') n log log'
    → n'.steps ≡ n.steps + 1
takes_one {budget} {e} {n} {n'} {log} {log'} r c d =
    one_more r (test (recipes r) (budget - n.steps) ((length log - n.written) / 8) (goes (some e) c)) n n' log log' (d.all r c)

-- the stop that is told, if one is
abbrev pub stop_in : Result Count Stop → Option Stop
stop_in (Ok n) = None
stop_in (Err stop) = Some stop

-- ---- with no budget or no room left, every step with an event stops the call in the same way

module _ (r : Recipe) where
  blocked : (b room : ℕ) → (b ≡ 0) ⊎ (room ≡ 0) → (e e' : L.Event) (c c' : R.State)
      → (end : Ending) × (test (recipes r) b room (goes (some e) c) ≡ stops end) × (test (recipes r) b room (goes (some e') c') ≡ stops end)
  blocked zero room h e e' c c' = (paused, refl, refl)
  blocked (suc b) room h e e' c c' =
      ⊎_elim (λ g. absurd (omega arith)) (λ g. let z : room ≡ 0 = g in rw z (logfull, refl, refl)) h

  tries_of : (u : Run (recipes r)) (budget : ℕ) (given : List ℕ) (n : Count) (log : List ℕ) (c : R.State) (d : Result Count Stop)
      → Told r u budget given n log c (ending_in d)
      → ((x : mathlib.Core.Option.Option L.Event) (c' : R.State) → ending_in d ≡ none → next (recipes r) c ≡ goes x c' → c' ≡ took_up r c.queue c)
      → Tries r u budget given n log c (stop_in d)
  tries_of u budget given n log c (Err stop) t f = t
  tries_of u budget given n log c (Ok n') (x, c', g, a) f = subst (Along r u budget given n log) (f x c' refl g) a

-- ---- what holds where some call has come to a state with no task active

module _ (table : List ℕ) (s : S.State) {budget : ℕ} {log : List ℕ} {n : Count} (i : Idling table s budget log n) where
  came : Along (recipe_of table) i.call budget i.given n log (idle s)
  came = i.along

  pub waiting : Waiting table s.queue
  waiting = every_map (TaskFit (recipe_of table) (store_of s)) (Placed (recipe_of table)) (λ t k. k.placed) (queue_of s.queue) came.fits.tasks_fit

  pub placed_at : (k : ℕ) → k < s.queue.len → Placed (recipe_of table) (entry s.queue k)
  unfolding queue_of
  placed_at k l = (every_at (TaskFit (recipe_of table) (store_of s)) (entry s.queue) s.queue.len came.fits.tasks_fit k l).placed

  pub in_budget : n.steps ≤ budget
  in_budget = came.in_budget

  pub in_log : n.written ≤ length log
  in_log = written-fits came

-- ---- the tries of one idle stretch

-- i turns after the count `before` and the log log₀
pub record Turned (table : List ℕ) (s : S.State) (before : Count) (log₀ log : List ℕ) (i : ℕ) : Type 0 where
  pub along : (n : Count) → n.steps ≡ before.steps + i → n.written ≡ before.written + 8 * i
      → (u : Run (recipes (recipe_of table))) (budget : ℕ) (given : List ℕ) → before.steps + i ≤ budget
      → Along (recipe_of table) u budget given before log₀ (idle s)
      → Along (recipe_of table) u budget given n log (turn i (idle s))

pub turned-start : (table : List ℕ) (s : S.State) (before : Count) (log : List ℕ) → Turned table s before log log 0
turned-start table s before log = record {
  along = λ n e g u budget given l a.
      subst⁻¹ (λ (m : Count). Along (recipe_of table) u budget given m log (idle s)) (count-is n before (omega arith) (omega arith)) a;
}

module _ (table : List ℕ) (w : Within (recipe_of table)) (s : S.State) where
  abbrev r : Recipe
  r = recipe_of table

  abbrev c : R.State
  c = idle s

  abbrev q : List (R.Task ℕ)
  q = queue_of s.queue

  abbrev many : length q ≡ s.queue.len
  many = queue-length s.queue

  -- one turn
  next-turn : (n : ℕ) → n < ahead_in table c → ahead_in table c < s.queue.len → (t : R.Task ℕ) (v : Wait) → t ≡ entry s.queue n
      → readiness_of v ≡ ready_in table c (entry s.queue n)
      → next (recipes r) (turn n c) ≡ goes (some (L.turned t.number (carried_by v))) (turn (suc n) c)
  next-turn n h l t v e g =
      let i : n < s.queue.len = omega arith in
      let f = first s.queue n i in
      let some_go : ahead_in table c < length q = rw many l in
      let not_yet : can_go (recipes r) c (entry s.queue n) ≡ false = ap (can_go (recipes r) c) (sym (queue_at s.queue n t i)) ∙ ahead-waits (can_go (recipes r) c) q n t h in
      let turns = turns_of (recipes r) v (ready_in table c (entry s.queue n)) g not_yet in
      next-turned (recipes r) c.store q n f some_go (carried_by v) (subst⁻¹ (λ (u : R.Task ℕ). Turns (recipes r) (ready_in table c u) (carried_by v)) (first_entry s.queue n i) turns)
      ∙ rw (first_entry s.queue n i, e) refl

  pub turned_more : {before : Count} {log₀ log : List ℕ} {i : ℕ} (k : ℕ) (log' : List ℕ) (t : R.Task ℕ) (v : Wait)
      → Turned table s before log₀ log i → i < k → k ≤ ahead_in table c → ahead_in table c < s.queue.len
      → before.written + 8 * k ≤ length log₀ → length log ≡ length log₀
      → t ≡ entry s.queue i → readiness_of v ≡ ready_in table c (entry s.queue i)
      → log' ≡ sets log (before.written + 8 * i) (event_row (L.turned t.number (carried_by v)))
      → Turned table s before log₀ log' (i + 1)
  turned_more {before} {log₀} {log} {i} k log' t v d h m l in-l keeps e g is =
      let n : Count = record { steps = before.steps + i; written = before.written + 8 * i } in
      let x = next-turn i (omega arith) l t v e g in
      let one : i + 1 ≡ suc i = omega arith in
      record {
        along = λ n' p p' u budget given b a.
            let a' = d.along n refl refl u budget given (omega arith) a in
            let room : 1 ≤ (length log - n.written) / 8 = omega arith in
            rw one (made a' (some (L.turned t.number (carried_by v))) w x (omega arith) (rw (← room-left a') room) (omega arith) (omega arith) is);
      }

  -- ---- the stops

  module _ (u : Run (recipes (recipe_of table))) (budget : ℕ) (given : List ℕ) (n : Count) (log : List ℕ) where
    module _ (a : Along (recipe_of table) u budget given n log (idle s)) where
      pub finishes : s.queue.len ≡ 0 → Tries (recipe_of table) u budget given n log (turn 0 (idle s)) (Some Finished)
      finishes e = told w a (Err Finished) log (rw (next_none (recipes r) c.store q (many ∙ e)) (refl, refl))

      pub jams : 0 < s.queue.len → ahead_in table (idle s) ≡ s.queue.len → Tries (recipe_of table) u budget given n log (turn 0 (idle s)) (Some Stuck)
      jams l e = told w a (Err Stuck) log (rw (next-stuck (recipes r) c.store q (rw many l) (e ∙ sym many)) (refl, refl))

    -- the take-up, after k turns
    module _ (k : ℕ) (d : Result Count Stop) (log' : List ℕ)
        (a : Along (recipe_of table) u budget given n log (turn k (idle s)))
        (some_go : ahead_in table (idle s) < s.queue.len)
        (before : k ≤ ahead_in table (idle s))
        (takes : Takes budget (L.taken (entry s.queue k).number) d n log log') where
      inside : k < s.queue.len
      inside = omega arith

      abbrev f : Front k q
      f = first s.queue k inside

      abbrev Tried : Type 0
      Tried = Tries (recipe_of table) u budget given (count_after n d) log' (turn k (idle s)) (stop_in d)

      taken_up : k ≡ ahead_in table c → Tried
      taken_up e =
          let t = entry s.queue k in
          let goes-on : ahead_in table c < length q = rw many some_go in
          let x : next (recipes r) (turn k c) ≡ goes (some (L.taken f.first.number)) (record { store = c.store; active = some (counted counting (past_at (at r f.first.place) f.first)); queue = f.rest })
          = next-taken (recipes r) c.store q k f goes-on e t in
          let number = ap (λ (t : R.Task ℕ). t.number) (first_entry s.queue k inside) in
          let after : R.State = record { store = c.store; active = some (counted counting (past_at (at r f.first.place) f.first)); queue = f.rest } in
          tries_of r u budget given (count_after n d) log' (turn k c) d (told w a d log' (rw (x, number) (takes.all r after)))
          (λ y c' o g. let z : after ≡ c' = cc in sym z ∙ rw f.is refl)

      held : (budget - n.steps ≡ 0) ⊎ ((length log - n.written) / 8 ≡ 0) → Tried
      held h =
          let goes-on : ahead_in table c < length q = rw many some_go in
          let (e, c'', x) = next-tried (recipes r) c.store q k f goes-on in
          let (end, p, p') = blocked r (budget - n.steps) ((length log - n.written) / 8) h e (L.taken (entry s.queue k).number) c'' c'' in
          let said = rw p' at (takes.all r c'') in
          tries_of r u budget given (count_after n d) log' (turn k c) d
          (told w a d log' (rw (x, p) said))
          (λ y c' o g. let stopped = ap ending_in said.0 in let z : ◌≡◌ {A = ℕ} 0 1 = cc in absurd (omega arith))

      pub tries : (k ≡ ahead_in table (idle s)) ⊎ ((budget - n.steps ≡ 0) ⊎ ((length log - n.written) / 8 ≡ 0))
          → Tries (recipe_of table) u budget given (count_after n d) log' (turn k (idle s)) (stop_in d)
      tries = ⊎_elim taken_up held
