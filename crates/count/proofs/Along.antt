-- A run call on its way: at its start, after a step, and where it ends.
-- Assumes nothing.
use Prim.Native.Nat.{ℕ, suc, ◌+◌, ◌-◌, ◌*◌, ◌/◌, ◌≤◌, ◌<◌}
use mathlib.Core.Path.{◌≡◌, refl, sym, ap, ◌∙◌}
use mathlib.Core.Option.{Option, none, some}
use mathlib.Core.List.{List, [], ◌∷◌, ◌++◌, append-nil}
use native.Mathlib.Omega.{arith}
use Rattle.std.specs.Prelude.{Result, Ok, Err}
use lib.ListN.{length, take, drop, length-append, length-drop}
use lib.Seq.{sets, sets-eq, take_at, drop_at, drop-drop}
use Rattle.rules.specs.Recipe.{Recipe, Within}
use Rattle.rules.specs.State.{State}
use Rattle.rules.specs.Log.{Event, event_row, log_bytes}
use Rattle.rules.specs.Scheduler.{goes, next, Ending, What, stops, makes, test, size, Run, run, log_of}
use Rattle.rules.specs.Steps.{recipes}
use Rattle.rules.specs.Run.{room_of}
use Rattle.rules.proofs.Answers.{event-length, log_length}
use Rattle.rules.proofs.Demand.{log-append}
use Rattle.rules.proofs.Scheduling.Loop.{At, at_start, at_step, at_end}
use Rattle.rules.proofs.Scheduling.Induction.{test-makes}
use Rattle.rules.proofs.Fit.{Fit}
use Rattle.rules.proofs.Steps.{step_fits}
use Rattle.count.specs.declared.Count.{Count}
use Rattle.count.specs.declared.Stop.{Stop}
use Rattle.count.specs.Along.{ending_in, Along, Ended, noted, Decides, Told}
use Rattle.count.proofs.Stops.{stop-ends}

pub along-start : (r : Recipe) (budget : ℕ) (log : List ℕ) (c : State) (n : Count) → n.steps ≡ 0 → n.written ≡ 0 → Fit r c
    → Along r (run (recipes r) budget (room_of log) c) budget log n log c
unfolding log_bytes
along-start r budget log c n h g f =
    let b : budget - n.steps ≡ budget = omega arith in
    let l : room_of log - 0 ≡ room_of log = omega arith in
    record {
      events = [];
      at = rw (b, l, h) (at_start (recipes r) budget (room_of log) c);
      in_budget = omega arith;
      in_room = omega arith;
      bytes = omega arith;
      log_is = rw g refl;
      fits = f;
    }

-- the log with one record more
noted-next : (events : List Event) (given log : List ℕ) (w : ℕ) (x : Event) → w ≡ 8 * length events → w + 8 ≤ length log
    → log ≡ log_bytes events ++ drop w given
    → sets log w (event_row x) ≡ log_bytes (events ++ x ∷ []) ++ drop (w + 8) given
unfolding log_bytes
noted-next events given log w x b l e =
    let n = log_length events ∙ sym b in
    let cut : drop (w + 8) log ≡ drop (w + 8) given =
    sym (drop-drop 8 w log) ∙ ap (λ (p : List ℕ). drop 8 p) (ap (λ (p : List ℕ). drop w p) e ∙ drop_at (log_bytes events) (drop w given) w n)
    ∙ drop-drop 8 w given in
    sets-eq (event_row x) log w (rw event-length l)
    ∙ rw (event-length x, cut, log-append events (x ∷ []), append-nil (event_row x))
    (ap (λ (p : List ℕ). p ++ event_row x ++ drop (w + 8) given) (ap (λ (p : List ℕ). take w p) e ∙ take_at (log_bytes events) (drop w given) w n))

-- of a step, by whether it has an event
logged-length : (r : Recipe) (x : Option Event) (events : List Event) → length (events ++ log_of x) ≡ length events + size (recipes r) x
logged-length r none events = rw (append-nil events) (omega arith)
logged-length r (some x) events = length-append events (x ∷ [])

logged-is : (r : Recipe) (x : Option Event) (events : List Event) (given log : List ℕ) (w : ℕ) → w ≡ 8 * length events
    → w + 8 * size (recipes r) x ≤ length log → log ≡ log_bytes events ++ drop w given
    → noted log w x ≡ log_bytes (events ++ log_of x) ++ drop (w + 8 * size (recipes r) x) given
logged-is r none events given log w b l e = let z : w + 8 * 0 ≡ w = omega arith in rw (append-nil events, z) e
logged-is r (some x) events given log w b l e = noted-next events given log w x b l e

module _ {r : Recipe} {u : Run (recipes r)} {budget : ℕ} {given : List ℕ} {n : Count} {log : List ℕ} {c : State} (a : Along r u budget given n log c) where
  pub log_keeps : length log ≡ length given
  log_keeps =
      let e = ap (λ (l : List ℕ). length l) a.log_is in
      let b = a.bytes in
      let i = a.in_room in
      omega (arith, length-append (log_bytes a.events) (drop n.written given), log_length a.events, length-drop n.written given)

  pub room-left : (length log - n.written) / 8 ≡ room_of given - length a.events
  room-left =
      let b = a.bytes in
      let i = a.in_room in
      omega (arith, log_keeps)

  pub made : {n' : Count} {log' : List ℕ} {c' : State} (x : Option Event) → Within r → next (recipes r) c ≡ goes x c' → n.steps < budget
      → size (recipes r) x ≤ room_of given - length a.events → n'.steps ≡ n.steps + 1
      → n'.written ≡ n.written + 8 * size (recipes r) x → log' ≡ noted log n.written x
      → Along r u budget given n' log' c'
  made {n'} {log'} {c'} x w h l m p q e =
      let k = logged-length r x a.events in
      let i = a.in_room in
      let b = a.bytes in
      let s : suc (budget - n'.steps) ≡ budget - n.steps = omega arith in
      let now : At (recipes r) u n.steps a.events c (suc (budget - n'.steps)) (room_of given - length a.events) = rw s a.at in
      let left : room_of given - length a.events - size (recipes r) x ≡ room_of given - length (a.events ++ log_of x) = omega arith in
      record {
        events = a.events ++ log_of x;
        at = rw (← left) (rw (← p) at (at_step (recipes r) u n.steps a.events c c' x (budget - n'.steps) (room_of given - length a.events) h m now));
        in_budget = omega arith;
        in_room = omega arith;
        bytes = omega arith;
        log_is = e ∙ rw q (logged-is r x a.events given log n.written b (omega (arith, log_keeps)) a.log_is);
        fits = step_fits r w c c' x a.fits h;
      }

-- the count after what the tests decide
abbrev pub count_after : Count → Result Count Stop → Count
count_after n (Ok n') = n'
count_after n (Err stop) = n

-- what the tests say, by their outcome
module _ {r : Recipe} {u : Run (recipes r)} {budget : ℕ} {given : List ℕ} {n : Count} {log : List ℕ} {c : State} (w : Within r) (a : Along r u budget given n log c) where
  ended : (e : Ending) → test (recipes r) (budget - n.steps) (room_of given - length a.events) (next (recipes r) c) ≡ stops e → Ended r u given n log c e
  ended e h =
      let (steps, events, ends, leaves) = at_end (recipes r) u n.steps a.events c _ _ e h a.at in
      record {
        steps_are = steps;
        ends_so = ends;
        leaves = leaves;
        bytes = rw events a.bytes;
        log_is = rw events a.log_is;
        fits = a.fits;
      }

  pub told : (d : Result Count Stop) (log' : List ℕ)
      → Decides r (test (recipes r) (budget - n.steps) ((length log - n.written) / 8) (next (recipes r) c)) d n log log'
      → Told r u budget given (count_after n d) log' c (ending_in d)
  told d log' = rw (room-left a) (go (test (recipes r) (budget - n.steps) (room_of given - length a.events) (next (recipes r) c)) refl)
    where
      go : (y : What (recipes r)) → test (recipes r) (budget - n.steps) (room_of given - length a.events) (next (recipes r) c) ≡ y
          → Decides r y d n log log' → Told r u budget given (count_after n d) log' c (ending_in d)
      go (stops e) h k = rw (k.0, k.1, stop-ends e) (ended e h)
      go (makes x c') h k =
          let (g, l, b) = test-makes (recipes r) _ _ (next (recipes r) c) x c' h in
          rw k.0 (x, c', g, made a x w g (omega arith) l refl refl k.1)

-- where the run goes on, one step is counted
pub one_more : (r : Recipe) (y : What (recipes r)) (n n' : Count) (log log' : List ℕ) → Decides r y (Ok n') n log log' → n'.steps ≡ n.steps + 1
one_more r (stops e) n n' log log' d = absurd (let z : ◌≡◌ {A = ℕ} 0 1 = let h = d.0 in cc in omega arith)
one_more r (makes x c) n n' log log' d = let z : n' ≡ record { steps = n.steps + 1; written = n.written + 8 * size (recipes r) x } = let h = d.0 in cc in ap (λ (k : Count). k.steps) z

pub written-fits : {r : Recipe} {u : Run (recipes r)} {budget : ℕ} {given log : List ℕ} {n : Count} {c : _} → Along r u budget given n log c
    → n.written ≤ length log
written-fits a = let b = a.bytes in let i = a.in_room in omega (arith, log_keeps a)
