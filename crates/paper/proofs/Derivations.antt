-- At most one rule applies, and so at most one derivation of a length; and a derivation under limits is one of the paper.
-- Assumes nothing.
use Prim.Native.Nat.{ℕ}
use mathlib.Core.Path.{◌≡◌, refl, sym, ap, ap₂, ◌∙◌, subst}
use mathlib.Core.Option.{Option, none, some}
use mathlib.Core.List.{List, [], ◌∷◌, ◌++◌}
use Rattle.rules.specs.Recipe.{Stmt, skip, assign, if, while, spawn, suspend, await, guard, Body, fin, ◌▸◌, Recipe, Env}
use Rattle.rules.specs.Log.{Event}
use Rattle.rules.specs.Scheduler.{Rules, Config, Next, goes, log_of}
use Rattle.rules.specs.Steps.{Limits}
use Rattle.paper.specs.Paper.{PaperTask, Queue, task, PaperState, WhileStep, skip_step, assign_step, if_true, if_false, while_true, while_false, unlimited, Rule, local, spawn_start, return, yield_suspend, yield_await, yield_guard, schedule_simple, schedule_await, schedule_guard, rotate_await, rotate_guard, Derivation, empty, rule_then, Name, Local, SpawnStart, Return, YieldSuspend, YieldAwait, YieldGuard, ScheduleSimple, ScheduleAwait, ScheduleGuardDone, ScheduleAwaitWait, ScheduleGuardWait, name_of}
use Rattle.paper.specs.Follows.{statements}
use Rattle.paper.proofs.Exact.{Front, an_await, a-guard, another, front_b, kind, simple-front, rule-next}

-- ---- which rule it is: by the active task's first statement, or by the front's and by who is active then

abbrev name_s : Stmt → Name
name_s skip = Local
name_s (assign v e) = Local
name_s (if e b) = Local
name_s (while e b) = Local
name_s (spawn v p e) = SpawnStart
name_s suspend = YieldSuspend
name_s (await v) = YieldAwait
name_s (guard e) = YieldGuard

abbrev name_b : Body → Name
name_b fin = Return
name_b (s ▸ k) = name_s s

abbrev name_try : Front → (then : Option PaperTask) → Name
name_try another a = ScheduleSimple
name_try an_await none = ScheduleAwaitWait
name_try an_await (some t) = ScheduleAwait
name_try a-guard none = ScheduleGuardWait
name_try a-guard (some t) = ScheduleGuardDone

-- (no rule applies to the empty queue)
abbrev name_by : (active : Option PaperTask) → Queue → (then : Option PaperTask) → Name
name_by (some t) q a = name_b t.place
name_by none [] a = ScheduleSimple
name_by none (t ∷ q) a = name_try (front_b t.place) a

while-name : {f : ℕ} {s s' : Body} {σ σ' : Env} {event : Option Event} → WhileStep f s σ event s' σ' → Local ≡ name_b s
while-name skip_step = refl
while-name (assign_step v) = refl
while-name (if_true v h) = refl
while-name (if_false v h) = refl
while-name (while_true v h) = refl
while-name (while_false v h) = refl

same_step : (S : Rules) (x y : Option S.Event) (c d : Config S)
    → ◌≡◌ {A = Next S} (goes x c) (goes y d)
    → (x ≡ y) × (c ≡ d)
same_step S x y c d h = (cc, cc)

module _ {full : Limits} {r : Recipe} where
  name_is : {c d : PaperState} {event : Option Event} (u : Rule full r c event d)
      → name_of u ≡ name_by c.active c.queue d.active
  name_is (local h) = while-name h
  name_is (spawn_start d v h) = refl
  name_is return = refl
  name_is yield_suspend = refl
  name_is yield_await = refl
  name_is yield_guard = refl
  name_is (schedule_simple {f} {s} {z} {q} h) =
      ap (λ (b : Front). name_try b (some (task f s z))) (sym (simple-front (kind s) h))
  name_is (schedule_await d) = refl
  name_is (schedule_guard v h) = refl
  name_is (rotate_await n any) = refl
  name_is (rotate_guard h any) = refl

  -- ---- at most one rule applies, and it does one thing

  pub one_rule : {c d d' : PaperState} {event event' : Option Event}
      (u : Rule full r c event d) (v : Rule full r c event' d')
      → (name_of u ≡ name_of v) × (event ≡ event') × (d ≡ d')
  one_rule {c} {d} {d'} {event} {event'} u v =
      let (h, e) = same_step (statements full r) event event' d d' (sym (rule-next full r u) ∙ rule-next full r v) in
      (name_is u ∙ ap (λ (d : PaperState). name_by c.active c.queue d.active) e ∙ sym (name_is v), h, e)

  pub one-derivation : {c d d' : PaperState} {n : ℕ} {log log' : List Event}
      → Derivation full r c n log d
      → Derivation full r c n log' d'
      → (log ≡ log') × (d ≡ d')
  one-derivation empty empty = (refl, refl)
  one-derivation {d' = d'} (rule_then {n = n} u p) (rule_then {log = log'} v q) =
      let (_, e, f) = one_rule u v in
      let (g, h) = one-derivation p (subst (λ (c : PaperState). Derivation full r c n log' d') (sym f) q) in
      (ap₂ (λ (x : Option Event) (l : List Event). log_of x ++ l) e g, h)

  -- ---- the limits are a premise only

  free-rule : {c d : PaperState} {event : Option Event} → Rule full r c event d → Rule unlimited r c event d
  free-rule (local h) = local h
  free-rule (spawn_start d v h) = spawn_start d v refl
  free-rule return = return
  free-rule yield_suspend = yield_suspend
  free-rule yield_await = yield_await
  free-rule yield_guard = yield_guard
  free-rule (schedule_simple h) = schedule_simple h
  free-rule (schedule_await d) = schedule_await d
  free-rule (schedule_guard v h) = schedule_guard v h
  free-rule (rotate_await n any) = rotate_await n any
  free-rule (rotate_guard h any) = rotate_guard h any

  pub free : {c d : PaperState} {n : ℕ} {log : List Event}
      → Derivation full r c n log d
      → Derivation unlimited r c n log d
  free empty = empty
  free (rule_then u p) = rule_then (free-rule u) (free p)
