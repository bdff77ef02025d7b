-- A list of calls is one chain of steps; a paused run that is continued equals one run.
-- Assumes nothing.
use Prim.Native.Nat.{ℕ, zero, suc, ◌+◌, ◌-◌, ◌≤◌}
use mathlib.Core.Path.{◌≡◌, refl, sym, ap, ◌∙◌}
use mathlib.Core.Option.{Option, none, some}
use mathlib.Core.List.{List, [], ◌∷◌, ◌++◌, append_assoc}
use native.Mathlib.Omega.{arith}
use lib.ListN.{length}
use Rattle.rules.specs.Scheduler.{Rules, Config, Next, finish, jam, bar, goes, next, Ending, logfull, What, stops, makes, test, size, Run, end, step, run, ending, last, steps_of, log, log_of}
use Rattle.rules.specs.Moments.{Call, refused, call, Moment, moments, trace, answers, finally}
use Rattle.rules.specs.Fairness.{steps, all_steps, all_logs, all_endings, records, endings, Linked, join, OneRun}
use Rattle.rules.proofs.Scheduling.Induction.{test-makes, trace_ind}
use Rattle.rules.proofs.Scheduling.Along.{test-goes}

module _ (R : Rules) where
  pub run_end : (c : Config R) (b r : ℕ) (e : Ending) → test R b r (next R c) ≡ stops e → run R b r c ≡ end e c
  run_end c zero r e h = rw h refl
  run_end c (suc b) r e h = rw h refl

  pub run_step : (c : Config R) (b r : ℕ) (x : Option R.Event) (c' : Config R) → next R c ≡ goes x c' → size R x ≤ r → run R (suc b) r c ≡ step c x (run R b (r - size R x) c')
  run_step c b r x c' h l = let k : test R (suc b) r (next R c) ≡ makes x c' = rw h (test-goes R b r x c' l) in rw k refl

  LinkedP : Config R → List Call → List (Moment R) → Type 0
  LinkedP c cs ms = Linked R ms c (finally R c cs)

  linked_all : (c : Config R) (cs : List Call) → LinkedP c cs (trace R c cs)
  unfolding LinkedP
  linked_all = trace_ind R LinkedP (λ c. refl) (λ c cs ms ih. ih)
      (λ c b r cs e ms h ih. (refl, rw (run_end c b r e h) ih))
      (λ c b r cs x c' ms h l ih. (refl, (c', h, rw (run_step c b r x c' h l) ih)))

  pub linked : (c : Config R) (cs : List Call) → Linked R (trace R c cs) c (finally R c cs)
  unfolding LinkedP
  linked = linked_all

  steps-moments : (b r : ℕ) (cs : List Call) (u : Run R) (ms : List (Moment R)) → steps R (moments R b r cs u ++ ms) ≡ steps_of R u + steps R ms
  steps-moments b r cs (end e c) ms = refl
  steps-moments b r cs (step c x u) ms = omega (arith, steps-moments (b - 1) (r - size R x) cs u ms)

  pub steps_add : (c : Config R) (cs : List Call) → all_steps R (answers R c cs) ≡ steps R (trace R c cs)
  steps_add c [] = refl
  steps_add c (refused ∷ cs) = steps_add c cs
  steps_add c (call b r ∷ cs) = rw (steps-moments b r cs (run R b r c), steps_add (last R (run R b r c)) cs) refl

  records-moments : (b r : ℕ) (cs : List Call) (u : Run R) (ms : List (Moment R)) → records R (moments R b r cs u ++ ms) ≡ log R u ++ records R ms
  records-moments b r cs (end e c) ms = refl
  records-moments b r cs (step c x u) ms = rw (records-moments (b - 1) (r - size R x) cs u ms) (sym (append_assoc (log_of x) (log R u) (records R ms)))

  pub logs-join : (c : Config R) (cs : List Call) → all_logs R (answers R c cs) ≡ records R (trace R c cs)
  logs-join c [] = refl
  logs-join c (refused ∷ cs) = logs-join c cs
  logs-join c (call b r ∷ cs) = rw (records-moments b r cs (run R b r c), logs-join (last R (run R b r c)) cs) refl

  endings-moments : (b r : ℕ) (cs : List Call) (u : Run R) (ms : List (Moment R)) → endings R (moments R b r cs u ++ ms) ≡ ending R u ∷ endings R ms
  endings-moments b r cs (end e c) ms = refl
  endings-moments b r cs (step c x u) ms = endings-moments (b - 1) (r - size R x) cs u ms

  pub endings_said : (c : Config R) (cs : List Call) → all_endings R (answers R c cs) ≡ endings R (trace R c cs)
  endings_said c [] = refl
  endings_said c (refused ∷ cs) = endings_said c cs
  endings_said c (call b r ∷ cs) = rw (endings-moments b r cs (run R b r c), endings_said (last R (run R b r c)) cs) refl

  pub length-log : (x : Option R.Event) (l : List R.Event) → length (log_of x ++ l) ≡ size R x + length l
  length-log none l = omega arith
  length-log (some x) l = omega arith

  test-room : (b r r' : ℕ) (y : Next R) (e : Ending) → test R b r y ≡ stops e → ¬ (e ≡ logfull) → test R b r' y ≡ stops e
  test-room b r r' finish e h n = h
  test-room b r r' jam e h n = h
  test-room zero r r' (bar k) e h n = h
  test-room (suc b) r r' (bar k) e h n = h
  test-room zero r r' (goes x c) e h n = h
  test-room (suc b) r r' (goes none c) e h n = h
  test-room (suc b) zero r' (goes (some x) c) e h n = absurd (n (cc))
  test-room (suc b) (suc r) r' (goes (some x) c) e h n = absurd (let z : ◌≡◌ {A = ℕ} 0 1 = cc in omega arith)

  -- by what the test says: a call ends at once, or makes a step
  pub by_test : (P : (b r : ℕ) → Config R → Run R → Type 0)
      → ((b r : ℕ) (c : Config R) (e : Ending) → test R b r (next R c) ≡ stops e → P b r c (end e c))
      → ((b r : ℕ) (c : Config R) (x : Option R.Event) (c' : Config R) → next R c ≡ goes x c' → size R x ≤ r → P b (r - size R x) c' (run R b (r - size R x) c') → P (suc b) r c (step c x (run R b (r - size R x) c')))
      → (b r : ℕ) (c : Config R) → P b r c (run R b r c)
  by_test P f g zero r c = go (test R zero r (next R c)) refl
    where
      go : (w : What R) → test R zero r (next R c) ≡ w → P zero r c (run R zero r c)
      go (stops e) h = rw (run_end c zero r e h) (f zero r c e h)
      go (makes x c') h = absurd (omega (arith, (test-makes R zero r (next R c) x c' h).2))
  by_test P f g (suc b) r c = go (test R (suc b) r (next R c)) refl (λ r' c'. by_test P f g b r' c')
    where
      go : (w : What R) → test R (suc b) r (next R c) ≡ w → ((r' : ℕ) (c' : Config R) → P b r' c' (run R b r' c')) → P (suc b) r c (run R (suc b) r c)
      go (stops e) h ih = rw (run_end c (suc b) r e h) (f (suc b) r c e h)
      go (makes x c') h ih = let (q, l, _) = test-makes R (suc b) r (next R c) x c' h in rw (run_step c b r x c' q l) (g b r c x c' q l (ih (r - size R x) c'))

  RoomP : (b r : ℕ) → Config R → Run R → Type 0
  RoomP b r c u = (room : ℕ) → ¬ (ending R u ≡ logfull) → length (log R u) ≤ room → run R b room c ≡ u

  -- a log that does not fill is as good as a longer one
  room-free : (b r : ℕ) (c : Config R) → RoomP b r c (run R b r c)
  unfolding RoomP
  room-free = by_test RoomP
      (λ b r c e h room n l. run_end c b room e (test-room b r room (next R c) e h n))
      (λ b r c x c' h k ih room n l. let a = length-log x (log R (run R b (r - size R x) c')) in
      run_step c b room x c' h (omega arith) ∙ ap (λ u. step c x u) (ih (room - size R x) n (omega arith)))

  ContP : (b' r' b r : ℕ) → Config R → Run R → Type 0
  ContP b' r' b r c u = (room : ℕ) → ¬ (ending R (run R b' r' (last R u)) ≡ logfull) → length (log R u) + length (log R (run R b' r' (last R u))) ≤ room
      → run R (steps_of R u + b') room c ≡ join R u (run R b' r' (last R u))

  -- A call continued by a second, whose log does not fill, is one call with the steps of the first and the budget of the second, and a log that holds both.
  pub continue : (b r b' r' : ℕ) (c : Config R) (room : ℕ) → ¬ (ending R (run R b' r' (last R (run R b r c))) ≡ logfull)
      → length (log R (run R b r c)) + length (log R (run R b' r' (last R (run R b r c)))) ≤ room
      → run R (steps_of R (run R b r c) + b') room c ≡ join R (run R b r c) (run R b' r' (last R (run R b r c)))
  unfolding ContP RoomP
  continue b r b' r' c = by_test (ContP b' r')
      (λ b r c e h room n l. let z : 0 + b' ≡ b' = omega arith in rw z (room-free b' r' c room n (omega arith)))
      (λ b r c x c' h k ih room n l. let u = run R b (r - size R x) c' in let a = length-log x (log R u) in let z : suc (steps_of R u) + b' ≡ suc (steps_of R u + b') = omega arith in
      rw z (run_step c (steps_of R u + b') room x c' h (omega arith) ∙ ap (λ v. step c x v) (ih (room - size R x) n (omega arith)))) b r c

  join_last : (u v : Run R) → last R (join R u v) ≡ last R v
  join_last (end e c) v = refl
  join_last (step c x u) v = join_last u v

  join-ending : (u v : Run R) → ending R (join R u v) ≡ ending R v
  join-ending (end e c) v = refl
  join-ending (step c x u) v = join-ending u v

  join-steps : (u v : Run R) → steps_of R (join R u v) ≡ steps_of R u + steps_of R v
  join-steps (end e c) v = omega arith
  join-steps (step c x u) v = omega (arith, join-steps u v)

  join-log : (u v : Run R) → log R (join R u v) ≡ log R u ++ log R v
  join-log (end e c) v = refl
  join-log (step c x u) v = rw (join-log u v) (sym (append_assoc (log_of x) (log R u) (log R v)))

  -- Two calls, the second on the state of the first and with a log that does not fill, are one call.
  pub one-run : (c : Config R) (b r b' r' room : ℕ) → ¬ (ending R (run R b' r' (last R (run R b r c))) ≡ logfull)
      → length (log R (run R b r c)) + length (log R (run R b' r' (last R (run R b r c)))) ≤ room
      → OneRun R (run R b r c) (run R b' r' (last R (run R b r c))) (run R (steps_of R (run R b r c) + b') room c)
  one-run c b r b' r' room n l =
      let e = continue b r b' r' c room n l in
      let u = run R b r c in
      let v = run R b' r' (last R u) in
      record {
        whole = e;
        same_state = ap (λ w. last R w) e ∙ join_last u v;
        same_ending = ap (λ w. ending R w) e ∙ join-ending u v;
        steps_added = ap (λ w. steps_of R w) e ∙ join-steps u v;
        logs_joined = ap (λ w. log R w) e ∙ join-log u v;
      }
