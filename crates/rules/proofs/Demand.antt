-- Demand 3, "continued equals one run" and the call behind a zero divisor, for every table, every block and every list of calls.
-- Assumes nothing.
use Prim.Native.Nat.{ℕ, zero, suc, ◌+◌, ◌*◌, ◌≤◌}
use mathlib.Core.Path.{◌≡◌, refl, sym, ap, ap₂, ◌∙◌, subst, subst₂}
use mathlib.Core.Logic.{◌⊎◌, ⊎_elim}
use mathlib.Core.Bool.{true, false≢true}
use mathlib.Core.List.{List, [], ◌∷◌, ◌++◌, map, append_assoc}
use native.Mathlib.Omega.{arith}
use lib.ListN.{length, drop}
use lib.Seq.{take_at}
use Rattle.rules.specs.Recipe.{Recipe, Within}
use Rattle.rules.specs.Table.{Verdict, fine, fault, ◌else◌, check, recipe_of}
use Rattle.rules.specs.Places.{is_place}
use Rattle.rules.specs.State.{State, check_block, read_block, write_block}
use Rattle.rules.specs.Log.{Event, log_bytes, event_row}
use Rattle.rules.specs.Scheduler.{novalue, bar, next, Run, run, ending, last, steps_of, log, Ending, logfull, halted, number_of}
use Rattle.rules.specs.Steps.{recipes}
use Rattle.rules.specs.Run.{Outcome, place_of, outcome, room_of, Opened, refuses, opens, open_with, open_on, run_with, run_on}
use Rattle.rules.specs.Moments.{Call, call, answers, finally}
use Rattle.rules.specs.Fairness.{all_steps, all_logs, all_endings, Allowed}
use Rattle.rules.specs.Demand.{Bytes, Given, outcomes, last_block, steps_said, written, logs_written, numbers_said, calls, AllRefused, AllRun, DemandOf, Demand, Made, Chained, Meets, Continues, ContinuedIsOne}
use Rattle.rules.specs.NoValue.{again, StopsAgain}
use Rattle.rules.specs.Answers as A
use Rattle.rules.proofs.Answers.{log_length, opened_number}
use Rattle.rules.proofs.Scheduling.Whole.{steps_add, logs-join, endings_said, one-run}
use Rattle.rules.proofs.Scheduling.Endings.{ending_by, by_number}
use Rattle.rules.proofs.NoValue.{no_budget, some-budget}
use Rattle.rules.proofs.Fit.{Fit}
use Rattle.rules.proofs.Steps.{run_fits, demand_of_recipes}
use Rattle.rules.proofs.Issued.{never_twice}
use Rattle.rules.proofs.Blocks.{fit_read, write_read, fit_write, read-write}
use Rattle.rules.proofs.Grammar.Theorem.{accepted-spells}

-- ---- what opens

-- an accepted table with its recipe, and a state that fits it
pub record Open (t b : List ℕ) (r : Recipe) (c : State) : Type 0 where
  pub passes : check t ≡ fine
  pub recipe : r ≡ recipe_of t
  pub within : Within r
  pub fit : Fit r c
  pub block : b ≡ write_block c

pub open_fits : (t b : List ℕ) (r : Recipe) (c : State) → Bytes t → Bytes b → open_on t b ≡ opens r c → Open t b r c
unfolding open_on
open_fits t b r c bt bb e = go (check t) (check_block (is_place (recipe_of t)) b) refl refl e
  where
    go : (v w : Verdict) → check t ≡ v → check_block (is_place (recipe_of t)) b ≡ w → open_with (v else w) (recipe_of t) b ≡ opens r c → Open t b r c
    go (fault n i) w h g e = absurd (let z : ◌≡◌ {A = ℕ} 0 1 = cc in omega arith)
    go fine (fault n i) h g e = absurd (let z : ◌≡◌ {A = ℕ} 0 1 = cc in omega arith)
    go fine fine h g e =
        let x : recipe_of t ≡ r = cc in
        let y : read_block b ≡ c = cc in
        record {
          passes = h;
          recipe = sym x;
          within = subst Within x (accepted-spells t bt h).within;
          fit = subst (λ (q : Recipe). Fit q c) x (subst (Fit (recipe_of t)) y (fit_read (recipe_of t) b bb g));
          block = sym (ap write_block (sym y) ∙ write_read (recipe_of t) b bb g);
        }

-- what a state that fits leaves is accepted again
pub opens-again : (t : List ℕ) (r : Recipe) (c : State) → check t ≡ fine → r ≡ recipe_of t → Fit r c → open_on t (write_block c) ≡ opens r c
unfolding open_on
opens-again t r c h e f = rw (h, ← e, fit_write r c f, read-write r c f) refl

-- a call on the block of such a state
run_is : (t : List ℕ) (r : Recipe) (c : State) (n : ℕ) (l : List ℕ) → check t ≡ fine → r ≡ recipe_of t → Fit r c
    → run_on t (write_block c) n l ≡ outcome r (run (recipes r) n (room_of l) c) l
unfolding run_on
run_is t r c n l h e f = rw (opens-again t r c h e f) refl

-- ---- logs

pub log-append : (xs ys : List Event) → log_bytes (xs ++ ys) ≡ log_bytes xs ++ log_bytes ys
unfolding log_bytes
log-append [] ys = refl
log-append (x ∷ xs) ys = ap (λ (l : List ℕ). event_row x ++ l) (log-append xs ys) ∙ sym (append_assoc (event_row x) (log_bytes xs) (log_bytes ys))

pub written_is : (r : Recipe) (u : Run (recipes r)) (l : List ℕ) → written (outcome r u l) ≡ log_bytes (log (recipes r) u)
unfolding outcome
written_is r u l = take_at (log_bytes (log (recipes r) u)) (drop (8 * length (log (recipes r) u)) l) (8 * length (log (recipes r) u)) (log_length (log (recipes r) u))

-- what one call on the block of such a state returns and leaves
record OneCall (t : List ℕ) (r : Recipe) (c : State) (n : ℕ) (l : List ℕ) : Type 0 where
  numbered : (run_on t (write_block c) n l).number ≡ number_of (ending (recipes r) (run (recipes r) n (room_of l) c))
  counted : (run_on t (write_block c) n l).steps ≡ steps_of (recipes r) (run (recipes r) n (room_of l) c)
  recorded : (run_on t (write_block c) n l).records ≡ length (log (recipes r) (run (recipes r) n (room_of l) c))
  logged : written (run_on t (write_block c) n l) ≡ log_bytes (log (recipes r) (run (recipes r) n (room_of l) c))
  left : (run_on t (write_block c) n l).block ≡ write_block (last (recipes r) (run (recipes r) n (room_of l) c))

module _ (t : List ℕ) (r : Recipe) (w : Within r) (h : check t ≡ fine) (e : r ≡ recipe_of t) where
  one-call : (c : State) (n : ℕ) (l : List ℕ) → Fit r c → OneCall t r c n l
  unfolding outcome
  one-call c n l f =
      let i = run_is t r c n l h e f in
      record {
        numbered = ap (λ o. o.number) i;
        counted = ap (λ o. o.steps) i;
        recorded = ap (λ o. o.records) i;
        logged = ap written i ∙ written_is r (run (recipes r) n (room_of l) c) l;
        left = ap (λ o. o.block) i;
      }

  -- ---- a list of calls

  abbrev called : Given → Call
  called g = call g.budget (room_of g.buffer)

  record Answered (c : State) (gs : List Given) : Type 0 where
    calls_are : calls t (write_block c) gs ≡ map called gs
    counted : steps_said (outcomes t (write_block c) gs) ≡ all_steps (recipes r) (answers (recipes r) c (map called gs))
    logged : logs_written (outcomes t (write_block c) gs) ≡ log_bytes (all_logs (recipes r) (answers (recipes r) c (map called gs)))
    numbered : numbers_said (outcomes t (write_block c) gs) ≡ map number_of (all_endings (recipes r) (answers (recipes r) c (map called gs)))
    left : last_block t (write_block c) gs ≡ write_block (finally (recipes r) c (map called gs))

  answered : (gs : List Given) (c : State) → Fit r c → Answered c gs
  unfolding outcomes last_block steps_said logs_written log_bytes calls
  answered [] c f = record { calls_are = refl; counted = refl; logged = refl; numbered = refl; left = refl }
  answered (g ∷ gs) c f =
      let u = run (recipes r) g.budget (room_of g.buffer) c in
      let i = one-call c g.budget g.buffer f in
      let d = answered gs (last (recipes r) u) (run_fits r w g.budget (room_of g.buffer) c f) in
      record {
        calls_are = rw (opens-again t r c h e f, i.left, d.calls_are) refl;
        counted = rw (i.counted, i.left, d.counted) refl;
        logged = rw (i.logged, i.left, d.logged) (sym (log-append (log (recipes r) u) (all_logs (recipes r) (answers (recipes r) (last (recipes r) u) (map called gs)))));
        numbered = rw (i.numbered, i.left, d.numbered) refl;
        left = rw i.left d.left;
      }

  allowed : (c : State) → Fit r c → (gs : List Given) → Allowed (recipes r) c (map called gs)
  allowed c f [] = tt
  allowed c f (g ∷ gs) = f.valid

  all_run : (c : State) → Fit r c → (gs : List Given) → AllRun r c t (write_block c) gs
  all_run c f gs =
      let a = answered gs c f in
      let cs = map called gs in
      record {
        demand = rw a.calls_are (demand_of_recipes r c cs (allowed c f gs));
        counted = rw a.calls_are (a.counted ∙ steps_add (recipes r) c cs);
        logged = rw a.calls_are (a.logged ∙ ap log_bytes (logs-join (recipes r) c cs));
        block_left = rw a.calls_are a.left;
        numbered = rw a.calls_are (a.numbered ∙ ap (λ (l : List Ending). map number_of l) (endings_said (recipes r) c cs));
        never_twice = never_twice r c (calls t (write_block c) gs);
      }

all_refused : (t b : List ℕ) (n i : ℕ) → open_on t b ≡ refuses n i → (gs : List Given) → AllRefused n i t b gs
unfolding outcomes last_block run_on calls
all_refused t b n i e [] = record { each = refl; block_kept = refl; no_moments = λ r c. refl }
all_refused t b n i e (g ∷ gs) =
    let d = all_refused t b n i e gs in
    record { each = rw (e, d.each) refl; block_kept = rw e d.block_kept; no_moments = λ r c. rw e (d.no_moments r c) }

-- Demand 3, for every list of run calls on any table and any block.
pub demand : (t b : List ℕ) → Bytes t → Bytes b → (gs : List Given) → Demand t b gs
demand t b bt bb gs = go (open_on t b) refl
  where
    go : (o : Opened) → open_on t b ≡ o → DemandOf o t b gs
    go (refuses n i) e = all_refused t b n i e gs
    go (opens r c) e =
        let o = open_fits t b r c bt bb e in
        subst (λ (x : List ℕ). AllRun r c t x gs) (sym o.block) (all_run t r o.within o.passes o.recipe c o.fit gs)

-- any chain of calls that are each as promised has it
pub chain-results : (t b : List ℕ) (ms : List Made) → Chained t b ms → map (λ m. m.result) ms ≡ outcomes t b (map (λ m. m.given) ms)
unfolding outcomes
chain-results t b [] h = refl
chain-results t b (m ∷ ms) h =
    let d = chain-results t m.result.block ms h.1 in
    ap₂ (λ (x : Outcome) (y : List Outcome). x ∷ y) h.0.kept (d ∙ ap (λ (o : Outcome). outcomes t o.block (map (λ m. m.given) ms)) h.0.kept)

pub chain_meets : (t b : List ℕ) → Bytes t → Bytes b → (ms : List Made) → Chained t b ms → Meets t b ms
chain_meets t b bt bb ms h = record { demand = demand t b bt bb (map (λ m. m.given) ms); results = chain-results t b ms h }

-- ---- continued equals one run

-- a call whose number is not 5 did not end with a full log
not_full : (e : Ending) (n : ℕ) → n ≡ number_of e → ¬ (n ≡ 5) → ¬ (e ≡ logfull)
unfolding number_of
not_full e n h f g = f (h ∙ ap number_of g)

-- three calls on states that fit, the second on what the first leaves: the first two are the third
module _ (t : List ℕ) (r : Recipe) (w : Within r) (h : check t ≡ fine) (e : r ≡ recipe_of t) (c : State) (f : Fit r c) (n n' : ℕ) (l l' whole : List ℕ) where
  abbrev u : Run (recipes r)
  u = run (recipes r) n (room_of l) c

  abbrev v : Run (recipes r)
  v = run (recipes r) n' (room_of l') (last (recipes r) u)

  two-calls : let o = run_on t (write_block c) n l in let p = run_on t (write_block (last (recipes r) u)) n' l' in let q = run_on t (write_block c) (steps_of (recipes r) u + n') whole in
      ¬ (p.number ≡ 5) → 8 * (o.records + p.records) ≤ length whole → Continues o p q
  two-calls p5 long =
      let a = one-call t r w h e c n l f in
      let b = one-call t r w h e (last (recipes r) u) n' l' (run_fits r w n (room_of l) c f) in
      let d = one-call t r w h e c (steps_of (recipes r) u + n') whole f in
      let x = one-run (recipes r) c n (room_of l) n' (room_of l') (room_of whole) (not_full (ending (recipes r) v) _ b.numbered p5) (omega (arith, a.recorded, b.recorded)) in
      record {
        same_state = d.left ∙ ap write_block x.same_state ∙ sym b.left;
        same_ending = d.numbered ∙ ap number_of x.same_ending ∙ sym b.numbered;
        steps_added = omega (arith, a.counted, b.counted, d.counted, x.steps_added);
        logs_joined = d.logged ∙ ap log_bytes x.logs_joined ∙ log-append (log (recipes r) u) (log (recipes r) v) ∙ sym (ap₂ (λ (x y : List ℕ). x ++ y) a.logged b.logged);
      }

-- the same, of the block and the count that the first call leaves
module _ (t : List ℕ) (n n' : ℕ) (l l' whole : List ℕ) where
  abbrev Together : (b b' : List ℕ) → ℕ → Type 0
  Together b b' k = ¬ ((run_on t b' n' l').number ≡ 5) → 8 * ((run_on t b n l).records + (run_on t b' n' l').records) ≤ length whole → Continues (run_on t b n l) (run_on t b' n' l') (run_on t b (k + n') whole)

  together : (b : List ℕ) (r : Recipe) (c : State) → Open t b r c → Together b (run_on t b n l).block (run_on t b n l).steps
  together b r c o =
      let a = one-call t r o.within o.passes o.recipe c n l o.fit in
      subst (λ (x : List ℕ). Together x (run_on t x n l).block (run_on t x n l).steps) (sym o.block)
      (subst₂ (λ (x : List ℕ) (k : ℕ). Together (write_block c) x k) (sym a.left) (sym a.counted) (two-calls t r o.within o.passes o.recipe c o.fit n n' l l' whole))

-- a refusal ends neither in 1 nor in 5
not-refused : (n : ℕ) → A.refuses n ≡ true → (n ≡ 1) ⊎ (n ≡ 5) → ⊥
not-refused n h = ⊎_elim (λ e. false≢true (ap A.refuses (sym e) ∙ h)) (λ e. false≢true (ap A.refuses (sym e) ∙ h))

-- A call that ends in 1 or 5 and the next on its state are one call.
pub continued : (t b : List ℕ) → Bytes t → Bytes b → ContinuedIsOne t b
unfolding run_on
continued t b bt bb n n' l l' whole x = go (open_on t b) refl
  where
    go : (o : Opened) → open_on t b ≡ o → Together t n n' l l' whole b (run_on t b n l).block (run_on t b n l).steps
    go (refuses k i) e = absurd (not-refused k (opened_number t b k i e) (subst (λ (o : Opened). ((run_with o b n l).number ≡ 1) ⊎ ((run_with o b n l).number ≡ 5)) e x))
    go (opens r c) e = together t n n' l l' whole b r c (open_fits t b r c bt bb e)

-- ---- a call that a zero divisor stopped

module _ (t : List ℕ) (r : Recipe) (w : Within r) (h : check t ≡ fine) (e : r ≡ recipe_of t) (c : State) (f : Fit r c) (n n' : ℕ) (l l' : List ℕ) where
  stopped-again : let o = outcome r (run (recipes r) n (room_of l) c) l in o.number ≡ 24 → run_on t o.block n' l' ≡ again o n' l'
  unfolding outcome number_of log_bytes
  stopped-again g =
      let u = run (recipes r) n (room_of l) c in
      let d = last (recipes r) u in
      let bars : next (recipes r) d ≡ bar novalue = ((by_number (recipes r) n (room_of l) c (halted novalue)).0 g).1 in
      let ends = ending_by (ending (recipes r) u) (halted novalue) g in
      run_is t r d n' l' h e (run_fits r w n (room_of l) c f) ∙ go n' d (outcome r u l) refl (ap (λ x. place_of x d) ends) bars
    where
      go : (n' : ℕ) (d : State) (o : Outcome) → o.block ≡ write_block d → o.place ≡ place_of (halted novalue) d → next (recipes r) d ≡ bar novalue
          → outcome r (run (recipes r) n' (room_of l') d) l' ≡ again o n' l'
      go zero d o p q g = rw (no_budget (recipes r) d novalue g (room_of l'), p) refl
      go (suc b) d o p q g = rw (some-budget (recipes r) d novalue g b (room_of l'), p, q) refl

-- The call behind one that ended in 24 stops there again.
pub stops-again : (t b : List ℕ) → Bytes t → Bytes b → StopsAgain t b
unfolding run_on
stops-again t b bt bb n n' l l' x = go (open_on t b) refl x
  where
    go : (o : Opened) → open_on t b ≡ o → (run_with o b n l).number ≡ 24 → run_on t (run_with o b n l).block n' l' ≡ again (run_with o b n l) n' l'
    go (refuses k i) e x = absurd (false≢true (ap A.refuses (sym x) ∙ opened_number t b k i e))
    go (opens r c) e x =
        let o = open_fits t b r c bt bb e in
        stopped-again t r o.within o.passes o.recipe c o.fit n n' l l' x
