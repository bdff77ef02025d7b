-- A run is a derivation of the paper, step for step, and no other.
-- Assumes nothing.
use Prim.Native.Nat.{ℕ, zero, suc, ◌-◌, ◌≤◌}
use mathlib.Core.Path.{◌≡◌, refl, sym, ap, subst}
use mathlib.Core.Logic.Iff
use mathlib.Core.Logic.{◌↔◌}
use mathlib.Core.Bool.{true}
use mathlib.Core.Option
use mathlib.Core.Option.{Option, none, some}
use mathlib.Core.List.{List, [], ◌∷◌, map}
use native.Mathlib.Omega.{arith}
use lib.IntN.{pos}
use lib.ListN.{replicate}
use Rattle.rules.specs.Recipe.{Body, Recipe, size_r, Within}
use Rattle.rules.specs.Table.{check, fine, recipe_of}
use Rattle.rules.specs.Places.{is_place, start_from, start}
use Rattle.rules.specs.State.{Task, Store, State, live_tasks, live, fresh, check_block, read_block, write_block}
use Rattle.rules.specs.Scheduler.{Rules, novalue, finish, jam, bar, next, finished, paused, stuck, halted, number_of, Run, run, ending, last, steps_of, log}
use Rattle.rules.specs.Steps.{limits, recipes}
use Rattle.rules.specs.Run.{outcome, room_of, open_on, run_on}
use Rattle.rules.specs.Demand.{Bytes}
use Rattle.rules.specs.Fairness.{Every}
use Rattle.rules.proofs.Lists.{every_map}
use Rattle.rules.proofs.Scheduling.Whole.{by_test}
use Rattle.rules.proofs.Scheduling.Endings.{by_number}
use Rattle.rules.proofs.Fit.{TaskFit, Fit}
use Rattle.rules.proofs.Steps.{run_fits}
use Rattle.rules.proofs.Blocks.{fit_read, read-write}
use Rattle.rules.proofs.Grammar.Theorem.{accepted-spells}
use Rattle.rules.proofs.Demand.{written_is}
use Rattle.paper.specs.Paper.{Queue, task, running, initial, here, there, InDom, next_id, Derivation, empty, rule_then}
use Rattle.paper.specs.Follows.{shown_task, shown, Placed, Derives, PaperRules}
use Rattle.paper.proofs.Exact.{dom_counted}
use Rattle.paper.proofs.Derivations.{one-derivation, free}
use Rattle.paper.proofs.Shown.{place_rest, begins, shown-count}
use Rattle.paper.proofs.Follows.{lacks, follows}

-- a fresh state is the initial configuration
at_start : (r : Recipe) → Within r → shown r fresh ≡ initial r
unfolding fresh size_r start start_from
at_start [] w = absurd (omega (arith, w.some))
at_start (b ∷ r) w =
    let σ : Store = record { issued = 1; variables = replicate 64 (pos 0) } in
    ap (λ (s : Body). running (task 1 s (pos 0)) [] σ) (sym (begins limits (b ∷ r) w 0 (omega arith)))

module _ (r : Recipe) (w : Within r) where
  abbrev R : Rules
  R = recipes r

  says-finished : (b k : ℕ) (c : State)
      → (number_of (ending R (run R b k c)) ≡ 0) ↔ (next R (last R (run R b k c)) ≡ finish)
  unfolding number_of
  says-finished b k c = by_number R b k c finished

  says-stuck : (b k : ℕ) (c : State)
      → (number_of (ending R (run R b k c)) ≡ 2) ↔ (next R (last R (run R b k c)) ≡ jam)
  unfolding number_of
  says-stuck b k c = by_number R b k c stuck

  -- 24 is "tried after 1"
  says-novalue : (b k : ℕ) (c : State)
      → let u = run R b k c in
      (number_of (ending R u) ≡ 24) ↔ ((¬ (number_of (ending R u) ≡ 1)) × (next R (last R u) ≡ bar novalue))
  unfolding number_of
  says-novalue b k c = (
    λ g. (λ h. omega arith, ((by_number R b k c (halted novalue)).0 g).1),
    λ h. (by_number R b k c (halted novalue)).1 (unspent (b - steps_of R u) refl h.0 h.1, h.1),
  )
    where
      u : Run R
      u = run R b k c

      -- without budget left the call would be paused
      unspent : (n : ℕ) → b - steps_of R u ≡ n → ¬ (number_of (ending R u) ≡ 1) → next R (last R u) ≡ bar novalue → 1 ≤ n
      unspent (suc n) e p h = omega arith
      unspent zero e p h =
          let no_end : ¬ (next R (last R u) ≡ finish) = λ g. let z : ◌≡◌ {A = ℕ} 0 1 = cc in omega arith in
          let no_jam : ¬ (next R (last R u) ≡ jam) = λ g. let z : ◌≡◌ {A = ℕ} 0 1 = cc in omega arith in
          absurd (p ((by_number R b k c paused).1 (e, no_end, no_jam)))

  -- ---- the derivation

  DerivesP : (b k : ℕ) → State → Run R → Type 0
  DerivesP b k c u = Placed r c → Derivation limits r (shown r c) (steps_of R u) (log R u) (shown r (last R u))

  derivation : (b k : ℕ) (c : State) → DerivesP b k c (run R b k c)
  unfolding DerivesP
  derivation = by_test R DerivesP
      (λ b k c e h p. empty)
      (λ b k c x d h l ih p. let f = follows limits r w c p in rule_then (f.rule x d h) (ih (f.placed x d h)))

  placed : (c : State) → Fit r c → Placed r c
  placed c f =
      every_map (TaskFit r c.store) (λ t. is_place r t.place ≡ true) (λ t g. g.placed) (live c) f.tasks_fit

  -- ---- the identifier that a spawn gives is that of no task, and so is 0

  shown-live : (c : State) → live (shown r c) ≡ map (shown_task r) (live c)
  shown-live c = go c.active
    where
      go : (a : Option (Task ℕ))
          → live_tasks (Option.map (shown_task r) a) (map (shown_task r) c.queue)
          ≡ map (shown_task r) (live_tasks a c.queue)
      go none = refl
      go (some t) = refl

  new_id : (c : State) → Fit r c → ¬ InDom (next_id c.store) (live (shown r c))
  new_id c f h =
      let n = next_id c.store in
      let i = dom_counted limits r (subst (λ (q : Queue). InDom n q) (shown-live c) h) in
      omega (arith, i, shown-count limits r w n (live c), f.valid.below n (omega arith))

  zero_free : (σ : Store) (q : List (Task ℕ)) → Every (TaskFit r σ) q → ¬ InDom 0 (map (shown_task r) q)
  zero_free σ [] f h = elim h [ ]
  zero_free σ (t ∷ q) f (here h) = omega (arith, h, f.0.from_one)
  zero_free σ (t ∷ q) f (there h) = zero_free σ q f.1 h

  no_id_zero : (c : State) → Fit r c → ¬ InDom 0 (live (shown r c))
  no_id_zero c f h = zero_free c.store (live c) f.tasks_fit (subst (λ (q : Queue). InDom 0 q) (shown-live c) h)

-- ---- the theorem

module _ (t : List ℕ) (bt : Bytes t) (h : check t ≡ fine) where
  abbrev r : Recipe
  r = recipe_of t

  w : Within r
  w = (accepted-spells t bt h).within

  run_is : (b : List ℕ) → check_block (is_place r) b ≡ fine → (n : ℕ) (l : List ℕ)
      → run_on t b n l ≡ outcome r (run (recipes r) n (room_of l) (read_block b)) l
  unfolding run_on open_on
  run_is b g n l = rw (h, g) refl

  derives : (b : List ℕ) → Fit r (read_block b) → (n : ℕ) (l : List ℕ)
      → Derives t b (outcome r (run (recipes r) n (room_of l) (read_block b)) l)
  unfolding outcome DerivesP
  derives b f n l =
      let c = read_block b in
      let u = run (recipes r) n (room_of l) c in
      let d = last (recipes r) u in
      let fit = run_fits r w n (room_of l) c f in
      let left : read_block (write_block d) ≡ d = read-write r d fit in
      let whole = derivation r w n (room_of l) c (placed r w c f) in
      let tie = follows limits r w d (placed r w d fit) in
      record {
        log = log (recipes r) u;
        logged = written_is r u l;
        derivation = rw left whole;
        in_the_paper = rw left (free whole);
        only = λ log' d' v. rw left (one-derivation v (free whole));
        finished = rw left (Iff.trans (says-finished r w n (room_of l) c) tie.ends);
        stuck = rw left (Iff.trans (says-stuck r w n (room_of l) c) tie.jams);
        novalue =
            rw left (Iff.trans (says-novalue r w n (room_of l) c) (Iff.and Iff.rfl (lacks r w d (placed r w d fit))));
      }

  pub paper_rules : PaperRules t
  paper_rules = record {
    stands = place_rest r w;
    starts = at_start r w;
    steps = λ full c p. follows full r w c p;
    runs = λ b bb g n l. subst (Derives t b) (sym (run_is b g n l)) (derives b (fit_read r b bb g) n l);
    new_id = λ b bb g. new_id r w (read_block b) (fit_read r b bb g);
    no_id_zero = λ b bb g. no_id_zero r w (read_block b) (fit_read r b bb g);
  }
