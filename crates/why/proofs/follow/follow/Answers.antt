use Rattle.std.proofs.Common.{ℕ, suc, ◌+◌, ◌-◌, ◌<◌, ◌≡◌, Bool, true, false, List, [], ◌∷◌, ◌++◌, length, Result, Ok, refl, sym, ap, ap₂, ◌∙◌, subst, arith, length-append}
use Rattle.std.proofs.Math.Option.{some}
use Rattle.std.specs.List.{list_any}
use Rattle.std.specs.Prelude.{nat_eq}
use Rattle.rules.specs.Recipe.{Recipe}
use Rattle.rules.specs.Table.{recipe_of}
use Rattle.rules.specs.State.{Task}
use Rattle.rules.specs.Scheduler.{Readiness, is_ready, can_go}
use Rattle.rules.specs.Steps.{recipes}
use Rattle.rules.specs.Why.{Chain, chain, among, follow}
use Rattle.state.specs.declared.State.{State}
use Rattle.state.specs.View.{entry, queue_of}
use Rattle.ready.specs.declared.Queued.{Queued}
use Rattle.ready.specs.Ready.{readiness_of, idle, Describes}
use Rattle.ready.proofs.Queue.{every_at}
use Rattle.why.specs.declared.follow.End.{End}
use Rattle.why.specs.declared.follow.End.TheVariants.{NamedEarlier}
use Rattle.why.specs.Follow.{end_of, goes_on, Holds, Following}
use Rattle.why.proofs.Naming.{among_is}
use Rattle.why.proofs.Following.{closes, leads, more_left}
use Rattle.why.proofs.follow.follow.Invariants.{start, Come}
use Rattle.why.proofs.follow.follow.Goals as goal

-- no queued task can go on
none_goes : {table : List ℕ} {s : State} → Following table s → {i : ℕ} → i < s.queue.len → can_go (recipes (recipe_of table)) (idle s) (entry s.queue i) ≡ false
unfolding queue_of
none_goes {table} {s} p {i} h = every_at (λ t. can_go (recipes (recipe_of table)) (idle s) t ≡ false) (entry s.queue) s.queue.len p.none_ready i h

-- the loop has come to the task `at`, and x is what is said of this task
module _ {table : List ℕ} {s : State} (p : Following table s) {at : ℕ} {ns : List ℕ} (come : Come table s at ns) {x : Queued} (d : Describes table s at x) where
  abbrev r : Recipe
  r = recipe_of table

  -- the task at hand, and the numbers with its own
  abbrev task : Task ℕ
  task = entry s.queue at

  abbrev named : List ℕ
  named = ns ++ task.number ∷ []

  number_is : x.task.number ≡ task.number
  number_is = ap (λ (t : Task ℕ). t.number) d.task_is

  written : {new : List ℕ} → new ≡ ns ++ x.task.number ∷ [] → named ≡ new
  written e = ap (λ (k : ℕ). ns ++ k ∷ []) (sym number_is) ∙ sym e

  -- whether it was named before
  told : {b : Bool} {l : List ℕ} → l ≡ ns → b ≡ list_any (λ y. nat_eq y x.task.number) l → b ≡ among task.number ns
  told {b} {l} e h = h ∙ among_is x.task.number l ∙ ap₂ among number_is e

  -- a chain that ends here
  ends_so : (e : End) {new : List ℕ} → new ≡ ns ++ x.task.number ∷ [] → {y : Chain} → y ≡ record { numbers = new; end = end_of e }
      → start table s ≡ chain named (end_of e) → start table s ≡ some y
  ends_so e is made h = h ∙ ap (λ (l : List ℕ). chain l (end_of e)) (written is) ∙ ap some (sym made)

  ends_again : {new : List ℕ} → new ≡ ns ++ x.task.number ∷ [] → {y : Chain} → y ≡ record { numbers = new; end = end_of NamedEarlier }
      → among task.number ns ≡ true → start table s ≡ some y
  ends_again is made h = ends_so NamedEarlier is made (closes r (idle s) (length ns) s.queue.len ns task come.few (start table s) come.left h)

  -- it was not named before: what follows behind it
  behind_it : among task.number ns ≡ false → {h : Result ℕ End} → Holds s.queue (readiness_of x.wait) h
      → start table s ≡ goes_on s.queue (λ u. follow (recipes r) (s.queue.len - length ns) (idle s) named u) named h
  behind_it new {h} held =
      leads r (idle s) (length ns) s.queue.len ns task come.few (start table s) come.left s.queue h new refl
      (subst (λ (v : Readiness). Holds s.queue v h) d.wait_is held)

  -- it goes on with a queued task
  further : {new : List ℕ} → new ≡ ns ++ x.task.number ∷ [] → among task.number ns ≡ false → {i : ℕ} → Holds s.queue (readiness_of x.wait) (Ok i) → Come table s i new
  further {new} is fresh {i} held =
      let t = entry s.queue i in
      let on = behind_it fresh held in
      let more = more_left r (idle s) (length ns) s.queue.len named t p.found come.few (sym on ∙ p.is_found) in
      let long : length new ≡ length ns + 1 = ap length is ∙ length-append ns (x.task.number ∷ []) in
      let left : suc s.queue.len - length new ≡ s.queue.len - length ns = omega arith in
      record {
        queued = held.within;
        few = omega arith;
        left = ap₂ (λ (k : ℕ) (l : List ℕ). follow (recipes r) k (idle s) l t) left (sym (written is)) ∙ sym on;
      }

pub waiting_at-x-requires : goal.waiting_at-x-requires
waiting_at-x-requires c = (c.requires.waiting, c.loop-x.invariant.queued, none_goes c.requires c.loop-x.invariant.queued)

pub returns-then-earlier-clause-follows : goal.returns-then-earlier-clause-follows
returns-then-earlier-clause-follows c =
    let x = c.waiting_at-x.ensures in
    let come = c.loop-x.invariant in
    ends_again c.requires come x (c.deref-then-earlier.ensures.0 ∙ c.push.ensures.items) c.of.ensures.is (sym (told c.requires come x c.deref.ensures.0 c.contains-earlier.ensures.value) ∙ c.if-earlier.true)

pub held_by-requires : goal.held_by-requires
held_by-requires c = ap is_ready c.waiting_at-x.ensures.wait_is ∙ none_goes c.requires c.loop-x.invariant.queued

pub loop-x-preserved : goal.loop-x-preserved
loop-x-preserved c =
    let x = c.waiting_at-x.ensures in
    let come = c.loop-x.invariant in
    further c.requires come x c.push.ensures.items (sym (told c.requires come x c.deref.ensures.0 c.contains-earlier.ensures.value) ∙ c.if-earlier.false) c.in-Ok.ensures

pub returns-in-Err-clause-follows : goal.returns-in-Err-clause-follows
returns-in-Err-clause-follows c =
    let x = c.waiting_at-x.ensures in
    let come = c.loop-x.invariant in
    ends_so c.requires come x c.in-Err.end (c.deref-in-Err.ensures.0 ∙ c.push.ensures.items) c.of-in-Err.ensures.is
    (behind_it c.requires come x (sym (told c.requires come x c.deref.ensures.0 c.contains-earlier.ensures.value) ∙ c.if-earlier.false) c.in-Err.ensures)
