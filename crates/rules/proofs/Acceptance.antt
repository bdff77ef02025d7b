-- Every row of the trial press's table holds, the published list, which numbers are done, and what the witness counts to, computed by the definitions.
-- (They need no law, so that a definition that is wrong fails here before any lemma about it.)
-- Assumes nothing.
use Prim.Native.Nat.{ℕ}
use mathlib.Core.Path.{◌≡◌, refl, ap}
use mathlib.Core.Bool.{Bool, true, false, true≢false}
use mathlib.Core.Option.{none, some}
use mathlib.Core.List.{[]}
use native.Mathlib.Omega.{arith}
use Rattle.rules.specs.State.{State}
use Rattle.rules.specs.Scheduler.{Next, finish, jam, bar, goes}
use Rattle.rules.specs.Steps.{is_done}
use Rattle.rules.specs.Answers.{refuses, published}
use Rattle.rules.specs.Demand.{logs_written}
use Rattle.rules.specs.Optional.{Done}
use Rattle.rules.specs.Why as W
use Rattle.rules.specs.Batch as B
use Rattle.rules.specs.Trial.{rows, start_rows, why_rows, batch_rows, outcome_of, all_pass, all_start, all_why, all_batch, refusals, returned, why_returned, batch_returned, those}
use Rattle.rules.specs.Witness.{rules, moments, Counts, NoChain, NoHistory}
use Rattle.rules.proofs.Computed.{meaning}

pub rows_hold : all_pass rows ≡ true
unfolding meaning outcome_of all_pass
rows_hold = refl

pub start_rows_hold : all_start start_rows ≡ true
unfolding meaning all_start
start_rows_hold = refl

pub why_rows_hold : all_why why_rows ≡ true
unfolding meaning all_why
why_rows_hold = refl

pub batch_rows_hold : all_batch batch_rows ≡ true
unfolding meaning all_batch
batch_rows_hold = refl

-- the published list, number by number
pub published_are : those published 256 ≡ returned
published_are = refl

pub refusals_are : those refuses 256 ≡ refusals
refusals_are = refl

pub why_published_are : those W.published 256 ≡ why_returned
why_published_are = refl

pub batch_published_are : those B.published 256 ≡ batch_returned
batch_published_are = refl

pub witness_counts : Counts
unfolding meaning moments
witness_counts = record {
  left = refl;
  bursts = refl;
  given_out_holds = refl;
  often = refl;
  taken_up = refl;
  spawned_it = refl;
  spawned_none = refl;
  ended = refl;
  in_turn = refl;
  put_back = refl;
  try_of_holds = refl {a = 1};
  no_try = refl {a = 0};
  next_try = refl {a = 1};
  picks = refl;
  turned = refl;
}

pub done_are : Done
unfolding is_done
done_are = record { none_issued = refl; one_issued = refl; three_issued = refl }

-- a step with an event comes next
tells : Next rules → Bool
tells finish = false
tells jam = false
tells (bar k) = false
tells (goes none c) = false
tells (goes (some x) c) = true

pub no_chain_lem : NoChain
unfolding meaning tells
no_chain_lem = record {
  elsewhere = λ e. let z : ◌≡◌ {A = ℕ} 1 3 = ap (λ (c : State). c.store.issued) e in omega arith;
  another = λ c h. true≢false (ap tells h.1.1);
}

pub no_history_lem : NoHistory
unfolding meaning logs_written
no_history_lem = record {
  unnamed = λ e. omega arith;
  another = λ e. omega arith;
  twice = λ s e. e;
  active_counted = λ h. let e : 1 ≡ 0 = (h.told [] refl).0.count in omega arith;
  queued_counted = λ h. let e : 1 ≡ 0 = (h.told [] refl).0.count in omega arith;
  active_spawned = λ h. let e : 1 ≡ 0 = (h.told [] refl).0.starter in omega arith;
  queued_spawned = λ h. let e : 1 ≡ 0 = (h.told [] refl).0.starter in omega arith;
}
