-- The laws that a task language keeps for demand 3 to hold of it, and readiness by its test.
-- Assumes nothing.
use Prim.Native.Nat.{ℕ, ◌≤◌, ◌<◌}
use mathlib.Core.Path.{◌≡◌, refl}
use mathlib.Core.Bool.{true, false, true≢false, false≢true}
use mathlib.Core.List.{List}
use lib.IntN.{ℤ}
use Rattle.rules.specs.Scheduler.{Readiness, ready, waits_for, at_guard, is_ready, no_number, Rules, Stay, on, back, over, Act, halts, does, count, Config, try_of, turn_of}

-- a task keeps its number
abbrev pub Keeps : (R : Rules) → R.Task → Stay R.Task → Type 0
Keeps R t (on t') = R.num t' ≡ R.num t
Keeps R t (back t') = R.num t' ≡ R.num t
Keeps R t over = Unit {0}

-- and spawned tasks get numbers never issued
pub record Sound (R : Rules) (s : R.Store) (t : R.Task) (s' : R.Store) (new : List R.Task) (y : Stay R.Task) : Type 0 where
  pub keeps : Keeps R t y
  pub grows : R.issued s ≤ R.issued s'
  pub once : (i : ℕ) → count R i new ≤ 1
  pub fresh : (i : ℕ) → i ≤ R.issued s → count R i new ≡ 0
  pub within : (i : ℕ) → R.issued s' < i → count R i new ≡ 0

abbrev pub SoundAct : (R : Rules) → R.Store → R.Task → Act R.Store R.Task R.Event → Type 0
SoundAct R s t (halts k) = Unit {0}
SoundAct R s t (does s' new y x) = Sound R s t s' new y

pub record Lawful (R : Rules) : Type 0 where
  pub up-num : (t : R.Task) → R.num (R.up t) ≡ R.num t
  pub acts : (s : R.Store) (q : List R.Task) (t : R.Task) → SoundAct R s t (R.act s q t)

pub ready_when : (w : Readiness) → is_ready w ≡ true → w ≡ ready
ready_when ready h = refl
ready_when (waits_for z) h = absurd (false≢true h)
ready_when at_guard h = absurd (false≢true h)

-- the try of a task that waits turns it, whatever it waits for
pub turns_when : (R : Rules) (w : Readiness) → is_ready w ≡ false → (c : Config R) (t : R.Task) (q : List R.Task) → (z : ℤ) × (try_of R w c t q ≡ turn_of R z c t q)
turns_when R ready h c t q = absurd (true≢false h)
turns_when R (waits_for z) h c t q = (z, refl)
turns_when R at_guard h c t q = (no_number, refl)
