-- Tests that hold together or do not hold, and verdicts that find no fault.
-- Assumes nothing.
use Prim.Native.Nat.{ℕ}
use mathlib.Core.Path.{◌≡◌, refl, sym, ◌∙◌}
use mathlib.Core.Bool.{Bool, true, false, ◌&&◌, ◌||◌, cond, true≢false, false≢true}
use native.Mathlib.Omega.{arith}
use Rattle.rules.specs.Table.{Verdict, fine, fault, ◌else◌}

-- of two, one of which is false, the other
pub or_left : (a b : Bool) → (a || b) ≡ true → b ≡ false → a ≡ true
or_left true b h e = refl
or_left false b h e = absurd (true≢false (sym h ∙ e))

pub and_true : (a b : Bool) → (a && b) ≡ true → (a ≡ true) × (b ≡ true)
and_true true b h = (refl, h)
and_true false b h = absurd (false≢true h)

pub not_true : (b : Bool) → ¬ (b ≡ true) → b ≡ false
not_true true h = absurd (h refl)
not_true false h = refl

pub else_fine : (v w : Verdict) → (v else w) ≡ fine → (v ≡ fine) × (w ≡ fine)
else_fine fine w e = (refl, e)
else_fine (fault n i) w e = absurd (let z : ◌≡◌ {A = ℕ} 0 1 = cc in omega arith)

pub cond-fine : (x : Bool) (v : Verdict) (n i : ℕ) → cond x v (fault n i) ≡ fine → (x ≡ true) × (v ≡ fine)
cond-fine true v n i h = (refl, h)
cond-fine false v n i h = absurd (let z : ◌≡◌ {A = ℕ} 0 1 = cc in omega arith)
