-- What an array made by calls holds.
-- Assumes nothing.
use Prim.Native.Nat.{ℕ, zero, suc, ◌+◌, ◌≤◌, ◌<◌}
use mathlib.Core.Path.{◌≡◌, sym, ◌∙◌}
use mathlib.Core.Logic.{⊎_elim}
use mathlib.Core.List.{List}
use native.Mathlib.Nat.{eq-or-lt_of_le}
use native.Mathlib.Omega.{arith}
use lib.ListN.{get_or}
use denote.Param.Members.{Mut, Called}
use Rattle.std.specs.Array.{IsFromFnResult, IsFromFnResultFrom}
use Rattle.rules.specs.State.{tab}
use Rattle.rules.proofs.Lists.{tab-is}

-- calls of a closure that keeps what it stands on give value i at each index i
module _ {F B : Type 0} (g : Mut F (ℕ × Unit {0}) B) (Keeps : F → Type 0) (value : ℕ → B)
    (call : (p q : F) (i : ℕ) (y : B) → Keeps p → Called g p (i, tt) y q → (value i ≡ y) × Keeps q) where
  element : (f : F) (ys : List B) (i n : ℕ) → Keeps f → IsFromFnResultFrom g f ys i n → (k : ℕ) (d : B) → i ≤ k → k < i + n → value k ≡ get_or ys k d
  element f ys i zero s e k d l m = absurd (omega arith)
  element f ys i (suc n) s (q, y, at, called, rest) k d l m =
      let here = call f q i y s called in
      ⊎_elim
      (λ e. rw (← e) (here.0 ∙ sym (at.1 d)))
      (λ h. element q ys (i + 1) n here.1 rest k d (omega arith) (omega arith))
      (eq-or-lt_of_le {n = i} {m = k} l)

  pub made : (f : F) (ys : List B) (n : ℕ) (d : B) → Keeps f → IsFromFnResult g f ys n → tab n value ≡ ys
  made f ys n d s e = tab-is value ys d n e.long (λ k h. element f ys 0 n s e.each k d (omega arith) (omega arith))
