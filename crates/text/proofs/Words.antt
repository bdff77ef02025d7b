-- The lengths of the words for kinds and endings.
-- Assumes nothing.
use Prim.Native.Nat.{ℕ, ◌≤◌}
use mathlib.Core.Bool.{Bool, true, false, cond}
use mathlib.Core.List.{List}
use native.Mathlib.Omega.{arith}
use lib.Dec.{eqb}
use lib.ListN.{length}
use Rattle.rules.specs.Print.{kind_word, ending_word}

one_of : {n : ℕ} (b : Bool) (x y : List ℕ) → length x ≤ n → length y ≤ n → length (cond b x y) ≤ n
one_of true x y h g = h
one_of false x y h g = g

pub kind-length : (k : ℕ) → length (kind_word k) ≤ 7
unfolding kind_word
kind-length k =
    one_of (eqb k 1) _ _ (omega arith)
    (one_of (eqb k 2) _ _ (omega arith)
    (one_of (eqb k 3) _ _ (omega arith)
    (one_of (eqb k 4) _ _ (omega arith) (one_of (eqb k 5) _ _ (omega arith) (one_of (eqb k 6) _ _ (omega arith) (omega arith))))))

pub ending-length : (n : ℕ) → length (ending_word n) ≤ 8
unfolding ending_word
ending-length n =
    one_of (eqb n 0) _ _ (omega arith)
    (one_of (eqb n 1) _ _ (omega arith)
    (one_of (eqb n 2) _ _ (omega arith)
    (one_of (eqb n 3) _ _ (omega arith) (one_of (eqb n 4) _ _ (omega arith) (one_of (eqb n 5) _ _ (omega arith) (omega arith))))))
