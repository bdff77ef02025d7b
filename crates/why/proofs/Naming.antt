-- Numbers: the one that a value is, and those named so far.
-- Assumes nothing.
use Prim.Native.Nat.{ℕ, ◌+◌, ◌*◌, ◌≤◌, ◌<◌}
use mathlib.Core.Path.{◌≡◌, refl, sym, ap, ap₂, ◌∙◌}
use mathlib.Core.Bool.{false}
use mathlib.Core.List.{List, [], ◌∷◌, ◌++◌}
use mathlib.Core.Logic.{dite}
use native.Mathlib.Decide.{ℕ_discrete}
use native.Mathlib.Omega.{arith}
use native.Mathlib.Nat.{zero-add}
use native.Mathlib.Numerals.{add-one}
use lib.Dec.{eqb}
use lib.IntN.{ℤ, pos, negsuc}
use lib.ListN.{length, get_or, take, drop, length-append, length-drop}
use lib.Seq.{take-suc, take_at, length-take-le, drop-append-add, drop-drop, sets, sets-eq}
use borrow.Author.Tests.{lt-ltb, eq-eqb, ne_eqb}
use Rattle.std.specs.Prelude.{None, Some, nat_eq}
use Rattle.std.specs.List.{list_any}
use Rattle.rules.specs.Fields.{bytes2}
use Rattle.rules.specs.Why.{among, is_number, halves}
use Rattle.rules.proofs.Why.{halves-length}
use Rattle.ready.specs.Ready.{natural}

-- ---- the number that a value is

-- a value that is no number
pub no_number : (z : ℤ) (n : ℕ) → natural z ≡ None → is_number z n ≡ false
no_number (pos m) n h = cc
no_number (negsuc m) n h = refl

pub number_is : (z : ℤ) (m n : ℕ) → natural z ≡ Some m → is_number z n ≡ eqb m n
number_is (pos k) m n h = let e : k ≡ m = cc in rw e refl
number_is (negsuc k) m n h = cc

-- ---- the numbers named so far

pub among_is : (n : ℕ) (ns : List ℕ) → list_any (λ y. nat_eq y n) ns ≡ among n ns
among_is n [] = refl
among_is n (x ∷ ns) =
    dite (ℕ_discrete x n)
    (λ e. rw (eq-eqb x n e, eq-eqb n x (sym e)) (sym (lt-ltb 0 _ (omega arith))))
    (λ h. rw (ne_eqb x n h, ne_eqb n x (λ e. h (sym e)), zero-add) (among_is n ns))

-- ---- their bytes

pub halves_more : (ns : List ℕ) (n : ℕ) → halves (ns ++ n ∷ []) ≡ halves ns ++ bytes2 n
unfolding halves
halves_more [] n = refl
halves_more (m ∷ ns) n = ap (λ (l : List ℕ). bytes2 m ++ l) (halves_more ns n)

-- one number more, stored behind those written
pub numbers_more : (o ns q : List ℕ) (i : ℕ) → i < length ns → 2 * i + 2 ≤ length o → q ≡ halves (take i ns) ++ drop (2 * i) o
    → sets q (2 * i) (bytes2 (get_or ns i 0)) ≡ halves (take (i + 1) ns) ++ drop (2 * (i + 1)) o
numbers_more o ns q i h g e =
    let n = get_or ns i 0 in
    let l = halves (take i ns) in
    let d = drop (2 * i) o in
    let k : length l ≡ 2 * i = halves-length (take i ns) ∙ ap (λ (j : ℕ). 2 * j) (length-take-le i ns (omega arith)) in
    let room : 2 * i + 2 ≤ length (l ++ d) = omega (arith, length-append l d, length-drop (2 * i) o) in
    let next : 2 * i + 2 ≡ 2 * (i + 1) = omega arith in
    let behind : drop (2 * i + 2) (l ++ d) ≡ drop (2 * (i + 1)) o =
    ap (λ (j : ℕ). drop (j + 2) (l ++ d)) (sym k) ∙ drop-append-add l d 2 ∙ drop-drop 2 (2 * i) o ∙ ap (λ (j : ℕ). drop j o) next in
    let stored : sets (l ++ d) (2 * i) (bytes2 n) ≡ l ++ bytes2 n ++ drop (2 * (i + 1)) o =
    sets-eq (bytes2 n) (l ++ d) (2 * i) room ∙ ap₂ (λ (x y : List ℕ). x ++ bytes2 n ++ y) (take_at l d (2 * i) k) behind in
    rw e (stored ∙ ap (λ (x : List ℕ). x ++ drop (2 * (i + 1)) o) (sym (halves_more (take i ns) n) ∙ ap halves (sym (take-suc ns i 0 h) ∙ ap (λ (j : ℕ). take j ns) (sym (add-one i)))))
