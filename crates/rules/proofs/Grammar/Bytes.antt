-- The table of a recipe within the limits is bytes.
-- Assumes nothing.
use Prim.Native.Nat.{ℕ, ◌+◌, ◌≤◌, ◌<◌}
use mathlib.Core.Path.{◌≡◌, refl}
use mathlib.Core.Bool.{true}
use mathlib.Core.List.{List, [], ◌∷◌, ◌++◌}
use native.Mathlib.Omega.{arith}
use lib.IntN.{ℤ, pos}
use lib.ListN.{length}
use Rattle.rules.specs.Fields.{bits, bytes2, bytes4}
use Rattle.rules.specs.Values.{in_range}
use Rattle.rules.specs.Recipe.{Expr, constant, variable, two, one, Stmt, skip, assign, if, while, spawn, suspend, await, guard, Body, fin, ◌▸◌, Recipe, size_e, size_s, size_b, size_r, row, encode_e, encode_s, encode_b, encode, NamedE, NamedS, NamedB, WithinR, Within}
use Rattle.rules.specs.Fairness.{Every}
use Rattle.rules.specs.Demand.{Bytes}
use Rattle.rules.proofs.Grammar.Reading.{number-value}
use Rattle.rules.proofs.Lists.{every_append}
use Rattle.rules.proofs.Numbers.{bits_below, Byte, every-bytes, bytes2_fit, bytes4_fit}

-- a record whose fields fit, and the bytes behind it
row-bytes : (k n s : ℕ) (z : ℤ) (q : List ℕ) → k < 256 → n < 256 → s < 65536 → in_range z ≡ true → Every Byte q → Every Byte (row k n s z ++ q)
row-bytes k n s z q hk hn hs hz h =
    every_append Byte (row k n s z) q (hk, (hn, every_append Byte (bytes2 s) (bytes4 (bits z)) (bytes2_fit s hs) (bytes4_fit (bits z) (bits_below z hz)))) h

zero-fits : in_range (pos 0) ≡ true
zero-fits = refl

-- one part, then another
both : (p q : List ℕ) → Every Byte p → Every Byte q → Every Byte (p ++ q)
both = every_append Byte

bytes_e : (e : Expr) → NamedE e → size_e e ≤ 4096 → Every Byte (encode_e e)
unfolding size_e encode_e NamedE
bytes_e (constant z) w h = row-bytes 9 0 0 z [] (omega arith) (omega arith) (omega arith) w tt
bytes_e (variable n) w h = row-bytes 10 n 0 (pos 0) [] (omega arith) (omega arith) (omega arith) zero-fits tt
bytes_e (two o a b) w h =
    row-bytes 11 o (size_e a + size_e b) (pos 0) (encode_e a ++ encode_e b) (omega arith) (omega (arith, w.0)) (omega arith) zero-fits
    (both (encode_e a) (encode_e b) (bytes_e a w.1 (omega arith)) (bytes_e b w.2 (omega arith)))
bytes_e (one o a) w h = row-bytes 12 o (size_e a) (pos 0) (encode_e a) (omega arith) (omega (arith, w.0)) (omega arith) zero-fits (bytes_e a w.1 (omega arith))

-- a test with its body
bytes_t : (k : ℕ) (e : Expr) (b : Body) → k < 256 → NamedE e → size_e e + size_b b ≤ 4096 → Every Byte (encode_b b)
    → Every Byte (row k 0 (size_e e + size_b b) (pos 0) ++ (encode_e e ++ encode_b b))
bytes_t k e b l w h g =
    row-bytes k 0 (size_e e + size_b b) (pos 0) (encode_e e ++ encode_b b) l (omega arith) (omega arith) zero-fits (both (encode_e e) (encode_b b) (bytes_e e w (omega arith)) g)

mutual
  unfolding size_s encode_s size_b encode_b NamedS NamedB

  bytes_s : (n : ℕ) (s : Stmt) (w : NamedS n s) (h : size_s s ≤ 4096) → Every Byte (encode_s s)
  bytes_s n skip w h = row-bytes 2 0 0 (pos 0) [] (omega arith) (omega arith) (omega arith) zero-fits tt
  bytes_s n (assign v e) w h = row-bytes 3 v (size_e e) (pos 0) (encode_e e) (omega arith) (omega (arith, w.0)) (omega arith) zero-fits (bytes_e e w.1 (omega arith))
  bytes_s n (if e b) w h = bytes_t 4 e b (omega arith) w.0 (omega arith) (bytes_b n b w.1 (omega arith))
  bytes_s n (while e b) w h = bytes_t 5 e b (omega arith) w.0 (omega arith) (bytes_b n b w.1 (omega arith))
  bytes_s n (spawn v p e) w h =
      row-bytes 6 v (size_e e) (pos p) (encode_e e) (omega arith) (omega (arith, w.1)) (omega arith) (number-value p w.2) (bytes_e e w.4 (omega arith))
  bytes_s n suspend w h = row-bytes 7 0 0 (pos 0) [] (omega arith) (omega arith) (omega arith) zero-fits tt
  bytes_s n (await v) w h = row-bytes 8 v 0 (pos 0) [] (omega arith) (omega arith) (omega arith) zero-fits tt
  bytes_s n (guard e) w h = row-bytes 13 0 (size_e e) (pos 0) (encode_e e) (omega arith) (omega arith) (omega arith) zero-fits (bytes_e e w (omega arith))

  bytes_b : (n : ℕ) (b : Body) (w : NamedB n b) (h : size_b b ≤ 4096) → Every Byte (encode_b b)
  bytes_b n fin w h = tt
  bytes_b n (s ▸ b) w h = both (encode_s s) (encode_b b) (bytes_s n s w.0 (omega arith)) (bytes_b n b w.1 (omega arith))

bytes_r : (n : ℕ) (r : Recipe) → WithinR n r → size_r r ≤ 4096 → Every Byte (encode r)
unfolding size_r encode
bytes_r n [] w h = tt
bytes_r n (b ∷ r) w h =
    row-bytes 1 0 (size_b b) (pos 0) (encode_b b ++ encode r) (omega arith) (omega arith) (omega arith) zero-fits
    (both (encode_b b) (encode r) (bytes_b n b w.0.named (omega arith)) (bytes_r n r w.1 (omega arith)))

pub table-bytes : (r : Recipe) → Within r → Bytes (encode r)
table-bytes r w = every-bytes (encode r) (bytes_r (length r) r w.bodies w.few)
