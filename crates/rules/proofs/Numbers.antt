-- Fields of several bytes and values in two's complement, written and read back.
-- Assumes nothing.
use Prim.Native.Nat.{ℕ, suc, ◌+◌, ◌-◌, ◌*◌, ◌/◌, ◌%◌, ◌≤◌, ◌<◌}
use mathlib.Core.Path.{◌≡◌, ap}
use mathlib.Core.Bool.{true}
use mathlib.Core.List.{List}
use mathlib.Core.Logic.{dite}
use native.Mathlib.Decide.{dec_lt}
use native.Mathlib.Omega.{arith}
use native.Mathlib.Numerals.{add-one, add-two, add-three}
use lib.Dec.{leb}
use lib.IntN.{ℤ, pos, negsuc}
use lib.ListN.{length, get_or, take, drop}
use lib.Signed.{mag}
use borrow.Author.Tests.{lt-ltb, le-ltb, le-leb, leb-true}
use Rattle.rules.specs.Fields.{half, word, signed, bits, bytes2, bytes4}
use Rattle.rules.specs.Values.{in_range}
use Rattle.rules.specs.Fairness.{Every}
use Rattle.rules.specs.Demand.{Bytes}
use Rattle.rules.proofs.Lists.{every-get_or, take_cells, get_or-part}
use Rattle.rules.proofs.Verdicts.{and_true}

-- ---- values

-- mag z is n both for n and for -1 - n
pub range_mag : (z : ℤ) → in_range z ≡ true → mag z < 2147483648
range_mag (pos n) h = omega (arith, leb-true n 2147483647 h)
range_mag (negsuc n) h = omega (arith, leb-true n 2147483647 (and_true (leb n 2147483647) true h).0)

pub mag_range : (z : ℤ) → mag z < 2147483648 → in_range z ≡ true
mag_range (pos n) h = le-leb n 2147483647 (omega arith)
mag_range (negsuc n) h = rw (le-leb n 2147483647 (omega arith))

pub bits_below : (z : ℤ) → in_range z ≡ true → bits z < 4294967296
bits_below (pos n) h = omega (arith, range_mag (pos n) h)
bits_below (negsuc n) h = omega arith

pub signed-bits : (z : ℤ) → in_range z ≡ true → signed (bits z) ≡ z
signed-bits (pos n) h = rw (lt-ltb n 2147483648 (range_mag (pos n) h))
signed-bits (negsuc n) h =
    let g = range_mag (negsuc n) h in
    rw (le-ltb (4294967296 - suc n) 2147483648 (omega arith)) (ap negsuc (omega arith))

module _ (w : ℕ) (h : w < 4294967296) where
  pub bits-signed : bits (signed w) ≡ w
  bits-signed = dite (dec_lt w 2147483648) (λ l. rw (lt-ltb w 2147483648 l)) (λ g. rw (le-ltb w 2147483648 (omega arith)) (omega arith))

  pub signed_range : in_range (signed w) ≡ true
  signed_range =
      dite (dec_lt w 2147483648)
      (λ l. rw (lt-ltb w 2147483648 l) (mag_range (pos w) l))
      (λ g. rw (le-ltb w 2147483648 (omega arith)) (mag_range (negsuc (4294967296 - suc w)) (omega arith)))

-- ---- bytes

pub half-bytes2 : (n : ℕ) → half (bytes2 n) 0 ≡ n
half-bytes2 n = omega arith

pub word-bytes4 : (w : ℕ) → word (bytes4 w) 0 ≡ w
word-bytes4 w = omega arith

-- the number at index j, which is r in the k bytes from a: it is read from its own bytes alone
module _ (b : List ℕ) (a k r j : ℕ) (e : j ≡ a + r) where
  pub half-within : r + 2 ≤ k → half (take k (drop a b)) r ≡ half b j
  half-within h = rw (get_or-part b a k r j 0 (omega arith) e, get_or-part b a k (r + 1) (j + 1) 0 (omega arith) (omega arith))

  pub word-within : r + 4 ≤ k → word (take k (drop a b)) r ≡ word b j
  word-within h =
      rw (
        get_or-part b a k r j 0 (omega arith) e,
        get_or-part b a k (r + 1) (j + 1) 0 (omega arith) (omega arith),
        get_or-part b a k (r + 2) (j + 2) 0 (omega arith) (omega arith),
        get_or-part b a k (r + 3) (j + 3) 0 (omega arith) (omega arith),
      )

module _ (b : List ℕ) (bytes : Bytes b) (a : ℕ) where
  pub half-below : half b a < 65536
  half-below = omega (arith, bytes a, bytes (a + 1))

  pub word_below : word b a < 4294967296
  word_below = omega (arith, bytes a, bytes (a + 1), bytes (a + 2), bytes (a + 3))

  pub bytes2-half : a + 2 ≤ length b → bytes2 (half b a) ≡ take 2 (drop a b)
  bytes2-half h =
      let x = bytes a in
      let y = bytes (a + 1) in
      let p : half b a % 256 ≡ get_or b a 0 = omega arith in
      let q : half b a / 256 ≡ get_or b (a + 1) 0 = omega arith in
      rw (p, q, take_cells 2 a b h, add-one)

  pub bytes4-word : a + 4 ≤ length b → bytes4 (word b a) ≡ take 4 (drop a b)
  bytes4-word k =
      let x = bytes a in
      let y = bytes (a + 1) in
      let z = bytes (a + 2) in
      let w = bytes (a + 3) in
      let e : word b a % 256 ≡ get_or b a 0 = omega arith in
      let p : word b a / 256 ≡ get_or b (a + 1) 0 + 256 * (get_or b (a + 2) 0 + 256 * get_or b (a + 3) 0) = omega arith in
      let q : word b a / 65536 ≡ get_or b (a + 2) 0 + 256 * get_or b (a + 3) 0 = omega arith in
      let f : word b a / 256 % 256 ≡ get_or b (a + 1) 0 = rw p (omega arith) in
      let g : word b a / 65536 % 256 ≡ get_or b (a + 2) 0 = rw q (omega arith) in
      let h : word b a / 16777216 ≡ get_or b (a + 3) 0 = omega arith in
      rw (e, f, g, h, take_cells 4 a b k, add-one, add-two, add-three)

-- ---- buffers

abbrev pub Byte : ℕ → Type 0
Byte x = x < 256

pub every-bytes : (b : List ℕ) → Every Byte b → Bytes b
every-bytes b h i = every-get_or Byte 0 b h i (λ l. omega arith)

pub bytes2_fit : (n : ℕ) → n < 65536 → Every Byte (bytes2 n)
bytes2_fit n h = omega arith

pub bytes4_fit : (w : ℕ) → w < 4294967296 → Every Byte (bytes4 w)
bytes4_fit w h = omega arith
