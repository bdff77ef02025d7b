-- Numbers in bytes. "Numbers are decimal; fields of several bytes are little-endian"; a value is "signed, two's complement".
-- A byte is a number below 256, a buffer the list of its bytes.
-- Assumes nothing.
use Rattle.std.specs.Prelude.{ℕ, suc, ◌+◌, ◌-◌, ◌*◌, ◌/◌, ◌%◌, cond, List, [], ◌∷◌, ltb, ℤ, pos, negsuc, get_or}

-- the number in the two bytes from index a of a buffer
abbrev pub half : List ℕ → ℕ → ℕ
half b a = get_or b a 0 + 256 * get_or b (a + 1) 0

-- the number in the four bytes from index a
abbrev pub word : List ℕ → ℕ → ℕ
word b a = get_or b a 0 + 256 * get_or b (a + 1) 0 + 65536 * get_or b (a + 2) 0 + 16777216 * get_or b (a + 3) 0

-- the value that 32 bits spell in two's complement, and the bits that spell a value (negsuc n is the number -1 - n)
abbrev pub signed : ℕ → ℤ
signed w = cond (ltb w 2147483648) (pos w) (negsuc (4294967296 - suc w))

abbrev pub bits : ℤ → ℕ
bits (pos n) = n
bits (negsuc n) = 4294967296 - suc n

-- the bytes of a number
abbrev pub bytes2 : ℕ → List ℕ
bytes2 n = n % 256 ∷ n / 256 ∷ []

abbrev pub bytes4 : ℕ → List ℕ
bytes4 w = w % 256 ∷ w / 256 % 256 ∷ w / 65536 % 256 ∷ w / 16777216 ∷ []
