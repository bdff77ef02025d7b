-- What it is to count bytes of a buffer.
-- Assumes nothing.
use Rattle.std.specs.Prelude.{ℕ, ◌≤◌, ◌≡◌, List, length, take}

-- n bytes at the start of a buffer. (The second part follows from the first: `&out[..n]` asks for both.)
abbrev pub Counts : ℕ → List ℕ → Type 0
Counts n b = (n ≤ length b) × (n ≡ length (take n b))
