-- What it is to put a text into a buffer.
-- Assumes nothing.
use Rattle.std.specs.Prelude.{ℕ, ◌+◌, ◌≤◌, ◌≡◌, List, length}
use Rattle.std.proofs.lemmas.List.Edits.{sets}

-- the text stands in the buffer from index at on, the other bytes are as they were, and next is the index behind it
pub record Puts (buffer : List ℕ) (at : ℕ) (text : List ℕ) (next : ℕ) (after : List ℕ) : Type 0 where
  pub ends : next ≡ at + length text
  pub inside : next ≤ length buffer
  pub holds : after ≡ sets buffer at text
