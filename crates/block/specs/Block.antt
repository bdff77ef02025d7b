-- The parts of a state block: the offsets of its records, its tasks, and their bytes.
-- Assumes nothing.
use Rattle.std.specs.Prelude.{ℕ, ◌+◌, ◌*◌, ◌≡◌, List, [], ◌∷◌, ◌++◌, ℤ, pos, get_or, replicate}
use Rattle.rules.specs.Fields.{half, word, signed, bits, bytes2, bytes4}
use Rattle.rules.specs.State.{Task, joined, task_row}
use Rattle.state.specs.declared.Queue.{Queue}
use Rattle.state.specs.View.{entry}

-- Request 2.3: "Show that at each record the offset is 8 times the record's index." The walks over the task records, which add 8 to the
-- offset `at` for each record, keep this at each record i that they come to.
abbrev pub OffsetOf : (i at : ℕ) → Type 0
OffsetOf i at = at ≡ 8 * i

-- the task in the 16 bytes from index a
abbrev pub task_from : List ℕ → ℕ → Task ℕ
task_from b a = record {
  number = half b a;
  place = half b (a + 2);
  parameter = signed (word b (a + 4));
  history = record { spawner = half b (a + 8); taken_up = word b (a + 12) };
}

-- the bytes of the first n tasks of a queue, of the unused records of n tasks, and of the variables
abbrev pub ring_rows : Queue → (n : ℕ) → List ℕ
ring_rows q n = joined n (λ i. task_row (entry q i))

abbrev pub unused_rows : (n : ℕ) → List ℕ
unused_rows n = replicate (16 * n) 0

abbrev pub value_rows : List ℤ → List ℕ
value_rows vs = joined 64 (λ j. bytes4 (bits (get_or vs j (pos 0))))

-- record 0
unfoldable pub head_of : (issued live active : ℕ) → List ℕ
head_of n l a = bytes2 n ++ l ∷ a ∷ 0 ∷ 0 ∷ 0 ∷ 0 ∷ []
