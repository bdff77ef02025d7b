-- What a batch is answered by: the number of the published list.
-- Assumes nothing.
use Rattle.std.specs.Prelude.{ℕ, Result, Ok, Err}
use Rattle.batch.specs.declared.NoBatch.{NoBatch}

abbrev pub batch_number : Result (Unit {0}) NoBatch → ℕ
batch_number (Ok x) = 0
batch_number (Err e) = 26
