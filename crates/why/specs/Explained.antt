-- What why_stuck promises: an equation with the definition, for answer and output; and a chain behind every call of run that ended in "stuck".
-- Assumes nothing.
use Rattle.std.specs.Prelude.{ℕ, ◌≡◌, List, length}
use Rattle.rules.specs.Demand.{Bytes}
use Rattle.rules.specs.Run.{run_on}
use Rattle.rules.specs.Why as W
use Rattle.why.specs.declared.Explained.{Explained}

abbrev pub explained_of : Explained → (output : List ℕ) → W.Explained
explained_of r l = record { number = r.number; count = r.count; end = r.end; place = r.place; output = l }

-- where the block b is what a call of run on some block left, and that call returned 2 ("stuck"), there is a chain: the answer is 0
abbrev pub AfterStuck : (table block output : List ℕ) → Explained → Type 0
AfterStuck t b l r = (before : List ℕ) → Bytes before → (budget : ℕ) (log : List ℕ) → (run_on t before budget log).number ≡ 2 → (run_on t before budget log).block ≡ b
    → length l ≡ 66 → r.number ≡ 0
