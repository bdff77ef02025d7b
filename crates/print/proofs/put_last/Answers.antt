use Prim.Native.Nat.{ℕ, ◌+◌, ◌≤◌, ◌<◌}
use mathlib.Core.List.{◌++◌}
use native.Mathlib.Omega.{arith}
use lib.ListN.{length}
use Rattle.rules.specs.Print.{bytes, ending_word, spaced, ending_line}
use Rattle.text.proofs.Buffers.{then, fits, front}
use Rattle.print.proofs.Texts.{ending-line-length}
use Rattle.print.proofs.put_last.Goals as goal

-- the line fits
room : (at number steps : ℕ) {n : ℕ} → steps < 4294967296 → at + 30 ≤ n
    → at + length (ending_word number ++ spaced steps ++ bytes "\n") ≤ n
unfolding ending_line
room at number steps l h = omega (arith, h, ending-line-length number steps l)

pub put_number-s-requires : goal.put_number-s-requires
put_number-s-requires c =
    let a = c.args in
    let all = room a.at a.number a.steps (omega arith) c.requires in
    fits c.put_ending-n.ensures (spaced a.steps) (front a.at (ending_word a.number ++ spaced a.steps) (bytes "\n") all)

pub put_word-requires : goal.put_word-requires
put_word-requires c =
    let a = c.args in
    let all = room a.at a.number a.steps (omega arith) c.requires in
    fits (then c.put_ending-n.ensures c.put_number-s.ensures) (bytes "\n") all

pub returns : goal.returns
unfolding ending_line
returns c = then (then c.put_ending-n.ensures c.put_number-s.ensures) c.put_word.ensures
