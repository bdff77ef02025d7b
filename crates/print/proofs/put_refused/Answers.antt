use Prim.Native.Nat.{ℕ, ◌+◌, ◌≤◌, ◌<◌}
use mathlib.Core.List.{◌++◌}
use native.Mathlib.Omega.{arith}
use lib.ListN.{length}
use Rattle.rules.specs.Print.{bytes, spaced, refused_line}
use Rattle.text.proofs.Buffers.{then, fits, front}
use Rattle.print.proofs.Texts.{refused-line-length}
use Rattle.print.proofs.put_refused.Goals as goal

-- the line fits
room : (at number place : ℕ) {n : ℕ} → number < 4294967296 → place < 4294967296 → at + 30 ≤ n
    → at + length (bytes "refused" ++ spaced number ++ spaced place ++ bytes "\n") ≤ n
unfolding refused_line
room at number place l m h = omega (arith, h, refused-line-length number place l m)

pub put_number-n-requires : goal.put_number-n-requires
put_number-n-requires c =
    let a = c.args in
    let all = room a.at a.number a.place (omega arith) (omega arith) c.requires in
    let two = front a.at (bytes "refused" ++ spaced a.number ++ spaced a.place) (bytes "\n") all in
    fits c.put_word-w.ensures (spaced a.number) (front a.at (bytes "refused" ++ spaced a.number) (spaced a.place) two)

pub put_number-i-requires : goal.put_number-i-requires
put_number-i-requires c =
    let a = c.args in
    let all = room a.at a.number a.place (omega arith) (omega arith) c.requires in
    fits (then c.put_word-w.ensures c.put_number-n.ensures) (spaced a.place)
    (front a.at (bytes "refused" ++ spaced a.number ++ spaced a.place) (bytes "\n") all)

pub put_word-requires : goal.put_word-requires
put_word-requires c =
    let a = c.args in
    let all = room a.at a.number a.place (omega arith) (omega arith) c.requires in
    fits (then (then c.put_word-w.ensures c.put_number-n.ensures) c.put_number-i.ensures) (bytes "\n") all

pub returns : goal.returns
unfolding refused_line
returns c =
    then
    (then (then c.put_word-w.ensures c.put_number-n.ensures) c.put_number-i.ensures)
    c.put_word.ensures
