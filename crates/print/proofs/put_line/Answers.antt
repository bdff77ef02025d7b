use Prim.Native.Nat.{ℕ, ◌+◌, ◌≤◌}
use mathlib.Core.List.{◌++◌}
use native.Mathlib.Omega.{arith}
use lib.ListN.{length}
use Rattle.rules.specs.Fields.{signed}
use Rattle.rules.specs.Print.{bytes, kind_word, spaced, spaced_value, line}
use Rattle.text.proofs.Buffers.{then, fits, front}
use Rattle.print.proofs.Texts.{line-length}
use Rattle.print.proofs.put_line.Goals as goal

-- the line fits, and so does each part of it that starts it
room : (at kind task valve value : ℕ) {n : ℕ} → length (line kind task valve (signed value)) ≤ 30 → at + 30 ≤ n →
    let two = kind_word kind ++ spaced task in
    let three = two ++ spaced valve in
    let four = three ++ spaced_value (signed value) in
    (at + length two ≤ n) × (at + length three ≤ n) × (at + length four ≤ n) × (at + length (four ++ bytes "\n") ≤ n)
unfolding line
room at kind task valve value {n} l h =
    let two = kind_word kind ++ spaced task in
    let three = two ++ spaced valve in
    let four = three ++ spaced_value (signed value) in
    let all : at + length (four ++ bytes "\n") ≤ n = omega (arith, h, l) in
    let h4 = front at four (bytes "\n") all in
    let h3 = front at three (spaced_value (signed value)) h4 in
    (front at two (spaced valve) h3, h3, h4, all)

pub put_number-t-requires : goal.put_number-t-requires
put_number-t-requires c =
    let a = c.args in
    let l = line-length a.kind c.from.result a.valve a.value (omega arith) (omega arith) (omega arith) in
    fits c.put_kind-k.ensures (spaced c.from.result) (room a.at a.kind c.from.result a.valve a.value l c.requires).0

pub put_number-v-requires : goal.put_number-v-requires
put_number-v-requires c =
    let a = c.args in
    let l = line-length a.kind c.from.result c.from-2.result a.value (omega arith) (omega arith) (omega arith) in
    fits (then c.put_kind-k.ensures c.put_number-t.ensures) (spaced c.from-2.result) (room a.at a.kind c.from.result c.from-2.result a.value l c.requires).1

pub put_value-z-requires : goal.put_value-z-requires
put_value-z-requires c =
    let a = c.args in
    let l = line-length a.kind c.from.result c.from-2.result a.value (omega arith) (omega arith) (omega arith) in
    fits (then (then c.put_kind-k.ensures c.put_number-t.ensures) c.put_number-v.ensures)
    (spaced_value (signed a.value)) (room a.at a.kind c.from.result c.from-2.result a.value l c.requires).2

pub put_word-requires : goal.put_word-requires
put_word-requires c =
    let a = c.args in
    let l = line-length a.kind c.from.result c.from-2.result a.value (omega arith) (omega arith) (omega arith) in
    fits
    (then (then (then c.put_kind-k.ensures c.put_number-t.ensures) c.put_number-v.ensures) c.put_value-z.ensures)
    (bytes "\n") (room a.at a.kind c.from.result c.from-2.result a.value l c.requires).3

pub returns : goal.returns
unfolding line
returns c =
    let a = c.args in
    let p =
    then
    (then (then (then c.put_kind-k.ensures c.put_number-t.ensures) c.put_number-v.ensures) c.put_value-z.ensures)
    c.put_word.ensures in
    let l = line-length a.kind c.from.result c.from-2.result a.value (omega arith) (omega arith) (omega arith) in
    record { puts = rw (← c.from.ensures, ← c.from-2.ensures) p; upper_bound = omega (arith, p.ends, l) }
