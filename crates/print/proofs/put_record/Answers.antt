use Prim.Native.Nat.{ℕ}
use mathlib.Core.Path.{ap₂}
use lib.ListN.{get_or}
use Rattle.rules.specs.Fields.{signed}
use Rattle.rules.specs.Print.{line}
use Rattle.text.proofs.Buffers.{reads_as}
use Rattle.print.proofs.put_record.Goals as goal

pub returns : goal.returns
returns c =
    let a = c.args in
    let l = a.bytes.now in
    let e =
    ap₂ (λ (t w : ℕ). line (get_or l 0 0) t (get_or l 1 0) (signed w)) c.half_at.ensures c.word_at.ensures in
    record { puts = reads_as e c.put_line.ensures.puts; upper_bound = c.put_line.ensures.upper_bound }
