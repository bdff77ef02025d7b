use Rattle.std.proofs.Common.{rules, subst, sym}
use Rattle.std.specs.Io.KnownBytes.{Consumes}
use Rattle.std.proofs.KnownBytes.{Consumes-trans}
use native.Mathlib.Omega.{arith}
use Rattle.input.proofs.Parts.{take-part}
use Rattle.input.proofs.read_full.Goals as goal

pub loop-done-preserved : goal.loop-done-preserved
loop-done-preserved g c =
    let l = c.loop-done in (
      search rules,
      subst (Consumes _ _) (sym (take-part l.buf c.read.new.buf l.done _ c.in_ok-n.n (omega arith) (search rules)))
          (Consumes-trans _ _ _ _ _ l.invariant.1 (search rules)),
    )
