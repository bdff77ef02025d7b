use native.Mathlib.Omega.{arith}
use mathlib.Core.Path.{ap, sym}
use lib.ListN.{length}
use Rattle.values.proofs.Exact.{result32}
use Rattle.text.proofs.Buffers.{reads_as}
use Rattle.text.proofs.Numbers.{value_low, signed-text}
use Rattle.text.proofs.put_value.Goals as goal

pub put_number-requires : goal.put_number-requires
put_number-requires c = omega (arith, c.requires, ap length (value_low c.args.w (omega arith)))

pub returns-then-w-lt10 : goal.returns-then-w-lt10
returns-then-w-lt10 c = reads_as (sym (value_low c.args.w (omega arith))) c.put_number.ensures

pub put_spaced-requires : goal.put_spaced-requires
put_spaced-requires c = rw (result32 {z = c.signed.result} (omega arith), c.signed.ensures) (omega (arith, c.requires, ap length (signed-text c.args.w (omega arith))))

pub returns : goal.returns
returns c = reads_as (rw (result32 {z = c.signed.result} (omega arith), c.signed.ensures) (signed-text c.args.w (omega arith))) c.put_spaced.ensures
