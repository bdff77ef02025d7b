use native.Mathlib.Omega.{arith}
use mathlib.Core.Path.{ap, sym}
use mathlib.Core.List.{List, ◌∷◌}
use Prim.Native.Nat.{ℕ}
use lib.ListN.{length}
use Rattle.text.proofs.Buffers.{reads_as}
use Rattle.text.proofs.Numbers.{decimal-one, decimal-text}
use Rattle.text.proofs.put_number.Goals as goal

pub put_word-requires : goal.put_word-requires
put_word-requires c = omega (arith, c.requires, ap length (decimal-one c.args.n c.if-n-lt10.true))

pub returns-then-n-lt10 : goal.returns-then-n-lt10
returns-then-n-lt10 c = reads_as (ap (λ (l : List ℕ). 32 ∷ l) (sym (decimal-one c.args.n c.if-n-lt10.true))) c.put_word.ensures

pub put_spaced-requires : goal.put_spaced-requires
put_spaced-requires c = omega (arith, c.requires, ap length (decimal-text c.args.n (omega arith)))

pub returns : goal.returns
returns c = reads_as (decimal-text c.args.n (omega arith)) c.put_spaced.ensures
