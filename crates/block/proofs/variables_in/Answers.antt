use mathlib.Core.Path.{◌≡◌, refl, sym}
use Prim.Native.Nat.{◌+◌, ◌*◌}
use lib.IntN.{pos}
use Rattle.std.proofs.Common.{rules}
use Rattle.rules.specs.Fields.{signed, word}
use Rattle.block.proofs.Made.{made}
use Rattle.block.proofs.variables_in.Goals as goal

pub returns : goal.returns
returns c =
    let b = c.args.block.now in
    sym (made _ (λ f. f.0.now ≡ b) (λ j. signed (word b (520 + 4 * j))) (λ p q i y s e. search rules) _ c.from_fn.result 64 (pos 0) refl c.from_fn.ensures.items)
