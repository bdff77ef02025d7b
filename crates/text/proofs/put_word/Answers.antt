use mathlib.Core.Path.{refl}
use native.Mathlib.Omega.{arith}
use Rattle.fields.proofs.Parts.{part_put}
use Rattle.text.proofs.put_word.Goals as goal

pub returns : goal.returns
returns c =
    let a = c.args in
    record { ends = refl; inside = omega (arith, c.requires); holds = part_put a.word.now a.b.now _ a.at _ c.copy_from_slice.ensures.after (omega arith) c.requires }
