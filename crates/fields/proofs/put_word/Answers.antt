use Prim.Native.Nat.{◌%◌, ◌/◌}
use mathlib.Core.Path.{◌≡◌, ◌∙◌}
use native.Mathlib.Omega.{arith}
use Rattle.rules.specs.Fields.{bytes4}
use Rattle.fields.proofs.Parts.{part_put}
use Rattle.fields.proofs.put_word.Goals as goal

pub returns : goal.returns
returns c =
    let a = c.args in
    let top : a.w / 16777216 % 256 ≡ a.w / 16777216 = omega arith in
    let e = rw top at (c.copy_from_slice.ensures.after ∙ c.to_le_bytes.ensures) in
    part_put (bytes4 a.w) a.b.now c.copy_from_slice.new.self a.at _ e (omega arith) c.requires
