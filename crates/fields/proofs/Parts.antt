-- A part of a buffer written over.
-- Assumes nothing.
use Prim.Native.Nat.{ℕ, ◌+◌, ◌≤◌}
use mathlib.Core.Path.{◌≡◌, sym, ap, ◌∙◌}
use mathlib.Core.List.{List, ◌++◌, append_assoc}
use lib.ListN.{length, take}
use lib.Seq.{sets, sets-eq, drop-drop}
use borrow.Rule.Slice.PartMut.{put_mid}

-- x in the place of as many bytes from an index on
pub part_put : (w b x : List ℕ) (at k : ℕ) → x ≡ w → k ≡ length w → at + length w ≤ length b → put_mid at k b x ≡ sets b at w
part_put w b x at k e n h =
    rw (e, n)
    (ap (λ (r : List ℕ). take at b ++ (w ++ r)) (drop-drop (length w) at b) ∙ sym (append_assoc (take at b) w _) ∙ sym (sets-eq w b at h))
