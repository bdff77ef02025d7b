-- What a read into the rest of a buffer adds to what was read before.
-- Assumes nothing.
use Rattle.std.proofs.Common.{◌≡◌, ℕ, ◌+◌, ◌≤◌, List, ◌++◌, length, take, ap, sym, ◌∙◌}
use Rattle.std.proofs.Math.Seq.{length-take-le, take-append-add}
use Rattle.std.proofs.lemmas.List.{take-append-le}
use borrow.Rule.Slice.PartMut.{put_mid, post_of}

pub take-part : (b w : List ℕ) (d k n : ℕ) → d ≤ length b → n ≤ length w → take (d + n) (put_mid d k b w) ≡ take d b ++ take n w
take-part b w d k n h l =
    let e : length (take d b) ≡ d = length-take-le d b h in
    ap (λ (m : ℕ). take (m + n) (put_mid d k b w)) (sym e)
    ∙ take-append-add (take d b) (w ++ post_of d k b) n
    ∙ ap (λ (r : List ℕ). take d b ++ r) (take-append-le n w (post_of d k b) l)
