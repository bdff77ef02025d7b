-- What the record that a part starts with encloses and leads to, as the code reads it.
-- Assumes nothing.
use Prim.Native.Nat.{ℕ, ◌+◌, ◌*◌, ◌≤◌, ◌<◌}
use mathlib.Core.Path.{◌≡◌, ap}
use mathlib.Core.List.{List}
use mathlib.Core.Logic.{dite}
use native.Mathlib.Decide.{dec_lt}
use native.Mathlib.Omega.{arith}
use lib.IntN.{pos, nat_abs}
use lib.ListN.{length}
use borrow.Author.Tests.{lt-ltb, le-ltb, eq-eqb, ne_eqb}
use Rattle.rules.specs.Fields.{word, signed}
use Rattle.rules.specs.Table.{kind_of, span_of, value_of, inner, after}
use Rattle.rules.specs.Standing.{body_place}
use Rattle.rules.proofs.Grammar.Checking.{length-inner, length-after}
use Rattle.expr.specs.Spelt.{Spelt}
use Rattle.expr.proofs.Reading.{whole}
use Rattle.moves.specs.Moves.{Part, Enclosing}

-- ---- a record that encloses an expression first

module _ {p : List ℕ} (s : Enclosing p) where
  pub spelt-inner : Spelt (inner p)
  spelt-inner =
      let (e, is, named) = s.part.stands.starts s.from_set s.to_spawn in
      record { expr = e; rest = after (inner p); spelt = is; named = named }

  body-length : length (after (inner p)) + (8 + 8 * span_of (inner p)) ≡ 8 * span_of p
  body-length = omega (arith, length-after (inner p), length-inner p s.part.stands.whole, whole spelt-inner)

  -- a body with statements, and one without
  pub body-some : (i k : ℕ) → 1 + span_of (inner p) < span_of p → i + 2 + span_of (inner p) ≡ body_place p i k
  unfolding body_place
  body-some i k h = let b = body-length in rw (ne_eqb (length (after (inner p))) 0 (omega arith))

  pub body_none : (i k : ℕ) → span_of p ≤ 1 + span_of (inner p) → k ≡ body_place p i k
  unfolding body_place
  body_none i k h = let b = body-length in rw (eq-eqb (length (after (inner p))) 0 (omega arith))

-- ---- a spawn's procedure

value-word : (w n : ℕ) → signed w ≡ pos n → w ≡ n
value-word w n h =
    dite (dec_lt w 2147483648)
    (λ l. ap nat_abs (rw (lt-ltb w 2147483648 l) at h))
    (λ g. let e = rw (le-ltb w 2147483648 (omega arith)) at h in let z : ◌≡◌ {A = ℕ} 0 1 = cc in absurd (omega arith))

module _ {p : List ℕ} (s : Part p) (h : kind_of p ≡ 6) where
  pub procedure-is : word p 4 ≡ nat_abs (value_of p)
  procedure-is = value-word (word p 4) (nat_abs (value_of p)) (s.stands.spawned h).natural
