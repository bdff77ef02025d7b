-- Texts in a buffer, one behind another.
-- Assumes nothing.
use Prim.Native.Nat.{ℕ, suc, ◌+◌, ◌≤◌}
use mathlib.Core.Path.{◌≡◌, refl, ap, ◌∙◌}
use mathlib.Core.List.{List, [], ◌∷◌, ◌++◌}
use native.Mathlib.Omega.{arith}
use lib.ListN.{length, drop, set, length-append}
use lib.Seq.{sets, length-sets, sets-eq}
use Rattle.text.specs.Puts.{Puts}

sets_append : (b : List ℕ) (at : ℕ) (x y : List ℕ) → sets (sets b at x) (at + length x) y ≡ sets b at (x ++ y)
sets_append b at [] y = let e : at + 0 ≡ at = omega arith in rw e refl
sets_append b at (v ∷ x) y = let e : at + suc (length x) ≡ suc at + length x = omega arith in rw e (sets_append (set b at v) (suc at) x y)

pub none : (b : List ℕ) → Puts b 0 [] 0 b
none b = record { ends = refl; inside = omega arith; holds = refl }

-- a text of another form
pub reads_as : {b b' : List ℕ} {at r : ℕ} {x y : List ℕ} → x ≡ y → Puts b at x r b' → Puts b at y r b'
reads_as e p = rw (← e) p

module _ {b b' : List ℕ} {at r : ℕ} {x : List ℕ} (p : Puts b at x r b') where
  pub same_length : length b' ≡ length b
  same_length = ap length p.holds ∙ length-sets b at x

  -- the text y right behind x
  pub then : {b'' : List ℕ} {s : ℕ} {y : List ℕ} → Puts b' r y s b'' → Puts b at (x ++ y) s b''
  then {y = y} q = record {
    ends = omega (arith, q.ends, p.ends, length-append x y);
    inside = omega (arith, q.inside, same_length);
    holds = q.holds ∙ rw (p.holds, p.ends) (sets_append b at x y);
  }

  -- there is room for y where both fit
  pub fits : (y : List ℕ) → at + length (x ++ y) ≤ length b → r + length y ≤ length b'
  fits y h = omega (arith, p.ends, same_length, length-append x y)

-- the first of two texts fits where both do
pub front : (at : ℕ) {n : ℕ} (x y : List ℕ) → at + length (x ++ y) ≤ n → at + length x ≤ n
front at x y h = omega (arith, length-append x y)

-- a text at the start of a buffer
pub first : {b b' : List ℕ} {r : ℕ} {x : List ℕ} → Puts b 0 x r b' → (r ≡ length x) × (b' ≡ x ++ drop r b)
first {b} {b'} {r} {x} p =
    let e : 0 + length x ≡ length x = omega arith in
    let n : r ≡ length x = p.ends ∙ e in
    (n, p.holds ∙ rw n (sets-eq x b 0 (omega (arith, p.inside)) ∙ rw e refl))
