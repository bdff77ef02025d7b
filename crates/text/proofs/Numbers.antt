-- Numbers and values as text: how they are spelt, and their lengths.
-- Assumes nothing.
use Prim.Native.Nat.{ℕ, zero, suc, ◌+◌, ◌-◌, ◌*◌, ◌/◌, ◌%◌, ◌^◌, ◌≤◌, ◌<◌}
use mathlib.Core.Path.{◌≡◌, refl, ap, ◌∙◌}
use mathlib.Core.Bool.{Bool, true, false, cond}
use mathlib.Core.List.{List, [], ◌∷◌, ◌++◌, append_assoc, append-nil}
use Rattle.std.specs.Fmt as F
use native.Mathlib.Omega.{arith}
use native.Mathlib.Nat.{pow-suc}
use lib.Dec.{ltb}
use lib.ListN.{length, length-append}
use borrow.Author.Tests.{lt-ltb, le-ltb, ltb-true, ltb-false, ne_eqb}
use Rattle.rules.specs.Fields.{signed}
use Rattle.rules.specs.Print.{bytes, digits, decimal, signed_decimal, spaced, spaced_value}

-- ---- numbers

-- a number's digits are the same whatever more is allowed
same_digits : (k j n : ℕ) → n < k → n < j → digits k n ≡ digits j n
unfolding digits
same_digits zero j n h g = absurd (omega arith)
same_digits (suc k) zero n h g = absurd (omega arith)
same_digits (suc k) (suc j) n h g = go (ltb n 10) refl (λ l m. same_digits k j (n / 10) l m)
  where
    go : (b : Bool) → ltb n 10 ≡ b → (n / 10 < k → n / 10 < j → digits k (n / 10) ≡ digits j (n / 10))
        → cond b ((48 + n) ∷ []) (digits k (n / 10) ++ ((48 + n % 10) ∷ [])) ≡ cond b ((48 + n) ∷ []) (digits j (n / 10) ++ ((48 + n % 10) ∷ []))
    go true e ih = refl
    go false e ih =
        let m : 10 ≤ n = ltb-false n 10 e in
        ap (λ (l : List ℕ). l ++ ((48 + n % 10) ∷ [])) (ih (omega arith) (omega arith))

pub decimal-one : (n : ℕ) → n < 10 → decimal n ≡ (48 + n) ∷ []
unfolding decimal digits
decimal-one n h = rw (lt-ltb n 10 h) refl

-- the digits before the last, then the last
pub decimal_more : (n : ℕ) → 10 ≤ n → decimal n ≡ decimal (n / 10) ++ ((48 + n % 10) ∷ [])
unfolding decimal digits
decimal_more n h =
    rw (le-ltb n 10 h) (ap (λ (l : List ℕ). l ++ ((48 + n % 10) ∷ [])) (same_digits n (suc (n / 10)) (n / 10) (omega arith) (omega arith)))

pub decimal-length : (k n : ℕ) → n < 10 ^ suc k → length (decimal n) ≤ suc k
decimal-length zero n h = rw (decimal-one n h) (omega arith)
decimal-length (suc k) n h = go (ltb n 10) refl (λ l. decimal-length k (n / 10) l)
  where
    go : (b : Bool) → ltb n 10 ≡ b → (n / 10 < 10 ^ suc k → length (decimal (n / 10)) ≤ suc k) → length (decimal n) ≤ suc (suc k)
    go true e ih = rw (decimal-one n (ltb-true n 10 e)) (omega arith)
    go false e ih =
        let p : n < 10 ^ suc k * 10 = rw (← pow-suc 10 (suc k)) h in
        rw (decimal_more n (ltb-false n 10 e)) (omega (arith, length-append (decimal (n / 10)) ((48 + n % 10) ∷ []), ih (omega arith)))

-- the digits that the standard library writes are these
onto : (k n : ℕ) (rest : List ℕ) → n < 2 ^ suc k → F.digits_onto (suc k) 10 false n rest ≡ decimal n ++ rest
onto zero n rest h =
    let e : n / 10 ≡ 0 = omega arith in
    let m : n % 10 ≡ n = omega arith in
    rw (e, m, decimal-one n (omega arith), lt-ltb n 10 (omega arith)) refl
onto (suc k) n rest h = go (ltb n 10) refl (λ l. onto k (n / 10) ((48 + n % 10) ∷ rest) l)
  where
    go : (b : Bool) → ltb n 10 ≡ b → (n / 10 < 2 ^ suc k → F.digits_onto (suc k) 10 false (n / 10) ((48 + n % 10) ∷ rest) ≡ decimal (n / 10) ++ ((48 + n % 10) ∷ rest))
        → F.digits_onto (suc (suc k)) 10 false n rest ≡ decimal n ++ rest
    go true e ih =
        let l : n < 10 = ltb-true n 10 e in
        let q : n / 10 ≡ 0 = omega arith in
        let m : n % 10 ≡ n = omega arith in
        rw (q, m, decimal-one n l, lt-ltb n 10 l) refl
    go false e ih =
        let l : 10 ≤ n = ltb-false n 10 e in
        let p : n < 2 ^ suc k * 2 = rw (← pow-suc 2 (suc k)) h in
        rw (ne_eqb (n / 10) 0 (λ z. absurd (omega arith)), lt-ltb (n % 10) 10 (omega arith), ih (omega arith), decimal_more n l, append_assoc (decimal (n / 10)) ((48 + n % 10) ∷ []) rest) refl

decimal-is : (n : ℕ) → n < 4294967296 → F.decimal n ≡ decimal n
unfolding F.digits
decimal-is n h = onto 63 n [] (omega arith) ∙ append-nil (decimal n)

pub decimal-text : (n : ℕ) → n < 4294967296 → 32 ∷ F.decimal n ≡ spaced n
decimal-text n h = ap (λ (l : List ℕ). 32 ∷ l) (decimal-is n h)

-- ---- values

pub value_low : (w : ℕ) → w < 2147483648 → spaced_value (signed w) ≡ spaced w
unfolding signed_decimal
value_low w h = rw (lt-ltb w 2147483648 h) refl

pub value_high : (w : ℕ) → 2147483648 ≤ w → w < 4294967296 → spaced_value (signed w) ≡ bytes " -" ++ decimal (4294967295 - w + 1)
unfolding signed_decimal
value_high w h l =
    let e : suc (4294967296 - suc w) ≡ 4294967295 - w + 1 = omega arith in
    rw (le-ltb w 2147483648 h, e) refl

pub value-length : (w : ℕ) → w < 4294967296 → length (spaced_value (signed w)) ≤ 12
value-length w h = go (ltb w 2147483648) refl
  where
    go : (b : Bool) → ltb w 2147483648 ≡ b → length (spaced_value (signed w)) ≤ 12
    go true e = let l = ltb-true w 2147483648 e in omega (arith, ap length (value_low w l), decimal-length 9 w (omega arith))
    go false e =
        let l = ltb-false w 2147483648 e in
        omega (arith, ap length (value_high w l h), decimal-length 9 (4294967295 - w + 1) (omega arith))

-- a value as the standard library writes it
pub signed-text : (w : ℕ) → w < 4294967296 → 32 ∷ F.signed_decimal (signed w) ≡ spaced_value (signed w)
unfolding signed_decimal
signed-text w h = go (ltb w 2147483648) refl
  where
    go : (b : Bool) → ltb w 2147483648 ≡ b → 32 ∷ F.signed_decimal (signed w) ≡ spaced_value (signed w)
    go true e = rw (e) (decimal-text w h)
    go false e = let l = ltb-false w 2147483648 e in rw (e) (ap (λ (l : List ℕ). 32 ∷ 45 ∷ l) (decimal-is (suc (4294967296 - suc w)) (omega arith)))
