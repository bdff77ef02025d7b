-- Document 01, "Values", and request 2.2 of document 02, by which a quotient by 0 has no value.
-- Assumes nothing.
use Rattle.std.specs.Prelude.{ℕ, Bool, true, false, not, ◌&&◌, ◌||◌, cond, eqb, ℤ, pos, negsuc, neg_ℤ, ◌+ℤ◌, ◌-ℤ◌, ◌*ℤ◌}
use Rattle.std.proofs.Math.Option.{Option, none, some}
use Rattle.std.specs.Int.Signed.{lt_z, le_z, quot_z}

-- "Values are whole numbers from −2,147,483,648 to 2,147,483,647."
abbrev pub lowest : ℤ
lowest = negsuc 2147483647

abbrev pub highest : ℤ
highest = pos 2147483647

abbrev pub in_range : ℤ → Bool
in_range z = le_z lowest z && le_z z highest

-- "An exact result outside the range becomes the nearer end."
unfoldable pub clamp : ℤ → ℤ
clamp z = cond (lt_z z lowest) lowest (cond (lt_z highest z) highest z)

abbrev pub is_zero : ℤ → Bool
is_zero (pos n) = eqb n 0
is_zero (negsuc n) = false

-- "quotient toward zero"; request 2.2 of document 02: "a quotient by 0 has none"
unfoldable pub quotient : ℤ → ℤ → Option ℤ
quotient a b = cond (is_zero b) none (some (clamp (quot_z a b)))

-- "any value but 0 counts as true"
abbrev pub truth : ℤ → Bool
truth z = not (is_zero z)

-- "Operators 4–7 and "not" give 1 or 0"
abbrev pub flag : Bool → ℤ
flag true = pos 1
flag false = pos 0

abbrev pub equal : ℤ → ℤ → Bool
equal (pos a) (pos b) = eqb a b
equal (pos a) (negsuc b) = false
equal (negsuc a) (pos b) = false
equal (negsuc a) (negsuc b) = eqb a b

-- "Operators of kind 11: 0 sum, 1 difference, 2 product, 3 quotient toward zero, 4 less, 5 equal, 6 and, 7 or."
unfoldable pub apply2 : ℕ → ℤ → ℤ → Option ℤ
apply2 operator a b =
    cond (eqb operator 0) (some (clamp (a +ℤ b)))
    (cond (eqb operator 1) (some (clamp (a -ℤ b)))
    (cond (eqb operator 2) (some (clamp (a *ℤ b)))
    (cond (eqb operator 3) (quotient a b)
    (cond (eqb operator 4) (some (flag (lt_z a b)))
    (cond (eqb operator 5) (some (flag (equal a b)))
    (cond (eqb operator 6) (some (flag (truth a && truth b)))
    (some (flag (truth a || truth b)))))))))

-- "Kind 12: 0 negation, 1 not."
unfoldable pub apply1 : ℕ → ℤ → ℤ
apply1 operator a = cond (eqb operator 0) (clamp (neg_ℤ a)) (flag (not (truth a)))

-- Request 2.2: "an operand without a value leaves none, and both operands of "and" and "or" are always worked out": an operator's result from what its
-- operands gave.
abbrev pub of_both : (ℤ → ℤ → Option ℤ) → Option ℤ → Option ℤ → Option ℤ
of_both f none b = none
of_both f (some x) none = none
of_both f (some x) (some y) = f x y

abbrev pub of_one : (ℤ → ℤ) → Option ℤ → Option ℤ
of_one f none = none
of_one f (some x) = some (f x)

-- "any value but 0 counts as true"; request 2.2: "A guard without a value counts as untrue."
abbrev pub is_true : Option ℤ → Bool
is_true none = false
is_true (some z) = truth z
