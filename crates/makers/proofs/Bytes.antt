-- Lists of bytes, and valve records read from the bytes of a log.
-- Assumes nothing.
use Prim.Native.Nat.{ℕ, ◌/◌}
use mathlib.Core.Path.{◌≡◌, refl, sym, ap, ◌∙◌}
use mathlib.Core.Logic.{inl, inr}
use mathlib.Core.Bool.{Bool, true, false, ◌&&◌}
use mathlib.Core.List.{List, [], ◌∷◌, map, map-append}
use native.Mathlib.Omega.{arith}
use lib.Dec.{ltb}
use lib.IntN.{ℤ}
use lib.ListN.{length}
use borrow.Author.Tests.{ltb-true}
use Rattle.rules.specs.Fields.{signed, bits, word, bytes4}
use Rattle.rules.specs.Log.{Event, spawned, taken, gave, waits, turned, ended, valve, event_row, log_bytes}
use Rattle.rules.specs.Fairness.{Every, only}
use Rattle.rules.specs.Demand.{Bytes}
use Rattle.rules.proofs.Answers.{log_length}
use Rattle.rules.proofs.Numbers.{Byte, every-bytes}
use Rattle.rules.proofs.Verdicts.{and_true}
use Rattle.makers.specs.Claim.{Setting, settings_of, settings_in, Begins, OneBegins}
use Rattle.makers.proofs.Runs.{settings}

-- ---- lists of bytes

unfoldable pub below : List ℕ → Bool
below [] = true
below (x ∷ l) = ltb x 256 && below l

every_byte : (l : List ℕ) → below l ≡ true → Every Byte l
unfolding below
every_byte [] h = tt
every_byte (x ∷ l) h = let p = and_true (ltb x 256) (below l) h in (ltb-true x 256 p.0, every_byte l p.1)

pub bytes : (l : List ℕ) → below l ≡ true → Bytes l
bytes l h = every-bytes l (every_byte l h)

-- ---- valve records

-- the value that a record's bytes tell
abbrev told : Setting → Setting
told p = record { valve = p.valve; value = signed (word (bytes4 (bits p.value)) 0) }

told_only : (b : Bool) (v : ℕ) (z : ℤ) → only b (told (record { valve = v; value = z }) ∷ []) ≡ map told (only b (record { valve = v; value = z } ∷ []))
told_only true v z = refl
told_only false v z = refl

read_settings : (mine : ℕ → Bool) (xs : List Event) → settings_of mine (length xs) (log_bytes xs) ≡ map told (settings mine xs)
unfolding settings_of log_bytes event_row
read_settings mine [] = refl
read_settings mine (spawned t n ∷ xs) = read_settings mine xs
read_settings mine (taken t ∷ xs) = read_settings mine xs
read_settings mine (gave t ∷ xs) = read_settings mine xs
read_settings mine (waits t z ∷ xs) = read_settings mine xs
read_settings mine (turned t z ∷ xs) = read_settings mine xs
read_settings mine (ended t ∷ xs) = read_settings mine xs
read_settings mine (valve t v z ∷ xs) =
    rw (read_settings mine xs, told_only (mine v) v z) (sym (map-append told (only (mine v) (record { valve = v; value = z } ∷ [])) (settings mine xs)))

pub settings_read : (mine : ℕ → Bool) (xs : List Event) → settings_in mine (log_bytes xs) ≡ map told (settings mine xs)
settings_read mine xs =
    let e : length (log_bytes xs) / 8 ≡ length xs = omega (arith, log_length xs) in
    ap (λ (n : ℕ). settings_of mine n (log_bytes xs)) e ∙ read_settings mine xs

told_begins : (xs ys : List Setting) → Begins xs ys → Begins (map told xs) (map told ys)
told_begins xs ys (zs, e) = (map told zs, ap (map told) e ∙ map-append told xs zs)

pub one_begins : (xs ys : List Setting) → OneBegins xs ys → OneBegins (map told xs) (map told ys)
one_begins xs ys (inl h) = inl (told_begins xs ys h)
one_begins xs ys (inr h) = inr (told_begins ys xs h)
