-- The number of the first rule that a record breaks, by the tests that lead to it.
-- Assumes nothing.
use Prim.Native.Nat.{ℕ, ◌+◌, ◌*◌}
use mathlib.Core.Path.{◌≡◌, refl, sym, ◌∙◌}
use mathlib.Core.Bool.{Bool, true, false, ◌&&◌}
use mathlib.Core.List.{List}
use lib.Dec.{leb}
use Rattle.rules.specs.Fields.{signed}
use Rattle.rules.specs.Table.{Sort, is_of, Ends, ends_fit, span_fits, value_fits, kind_row, kind_of, span_right, name_right, value_right, record_fault}
use Rattle.table.specs.declared.record.Kind.{Kind}
use Rattle.table.specs.Kinds.{number_of}
use Rattle.table.specs.Check.{Fields}

-- what the tests of the fields of a record of a kind say of it
module _ {p : List ℕ} {number name span value len : ℕ} (f : Fields p number name span value len) (k : Kind) (e : number ≡ number_of k) where
  kind-is : number_of k ≡ kind_of p
  kind-is = sym e ∙ f.kind_is

  pub due-field : (s : Sort) {b : Bool} → is_of s (number_of k) ≡ b → is_of s (kind_of p) ≡ b
  due-field s h = rw (← kind-is) h

  pub span-fields : (ends : Ends) → (ends_fit ends (8 + 8 * span) len && span_fits (kind_row (number_of k)).encloses span) ≡ span_right ends p
  span-fields ends = rw (kind-is, f.span_is, f.length_is) refl

  pub name-field : (leb (kind_row (number_of k)).least name && leb name (kind_row (number_of k)).most) ≡ name_right p
  name-field = rw (kind-is, f.name_is) refl

  pub value-field : value_fits (kind_row (number_of k)).field (signed value) ≡ value_right p
  value-field = rw (kind-is, f.value_is) refl

module _ (s : Sort) (ends : Ends) (p : List ℕ) where
  pub fault-kind : is_of s (kind_of p) ≡ false → 12 ≡ record_fault s ends p
  unfolding record_fault
  fault-kind a = rw a refl

  module _ (a : is_of s (kind_of p) ≡ true) where
    pub fault-span : span_right ends p ≡ false → 13 ≡ record_fault s ends p
    unfolding record_fault
    fault-span b = rw (a, b) refl

    module _ (b : span_right ends p ≡ true) where
      pub fault-name : name_right p ≡ false → 14 ≡ record_fault s ends p
      unfolding record_fault
      fault-name d = rw (a, b, d) refl

      pub fault-value : name_right p ≡ true → value_right p ≡ false → 15 ≡ record_fault s ends p
      unfolding record_fault
      fault-value d e = rw (a, b, d, e) refl

      pub fault_none : name_right p ≡ true → value_right p ≡ true → 0 ≡ record_fault s ends p
      unfolding record_fault
      fault_none d e = rw (a, b, d, e) refl
