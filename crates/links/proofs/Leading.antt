-- What the links of an accepted table leave is where its statements lead and where its procedures start.
-- Assumes nothing.
use Prim.Native.Nat.{ℕ, ◌<◌}
use mathlib.Core.Path.{◌≡◌, sym, ap, ◌∙◌, subst⁻¹}
use mathlib.Core.Bool.{true, false≢true}
use mathlib.Core.List.{List}
use mathlib.Core.Logic.{dite}
use native.Mathlib.Decide.{dec_lt}
use native.Mathlib.Omega.{arith}
use lib.ListN.{length, get_or}
use borrow.Author.Tests.{lt-ltb}
use Rattle.rules.specs.Demand.{Bytes}
use Rattle.rules.specs.Table.{records, fine, check, recipe_of}
use Rattle.rules.specs.Places.{nowhere, points_r, at}
use Rattle.rules.proofs.Standing.{spells, size, at_end, at_past}
use Rattle.links.specs.Links.{is_statement, linked, started}
use Rattle.links.proofs.Lookup.{linked_at, started_at}
use Rattle.links.specs.Linked.{Leads, Linked}
use Rattle.links.specs.declared.Links.{Links}

module _ (t : List ℕ) (bytes : Bytes t) (fits : check t ≡ fine) where
  -- a statement stands before the table's end
  inside : (i : ℕ) → is_statement (at (recipe_of t) i) ≡ true → i < records t
  inside i h =
      dite (dec_lt i (records t)) (λ l. l)
      (λ g.
      absurd (false≢true
      (sym
      (dite (dec_lt (records t) i)
      (λ l. ap is_statement (at_past t bytes fits i l))
      (λ e.
      let s : i ≡ records t = omega arith in
      ap (λ (j : ℕ). is_statement (at (recipe_of t) j)) s ∙ ap is_statement (at_end t bytes fits)))
      ∙ h)))

  pub leads : (next : List ℕ) → length next ≡ 4096 → Leads (recipe_of t) (linked (points_r (recipe_of t) 0 nowhere) 0 next)
  leads next l i h =
      let b : i < length next = omega (arith, inside i h, size t bytes fits, (spells t bytes fits).within.few) in
      linked_at (recipe_of t) i next 0 b ∙ rw h

  pub links_are : (next starts : List ℕ) → length next ≡ 4096 → length starts ≡ 256
      → Linked (recipe_of t) (record { next = linked (points_r (recipe_of t) 0 nowhere) 0 next; starts = started (recipe_of t) starts })
  links_are next starts l m =
      record {
        next_is = leads next l;
        start_is = λ p h g. started_at (recipe_of t) p starts 0 (omega arith) ∙ rw (lt-ltb p (length (recipe_of t)) g);
      }

  -- the same of links that were set
  pub links_set : (old new : Links) → length old.next ≡ 4096 → length old.starts ≡ 256
      → new.next ≡ linked (points_r (recipe_of t) 0 nowhere) 0 old.next → new.starts ≡ started (recipe_of t) old.starts → Linked (recipe_of t) new
  links_set old new l m e f =
      let s = links_are old.next old.starts l m in
      record {
        next_is = subst⁻¹ (Leads (recipe_of t)) e s.next_is;
        start_is = λ p h g. ap (λ (xs : List ℕ). get_or xs p 0) f ∙ s.start_is p h g;
      }
