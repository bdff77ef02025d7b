-- What the links of a table say: where each statement leads, and where each procedure starts.
-- Assumes nothing.
use Rattle.std.specs.Prelude.{ℕ, ◌≤◌, ◌<◌, ◌≡◌, true, List, length, get_or}
use Rattle.rules.specs.Recipe.{Recipe}
use Rattle.rules.specs.Places.{at, start}
use Rattle.rules.specs.Standing.{next_of}
use Rattle.links.specs.Links.{is_statement}
use Rattle.links.specs.declared.Links.{Links}

abbrev pub Leads : Recipe → (next : List ℕ) → Type 0
Leads r next = (i : ℕ) → is_statement (at r i) ≡ true → get_or next i 0 ≡ next_of (at r i)

pub record Linked (r : Recipe) (l : Links) : Type 0 where
  pub next_is : Leads r l.next
  pub start_is : (p : ℕ) → p ≤ 255 → p < length r → get_or l.starts p 0 ≡ start r p
