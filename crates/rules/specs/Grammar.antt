-- Demand 2, first half: "A table is accepted exactly when it spells a recipe, and each recipe within the limits has one table."
-- Assumes nothing.
use Rattle.std.specs.Prelude.{ℕ, ◌≡◌, ◌↔◌, List}
use Rattle.rules.specs.Recipe.{Recipe, encode, Within}
use Rattle.rules.specs.Table.{check, fine, recipe_of}
use Rattle.rules.specs.Demand.{Bytes}

-- a table spells a recipe: it is the recipe's bytes, and the recipe is within the limits
pub record Spells (t : List ℕ) (r : Recipe) : Type 0 where
  pub spelt : t ≡ encode r
  pub within : Within r

pub record Grammar (t : List ℕ) : Type 0 where
  pub accepted : (check t ≡ fine) ↔ ((r : Recipe) × Spells t r)
  -- an accepted table spells the recipe that is run, and no other
  pub spells : check t ≡ fine → Spells t (recipe_of t)
  pub one_recipe : (r : Recipe) → Spells t r → r ≡ recipe_of t

-- each recipe within the limits has a table: bytes that are accepted and read as it; and any bytes of which that holds are this table
pub record OneTable (r : Recipe) : Type 0 where
  pub bytes : Bytes (encode r)
  pub accepted : check (encode r) ≡ fine
  pub reads : recipe_of (encode r) ≡ r
  pub only : (t : List ℕ) → Bytes t → check t ≡ fine → recipe_of t ≡ r → t ≡ encode r
