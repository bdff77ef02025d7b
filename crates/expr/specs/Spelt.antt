-- Parts of a table that start with an expression.
-- Assumes nothing.
use Rattle.std.specs.Prelude.{ℕ, ◌≡◌, List, ◌++◌}
use Rattle.rules.specs.Recipe.{Expr, encode_e, NamedE}

-- the part starts with the bytes of an expression within the limits, whatever follows
pub record Spelt (p : List ℕ) : Type 0 where
  pub expr : Expr
  pub rest : List ℕ
  pub spelt : p ≡ encode_e expr ++ rest
  pub named : NamedE expr
