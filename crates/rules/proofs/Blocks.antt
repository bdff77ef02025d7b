-- A state that fits and its block: each is what the other says, and the check accepts exactly such blocks.
-- Assumes nothing.
use mathlib.Core.Path.{◌≡◌}
use mathlib.Core.List.{List}
use Prim.Native.Nat.{ℕ}
use Rattle.rules.specs.Recipe.{Recipe}
use Rattle.rules.specs.Table.{fine}
use Rattle.rules.specs.Places.{is_place}
use Rattle.rules.specs.State.{State, check_block, read_block, write_block}
use Rattle.rules.specs.Demand.{Bytes}
use Rattle.rules.proofs.Fit.{Fit}
use Accepted.{accepted, checked}
use Read.{read_fits, written-again}
use Write.{accepted-again, read_again}
pub mod Accepted
pub mod Counts
pub mod Read
pub mod Write

pub fit_read : (r : Recipe) (b : List ℕ) → Bytes b → check_block (is_place r) b ≡ fine → Fit r (read_block b)
fit_read r b bytes h = read_fits r b bytes (accepted (is_place r) b h)

pub write_read : (r : Recipe) (b : List ℕ) → Bytes b → check_block (is_place r) b ≡ fine → write_block (read_block b) ≡ b
write_read r b bytes h = written-again b bytes (is_place r) (accepted (is_place r) b h)

pub fit_write : (r : Recipe) (c : State) → Fit r c → check_block (is_place r) (write_block c) ≡ fine
fit_write r c f = checked (is_place r) (write_block c) (accepted-again r c f)

pub read-write : (r : Recipe) (c : State) → Fit r c → read_block (write_block c) ≡ c
read-write r c f = read_again r c f
