-- The check of a whole table: its length, its procedures and its spawns, record by record.
-- Assumes nothing.
use Prim.Native.Nat.{ℕ, suc, ◌+◌, ◌%◌, ◌<◌}
use mathlib.Core.Path.{◌≡◌, refl, ap, ◌∙◌}
use mathlib.Core.Bool.{true, false, cond}
use mathlib.Core.List.{List, [], ◌++◌}
use native.Mathlib.Omega.{arith}
use lib.Dec.{eqb}
use lib.ListN.{length, get_or, drop, length-append, get_or-append}
use lib.Seq.{drop-append_seam}
use Rattle.std.proofs.lemmas.List.{nil_from_length}
use Rattle.rules.specs.Table.{kind_of, fine, fault, procedure, check_rows, check_spawns, names_none, procedures, records, length_fits, check}
use Rattle.rules.proofs.Grammar.Theorem.{length-fits}
use Rattle.table.specs.Check.{Row}

pub fit_row : (p : List ℕ) → length_fits (length p) ≡ true → Row 0 p
fit_row p h = let l = length-fits (length p) h in record { aligned = l.aligned; placed = omega (arith, l.few) }

-- ---- the records that are still to come

-- whole chunks of 8 bytes
pub record Chunks (p : List ℕ) (size : ℕ) : Type 0 where
  pub eight : size ≡ 8
  pub aligned : length p % 8 ≡ 0

pub chunks_none : {p : List ℕ} {size : ℕ} → Chunks p size → length p < size → p ≡ []
chunks_none {p} c h = nil_from_length p (let e = c.eight in let a = c.aligned in omega arith)

-- x is the first of p, and q what follows it
pub record Next (p x q : List ℕ) : Type 0 where
  pub aligned : length p % 8 ≡ 0
  pub joined : p ≡ x ++ q
  pub eight : length x ≡ 8

pub chunk-next : (p x q : List ℕ) {size : ℕ} → Chunks p size → p ≡ x ++ q → length x ≡ size → Next p x q
chunk-next p x q c e h = record { aligned = c.aligned; joined = e; eight = h ∙ c.eight }

module _ {p x q : List ℕ} (s : Next p x q) where
  pub chunk-length : length p ≡ 8 + length q
  chunk-length = let l = s.eight in omega (arith, ap length s.joined, length-append x q)

  pub chunks-next : {n size : ℕ} → Chunks p size → n ≡ size → Chunks q n
  chunks-next c f = record { eight = f ∙ c.eight; aligned = let w = chunk-length in let a = s.aligned in omega arith }

  byte : (k : ℕ) → k < 8 → get_or p k 0 ≡ get_or x k 0
  byte k l = ap (λ (t : List ℕ). get_or t k 0) s.joined ∙ get_or-append x q 0 k (let e = s.eight in omega arith)

  names-chunk : (n : ℕ) → names_none n p ≡ names_none n x
  names-chunk n = rw (byte 0 (omega arith), byte 4 (omega arith), byte 5 (omega arith), byte 6 (omega arith), byte 7 (omega arith)) refl

  behind : drop 8 p ≡ q
  behind = rw (s.joined, ← s.eight) (drop-append_seam x q)

  records-next : records p ≡ suc (records q)
  records-next = let w = chunk-length in omega arith

  pub procedures-next : procedures (records p) p ≡ cond (eqb (kind_of x) 1) 1 0 + procedures (records q) q
  unfolding procedures
  procedures-next = rw (records-next, behind, byte 0 (omega arith)) refl

  module _ (n i : ℕ) where
    pub spawns-here : names_none n x ≡ true → fault 17 i ≡ check_spawns (records p) n i p
    unfolding check_spawns
    spawns-here t = rw (records-next, names-chunk n, t) refl

    pub spawns-next : names_none n x ≡ false → check_spawns (records q) n (i + 1) q ≡ check_spawns (records p) n i p
    unfolding check_spawns
    spawns-next t = rw (records-next, behind, names-chunk n, t) refl

pub no-procedures : procedures (records []) [] ≡ 0
unfolding procedures
no-procedures = refl

pub no-spawns : (n i : ℕ) → check_spawns (records []) n i [] ≡ fine
unfolding check_spawns
no-spawns n i = refl

-- ---- the whole

module _ (t : List ℕ) where
  pub wrong_length : length_fits (length t) ≡ false → fault 11 0 ≡ check t
  unfolding check
  wrong_length h = rw h refl

  module _ (h : length_fits (length t) ≡ true) where
    pub rows-fault : {n i : ℕ} → check_rows procedure 17 0 t ≡ fault n i → fault n i ≡ check t
    unfolding check
    rows-fault e = rw (h, e) refl

    pub spawns_decide : {n : ℕ} → check_rows procedure 17 0 t ≡ fine → n ≡ procedures (records t) t → check_spawns (records t) n 0 t ≡ check t
    unfolding check
    spawns_decide e f = rw (f, h, e) refl
