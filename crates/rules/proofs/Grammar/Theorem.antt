-- A table is accepted exactly when it spells a recipe within the limits, and each such recipe has one table.
-- Assumes nothing.
use Prim.Native.Nat.{ℕ, ◌%◌, ◌≤◌}
use mathlib.Core.Path.{◌≡◌, refl, sym, ap, ◌∙◌, subst}
use mathlib.Core.Bool.{Bool, true, false, ◌&&◌, cond}
use mathlib.Core.List.{List}
use native.Mathlib.Omega.{arith}
use lib.Dec.{eqb, leb}
use lib.ListN.{length}
use borrow.Author.Tests.{le-leb, eq-eqb, leb-true, eqb-true}
use Rattle.rules.specs.Demand.{Bytes}
use Rattle.rules.specs.Recipe.{Recipe, size_r, encode, Within}
use Rattle.rules.specs.Table.{fine, fault, ◌else◌, procedure, check_rows, check_spawns, procedures, records, length_fits, check, recipe_of}
use Rattle.rules.specs.Grammar.{Spells, Grammar, OneTable}
use Rattle.rules.proofs.Grammar.Rows.{length-encode}
use Rattle.rules.proofs.Grammar.Reading.{recipe_of_lem}
use Rattle.rules.proofs.Grammar.Passing.{procedures_pass}
use Rattle.rules.proofs.Grammar.Spawns.{count-procedures, spawns_pass, passed_spawns}
use Rattle.rules.proofs.Grammar.Accepting.{reads_r}
use Rattle.rules.proofs.Grammar.Bytes.{table-bytes}
use Rattle.rules.proofs.Verdicts.{and_true, else_fine}

records-encode : (r : Recipe) → records (encode r) ≡ size_r r
records-encode r = omega (arith, length-encode r)

-- what spells a recipe passes
pub encode-passes : (r : Recipe) → Within r → check (encode r) ≡ fine
unfolding check
encode-passes r w =
    let l = length-encode r in
    let fits : length_fits (length (encode r)) ≡ true =
    rw (le-leb 1 (length (encode r)) (omega (arith, w.some)), eq-eqb (length (encode r) % 8) 0 (omega arith), le-leb (length (encode r)) 32768 (omega (arith, w.few))) refl in
    rw (fits, procedures_pass r (length r) 0 w.bodies, records-encode r, count-procedures r, spawns_pass r (length r) 0 w.bodies) refl

pub record Length (l : ℕ) : Type 0 where
  pub some : 1 ≤ l
  pub aligned : l % 8 ≡ 0
  pub few : l ≤ 32768

pub length-fits : (l : ℕ) → length_fits l ≡ true → Length l
length-fits l h =
    let a = and_true (leb 1 l && eqb (l % 8) 0) (leb l 32768) h in
    let b = and_true (leb 1 l) (eqb (l % 8) 0) a.0 in
    record { some = leb-true 1 l b.0; aligned = eqb-true (l % 8) 0 b.1; few = leb-true l 32768 a.1 }

-- what passes spells a recipe
pub check-reads : (t : List ℕ) → Bytes t → check t ≡ fine → (r : Recipe) × Spells t r
unfolding check
check-reads t b e = go (length_fits (length t)) refl e
  where
    go : (x : Bool) → length_fits (length t) ≡ x → cond x (check_rows procedure 17 0 t else check_spawns (records t) (procedures (records t) t) 0 t) (fault 11 0) ≡ fine → (r : Recipe) × Spells t r
    go false h e = absurd (let z : ◌≡◌ {A = ℕ} 0 1 = cc in omega arith)
    go true h e =
        let l = length-fits (length t) h in
        let f = else_fine (check_rows procedure 17 0 t) (check_spawns (records t) (procedures (records t) t) 0 t) e in
        let x = reads_r (length t) 0 t (omega arith) b f.0 in
        let r = x.recipe in
        let n = ap length x.spelt ∙ length-encode r in
        let s : check_spawns (size_r r) (length r) 0 (encode r) ≡ fine =
        subst (λ (m : ℕ). check_spawns (size_r r) m 0 (encode r) ≡ fine) (count-procedures r)
        (subst (λ (k : ℕ). check_spawns k (procedures k (encode r)) 0 (encode r) ≡ fine) (records-encode r)
        (subst (λ (p : List ℕ). check_spawns (records p) (procedures (records p) p) 0 p ≡ fine) x.spelt f.1)) in
        (r, record { spelt = x.spelt; within = record { some = omega (arith, l.some); few = omega (arith, l.few); bodies = passed_spawns r 256 (length r) 0 x.bodies s } })

-- the recipe that an accepted table spells is the one that it is read as
pub accepted-spells : (t : List ℕ) → Bytes t → check t ≡ fine → Spells t (recipe_of t)
accepted-spells t b e =
    let x = check-reads t b e in
    subst (Spells t) (sym (ap recipe_of x.1.spelt ∙ recipe_of_lem x.0 x.1.within)) x.1

pub grammar : (t : List ℕ) → Bytes t → Grammar t
grammar t b =
    record {
      accepted = (check-reads t b, λ x. ap check x.1.spelt ∙ encode-passes x.0 x.1.within);
      spells = accepted-spells t b;
      one_recipe = λ r s. sym (recipe_of_lem r s.within) ∙ ap recipe_of (sym s.spelt);
    }

pub one_table : (r : Recipe) → Within r → OneTable r
one_table r w =
    record {
      bytes = table-bytes r w;
      accepted = encode-passes r w;
      reads = recipe_of_lem r w;
      only = λ t b e h. (accepted-spells t b e).spelt ∙ ap encode h;
    }
