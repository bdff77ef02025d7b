-- The move at each kind of statement, by the number of its kind; without a value there is none.
-- Assumes nothing.
use Prim.Native.Nat.{ℕ, ◌<◌}
use mathlib.Core.Path.{◌≡◌, sym, ap, ap₂, ◌∙◌}
use mathlib.Core.Option.{Option, some}
use mathlib.Core.List.{List}
use native.Mathlib.Omega.{arith}
use lib.IntN.{ℤ}
use lib.ListN.{get_or}
use lib.Signed.{mag}
use mir.Syntax.{w32}
use mir.Val.{to_z, of_z}
use Rattle.rules.specs.Recipe.{Expr, read, value}
use Rattle.rules.specs.Table.{kind_of, name_of, inner, expr_of}
use Rattle.values.proofs.Exact.{result32}
use Rattle.moves.proofs.Parts.{procedure-is}
use Rattle.moves.proofs.Standing.{test_kind}
use Rattle.moves.proofs.Acting.{skip-moves, give_moves, wait-moves, set-moves, spawn-moves, test-moves, guard-moves, lacks-moves}
use Rattle.moves.proofs.statement.Goals as goal

-- the value of the expression, for a task with that parameter
valued : (p : List ℕ) (vs : List ℤ) {q : List ℕ} {x : Option ℤ} {u z : ℤ} → q ≡ inner p → u ≡ z
    → x ≡ value (record { variables = vs; parameter = z }) (expr_of q) → x ≡ value (record { variables = vs; parameter = u }) (expr_of (inner p))
valued p vs h g e = e ∙ ap₂ (λ (z : ℤ) (e : Expr). value (record { variables = vs; parameter = z }) e) (sym g) (ap expr_of h)

-- as the code reads it
read_back : {v : ℤ} {x : Option ℤ} → mag v < 2147483648 → some v ≡ x → some (to_z w32 (of_z w32 v)) ≡ x
read_back {v} f e = ap some (result32 {z = v} f) ∙ e

pub returns-in_err-eval-in-Set : goal.returns-in_err-eval-in-Set
returns-in_err-eval-in-Set c =
    let a = c.args in
    let n : kind_of a.found.part.now ≡ 3 = rw c.in-Set.is at a.found.named in
    rw c.from_residual.ensures
    (λ t e begin b. lacks-moves begin _ t a.found.part.now a.found.place _ (omega (arith, n)) (omega (arith, n)) (valued a.found.part.now _ c.enclosed.ensures e c.in_err-eval-in-Set.ensures))

pub returns-in-Skip : goal.returns-in-Skip
returns-in-Skip c =
    let a = c.args in
    let n : kind_of a.found.part.now ≡ 2 = rw c.in-Skip.is at a.found.named in
    λ t e begin b. skip-moves begin _ t a.found.part.now a.found.place _ n

pub returns-in_ok-eval-in-Set : goal.returns-in_ok-eval-in-Set
returns-in_ok-eval-in-Set c =
    let a = c.args in
    let n : kind_of a.found.part.now ≡ 3 = rw c.in-Set.is at a.found.named in
    λ t e begin b. set-moves begin _ t a.found.part.now a.found.place _ _ (read_back (omega arith) (valued a.found.part.now _ c.enclosed.ensures e c.in_ok-eval-in-Set.ensures)) n c.requires.0.stands.named

pub returns-in-Suspend : goal.returns-in-Suspend
returns-in-Suspend c =
    let a = c.args in
    let n : kind_of a.found.part.now ≡ 7 = rw c.in-Suspend.is at a.found.named in
    λ t e begin b. give_moves begin _ t a.found.part.now a.found.place _ n

pub returns-in-Await : goal.returns-in-Await
returns-in-Await c =
    let a = c.args in
    let n : kind_of a.found.part.now ≡ 8 = rw c.in-Await.is at a.found.named in
    λ t e begin b. wait-moves begin _ t a.found.part.now a.found.place _ _ n
    (result32 {z = c.variable.result} c.variable.type_inv ∙ c.variable.ensures ∙ ap (λ (z : ℤ). read (record { variables = a.env.variables.now; parameter = z }) (name_of a.found.part.now)) (sym e))

pub returns-in-Guard : goal.returns-in-Guard
returns-in-Guard c =
    let a = c.args in
    let n : kind_of a.found.part.now ≡ 13 = rw c.in-Guard.is at a.found.named in
    λ t e begin b. guard-moves begin _ t a.found.part.now a.found.place _ n

pub returns-in_err-v-in-Spawn : goal.returns-in_err-v-in-Spawn
returns-in_err-v-in-Spawn c =
    let a = c.args in
    let n : kind_of a.found.part.now ≡ 6 = rw c.in-Spawn.is at a.found.named in
    rw c.from_residual-in_err-v-in-Spawn.ensures
    (λ t e begin b. lacks-moves begin _ t a.found.part.now a.found.place _ (omega (arith, n)) (omega (arith, n)) (valued a.found.part.now _ c.enclosed-in-Spawn.ensures e c.in_err-v-in-Spawn.ensures))

pub returns-in_ok-v-in-Spawn : goal.returns-in_ok-v-in-Spawn
returns-in_ok-v-in-Spawn c =
    let a = c.args in
    let n : kind_of a.found.part.now ≡ 6 = rw c.in-Spawn.is at a.found.named in
    λ t e begin b. spawn-moves begin _ t a.found.part.now a.found.place _ _ (read_back (omega arith) (valued a.found.part.now _ c.enclosed-in-Spawn.ensures e c.in_ok-v-in-Spawn.ensures)) _ n c.requires.0.stands.named
    (ap (λ (i : ℕ). get_or a.links.now.starts i 0) (c.word_of.ensures.0 ∙ procedure-is c.requires.0 n) ∙ b n)

pub returns-in_err-eval-in_default : goal.returns-in_err-eval-in_default
returns-in_err-eval-in_default c =
    let a = c.args in
    let d = c.in_default in
    let n = test_kind (kind_of a.found.part.now) a.found.kind a.found.named c.requires.2 c.requires.1 d.not-Skip d.not-Set d.not-Spawn d.not-Suspend d.not-Await d.not-Guard in
    rw c.from_residual-in_err-eval-in_default.ensures
    (λ t e begin b. lacks-moves begin _ t a.found.part.now a.found.place _ (omega (arith, n)) (omega (arith, n)) (valued a.found.part.now _ c.enclosed-in_default.ensures e c.in_err-eval-in_default.ensures))

pub returns-in_ok-eval-in_default : goal.returns-in_ok-eval-in_default
returns-in_ok-eval-in_default c =
    let a = c.args in
    let d = c.in_default in
    let n = test_kind (kind_of a.found.part.now) a.found.kind a.found.named c.requires.2 c.requires.1 d.not-Skip d.not-Set d.not-Spawn d.not-Suspend d.not-Await d.not-Guard in
    λ t e begin b. test-moves begin _ t a.found.part.now a.found.place _ _ (read_back (omega arith) (valued a.found.part.now _ c.enclosed-in_default.ensures e c.in_ok-eval-in_default.ensures)) _ n c.branch-branch.ensures
