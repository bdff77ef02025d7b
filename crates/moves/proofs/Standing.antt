-- What stands at the place of the active task, by the first byte of its record.
-- Assumes nothing.
use Prim.Native.Nat.{ℕ, suc, ◌+◌, ◌*◌, ◌≤◌, ◌<◌}
use mathlib.Core.Path.{◌≡◌, refl, sym, ap, ◌∙◌}
use mathlib.Core.Bool.{Bool, true, false, ◌||◌, true≢false}
use mathlib.Core.List.{List}
use mathlib.Core.Logic.{◌⊎◌, inl, inr, dite}
use native.Mathlib.Decide.{dec_lt, ℕ_discrete}
use native.Mathlib.Omega.{arith}
use lib.Dec.{eqb, leb}
use lib.ListN.{length, get_or, drop, length-drop, get_or-eq_default}
use borrow.Author.Tests.{eq-eqb, ne_eqb, leb-true}
use Rattle.std.specs.Prelude.{Option, Some, None}
use Rattle.rules.specs.Table.{kind_of, span_of, records, recipe_of}
use Rattle.rules.specs.Places.{stop, at, start}
use Rattle.rules.specs.Standing.{next_of, point_at, at_place}
use Rattle.rules.proofs.Verdicts.{or_left}
use Rattle.rules.proofs.Standing.{choose, kind_at, spells, size}
use Rattle.table.specs.declared.record.Kind.{Kind}
use Rattle.table.specs.declared.record.Kind.TheVariants.{Procedure, Skip, Set, If, While, Spawn, Suspend, Await, Constant, Variable, Binary, Unary, Guard}
use Rattle.table.specs.Kinds.{number_of, kind_named, kind_there}
use Rattle.table.proofs.Numbered.{at_each, number-named, one-number}
use Rattle.links.specs.Links.{is_statement}
use Rattle.links.specs.Linked.{Leads, Linked}
use Rattle.links.specs.declared.Links.{Links}
use Rattle.moves.specs.Moves.{Part, Begins}
use Rattle.ready.proofs.There.{Place, within, room, end-there, point_there, shape_there}

above : (n k : ℕ) → n ≤ k → ¬ (k ≡ n) → suc n ≤ k
above n k l h = omega arith

-- a place's kind beyond 8 is the guard's
beyond_eight : (k : ℕ) → at_place k ≡ true → 9 ≤ k → k ≡ 13
beyond_eight k h g = dite (ℕ_discrete k 13) (λ e. e) (λ n. absurd (omega (arith, leb-true k 8 (or_left (leb k 8) (eqb k 13) h (ne_eqb k 13 n)))))

-- and what is no other statement is an if or a while
pub test_kind : (n : ℕ) (k : Kind) → n ≡ number_of k → at_place n ≡ true → 2 ≤ n → ¬ (k ≡ Skip) → ¬ (k ≡ Set) → ¬ (k ≡ Spawn) → ¬ (k ≡ Suspend) → ¬ (k ≡ Await) → ¬ (k ≡ Guard)
    → (n ≡ 4) ⊎ (n ≡ 5)
test_kind n Procedure e h l a b c d f g = absurd (omega (arith, e))
test_kind n Skip e h l a b c d f g = absurd (a refl)
test_kind n Set e h l a b c d f g = absurd (b refl)
test_kind n If e h l a b c d f g = inl e
test_kind n While e h l a b c d f g = inr e
test_kind n Spawn e h l a b c d f g = absurd (c refl)
test_kind n Suspend e h l a b c d f g = absurd (d refl)
test_kind n Await e h l a b c d f g = absurd (f refl)
test_kind n Constant e h l a b c d f g = absurd (true≢false (sym (rw e at h)))
test_kind n Variable e h l a b c d f g = absurd (true≢false (sym (rw e at h)))
test_kind n Binary e h l a b c d f g = absurd (true≢false (sym (rw e at h)))
test_kind n Unary e h l a b c d f g = absurd (true≢false (sym (rw e at h)))
test_kind n Guard e h l a b c d f g = absurd (g refl)

statement-kind : (p : List ℕ) (i next : ℕ) → 2 ≤ kind_of p → at_place (kind_of p) ≡ true → is_statement (point_at p i next) ≡ true
unfolding point_at
statement-kind p i next h g =
    rw (ne_eqb (kind_of p) 1 (omega arith))
    (choose is_statement true (kind_of p) 2 _ _ refl (λ a.
    choose is_statement true (kind_of p) 3 _ _ refl (λ b.
    choose is_statement true (kind_of p) 4 _ _ refl (λ c.
    choose is_statement true (kind_of p) 5 _ _ refl (λ d.
    choose is_statement true (kind_of p) 6 _ _ refl (λ e.
    choose is_statement true (kind_of p) 7 _ _ refl (λ f.
    choose is_statement true (kind_of p) 8 _ _ refl (λ j. rw (eq-eqb (kind_of p) 13 (beyond_eight (kind_of p) g (above 8 _ (above 7 _ (above 6 _ (above 5 _ (above 4 _ (above 3 _ (above 2 _ h a) b) c) d) e) f) j)))))))))))

stop-kind : (p : List ℕ) (i next : ℕ) → kind_of p ≡ 1 → point_at p i next ≡ stop
unfolding point_at
stop-kind p i next h = rw h

-- ---- kinds by the bytes that name them

is_some : Option Kind → Bool
is_some None = false
is_some (Some k) = true

none-named : (n : ℕ) → 1 ≤ n → n ≤ 13 → ¬ (kind_named n ≡ None)
unfolding is_some
none-named n l h e = true≢false (sym (at_each (λ m. eqb m 0 || is_some (kind_named m)) 14 refl n (omega arith)) ∙ rw (ne_eqb n 0 (omega arith), e) refl)

-- behind the last record none is named
inside : (t : List ℕ) (off : ℕ) (k : Kind) → kind_there t off ≡ Some k → off < length t
unfolding is_some
inside t off k e =
    dite (dec_lt off (length t)) (λ l. l)
    (λ g. absurd (true≢false (sym (ap (λ (n : ℕ). is_some (kind_named n)) (sym (get_or-eq_default t 0 {n = off} (omega arith))) ∙ ap is_some e))))

module _ {t : List ℕ} {i : ℕ} (p : Place t i) where
  -- the end of the table
  pub stop-none : kind_there t (8 * i) ≡ None → at (recipe_of t) i ≡ stop
  stop-none e =
      dite (dec_lt (8 * i) (length t))
      (λ l. let s = shape_there p l in absurd (none-named (kind_of (drop (8 * i) t)) s.some_kind s.a_kind (ap kind_named (kind_at t (8 * i)) ∙ e)))
      (λ g. end-there p (omega arith))

  -- a procedure's record, which is the end of the procedure before
  pub stop-procedure : kind_there t (8 * i) ≡ Some Procedure → at (recipe_of t) i ≡ stop
  stop-procedure e =
      point_there p (inside t (8 * i) Procedure e) ∙ stop-kind (drop (8 * i) t) i (next_of (at (recipe_of t) i)) (kind_at t (8 * i) ∙ number-named _ Procedure e)

  -- a statement's record
  module _ (k : Kind) (e : kind_there t (8 * i) ≡ Some k) (h : ¬ (k ≡ Procedure)) where
    pub inside-there : 8 * i < length t
    inside-there = inside t (8 * i) k e

    pub kind-there : kind_of (drop (8 * i) t) ≡ number_of k
    kind-there = kind_at t (8 * i) ∙ number-named _ k e

    pub part-there : Part (drop (8 * i) t)
    part-there = record { procedures = length (recipe_of t); stands = shape_there p inside-there }

    pub span-there : i + 1 + span_of (drop (8 * i) t) ≤ 4096
    span-there =
        let s = (shape_there p inside-there).whole in
        omega (arith, length-drop (8 * i) t, size t p.bytes p.accepted, (spells t p.bytes p.accepted).within.few)

    pub from-two : 2 ≤ kind_of (drop (8 * i) t)
    from-two =
        let other : ¬ (kind_of (drop (8 * i) t) ≡ 1) = λ z. h (one-number k Procedure (sym kind-there ∙ z)) in
        omega (arith, (shape_there p inside-there).some_kind)

    pub some-place : at_place (kind_of (drop (8 * i) t)) ≡ true
    some-place =
        let other : eqb i (records t) ≡ false = ne_eqb i (records t) (omega (arith, room p inside-there)) in
        rw other at (within p).2

    pub leads-there : (next : List ℕ) → Leads (recipe_of t) next
        → at (recipe_of t) i ≡ point_at (drop (8 * i) t) i (get_or next i 0)
    leads-there next f =
        let s = ap is_statement (point_there p inside-there) ∙ statement-kind (drop (8 * i) t) i _ from-two some-place in
        point_there p inside-there ∙ ap (point_at (drop (8 * i) t) i) (sym (f i s))

    pub begins_there : (links : Links) → Linked (recipe_of t) links
        → Begins (start (recipe_of t)) links.starts (drop (8 * i) t)
    begins_there links f e = let s = (shape_there p inside-there).spawned e in f.start_is _ s.small s.there
