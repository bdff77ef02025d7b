-- Neither maker's code can change the other's valve work.
-- Assumes nothing.
use Prim.Native.Nat.{ℕ}
use mathlib.Core.Path.{◌≡◌, refl, sym, ap, ◌∙◌, subst, fun_ext}
use mathlib.Core.Logic.{◌⊎◌, inl, inr}
use mathlib.Core.Bool.{Bool, true, false, ◌&&◌, not, cond}
use mathlib.Core.List.{List, [], ◌∷◌, map}
use native.Mathlib.Omega.{arith}
use lib.Dec.{eqb, leb}
use lib.IntN.{ℤ, pos}
use lib.ListN.{length, get_or}
use borrow.Author.Tests.{leb-true, ne_eqb}
use Rattle.rules.specs.Recipe.{constant, spawn, Body, fin, ◌▸◌, Recipe}
use Rattle.rules.specs.Table.{check, fine, recipe_of}
use Rattle.rules.specs.Places.{is_place}
use Rattle.rules.specs.State.{live, fresh, head_row, task_row, joined, write_block}
use Rattle.rules.specs.Log.{Event, log_bytes}
use Rattle.rules.specs.Steps.{limits, recipes}
use Rattle.rules.specs.Run.{Started, Outcome, Opened, opens, open_on, start_on}
use Rattle.rules.specs.Moments.{trace, finally}
use Rattle.rules.specs.Fairness.{records}
use Rattle.rules.specs.Why.{among}
use Rattle.rules.specs.Demand.{Bytes, Given, outcomes, logs_written, calls, AllRun, DemandOf}
use Rattle.rules.proofs.Lists.{every_map}
use Rattle.rules.proofs.Verdicts.{and_true}
use Rattle.rules.proofs.Fit.{TaskFit}
use Rattle.rules.proofs.Answers.{fresh-accepted}
use Rattle.rules.proofs.Says.{start-says}
use Rattle.rules.proofs.Demand.{open_fits, demand}
use Rattle.runner.specs.Calls.{Called, result, made_of, Calls}
use Rattle.runner.proofs.Calling.{start-fresh}
use Rattle.paper.specs.Paper.{running, task}
use Rattle.paper.specs.Follows.{shown, Placed}
use Rattle.paper.proofs.Runs.{paper_rules}
use Rattle.makers.specs.Uses.{names}
use Rattle.makers.specs.Makers.{Starts, unnamed, disjoint, holds, TwoMakers, OnlyOtherDiffers}
use Rattle.makers.specs.Claim.{settings_in, OneBegins, FromFresh, Undisturbed, KeptApart}
use Rattle.makers.proofs.Uses.{is_in, all_of}
use Rattle.makers.proofs.Alone.{first_settings, either_begins}
use Rattle.makers.proofs.Link.{plain, held, others, plain-others, held-others, PumpU, DrumU, Side, Shares}
use Rattle.makers.proofs.Premises.{not_yes, among_every, not_both, role, other_role, pump_use, drum_use, disjoint_sym, names_same, Each, Main, main_is, swapped}
use Rattle.makers.proofs.Opening.{zeros, first_alone, Firsts, at_first}
use Rattle.makers.proofs.Runs.{settings, simulated}
use Rattle.makers.proofs.Bytes.{below, bytes, settings_read, one_begins}

-- ---- the block that start leaves

fresh_bytes : Bytes (write_block fresh)
unfolding fresh write_block head_row task_row joined below
fresh_bytes = bytes (write_block fresh) refl

start_left : (t b : List ℕ) → check t ≡ fine → length b ≡ 776 → (start_on t b).block ≡ write_block fresh
start_left t b e h = sym (ap (λ (s : Started). s.block) (start-fresh t b e (write_block fresh) h refl))

-- ---- one recipe

-- a name that is not this maker's is no valve of its records
not_named : (r : Recipe) (ps : List ℕ) (v : ℕ) → role r ps v ≡ others → names r ps v ≡ false
not_named r ps v h = go (holds r ps v) (names r ps v) h
  where
    go : (a b : Bool) → cond a held (cond b plain others) ≡ others → b ≡ false
    go true b e = absurd (held-others refl e)
    go false true e = absurd (plain-others refl e)
    go false false e = refl

-- the maker of these procedures
abbrev side : Recipe → List ℕ → (ℕ → Body) → Side
side r ps begin = record { role = role r ps; mine = names r ps; foreign = not_named r ps; pump = is_in ps; begin = begin }

shared : (r : Recipe) (pump drum : List ℕ) (begin : ℕ → Body) → TwoMakers r pump drum → ((p : ℕ) → among p pump ≡ true → get_or r p fin ≡ begin p) → Shares (side r pump begin) (is_in drum) r
shared r pump drum begin m given =
    let d : disjoint r drum pump ≡ true = disjoint_sym r pump drum m.names_differ in
    record {
      pumps = λ p a. all_of (PumpU (role r pump) (is_in pump)) r pump (pump_use r pump m.pump_alone) p a;
      given = given;
      drums = λ p a. all_of (DrumU (role r pump) (is_in drum)) r drum (drum_use r pump m.pump_alone drum d m.drum_alone.spawns) p a;
    }

-- the maker's first task
record First (r : Recipe) (pump drum : List ℕ) : Type 0 where
  first : Starts
  second : Starts
  main : Main r pump drum first second
  procedure : ℕ
  argument : ℤ
  firsts : Firsts (is_in pump) (is_in drum) first second procedure argument

unnamed_is : (r : Recipe) (pump drum : List ℕ) (n : ℕ) → unnamed r pump drum n ≡ true → (eqb n 64 ≡ false) × (names r pump n ≡ false)
unnamed_is r pump drum n h =
    let a = and_true (leb n 63 && not (names r pump n)) (not (names r drum n)) h in
    let b = and_true (leb n 63) (not (names r pump n)) a.0 in
    (ne_eqb n 64 (λ e. omega (arith, e, leb-true n 63 b.0)), not_yes (names r pump n) b.1)

-- What a list of calls on a table sets the maker's valves to is what so many steps of its tasks alone do.
-- (pump: the maker; drum: the other; f: the maker's first task; begin: its procedures.)
module _ (t : List ℕ) (bt : Bytes t) (pump drum : List ℕ) (m : TwoMakers (recipe_of t) pump drum) (f : First (recipe_of t) pump drum) (begin : ℕ → Body)
    (given : (p : ℕ) → among p pump ≡ true → get_or (recipe_of t) p fin ≡ begin p) where
  abbrev r : Recipe
  r = recipe_of t

  record Logged (b : List ℕ) (gs : List Given) : Type 0 where
    xs : List Event
    logged : logs_written (outcomes t (start_on t b).block gs) ≡ log_bytes xs
    count : ℕ
    same : settings (names r pump) xs ≡ first_settings begin (names r pump) count (first_alone begin f.procedure f.argument)

  on_table : (b : List ℕ) → check t ≡ fine → length b ≡ 776 → (gs : List Given) → Logged b gs
  on_table b e h gs =
      let bb : Bytes (start_on t b).block = rw (start_left t b e h) fresh_bytes in
      let o : open_on t (start_on t b).block ≡ opens r fresh = fresh-accepted t b e h in
      let all : AllRun r fresh t (start_on t b).block gs = subst (λ (o : Opened). DemandOf o t (start_on t b).block gs) o (demand t (start_on t b).block bt bb gs) in
      let fits = open_fits t (start_on t b).block r fresh bt bb o in
      let cs = calls t (start_on t b).block gs in
      let ms = trace (recipes r) fresh cs in
      let k = side r pump begin in
      let d = is_in drum in
      let both = shared r pump drum begin m given in
      let s = unnamed_is r pump drum f.first.name f.main.first_unnamed in
      let u = unnamed_is r pump drum f.second.name f.main.second_unnamed in
      let placed : Placed r fresh = every_map (TaskFit r fresh.store) (λ t. is_place r t.place ≡ true) (λ t g. g.placed) (live fresh) fits.fit.tasks_fit in
      let initial = (paper_rules t bt e).starts ∙ ap (λ (b : Body). running (task 1 b (pos 0)) [] zeros) f.main.block in
      let stage = at_first k d limits r both f.first f.second f.procedure f.argument (shown r fresh) initial s.0 u.0 (other_role r pump f.first.name s.1) (other_role r pump f.second.name u.1) f.firsts in
      let sim = simulated k d r fits.within both ms fresh (finally (recipes r) fresh cs) (first_alone begin f.procedure f.argument) placed stage all.demand.chain in
      record { xs = records (recipes r) ms; logged = all.logged; count = sim.count; same = sim.same }

-- ---- two recipes that have the maker's procedures in common

-- the maker's first task is the same
record SameFirst (r r' : Recipe) (pump drum drum' : List ℕ) (f : First r pump drum) : Type 0 where
  that : First r' pump drum'
  same_procedure : that.procedure ≡ f.procedure
  same_argument : that.argument ≡ f.argument

a_first : (r : Recipe) (pump drum : List ℕ) → TwoMakers r pump drum → First r pump drum
a_first r pump drum m = let (s, t, h) = main_is r pump drum m.main in go s t h h.each
  where
    go : (s t : Starts) → Main r pump drum s t → Each pump drum s.procedure t.procedure → First r pump drum
    go s t h (inl e) = record { first = s; second = t; main = h; procedure = s.procedure; argument = s.argument; firsts = inl (e.0, e.1, refl, refl) }
    go s t h (inr e) = record { first = s; second = t; main = h; procedure = t.procedure; argument = t.argument; firsts = inr (e.0, e.1, refl, refl) }

-- two main blocks that are one
record Agree (s t s' t' : Starts) : Type 0 where
  first_procedure : s.procedure ≡ s'.procedure
  first_argument : s.argument ≡ s'.argument
  second_procedure : t.procedure ≡ t'.procedure
  second_argument : t.argument ≡ t'.argument

same_first : (r r' : Recipe) (pump drum drum' : List ℕ) → TwoMakers r' pump drum' → OnlyOtherDiffers r r' pump → (f : First r pump drum) → SameFirst r r' pump drum drum' f
same_first r r' pump drum drum' m' k f = let (s', t', h') = main_is r' pump drum' m'.main in go s' t' h' h'.each f.firsts
  where
    s : Starts
    s = f.first

    t : Starts
    t = f.second

    agree : (s' t' : Starts) → Main r' pump drum' s' t' → Agree s t s' t'
    agree s' t' h =
        let e : (spawn s.name s.procedure (constant s.argument) ▸ (spawn t.name t.procedure (constant t.argument) ▸ fin)) ≡ (spawn s'.name s'.procedure (constant s'.argument) ▸ (spawn t'.name t'.procedure (constant t'.argument) ▸ fin)) = sym f.main.block ∙ k.main ∙ h.block in
        record { first_procedure = cc; first_argument = cc; second_procedure = cc; second_argument = cc }

    go : (s' t' : Starts) → Main r' pump drum' s' t' → Each pump drum' s'.procedure t'.procedure → Firsts (is_in pump) (is_in drum) s t f.procedure f.argument → SameFirst r r' pump drum drum' f
    go s' t' h (inl e) (inl g) =
        let a = agree s' t' h in
        record {
          that = record { first = s'; second = t'; main = h; procedure = s'.procedure; argument = s'.argument; firsts = inl (e.0, e.1, refl, refl) };
          same_procedure = sym a.first_procedure ∙ g.2;
          same_argument = sym a.first_argument ∙ g.3;
        }
    go s' t' h (inr e) (inr g) =
        let a = agree s' t' h in
        record {
          that = record { first = s'; second = t'; main = h; procedure = t'.procedure; argument = t'.argument; firsts = inr (e.0, e.1, refl, refl) };
          same_procedure = sym a.second_procedure ∙ g.2;
          same_argument = sym a.second_argument ∙ g.3;
        }
    go s' t' h (inl e) (inr g) = let a = agree s' t' h in absurd (not_both pump drum' m'.procedures t'.procedure (ap (is_in pump) (sym a.second_procedure) ∙ g.1) e.1)
    go s' t' h (inr e) (inl g) = let a = agree s' t' h in absurd (not_both pump drum' m'.procedures s'.procedure (ap (is_in pump) (sym a.first_procedure) ∙ g.0) e.0)

-- of any two lists of calls, as the definitions have them
undisturbed : (t t' : List ℕ) → Bytes t → Bytes t' → (pump drum drum' : List ℕ) → TwoMakers (recipe_of t) pump drum → TwoMakers (recipe_of t') pump drum' → OnlyOtherDiffers (recipe_of t) (recipe_of t') pump
    → (b b' : List ℕ) → (start_on t b).number ≡ 0 → (start_on t' b').number ≡ 0 → (gs gs' : List Given)
    → OneBegins (settings_in (names (recipe_of t) pump) (logs_written (outcomes t (start_on t b).block gs))) (settings_in (names (recipe_of t) pump) (logs_written (outcomes t' (start_on t' b').block gs')))
undisturbed t t' bt bt' pump drum drum' m m' k b b' h h' gs gs' =
    let r = recipe_of t in
    let r' = recipe_of t' in
    let a = (start-says t b).accepted.0 h in
    let a' = (start-says t' b').accepted.0 h' in
    let f = a_first r pump drum m in
    let f' = same_first r r' pump drum drum' m' k f in
    let begin : ℕ → Body = λ p. get_or r p fin in
    let p = on_table t bt pump drum m f begin (λ p e. refl) b a.0 a.1 gs in
    let p' = on_table t' bt' pump drum' m' f'.that begin (λ p e. sym (among_every (λ p. get_or r p fin ≡ get_or r' p fin) pump k.procedures p e)) b' a'.0 a'.1 gs' in
    let mines : names r pump ≡ names r' pump = fun_ext (names_same r r' pump k.procedures) in
    let there : settings (names r pump) p'.xs ≡ first_settings begin (names r pump) p'.count (first_alone begin f.procedure f.argument) =
    subst (λ (mine : ℕ → Bool). settings mine p'.xs ≡ first_settings begin mine p'.count (first_alone begin f.procedure f.argument)) (sym mines)
    (p'.same ∙ ap (λ (q : ℕ). first_settings begin (names r' pump) p'.count (first_alone begin q f'.that.argument)) f'.same_procedure
    ∙ ap (λ (z : ℤ). first_settings begin (names r' pump) p'.count (first_alone begin f.procedure z)) f'.same_argument) in
    let o : OneBegins (settings (names r pump) p.xs) (settings (names r pump) p'.xs) = rw (p.same, there) (either_begins begin (names r pump) p.count p'.count (first_alone begin f.procedure f.argument)) in
    rw (p.logged, p'.logged, settings_read (names r pump) p.xs, settings_read (names r pump) p'.xs) (one_begins (settings (names r pump) p.xs) (settings (names r pump) p'.xs) o)

-- ---- calls as they were made

abbrev given : List Called → List Given
given cs = map (λ c. (made_of c).given) cs

results_are : (t b : List ℕ) (cs : List Called) → Calls t b cs → map result cs ≡ outcomes t b (given cs)
unfolding outcomes
results_are t b [] h = refl
results_are t b (c ∷ cs) h =
    subst (λ (o : Outcome). result c ∷ map result cs ≡ o ∷ outcomes t o.block (given cs)) h.0
    (ap (λ (os : List Outcome). result c ∷ os) (results_are t c.block_left cs h.1))

-- a list of calls from fresh, as the definitions have it
record Listed (t : List ℕ) (cs : List Called) : Type 0 where
  block : List ℕ
  accepted : (start_on t block).number ≡ 0
  results : map result cs ≡ outcomes t (start_on t block).block (given cs)

listed : (t : List ℕ) (cs : List Called) → FromFresh t cs → Listed t cs
listed t cs f = record {
  block = f.block;
  accepted = sym (ap (λ (s : Started). s.number) f.started) ∙ f.accepted;
  results = subst (λ (b : List ℕ). map result cs ≡ outcomes t b (given cs)) (ap (λ (s : Started). s.block) f.started) (results_are t f.left cs f.ran);
}

kept : (t t' : List ℕ) → Bytes t → Bytes t' → (pump drum drum' : List ℕ) → TwoMakers (recipe_of t) pump drum → TwoMakers (recipe_of t') pump drum' → OnlyOtherDiffers (recipe_of t) (recipe_of t') pump → Undisturbed t t' pump
kept t t' bt bt' pump drum drum' m m' k cs cs' f f' =
    let l = listed t cs f in
    let l' = listed t' cs' f' in
    rw (l.results, l'.results) (undisturbed t t' bt bt' pump drum drum' m m' k l.block l'.block l.accepted l'.accepted (given cs) (given cs'))

-- The theorem.
pub kept_apart : (t t' : List ℕ) → Bytes t → Bytes t' → KeptApart t t'
kept_apart t t' bt bt' = record {
  pump_kept = λ pump drum drum' m m' k. kept t t' bt bt' pump drum drum' m m' k;
  drum_kept = λ pump pump' drum m m' k. kept t t' bt bt' drum pump pump' (swapped (recipe_of t) pump drum m) (swapped (recipe_of t') pump' drum m') k;
}
