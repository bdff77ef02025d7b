-- Pairs of recipes of two makers, the calls made on each, and what these set a maker's valves to:
-- pairs that meet every sentence; pairs that break one, and pairs that differ in more than the other
-- maker's procedures, which are not as the claim has it. Beside them, recipes and the sentences that
-- each breaks.
-- Assumes nothing.
use Rattle.std.specs.Prelude.{ℕ, ◌+◌, ◌*◌, ◌≡◌, Bool, true, false, List, [], ◌∷◌, map, ℤ, pos, negsuc, replicate}
use Rattle.rules.specs.Recipe.{Expr, constant, variable, two, one, skip, assign, if, while, spawn, suspend, await, guard, Body, fin, ◌▸◌, Recipe, encode}
use Rattle.rules.specs.Table.{recipe_of}
use Rattle.rules.specs.Fairness.{Every}
use Rattle.rules.specs.Demand.{Given, numbers_said}
use Rattle.runner.specs.Calls.{Called, result, made_of}
use Rattle.makers.specs.Uses.{names}
use Rattle.makers.specs.Makers.{apart, main_spawns_both, disjoint, spawns_own, awaits_spawned, unread, TwoMakers, OnlyOtherDiffers}
use Rattle.makers.specs.Claim.{Setting, OneBegins, FromFresh, valve_records}

pub data Maker : Type 0 where
  pump_maker drum_maker : Maker

abbrev pub pumps : List ℕ
pumps = 1 ∷ 2 ∷ []

abbrev pub drums : List ℕ
drums = 3 ∷ 4 ∷ []

-- the sentences, one after the other
abbrev pub tests : Recipe → (pump drum : List ℕ) → List Bool
tests r pump drum =
    apart pump drum
    ∷ main_spawns_both r pump drum
    ∷ disjoint r pump drum
    ∷ spawns_own r pump
    ∷ awaits_spawned r pump
    ∷ unread r pump
    ∷ spawns_own r drum
    ∷ awaits_spawned r drum
    ∷ unread r drum
    ∷ []

abbrev pub broken_from : ℕ → List Bool → List ℕ
broken_from i [] = []
broken_from i (true ∷ bs) = broken_from (i + 1) bs
broken_from i (false ∷ bs) = i ∷ broken_from (i + 1) bs

-- those that a recipe breaks, by their numbers from 1 on
abbrev pub broken_by : Recipe → (pump drum : List ℕ) → List ℕ
broken_by r pump drum = broken_from 1 (tests r pump drum)

-- what the table of a recipe spells
abbrev pub spelt : Recipe → Recipe
spelt r = recipe_of (encode r)

-- ---- what a row has

-- A maker and its procedures, the other maker's, a recipe; another recipe in place of it and the
-- other maker's procedures there; the calls made on either from fresh, the sentences that either
-- breaks, what either's calls set the maker's valves to, and the number that the last one returns.
pub record Pair : Type 0 where
  pub maker : Maker
  pub own : List ℕ
  pub others : List ℕ
  pub other_others : List ℕ
  pub recipe : Recipe
  pub other : Recipe
  pub calls : List Given
  pub other_calls : List Given
  pub breaks : List ℕ
  pub other_breaks : List ℕ
  pub settings : List Setting
  pub other_settings : List Setting
  pub ends : ℕ
  pub other_ends : ℕ

-- whose the procedures are, by the maker and its own and the other's
abbrev pub pump_of : Maker → (own others : List ℕ) → List ℕ
pump_of pump_maker ps qs = ps
pump_of drum_maker ps qs = qs

abbrev pub drum_of : Maker → (own others : List ℕ) → List ℕ
drum_of pump_maker ps qs = qs
drum_of drum_maker ps qs = ps

abbrev pub broken_here : Pair → List ℕ
broken_here x = broken_by (spelt x.recipe) (pump_of x.maker x.own x.others) (drum_of x.maker x.own x.others)

abbrev pub broken_there : Pair → List ℕ
broken_there x = broken_by (spelt x.other) (pump_of x.maker x.own x.other_others) (drum_of x.maker x.own x.other_others)

abbrev pub mine : Pair → ℕ → Bool
mine x = names (spelt x.recipe) x.own

abbrev pub last_of : List ℕ → ℕ
last_of [] = 0
last_of (n ∷ []) = n
last_of (n ∷ (m ∷ ns)) = last_of (m ∷ ns)

-- that it is so: there are such calls, as start and run promise them
pub record Ran (x : Pair) : Type 0 where
  pub breaks_them : broken_here x ≡ x.breaks
  pub other_breaks_them : broken_there x ≡ x.other_breaks
  pub made : List Called
  pub other_made : List Called
  pub as_given : map (λ c. (made_of c).given) made ≡ x.calls
  pub other_as_given : map (λ c. (made_of c).given) other_made ≡ x.other_calls
  pub from_fresh : FromFresh (encode x.recipe) made
  pub other_from_fresh : FromFresh (encode x.other) other_made
  pub sets_valves : valve_records (mine x) made ≡ x.settings
  pub other_sets_valves : valve_records (mine x) other_made ≡ x.other_settings
  pub ends_so : last_of (numbers_said (map result made)) ≡ x.ends
  pub other_ends_so : last_of (numbers_said (map result other_made)) ≡ x.other_ends

-- both meet every sentence
abbrev pub Meet : Pair → Type 0
Meet x =
    TwoMakers (spelt x.recipe) (pump_of x.maker x.own x.others) (drum_of x.maker x.own x.others)
    × TwoMakers (spelt x.other) (pump_of x.maker x.own x.other_others) (drum_of x.maker x.own x.other_others)

-- they differ only in the other maker's procedures
abbrev pub Share : Pair → Type 0
Share x = OnlyOtherDiffers (spelt x.recipe) (spelt x.other) x.own

-- one's records are the beginning of the other's; neither's are
abbrev pub Kept : Pair → Type 0
Kept x = OneBegins x.settings x.other_settings

abbrev pub Disturbed : Pair → Type 0
Disturbed x = ¬ OneBegins x.settings x.other_settings

-- ---- recipes

abbrev pub number : ℕ → Expr
number n = constant (pos n)

-- the main block: procedure 1 into variable 20, with an argument, and procedure 3 into variable 21
abbrev pub main_with : ℤ → Body
main_with z = spawn 20 1 (constant z) ▸ (spawn 21 3 (number 0) ▸ fin)

abbrev pub main : Body
main = main_with (pos 5)

-- the drum maker's first
abbrev pub main_turned : ℤ → Body
main_turned z = spawn 21 3 (number 0) ▸ (spawn 20 1 (constant z) ▸ fin)

abbrev pub recipe_of_five : (main pump pump' drum drum' : Body) → Recipe
recipe_of_five m p q d e = m ∷ (p ∷ (q ∷ (d ∷ (e ∷ []))))

abbrev pub recipe : (pump pump' drum drum' : Body) → Recipe
recipe p q d e = recipe_of_five main p q d e

-- the pump maker: a second task waits at a guard until valve 0 is open, lets the others go on, and
-- sets valve 1; then the first closes valve 0
abbrev pub first_pump : Body
first_pump = spawn 8 2 (variable 64) ▸ (assign 0 (number 1) ▸ (await 8 ▸ (assign 0 (number 0) ▸ fin)))

abbrev pub second_pump : Body
second_pump = guard (two 4 (number 0) (variable 0)) ▸ (suspend ▸ (assign 1 (variable 64) ▸ fin))

-- a second task of other pump makers
abbrev pub later : Body
later = suspend ▸ (assign 0 (number 2) ▸ fin)

-- drum makers: one with a task of its own, which takes some turns; one that divides by zero; one
-- that never gives way; one that spawns without end
abbrev pub turns_twice : Body
turns_twice = suspend ▸ (suspend ▸ fin)

abbrev pub turns_four : Body
turns_four = suspend ▸ (suspend ▸ (suspend ▸ (suspend ▸ fin)))

abbrev pub drum_waits : Body
drum_waits = spawn 9 4 (number 0) ▸ (await 9 ▸ (assign 2 (number 1) ▸ fin))

abbrev pub drum_divides : Body
drum_divides = suspend ▸ (assign 2 (two 3 (number 1) (number 0)) ▸ fin)

abbrev pub drum_loops : Body
drum_loops = while (number 1) fin ▸ fin

abbrev pub drum_spawns : Body
drum_spawns = while (number 1) (spawn 9 4 (number 0) ▸ fin) ▸ fin

-- a call with this budget and room for so many records; so many such calls
abbrev pub given : (budget room : ℕ) → Given
given n k = record { budget = n; buffer = replicate (8 * k) 0 }

abbrev pub calls : (n budget room : ℕ) → List Given
calls n b k = replicate n (given b k)

abbrev pub one_call : List Given
one_call = given 100 40 ∷ []

abbrev pub setting_to : ℕ → ℤ → Setting
setting_to v z = record { valve = v; value = z }

abbrev pub setting : ℕ → ℕ → Setting
setting v n = setting_to v (pos n)

-- a row whose last calls return other numbers than 0
abbrev pub ending : (ends other_ends : ℕ) → Pair → Pair
ending e e' x = record x { ends = e; other_ends = e' }

-- ---- pairs that meet every sentence

abbrev pub procedures : Maker → List ℕ
procedures pump_maker = pumps
procedures drum_maker = drums

abbrev pub other_procedures : Maker → List ℕ
other_procedures pump_maker = drums
other_procedures drum_maker = pumps

-- (qs: the other maker's procedures in the other recipe)
abbrev pub kept_beside : Maker → (qs : List ℕ) → (r r' : Recipe) → (calls other_calls : List Given) → (settings other_settings : List Setting) → Pair
kept_beside m qs r r' gs gs' xs ys =
    record {
      maker = m;
      own = procedures m;
      others = other_procedures m;
      other_others = qs;
      recipe = r;
      other = r';
      calls = gs;
      other_calls = gs';
      breaks = [];
      other_breaks = [];
      settings = xs;
      other_settings = ys;
      ends = 0;
      other_ends = 0;
    }

abbrev pub kept_pair : Maker → (r r' : Recipe) → (calls other_calls : List Given) → (settings other_settings : List Setting) → Pair
kept_pair m = kept_beside m (other_procedures m)

abbrev pub with_drums : (d e d' e' : Body) → (calls other_calls : List Given) → (settings other_settings : List Setting) → Pair
with_drums d e d' e' = kept_pair pump_maker (recipe first_pump second_pump d e) (recipe first_pump second_pump d' e')

abbrev pub pump_settings : ℤ → List Setting
pump_settings z = setting 0 1 ∷ setting_to 1 z ∷ setting 0 0 ∷ []

abbrev pub whole : List Setting
whole = pump_settings (pos 5)

abbrev pub beginning : List Setting
beginning = setting 0 1 ∷ []

abbrev pub kept : List Pair
kept =
    -- in one call each; in many that pause, and in many whose log fills; cut off
    with_drums fin fin drum_waits turns_twice one_call one_call whole whole
    ∷ with_drums fin fin drum_waits turns_twice (calls 9 2 9) (calls 16 100 2) whole whole
    ∷ ending 0 1 (with_drums fin fin drum_waits turns_twice one_call (given 12 40 ∷ []) whole beginning)
    -- stopped by the other maker's zero divisor, and again; held up by its task that never gives
    -- way; stopped at its spawn with 32 tasks live
    ∷ ending 24 0 (with_drums drum_divides fin drum_waits turns_twice (calls 2 100 40) one_call beginning whole)
    ∷ ending 1 0 (with_drums drum_loops fin drum_waits turns_twice (given 50 40 ∷ given 20 40 ∷ []) one_call beginning whole)
    ∷ ending 3 0 (with_drums drum_spawns turns_four drum_waits turns_twice (given 200 80 ∷ []) one_call beginning whole)
    -- the drum maker's procedure spawned first, and an argument below 0
    ∷ (let m = main_turned (negsuc 6) in
    let xs = pump_settings (negsuc 6) in
    kept_pair pump_maker (recipe_of_five m first_pump second_pump drum_waits turns_twice) (recipe_of_five m first_pump second_pump fin fin) one_call one_call xs xs)
    -- the drum maker's second procedure has another number, and a procedure is nobody's
    ∷ (let d = spawn 9 5 (number 0) ▸ (await 9 ▸ (assign 2 (number 1) ▸ fin)) in
    kept_beside pump_maker (3 ∷ 5 ∷ []) (recipe first_pump second_pump drum_waits turns_twice) (main ∷ (first_pump ∷ (second_pump ∷ (d ∷ (later ∷ (turns_four ∷ [])))))) one_call one_call whole whole)
    -- the drum maker's records, beside a pump maker that never gives way
    ∷ ending 0 1 (kept_pair drum_maker (recipe first_pump second_pump drum_waits turns_twice) (recipe drum_loops fin drum_waits turns_twice) one_call one_call (setting 2 1 ∷ []) [])
    ∷ []

-- ---- pairs that break one sentence

-- run by one call each
abbrev pub broken_pair_of : Maker → (breaks other_breaks : List ℕ) → (r r' : Recipe) → (settings other_settings : List Setting) → Pair
broken_pair_of m f f' r r' xs ys =
    let x = kept_pair m r r' one_call one_call xs ys in
    record x { breaks = f; other_breaks = f' }

abbrev pub broken_pair : (breaks other_breaks : List ℕ) → (r r' : Recipe) → (settings other_settings : List Setting) → Pair
broken_pair f f' r r' xs ys = broken_pair_of pump_maker f f' r r' xs ys

abbrev pub one_two : List Setting
one_two = setting 0 1 ∷ setting 0 2 ∷ []

abbrev pub two_one : List Setting
two_one = setting 0 2 ∷ setting 0 1 ∷ []

abbrev pub broken : List Pair
broken =
    -- a shared variable: the drum maker sets one that the pump maker reads; a shared valve
    (let p = suspend ▸ (assign 0 (variable 12) ▸ fin) in
    broken_pair [] (3 ∷ []) (recipe p fin fin fin) (recipe p fin (assign 12 (number 7) ▸ fin) fin) (setting 0 0 ∷ []) (setting 0 7 ∷ []))
    ∷ (let p = suspend ▸ (assign 0 (number 1) ▸ fin) in
    broken_pair [] (3 ∷ []) (recipe p fin fin fin) (recipe p fin (assign 0 (number 2) ▸ fin) fin) (setting 0 1 ∷ []) two_one)
    -- the pump maker awaits the drum maker's variable
    ∷ (let p = suspend ▸ (spawn 8 2 (number 0) ▸ (await 9 ▸ (assign 0 (number 1) ▸ fin))) in
    broken_pair (3 ∷ []) (3 ∷ []) (recipe p later (spawn 9 4 (number 0) ▸ fin) fin) (recipe p later (spawn 9 4 (number 0) ▸ fin) turns_four) one_two two_one)
    -- the drum maker awaits the pump maker's: its own records are disturbed
    ∷ (let p = spawn 8 2 (number 0) ▸ fin in
    let d = spawn 9 4 (number 0) ▸ (await 8 ▸ (assign 2 (number 1) ▸ fin)) in
    let e = suspend ▸ (assign 2 (number 2) ▸ fin) in
    broken_pair_of drum_maker (3 ∷ []) (3 ∷ []) (recipe p fin d e) (recipe p turns_four d e) (setting 2 1 ∷ setting 2 2 ∷ []) (setting 2 2 ∷ setting 2 1 ∷ []))
    -- the pump maker awaits the main block's variable that holds the drum task
    ∷ (let p = spawn 8 2 (number 0) ▸ (await 21 ▸ (assign 0 (number 1) ▸ fin)) in
    broken_pair (2 ∷ []) (2 ∷ []) (recipe p later fin fin) (recipe p later turns_four fin) one_two two_one)
    -- the main block does more: it awaits the drum task and sets a valve
    ∷ (let m = spawn 20 1 (number 5) ▸ (spawn 21 3 (number 0) ▸ (await 21 ▸ (assign 0 (number 2) ▸ fin))) in
    let p = suspend ▸ (suspend ▸ (assign 0 (number 1) ▸ fin)) in
    broken_pair (2 ∷ []) (2 ∷ []) (recipe_of_five m p fin fin fin) (recipe_of_five m p fin turns_four fin) two_one one_two)
    -- the pump maker spawns a procedure of the drum maker's
    ∷ (let p = spawn 8 4 (number 0) ▸ (spawn 11 2 (number 0) ▸ (await 8 ▸ (assign 0 (number 1) ▸ fin))) in
    broken_pair (4 ∷ []) (4 ∷ []) (recipe p later fin fin) (recipe p later fin turns_four) one_two two_one)
    -- the drum maker spawns a procedure of the pump maker's
    ∷ (let p = suspend ▸ (suspend ▸ (assign 0 (number 1) ▸ fin)) in
    broken_pair [] (7 ∷ []) (recipe p (assign 0 (number 2) ▸ fin) fin fin) (recipe p (assign 0 (number 2) ▸ fin) (spawn 9 2 (number 0) ▸ fin) fin) (setting 0 1 ∷ []) two_one)
    -- the pump maker awaits a number that it set itself, the drum task's; its own parameter, of
    -- that value
    ∷ (let p = spawn 8 2 (number 0) ▸ (assign 12 (number 3) ▸ (await 12 ▸ (assign 0 (number 1) ▸ fin))) in
    broken_pair (5 ∷ []) (5 ∷ []) (recipe p later fin fin) (recipe p later turns_four fin) one_two two_one)
    ∷ (let p = spawn 8 2 (number 0) ▸ (assign 64 (number 3) ▸ (await 64 ▸ (assign 0 (number 1) ▸ fin))) in
    broken_pair (5 ∷ []) (5 ∷ []) (recipe p later fin fin) (recipe p later turns_four fin) one_two two_one)
    -- an expression reads a task number: a set's, a guard's
    ∷ (let p = suspend ▸ (spawn 8 2 (number 0) ▸ (assign 0 (variable 8) ▸ fin)) in
    broken_pair (6 ∷ []) (6 ∷ []) (recipe p fin fin fin) (recipe p fin (spawn 9 4 (number 0) ▸ fin) fin) (setting 0 4 ∷ []) (setting 0 5 ∷ []))
    ∷ (let p = suspend ▸ (spawn 8 2 (number 0) ▸ (guard (two 4 (variable 8) (number 5)) ▸ (assign 0 (number 1) ▸ fin))) in
    let q = suspend ▸ (suspend ▸ (assign 0 (number 2) ▸ fin)) in
    ending 0 2 (broken_pair (6 ∷ []) (6 ∷ []) (recipe p q fin fin) (recipe p q (spawn 9 4 (number 0) ▸ fin) fin) one_two (setting 0 2 ∷ [])))
    ∷ []

-- Each recipe is one of two makers, but they differ in more than the drum maker's procedures: the
-- main block gives the pump maker another argument; the pump maker's procedures are renumbered.
abbrev pub differing : List Pair
differing =
    broken_pair [] [] (recipe first_pump second_pump fin fin) (recipe_of_five (main_with (pos 6)) first_pump second_pump fin fin) whole (pump_settings (pos 6))
    ∷ (let p = assign 0 (number 1) ▸ fin in
    let q = assign 0 (number 2) ▸ fin in
    broken_pair [] [] (recipe p q fin fin) (recipe q p fin fin) (setting 0 1 ∷ []) (setting 0 2 ∷ []))
    ∷ []

-- ---- the tests alone: a recipe, whose procedures are whose, and the sentences that are broken
pub record Tested : Type 0 where
  pub recipe : Recipe
  pub pump : List ℕ
  pub drum : List ℕ
  pub breaks : List ℕ

abbrev pub tested_of : Recipe → List ℕ → Tested
tested_of r f = record { recipe = r; pump = pumps; drum = drums; breaks = f }

-- with another main block; with another pump maker's procedure; with another drum maker's
abbrev pub with_main : Body → List ℕ → Tested
with_main m f = tested_of (recipe_of_five m first_pump second_pump drum_waits turns_twice) f

abbrev pub with_pump : Body → List ℕ → Tested
with_pump p f = tested_of (recipe p second_pump drum_waits turns_twice) f

abbrev pub with_drum : Body → List ℕ → Tested
with_drum d f = tested_of (recipe first_pump second_pump d turns_twice) f

abbrev pub tested : List Tested
tested =
    with_main main []
    -- the drum maker's first; either one's second procedure; into the first variable and the last;
    -- both into one; no spawn; one; three; two of one maker's; an argument that is no constant; a
    -- statement more; the parameter's name
    ∷ with_main (main_turned (pos 5)) []
    ∷ with_main (spawn 20 2 (number 5) ▸ (spawn 21 4 (number 0) ▸ fin)) []
    ∷ tested_of (recipe_of_five (spawn 8 1 (number 5) ▸ (spawn 63 3 (number 0) ▸ fin)) fin fin fin fin) []
    ∷ with_main (spawn 20 1 (number 5) ▸ (spawn 20 3 (number 0) ▸ fin)) []
    ∷ with_main fin (2 ∷ [])
    ∷ with_main (spawn 20 1 (number 5) ▸ fin) (2 ∷ [])
    ∷ with_main (spawn 20 1 (number 5) ▸ (spawn 21 3 (number 0) ▸ (spawn 22 4 (number 0) ▸ fin))) (2 ∷ [])
    ∷ with_main (spawn 20 1 (number 5) ▸ (spawn 21 2 (number 0) ▸ fin)) (2 ∷ [])
    ∷ with_main (spawn 20 1 (variable 12) ▸ (spawn 21 3 (number 0) ▸ fin)) (2 ∷ [])
    ∷ with_main (spawn 20 1 (two 0 (number 1) (number 2)) ▸ (spawn 21 3 (number 0) ▸ fin)) (2 ∷ [])
    ∷ with_main (spawn 20 1 (number 5) ▸ (spawn 21 3 (one 0 (number 5)) ▸ fin)) (2 ∷ [])
    ∷ with_main (spawn 20 1 (number 5) ▸ (suspend ▸ (spawn 21 3 (number 0) ▸ fin))) (2 ∷ [])
    ∷ tested_of (recipe_of_five (spawn 64 1 (number 5) ▸ (spawn 21 3 (number 0) ▸ fin)) fin fin fin fin) (2 ∷ [])
    -- the main block's variables named by either maker: read, awaited
    ∷ with_drum (assign 2 (variable 20) ▸ fin) (2 ∷ [])
    ∷ with_drum (await 21 ▸ fin) (2 ∷ [])
    ∷ with_pump (await 20 ▸ fin) (2 ∷ [])
    -- in a second operand, an only one; in the test and the body of an if, of a while
    ∷ with_pump (assign 0 (two 0 (number 1) (variable 20)) ▸ fin) (2 ∷ [])
    ∷ with_pump (assign 0 (one 0 (variable 20)) ▸ fin) (2 ∷ [])
    ∷ with_pump (if (variable 20) fin ▸ fin) (2 ∷ [])
    ∷ with_pump (if (number 1) (await 20 ▸ fin) ▸ fin) (2 ∷ [])
    ∷ with_pump (while (variable 20) fin ▸ fin) (2 ∷ [])
    ∷ with_pump (while (number 1) (await 20 ▸ fin) ▸ fin) (2 ∷ [])
    -- both makers name a variable: one sets a valve, one reads it in a guard, one spawns into it,
    -- one awaits it; both only read one, a variable and a valve; both only await one
    ∷ with_drum (assign 1 (number 1) ▸ fin) (3 ∷ [])
    ∷ with_drum (guard (variable 0) ▸ fin) (3 ∷ [])
    ∷ with_drum (spawn 8 4 (number 0) ▸ fin) (3 ∷ [])
    ∷ tested_of (recipe first_pump second_pump (await 8 ▸ fin) fin) (3 ∷ [])
    ∷ tested_of (recipe (assign 0 (variable 12) ▸ fin) fin fin (assign 2 (variable 12) ▸ fin)) (3 ∷ [])
    ∷ tested_of (recipe fin (guard (variable 3) ▸ fin) (guard (variable 3) ▸ fin) fin) (3 ∷ [])
    ∷ tested_of (recipe (await 12 ▸ fin) fin (await 12 ▸ fin) fin) (3 ∷ [])
    -- each its own parameter: no variable
    ∷ with_drum (assign 64 (variable 64) ▸ fin) []
    -- every other statement and operand
    ∷ with_drum (skip ▸ (if (one 1 (two 5 (variable 12) (number 0))) (suspend ▸ fin) ▸ (while (number 0) (skip ▸ fin) ▸ fin))) []
    -- spawns of the maker's first, of the other maker's and of the main block
    ∷ with_pump (spawn 8 1 (number 0) ▸ fin) []
    ∷ with_drum (spawn 9 2 (number 0) ▸ fin) (7 ∷ [])
    ∷ with_pump (spawn 8 0 (number 0) ▸ fin) (4 ∷ [])
    -- awaits of a valve, of the last variable, of the parameter, of one that is set too; a spawn
    -- into the parameter (which procedure 2 reads)
    ∷ with_pump (await 7 ▸ fin) (5 ∷ [])
    ∷ with_pump (await 63 ▸ fin) []
    ∷ with_pump (await 64 ▸ fin) (5 ∷ (6 ∷ []))
    ∷ with_pump (assign 12 (number 1) ▸ (await 12 ▸ fin)) (5 ∷ [])
    ∷ with_pump (spawn 64 2 (number 0) ▸ fin) (5 ∷ (6 ∷ []))
    ∷ with_drum (assign 9 (number 0) ▸ (spawn 9 4 (number 0) ▸ fin)) (8 ∷ [])
    -- an awaited variable read, in a guard; as a spawn's argument
    ∷ with_pump (await 12 ▸ (guard (variable 12) ▸ fin)) (6 ∷ [])
    ∷ with_drum (spawn 9 4 (number 0) ▸ (spawn 10 4 (variable 9) ▸ fin)) (9 ∷ [])
    -- a procedure that is nobody's, whatever it does
    ∷ tested_of (main ∷ (first_pump ∷ (second_pump ∷ (drum_waits ∷ (turns_twice ∷ ((assign 0 (variable 8) ▸ (await 20 ▸ fin)) ∷ [])))))) []
    -- a procedure of both; the main block as either maker's
    ∷ record { recipe = recipe fin fin fin fin; pump = pumps; drum = 2 ∷ (3 ∷ []); breaks = 1 ∷ [] }
    ∷ record { recipe = recipe fin fin fin fin; pump = 0 ∷ (1 ∷ []); drum = drums; breaks = 1 ∷ (2 ∷ (4 ∷ [])) }
    ∷ record { recipe = recipe fin fin fin fin; pump = pumps; drum = 0 ∷ (3 ∷ []); breaks = 1 ∷ (2 ∷ (7 ∷ [])) }
    ∷ []

-- ---- what is computed of the rows

pub record RowsHold : Type 0 where
  pub kept_ran : Every Ran kept
  pub kept_meet : Every Meet kept
  pub kept_share : Every Share kept
  -- (shown by the claim)
  pub kept_kept : Every Kept kept
  pub broken_ran : Every Ran broken
  pub broken_share : Every Share broken
  pub broken_disturbed : Every Disturbed broken
  pub differing_ran : Every Ran differing
  pub differing_meet : Every Meet differing
  pub differing_disturbed : Every Disturbed differing
  pub tested_hold : map (λ x. broken_by x.recipe x.pump x.drum) tested ≡ map (λ x. x.breaks) tested
