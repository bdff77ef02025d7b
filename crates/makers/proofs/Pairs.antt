-- What is computed of the rows, by the definitions alone.
-- Assumes nothing.
use Prim.Native.Nat.{ℕ, ◌+◌}
use mathlib.Core.Path.{◌≡◌, refl, sym, ap, ◌∙◌}
use mathlib.Core.Logic.{inl, inr}
use mathlib.Core.Bool.{Bool, true, false, ◌&&◌, ◌||◌, true≢false}
use mathlib.Core.List.{List, [], ◌∷◌, ◌++◌, map}
use native.Mathlib.Omega.{arith}
use lib.Dec.{eqb}
use lib.IntN.{ℤ, pos, negsuc}
use lib.ListN.{get_or, replicate}
use borrow.Author.Tests.{eq-eqb}
use Rattle.rules.specs.Values.{equal}
use Rattle.rules.specs.Recipe.{Body, fin, Recipe, encode_e, encode_s, encode_b, encode}
use Rattle.rules.specs.Run.{Outcome, start_on, run_on}
use Rattle.rules.specs.Fairness.{Every}
use Rattle.rules.specs.Demand.{Given, outcomes, logs_written, numbers_said}
use Rattle.rules.proofs.Computed.{meaning}
use Rattle.rules.proofs.Lists.{every_map}
use Rattle.runner.specs.declared.Answer.{Answer}
use Rattle.runner.specs.Calls.{Called, called, result, made_of, Calls}
use Rattle.makers.specs.Uses.{every_e, every_s, every_b, every_use}
use Rattle.makers.specs.Makers.{apart, starts_of, TwoMakers}
use Rattle.makers.specs.Claim.{Setting, settings_of, settings_in, FromFresh, valve_records}
use Rattle.makers.specs.Rows.{pump_of, drum_of, tests, broken_from, broken_by, broken_here, broken_there, spelt, Pair, mine, last_of, Ran, Meet, Share, Kept, Disturbed, kept, broken, differing, tested}
use Rattle.makers.proofs.Bytes.{below}

-- ---- of each row of a list

-- two maps that are one: each row has what it is to have
pub each : {A B : Type 0} (f g : A → B) (xs : List A) → map f xs ≡ map g xs → Every (λ x. f x ≡ g x) xs
each f g [] e = tt
each f g (x ∷ xs) e = (cc, each f g xs cc)

pub every_with : {A : Type 0} (P Q R : A → Type 0) → ((x : A) → P x → Q x → R x) → (xs : List A) → Every P xs → Every Q xs → Every R xs
every_with P Q R f [] p q = tt
every_with P Q R f (x ∷ xs) p q = (f x p.0 q.0, every_with P Q R f xs p.1 q.1)

-- ---- calls that are made as run promises

abbrev made_by : Outcome → Answer
made_by o = record { number = o.number; steps = o.steps; records = o.records; place = o.place }

abbrev calls_made : (t b : List ℕ) → List Given → List Called
calls_made t b [] = []
calls_made t b (g ∷ gs) =
    let o = run_on t b g.budget g.buffer in
    called g.budget g.buffer (made_by o) o.block o.log ∷ calls_made t o.block gs

made_ran : (t b : List ℕ) (gs : List Given) → Calls t b (calls_made t b gs)
made_ran t b [] = tt
made_ran t b (g ∷ gs) = (refl, made_ran t (run_on t b g.budget g.buffer).block gs)

made_given : (t b : List ℕ) (gs : List Given) → map (λ (c : Called). (made_of c).given) (calls_made t b gs) ≡ gs
made_given t b [] = refl
made_given t b (g ∷ gs) = ap (λ (gs : List Given). g ∷ gs) (made_given t (run_on t b g.budget g.buffer).block gs)

made_results : (t b : List ℕ) (gs : List Given) → map result (calls_made t b gs) ≡ outcomes t b gs
unfolding outcomes
made_results t b [] = refl
made_results t b (g ∷ gs) = ap (λ (os : List Outcome). run_on t b g.budget g.buffer ∷ os) (made_results t (run_on t b g.budget g.buffer).block gs)

abbrev blank : List ℕ
blank = replicate 776 0

abbrev fresh : List ℕ → List ℕ
fresh t = (start_on t blank).block

from_start : (t : List ℕ) (gs : List Given) → (start_on t blank).number ≡ 0 → FromFresh t (calls_made t (fresh t) gs)
from_start t gs e = record {
  block = blank;
  left = fresh t;
  answer = record { number = (start_on t blank).number; place = (start_on t blank).place };
  started = refl;
  accepted = e;
  ran = made_ran t (fresh t) gs;
}

-- ---- what is computed of a pair

pub record Told : Type 0 where
  pub number : ℕ
  pub other_number : ℕ
  pub is_bytes : Bool
  pub breaks : List ℕ
  pub other_breaks : List ℕ
  pub settings : List Setting
  pub other_settings : List Setting
  pub ends : ℕ
  pub other_ends : ℕ

abbrev set_by : Pair → Recipe → List Given → List Setting
set_by x r gs = settings_in (mine x) (logs_written (outcomes (encode r) (fresh (encode r)) gs))

abbrev end_of : Recipe → List Given → ℕ
end_of r gs = last_of (numbers_said (outcomes (encode r) (fresh (encode r)) gs))

abbrev pub told : Pair → Told
told x = record {
  number = (start_on (encode x.recipe) blank).number;
  other_number = (start_on (encode x.other) blank).number;
  is_bytes = below (encode x.recipe) && below (encode x.other);
  breaks = broken_here x;
  other_breaks = broken_there x;
  settings = set_by x x.recipe x.calls;
  other_settings = set_by x x.other x.other_calls;
  ends = end_of x.recipe x.calls;
  other_ends = end_of x.other x.other_calls;
}

abbrev pub wanted : Pair → Told
wanted x = record {
  number = 0;
  other_number = 0;
  is_bytes = true;
  breaks = x.breaks;
  other_breaks = x.other_breaks;
  settings = x.settings;
  other_settings = x.other_settings;
  ends = x.ends;
  other_ends = x.other_ends;
}

abbrev pub AsTold : Pair → Type 0
AsTold x = told x ≡ wanted x

pub kept_told : map told kept ≡ map wanted kept
unfolding meaning encode_e encode_s encode_b encode outcomes logs_written every_e every_s every_b every_use apart starts_of settings_of below
kept_told = refl

pub broken_told : map told broken ≡ map wanted broken
unfolding meaning encode_e encode_s encode_b encode outcomes logs_written every_e every_s every_b every_use apart starts_of settings_of below
broken_told = refl

pub differing_told : map told differing ≡ map wanted differing
unfolding meaning encode_e encode_s encode_b encode outcomes logs_written every_e every_s every_b every_use apart starts_of settings_of below
differing_told = refl

pub tested_told : map (λ x. broken_by x.recipe x.pump x.drum) tested ≡ map (λ x. x.breaks) tested
unfolding every_e every_s every_b every_use apart starts_of
tested_told = refl

pub ran : (x : Pair) → AsTold x → Ran x
ran x e = record {
  breaks_them = ap (λ (y : Told). y.breaks) e;
  other_breaks_them = ap (λ (y : Told). y.other_breaks) e;
  made = calls_made t (fresh t) x.calls;
  other_made = calls_made t' (fresh t') x.other_calls;
  as_given = made_given t (fresh t) x.calls;
  other_as_given = made_given t' (fresh t') x.other_calls;
  from_fresh = from_start t x.calls (ap (λ (y : Told). y.number) e);
  other_from_fresh = from_start t' x.other_calls (ap (λ (y : Told). y.other_number) e);
  sets_valves = same t x.calls ∙ ap (λ (y : Told). y.settings) e;
  other_sets_valves = same t' x.other_calls ∙ ap (λ (y : Told). y.other_settings) e;
  ends_so = ap (λ (os : List Outcome). last_of (numbers_said os)) (made_results t (fresh t) x.calls) ∙ ap (λ (y : Told). y.ends) e;
  other_ends_so = ap (λ (os : List Outcome). last_of (numbers_said os)) (made_results t' (fresh t') x.other_calls) ∙ ap (λ (y : Told). y.other_ends) e;
}
  where
    t : List ℕ
    t = encode x.recipe

    t' : List ℕ
    t' = encode x.other

    same : (t : List ℕ) (gs : List Given) → valve_records (mine x) (calls_made t (fresh t) gs) ≡ settings_in (mine x) (logs_written (outcomes t (fresh t) gs))
    same t gs = ap (λ (os : List Outcome). settings_in (mine x) (logs_written os)) (made_results t (fresh t) gs)

-- ---- pairs that break nothing

all_pass : (i : ℕ) (bs : List Bool) → broken_from i bs ≡ [] → Every (λ b. b ≡ true) bs
all_pass i [] h = tt
all_pass i (true ∷ bs) h = (refl, all_pass (i + 1) bs h)
all_pass i (false ∷ bs) h = absurd (let z : ◌≡◌ {A = ℕ} 0 1 = cc in omega arith)

two_makers : (r : Recipe) (pump drum : List ℕ) → broken_by r pump drum ≡ [] → TwoMakers r pump drum
two_makers r pump drum h = go (all_pass 1 (tests r pump drum) h)
  where
    go : Every (λ b. b ≡ true) (tests r pump drum) → TwoMakers r pump drum
    go (a, (m, (d, (s, (w, (u, (s', (w', (u', e))))))))) = record {
      procedures = a;
      main = m;
      names_differ = d;
      pump_alone = record { spawns = s; awaits = w; numbers_unread = u };
      drum_alone = record { spawns = s'; awaits = w'; numbers_unread = u' };
    }

abbrev pub BreaksNone : Pair → Type 0
BreaksNone x = (x.breaks ≡ []) × (x.other_breaks ≡ [])

none_broken : (xs : List Pair) → map (λ x. x.breaks ∷ x.other_breaks ∷ []) xs ≡ map (λ x. [] ∷ [] ∷ []) xs → Every BreaksNone xs
none_broken xs e =
    every_map (λ x. (x.breaks ∷ x.other_breaks ∷ []) ≡ [] ∷ [] ∷ []) BreaksNone (λ x h. (cc, cc)) xs (each (λ x. x.breaks ∷ x.other_breaks ∷ []) (λ x. [] ∷ [] ∷ []) xs e)

pub kept_none : Every BreaksNone kept
kept_none = none_broken kept refl

pub differing_none : Every BreaksNone differing
differing_none = none_broken differing refl

pub meet : (x : Pair) → AsTold x → BreaksNone x → Meet x
meet x e h = (
  two_makers (spelt x.recipe) (pump_of x.maker x.own x.others) (drum_of x.maker x.own x.others) (ap (λ (y : Told). y.breaks) e ∙ h.0),
  two_makers (spelt x.other) (pump_of x.maker x.own x.other_others) (drum_of x.maker x.own x.other_others) (ap (λ (y : Told). y.other_breaks) e ∙ h.1),
)

-- ---- pairs that differ only in the other maker's procedures

-- the main block and the procedures of these numbers
abbrev bodies : Recipe → List ℕ → List Body
bodies r ps = get_or r 0 fin ∷ map (λ p. get_or r p fin) ps

abbrev here : Pair → List Body
here x = bodies (spelt x.recipe) x.own

abbrev there : Pair → List Body
there x = bodies (spelt x.other) x.own

share : (x : Pair) → here x ≡ there x → Share x
share x e =
    let f : ℕ → Body = λ p. get_or (spelt x.recipe) p fin in
    let g : ℕ → Body = λ p. get_or (spelt x.other) p fin in
    record { main = cc; procedures = every_map (λ p. f p ≡ g p) _ (λ p h. cc) x.own (each f g x.own cc) }

pub kept_share : Every Share kept
unfolding meaning encode_e encode_s encode_b encode
kept_share = every_map (λ x. here x ≡ there x) Share share kept (each here there kept refl)

pub broken_share : Every Share broken
unfolding meaning encode_e encode_s encode_b encode
broken_share = every_map (λ x. here x ≡ there x) Share share broken (each here there broken refl)

-- ---- records of which neither are the beginning of the other

abbrev begins : List Setting → List Setting → Bool
begins [] ys = true
begins (x ∷ xs) [] = false
begins (x ∷ xs) (y ∷ ys) = eqb x.valve y.valve && equal x.value y.value && begins xs ys

abbrev one_begins : Pair → Bool
one_begins x = begins x.settings x.other_settings || begins x.other_settings x.settings

same_value : (z : ℤ) → equal z z ≡ true
same_value (pos n) = eq-eqb n n refl
same_value (negsuc n) = eq-eqb n n refl

begins_so : (xs zs : List Setting) → begins xs (xs ++ zs) ≡ true
begins_so [] zs = refl
begins_so (x ∷ xs) zs = rw (eq-eqb x.valve x.valve refl, same_value x.value, begins_so xs zs) refl

either_so : (x : Pair) → Kept x → one_begins x ≡ true
either_so x (inl (zs, e)) = rw (e, begins_so x.settings zs) refl
either_so x (inr (zs, e)) = go (begins x.settings x.other_settings) (ap (begins x.other_settings) e ∙ begins_so x.other_settings zs)
  where
    go : (a : Bool) {b : Bool} → b ≡ true → (a || b) ≡ true
    go true h = refl
    go false h = h

pub disturbed : (xs : List Pair) → map one_begins xs ≡ map (λ x. false) xs → Every Disturbed xs
disturbed xs e = every_map (λ x. one_begins x ≡ false) Disturbed (λ x h k. true≢false (sym (either_so x k) ∙ h)) xs (each one_begins (λ x. false) xs e)
