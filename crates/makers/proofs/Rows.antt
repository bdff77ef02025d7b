-- What holds of the rows, the claim of those that meet every sentence.
-- Assumes nothing.
use mathlib.Core.Path.{refl, ap, subst₂}
use Rattle.rules.specs.Recipe.{encode}
use Rattle.rules.specs.Demand.{Bytes}
use Rattle.rules.proofs.Lists.{every_map}
use Rattle.rules.proofs.Verdicts.{and_true}
use Rattle.makers.specs.Makers.{TwoMakers}
use Rattle.makers.specs.Claim.{OneBegins, valve_records, KeptApart}
use Rattle.makers.specs.Rows.{Maker, pump_maker, drum_maker, pump_of, drum_of, spelt, Pair, mine, Ran, Meet, Share, Kept, kept, broken, differing, RowsHold}
use Rattle.makers.proofs.Bytes.{below, bytes}
use Rattle.makers.proofs.Theorem.{kept_apart}
use Rattle.makers.proofs.Pairs.{every_with, told, wanted, AsTold, BreaksNone, each, kept_told, broken_told, differing_told, tested_told, ran, kept_none, differing_none, meet, kept_share, broken_share, disturbed, Told}

-- ---- what the claim says of pairs that meet every sentence

abbrev AreBytes : Pair → Type 0
AreBytes x = Bytes (encode x.recipe) × Bytes (encode x.other)

are_bytes : (x : Pair) → AsTold x → AreBytes x
are_bytes x e =
    let p = and_true (below (encode x.recipe)) (below (encode x.other)) (ap (λ (y : Told). y.is_bytes) e) in
    (bytes (encode x.recipe) p.0, bytes (encode x.other) p.1)

by_claim : (x : Pair) → AsTold x → Meet x → Share x → Kept x
by_claim x e m k = subst₂ OneBegins h.sets_valves h.other_sets_valves (go x.maker m.0 m.1)
  where
    h : Ran x
    h = ran x e

    claim : KeptApart (encode x.recipe) (encode x.other)
    claim = kept_apart (encode x.recipe) (encode x.other) (are_bytes x e).0 (are_bytes x e).1

    go : (w : Maker) → TwoMakers (spelt x.recipe) (pump_of w x.own x.others) (drum_of w x.own x.others)
        → TwoMakers (spelt x.other) (pump_of w x.own x.other_others) (drum_of w x.own x.other_others)
        → OneBegins (valve_records (mine x) h.made) (valve_records (mine x) h.other_made)
    go pump_maker m m' = claim.pump_kept x.own x.others x.other_others m m' k h.made h.other_made h.from_fresh h.other_from_fresh
    go drum_maker m m' = claim.drum_kept x.others x.other_others x.own m m' k h.made h.other_made h.from_fresh h.other_from_fresh

-- ---- all of it

pub rows_hold : RowsHold
rows_hold =
    let k = each told wanted kept kept_told in
    let b = each told wanted broken broken_told in
    let d = each told wanted differing differing_told in
    let m = every_with AsTold BreaksNone Meet meet kept k kept_none in
    record {
      kept_ran = every_map AsTold Ran ran kept k;
      kept_meet = m;
      kept_share = kept_share;
      kept_kept = every_with AsTold (λ x. Meet x × Share x) Kept (λ x e h. by_claim x e h.0 h.1) kept k (every_with Meet Share (λ x. Meet x × Share x) (λ x g h. (g, h)) kept m kept_share);
      broken_ran = every_map AsTold Ran ran broken b;
      broken_share = broken_share;
      broken_disturbed = disturbed broken refl;
      differing_ran = every_map AsTold Ran ran differing d;
      differing_meet = every_with AsTold BreaksNone Meet meet differing d differing_none;
      differing_disturbed = disturbed differing refl;
      tested_hold = tested_told;
    }
