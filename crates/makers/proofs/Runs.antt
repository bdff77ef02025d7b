-- The steps of a list of run calls set the maker's valves to what so many steps of its tasks alone set them to.
-- Assumes nothing.
use Prim.Native.Nat.{ℕ, suc}
use mathlib.Core.Path.{◌≡◌, refl, sym, ap, ap₂, ◌∙◌, subst}
use mathlib.Core.Bool.{Bool}
use mathlib.Core.Option.{Option, none, some}
use mathlib.Core.List.{List, [], ◌∷◌, ◌++◌}
use Rattle.rules.specs.Recipe.{Recipe, Within}
use Rattle.rules.specs.State.{State}
use Rattle.rules.specs.Log.{Event}
use Rattle.rules.specs.Scheduler.{Next, log_of}
use Rattle.rules.specs.Steps.{limits, recipes}
use Rattle.rules.specs.Moments.{Does, made, ends, Moment}
use Rattle.rules.specs.Fairness.{record_by, records, LinkedBy, Linked}
use Rattle.paper.specs.Paper.{PaperState}
use Rattle.paper.specs.Follows.{shown, shown_next, Placed}
use Rattle.paper.proofs.Follows.{follows}
use Rattle.makers.specs.Claim.{Setting}
use Rattle.makers.proofs.Alone.{settings_by, first_settings, one_more}
use Rattle.makers.proofs.Link.{Side, Shares}
use Rattle.makers.proofs.Steps.{R}
use Rattle.makers.proofs.Opening.{Stage, OutS, rests, steps, OutSN, stage_step}

-- what these records tell of them
abbrev pub settings : (ℕ → Bool) → List Event → List Setting
settings mine [] = []
settings mine (x ∷ xs) = settings_by mine (some x) ++ settings mine xs

settings_log : (mine : ℕ → Bool) (x : Option Event) (xs : List Event) → settings mine (log_of x ++ xs) ≡ settings_by mine x ++ settings mine xs
settings_log mine none xs = refl
settings_log mine (some x) xs = refl

module _ (k : Side) (drum : ℕ → Bool) (r : Recipe) (w : Within r) (shares : Shares k drum r) where
  open k use {mine, begin}

  abbrev StageR : PaperState → PaperState → Type 1
  StageR c p = Stage k drum limits r c p

  pub record Simulated (xs : List Event) (p : PaperState) : Type 0 where
    pub count : ℕ
    pub same : settings mine xs ≡ first_settings begin mine count p

  one_step : (x : Option Event) (d : State) (p : PaperState) (xs : List Event) → OutS k drum limits r x (shown r d) p
      → ((p' : PaperState) → StageR (shown r d) p' → Simulated xs p') → Simulated (log_of x ++ xs) p
  one_step x d p xs (rests e i) ih =
      let s = ih p i in
      record { count = s.count; same = settings_log mine x xs ∙ ap (λ (l : List Setting). l ++ settings mine xs) e ∙ s.same }
  one_step x d p xs (steps {y} {p'} e m i) ih =
      let s = ih p' i in
      record { count = suc s.count; same = settings_log mine x xs ∙ ap₂ (λ (k l : List Setting). k ++ l) m s.same ∙ sym (one_more begin mine s.count p p' y e) }

  pub simulated : (ms : List (Moment (recipes r))) (c c' : State) (p : PaperState) → Placed r c → StageR (shown r c) p → Linked (recipes r) ms c c' → Simulated (records (recipes r) ms) p
  unfolding first_settings
  simulated [] c c' p pl st h = record { count = 0; same = refl }
  simulated (m ∷ ms) c c' p pl st h = go m.what h.1 (λ d p' pl' st' l. simulated ms d c' p' pl' st' l)
    where
      go : (x : Does (recipes r)) → LinkedBy (recipes r) x (λ d. Linked (recipes r) ms d c') c
          → ((d : State) (p' : PaperState) → Placed r d → StageR (shown r d) p' → Linked (recipes r) ms d c' → Simulated (records (recipes r) ms) p')
          → Simulated (record_by (recipes r) x ++ records (recipes r) ms) p
      go (ends e) l ih = ih c p pl st l
      go (made x) (d, e, l) ih =
          let f = follows limits r w c pl in
          let o = subst (λ (y : Next (R k drum limits r)). OutSN k drum limits r y p) (f.same ∙ ap (shown_next limits r) e)
          (stage_step k drum limits r shares st) in
          one_step x d p (records (recipes r) ms) o (λ p' st'. ih d p' (f.placed x d e) st' l)
