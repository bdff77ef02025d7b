-- Lists given by index: tab and joined, their lengths, elements and parts, what holds of every element, and lists filled from the front.
-- Assumes nothing.
use Prim.Native.Nat.{ℕ, zero, suc, ◌+◌, ◌*◌, ◌≤◌, ◌<◌}
use mathlib.Core.Path.{◌≡◌, refl, sym, ap, ◌∙◌}
use mathlib.Core.List.{List, [], ◌∷◌, ◌++◌, append_assoc, append-nil}
use mathlib.Core.Logic.{⊎_elim}
use native.Mathlib.Omega.{arith}
use native.Mathlib.Nat.{eq-or-lt_of_le, mul-le-mul_right}
use native.Mathlib.Numerals.{add-one}
use lib.ListN.{length, get_or, take, drop, set, length-append, length-drop, get_or-append}
use lib.Seq.{length-take-le, take_all, take-add, take_at, take-suc-set, sets, sets-eq, take-append-le, drop-append-le, drop_at, drop-drop, drop-cons, get_or_at, get_or-take, get_or-drop, ext_get_or}
use Rattle.rules.specs.State.{tab, joined}
use Rattle.rules.specs.Fairness.{Every}

-- ---- every element

module _ {A : Type 0} (P : A → Type 0) where
  pub every_append : (xs ys : List A) → Every P xs → Every P ys → Every P (xs ++ ys)
  every_append [] ys h g = g
  every_append (x ∷ xs) ys h g = (h.0, every_append xs ys h.1 g)

  -- the element at an index, or what stands for one behind the end
  pub every-get_or : (d : A) (xs : List A) → Every P xs → (i : ℕ) → (length xs ≤ i → P d) → P (get_or xs i d)
  every-get_or d [] h i g = g (omega arith)
  every-get_or d (x ∷ xs) h zero g = h.0
  every-get_or d (x ∷ xs) h (suc i) g = every-get_or d xs h.1 i (λ l. g (omega arith))

  pub every-tab : (n : ℕ) (f : ℕ → A) → ((i : ℕ) → i < n → P (f i)) → Every P (tab n f)
  unfolding tab
  every-tab zero f h = tt
  every-tab (suc n) f h = every_append (tab n f) (f n ∷ []) (every-tab n f (λ i l. h i (omega arith))) (h n (omega arith), tt)

pub every_map : {A : Type 0} (P Q : A → Type 0) → ((x : A) → P x → Q x) → (xs : List A) → Every P xs → Every Q xs
every_map P Q f [] h = tt
every_map P Q f (x ∷ xs) h = (f x h.0, every_map P Q f xs h.1)

-- ---- tab

module _ {A : Type 0} (f : ℕ → A) where
  pub length-tab : (n : ℕ) → length (tab n f) ≡ n
  unfolding tab
  length-tab zero = refl
  length-tab (suc n) = length-append (tab n f) (f n ∷ []) ∙ omega (arith, length-tab n)

  pub get_or-tab : (n i : ℕ) (d : A) → i < n → get_or (tab n f) i d ≡ f i
  unfolding tab
  get_or-tab zero i d h = absurd (omega arith)
  get_or-tab (suc n) i d h =
      ⊎_elim
      (λ e. get_or_at (tab n f) (f n) [] d i (length-tab n ∙ sym e) ∙ ap f (sym e))
      (λ l. get_or-append (tab n f) (f n ∷ []) d i (omega (arith, length-tab n)) ∙ get_or-tab n i d l)
      (eq-or-lt_of_le {n = i} {m = n} (omega arith))

  pub tab-is : (l : List A) (d : A) (n : ℕ) → length l ≡ n → ((i : ℕ) → i < n → f i ≡ get_or l i d) → tab n f ≡ l
  tab-is l d n e g =
      ext_get_or d (tab n f) l (length-tab n ∙ sym e)
      (λ i h. let m : i < n = omega (arith, length-tab n) in get_or-tab n i d m ∙ g i m)

pub tab-same : {A : Type 0} (f g : ℕ → A) (n : ℕ) → ((i : ℕ) → i < n → f i ≡ g i) → tab n f ≡ tab n g
unfolding tab
tab-same f g zero h = refl
tab-same f g (suc n) h = rw (tab-same f g n (λ i l. h i (omega arith)), h n (omega arith))

-- the first of them and the others
pub tab-first : {A : Type 0} (f : ℕ → A) (n : ℕ) → tab (suc n) f ≡ f 0 ∷ tab n (λ i. f (suc i))
unfolding tab
tab-first f zero = refl
tab-first f (suc n) = ap (λ (l : List _). l ++ f (suc n) ∷ []) (tab-first f n)

-- ---- parts of a list

-- n elements from index a
abbrev pub cells : ℕ → ℕ → List ℕ → List ℕ
cells zero a b = []
cells (suc n) a b = get_or b a 0 ∷ cells n (suc a) b

pub take_cells : (n a : ℕ) (b : List ℕ) → a + n ≤ length b → take n (drop a b) ≡ cells n a b
take_cells zero a b h = refl
take_cells (suc n) a b h = rw (drop-cons b a 0 (omega arith)) (ap (λ (l : List ℕ). get_or b a 0 ∷ l) (take_cells n (suc a) b (omega arith)))

pub take_parts : {A : Type 0} (n m a : ℕ) (b : List A) → take n (drop a b) ++ take m (drop (a + n) b) ≡ take (n + m) (drop a b)
take_parts n m a b = rw (← drop-drop n a b) (sym (take-add n m (drop a b)))

-- the element at index j, which is r in the k elements from a
pub get_or-part : {A : Type 0} (b : List A) (a k r j : ℕ) (d : A) → r < k → j ≡ a + r → get_or (take k (drop a b)) r d ≡ get_or b j d
get_or-part b a k r j d h e = rw e (get_or-take k (drop a b) r d h ∙ get_or-drop a b r d)

-- ---- joined parts

pub joined_length : (k n : ℕ) (f : ℕ → List ℕ) → ((i : ℕ) → length (f i) ≡ k) → length (joined n f) ≡ n * k
unfolding joined
joined_length k zero f h = omega arith
joined_length k (suc n) f h = omega (arith, length-append (joined n f) (f n), joined_length k n f h, h n)

pub joined_same : (f g : ℕ → List ℕ) (n : ℕ) → ((i : ℕ) → i < n → f i ≡ g i) → joined n f ≡ joined n g
unfolding joined
joined_same f g zero h = refl
joined_same f g (suc n) h = rw (joined_same f g n (λ i l. h i (omega arith)), h n (omega arith))

pub joined_add : (f : ℕ → List ℕ) (n m : ℕ) → joined (n + m) f ≡ joined n f ++ joined m (λ i. f (n + i))
unfolding joined
joined_add f n zero = let e : n + 0 ≡ n = omega arith in rw (e, append-nil)
joined_add f n (suc m) = let e : n + suc m ≡ suc (n + m) = omega arith in rw (e, joined_add f n m, append_assoc)

-- ---- joined parts of k elements each

module _ (k : ℕ) (f : ℕ → List ℕ) where
  -- part i, which stands at a
  pub joined-part : ((i : ℕ) → length (f i) ≡ k) → (n i a : ℕ) → i < n → a ≡ i * k → take k (drop a (joined n f)) ≡ f i
  unfolding joined
  joined-part sized zero i a h e = absurd (omega arith)
  joined-part sized (suc n) i a h e =
      let s = joined_length k n f sized in
      let room : i < n → a + k ≤ n * k = λ l. omega (arith, mul-le-mul_right k l) in
      ⊎_elim
      (λ g. rw (drop_at (joined n f) (f n) a (s ∙ sym (e ∙ ap (λ (j : ℕ). j * k) g)), g) (take_all k (f n) (omega (arith, sized n))))
      (λ l.
      rw (drop-append-le a (joined n f) (f n) (omega (arith, room l)), take-append-le k (drop a (joined n f)) (f n) (rw length-drop (omega (arith, room l))))
      (joined-part sized n i a l e))
      (eq-or-lt_of_le {n = i} {m = n} (omega arith))

  -- a list from a on, cut into such parts
  pub parts_joined : (a : ℕ) (b : List ℕ) (n : ℕ) → ((i : ℕ) → i < n → f i ≡ take k (drop (a + i * k) b)) → take a b ++ joined n f ≡ take (a + n * k) b
  unfolding joined
  parts_joined a b zero g = let e : a + 0 * k ≡ a = omega arith in rw (e, append-nil)
  parts_joined a b (suc n) g =
      let e : a + suc n * k ≡ a + n * k + k = omega arith in
      rw (e, take-add (a + n * k) k b, ← parts_joined a b n (λ i h. g i (omega arith)), g n (omega arith), append_assoc)

-- ---- a list filled from its front

-- one element more
pub tab_more : {A : Type 0} (l : List A) (f : ℕ → A) (i : ℕ) (x : A) → i < length l → take i l ≡ tab i f → x ≡ f i
    → take (i + 1) (set l i x) ≡ tab (i + 1) f
unfolding tab
tab_more l f i x h p e = rw (add-one, take-suc-set l i x h, p, e)

pub take_sets : {A : Type 0} (vs l : List A) (i : ℕ) → i + length vs ≤ length l → take (i + length vs) (sets l i vs) ≡ take i l ++ vs
take_sets vs l i h =
    let n = length-append (take i l) vs ∙ ap (λ (n : ℕ). n + length vs) (length-take-le i l (omega arith)) in
    rw (sets-eq vs l i h) (take_at (take i l ++ vs) (drop (i + length vs) l) (i + length vs) n)

-- one part more, of k elements, stored at a
pub joined_more : (l q : List ℕ) (f : ℕ → List ℕ) (i a k : ℕ) (vs : List ℕ) → length vs ≡ k → a + k ≤ length l
    → take a l ≡ q ++ joined i f → vs ≡ f i
    → take (a + k) (sets l a vs) ≡ q ++ joined (i + 1) f
unfolding joined
joined_more l q f i a k vs n h p e = rw (← n, add-one) (take_sets vs l a (rw n h) ∙ rw (p, e, append_assoc))
