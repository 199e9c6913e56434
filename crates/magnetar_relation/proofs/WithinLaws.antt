-- A walk over all entries that passes over those of other matrices is one over the part of one matrix; and a loop over the part of one matrix,
-- from a place to another.
-- Assumes nothing.
use mathlib.Core.Path.{◌≡◌, refl, sym, ap, ◌∙◌}
use mathlib.Core.List.{List, [], ◌∷◌}
use Prim.Native.Nat.{ℕ, zero, suc, ◌+◌, ◌-◌, ◌<◌, ◌≤◌, min}
use native.Mathlib.Omega.{arith}
use lib.ListN.{length, get_or, take, drop, drop_of_length-le}
use borrow.Author.Tests.{lt-ltb, le-ltb, lt-leb, le-leb}
use Rattle.magnetar_matrix.specs.Matrix.{Entry}
use Rattle.magnetar_matrix.specs.Lent.{entry, entries_of}
use Rattle.magnetar_matrix.proofs.EntryLists.{entries-length, entry_in}
use Rattle.magnetar_relation.specs.EntryWalks.{fold_entries, fold_entries_within}

module _ (g : Entry → List ℕ → List ℕ) where
  past : (a b i : ℕ) (es : List Entry) (t : List ℕ) → a ≤ i → b ≤ i → fold_entries_within g a b i es t ≡ t
  unfolding fold_entries_within
  past a b i [] t u v = refl
  past a b i (e ∷ es) t u v = rw (le-leb a i u, le-ltb i b v) (past a b (suc i) es t (omega arith) (omega arith))

  none : (k : ℕ) (t : List ℕ) → t ≡ fold_entries g (take k []) t
  unfolding fold_entries
  none zero t = refl
  none (suc k) t = refl

  first : (es : List Entry) (t : List ℕ) → t ≡ fold_entries g (take 0 es) t
  unfolding fold_entries
  first es t = refl

  within : (a b k i : ℕ) (es : List Entry) (t : List ℕ) → a ≤ i → b ≡ i + k
      → fold_entries_within g a b i es t ≡ fold_entries g (take k es) t
  unfolding fold_entries_within fold_entries
  within a b zero i es t u v = past a b i es t u (omega arith) ∙ first es t
  within a b (suc k) i [] t u v = refl
  within a b (suc k) i (e ∷ es) t u v =
      rw (le-leb a i u, lt-ltb i b (omega arith)) (within a b k (suc i) es (g e t) (omega arith) (omega arith))

  from : (a b d k i : ℕ) (es : List Entry) (t : List ℕ) → a ≡ i + d → b ≡ a + k
      → fold_entries_within g a b i es t ≡ fold_entries g (take k (drop d es)) t
  unfolding fold_entries_within
  from a b zero k i es t u v = within a b k i es t (omega arith) (omega arith)
  from a b (suc d) k i [] t u v = none k t
  from a b (suc d) k i (e ∷ es) t u v = rw (lt-leb a i (omega arith)) (from a b d k (suc i) es t (omega arith) v)

  pub within-is : (a k : ℕ) (es : List Entry) (t : List ℕ)
      → fold_entries_within g a (a + k) 0 es t ≡ fold_entries g (take k (drop a es)) t
  within-is a k es t = from a (a + k) a k 0 es t (omega arith) refl

-- ---- how many entries four slices hold
abbrev pub held : (r c l h : List ℕ) → ℕ
held r c l h = min (min (length r) (length c)) (min (length l) (length h))

pub entries-held : (r c l h : List ℕ) → length (entries_of r c l h) ≡ held r c l h
entries-held r c l h = entries-length r c l h

pub entry-held : (r c l h : List ℕ) (i : ℕ) → i < length r → i < length c → i < length l → i < length h
    → drop i (entries_of r c l h) ≡ entry (get_or r i 0) (get_or c i 0) (get_or l i 0) (get_or h i 0) ∷ drop (i + 1) (entries_of r c l h)
entry-held r c l h i a b d e = entry_in r c l h i (rw (entries-length r c l h) (omega arith))

-- ---- the same for entries in four slices, from a to b
abbrev pub range_of : (r c l h : List ℕ) → ℕ → ℕ → List Entry
range_of r c l h a b = take (b - a) (drop a (entries_of r c l h))

-- the steps of such a loop
walked_none : (g : Entry → List ℕ → List ℕ) (es : List Entry) (t : List ℕ) → t ≡ fold_entries g (take 0 es) t
unfolding fold_entries
walked_none g es t = refl

take_none : (g : Entry → List ℕ → List ℕ) (k : ℕ) (t : List ℕ) → fold_entries g [] t ≡ fold_entries g (take k []) t
take_none g zero t = refl
take_none g (suc k) t = refl

walked_step : (g : Entry → List ℕ → List ℕ) (k : ℕ) (e : Entry) (es : List Entry) (t : List ℕ)
    → fold_entries g (take k es) (g e t) ≡ fold_entries g (take (suc k) (e ∷ es)) t
unfolding fold_entries
walked_step g k e es t = refl

module _ (g : Entry → List ℕ → List ℕ) (r c l h : List ℕ) (b : ℕ) (whole : List ℕ) where
  -- one turn of a loop over them
  pub range-more : (i : ℕ) (t t' : List ℕ) → i < b → i < length r → i < length c → i < length l → i < length h
      → fold_entries g (range_of r c l h i b) t ≡ whole
      → t' ≡ g (entry (get_or r i 0) (get_or c i 0) (get_or l i 0) (get_or h i 0)) t → fold_entries g (range_of r c l h (i + 1) b) t' ≡ whole
  range-more i t t' u u₁ u₂ u₃ u₄ inv e =
      let n : b - i ≡ suc (b - (i + 1)) = omega arith in
      let x = entry (get_or r i 0) (get_or c i 0) (get_or l i 0) (get_or h i 0) in
      rw e (walked_step g (b - (i + 1)) x (drop (i + 1) (entries_of r c l h)) t)
      ∙ (ap (λ (k : ℕ). fold_entries g (take k (x ∷ drop (i + 1) (entries_of r c l h))) t) (sym n)
      ∙ (ap (λ (es : List Entry). fold_entries g (take (b - i) es) t) (sym (entry-held r c l h i u₁ u₂ u₃ u₄)) ∙ inv))

  -- the loop's end, at b or where some slice ends
  pub range-end : (i : ℕ) (t : List ℕ) → b ≤ i → fold_entries g (range_of r c l h i b) t ≡ whole → t ≡ whole
  range-end i t u inv =
      let n : b - i ≡ 0 = omega arith in
      walked_none g (drop i (entries_of r c l h)) t ∙ (ap (λ (k : ℕ). fold_entries g (take k (drop i (entries_of r c l h))) t) (sym n) ∙ inv)

  pub range-past : (i : ℕ) (t : List ℕ) → held r c l h ≤ i → fold_entries g (range_of r c l h i b) t ≡ whole → t ≡ whole
  range-past i t u inv =
      let d : drop i (entries_of r c l h) ≡ [] = drop_of_length-le (entries_of r c l h) {i = i} (rw (entries-held r c l h) u) in
      walked_none g [] t ∙ (take_none g (b - i) t ∙ (ap (λ (es : List Entry). fold_entries g (take (b - i) es) t) (sym d) ∙ inv))
