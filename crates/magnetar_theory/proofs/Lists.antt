-- The same for the flat lists of elements and draws: the batch is good, or a draw is in its list. No list has more than three.
-- Assumes nothing: the field and its laws are parameters.
use mathlib.Core.Path.{◌≡◌, refl, sym, ap, ◌∙◌, subst, subst₂}
use mathlib.Core.Bool.{Bool, true, false, cond}
use mathlib.Core.List.{List, [], ◌∷◌, ◌++◌, map, Memᴰ}
use mathlib.Core.Logic.{◌⊎◌, inl, inr}
use Prim.Native.Nat.{ℕ, zero, suc, ◌+◌, ◌-◌, ◌*◌, ◌≤◌, ◌<◌}
use native.Mathlib.Nat.{zero-mul, suc-mul, add-zero}
use native.Mathlib.Omega.{arith}
use lib.Dec.{ltb}
use lib.ListN.{length, take, drop, get_or, length-append, length-take, get_or-append}
use lib.Seq.{take-append-le, take-append-add, get_or-append-add, length-take-le, take_at, drop_at, drop-drop}
use borrow.Author.Tests.{ltb-true, ltb-false, lt-ltb, le-ltb}
use Rattle.magnetar_theory.specs.Field.{Field, Laws}
use Rattle.magnetar_theory.specs.SumCheck.{bad_challenges, bind_all, BadChallenge}
use Rattle.magnetar_theory.proofs.SumCheck.{few, length-add_lists}
use Rattle.magnetar_theory.specs.Table.{Cells, table_rounds, State, poly_all, pairs}
use Rattle.magnetar_theory.specs.Cells.{InnerCell, outer_cells, inner_cells}
use Rattle.magnetar_theory.specs.Tau.{Zeros}
use Rattle.magnetar_theory.proofs.Tau.{tau-few}
use Rattle.magnetar_theory.proofs.Alpha.{alpha-few}
use Rattle.magnetar_theory.specs.Inner.{zip_inner}
use Rattle.magnetar_theory.specs.Run.{Relation, System, Draws, Accepted, Sizes, bin_good, vectors, residues, begin, true_terminals, true_value, combo, folded, inner}
use Rattle.magnetar_theory.proofs.Run.{Bad, whole-sound}
use Rattle.magnetar_theory.proofs.Run.{tau-bin, tau-fld, round_bin, round_fld, alpha_bad, inner_bad}
use Rattle.magnetar_theory.specs.Lists.{section, DrawInList, elements_from, six_at, outer, lists_of, lists, rounds, proof_of, drawn}

module _ (F : Field) where
  open F use {K, 𝟎, 𝟏, ◌⊕◌, ◌⊗◌}

  length-rounds : (c st n : ℕ) (w : List K) → length (rounds F c st n w) ≡ c
  length-rounds zero st n w = refl
  length-rounds (suc c) st n w = ap suc (length-rounds c st n (drop st w))

  at-rounds : (c st n i : ℕ) (w : List K) → i < c → get_or (rounds F c st n w) i [] ≡ take n (drop (i * st) w)
  at-rounds zero st n i w h = absurd (omega arith)
  at-rounds (suc c) st n zero w h = rw zero-mul
  at-rounds (suc c) st n (suc i) w h = at-rounds c st n i (drop st w) (omega arith)
      ∙ ap (take n) (drop-drop (i * st) st w ∙ ap (λ (k : ℕ). drop k w) far)
    where
      far : st + i * st ≡ suc i * st
      far = omega (arith, suc-mul i st)

  hit-here : (lst : List K → List K) (sec rest : List K) → DrawInList F lst sec → DrawInList F lst (sec ++ rest)
  hit-here lst sec rest (k, h, m) = (
    k,
    omega (arith, length-append sec rest),
    subst₂ (λ (a : K) (l : List K). Memᴰ a (lst l))
        (sym (get_or-append sec rest 𝟎 k h)) (sym (take-append-le k sec rest (omega arith))) m,
  )

  hit-skip : (lst : List K → List K) (sec rest : List K) → DrawInList F (λ p. lst (sec ++ p)) rest → DrawInList F lst (sec ++ rest)
  hit-skip lst sec rest (k, h, m) = (
    length sec + k,
    omega (arith, length-append sec rest),
    subst₂
        (λ (a : K) (l : List K). Memᴰ a (lst l)) (sym (get_or-append-add sec rest k 𝟎)) (sym (take-append-add sec rest k)) m,
  )

  pub hit-map : (l₁ l₂ : List K → List K) (d : List K) → ((p : List K) → length p < length d → l₁ p ≡ l₂ p) → DrawInList F l₁ d → DrawInList F l₂ d
  hit-map l₁ l₂ d e (k, h, m) = (k, h, subst (Memᴰ (get_or d k 𝟎)) (e (take k d) (rw (length-take-le k d (omega arith)) h)) m)

  module _ (n : ℕ) (g : List K → List K) (r : List K → List K → List K) (sec rest : List K) (l : length sec ≡ n) where
    hit-inside : DrawInList F g sec → DrawInList F (section F n g r) (sec ++ rest)
    unfolding section
    hit-inside h = hit-here (section F n g r) sec rest (hit-map g (section F n g r) sec (λ p q. rw (lt-ltb (length p) n (rw l at q))) h)

    hit-after : DrawInList F (r sec) rest → DrawInList F (section F n g r) (sec ++ rest)
    unfolding section
    hit-after h = hit-skip (section F n g r) sec rest
        (hit-map (r sec) (λ p. section F n g r (sec ++ p)) rest
        (λ p q. rw (le-ltb (length (sec ++ p)) n (omega (arith, length-append sec p)), take_at sec p n l, drop_at sec p n l)) h)

  -- a round of the first part or of the second
  split : (lst : List K → List K → List K) (sh rb : List K) (m₁ m₂ : List (List K)) → length m₁ ≡ length sh
      → (i : ℕ) × (i < length (sh ++ rb)) × Memᴰ (get_or (sh ++ rb) i 𝟎) (lst (take i (sh ++ rb)) (get_or (m₁ ++ m₂) i []))
      → DrawInList F (λ e. lst e (get_or m₁ (length e) [])) sh ⊎ DrawInList F (λ e. lst (sh ++ e) (get_or m₂ (length e) [])) rb
  split lst sh rb m₁ m₂ l (i, h, m) = go (ltb i (length sh)) refl
    where
      first : i < length sh → DrawInList F (λ e. lst e (get_or m₁ (length e) [])) sh
      first q = (
        i,
        q,
        rw (length-take-le i sh (omega arith))
            (rw (get_or-append sh rb 𝟎 i q, take-append-le i sh rb (omega arith), get_or-append m₁ m₂ [] i (omega arith)) at m),
      )

      second : (j : ℕ) → i ≡ length sh + j → DrawInList F (λ e. lst (sh ++ e) (get_or m₂ (length e) [])) rb
      second j e = (
        j,
        small,
        rw (length-take-le j rb (omega (arith, small)))
            (rw (get_or-append-add sh rb j 𝟎, take-append-add sh rb j, ← l, get_or-append-add m₁ m₂ j []) at moved),
      )
        where
          small : j < length rb
          small = omega (arith, length-append sh rb)

          moved : Memᴰ (get_or (sh ++ rb) (length sh + j) 𝟎) (lst (take (length sh + j) (sh ++ rb)) (get_or (m₁ ++ m₂) (length sh + j) []))
          moved = rw e at m

      go : (t : Bool) → ltb i (length sh) ≡ t → DrawInList F (λ e. lst e (get_or m₁ (length e) [])) sh
          ⊎ DrawInList F (λ e. lst (sh ++ e) (get_or m₂ (length e) [])) rb
      go true e = inl (first (ltb-true i (length sh) e))
      go false e = inr (second (i - length sh) (omega (arith, ltb-false i (length sh) e)))

  section-few : (N n : ℕ) (g : List K → List K) (r : List K → List K → List K) (p : List K) → ((e : List K) → length (g e) ≤ N)
      → ((t e : List K) → length (r t e) ≤ N) → length (section F n g r p) ≤ N
  unfolding section
  section-few N n g r p h k = go (ltb (length p) n)
    where
      go : (b : Bool) → length (cond b (g p) (r (take n p) (drop n p))) ≤ N
      go true = h p
      go false = k (take n p) (drop n p)

  module _ (L : Laws F) (s : ℕ) (R : Relation F) (xs ws : List (List K)) (w : List K) where
    length-poly_all : (X : Cells F) (n : ℕ) → ((a b : X.C) → length (X.line a b) ≤ n) → (ps : List (X.C × X.C))
        → length (poly_all F X ps) ≤ n
    length-poly_all X n h [] = omega arith
    length-poly_all X n h (p ∷ ps) = length-add_lists F L (X.line p.0 p.1) (poly_all F X ps) n (h p.0 p.1)
        (length-poly_all X n h ps)

    pub bad-few : (X : Cells F) (n : ℕ) → ((a b : X.C) → length (X.line a b) ≤ suc n) → (S : State F X) (e m : List K) → length m ≤ suc n
        → length (bad_challenges F (table_rounds F X) S e m) ≤ n
    bad-few X n h S e m k = few F L m ((table_rounds F X).poly (bind_all F (table_rounds F X) e S)) n k
        (at-state (bind_all F (table_rounds F X) e S))
      where
        at-state : (T : State F X) → length ((table_rounds F X).poly T) ≤ suc n
        at-state T = length-poly_all X (suc n) h (pairs F X T.tops T.lows T.cells)

    pub words-few : (i n : ℕ) → length (elements_from F i n w) ≤ n
    words-few i n = omega (arith, length-take n (drop i w))

    pub outer-few : (Y : System F) (taus : List K) (rows : ℕ) (e : List K) (i : ℕ)
        → length (outer F s R xs ws w Y taus rows e (elements_from F i 4 w)) ≤ 3
    unfolding outer
    outer-few Y taus rows e i = bad-few (outer_cells F) 3 (λ a b. omega arith) (begin F Y taus (vectors F ws xs) s rows) e (elements_from F i 4 w)
        (words-few i 4)

    cond-few : (N : ℕ) (b : Bool) (u v : List K) → length u ≤ N → length v ≤ N → length (cond b u v) ≤ N
    cond-few N true u v h k = h
    cond-few N false u v h k = k

    -- no list has more than three elements
    pub few-lists : (p : List K) → length (lists F s R xs ws w p) ≤ 3
    unfolding lists_of
    few-lists p = section-few 3 _ _ _ p (λ e. cond-few 3 (bin_good F R xs ws) _ _ (omega arith)
        (omega (arith, tau-few F L (residues F R.bin (vectors F ws xs)) e)))
        λ tb p. section-few 3 _ _ _ p (λ e. cond-few 3 (bin_good F R xs ws) _ _
        (omega (arith, tau-few F L (residues F R.fld (vectors F ws xs)) e)) (omega arith))
        λ tf p. section-few 3 _ _ _ p (λ e. cond-few 3 (bin_good F R xs ws) _ _
        (outer-few R.fld tf R.fld.log_rows e (8 * length e + 4)) (outer-few R.bin tb R.bin.log_rows e (8 * length e)))
        λ sh p. section-few 3 _ _ _ p (λ e. cond-few 3 (bin_good F R xs ws) _ _ (omega arith)
        (outer-few R.bin tb R.bin.log_rows (sh ++ e) (8 * s + 4 * length e)))
        λ rb p. section-few 3 _ _ _ p (λ e. cond-few 3 (bin_good F R xs ws) _ _
        (outer-few R.fld tf R.fld.log_rows (sh ++ e) (8 * s + 4 * R.bin.log_rows + 4 * length e)) (omega arith))
        λ rf p. section-few 3 _ _ _ p (λ e. omega (
          arith,
          alpha-few F L (six_at F (8 * s + 4 * R.bin.log_rows + 4 * R.fld.log_rows) w)
              (true_terminals F R xs ws sh rb rf) e,
        ))
        λ al e. omega (
          arith,
          bad-few (inner_cells F) 2 (λ a b. omega arith)
              (record { tops = 0; lows = suc R.log_half; cells = zip_inner F (combo F R rb rf al) (folded F R xs ws sh) }) e
              (elements_from F (8 * s + 4 * R.bin.log_rows + 4 * R.fld.log_rows + 6 + 3 * length e) 3 w)
              (words-few (8 * s + 4 * R.bin.log_rows + 4 * R.fld.log_rows + 6 + 3 * length e) 3),
        )

  module _ (L : Laws F) (R : Relation F) (xs ws : List (List K)) (w : List K) (D : Draws F) (S : Sizes F R xs ws D) where
    -- where message i of a part stands
    message : (c st n i o o' : ℕ) → i < c → o + i * st ≡ o' → get_or (rounds F c st n (drop o w)) i [] ≡ elements_from F o' n w
    message c st n i o o' h e = at-rounds c st n i (drop o w) h ∙ ap (take n) (drop-drop (i * st) o w ∙ ap (λ (k : ℕ). drop k w) e)

    shared-part : (Y : System F) (taus : List K) (rows o : ℕ)
        → DrawInList F (λ e. outer F (length D.shared) R xs ws w Y taus rows e
        (get_or (rounds F (length D.shared) 8 4 (drop o w)) (length e) [])) D.shared
        → DrawInList F (λ e. outer F (length D.shared) R xs ws w Y taus rows e (elements_from F (8 * length e + o) 4 w)) D.shared
    shared-part Y taus rows o = hit-map (λ e. outer F (length D.shared) R xs ws w Y taus rows e
        (get_or (rounds F (length D.shared) 8 4 (drop o w)) (length e) []))
        (λ e. outer F (length D.shared) R xs ws w Y taus rows e (elements_from F (8 * length e + o) 4 w)) D.shared
        (λ p h. ap (outer F (length D.shared) R xs ws w Y taus rows p)
        (message (length D.shared) 8 4 (length p) o (8 * length p + o) h (omega arith)))

    row-part : (Y : System F) (taus r : List K) (rows o : ℕ) → length r ≡ rows
        → DrawInList F (λ e. outer F (length D.shared) R xs ws w Y taus rows (D.shared ++ e)
        (get_or (rounds F rows 4 4 (drop o w)) (length e) [])) r
        → DrawInList F (λ e. outer F (length D.shared) R xs ws w Y taus rows (D.shared ++ e) (elements_from F (o + 4 * length e) 4 w)) r
    row-part Y taus r rows o l = hit-map (λ e. outer F (length D.shared) R xs ws w Y taus rows (D.shared ++ e)
        (get_or (rounds F rows 4 4 (drop o w)) (length e) []))
        (λ e. outer F (length D.shared) R xs ws w Y taus rows (D.shared ++ e) (elements_from F (o + 4 * length e) 4 w)) r
        (λ p h. ap (outer F (length D.shared) R xs ws w Y taus rows (D.shared ++ p))
        (message rows 4 4 (length p) o (o + 4 * length p) (omega arith) (omega arith)))

    tb-size : length D.tau_bin ≡ R.bin.log_rows + length D.shared
    tb-size = omega (arith, S.taus-bin, S.rows-bin)

    tf-size : length D.tau_fld ≡ R.fld.log_rows + length D.shared
    tf-size = omega (arith, S.taus-fld, S.rows-fld)

    -- the rounds of one system, by their part
    parts : (Y : System F) (taus r : List K) (o o' : ℕ) → length r ≡ Y.log_rows
        → BadChallenge F (table_rounds F (outer_cells F)) (begin F Y taus (vectors F ws xs) (length D.shared) (length r))
        (rounds F (length D.shared) 8 4 (drop o w) ++ rounds F Y.log_rows 4 4 (drop o' w)) (D.shared ++ r)
        → DrawInList F (λ e. outer F (length D.shared) R xs ws w Y taus Y.log_rows e (elements_from F (8 * length e + o) 4 w)) D.shared
        ⊎ DrawInList F (λ e. outer F (length D.shared) R xs ws w Y taus Y.log_rows (D.shared ++ e) (elements_from F (o' + 4 * length e) 4 w)) r
    unfolding outer
    parts Y taus r o o' l t = go (split (bad_challenges F (table_rounds F (outer_cells F))
        (begin F Y taus (vectors F ws xs) (length D.shared) Y.log_rows)) D.shared r (rounds F (length D.shared) 8 4 (drop o w))
        (rounds F Y.log_rows 4 4 (drop o' w)) (length-rounds (length D.shared) 8 4 (drop o w))
        (subst (λ (k : ℕ). BadChallenge F (table_rounds F (outer_cells F)) (begin F Y taus (vectors F ws xs) (length D.shared) k)
        (rounds F (length D.shared) 8 4 (drop o w) ++ rounds F Y.log_rows 4 4 (drop o' w)) (D.shared ++ r)) l t))
      where
        go : DrawInList F (λ e. outer F (length D.shared) R xs ws w Y taus Y.log_rows e
            (get_or (rounds F (length D.shared) 8 4 (drop o w)) (length e) [])) D.shared
            ⊎ DrawInList F (λ e. outer F (length D.shared) R xs ws w Y taus Y.log_rows (D.shared ++ e)
            (get_or (rounds F Y.log_rows 4 4 (drop o' w)) (length e) [])) r
            → DrawInList F (λ e. outer F (length D.shared) R xs ws w Y taus Y.log_rows e (elements_from F (8 * length e + o) 4 w)) D.shared
            ⊎ DrawInList F (λ e. outer F (length D.shared) R xs ws w Y taus Y.log_rows (D.shared ++ e)
            (elements_from F (o' + 4 * length e) 4 w)) r
        go (inl h) = inl (shared-part Y taus Y.log_rows o h)
        go (inr h) = inr (row-part Y taus r Y.log_rows o' l h)

    inner-part : (t : List (InnerCell F)) (n o : ℕ) (e : List K) → length e ≡ n
        → BadChallenge F (table_rounds F (inner_cells F)) (record { tops = 0; lows = length e; cells = t }) (rounds F n 3 3 (drop o w)) e
        → DrawInList F (λ p. bad_challenges F (table_rounds F (inner_cells F)) (record { tops = 0; lows = n; cells = t }) p
        (elements_from F (o + 3 * length p) 3 w)) e
    inner-part t n o e l (i, k, m) = (
      i,
      k,
      rw (length-take-le i e (omega arith))
          (subst₂ (λ (r : ℕ) (g : List K). Memᴰ (get_or e i 𝟎)
          (bad_challenges F (table_rounds F (inner_cells F)) (record { tops = 0; lows = r; cells = t }) (take i e) g)) l
          (message n 3 3 i o (o + 3 * i) (omega arith) (omega arith)) m),
    )

    inner-size : length (inner F D) ≡ suc R.log_half
    inner-size = length-append D.low (D.last ∷ []) ∙ omega (arith, S.low_size)

    at : (b : Bool) → bin_good F R xs ws ≡ b → DrawInList F (lists_of F (length D.shared) R xs ws w b) (drawn F D)
        → DrawInList F (lists F (length D.shared) R xs ws w) (drawn F D)
    at b e h = subst (λ (c : Bool). DrawInList F (lists_of F (length D.shared) R xs ws w c) (drawn F D)) (sym e) h

    -- the draws of the seven parts, each in its place
    place : Bad F R xs ws D (proof_of F (length D.shared) R w) → DrawInList F (lists F (length D.shared) R xs ws w) (drawn F D)
    unfolding lists_of
    place (tau-bin b t) = at false b (hit-inside _ _ _ D.tau_bin _ tb-size t)
    place (tau-fld b t) = at true b (hit-after _ _ _ D.tau_bin _ tb-size (hit-inside _ _ _ D.tau_fld _ tf-size t))
    place (round_bin b t) = at false b (go (parts R.bin D.tau_bin D.row_bin 0 (8 * length D.shared) S.rows-bin t))
      where
        go : DrawInList F (λ e. outer F (length D.shared) R xs ws w R.bin D.tau_bin R.bin.log_rows e (elements_from F (8 * length e + 0) 4 w))
            D.shared ⊎ DrawInList F (λ e. outer F (length D.shared) R xs ws w R.bin D.tau_bin R.bin.log_rows (D.shared ++ e)
            (elements_from F (8 * length D.shared + 4 * length e) 4 w)) D.row_bin
            → DrawInList F (lists_of F (length D.shared) R xs ws w false) (drawn F D)
        go (inl h) = hit-after _ _ _ D.tau_bin _ tb-size (hit-after _ _ _ D.tau_fld _ tf-size (hit-inside _ _ _ D.shared _ refl
            (hit-map (λ e. outer F (length D.shared) R xs ws w R.bin D.tau_bin R.bin.log_rows e (elements_from F (8 * length e + 0) 4 w))
            (λ e. outer F (length D.shared) R xs ws w R.bin D.tau_bin R.bin.log_rows e (elements_from F (8 * length e) 4 w))
            D.shared
            (λ p q. ap (λ (k : ℕ). outer F (length D.shared) R xs ws w R.bin D.tau_bin R.bin.log_rows p (elements_from F k 4 w))
            (add-zero (8 * length p))) h)))
        go (inr h) = hit-after _ _ _ D.tau_bin _ tb-size
            (hit-after _ _ _ D.tau_fld _ tf-size (hit-after _ _ _ D.shared _ refl (hit-inside _ _ _ D.row_bin _ S.rows-bin h)))
    place (round_fld b t) = at true b (go (parts R.fld D.tau_fld D.row_fld 4 (8 * length D.shared + 4 * R.bin.log_rows)
        S.rows-fld t))
      where
        go : DrawInList F (λ e. outer F (length D.shared) R xs ws w R.fld D.tau_fld R.fld.log_rows e (elements_from F (8 * length e + 4) 4 w))
            D.shared ⊎ DrawInList F (λ e. outer F (length D.shared) R xs ws w R.fld D.tau_fld R.fld.log_rows (D.shared ++ e)
            (elements_from F (8 * length D.shared + 4 * R.bin.log_rows + 4 * length e) 4 w)) D.row_fld
            → DrawInList F (lists_of F (length D.shared) R xs ws w true) (drawn F D)
        go (inl h) = hit-after _ _ _ D.tau_bin _ tb-size (hit-after _ _ _ D.tau_fld _ tf-size (hit-inside _ _ _ D.shared _ refl h))
        go (inr h) = hit-after _ _ _ D.tau_bin _ tb-size
            (hit-after _ _ _ D.tau_fld _ tf-size (hit-after _ _ _ D.shared _ refl
            (hit-after _ _ _ D.row_bin _ S.rows-bin (hit-inside _ _ _ D.row_fld _ S.rows-fld h))))
    place (alpha_bad t) = hit-after _ _ _ D.tau_bin _ tb-size
        (hit-after _ _ _ D.tau_fld _ tf-size (hit-after _ _ _ D.shared _ refl
        (hit-after _ _ _ D.row_bin _ S.rows-bin (hit-after _ _ _ D.row_fld _ S.rows-fld
        (hit-inside _ _ _ D.alpha _ S.six_alphas t)))))
    place (inner_bad t) = hit-after _ _ _ D.tau_bin _ tb-size
        (hit-after _ _ _ D.tau_fld _ tf-size (hit-after _ _ _ D.shared _ refl
        (hit-after _ _ _ D.row_bin _ S.rows-bin (hit-after _ _ _ D.row_fld _ S.rows-fld
        (hit-after _ _ _ D.alpha _ S.six_alphas (inner-part _ _ _ (inner F D) inner-size t))))))

    pub flat_sound : Accepted F R xs D (proof_of F (length D.shared) R w) → (proof_of F (length D.shared) R w).values
        ≡ map (true_value F D ws) R.segs
        → (Zeros F (residues F R.bin (vectors F ws xs)) × Zeros F (residues F R.fld (vectors F ws xs)))
        ⊎ DrawInList F (lists F (length D.shared) R xs ws w) (drawn F D)
    flat_sound H T = go (whole-sound F L R xs ws D S (proof_of F (length D.shared) R w) H T)
      where
        go : (Zeros F (residues F R.bin (vectors F ws xs)) × Zeros F (residues F R.fld (vectors F ws xs)))
            ⊎ Bad F R xs ws D (proof_of F (length D.shared) R w)
            → (Zeros F (residues F R.bin (vectors F ws xs)) × Zeros F (residues F R.fld (vectors F ws xs)))
            ⊎ DrawInList F (lists F (length D.shared) R xs ws w) (drawn F D)
        go (inl z) = inl z
        go (inr b) = inr (place b)
