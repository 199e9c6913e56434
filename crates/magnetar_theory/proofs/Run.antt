-- A whole run, accepted with true claims: the batch is good, or a draw is bad. A good batch: the honest proof is accepted.
-- Assumes nothing: the field and its laws are parameters.
use mathlib.Core.Path.{◌≡◌, refl, sym, ap, ap₂, ◌∙◌}
use mathlib.Core.Bool.{Bool, true, false, false≢true}
use mathlib.Core.List.{List, [], ◌∷◌, ◌++◌, map, reverse}
use mathlib.Core.Logic.{◌⊎◌, inl, inr}
use Prim.Native.Nat.{ℕ, zero, suc, ◌+◌, ◌*◌, ◌^◌}
use native.Mathlib.Nat.{two-pow-succ, zero-mul, suc-mul, zero-add, one-mul, suc-add}
use native.Mathlib.Omega.{arith}
use lib.ListN.{length, take, drop, get_or, length-append, replicate-append-replicate}
use Rattle.magnetar_theory.specs.Field.{Field, Laws}
use Rattle.magnetar_theory.proofs.Ring.{ring}
use Rattle.magnetar_theory.specs.SumCheck.{add_lists, Checks, running, BadChallenge, honest}
use Rattle.magnetar_theory.specs.Table.{table_rounds}
use Rattle.magnetar_theory.specs.Cells.{outer_cells, inner_cells}
use Rattle.magnetar_theory.specs.EqTable.{eq_table, dot, eq_product, scale}
use Rattle.magnetar_theory.proofs.EqTable.{length-scale}
use Rattle.magnetar_theory.specs.Tau.{Zeros, BadTau}
use Rattle.magnetar_theory.proofs.Tau.{zeros, all-zero}
use Rattle.magnetar_theory.specs.Alpha.{BadAlpha}
use Rattle.magnetar_theory.proofs.Alpha.{alpha-sound}
use Rattle.magnetar_theory.specs.Matrix.{Entry, apply, apply_all, columns, fold, AllLength}
use Rattle.magnetar_theory.proofs.Matrix.{dot-comm, dot-fold, length-fold, length-apply, length-columns, matrix}
use Rattle.magnetar_theory.proofs.Outer.{outer-sound, outer-complete}
use Rattle.magnetar_theory.specs.Inner.{zip_inner}
use Rattle.magnetar_theory.proofs.Inner.{inner-sound, inner-complete}
use Rattle.magnetar_theory.specs.Segment.{Segment, segment_part}
use Rattle.magnetar_theory.proofs.Segment.{by_segments, segments, halves}
use Rattle.magnetar_theory.specs.Run.{System, Relation, vectors, table, residues, begin, Draws, Proof, inner, terminals, six, seg_sum, Accepted, true_value, AllZeroOutside, Sizes, true_terminals, combo, folded, folded_half, bin_good, honest_proof}

module _ (F : Field) where
  open F use {K, 𝟎, 𝟏, ◌⊕◌, ◌⊗◌}

  infixl 60 ◌⊕◌
  infixl 70 ◌⊗◌
  -- a draw is in its list
  pub data Bad (R : Relation F) (xs ws : List (List K)) (D : Draws F) (W : Proof F) : Type 0 where
    tau-bin : bin_good F R xs ws ≡ false → BadTau F (residues F R.bin (vectors F ws xs)) D.tau_bin → Bad R xs ws D W
    tau-fld : bin_good F R xs ws ≡ true → BadTau F (residues F R.fld (vectors F ws xs)) D.tau_fld → Bad R xs ws D W
    round_bin : bin_good F R xs ws ≡ false → BadChallenge F (table_rounds F (outer_cells F)) (begin F R.bin D.tau_bin (vectors F ws xs)
        (length D.shared) (length D.row_bin)) W.bin_ms (D.shared ++ D.row_bin) → Bad R xs ws D W
    round_fld : bin_good F R xs ws ≡ true → BadChallenge F (table_rounds F (outer_cells F)) (begin F R.fld D.tau_fld (vectors F ws xs)
        (length D.shared) (length D.row_fld)) W.fld_ms (D.shared ++ D.row_fld) → Bad R xs ws D W
    alpha_bad : BadAlpha F (terminals F W) (true_terminals F R xs ws D.shared D.row_bin D.row_fld) D.alpha → Bad R xs ws D W
    inner_bad : BadChallenge F (table_rounds F (inner_cells F))
        (record {
          tops = 0;
          lows = length (inner F D);
          cells = zip_inner F (combo F R D.row_bin D.row_fld D.alpha)
              (folded F R xs ws D.shared);
        }) W.inner_ms (inner F D) → Bad R xs ws D W

  module _ (L : Laws F) where
    linear : (es : List K) (k : K) (f g : List K → K) (ws : List (List K)) → dot F es (map (λ (w : List K). k ⊗ f w ⊕ g w) ws)
        ≡ k ⊗ dot F es (map f ws) ⊕ dot F es (map g ws)
    linear [] k f g ws = none k
      where
        none : (k : K) → 𝟎 ≡ k ⊗ 𝟎 ⊕ 𝟎
        none k = simp (ring, L.is-ring)
    linear (e ∷ es) k f g [] = none k
      where
        none : (k : K) → 𝟎 ≡ k ⊗ 𝟎 ⊕ 𝟎
        none k = simp (ring, L.is-ring)
    linear (e ∷ es) k f g (w ∷ ws) = ap (λ (v : K). e ⊗ (k ⊗ f w ⊕ g w) ⊕ v) (linear es k f g ws)
        ∙ terms e k (f w) (g w) (dot F es (map f ws)) (dot F es (map g ws))
      where
        terms : (e k a b p q : K) → e ⊗ (k ⊗ a ⊕ b) ⊕ (k ⊗ p ⊕ q) ≡ k ⊗ (e ⊗ a ⊕ p) ⊕ (e ⊗ b ⊕ q)
        terms e k a b p q = simp (ring, L.is-ring)

    nothing : (es : List K) (ws : List (List K)) → dot F es (map (λ (w : List K). 𝟎) ws) ≡ 𝟎
    nothing [] ws = refl
    nothing (e ∷ es) [] = refl
    nothing (e ∷ es) (w ∷ ws) = ap (λ (v : K). e ⊗ 𝟎 ⊕ v) (nothing es ws) ∙ none e
      where
        none : (e : K) → e ⊗ 𝟎 ⊕ 𝟎 ≡ 𝟎
        none e = simp (ring, L.is-ring)

    -- the sums over the segments, login by login
    sums : (gs : List Segment) (r es : List K) (ws : List (List K)) → dot F es (map (λ (w : List K). by_segments F gs r w) ws)
        ≡ seg_sum F gs r (map (λ (g : Segment). dot F es (map (λ (w : List K). dot F (eq_table F (take g.log_len r)) (segment_part F g w)) ws)) gs)
    sums [] r es ws = nothing es ws
    sums (g ∷ gs) r es ws = linear es (get_or (eq_table F (drop g.log_len r)) g.number 𝟎)
        (λ w. dot F (eq_table F (take g.log_len r)) (segment_part F g w)) (λ w. by_segments F gs r w) ws
        ∙ ap (λ (v : K). get_or (eq_table F (drop g.log_len r)) g.number 𝟎 ⊗ dot F es
        (map (λ (w : List K). dot F (eq_table F (take g.log_len r)) (segment_part F g w)) ws) ⊕ v) (sums gs r es ws)

    by-login : (n : ℕ) (gs : List Segment) (r es : List K) (ws : List (List K)) → 2 ^ length r ≡ n → AllZeroOutside F n gs ws
        → dot F es (map (λ (w : List K). dot F w (eq_table F r)) ws) ≡ dot F es (map (λ (w : List K). by_segments F gs r w) ws)
    by-login n gs r [] ws h l = refl
    by-login n gs r (e ∷ es) [] h l = refl
    by-login n gs r (e ∷ es) (w ∷ ws) h l = ap₂ (λ (a b : K). e ⊗ a ⊕ b)
        (dot-comm F L w (eq_table F r) ∙ segments F L gs 0 r w (rw h l.0)) (by-login n gs r es ws h l.1)

    -- the folded vectors are the folded bits, and behind them the folded public halves
    pub fold-vectors : (n : ℕ) (es : List K) (xs ws : List (List K)) → length xs ≡ length ws → AllLength F n ws
        → fold F (n + n) es (vectors F ws xs) ≡ fold F n es ws ++ fold F n es xs
    fold-vectors n [] xs ws l h = sym (replicate-append-replicate n n 𝟎)
    fold-vectors n (e ∷ es) [] [] l h = sym (replicate-append-replicate n n 𝟎)
    fold-vectors n (e ∷ es) [] (w ∷ ws) l h = absurd (omega arith)
    fold-vectors n (e ∷ es) (x ∷ xs) [] l h = absurd (omega arith)
    fold-vectors n (e ∷ es) (x ∷ xs) (w ∷ ws) l h = ap₂ (add_lists F) (scaled e w x) (fold-vectors n es xs ws (omega arith) h.1)
        ∙ added (scale F e w) (fold F n es ws) (scale F e x) (fold F n es xs)
        (length-scale F L e w ∙ h.0 ∙ sym (length-fold F L n es ws h.1))
      where
        scaled : (e : K) (s t : List K) → scale F e (s ++ t) ≡ scale F e s ++ scale F e t
        scaled e [] t = refl
        scaled e (y ∷ s) t = ap (λ (l : List K). e ⊗ y ∷ l) (scaled e s t)

        added : (s s' t t' : List K) → length s ≡ length s' → add_lists F (s ++ t) (s' ++ t') ≡ add_lists F s s' ++ add_lists F t t'
        added [] [] t t' h = refl
        added [] (z ∷ s') t t' h = absurd (omega arith)
        added (y ∷ s) [] t t' h = absurd (omega arith)
        added (y ∷ s) (z ∷ s') t t' h = ap (λ (l : List K). (y ⊕ z) ∷ l) (added s s' t t' (omega arith))

    length-table : (n : ℕ) (M : List (Entry F)) (zs : List (List K)) → length (apply_all F n M zs) ≡ length zs * n
    length-table n M [] = sym (zero-mul n)
    length-table n M (z ∷ zs) = length-append (apply F n M z) (apply_all F n M zs)
        ∙ omega (arith, length-apply F L n M z, length-table n M zs, suc-mul (length zs) n)

    pow-sum : (s b : ℕ) → 2 ^ s * 2 ^ b ≡ 2 ^ (s + b)
    pow-sum zero b = rw (zero-add) (one-mul (2 ^ b))
    pow-sum (suc s) b = rw (suc-add, two-pow-succ s, two-pow-succ (s + b)) (omega (arith, pow-sum s b))

    all-vectors : (n k : ℕ) (xs ws : List (List K)) → AllLength F n ws → AllLength F n xs → n + n ≡ k → AllLength F k (vectors F ws xs)
    all-vectors n k xs [] h e p = tt
    all-vectors n k [] (w ∷ ws) h e p = tt
    all-vectors n k (x ∷ xs) (w ∷ ws) h e p = (length-append w x ∙ omega (arith, h.0, e.0), all-vectors n k xs ws h.1 e.1 p)

    length-vectors : (xs ws : List (List K)) → length xs ≡ length ws → length (vectors F ws xs) ≡ length ws
    length-vectors xs [] h = refl
    length-vectors [] (w ∷ ws) h = absurd (omega arith)
    length-vectors (x ∷ xs) (w ∷ ws) h = ap suc (length-vectors xs ws (omega arith))

    module _ (R : Relation F) (xs ws : List (List K)) (D : Draws F) (S : Sizes F R xs ws D) where
      inst : List K
      inst = eq_table F (reverse D.shared)

      halfs : 2 ^ length D.low ≡ 2 ^ R.log_half
      halfs = ap (λ (k : ℕ). 2 ^ k) S.low_size

      vecs : AllLength F (2 ^ suc R.log_half) (vectors F ws xs)
      vecs = all-vectors (2 ^ R.log_half) (2 ^ suc R.log_half) xs ws S.row_lengths S.half_lengths (sym (two-pow-succ R.log_half))

      -- the folded vector at the column point
      at-end : dot F (eq_table F (inner F D)) (folded F R xs ws D.shared)
          ≡ (𝟏 ⊕ D.last) ⊗ seg_sum F R.segs D.low (map (true_value F D ws) R.segs)
          ⊕ D.last ⊗ dot F (eq_table F D.low) (folded_half F R xs D.shared)
      unfolding inst
      at-end = ap (λ (k : ℕ). dot F (eq_table F (inner F D)) (fold F k inst (vectors F ws xs))) (two-pow-succ R.log_half)
          ∙ ap (dot F (eq_table F (inner F D))) (fold-vectors (2 ^ R.log_half) inst xs ws (S.halves ∙ sym S.logins) S.row_lengths)
          ∙ halves F L D.low D.last (fold F (2 ^ R.log_half) inst ws) (folded_half F R xs D.shared)
          (length-fold F L (2 ^ R.log_half) inst ws S.row_lengths ∙ sym halfs)
          ∙ ap (λ (a : K). (𝟏 ⊕ D.last) ⊗ a ⊕ D.last ⊗ dot F (eq_table F D.low) (folded_half F R xs D.shared))
          (dot-fold F L (2 ^ R.log_half) (eq_table F D.low) inst ws
          ∙ by-login (2 ^ R.log_half) R.segs D.low inst ws halfs S.laid ∙ sums R.segs D.low inst ws)

      -- one true terminal, by the columns and by the rows
      terminal : (Y : System F) (M : List (Entry F)) (r : List K) → length r ≡ Y.log_rows
          → dot F (columns F (2 ^ suc R.log_half) M (eq_table F r)) (folded F R xs ws D.shared)
          ≡ dot F (eq_table F (r ++ reverse D.shared)) (table F Y M (vectors F ws xs))
      terminal Y M r h = sym (matrix F L (2 ^ suc R.log_half) M r (reverse D.shared) (vectors F ws xs) vecs)
          ∙ ap (λ (k : ℕ). dot F (eq_table F (r ++ reverse D.shared)) (apply_all F (2 ^ k) M (vectors F ws xs))) h

      combined : dot F (combo F R D.row_bin D.row_fld D.alpha) (folded F R xs ws D.shared)
          ≡ dot F D.alpha (true_terminals F R xs ws D.shared D.row_bin D.row_fld)
      combined = dot-comm F L (combo F R D.row_bin D.row_fld D.alpha) (folded F R xs ws D.shared)
          ∙ dot-fold F L (2 ^ suc R.log_half) (folded F R xs ws D.shared) D.alpha (six F R D.row_bin D.row_fld)
          ∙ (λ i. dot F D.alpha (terminal R.bin R.bin.A D.row_bin S.rows-bin i ∷ terminal R.bin R.bin.B D.row_bin
          S.rows-bin i ∷ terminal R.bin R.bin.C D.row_bin S.rows-bin i
          ∷ terminal R.fld R.fld.A D.row_fld S.rows-fld i ∷ terminal R.fld R.fld.B D.row_fld
          S.rows-fld i ∷ terminal R.fld R.fld.C D.row_fld S.rows-fld i ∷ []))

      cols_size : (M : List (Entry F)) (r : List K) → length (columns F (2 ^ suc R.log_half) M (eq_table F r)) ≡ 2 ^ suc R.log_half
      cols_size M r = length-columns F L (2 ^ suc R.log_half) M (eq_table F r)

      combo-size : length (combo F R D.row_bin D.row_fld D.alpha) ≡ 2 ^ suc R.log_half
      combo-size = length-fold F L (2 ^ suc R.log_half) D.alpha (six F R D.row_bin D.row_fld) (
        cols_size R.bin.A D.row_bin,
        (
          cols_size R.bin.B D.row_bin,
          (
            cols_size R.bin.C D.row_bin,
            (
              cols_size R.fld.A D.row_fld,
              (cols_size R.fld.B D.row_fld, (cols_size R.fld.C D.row_fld, tt)),
            ),
          ),
        ),
      )

      folded-size : length (folded F R xs ws D.shared) ≡ 2 ^ suc R.log_half
      folded-size = length-fold F L (2 ^ suc R.log_half) (eq_table F (reverse D.shared)) (vectors F ws xs) vecs

      inner-size : length (inner F D) ≡ suc R.log_half
      inner-size = length-append D.low (D.last ∷ []) ∙ omega (arith, S.low_size)

      table-size : (Y : System F) (M : List (Entry F)) (r : List K) → length r ≡ Y.log_rows → length (table F Y M (vectors F ws xs))
          ≡ 2 ^ (length D.shared + length r)
      table-size Y M r h = length-table (2 ^ Y.log_rows) M (vectors F ws xs)
          ∙ ap₂ (λ (a b : ℕ). a * 2 ^ b) (length-vectors xs ws (S.halves ∙ sym S.logins) ∙ S.logins) (sym h)
          ∙ pow-sum (length D.shared) (length r)

      -- one system, with its terminals true
      system : (Y : System F) (taus r : List K) (ms : List (List K)) → length r ≡ Y.log_rows → length taus ≡ length D.shared + length r
          → Checks F 𝟎 ms (D.shared ++ r) → (a b c : K)
          → running F 𝟎 ms (D.shared ++ r) ≡ eq_product F taus (r ++ reverse D.shared) ⊗ (a ⊗ b ⊕ c)
          → a ≡ dot F (eq_table F (r ++ reverse D.shared)) (table F Y Y.A (vectors F ws xs)) → b
          ≡ dot F (eq_table F (r ++ reverse D.shared)) (table F Y Y.B (vectors F ws xs)) → c
          ≡ dot F (eq_table F (r ++ reverse D.shared)) (table F Y Y.C (vectors F ws xs))
          → Zeros F (residues F Y (vectors F ws xs)) ⊎ (BadTau F (residues F Y (vectors F ws xs)) taus
          ⊎ BadChallenge F (table_rounds F (outer_cells F)) (begin F Y taus (vectors F ws xs) (length D.shared) (length r)) ms
          (D.shared ++ r))
      system Y taus r ms h k ch a b c e p q s = outer-sound F L (table F Y Y.A (vectors F ws xs)) (table F Y Y.B (vectors F ws xs))
          (table F Y Y.C (vectors F ws xs)) taus D.shared r (table-size Y Y.A r h)
          (table-size Y Y.B r h ∙ sym (table-size Y Y.A r h)) (table-size Y Y.C r h ∙ sym (table-size Y Y.A r h)) k ms ch
          (e ∙ (λ i. eq_product F taus (r ++ reverse D.shared) ⊗ (p i ⊗ q i ⊕ s i)))

      module _ (W : Proof F) (H : Accepted F R xs D W) (T : W.values ≡ map (true_value F D ws) R.segs) where
        vz-true : dot F (eq_table F (inner F D)) (folded F R xs ws D.shared) ≡ W.vz
        vz-true = at-end ∙ ap (λ (v : List K). (𝟏 ⊕ D.last) ⊗ seg_sum F R.segs D.low v
            ⊕ D.last ⊗ dot F (eq_table F D.low) (folded_half F R xs D.shared)) (sym T) ∙ sym H.identity

        after-inner : (dot F D.alpha (terminals F W) ≡ dot F D.alpha (true_terminals F R xs ws D.shared D.row_bin D.row_fld))
            ⊎ Bad R xs ws D W
        after-inner = go (inner-sound F L (combo F R D.row_bin D.row_fld D.alpha) (folded F R xs ws D.shared) (inner F D)
            (combo-size ∙ ap (λ (k : ℕ). 2 ^ k) (sym inner-size)) (folded-size ∙ sym combo-size) (dot F D.alpha (terminals F W))
            W.inner_ms H.inner-rounds
            (H.inner_terminal ∙ ap (λ (v : K). dot F (eq_table F (inner F D)) (combo F R D.row_bin D.row_fld D.alpha) ⊗ v)
            (sym vz-true)))
          where
            go : (dot F D.alpha (terminals F W) ≡ dot F (combo F R D.row_bin D.row_fld D.alpha) (folded F R xs ws D.shared))
                ⊎ BadChallenge F (table_rounds F (inner_cells F)) (record {
                  tops = 0;
                  lows = length (inner F D);
                  cells = zip_inner F
                      (combo F R D.row_bin D.row_fld D.alpha) (folded F R xs ws D.shared);
                }) W.inner_ms (inner F D)
                → (dot F D.alpha (terminals F W) ≡ dot F D.alpha (true_terminals F R xs ws D.shared D.row_bin D.row_fld))
                ⊎ Bad R xs ws D W
            go (inl e) = inl (e ∙ combined)
            go (inr m) = inr (inner_bad m)

        after-alpha : (terminals F W ≡ true_terminals F R xs ws D.shared D.row_bin D.row_fld) ⊎ Bad R xs ws D W
        after-alpha = go after-inner
          where
            pick : (terminals F W ≡ true_terminals F R xs ws D.shared D.row_bin D.row_fld)
                ⊎ BadAlpha F (terminals F W) (true_terminals F R xs ws D.shared D.row_bin D.row_fld) D.alpha
                → (terminals F W ≡ true_terminals F R xs ws D.shared D.row_bin D.row_fld) ⊎ Bad R xs ws D W
            pick (inl e) = inl e
            pick (inr m) = inr (alpha_bad m)

            go : (dot F D.alpha (terminals F W) ≡ dot F D.alpha (true_terminals F R xs ws D.shared D.row_bin D.row_fld))
                ⊎ Bad R xs ws D W → (terminals F W ≡ true_terminals F R xs ws D.shared D.row_bin D.row_fld) ⊎ Bad R xs ws D W
            go (inl e) = pick (alpha-sound F L D.alpha (terminals F W) (true_terminals F R xs ws D.shared D.row_bin D.row_fld)
                S.six_alphas refl e)
            go (inr b) = inr b

        -- accepted with true claims: every row of both systems holds for every login, or a draw is in its list
        pub whole-sound : (Zeros F (residues F R.bin (vectors F ws xs)) × Zeros F (residues F R.fld (vectors F ws xs))) ⊎ Bad R xs ws D W
        whole-sound = go after-alpha
          where
            both : (c : Bool) → bin_good F R xs ws ≡ c → Zeros F (residues F R.bin (vectors F ws xs))
                ⊎ (BadTau F (residues F R.bin (vectors F ws xs)) D.tau_bin
                ⊎ BadChallenge F (table_rounds F (outer_cells F)) (begin F R.bin D.tau_bin (vectors F ws xs) (length D.shared)
                (length D.row_bin)) W.bin_ms (D.shared ++ D.row_bin))
                → Zeros F (residues F R.fld (vectors F ws xs))
                ⊎ (BadTau F (residues F R.fld (vectors F ws xs)) D.tau_fld
                ⊎ BadChallenge F (table_rounds F (outer_cells F)) (begin F R.fld D.tau_fld (vectors F ws xs) (length D.shared)
                (length D.row_fld)) W.fld_ms (D.shared ++ D.row_fld))
                → (Zeros F (residues F R.bin (vectors F ws xs)) × Zeros F (residues F R.fld (vectors F ws xs))) ⊎ Bad R xs ws D W
            both true e a (inl b) = inl (zeros F L (residues F R.bin (vectors F ws xs)) e, b)
            both true e a (inr (inl t)) = inr (tau-fld e t)
            both true e a (inr (inr t)) = inr (round_fld e t)
            both false e (inl a) b = absurd (false≢true (sym e ∙ all-zero F L (residues F R.bin (vectors F ws xs)) a))
            both false e (inr (inl t)) b = inr (tau-bin e t)
            both false e (inr (inr t)) b = inr (round_bin e t)

            go : (terminals F W ≡ true_terminals F R xs ws D.shared D.row_bin D.row_fld) ⊎ Bad R xs ws D W
                → (Zeros F (residues F R.bin (vectors F ws xs)) × Zeros F (residues F R.fld (vectors F ws xs))) ⊎ Bad R xs ws D W
            go (inr b) = inr b
            go (inl e) = both (bin_good F R xs ws) refl
                (system R.bin D.tau_bin D.row_bin W.bin_ms S.rows-bin S.taus-bin H.bin-rounds W.ab W.bb W.cb
                H.bin_terminal (ap (λ (l : List K). get_or l 0 𝟎) e) (ap (λ (l : List K). get_or l 1 𝟎) e)
                (ap (λ (l : List K). get_or l 2 𝟎) e))
                (system R.fld D.tau_fld D.row_fld W.fld_ms S.rows-fld S.taus-fld H.fld-rounds W.af W.bf W.cf
                H.fld_terminal (ap (λ (l : List K). get_or l 3 𝟎) e) (ap (λ (l : List K). get_or l 4 𝟎) e)
                (ap (λ (l : List K). get_or l 5 𝟎) e))

      system-complete : (Y : System F) (taus r : List K) → length r ≡ Y.log_rows → length taus ≡ length D.shared + length r
          → Zeros F (residues F Y (vectors F ws xs))
          → Checks F 𝟎 (honest F (table_rounds F (outer_cells F)) (begin F Y taus (vectors F ws xs) (length D.shared) (length r))
          (D.shared ++ r)) (D.shared ++ r)
          × (running F 𝟎 (honest F (table_rounds F (outer_cells F)) (begin F Y taus (vectors F ws xs) (length D.shared) (length r))
          (D.shared ++ r)) (D.shared ++ r)
          ≡ eq_product F taus (r ++ reverse D.shared) ⊗
          (dot F (eq_table F (r ++ reverse D.shared)) (table F Y Y.A (vectors F ws xs)) ⊗ dot F
          (eq_table F (r ++ reverse D.shared)) (table F Y Y.B (vectors F ws xs)) ⊕ dot F (eq_table F (r ++ reverse D.shared))
          (table F Y Y.C (vectors F ws xs))))
      system-complete Y taus r h k z = outer-complete F L (table F Y Y.A (vectors F ws xs)) (table F Y Y.B (vectors F ws xs))
          (table F Y Y.C (vectors F ws xs)) taus D.shared r (table-size Y Y.A r h)
          (table-size Y Y.B r h ∙ sym (table-size Y Y.A r h)) (table-size Y Y.C r h ∙ sym (table-size Y Y.A r h)) k z

      -- a good batch: the honest proof is accepted
      pub whole-complete : Zeros F (residues F R.bin (vectors F ws xs)) → Zeros F (residues F R.fld (vectors F ws xs))
          → Accepted F R xs D (honest_proof F R xs ws D)
      whole-complete zb zf = record {
        bin-rounds = (system-complete R.bin D.tau_bin D.row_bin S.rows-bin S.taus-bin zb).0;
        fld-rounds = (system-complete R.fld D.tau_fld D.row_fld S.rows-fld S.taus-fld zf).0;
        bin_terminal = (system-complete R.bin D.tau_bin D.row_bin S.rows-bin S.taus-bin zb).1;
        fld_terminal = (system-complete R.fld D.tau_fld D.row_fld S.rows-fld S.taus-fld zf).1;
        inner-rounds = rw combined at ic.0;
        inner_terminal = rw combined at ic.1;
        identity = at-end;
      }
        where
          ic : Checks F (dot F (combo F R D.row_bin D.row_fld D.alpha) (folded F R xs ws D.shared))
              (honest_proof F R xs ws D).inner_ms (inner F D)
              × (running F (dot F (combo F R D.row_bin D.row_fld D.alpha) (folded F R xs ws D.shared))
              (honest_proof F R xs ws D).inner_ms (inner F D)
              ≡ dot F (eq_table F (inner F D)) (combo F R D.row_bin D.row_fld D.alpha) ⊗ dot F (eq_table F (inner F D))
              (folded F R xs ws D.shared))
          ic = inner-complete F L (combo F R D.row_bin D.row_fld D.alpha) (folded F R xs ws D.shared) (inner F D)
              (combo-size ∙ ap (λ (k : ℕ). 2 ^ k) (sym inner-size)) (folded-size ∙ sym combo-size)
