-- The z of all logins folded at their point, in one slice: the folded columns behind the first 4w words, and the public half behind them.
-- Assumes nothing.
use mathlib.Core.Path.{◌≡◌, sym, ap, ap₂, ◌∙◌}
use mathlib.Core.List.{List, ◌++◌, reverse, append_assoc}
use Prim.Native.Nat.{ℕ, ◌+◌, ◌-◌, ◌*◌, ◌≤◌, min}
use native.Mathlib.Omega.{arith}
use lib.ListN.{length, get_or, take, drop, replicate, length-append, length-drop, length-replicate}
use lib.Seq.{take_at, drop_at, drop-append-add, drop-drop, length-take-le}
use borrow.Rule.Slice.PartMut.{put_mid}
use Rattle.magnetar_field.specs.Sizes.{log₂}
use Rattle.magnetar_field.specs.Tabulate.{tabulate}
use Rattle.magnetar_field.specs.Words.{elements, words}
use Rattle.magnetar_field.proofs.Elements.{words-length, elements-length}
use Rattle.magnetar_field.proofs.Tabulation.{tabulate-of, tabulate-length}
use Rattle.magnetar_layout.specs.Login.{login_words, public_words}
use Rattle.magnetar_layout.specs.Tests.{size_tests, packed_tests, public_tests, length_test, room_test}
use Rattle.magnetar_matrix.specs.Batch.{Batch, PublicColumns, folded, folded_at, public_folded, public_folded_at}
use Rattle.magnetar_matrix.specs.Packed.{unpacked, public_of}
use Rattle.magnetar_matrix.proofs.TableLaws.{elements-words}
use Rattle.magnetar_r1cs.proofs.Points.{log-most}
use Rattle.magnetar_batch.specs.Entries.{fold_in_refusal, fold_in_out, public_in_refusal, public_in_out}
use Rattle.magnetar_batch.proofs.Rooms.{back-part, back-put}
use Rattle.magnetar_verifier.proofs.Pieces.{part-get}
use Rattle.magnetar_verifier.proofs.ClaimLaws.{reverse-get, reverse-size}
use Rattle.magnetar_spartan.specs.Proving.{ValidFold, FoldLeft}
use Rattle.magnetar_spartan.proofs.PassedTests.{first-refusal-none, size-passes, same-passes, most-passes}

-- ---- words behind a front
-- the words from k on, where the first n are others
pub behind-front : (n k : ℕ) (t s : List ℕ) → length t ≡ n → n ≤ k → drop k (t ++ drop n s) ≡ drop k s
behind-front n k t s l h =
    let q : n + (k - n) ≡ k = omega arith in
    ap (λ (i : ℕ). drop i (t ++ drop n s)) (sym q) ∙ (past (k - n) ∙ (drop-drop (k - n) n s ∙ ap (λ (i : ℕ). drop i s) q))
  where
    past : (j : ℕ) → drop (n + j) (t ++ drop n s) ≡ drop j (drop n s)
    past j = ap (λ (i : ℕ). drop (i + j) (t ++ drop n s)) (sym l) ∙ drop-append-add t (drop n s) j

-- ---- the fold
-- the point of the logins: n draws from place k on, the last one first
pub point-reversed : (d : List ℕ) (k n : ℕ) → k + n ≤ length d → tabulate (λ i. get_or d (k + (n - 1 - i)) 0) n ≡ reverse (take n (drop k d))
point-reversed d k n h =
    let l : length (take n (drop k d)) ≡ n = length-take-le n (drop k d) (rw length-drop (omega arith)) in
    sym (tabulate-of (reverse (take n (drop k d))) (λ i. get_or d (k + (n - 1 - i)) 0) n 0 (reverse-size (take n (drop k d)) n l)
    (λ i g. reverse-get (take n (drop k d)) n i l g ∙ part-get k n (n - 1 - i) d (omega arith)))

folded-length : (q w : ℕ) (b : Batch) (p : List ℕ) → length (folded q w b p) ≡ w
unfolding folded
folded-length q w b p = tabulate-length (folded_at q b p) w

pub half_length : (q w : ℕ) (x : PublicColumns) (p : List ℕ) → length (public_folded q w x p) ≡ w
unfolding public_folded
half_length q w x p = tabulate-length (public_folded_at q x p) w

module _ (q w n k : ℕ) (ws x d s p u : List ℕ) (lp : length p ≡ 2 * n)
    (ep : elements p ≡ tabulate (λ i. get_or (elements d) (k + (n - 1 - i)) 0) n)
    (eu : u ≡ fold_in_out ws q w p (take (length s - 4 * w) (drop (4 * w) s))) (F : ValidFold q w n k (length ws) (length x) (length d) (length s)) where
  point-is : elements p ≡ reverse (take n (drop k (elements d)))
  point-is = ep ∙ point-reversed (elements d) k n (rw elements-length (omega (arith, F.drawn)))

  point-long : length p ≡ 2 * log₂ q
  point-long = omega (arith, lp, F.point)

  abbrev f : List ℕ
  f = folded q w (unpacked q w ws) (elements p)

  none : fold_in_refusal ws q w p (drop (4 * w) s) ≡ 0
  unfolding fold_in_refusal
  none =
      let room : 2 * w + 2 * q ≤ length (drop (4 * w) s) = rw length-drop (omega (arith, F.room)) in
      first-refusal-none (size_tests (2 * w) q ++ packed_tests w q ws ++ length_test (2 * log₂ q) p ++ room_test (2 * w + 2 * q) (drop (4 * w) s)) (
        size-passes 2 65536 (2 * w) F.columns,
        (
          size-passes 1 4096 q F.logins,
          (
            same-passes (length ws) (q * login_words w) F.packed,
            (same-passes (length p) (2 * log₂ q) point-long, (most-passes (length (drop (4 * w) s)) (2 * w + 2 * q) room, tt)),
          ),
        ),
      )

  f-long : length (words f) ≡ 2 * w
  f-long = words-length f ∙ ap (λ (i : ℕ). 2 * i) (folded-length q w (unpacked q w ws) (elements p))

  -- in front: what was there, then the folded columns
  abbrev fore : List ℕ
  fore = take (4 * w) s ++ words f

  table-long : length (take (4 * w) s) ≡ 4 * w
  table-long = length-take-le (4 * w) s (omega (arith, F.room))

  fore-long : length fore ≡ 6 * w
  fore-long = length-append (take (4 * w) s) (words f) ∙ omega (arith, table-long, f-long)

  abbrev pub folds : List ℕ
  folds = put_mid (4 * w) (length s - 4 * w) s u

  folds-are : folds ≡ (fore ++ replicate (2 * q) 0) ++ drop (6 * w + 2 * q) s
  folds-are =
      let a : 4 * w + (2 * w + 2 * q) ≡ 6 * w + 2 * q = omega arith in
      let r : drop (2 * w + 2 * q) (drop (4 * w) s) ≡ drop (6 * w + 2 * q) s = drop-drop (2 * w + 2 * q) (4 * w) s ∙ ap (λ (i : ℕ). drop i s) a in
      let e : u ≡ words f ++ (replicate (2 * q) 0 ++ drop (6 * w + 2 * q) s) = eu ∙ rw (back-part s (4 * w), none, r) in
      back-put s u (4 * w) ∙ (ap (λ (y : List ℕ). take (4 * w) s ++ y) e
      ∙ (sym (append_assoc (take (4 * w) s) (words f) (replicate (2 * q) 0 ++ drop (6 * w + 2 * q) s))
      ∙ sym (append_assoc fore (replicate (2 * q) 0) (drop (6 * w + 2 * q) s))))

  -- the public half behind them
  module _ (v : List ℕ) (ev : v ≡ public_in_out x q w p (take (length folds - 6 * w) (drop (6 * w) folds))) where
    abbrev h : List ℕ
    h = public_folded q w (public_of q w x) (elements p)

    folds-fore : folds ≡ fore ++ (replicate (2 * q) 0 ++ drop (6 * w + 2 * q) s)
    folds-fore = folds-are ∙ append_assoc fore (replicate (2 * q) 0) (drop (6 * w + 2 * q) s)

    folds-long : length folds ≡ length s
    folds-long =
        ap length folds-are ∙ (length-append (fore ++ replicate (2 * q) 0) (drop (6 * w + 2 * q) s)
        ∙ omega (arith, length-append fore (replicate (2 * q) 0), fore-long, length-replicate {A = ℕ} (2 * q) 0, length-drop (6 * w + 2 * q) s, F.room))

    public-none : public_in_refusal x q w p (drop (6 * w) folds) ≡ 0
    unfolding public_in_refusal
    public-none =
        let room : 2 * w + 2 * q ≤ length (drop (6 * w) folds) = rw (length-drop, folds-long) (omega (arith, F.room)) in
        first-refusal-none
        (size_tests (2 * w) q ++ public_tests (2 * w) q x ++ length_test (2 * log₂ q) p ++ room_test (2 * w + 2 * q) (drop (6 * w) folds)) (
          size-passes 2 65536 (2 * w) F.columns,
          (
            size-passes 1 4096 q F.logins,
            (
              same-passes (length x) (q * public_words w) F.public,
              (same-passes (length p) (2 * log₂ q) point-long, (most-passes (length (drop (6 * w) folds)) (2 * w + 2 * q) room, tt)),
            ),
          ),
        )

    h-long : length (words h) ≡ 2 * w
    h-long = words-length h ∙ ap (λ (i : ℕ). 2 * i) (half_length q w (public_of q w x) (elements p))

    abbrev new : List ℕ
    new = put_mid (6 * w) (length folds - 6 * w) folds v

    -- zeros in the place of the eq table, and the rest
    abbrev after : List ℕ
    after = replicate (2 * q) 0 ++ drop (8 * w + 2 * q) folds

    new_is : new ≡ fore ++ (words h ++ after)
    new_is =
        let a : 6 * w + (2 * w + 2 * q) ≡ 8 * w + 2 * q = omega arith in
        back-put folds v (6 * w) ∙ ap₂ (λ (y z : List ℕ). y ++ z)
        (ap (take (6 * w)) folds-fore ∙ take_at fore (replicate (2 * q) 0 ++ drop (6 * w + 2 * q) s) (6 * w) fore-long)
        (ev ∙ rw (back-part folds (6 * w), public-none, drop-drop (2 * w + 2 * q) (6 * w) folds, a))

    new-parts : new ≡ take (4 * w) s ++ (words f ++ (words h ++ after))
    new-parts = new_is ∙ append_assoc (take (4 * w) s) (words f) (words h ++ after)

    columns-are : elements (take (2 * w) (drop (4 * w) new)) ≡ f
    columns-are =
        ap (λ (y : List ℕ). elements (take (2 * w) (drop (4 * w) y))) new-parts
        ∙ (ap (λ (y : List ℕ). elements (take (2 * w) y)) (drop_at (take (4 * w) s) (words f ++ (words h ++ after)) (4 * w) table-long)
        ∙ (ap elements (take_at (words f) (words h ++ after) (2 * w) f-long) ∙ elements-words f))

    half_is : elements (take (2 * w) (drop (6 * w) new)) ≡ h
    half_is =
        ap (λ (y : List ℕ). elements (take (2 * w) (drop (6 * w) y))) new_is
        ∙ (ap (λ (y : List ℕ). elements (take (2 * w) y)) (drop_at fore (words h ++ after) (6 * w) fore-long)
        ∙ (ap elements (take_at (words h) after (2 * w) h-long) ∙ elements-words h))

    rest-is : drop (8 * w + 2 * q) new ≡ drop (8 * w + 2 * q) s
    rest-is =
        let z : List ℕ = replicate (2 * q) 0 in
        let e : new ≡ ((fore ++ words h) ++ z) ++ drop (8 * w + 2 * q) folds =
        new_is ∙ (sym (append_assoc fore (words h) after) ∙ sym (append_assoc (fore ++ words h) z (drop (8 * w + 2 * q) folds))) in
        let l : length ((fore ++ words h) ++ z) ≡ 8 * w + 2 * q =
        length-append (fore ++ words h) z ∙ omega (arith, length-append fore (words h), fore-long, h-long, length-replicate {A = ℕ} (2 * q) 0) in
        let k : length (fore ++ z) ≡ 6 * w + 2 * q = length-append fore z ∙ omega (arith, fore-long, length-replicate {A = ℕ} (2 * q) 0) in
        ap (drop (8 * w + 2 * q)) e ∙ (drop_at ((fore ++ words h) ++ z) (drop (8 * w + 2 * q) folds) (8 * w + 2 * q) l
        ∙ (ap (drop (8 * w + 2 * q)) folds-are ∙ behind-front (6 * w + 2 * q) (8 * w + 2 * q) (fore ++ z) s k (omega arith)))

    pub fold-ends : FoldLeft q w n k ws x d s new
    fold-ends = (
      ap (take (4 * w)) new-parts ∙ take_at (take (4 * w) s) (words f ++ (words h ++ after)) (4 * w) table-long,
      columns-are ∙ ap (folded q w (unpacked q w ws)) point-is,
      half_is ∙ ap (public_folded q w (public_of q w x)) point-is,
      rest-is,
    )

-- at the point of the logins
pub fold-left : (q w l n k K : ℕ) (ws x d s s' : List ℕ) → l ≡ log₂ q → n ≡ min l 16 → k ≡ K
    → (ValidFold q w n k (length ws) (length x) (length d) (length s) → FoldLeft q w n k ws x d s s')
    → ValidFold q w (log₂ q) K (length ws) (length x) (length d) (length s) → FoldLeft q w (log₂ q) K ws x d s s'
fold-left q w l n k K ws x d s s' el en ek h F =
    let few = log-most q (omega (arith, F.logins.high)) F.logins.power in
    let e : n ≡ log₂ q = omega (arith, el, en, few) in
    (rw (e, ek) at h) F
