-- The claims are those of a run, part by part; the answer of `write_claims`.
-- Assumes nothing.
use mathlib.Core.Path.{◌≡◌, refl, sym, ap, ◌∙◌}
use mathlib.Core.List.{List, [], ◌∷◌, ◌++◌, reverse, append_assoc, append-nil}
use Prim.Native.Nat.{ℕ, zero, suc, ◌+◌, ◌-◌, ◌*◌, ◌^◌, ◌<◌}
use native.Mathlib.Omega.{arith}
use lib.ListN.{length, get_or, drop, length-append, length-drop}
use lib.Seq.{take-take, take_all, take_at, drop_at}
use Rattle.std.proofs.lemmas.List.{drop_all}
use borrow.Author.Tests.{le-ltb}
use borrow.Rule.Slice.PartMut.{put_mid}
use Rattle.magnetar_field.specs.Sizes.{log₂}
use Rattle.magnetar_field.specs.Tabulate.{tabulate}
use Rattle.magnetar_field.specs.Words.{elements, words}
use Rattle.magnetar_field.proofs.Elements.{elements-length}
use Rattle.magnetar_field.proofs.Tabulation.{tabulate-of}
use Rattle.magnetar_sumcheck_verifier.specs.Order.{place_of}
use Rattle.magnetar_sumcheck_prover.proofs.EqFactor.{point_at, length-point}
use Rattle.magnetar_matrix.specs.Batch.{Relation}
use Rattle.magnetar_layout.specs.Tests.{Tests, room_test}
use Rattle.magnetar_layout.proofs.Passing.{changed}
use Rattle.magnetar_protocol.specs.Shape.{log_logins, log_bin, log_fld, log_cols, before_end, proof_elements, claim_count, sizes_only}
use Rattle.magnetar_protocol.specs.Proof.{part, segment_values}
use Rattle.magnetar_protocol.specs.Draws.{draws_of, login_point, low_point}
use Rattle.magnetar_protocol.specs.RunTests.{draw_tests, proof_tests}
use Rattle.magnetar_protocol.specs.Run.{claims}
use Rattle.magnetar_verifier.specs.Claims.{claims_refusal, claims_out}
use Rattle.magnetar_verifier.proofs.EqParts.{point-falling}

pub reverse-get : (l : List ℕ) (n i : ℕ) → length l ≡ n → i < n → get_or (reverse l) i 0 ≡ get_or l (n - 1 - i) 0
unfolding place_of
reverse-get l n i e h =
    ap (λ (k : List ℕ). get_or k i 0) (sym (point-falling l n e)) ∙ point_at n n i l e (omega arith) h
    ∙ rw (le-ltb i (n - n) (omega arith))

pub reverse-size : (l : List ℕ) (n : ℕ) → length l ≡ n → length (reverse l) ≡ n
reverse-size l n e = ap length (sym (point-falling l n e)) ∙ length-point n l ∙ e

-- the elements, the last one first, as they are written
pub reverse-is : (l : List ℕ) (n : ℕ) → length l ≡ n → reverse l ≡ tabulate (λ i. get_or l (n - 1 - i) 0) n
reverse-is l n e = tabulate-of (reverse l) (λ i. get_or l (n - 1 - i) 0) n 0 (reverse-size l n e) (λ i h. reverse-get l n i e h)

-- ---- three parts of a slice, one behind the other, are written over it
pub elements-join : (n : ℕ) (s t : List ℕ) → length s ≡ 2 * n → elements (s ++ t) ≡ elements s ++ elements t
unfolding elements
elements-join zero [] t h = refl
elements-join zero (x ∷ s) t h = absurd (omega arith)
elements-join (suc n) [] t h = absurd (omega arith)
elements-join (suc n) (x ∷ []) t h = absurd (omega arith)
elements-join (suc n) (x ∷ (y ∷ s)) t h = ap (λ (l : List ℕ). (y * 2 ^ 64 + x) ∷ l) (elements-join n s t (omega arith))

module _ (s x y z : List ℕ) (a k : ℕ) (lx : length x ≡ a) (ly : length y ≡ k) (lz : a + k + length z ≡ length s) where
  abbrev two : List ℕ
  two = put_mid a (a + k - a) (x ++ drop a s) y

  two-is : two ≡ (x ++ y) ++ drop k (drop a s)
  two-is =
      let e : a + k - a ≡ k = omega arith in
      rw (take_at x (drop a s) a lx, drop_at x (drop a s) a lx, e) (sym (append_assoc x y (drop k (drop a s))))

  two-length : length two ≡ length s
  two-length = rw (two-is, length-append, length-append, length-drop, length-drop) (omega arith)

  pub three-is : put_mid (a + k) (length two - (a + k)) two z ≡ x ++ (y ++ z)
  three-is =
      let h : length (x ++ y) ≡ a + k = rw length-append (omega arith) in
      let r : drop (length s - (a + k)) (drop k (drop a s)) ≡ [] =
      drop_all (length s - (a + k)) (drop k (drop a s)) (rw (length-drop, length-drop) (omega arith)) in
      rw (two-length, two-is, take_at (x ++ y) (drop k (drop a s)) (a + k) h, drop_at (x ++ y) (drop k (drop a s)) (a + k) h, r, append-nil)
      (append_assoc x y z)

-- ---- the claims
-- of a run with s, b, f and c rounds of each kind and l segments, part by part
abbrev pub claim_parts : (s b f c l : ℕ) → (w d : List ℕ) → List ℕ
claim_parts s b f c l w d =
    reverse (part (s + b + (s + f)) s d)
    ++ (part (s + b + (s + f) + s + b + f + 6) (c - 1) d ++ part (8 * s + 4 * b + 4 * f + 6 + 3 * c + 1) l w)

claims-are : (r : Relation) (w d : List ℕ) → length w ≡ proof_elements r
    → claim_parts (log_logins r) (log_bin r) (log_fld r) (log_cols r) (length r.lengths) w d ≡ claims r w d
unfolding claims login_point low_point draws_of segment_values
claims-are r w d exact =
    rw (
      take-take (log_cols r - 1) (log_cols r)
          (drop (log_logins r + log_bin r + (log_logins r + log_fld r) + log_logins r + log_bin r + log_fld r + 6) d) (omega arith),
      take_all (length r.lengths) (drop (before_end r + 1) w) (rw length-drop (omega arith)),
    )

-- ---- the answer
module _ (m q rb rf : ℕ) (ns p d out : List ℕ) where
  abbrev R : Relation
  R = sizes_only m q rb rf ns

  -- the tests after those of the sizes and the segments
  abbrev pub claims_later : Tests
  claims_later = draw_tests R d ++ (room_test (2 * claim_count R) out ++ proof_tests R p)

  pub claims-written : 0 ≡ claims_refusal m q rb rf ns p d out → (front : List ℕ) (need : ℕ) → need ≡ 2 * claim_count R
      → length p ≡ 2 * proof_elements R → words (elements front) ≡ front
      → elements front ≡ claim_parts (log₂ q) (log₂ rb) (log₂ rf) (log₂ m) (length ns) (elements p) (elements d)
      → front ++ drop need out ≡ claims_out m q rb rf ns p d out
  unfolding claims_out
  claims-written e front need en lp whole ef =
      changed out e (rw en (ap (λ (l : List ℕ). l ++ drop (2 * claim_count R) out)
      (sym whole ∙ ap words (ef ∙ claims-are R (elements p) (elements d) (omega (arith, elements-length p))))))
