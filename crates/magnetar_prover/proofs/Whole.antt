-- Tables that no call refuses: what a message and a fold leave of them.
-- Assumes nothing.
use mathlib.Core.Path.{◌≡◌, refl, ap, ◌∙◌}
use mathlib.Core.Bool.{true}
use mathlib.Core.List.{List, [], ◌++◌, append-nil}
use Prim.Native.Nat.{ℕ, zero, suc, ◌+◌, ◌*◌, ◌/◌, ◌%◌, ◌^◌, ◌<◌}
use native.Mathlib.Nat.{two-pow-succ}
use native.Mathlib.Omega.{arith}
use lib.ListN.{length, take, drop, length-append, length-drop, drop_of_length-le}
use lib.Seq.{take_at}
use borrow.Author.Tests.{eq-eqb, lt-ltb, le-ltb}
use Rattle.magnetar_field.specs.Sizes.{log₂}
use Rattle.magnetar_field.specs.Words.{elements, words}
use Rattle.magnetar_multilinear.specs.Multilinear.{bind_var}
use Rattle.magnetar_multilinear.specs.Entries.{bind_refusal, bind_out}
use Rattle.magnetar_field.proofs.Log2.{log₂-pow}
use Rattle.magnetar_field.proofs.Elements.{elements-length, words-length}
use Rattle.magnetar_field.proofs.Tabulation.{tabulate-length}
use Rattle.magnetar_multilinear.proofs.Refusals.{bind-none}
use Rattle.magnetar_matrix.proofs.TableLaws.{elements-words}
use Rattle.magnetar_sumcheck_prover.specs.Entries.{is_table, drop_refusal, drop_out, inner_refusal, inner_out, outer_refusal, outer_out}
use Rattle.magnetar_sumcheck_verifier.specs.Inner.{inner_message}
use Rattle.magnetar_sumcheck_verifier.specs.Outer.{outer_message, drop_var}

pub is-table : (v w n : ℕ) → w ≡ 2 * 2 ^ n → v < n → n < 62 → is_table v w ≡ true
unfolding is_table
is-table v w n e l k =
    let h : w / 2 ≡ 2 ^ n = omega arith in
    let p : w % 2 ≡ 0 = omega arith in
    rw (eq-eqb (w % 2) 0 p, h, log₂-pow n (omega arith), eq-eqb (2 ^ n) (2 ^ n) refl, lt-ltb v n l)

halves : (w n : ℕ) → 0 < n → w ≡ 2 * 2 ^ n → 2 * (w / 2 / 2) ≡ w / 2
halves w zero h e = absurd (omega arith)
halves w (suc n) h e =
    let a : w / 2 ≡ 2 ^ n + 2 ^ n = omega (arith, two-pow-succ n) in
    let b : w / 2 / 2 ≡ 2 ^ n = omega (arith, a) in
    omega (arith, a, b)

-- half a table in the place of its first half
module _ (f t : List ℕ) (n : ℕ) (size : length t ≡ 2 * 2 ^ n) (some : 0 < n) (half : length f ≡ length t / 2 / 2) where
  two : length (words f) ≡ length t / 2
  two = words-length f ∙ (ap (λ (k : ℕ). 2 * k) half ∙ halves (length t) n some size)

  pub half_in : elements (take (length t / 2) (words f ++ drop (length t / 2) t)) ≡ f
  half_in = ap elements (take_at (words f) (drop (length t / 2) t) (length t / 2) two) ∙ elements-words f

  pub half_length : length (words f ++ drop (length t / 2) t) ≡ length t
  half_length = length-append (words f) (drop (length t / 2) t) ∙ omega (arith, two, length-drop (length t / 2) t)

module _ (t : List ℕ) (v n : ℕ) (size : length t ≡ 2 * 2 ^ n) (var : v < n) (few : n < 62) where
  -- a variable bound
  module _ (r : ℕ) where
    bind_is : bind_out t v r ≡ words (bind_var v r (elements t)) ++ drop (length t / 2) t
    bind_is = rw none
      where
        log : log₂ (length t / 2) ≡ n
        log = let h : length t / 2 ≡ 2 ^ n = omega arith in rw h (log₂-pow n (omega arith))

        none : bind_refusal t v ≡ 0
        none = bind-none t v (rw log size) (rw log var)

    bind-half : length (bind_var v r (elements t)) ≡ length t / 2 / 2
    unfolding bind_var
    bind-half = rw (tabulate-length, elements-length)

    pub bound-in : elements (take (length t / 2) (bind_out t v r)) ≡ bind_var v r (elements t)
    bound-in = rw bind_is (half_in (bind_var v r (elements t)) t n size (omega arith) bind-half)

    pub bound-length : length (bind_out t v r) ≡ length t
    bound-length = rw bind_is (half_length (bind_var v r (elements t)) t n size (omega arith) bind-half)

  -- a variable dropped
  drop-is : drop_out t v ≡ words (drop_var v (elements t)) ++ drop (length t / 2) t
  unfolding drop_refusal
  drop-is = rw (is-table v (length t) n size var few)

  drop-half : length (drop_var v (elements t)) ≡ length t / 2 / 2
  unfolding drop_var
  drop-half = rw (tabulate-length, elements-length)

  pub dropped-in : elements (take (length t / 2) (drop_out t v)) ≡ drop_var v (elements t)
  dropped-in = rw drop-is (half_in (drop_var v (elements t)) t n size (omega arith) drop-half)

  pub dropped-length : length (drop_out t v) ≡ length t
  dropped-length = rw drop-is (half_length (drop_var v (elements t)) t n size (omega arith) drop-half)

-- ---- a message in a slice of its own length
nothing_left : (out : List ℕ) (n : ℕ) → length out ≡ n → drop n out ≡ []
nothing_left out n l = drop_of_length-le out {i = n} (omega arith)

pub inner-written : (out t z : List ℕ) (n : ℕ) → length out ≡ 6 → length t ≡ 2 * 2 ^ n → length z ≡ length t → 0 < n → n < 62
    → inner_out out t z 0 ≡ words (inner_message 0 (elements t) (elements z))
unfolding inner_refusal
inner-written out t z n l size same some few =
    rw (is-table 0 (length t) n size some few, eq-eqb (length z) (length t) same, le-ltb (length out) 6 (omega arith), nothing_left out 6 l, append-nil)

pub outer-written : (out e a b c : List ℕ) (v k t n : ℕ) → length out ≡ 8 → length a ≡ 2 * 2 ^ n → length b ≡ length a → length c ≡ length a
    → length e ≡ length a / 2 → v < n → n < 62 → outer_out out e a b c v k t ≡ words (outer_message v k t (elements e) (elements a) (elements b) (elements c))
unfolding outer_refusal
outer-written out e a b c v k t n l size sb sc se var few =
    rw (
      is-table v (length a) n size var few,
      eq-eqb (length b) (length a) sb,
      eq-eqb (length c) (length a) sc,
      eq-eqb (length e) (length a / 2) se,
      le-ltb (length out) 8 (omega arith),
      nothing_left out 8 l,
      append-nil,
    )
