-- Which refusal each entry over tables gives, by the way that it takes; and what each answers where a `?` hands out a refusal.
-- Assumes nothing.
use Rattle.std.specs.Prelude.{◌≡◌, Result}
use Rattle.std.specs.Result.{IsErrAnd}
use Rattle.std.proofs.lemmas.Result.{err_from_is_err_and}
use mathlib.Core.Bool.{Bool}
use mathlib.Core.List.{List}
use Prim.Native.Nat.{ℕ, ◌*◌, ◌/◌, ◌%◌, ◌^◌, ◌≤◌, ◌<◌}
use lib.ListN.{length}
use borrow.Author.Tests.{ne_eqb, eq-eqb, lt-ltb, le-ltb}
use Rattle.magnetar_field.specs.declared.gf128.Gf128.{Gf128}
use Rattle.magnetar_field.specs.declared.refusal.Refusal.{Refusal}
use Rattle.magnetar_field.specs.Number.{number}
use Rattle.magnetar_field.specs.Sizes.{log₂}
use Rattle.magnetar_multilinear.specs.Entries.{answer, refusal, eq_refusal, eq_at_bits_refusal, mle_refusal, bind_refusal, table_words}

pub answer_handed : (r : Result Gf128 Refusal) (e : Refusal) → IsErrAnd r (λ y. y ≡ e) → answer r ≡ refusal (number e)
answer_handed r e h = let p = err_from_is_err_and r h in rw (p.1, p.2)

module _ (p out : List ℕ) where
  pub eq-odd : (length p % 2 ≡ 0 → ⊥) → eq_refusal p out ≡ 11
  unfolding eq_refusal
  eq-odd odd = simp (ne_eqb _ _ odd)

  pub eq-long : length p % 2 ≡ 0 → 40 < length p → eq_refusal p out ≡ 11
  unfolding eq_refusal
  eq-long even long = simp (eq-eqb _ _ even, lt-ltb _ _ long)

  pub eq-short : length p % 2 ≡ 0 → length p ≤ 40 → length out < table_words p → eq_refusal p out ≡ 15
  unfolding eq_refusal
  eq-short even fits less = simp (eq-eqb _ _ even, le-ltb _ _ fits, lt-ltb _ _ less)

  pub eq-none : length p % 2 ≡ 0 → length p ≤ 40 → table_words p ≤ length out → eq_refusal p out ≡ 0
  unfolding eq_refusal
  eq-none even fits room = simp (eq-eqb _ _ even, le-ltb _ _ fits, le-ltb _ _ room)

module _ (p : List ℕ) (b : List Bool) where
  pub bits-other : (length p ≡ 2 * length b → ⊥) → eq_at_bits_refusal p b ≡ 11
  unfolding eq_at_bits_refusal
  bits-other n = simp (ne_eqb _ _ n)

  pub bits_none : length p ≡ 2 * length b → eq_at_bits_refusal p b ≡ 0
  unfolding eq_at_bits_refusal
  bits_none e = simp (eq-eqb _ _ e)

module _ (t p s : List ℕ) where
  pub mle-odd : (length p % 2 ≡ 0 → ⊥) → mle_refusal t p s ≡ 11
  unfolding mle_refusal
  mle-odd odd = simp (ne_eqb _ _ odd)

  pub mle-long : length p % 2 ≡ 0 → 40 < length p → mle_refusal t p s ≡ 11
  unfolding mle_refusal
  mle-long even long = simp (eq-eqb _ _ even, lt-ltb _ _ long)

  module _ (even : length p % 2 ≡ 0) (fits : length p ≤ 40) where
    pub mle-other : (length t ≡ table_words p → ⊥) → mle_refusal t p s ≡ 11
    unfolding mle_refusal
    mle-other n = simp (eq-eqb _ _ even, le-ltb _ _ fits, ne_eqb _ _ n)

    pub mle-short : length t ≡ table_words p → length s < length t → mle_refusal t p s ≡ 15
    unfolding mle_refusal
    mle-short e less = simp (eq-eqb _ _ even, le-ltb _ _ fits, eq-eqb _ _ e, lt-ltb _ _ less)

    pub mle-none : length t ≡ table_words p → length t ≤ length s → mle_refusal t p s ≡ 0
    unfolding mle_refusal
    mle-none e room = simp (eq-eqb _ _ even, le-ltb _ _ fits, eq-eqb _ _ e, le-ltb _ _ room)

module _ (t : List ℕ) (v : ℕ) where
  pub bind-other : (length t ≡ 2 * 2 ^ log₂ (length t / 2) → ⊥) → bind_refusal t v ≡ 11
  unfolding bind_refusal
  bind-other n = simp (ne_eqb _ _ n)

  pub bind-free : length t ≡ 2 * 2 ^ log₂ (length t / 2) → log₂ (length t / 2) ≤ v → bind_refusal t v ≡ 11
  unfolding bind_refusal
  bind-free e l = simp (eq-eqb _ _ e, le-ltb _ _ l)

  pub bind-none : length t ≡ 2 * 2 ^ log₂ (length t / 2) → v < log₂ (length t / 2) → bind_refusal t v ≡ 0
  unfolding bind_refusal
  bind-none e l = simp (eq-eqb _ _ e, lt-ltb _ _ l)
