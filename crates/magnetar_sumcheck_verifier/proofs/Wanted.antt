-- The outcomes of a round, by the way that it takes: refused, wrong or right.
-- Assumes nothing.
use mathlib.Core.Path.{◌≡◌, refl, sym, ap, ◌∙◌}
use mathlib.Core.Bool.{Bool, true, false, true≢false}
use mathlib.Core.List.{List}
use Prim.Native.Nat.{ℕ, ◌*◌}
use native.Mathlib.Omega.{arith}
use lib.ListN.{length}
use Rattle.std.specs.Prelude.{Result}
use Rattle.std.specs.Result.{IsErrAnd}
use Rattle.std.proofs.lemmas.Result.{err_from_is_err_and}
use Rattle.magnetar_field.specs.Number.{number}
use Rattle.magnetar_field.specs.declared.refusal.Refusal.{Refusal}
use Rattle.magnetar_field.specs.Words.{elements}
use Rattle.magnetar_field.specs.Polynomial.{eval}
use Rattle.magnetar_sumcheck_verifier.specs.declared.verify.Round.{Round}
use Rattle.magnetar_sumcheck_verifier.specs.Round.{holds, next_claim}
use Rattle.magnetar_sumcheck_verifier.specs.Outcome.{RoundLeft, left_by, is_message, round_refusal, check_outcome, round_outcome}

-- ---- what a `?` hands out leaves what its refusal says
pub left : (c : ℕ) (r : Result Round Refusal) (e : Refusal) → IsErrAnd r (λ y. y ≡ e)
    → left_by c r ≡ record { code = number e; holds = false; claim = c }
left c r e h = let p = err_from_is_err_and r h in rw (p.1, p.2)

-- ---- what a round leaves
module _ (n : ℕ) (m : List ℕ) (c r : ℕ) where
  pub check-refused : is_message n m ≡ false → record { code = 11; holds = false; claim = c } ≡ check_outcome n m c r
  unfolding check_outcome round_refusal
  check-refused h = rw h

  pub check-made : is_message n m ≡ true → record { code = 0; holds = holds (elements m) c; claim = eval (elements m) r } ≡ check_outcome n m c r
  unfolding check_outcome round_refusal
  check-made h = rw h

  -- a message of the wanted size is not refused
  pub check-sized : length m ≡ 2 * n → record { code = 0; holds = holds (elements m) c; claim = eval (elements m) r } ≡ check_outcome n m c r
  unfolding check_outcome round_refusal is_message
  check-sized h = grind arith

  round-refused : is_message n m ≡ false → record { code = 11; holds = false; claim = c } ≡ round_outcome n m c r
  unfolding round_outcome round_refusal
  round-refused h = rw h

  round-right : is_message n m ≡ true → holds (elements m) c ≡ true
      → record { code = 0; holds = holds (elements m) c; claim = eval (elements m) r } ≡ round_outcome n m c r
  unfolding round_outcome round_refusal next_claim
  round-right h k = rw (h, k)

  round-wrong : is_message n m ≡ true → holds (elements m) c ≡ false
      → record { code = 0; holds = false; claim = c } ≡ round_outcome n m c r
  unfolding round_outcome round_refusal next_claim
  round-wrong h k = rw (h, k)

  -- `round_external` by what `check_round` leaves
  pub external-right : (o : RoundLeft) → o ≡ check_outcome n m c r → o.holds ≡ true → o ≡ round_outcome n m c r
  external-right o e h = go (is_message n m) refl
    where
      go : (b : Bool) → is_message n m ≡ b → o ≡ round_outcome n m c r
      go true k =
          let f = e ∙ sym (check-made k) in
          f ∙ round-right k (sym (ap (λ (x : RoundLeft). x.holds) f) ∙ h)
      go false k = absurd (true≢false (sym h ∙ ap (λ (x : RoundLeft). x.holds) (e ∙ sym (check-refused k))))

  pub external-wrong : (o : RoundLeft) → o ≡ check_outcome n m c r → o.holds ≡ false
      → record { code = o.code; holds = false; claim = c } ≡ round_outcome n m c r
  external-wrong o e h = go (is_message n m) refl
    where
      go : (b : Bool) → is_message n m ≡ b → record { code = o.code; holds = false; claim = c } ≡ round_outcome n m c r
      go true k =
          let f = e ∙ sym (check-made k) in
          ap (λ (z : ℕ). record { code = z; holds = false; claim = c }) (ap (λ (x : RoundLeft). x.code) f)
          ∙ round-wrong k (sym (ap (λ (x : RoundLeft). x.holds) f) ∙ h)
      go false k =
          ap (λ (z : ℕ). record { code = z; holds = false; claim = c }) (ap (λ (x : RoundLeft). x.code) (e ∙ sym (check-refused k)))
          ∙ round-refused k

  -- what `round_external` says of the message
  pub told-refused : (o : RoundLeft) → o ≡ round_outcome n m c r → (o.code ≡ 0 → ⊥) → is_message n m ≡ false
  unfolding round_outcome round_refusal
  told-refused o e h = go (is_message n m) refl
    where
      go : (b : Bool) → is_message n m ≡ b → is_message n m ≡ false
      go true k = absurd (h (ap (λ (x : RoundLeft). x.code) e ∙ rw k))
      go false k = k

  pub told-sized : (o : RoundLeft) → o ≡ round_outcome n m c r → o.code ≡ 0 → is_message n m ≡ true
  told-sized o e h = go (is_message n m) refl
    where
      go : (b : Bool) → is_message n m ≡ b → is_message n m ≡ true
      go true k = k
      go false k = let z : ◌≡◌ {A = ℕ} 0 11 = sym h ∙ ap (λ (x : RoundLeft). x.code) (e ∙ sym (round-refused k)) in absurd (omega (arith, z))

  pub told-holds : (o : RoundLeft) → o ≡ round_outcome n m c r → is_message n m ≡ true → o.holds ≡ holds (elements m) c
  unfolding round_outcome round_refusal
  told-holds o e h = ap (λ (x : RoundLeft). x.holds) e ∙ rw h

  pub told-claim : (o : RoundLeft) → o ≡ round_outcome n m c r → is_message n m ≡ true → holds (elements m) c ≡ true
      → o.claim ≡ eval (elements m) r
  told-claim o e h k = ap (λ (x : RoundLeft). x.claim) (e ∙ sym (round-right h k))
