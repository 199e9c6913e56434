-- The row check answers good exactly for a good batch, and names a stray bit exactly where it is the first one.
-- Assumes nothing.
use Rattle.std.specs.Prelude.{◌≡◌, ℕ, Bool, true, false, eqb, List, length}
use mathlib.Core.Path.{refl, sym, ap, ◌∙◌}
use native.Mathlib.Omega.{arith}
use borrow.Author.Tests.{eqb-true, eqb-false, ne_eqb}
use Rattle.magnetar_matrix.specs.RowCheck.{Verdict, row_verdict}
use Rattle.magnetar_matrix.proofs.Verdicts.{good-verdict, verdict-good}
use Rattle.magnetar_matrix.proofs.StrayVerdict.{stray-means, means-stray}
use Rattle.magnetar_relation.specs.Rules.{Rules, relation_of}
use Rattle.magnetar_check.specs.Check.{check_refusal, check_outcome}
use Rattle.magnetar_check.specs.Check.Outcome.{judged, refused}
use Rattle.magnetar_check.specs.Exactly.{lent_batch, lent_columns, GoodExactly, StrayExactly}

module _ (R : Rules) (ws x scratch : List ℕ) where
  abbrev verdict : Verdict
  verdict = row_verdict (relation_of R) (lent_batch R ws x scratch) (lent_columns R ws x scratch)

  abbrev number : ℕ
  number = check_refusal R ws x (length scratch)

  answer-is : number ≡ 0 → (check_outcome R ws x scratch).answer ≡ judged verdict
  unfolding check_outcome
  answer-is z = rw z

  number_is : (number ≡ 0 → ⊥) → (check_outcome R ws x scratch).answer ≡ refused number
  unfolding check_outcome
  number_is h = rw (ne_eqb number 0 h)

  -- an answer that is a verdict is no refusal
  judged-means : (v : Verdict) → (check_outcome R ws x scratch).answer ≡ judged v → (number ≡ 0) × (verdict ≡ v)
  judged-means v e = go (eqb number 0) refl
    where
      go : (b : Bool) → eqb number 0 ≡ b → (number ≡ 0) × (verdict ≡ v)
      go true b =
          let z = eqb-true number 0 b in
          let j : judged verdict ≡ judged v = sym (answer-is z) ∙ e in
          (z, cc)
      go false b =
          let j : refused number ≡ judged v = sym (number_is (eqb-false number 0 b)) ∙ e in
          absurd (let z : ◌≡◌ {A = ℕ} 0 1 = cc in omega arith)

  means-judged : (v : Verdict) → number ≡ 0 → verdict ≡ v → (check_outcome R ws x scratch).answer ≡ judged v
  means-judged v z e = answer-is z ∙ ap judged e

  pub good-exactly : GoodExactly R ws x scratch
  good-exactly = record {
    said = λ e. let m = judged-means _ e in (m.0, verdict-good _ _ _ m.1);
    says = λ z g. means-judged _ z (good-verdict _ _ _ g);
  }

  pub stray-exactly : (u y : ℕ) → StrayExactly R ws x scratch u y
  stray-exactly u y = record {
    said = λ e. let m = judged-means _ e in (m.0, stray-means _ _ _ u y m.1);
    says = λ z f. means-judged _ z (means-stray _ _ _ u y f);
  }
