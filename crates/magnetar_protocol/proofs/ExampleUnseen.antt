-- Why the theorem on an accepted run keeps its premise on bits outside: a run with a stray bit that is accepted, where no claim is false, no
-- draw is bad and the batch is not good. m = 2, q = 1, no entry and no segment; the one bit is set.
-- Assumes nothing.
use mathlib.Core.Path.{◌≡◌, refl, subst}
use mathlib.Core.Logic.{◌⊎◌, inl, inr}
use mathlib.Core.List.Memᴰ
use mathlib.Core.List.{List, [], ◌∷◌, Memᴰ}
use Prim.Native.Nat.{ℕ, zero, suc, ◌<◌}
use native.Mathlib.Omega.{arith}
use lib.Dec.{lit<}
use lib.ListN.{length, get_or, take}
use Rattle.magnetar_field.specs.Gf128.{◌⊕◌, ◌⊗◌, sum_times, times_x}
use Rattle.magnetar_field.specs.Sizes.{log₂, halvings}
use Rattle.magnetar_field.specs.Tabulate.{tabulate}
use Rattle.magnetar_field.specs.Polynomial.{eval}
use Rattle.magnetar_multilinear.specs.EqTable.{eq_factor, eq_at, eq_table}
use Rattle.magnetar_multilinear.specs.Multilinear.{dot, mle}
use Rattle.magnetar_sumcheck_verifier.specs.Sum.{total}
use Rattle.magnetar_sumcheck_verifier.specs.Round.{check_sum, holds, running}
use Rattle.magnetar_sumcheck_verifier.specs.Order.{eq_points}
use Rattle.magnetar_sumcheck_verifier.specs.Outer.{outer_end}
use Rattle.magnetar_sumcheck_verifier.specs.Inner.{inner_end}
use Rattle.magnetar_layout.specs.Every.{every}
use Rattle.magnetar_layout.specs.Layout.{next_multiple, offsets_from, offsets, within, outside}
use Rattle.magnetar_matrix.specs.Sum.{sum_below}
use Rattle.magnetar_matrix.specs.Matrix.{sum_over, row_total, share, times_at, times, transpose, mle_table}
use Rattle.magnetar_matrix.specs.Combined.{combined_table}
use Rattle.magnetar_matrix.specs.Batch.{Relation, Batch, bit_of, public_folded_at, public_folded, Good}
use Rattle.magnetar_theory.specs.Lists.{section, lists_of}
use Rattle.magnetar_theory.specs.Gf128.{number, element, element_sum, element_product, same, roots_of}
use Rattle.magnetar_protocol.specs.Proof.{bin_messages, fld_messages, terminals, inner_rounds, value_z, segment_values}
use Rattle.magnetar_protocol.specs.Draws.{draws_of, login_point, low_point, top_element}
use Rattle.magnetar_protocol.specs.Checks.{round_holds, inner_claim, combined, segment_sum, shared_checks, row_checks, terminal_checks, inner_checks, identity_check, checks, first_failure}
use Rattle.magnetar_protocol.specs.Run.{verdict, claims, ClaimsTrue}
use Rattle.magnetar_protocol.specs.RunSizes.{SizedProof}
use Rattle.magnetar_protocol.specs.Soundness.{bad_draws, absorbed_before, BadDraw}
use Rattle.magnetar_protocol.proofs.ExampleBad.{empties, lie_columns, others}
use Rattle.magnetar_protocol.proofs.ExampleLie.{below, relation, public}

abbrev unseen : Relation
unseen = record { m = 2; q = 1; bin = empties 2; fld = empties 2; lengths = [] }

abbrev batch : Batch
batch = (1 ∷ []) ∷ []

-- the honest proof of the batch without the bit: terminals and the inner message are zeros, and v_z is that of (0, 1)
abbrev words : List ℕ
words = 0 ∷ 0 ∷ 0 ∷ 0 ∷ 0 ∷ 0 ∷ 0 ∷ 0 ∷ 0 ∷ 7 ∷ []

-- ---- what the theorem asks for besides the premise
pub unseen-sized : SizedProof unseen batch lie_columns words others
unfolding log₂ halvings every
unseen-sized = record {
  run = record {
    relation = record {
      columns = relation.columns;
      logins = relation.logins;
      bin = relation.fld;
      fld = relation.fld;
      layout = relation.layout;
      segments = relation.segments;
    };
    batch = record { logins = refl; columns = columns; bits = λ u y. unfold bit_of in bits u y };
    public = record { logins = refl; columns = public.columns; elements = public.elements };
    draws = refl;
    elements_d = below others refl;
  };
  words = refl;
  elements_w = below words refl;
}
  where
    columns : (u : ℕ) → u < 1 → length (get_or batch u []) ≡ 1
    columns zero h = refl
    columns (suc u) h = absurd (omega arith)

    bits : (u y : ℕ) → get_or (get_or batch u []) y 0 < 2
    bits zero zero = lit< tt
    bits zero (suc y) = lit< tt
    bits (suc u) y = lit< tt

pub unseen-accepted : verdict unseen lie_columns words others ≡ 0
unfolding log₂ halvings ◌⊕◌ ◌⊗◌ sum_times times_x tabulate eval eq_factor eq_at eq_table dot mle total check_sum holds running
    eq_points outer_end inner_end sum_over row_total share times_at times transpose mle_table sum_below public_folded_at public_folded next_multiple offsets_from offsets
    bin_messages fld_messages terminals inner_rounds value_z segment_values draws_of login_point low_point top_element round_holds
    inner_claim combined combined_table segment_sum shared_checks row_checks terminal_checks inner_checks identity_check checks first_failure
    verdict
unseen-accepted = refl

-- there is no segment, and so no claim
pub unseen-claims : ClaimsTrue unseen batch (claims unseen words others)
unseen-claims i h = absurd (omega arith)

-- ---- what it says of such a run
pub unseen-not-good : Good unseen batch lie_columns → ⊥
unfolding outside within offsets offsets_from bit_of
unseen-not-good g = let e : ◌≡◌ {A = ℕ} 1 0 = g.clear 0 0 (lit< tt) (lit< tt) refl in omega arith

-- the list of draw k
abbrev list_at : ℕ → List ℕ
list_at k = bad_draws unseen batch lie_columns (take (absorbed_before unseen k) words) (take k others)

-- all lists are empty
empty : (k : ℕ) → k < 7 → list_at k ≡ []
unfolding bad_draws absorbed_before log₂ halvings section lists_of number element element_sum element_product same roots_of ◌⊕◌ ◌⊗◌
    sum_times times_x
empty zero h = refl
empty (suc zero) h = refl
empty (suc (suc zero)) h = refl
empty (suc (suc (suc zero))) h = refl
empty (suc (suc (suc (suc zero)))) h = refl
empty (suc (suc (suc (suc (suc zero))))) h = refl
empty (suc (suc (suc (suc (suc (suc zero)))))) h = refl
empty (suc (suc (suc (suc (suc (suc (suc k))))))) h = absurd (omega arith)

pub unseen-not-bad : BadDraw unseen batch lie_columns words others → ⊥
unseen-not-bad (k, h, s, m) = Memᴰ.not-nil (subst (Memᴰ (get_or others k 0)) (empty k h) m)

-- so the theorem without its premise on bits outside is false
pub premise-needed :
    (SizedProof unseen batch lie_columns words others → verdict unseen lie_columns words others ≡ 0
    → ClaimsTrue unseen batch (claims unseen words others) → Good unseen batch lie_columns ⊎ BadDraw unseen batch lie_columns words others)
    → ⊥
premise-needed f = neither (f unseen-sized unseen-accepted unseen-claims)
  where
    neither : Good unseen batch lie_columns ⊎ BadDraw unseen batch lie_columns words others → ⊥
    neither (inl g) = unseen-not-good g
    neither (inr d) = unseen-not-bad d
