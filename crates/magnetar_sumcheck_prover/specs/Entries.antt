-- The outcomes of the entries: which refusal applies, in rising order, and what each lent slice holds at exit.
-- Source: document 01, "The run" (the messages) and "Who can be turned back" (11 and 15); the Rust's `SumcheckProver` and `EqFactor`.
-- Assumes nothing.
use Rattle.std.specs.Prelude.{Bool, not, ◌&&◌, List, ◌++◌, ℕ, ◌/◌, ◌%◌, eqb, ltb, length, drop}
use Rattle.magnetar_field.specs.Refusal.{refuse, unless_refused}
use Rattle.magnetar_field.specs.Sizes.{log₂, power_of_two}
use Rattle.magnetar_field.specs.Words.{elements, words}
use Rattle.magnetar_sumcheck_verifier.specs.Outer.{outer_message, drop_var}
use Rattle.magnetar_sumcheck_verifier.specs.Inner.{inner_message}

-- w words are a table that has a variable v
unfoldable pub is_table : ℕ → ℕ → Bool
is_table v w = eqb (w % 2) 0 && (power_of_two (w / 2) && ltb v (log₂ (w / 2)))

-- ---- `outer_message`: output out, eq table e over the variables that stay, tables a, b, c, variable v (all but v by their words)
unfoldable pub outer_refusal : ℕ → ℕ → ℕ → ℕ → ℕ → ℕ → ℕ
outer_refusal out e a b c v =
    refuse 11 (not (is_table v a)) (refuse 11 (not (eqb b a)) (refuse 11 (not (eqb c a)) (refuse 11 (not (eqb e (a / 2)))
    (refuse 15 (ltb out 8) 0))))

-- what out holds at exit, with the product k and the tau t of variable v
abbrev pub outer_out : List ℕ → List ℕ → List ℕ → List ℕ → List ℕ → ℕ → ℕ → ℕ → List ℕ
outer_out out e a b c v k t =
    unless_refused (outer_refusal (length out) (length e) (length a) (length b) (length c) v)
    (words (outer_message v k t (elements e) (elements a) (elements b) (elements c)) ++ drop 8 out) out

-- ---- `inner_message`: output out, tables t, z, variable v
unfoldable pub inner_refusal : ℕ → ℕ → ℕ → ℕ → ℕ
inner_refusal out t z v = refuse 11 (not (is_table v t)) (refuse 11 (not (eqb z t)) (refuse 15 (ltb out 6) 0))

-- what out holds at exit
abbrev pub inner_out : List ℕ → List ℕ → List ℕ → ℕ → List ℕ
inner_out out t z v =
    unless_refused (inner_refusal (length out) (length t) (length z) v) (words (inner_message v (elements t) (elements z)) ++ drop 6 out) out

-- ---- `drop_var`: table t, variable v
unfoldable pub drop_refusal : ℕ → ℕ → ℕ
drop_refusal t v = refuse 11 (not (is_table v t)) 0

-- what the table holds at exit: the new one in its first half
abbrev pub drop_out : List ℕ → ℕ → List ℕ
drop_out t v = unless_refused (drop_refusal (length t) v) (words (drop_var v (elements t)) ++ drop (length t / 2) t) t

-- ---- `eq_points`: tau, challenges (by their words), high variables s
unfoldable pub points_refusal : ℕ → ℕ → ℕ → ℕ
points_refusal tau cs s = refuse 11 (not (eqb (tau % 2) 0)) (refuse 11 (not (eqb cs tau)) (refuse 11 (ltb (tau / 2) s) 0))
