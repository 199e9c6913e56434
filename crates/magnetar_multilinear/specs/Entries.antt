-- The outcomes of the entries over tables: which refusal applies, in rising order, and what each lent slice holds at exit.
-- Source: document 01, "Field and eq tables", "Who can be turned back" (11 and 15) and "The run" (scratch words); document 02, U5.
-- Assumes nothing.
use Rattle.std.specs.Prelude.{Bool, not, ◌||◌, List, ◌++◌, ℕ, ◌*◌, ◌/◌, ◌%◌, ◌^◌, eqb, ltb, length, drop, replicate, Result, Ok, Err}
use Rattle.magnetar_field.specs.declared.gf128.Gf128.{Gf128}
use Rattle.magnetar_field.specs.declared.refusal.Refusal.{Refusal}
use Rattle.magnetar_field.specs.Gf128.{value}
use Rattle.magnetar_field.specs.Number.{number}
use Rattle.magnetar_field.specs.Refusal.{refuse, unless_refused}
use Rattle.magnetar_field.specs.Sizes.{log₂}
use Rattle.magnetar_field.specs.Words.{elements, words}
use Rattle.magnetar_multilinear.specs.EqTable.{eq_table_from}
use Rattle.magnetar_multilinear.specs.Multilinear.{bind_var}

-- an answer: an element, or the number of a refusal
pub data Answer : Type 0 where
  element : ℕ → Answer
  refusal : ℕ → Answer

-- the answer that a result of the code is
abbrev pub answer : Result Gf128 Refusal → Answer
answer (Ok e) = element (value e)
answer (Err r) = refusal (number r)

-- the element v, unless n is a refusal
abbrev pub answered : ℕ → ℕ → Answer
answered n v = unless_refused n (element v) (refusal n)

-- the words are no point of a free eq table: an odd number of them, or more than 20 elements
abbrev pub no_point : List ℕ → Bool
no_point p = not (eqb (length p % 2) 0) || ltb 40 (length p)

-- how many words a table over the point's variables has
abbrev pub table_words : List ℕ → ℕ
table_words p = 2 * 2 ^ (length p / 2)

-- ---- `EqBits::build`: point p, start c, output out
-- 11: no point; 15: less room than the table's words
unfoldable pub eq_refusal : List ℕ → List ℕ → ℕ
eq_refusal p out = refuse 11 (no_point p) (refuse 15 (ltb (length out) (table_words p)) 0)

-- the output: the words of the table from c, then what stood behind them
abbrev pub eq_out : List ℕ → ℕ → List ℕ → List ℕ
eq_out p c out = unless_refused (eq_refusal p out) (words (eq_table_from c (elements p)) ++ drop (table_words p) out) out

-- ---- `eq_table`: point p, bits b
-- 11: not a bit for each element of the point
unfoldable pub eq_at_bits_refusal : List ℕ → List Bool → ℕ
eq_at_bits_refusal p b = refuse 11 (not (eqb (length p) (2 * length b))) 0

-- ---- `eval_mle`: values t, point p, scratch s
-- 11: no point, or not a value for each entry of its table; 15: less scratch than values
unfoldable pub mle_refusal : List ℕ → List ℕ → List ℕ → ℕ
mle_refusal t p s =
    refuse 11 (no_point p || not (eqb (length t) (table_words p)))
    (refuse 15 (ltb (length s) (length t)) 0)

-- the scratch: zeros, as many as there are value words, then what stood behind them
abbrev pub mle_scratch : List ℕ → List ℕ → List ℕ → List ℕ
mle_scratch t p s = unless_refused (mle_refusal t p s) (replicate (length t) 0 ++ drop (length t) s) s

-- ---- `bind_var`, the Rust's `fold_pairs` too: table t, variable v, element r
-- 11: the words are no table of 2^n elements, or v is none of its n variables
unfoldable pub bind_refusal : List ℕ → ℕ → ℕ
bind_refusal t v =
    refuse 11 (not (eqb (length t) (2 * 2 ^ log₂ (length t / 2))) || not (ltb v (log₂ (length t / 2)))) 0

-- the table: the words of the bound table in its first half, its second half as it was
abbrev pub bind_out : List ℕ → ℕ → ℕ → List ℕ
bind_out t v r = unless_refused (bind_refusal t v) (words (bind_var v r (elements t)) ++ drop (length t / 2) t) t
