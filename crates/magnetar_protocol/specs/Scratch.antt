-- How many words of scratch a run asks for (document 01, "The run": scratch words; document 02, U6 and U8).
-- Assumes nothing.
use Rattle.std.specs.Prelude.{ℕ, ◌+◌, ◌*◌, max, Result, Ok, Err}
use Rattle.magnetar_field.specs.declared.refusal.Refusal.{Refusal}
use Rattle.magnetar_field.specs.Number.{number}
use Rattle.magnetar_field.specs.Refusal.{unless_refused}
use Rattle.magnetar_layout.specs.Tests.{first_refusal}
use Rattle.magnetar_protocol.specs.RunTests.{run_tests}

-- the verifier: 2m, 2 times the larger row count, and 2q
abbrev pub verifier_scratch : (m q rb rf : ℕ) → ℕ
verifier_scratch m q rb rf = 2 * m + 2 * max rb rf + 2 * q

-- the prover: 8q times both row counts, 8m, 4 times the larger row count, and 6q
abbrev pub prover_scratch : (m q rb rf : ℕ) → ℕ
prover_scratch m q rb rf = 8 * (q * (rb + rf)) + 8 * m + 4 * max rb rf + 6 * q

-- ---- the entries: the number of a refusal or 0, and how many words are asked for, 0 where the call is refused
pub record ScratchWords : Type 0 where
  pub code : ℕ
  pub words : ℕ

-- what an answer of the code says
abbrev pub asked : Result ℕ Refusal → ScratchWords
asked (Ok n) = record { code = 0; words = n }
asked (Err r) = record { code = number r; words = 0 }

-- n words, unless the sizes are refused with the number z
abbrev pub words_unless : (z n : ℕ) → ScratchWords
words_unless z n = record { code = z; words = unless_refused z n 0 }

unfoldable pub verifier_scratch_words : (m q rb rf : ℕ) → ScratchWords
verifier_scratch_words m q rb rf = words_unless (first_refusal 0 (run_tests m q rb rf)) (verifier_scratch m q rb rf)

unfoldable pub prover_scratch_words : (m q rb rf : ℕ) → ScratchWords
prover_scratch_words m q rb rf = words_unless (first_refusal 0 (run_tests m q rb rf)) (prover_scratch m q rb rf)
