-- Two laws on `EqBits::build`, for every point and every output: what it leaves from the start 1 and from the start 0. Where it refuses, the
-- output is as it was. proofs/Starts has both.
-- Source: document 02, U5.
-- Assumes nothing.
use Rattle.std.specs.Prelude.{◌≡◌, List, ◌++◌, ℕ, drop, replicate}
use Rattle.magnetar_field.specs.Refusal.{unless_refused}
use Rattle.magnetar_field.specs.Words.{elements, words}
use Rattle.magnetar_multilinear.specs.EqTable.{eq_table}
use Rattle.magnetar_multilinear.specs.Entries.{eq_refusal, eq_out, table_words}

-- the words ws in front of the output out, unless the call with the point p is refused
abbrev pub in_front : List ℕ → List ℕ → List ℕ → List ℕ
in_front p ws out = unless_refused (eq_refusal p out) (ws ++ drop (table_words p) out) out

-- from 1: the table of eq, as the Rust's `EqBits::build` has it
abbrev pub FromOne : Type 0
FromOne = (p out : List ℕ) → eq_out p 1 out ≡ in_front p (words (eq_table (elements p))) out

-- from 0: zeros
abbrev pub FromZero : Type 0
FromZero = (p out : List ℕ) → eq_out p 0 out ≡ in_front p (replicate (table_words p) 0) out
