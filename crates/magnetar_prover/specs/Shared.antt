-- The state of a run while both systems share the rounds, read off the slices that hold it: the block of bin is in front, the block
-- of fld behind it. Only the contracts of private functions speak of this.
-- Assumes nothing.
use Rattle.std.specs.Prelude.{◌≡◌, List, ℕ, ◌+◌, ◌*◌, ◌/◌, ◌^◌, ◌≤◌, ◌<◌, take, drop}
use Rattle.magnetar_field.specs.Words.{elements}
use Rattle.magnetar_multilinear.specs.Multilinear.{bind_var}
use Rattle.magnetar_hash.specs.declared.transcript.Transcript.{Transcript}
use Rattle.magnetar_sumcheck_verifier.specs.Outer.{outer_message, drop_var}
use Rattle.magnetar_schedule.specs.Stepwise.{OuterSteps}
use Rattle.magnetar_prover.specs.Entries.{table_at}
use Rattle.magnetar_prover.specs.InScratch.{steps_in, outer_in}

-- the message that binds variable v of a block
abbrev pub message_in : (v k t w n : ℕ) → List ℕ → List ℕ
message_in v k t w n s = outer_message v k t (drop_var v (table_at 0 n s)) (table_at w n s) (table_at (2 * w) n s) (table_at (3 * w) n s)

-- variable v is dropped from the table e of the block s, which leaves s'
pub record Dropped (v w n : ℕ) (s s' : List ℕ) : Type 0 where
  pub dropped : table_at 0 (n / 2) s' ≡ drop_var v (table_at 0 n s)
  pub kept : drop w s' ≡ drop w s

-- variable v of the tables a, b and c of the block s is bound to r, which leaves s'
pub record Folded (v r w n : ℕ) (s s' : List ℕ) : Type 0 where
  pub a : table_at w (n / 2) s' ≡ bind_var v r (table_at w n s)
  pub b : table_at (2 * w) (n / 2) s' ≡ bind_var v r (table_at (2 * w) n s)
  pub c : table_at (3 * w) (n / 2) s' ≡ bind_var v r (table_at (3 * w) n s)
  pub e : take w s' ≡ take w s

-- what is held with h shared rounds left and b, f row rounds behind them; the tau of bin stand from element o of the draws on, those
-- of fld from element q on
abbrev pub shared_in : (a d h b f o q kb kf wb wf nb nf : ℕ) → Transcript → (proof draws s : List ℕ) → OuterSteps
shared_in a d h b f o q kb kf wb wf nb nf t proof draws s = record {
  steps = steps_in a d t proof draws;
  bin = outer_in h (take (h + b) (drop o (elements draws))) kb wb nb (take (4 * wb) s);
  fld = outer_in h (take (h + f) (drop q (elements draws))) kf wf nf (drop (4 * wb) s);
}

-- tables of n words with h shared variables left above b others, whose tau stand from element o of the draws on, in front of element d
pub record Shared (h b n o d : ℕ) : Type 0 where
  pub some : 0 < h
  pub few : h + b < 62
  pub size : n ≡ 2 * 2 ^ (h + b)
  pub before : o + (h + b) ≤ d
