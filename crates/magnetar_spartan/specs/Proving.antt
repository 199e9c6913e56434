-- The parts of a proving run that see no matrix: what they ask for, and what they leave. Only private contracts cite these definitions.
-- Assumes nothing.
use Rattle.std.specs.Prelude.{◌≡◌, List, [], ◌++◌, reverse, ℕ, ◌+◌, ◌-◌, ◌*◌, ◌/◌, ◌^◌, ◌≤◌, ◌<◌, length, take, drop, replicate}
use Rattle.magnetar_field.specs.Refusal.{unless_refused}
use Rattle.magnetar_field.specs.Sizes.{log₂}
use Rattle.magnetar_field.specs.Words.{elements, words}
use Rattle.magnetar_hash.specs.declared.transcript.Transcript.{Transcript}
use Rattle.magnetar_layout.specs.Login.{login_words, public_words}
use Rattle.magnetar_layout.specs.Tests.{Sized, most_columns, most_logins}
use Rattle.magnetar_matrix.specs.Batch.{folded, public_folded}
use Rattle.magnetar_matrix.specs.Packed.{unpacked, public_of}
use Rattle.magnetar_relation.specs.declared.shapes.Shape.{Shape}
use Rattle.magnetar_relation.specs.declared.shapes.SystemShape.{SystemShape}
use Rattle.magnetar_relation.specs.Rules.{Rules}
use Rattle.magnetar_protocol.specs.Shape.{log_cols, before_inner, sizes_only}
use Rattle.magnetar_protocol.specs.Draws.{draw_count}
use Rattle.magnetar_protocol.specs.Run.{claims}
use Rattle.magnetar_schedule.specs.Stepwise.{Steps, begin, inner_all}
use Rattle.magnetar_prover.specs.Entries.{proof_for, draws_for, scratch_for, block_words, outer_rounds_refusal, outer_run_steps, inner_rounds_refusal, inner_run_steps}
use Rattle.magnetar_spartan.specs.Refusals.{sizes_only_of, rows_bin, rows_fld, proof_words, claim_words, prover_scratch_of}
use Rattle.magnetar_spartan.specs.ValidRules.{ValidRules}

-- three matrices of n rows and m columns without entries
abbrev three : (n m : ℕ) → SystemShape
three n m =
    let h : Shape = record { rows = n; cols = m; entries = 0 } in record { a = h; b = h; c = h }

-- the rules by their sizes alone: m columns, q logins, b rows of bin, f rows of fld
abbrev pub sizes_only_rules : (m q b f : ℕ) → List ℕ → Rules
sizes_only_rules m q b f ns = record { m = m; q = q; lengths = ns; shapes = record { bin = three b m; fld = three f m }; numbers = []; entries = [] }

-- what a run asks for: so many packed words ws, public words x, and room w for the proof, c for the claims and s of scratch, and the counter
-- n of the transcript
pub record ValidRun (R : Rules) (ws x w c s n : ℕ) : Type 0 where
  pub ready : ValidRules R
  pub packed : ws ≡ R.q * login_words (R.m / 2)
  pub public : x ≡ R.q * (R.m - 2)
  pub proof : proof_words R ≤ w
  pub claims : claim_words R ≤ c
  pub scratch : prover_scratch_of R ≤ s
  pub counter : n < 2 ^ 32

-- ---- the outer rounds over the tables in front of s, with 256 words for the draws
-- the number of their refusal, or 0
abbrev pub outer_number : (q b f : ℕ) → (w s : List ℕ) → Transcript → ℕ
outer_number q b f w s t = outer_rounds_refusal q b f w (replicate 256 0) s t

-- what they leave: the transcript u, the words d of the draws, the proof w' and the scratch s'
abbrev pub OuterDone : (q b f : ℕ) → (w s : List ℕ) → Transcript → Transcript → (d w' s' : List ℕ) → Type 0
OuterDone q b f w s t u d w' s' =
    (u ≡ unless_refused (outer_number q b f w s t) (outer_run_steps q b f s t).run_state.transcript t)
    × (d ≡ draws_for (outer_number q b f w s t) (outer_run_steps q b f s t) (replicate 256 0))
    × (w' ≡ proof_for (outer_number q b f w s t) (outer_run_steps q b f s t) w) × (s' ≡ scratch_for (outer_number q b f w s t) (block_words q b f) s)

-- ---- the z of all logins folded at the point of the n draws from place k of d on, behind the first 4w words
-- what it asks for: so many packed words ws, public words x, words d of draws, and words s
pub record ValidFold (q w n k ws x d s : ℕ) : Type 0 where
  pub columns : Sized 2 most_columns (2 * w)
  pub logins : Sized 1 most_logins q
  pub packed : ws ≡ q * login_words w
  pub public : x ≡ q * public_words w
  pub point : n ≡ log₂ q
  pub place : k ≤ 4096
  pub drawn : 2 * k + 2 * n ≤ d
  pub room : 8 * w + 2 * q ≤ s

-- what s' is
abbrev pub FoldLeft : (q w n k : ℕ) → (ws x d s s' : List ℕ) → Type 0
FoldLeft q w n k ws x d s s' =
    let p = reverse (take n (drop k (elements d))) in
    (take (4 * w) s' ≡ take (4 * w) s) × (elements (take (2 * w) (drop (4 * w) s')) ≡ folded q w (unpacked q w ws) p)
    × (elements (take (2 * w) (drop (6 * w) s')) ≡ public_folded q w (public_of q w x) p) × (drop (8 * w + 2 * q) s' ≡ drop (8 * w + 2 * q) s)

-- where the draws for the logins' point begin
abbrev pub login_at : (q b f : ℕ) → ℕ
login_at q b f = log₂ q + log₂ b + (log₂ q + log₂ f)

-- ---- what is behind the outer rounds, with the steps p
-- how many words of the proof and of the draws come before
abbrev pub sent_before : Rules → ℕ
sent_before R = 2 * before_inner (sizes_only_of R)

abbrev pub drawn_before : Rules → ℕ
drawn_before R = 2 * (draw_count (sizes_only_of R) - log_cols (sizes_only_of R))

-- all words of the proof, and of the draws
abbrev pub sent_all : Rules → (w : List ℕ) → Steps → List ℕ
sent_all R w p = take (sent_before R) w ++ words p.sent

abbrev pub drawn_all : Rules → (d : List ℕ) → Steps → List ℕ
drawn_all R d p = take (drawn_before R) d ++ words p.run_state.draws

-- the inner rounds from word a of the proof w and word k of the draws d on, with the table and the folded z in front of s: the
-- transcript u, and w', d', s'
abbrev pub InnerDone : (m : ℕ) → (ns w d s : List ℕ) → (a k : ℕ) → Transcript → Transcript → (w' d' s' : List ℕ) → Type 0
InnerDone m ns w d s a k t u w' d' s' =
    let z = inner_rounds_refusal m ns (drop a w) (drop k d) s t in
    let p = inner_run_steps (sizes_only m 1 1 1 ns) s t in
    (u ≡ unless_refused z p.run_state.transcript t) × (w' ≡ take a w ++ proof_for z p (drop a w)) × (d' ≡ take k d ++ draws_for z p (drop k d))
    × (s' ≡ scratch_for z (6 * m) s)

-- what is left: the transcript u, the proof w', the claims c', and the scratch s', of which n words are 0
abbrev pub EndLeft : Rules → (w d c s : List ℕ) → (n : ℕ) → Steps → Transcript → (w' c' s' : List ℕ) → Type 0
EndLeft R w d c s n p u w' c' s' =
    (u ≡ p.run_state.transcript) × (w' ≡ sent_all R w p ++ drop (proof_words R) w)
    × (c' ≡ words (claims (sizes_only_of R) (elements (sent_all R w p)) (elements (drawn_all R d p))) ++ drop (claim_words R) c)
    × (s' ≡ replicate n 0 ++ drop n s)

-- its steps: the combined table in front of s, the z of all logins folded at their point, which is among the words d of the draws
abbrev pub inner_part_steps : Rules → (ws x d s : List ℕ) → Transcript → Steps
inner_part_steps R ws x d s t =
    let p = reverse (take (log₂ R.q) (drop (login_at R.q (rows_bin R) (rows_fld R)) (elements d))) in
    inner_all (sizes_only_of R) (elements (take (2 * R.m) s)) (folded R.q (R.m / 2) (unpacked R.q (R.m / 2) ws) p)
    (public_folded R.q (R.m / 2) (public_of R.q (R.m / 2) x) p) (begin t)

-- what is left where a run has what it asks for
abbrev pub InnerPartLeft : Rules → (ws x w d c s : List ℕ) → Transcript → Transcript → (w' c' s' : List ℕ) → Type 0
InnerPartLeft R ws x w d c s t u w' c' s' =
    ValidRun R (length ws) (length x) (length w) (length c) (length s) t.squeeze_ctr
    → EndLeft R w d c s (prover_scratch_of R) (inner_part_steps R ws x d s t) u w' c' s'
