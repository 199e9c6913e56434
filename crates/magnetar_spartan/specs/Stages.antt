-- What the stages of a verifying run that see no matrix leave, by the relation's sizes o and the words w of the proof. Only the contracts of
-- private functions speak of this.
-- Assumes nothing.
use Rattle.std.specs.Prelude.{cond, List, ℕ, ◌+◌, ◌-◌, ◌*◌, ◌/◌, min, eqb, ltb, length, get_or, take, replicate}
use Rattle.magnetar_field.specs.Refusal.{unless_refused}
use Rattle.magnetar_field.specs.Sizes.{log₂}
use Rattle.magnetar_field.specs.Tabulate.{tabulate}
use Rattle.magnetar_field.specs.Words.{elements, words}
use Rattle.magnetar_hash.specs.declared.transcript.Transcript.{Transcript}
use Rattle.magnetar_hash.specs.Transcript.{TranscriptAnswer}
use Rattle.magnetar_multilinear.specs.Multilinear.{mle}
use Rattle.magnetar_matrix.specs.Batch.{Relation, public_folded}
use Rattle.magnetar_matrix.specs.Packed.{public_of}
use Rattle.magnetar_batch.specs.Entries.{public_in_refusal}
use Rattle.magnetar_batch.specs.TableSteps.{point_in}
use Rattle.magnetar_protocol.specs.Draws.{draw_count}
use Rattle.magnetar_prover.specs.Entries.{play_answer, play_draws}
use Rattle.magnetar_protocol.specs.Found.{Found}
use Rattle.magnetar_verifier.specs.Outer.{outer_found}
use Rattle.magnetar_verifier.specs.End.{end_found}
use Rattle.magnetar_verifier.specs.Claims.{claims_out}
use Rattle.magnetar_relation.specs.Steps.{cleared_to}
use Rattle.magnetar_relation.specs.Rules.{Rules}
use Rattle.magnetar_spartan.specs.Refusals.{rows_bin, rows_fld, sizes_only_of}
use Rattle.magnetar_spartan.specs.Proving.{login_at}
use Rattle.magnetar_spartan.specs.Table.{inner_at, window, table_value, value_left}

-- the words of the draws, in front of 256 words
abbrev pub drawn_words : Relation → (w : List ℕ) → Transcript → List ℕ
drawn_words o w t = play_draws o w (replicate 256 0) 65536 t

-- the transcript after n events
abbrev pub run_to : Relation → (w : List ℕ) → Transcript → ℕ → Transcript
run_to o w t n = (play_answer o w (replicate 256 0) n t).transcript

-- as many of the words d as a run has draws, at most 256
abbrev pub drawn_of : Relation → (d : List ℕ) → List ℕ
drawn_of o d = take (min (2 * draw_count o) 256) d

-- ---- the checks, at the words d of the draws
-- the outer checks
abbrev pub outer_at : Relation → (w d : List ℕ) → Found
outer_at o w d = outer_found o.m o.q o.bin.a.rows o.fld.a.rows o.lengths w d

-- the later ones, with the value v of the combined table and p of the public half
abbrev pub end_at : Relation → (w d : List ℕ) → (v p : ℕ) → Found
end_at o w d v p = end_found o.m o.q o.bin.a.rows o.fld.a.rows o.lengths w d v p

-- the claims, over c
abbrev pub claims_at : Relation → (w d c : List ℕ) → List ℕ
claims_at o w d c = claims_out o.m o.q o.bin.a.rows o.fld.a.rows o.lengths w d c

-- ---- the public half, folded at the point of the logins and taken at the low point, by m + q elements of the room s
-- n draws from place k of the words d on, the last one first
abbrev pub drawn_back : (n k : ℕ) → (d : List ℕ) → List ℕ
drawn_back n k d = tabulate (λ i. get_or (elements d) (k + (n - 1 - i)) 0) n

-- a size, the public words x, the words p of the point or the room do not fit
unfoldable pub public_refusal : (m q : ℕ) → (x p s : List ℕ) → ℕ
public_refusal m q x p s = cond (ltb (length s) (2 * m + 2 * q)) 15 (public_in_refusal x q (m / 2) p s)

-- the value at the low point in front of y, and what is left of s
unfoldable pub public_value : (m q : ℕ) → (x p y s : List ℕ) → ℕ
public_value m q x p y s =
    unless_refused (public_refusal m q x p s) (mle (public_folded q (m / 2) (public_of q (m / 2) x) (elements p)) (elements (point_in (m / 2) y))) 0

unfoldable pub public_left : (m q : ℕ) → (x p s : List ℕ) → List ℕ
public_left m q x p s = unless_refused (public_refusal m q x p s) (cleared_to (m + q) s) s

-- the words of the point of the logins, among the words d of the draws
abbrev pub login_words_at : (q b f : ℕ) → (d : List ℕ) → List ℕ
login_words_at q b f d = words (drawn_back (min (log₂ q) 16) (login_at q b f) d)

-- both at the words d of the draws
abbrev pub half_value : (m q b f : ℕ) → (x d s : List ℕ) → ℕ
half_value m q b f x d s = public_value m q x (login_words_at q b f d) (window 32 (inner_at q b f) d) s

abbrev pub half_left : (m q b f : ℕ) → (x d s : List ℕ) → List ℕ
half_left m q b f x d s = public_left m q x (login_words_at q b f d) s

-- ---- the checks, with the words d of the draws and the room s
-- the finding f, or l where f is none
abbrev pub first_of : Found → Found → Found
first_of f l = cond (eqb f.code 0) l f

-- of the public words x: the public half, behind the value of the combined table
abbrev pub half_at : Rules → (x d s : List ℕ) → ℕ
half_at R x d s = half_value R.m R.q (rows_bin R) (rows_fld R) x d (value_left R d s)

-- the first check that does not pass
abbrev pub checked : Rules → (x w d s : List ℕ) → Found
checked R x w d s =
    let o = sizes_only_of R in
    first_of (outer_at o w (drawn_of o d)) (end_at o w (drawn_of o d) (table_value R d s) (half_at R x d s))

-- what is left of s: nothing is written where an outer check does not pass
abbrev pub checks_left : Rules → (x w d s : List ℕ) → List ℕ
checks_left R x w d s =
    let o = sizes_only_of R in
    cond (eqb (outer_at o w (drawn_of o d)).code 0) (half_left R.m R.q (rows_bin R) (rows_fld R) x d (value_left R d s)) s

-- ---- the end of a run
-- the number, the transcript, and what the claims buffer holds
pub record Concluded : Type 0 where
  pub code : ℕ
  pub transcript : Transcript
  pub claims : List ℕ

-- the same of what the function returns
abbrev pub concluded : TranscriptAnswer → List ℕ → Concluded
concluded a c = record { code = a.code; transcript = a.transcript; claims = c }

-- what is left where g is the first check that does not pass, u being the transcript at the end
abbrev pub stopped_at : Relation → (w d : List ℕ) → (t u : Transcript) → Found → (c : List ℕ) → Concluded
stopped_at o w d t u g c = record {
  code = g.code;
  transcript = cond (eqb g.code 0) u (run_to o w t g.events);
  claims = cond (eqb g.code 0) (claims_at o w d c) c;
}
