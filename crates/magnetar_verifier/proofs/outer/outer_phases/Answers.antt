use mathlib.Core.Path.{◌≡◌, sym, ap, ◌∙◌}
use Prim.Native.Nat.{◌+◌, ◌*◌}
use Rattle.magnetar_field.specs.Gf128.{value}
use Rattle.magnetar_field.specs.Words.{elements}
use Rattle.magnetar_protocol.specs.Found.{nothing, found, after}
use Rattle.magnetar_protocol.proofs.Finding.{handed-found, after_two}
use Rattle.magnetar_verifier.specs.Steps.{shared_phase, bin_phase, fld_phase, bin_shared, fld_shared, bin_end, fld_end}
use Rattle.magnetar_verifier.proofs.OuterPhases.{shared-failed, bin-failed, fld-failed, terminals-found}
use Rattle.magnetar_verifier.proofs.Pieces.{half-of}
use Rattle.magnetar_verifier.proofs.RoundLaws.{phase-is, phase-claim}
use Rattle.magnetar_verifier.proofs.outer.outer_phases.Goals as goal

pub returns-in_err-both : goal.returns-in_err-both
returns-in_err-both c =
    let r = c.args.r in
    let h = half-of r.shared c.piece.ensures.size in
    handed-found _ _ c.from_residual.ensures.1
    ∙ shared-failed r.shared r.bin r.fld (elements c.args.proof.now) (elements c.args.draws.now) _
    (c.in_err-both.ensures.found ∙ rw (h, c.piece.ensures.part, c.taus-k.ensures))

pub returns-in_err-bin : goal.returns-in_err-bin
returns-in_err-bin c =
    let r = c.args.r in
    let w = elements c.args.proof.now in
    let d = elements c.args.draws.now in
    let h = half-of r.shared c.piece.ensures.size in
    let shared : nothing ≡ after nothing (shared_phase r.shared r.bin r.fld w d) =
    c.in_ok-both.ensures.found ∙ rw (h, c.piece.ensures.part, c.taus-k.ensures) in
    let bin : value c.in_ok-both.both.bin ≡ bin_shared r.shared r.bin r.fld w d =
    c.in_ok-both.ensures.claims.0 ∙ rw (h, c.piece.ensures.part, c.taus-k.ensures) in
    handed-found _ _ c.from_residual-in_err-bin.ensures.1
    ∙ bin-failed r.shared r.bin r.fld w d shared _
    (c.in_err-bin.ensures.found
    ∙ ap (after nothing) (phase-is (8 * r.shared) 4 r.bin w (half-of r.bin c.piece-3.ensures.size) c.piece-2.ensures.part c.piece-3.ensures.part _ _ _
    ∙ rw (bin, c.taus-k.ensures)))

pub returns-in_err-fld : goal.returns-in_err-fld
returns-in_err-fld c =
    let r = c.args.r in
    let w = elements c.args.proof.now in
    let d = elements c.args.draws.now in
    let h = half-of r.shared c.piece.ensures.size in
    let n = half-of r.bin c.piece-3.ensures.size in
    let k = half-of r.fld c.piece-5.ensures.size in
    let shared : nothing ≡ after nothing (shared_phase r.shared r.bin r.fld w d) =
    c.in_ok-both.ensures.found ∙ rw (h, c.piece.ensures.part, c.taus-k.ensures) in
    let b₁ : value c.in_ok-both.both.bin ≡ bin_shared r.shared r.bin r.fld w d =
    c.in_ok-both.ensures.claims.0 ∙ rw (h, c.piece.ensures.part, c.taus-k.ensures) in
    let f₁ : value c.in_ok-both.both.fld ≡ fld_shared r.shared r.bin r.fld w d =
    c.in_ok-both.ensures.claims.1 ∙ rw (h, c.piece.ensures.part, c.taus-k.ensures) in
    let bin : nothing ≡ after nothing (bin_phase r.shared r.bin r.fld w d) =
    c.in_ok-bin.ensures.found
    ∙ ap (after nothing) (phase-is (8 * r.shared) 4 r.bin w n c.piece-2.ensures.part c.piece-3.ensures.part _ _ _ ∙ rw (b₁, c.taus-k.ensures)) in
    handed-found _ _ c.from_residual-in_err-fld.ensures.1
    ∙ fld-failed r.shared r.bin r.fld w d shared bin _
    (c.in_err-fld.ensures.found
    ∙ ap (after nothing) (phase-is (8 * r.shared + 4 * r.bin) 4 r.fld w k c.piece-4.ensures.part c.piece-5.ensures.part _ _ _
    ∙ rw (f₁, c.taus-k.ensures)))

pub returns : goal.returns
returns c =
    let r = c.args.r in
    let w = elements c.args.proof.now in
    let d = elements c.args.draws.now in
    let h = half-of r.shared c.piece.ensures.size in
    let n = half-of r.bin c.piece-3.ensures.size in
    let k = half-of r.fld c.piece-5.ensures.size in
    let shared : nothing ≡ after nothing (shared_phase r.shared r.bin r.fld w d) =
    c.in_ok-both.ensures.found ∙ rw (h, c.piece.ensures.part, c.taus-k.ensures) in
    let b₁ : value c.in_ok-both.both.bin ≡ bin_shared r.shared r.bin r.fld w d =
    c.in_ok-both.ensures.claims.0 ∙ rw (h, c.piece.ensures.part, c.taus-k.ensures) in
    let f₁ : value c.in_ok-both.both.fld ≡ fld_shared r.shared r.bin r.fld w d =
    c.in_ok-both.ensures.claims.1 ∙ rw (h, c.piece.ensures.part, c.taus-k.ensures) in
    let bin : nothing ≡ after nothing (bin_phase r.shared r.bin r.fld w d) =
    c.in_ok-bin.ensures.found
    ∙ ap (after nothing) (phase-is (8 * r.shared) 4 r.bin w n c.piece-2.ensures.part c.piece-3.ensures.part _ _ _ ∙ rw (b₁, c.taus-k.ensures)) in
    let fld : nothing ≡ after nothing (fld_phase r.shared r.bin r.fld w d) =
    c.in_ok-fld.ensures.found
    ∙ ap (after nothing) (phase-is (8 * r.shared + 4 * r.bin) 4 r.fld w k c.piece-4.ensures.part c.piece-5.ensures.part _ _ _
    ∙ rw (f₁, c.taus-k.ensures)) in
    let b₂ : value c.in_ok-bin.bin ≡ bin_end r.shared r.bin r.fld w d =
    c.in_ok-bin.ensures.claim
    ∙ phase-claim (8 * r.shared) 4 r.bin w n c.piece-2.ensures.part c.piece-3.ensures.part (value c.in_ok-both.both.bin) ∙ rw (b₁, c.taus-k.ensures) in
    let f₂ : value c.in_ok-fld.fld ≡ fld_end r.shared r.bin r.fld w d =
    c.in_ok-fld.ensures.claim
    ∙ phase-claim (8 * r.shared + 4 * r.bin) 4 r.fld w k c.piece-4.ensures.part c.piece-5.ensures.part (value c.in_ok-both.both.fld)
    ∙ rw (f₁, c.taus-k.ensures) in
    terminals-found r.shared r.bin r.fld w d shared bin fld (found c.terminals.result) (c.terminals.ensures ∙ rw (b₂, f₂) (sym (after_two nothing _ _)))
