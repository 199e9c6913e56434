use mathlib.Core.Path.{sym, ◌∙◌}
use Prim.Native.Nat.{◌+◌, ◌*◌, ◌/◌, ◌<◌}
use native.Mathlib.Omega.{arith}
use native.Mathlib.Numerals.{add-one}
use lib.ListN.{length}
use Rattle.magnetar_field.specs.Gf128.{value}
use Rattle.magnetar_field.specs.Words.{elements}
use Rattle.magnetar_field.proofs.Elements.{elements-length}
use Rattle.magnetar_protocol.specs.Proof.{part}
use Rattle.magnetar_protocol.proofs.Finding.{handed-found}
use Rattle.magnetar_verifier.specs.Steps.{shared_bin, shared_fld}
use Rattle.magnetar_verifier.proofs.RoundLaws.{sharing-start, sharing-more, sharing-stop, sharing-end, bin-length, fld-length, bin-get, fld-get}
use Rattle.magnetar_verifier.proofs.outer.shared_rounds.Goals as goal

pub loop-j-init : goal.loop-j-init
loop-j-init c = sharing-start _ _ _ _ _

pub returns-in_err-both-clause-found : goal.returns-in_err-both-clause-found
returns-in_err-both-clause-found c =
    let l = c.loop-j in
    let x = c.args in
    let p = elements x.proof.now in
    let s = length x.challenges.now / 2 in
    let h : l.j < s = omega arith in
    handed-found _ _ c.from_residual.ensures.1
    ∙ sharing-stop x.k s (shared_bin s p) (shared_fld s p) (elements x.challenges.now) (value l.both.bin) (value l.both.fld) l.j l.invariant
    (part (8 * l.j) 4 p) (part (8 * l.j + 4) 4 p) h (sym (bin-get s p l.j h)) (sym (fld-get s p l.j h)) c.in_err-both.field-0.0
    (rw (add-one l.j) at c.in_err-both.ensures.found)

pub loop-j-preserved : goal.loop-j-preserved
loop-j-preserved c =
    let l = c.loop-j in
    let x = c.args in
    let p = elements x.proof.now in
    let s = length x.challenges.now / 2 in
    let h : l.j < s = omega arith in
    let e = c.in_ok-both.ensures in
    sharing-more x.k s (shared_bin s p) (shared_fld s p) (elements x.challenges.now) (value l.both.bin) (value l.both.fld) l.j l.invariant
    (part (8 * l.j) 4 p) (part (8 * l.j + 4) 4 p) h (sym (bin-get s p l.j h)) (sym (fld-get s p l.j h)) (rw (add-one l.j) at e.found)
    (bin-length s p) (fld-length s p) (elements-length x.challenges.now) (value c.get.result) _ _ c.get.ensures e.claims.0 e.claims.1

pub returns : goal.returns
returns c =
    let l = c.loop-j in
    let x = c.args in
    let p = elements x.proof.now in
    let s = length x.challenges.now / 2 in
    let e = sharing-end x.k s (shared_bin s p) (shared_fld s p) (elements x.challenges.now) (value l.both.bin) (value l.both.fld) l.j
    l.invariant (omega arith) (bin-length s p) (fld-length s p) (elements-length x.challenges.now) in record {
      found = e.0;
      claims = (e.1, e.2);
    }
