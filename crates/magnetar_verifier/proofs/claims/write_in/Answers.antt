use mathlib.Core.Path.{◌≡◌, ap₂, ◌∙◌}
use mathlib.Core.List.{◌++◌, reverse}
use Prim.Native.Nat.{◌+◌, ◌-◌, ◌*◌}
use native.Mathlib.Omega.{arith}
use lib.ListN.{length}
use lib.Seq.{length-take-le}
use Rattle.magnetar_field.specs.Words.{elements}
use Rattle.magnetar_field.proofs.Elements.{overlaid-same}
use Rattle.magnetar_protocol.specs.Proof.{part}
use Rattle.magnetar_verifier.proofs.ClaimLaws.{elements-join, three-is}
use Rattle.magnetar_verifier.proofs.claims.write_in.Goals as goal

pub returns : goal.returns
returns c =
    let x = c.args in
    let r = x.r in
    let n = c.saturating_sub-n.result in
    let a = c.reversed.new.out in
    let b = c.copy.new.dst in
    let e = c.copy-2.new.dst in
    let la : length a ≡ 2 * r.shared = c.reversed.auto.out ∙ length-take-le (2 * r.shared) x.out.now (omega arith) in
    let wb : b ≡ c.piece-2.result.now = c.copy.ensures ∙ overlaid-same c.piece-2.result.now _ (omega (arith, c.piece-2.ensures.size)) in
    let we : e ≡ c.piece-3.result.now = c.copy-2.ensures ∙ overlaid-same c.piece-3.result.now _ (omega (arith, c.piece-3.ensures.size)) in
    let lb : length b ≡ 2 * n = rw wb c.piece-2.ensures.size in
    let le : length e ≡ 2 * x.l = rw we c.piece-3.ensures.size in
    let ea : elements a ≡ reverse (part (r.shared + r.bin + (r.shared + r.fld)) r.shared (elements x.draws.now)) =
    c.reversed.ensures ∙ rw (c.piece.ensures.part, c.taus.ensures) in
    let eb : elements b ≡ part (r.shared + r.bin + (r.shared + r.fld) + r.shared + r.bin + r.fld + 6) (r.inner - 1) (elements x.draws.now) =
    rw (wb, c.piece-2.ensures.part, c.alphas.ensures, c.saturating_sub-n.ensures) in
    let ee : elements e ≡ part (8 * r.shared + 4 * r.bin + 4 * r.fld + 6 + 3 * r.inner + 1) x.l (elements x.proof.now) =
    rw (we, c.piece-3.ensures.part, c.end.ensures) in
    rw (three-is x.out.now a b e (2 * r.shared) (2 * n) la lb (omega arith))
    (elements-join r.shared a (b ++ e) la ∙ ap₂ ◌++◌ ea (elements-join n b e lb ∙ ap₂ ◌++◌ eb ee))
