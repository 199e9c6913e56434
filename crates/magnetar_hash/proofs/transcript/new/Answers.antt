use Rattle.std.proofs.Common.{◌≡◌, ◌+◌, [], ◌∷◌, length, sym, ◌∙◌, arith}
use Rattle.magnetar_hash.specs.Bytes.{ascii}
use Rattle.magnetar_hash.specs.Parts.{parts}
use Rattle.magnetar_hash.specs.Transcript.{new_transcript, new_answer}
use Rattle.magnetar_hash.proofs.Parts.{parts_join, serialized, domain-of, length-parts}
use Rattle.magnetar_hash.proofs.Tests.{met, unmet}
use Rattle.magnetar_hash.proofs.transcript.new.Goals as goal

pub returns-in_err-require : goal.returns-in_err-require
unfolding new_answer
returns-in_err-require c =
    let u = unmet _ _ _ _ _ _ c.require.ensures c.in_err-require.was c.from_residual.ensures.1 in
    rw (u.1, sym c.add_up.ensures ∙ u.0)

pub returns : goal.returns
unfolding new_answer new_transcript ascii
returns c =
    let a = c.args in
    let d = ascii "magnetar/transcript/v1" in
    let ps = parts a.lens.now a.public.now in
    let e : length a.lens.now + 2 ≡ length (d ∷ a.protocol.now ∷ ps) = omega (arith, length-parts a.lens.now a.public.now) in
    let f = parts_join (a.protocol.now ∷ []) ps c.feed_part-2.ensures c.feed_parts.ensures in
    let w = rw c.empty-sponge.ensures at c.feed_word.ensures in
    let g = serialized (d ∷ a.protocol.now ∷ ps) e w (parts_join (d ∷ []) (a.protocol.now ∷ ps) c.feed_part.ensures f) in
    let m = met _ _ _ _ _ c.require.ensures c.in_ok-require.was in
    rw (sym c.add_up.ensures ∙ m.0, c.undrawn.ensures, c.finish-state.ensures, domain-of (d ∷ a.protocol.now ∷ ps) g)
