use Rattle.std.proofs.Common.{◌++◌, ap, ◌∙◌}
use Rattle.magnetar_digest.specs.Digest.{shape_numbers}
use Rattle.magnetar_digest.specs.Feeding.{words_fed}
use Rattle.magnetar_digest.proofs.FedLaws.{fed-more}
use Rattle.magnetar_digest.proofs.steps.feed_system.Goals as goal

pub returns : goal.returns
returns c =
    let a = c.args in
    rw (c.feed_shape.ensures, c.feed_shape-s-2.ensures, c.feed_shape-s.ensures)
    (ap (λ s. words_fed s (shape_numbers a.t.c)) (fed-more a.s (shape_numbers a.t.a) (shape_numbers a.t.b))
    ∙ fed-more a.s (shape_numbers a.t.a ++ shape_numbers a.t.b) (shape_numbers a.t.c))
