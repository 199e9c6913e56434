use Rattle.std.proofs.Common.{ap, ◌∙◌, rules}
use Rattle.magnetar_digest.specs.Feeding.{words_fed}
use Rattle.magnetar_digest.proofs.FedLaws.{entry-words}
use Rattle.magnetar_digest.proofs.steps.feed_entry.Goals as goal

pub returns : goal.returns
unfolding words_fed
returns c =
    let a = c.args in
    c.feed.ensures ∙ ap (words_fed a.s) (entry-words a.e.row a.e.col a.e.lo a.e.hi (search rules))
