use Rattle.std.proofs.Common.{rules, tests}
use Rattle.std.proofs.lemmas.Iterator.{YieldsList-from_slice}
use Rattle.std.proofs.lemmas.Iterator.Search.{all_from_yields_List}
use Rattle.magnetar_layout.specs.Layout.{is_length}
use Rattle.magnetar_layout.proofs.EveryLaws.{every-list_all}
use Rattle.magnetar_layout.proofs.tests.all_lengths.Goals as goal

pub returns : goal.returns
returns c =
    rw every-list_all
    (all_from_yields_List (is_length c.args.w) _ _ _ c.all.ensures.ran (YieldsList-from_slice c.args.lens.now (cc)) (λ x b q k. search (rules, tests)))
