use Rattle.std.proofs.Common.{◌∙◌, ap, refl, arith}
use Rattle.magnetar_replay.specs.Words.{query_name, named_among, long_names, last_letters}
use Rattle.magnetar_replay.proofs.WordLaws.{named-here, named-on, named-none}
use Rattle.magnetar_replay.proofs.line.name.Goals as goal

pub loop-long-init : goal.loop-long-init
loop-long-init c = record { rest = refl }

pub loop-long-preserved : goal.loop-long-preserved
loop-long-preserved c = named-on _ _ _ _ _ _ _ c.loop-long.invariant (omega arith) c.last_letters.ensures c.eq.ensures c.if-eq.false

pub returns-then-eq : goal.returns-then-eq
unfolding query_name
returns-then-eq c =
    named-here _ _ _ _ _ _ _ c.loop-long.invariant (omega arith) c.last_letters.ensures c.eq.ensures c.if-eq.true
    ∙ ap (named_among long_names) (c.last_letters-letters.ensures ∙ ap last_letters c.first_word.ensures)

pub returns : goal.returns
unfolding query_name
returns c =
    named-none _ _ _ _ c.loop-long.invariant (omega arith)
    ∙ ap (named_among long_names) (c.last_letters-letters.ensures ∙ ap last_letters c.first_word.ensures)
