use mathlib.Core.Path.{◌∙◌}
use Rattle.magnetar_field.proofs.Elements.{overlaid-same}
use Rattle.magnetar_multilinear.proofs.multilinear.eval_in.Goals as goal

pub returns-clause-value : goal.returns-clause-value
returns-clause-value c =
    let same = overlaid-same c.args.values.now c.args.t.now c.requires.sizes.1 in
    c.get-e.ensures ∙ c.bind_all.ensures ∙ rw (c.copy.ensures, same)
