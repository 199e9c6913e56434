use Rattle.std.proofs.Common.{rules, ◌∙◌}
use Rattle.magnetar_field.proofs.Log2.{one-bit}
use Rattle.magnetar_field.proofs.sizes.is_power_of_two.Goals as goal

pub returns : goal.returns
returns c = c.is_power_of_two.ensures ∙ one-bit c.args.n (search rules)
