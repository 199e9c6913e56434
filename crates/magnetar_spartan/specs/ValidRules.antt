-- What the refusals leave of the rules. Only the contracts of private functions speak of this.
-- Assumes nothing.
use Rattle.magnetar_relation.specs.Rules.{Rules, relation_of}
use Rattle.magnetar_protocol.specs.RunSizes.{SizedRelation}

-- the rules whole: sizes within the limits, both systems with their entries inside, and a layout over the witness columns
abbrev pub ValidRules : Rules → Type 0
ValidRules R = SizedRelation (relation_of R)
