use Rattle.std.proofs.Common.{refl, arith}
use Rattle.script.specs.Groups.{other_kind, short_group, nothing}
use Rattle.script.proofs.groups.closing.Goals as goal

pub returns-then-groups-words : goal.returns-then-groups-words
returns-then-groups-words c = other_kind refl (omega arith)

pub returns-then-groups : goal.returns-then-groups
returns-then-groups c = short_group (omega arith) (omega arith)

pub returns : goal.returns
returns c = nothing (omega arith) (omega (arith, c.requires.between, c.requires.groups.whole))
