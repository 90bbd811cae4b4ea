use Rattle.std.proofs.Common.{◌+◌, ◌-◌, ◌*◌, length}
use Rattle.text.proofs.reader.Source.+pair_unit.Given as goal

-- the unread length falls; a unit hands its own place to a pair
abbrev pub decreases-pair : goal.decreases-pair
decreases-pair l = 2 * (length l.self.now.text.now - l.at)

abbrev pub decreases-unit : goal.decreases-unit
decreases-unit l = 2 * (length l.self.now.text.now - l.at) + 1
