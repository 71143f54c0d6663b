use Rattle.std.proofs.Common.{◌≡◌, max, drop}
use Rattle.rpg_records.specs.Sizes.{most_digits}
use Rattle.rpg_records.proofs.layout.Layout.columns.Given as goal

abbrev pub invariant-loop-kind : goal.invariant-loop-kind
invariant-loop-kind l = max l.most (most_digits (drop l.kind-index l.self.types.items)) ≡ most_digits l.self.types.items
