use Rattle.std.proofs.Common.{◌≡◌, ◌++◌, drop, map}
use Rattle.rpg_object_format.specs.Format.{keep, spelled_along}
use Rattle.rpg_object_rows.proofs.table.put_rows.Given as goal

abbrev pub invariant-loop-row : goal.invariant-loop-row
invariant-loop-row g l = l.out.items ++ spelled_along (λ s x. g.T.Row.spell x) keep tt (drop l.row-index (map g.T.Row.seen l.rows)) ≡ l.initial.out.items ++ spelled_along (λ s x. g.T.Row.spell x) keep tt (map g.T.Row.seen l.rows)
