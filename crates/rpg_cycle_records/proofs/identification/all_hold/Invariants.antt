use Rattle.std.proofs.Common.{◌≡◌, drop}
use Rattle.std.specs.List.{list_all}
use Rattle.rpg_cycle_records.specs.Identifying as spec
use Rattle.rpg_cycle_records.proofs.identification.all_hold.Given as goal

abbrev pub invariant-loop-code : goal.invariant-loop-code
invariant-loop-code l = list_all (spec.code_holds l.text) (drop l.code-index l.codes) ≡ list_all (spec.code_holds l.text) l.codes
