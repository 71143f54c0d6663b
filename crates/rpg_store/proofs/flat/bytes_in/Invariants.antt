use Rattle.std.proofs.Common.{◌≡◌, ◌+◌, drop}
use Rattle.rpg_program.specs.Kept.{storage_of}
use Rattle.rpg_store.proofs.flat.bytes_in.Given as goal

abbrev pub invariant-loop-form : goal.invariant-loop-form
invariant-loop-form l = l.total + storage_of (drop l.form-index l.fields) ≡ storage_of l.fields
