use Rattle.std.proofs.Common.{◌≡◌, ◌+◌, drop}
use Rattle.rpg_store.specs.Area.{all_number_bytes}
use Rattle.rpg_store.proofs.flat.digits_in.Given as goal

abbrev pub invariant-loop-form : goal.invariant-loop-form
invariant-loop-form l = l.total + all_number_bytes (drop l.form-index l.fields) ≡ all_number_bytes l.fields
