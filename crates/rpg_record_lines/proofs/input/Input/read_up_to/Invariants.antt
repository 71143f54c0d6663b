use Rattle.std.proofs.Common.{◌≡◌, ◌≤◌, ◌+◌, ◌-◌, vec_len}
use Rattle.std.specs.Io.KnownBytes.{Consumes}
use Rattle.rpg_records.specs.Sizes.{counted}
use Rattle.rpg_record_lines.specs.Inputs.{given_of, remaining_in}
use Rattle.rpg_record_lines.proofs.input.Input.read_up_to.Given as goal

abbrev pub invariant-loop-self : goal.invariant-loop-self
invariant-loop-self g l = record {
  within : vec_len l.bytes ≤ l.n;
  read : Consumes (remaining_in g.R.Read.remaining l.initial.self) (remaining_in g.R.Read.remaining l.self) l.bytes.items;
  given : given_of l.self ≡ counted (given_of l.initial.self + vec_len l.bytes);
}

abbrev pub decreases-loop-self : goal.decreases-loop-self
decreases-loop-self g l = l.n - vec_len l.bytes
