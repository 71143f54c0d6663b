-- How many records a run has left.
use Rattle.std.specs.Prelude.{ℕ, ◌+◌, length, Option, None, Some}
use Rattle.rpg_cycle_records.specs.Earlier.{Selected}
use Rattle.rpg_cycle.specs.Runs.{Records}
use Rattle.rpg_cycle_records.specs.Waiting.{Inputs}

-- one for a record, zero for none
abbrev pub one_for_record : Option Selected → ℕ
one_for_record None = 0
one_for_record (Some s) = 1

-- the records that wait
abbrev pub waiting_count : Inputs → ℕ
waiting_count i = one_for_record i.primary.waiting + one_for_record i.secondary.waiting

-- the records of both lists
abbrev pub records_count : Records → ℕ
records_count rs = length rs.primary + length rs.secondary
