use Rattle.std.proofs.Common.{◌≡◌, ◌+◌, ◌-◌, ◌≤◌, true, length, take, if◌then◌else◌}
use Rattle.std.specs.List.{list_all}
use Rattle.rpg_text.specs.Texts.{is_character}
use Rattle.rpg_files.specs.Counting.{device_of, faults_of}
use Rattle.rpg_files.specs.Reads.{Reads}
use Rattle.rpg_files.specs.Buffers.{capacity_of, left_in}
use Rattle.rpg_files.proofs.input.read_line.Given as goal

abbrev pub invariant-reading : goal.invariant-reading
invariant-reading g l = record {
  read : Reads (g.R.Read.remaining (device_of l.initial.reader)) (g.R.Read.remaining (device_of l.reader)) (left_in l.initial.buffer) (left_in l.buffer) l.initial.is_ended l.is_ended;
  within : l.scanned ≤ length (left_in l.buffer);
  characters : list_all is_character (take l.scanned (left_in l.buffer)) ≡ true;
  capacity : capacity_of l.buffer ≡ capacity_of l.initial.buffer;
  faults : faults_of l.reader ≡ faults_of l.initial.reader;
}

abbrev pub decreases-reading : goal.decreases-reading
decreases-reading g l = (l.limit + 2 - length (left_in l.buffer)) + (if l.is_ended then 0 else 1)
