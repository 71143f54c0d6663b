use Rattle.std.proofs.Common.{◌≡◌, drop, length, take, Ok}
use Rattle.rpg_record_lines.specs.Converters.{page_of_records}
use Rattle.rpg_record_lines.specs.Outcomes.{joined_texts}
use Rattle.rpg_record_lines.specs.Records.{bytes_of_characters}
use Rattle.rpg_record_lines.proofs.line.Converter.write_characters.Given as goal

abbrev pub invariant-loop-place : goal.invariant-loop-place
invariant-loop-place l = record {
  same : length l.bytes ≡ length l.columns;
  written : joined_texts (Ok (take l.place l.bytes)) (bytes_of_characters (page_of_records l.self) l.place (drop l.place l.columns)) ≡ bytes_of_characters (page_of_records l.self) 0 l.columns;
}
