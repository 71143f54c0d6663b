use Rattle.std.proofs.Common.{◌≡◌, ℕ, ◌<◌, length, get_or, take, not, ◌==◌}
use Rattle.std.specs.List.{list_any}
use Rattle.rpg_records.specs.Columns.{column_character}
use Rattle.rpg_records.specs.declared.column.Column.TheVariants as columns
use Rattle.rpg_records.proofs.translation.Translation.write_image.Given as goal

abbrev pub invariant-loop-i : goal.invariant-loop-i
invariant-loop-i l = record {
  long : length l.text ≡ length l.columns;
  done : (k : ℕ) → k < l.i → get_or l.text k 0 ≡ column_character l.self.page l.self.low_blank (get_or l.columns k columns.Text) (get_or l.bytes k 0);
  all : l.are_all ≡ not (list_any (λ c. c == 0) (take l.i l.text));
}
