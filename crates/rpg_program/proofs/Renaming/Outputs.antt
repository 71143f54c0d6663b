-- Renaming keys commutes with the outputs of a cycle.
use Rattle.std.proofs.Common.{◌≡◌, ℕ, true, false, not, ◌&&◌, cond, List, map, Option, Ordering}
use Rattle.rpg_program.proofs.Renaming.Lines.{leaves_same, lines_same, then_same}
use Rattle.rpg_program.specs.Lines.{Line, detail_output, movements_watched, overflow_details, overflow_output, settled, total_output}
use Rattle.rpg_program.specs.Naming.{Agree, AreNamed, IsRenaming, SameEffect, renamed_line}
use Rattle.rpg_program.specs.Showing.{turned_off}
use Rattle.rpg_program.specs.World.{World}
use Rattle.rpg_program.specs.declared.form.FieldForm.{FieldForm}
use Rattle.rpg_program.specs.declared.line.Pass.TheVariants as passes
use Rattle.rpg_program.specs.declared.rows.Overflow.{Overflow}

module _ {K L : Type 0} {R : K → K → Ordering} {S : L → L → Ordering} {old : K → Option FieldForm} {new : L → Option FieldForm} {at : K → L} (r : IsRenaming R S old new at)
    (words : K → List ℕ) (new_words : L → List ℕ) (same_words : (k : K) → new_words (at k) ≡ words k) (overflow : Overflow) (ls : List (Line K)) (named : AreNamed old ls) where
  settled_agrees : (v : World R) (w : World S) → Agree old at v w → Agree old at (settled overflow v) (settled overflow w)
  settled_agrees v w a = record {
    «data» = record {
      fields = a.data.fields;
      on = λ i. cond ((a.paper i).was_overflow && not (a.paper i).has_turned_on) (turned_off overflow.indicator (a.data.on i)) (a.data.on i);
      remainder = a.data.remainder;
    };
    paper = λ i. record (a.paper i) { was_overflow = false };
  }

  marked_agrees : (v : World R) (w : World S) → Agree old at v w → Agree old at (movements_watched v) (movements_watched w)
  marked_agrees v w a = record { «data» = a.data; paper = λ i. record (a.paper i) { was_overflow = true; has_turned_on = false } }

  pub detail_same : (v : World R) (w : World S) → Agree old at v w → SameEffect old at (detail_output old words overflow ls v) (detail_output new new_words overflow (map (renamed_line at) ls) w)
  detail_same v w a =
      then_same _ _ _ _ (lines_same r words new_words same_words overflow passes.Detail ls named v w a) (λ x y b. leaves_same _ _ (settled_agrees x y b))

  pub total_same : (v : World R) (w : World S) → Agree old at v w → SameEffect old at (total_output old words overflow ls v) (total_output new new_words overflow (map (renamed_line at) ls) w)
  total_same v w a = lines_same r words new_words same_words overflow passes.Total ls named v w a

  details_same : (v : World R) (w : World S) → Agree old at v w → SameEffect old at (overflow_details old words overflow ls v) (overflow_details new new_words overflow (map (renamed_line at) ls) w)
  details_same v w a =
      then_same _ _ _ _ (lines_same r words new_words same_words overflow passes.OverflowDetail ls named v w a) (λ x y b. leaves_same _ _ (marked_agrees x y b))

  pub overflow_same : (v : World R) (w : World S) → Agree old at v w → SameEffect old at (overflow_output old words overflow ls v) (overflow_output new new_words overflow (map (renamed_line at) ls) w)
  overflow_same v w a = then_same _ _ _ _ (lines_same r words new_words same_words overflow passes.OverflowTotal ls named v w a) details_same
