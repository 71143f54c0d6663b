-- What is put is what is read.
use Rattle.std.proofs.Common.{◌≡◌, ℕ, List, true, false, Option, Some, refl, sym, ap, ◌∙◌}
use Rattle.std.specs.Prelude.{Result, Ok, Err}
use Rattle.rpg_sheet_specs.specs.declared.column.ColumnFault.{ColumnFault}
use Rattle.rpg_sheet_specs.specs.declared.output.OutputSpec.TheVariants as outputs
use Rattle.rpg_sheet_specs.specs.Columns.{mapped, values, also, where_card}
use Rattle.rpg_sheet_specs.specs.Tables.{is_and_card, is_or_card, is_field_card, output_card, line_or_card, line_or_field_card, output_field_card}
use Rattle.rpg_sheet.specs.Put.{put}

-- without a fault it is the meaning that was read
pub put_ok : {X S : Type 0} (wrap : X → S) (r : Result X ColumnFault) (spec : Option S) (result : Result (Unit {0}) ColumnFault)
    → put spec result ≡ mapped (λ x. Some (wrap x)) r → result ≡ Ok tt → (x : X) × (r ≡ Ok x) × (spec ≡ Some (wrap x))
put_ok wrap (Ok x) spec (Ok u) e is = (x, refl, cc)
put_ok wrap (Ok x) spec (Err f) e is = absurd cc
put_ok wrap (Err f) spec (Ok u) e is = absurd cc
put_ok wrap (Err f) spec (Err g) e is = absurd cc

-- a fault is that of the columns
pub put_err : {X S : Type 0} (wrap : X → S) (r : Result X ColumnFault) (spec : Option S) (result : Result (Unit {0}) ColumnFault) (f : ColumnFault)
    → put spec result ≡ mapped (λ x. Some (wrap x)) r → result ≡ Err f → r ≡ Err f
put_err wrap (Ok x) spec (Ok u) f e is = absurd cc
put_err wrap (Ok x) spec (Err g) f e is = absurd cc
put_err wrap (Err g) spec (Ok u) f e is = absurd cc
put_err wrap (Err g) spec (Err h) f e is = cc

mapped_twice : {X Y Z : Type 0} (g : Y → Z) (f : X → Y) (r : Result X ColumnFault) → mapped (λ x. g (f x)) r ≡ mapped g (mapped f r)
mapped_twice g f (Ok x) = refl
mapped_twice g f (Err e) = refl

field_read : (card : List ℕ) → is_and_card card ≡ false → is_or_card card ≡ false → is_field_card card ≡ true → (output_card).reading card ≡ mapped outputs.Field ((output_field_card).reading card)
unfolding output_card line_or_card line_or_field_card where_card values also
field_read card neither alternative is = rw (neither, alternative, is) refl

-- an output field
pub field_put : {S : Type 0} (wrap : outputs.the_data → S) (card : List ℕ) → is_and_card card ≡ false → is_or_card card ≡ false → is_field_card card ≡ true
    → mapped (λ f. wrap (outputs.Field f)) ((output_field_card).reading card) ≡ mapped wrap ((output_card).reading card)
field_put wrap card neither alternative is = mapped_twice wrap outputs.Field ((output_field_card).reading card) ∙ ap (mapped wrap) (sym (field_read card neither alternative is))
