-- The fields of a record, filled.
use Rattle.std.proofs.Common.{◌≡◌, ℕ, ◌+◌, List, length, slice_get, Option, Some, sym, subst}
use Rattle.rpg_program.proofs.Putting.{data_done}
use Rattle.rpg_program.specs.Ended.{ends_with, on_data}
use Rattle.rpg_program.specs.Ends.{End}
use Rattle.rpg_program.specs.Forms.{form_at}
use Rattle.rpg_program.specs.Input.{TypeRow, record_in}
use Rattle.rpg_program.specs.Put.{Held}
use Rattle.rpg_machine.proofs.Effects.{did_effect}
use Rattle.rpg_machine.proofs.Making.{held}
use Rattle.rpg_machine.specs.Outputs.{ByEffect, FillsFields, input_fields_of}
use Rattle.rpg_machine.specs.Running.{Did, Running}
use Rattle.rpg_program.specs.Object.{Object}

pub record_filled : (p : Object) (row : ℕ) (text : List ℕ) (t : TypeRow ℕ) (n : ℕ) (e : End) (r : Running) (v : Held) → slice_get p.types row ≡ Some t → n ≡ r.config.steps + length t.inputs → v.last ≡ r.last → v.world.paper ≡ r.config.world.paper →
    ends_with e v.world.data ≡ record_in (form_at p.fields) text t.inputs r.config.world.data →
    Did (FillsFields p row text) r e (record { program = r.program; config = record r.config { steps = n; world = v.world }; last = v.last; output = r.output })
record_filled p row text t n e r v there counted last paper is =
    let new : Running = record { program = r.program; config = record r.config { steps = n; world = v.world }; last = v.last; output = r.output } in
    let done = data_done (record_in (form_at p.fields) text t.inputs) e (held r) v r.output last paper is in
    subst (λ (o : Option (TypeRow ℕ)). Did (ByEffect (length (input_fields_of o)) (on_data (record_in (form_at p.fields) text (input_fields_of o)))) r e new) (sym there)
    (did_effect (on_data (record_in (form_at p.fields) text t.inputs)) (length t.inputs) n r v r.output e counted done)
