use Rattle.std.proofs.Common.{◌+◌, ◌++◌, [], ◌∷◌, List, false, drop, get_or, sym, ap, ◌∙◌, append_assoc, arith}
use Rattle.std.proofs.lemmas.List.{at_drop_more}
use Rattle.rpg_program.specs.declared.form.Class.TheVariants as classes
use Rattle.rpg_program.specs.declared.form.FieldForm.{FieldForm}
use Rattle.rpg_program.specs.declared.form.Kind.TheVariants as kinds
use Rattle.rpg_store.specs.Slots.{entries_count, slots_from}
use Rattle.rpg_store.specs.declared.slot.Slot.{Slot}
use Rattle.rpg_store.proofs.slot.slots_of.Goals as goal

abbrev no_form : FieldForm
no_form = record { kind = kinds.Number; class = classes.Plain; length = 0; decimals = 0; is_ascending = false; entries = 0 }

pub loop-form-preserved : goal.loop-form-preserved
loop-form-preserved c =
    let fs = c.args.fields.now in
    let l = c.loop-form in
    let f = get_or fs l.form-index no_form in
    let slot : Slot = record { form = f; first = l.first; current = 1 } in
    let rest = slots_from (l.first + f.entries) (drop (l.form-index + 1) fs) in
    let count = at_drop_more entries_count fs l.form-index no_form c.loop-form-test.true in
    record {
      so_far = ap (λ (slots : List Slot). slots ++ rest) c.in_ok-push.ensures.items ∙ append_assoc l.slots.items (slot ∷ []) rest
          ∙ ap (λ (slots : List Slot). l.slots.items ++ slots) (sym (at_drop_more (slots_from l.first) fs l.form-index no_form c.loop-form-test.true)) ∙ l.invariant.so_far;
      few = omega (arith, count, l.invariant.few);
    }
