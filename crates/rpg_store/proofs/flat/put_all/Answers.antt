use Rattle.std.proofs.Common.{ℕ, ◌+◌, map, sym, ap, ◌∙◌, subst, arith, List, Option}
use Rattle.std.proofs.lemmas.List.{length-map}
use Rattle.std.specs.FinMap as maps
use Rattle.rpg_program.specs.Forms.{form_at, length_of}
use Rattle.rpg_program.specs.Values.{Value, entries_held}
use Rattle.rpg_program.specs.declared.form.FieldForm.{FieldForm}
use Rattle.rpg_store.specs.Filling.{IsLike, MayTakeAll, with_positions}
use Rattle.rpg_store.specs.Flat.{flat_contents}
use Rattle.rpg_store.specs.Slots.{forms_of}
use Rattle.rpg_store.proofs.Filling.{all_fields, field_stays, item_there, next_field}
use Rattle.rpg_store.proofs.flat.put_all.Goals as goal

pub put_field-requires : goal.put_field-requires
put_field-requires c =
    let l = c.loop-of_field in
    let k = l.of_field-index in
    let vs = entries_held c.of_field-item.result in
    let i = item_there entries_held c.args.values.now k c.of_field-item.result c.loop-of_field-test.true c.of_field-item.is in
    let r = c.requires.like k vs i in
    subst (λ (us : List Value). MayTakeAll (forms_of l.store.slots) (flat_contents l.store) l.field us) (sym c.as_slice.ensures)
    (subst (λ (p : ℕ). MayTakeAll (forms_of l.store.slots) (flat_contents l.store) p vs) (sym l.invariant.counted) (record {
      few = r.few;
      each = λ n v j.
          subst (λ (fs : List FieldForm). IsLike (maps.get (flat_contents l.store) (k + 1, n + 1)) (length_of (form_at fs (k + 1))) v) (sym l.invariant.forms)
          (subst (λ (o : Option Value). IsLike o (length_of (form_at (forms_of c.args.store.now.slots) (k + 1))) v) (sym (l.invariant.others k (n + 1) (omega arith))) (r.each n v j));
    }))

pub loop-of_field-preserved : goal.loop-of_field-preserved
loop-of_field-preserved c =
    let l = c.loop-of_field in
    let k = l.of_field-index in
    let vs = entries_held c.of_field-item.result in
    let there = item_there entries_held c.args.values.now k c.of_field-item.result c.loop-of_field-test.true c.of_field-item.is in
    let put = c.put_field.ensures.contents ∙ ap (λ us. with_positions (flat_contents l.store) l.field 1 us) c.as_slice.ensures ∙ ap (λ (p : ℕ). with_positions (flat_contents l.store) p 1 vs) l.invariant.counted in
    record {
      counted = ap (λ (p : ℕ). p + 1) l.invariant.counted;
      to_do = next_field (flat_contents l.store) _ k vs (map entries_held c.args.values.now) put there ∙ l.invariant.to_do;
      others = λ j n h. field_stays (flat_contents l.store) _ k j n vs put h ∙ l.invariant.others j n (omega arith);
      currents = c.put_field.ensures.currents ∙ l.invariant.currents;
      forms = c.put_field.ensures.forms ∙ l.invariant.forms;
    }

pub returns-clause-contents : goal.returns-clause-contents
returns-clause-contents c =
    let l = c.loop-of_field in
    let n = length-map c.args.values.now entries_held in
    sym (all_fields (flat_contents l.store) l.of_field-index (map entries_held c.args.values.now) (omega arith)) ∙ l.invariant.to_do
