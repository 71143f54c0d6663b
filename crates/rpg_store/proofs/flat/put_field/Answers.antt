use Rattle.std.proofs.Common.{ℕ, ◌+◌, map, sym, ap, ◌∙◌, subst, arith, List, Option}
use Rattle.std.proofs.lemmas.List.{length-map}
use Rattle.std.specs.FinMap as maps
use Rattle.rpg_program.specs.Forms.{form_at, length_of}
use Rattle.rpg_program.specs.Values.{Value, held}
use Rattle.rpg_program.specs.declared.form.FieldForm.{FieldForm}
use Rattle.rpg_store.specs.Filling.{IsLike, MayTake}
use Rattle.rpg_store.specs.Flat.{flat_contents}
use Rattle.rpg_store.specs.Slots.{forms_of}
use Rattle.rpg_store.proofs.Filling.{all_positions, item_there, next_position, position_stays}
use Rattle.rpg_store.proofs.flat.put_field.Goals as goal

pub put-requires : goal.put-requires
put-requires c =
    let l = c.loop-value in
    let field = c.args.field in
    let v = held c.value-item.result in
    let i = item_there held c.args.values.now l.value-index c.value-item.result c.loop-value-test.true c.value-item.is in
    subst (λ (p : ℕ). MayTake (forms_of l.store.slots) (flat_contents l.store) field p v) (sym l.invariant.counted)
    (subst (λ (fs : List FieldForm). IsLike (maps.get (flat_contents l.store) (field, l.value-index + 1)) (length_of (form_at fs field)) v) (sym l.invariant.forms)
    (subst (λ (o : Option Value). IsLike o (length_of (form_at (forms_of c.args.store.now.slots) field)) v) (sym (l.invariant.others l.value-index (omega arith))) (c.requires.each l.value-index v i)))

pub overflow_add-position : goal.overflow_add-position
overflow_add-position c =
    let n = length-map c.args.values.now held in
    let few = c.requires.few in
    let p = c.loop-value.invariant.counted in
    omega arith

pub loop-value-preserved : goal.loop-value-preserved
loop-value-preserved c =
    let l = c.loop-value in
    let field = c.args.field in
    let i = l.value-index in
    let there = item_there held c.args.values.now i c.value-item.result c.loop-value-test.true c.value-item.is in
    let put = c.put.ensures.contents ∙ ap (λ (p : ℕ). maps.insert (flat_contents l.store) (field, p) (held c.value-item.result)) l.invariant.counted in
    record {
      counted = ap (λ (p : ℕ). p + 1) l.invariant.counted;
      to_do = next_position (flat_contents l.store) _ field i (held c.value-item.result) (map held c.args.values.now) put there ∙ l.invariant.to_do;
      others = λ n h. position_stays (flat_contents l.store) _ field i n (held c.value-item.result) put h ∙ l.invariant.others n (omega arith);
      currents = c.put.ensures.currents ∙ l.invariant.currents;
      forms = c.put.ensures.forms ∙ l.invariant.forms;
    }

pub returns-clause-contents : goal.returns-clause-contents
returns-clause-contents c =
    let l = c.loop-value in
    let n = length-map c.args.values.now held in
    sym (all_positions (flat_contents l.store) c.args.field l.value-index (map held c.args.values.now) (omega arith)) ∙ l.invariant.to_do
