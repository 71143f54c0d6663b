use Rattle.std.proofs.Common.{◌≡◌, None, ◌∙◌, ap, length, refl}
use Rattle.std.proofs.lemmas.List.Elements.{All-rest}
use Rattle.rpg_program.specs.Input.{input_fault}
use Rattle.rpg_machine_inputs.proofs.Filling.{field_next}
use Rattle.rpg_machine_inputs.proofs.InputEntries.{inputs_after_first}
use Rattle.rpg_memory.specs.Memory.{data_put, forms_in}
use Rattle.rpg_machine_inputs.proofs.inputs.fill_all.Goals as goal

pub fields-init : goal.fields-init
fields-init g c = record {
  rest = refl;
  right = c.requires.right;
  found = c.requires.fixed;
  onward = refl;
}

pub fields-preserved : goal.fields-preserved
fields-preserved g c =
    let m = c.args.memory.now in
    let new = c.fill_one.new.memory in
    let left = c.fields.left.now in
    let following = c.in-Some.following.now in
    let f = c.in-Some.input.now in
    let is = c.in-Some.ensures.cases.0 in
    let same = c.fields.invariant.rest in
    record {
      rest = c.fill_one.ensures.rest ∙ ap (data_put new.world.data) same;
      right = All-rest (λ x. input_fault (forms_in m) (length c.args.text.now) x ≡ None) f following left is c.fields.invariant.right;
      found = inputs_after_first m.program.fields left following f c.fields.found.now is c.fields.invariant.found;
      onward = field_next m c.fields.memory c.args.text.now left following f c.fill_one.result new.world.data same is c.in-Continues.is c.fill_one.ensures.leaves
          ∙ c.fields.invariant.onward;
    }
