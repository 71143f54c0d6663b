use Rattle.std.proofs.Common.{◌≡◌, None, ◌≤◌, ◌∙◌, ap, arith, length, refl, subst}
use Rattle.std.proofs.lemmas.List.Elements.{All-rest}
use Rattle.rpg_program.specs.Ends.{end_of}
use Rattle.rpg_program.specs.LineFaults.{field_fault}
use Rattle.rpg_machine_lines.proofs.Assembling.{field_next, plan_after_first}
use Rattle.rpg_machine_lines.proofs.Reaching.{ends_in_reach, first_after_reach}
use Rattle.rpg_machine_lines.specs.Drafts.{fields_replaced}
use Rattle.rpg_machine_lines.specs.Entries.{AreFieldEntries}
use Rattle.rpg_machine_lines.specs.Plans.{reach_of}
use Rattle.rpg_program.specs.Constants.{word_at}
use Rattle.rpg_program.specs.Object.{Object}
use Rattle.rpg_memory.specs.Memory.{Working, forms_in}
use Rattle.rpg_machine_lines.proofs.assembly.assemble.Goals as goal

pub fields-init : goal.fields-init
fields-init g c = record {
  rest = refl;
  len = refl;
  entries = c.requires.entries;
  right = c.requires.right;
  planned = c.requires.planned;
  room = c.requires.room;
  ends = ends_in_reach c.args.fields.now;
  following = refl;
  onward = refl;
}

pub fields-preserved : goal.fields-preserved
fields-preserved g c =
    let m = c.args.memory.now in
    let new = c.with_planned_field.new.memory in
    let left = c.fields.left.now in
    let following = c.in-Some.following.now in
    let f = c.in-Some.field.now in
    let is = c.in-Some.ensures.cases.0 in
    let same = c.fields.invariant.rest in
    let len = length c.args.text.now in
    let reach = reach_of c.args.fields.now in
    record {
      rest = c.with_planned_field.ensures.changes.rest ∙ ap (λ (x : Working). fields_replaced new.world.data.fields x) same;
      len = c.with_planned_field.auto.text ∙ c.fields.invariant.len;
      entries = subst (λ (p : Object). AreFieldEntries p.fields c.with_planned_field.new.to_blank) (ap (λ (x : Working). x.program) same)
          c.with_planned_field.ensures.changes.each;
      right = All-rest (λ x. field_fault (forms_in m) (word_at m.program) len x ≡ None) f following left is c.fields.invariant.right;
      planned = plan_after_first m.program.fields left following f c.fields.found.now is c.fields.invariant.planned;
      room = omega (arith, c.in-Some.ensures.cases.1, c.with_planned_field.ensures.changes.few, c.fields.invariant.room);
      ends = All-rest (λ x. x.end ≤ reach) f following left is c.fields.invariant.ends;
      following = first_after_reach (forms_in m) (word_at m.program) len reach left following f c.fields.memory new c.fields.text c.with_planned_field.new.text
          c.fields.to_blank c.with_planned_field.new.to_blank (end_of c.with_planned_field.result) is c.fields.invariant.right c.fields.invariant.ends
          c.fields.invariant.len c.with_planned_field.auto.text c.with_planned_field.ensures.drafted
          ∙ c.fields.invariant.following;
      onward = field_next m len c.fields.memory left following f _ _ c.with_planned_field.result _
          same is c.in-Continues.is c.fields.invariant.len c.with_planned_field.ensures.drafted
          ∙ c.fields.invariant.onward;
    }

pub returns-in-Halt-clause-following : goal.returns-in-Halt-clause-following
returns-in-Halt-clause-following g c =
    let m = c.args.memory.now in
    first_after_reach (forms_in m) (word_at m.program) (length c.args.text.now) (reach_of c.args.fields.now) c.fields.left.now c.in-Some.following.now c.in-Some.field.now
    c.fields.memory c.with_planned_field.new.memory c.fields.text c.with_planned_field.new.text
    c.fields.to_blank c.with_planned_field.new.to_blank (end_of c.with_planned_field.result) c.in-Some.ensures.cases.0 c.fields.invariant.right
    c.fields.invariant.ends c.fields.invariant.len c.with_planned_field.auto.text c.with_planned_field.ensures.drafted
    ∙ c.fields.invariant.following
