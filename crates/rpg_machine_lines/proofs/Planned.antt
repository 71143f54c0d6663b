-- Fields whose entry was found once, and those whose entry is looked for.
use Rattle.std.proofs.Common.{◌≡◌, ℕ, ◌<◌, true, false, ◌&&◌, ◌||◌, List, Option, None, Some, refl, sym, ap, ◌∙◌, subst, length, get_or, map, nat_cmp}
use Rattle.std.proofs.lemmas.List.{get_or-map, length-map}
use Rattle.std.proofs.lemmas.Slice.Zip.{AllZip-long}
use Rattle.std.specs.FinSet as sets
use Rattle.rpg_program.specs.Control.{has_condition, has_conditions}
use Rattle.rpg_program.specs.Ends.{Continues}
use Rattle.rpg_program.specs.Entries.{entry_of}
use Rattle.rpg_program.specs.Forms.{form_at}
use Rattle.rpg_program.specs.LineFaults.{field_fault}
use Rattle.rpg_program.specs.Lines.{laid_over, remembered, with_field}
use Rattle.rpg_program.specs.Rows.{has_entry, is_one_entry}
use Rattle.rpg_program.specs.World.{Fields, holds_if_any, three_hold}
use Rattle.rpg_program.specs.declared.condition.Condition.{Condition}
use Rattle.rpg_program.specs.declared.condition.Conditions.{Conditions}
use Rattle.rpg_program.specs.declared.form.FieldForm.{FieldForm}
use Rattle.rpg_program.specs.declared.line.LineField.{LineField}
use Rattle.rpg_program.specs.declared.operation.Entry.{Entry}
use Rattle.rpg_machine_lines.proofs.Operands.{AreFit, entry_named}
use Rattle.rpg_memory.proofs.Pairs.{pair_at}
use Rattle.rpg_machine_lines.specs.Drafts.{counted_in, drafted_in, field_text_in, with_field_in}
use Rattle.rpg_machine_lines.specs.Entries.{IsFieldEntry}
use Rattle.rpg_machine_lines.specs.Plans.{IsFixedField, IsPlanOf, IsPlannedLine}
use Rattle.rpg_machine_lines.specs.declared.plan.LinePlan.{LinePlan}
use Rattle.rpg_machine_lines.specs.declared.plan.Plan.{Plan}
use Rattle.rpg_program.specs.Constants.{word_at}
use Rattle.rpg_program.specs.Object.{LineRow, Object, line_row}
use Rattle.rpg_program.specs.declared.rows.Line as rows
use Rattle.rpg_store.specs.Contents.{IsEntryAt}
use Rattle.rpg_memory.specs.Fields.{AreForms}
use Rattle.rpg_memory.specs.Memory.{Working, forms_in, position_in}
use Rattle.rpg_memory.specs.declared.resolved.FixedEntry.{FixedEntry}

nothing_due : (on : sets.FinSet nat_cmp) (a b c : Option Condition) → (has_condition a || (has_condition b || has_condition c)) ≡ false →
    (holds_if_any on a && (holds_if_any on b && holds_if_any on c)) ≡ true
nothing_due on None None None h = refl
nothing_due on (Some x) b c h = cc
nothing_due on None (Some x) c h = cc
nothing_due on None None (Some x) h = cc

-- without conditions a field is output
pub always_put : (on : sets.FinSet nat_cmp) (cs : Conditions) → has_conditions cs ≡ false → three_hold on cs ≡ true
always_put on cs h = nothing_due on cs.first cs.second cs.third h

module _ (forms : List FieldForm) (f : LineField ℕ) (e : FixedEntry) (i : IsFixedField forms f e) (fields : Fields nat_cmp) where
  fixed_name : e.resolved.entry.field ≡ f.operand.field
  unfolding entry_of
  fixed_name = ap (λ (x : Entry ℕ). x.field) (sym (i.entry.entry fields))

  -- the form that was found is that of the field
  pub fixed_form : Some e.resolved.form ≡ form_at forms f.operand.field
  fixed_form = sym (ap (form_at forms) (sym fixed_name) ∙ i.entry.form)

  -- the place that was found is that of the entry
  pub fixed_place : IsEntryAt forms e.place (f.operand.field, e.resolved.entry.position)
  fixed_place = subst (λ (n : ℕ). IsEntryAt forms e.place (n, e.resolved.entry.position)) fixed_name i.entry.place

  -- the entry that was found is there, if nothing is wrong with the operand
  pub fixed_there : AreForms forms → AreFit forms fields → has_entry (form_at forms) f.operand ≡ true → is_one_entry (form_at forms) f.operand ≡ true →
      IsFieldEntry forms f.operand.field e.resolved.entry.position
  fixed_there valid fits s k = entry_named forms fields f.operand (Some e.resolved.entry.position) (sym (i.entry.position fields)) valid fits s k

-- the field is laid over the line by the value of that entry
fixed_drafted : (w : Working) (text : List ℕ) (es : List (ℕ × ℕ)) (f : LineField ℕ) (e : FixedEntry) → IsFixedField w.program.fields f e →
    three_hold w.world.data.on f.conditions ≡ true → field_fault (forms_in w) (word_at w.program) (length text) f ≡ None →
    with_field_in w text es f
    ≡ drafted_in Continues w (laid_over text f.end (field_text_in w f e.resolved.entry.position)) (remembered f.is_blanked (f.operand.field, e.resolved.entry.position) es)
unfolding with_field
fixed_drafted w text es f e i holds right = rw (holds, right, i.entry.position w.world.data.fields, i.source) refl

-- the same of what the code laid and remembered
pub fixed_laid : (w : Working) (text out : List ℕ) (es more : List (ℕ × ℕ)) (f : LineField ℕ) (e : FixedEntry) → IsFixedField w.program.fields f e →
    three_hold w.world.data.on f.conditions ≡ true → field_fault (forms_in w) (word_at w.program) (length text) f ≡ None → out ≡ laid_over text f.end (field_text_in w f e.resolved.entry.position) →
    more ≡ remembered f.is_blanked (f.operand.field, e.resolved.entry.position) es → drafted_in Continues w out more ≡ with_field_in w text es f
fixed_laid w text out es more f e i holds right laid kept =
    ap (λ (xs : List (ℕ × ℕ)). drafted_in Continues w out xs) kept
    ∙ ap (λ (t : List ℕ). drafted_in Continues w t (remembered f.is_blanked (f.operand.field, e.resolved.entry.position) es)) laid
    ∙ sym (fixed_drafted w text es f e i holds right)

-- a field whose entry is looked for: PAGE is made one more, and then the value of that entry is laid over the line
sought_drafted : (w : Working) (text : List ℕ) (es : List (ℕ × ℕ)) (f : LineField ℕ) (e : ℕ) →
    three_hold w.world.data.on f.conditions ≡ true → field_fault (forms_in w) (word_at w.program) (length text) f ≡ None → position_in w f.operand ≡ Some e →
    with_field_in w text es f
    ≡ drafted_in Continues (counted_in w f e) (laid_over text f.end (field_text_in (counted_in w f e) f e)) (remembered f.is_blanked (f.operand.field, e) es)
unfolding with_field
sought_drafted w text es f e holds right at = rw (holds, right, at) refl

-- the same of what the code counted, laid and remembered
pub sought_laid : (w v : Working) (text out : List ℕ) (es more : List (ℕ × ℕ)) (f : LineField ℕ) (e : ℕ) →
    three_hold w.world.data.on f.conditions ≡ true → field_fault (forms_in w) (word_at w.program) (length text) f ≡ None → position_in w f.operand ≡ Some e →
    v ≡ counted_in w f e → out ≡ laid_over text f.end (field_text_in v f e) → more ≡ remembered f.is_blanked (f.operand.field, e) es →
    drafted_in Continues v out more ≡ with_field_in w text es f
sought_laid w v text out es more f e holds right at counted laid kept =
    ap (λ (x : Working). drafted_in Continues x out more) counted
    ∙ ap (λ (xs : List (ℕ × ℕ)). drafted_in Continues (counted_in w f e) out xs) kept
    ∙ ap (λ (t : List ℕ). drafted_in Continues (counted_in w f e) t (remembered f.is_blanked (f.operand.field, e) es))
    (laid ∙ ap (λ (x : Working). laid_over text f.end (field_text_in x f e)) counted)
    ∙ sym (sought_drafted w text es f e holds right at)

-- as much was found as there are lines
pub plans_many : (p : Object) (plan : Plan) (ls : List rows.Line) → IsPlanOf p plan → p.lines ≡ map line_row ls → length plan.lines.items ≡ length ls
plans_many p plan ls h same =
    AllZip-long (IsPlannedLine p) p.lines plan.lines.items h.lines
    ∙ ap (λ (xs : List LineRow). length xs) same ∙ length-map ls line_row

-- what was found of a line of a program
pub plan_at : (p : Object) (plan : Plan) (ls : List rows.Line) (i : ℕ) (l : rows.Line) (found : LinePlan) → IsPlanOf p plan → p.lines ≡ map line_row ls →
    i < length ls → l ≡ get_or ls i l → found ≡ get_or plan.lines.items i found → IsPlannedLine p (line_row l) found
plan_at p plan ls i l found h same low is finds =
    let inside : i < length (map line_row ls) = subst (λ (n : ℕ). i < n) (sym (length-map ls line_row)) low in
    let inside_own : i < length p.lines = subst (λ (xs : List LineRow). i < length xs) (sym same) inside in
    let at : get_or p.lines i (line_row l) ≡ line_row l =
    ap (λ (xs : List LineRow). get_or xs i (line_row l)) same ∙ get_or-map line_row ls i l (line_row l) low ∙ ap line_row (sym is) in
    subst (λ (x : LineRow). IsPlannedLine p x found) at (subst (λ (y : LinePlan). IsPlannedLine p (get_or p.lines i (line_row l)) y) (sym finds)
    (pair_at (IsPlannedLine p) p.lines plan.lines.items i (line_row l) found h.lines inside_own))
