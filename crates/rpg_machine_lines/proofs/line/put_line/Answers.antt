use Rattle.std.proofs.Common.{ℕ, List, ap, ◌∙◌, replicate, subst, sym}
use Rattle.rpg_program.proofs.Fronts.{grows_not}
use Rattle.rpg_program.specs.Ends.{Continues, Halt, end_of}
use Rattle.rpg_program.specs.Forms.{form_at}
use Rattle.rpg_program.specs.Halts.{halt_number}
use Rattle.rpg_program.specs.Lines.{blanked_all, put_on}
use Rattle.rpg_program.specs.Put.{IsDone}
use Rattle.rpg_machine_lines.proofs.OneLine.{assembled_from, line_halted, line_placed}
use Rattle.rpg_machine_lines.proofs.Moving.{short_spacing}
use Rattle.rpg_machine_lines.proofs.Reaching.{blank_after_reach, reach_in_line}
use Rattle.rpg_machine_lines.specs.Drafts.{draft_in, fields_replaced}
use Rattle.rpg_machine_lines.specs.Outputs.{output_of}
use Rattle.rpg_program.specs.Constants.{word_at}
use Rattle.rpg_program.specs.Object.{file_length, line_row, program_line}
use Rattle.rpg_machine_lines.specs.Ready.{IsNear}
use Rattle.rpg_memory.specs.Memory.{Working, held_of}
use Rattle.rpg_machine_lines.proofs.line.put_line.Goals as goal

pub put_on-requires : goal.put_on-requires
put_on-requires g c =
    let p = c.args.memory.now.program in
    let l = c.args.line.now in
    let len = file_length p l.file in
    let blank = c.fill_blanks.ensures ∙ ap (λ (n : ℕ). replicate n 32) c.requires.len in
    record {
      spacing = short_spacing _ _ _ c.requires.page c.requires.right.fault;
      near = subst (λ (m : Working). IsNear m.world.paper.here) (sym c.assemble.ensures.changes.rest) c.requires.near;
      blank = blank_after_reach l.fields.items c.deref.result.now c.args.plan.now.reach len c.fill_blanks.new.text c.assemble.new.text c.requires.planned.reach c.deref.ensures.value
          (reach_in_line (form_at p.fields) (word_at p) len l.fields.items c.requires.right.fields) blank c.assemble.auto.text c.assemble.ensures.following;
    }

pub returns-in-Halt-clause-done : goal.returns-in-Halt-clause-done
returns-in-Halt-clause-done g c =
    let m = c.args.memory.now in
    let p = m.program in
    let l = program_line p (line_row c.args.line.now) in
    let d = draft_in c.assemble.new.memory c.assemble.new.text c.assemble.new.to_blank in
    let long = c.fill_blanks.auto.text ∙ c.requires.len in
    let blank = c.fill_blanks.ensures ∙ ap (λ (n : ℕ). replicate n 32) c.requires.len in
    let a = assembled_from (form_at p.fields) (word_at p) m.world.data.on m.world.data.fields c.assemble.result
    (Halt (halt_number c.in-Halt.halt)) d _ l.len c.deref.result.now l.fields _ _
    (ap end_of c.in-Halt.is) long c.deref.ensures.value blank c.clear.ensures c.assemble.ensures.drafted in
    line_halted (form_at p.fields) (word_at p) p.overflow l (held_of m) (output_of c.args.output.now) (halt_number c.in-Halt.halt) d
    (held_of c.assemble.new.memory) c.requires.right.fault a (ap held_of c.assemble.ensures.changes.rest)

pub returns-clause-done : goal.returns-clause-done
returns-clause-done g c =
    let m = c.args.memory.now in
    let p = m.program in
    let l = program_line p (line_row c.args.line.now) in
    let d = draft_in c.assemble.new.memory c.assemble.new.text c.assemble.new.to_blank in
    let long = c.fill_blanks.auto.text ∙ c.requires.len in
    let blank = c.fill_blanks.ensures ∙ ap (λ (n : ℕ). replicate n 32) c.requires.len in
    let a = assembled_from (form_at p.fields) (word_at p) m.world.data.on m.world.data.fields c.assemble.result
    Continues d _ l.len c.deref.result.now l.fields _ _
    (ap end_of c.in-Continues.is) long c.deref.ensures.value blank c.clear.ensures c.assemble.ensures.drafted in
    let placed = c.put_on.new.memory in
    let drafted = c.assemble.ensures.changes.rest in
    let put = subst (λ (x : Working). IsDone (put_on x.program.overflow l.file l.spacing d.text) (held_of x) (output_of c.args.output.now) Continues (held_of placed) (output_of c.put_on.new.output)) drafted
    c.in_ok-put_on.ensures.done in
    let blanked = c.blank_all.ensures ∙ ap (λ (es : List (ℕ × ℕ)). fields_replaced (blanked_all es placed.world.data.fields) placed) c.as_slice.ensures.value in
    line_placed (form_at p.fields) (word_at p) p.overflow l (held_of m) (output_of c.args.output.now) d (held_of placed)
    (held_of c.blank_all.new.memory) (output_of c.put_on.new.output) c.requires.right.fault a put
    (ap (λ (x : Working). x.last) blanked) (ap (λ (x : Working). x.world) blanked)

pub returns-in-Halt-clause-grows : goal.returns-in-Halt-clause-grows
returns-in-Halt-clause-grows g c = grows_not (output_of c.args.output.now)
