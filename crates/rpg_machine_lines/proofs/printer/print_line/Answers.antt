use Rattle.std.proofs.Common.{◌≡◌, ℕ, List, ◌++◌, Some, Result, Ok, Err, IsErr, OnOk, refl, ap, ◌∙◌, append_assoc, arith}
use Rattle.rpg_machine_lines.specs.Ready.{IsNear}
use Rattle.rpg_paper.specs.Form.{way_of}
use Rattle.rpg_text.specs.Texts.{trimmed}
use Rattle.rpg_program.proofs.Fronts.{grows_same}
use Rattle.rpg_program.proofs.Printing.{from_line, print_done}
use Rattle.rpg_program.specs.Lines.{after_skip, after_space}
use Rattle.rpg_machine_lines.proofs.Growing.{grows_print}
use Rattle.rpg_machine_lines.proofs.Trimming.{front_trimmed}
use Rattle.rpg_machine_lines.specs.Outputs.{output_of}
use Rattle.rpg_program.specs.Object.{Object}
use Rattle.rpg_memory.specs.Memory.{Working, held_of, standing_of}
use Rattle.rpg_machine_lines.proofs.printer.print_line.Goals as goal

pub returns : goal.returns
returns g c =
    let before = c.move_form.ensures.moved in
    let placed = c.in_ok-place.ensures.placed in
    let after = c.move_form-2.ensures.moved in
    let own = ap (λ (m : Working). m.program) placed ∙ ap (λ (m : Working). m.program) before in
    let first : c.place.new.self.world.paper.here.page ≡ 0 = ap (λ (m : Working). m.world.paper.here.page) placed in
    record {
      done = print_done c.args.memory.now.program.overflow c.args.spacing c.args.text.now (held_of c.args.memory.now) (held_of c.place.new.self) (held_of c.move_form-2.new.memory)
          (output_of c.args.output.now) (record { print = c.place.new.print.items; disk = c.args.output.now.disk.items })
          (ap (λ (m : Working). m.world) placed ∙ ap (λ (m : Working). from_line m.world) before)
          (ap (λ (m : Working). m.last) placed ∙ ap (λ (m : Working). Some m.world.paper.here.line) before)
          (ap (λ (m : Working). m.world) after
          ∙ ap (λ (p : Object). after_space p.overflow c.args.spacing.space_after (after_skip p.overflow c.args.spacing.skip_after c.place.new.self.world)) own)
          (ap (λ (m : Working). m.last) after)
          (c.in_ok-place.ensures.bytes
          ∙ ap (λ t. c.args.output.now.print.items ++ way_of (standing_of c.move_form.new.memory) ++ t)
          (front_trimmed c.args.reach c.args.text.now c.requires.blank.blank)
          ∙ ap (λ (m : Working). c.args.output.now.print.items ++ way_of (standing_of m) ++ trimmed c.args.text.now) before)
          refl;
      kept = record {
        near = omega (arith, first, c.move_form-2.ensures.few);
        program = ap (λ (m : Working). m.program) after ∙ own;
        grows = grows_print (output_of c.args.output.now) (record { print = c.place.new.print.items; disk = c.args.output.now.disk.items }) _
            (c.in_ok-place.ensures.bytes ∙ append_assoc c.args.output.now.print.items _ _) refl;
      };
    }

-- nothing is claimed of an error
not_ok : {X E : Type 0} (r : Result X E) (P : Type 0) → IsErr r → OnOk r P
not_ok (Ok x) P h = cc
not_ok (Err e) P h = tt

pub returns-in_err-place-clause-kept : goal.returns-in_err-place-clause-kept
returns-in_err-place-clause-kept g c = record {
  near = not_ok c.from_residual.result (IsNear c.place.new.self.world.paper.here) c.from_residual.ensures.0;
  program = ap (λ (m : Working). m.program) c.in_err-place.ensures.same ∙ ap (λ (m : Working). m.program) c.move_form.ensures.moved;
  grows = grows_same (output_of c.args.output.now) (record { print = c.place.new.print.items; disk = c.args.output.now.disk.items })
      (ap (λ (x : List ℕ). record { print = x; disk = c.args.output.now.disk.items }) c.in_err-place.ensures.same_bytes);
}
