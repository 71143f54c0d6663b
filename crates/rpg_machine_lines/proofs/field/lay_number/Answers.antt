use Rattle.std.proofs.Common.{ℕ, ap}
use Rattle.std.proofs.lemmas.Int.{to_z-of_z}
use Rattle.rpg_edit_marks.specs.declared.how.How.TheVariants as hows
use Rattle.rpg_program.specs.Editing.{how_of}
use Rattle.rpg_program.specs.declared.line.Editing.{Editing}
use Rattle.rpg_machine_lines.proofs.Fields.{number_at_end}
use Rattle.rpg_machine_lines.proofs.field.lay_number.Goals as goal
use Rattle.rpg_machine_lines.specs.Drafts.{how_in}
use Rattle.rpg_program.specs.Constants.{word_at}
use Rattle.rpg_program.specs.Object.{seen}

pub returns-in-Plain : goal.returns-in-Plain
returns-in-Plain c =
    let f = c.args.field.now in
    let p = seen c.args.rows.now in
    let form = c.args.form in
    let number = to_z-of_z _ _ c.ranges.n in
    let is = ap (λ (e : Editing ℕ). how_of (word_at p) e f.fill) c.in-Plain.is in
    record {
      text = number_at_end (how_in p f) hows.Plain c.args.n form.length form.decimals c.args.text.now c.write_plain-start.new.out f.end is
          c.requires.end c.requires.width c.write_plain-start.auto.out (rw number at c.write_plain-start.ensures.text);
    }

pub returns-in-Code : goal.returns-in-Code
returns-in-Code c =
    let f = c.args.field.now in
    let p = seen c.args.rows.now in
    let form = c.args.form in
    let number = to_z-of_z _ _ c.ranges.n in
    let is = ap (λ (e : Editing ℕ). how_of (word_at p) e f.fill) c.in-Code.is in
    record {
      text = number_at_end (how_in p f) (hows.Code c.in-Code.code f.fill) c.args.n form.length form.decimals c.args.text.now c.write_coded-start.new.out f.end is
          c.requires.end c.requires.width c.write_coded-start.auto.out (rw number at c.write_coded-start.ensures.text);
    }

pub returns-in-Word : goal.returns-in-Word
returns-in-Word c =
    let f = c.args.field.now in
    let p = seen c.args.rows.now in
    let form = c.args.form in
    let number = to_z-of_z _ _ c.ranges.n in
    let is = ap (λ (e : Editing ℕ). how_of (word_at p) e f.fill) c.in-Word.is in
    record {
      text = number_at_end (how_in p f) (hows.Word (word_at p c.in-Word.word)) c.args.n form.length form.decimals c.args.text.now c.write_by_word-start.new.line f.end is
          c.requires.end c.requires.width c.write_by_word-start.auto.line (rw number at c.write_by_word-start.ensures.text);
    }
