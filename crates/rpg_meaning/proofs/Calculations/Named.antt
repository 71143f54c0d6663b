-- What an accepted program's operations and lines use has names with forms on the cards.
use Rattle.std.proofs.Common.{◌≡◌, ◌≤◌, ℕ, zero, suc, List, [], ◌∷◌, map, slice_get, None, Some, sym, subst, ◌∙◌}
use Rattle.std.proofs.lemmas.List.Elements.{All-cons, All-head, All-map, All-nil, All-tail, All-weaker}
use Rattle.std.specs.Prelude.{All}
use Rattle.rpg_cards.specs.Keys.{Key}
use Rattle.rpg_program.specs.Forms.{form_at}
use Rattle.rpg_program.specs.LineFaults.{AreRight, field_fault}
use Rattle.rpg_program.specs.Lines.{Line}
use Rattle.rpg_program.specs.declared.line.LineField.{LineField}
use Rattle.rpg_program.specs.declared.operation.Action.{Action}
use Rattle.rpg_program.specs.declared.operation.Instruction.TheVariants.{Act}
use Rattle.rpg_program.specs.declared.operation.Operand.{Operand}
use Rattle.rpg_machine_lines.specs.Right.{IsRightLine}
use Rattle.rpg_machine.specs.Accepted.{IsOrderly}
use Rattle.rpg_meaning.specs.Calculations.Meaning.{Source}
use Rattle.rpg_meaning.specs.Calculations.Translation.{IsTranslation}
use Rattle.rpg_program.specs.Constants.{word_at}
use Rattle.rpg_program.specs.Object.{Object, program_line}
use Rattle.rpg_program.specs.Sections.{first_place, instruction_at}
use Rattle.rpg_program.specs.declared.section.Place.{Place}
use Rattle.rpg_program.proofs.Renaming.Lines.{fault_same}
use Rattle.rpg_program.proofs.Renaming.Rows.{right_before}
use Rattle.rpg_program.proofs.Renaming.Used.{field_named, right_uses}
use Rattle.rpg_program.specs.Naming.{AreNamed, IsNamed, Uses, renamed_action, renamed_field, renamed_line}

-- of a list's element
pub all_at : {A : Type 0} (P : A → Type 0) (xs : List A) (n : ℕ) (x : A) → All P xs → slice_get xs n ≡ Some x → P x
all_at P [] n x h e = cc
all_at P (y ∷ xs) zero x h e = let same : y ≡ x = cc in subst P same (All-head P y xs h)
all_at P (y ∷ xs) (suc n) x h e = all_at P xs n x (All-tail P y xs h) e

module _ {p : Object} {source : Source} {number : Key → ℕ} (orderly : IsOrderly p) (is : IsTranslation p source number) where
  pub uses_at : (x : Place) (a : Action (Operand Key)) → first_place p x.section ≤ x.number → instruction_at p x ≡ Some (Act (renamed_action number a)) → Uses source.forms a
  uses_at x a low at = right_uses source.forms a (right_before is.names a (orderly.right x (Act (renamed_action number a)) (low, at))).storage

  abbrev IsThere : LineField Key → Type 0
  IsThere f = IsNamed source.forms f.operand

  abbrev IsRightField : ℕ → LineField ℕ → Type 0
  IsRightField len f = field_fault (form_at p.fields) (word_at p) len f ≡ None

  fields_named : (len : ℕ) (fs : List (LineField Key)) → AreRight (form_at p.fields) (word_at p) len (map (renamed_field number) fs) → All IsThere fs
  fields_named len [] h = All-nil IsThere
  fields_named len (f ∷ fs) h =
      All-cons IsThere f fs
      (field_named source.forms source.words len f (sym (fault_same is.names source.words (word_at p) is.words len f) ∙ All-head (IsRightField len) (renamed_field number f) (map (renamed_field number) fs) h))
      (fields_named len fs (All-tail (IsRightField len) (renamed_field number f) (map (renamed_field number) fs) h))

  -- nothing is wrong with its fields
  abbrev IsValid : Line ℕ → Type 0
  IsValid l = AreRight (form_at p.fields) (word_at p) l.len l.fields

  abbrev AreThere : Line Key → Type 0
  AreThere l = All IsThere l.fields

  each_named : (ls : List (Line Key)) → All IsValid (map (renamed_line number) ls) → AreNamed source.forms ls
  each_named [] h = All-nil AreThere
  each_named (l ∷ ls) h =
      All-cons AreThere l ls (fields_named l.len l.fields (All-head IsValid (renamed_line number l) (map (renamed_line number) ls) h))
      (each_named ls (All-tail IsValid (renamed_line number l) (map (renamed_line number) ls) h))

  pub lines_named : AreNamed source.forms source.lines
  lines_named = each_named source.lines (subst (All IsValid) is.lines (All-map IsValid (program_line p) p.lines (All-weaker (IsRightLine p) (λ l. IsValid (program_line p l)) (λ l h. h.fields) p.lines orderly.lines)))
