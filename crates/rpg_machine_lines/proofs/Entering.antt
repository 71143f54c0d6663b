-- Entries that are to be blanked.
use Rattle.std.proofs.Common.{ℕ, List, [], ◌∷◌, ◌++◌}
use Rattle.std.proofs.lemmas.List.Elements.{All-push}
use Rattle.rpg_program.specs.declared.form.FieldForm.{FieldForm}
use Rattle.rpg_machine_lines.specs.Entries.{AreFieldEntries, IsFieldEntry}

-- one more entry
pub one_more : (forms : List FieldForm) (es : List (ℕ × ℕ)) (f e : ℕ) → AreFieldEntries forms es → IsFieldEntry forms f e → AreFieldEntries forms (es ++ (f, e) ∷ [])
one_more forms es f e h i = All-push (λ (x : ℕ × ℕ). IsFieldEntry forms x.0 x.1) es (f, e) h i

pub ruleset entering = (one_more)
