-- Entries that are there.
use Rattle.std.proofs.Common.{◌≡◌, ◌∙◌, ℕ, ◌≤◌, Option, Some, sym, ap}
use Rattle.rpg_program.specs.Forms.{form_at}
use Rattle.rpg_program.specs.declared.form.FieldForm.{FieldForm}
use Rattle.rpg_program.specs.declared.form.Kind.{Kind}
use Rattle.rpg_memory.specs.Fields.{IsValue}
use Rattle.rpg_program.specs.Object.{Object, seen}
use Rattle.rpg_program.specs.declared.rows.Rows.{Rows}

-- an entry of a field of a program whose rows these are
pub value_in : (rows : Rows) (p : Object) (k : Kind) (field n : ℕ) (found : Option FieldForm) (d : FieldForm)
    → seen rows ≡ p → found ≡ form_at rows.fields.items field → found ≡ Some d → d.kind ≡ k → 1 ≤ n → n ≤ d.entries → IsValue p.fields k field n
value_in rows p k field n found d same found_it was kind low high = record {
  form = d;
  there = sym (ap (λ (q : Object). form_at q.fields field) same) ∙ sym found_it ∙ was;
  kind = kind;
  low = low;
  high = high;
}
