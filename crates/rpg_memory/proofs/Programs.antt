-- The fields of an object program.
use Rattle.std.proofs.Common.{◌≡◌, ℕ, zero, suc, ◌≤◌, ◌<◌, List, Some, length, sym, ◌∙◌, subst}
use Rattle.std.specs.Prelude.{All, slice_index_or}
use Rattle.std.proofs.lemmas.Option.{same_Some, slice_get_within, slice_get-get_or}
use Rattle.rpg_program.specs.Forms.{form_at}
use Rattle.rpg_program.specs.declared.form.FieldForm.{FieldForm}
use Rattle.rpg_program.specs.declared.form.Kind.{Kind}
use Rattle.rpg_program.specs.declared.form.Kind.TheVariants as kinds
use Rattle.rpg_memory.specs.Fields.{AreForms}
use Rattle.rpg_program.specs.Kept.{AreDecimals, IsFieldRow, IsProgram, length_limit}
use Rattle.rpg_program.specs.Object.{Object}

row_at : (forms : List FieldForm) (field : ℕ) (d : FieldForm) → All IsFieldRow forms → form_at forms field ≡ Some d → IsFieldRow d
row_at forms zero d all h = cc
row_at forms (suc n) d all h =
    let inside : n < length forms = slice_get_within forms n d h in
    let same : slice_index_or forms n d ≡ d = same_Some (slice_index_or forms n d) d (sym (slice_get-get_or forms n d inside) ∙ h) in
    subst (λ (x : FieldForm). IsFieldRow x) same (all n d inside)

few_decimals : (k : Kind) (lowest_digits decimals : ℕ) → k ≡ kinds.Number → AreDecimals k lowest_digits decimals → decimals ≤ 9
few_decimals kinds.Number lowest_digits decimals e h = h.0
few_decimals kinds.Text lowest_digits decimals e h = cc

pub program_forms : (p : Object) → IsProgram p → AreForms p.fields
program_forms p kept = record {
  numeric = λ field d is number. let row = row_at p.fields field d kept.fields is in
      record { low = row.shortest; high = subst (λ (k : Kind). d.length ≤ length_limit k) number row.longest; decimals = few_decimals d.kind d.length d.decimals number row.decimals };
  textual = λ field d is text. let row = row_at p.fields field d kept.fields is in subst (λ (k : Kind). d.length ≤ length_limit k) text row.longest;
  some = λ field d is. (row_at p.fields field d kept.fields is).fewest;
  few = λ field d is. (row_at p.fields field d kept.fields is).most;
}

pub ruleset programs = (program_forms)
