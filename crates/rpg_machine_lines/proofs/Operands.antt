-- What an operand with nothing wrong means.
use Rattle.std.proofs.Common.{◌≡◌, ℕ, zero, suc, ℤ, pos, negsuc, ◌≤◌, All, Bool, true, false, not, ◌&&◌, ◌||◌, cond, nat_le, List, Option, None, Some, refl, sym, ap, ◌∙◌, subst, arith, leb-true, IfSome, nat_cmp}
use Rattle.std.proofs.lemmas.Option.{cond_some, get_or_from_slice_get, same_Some, slice_get_within}
use Rattle.rpg_program.specs.Entries.{in_range, position_by, position_of}
use Rattle.rpg_program.specs.Forms.{entries_of, form_at, is_array, is_table_form, kind_of}
use Rattle.rpg_program.specs.Rows.{has_entry, has_index, has_operand, is_one, is_one_entry, is_shaped}
use Rattle.rpg_program.specs.Values.{number_of}
use Rattle.rpg_program.specs.World.{Fields, current_in, value_in}
use Rattle.rpg_program.specs.declared.form.FieldForm.{FieldForm}
use Rattle.rpg_program.specs.declared.form.Kind.{Kind}
use Rattle.rpg_program.specs.declared.operation.Index.{Index}
use Rattle.rpg_program.specs.declared.operation.Index.TheVariants as indexed
use Rattle.rpg_program.specs.declared.operation.Operand.{Operand}
use Rattle.rpg_program.specs.declared.row.Shape.TheVariants as shapes
use Rattle.rpg_machine_lines.specs.Entries.{IsFieldEntry}
use Rattle.rpg_program.specs.Kept.{IsFieldRow}
use Rattle.rpg_memory.proofs.Entries.{and_true}
use Rattle.rpg_memory.specs.Fields.{AreForms, IsValue}
use Rattle.rpg_memory.specs.Fits.{Fits, HasForm}

not_true : (b : Bool) → b ≡ true → not b ≡ false
not_true true h = refl
not_true false h = cc

or_true : (a b : Bool) → (a || b) ≡ true → a ≡ false → b ≡ true
or_true true b h e = cc
or_true false b h e = h

-- values and current entries that these fields may have
abbrev pub AreFit : List FieldForm → Fields nat_cmp → Type 0
AreFit forms fields = Fits forms fields.values fields.current

-- the row of a field that is there
pub row_at : (forms : List FieldForm) (n : ℕ) (d : FieldForm) → All IsFieldRow forms → form_at forms n ≡ Some d → IsFieldRow d
row_at forms zero d h e = cc
row_at forms (suc n) d h e = subst IsFieldRow (get_or_from_slice_get forms n d d e) (h n d (slice_get_within forms n d e))

range_some : (entries : ℕ) (n : ℤ) (e : ℕ) → in_range entries n ≡ Some e → (1 ≤ e) × (e ≤ entries)
range_some entries (pos n) e h =
    let found = cond_some (nat_le 1 n && nat_le n entries) n e h in
    let both = and_true (nat_le 1 n) (nat_le n entries) found.0 in
    let low : 1 ≤ n = leb-true 1 n both.0 in
    let high : n ≤ entries = leb-true n entries both.1 in
    let is : n ≡ e = found.1 in (omega arith, omega arith)
range_some entries (negsuc n) e h = cc

module _ (forms : List FieldForm) (fields : Fields nat_cmp) (some : (field : ℕ) (d : FieldForm) → form_at forms field ≡ Some d → 1 ≤ d.entries) (fits : AreFit forms fields) where
  blank_in : (b : Bool) (field : ℕ) (d : FieldForm) (e : ℕ) → form_at forms field ≡ Some d → is_table_form (form_at forms field) ≡ b →
      Some (cond b (current_in fields field) 1) ≡ Some e → (1 ≤ e) × (e ≤ d.entries)
  blank_in true field d e is t h =
      let at : current_in fields field ≡ e = same_Some _ e h in
      let high : current_in fields field ≤ d.entries = subst (λ (o : Option FieldForm). current_in fields field ≤ entries_of o) is (fits.high field t) in
      (subst (λ (n : ℕ). 1 ≤ n) at (fits.low field t), subst (λ (n : ℕ). n ≤ d.entries) at high)
  blank_in false field d e is t h =
      let at : 1 ≡ e = same_Some 1 e h in
      let few = some field d is in
      (omega arith, omega (arith, few))

  entry_in : (field : ℕ) (index : Index ℕ) (d : FieldForm) (e : ℕ) → form_at forms field ≡ Some d →
      has_index (form_at forms) d index ≡ true → is_one (form_at forms) d index ≡ true →
      position_by (form_at forms) fields field index ≡ Some e → (1 ≤ e) × (e ≤ d.entries)
  entry_in field indexed.Blank d e is s k h = blank_in (is_table_form (form_at forms field)) field d e is refl h
  entry_in field (indexed.Literal n) d e is s k h =
      let at : n ≡ e = same_Some n e h in
      let both = and_true (nat_le 1 n) (nat_le n d.entries) (or_true (not (is_array d.class)) _ s (not_true _ k)) in
      let low : 1 ≤ n = leb-true 1 n both.0 in
      let high : n ≤ d.entries = leb-true n d.entries both.1 in (omega arith, omega arith)
  entry_in field (indexed.Field k) d e is s t h =
      let r = range_some (entries_of (form_at forms field)) (number_of (value_in fields (k, 1))) e h in
      let n : entries_of (form_at forms field) ≡ d.entries = ap entries_of is in
      (r.0, omega (arith, r.1, n))

  there_at : (o : Operand ℕ) (form : Option FieldForm) (e : ℕ) → form_at forms o.field ≡ form →
      has_operand (form_at forms) form o.index ≡ true → is_shaped (form_at forms) form shapes.One o.index ≡ true →
      position_of (form_at forms) fields o ≡ Some e → IsFieldEntry forms o.field e
  unfolding position_of
  there_at o None e is s k h = cc
  there_at o (Some d) e is s k h =
      let r = entry_in o.field o.index d e is s k h in
      record { form = d; there = is; low = r.0; high = r.1 }

  some_there : (o : Operand ℕ) (e : Option ℕ) → has_entry (form_at forms) o ≡ true → is_one_entry (form_at forms) o ≡ true →
      position_of (form_at forms) fields o ≡ e → IfSome e (λ n. IsFieldEntry forms o.field n)
  some_there o None s k h = tt
  some_there o (Some n) s k h = there_at o (form_at forms o.field) n refl s k h

-- what stands at an entry
pub value_there : (forms : List FieldForm) (fields : Fields nat_cmp) → AreFit forms fields → (field e : ℕ) → (i : IsFieldEntry forms field e) →
    HasForm i.form.kind i.form.length (value_in fields (field, e))
value_there forms fields fits field e i = fits.each field i.form i.there e i.low i.high

-- an operand with nothing wrong names an entry, where its index is in range
pub entry_there : (forms : List FieldForm) (fields : Fields nat_cmp) (o : Operand ℕ) (e : Option ℕ) → e ≡ position_of (form_at forms) fields o →
    All IsFieldRow forms → AreFit forms fields → has_entry (form_at forms) o ≡ true → is_one_entry (form_at forms) o ≡ true →
    IfSome e (λ n. IsFieldEntry forms o.field n)
entry_there forms fields o e h rows fits s k = some_there forms fields (λ field d is. (row_at forms field d rows is).fewest) fits o e s k (sym h)

-- the same of forms that every memory has
pub entry_named : (forms : List FieldForm) (fields : Fields nat_cmp) (o : Operand ℕ) (e : Option ℕ) → e ≡ position_of (form_at forms) fields o →
    AreForms forms → AreFit forms fields → has_entry (form_at forms) o ≡ true → is_one_entry (form_at forms) o ≡ true →
    IfSome e (λ n. IsFieldEntry forms o.field n)
entry_named forms fields o e h valid fits s k = some_there forms fields valid.some fits o e s k (sym h)

pub ruleset entries = (entry_named)

-- an entry of a field of that kind
pub as_value : (forms : List FieldForm) (k : Kind) (f e : ℕ) → IsFieldEntry forms f e → kind_of (form_at forms f) ≡ k → IsValue forms k f e
as_value forms k f e i is = record { form = i.form; there = i.there; kind = ap kind_of (sym i.there) ∙ is; low = i.low; high = i.high }

pub ruleset values = (as_value)
