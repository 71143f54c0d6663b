-- The date fits the date fields.
use Rattle.std.proofs.Common.{◌≡◌, ℕ, ◌<◌, ◌^◌, ℤ, true, List, Some, unsigned_abs, refl, sym, ap, ◌∙◌, subst, arith}
use Rattle.std.proofs.lemmas.Option.{same_Some}
use Rattle.std.specs.FinMap as map
use Rattle.rpg_program.specs.Forms.{form_at, is_date, length_of}
use Rattle.rpg_program.specs.Values.{Number}
use Rattle.rpg_program.specs.declared.form.Class.{Class}
use Rattle.rpg_program.specs.declared.form.Class.TheVariants as classes
use Rattle.rpg_program.specs.declared.form.FieldForm.{FieldForm}
use Rattle.rpg_program.specs.declared.form.Kind.{Kind}
use Rattle.rpg_program.specs.declared.form.Kind.TheVariants as kinds
use Rattle.rpg_program.specs.Kept.{IsDateForm, IsFieldRow}
use Rattle.rpg_memory.proofs.Fitting.{fits-insert}
use Rattle.rpg_memory.specs.Fields.{IsValue}
use Rattle.rpg_memory.specs.Fits.{Fits, HasForm}
use Rattle.rpg_store.specs.Store.{Currents, Values}

is_class : (c : Class) → is_date c ≡ true → c ≡ classes.Date
is_class classes.Plain h = cc
is_class classes.Array h = cc
is_class classes.Table h = cc
is_class classes.Constant h = cc
is_class classes.Date h = refl

date_form : (f : FieldForm) → IsFieldRow f → is_date f.class ≡ true → IsDateForm f
date_form f row h = row.date (is_class f.class h)

-- a date field has a number
pub date_value : (forms : List FieldForm) (field : ℕ) (f : FieldForm) → form_at forms field ≡ Some f → IsFieldRow f → is_date f.class ≡ true → IsValue forms kinds.Number field 1
date_value forms field f is row date =
    record { form = f; there = is; kind = (date_form f row date).kind; low = omega arith; high = row.fewest }

-- the date is no longer than that
pub date_short : (forms : List FieldForm) (field : ℕ) (f : FieldForm) (date : ℤ) → form_at forms field ≡ Some f → IsFieldRow f → is_date f.class ≡ true → unsigned_abs date < 10 ^ 6 →
    unsigned_abs date < 10 ^ length_of (form_at forms field)
date_short forms field f date is row h few =
    subst (λ (n : ℕ). unsigned_abs date < 10 ^ n) (sym (ap length_of is ∙ (date_form f row h).digits)) few

has_form : (f d : FieldForm) (date : ℤ) → d ≡ f → IsDateForm f → unsigned_abs date < 10 ^ 6 → HasForm d.kind d.length (Some (Number date))
has_form f d date same form few =
    subst (λ (x : FieldForm). HasForm x.kind x.length (Some (Number date))) (sym same)
    (subst (λ (k : Kind). HasForm k f.length (Some (Number date))) (sym form.kind) (subst (λ (n : ℕ). unsigned_abs date < 10 ^ n) (sym form.digits) few))

pub date_fits : (forms : List FieldForm) (values : Values) (current : Currents) (field : ℕ) (f : FieldForm) (date : ℤ) → Fits forms values current → form_at forms field ≡ Some f → IsFieldRow f → is_date f.class ≡ true →
    unsigned_abs date < 10 ^ 6 → Fits forms (map.insert values (field, 1) (Number date)) current
date_fits forms values current field f date fits is row h few =
    fits-insert forms values current field 1 (Number date) fits
    (λ d e. has_form f d date (same_Some d f (sym e ∙ is)) (date_form f row h) few)
    (λ text e. cc)
