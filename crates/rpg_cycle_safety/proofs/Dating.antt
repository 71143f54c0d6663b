-- What a job starts with on a date.
use Rattle.std.proofs.Common.{◌≡◌, ℕ, suc, ℤ, ◌+◌, ◌<◌, ◌^◌, Bool, true, false, ◌&&◌, ◌==◌, cond, eqb-true, List, [], ◌∷◌, length, slice_get, Option, None, Some, refl, sym, ◌∙◌, subst, arith, unsigned_abs, nat_cmp}
use Rattle.std.proofs.lemmas.Option.{same_Some}
use Rattle.std.specs.List.{list_all}
use Rattle.rpg_cycle.proofs.Dating.{date_fits}
use Rattle.rpg_cycle.specs.Starting.{date_in, dated, job_first_world, job_start}
use Rattle.rpg_decimal_words.specs.Zoned.{is_digit, number_in}
use Rattle.rpg_program.specs.Forms.{form_at, is_constant, is_date}
use Rattle.rpg_program.specs.Values.{Number}
use Rattle.rpg_program.specs.World.{Fields, with_value}
use Rattle.rpg_program.specs.declared.form.Class.{Class}
use Rattle.rpg_program.specs.declared.form.Class.TheVariants as classes
use Rattle.rpg_program.specs.declared.form.FieldForm.{FieldForm}
use Rattle.rpg_cycle_safety.proofs.Acting.{read_fits}
use Rattle.rpg_cycle_safety.specs.Holding.{Holds}
use Rattle.rpg_machine_lines.proofs.Operands.{row_at}
use Rattle.rpg_memory.proofs.Entries.{and_true}
use Rattle.rpg_program.specs.Kept.{IsProgram}
use Rattle.rpg_program.specs.Object.{Object}
use Rattle.rpg_memory.proofs.Fitting.{constants-insert}

date_is_no_constant : (c : Class) → is_date c ≡ true → is_constant c ≡ false
date_is_no_constant classes.Plain h = refl
date_is_no_constant classes.Array h = refl
date_is_no_constant classes.Table h = refl
date_is_no_constant classes.Constant h = cc
date_is_no_constant classes.Date h = refl

if_tested : (b : Bool) (o : Option ℤ) (n : ℤ) → cond b o None ≡ Some n → (b ≡ true) × (o ≡ Some n)
if_tested true o n h = (refl, h)
if_tested false o n h = cc

-- a date has at most six digits
pub date_small : (text : List ℕ) (date : ℤ) → date_in text ≡ Some date → unsigned_abs date < 10 ^ 6
date_small text date h =
    let found = if_tested ((length text == 6) && list_all is_digit text) (number_in text) date h in
    read_fits text 6 date (eqb-true (length text) 6 (and_true (length text == 6) (list_all is_digit text) found.0).0) found.1

module _ (p : Object) (kept : IsProgram p) (date : ℤ) (small : unsigned_abs date < 10 ^ 6) where
  one_dated : (b : Bool) (field : ℕ) (f : FieldForm) (fields : Fields nat_cmp) → is_date f.class ≡ b → form_at p.fields field ≡ Some f →
      Holds p (job_first_world fields).data →
      Holds p (job_first_world (cond b (with_value (field, 1) (Number date) fields) fields)).data
  one_dated false field f fields is there h = h
  one_dated true field f fields is there h = record {
    fits = date_fits p.fields fields.values fields.current field f date h.fits there (row_at p.fields field f kept.fields there) is small;
    constants = constants-insert p fields.values field 1 (Number date) h.constants
        (λ d at. let same : f ≡ d = same_Some f d (sym there ∙ at) in subst (λ (x : FieldForm). is_constant x.class ≡ false) same (date_is_no_constant f.class is));
  }

  all_dated : (fs : List FieldForm) (field : ℕ) (fields : Fields nat_cmp) →
      ((i : ℕ) (f : FieldForm) → slice_get fs i ≡ Some f → form_at p.fields (field + i) ≡ Some f) → Holds p (job_first_world fields).data →
      Holds p (job_first_world (dated date field fs fields)).data
  all_dated [] field fields there h = h
  all_dated (f ∷ fs) field fields there h =
      let here : field + 0 ≡ field = omega arith in
      let at : form_at p.fields field ≡ Some f = subst (λ (k : ℕ). form_at p.fields k ≡ Some f) here (there 0 f refl) in
      all_dated fs (field + 1) (cond (is_date f.class) (with_value (field, 1) (Number date) fields) fields)
      (λ i g is. let next : field + suc i ≡ field + 1 + i = omega arith in subst (λ (k : ℕ). form_at p.fields k ≡ Some g) next (there (suc i) g is))
      (one_dated (is_date f.class) field f fields refl at h)

  -- values that are what they are to be still are with the date
  pub start_holds : (fields : Fields nat_cmp) → Holds p (job_first_world fields).data → Holds p (job_start p date fields).world.data
  start_holds fields h = all_dated p.fields 1 fields (λ i f is. let first : suc i ≡ 1 + i = omega arith in subst (λ (k : ℕ). form_at p.fields k ≡ Some f) first is) h
