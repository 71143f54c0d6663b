-- Constants begin as they are written, and stay so.
use Rattle.std.proofs.Common.{◌≡◌, ℕ, ℤ, pos, ◌^◌, ◌<◌, true, cond, ◌&&◌, List, None, Some, refl, sym, ap, ◌∙◌, arith, unsigned_abs}
use Rattle.std.specs.Ordering.{nat_cmp}
use Rattle.rpg_cards.specs.Keys.{Fixed, key_cmp}
use Rattle.rpg_cards.specs.declared.constants.Constant.{Constant}
use Rattle.rpg_cards.specs.declared.constants.Constant.TheVariants as constant
use Rattle.rpg_cards.specs.declared.spec_card.SpecCard.{SpecCard}
use Rattle.rpg_compile_program.proofs.Numbers.{numbers_rename}
use Rattle.rpg_compile_program.specs.Program.{key_numbers, program_of}
use Rattle.rpg_compile_program.specs.Table.{table_of}
use Rattle.rpg_cycle.specs.Job.{first_fields}
use Rattle.rpg_cycle.specs.Starting.{job_first_world, job_start}
use Rattle.rpg_cycle_safety.proofs.Dating.{start_holds}
use Rattle.rpg_cycle_safety.proofs.Starting.{first_holds}
use Rattle.rpg_cycle_safety.specs.Holding.{Holds}
use Rattle.rpg_program.specs.Forms.{form_at, has_field, is_constant}
use Rattle.rpg_program.specs.Values.{Number}
use Rattle.rpg_program.specs.World.{World}
use Rattle.rpg_program.specs.declared.form.FieldForm.{FieldForm}
use Rattle.rpg_program.specs.Naming.{Agree}
use Rattle.rpg_meaning.specs.Sheets.FirstValues.{meant_constant}
use Rattle.rpg_meaning.specs.Sheets.Forms.{form_of_constant, meant_forms, stands_on}
use Rattle.rpg_meaning.proofs.Jobs.Meant.{has_start}
use Rattle.rpg_meaning.proofs.Jobs.MeantStart.{start_agrees}
use Rattle.rpg_meaning.specs.Jobs.Start.{ConstantsStand, IsStart, takes_date}
use Rattle.rpg_meaning.proofs.Calculations.MeantForms.{form_same}
use Rattle.rpg_memory.specs.Fits.{KeepsConstants}
use Rattle.rpg_program.specs.Kept.{IsProgram}

-- the form of a constant that stands on the cards
form_there : (cards : List SpecCard) (c : Constant) → stands_on cards c ≡ true → meant_forms cards (Fixed c) ≡ Some (form_of_constant c)
form_there cards c there = ap (λ b. cond b (Some (form_of_constant c)) None) there

constant_class : (c : Constant) → (let f : FieldForm = form_of_constant c in is_constant f.class) ≡ true
constant_class (constant.Number n) = refl
constant_class (constant.Text text) = refl

pub constants_begin : (cards : List SpecCard) (date : ℤ) (w : World key_cmp) → IsStart cards date w → ConstantsStand cards w
constants_begin cards date w is c there =
    is.values (Fixed c) (ap has_field (form_there cards c there)) 1 ∙ ap (λ o. cond (takes_date o && true) (Some (Number date)) (Some (meant_constant c))) (form_there cards c there) ∙ plain c
  where
    plain : (c : Constant) → cond (takes_date (Some (form_of_constant c)) && true) (Some (Number date)) (Some (meant_constant c)) ≡ Some (meant_constant c)
    plain (constant.Number n) = refl
    plain (constant.Text text) = refl

module _ (cards : List SpecCard) (allowance : ℕ) (program : IsProgram (program_of cards allowance)) where
  -- a constant's field has its first value at the start of a job, whatever the date
  start_keeps : Holds (program_of cards allowance) (job_start (program_of cards allowance) (pos 0) (first_fields (program_of cards allowance))).world.data
  start_keeps =
      let p = program_of cards allowance in
      let small : unsigned_abs (pos 0) < 10 ^ 6 = omega arith in
      start_holds p program (pos 0) small (first_fields p) (first_holds p (job_first_world (first_fields p)).data program refl)

  number_form : (c : Constant) → stands_on cards c ≡ true → form_at (let p = program_of cards allowance in p.fields) (key_numbers cards (Fixed c)) ≡ Some (form_of_constant c)
  unfolding program_of
  number_form c there = let names = numbers_rename (table_of cards) in names.forms (Fixed c) ∙ form_same cards (Fixed c) ∙ form_there cards c there

  -- where the constants of the program have their first values, those of the cards have what is written
  pub constants_stay : (v : World key_cmp) (w : World nat_cmp) → Agree (meant_forms cards) (key_numbers cards) v w → KeepsConstants (program_of cards allowance) w.data.fields.values → ConstantsStand cards v
  constants_stay v w agrees keeps c there =
      let p = program_of cards allowance in
      let q = key_numbers cards (Fixed c) in
      let s = has_start cards allowance (pos 0) program in
      let a = start_agrees cards allowance (pos 0) program.values s.0 s.1 in
      let has : has_field (meant_forms cards (Fixed c)) ≡ true = ap has_field (form_there cards c there) in
      let form = number_form c there in
      sym (agrees.data.fields.values (Fixed c) has 1)
      ∙ keeps q (form_of_constant c) form (constant_class c) 1
      ∙ sym (let h = start_keeps in h.constants q (form_of_constant c) form (constant_class c) 1)
      ∙ a.data.fields.values (Fixed c) has 1
      ∙ constants_begin cards (pos 0) s.0 s.1 c there
