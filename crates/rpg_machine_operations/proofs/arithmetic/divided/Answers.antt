use Rattle.std.proofs.Common.{◌≡◌, ℤ, pos, Bool, false, Option, Some, sym, ap, ◌∙◌, arith, rules, to_z, of_z}
use Rattle.std.specs.Int.{w64}
use Rattle.std.specs.Option.{option_map}
use Rattle.std.specs.Ordering.{int_eq}
use Rattle.rpg_decimal_words.specs.Fraction.{Fraction, over, stored_number}
use Rattle.rpg_decimal.specs.Num.{value_of}
use Rattle.rpg_decimal.specs.declared.num.Target.{Target}
use Rattle.rpg_program.specs.Act.{divided, stored_value}
use Rattle.rpg_program.specs.Forms.{decimals_of, length_of}
use Rattle.rpg_program.specs.declared.form.FieldForm.{FieldForm}
use Rattle.rpg_memory.specs.Memory.{forms_in}
use Rattle.rpg_machine_operations.proofs.arithmetic.divided.Goals as goal

not_zero : (n : ℤ) → (n ≡ pos 0 → ⊥) → int_eq n (pos 0) ≡ false
not_zero n h = grind arith

quotient_kept : (half : Bool) (o : Option FieldForm) (t : Target) (p q : Fraction) (n : ℤ) → t.len ≡ length_of o → t.dec ≡ decimals_of o → t.half ≡ half → (q.top ≡ pos 0 → ⊥) →
    n ≡ stored_number t.half t.dec t.len (over p q) → Some n ≡ option_map (stored_value half o) (divided p q)
quotient_kept half o t p q n long decimals adjusted some is = rw (not_zero q.top some, ← long, ← decimals, ← adjusted) (ap Some is)

pub returns-in-Ok-clause-quotient : goal.returns-in-Ok-clause-quotient
returns-in-Ok-clause-quotient g c =
    let read : to_z w64 (of_z w64 c.in-Ok.quotient) ≡ c.in-Ok.quotient = search rules in
    let t = c.target_of-target in
    let some : c.number_at-b.result.value ≡ pos 0 → ⊥ = λ e. let both = sym c.in-Ok.is ∙ c.div.ensures.zero.1 e in cc in
    rw (read, ← c.number_at-a.ensures.value, ← c.number_at-a.ensures.decimals, ← c.number_at-b.ensures.value, ← c.number_at-b.ensures.decimals)
    (quotient_kept c.args.half (forms_in c.args.memory.now c.args.to.entry.field) t.result (value_of c.number_at-a.result) (value_of c.number_at-b.result) c.in-Ok.quotient t.ensures.length t.ensures.decimals t.ensures.half some c.in-Ok.ensures.value)
