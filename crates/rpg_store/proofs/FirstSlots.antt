-- The table that a store starts with.
use Rattle.std.proofs.Common.{◌≡◌, ℕ, ◌+◌, ◌*◌, ◌≤◌, cond, List, [], ◌∷◌, refl, ap, ◌∙◌, arith}
use Rattle.std.proofs.Math.Nat.{mul-le-mul_right}
use Rattle.std.proofs.lemmas.List.Elements.{All-head, All-tail}
use Rattle.std.specs.FinMap as maps
use Rattle.std.specs.List.{All}
use Rattle.rpg_program.specs.declared.form.FieldForm.{FieldForm}
use Rattle.rpg_program.specs.Forms.{is_table}
use Rattle.rpg_program.specs.Kept.{IsFieldRow, storage_of}
use Rattle.rpg_program.specs.Object.{Object}
use Rattle.rpg_store.specs.First.{first_currents, tables_from}
use Rattle.rpg_store.specs.Slots.{currents, currents_from, entries_count, forms_of, slots_from, AreInOrder}

pub forms_from : (at : ℕ) (fs : List FieldForm) → forms_of (slots_from at fs) ≡ fs
forms_from at [] = refl
forms_from at (f ∷ fs) = ap (λ ds. f ∷ ds) (forms_from (at + f.entries) fs)

pub order_from : (at : ℕ) (fs : List FieldForm) → AreInOrder at (slots_from at fs)
order_from at [] = tt
order_from at (f ∷ fs) = (refl, order_from (at + f.entries) fs)

currents_same : (at k : ℕ) (fs : List FieldForm) → currents_from k (slots_from at fs) ≡ tables_from k fs
currents_same at k [] = refl
currents_same at k (f ∷ fs) = ap (λ es. cond (is_table f.class) ((k, 1) ∷ es) es) (currents_same (at + f.entries) (k + 1) fs)

pub currents_first : (at : ℕ) (fs : List FieldForm) (p : Object) → fs ≡ p.fields → currents (slots_from at fs) ≡ first_currents p
unfolding currents first_currents
currents_first at fs p h = ap (λ es. maps.from_entries es) (currents_same at 1 fs ∙ ap (tables_from 1) h)

times_some : (n len : ℕ) → 1 ≤ len → n ≤ len * n
times_some n len h = let t = mul-le-mul_right n h in omega arith

-- there are no more entries than bytes
pub entries_few : (fs : List FieldForm) → All IsFieldRow fs → entries_count fs ≤ storage_of fs
entries_few [] h = omega arith
entries_few (f ∷ fs) h = let t = entries_few fs (All-tail IsFieldRow f fs h) in let u = times_some f.entries f.length (All-head IsFieldRow f fs h).shortest in omega arith
