-- Values that fit their fields: those of a field that has no data, and those of a list of fields.
use Rattle.std.proofs.Common.{ℕ, zero, suc, ◌^◌, ◌<◌, List, [], ◌∷◌, ◌++◌, map, replicate, arith, pow-suc}
use Rattle.std.proofs.lemmas.List.{length-replicate}
use Rattle.std.proofs.lemmas.List.Elements.{All-replicate}
use Rattle.rpg_cards.specs.Plain.{Each}
use Rattle.rpg_program.specs.Values.{Value}
use Rattle.rpg_program.specs.declared.form.FieldForm.{FieldForm}
use Rattle.rpg_program.specs.declared.form.Kind.{Kind}
use Rattle.rpg_program.specs.declared.form.Kind.TheVariants as kind
use Rattle.rpg_program.specs.Kept.{AreEntriesOf, AreValuesOf, IsCharacter, IsValueOf}
use Rattle.rpg_compile_program.specs.Data.{first_of_kind}

-- ---- a field without data

positive : (n : ℕ) → 0 < 10 ^ n
positive zero = omega arith
positive (suc n) = rw pow-suc (let h = positive n in omega arith)

-- zero or blanks
pub first_of_kind_fits : (k : Kind) (n : ℕ) → IsValueOf k n (first_of_kind k n)
first_of_kind_fits kind.Number n = positive n
first_of_kind_fits kind.Text n = (length-replicate n 32, All-replicate IsCharacter n 32 (record { lowest = omega arith; highest = omega arith }))

pub empty_fits : (f : FieldForm) → AreEntriesOf f (replicate f.entries (first_of_kind f.kind f.length))
empty_fits f = record {
  number = length-replicate f.entries (first_of_kind f.kind f.length);
  each = All-replicate (IsValueOf f.kind f.length) f.entries (first_of_kind f.kind f.length) (first_of_kind_fits f.kind f.length);
}

-- ---- a list of fields

pub all_fit : {X : Type 0} (form : X → FieldForm) (values : X → List Value) (xs : List X) → Each (λ x. AreEntriesOf (form x) (values x)) xs → AreValuesOf (map form xs) (map values xs)
all_fit form values [] h = tt
all_fit form values (x ∷ xs) h = (h.0, all_fit form values xs h.1)

pub both_fit : (fs gs : List FieldForm) (vs ws : List (List Value)) → AreValuesOf fs vs → AreValuesOf gs ws → AreValuesOf (fs ++ gs) (vs ++ ws)
both_fit [] gs [] ws front back = back
both_fit [] gs (v ∷ vs) ws front back = absurd front
both_fit (f ∷ fs) gs [] ws front back = absurd front
both_fit (f ∷ fs) gs (v ∷ vs) ws front back = (front.0, both_fit fs gs vs ws front.1 back)
