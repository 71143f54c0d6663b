-- The bytes of an object program before it runs: which program they encode, and what is wrong with them.
use Rattle.std.specs.Prelude.{◌≡◌, ℕ, List, Some}
use Rattle.rpg_object.specs.Program.{first_fault, spelling}
use Rattle.rpg_object.specs.declared.decoding.DecodeFault.{DecodeFault}
use Rattle.rpg_object.specs.declared.decoding.DecodeFault.TheVariants as decoding
use Rattle.rpg_program.specs.Kept.{IsProgram}
use Rattle.rpg_program.specs.Object.{Object}
use Rattle.rpg_verify_rules.specs.Accepted.{IsAccepted, IsLeastBroken}
use Rattle.rpg_verify.specs.Bound as verified
use Rattle.rpg_verify.specs.declared.verified.VerifyFault.{VerifyFault}
use Rattle.rpg_verify.specs.declared.verified.VerifyFault.TheVariants as verifying
use Rattle.rpg_engine.specs.declared.object.ObjectFault.{ObjectFault}
use Rattle.rpg_engine.specs.declared.object.ObjectFault.TheVariants as objects

-- these bytes are the object program's
pub record SpellsProgram (bytes : List ℕ) (p : Object) : Type 0 where
  pub program : IsProgram p
  pub spelled : bytes ≡ spelling p

-- they are those of a program that obeys all rules, and this is its bound
abbrev pub IsAcceptedWith : ℕ → List ℕ → Type 0
IsAcceptedWith bound bytes = (p : Object) × SpellsProgram bytes p × IsAccepted p × (bound ≡ verified.bound p)

-- their first fault; or they are those of a program, and this is the lowest-numbered rule that it breaks, with the first row that does;
-- running out of memory may be reported for any bytes
abbrev pub HasObjectFault : ObjectFault → List ℕ → Type 0
HasObjectFault (objects.NotAnObject offset code) bytes = first_fault bytes ≡ Some (offset, code)
HasObjectFault (objects.Refused broken) bytes = (p : Object) × SpellsProgram bytes p × IsLeastBroken p broken
HasObjectFault objects.NoMemory bytes = Unit {0}

-- likewise for a program: it has no fault of bytes, and memory runs out only for accepted programs
abbrev pub IsRefused : ObjectFault → Object → Type 0
IsRefused (objects.NotAnObject offset code) p = ⊥
IsRefused (objects.Refused broken) p = IsLeastBroken p broken
IsRefused objects.NoMemory p = IsAccepted p

-- ---- the faults of decoding and of the rules

-- why bytes aren't an object
abbrev pub undecoded : DecodeFault → ObjectFault
undecoded (decoding.Object offset code) = objects.NotAnObject offset code
undecoded decoding.NoMemory = objects.NoMemory

-- why an object is rejected
abbrev pub unverified : VerifyFault → ObjectFault
unverified (verifying.Refused rule row) = objects.Refused (record { rule = rule; row = row })
unverified verifying.NoMemory = objects.NoMemory
