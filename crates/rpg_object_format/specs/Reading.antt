-- What reading functions return, in terms of the formats.
use Rattle.std.specs.Prelude.{◌≡◌, ℕ, ◌+◌, ◌*◌, List, [], ◌∷◌, Result, Ok, Err}
use Rattle.rpg_object_format.specs.declared.fault.Code.{Code}
use Rattle.rpg_object_format.specs.declared.fault.Fault.{Fault}
use Rattle.rpg_object_format.specs.declared.fault.ReadFault.{ReadFault}
use Rattle.rpg_object_format.specs.declared.fault.ReadFault.TheVariants as faults
use Rattle.rpg_object_format.specs.Format.{ends_early, ruled}

-- The result of a function, seen through `view`, is what reading gives, unless memory ran out.
abbrev pub Fails : {Y : Type 0} → ReadFault → Result Y Fault → Type 0
Fails faults.NoMemory read = Unit {0}
Fails (faults.At f) read = read ≡ Err f

-- a call reads the same as the format, or reports the same fault
abbrev pub ReadsAs : {X Y : Type 0} → (X → Y) → Result X ReadFault → Result Y Fault → Type 0
ReadsAs view (Ok x) read = read ≡ Ok (view x)
ReadsAs view (Err e) read = Fails e read

-- The result of a function that reads a byte and applies a rule of the program.
abbrev pub GivesByte : {T B : Type 0} → (B → List ℕ) → (ℕ → Result T Code → Type 0) → Result (T × B) ReadFault → List ℕ → Type 0
GivesByte {T} {B} now post result [] = ReadsAs {X = T × B} {Y = T × List ℕ} (λ x. (x.0, now x.1)) result (Err ends_early)
GivesByte {T} {B} now post result (b ∷ rest) = (x : Result T Code) × post b x × ReadsAs {X = T × B} {Y = T × List ℕ} (λ y. (y.0, now y.1)) result (ruled (b ∷ rest) rest x)

-- The same for a two-byte number.
abbrev pub GivesTwo : {T B : Type 0} → (B → List ℕ) → (ℕ → Result T Code → Type 0) → Result (T × B) ReadFault → List ℕ → Type 0
GivesTwo {T} {B} now post result [] = ReadsAs {X = T × B} {Y = T × List ℕ} (λ x. (x.0, now x.1)) result (Err ends_early)
GivesTwo {T} {B} now post result (a ∷ []) = ReadsAs {X = T × B} {Y = T × List ℕ} (λ x. (x.0, now x.1)) result (Err ends_early)
GivesTwo {T} {B} now post result (a ∷ b ∷ rest) = (x : Result T Code) × post (256 * a + b) x × ReadsAs {X = T × B} {Y = T × List ℕ} (λ y. (y.0, now y.1)) result (ruled (a ∷ b ∷ rest) rest x)
