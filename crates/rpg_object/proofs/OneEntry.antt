-- A table of one row reads what its row reads.
use Rattle.std.proofs.Common.{◌≡◌, ℕ, List, [], ◌∷◌, Result, Ok, refl}
use Rattle.rpg_object_format.specs.declared.fault.Fault.{Fault}
use Rattle.rpg_object_format.specs.declared.fault.ReadFault.{ReadFault}
use Rattle.rpg_object_format.specs.declared.fault.ReadFault.TheVariants as faults
use Rattle.rpg_object_format.specs.Format.{keep, read_times}
use Rattle.rpg_object_format.specs.Reading.{Fails}

pub one_read : {X : Type 0} (read : List ℕ → Result (X × List ℕ) Fault) (n : ℕ) (bytes rest : List ℕ) (x : X) → n ≡ 1 → read bytes ≡ Ok (x, rest) → read_times (λ s b. read b) keep n tt bytes ≡ Ok (x ∷ [], rest)
unfolding read_times
one_read read n bytes rest x one here = rw (one, here) refl

pub one_fails : {X : Type 0} (e : ReadFault) (read : List ℕ → Result (X × List ℕ) Fault) (n : ℕ) (bytes : List ℕ) → n ≡ 1 → Fails e (read bytes) → Fails e (read_times (λ s b. read b) keep n tt bytes)
unfolding read_times
one_fails faults.NoMemory read n bytes one fails = tt
one_fails (faults.At f) read n bytes one fails = rw (one, fails) refl
