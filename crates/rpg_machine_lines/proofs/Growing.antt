-- Outputs that only grow, by what was appended.
use Rattle.std.proofs.Common.{◌≡◌, ℕ, List, [], ◌++◌, take, drop, sym, ap, ◌∙◌, append-nil}
use Rattle.std.proofs.lemmas.List.{take-append-drop}
use Rattle.rpg_program.specs.Fronts.{OnlyGrows}
use Rattle.rpg_program.specs.Put.{Bytes}

-- bytes of the printer
pub grows_print : (old new : Bytes) (more : List ℕ) → new.print ≡ old.print ++ more → new.disk ≡ old.disk → OnlyGrows old new
grows_print old new more print disk = record { more = record { print = more; disk = [] }; print = print; disk = disk ∙ sym (append-nil old.disk) }

-- bytes of the disk
pub grows_disk : (old new : Bytes) (more : List ℕ) → new.print ≡ old.print → new.disk ≡ old.disk ++ more → OnlyGrows old new
grows_disk old new more print disk = record { more = record { print = []; disk = more }; print = print ∙ sym (append-nil old.print); disk = disk }

-- bytes of the disk, where what was there stands in front
pub grows_front : (old new : Bytes) (n : ℕ) → new.print ≡ old.print → take n new.disk ≡ old.disk → OnlyGrows old new
grows_front old new n print front =
    grows_disk old new (drop n new.disk) print (sym (take-append-drop n new.disk) ∙ ap (λ (x : List ℕ). x ++ drop n new.disk) front)
