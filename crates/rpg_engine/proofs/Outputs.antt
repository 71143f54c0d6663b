-- The files that a run writes to, one by one.
use Rattle.std.proofs.Common.{◌≡◌, ℕ, ◌-◌, ◌^◌, ◌<◌, List, [], ap, refl, ◌∙◌}
use Rattle.std.specs.declared.cmp.Ordering.TheVariants.{Equal}
use Rattle.rpg_machine.specs.Running.{no_bytes}
use Rattle.rpg_engine.specs.Devices.{CanCountFaults}
use Rattle.rpg_engine.specs.Faults.{write_faults}
use Rattle.rpg_engine.specs.Outputs.{bytes_for, bytes_with, order}
use Rattle.rpg_engine.specs.Sending.{none_sent, sent_to}
use Rattle.rpg_engine.specs.declared.files.OutputFile.{OutputFile}
use Rattle.rpg_engine.specs.declared.files.OutputFile.TheVariants.{Print, Disk}
use Rattle.rpg_engine.specs.declared.files.Readers.{Readers}
use Rattle.rpg_engine.specs.declared.files.Writers.{Writers}

-- what holds of each holds of all
pub each_file : (F : OutputFile → Type 0) → F Print → F Disk → (file : OutputFile) → F file
each_file F print disk Print = print
each_file F print disk Disk = disk

pub none_for : (file : OutputFile) → bytes_for file no_bytes ≡ []
none_for Print = refl
none_for Disk = refl

pub unsent : (file : OutputFile) → sent_to none_sent file ≡ 0
unsent Print = refl
unsent Disk = refl

-- ---- their order

pub own_order : (file : OutputFile) → order file file ≡ Equal
own_order Print = refl
own_order Disk = refl

pub same_file : (file other : OutputFile) → order file other ≡ Equal → file ≡ other
same_file Print Print same = refl
same_file Print Disk same = cc
same_file Disk Print same = cc
same_file Disk Disk same = refl

-- ---- their bytes

pub same_bytes : (x y : List ℕ) (z w : List ℕ) → x ≡ y → z ≡ w → bytes_with x z ≡ bytes_with y w
same_bytes x y z w h g = ap (λ (n : List ℕ). bytes_with n z) h ∙ ap (λ (n : List ℕ). bytes_with y n) g

-- ---- their writers

pub can_fail : {R S P D : Type 0} (readers : Readers R S) (writers : Writers P D) → CanCountFaults readers writers → (file : OutputFile) → write_faults writers file < 2 ^ 64 - 1
can_fail readers writers can Print = can.printer_faults
can_fail readers writers can Disk = can.disk_faults
