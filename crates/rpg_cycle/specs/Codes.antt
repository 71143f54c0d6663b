-- Encodings of a job's model.
use Rattle.std.specs.Prelude.{◌≡◌, ℕ, Bool, List, Option, ◌⊎◌, refl}
use Rattle.std.proofs.Common.{inl, inr}
use Rattle.std.specs.Coded.{Coded, code_by, coded×, coded⊎, coded_ℕ, coded_bool, coded_list, coded_option}
use base.Stored.{coded_unit}
use Rattle.rpg_program.specs.Ends.{Fault, Jump, Storage, Kind, Return}
use Rattle.rpg_cycle_records.specs.Earlier.{Left, Selected}
use Rattle.rpg_cycle_records.specs.Waiting.{InputState, Inputs}
use Rattle.rpg_cycle.specs.Ends.{PhaseEnd, Continues, EndOfJob, Halt, Wrong}
use Rattle.rpg_cycle.specs.Stages.{Stage, Going, Ended, Failed}

-- a fault as one of four types
abbrev fault_to : Fault → Unit {0} ⊎ (Unit {0} ⊎ (Unit {0} ⊎ Unit {0}))
fault_to Jump = inl tt
fault_to Storage = inr (inl tt)
fault_to Kind = inr (inr (inl tt))
fault_to Return = inr (inr (inr tt))

-- the fault of such a type
abbrev fault_from : Unit {0} ⊎ (Unit {0} ⊎ (Unit {0} ⊎ Unit {0})) → Fault
fault_from (inl u) = Jump
fault_from (inr (inl u)) = Storage
fault_from (inr (inr (inl u))) = Kind
fault_from (inr (inr (inr u))) = Return

pub fault_law : (f : Fault) → fault_from (fault_to f) ≡ f
fault_law Jump = refl
fault_law Storage = refl
fault_law Kind = refl
fault_law Return = refl

-- the code of a fault
abbrev pub fault_code : Coded Fault
fault_code = code_by (Unit {0} ⊎ (Unit {0} ⊎ (Unit {0} ⊎ Unit {0}))) (coded⊎ coded_unit (coded⊎ coded_unit (coded⊎ coded_unit coded_unit))) fault_to fault_from fault_law

-- the end of a phase as one of four types
abbrev end_to : PhaseEnd → Unit {0} ⊎ (Unit {0} ⊎ (ℕ ⊎ Fault))
end_to Continues = inl tt
end_to EndOfJob = inr (inl tt)
end_to (Halt k) = inr (inr (inl k))
end_to (Wrong f) = inr (inr (inr f))

-- the end of a phase of such a type
abbrev end_from : Unit {0} ⊎ (Unit {0} ⊎ (ℕ ⊎ Fault)) → PhaseEnd
end_from (inl u) = Continues
end_from (inr (inl u)) = EndOfJob
end_from (inr (inr (inl k))) = Halt k
end_from (inr (inr (inr f))) = Wrong f

pub end_law : (e : PhaseEnd) → end_from (end_to e) ≡ e
end_law Continues = refl
end_law EndOfJob = refl
end_law (Halt k) = refl
end_law (Wrong f) = refl

-- the code of the end of a phase
abbrev pub end_code : Coded PhaseEnd
end_code = code_by (Unit {0} ⊎ (Unit {0} ⊎ (ℕ ⊎ Fault))) (coded⊎ coded_unit (coded⊎ coded_unit (coded⊎ coded_ℕ fault_code))) end_to end_from end_law

-- a stage as one of three types
abbrev stage_to : Stage → Unit {0} ⊎ (Unit {0} ⊎ PhaseEnd)
stage_to Going = inl tt
stage_to Failed = inr (inl tt)
stage_to (Ended e) = inr (inr e)

-- the stage of such a type
abbrev stage_from : Unit {0} ⊎ (Unit {0} ⊎ PhaseEnd) → Stage
stage_from (inl u) = Going
stage_from (inr (inl u)) = Failed
stage_from (inr (inr e)) = Ended e

pub stage_law : (s : Stage) → stage_from (stage_to s) ≡ s
stage_law Going = refl
stage_law Failed = refl
stage_law (Ended e) = refl

-- the code of a stage
abbrev pub stage_code : Coded Stage
stage_code = code_by (Unit {0} ⊎ (Unit {0} ⊎ PhaseEnd)) (coded⊎ coded_unit (coded⊎ coded_unit end_code)) stage_to stage_from stage_law

-- a match value, or the bytes of control fields
abbrev ComparedBytes : Type 0
ComparedBytes = Option (List ℕ)

-- the code of such a value
abbrev coded_value : Coded ComparedBytes
coded_value = coded_option (coded_list coded_ℕ)

-- what a job keeps of earlier records, as its parts
abbrev left_to : Left → Bool × (Bool × (List ComparedBytes × (ComparedBytes × ComparedBytes)))
left_to l = (l.any, (l.control, (l.bytes, (l.primary, l.secondary))))

-- what a job keeps of earlier records, from its parts
abbrev left_from : Bool × (Bool × (List ComparedBytes × (ComparedBytes × ComparedBytes))) → Left
left_from p = record { any = p.0; control = p.1.0; bytes = p.1.1.0; primary = p.1.1.1.0; secondary = p.1.1.1.1 }

-- the code of what a job keeps of earlier records
abbrev pub left_code : Coded Left
left_code =
    code_by (Bool × (Bool × (List ComparedBytes × (ComparedBytes × ComparedBytes)))) (coded× coded_bool (coded× coded_bool (coded× (coded_list coded_value) (coded× coded_value coded_value)))) left_to left_from
    (λ _. refl)

-- the code of a record with its type
abbrev selected_code : Coded Selected
selected_code = code_by (ℕ × List ℕ) (coded× coded_ℕ (coded_list coded_ℕ)) (λ s. (s.type, s.text)) (λ p. record { type = p.0; text = p.1 }) (λ _. refl)

-- the code of what is known of an input file
abbrev input_code : Coded InputState
input_code = code_by (Option Selected × Bool) (coded× (coded_option selected_code) coded_bool) (λ i. (i.waiting, i.is_over)) (λ p. record { waiting = p.0; is_over = p.1 }) (λ _. refl)

-- the code of what is known of both input files
abbrev pub inputs_code : Coded Inputs
inputs_code = code_by (InputState × InputState) (coded× input_code input_code) (λ i. (i.primary, i.secondary)) (λ p. record { primary = p.0; secondary = p.1 }) (λ _. refl)
