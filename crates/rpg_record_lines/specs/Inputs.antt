-- The rest of an input.
use Rattle.std.specs.Prelude.{◌≡◌, ℕ, ◌+◌, List, drop, length, slice_range, Option, Some, IfSome, Result, Ok, Err, ⊤}
use Rattle.std.specs.Io.KnownBytes.{Consumes, prepend_known}
use Rattle.rpg_records.specs.Sizes.{counted}
use Rattle.rpg_record_lines.specs.Cuts.{Finished, Refused, Whole, next_cut}
use Rattle.rpg_record_lines.specs.declared.frames.FrameFault.{FrameFault}
use Rattle.rpg_record_lines.specs.declared.frames.FrameFault.TheVariants as faults
use Rattle.rpg_record_lines.specs.declared.frames.Frames.{Frames}
use Rattle.rpg_record_lines.specs.declared.frames.Framing.{Framing}
use Rattle.rpg_record_lines.specs.declared.frames.Next.{Next}
use Rattle.rpg_record_lines.specs.declared.frames.Next.TheVariants as nexts
use Rattle.rpg_record_lines.specs.declared.input.Input.{Input}

-- the bytes that were read but not yet consumed
abbrev pub not_given : {R : Type 0} → Input R → List ℕ
not_given input = slice_range input.buf.items input.start input.end

-- those, and then what the reader has left, if its bytes are known
abbrev pub remaining_in : {R : Type 0} → (R → Option (List ℕ)) → Input R → Option (List ℕ)
remaining_in remaining input = prepend_known (not_given input) (remaining input.reader)

-- how many bytes were consumed
abbrev pub given_of : {R : Type 0} → Input R → ℕ
given_of input = input.given

-- of known bytes these were consumed, which are such a prefix of them
abbrev pub GivesFront : (List ℕ → List ℕ) → Option (List ℕ) → Option (List ℕ) → List ℕ → Type 0
GivesFront front old new bytes = IfSome old (λ input. (bytes ≡ front input) × (new ≡ Some (drop (length bytes) input)))

-- these bytes were consumed
abbrev pub GivesBytes : {R : Type 0} → (R → Option (List ℕ)) → Input R → Input R → List ℕ → Type 0
GivesBytes remaining old new bytes = Consumes (remaining_in remaining old) (remaining_in remaining new) bytes × (given_of new ≡ counted (given_of old + length bytes))

-- these bytes were consumed, which are such a prefix of the known ones
abbrev pub GivesFirst : {R : Type 0} → (List ℕ → List ℕ) → (R → Option (List ℕ)) → Input R → Input R → List ℕ → Type 0
GivesFirst front remaining old new bytes = GivesFront front (remaining_in remaining old) (remaining_in remaining new) bytes × (given_of new ≡ counted (given_of old + length bytes))

-- ---- its records

-- how records are separated
abbrev pub framing_of : {R : Type 0} → Frames R → Framing
framing_of frames = frames.framing

-- the most bytes that a record may have
abbrev pub most_of : {R : Type 0} → Frames R → ℕ
most_of frames = frames.most

-- the bytes that are left
abbrev pub remaining_of : {R : Type 0} → (R → Option (List ℕ)) → Frames R → Option (List ℕ)
remaining_of remaining frames = remaining_in remaining frames.input

-- where the next record begins
abbrev pub offset_of : {R : Type 0} → Frames R → ℕ
offset_of frames = given_of frames.input

-- the next record of these bytes was returned, and its bytes are consumed
abbrev pub GivesWhole : Framing → ℕ → Option (List ℕ) → ℕ → ℕ → List ℕ → List ℕ → Type 0
GivesWhole framing most new before after r input =
    (used : ℕ) × (next_cut framing most input ≡ Whole used r) × (new ≡ Some (drop used input)) × (after ≡ counted (before + used))

-- Of an input whose bytes are known, the next record was returned, or there is none, or it is rejected; unless the reader failed or memory ran out.
abbrev pub GivesFramed : Framing → ℕ → Option (List ℕ) → Option (List ℕ) → ℕ → ℕ → List ℕ → Result Next FrameFault → Type 0
GivesFramed framing most old new before after r (Ok nexts.Record) = IfSome old (GivesWhole framing most new before after r)
GivesFramed framing most old new before after r (Ok nexts.End) = IfSome old (λ input. next_cut framing most input ≡ Finished)
GivesFramed framing most old new before after r (Err (faults.Record fault)) = IfSome old (λ input. next_cut framing most input ≡ Refused fault)
GivesFramed framing most old new before after r (Err (faults.Input fault)) = ⊤

-- what a reader of records with these delimiters did to its input
abbrev pub ReadsFramed : {R : Type 0} → Framing → (R → Option (List ℕ)) → Frames R → Frames R → List ℕ → Result Next FrameFault → Type 0
ReadsFramed framing remaining old new r result = GivesFramed framing (most_of old) (remaining_of remaining old) (remaining_of remaining new) (offset_of old) (offset_of new) r result
