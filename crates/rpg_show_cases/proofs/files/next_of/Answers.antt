use Rattle.std.proofs.Common.{ℕ, ◌+◌, ◌≤◌, Result, Ok, Err, inl, inr, arith, ap}
use Rattle.std.proofs.lemmas.Bool.{cases_Bool}
use Rattle.rpg_files.specs.Counting.{faults_of}
use Rattle.rpg_files.specs.Reading.{answer_of, device_faults_after, is_record, reader_of}
use Rattle.rpg_files.specs.declared.reader.Next.{Next}
use Rattle.rpg_files.specs.declared.reader.ReadFault.{ReadFault}
use Rattle.rpg_files.specs.declared.reader.ReadFault.TheVariants as fault
use Rattle.rpg_show_cases.proofs.files.next_of.Goals as goal

at_most_one : (n : ℕ) (answer : Result Next ReadFault) → device_faults_after n answer ≤ n + 1
at_most_one n (Ok x) = omega arith
at_most_one n (Err fault.Device) = omega arith
at_most_one n (Err fault.TooMany) = omega arith

pub returns : goal.returns
returns g c = elim (cases_Bool (is_record (answer_of c.args.reader.now))) [
  | inl is ↦
      let reads = c.next.ensures.stands_after_record is in
      let few = at_most_one (faults_of (reader_of c.args.reader.now)) c.next.result in
      omega (arith, reads.faults, few, c.requires.faults)
  | inr not ↦
      let same = ap (λ r. faults_of (reader_of r)) (c.next.ensures.repeated not).1 in
      omega (arith, same, c.requires.faults)
]
