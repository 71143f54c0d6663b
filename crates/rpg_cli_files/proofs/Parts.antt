-- First parts of what a writer was to have.
use Rattle.std.proofs.Common.{ℕ, ◌+◌, List, ◌++◌, length, take, Option, arith, length-append}
use Rattle.std.proofs.Math.Seq.{take-append-add, take-length}
use Rattle.std.proofs.lemmas.List.{take-append-le}
use Rattle.std.specs.Io.KnownBytes.{Appends, Keeps}
use Rattle.std.proofs.KnownBytes.{Appends-kept, Appends-trans}
use Rattle.rpg_files.specs.Sending.{AppendsFirst, AppendsPrefix}

-- a part of the front, with more after it
pub part_of_front : (a b : Option (List ℕ)) (n : ℕ) (front rest : List ℕ) → AppendsFirst a b n front → AppendsPrefix a b (front ++ rest)
part_of_front a b n front rest part = (n, (omega (arith, part.0, length-append front rest), rw (take-append-le n front rest part.0) part.1))

-- the front, and a part of what is after it
pub front_and_part : (a b c : Option (List ℕ)) (n : ℕ) (front rest : List ℕ) → Appends a b front → AppendsFirst b c n rest → AppendsPrefix a c (front ++ rest)
front_and_part a b c n front rest whole part =
    (length front + n, (omega (arith, part.0, length-append front rest), rw (take-append-add front rest n) (Appends-trans a b c front (take n rest) whole part.1)))

-- all of it, and then nothing
pub all_kept : (a b c d : Option (List ℕ)) (front rest : List ℕ) → Appends a b front → Appends b c rest → Keeps c d → AppendsPrefix a d (front ++ rest)
all_kept a b c d front rest first second kept =
    (length (front ++ rest), (omega arith, rw (take-length (front ++ rest)) (Appends-kept a c d (front ++ rest) (Appends-trans a b c front rest first second) kept)))
