use Rattle.std.proofs.Common.{length, ap, ◌∙◌, to_z-of_z}
use Rattle.rpg_records.specs.Packed.{packed_in, packed_bytes}
use Rattle.rpg_records.proofs.Halves.{packed_back}
use Rattle.rpg_records.proofs.packed.write_packed.Goals as goal

pub returns-clause-bytes : goal.returns-clause-bytes
returns-clause-bytes c = c.write_signed_digits.ensures ∙ ap (packed_bytes (length c.args.bytes.now)) (to_z-of_z c.ranges.n)

pub returns-clause-number : goal.returns-clause-number
returns-clause-number c =
    ap packed_in (c.write_signed_digits.ensures ∙ ap (packed_bytes (length c.args.bytes.now)) (to_z-of_z c.ranges.n))
    ∙ packed_back (length c.args.bytes.now) c.args.n c.requires.low c.requires.fits
