use Rattle.std.proofs.Common.{length, ap, ◌∙◌, to_z-of_z}
use Rattle.rpg_records.specs.Binary.{binary_number, twos_complement, lowest_bytes}
use Rattle.rpg_records.proofs.Bytes.{binary_back}
use Rattle.rpg_records.proofs.binary.write_binary.Goals as goal

pub returns-clause-bytes : goal.returns-clause-bytes
returns-clause-bytes c =
    c.write_lowest_bytes.ensures ∙ ap (lowest_bytes (length c.args.bytes.now)) (c.twos_complement.ensures ∙ ap (twos_complement (length c.args.bytes.now)) (to_z-of_z c.ranges.n))

pub returns-clause-number : goal.returns-clause-number
returns-clause-number c =
    ap binary_number
    (c.write_lowest_bytes.ensures ∙ ap (lowest_bytes (length c.args.bytes.now)) (c.twos_complement.ensures ∙ ap (twos_complement (length c.args.bytes.now)) (to_z-of_z c.ranges.n)))
    ∙ binary_back (length c.args.bytes.now) c.args.n c.requires.fits
