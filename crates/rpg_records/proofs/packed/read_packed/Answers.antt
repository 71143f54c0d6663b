use Rattle.std.proofs.Common.{◌≡◌, ◌+◌, ◌-◌, ◌*◌, ◌/◌, ◌%◌, ◌≤◌, length, take, get_or, ap, ap₂, sym, ◌∙◌, arith, Some, unsigned_abs, neg_ℤ, pos, if◌then◌else◌}
use Rattle.rpg_records.specs.Packed.{is_packed, packed_number}
use Rattle.rpg_records.proofs.Halves.{bytes_split, is_packed-bad_front, is_packed-bad_digit, is_packed-bad_sign, is_packed-valid, in_none, in_some, number_split, wrapped, abs_signed, size_below, size_small, front_long}
use Rattle.rpg_records.proofs.packed.read_packed.Goals as goal
use Rattle.rpg_records.proofs.packed.read_packed.Goals.{then-digit-gt9-via-then-digit-gt9, then-digit-gt9-via-else-digit-gt9+then-sign-lt10}

pub returns-in_default-clause-number : goal.returns-in_default-clause-number
returns-in_default-clause-number c =
    let bytes = c.args.bytes.now in
    let front = take (length bytes - 1) bytes in
    let b = get_or bytes (length bytes - 1) 0 in
    sym (in_none bytes (ap is_packed (bytes_split bytes c.requires.low) ∙ is_packed-bad_front front b c.in_default.ensures.none))

pub returns-then-digit-gt9-clause-number : goal.returns-then-digit-gt9-clause-number
returns-then-digit-gt9-clause-number c =
    let bytes = c.args.bytes.now in
    let front = take (length bytes - 1) bytes in
    let b = get_or bytes (length bytes - 1) 0 in
    elim c.then-digit-gt9.branch [
      | then-digit-gt9-via-then-digit-gt9 w ↦
          sym (in_none bytes (ap is_packed (bytes_split bytes c.requires.low) ∙ is_packed-bad_digit front b w.if-digit-gt9.true))
      | then-digit-gt9-via-else-digit-gt9+then-sign-lt10 w ↦
          sym (in_none bytes (ap is_packed (bytes_split bytes c.requires.low) ∙ is_packed-bad_sign front b w.if-sign-lt10.true))
    ]

pub returns-clause-number : goal.returns-clause-number
returns-clause-number c =
    let bytes = c.args.bytes.now in
    let n = length bytes in
    let front = take (n - 1) bytes in
    let b = get_or bytes (n - 1) 0 in
    let d : b / 16 ≤ 9 = c.if-digit-gt9.false in
    let s : 10 ≤ b % 16 = c.if-sign-lt10.false in
    let f : c.from.result ≡ b / 16 = c.from.ensures in
    let digit : c.from.result ≤ 9 = omega (arith, f, d) in
    let below = size_below n c.in-Some.front c.from.result (length front) c.requires.low c.in-Some.ensures.fits (front_long bytes c.requires.low) digit in
    let small = size_small n (c.in-Some.front * 10 + c.from.result) c.requires.high below in
    ap Some (wrapped c.is_minus_sign.result (c.in-Some.front * 10 + c.from.result) c.signed.result small c.signed.ensures
    ∙ ap₂ (λ m v. if m then neg_ℤ (pos v) else pos v) c.is_minus_sign.ensures (ap₂ (λ p q. p * 10 + q) c.in-Some.ensures.value.0 f)
    ∙ sym (ap packed_number (bytes_split bytes c.requires.low) ∙ number_split front b))
    ∙ sym (in_some bytes (ap is_packed (bytes_split bytes c.requires.low) ∙ is_packed-valid front b c.in-Some.ensures.value.1 (omega (arith, d)) s))

pub returns-clause-fits : goal.returns-clause-fits
returns-clause-fits c =
    let bytes = c.args.bytes.now in
    let n = length bytes in
    let front = take (n - 1) bytes in
    let b = get_or bytes (n - 1) 0 in
    let d : b / 16 ≤ 9 = c.if-digit-gt9.false in
    let f : c.from.result ≡ b / 16 = c.from.ensures in
    let digit : c.from.result ≤ 9 = omega (arith, f, d) in
    let below = size_below n c.in-Some.front c.from.result (length front) c.requires.low c.in-Some.ensures.fits (front_long bytes c.requires.low) digit in
    let small = size_small n (c.in-Some.front * 10 + c.from.result) c.requires.high below in
    rw (ap unsigned_abs (wrapped c.is_minus_sign.result (c.in-Some.front * 10 + c.from.result) c.signed.result small c.signed.ensures) ∙ abs_signed c.is_minus_sign.result (c.in-Some.front * 10 + c.from.result)) below
