use Rattle.std.proofs.Common.{◌≡◌, ◌-◌, ◌%◌, ◌<◌, length, set, length-set, refl, sym, arith}
use Rattle.rpg_records.proofs.Bytes.{placed, less, all_placed}
use Rattle.rpg_records.proofs.binary.write_lowest_bytes.Goals as goal

pub loop-place-preserved : goal.loop-place-preserved
loop-place-preserved c =
    let bytes = c.loop-place.bytes in
    let n = length bytes in
    let p = c.loop-place.place in
    let rest = c.loop-place.rest in
    let inside = c.loop-place.invariant.inside in
    let rest_is = c.loop-place.invariant.rest_is in
    let some : 0 < p = c.loop-place-test.true in
    let long : length (set bytes (p - 1) (rest % 256)) ≡ n = length-set bytes (p - 1) (rest % 256) in
    rw (long) (record {
      inside = omega (arith, inside);
      rest_is = less 256 n c.args.size rest p inside some rest_is;
      done = placed (λ m. m % 256) 256 n bytes c.args.size rest p refl inside some rest_is c.loop-place.invariant.done;
    })

pub returns : goal.returns
returns c =
    let bytes = c.loop-place.bytes in
    rw (sym c.loop-place.auto.bytes)
    (all_placed (λ m. m % 256) 256 (length bytes) bytes c.args.size refl (λ k low high. c.loop-place.invariant.done k (let past = c.loop-place-test.false in omega (arith, past)) high))
