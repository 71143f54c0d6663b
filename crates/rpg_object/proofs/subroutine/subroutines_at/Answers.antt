use Rattle.std.proofs.Common.{◌≡◌, [], ◌∷◌, length, map, rules}
use Rattle.std.proofs.lemmas.List.{map-append}
use Rattle.std.proofs.lemmas.Result.{err_from_is_err_and}
use Rattle.rpg_object_format.specs.Format.{times_with}
use Rattle.rpg_object_format.proofs.Loop.{continues, ends, is_done}
use Rattle.rpg_program.specs.Object.{subroutine_row}
use Rattle.rpg_object.specs.Subroutines.{subroutine, subroutines, left_after}
use Rattle.rpg_object.proofs.subroutine.subroutines_at.Goals as goal

pub returns-in_err-subroutine : goal.returns-in_err-subroutine
unfolding subroutines times_with
returns-in_err-subroutine c =
    let p = err_from_is_err_and c.from_residual-in_err-subroutine.result c.from_residual-in_err-subroutine.ensures.1 in
    rw (p.1, p.2) (ends c.in_err-subroutine.field-0.0 (λ s b. (subroutine s).reading b) left_after (map subroutine_row c.loop.subroutines.items) c.args.count c.loop.counter c.loop.remaining c.loop.rest.now _ c.loop-test.true c.in_err-subroutine.ensures.read c.loop.invariant)

pub loop-preserved : goal.loop-preserved
loop-preserved c =
    let taken : c.len.result ≡ length c.in_ok-subroutine.subroutine.instructions.items = search rules in
    rw (c.in_ok-push.ensures.items, c.saturating_sub-remaining.ensures, taken, map-append subroutine_row c.loop.subroutines.items (c.in_ok-subroutine.subroutine ∷ [])) (continues (λ s b. (subroutine s).reading b) left_after (map subroutine_row c.loop.subroutines.items) c.args.count c.loop.counter c.loop.remaining c.loop.rest.now (subroutine_row c.in_ok-subroutine.subroutine) c.in_ok-subroutine.after.now _ c.loop-test.true c.in_ok-subroutine.ensures.read c.loop.invariant)

pub returns : goal.returns
unfolding subroutines times_with
returns c = is_done (λ s b. (subroutine s).reading b) left_after (map subroutine_row c.loop.subroutines.items) c.args.count c.loop.counter c.loop.remaining c.loop.rest.now _ c.loop-test.false c.loop.invariant
