use Rattle.std.proofs.Common.{◌≡◌, length, get_or, sym, ap, ◌∙◌, subst, arith}
use Rattle.rpg_cards.specs.Plain.{calls_of}
use Rattle.rpg_compile_program.proofs.Heights.{callers_below}
use Rattle.rpg_compile.proofs.Called.{callees_below, few_calls, same_calls}
use Rattle.rpg_compile.proofs.Levels.{level_is, not_cyclic}
use Rattle.rpg_compile.proofs.calls.levels_of.Goals as goal
use Rattle.rpg_compile.specs.Numbers.{number_by}
use Rattle.rpg_compile.specs.Walk.{subroutines_in}
use Rattle.rpg_symbols.proofs.Chains.{call_here}
use Rattle.rpg_symbols.specs.Chains.{IsCallLevel}
use Rattle.rpg_symbols.specs.Levels.{AreAmong, IsCyclic, call_numbered}

pub subroutine_levels-requires-clause-calls_few : goal.subroutine_levels-requires-clause-calls_few
subroutine_levels-requires-clause-calls_few c =
    let few = few_calls (number_by c.args.subroutines.now) 0 (subroutines_in c.args.cards.now) in
    let same = ap length (c.deref.ensures.value ∙ c.in_ok-count.ensures.calls) in
    let bound = c.requires.few in
    omega (arith, few, same, bound)

pub subroutine_levels-requires-clause-among : goal.subroutine_levels-requires-clause-among
subroutine_levels-requires-clause-among c =
    let all = subroutines_in c.args.cards.now in
    let same : c.deref.result.now ≡ calls_of all = c.deref.ensures.value ∙ c.in_ok-count.ensures.calls ∙ same_calls all (number_by c.args.subroutines.now) c.requires.numbers in
    let count = c.in_ok-count.ensures.count in
    let among : AreAmong (length all) (calls_of all) = λ k within.
    let call = call_here (calls_of all) k within in
    (callers_below all (call_numbered (calls_of all) k).0 (call_numbered (calls_of all) k).1 call, callees_below all c.requires.plain.bodies (call_numbered (calls_of all) k).0 (call_numbered (calls_of all) k).1 call) in
    subst (λ n. AreAmong n c.deref.result.now) (sym count) (subst (λ ps. AreAmong (length all) ps) (sym same) among)

pub returns-in-Ok-clause-levels : goal.returns-in-Ok-clause-levels
returns-in-Ok-clause-levels c s low =
    let all = subroutines_in c.args.cards.now in
    let same : c.deref.result.now ≡ calls_of all = c.deref.ensures.value ∙ c.in_ok-count.ensures.calls ∙ same_calls all (number_by c.args.subroutines.now) c.requires.numbers in
    let count = c.in_ok-count.ensures.count in
    let level : IsCallLevel c.deref.result.now s (get_or c.in-Ok.levels.items s 0) = c.in-Ok.ensures.ok.levels_are s (omega arith) in
    level_is (calls_of all) (length all) c.requires.plain.forward (callers_below all) s (get_or c.in-Ok.levels.items s 0) low (subst (λ ps. IsCallLevel ps s (get_or c.in-Ok.levels.items s 0)) same level)

pub unreachable-requires : goal.unreachable-requires
unreachable-requires c =
    let all = subroutines_in c.args.cards.now in
    let same : c.deref.result.now ≡ calls_of all = c.deref.ensures.value ∙ c.in_ok-count.ensures.calls ∙ same_calls all (number_by c.args.subroutines.now) c.requires.numbers in
    let first = rw c.in-Err-Cycle.field-0-is at c.in-Err-Cycle.ensures.err in
    let k = c.in-Err-Cycle.field-0-0 in
    let cyclic : IsCyclic (calls_of all) k = subst (λ ps. IsCyclic ps k) same first.cyclic in
    not_cyclic (calls_of all) (length all) c.requires.plain.forward (callers_below all) k cyclic
