use Rattle.std.proofs.Common.{◌≡◌, ◌+◌, ◌<◌, map, drop, length, get_or, subst, arith}
use Rattle.rpg_program.specs.Weights.{types_weight}
use Rattle.rpg_program.specs.Object.{seen, type_row}
use Rattle.rpg_verify.proofs.Left.{type_left}
use Rattle.rpg_verify.proofs.Sizes.{types_light}
use Rattle.rpg_verify.proofs.weights.types_weight.Goals as goal

pub type_weight-sum-requires : goal.type_weight-sum-requires
type_weight-sum-requires c =
    let types = c.args.rows.now.types.items in
    let i = c.loop-record_type.record_type-index in
    let t = c.record_type-item.result in
    let same = c.deref-record_type-items.ensures.value in
    let low : i < length types = subst (λ xs. i < length xs) same c.loop-record_type-test.true in
    let is : t ≡ get_or types i t = subst (λ xs. t ≡ get_or xs i t) same c.record_type-item.is in
    let step = type_left types i t low is in
    let whole : c.loop-record_type.sum + types_weight (map type_row (drop i types)) ≡ types_weight (map type_row types) = c.loop-record_type.invariant in
    let few = types_light (seen c.args.rows.now) c.requires in
    omega (arith, step, whole, few)

pub overflow_add-sum : goal.overflow_add-sum
overflow_add-sum c =
    let types = c.args.rows.now.types.items in
    let i = c.loop-record_type.record_type-index in
    let t = c.record_type-item.result in
    let same = c.deref-record_type-items.ensures.value in
    let low : i < length types = subst (λ xs. i < length xs) same c.loop-record_type-test.true in
    let is : t ≡ get_or types i t = subst (λ xs. t ≡ get_or xs i t) same c.record_type-item.is in
    let step = type_left types i t low is in
    let whole : c.loop-record_type.sum + types_weight (map type_row (drop i types)) ≡ types_weight (map type_row types) = c.loop-record_type.invariant in
    let few = types_light (seen c.args.rows.now) c.requires in
    let own = c.type_weight-sum.ensures in
    omega (arith, step, whole, few, own)

pub loop-record_type-preserved : goal.loop-record_type-preserved
loop-record_type-preserved c =
    let types = c.args.rows.now.types.items in
    let i = c.loop-record_type.record_type-index in
    let t = c.record_type-item.result in
    let same = c.deref-record_type-items.ensures.value in
    let low : i < length types = subst (λ xs. i < length xs) same c.loop-record_type-test.true in
    let is : t ≡ get_or types i t = subst (λ xs. t ≡ get_or xs i t) same c.record_type-item.is in
    let step = type_left types i t low is in
    let whole : c.loop-record_type.sum + types_weight (map type_row (drop i types)) ≡ types_weight (map type_row types) = c.loop-record_type.invariant in
    let own = c.type_weight-sum.ensures in
    omega (arith, step, whole, own)
