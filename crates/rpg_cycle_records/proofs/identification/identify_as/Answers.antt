use Rattle.std.proofs.Common.{◌≡◌, length, map, slice_get, sym, ap, ◌∙◌, subst, arith}
use Rattle.rpg_cycle_records.specs.Earlier.{file_of}
use Rattle.rpg_program.specs.Object.{type_row}
use Rattle.rpg_cycle_records.proofs.Trying.{file_at, same_own, type_at, taken_at, passed_at, weight_at}
use Rattle.rpg_cycle_records.proofs.identification.identify_as.Goals as goal

pub overflow_cast-tried : goal.overflow_cast-tried
overflow_cast-tried c =
    let own = same_own c.args.file c.args.types.now c.loop-row.row c.index-types-row.result c.index-types-row-in-loop-row.result c.loop-row-test.true (sym c.is_same_file.ensures ∙ c.if-not-is_same_file.false) in
    let t = type_at c.args.file _ c.args.types.now c.loop-row.row c.index-types-row-in-loop-row.result c.requires.types c.loop-row-test.true own in
    omega (arith, t.few_codes, ap length c.as_slice-codes.ensures.value, c.as_slice-codes.ensures)

pub overflow_add-tried : goal.overflow_add-tried
overflow_add-tried c =
    let own = same_own c.args.file c.args.types.now c.loop-row.row c.index-types-row.result c.index-types-row-in-loop-row.result c.loop-row-test.true (sym c.is_same_file.ensures ∙ c.if-not-is_same_file.false) in
    let t = type_at c.args.file _ c.args.types.now c.loop-row.row c.index-types-row-in-loop-row.result c.requires.types c.loop-row-test.true own in
    omega (arith, t.few_codes, ap length c.as_slice-codes.ensures.value, c.as_slice-codes.ensures, c.loop-row.invariant.few)

pub all_hold-requires : goal.all_hold-requires
all_hold-requires c =
    let own = same_own c.args.file c.args.types.now c.loop-row.row c.index-types-row.result c.index-types-row-in-loop-row.result c.loop-row-test.true (sym c.is_same_file.ensures ∙ c.if-not-is_same_file.false) in
    let t = type_at c.args.file _ c.args.types.now c.loop-row.row c.index-types-row-in-loop-row.result c.requires.types c.loop-row-test.true own in
    rw c.as_slice-codes.ensures.value t.codes

pub returns-then-all_hold-clause-row : goal.returns-then-all_hold-clause-row
returns-then-all_hold-clause-row c =
    let own = same_own c.args.file c.args.types.now c.loop-row.row c.index-types-row.result c.index-types-row-in-loop-row.result c.loop-row-test.true (sym c.is_same_file.ensures ∙ c.if-not-is_same_file.false) in
    sym (taken_at c.args.file c.args.text.now c.args.types.now c.loop-row.row c.index-types-row-in-loop-row.result c.as_slice-codes.result.now c.requires.types c.loop-row-test.true own c.as_slice-codes.ensures.value (sym c.all_hold.ensures ∙ c.if-all_hold.true))
    ∙ c.loop-row.invariant.rest

pub returns-then-all_hold-clause-own : goal.returns-then-all_hold-clause-own
returns-then-all_hold-clause-own c = λ x e.
    let own = same_own c.args.file c.args.types.now c.loop-row.row c.index-types-row.result c.index-types-row-in-loop-row.result c.loop-row-test.true (sym c.is_same_file.ensures ∙ c.if-not-is_same_file.false) in
    let is : c.loop-row.row ≡ x = cc in
    subst (λ k. file_of (slice_get (map type_row c.args.types.now) k) ≡ c.args.file) is
    (file_at c.args.file c.args.types.now c.loop-row.row c.index-types-row-in-loop-row.result c.loop-row-test.true own)

pub returns-then-all_hold-clause-few : goal.returns-then-all_hold-clause-few
returns-then-all_hold-clause-few c =
    let own = same_own c.args.file c.args.types.now c.loop-row.row c.index-types-row.result c.index-types-row-in-loop-row.result c.loop-row-test.true (sym c.is_same_file.ensures ∙ c.if-not-is_same_file.false) in
    let t = type_at c.args.file _ c.args.types.now c.loop-row.row c.index-types-row-in-loop-row.result c.requires.types c.loop-row-test.true own in
    omega (arith, t.few_codes, ap length c.as_slice-codes.ensures.value, c.as_slice-codes.ensures, c.loop-row.invariant.few)

pub loop-row-preserved : goal.loop-row-preserved
loop-row-preserved c =
    let own = same_own c.args.file c.args.types.now c.loop-row.row c.index-types-row.result c.index-types-row-in-loop-row.result c.loop-row-test.true (sym c.is_same_file.ensures ∙ c.if-not-is_same_file.false) in
    let t = type_at c.args.file _ c.args.types.now c.loop-row.row c.index-types-row-in-loop-row.result c.requires.types c.loop-row-test.true own in
    let w = weight_at c.args.file c.args.text.now c.args.types.now c.loop-row.row c.index-types-row-in-loop-row.result c.as_slice-codes.result.now c.requires.types c.loop-row-test.true own c.as_slice-codes.ensures.value
    (sym c.all_hold.ensures ∙ c.if-all_hold.false) in
    record {
      rest = sym (passed_at c.args.file c.args.text.now c.args.types.now c.loop-row.row c.index-types-row-in-loop-row.result c.as_slice-codes.result.now c.requires.types c.loop-row-test.true own c.as_slice-codes.ensures.value
          (sym c.all_hold.ensures ∙ c.if-all_hold.false))
          ∙ c.loop-row.invariant.rest;
      weight = omega (arith, w, ap length c.as_slice-codes.ensures.value, c.as_slice-codes.ensures, c.loop-row.invariant.weight);
      few = omega (arith, t.few_codes, ap length c.as_slice-codes.ensures.value, c.as_slice-codes.ensures, c.loop-row.invariant.few);
    }
