use Rattle.std.proofs.Common.{rules, ◌≡◌, ◌+◌, ◌-◌, ◌<◌, ◌≤◌, map, length, get_or, slice_get, refl, sym, ap, ◌∙◌, subst, arith}
use Rattle.std.specs.Option.{option_or}
use Rattle.rpg_program.specs.Object.{seen, subroutine_row}
use Rattle.rpg_program.specs.Sections.{first_in, instructions_in}
use Rattle.rpg_program.specs.Spans.{IsSpan}
use Rattle.rpg_program.specs.declared.section.Section.TheVariants as sections
use Rattle.rpg_verify.proofs.Walking.{either_left}
use Rattle.rpg_verify.specs.Placed.{placed_in, placed_in_subroutines}
use Rattle.rpg_verify_rules.proofs.Sectioning.{left, fewer_left}
use Rattle.rpg_verify_rules.proofs.Spanning.{at_zero, first_after, subroutine_at, subroutine_span}
use Rattle.rpg_verify.proofs.places.in_subroutines.Goals as goal

pub loop-subroutine-init : goal.loop-subroutine-init
loop-subroutine-init c =
    let all = c.requires.program.few_instructions in
    let begin = c.requires.begin in
    record {
      so_far = refl;
      few = omega (arith, all, begin);
      counted = refl;
      begins = sym (at_zero c.args.begin (map subroutine_row c.args.rows.now.subroutines.items));
    }

pub returns-in-Some-clause-placed : goal.returns-in-Some-clause-placed
returns-in-Some-clause-placed c =
    let p = seen c.args.rows.now in
    let subs = c.args.rows.now.subroutines.items in
    let i = c.loop-subroutine.subroutine-index in
    let s = c.subroutine-item.result in
    let same = c.deref-subroutine-items.ensures.value in
    let low : i < length subs = subst (λ xs. i < length xs) same c.loop-subroutine-test.true in
    let is : s ≡ get_or subs i s = subst (λ xs. s ≡ get_or xs i s) same c.subroutine-item.is in
    let n = c.loop-subroutine.number in
    let k = c.loop-subroutine.rest in
    let rest = slice_get (placed_in_subroutines p (n + 1) (left subs (i + 1))) (k - length s.instructions.items) in
    ap (λ o. option_or o rest) c.in-Some.ensures.placed
    ∙ ap (λ is. option_or (slice_get (map (placed_in p (sections.Subroutine n)) is) k) rest) c.deref.ensures.value
    ∙ sym (either_left p n subs i s k low is)
    ∙ c.loop-subroutine.invariant.so_far

pub overflow_add-span : goal.overflow_add-span
overflow_add-span c =
    let subs = c.args.rows.now.subroutines.items in
    let i = c.loop-subroutine.subroutine-index in
    let s = c.subroutine-item.result in
    let same = c.deref-subroutine-items.ensures.value in
    let low : i < length subs = subst (λ xs. i < length xs) same c.loop-subroutine-test.true in
    let is : s ≡ get_or subs i s = subst (λ xs. s ≡ get_or xs i s) same c.subroutine-item.is in
    let fewer = fewer_left subs i s low is in
    let few : c.loop-subroutine.first + instructions_in (left subs i) ≤ 8192 = c.loop-subroutine.invariant.few in
    let long : c.len-count.result ≡ length s.instructions.items = search rules in
    omega (arith, fewer, few, long)

pub in_section-requires : goal.in_section-requires
in_section-requires c =
    let p = seen c.args.rows.now in
    let subs = c.args.rows.now.subroutines.items in
    let i = c.loop-subroutine.subroutine-index in
    let s = c.subroutine-item.result in
    let f = c.loop-subroutine.first in
    let same = c.deref-subroutine-items.ensures.value in
    let low : i < length subs = subst (λ xs. i < length xs) same c.loop-subroutine-test.true in
    let is : s ≡ get_or subs i s = subst (λ xs. s ≡ get_or xs i s) same c.subroutine-item.is in
    let long : c.len-count.result ≡ length s.instructions.items = search rules in
    let begins : f ≡ first_in (length p.detail + length p.total) p.subroutines i =
    c.loop-subroutine.invariant.begins ∙ ap (λ b. first_in b p.subroutines i) c.requires.begin in
    let span = subroutine_span p i f (subroutine_row s) (subroutine_at subs i s low is) begins in
    subst (λ n. IsSpan p (record { section = sections.Subroutine c.loop-subroutine.number; level = s.level; first = f; end = f + n })) (sym long)
    (subst (λ n. IsSpan p (record { section = sections.Subroutine n; level = s.level; first = f; end = f + length s.instructions.items })) (sym c.loop-subroutine.invariant.counted) span)

pub loop-subroutine-preserved : goal.loop-subroutine-preserved
loop-subroutine-preserved c =
    let p = seen c.args.rows.now in
    let subs = c.args.rows.now.subroutines.items in
    let i = c.loop-subroutine.subroutine-index in
    let s = c.subroutine-item.result in
    let same = c.deref-subroutine-items.ensures.value in
    let low : i < length subs = subst (λ xs. i < length xs) same c.loop-subroutine-test.true in
    let is : s ≡ get_or subs i s = subst (λ xs. s ≡ get_or xs i s) same c.subroutine-item.is in
    let fewer = fewer_left subs i s low is in
    let few : c.loop-subroutine.first + instructions_in (left subs i) ≤ 8192 = c.loop-subroutine.invariant.few in
    let long : c.len-count.result ≡ length s.instructions.items = search rules in
    let less : c.saturating_sub-rest.result ≡ c.loop-subroutine.rest - c.len-count.result = search rules in
    let taken = less ∙ ap (λ n. c.loop-subroutine.rest - n) long in
    let n = c.loop-subroutine.number in
    let k = c.loop-subroutine.rest in
    let f = c.loop-subroutine.first in
    let counted = c.loop-subroutine.invariant.counted in
    let next = first_after c.args.begin p.subroutines i (subroutine_row s) (subroutine_at subs i s low is) in
    let begins : f ≡ first_in c.args.begin p.subroutines i = c.loop-subroutine.invariant.begins in
    let rest = slice_get (placed_in_subroutines p (n + 1) (left subs (i + 1))) (k - length s.instructions.items) in
    record {
      so_far =
          ap (slice_get (placed_in_subroutines p (n + 1) (left subs (i + 1)))) taken
          ∙ ap (λ o. option_or o rest) (sym c.in-None.is ∙ c.in_section.ensures.placed)
          ∙ ap (λ is. option_or (slice_get (map (placed_in p (sections.Subroutine n)) is) k) rest) c.deref.ensures.value
          ∙ sym (either_left p n subs i s k low is)
          ∙ c.loop-subroutine.invariant.so_far;
      few = omega (arith, fewer, few, long);
      counted = omega (arith, counted);
      begins = omega (arith, next, begins, long);
    }
