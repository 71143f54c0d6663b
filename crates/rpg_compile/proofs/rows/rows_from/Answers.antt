use Rattle.std.proofs.Common.{◌≡◌, ◌+◌, ◌<◌, ℕ, length, ap, ◌∙◌, arith}
use Rattle.rpg_cards.specs.Calculations.{calculations}
use Rattle.rpg_cards.specs.Sections.{sections_of}
use Rattle.rpg_compile_program.specs.Code.{calculations_code, sizes, subroutines_code}
use Rattle.rpg_compile_program.specs.Levels.{subroutine_level}
use Rattle.rpg_compile_program.specs.Whole.{called_number}
use Rattle.rpg_compile.proofs.Sizes.{all_sizes}
use Rattle.rpg_compile.proofs.Written.{same_levels}
use Rattle.rpg_compile.proofs.rows.rows_from.Goals as goal
use Rattle.rpg_compile.specs.Called.{level_at}
use Rattle.rpg_compile.specs.Numbers.{number_by}
use Rattle.rpg_compile_program.specs.Table.{key_number}

pub levels_of-requires-clause-few : goal.levels_of-requires-clause-few
levels_of-requires-clause-few c =
    let all = all_sizes c.args.cards.now in
    let few = c.requires.few in
    omega (arith, all, few)

pub section-requires : goal.section-requires
section-requires c =
    let all = all_sizes c.args.cards.now in
    let few = c.requires.few in
    omega (arith, all, few)

pub section-requires-2 : goal.section-requires-2
section-requires-2 c =
    let all = all_sizes c.args.cards.now in
    let few = c.requires.few in
    let detail = c.in_ok-detail.ensures.end in
    omega (arith, all, few, detail)

pub subroutines-requires-clause-places : goal.subroutines-requires-clause-places
subroutines-requires-clause-places c =
    let all = all_sizes c.args.cards.now in
    let few = c.requires.few in
    let detail = c.in_ok-detail.ensures.end in
    let total = c.in_ok-total.ensures.end in
    omega (arith, all, few, detail, total)

pub returns-clause-detail : goal.returns-clause-detail
returns-clause-detail c =
    let s = sections_of (calculations c.args.cards.now) in
    let number = key_number c.args.table.now in
    let names : number_by c.in_ok-subroutines.subroutines ≡ called_number s = λ i n. c.in_ok-subroutines.ensures n i in
    c.in_ok-detail.ensures.code ∙ ap (λ f. calculations_code number f 0 0 s.detail) names

pub returns-clause-total : goal.returns-clause-total
returns-clause-total c =
    let s = sections_of (calculations c.args.cards.now) in
    let number = key_number c.args.table.now in
    let names : number_by c.in_ok-subroutines.subroutines ≡ called_number s = λ i n. c.in_ok-subroutines.ensures n i in
    let end : c.in_ok-detail.end ≡ sizes s.detail = let e = c.in_ok-detail.ensures.end in omega (arith, e) in
    c.in_ok-total.ensures.code
    ∙ ap (λ t. calculations_code (key_number t.now) (number_by c.section.new.self.subroutines) 0 c.in_ok-detail.end s.total) c.in_ok-detail.ensures.table
    ∙ ap (λ t. calculations_code number (number_by t) 0 c.in_ok-detail.end s.total) c.in_ok-detail.ensures.subroutines
    ∙ ap (λ f. calculations_code number f 0 c.in_ok-detail.end s.total) names
    ∙ ap (λ n. calculations_code number (called_number s) 0 n s.total) end

pub returns-clause-subroutines : goal.returns-clause-subroutines
returns-clause-subroutines c =
    let s = sections_of (calculations c.args.cards.now) in
    let number = key_number c.args.table.now in
    let level = level_at c.deref.result.now in
    let names : number_by c.in_ok-subroutines.subroutines ≡ called_number s = λ i n. c.in_ok-subroutines.ensures n i in
    let table = c.in_ok-total.ensures.table ∙ c.in_ok-detail.ensures.table in
    let same = c.in_ok-total.ensures.subroutines ∙ c.in_ok-detail.ensures.subroutines in
    let end : c.in_ok-total.end ≡ sizes s.detail + sizes s.total = let d = c.in_ok-detail.ensures.end in let t = c.in_ok-total.ensures.end in omega (arith, d, t) in
    let levels = λ (n : ℕ) (low : n < 0 + length s.subroutines).
    ap (λ ls. level_at ls n) c.deref.ensures.value ∙ c.in_ok-levels.ensures.levels n (omega arith) in
    c.in_ok-subroutines-2.ensures.rows
    ∙ ap (λ t. subroutines_code (key_number t.now) (number_by c.section-2.new.self.subroutines) level 0 c.in_ok-total.end s.subroutines) table
    ∙ ap (λ t. subroutines_code number (number_by t) level 0 c.in_ok-total.end s.subroutines) same
    ∙ ap (λ f. subroutines_code number f level 0 c.in_ok-total.end s.subroutines) names
    ∙ ap (λ n. subroutines_code number (called_number s) level 0 n s.subroutines) end
    ∙ same_levels number (called_number s) level (subroutine_level s.subroutines) 0 (sizes s.detail + sizes s.total) s.subroutines levels
