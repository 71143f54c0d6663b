-- Movements of the form.
use Rattle.std.proofs.Common.{◌≡◌, ℕ, ◌+◌, ◌-◌, ◌≤◌, Bool, true, false, ◌&&◌, ◌||◌, cond, nat_le, ◌==◌, leb, leb-true, None, Some, refl, arith}
use Rattle.rpg_paper.specs.Paper.{IsPage, Position, spaced, skipped}
use Rattle.rpg_paper.specs.declared.form.Page.{Page}
use Rattle.rpg_program.specs.Ends.{Fault}
use Rattle.rpg_program.specs.LineFaults.{is_spacing, line_fault}
use Rattle.rpg_program.specs.declared.line.Spacing.{Spacing}
use Rattle.rpg_memory.proofs.Entries.{and_true}
use Rattle.rpg_machine_lines.specs.Ready.{IsShort}

few_by : (b : Bool) (page line other : ℕ) → (cond {A = Position} b (record { page = page; line = line }) (record { page = page + 1; line = other })).page ≤ page + 1
few_by true page line other = omega arith
few_by false page line other = omega arith

-- a space begins one page at most
pub spaced_few : (page : Page) (n : ℕ) (p : Position) → (spaced page n p).page ≤ p.page + 1
spaced_few page n p = few_by (n == 0 || nat_le (p.line + n) page.lines) p.page (p.line + n) (p.line + n - page.lines)

pub skipped_few : (line : ℕ) (p : Position) → (skipped line p).page ≤ p.page + 1
skipped_few line p = few_by (nat_le p.line line) p.page line line

pub ruleset moving = (spaced_few, skipped_few)

without_fault : (b : Bool) (f : Fault) → cond b None (Some f) ≡ None → b ≡ true
without_fault true f h = refl
without_fault false f h = cc

-- the movements of a line with nothing wrong
pub short_spacing : (page : Page) (len : ℕ) (s : Spacing) → IsPage page → line_fault page.lines len s ≡ None → IsShort s
unfolding line_fault
short_spacing page len s is h =
    let spacing = (and_true (leb 1 len) (is_spacing page.lines s) (without_fault (leb 1 len && is_spacing page.lines s) _ h)).1 in
    let both = and_true (leb s.space_before 3 && leb s.space_after 3) (leb s.skip_before page.lines && leb s.skip_after page.lines) spacing in
    let spaces = and_true (leb s.space_before 3) (leb s.space_after 3) both.0 in
    let skips = and_true (leb s.skip_before page.lines) (leb s.skip_after page.lines) both.1 in
    let before = leb-true s.skip_before page.lines skips.0 in
    let after = leb-true s.skip_after page.lines skips.1 in
    record {
      space_before = leb-true s.space_before 3 spaces.0;
      space_after = leb-true s.space_after 3 spaces.1;
      skip_before = omega (arith, is.longest, before);
      skip_after = omega (arith, is.longest, after);
    }
