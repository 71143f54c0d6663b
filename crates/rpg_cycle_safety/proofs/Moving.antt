-- Where the form stands, and how far the way to a line is.
use Rattle.std.proofs.Common.{◌≡◌, ℕ, ◌+◌, ◌-◌, ◌≤◌, Bool, true, false, ◌&&◌, ◌||◌, cond, eqb, eqb-true, leb, leb-true, [], ◌∷◌, ◌++◌, length, replicate, Option, None, Some, refl, arith, length-append, nat_cmp}
use Rattle.std.proofs.lemmas.List.{length-replicate}
use Rattle.rpg_program.specs.Lines.{after_movement, after_skip, after_skip_to, after_space, spaced_after, spaced_before}
use Rattle.rpg_program.specs.World.{World}
use Rattle.rpg_program.specs.declared.line.Spacing.{Spacing}
use Rattle.rpg_program.specs.declared.rows.Overflow.{Overflow}
use Rattle.rpg_machine_lines.specs.Ready.{IsShort}
use Rattle.rpg_paper.specs.Form.{page_or_1}
use Rattle.rpg_paper.specs.Paper.{IsPage, Position, skipped, spaced, top_of_paper, travel, way}

-- on a line that a page can have, of that page or of an earlier one
pub record IsUpTo (last : ℕ) (here : Position) : Type 0 where
  pub line : here.line ≤ 112
  pub page : here.page ≤ last

-- ---- movements

space_by : (a b : Bool) (lines n page : ℕ) (from : Position) → eqb n 0 ≡ a → leb (from.line + n) lines ≡ b → 3 ≤ lines → lines ≤ 112 → n ≤ 3 → IsUpTo page from →
    IsUpTo (page + 1) (cond (a || b) (record { page = from.page; line = from.line + n }) (record { page = from.page + 1; line = from.line + n - lines }))
space_by true b lines n page from none is least most few up =
    let zero : n ≡ 0 = eqb-true n 0 none in let line = up.line in let pages = up.page in record { line = omega (arith, zero, line); page = omega (arith, pages) }
space_by false true lines n page from some is least most few up =
    let low : from.line + n ≤ lines = leb-true (from.line + n) lines is in let pages = up.page in record { line = omega (arith, low, most); page = omega (arith, pages) }
space_by false false lines n page from some is least most few up =
    let line = up.line in let pages = up.page in record { line = omega (arith, line, few, least); page = omega (arith, pages) }

skip_by : (b : Bool) (line page : ℕ) (from : Position) → line ≤ 112 → IsUpTo page from →
    IsUpTo (page + 1) (cond b (record { page = from.page; line = line }) (record { page = from.page + 1; line = line }))
skip_by true line page from low up = let pages = up.page in record { line = low; page = omega (arith, pages) }
skip_by false line page from low up = let pages = up.page in record { line = low; page = omega (arith, pages) }

module _ (overflow : Overflow) (is : IsPage overflow.page) where
  moved : (b : Bool) (page : ℕ) (to : Position) (w : World nat_cmp) → IsUpTo page to → IsUpTo page (after_movement overflow.indicator b to w).paper.here
  unfolding after_movement
  moved true page to w up = up
  moved false page to w up = up

  after_space_up : (n page : ℕ) (w : World nat_cmp) → n ≤ 3 → IsUpTo page w.paper.here → IsUpTo (page + 1) (after_space overflow n w).paper.here
  after_space_up n page w few up =
      moved _ (page + 1) (spaced overflow.page n w.paper.here) w
      (space_by (eqb n 0) (leb (w.paper.here.line + n) overflow.page.lines) overflow.page.lines n page w.paper.here refl refl is.shortest is.longest few up)

  skipped_by : (b : Bool) (line page : ℕ) (w : World nat_cmp) → line ≤ 112 → IsUpTo page w.paper.here →
      IsUpTo (page + 1) (cond {A = World nat_cmp} b w (after_skip_to overflow line w)).paper.here
  skipped_by true line page w low up = let here = up.line in let pages = up.page in record { line = here; page = omega (arith, pages) }
  skipped_by false line page w low up = moved _ (page + 1) (skipped line w.paper.here) w (skip_by (leb w.paper.here.line line) line page w.paper.here low up)

  after_both : (skip space page : ℕ) (w : World nat_cmp) → skip ≤ 112 → space ≤ 3 → IsUpTo page w.paper.here →
      IsUpTo (page + 2) (after_space overflow space (after_skip overflow skip w)).paper.here
  after_both skip space page w low few up =
      let one = skipped_by (eqb skip 0) skip page w low up in
      let two = after_space_up space (page + 1) (after_skip overflow skip w) few one in
      let pages = two.page in
      record { line = two.line; page = omega (arith, pages) }

  -- a line's movements begin two pages at most
  pub before_up : (s : Spacing) (page : ℕ) (w : World nat_cmp) → IsShort s → IsUpTo page w.paper.here → IsUpTo (page + 2) (spaced_before overflow s w).paper.here
  before_up s page w short up = after_both s.skip_before s.space_before page w short.skip_before short.space_before up

  pub after_up : (s : Spacing) (page : ℕ) (w : World nat_cmp) → IsShort s → IsUpTo page w.paper.here → IsUpTo (page + 2) (spaced_after overflow s w).paper.here
  after_up s page w short up = after_both s.skip_after s.space_after page w short.skip_after short.space_after up

-- ---- the way to a line

feeds : (n m : ℕ) → length {A = ℕ} (replicate n 12 ++ replicate m 10) ≡ n + m
feeds n m =
    let both = length-append {A = ℕ} (replicate n 12) (replicate m 10) in
    let one : length {A = ℕ} (replicate n 12) ≡ n = length-replicate n 12 in
    let two : length {A = ℕ} (replicate m 10) ≡ m = length-replicate m 10 in
    omega (arith, both, one, two)

travel_by : (b : Bool) (from to : Position) → to.line ≤ 112 → to.page ≤ from.page + 4 →
    length {A = ℕ} (cond b (replicate (to.line - from.line) 10) (replicate (to.page - from.page) 12 ++ replicate (to.line - 1) 10)) ≤ 116
travel_by true from to line page = let is : length {A = ℕ} (replicate (to.line - from.line) 10) ≡ to.line - from.line = length-replicate (to.line - from.line) 10 in omega (arith, is, line)
travel_by false from to line page = let is = feeds (to.page - from.page) (to.line - 1) in omega (arith, is, line, page)

way_by : (b : Bool) (from to : Position) → to.line ≤ 112 → to.page ≤ from.page + 4 → length {A = ℕ} (cond b (13 ∷ []) (travel from to)) ≤ 116
way_by true from to line page = omega arith
way_by false from to line page = travel_by (eqb to.page from.page) from to line page

-- at most four form feeds and 111 line feeds
pub way_short : (previous : Option Position) (to : Position) → IsUpTo (page_or_1 previous + 4) to → length (way previous to) ≤ 116
way_short None to up = travel_by (eqb to.page 1) top_of_paper to up.line up.page
way_short (Some from) to up = way_by (eqb to.page from.page && eqb to.line from.line) from to up.line up.page
