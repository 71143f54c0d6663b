-- One line on the paper, wherever the lines before it ended.
use Rattle.std.proofs.Common.{◌≡◌, ℕ, ◌+◌, ◌-◌, Bool, true, false, not, cond, ◌&&◌, ◌||◌, nat_le, nat_lt, ◌==◌, eqb, eqb-true, eq-eqb, ne_eqb, add-zero, List, [], ◌∷◌, ◌++◌, Option, Some, refl, sym, ap, ◌∙◌, subst, add_assoc, append_assoc, append-nil}
use Rattle.std.proofs.Math.Nat.{add_left_cancel}
use Rattle.std.specs.Ordering.{nat_cmp}
use Rattle.rpg_paper.proofs.Papers.{way_is}
use Rattle.rpg_paper.specs.Form.{Standing, StandsAt, line_of, page_or_1, way_of}
use Rattle.rpg_paper.specs.Paper.{Position, passes_overflow, reaches_overflow, skip_turns_on, skipped, space_turns_on, spaced, way}
use Rattle.rpg_paper.specs.declared.form.Page.{Page}
use Rattle.rpg_paper.specs.Form.{trimmed}
use Rattle.rpg_program.proofs.Putting.{quiet_done, then_done}
use Rattle.rpg_program.specs.Effect.{Leaves}
use Rattle.rpg_program.specs.Lines.{after_skip, after_skip_to, after_space, spaced_after, spaced_before, after_movement, printed_line, put_on}
use Rattle.rpg_program.specs.Put.{Bytes, Held, IsDone, IsLeft, on_paper}
use Rattle.rpg_program.specs.Ends.{Continues}
use Rattle.rpg_program.specs.World.{World}
use Rattle.rpg_program.specs.declared.line.File.TheVariants.{Printer, Disk}
use Rattle.rpg_program.specs.declared.line.Spacing.{Spacing}
use Rattle.rpg_program.specs.declared.rows.Overflow.{Overflow}

-- so many pages on
abbrev pub on : ℕ → Position → Position
on k p = record { page = k + p.page; line = p.line }

on_by : (k : ℕ) (b : Bool) (page line other : ℕ) →
    cond {A = Position} b (record { page = k + page; line = line }) (record { page = k + page + 1; line = other })
    ≡ on k (cond {A = Position} b (record { page = page; line = line }) (record { page = page + 1; line = other }))
on_by k true page line other = refl
on_by k false page line other = ap (λ n. record { page = n; line = other }) (add_assoc k page 1)

spaced_on : (page : Page) (k n : ℕ) (p : Position) → spaced page n (on k p) ≡ on k (spaced page n p)
spaced_on page k n p = on_by k (n == 0 || nat_le (p.line + n) page.lines) p.page (p.line + n) (p.line + n - page.lines)

skipped_on : (k line : ℕ) (p : Position) → skipped line (on k p) ≡ on k (skipped line p)
skipped_on k line p = on_by k (nat_le p.line line) p.page line line

same_by : (k a b : ℕ) (t : Bool) → eqb a b ≡ t → eqb (k + a) (k + b) ≡ t
same_by k a b true h = eq-eqb (k + a) (k + b) (ap (λ n. k + n) (eqb-true a b h))
same_by k a b false h = ne_eqb (k + a) (k + b) (λ e. let is : eqb a b ≡ true = eq-eqb a b (add_left_cancel k e) in cc)

same_page : (k a b : ℕ) → eqb (k + a) (k + b) ≡ eqb a b
same_page k a b = same_by k a b (eqb a b) refl

reaches_on : (page : Page) (k : ℕ) (from to : Position) → reaches_overflow page (on k from) (on k to) ≡ reaches_overflow page from to
reaches_on page k from to = ap (λ b. b && nat_lt from.line to.line && nat_le page.overflow_line to.line) (same_page k to.page from.page)

passes_on : (page : Page) (k : ℕ) (from to : Position) → passes_overflow page (on k from) (on k to) ≡ passes_overflow page from to
passes_on page k from to = ap (λ b. not b && nat_lt from.line page.overflow_line) (same_page k to.page from.page)

space_turns : (page : Page) (k n : ℕ) (p : Position) → space_turns_on page n (on k p) ≡ space_turns_on page n p
space_turns page k n p =
    ap (λ (to : Position). reaches_overflow page (on k p) to || passes_overflow page (on k p) to) (spaced_on page k n p)
    ∙ (λ i. reaches_on page k p (spaced page n p) i || passes_on page k p (spaced page n p) i)

skip_turns : (page : Page) (k line : ℕ) (p : Position) → skip_turns_on page line (on k p) ≡ skip_turns_on page line p
skip_turns page k line p = ap (λ (to : Position). reaches_overflow page (on k p) to) (skipped_on k line p) ∙ reaches_on page k p (skipped line p)

module _ (overflow : Overflow) (previous : Option Position) where
  -- a movement is the same wherever the lines before ended
  moved_on : (b c : Bool) (to too : Position) (w : World nat_cmp) → c ≡ b → too ≡ on (page_or_1 previous) to →
      after_movement overflow.indicator c too (on_paper previous w) ≡ on_paper previous (after_movement overflow.indicator b to w)
  unfolding after_movement
  moved_on true c to too w e h = λ i. after_movement overflow.indicator (e i) (h i) (on_paper previous w)
  moved_on false c to too w e h = λ i. after_movement overflow.indicator (e i) (h i) (on_paper previous w)

  space_on : (n : ℕ) (w : World nat_cmp) → after_space overflow n (on_paper previous w) ≡ on_paper previous (after_space overflow n w)
  space_on n w =
      moved_on _ _ _ _ w (space_turns overflow.page (page_or_1 previous) n w.paper.here) (spaced_on overflow.page (page_or_1 previous) n w.paper.here)

  skip_by : (b : Bool) (line : ℕ) (w : World nat_cmp) →
      cond b (on_paper previous w) (after_skip_to overflow line (on_paper previous w)) ≡ on_paper previous (cond b w (after_skip_to overflow line w))
  skip_by true line w = refl
  skip_by false line w =
      moved_on _ _ _ _ w (skip_turns overflow.page (page_or_1 previous) line w.paper.here) (skipped_on (page_or_1 previous) line w.paper.here)

  skip_on : (line : ℕ) (w : World nat_cmp) → after_skip overflow line (on_paper previous w) ≡ on_paper previous (after_skip overflow line w)
  skip_on line w = skip_by (line == 0) line w

  pub before_on : (s : Spacing) (w : World nat_cmp) → spaced_before overflow s (on_paper previous w) ≡ on_paper previous (spaced_before overflow s w)
  before_on s w = ap (after_space overflow s.space_before) (skip_on s.skip_before w) ∙ space_on s.space_before (after_skip overflow s.skip_before w)

  pub after_on : (s : Spacing) (w : World nat_cmp) → spaced_after overflow s (on_paper previous w) ≡ on_paper previous (spaced_after overflow s w)
  after_on s w = ap (after_space overflow s.space_after) (skip_on s.skip_after w) ∙ space_on s.space_after (after_skip overflow s.skip_after w)

-- the world when a line was placed: pages are counted from it
abbrev pub from_line : World nat_cmp → World nat_cmp
from_line w = record w { paper = record w.paper { here = record { page = 0; line = w.paper.here.line } } }

-- the form in front of a line
abbrev pub form_of : Option ℕ → World nat_cmp → Standing
form_of last w = record { last = last; begun = w.paper.here.page; line = w.paper.here.line }

bytes_are : (p q : Bytes) → p.print ≡ q.print → p.disk ≡ q.disk → p ≡ q
bytes_are p q h g = ap (λ x. record { print = x; disk = p.disk }) h ∙ ap (λ x. record { print = q.print; disk = x }) g

-- the line placed where the form stands
placed_left : (previous : Option Position) (last : Option ℕ) (w : World nat_cmp) (text : List ℕ) (p o : Bytes) (v : Held) → last ≡ line_of previous →
    v.world ≡ from_line w → v.last ≡ Some w.paper.here.line → o.print ≡ p.print ++ way_of (form_of last w) ++ trimmed text → o.disk ≡ p.disk →
    IsLeft previous (printed_line (on_paper previous w) text) p Continues v o
placed_left previous last w text p o v l h k b d =
    let here : Position = on (page_or_1 previous) w.paper.here in
    let stands : StandsAt (form_of last w) previous here = record { last_line = l; page = refl; present_line = refl } in
    record {
      ending = refl;
      world = ap (on_paper (Some here)) h ∙ ap (λ (n : ℕ). record w { paper = record w.paper { here = record { page = n; line = w.paper.here.line } } }) (add-zero here.page);
      last = k;
      bytes = bytes_are _ _
          (b ∙ ap (λ z. p.print ++ z ++ trimmed text) (sym (way_is (form_of last w) previous here stands))
          ∙ append_assoc p.print (way previous here) (trimmed text) ∙ ap (λ z. p.print ++ z) (sym (append-nil (way previous here ++ trimmed text))))
          (d ∙ sym (append-nil p.disk));
    }

-- a line printed: the form moves, its way and its text are appended, and the form moves on
pub print_done : (overflow : Overflow) (s : Spacing) (text : List ℕ) (w u v : Held) (p o : Bytes) →
    u.world ≡ from_line (spaced_before overflow s w.world) → u.last ≡ Some (spaced_before overflow s w.world).paper.here.line →
    v.world ≡ spaced_after overflow s u.world → v.last ≡ u.last →
    o.print ≡ p.print ++ way_of (form_of w.last (spaced_before overflow s w.world)) ++ trimmed text → o.disk ≡ p.disk →
    IsDone (put_on overflow Printer s text) w p Continues v o
unfolding put_on
print_done overflow s text w u v p o h k i l b d =
    let before = spaced_before overflow s w.world in
    let placed : IsDone (λ x. printed_line (spaced_before overflow s x) text) w p Continues u o = record {
      following = λ previous e. subst (λ (x : World nat_cmp). IsLeft previous (printed_line x text) p Continues u o) (sym (before_on overflow previous s w.world))
          (placed_left previous w.last before text p o u e h k b d);
    } in
    let moved : IsDone (λ x. Leaves (spaced_after overflow s x)) u o Continues v o =
    quiet_done (spaced_after overflow s) Continues u v o l (λ previous. ap (on_paper previous) i ∙ sym (after_on overflow previous s u.world)) in
    then_done (λ x. printed_line (spaced_before overflow s x) text) (λ x. Leaves (spaced_after overflow s x)) w u v p o o Continues placed moved

-- a record written
pub record_done : (overflow : Overflow) (s : Spacing) (text : List ℕ) (w : Held) (p o : Bytes) → o.print ≡ p.print → o.disk ≡ (p.disk ++ text) ++ 10 ∷ [] →
    IsDone (put_on overflow Disk s text) w p Continues w o
unfolding put_on
record_done overflow s text w p o h d = record {
  following = λ previous e. record {
    ending = refl;
    world = refl;
    last = e;
    bytes = bytes_are _ _ (h ∙ sym (append-nil p.print)) (d ∙ append_assoc p.disk text (10 ∷ []));
  };
}
