use Rattle.std.proofs.Common.{◌≡◌, ℕ, ◌+◌, ◌*◌, ◌<◌, ◌≤◌, Bool, true, false, cond, leb, subst, refl, arith}
use Rattle.std.proofs.Math.Nat.{lt_of_mul-lt-mul_right, mul-le-mul_right}
use Rattle.std.proofs.lemmas.Bool.{leb-false}
use Rattle.rpg_paper.specs.Paper.{Position, lines_to}
use Rattle.rpg_paper.specs.declared.form.Page.{Page}
use Rattle.rpg_paper.proofs.laws.skips_lead_to_the_next_such_line.Goals as goal

-- a line that isn't before another is on its page or a later one
same_page : (n a b line other : ℕ) → other ≤ n → 1 ≤ line → a * n + line ≤ b * n + other → a * n ≤ b * n
same_page n a b line other w f h =
    let k : a < b + 1 = lt_of_mul-lt-mul_right n (omega arith) in
    mul-le-mul_right n (omega arith)

-- and on a later one if its number is less
next_page : (n a b line other : ℕ) → other < line → a * n + line ≤ b * n + other → (a + 1) * n ≤ b * n
next_page n a b line other l h =
    let k : a < b = lt_of_mul-lt-mul_right n (omega arith) in
    mul-le-mul_right n (omega arith)

first : (page : Page) (line : ℕ) (p q : Position) → line ≤ page.lines → 1 ≤ p.line → q.line ≡ line → lines_to page p ≤ lines_to page q → (b : Bool) → leb p.line line ≡ b →
    lines_to page (cond {A = Position} b (record { page = p.page; line = line }) (record { page = p.page + 1; line = line })) ≤ lines_to page q
first page line p q w f e h true t = omega (arith, same_page page.lines p.page q.page p.line line w f (subst (λ n. lines_to page p ≤ q.page * page.lines + n) e h))
first page line p q w f e h false t = omega (arith, next_page page.lines p.page q.page p.line line (leb-false _ _ t) (subst (λ n. lines_to page p ≤ q.page * page.lines + n) e h))

pub returns-clause-first : goal.returns-clause-first
returns-clause-first c = λ page line p q w f e h. first page line p q w f e h _ refl
